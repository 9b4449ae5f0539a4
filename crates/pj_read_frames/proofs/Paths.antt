-- How deep a call of names nests.
use Rattle.std.proofs.Common.{◌≡◌, List, [], ◌∷◌, refl}
use Rattle.pj_syntax.specs.declared.expression.Path.{Path}
use Rattle.pj_grammar.specs.declared.mode.Head.TheVariants as heads
use Rattle.pj_grammar.specs.Frames.{node}
use Rattle.pj_grammar.specs.Makers.{argument_before, call_of, name_of, no_arguments, paths_given}

paths_nest : (p : Path) (ps : List Path) → (paths_given (p ∷ ps)).nesting ≡ 1
unfolding paths_given argument_before name_of no_arguments
paths_nest p [] = refl
paths_nest p (q ∷ qs) = rw (paths_nest q qs) refl

pub call_nests_one : (f : Path) (ps : List Path) → ps ≡ [] → 1 ≡ (node (heads.Call f ps)).nesting
unfolding call_of paths_given no_arguments
call_nests_one f [] e = refl
call_nests_one f (p ∷ ps) e = absurd (cc)

pub call_nests_two : (f : Path) (ps : List Path) → (ps ≡ [] → ⊥) → 2 ≡ (node (heads.Call f ps)).nesting
unfolding call_of
call_nests_two f [] e = absurd (e refl)
call_nests_two f (p ∷ ps) e = rw (paths_nest p ps) refl
