-- How arguments add up.
use Rattle.std.proofs.Common.{◌≡◌, arith, ℕ, max, List, [], ◌∷◌, ◌++◌, refl, sym, ap, ◌∙◌}
use Rattle.std.proofs.lemmas.List.{append_assoc, append-nil}
use Rattle.std.proofs.Math.Nat.{max-zero, zero-max}
use Rattle.pj_syntax.specs.declared.expression.Argument.{Argument}
use Rattle.pj_syntax.specs.declared.expression.Path.{Path}
use Rattle.pj_syntax.specs.declared.expression.Path.TheVariants as paths
use Rattle.pj_grammar.specs.declared.node.Node.{Node}
use Rattle.pj_grammar.specs.declared.node.Arguments.{Arguments}
use Rattle.pj_grammar.specs.declared.frame.Given.{Given}
use Rattle.pj_grammar.specs.declared.frame.Given.TheVariants as given
use Rattle.pj_grammar.specs.declared.mode.Head.{Head}
use Rattle.pj_grammar.specs.declared.mode.Head.TheVariants as heads
use Rattle.pj_grammar.specs.Frames.{give, node}
use Rattle.pj_grammar.specs.Makers.{argument_after, argument_before, name_of, no_arguments, paths_given}

abbrev pub arguments : List Argument → ℕ → Arguments
arguments trees nesting = record { trees = trees; nesting = nesting }

same : {a b : List Argument} {n m : ℕ} → a ≡ b → n ≡ m → arguments a n ≡ arguments b m
same p q = cc

max-assoc : (a b c : ℕ) → max (max a b) c ≡ max a (max b c)
max-assoc a b c = grind arith

abbrev pub join : Arguments → Arguments → Arguments
join a b = arguments (a.trees ++ b.trees) (max a.nesting b.nesting)

pub join-none : (a : Arguments) → join a no_arguments ≡ a
unfolding no_arguments
join-none a = same (append-nil a.trees) (max-zero a.nesting)

pub none-join : (a : Arguments) → join no_arguments a ≡ a
unfolding no_arguments
none-join a = same refl (zero-max a.nesting)

pub join-after : (a b : Arguments) (e : Node) → join (argument_after a e) b ≡ join a (argument_before e b)
unfolding argument_after argument_before
join-after a b e = same (append_assoc a.trees _ b.trees) (max-assoc a.nesting e.nesting b.nesting)

abbrev pub given_arguments : Given → Arguments
given_arguments (given.Paths ps) = paths_given ps
given_arguments (given.Mixed es) = es

pub paths-after : (ps : List Path) (f : Path) → paths_given (ps ++ f ∷ []) ≡ argument_after (paths_given ps) (name_of f)
unfolding paths_given argument_after argument_before no_arguments
paths-after [] f = same refl (max-zero (name_of f).nesting ∙ sym (zero-max (name_of f).nesting))
paths-after (p ∷ ps) f =
    ap (argument_before (name_of p)) (paths-after ps f)
    ∙ same refl (sym (max-assoc (name_of p).nesting (paths_given ps).nesting (name_of f).nesting))

-- one more argument adds what its operand is
pub give-after : (g : Given) (h : Head) → given_arguments (give g h) ≡ argument_after (given_arguments g) (node h)
give-after (given.Paths ps) (heads.Name x) = paths-after ps (paths.Bare x)
give-after (given.Paths ps) (heads.Member m x) = paths-after ps (paths.Of m x)
give-after (given.Paths ps) (heads.Operator m x) = paths-after ps (paths.Of m x)
give-after (given.Paths ps) (heads.Place e x) = refl
give-after (given.Paths ps) (heads.Call f qs) = refl
give-after (given.Paths ps) (heads.Plain e) = refl
give-after (given.Mixed es) h = refl
