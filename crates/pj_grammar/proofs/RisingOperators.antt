-- Operators that end: the operand that is left stands over well stacked frames, and needs no less.
use Rattle.std.proofs.Common.{◌≡◌, ◌≤◌, arith, ℕ, Bool, true, false, List, [], ◌∷◌, if◌then◌else◌, Option, refl}
use Rattle.pj_grammar.specs.declared.level.Level.{Level}
use Rattle.pj_grammar.specs.declared.level.Level.TheVariants as levels
use Rattle.pj_grammar.specs.declared.frame.Frame.{Frame}
use Rattle.pj_grammar.specs.declared.frame.Frame.TheVariants as frames
use Rattle.pj_grammar.specs.declared.mode.Head.{Head}
use Rattle.pj_grammar.specs.declared.mode.Head.TheVariants as heads
use Rattle.pj_grammar.specs.Frames.{Settled, State, guarded, node, settle}
use Rattle.pj_grammar.specs.Levels.{fits}
use Rattle.pj_grammar.specs.Makers.{conditional_of, infix_of, prefix_of}
use Rattle.pj_grammar.specs.Need.{depth, need_at}
use Rattle.pj_grammar.proofs.Stacks.{Rise, Stack}

pub record Ended (n : ℕ) (s : Settled) : Type 0 where
  pub stack : Stack s.frames
  pub some : 1 ≤ (node s.head).nesting
  pub rises : n ≤ need_at (node s.head).nesting (depth s.frames)

choose : (P : Settled → Type 0) (b : Bool) (x y : Settled) → P x → P y → P (if b then x else y)
choose P true x y f e = f
choose P false x y f e = e

pub guard-rises : (n : ℕ) (b : Bool) (s : Option State) → (b ≡ true → Rise n s) → Rise n (guarded b s)
guard-rises n true s f = f refl
guard-rises n false s f = tt

pub ended : (n : ℕ) (l : Level) (h : Head) (k : List Frame) → Stack k → 1 ≤ (node h).nesting → n ≤ need_at (node h).nesting (depth k)
    → Ended n (settle l h k)
unfolding settle depth prefix_of infix_of conditional_of
ended n l h [] s o r = record { stack = s; some = o; rises = r }
ended n l h (frames.Prefix op ∷ k) s o r = ended n l (heads.Plain (prefix_of op (node h))) k s.1 (grind arith) (grind arith)
ended n l h (frames.Infix m a op ∷ k) s o r =
    choose (λ x. Ended n x) (fits l m) _ _
    (ended n l (heads.Plain (infix_of a op (node h))) k s.1 (grind arith) (grind arith))
    (record { stack = s; some = o; rises = r })
ended n l h (frames.Else c a ∷ k) s o r =
    choose (λ x. Ended n x) (fits l levels.Conditional) _ _
    (ended n l (heads.Plain (conditional_of c a (node h))) k s.1 (grind arith) (grind arith))
    (record { stack = s; some = o; rises = r })
ended n l h (f ∷ k) s o r = record { stack = s; some = o; rises = r }
