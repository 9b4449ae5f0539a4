-- A statement leaves the branches before `elseif` one by one.
use Rattle.std.proofs.Common.{◌≡◌, ◌<◌, true, false, List, ◌∷◌, Some, None, length, refl, sym, subst, arith, IfOk, Result, Ok, Err}
use Rattle.std.proofs.lemmas.Option.{none-some}
use Rattle.pj_grammar.specs.declared.node.Line.{Line}
use Rattle.pj_grammar.specs.declared.frame.Frame.{Frame}
use Rattle.pj_grammar.specs.declared.frame.Frame.TheVariants as frames
use Rattle.pj_grammar.specs.Closing.{closed_line}
use Rattle.pj_read_frames.specs.Tops.{on_branch}
use Rattle.pj_base.specs.declared.NoMemory.{NoMemory}
use Rattle.pj_read_closing.specs.Leaving.{Leaves, Within, branch_of, left, placed, within}
use Rattle.pj_read_closing.specs.declared.lines.Branching.{Branching}
use Rattle.pj_read_closing.specs.declared.lines.Standing.{Standing}

pub a_branch_stands : (k : List Frame) → on_branch k ≡ true → branch_of k ≡ None → ⊥
a_branch_stands (frames.Branch c ss ∷ k) e h = none-some _ (sym h)
a_branch_stands _ e h = absurd (cc)

on_goes_on : (s : Line) (k : List Frame) (b : Branching) → branch_of k ≡ Some b → closed_line (left s b).line (left s b).frames ≡ closed_line s k
unfolding closed_line
on_goes_on s (frames.Branch c ss ∷ k) b e = let same : b ≡ record { condition = c; before = ss; stack = k } = cc in rw same refl
on_goes_on s _ b e = absurd (none-some b e)

shorter : (s : Line) (k : List Frame) (b : Branching) → branch_of k ≡ Some b → length (left s b).frames < length k
shorter s (frames.Branch c ss ∷ k) b e = let same : b ≡ record { condition = c; before = ss; stack = k } = cc in rw same (omega arith)
shorter s _ b e = absurd (none-some b e)

pub branch_off : (s : Line) (k : List Frame) → on_branch k ≡ false → placed s k ≡ closed_line s k
unfolding closed_line
branch_off s (frames.Branch c ss ∷ k) e = absurd (cc)
branch_off s _ e = refl

pub one_left : (w v : Standing) → Leaves w v → closed_line v.line v.stack ≡ closed_line w.line w.stack
one_left w v l = subst (λ (x : Within). closed_line x.line x.frames ≡ closed_line w.line w.stack) (sym l.is) (on_goes_on w.line w.stack l.branch l.stood)

pub one_shorter : (w v : Standing) → Leaves w v → length v.stack < length w.stack
one_shorter w v l = subst (λ (x : Within). length x.frames < length w.stack) (sym l.is) (shorter w.line w.stack l.branch l.stood)

pub leaves : (x : Result Standing NoMemory) (w : Standing) (b : Branching) → branch_of w.stack ≡ Some b → IfOk x (λ made. within made ≡ left w.line b)
    → IfOk x (λ made. Leaves w made)
leaves (Ok v) w b stood is = record { branch = b; stood = stood; is = is }
leaves (Err e) w b stood is = tt
