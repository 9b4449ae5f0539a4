-- Assignments by what stands on top: to a name where that is evaluated and elsewhere, and where nothing can be assigned.
use Rattle.std.proofs.Common.{◌≡◌, ℕ, true, false, List, ◌∷◌, Option, None, Some, refl, ap}
use Rattle.pj_lex.specs.declared.sign.Sign.{Sign}
use Rattle.pj_syntax.specs.declared.expression.Spot.{Spot}
use Rattle.pj_grammar.specs.declared.frame.Frame.{Frame}
use Rattle.pj_grammar.specs.declared.frame.Frame.TheVariants as frames
use Rattle.pj_grammar.specs.declared.frame.Purpose.TheVariants as purposes
use Rattle.pj_grammar.specs.declared.frame.Target.TheVariants as targets
use Rattle.pj_grammar.specs.declared.mode.Head.{Head}
use Rattle.pj_grammar.specs.declared.mode.Head.TheVariants as heads
use Rattle.pj_grammar.specs.declared.mode.Mode.TheVariants as modes
use Rattle.pj_grammar.specs.Frames.{at, guarded}
use Rattle.pj_grammar.specs.Operands.{have_assign, is_plain}
use Rattle.pj_grammar.specs.Statements.{operator_at}
use Rattle.pj_read_frames.specs.Tops.{on_payload}
use Rattle.pj_read_operands.specs.Values.{below_value}

pub name_on : (x : Spot) (k : List Frame) (p : ℕ) (o : Option Sign) → on_payload k ≡ true
    → have_assign (heads.Name x) (frames.Hole purposes.Value ∷ k) p o ≡ guarded (is_plain o) (at modes.Want (frames.Hole (purposes.Assign (targets.Local x) None) ∷ k))
name_on x (frames.Payload m q ∷ k) p o e = refl
name_on x _ p o e = absurd (cc)

pub name_off : (x : Spot) (k : List Frame) (p : ℕ) (o : Option Sign) → on_payload k ≡ false
    → have_assign (heads.Name x) (frames.Hole purposes.Value ∷ k) p o ≡ at modes.Want (frames.Hole (purposes.Assign (targets.Local x) (operator_at p o)) ∷ k)
name_off x (frames.Payload m q ∷ k) p o e = absurd (cc)
name_off x _ p o e = refl

pub assign_at : (h : Head) (k b : List Frame) (p : ℕ) (o : Option Sign) → below_value k ≡ Some b
    → have_assign h k p o ≡ have_assign h (frames.Hole purposes.Value ∷ b) p o
assign_at h (frames.Hole purposes.Value ∷ k) b p o e =
    let i : k ≡ b = cc in
    ap (λ (x : List Frame). have_assign h (frames.Hole purposes.Value ∷ x) p o) i
assign_at h _ b p o e = absurd (cc)

pub assign_off : (h : Head) (k : List Frame) (p : ℕ) (o : Option Sign) → below_value k ≡ None → have_assign h k p o ≡ None
assign_off h (frames.Hole purposes.Value ∷ k) p o e = absurd (cc)
assign_off (heads.Name x) _ p o e = refl
assign_off (heads.Place a x) _ p o e = refl
assign_off (heads.Call f ps) _ p o e = refl
assign_off _ _ p o e = refl
