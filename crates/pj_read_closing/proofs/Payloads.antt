-- What ends on top of what asks to evaluate it, and elsewhere.
use Rattle.std.proofs.Common.{◌≡◌, true, false, List, ◌∷◌, Option, None, refl}
use Rattle.pj_lex.specs.declared.sign.Sign.TheVariants as signs
use Rattle.pj_lex.specs.declared.token.TokenKind.{TokenKind}
use Rattle.pj_lex.specs.declared.token.TokenKind.TheVariants as kinds
use Rattle.pj_syntax.specs.declared.expression.Spot.{Spot}
use Rattle.pj_grammar.specs.declared.mode.Mode.TheVariants as modes
use Rattle.pj_grammar.specs.declared.node.Line.{Line}
use Rattle.pj_grammar.specs.Frames.{at}
use Rattle.pj_grammar.specs.declared.frame.Frame.{Frame}
use Rattle.pj_grammar.specs.declared.frame.Frame.TheVariants as frames
use Rattle.pj_grammar.specs.declared.frame.Target.TheVariants as targets
use Rattle.pj_grammar.specs.declared.level.Operator.{Operator}
use Rattle.pj_grammar.specs.declared.node.Node.{Node}
use Rattle.pj_grammar.specs.Closing.{after_end_at, closed_entry, closed_evaluated, closed_line, closed_method, closed_set, closed_value, is_close}
use Rattle.pj_grammar.specs.Makers.{Method, assign_of, method_defined, method_evaluated, set_evaluated, value_evaluated, value_of}
use Rattle.pj_read_frames.specs.Tops.{on_payload}

pub method_on : (f : Method) (k : List Frame) → on_payload k ≡ true → closed_method f k ≡ closed_evaluated (method_evaluated f) k
method_on f (frames.Payload m q ∷ k) e = refl
method_on f _ e = absurd (cc)

pub method_off : (f : Method) (k : List Frame) → on_payload k ≡ false → closed_method f k ≡ closed_entry (method_defined f) k
method_off f (frames.Payload m q ∷ k) e = absurd (cc)
method_off f _ e = refl

pub value_on : (v : Node) (k : List Frame) → on_payload k ≡ true → closed_value v k ≡ closed_evaluated (value_evaluated v) k
value_on v (frames.Payload m q ∷ k) e = refl
value_on v _ e = absurd (cc)

pub value_off : (v : Node) (k : List Frame) → on_payload k ≡ false → closed_value v k ≡ closed_line (value_of v) k
value_off v (frames.Payload m q ∷ k) e = absurd (cc)
value_off v _ e = refl

pub set_on : (x : Spot) (o : Option Operator) (v : Node) (k : List Frame) → on_payload k ≡ true
    → closed_set (targets.Local x) o v k ≡ closed_evaluated (set_evaluated x v) k
set_on x o v (frames.Payload m q ∷ k) e = refl
set_on x o v _ e = absurd (cc)

pub set_off : (x : Spot) (o : Option Operator) (v : Node) (k : List Frame) → on_payload k ≡ false
    → closed_set (targets.Local x) o v k ≡ closed_line (assign_of (targets.Local x) o v) k
set_off x o v (frames.Payload m q ∷ k) e = absurd (cc)
set_off x o v _ e = refl

pub close_on : (s : Line) (k : List Frame) (t : TokenKind) → is_close t ≡ true → after_end_at (modes.PayloadEnd s) k t ≡ at (modes.EvalEnd s) k
close_on s k (kinds.Sign signs.RightParen) e = refl
close_on s k (kinds.Sign o) e = absurd (cc)
close_on s k _ e = absurd (cc)

pub close_off : (s : Line) (k : List Frame) (t : TokenKind) → is_close t ≡ false → after_end_at (modes.PayloadEnd s) k t ≡ None
close_off s k (kinds.Sign signs.RightParen) e = absurd (cc)
close_off s k (kinds.Sign o) e = refl
close_off s k _ e = refl
