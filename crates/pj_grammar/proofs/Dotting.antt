-- A dot behind an operand, and a field's name behind it, keep what has been read.
use Rattle.std.proofs.Common.{◌≡◌, ℕ, true, List, [], ◌∷◌, ◌++◌}
use Rattle.std.proofs.lemmas.List.{append_assoc}
use Rattle.pj_lex.specs.declared.sign.Sign.TheVariants as signs
use Rattle.pj_lex.specs.declared.token.Token.{Token}
use Rattle.pj_grammar.specs.declared.level.Level.TheVariants as levels
use Rattle.pj_grammar.specs.declared.node.Node.{Node}
use Rattle.pj_grammar.specs.declared.frame.Frame.{Frame}
use Rattle.pj_grammar.specs.declared.mode.Head.TheVariants as heads
use Rattle.pj_grammar.specs.declared.mode.Mode.TheVariants as modes
use Rattle.pj_grammar.specs.Expressions.{Reads, field, has_fields}
use Rattle.pj_grammar.specs.Frames.{admits, at}
use Rattle.pj_grammar.specs.Makers.{field_of}
use Rattle.pj_grammar.specs.Modules.{Modules}
use Rattle.pj_grammar.specs.Statements.{Holder}
use Rattle.pj_grammar.specs.Texts.{Kind}
use Rattle.pj_grammar.specs.Tokens.{Place, name, sign, spot}
use Rattle.pj_grammar.proofs.Begun.{Opens, Under}
use Rattle.pj_grammar.proofs.Holding.{fields-of-more}
use Rattle.pj_grammar.proofs.Settling.{opens-more}
use Rattle.pj_grammar.proofs.Standing.{Stands, a_place, an_expression, has_operand, over_frames}

-- a field's name, behind what can be assigned and behind any other operand
pub place-stands : (modules : Modules) (kind : Kind) (e : Node) (k : List Frame) (before ts : List Token) (p q : Place) (x : List ℕ)
    → Under modules kind k before → Opens modules k (ts ++ sign p signs.Dot ∷ []) → admits k levels.Postfix ≡ true → Holder modules ts e
    → Stands modules kind (at (modes.Have (heads.Place e (spot q x))) k) (before ++ (ts ++ sign p signs.Dot ∷ name q x ∷ []))
place-stands modules kind e k before ts p q x u o adm d =
    over_frames u (opens-more modules k (ts ++ sign p signs.Dot ∷ []) (name q x ∷ []) _ o (append_assoc ts (sign p signs.Dot ∷ []) (name q x ∷ [])))
    (has_operand (a_place p q x d adm))

pub field-stands : (modules : Modules) (kind : Kind) (e : Node) (k : List Frame) (before ts : List Token) (p q : Place) (x : List ℕ)
    → Under modules kind k before → Opens modules k (ts ++ sign p signs.Dot ∷ []) → admits k levels.Postfix ≡ true → has_fields modules ts ≡ true
    → Reads modules levels.Postfix ts e
    → Stands modules kind (at (modes.Have (heads.Plain (field_of e (spot q x)))) k) (before ++ (ts ++ sign p signs.Dot ∷ name q x ∷ []))
field-stands modules kind e k before ts p q x u o adm fields d =
    over_frames u (opens-more modules k (ts ++ sign p signs.Dot ∷ []) (name q x ∷ []) _ o (append_assoc ts (sign p signs.Dot ∷ []) (name q x ∷ [])))
    (has_operand (an_expression adm (fields-of-more modules ts (sign p signs.Dot) (name q x)) (field p q x fields d)))
