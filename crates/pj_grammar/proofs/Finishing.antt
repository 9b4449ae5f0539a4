-- The ends of a condition's first branch and of a group, and a dot behind an operand, keep what has been read.
use Rattle.std.proofs.Common.{◌≡◌, ℕ, Bool, List, [], ◌∷◌, ◌++◌, refl, sym, ap, ◌∙◌}
use Rattle.std.proofs.lemmas.List.{append_assoc}
use Rattle.pj_lex.specs.declared.sign.Sign.TheVariants as signs
use Rattle.pj_lex.specs.declared.token.Token.{Token}
use Rattle.pj_grammar.specs.declared.level.Level.TheVariants as levels
use Rattle.pj_grammar.specs.declared.node.Node.{Node}
use Rattle.pj_grammar.specs.declared.frame.Frame.{Frame}
use Rattle.pj_grammar.specs.declared.frame.Frame.TheVariants as frames
use Rattle.pj_grammar.specs.declared.mode.Head.{Head}
use Rattle.pj_grammar.specs.declared.mode.Head.TheVariants as heads
use Rattle.pj_grammar.specs.declared.mode.Mode.TheVariants as modes
use Rattle.pj_grammar.specs.Expressions.{Reads, group, tighter}
use Rattle.pj_grammar.specs.Frames.{at, node}
use Rattle.pj_grammar.specs.Makers.{group_of}
use Rattle.pj_grammar.specs.Modules.{Modules}
use Rattle.pj_grammar.specs.Texts.{Kind}
use Rattle.pj_grammar.specs.Tokens.{Place, sign}
use Rattle.pj_grammar.proofs.Begun.{Under, else_begun, group_begun, then_begun, under}
use Rattle.pj_grammar.proofs.Calling.{fields-two}
use Rattle.pj_grammar.proofs.Operating.{stands-text}
use Rattle.pj_grammar.proofs.Settling.{opens-more}
use Rattle.pj_grammar.proofs.Standing.{Stands, an_expression, bare_at, has_operand, over_frames}

-- the text of a frame that has a sign at its end, of an operand, and of a sign
behind-sign : (b cs ms : List Token) (q t : Token) → b ++ (cs ++ q ∷ (ms ++ t ∷ [])) ≡ b ++ (cs ++ q ∷ []) ++ ms ++ t ∷ []
behind-sign b cs ms q t =
    ap (λ x. b ++ x) (sym (append_assoc cs (q ∷ []) (ms ++ t ∷ [])))
    ∙ sym (append_assoc b (cs ++ q ∷ []) (ms ++ t ∷ []))
    ∙ sym (append_assoc (b ++ (cs ++ q ∷ [])) ms (t ∷ []))

-- `:` behind `c ? a`
pub colon-stands : (modules : Modules) (kind : Kind) (c : Node) (h : Head) (k : List Frame) (before mine : List Token) (p : Place)
    → Under modules kind (frames.Then c ∷ k) before → Reads modules levels.Conditional mine (node h)
    → Stands modules kind (at modes.Want (frames.Else c (node h) ∷ k)) (before ++ mine ++ sign p signs.Colon ∷ [])
colon-stands modules kind c h k before mine p (under {before = b} u o (then_begun {ts = cs} q adm d)) e =
    stands-text modules kind (at modes.Want (frames.Else c (node h) ∷ k)) (b ++ (cs ++ sign q signs.Question ∷ (mine ++ sign p signs.Colon ∷ []))) _
    (behind-sign b cs mine (sign q signs.Question) (sign p signs.Colon))
    (bare_at refl (under u (opens-more modules k (cs ++ sign q signs.Question ∷ []) (mine ++ sign p signs.Colon ∷ []) _ o (append_assoc cs (sign q signs.Question ∷ []) _))
    (else_begun q p adm d e)))

-- `)` behind a group's expression
pub group-stands : (modules : Modules) (kind : Kind) (a : ℕ) (types : Bool) (h : Head) (k : List Frame) (before mine : List Token) (p : Place)
    → Under modules kind (frames.Group a types ∷ k) before → Reads modules levels.Conditional mine (node h)
    → Stands modules kind (at (modes.Have (heads.Plain (group_of a (node h)))) k) (before ++ mine ++ sign p signs.RightParen ∷ [])
group-stands modules kind a types h k before mine p (under {before = b} u o (group_begun q adm is)) d =
    stands-text modules kind (at (modes.Have (heads.Plain (group_of q.start (node h)))) k) (b ++ (sign q signs.LeftParen ∷ (mine ++ sign p signs.RightParen ∷ []))) _
    (behind-sign b [] mine (sign q signs.LeftParen) (sign p signs.RightParen))
    (over_frames u (opens-more modules k (sign q signs.LeftParen ∷ []) (mine ++ sign p signs.RightParen ∷ []) _ o refl)
    (has_operand (an_expression adm (fields-two modules [] mine [] (sign q signs.LeftParen) (sign p signs.RightParen)) (tighter refl (group q p d)))))
