-- The sign that ends what `eval` evaluates.
use Rattle.std.proofs.Common.{◌≡◌, true, false, Option, None, refl}
use Rattle.pj_lex.specs.declared.sign.Sign.TheVariants as signs
use Rattle.pj_lex.specs.declared.token.TokenKind.{TokenKind}
use Rattle.pj_lex.specs.declared.token.TokenKind.TheVariants as kinds
use Rattle.pj_grammar.specs.Closing.{is_close}
use Rattle.pj_grammar.specs.Frames.{State}
use Rattle.pj_grammar.specs.Machine.{expect_sign}

pub close_on : (t : TokenKind) (s : Option State) → is_close t ≡ true → expect_sign signs.RightParen t s ≡ s
close_on (kinds.Sign signs.RightParen) s e = refl
close_on (kinds.Sign o) s e = absurd (cc)
close_on _ s e = absurd (cc)

pub close_off : (t : TokenKind) (s : Option State) → is_close t ≡ false → expect_sign signs.RightParen t s ≡ None
close_off (kinds.Sign signs.RightParen) s e = absurd (cc)
close_off (kinds.Sign o) s e = refl
close_off _ s e = refl
