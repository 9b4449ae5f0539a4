-- The tokens of a text as its grammar writes them: what a token is, and where it stands.
use Rattle.std.specs.Prelude.{ℕ, Bool, List}
use Rattle.pj_words.specs.declared.word.Word.{Word}
use Rattle.pj_lex.specs.declared.sign.Sign.{Sign}
use Rattle.pj_lex.specs.declared.token.TokenKind.{TokenKind}
use Rattle.pj_lex.specs.declared.token.TokenKind.TheVariants as kinds
use Rattle.pj_lex.specs.declared.token.Token.{Token}
use Rattle.pj_syntax.specs.declared.expression.Spot.{Spot}

-- where a token stands, and whether blank space stands directly before it
pub record Place : Type 0 where
  pub start : ℕ
  pub end : ℕ
  pub blank : Bool

abbrev pub token : Place → TokenKind → Token
token p kind = record { what = kind; start = p.start; end = p.end; blank = p.blank }

abbrev pub place : Token → Place
place t = record { start = t.start; end = t.end; blank = t.blank }

abbrev pub sign : Place → Sign → Token
sign p s = token p (kinds.Sign s)

abbrev pub word : Place → Word → Token
word p w = token p (kinds.Reserved w)

abbrev pub name : Place → List ℕ → Token
name p x = token p (kinds.Name x)

abbrev pub separator : Place → Token
separator p = token p kinds.Separator

-- a name and its place
abbrev pub spot : Place → List ℕ → Spot
spot p x = record { text = x; at = p.start }
