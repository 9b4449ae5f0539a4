-- From the characters of a text to its bytes.
use Rattle.std.proofs.Common.{◌≡◌, ℕ, List, Result, Ok, Err, IfOk, IfErr, subst, length}
use Rattle.std.specs.List.{AllByRecursion}
use Rattle.std.specs.Str.{IsUtf8, chars}
use Rattle.pj_lex.specs.declared.fault.SyntaxFault.{SyntaxFault}
use Rattle.pj_lex.specs.declared.fault.SyntaxFault.TheVariants.{Syntax, NoMemory}
use Rattle.pj_lex.specs.declared.fault.SyntaxKind.TheVariants as faults
use Rattle.pj_lex.specs.declared.token.Token.{Token}
use Rattle.pj_lex.specs.Before.{start}
use Rattle.pj_lex.specs.Characters.{width}
use Rattle.pj_lex.specs.Lexed.{Faulty, InOrder, IsFault, IsSyntax, IsTokens, Lexed}
use Rattle.pj_lex.specs.Refused.{IsTokenFault}
use Rattle.pj_lex.specs.Spelled.{IsSpelled}
use Rattle.pj_lex.proofs.SpelledLaw.{spelled_text}
use Rattle.pj_lex.proofs.Determined.{one_list, never_both}

module _ (bytes cs : List ℕ) (utf8 : IsUtf8 bytes) (are : cs ≡ chars bytes) where
  is_lexed : (tokens : List Token) → Lexed start 0 cs tokens → Lexed start 0 (chars bytes) tokens
  is_lexed tokens d = subst (λ x. Lexed start 0 x tokens) are d

  pub lexed : (r : Result (List Token) SyntaxFault) → IfOk r (Lexed start 0 cs) → IfOk r (IsTokens bytes)
  lexed (Ok tokens) d = (utf8, is_lexed tokens d)
  lexed (Err fault) d = tt

  pub only : (r : Result (List Token) SyntaxFault) → IfOk r (Lexed start 0 cs) → IfOk r (λ tokens. (others : List Token) → IsTokens bytes others → others ≡ tokens)
  only (Ok tokens) d = λ others other. one_list other.1 (is_lexed tokens d)
  only (Err fault) d = tt

  pub spelled : (r : Result (List Token) SyntaxFault) → IfOk r (Lexed start 0 cs) → IfOk r (AllByRecursion (IsSpelled bytes))
  spelled (Ok tokens) d = spelled_text bytes utf8 tokens (is_lexed tokens d)
  spelled (Err fault) d = tt

  pub cover : (r : Result (List Token) SyntaxFault) → width cs ≡ length bytes → IfOk r (InOrder 0 (width cs)) → IfOk r (InOrder 0 (length bytes))
  cover (Ok tokens) e d = subst (λ n. InOrder 0 n tokens) e d
  cover (Err fault) e d = tt

  pub fault : (r : Result (List Token) SyntaxFault) → IfErr r (IsTokenFault cs) → IfErr r (IsFault bytes)
  fault (Ok tokens) d = tt
  fault (Err NoMemory) d = tt
  fault (Err (Syntax place faults.Token)) d = (utf8, subst (λ x. Faulty start 0 x place) are d)
  fault (Err (Syntax place _)) d = absurd d

  pub refused : (r : Result (List Token) SyntaxFault) → IfErr r (IsTokenFault cs) → IfErr r (λ f. IsSyntax f → (others : List Token) → ¬ (IsTokens bytes others))
  refused (Ok tokens) d = tt
  refused (Err NoMemory) d = λ never others other. never
  refused (Err (Syntax place faults.Token)) d = λ is others other. never_both other.1 (subst (λ x. Faulty start 0 x place) are d)
  refused (Err (Syntax place _)) d = absurd d
