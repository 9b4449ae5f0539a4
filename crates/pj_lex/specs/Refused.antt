-- What is wrong with the characters of a text.
use Rattle.std.specs.Prelude.{ℕ, List, ⊤}
use Rattle.pj_lex.specs.declared.fault.SyntaxFault.{SyntaxFault}
use Rattle.pj_lex.specs.declared.fault.SyntaxFault.TheVariants.{Syntax, NoMemory}
use Rattle.pj_lex.specs.declared.fault.SyntaxKind.TheVariants as faults
use Rattle.pj_lex.specs.Before.{start}
use Rattle.pj_lex.specs.Lexed.{Faulty}

-- they go on with no piece from this place on
abbrev pub IsTokenFault : List ℕ → SyntaxFault → Type 0
IsTokenFault cs (Syntax place faults.Token) = Faulty start 0 cs place
IsTokenFault cs (Syntax place _) = ⊥
IsTokenFault cs NoMemory = ⊤
