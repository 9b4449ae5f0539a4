use Rattle.std.proofs.Common.{◌≡◌, ◌+◌, ◌≤◌, length}
use Rattle.pj_lex.specs.Characters.{width}
use Rattle.pj_lex.proofs.Loop.{Keeps}
use Rattle.pj_lex.proofs.lexing.tokens_of.Given as goal

abbrev pub invariant-loop-rest : goal.invariant-loop-rest
invariant-loop-rest l = (l.at + width l.rest ≡ width l.fn.characters) × (l.before.parentheses ≤ l.at) × Keeps l.fn.characters l.before l.at l.rest l.tokens

abbrev pub decreases-loop-rest : goal.decreases-loop-rest
decreases-loop-rest l = length l.rest
