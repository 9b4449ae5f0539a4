use Rattle.std.proofs.Common.{◌≡◌, ◌≤◌, ◌^◌, length}
use Rattle.pj_lex.specs.Numbers.{digits}
use Rattle.pj_lex.proofs.number.digits.Given as goal

abbrev pub invariant-loop-rest : goal.invariant-loop-rest
invariant-loop-rest l = (digits l.value l.rest ≡ digits l.fn.first_part l.fn.characters) × (l.value ≤ 2 ^ 63) × (length l.rest ≤ length l.fn.characters)

abbrev pub decreases-loop-rest : goal.decreases-loop-rest
decreases-loop-rest l = length l.rest
