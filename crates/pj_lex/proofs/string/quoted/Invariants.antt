use Rattle.std.proofs.Common.{◌≡◌, ◌≤◌, length}
use Rattle.std.specs.Prelude.{string_bytes, false, []}
use Rattle.pj_lex.specs.Strings.{quoted}
use Rattle.pj_lex.proofs.string.quoted.Given as goal

abbrev pub invariant-loop-rest : goal.invariant-loop-rest
invariant-loop-rest l = (quoted (string_bytes l.value) l.behind_escape l.rest ≡ quoted [] false l.fn.characters) × (length l.rest ≤ length l.fn.characters)

abbrev pub decreases-loop-rest : goal.decreases-loop-rest
decreases-loop-rest l = length l.rest
