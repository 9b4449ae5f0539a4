use Rattle.std.proofs.Common.{◌≡◌, length}
use Rattle.pj_plain.specs.Held.{held_names}
use Rattle.pj_plain.specs.Names.{all_different}
use Rattle.pj_plain.proofs.definition_form.all_different.Given as goal

abbrev pub invariant-loop-rest : goal.invariant-loop-rest
invariant-loop-rest l = all_different (held_names l.rest) ≡ all_different (held_names l.fn.params)

abbrev pub decreases-loop-rest : goal.decreases-loop-rest
decreases-loop-rest l = length l.rest
