use Rattle.std.proofs.Common.{◌≡◌, length}
use Rattle.pj_tree.specs.Reads.{texts_of}
use Rattle.pj_plain.specs.Held.{held_names, no_strings}
use Rattle.pj_plain.specs.Plain.{same_texts}
use Rattle.pj_plain.proofs.definition_form.are_names.Given as goal

abbrev pub invariant-loop-left : goal.invariant-loop-left
invariant-loop-left l = same_texts (texts_of no_strings l.left) (held_names l.right) ≡ same_texts (texts_of no_strings l.fn.names) (held_names l.fn.params)

abbrev pub decreases-loop-left : goal.decreases-loop-left
decreases-loop-left l = length l.left
