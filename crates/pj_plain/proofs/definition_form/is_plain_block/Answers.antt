use Rattle.std.proofs.Common.{map, sym}
use Rattle.std.proofs.lemmas.List.{length-map}
use Rattle.pj_plain.specs.Held.{held_names, held_stmt}
use Rattle.pj_plain.proofs.Shapes.{more_statements}
use Rattle.pj_plain.proofs.definition_form.is_plain_block.Goals as goal

pub returns-in-len2-up : goal.returns-in-len2-up
returns-in-len2-up c =
    sym (more_statements (held_names c.args.params.now) (map held_stmt c.args.block.now) (rw (length-map c.args.block.now held_stmt) c.in-len2-up.len_at_least))
