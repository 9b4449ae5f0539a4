-- The bytes of the parts of trees, by the same steps as those of whole trees.
use Rattle.pj_tree.specs.Bytes.{Bytes, part_step, payload_step, stmt_step, tree_step, body_step, def_step}
use Rattle.pj_tree.specs.declared.tree.Payload.{Payload}
use Rattle.pj_tree.specs.declared.tree.Body.{Body}
use Rattle.pj_tree.specs.declared.tree.DefTree.{DefTree}
use Rattle.pj_tree.specs.declared.tree.Part.TheFolds.{fold-Payload, fold-Body, fold-DefTree}

abbrev pub payload : Payload → Bytes
payload = fold-Payload Bytes Bytes Bytes Bytes Bytes Bytes part_step payload_step stmt_step tree_step body_step def_step

abbrev pub body : Body → Bytes
body = fold-Body Bytes Bytes Bytes Bytes Bytes Bytes part_step payload_step stmt_step tree_step body_step def_step

abbrev pub definition : DefTree → Bytes
definition = fold-DefTree Bytes Bytes Bytes Bytes Bytes Bytes part_step payload_step stmt_step tree_step body_step def_step
