use Rattle.std.proofs.Common.{append_assoc, arith}
use Rattle.pj_tree.specs.Numbering.{numbered_stmt}
use Rattle.pj_tree.proofs.LaidLists.{all-more}
use Rattle.pj_tree.proofs.numbering.+number_tree.Goals as goal

pub block-loop-s-preserved : goal.block-loop-s-preserved
block-loop-s-preserved t c =
    rw (all-more numbered_stmt c.args.stmts.now c.loop-s.s-index c.args.n.now.next c.s-item.result c.loop-s-test.true c.s-item.is)
    (grind (arith, append_assoc, c.in_ok-push.ensures.ok, c.in_ok-stmt.ensures.laid, c.in_ok-stmt.ensures.later, c.in_ok-stmt.ensures.next, c.loop-s.invariant))
