use Rattle.std.proofs.Common.{◌≡◌, take, map}
use Rattle.pj_tree.specs.Reads.{exprs_of}
use Rattle.pj_plain.specs.Held.{held_expr}
use Rattle.pj_session.specs.Items.{integers}
use Rattle.pj_session.proofs.arguments.integers.Given as goal

abbrev pub invariant-loop-e : goal.invariant-loop-e
invariant-loop-e l = l.values.items ≡ integers (exprs_of (map held_expr (take l.e-index l.es)))
