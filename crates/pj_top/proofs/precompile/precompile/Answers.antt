-- What the building of the tree tells and writes is what the building of the package does.
use Rattle.pj_top.proofs.PrecompilingTold.{tree_builds, tree_leads, tree_reaches}
use Rattle.pj_top.proofs.precompile.precompile.Goals as goal

pub returns-in-Ok-Tree-clause-told : goal.returns-in-Ok-Tree-clause-told
returns-in-Ok-Tree-clause-told g c =
    tree_leads (g.D.Depot.files c.args.depot.now) (g.S.Sink.written c.args.out.now) c.args.name.now c.in-Ok-Tree.tree c.args.steps c.build.result (g.S.Sink.written c.build.new.out)
    (rw c.in-Ok-Tree.field-0-is at c.in-Ok-Tree.ensures.found) c.build.ensures.told

pub returns-in-Ok-Tree-clause-ends : goal.returns-in-Ok-Tree-clause-ends
returns-in-Ok-Tree-clause-ends g c =
    tree_reaches (g.D.Depot.files c.args.depot.now) c.args.name.now c.in-Ok-Tree.tree c.args.steps c.build.result (rw c.in-Ok-Tree.field-0-is at c.in-Ok-Tree.ensures.found) c.build.ensures.ends

pub returns-in-Ok-Tree-clause-builds : goal.returns-in-Ok-Tree-clause-builds
returns-in-Ok-Tree-clause-builds g c =
    tree_builds (g.D.Depot.files c.args.depot.now) (g.D.Depot.files c.read_package.new.depot) c.args.name.now c.in-Ok-Tree.tree c.args.steps c.build.result (g.D.Depot.files c.build.new.depot)
    c.in-Ok-Tree.ensures.same (rw c.in-Ok-Tree.field-0-is at c.in-Ok-Tree.ensures.found) (rw c.in-Ok-Tree.field-0-is at c.in-Ok-Tree.ensures.named).0 c.build.ensures.builds
