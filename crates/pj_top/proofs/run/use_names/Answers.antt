-- Each package goes on from what is behind it.
use Rattle.std.proofs.Common.{◌+◌, arith, map, take, drop, ◌∙◌}
use Rattle.pj_plain.specs.Held.{held_text}
use Rattle.pj_top.proofs.RunningNames.{naming_begins, naming_over, names_front_files, at_name, naming_from}
use Rattle.pj_top.proofs.run.use_names.Goals as goal

pub loop-name-init : goal.loop-name-init
loop-name-init g c =
    (naming_begins c.args.session.now c.args.left.now (map held_text c.args.names.now) (g.D.Depot.files c.args.depot.now) c.requires.good, omega arith)

pub use_name-requires : goal.use_name-requires
use_name-requires g c = record { good = c.loop-name.invariant.0.loads.stays.good }

pub loop-name-preserved : goal.loop-name-preserved
loop-name-preserved g c = (
  naming_from c.args.session.now c.loop-name.session c.use_name.new.session c.args.left.now c.loop-name.left c.use_name.new.left held_text c.args.names.now c.loop-name.name-index c.name-item.result c.text.result.now
      (g.D.Depot.files c.args.depot.now) (g.D.Depot.files c.loop-name.depot) (g.D.Depot.files c.use_name.new.depot) c.loop-name-test.true c.name-item.is c.text.ensures
      c.loop-name.invariant.0 c.use_name.ensures.loads (rw c.in_default.is at c.in_ok-came.ensures.loaded) c.use_name.ensures.same (rw c.in_default.is at c.in_ok-came.ensures.goes),
  omega (arith, c.use_name.ensures.depot.later),
)

pub returns-in_err-came-clause-goes : goal.returns-in_err-came-clause-goes
returns-in_err-came-clause-goes g c =
    names_front_files (g.D.Depot.files c.args.depot.now) (map held_text c.args.names.now) c.args.session.now c.use_name.new.session c.args.left.now c.use_name.new.left c.from_residual.result c.from_residual.ensures.0
    (c.use_name.ensures.loads.printed ∙ c.loop-name.invariant.0.loads.printed)

pub returns-in-Some-clause-goes : goal.returns-in-Some-clause-goes
returns-in-Some-clause-goes g c =
    naming_over c.args.session.now c.loop-name.session c.use_name.new.session c.args.left.now c.loop-name.left c.use_name.new.left (map held_text c.args.names.now) (map held_text (take c.loop-name.name-index c.args.names.now))
    (map held_text (drop (c.loop-name.name-index + 1) c.args.names.now)) c.text.result.now (g.D.Depot.files c.args.depot.now) (g.D.Depot.files c.loop-name.depot) c.in-Some.ending
    (at_name c.args.session.now c.loop-name.session c.args.left.now c.loop-name.left held_text c.args.names.now c.loop-name.name-index c.name-item.result c.text.result.now
    (g.D.Depot.files c.args.depot.now) (g.D.Depot.files c.loop-name.depot) c.loop-name-test.true c.name-item.is c.text.ensures c.loop-name.invariant.0)
    (rw c.in-Some.is at c.in_ok-came.ensures.goes)
