use Rattle.std.proofs.Common.{map, subst}
use Rattle.std.proofs.lemmas.List.{take_all}
use Rattle.std.specs.List.{AllByRecursion}
use Rattle.std.proofs.lemmas.Result.{err_from_is_err_and}
use Rattle.pj_image.specs.New.{all_taken}
use Rattle.pj_image.proofs.FitLoop.{one_more}
use Rattle.pj_image.proofs.SeenLoop.{goes_on, fails, is_done}
use Rattle.pj_image.proofs.named.take_names.Goals as goal

pub returns-in_err-take_name-clause-is : goal.returns-in_err-take_name-clause-is
returns-in_err-take_name-clause-is g c =
    let p = err_from_is_err_and c.from_residual.result c.from_residual.ensures.1 in
    rw (p.1, p.2) (fails g.T.Named.number_of g.T.Named.good c.args.strings.now c.in_err-take_name.field-0.0 c.args.all.now c.loop-named.named-index c.named-item.result c.loop-named.seen (all_taken g.T.Named.good c.args.strings.now c.args.seen.now (map g.T.Named.number_of c.args.all.now)) c.loop-named-test.true c.named-item.is c.in_err-take_name.ensures.is c.loop-named.invariant.seen)

pub loop-named-preserved : goal.loop-named-preserved
loop-named-preserved g c = record {
  seen = goes_on g.T.Named.number_of g.T.Named.good c.args.strings.now c.args.all.now c.loop-named.named-index c.named-item.result c.loop-named.seen c.take_name.new.seen (all_taken g.T.Named.good c.args.strings.now c.args.seen.now (map g.T.Named.number_of c.args.all.now)) c.loop-named-test.true c.named-item.is c.in_ok-take_name.ensures.is c.loop-named.invariant.seen;
  range = one_more g.T.Named.in_range c.args.all.now c.loop-named.named-index c.named-item.result c.loop-named-test.true c.named-item.is c.loop-named.invariant.range c.in_ok-take_name.ensures.range;
}

pub returns-clause-is : goal.returns-clause-is
returns-clause-is g c = is_done g.T.Named.number_of g.T.Named.good c.args.strings.now c.args.all.now c.loop-named.named-index c.loop-named.seen (all_taken g.T.Named.good c.args.strings.now c.args.seen.now (map g.T.Named.number_of c.args.all.now)) c.loop-named-test.false c.loop-named.invariant.seen

pub returns-clause-range : goal.returns-clause-range
returns-clause-range g c = subst (AllByRecursion g.T.Named.in_range) (take_all c.loop-named.named-index c.args.all.now c.loop-named-test.false) c.loop-named.invariant.range
