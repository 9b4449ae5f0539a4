use Rattle.std.proofs.Common.{map}
use Rattle.std.proofs.lemmas.Result.{err_from_is_err_and}
use Rattle.pj_image.proofs.TakenLaws.{behind, failing, passing}
use Rattle.pj_image.proofs.named.see_names.Goals as goal

pub returns-in_err-take_names-clause-is : goal.returns-in_err-take_names-clause-is
returns-in_err-take_names-clause-is g c =
    let p = err_from_is_err_and c.from_residual-in_err-take_names.result c.from_residual-in_err-take_names.ensures.1 in
    rw (p.1, p.2) (failing g.T.Named.good c.args.strings.now c.args.seen.now (map g.T.Named.number_of c.args.all.now) c.in_err-take_names.field-0.0 (rw c.reserve.ensures at c.in_err-take_names.ensures.is))

pub check_new-requires : goal.check_new-requires
check_new-requires g c =
    rw c.len-start.ensures (behind g.T.Named.good c.args.strings.now c.args.seen.now (map g.T.Named.number_of c.args.all.now) c.take_names.new.seen (rw c.reserve.ensures at c.in_ok-take_names.ensures.is))

pub returns-clause-is : goal.returns-clause-is
returns-clause-is g c =
    passing g.T.Named.good c.args.strings.now c.args.seen.now (map g.T.Named.number_of c.args.all.now) c.check_new.result c.take_names.new.seen c.len-start.result c.len-start.ensures (rw c.reserve.ensures at c.in_ok-take_names.ensures.is) c.check_new.ensures
