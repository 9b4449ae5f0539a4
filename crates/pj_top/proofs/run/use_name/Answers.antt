-- Where there is no ending, a front of what the meaning prints was printed.
use Rattle.pj_top.proofs.RunningNames.{name_front_files}
use Rattle.pj_top.proofs.run.use_name.Goals as goal

pub returns-in_err-ending_of_fault-in-Err-clause-goes : goal.returns-in_err-ending_of_fault-in-Err-clause-goes
returns-in_err-ending_of_fault-in-Err-clause-goes g c =
    name_front_files (g.D.Depot.files c.args.depot.now) c.args.name.now c.args.session.now c.using.new.self c.args.left.now c.using.new.left c.from_residual.result c.from_residual.ensures.0 c.using.ensures.printed
