use Rattle.pj_plain.proofs.Shapes.{more_than_one}
use Rattle.pj_session.proofs.shown.only.Goals as goal

pub returns-in-len2-up : goal.returns-in-len2-up
returns-in-len2-up c = more_than_one c.args.arguments.now c.in-len2-up.len_at_least
