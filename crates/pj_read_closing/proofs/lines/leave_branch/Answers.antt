use Rattle.std.proofs.Common.{sym, ◌∙◌}
use Rattle.pj_read_closing.proofs.Leaving.{leaves}
use Rattle.pj_read_closing.proofs.lines.leave_branch.Goals as goal

pub returns : goal.returns
returns c = leaves c.leave.result c.args.standing c.in-Some.branch (sym c.branch_of.ensures ∙ c.in-Some.is) c.leave.ensures
