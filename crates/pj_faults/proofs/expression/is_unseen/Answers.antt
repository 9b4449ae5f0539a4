use Rattle.std.proofs.Common.{not, sym, ◌∙◌}
use Rattle.pj_faults.specs.Introduced.{is_among}
use Rattle.pj_faults.proofs.NameLaws.{among-none}
use Rattle.pj_faults.proofs.expression.is_unseen.Goals as goal

pub returns-then-len-eq0 : goal.returns-then-len-eq0
returns-then-len-eq0 c =
    sym (among-none (not (is_among c.args.text.now c.args.names.now)) c.args.text.now c.args.loops.now (sym c.len.ensures ∙ c.if-len-eq0.true))
