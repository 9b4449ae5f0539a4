use Rattle.std.proofs.Common.{arith}
use Rattle.pj_outline.proofs.Texts.{introducing-some}
use Rattle.pj_outline.proofs.lines.put_introduced.Goals as goal

pub returns-in-len1-up : goal.returns-in-len1-up
returns-in-len1-up c =
    let e = introducing-some c.args.strings.now c.args.all.now (omega (arith, c.in-len1-up.len_at_least)) in
    rw e c.put_some_introduced.ensures
