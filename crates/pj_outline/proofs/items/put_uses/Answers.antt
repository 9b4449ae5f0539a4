use Rattle.std.proofs.Common.{arith}
use Rattle.pj_outline.proofs.Texts.{uses-some}
use Rattle.pj_outline.proofs.items.put_uses.Goals as goal

pub returns-in-len1-up : goal.returns-in-len1-up
returns-in-len1-up c =
    let e = uses-some c.args.all.now (omega (arith, c.in-len1-up.len_at_least)) in
    rw e c.put_some_uses.ensures
