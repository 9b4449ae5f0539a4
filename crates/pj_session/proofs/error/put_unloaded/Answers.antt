use Rattle.std.proofs.Common.{codes}
use Rattle.pj_session.proofs.Lines.{three_put}
use Rattle.pj_session.proofs.error.put_unloaded.Goals as goal

pub returns : goal.returns
returns c =
    three_put c.args.line.now c.extend.new.self c.extend-2.new.self c.extend-3.new.self (codes "UndefVarError: module ") c.as_bytes.result.now (codes " not loaded") c.args.home.now c.extend-3.result
    c.as_bytes.ensures.value c.in_ok-extend.ensures.added c.in_ok-extend-2.ensures.added c.extend-3.ensures.added
