use Rattle.pj_meaning.specs.Tree.{Call}
use Rattle.pj_session.specs.Items.{called_in}
use Rattle.pj_session.specs.Seen.{events_of}
use Rattle.pj_session.proofs.FarAsked.{called_reads}
use Rattle.pj_session.proofs.state.Session.println_called.Goals as goal

pub returns-clause-tops : goal.returns-clause-tops
returns-clause-tops c es same is good =
    let s = c.args.self.now in
    let m = c.args.qualifier.now in
    let f = c.args.name.now in
    let zs = c.args.arguments.now in
    let left = c.args.left.now in
    c.println_answer.ensures.tops (Call m f es) left is good
    (called_reads s.here (events_of s) m f zs es left c.whole.result c.called-called.new.left same (c.whole.ensures (called_in s.here (events_of s) m f zs left) c.called-called.new.left c.called-called.ensures))
