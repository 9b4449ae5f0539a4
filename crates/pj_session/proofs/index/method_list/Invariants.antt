use Rattle.std.proofs.Common.{length, take}
use Rattle.pj_session.proofs.Listed.{Noted}
use Rattle.pj_session.proofs.index.method_list.Given as goal

abbrev pub invariant-loop-at : goal.invariant-loop-at
invariant-loop-at l = Noted l.entries (length l.image.functions) (take l.at l.methods) l.list.items
