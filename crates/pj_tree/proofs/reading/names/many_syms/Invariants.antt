use Rattle.std.proofs.Common.{◌≡◌, ◌-◌}
use Rattle.pj_fields.specs.Fields.{many}
use Rattle.pj_fields.proofs.Loop.{with_front}
use Rattle.pj_tree.specs.Reading.{sym_at}
use Rattle.pj_tree.proofs.reading.names.many_syms.Given as goal

abbrev pub invariant-loop-turn : goal.invariant-loop-turn
invariant-loop-turn l = with_front l.list (many sym_at (l.count - l._turn) l.rest) ≡ many sym_at l.count l.bytes
