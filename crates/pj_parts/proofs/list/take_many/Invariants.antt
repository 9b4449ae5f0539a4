use Rattle.std.proofs.Common.{◌≡◌, ◌-◌}
use Rattle.pj_fields.specs.Fields.{many}
use Rattle.pj_fields.proofs.Loop.{with_front}
use Rattle.pj_parts.proofs.list.take_many.Given as goal

abbrev pub invariant-loop-turn : goal.invariant-loop-turn
invariant-loop-turn g l = with_front l.found (many g.T.Part.at (l.count - l._turn) l.rest) ≡ many g.T.Part.at l.count l.source
