use Rattle.std.proofs.Common.{◌≡◌, ◌≤◌, ◌+◌, drop}
use Rattle.pj_top.specs.Positions.{behind}
use Rattle.pj_top.proofs.position.position_at.Given as goal

-- what is behind the bytes so far goes on to what is behind all, and neither number is above how many bytes there were, and one
abbrev pub invariant-loop-byte : goal.invariant-loop-byte
invariant-loop-byte l =
    record {
      goes : behind l.found (drop l.byte-index l.byte-items) ≡ behind l.initial.found l.byte-items;
      lines : l.found.line ≤ l.byte-index + 1;
      columns : l.found.column ≤ l.byte-index + 1;
    }
