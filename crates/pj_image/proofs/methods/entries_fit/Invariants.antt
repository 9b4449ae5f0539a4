use Rattle.std.proofs.Common.{◌≡◌, ◌+◌, length, take, drop}
use Rattle.std.specs.List.{flat_map}
use Rattle.pj_parts.specs.Spelling.{method}
use Rattle.pj_image.specs.Pieces.{method_pieces, walk, walk_from}
use Rattle.pj_image.proofs.methods.entries_fit.Given as goal

abbrev pub invariant-loop-m : goal.invariant-loop-m
invariant-loop-m l =
    record {
      walked : walk (flat_map method_pieces (drop l.m-index l.methods)) (walk_from l.next l.place l.rest) ≡ walk (flat_map method_pieces l.methods) (walk_from 0 l.at l.entries);
      each : length l.rest + l.next ≡ length l.entries;
      place : l.place ≡ l.at + length (flat_map method (take l.m-index l.methods));
    }
