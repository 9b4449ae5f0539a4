use Rattle.std.proofs.Common.{◌≡◌, ◌+◌, ◌*◌, length, map, drop}
use Rattle.pj_image.specs.Pieces.{Mention, walk, walk_from}
use Rattle.pj_image.proofs.methods.past_mentions.Given as goal

abbrev pub invariant-loop-i : goal.invariant-loop-i
invariant-loop-i l =
    record {
      walked : walk (map Mention (drop l.i l.numbers)) (walk_from (l.next + l.i) (l.at + 4 * l.i) l.rest) ≡ walk (map Mention l.numbers) (walk_from l.next l.at l.left);
      each : length l.rest + l.i ≡ length l.left;
    }
