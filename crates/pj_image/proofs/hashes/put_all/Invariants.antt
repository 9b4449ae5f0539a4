use Rattle.std.proofs.Common.{◌≡◌, take, nat_eq, length}
use Rattle.std.specs.List.{IsDistinct}
use Rattle.pj_image.specs.Hashes.{AllStand}
use Rattle.pj_image.proofs.hashes.put_all.Given as goal

abbrev pub invariant-loop-hash : goal.invariant-loop-hash
invariant-loop-hash l =
    record {
      many : length l.slots ≡ 16384;
      stand : AllStand l.slots (take l.hash-index l.part);
      differ : IsDistinct nat_eq (take l.hash-index l.part);
    }
