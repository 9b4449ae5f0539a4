use Rattle.std.proofs.Common.{◌≡◌, ◌≢◌, ◌<◌, ℕ, get_or}
use Rattle.pj_image.specs.Hashes.{slot_of}
use Rattle.pj_image.proofs.hashes.put.Given as goal

abbrev pub invariant-loop-turn : goal.invariant-loop-turn
invariant-loop-turn l =
    record {
      same : l.slots ≡ l.initial.slots;
      taken : (earlier : ℕ) → earlier < l.turn → get_or l.initial.slots (slot_of l.hash earlier) 0 ≢ 0;
      others : (earlier : ℕ) → earlier < l.turn → get_or l.initial.slots (slot_of l.hash earlier) 0 ≢ l.hash;
    }
