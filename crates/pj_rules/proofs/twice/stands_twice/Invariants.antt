use Rattle.std.proofs.Common.{◌≡◌, ◌<◌, ℕ, take, vec_len, false, slice_index_or}
use Rattle.pj_rules.specs.Numbering.{is_among, has_twice}
use Rattle.pj_rules.proofs.twice.stands_twice.Given as goal

abbrev pub invariant-loop-number : goal.invariant-loop-number
invariant-loop-number l = record {
  all : vec_len l.seen ≡ l.count;
  marked : (k : ℕ) → k < l.count → slice_index_or l.seen.items k false ≡ is_among k (take l.number-index l.numbers);
  so_far : l.found ≡ has_twice (take l.number-index l.numbers);
}
