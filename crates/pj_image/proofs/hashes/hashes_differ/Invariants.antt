use Rattle.std.proofs.Common.{ℕ, ◌<◌, ◌==◌, [], map, get_or}
use Rattle.std.specs.List.{IsDistinct}
use Rattle.pj_image.proofs.hashes.hashes_differ.Given as goal

abbrev pub invariant-loop-part : goal.invariant-loop-part
invariant-loop-part l = (i : ℕ) → i < l.part-index → IsDistinct (λ a b. a == b) (get_or (map (λ p. p.items) l.parts) i [])
