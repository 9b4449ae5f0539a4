use Rattle.std.proofs.Common.{◌≡◌, map, replicate, []}
use Rattle.pj_image.proofs.hashes.empty_parts.Given as goal

abbrev pub invariant-loop-part : goal.invariant-loop-part
invariant-loop-part l = map (λ p. p.items) l.parts.items ≡ replicate l._part []
