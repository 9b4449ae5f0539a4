use Rattle.std.proofs.Common.{map, take}
use Rattle.pj_image.specs.Hashes.{hash_of, Spreads}
use Rattle.pj_image.proofs.hashes.spread.Given as goal

abbrev pub invariant-loop-text : goal.invariant-loop-text
invariant-loop-text l = Spreads (map (λ t. hash_of t.now) (take l.text-index l.texts)) (map (λ p. p.items) l.parts.items)
