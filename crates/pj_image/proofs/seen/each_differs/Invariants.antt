use Rattle.std.proofs.Common.{◌≡◌, map, take, drop}
use Rattle.pj_image.specs.New.{all_new}
use Rattle.pj_image.proofs.seen.each_differs.Given as goal

abbrev pub invariant-loop-at : goal.invariant-loop-at
invariant-loop-at l = all_new (map (λ t. t.now) (take l.at l.texts)) (map (λ t. t.now) (drop l.at l.texts)) ≡ all_new (map (λ t. t.now) (take l.start l.texts)) (map (λ t. t.now) (drop l.start l.texts))
