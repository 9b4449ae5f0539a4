use Rattle.std.proofs.Common.{◌≡◌, map, drop}
use Rattle.pj_image.specs.New.{all_new}
use Rattle.pj_image.proofs.distinct.Distinct.add_new.Given as goal

abbrev pub invariant-loop-text : goal.invariant-loop-text
invariant-loop-text l = all_new l.self (map (λ t. t.now) (drop l.text-index l.texts)) ≡ all_new l.initial.self (map (λ t. t.now) l.texts)
