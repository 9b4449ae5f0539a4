use Rattle.std.proofs.Common.{◌++◌, map, take}
use Rattle.pj_image.specs.New.{SameTexts}
use Rattle.pj_image.proofs.distinct.Distinct.add_all.Given as goal

abbrev pub invariant-loop-text : goal.invariant-loop-text
invariant-loop-text l = SameTexts l.self (l.initial.self ++ map (λ t. t.now) (take l.text-index l.texts))
