use Rattle.std.proofs.Common.{◌≡◌, take}
use Rattle.pj_scopes.specs.Resolved.{words}
use Rattle.pj_scopes.proofs.word.spot_words.Given as goal

abbrev pub invariant-loop-x : goal.invariant-loop-x
invariant-loop-x l = l.words ≡ words (take l.x-index l.all)
