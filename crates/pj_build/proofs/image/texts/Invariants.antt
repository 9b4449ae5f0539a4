use Rattle.std.proofs.Common.{◌≡◌, take}
use Rattle.pj_build.proofs.image.texts.Given as goal

abbrev pub invariant-loop-place : goal.invariant-loop-place
invariant-loop-place l = l.texts ≡ take l.place l.strings
