use Rattle.std.proofs.Common.{◌≡◌, map, take}
use Rattle.pj_scopes.specs.Resolved.{spelling}
use Rattle.pj_scopes.proofs.item.spellings.Given as goal

abbrev pub invariant-loop-x : goal.invariant-loop-x
invariant-loop-x l = l.all ≡ map spelling (take l.x-index l.names)
