use Rattle.std.proofs.Common.{◌≡◌, map, take}
use Rattle.pj_scopes.specs.Resolved.{item}
use Rattle.pj_scopes.proofs.item.all_items.Given as goal

abbrev pub invariant-loop-one : goal.invariant-loop-one
invariant-loop-one l = l.all.items ≡ map item (take l.one-index l.given)
