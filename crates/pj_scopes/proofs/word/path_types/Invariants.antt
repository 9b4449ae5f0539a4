use Rattle.std.proofs.Common.{◌≡◌, take, map}
use Rattle.pj_scopes.specs.Resolved.{type_of}
use Rattle.pj_scopes.proofs.word.path_types.Given as goal

abbrev pub invariant-loop-path : goal.invariant-loop-path
invariant-loop-path l = l.all ≡ map type_of (take l.path-index l.types)
