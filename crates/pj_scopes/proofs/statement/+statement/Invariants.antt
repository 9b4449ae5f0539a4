use Rattle.std.proofs.Common.{◌≡◌, take}
use Rattle.pj_scopes.specs.Made.{block_tree}
use Rattle.pj_scopes.proofs.statement.+statement.Given as goal

abbrev pub invariant-block_of-loop-s : goal.invariant-block_of-loop-s
invariant-block_of-loop-s l = record {
  names : l.names ≡ l.initial.names;
  all : l.all ≡ block_tree l.top l.initial.names (take l.s-index l.block);
}
