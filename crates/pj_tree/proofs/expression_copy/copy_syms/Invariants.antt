use Rattle.std.proofs.Common.{◌≡◌, take}
use Rattle.pj_tree.proofs.expression_copy.copy_syms.Given as goal

abbrev pub invariant-loop-sym : goal.invariant-loop-sym
invariant-loop-sym l = l.copied ≡ take l.sym-index l.syms
