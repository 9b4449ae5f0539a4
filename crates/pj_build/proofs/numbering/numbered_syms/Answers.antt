use Rattle.std.proofs.Common.{arith}
use Rattle.pj_build.proofs.Interning.{grown_more}
use Rattle.pj_build.proofs.Growing.{syms_turn}
use Rattle.pj_build.proofs.numbering.numbered_syms.Goals as goal

pub loop-name-preserved : goal.loop-name-preserved
loop-name-preserved c = record {
  is = syms_turn _ _ c.args.names.now _ _ c.loop-name.name-index c.name-item.result _ (omega arith) c.name-item.is c.loop-name.invariant.is c.in_ok-sym.ensures.grown c.in_ok-sym.ensures.is c.in_ok-push.ensures.ok;
  grown = grown_more _ _ _ c.loop-name.invariant.grown c.in_ok-sym.ensures.grown;
}
