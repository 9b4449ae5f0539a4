use Rattle.std.proofs.Common.{subst, arith}
use Rattle.pj_build.specs.Own.{Named}
use Rattle.pj_build.specs.Sections.{KeptFunctions}
use Rattle.pj_build.proofs.Interning.{grown_more}
use Rattle.pj_build.proofs.Kept.{named_turn, pairs_all}
use Rattle.pj_build.proofs.sections.functions.Goals as goal

pub loop-place-preserved : goal.loop-place-preserved
loop-place-preserved c = record {
  is =
      named_turn (λ (l : Named). KeptFunctions c.add_function.new.strings l c.add_function.new.functions) c.args.names.now c.args.things.now c.loop-place.place c.text-name.result.now c.index-things-place.result
      c.text-name.ensures (omega arith) c.index-things-place.is (c.in_ok-add_function.ensures.is _ c.loop-place.invariant.is);
  grown = grown_more _ _ _ c.loop-place.invariant.grown c.in_ok-add_function.ensures.grown;
}

pub returns-clause-is : goal.returns-clause-is
returns-clause-is c =
    subst (λ (l : Named). KeptFunctions c.loop-place.strings l c.loop-place.fs) (pairs_all c.args.names.now c.args.things.now c.loop-place.place (omega arith)) c.loop-place.invariant.is
