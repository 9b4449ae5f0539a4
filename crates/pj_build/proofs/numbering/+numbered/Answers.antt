use Rattle.std.proofs.Common.{arith}
use Rattle.pj_build.proofs.Interning.{grown_more}
use Rattle.pj_build.proofs.Growing.{exprs_turn}
use Rattle.pj_build.proofs.Variants.{numbered-Global, numbered-Field, numbered-Call, numbered-CallLocal, numbered-Latest, numbered-And, numbered-Or, numbered-Cond, numbered-Same}
use Rattle.pj_build.proofs.numbering.+numbered.Goals as goal

pub all_numbered-loop-e-preserved : goal.all_numbered-loop-e-preserved
all_numbered-loop-e-preserved t c = record {
  is = exprs_turn _ _ c.args.es.now _ _ c.loop-e.e-index c.e-item.result _ (omega arith) c.e-item.is c.loop-e.invariant.is c.in_ok-numbered.ensures.grown c.in_ok-numbered.ensures.is c.in_ok-push.ensures.ok;
  grown = grown_more _ _ _ c.loop-e.invariant.grown c.in_ok-numbered.ensures.grown;
}

pub numbered-returns-in_ok-name-in-Global-clause-is : goal.numbered-returns-in_ok-name-in-Global-clause-is
numbered-returns-in_ok-name-in-Global-clause-is t c = rw c.in-Global.is (numbered-Global _ _ _ _ _ _ c.in_ok-owner-in-Global.ensures.is c.in_ok-name-in-Global.ensures.grown c.in_ok-name-in-Global.ensures.is)

pub numbered-returns-in_ok-name-in-Field-clause-is : goal.numbered-returns-in_ok-name-in-Field-clause-is
numbered-returns-in_ok-name-in-Field-clause-is t c = rw c.in-Field.is (numbered-Field _ _ _ _ _ _ (rw c.get.ensures at c.in_ok-of-in-Field.ensures.is) c.in_ok-name-in-Field.ensures.grown c.in_ok-name-in-Field.ensures.is)

pub numbered-returns-in_ok-args-in-Call-clause-is : goal.numbered-returns-in_ok-args-in-Call-clause-is
numbered-returns-in_ok-args-in-Call-clause-is t c = rw c.in-Call.is (numbered-Call _ _ _ _ _ _ _ _ _ c.in_ok-owner-in-Call.ensures.is c.in_ok-name-in-Call.ensures.grown c.in_ok-name-in-Call.ensures.is c.in_ok-args-in-Call.ensures.grown (rw c.as_slice.ensures at c.in_ok-args-in-Call.ensures.is))

pub numbered-returns-in_ok-args-in-CallLocal-clause-is : goal.numbered-returns-in_ok-args-in-CallLocal-clause-is
numbered-returns-in_ok-args-in-CallLocal-clause-is t c = rw c.in-CallLocal.is (numbered-CallLocal _ _ _ _ _ _ c.in_ok-name-in-CallLocal.ensures.is c.in_ok-args-in-CallLocal.ensures.grown (rw c.as_slice-in-CallLocal.ensures at c.in_ok-args-in-CallLocal.ensures.is))

pub numbered-returns-in_ok-args-in-Latest-clause-is : goal.numbered-returns-in_ok-args-in-Latest-clause-is
numbered-returns-in_ok-args-in-Latest-clause-is t c = rw c.in-Latest.is (numbered-Latest _ _ _ _ _ _ (rw c.get-in-Latest.ensures at c.in_ok-callee-in-Latest.ensures.is) c.in_ok-args-in-Latest.ensures.grown (rw c.as_slice-in-Latest.ensures at c.in_ok-args-in-Latest.ensures.is))

pub numbered-returns-in_ok-right-in-And-clause-is : goal.numbered-returns-in_ok-right-in-And-clause-is
numbered-returns-in_ok-right-in-And-clause-is t c = rw c.in-And.is (numbered-And _ _ _ _ _ _ (rw c.get-in-And.ensures at c.in_ok-left-in-And.ensures.is) c.in_ok-right-in-And.ensures.grown (rw c.get-in-And-2.ensures at c.in_ok-right-in-And.ensures.is))

pub numbered-returns-in_ok-right-in-Or-clause-is : goal.numbered-returns-in_ok-right-in-Or-clause-is
numbered-returns-in_ok-right-in-Or-clause-is t c = rw c.in-Or.is (numbered-Or _ _ _ _ _ _ (rw c.get-in-Or.ensures at c.in_ok-left-in-Or.ensures.is) c.in_ok-right-in-Or.ensures.grown (rw c.get-in-Or-2.ensures at c.in_ok-right-in-Or.ensures.is))

pub numbered-returns-in_ok-other-in-Cond-clause-is : goal.numbered-returns-in_ok-other-in-Cond-clause-is
numbered-returns-in_ok-other-in-Cond-clause-is t c = rw c.in-Cond.is (numbered-Cond _ _ _ _ _ _ _ _ _ (rw c.get-in-Cond.ensures at c.in_ok-test-in-Cond.ensures.is) c.in_ok-chosen-in-Cond.ensures.grown (rw c.get-in-Cond-2.ensures at c.in_ok-chosen-in-Cond.ensures.is) c.in_ok-other-in-Cond.ensures.grown (rw c.get-in-Cond-3.ensures at c.in_ok-other-in-Cond.ensures.is))

pub numbered-returns-in_ok-right-in-Same-clause-is : goal.numbered-returns-in_ok-right-in-Same-clause-is
numbered-returns-in_ok-right-in-Same-clause-is t c = rw c.in-Same.is (numbered-Same _ _ _ _ _ _ (rw c.get-in-Same.ensures at c.in_ok-left-in-Same.ensures.is) c.in_ok-right-in-Same.ensures.grown (rw c.get-in-Same-2.ensures at c.in_ok-right-in-Same.ensures.is))
