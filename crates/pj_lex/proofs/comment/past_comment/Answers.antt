use Rattle.std.proofs.Common.{sym, ◌∙◌, arith}
use Rattle.pj_lex.proofs.Pairs.{opens, closes, passes}
use Rattle.pj_lex.proofs.comment.past_comment.Goals as goal

pub loop-rest-preserved-then-opens : goal.loop-rest-preserved-then-opens
loop-rest-preserved-then-opens c =
    (opens _ _ c.character-item.result _ _ (omega arith) c.character-item.is (sym c.opens.ensures ∙ c.if-opens.true) c.loop-rest.invariant.0, omega arith, omega arith)

pub loop-rest-preserved-else-open_ones-eq1 : goal.loop-rest-preserved-else-open_ones-eq1
loop-rest-preserved-else-open_ones-eq1 c =
    (closes _ _ c.character-item.result _ _ (omega arith) c.character-item.is (sym c.opens.ensures ∙ c.if-opens.false) (sym c.closes.ensures ∙ c.if-closes.true) c.if-open_ones-eq1.false c.loop-rest.invariant.0, omega arith, omega arith)

pub loop-rest-preserved : goal.loop-rest-preserved
loop-rest-preserved c =
    (passes _ _ c.character-item.result _ _ (omega arith) c.character-item.is (sym c.opens.ensures ∙ c.if-opens.false) (sym c.closes.ensures ∙ c.if-closes.false) c.loop-rest.invariant.0, omega arith, omega arith)
