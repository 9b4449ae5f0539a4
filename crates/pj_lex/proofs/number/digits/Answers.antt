use Rattle.std.proofs.Common.{sym, ◌∙◌, arith, ◌^◌}
use Rattle.pj_lex.proofs.DigitsRise.{too_large}
use Rattle.pj_lex.proofs.number.digits.Goals as goal

pub returns-in_default-one_more-clause-capped : goal.returns-in_default-one_more-clause-capped
returns-in_default-one_more-clause-capped c =
    rw (← c.loop-rest.invariant.0) (too_large c.loop-rest.value (2 ^ 63) c.first-item.result c.loop-rest.rest.now (omega arith) c.first-item.is (sym c.is_digit.ensures ∙ c.if-is_digit.true) (omega (arith, c.in_default-one_more.ensures.past)))
