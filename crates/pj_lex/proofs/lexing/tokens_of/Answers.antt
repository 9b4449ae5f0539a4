use Rattle.std.proofs.Common.{◌≡◌, ◌<◌, arith, sym, ◌∙◌, length, ap}
use Rattle.std.proofs.lemmas.Bool.Decides.{nat_tests}
use Rattle.pj_lex.specs.Characters.{width}
use Rattle.pj_lex.proofs.Loop.{turn, ends, ends_in_order, fails}
use Rattle.pj_lex.proofs.Widths.{width_split, width_some}
use Rattle.pj_lex.proofs.lexing.tokens_of.Goals as goal

pub returns-in_default-clause-fault : goal.returns-in_default-clause-fault
returns-in_default-clause-fault c =
    let some : 0 < length c.loop-rest.rest.now = grind (arith, nat_tests) in
    fails _ _ _ _ _ some (sym c.in_ok-what.ensures.piece ∙ c.in_default.is) c.loop-rest.invariant.2

pub width-requires : goal.width-requires
width-requires c = rw c.split_at.ensures.front (omega (arith, width_split c.in-Some.field-0.size c.loop-rest.rest.now, c.loop-rest.invariant.0, c.requires))

pub overflow_add-end : goal.overflow_add-end
overflow_add-end c = rw (c.width.ensures, c.split_at.ensures.front) (omega (arith, width_split c.in-Some.field-0.size c.loop-rest.rest.now, c.loop-rest.invariant.0, c.requires))

pub put-requires : goal.put-requires
put-requires c =
    let some : 0 < length c.loop-rest.rest.now = grind (arith, nat_tests) in
    let fits : 0 < c.in-Some.field-0.size = grind (arith, c.in_ok-what.ensures.size) in
    omega (arith, width_some c.in-Some.field-0.size c.loop-rest.rest.now fits some, width_split c.in-Some.field-0.size c.loop-rest.rest.now, c.loop-rest.invariant, c.requires)

pub loop-rest-preserved : goal.loop-rest-preserved
loop-rest-preserved c =
    let some : 0 < length c.loop-rest.rest.now = grind (arith, nat_tests) in
    let fits : 0 < c.in-Some.field-0.size = grind (arith, c.in_ok-what.ensures.size) in
    turn _ _ _ _ _ _ _ _ _ c.in-Some.field-0 (sym c.in_ok-what.ensures.piece ∙ c.in-Some.is) fits some (c.width.ensures ∙ ap width c.split_at.ensures.front) c.split_at.ensures.back c.in_ok-before.ensures.behind c.in_ok-before.ensures.added c.loop-rest.invariant

pub returns-clause-lexed : goal.returns-clause-lexed
returns-clause-lexed c =
    let none : length c.loop-rest.rest.now ≡ 0 = grind (arith, nat_tests) in
    ends _ _ _ _ _ _ none c.in_ok-push.ensures.ok c.loop-rest.invariant.2

pub returns-clause-cover : goal.returns-clause-cover
returns-clause-cover c =
    let none : length c.loop-rest.rest.now ≡ 0 = grind (arith, nat_tests) in
    ends_in_order _ _ _ _ _ _ none c.in_ok-push.ensures.ok c.loop-rest.invariant.0 c.loop-rest.invariant.2
