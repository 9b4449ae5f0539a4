-- Each item goes on from what is behind it.
use Rattle.std.proofs.Common.{map, subst, List, ◌+◌}
use Rattle.std.proofs.lemmas.Result.{err_from_is_err_and}
use Rattle.pj_meaning.specs.Tree.{TopItem}
use Rattle.pj_plain.specs.Held.{held_item}
use Rattle.pj_session.specs.OwnItems.{known_in}
use Rattle.pj_session.specs.Seen.{events_of}
use Rattle.pj_build.proofs.Evaluating.{Going, from, next_form, goes_on, ends_early, one_more}
use Rattle.pj_build.proofs.pack.evaluate.Goals as goal

pub top-requires : goal.top-requires
top-requires c =
    let its = c.args.items.now in
    let n = c.loop-item.item-index in
    let item = c.item-item.result in
    let g = subst (λ (l : List TopItem). Going (map held_item its) l c.args.session.now c.loop-item.session c.args.steps c.loop-item.left) (one_more its n item c.loop-item-test.true c.item-item.is) c.loop-item.invariant in
    record { form = next_form (known_in (events_of c.loop-item.session)) (held_item item) (from (n + 1) its) g.form }

pub loop-item-preserved : goal.loop-item-preserved
loop-item-preserved c =
    let its = c.args.items.now in
    let n = c.loop-item.item-index in
    let item = c.item-item.result in
    let g = subst (λ (l : List TopItem). Going (map held_item its) l c.args.session.now c.loop-item.session c.args.steps c.loop-item.left) (one_more its n item c.loop-item-test.true c.item-item.is) c.loop-item.invariant in
    let e = c.in_ok-top.ensures in
    goes_on (map held_item its) (from (n + 1) its) (held_item item) c.args.session.now c.loop-item.session c.top.new.self c.args.steps c.loop-item.left c.top.new.left _ g (e.tops g.good) (e.good g.good) e.known e.loaded e.here

pub returns-in_err-top-clause-ends : goal.returns-in_err-top-clause-ends
returns-in_err-top-clause-ends c =
    let its = c.args.items.now in
    let n = c.loop-item.item-index in
    let item = c.item-item.result in
    let g = subst (λ (l : List TopItem). Going (map held_item its) l c.args.session.now c.loop-item.session c.args.steps c.loop-item.left) (one_more its n item c.loop-item-test.true c.item-item.is) c.loop-item.invariant in
    let p = err_from_is_err_and c.from_residual.result c.from_residual.ensures.1 in
    rw (p.1, p.2)
    (ends_early _ (map held_item its) (from (n + 1) its) (held_item item) c.args.session.now c.loop-item.session c.top.new.self c.args.steps c.loop-item.left c.top.new.left c.in_err-top.field-0.0 g (c.in_err-top.ensures.tops g.good))
