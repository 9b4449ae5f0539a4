-- An own thing is found at the place of its name.
use Rattle.std.proofs.Common.{◌≡◌, ◌∙◌, ap, sym, None, Some, slice_get}
use Rattle.std.specs.Prelude.{option_map}
use Rattle.pj_session.specs.Lent.{thing_seen}
use Rattle.pj_session.specs.Merged.{thing_in_own}
use Rattle.pj_session.proofs.Ordered.{found, not_found}
use Rattle.pj_session.proofs.state.Tables.own.Goals as goal

pub returns-in_err-at : goal.returns-in_err-at
returns-in_err-at c =
    let s = c.args.self.now in
    ap (option_map thing_seen) c.from_residual.ensures ∙ sym (not_found s.order.items s.own s.things.items s.images.items c.args.name.now s.ordered c.in_err-at.ensures)

pub returns-in_err-own : goal.returns-in_err-own
returns-in_err-own c =
    let s = c.args.self.now in
    let got : None ≡ slice_get s.things.items c.in_ok-at.at.0 = rw c.as_slice.ensures.value at c.in_err-own.ensures in
    ap (option_map thing_seen) c.from_residual-in_err-own.ensures
    ∙ ap (option_map thing_in_own) got ∙ sym (found s.order.items s.own s.things.items s.images.items c.args.name.now c.in_ok-at.at.0 s.ordered c.in_ok-at.ensures)

pub returns : goal.returns
returns c =
    let s = c.args.self.now in
    let got : Some c.in_ok-own.own.now ≡ slice_get s.things.items c.in_ok-at.at.0 = rw c.as_slice.ensures.value at c.in_ok-own.ensures in
    ap Some c.thing.ensures
    ∙ ap (option_map thing_in_own) got ∙ sym (found s.order.items s.own s.things.items s.images.items c.args.name.now c.in_ok-at.at.0 s.ordered c.in_ok-at.ensures)
