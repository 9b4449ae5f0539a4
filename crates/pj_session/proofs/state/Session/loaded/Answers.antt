-- The place of an image's name is one less than the image's number.
use Rattle.std.proofs.Common.{◌≡◌, ◌<◌, None, sym, ap, ◌∙◌, arith}
use Rattle.std.specs.Prelude.{is_some}
use Rattle.pj_session.specs.Places.{image_number}
use Rattle.pj_session.specs.Seen.{events_of}
use Rattle.pj_session.proofs.Numbered.{number_there, number_found, number_not_found, number_below}
use Rattle.pj_session.proofs.state.Session.loaded.Goals as goal

pub returns-in_err-at-clause-number : goal.returns-in_err-at-clause-number
returns-in_err-at-clause-number c =
    let t = c.args.self.now.tables in
    c.from_residual.ensures ∙ number_not_found t.order.items t.own t.things.items t.images.items t.packages c.args.name.now t.ordered t.named c.in_err-at.ensures

pub returns-in_err-at-clause-there : goal.returns-in_err-at-clause-there
returns-in_err-at-clause-there c =
    let s = c.args.self.now in
    let t = s.tables in
    ap is_some (c.from_residual.ensures ∙ number_not_found t.order.items t.own t.things.items t.images.items t.packages c.args.name.now t.ordered t.named c.in_err-at.ensures)
    ∙ number_there (events_of s) c.args.name.now

pub returns-clause-number : goal.returns-clause-number
returns-clause-number c =
    let t = c.args.self.now.tables in
    number_found t.order.items t.own t.things.items t.images.items t.packages c.args.name.now t.ordered t.named c.in_ok-at.at.0 c.in_ok-at.ensures

pub returns-clause-there : goal.returns-clause-there
returns-clause-there c =
    let s = c.args.self.now in
    let t = s.tables in
    ap is_some (number_found t.order.items t.own t.things.items t.images.items t.packages c.args.name.now t.ordered t.named c.in_ok-at.at.0 c.in_ok-at.ensures)
    ∙ number_there (events_of s) c.args.name.now
