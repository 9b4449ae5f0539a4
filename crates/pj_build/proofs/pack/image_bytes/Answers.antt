-- The image of what the session has of its own.
use Rattle.std.proofs.Common.{List, length, ap, sym, subst, ◌∙◌}
use Rattle.pj_meaning.specs.Tree.{Text}
use Rattle.pj_content.specs.Content.{content_of}
use Rattle.pj_session.specs.Events.{Event}
use Rattle.pj_session.specs.Good.{Good}
use Rattle.pj_session.specs.declared.own.Own.{Own}
use Rattle.pj_build.specs.Own.{own_events}
use Rattle.pj_build.specs.Built.{Keeps}
use Rattle.pj_build.proofs.OwnOnly.{as_many}
use Rattle.pj_build.proofs.Packing.{is_own, where_spelled}
use Rattle.pj_build.proofs.pack.image_bytes.Goals as goal

pub image_of-requires-clause-each : goal.image_of-requires-clause-each
image_of-requires-clause-each c =
    let t = c.args.session.now.tables in
    as_many t.order.items t.own t.things.items t.images.items t.ordered ∙ ap (λ (os : List Own). length os) (sym c.as_slice-things.ensures.value)

pub image_of-requires-clause-good : goal.image_of-requires-clause-good
image_of-requires-clause-good c =
    let s = c.args.session.now in
    let t = s.tables in
    subst (λ (os : List Own). Good c.as_str.result.now (own_events t.own os)) (sym c.as_slice-things.ensures.value)
    (subst (λ (n : Text). Good n (own_events t.own t.things.items)) (sym c.as_str.ensures)
    (subst (λ (es : List Event). Good s.here es) (is_own s c.requires.alone) c.requires.good))

pub returns : goal.returns
returns c =
    let s = c.args.session.now in
    let t = s.tables in
    let i = c.in_ok-image.image in
    let e = c.in_ok-image.ensures in
    let keeps : Keeps s.here t.own t.things.items (content_of i) =
    subst (λ (n : Text). Keeps n t.own t.things.items (content_of i)) c.as_str.ensures (subst (λ (os : List Own). Keeps c.as_str.result.now t.own os (content_of i)) c.as_slice-things.ensures.value e.content) in
    where_spelled s c.requires.alone i c.spelled.result (e.called ∙ c.as_str.ensures) keeps e.no_misfit c.spelled.ensures.file c.spelled.ensures.short
