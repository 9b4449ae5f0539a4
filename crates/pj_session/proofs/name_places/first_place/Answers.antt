-- No name so far is the one that is sought.
use Rattle.std.proofs.Common.{◌≡◌, ◌+◌, ◌≤◌, length, true, sym, ◌∙◌, arith}
use Rattle.pj_session.specs.Indexed.{names_in_image}
use Rattle.pj_session.proofs.FirstPlaces.{nowhere, one_more, so_many, stands_first}
use Rattle.pj_session.proofs.name_places.first_place.Goals as goal

pub returns-then-is_named : goal.returns-then-is_named
returns-then-is_named c = sym (stands_first c.args.name.now (names_in_image c.args.image.now) c.loop-place.place (c.is_named.ensures.yes c.if-is_named.true) c.loop-place.invariant)

pub loop-place-preserved : goal.loop-place-preserved
loop-place-preserved c =
    one_more c.args.name.now (names_in_image c.args.image.now) c.loop-place.place c.loop-place.invariant
    (λ h. let yes = c.is_named.ensures.no h in let no = c.if-is_named.false in absurd cc)

pub returns : goal.returns
returns c =
    let few = c.requires.few in
    let all = so_many c.args.image.now in
    let le : length (names_in_image c.args.image.now) ≤ c.loop-place.place = omega (arith, few, all, c.len.ensures, c.len-2.ensures, c.saturating_add-count.ensures, c.loop-place-test.false) in
    sym (nowhere c.args.name.now (names_in_image c.args.image.now) c.loop-place.place le c.loop-place.invariant)
