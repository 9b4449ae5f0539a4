-- From the start of the session to what the package comes to.
use Rattle.std.proofs.Common.{◌≡◌, [], List, map, ap, sym, subst, ◌∙◌}
use Rattle.pj_meaning.specs.Tree.{Text}
use Rattle.pj_meaning.specs.Content.{Content}
use Rattle.pj_meaning.specs.Outcome.{Outcome}
use Rattle.pj_meaning.specs.Packages.{all_items, pack}
use Rattle.pj_plain.specs.Held.{held_item, held_package}
use Rattle.pj_tree.specs.declared.item.TopItem.{TopItem}
use Rattle.pj_session.specs.Events.{Event}
use Rattle.pj_session.specs.Good.{Good}
use Rattle.pj_session.specs.Seen.{state_seen}
use Rattle.pj_session.specs.States.{run}
use Rattle.pj_build.specs.Packs.{Packs}
use Rattle.pj_build.specs.Evaluated.{kept}
use Rattle.pj_build.proofs.Packing.{good_start, start_seen, is_packed, nothing_loaded}
use Rattle.pj_build.proofs.pack.pack.Goals as goal

pub returns-in_default : goal.returns-in_default
returns-in_default c = c.nothing.ensures c.args.tree.now.name (pack (held_package c.args.tree.now) [] c.args.steps)

pub evaluate-ended-requires-clause-good : goal.evaluate-ended-requires-clause-good
evaluate-ended-requires-clause-good c =
    let s = c.in-Ok.session in
    let here : s.here ≡ c.args.tree.now.name = c.in-Ok.ensures.here ∙ c.as_str.ensures in
    subst (λ (es : List Event). Good s.here es) (sym c.in-Ok.ensures.events) (subst (λ (n : Text). Good n []) (sym here) (good_start c.args.tree.now.name c.requires.named))

pub outcome-outcome-requires-clause-alone : goal.outcome-outcome-requires-clause-alone
outcome-outcome-requires-clause-alone c =
    let e = c.evaluate-ended.ensures in
    nothing_loaded c.in-Ok.session c.evaluate-ended.new.session c.in-Ok.ensures.events e.here e.good e.loaded

pub returns : goal.returns
returns c =
    let s = c.in-Ok.session in
    let t = c.evaluate-ended.new.session in
    let p = held_package c.args.tree.now in
    let here : s.here ≡ p.name = c.in-Ok.ensures.here ∙ c.as_str.ensures in
    let given = all_items (map held_item c.as_slice.result.now) (run (state_seen s) c.args.steps) in
    let packs = c.with_output.ensures t.here (kept given) (c.outcome-outcome.ensures given c.evaluate-ended.ensures.ends) in
    let is : kept given ≡ pack p [] c.args.steps =
    ap (λ (l : List TopItem). kept (all_items (map held_item l) (run (state_seen s) c.args.steps))) c.as_slice.ensures
    ∙ is_packed p s c.args.steps (start_seen s p.name here c.in-Ok.ensures.events c.in-Ok.ensures.printed) in
    subst (λ (n : Text). Packs n (pack p [] c.args.steps) c.with_output.result) (c.evaluate-ended.ensures.here ∙ here)
    (subst (λ (o : Outcome Content). Packs t.here o c.with_output.result) is packs)
