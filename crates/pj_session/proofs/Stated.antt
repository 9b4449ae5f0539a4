-- The laws as they are stated, from what the files beside prove.
use Rattle.std.specs.Prelude.{[], Ok}
use Rattle.std.proofs.Common.{◌≡◌, ◌++◌, None, sym, ap, subst, ◌∙◌}
use Rattle.pj_meaning.specs.Names.{id}
use Rattle.pj_meaning.specs.Methods.{pick}
use Rattle.pj_meaning.specs.Lookup.{role_at}
use Rattle.pj_meaning.specs.State.{State, role_of, is_loaded}
use Rattle.pj_session.specs.Laws.{an_expression_gives_its_number, charges_are_only_taken, an_event_comes_last, events_stay_good, output_stands_beside_events, base_stays_as_it_is, a_name_is_what_the_events_say, no_module_binds_a_name_of_base, an_unqualified_name_of_base_is_bases, a_call_picks_the_only_method, a_module_is_loaded_as_the_events_say, a_line_prints_what_is_asked, a_definition_adds_its_method, a_constant_is_bound_behind_its_value, a_start_calls_init, an_image_is_loaded_once, a_wrong_reading_ends_the_run, a_refused_image_changes_nothing, an_image_is_loaded_and_started, a_build_keeps_its_events}
use Rattle.pj_session.specs.States.{BaseLike}
use Rattle.pj_session.specs.Events.{ints, state_of}
use Rattle.pj_session.specs.Numbers.{number_in}
use Rattle.pj_session.specs.Things.{thing_in, has_package, method_for, RoleAs, PickAs}
use Rattle.pj_session.specs.Uses.{refused_for}
use Rattle.pj_session.proofs.Closed.{closed}
use Rattle.pj_session.proofs.Evaluates.{evaluates, falls}
use Rattle.pj_session.proofs.Roles.{role_means}
use Rattle.pj_session.proofs.Picks.{picks}
use Rattle.pj_session.proofs.Known.{like, loaded, base_free, base_at}
use Rattle.pj_session.proofs.Called.{as_got}
use Rattle.pj_session.proofs.Shows.{shows}
use Rattle.pj_session.proofs.Defines.{defines, binds}
use Rattle.pj_session.proofs.More.{good_more, state_more, state_printed}
use Rattle.pj_session.proofs.Starts.{starts}
use Rattle.pj_session.proofs.Built.{built}
use Rattle.pj_session.proofs.Uses.{has_is, full_is, loaded_already, wrong_reading, refused, loads}

pub expression_law : an_expression_gives_its_number
expression_law s base_like home depth shallow ps zs count e plain n left fuel =
    evaluates s base_like depth shallow home ps zs count e plain n left fuel ∙ as_got s (number_in ps zs e left)

pub charges_law : charges_are_only_taken
charges_law = falls

pub last_law : an_event_comes_last
last_law = state_more

pub good_law : events_stay_good
good_law = good_more

pub output_law : output_stands_beside_events
output_law here es printed good text =
    state_printed here es printed text good ∙ ap (λ (s : State). state_of here es (s.printed ++ text)) (sym (closed here es printed good.each))

pub base_law : base_stays_as_it_is
base_law here es printed good = subst BaseLike (sym (closed here es printed good.each)) (like here es printed good)

pub name_law : a_name_is_what_the_events_say
name_law here es printed good home name other =
    subst (λ (s : State). RoleAs home name (thing_in here es home name) (role_of s.bindings home name)) (sym (closed here es printed good.each)) (role_means here home name es good.each other)

pub free_law : no_module_binds_a_name_of_base
free_law here es printed good name of_base =
    subst (λ (s : State). role_of s.bindings here name ≡ None) (sym (closed here es printed good.each)) (base_free here es printed good name of_base)

pub unqualified_law : an_unqualified_name_of_base_is_bases
unqualified_law here es printed good name role of_base is =
    subst (λ (s : State). role_at s here [] name ≡ Ok role) (sym (closed here es printed good.each)) (base_at here es printed good name role of_base is)

pub pick_law : a_call_picks_the_only_method
pick_law here es printed good home name n other =
    subst (λ (s : State). PickAs home name (method_for n (thing_in here es home name)) (pick s.types s.methods s.newest (id home name) (ints n))) (sym (closed here es printed good.each)) (picks here home name n es good.each other)

pub loaded_law : a_module_is_loaded_as_the_events_say
loaded_law here es printed good home =
    subst (λ (s : State). is_loaded s home ≡ has_package here es home) (sym (closed here es printed good.each)) (loaded here es printed good home)

pub line_law : a_line_prints_what_is_asked
line_law = shows

pub define_law : a_definition_adds_its_method
define_law = defines

pub const_law : a_constant_is_bound_behind_its_value
const_law = binds

pub start_law : a_start_calls_init
start_law = starts

pub once_law : an_image_is_loaded_once
once_law here es printed good files name left has = loaded_already (state_of here es printed) files name left (has_is here es printed good name ∙ has)

pub reading_law : a_wrong_reading_ends_the_run
reading_law here es printed good files name left e has fault =
    wrong_reading (state_of here es printed) files name left e (has_is here es printed good name ∙ has) fault

pub refused_law : a_refused_image_changes_nothing
refused_law here es printed good files name image left why has read same alone is =
    let s = state_of here es printed in
    refused s files name image left (has_is here es printed good name ∙ has) read same alone why (ap (refused_for (image.misfit s)) (full_is here es printed good) ∙ is)

pub load_law : an_image_is_loaded_and_started
load_law = loads

pub build_law : a_build_keeps_its_events
build_law = built
