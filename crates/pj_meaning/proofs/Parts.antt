-- A list of items runs part by part.
use Rattle.std.proofs.Common.{◌≡◌, [], ◌∷◌, refl, ◌∙◌}
use Rattle.pj_meaning.specs.Outcome.{Run}
use Rattle.pj_meaning.specs.Script.{Ending, AtEnd, Uncaught, OutOfSteps, Absent, TooLong, Refused, Ended, onward_ending, then_run, run_item, run_items}
use Rattle.pj_meaning.specs.Laws.{a_script_runs_part_by_part}

onward_same : (ending : Ending) (r : Run) (f g : Run → Ended) → ((q : Run) → f q ≡ g q) → onward_ending ending r f ≡ onward_ending ending r g
onward_same AtEnd r f g h = h r
onward_same (Uncaught e) r f g h = refl
onward_same OutOfSteps r f g h = refl
onward_same (Absent file) r f g h = refl
onward_same (TooLong file) r f g h = refl
onward_same (Refused file why) r f g h = refl

pub run_same : (e : Ended) (f g : Run → Ended) → ((q : Run) → f q ≡ g q) → then_run e f ≡ then_run e g
unfolding then_run
run_same e f g h = onward_same e.ending e.last f g h

onward_twice : (ending : Ending) (r : Run) (f g : Run → Ended) → onward_ending ending r (λ q. then_run (f q) g) ≡ then_run (onward_ending ending r f) g
unfolding then_run
onward_twice AtEnd r f g = refl
onward_twice (Uncaught e) r f g = refl
onward_twice OutOfSteps r f g = refl
onward_twice (Absent file) r f g = refl
onward_twice (TooLong file) r f g = refl
onward_twice (Refused file why) r f g = refl

pub run_twice : (e : Ended) (f g : Run → Ended) → then_run e (λ q. then_run (f q) g) ≡ then_run (then_run e f) g
unfolding then_run
run_twice e f g = onward_twice e.ending e.last f g

nothing_first : (r : Run) (f : Run → Ended) → f r ≡ then_run (record { ending = AtEnd; last = r }) f
unfolding then_run
nothing_first r f = refl

pub parts_law : a_script_runs_part_by_part
parts_law uses [] ys r = nothing_first r (run_items uses ys)
parts_law uses (x ∷ xs) ys r =
    run_same (run_item uses x r) _ _ (λ q. parts_law uses xs ys q) ∙ run_twice (run_item uses x r) (run_items uses xs) (run_items uses ys)
