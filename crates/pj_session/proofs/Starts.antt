-- The start of an image, after good events.
use Rattle.std.proofs.Common.{◌≡◌, ℕ, Bool, true, false, cond, ◌&&◌, ◌||◌, List, [], ◌∷◌, Option, Some, None, filter, refl, sym, ap, subst, ◌∙◌, arith}
use Rattle.std.specs.Prelude.{is_some}
use Rattle.std.specs.List.{list_any}
use Rattle.std.specs.Str.{bytes_eq}
use Rattle.pj_meaning.specs.Tree.{Text}
use Rattle.pj_meaning.specs.Names.{Id, base_name, same_id, same_ids}
use Rattle.pj_meaning.specs.Types.{TypeRow, all_below}
use Rattle.pj_meaning.specs.Methods.{Method, is_applicable}
use Rattle.pj_meaning.specs.State.{State}
use Rattle.pj_meaning.specs.Outcome.{choose}
use Rattle.pj_meaning.specs.Calls.{call_function}
use Rattle.pj_meaning.specs.Evaluation.{enter_at}
use Rattle.pj_meaning.specs.Script.{ended}
use Rattle.pj_meaning.specs.Using.{at_end, init_of, has_init, start_image}
use Rattle.pj_session.specs.States.{run}
use Rattle.pj_session.specs.Events.{Parts, Event, state_of}
use Rattle.pj_session.specs.Things.{thing_in, method_for}
use Rattle.pj_session.specs.Good.{Good}
use Rattle.pj_session.specs.Items.{got_value, got_ends, entered, started, init_name}
use Rattle.pj_session.proofs.Closed.{closed_state, closed}
use Rattle.pj_session.proofs.Picks.{FitAs, fit_in}
use Rattle.pj_session.proofs.Called.{function_called}

abbrev has_one : List Method → Bool
has_one [] = false
has_one (m ∷ ms) = true

-- some method of the function takes no argument where one applies to none
any_fits : (types : List TypeRow) (f : Id) (ms : List Method) → list_any (λ m. same_id m.fun f && same_ids m.signature []) ms ≡ has_one (filter (is_applicable types f []) ms)
any_fits types f [] = refl
any_fits types f (m ∷ ms) =
    ap (λ b. (same_id m.fun f && b) || list_any (λ m. same_id m.fun f && same_ids m.signature []) ms) (alike m.signature)
    ∙ one (same_id m.fun f && all_below types [] m.signature) (any_fits types f ms)
  where
    alike : (ts : List Id) → same_ids ts [] ≡ all_below types [] ts
    alike [] = refl
    alike (t ∷ ts) = refl

    one : (t : Bool) → list_any (λ m. same_id m.fun f && same_ids m.signature []) ms ≡ has_one (filter (is_applicable types f []) ms)
        → (t || list_any (λ m. same_id m.fun f && same_ids m.signature []) ms) ≡ has_one (cond t (m ∷ filter (is_applicable types f []) ms) (filter (is_applicable types f []) ms))
    one true rest = refl
    one false rest = rest

has_fit : (home name : Text) (o : Option Parts) (ms : List Method) → FitAs home name o ms → has_one ms ≡ is_some o
has_fit home name None ms fit = ap has_one fit
has_fit home name (Some d) ms fit = ap has_one fit.1

module _ (here : Text) (es : List Event) (printed : Text) (good : Good here es) where
  abbrev s : State
  s = closed_state here es printed

  init_there : (name : Text) → bytes_eq base_name name ≡ false → has_init s name ≡ is_some (method_for 0 (thing_in here es name init_name))
  init_there name other =
      any_fits s.types (init_of name) _
      ∙ has_fit name init_name (method_for 0 (thing_in here es name init_name)) _ (fit_in here name init_name 0 es good.each other)

  starts_closed : (name : Text) (left : ℕ) → bytes_eq base_name name ≡ false
      → start_image name (run s left) ≡ ended (got_ends s (started (method_for 0 (thing_in here es name init_name)) left))
  unfolding choose ended
  starts_closed name left other =
      ap (λ b. choose b (λ q. ended (call_function (enter_at q.left) q.state.newest 0 (init_of name) [] q)) at_end (run s left)) (init_there name other)
      ∙ one (method_for 0 (thing_in here es name init_name)) (function_called here es printed good name init_name [] left left other (omega arith))
    where
      one : (o : Option Parts) → call_function (enter_at left) s.newest 0 (init_of name) [] (run s left) ≡ got_ends s (got_value (entered o (init_of name) [] left))
          → choose (is_some o) (λ q. ended (call_function (enter_at q.left) q.state.newest 0 (init_of name) [] q)) at_end (run s left) ≡ ended (got_ends s (started o left))
      one None is = refl
      one (Some d) is = ap ended is

pub starts : (here : Text) (es : List Event) (printed : Text) → Good here es → (name : Text) (left : ℕ) → bytes_eq base_name name ≡ false
    → start_image name (run (state_of here es printed) left) ≡ ended (got_ends (state_of here es printed) (started (method_for 0 (thing_in here es name init_name)) left))
starts here es printed good name left other =
    subst (λ s. start_image name (run s left) ≡ ended (got_ends s (started (method_for 0 (thing_in here es name init_name)) left))) (sym (closed here es printed good.each)) (starts_closed here es printed good name left other)
