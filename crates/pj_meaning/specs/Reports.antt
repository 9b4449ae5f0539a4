-- What `report` puts behind a run: which compiled code of the loaded images still holds.
use Rattle.std.specs.Prelude.{Bool, true, false, List, [], ◌∷◌, ◌++◌, ◌&&◌, Option, Some, None, find, flat_map, filter, length, not, unwrap_or, option_map, codes, if◌then◌else◌}
use Rattle.std.specs.List.{list_any}
use Rattle.std.specs.Fmt.{decimal}
use Rattle.pj_meaning.specs.Tree.{Text}
use Rattle.pj_meaning.specs.Names.{Id, same_id, same_ids}
use Rattle.pj_meaning.specs.State.{State, Wanted}
use Rattle.pj_meaning.specs.Printing.{function_text, call_text}
use Rattle.pj_meaning.specs.Script.{Ending, AtEnd, Uncaught, OutOfSteps, Ended}
use Rattle.pj_meaning.specs.Endings.{whole_output}

-- Compiled code of a method of this function, and the types of its parameters, if each is known to be one type. Whether
-- it is valid at the newest world of a state is for those to say who know what it rests on.
pub record Compiled : Type 0 where
  pub fun : Id
  pub parameters : Option (List Id)
  pub is_valid : State → Bool

-- a loaded image with its directives and its compiled code, both in the order in which it holds them
pub record Listing : Type 0 where
  pub image : Text
  pub wanted : List Wanted
  pub compiled : List Compiled

abbrev pub same_wanted : Wanted → Wanted → Bool
same_wanted a b = same_id a.fun b.fun && same_ids a.types b.types

-- each directive once, at its first place, without those before
abbrev pub different : List Wanted → List Wanted → List Wanted
different before [] = []
different before (w ∷ ws) = if list_any (same_wanted w) before then different before ws else w ∷ different (w ∷ before) ws

abbrev pub is_made_for : Wanted → Compiled → Bool
is_made_for w code = same_id code.fun w.fun && unwrap_or (option_map (same_ids w.types) code.parameters) false

-- a line of the report: a directive of an image, and whether the code that was compiled for it is kept
pub record Verdict : Type 0 where
  pub image : Text
  pub directive : Wanted
  pub is_kept : Bool

-- what was compiled for a directive is the first code of the image that is made for it
abbrev pub judged : State → Text → Wanted → Option Compiled → List Verdict
judged s image w None = []
judged s image w (Some code) = record { image = image; directive = w; is_kept = code.is_valid s } ∷ []

-- in the order of loading, and of the directives in each image; a directive without code has no line
abbrev pub verdicts : State → List Listing → List Verdict
verdicts s listings =
    flat_map (λ l. flat_map (λ w. judged s l.image w (find (is_made_for w) l.compiled)) (different [] l.wanted)) listings

abbrev pub verdict_line : Verdict → Text
verdict_line v =
    v.image ++ (codes " " ++ (call_text (function_text v.directive.fun) v.directive.types ++ (if v.is_kept then codes " kept\n" else codes " dropped\n")))

abbrev pub count_line : List Verdict → Text
count_line vs =
    codes "kept " ++ (decimal (length (filter (λ v. v.is_kept) vs)) ++ (codes " dropped " ++ (decimal (length (filter (λ v. not v.is_kept) vs)) ++ codes "\n")))

abbrev pub report_lines : State → List Listing → Text
report_lines s listings = let vs = verdicts s listings in flat_map verdict_line vs ++ count_line vs

-- the lines follow where the script was evaluated to its end, to an error or to the end of its budget
abbrev pub is_reported : Ending → Bool
is_reported AtEnd = true
is_reported (Uncaught e) = true
is_reported OutOfSteps = true
is_reported _ = false

-- all that `report` puts: what the run puts, and the lines on the images that are loaded in its last state
abbrev pub reported_output : (State → List Listing) → Ended → Text
reported_output listings e =
    whole_output e ++ (if is_reported e.ending then report_lines e.last.state (listings e.last.state) else [])
