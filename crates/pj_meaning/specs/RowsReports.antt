-- Rows on the lines of a report, over compiled code whose validity is given.
use Rattle.std.specs.Prelude.{◌≡◌, ℕ, Bool, true, false, List, [], ◌∷◌, Option, Some, None}
use Prim.Native.String.{String}
use lib.Chars.{codes}
use Rattle.pj_meaning.specs.Names.{Id, id, int_type, bool_type}
use Rattle.pj_meaning.specs.State.{State, Wanted}
use Rattle.pj_meaning.specs.Reports.{Compiled, Listing, reported_output}
use Rattle.pj_meaning.specs.Script.{run_script}
use Rattle.pj_meaning.specs.Using.{NoFile, use_from}
use Rattle.pj_meaning.specs.Written.{int, show, using}
use Rattle.pj_meaning.specs.Tree.{TopItem}

abbrev directive : Id → List Id → Wanted
directive f types = record { fun = f; types = types }

abbrev code : Id → Option (List Id) → (State → Bool) → Compiled
code f types valid = record { fun = f; parameters = types; is_valid = valid }

abbrev listing : String → List Wanted → List Compiled → Listing
listing image wanted compiled = record { image = codes image; wanted = wanted; compiled = compiled }

abbrev a_g : Id
a_g = id (codes "A") (codes "g")

abbrev b_h : Id
b_h = id (codes "B") (codes "h")

abbrev Reports : List TopItem → ℕ → List Listing → String → Type 0
Reports items steps listings text =
    reported_output (λ s. listings) (run_script (use_from (λ name. NoFile)) items steps) ≡ codes text

abbrev holds : State → Bool
holds s = true

abbrev broken : State → Bool
broken s = false

abbrev pub both_are_kept : Type 0
both_are_kept =
    Reports [] 9 (listing "A" (directive a_g (int_type ∷ []) ∷ []) (code a_g (Some (int_type ∷ [])) holds ∷ []) ∷ listing "B" (directive b_h (int_type ∷ []) ∷ []) (code b_h (Some (int_type ∷ [])) holds ∷ []) ∷ []) "A A.g(Int64) kept\nB B.h(Int64) kept\nkept 2 dropped 0\n"

abbrev pub both_are_dropped : Type 0
both_are_dropped =
    Reports [] 9 (listing "A" (directive a_g (int_type ∷ []) ∷ []) (code a_g (Some (int_type ∷ [])) broken ∷ []) ∷ listing "B" (directive b_h (int_type ∷ []) ∷ []) (code b_h (Some (int_type ∷ [])) broken ∷ []) ∷ []) "A A.g(Int64) dropped\nB B.h(Int64) dropped\nkept 0 dropped 2\n"

-- the directives are repeated, and one has no code; code for other types, and for no single type, is passed over
abbrev pub each_directive_once_by_its_first_code : Type 0
each_directive_once_by_its_first_code =
    Reports [] 9 (listing "A" (directive b_h (bool_type ∷ int_type ∷ []) ∷ directive a_g [] ∷ directive a_g (int_type ∷ []) ∷ directive b_h (bool_type ∷ int_type ∷ []) ∷ []) (code b_h None holds ∷ code b_h (Some (int_type ∷ bool_type ∷ [])) holds ∷ code a_g (Some (int_type ∷ [])) holds ∷ code b_h (Some (bool_type ∷ int_type ∷ [])) broken ∷ code b_h (Some (bool_type ∷ int_type ∷ [])) holds ∷ []) ∷ []) "A B.h(Bool, Int64) dropped\nA A.g(Int64) kept\nkept 1 dropped 1\n"

-- the line of the ending comes first
abbrev pub lines_follow_the_end_of_the_budget : Type 0
lines_follow_the_end_of_the_budget = Reports (show (int 1) ∷ show (int 2) ∷ []) 3 [] "1\nsteps\nkept 0 dropped 0\n"

abbrev pub nothing_follows_a_missing_image : Type 0
nothing_follows_a_missing_image = Reports (show (int 1) ∷ using ("A" ∷ []) ∷ []) 9 [] "1\nmissing A.pimg\n"
