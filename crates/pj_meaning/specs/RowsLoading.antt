-- Rows on reads and refusals of images.
use Rattle.std.specs.Prelude.{List, [], ◌∷◌, ◌≡◌, if◌then◌else◌, ℕ, replicate, Option, Some, None, option_map, option_and_then}
use Rattle.pj_meaning.specs.Tree.{TopItem}
use Prim.Native.String.{String}
use Rattle.pj_meaning.specs.Packages.{Source}
use Rattle.std.specs.Str.{bytes_eq}
use Rattle.pj_meaning.specs.Names.{main_name}
use Rattle.pj_meaning.specs.Base.{start}
use Rattle.pj_meaning.specs.State.{State}
use Rattle.pj_meaning.specs.Outcome.{Run}
use Rattle.pj_meaning.specs.Script.{run_script, Refusal, IsLoaded, Dependency, Relocation, Full}
use Rattle.pj_meaning.specs.Using.{Files, Image, Reading, NoFile, TooMuch, Faulty, use_from, refusal}
use Rattle.pj_meaning.specs.Endings.{whole_output}
use lib.Chars.{codes}
use Rattle.pj_meaning.specs.Written.{int, str, call, def, using, show, source, image_of, built_onto, reading_of, files_of}

abbrev a : Source
a = source "A" [] (def "__init__" [] (call "println" (str "a" ∷ [])) ∷ [])

abbrev b : Source
b = source "B" ("A" ∷ []) (def "__init__" [] (call "println" (str "b" ∷ [])) ∷ [])

abbrev used : List TopItem
used = show (int 0) ∷ using ("B" ∷ []) ∷ show (int 1) ∷ []

-- a script over any files
abbrev Finds : Files → String → Type 0
Finds files text = whole_output (run_script (use_from files) used 1000000) ≡ codes text

-- files in which one package's image reads otherwise
abbrev but : String → Reading → Files
but p reading q = if bytes_eq (codes p) q then reading else files_of (built_onto [] (a ∷ b ∷ [])) q

-- the image of A or B as it was built, then changed
abbrev changed : String → (Image → Image) → Reading
changed p change = reading_of (option_map change (image_of (built_onto [] (a ∷ b ∷ [])) (codes p)))

abbrev pub all_is_there : Type 0
all_is_there = Finds (files_of (built_onto [] (a ∷ b ∷ []))) "0\na\nb\n1\n"

abbrev pub a_missing_image : Type 0
a_missing_image = Finds (but "B" NoFile) "0\nmissing B.pimg\n"

abbrev pub a_missing_dependency : Type 0
a_missing_dependency = Finds (but "A" NoFile) "0\nmissing A.pimg\n"

abbrev pub an_image_that_is_too_long : Type 0
an_image_that_is_too_long = Finds (but "A" TooMuch) "0\ntoo long A.pimg\n"

abbrev pub a_wrong_form_is_told_before_dependencies_are_read : Type 0
a_wrong_form_is_told_before_dependencies_are_read = Finds (but "B" (Faulty 13)) "0\nrefused B.pimg Format 13\n"

abbrev pub a_dependency_of_a_wrong_form : Type 0
a_dependency_of_a_wrong_form = Finds (but "A" (Faulty 0)) "0\nrefused A.pimg Format 0\n"

abbrev pub an_image_of_another_name : Type 0
an_image_of_another_name = Finds (but "B" (changed "A" (λ image. image))) "0\nrefused B.pimg Format 1\n"

abbrev pub a_dependency_that_was_built_again : Type 0
a_dependency_that_was_built_again =
    Finds (but "A" (changed "A" (λ image. record image { identity = 171 ∷ 5 ∷ [] }))) "0\na\nrefused B.pimg Dependency A 0001 ab05\n"

abbrev pub a_dependency_comes_before_an_entry : Type 0
a_dependency_comes_before_an_entry =
    Finds (but "B" (changed "B" (λ image. record image { needs = record { name = codes "A"; identity = 255 ∷ [] } ∷ []; misfit = λ s. Some 3 }))) "0\na\nrefused B.pimg Dependency A ff 0001\n"

abbrev pub an_entry_that_does_not_fit : Type 0
an_entry_that_does_not_fit = Finds (but "B" (changed "B" (λ image. record image { misfit = λ s. Some 12 }))) "0\na\nrefused B.pimg Relocation 12\n"

-- A names a dependency that B doesn't record
abbrev pub a_dependencys_own_dependency_is_not_loaded_for_it : Type 0
a_dependencys_own_dependency_is_not_loaded_for_it =
    Finds (but "A" (changed "A" (λ image. record image { needs = record { name = codes "Z"; identity = 16 ∷ [] } ∷ [] }))) "0\nrefused A.pimg Dependency Z 10 none\n"

-- a run in which so many other images are loaded
abbrev crowded : ℕ → Run
crowded count = record { state = record (start main_name) { images = replicate count (record { name = codes "Y"; identity = [] }) }; left = 9 }

abbrev pub the_last_image_that_has_room : Type 0
the_last_image_that_has_room = whole_output (use_from (files_of (built_onto [] (a ∷ b ∷ []))) (codes "A") (crowded 1023)) ≡ codes "a\n"

abbrev pub an_image_too_many : Type 0
an_image_too_many = whole_output (use_from (files_of (built_onto [] (a ∷ b ∷ []))) (codes "A") (crowded 1024)) ≡ codes "full A.pimg\n"

abbrev pub images_loaded_before_stay : Type 0
images_loaded_before_stay = whole_output (use_from (files_of (built_onto [] (a ∷ b ∷ []))) (codes "B") (crowded 1023)) ≡ codes "a\nfull B.pimg\n"

-- what refuses A's image, changed, in a state
abbrev refused_in : State → (Image → Image) → Option Refusal
refused_in s change = option_and_then (λ image. refusal (change image) s) (image_of (built_onto [] (a ∷ b ∷ [])) (codes "A"))

abbrev pub an_image_that_is_loaded : Type 0
an_image_that_is_loaded = refused_in (record (start main_name) { images = record { name = codes "A"; identity = [] } ∷ [] }) (λ image. record image { misfit = λ s. Some 0 }) ≡ Some IsLoaded

abbrev pub a_package_that_is_built_counts_as_loaded : Type 0
a_package_that_is_built_counts_as_loaded = refused_in (start (codes "A")) (λ image. image) ≡ Some IsLoaded

abbrev pub a_package_that_is_built_has_no_identity : Type 0
a_package_that_is_built_has_no_identity =
    refused_in (start (codes "T")) (λ image. record image { needs = record { name = codes "T"; identity = 7 ∷ [] } ∷ [] }) ≡ Some (Dependency (codes "T") (7 ∷ []) None)

abbrev pub a_package_that_is_built_takes_a_place : Type 0
a_package_that_is_built_takes_a_place = refused_in (record (start (codes "T")) { images = (crowded 1023).state.images }) (λ image. image) ≡ Some Full

abbrev pub an_entry_comes_before_the_room : Type 0
an_entry_comes_before_the_room = refused_in (crowded 1024).state (λ image. record image { misfit = λ s. Some 4 }) ≡ Some (Relocation 4)
