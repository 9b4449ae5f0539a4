-- `using` of an image without dependencies, after good events.
use Rattle.std.proofs.Common.{◌≡◌, ℕ, suc, Bool, true, false, cond, not, ◌&&◌, ◌||◌, List, [], ◌∷◌, ◌++◌, Option, Some, None, option_map, length, nat_le, refl, ap, ◌∙◌}
use Rattle.std.specs.Prelude.{is_some}
use Rattle.std.specs.Str.{bytes_eq}
use Rattle.pj_meaning.specs.Tree.{Text}
use Rattle.pj_meaning.specs.Names.{base_name, main_name}
use Rattle.pj_meaning.specs.State.{State}
use Rattle.pj_meaning.specs.Outcome.{choose}
use Rattle.pj_meaning.specs.Script.{Refusal, Format, Relocation, Full, Ending, Absent, TooLong, Refused, ended, then_run}
use Rattle.pj_meaning.specs.Packages.{add}
use Rattle.pj_meaning.specs.Using.{Image, Reading, NoFile, TooMuch, Faulty, Holds, Files, image_file, has_image, is_full, or_refusal, refusal, at_end, ends, load_unless, start_image, load_and_start, with_image, load_needs, use_from}
use Rattle.pj_session.specs.States.{run}
use Rattle.pj_session.specs.Events.{Event, Defines, Binds, Loads, with_event, state_of}
use Rattle.pj_session.specs.Things.{image_in, thing_in, method_for}
use Rattle.pj_session.specs.Good.{Good, Plainly}
use Rattle.pj_session.specs.Items.{got_ends, started, init_name}
use Rattle.pj_session.specs.Uses.{counts_loaded, image_count, no_room, refused_for, read_fault, held_by}
use Rattle.pj_session.proofs.Texts.{text_itself, bytes_eq-comm}
use Rattle.pj_session.proofs.Closed.{closed, images_in}
use Rattle.pj_session.proofs.Known.{images_loaded}
use Rattle.pj_session.proofs.More.{good_more, state_more}
use Rattle.pj_session.proofs.Starts.{starts}

-- over any state

pub loaded_already : (s : State) (files : Files) (name : Text) (left : ℕ) → has_image s name ≡ true → use_from files name (run s left) ≡ at_end (run s left)
unfolding choose
loaded_already s files name left has = rw has refl

reads : (s : State) (files : Files) (name : Text) (left : ℕ) → has_image s name ≡ false
    → use_from files name (run s left) ≡ with_image (files name) name (λ image q. then_run (load_needs files image.needs q) (load_and_start image)) (run s left)
unfolding choose
reads s files name left has = rw has refl

pub wrong_reading : (s : State) (files : Files) (name : Text) (left : ℕ) (e : Ending) → has_image s name ≡ false → read_fault (files name) name ≡ Some e
    → use_from files name (run s left) ≡ ends e (run s left)
unfolding choose
wrong_reading s files name left e has fault = reads s files name left has ∙ one (files name) fault
  where
    one : (r : Reading) → read_fault r name ≡ Some e → with_image r name (λ image q. then_run (load_needs files image.needs q) (load_and_start image)) (run s left) ≡ ends e (run s left)
    one NoFile is = let same : Absent (image_file name) ≡ e = cc in ap (λ x. ends x (run s left)) same
    one TooMuch is = let same : TooLong (image_file name) ≡ e = cc in ap (λ x. ends x (run s left)) same
    one (Faulty n) is = let same : Refused (image_file name) (Format n) ≡ e = cc in ap (λ x. ends x (run s left)) same
    one (Holds image) is = two (bytes_eq image.name name) is
      where
        two : (t : Bool) → cond t None (Some (Refused (image_file name) (Format 1))) ≡ Some e
            → choose t (λ q. then_run (load_needs files image.needs q) (load_and_start image)) (ends (Refused (image_file name) (Format 1))) (run s left) ≡ ends e (run s left)
        two true is' = cc
        two false is' = let same : Refused (image_file name) (Format 1) ≡ e = cc in ap (λ x. ends x (run s left)) same

module _ (s : State) (files : Files) (name : Text) (image : Image) (left : ℕ) (has : has_image s name ≡ false) (read : files name ≡ Holds image) (same : image.name ≡ name) (alone : image.needs ≡ []) where
  comes_to : use_from files name (run s left) ≡ then_run (load_unless (refusal image s) image (run s left)) (start_image image.name)
  unfolding choose then_run
  comes_to =
      reads s files name left has
      ∙ ap (λ r. with_image r name (λ i q. then_run (load_needs files i.needs q) (load_and_start i)) (run s left)) read
      ∙ (rw (same, text_itself name, alone) refl)

  why_not : refusal image s ≡ refused_for (image.misfit s) (is_full s)
  why_not = rw (same, has, alone) (one (image.misfit s) (is_full s))
    where
      one : (entry : Option ℕ) (full : Bool) → or_refusal (option_map Relocation entry) (cond full (Some Full) None) ≡ refused_for entry full
      one (Some k) full = refl
      one None true = refl
      one None false = refl

  pub refused_as : (why : Refusal) → refusal image s ≡ Some why → use_from files name (run s left) ≡ ends (Refused (image_file name) why) (run s left)
  unfolding then_run
  refused_as why is =
      comes_to ∙ ap (λ o. then_run (load_unless o image (run s left)) (start_image image.name)) is
      ∙ ap (λ n. ends (Refused (image_file n) why) (run s left)) same

  pub accepted_as : refusal image s ≡ None → use_from files name (run s left) ≡ start_image name (run (with_event s (Loads (held_by image s))) left)
  unfolding then_run
  accepted_as is =
      comes_to ∙ ap (λ o. then_run (load_unless o image (run s left)) (start_image image.name)) is
      ∙ ap (λ n. start_image n (run (add (held_by image s) s) left)) same

  pub refused : (why : Refusal) → refused_for (image.misfit s) (is_full s) ≡ Some why → use_from files name (run s left) ≡ ends (Refused (image_file name) why) (run s left)
  refused why is = refused_as why (why_not ∙ is)

  pub accepted : refused_for (image.misfit s) (is_full s) ≡ None → use_from files name (run s left) ≡ start_image name (run (with_event s (Loads (held_by image s))) left)
  accepted is = accepted_as (why_not ∙ is)

-- after events

count_is : (es : List Event) → length (images_in es) ≡ image_count es
count_is [] = refl
count_is (Defines f ps e ∷ es) = count_is es
count_is (Binds x z ∷ es) = count_is es
count_is (Loads held ∷ es) = ap suc (count_is es)

module _ (here : Text) (es : List Event) (printed : Text) (good : Good here es) where
  pub has_is : (name : Text) → has_image (state_of here es printed) name ≡ counts_loaded here es name
  has_is name =
      ap (λ s. has_image s name) (closed here es printed good.each)
      ∙ ap (λ b. b || (not (bytes_eq here main_name) && bytes_eq here name)) (images_loaded es name)

  pub full_is : is_full (state_of here es printed) ≡ no_room here es
  full_is =
      ap is_full (closed here es printed good.each)
      ∙ ap (λ n. nat_le 1024 (cond (not (bytes_eq here main_name)) (suc n) n)) (count_is es)

  not_there : (name : Text) → counts_loaded here es name ≡ false → image_in es name ≡ None
  not_there name e = one (image_in es name) e
    where
      one : {A : Type 0} → (o : Option A) → (is_some o || (not (bytes_eq here main_name) && bytes_eq here name)) ≡ false → o ≡ None
      one None e' = refl
      one (Some x) e' = cc

  pub loads : (files : Files) (name : Text) (image : Image) (left : ℕ) → counts_loaded here es name ≡ false → files name ≡ Holds image → image.name ≡ name → image.needs ≡ []
      → refused_for (image.misfit (state_of here es printed)) (no_room here es) ≡ None
      → (image.content (state_of here es printed)).name ≡ name → Plainly here (image.content (state_of here es printed))
      → use_from files name (run (state_of here es printed) left)
      ≡ ended (got_ends (state_of here (es ++ Loads (held_by image (state_of here es printed)) ∷ []) printed)
      (started (method_for 0 (thing_in here (es ++ Loads (held_by image (state_of here es printed)) ∷ []) name init_name)) left))
  loads files name image left not_loaded read same alone accept content_name plainly =
      let s = state_of here es printed in
      let e = Loads (held_by image s) in
      let new : image_in es (image.content s).name ≡ None = rw content_name (not_there name not_loaded) in
      let better = good_more here es e good plainly new in
      let other : bytes_eq base_name name ≡ false = rw (← content_name) (bytes_eq-comm base_name (image.content s).name ∙ plainly.not_base) in
      accepted s files name image left (has_is name ∙ not_loaded) read same alone (ap (refused_for (image.misfit s)) full_is ∙ accept)
      ∙ ap (λ q. start_image name (run q left)) (state_more here es e printed)
      ∙ starts here (es ++ e ∷ []) printed better name left other
