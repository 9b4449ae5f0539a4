-- `using` of a package over files, step by step, as the meaning ends it.
use Rattle.std.proofs.Common.{◌≡◌, ◌≤◌, ◌<◌, ◌||◌, ℕ, nat_lt, Bool, true, false, cond, List, [], ◌∷◌, ◌++◌, Option, Some, None, Result, Ok, Err, length, refl, sym, ap, subst, ◌∙◌}
use Rattle.std.specs.Prelude.{is_some, IsSomeAnd, IfSome, OnOk}
use Rattle.std.specs.Option.{option_or}
use Rattle.std.specs.Str.{bytes_eq}
use Rattle.std.proofs.lemmas.Bool.{false≢true}
use Rattle.pj_meaning.specs.Tree.{Text}
use Rattle.pj_meaning.specs.Names.{base_name}
use Rattle.pj_meaning.specs.State.{State}
use Rattle.pj_meaning.specs.Script as script
use Rattle.pj_meaning.specs.Script.{Refusal, Ending, Ended}
use Rattle.pj_meaning.specs.Using as loading
use Rattle.pj_meaning.specs.Using.{NoFile, Holds, TooMuch, Faulty, image_file, refusal, at_end, ends, start_image, use_from}
use Rattle.pj_outside.specs.Stored.{Files}
use Rattle.pj_image.specs.declared.image.Image.{Image}
use Rattle.pj_image.specs.File.{file_at}
use Rattle.pj_content.specs.Readings.{identity_in, image_of, read_as, reading_of, readings}
use Rattle.pj_content.proofs.Read.{long}
use Rattle.pj_session.specs.States.{run}
use Rattle.pj_session.specs.Events.{Event, Defines, Binds, Loads, with_event, state_of}
use Rattle.pj_session.specs.Things.{image_in}
use Rattle.pj_session.specs.Good.{Good, GoodEvent, GoodEvents}
use Rattle.pj_session.specs.Uses.{builds, counts_loaded, held_by, read_fault}
use Rattle.pj_session.specs.OwnItems.{known_in}
use Rattle.pj_session.specs.Seen.{events_of, state_seen}
use Rattle.pj_session.specs.Loading.{Judged, Added, Kept}
use Rattle.pj_session.specs.Fetching.{Fetched, Gained, Unloaded}
use Rattle.pj_session.specs.Using.{UsesAs, IfDepotFailed}
use Rattle.pj_session.specs.declared.state.Session.{Session}
use Rattle.pj_session.specs.declared.end.End.TheVariants as ends_as
use Rattle.pj_session.specs.declared.load.LoadFault.TheVariants as faults
use Rattle.pj_session.specs.declared.using.ImageFile.{ImageFile}
use Rattle.pj_session.specs.declared.using.UsingFault.{UsingFault}
use Rattle.pj_session.specs.declared.using.UsingFault.TheVariants as used
use Rattle.pj_session.proofs.Texts.{text_itself, bytes_eq-comm}
use Rattle.pj_session.proofs.Closed.{closed}
use Rattle.pj_session.proofs.More.{image_append, state_more}
use Rattle.pj_session.proofs.Uses.{has_is, loaded_already, wrong_reading, refused_as, accepted_as}

-- what was read

-- the content has the name of the image
content_named : (name bytes : List ℕ) (image : loading.Image) (s : State) → reading_of name (Some bytes) ≡ Holds image → (image.content s).name ≡ image.name
content_named name bytes image s h = by_size (nat_lt 67108864 (length bytes)) h
  where
    by_file : (found : Result Image ℕ) → read_as bytes found ≡ Holds image → (image.content s).name ≡ image.name
    by_file (Err k) h' = absurd cc
    by_file (Ok i) h' = let same : image_of (identity_in bytes) i ≡ image = cc in subst (λ (x : loading.Image). (x.content s).name ≡ x.name) same refl

    by_size : (big : Bool) → cond big TooMuch (read_as bytes (file_at name bytes)) ≡ Holds image → (image.content s).name ≡ image.name
    by_size true h' = absurd cc
    by_size false h' = by_file (file_at name bytes) h'

too_long : (name : Text) (found : Option (List ℕ)) → IsSomeAnd found (λ bytes. 67108864 < length bytes) → reading_of name found ≡ TooMuch
too_long name None h = absurd h
too_long name (Some bytes) h = long name bytes h

-- what stands beside the events

printed_of : (here : Text) (es : List Event) (printed : Text) → Good here es → (state_of here es printed).printed ≡ printed
printed_of here es printed good = ap (λ (s : State). s.printed) (closed here es printed good.each)

last_good : (here : Text) (es : List Event) (e : Event) → GoodEvents here (es ++ e ∷ []) → GoodEvent here e
last_good here [] e good = good.0
last_good here (x ∷ es) e good = last_good here es e good.1.1

same_state : (here here' : Text) (es es' : List Event) (printed printed' : Text) → here' ≡ here → printed' ≡ printed → es' ≡ es → state_of here es printed ≡ state_of here' es' printed'
same_state here here' es es' printed printed' a b c = rw (a, b, c) refl

or_some : {A : Type 0} → (o p : Option A) → is_some o ≡ true → is_some (option_or o p) ≡ true
or_some None p h = absurd cc
or_some (Some x) p h = refl

some_last : {A : Type 0} → (o : Option A) (x : A) → is_some (option_or o (Some x)) ≡ true
some_last None x = refl
some_last (Some y) x = refl

stays : (a b c : Bool) → (a ≡ true → b ≡ true) → (a || c) ≡ true → (b || c) ≡ true
stays true b c more h = rw (more refl) refl
stays false true c more h = refl
stays false false c more h = h

pub counts_more : (here : Text) (es fs : List Event) (other : Text) → counts_loaded here es other ≡ true → counts_loaded here (es ++ fs) other ≡ true
counts_more here es fs other h =
    stays (is_some (image_in es other)) (is_some (image_in (es ++ fs) other)) _ (λ has. ap is_some (image_append es fs other) ∙ or_some (image_in es other) (image_in fs other) has) h

pub known_more : (es : List Event) (held : _) → known_in (es ++ Loads held ∷ []) ≡ known_in es
known_more [] held = refl
known_more (Defines f ps e ∷ es) held = ap (λ known. (f, Some (length ps)) ∷ known) (known_more es held)
known_more (Binds x z ∷ es) held = ap (λ known. (x, None) ∷ known) (known_more es held)
known_more (Loads k ∷ es) held = known_more es held

loaded_in : (here here' : Text) (es es' : List Event) (name : Text) → here' ≡ here → es' ≡ es → counts_loaded here es name ≡ true → counts_loaded here' es' name ≡ true
loaded_in here here' es es' name a b h = rw (a, b) h

-- what is told where nothing is loaded

module _ (before : Session) (good : Good before.here (events_of before)) (files : Files) (name : Text) (left : ℕ) where
  abbrev s : State
  s = state_seen before

  abbrev whole : Ended
  whole = use_from (readings files) name (run s left)

  ends_at : (e : Ending) → whole ≡ ends e (run s left) → (whole.ending ≡ e) × (s ≡ whole.last.state)
  ends_at e is = (ap (λ (w : Ended). w.ending) is, sym (ap (λ (w : Ended). w.last.state) is))

  pub already : {A : Type 0} (done : A) → counts_loaded before.here (events_of before) name ≡ true → UsesAs whole (Ok done) s s left
  already done has =
      let is : whole ≡ at_end (run s left) = loaded_already s (readings files) name left (has_is before.here (events_of before) before.printed good name ∙ has) in
      (ap (λ (w : Ended). w.ending) is, sym (ap (λ (w : Ended). w.last.state) is), sym (ap (λ (w : Ended). w.last.left) is))

  module _ (free : counts_loaded before.here (events_of before) name ≡ false) where
    none_there : loading.has_image s name ≡ false
    none_there = has_is before.here (events_of before) before.printed good name ∙ free

    wrong : (e : Ending) → read_fault (readings files name) name ≡ Some e → (whole.ending ≡ e) × (s ≡ whole.last.state)
    wrong e is = ends_at e (wrong_reading s (readings files) name left e none_there is)

    pub unread : (A : Type 0) (after : ℕ) (fault : UsingFault) → Fetched files name (Err fault) → UsesAs {A = A} whole (Err fault) s s after
    unread A after (used.Missing file) h =
        let r : readings files name ≡ NoFile = ap (reading_of name) h.1 in
        let w = wrong (script.Absent (image_file name)) (rw r refl) in
        (w.0 ∙ ap script.Absent (sym h.0), w.1)
    unread A after (used.TooLong file) h =
        let r : readings files name ≡ TooMuch = too_long name (files (image_file name)) h.1 in
        let w = wrong (script.TooLong (image_file name)) (rw r refl) in
        (w.0 ∙ ap script.TooLong (sym h.0), w.1)
    unread A after (used.DepotFailed file) h = refl
    unread A after used.NoMemory h = refl
    unread A after (used.Ended end) h = absurd h
    unread A after (used.Refused file fault) h = absurd h

    module _ (bytes : List ℕ) (there : files (image_file name) ≡ Some bytes) where
      pub held_there : (image : loading.Image) → reading_of name (Some bytes) ≡ Holds image → readings files name ≡ Holds image
      held_there image h = ap (reading_of name) there ∙ h

      kept_as : (why : Refusal) → Kept before name bytes why → (whole.ending ≡ script.Refused (image_file name) why) × (s ≡ whole.last.state)
      kept_as why k =
          ends_at (script.Refused (image_file name) why)
          (refused_as s (readings files) name k.image left none_there (held_there k.image k.judged.read) k.judged.called k.judged.alone why (k.judged.refused good))

      pub unloaded : (A : Type 0) (after : ℕ) (fault : UsingFault) → Unloaded before name bytes fault → UsesAs {A = A} whole (Err fault) s s after
      unloaded A after (used.Refused file (faults.Format k)) h =
          let r : readings files name ≡ Faulty k = ap (reading_of name) there ∙ h.1 in
          let w = wrong (script.Refused (image_file name) (script.Format k)) (rw r refl) in
          ((script.Format k, refl, w.0 ∙ ap (λ (f : Text). script.Refused f (script.Format k)) (sym h.0)), w.1)
      unloaded A after (used.Refused file faults.Loaded) h = absurd (false≢true (sym free ∙ h.1.1))
      unloaded A after (used.Refused file (faults.Relocation k)) h =
          let w = kept_as (script.Relocation k) h.1 in
          ((script.Relocation k, refl, w.0 ∙ ap (λ (f : Text). script.Refused f (script.Relocation k)) (sym h.0)), w.1)
      unloaded A after (used.Refused file faults.Full) h =
          let w = kept_as script.Full h.1 in
          ((script.Full, refl, w.0 ∙ ap (λ (f : Text). script.Refused f script.Full) (sym h.0)), w.1)
      unloaded A after (used.Refused file faults.NoMemory) h = absurd h
      unloaded A after used.NoMemory h = refl
      unloaded A after (used.Ended end) h = absurd h
      unloaded A after (used.Missing file) h = absurd h
      unloaded A after (used.TooLong file) h = absurd h
      unloaded A after (used.DepotFailed file) h = absurd h

-- an image that was loaded

module _ (before mid : Session) (name bytes : List ℕ) (gained : Gained before name bytes mid) (same_here : mid.here ≡ before.here) where
  abbrev added : Added before name bytes gained.0 mid
  added = gained.1

  held_named : (added.image.content (state_seen before)).name ≡ name
  held_named = content_named name bytes added.image (state_seen before) added.judged.read ∙ added.judged.called

  pub counts : counts_loaded mid.here (events_of mid) name ≡ true
  counts =
      let found : image_in (Loads (held_by added.image (state_seen before)) ∷ []) name ≡ Some (added.image.content (state_seen before)) = rw (held_named, text_itself name) refl in
      let has : is_some (image_in (events_of mid) name) ≡ true =
      ap (λ (es : List Event). is_some (image_in es name)) added.events
      ∙ ap is_some (image_append (events_of before) (Loads (held_by added.image (state_seen before)) ∷ []) name ∙ ap (option_or (image_in (events_of before) name)) found)
      ∙ some_last (image_in (events_of before) name) (added.image.content (state_seen before)) in
      rw has refl

  pub counts_stay : (other : Text) → counts_loaded before.here (events_of before) other ≡ true → counts_loaded mid.here (events_of mid) other ≡ true
  counts_stay other h =
      subst (λ (n : Text). counts_loaded n (events_of mid) other ≡ true) (sym same_here)
      (subst (λ (es : List Event). counts_loaded before.here es other ≡ true) (sym added.events) (counts_more before.here (events_of before) (Loads (held_by added.image (state_seen before)) ∷ []) other h))

  pub known_stay : known_in (events_of mid) ≡ known_in (events_of before)
  known_stay = ap known_in added.events ∙ known_more (events_of before) (held_by added.image (state_seen before))

  pub good_stays : Good before.here (events_of before) → Good mid.here (events_of mid)
  good_stays good = subst (λ (h : Text). Good h (events_of mid)) (sym same_here) (added.good good)

  module _ (good : Good before.here (events_of before)) where
    pub other_name : bytes_eq base_name name ≡ false
    other_name =
        let after : Good before.here (events_of before ++ Loads (held_by added.image (state_seen before)) ∷ []) = subst (λ (es : List Event). Good before.here es) added.events (added.good good) in
        let plain = last_good before.here (events_of before) (Loads (held_by added.image (state_seen before))) after.each in
        bytes_eq-comm base_name name ∙ subst (λ (n : Text). bytes_eq n base_name ≡ false) held_named plain.not_base

    module _ (same_printed : mid.printed ≡ before.printed) (files : Files) (left : ℕ) (free : counts_loaded before.here (events_of before) name ≡ false) (there : files (image_file name) ≡ Some bytes) where
      mid_state : with_event (state_seen before) (Loads (held_by added.image (state_seen before))) ≡ state_seen mid
      mid_state = state_more before.here (events_of before) (Loads (held_by added.image (state_seen before))) before.printed ∙ same_state before.here mid.here (events_of before ++ Loads (held_by added.image (state_seen before)) ∷ []) (events_of mid) before.printed mid.printed same_here same_printed added.events

      comes_to : use_from (readings files) name (run (state_seen before) left) ≡ start_image name (run (state_seen mid) left)
      comes_to =
          accepted_as (state_seen before) (readings files) name added.image left (none_there before good files name left free) (held_there before good files name left free bytes there added.image added.judged.read) added.judged.called added.judged.alone (added.judged.refused good)
          ∙ ap (λ (q : State). start_image name (run q left)) mid_state

      same_output : (state_seen mid).printed ≡ (state_seen before).printed
      same_output =
          printed_of mid.here (events_of mid) mid.printed (good_stays good) ∙ same_printed ∙ sym (printed_of before.here (events_of before) before.printed good)

      from_mid : {A : Type 0} (e : Ended) (result : Result A UsingFault) (new : State) (after : ℕ) → IfDepotFailed result (λ file. ⊥) → UsesAs e result (state_seen mid) new after → UsesAs e result (state_seen before) new after
      from_mid e (Ok done) new after read h = h
      from_mid e (Err (used.Ended (ends_as.Error told))) new after read h = h
      from_mid e (Err (used.Ended ends_as.Steps)) new after read h = h
      from_mid e (Err (used.Ended ends_as.Trap)) new after read h = h
      from_mid e (Err (used.Ended ends_as.NoMemory)) new after read h = h
      from_mid e (Err (used.Refused file fault)) new after read h = h
      from_mid e (Err (used.Missing file)) new after read h = h
      from_mid e (Err (used.TooLong file)) new after read h = h
      from_mid e (Err (used.DepotFailed file)) new after read h = absurd read
      from_mid e (Err used.NoMemory) new after read h = h ∙ same_output

      pub started : {A : Type 0} (result : Result A UsingFault) (new : State) (after : ℕ) → IfDepotFailed result (λ file. ⊥)
          → (bytes_eq base_name name ≡ false → Good mid.here (events_of mid) → UsesAs (start_image name (run (state_seen mid) left)) result (state_seen mid) new after)
          → UsesAs (use_from (readings files) name (run (state_seen before) left)) result (state_seen before) new after
      started result new after read h =
          subst (λ (e : Ended). UsesAs e result (state_seen before) new after) (sym comes_to)
          (from_mid (start_image name (run (state_seen mid) left)) result new after read (h other_name (good_stays good)))

-- where the depot tells its files

abbrev UsedAs : (A : Type 0) → Option Files → Session → Text → ℕ → Result A UsingFault → State → ℕ → Type 0
UsedAs A told before name left result new after =
    IfSome told (λ files. Good before.here (events_of before) → UsesAs (use_from (readings files) name (run (state_seen before) left)) result (state_seen before) new after)

pub already_told : (A : Type 0) (told : Option Files) (before : Session) (name : Text) (left : ℕ) (done : A) → counts_loaded before.here (events_of before) name ≡ true → UsedAs A told before name left (Ok done) (state_seen before) left
already_told A None before name left done has = tt
already_told A (Some files) before name left done has = λ good. already before good files name left done has

pub unread_told : {A : Type 0} (told : Option Files) (before : Session) (name : Text) (left after : ℕ) (result : Result A UsingFault) (fault : UsingFault) → result ≡ Err fault → counts_loaded before.here (events_of before) name ≡ false → IfSome told (λ files. Fetched files name (Err fault)) → UsedAs A told before name left result (state_seen before) after
unread_told None before name left after result fault is free h = tt
unread_told {A} (Some files) before name left after result fault is free h = λ good.
    subst (λ (r : Result A UsingFault). UsesAs (use_from (readings files) name (run (state_seen before) left)) r (state_seen before) (state_seen before) after) (sym is) (unread before good files name left free A after fault h)

pub unloaded_told : {A : Type 0} (told : Option Files) (before mid : Session) (name : Text) (left after : ℕ) (result : Result A UsingFault) (fault : UsingFault) (found : ImageFile) → result ≡ Err fault → counts_loaded before.here (events_of before) name ≡ false → IfSome told (λ files. Fetched files name (Ok found)) → Unloaded before name found.bytes.items fault
    → mid.here ≡ before.here → mid.printed ≡ before.printed → events_of mid ≡ events_of before → UsedAs A told before name left result (state_seen mid) after
unloaded_told None before mid name left after result fault found is free there h same_here same_printed same_events = tt
unloaded_told {A} (Some files) before mid name left after result fault found is free there h same_here same_printed same_events = λ good.
    subst (λ (new : State). UsesAs (use_from (readings files) name (run (state_seen before) left)) result (state_seen before) new after)
    (same_state before.here mid.here (events_of before) (events_of mid) before.printed mid.printed same_here same_printed same_events)
    (subst (λ (r : Result A UsingFault). UsesAs (use_from (readings files) name (run (state_seen before) left)) r (state_seen before) (state_seen before) after) (sym is) (unloaded before good files name left free found.bytes.items there A after fault h))

pub started_told : (A : Type 0) (told : Option Files) (before mid : Session) (name : Text) (left after : ℕ) (result : Result A UsingFault) (new : State) (found : ImageFile) → counts_loaded before.here (events_of before) name ≡ false → IfSome told (λ files. Fetched files name (Ok found)) → Gained before name found.bytes.items mid
    → mid.here ≡ before.here → mid.printed ≡ before.printed → IfDepotFailed result (λ file. ⊥)
    → (bytes_eq base_name name ≡ false → Good mid.here (events_of mid) → UsesAs (start_image name (run (state_seen mid) left)) result (state_seen mid) new after)
    → UsedAs A told before name left result new after
started_told A None before mid name left after result new found free there gained same_here same_printed read h = tt
started_told A (Some files) before mid name left after result new found free there gained same_here same_printed read h = λ good.
    started before mid name found.bytes.items gained same_here good same_printed files left free there result new after read h

-- what counts as loaded

pub counts_behind : {A : Type 0} (before mid after : Session) (name bytes : List ℕ) (result : Result A UsingFault) → Gained before name bytes mid → mid.here ≡ before.here → after.here ≡ mid.here → events_of after ≡ events_of mid
    → OnOk result (counts_loaded after.here (events_of after) name ≡ true)
counts_behind before mid after name bytes (Err fault) gained same_here here events = tt
counts_behind before mid after name bytes (Ok done) gained same_here here events =
    loaded_in mid.here after.here (events_of mid) (events_of after) name here events (counts before mid name bytes gained same_here)

pub kept_behind : (before mid after : Session) (name bytes : List ℕ) → Gained before name bytes mid → mid.here ≡ before.here → after.here ≡ mid.here → events_of after ≡ events_of mid
    → (other : Text) → counts_loaded before.here (events_of before) other ≡ true → counts_loaded after.here (events_of after) other ≡ true
kept_behind before mid after name bytes gained same_here here events other h =
    loaded_in mid.here after.here (events_of mid) (events_of after) other here events (counts_stay before mid name bytes gained same_here other h)

pub known_behind : (before mid after : Session) (name bytes : List ℕ) → Gained before name bytes mid → mid.here ≡ before.here → events_of after ≡ events_of mid → known_in (events_of after) ≡ known_in (events_of before)
known_behind before mid after name bytes gained same_here events = ap known_in events ∙ known_stay before mid name bytes gained same_here
