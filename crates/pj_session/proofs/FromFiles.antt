-- What the file of a package brings to a session.
use Rattle.std.proofs.Common.{◌≡◌, ℕ, nat_lt, Bool, true, false, cond, not, ◌&&◌, ◌||◌, List, [], ◌∷◌, ◌++◌, length, map, Result, Ok, Err, Option, Some, None, option_map, refl, sym, ap, subst, ◌∙◌}
use Rattle.std.specs.Prelude.{is_some}
use Rattle.std.specs.List.{AllByRecursion}
use Rattle.std.specs.Str.{bytes_eq}
use Rattle.std.specs.Option.{option_or}
use Rattle.pj_meaning.specs.Tree.{Text}
use Rattle.pj_meaning.specs.Names.{main_name}
use Rattle.pj_meaning.specs.Values.{Nil, Truth, Whole, String, Function, Object, Struct}
use Rattle.pj_meaning.specs.State.{Role, TypeName, FunctionName, Constant, Variable, Binding}
use Rattle.pj_meaning.specs.Script.{Relocation, Full, IsLoaded, ended}
use Rattle.pj_meaning.specs.Content.{Made, Content, held_in}
use Rattle.pj_meaning.specs.Using as loading
use Rattle.pj_meaning.specs.Using.{Reading, Holds, image_file, has_image, is_full, or_refusal, refusal, use_from}
use Rattle.pj_words.specs.Words.{is_package_name}
use Rattle.pj_plain.specs.Names.{all_different}
use Rattle.pj_image.specs.declared.image.Image.{Image}
use Rattle.pj_image.specs.File.{file_at}
use Rattle.pj_image.proofs.FileLaws.{file_takes}
use Rattle.pj_content.specs.Content.{content_of}
use Rattle.pj_content.specs.Misfit.{misfit}
use Rattle.pj_content.specs.Readings.{identity_in, image_of, read_as, reading_of, readings}
use Rattle.pj_content.specs.Plainly as content
use Rattle.pj_content.proofs.Plain.{plainly}
use Rattle.pj_content.proofs.Read as read
use Rattle.pj_session.specs.Events.{Loads, state_of}
use Rattle.pj_session.specs.Things.{number_of, image_in, thing_of, thing_in, method_for}
use Rattle.pj_session.specs.Good.{PlainMethods, PlainBindings}
use Rattle.pj_session.specs.Items.{got_ends, started, init_name}
use Rattle.pj_session.specs.Uses.{counts_loaded, no_room, refused_for, held_by}
use Rattle.pj_session.specs.FromFiles.{a_plain_content_is_plain_in_a_session, held_of, LoadsWell, a_file_without_a_misfit_loads_well, why_refused, a_file_is_refused_as_the_events_say, what_is_read_and_not_refused_loads_well, the_last_image_has_its_names, a_file_is_loaded_and_started}
use Rattle.pj_session.proofs.Texts.{same_text, text_itself, or_left, or_right}
use Rattle.pj_session.proofs.Plainly.{not_named_base, not_named_main, made_plain, first_differs}
use Rattle.pj_session.proofs.More.{good_more, image_append}
use Rattle.pj_session.proofs.Uses.{has_is, full_is, loads}

-- a content

plain_methods : (c : Content) (ms : List Made) → AllByRecursion (content.PlainMethod c.name c.functions) ms → all_different (map (λ (m : Made). m.fun.name) ms) ≡ true → PlainMethods c ms
plain_methods c [] each differ = tt
plain_methods c (m ∷ ms) each differ =
    let one = each.0 in
    let two = first_differs m ms differ in
    (made_plain c m one.code.params one.code.value one.home one.among one.ints one.code.is one.code.many one.code.plain, (two.0, plain_methods c ms each.1 two.1))

number_is : (r : Role) → content.holds_whole r ≡ true → held_in r ≡ Some (Whole (number_of r))
number_is (TypeName t) h = absurd cc
number_is (FunctionName f) h = absurd cc
number_is (Constant (Whole z)) h = refl
number_is (Constant Nil) h = absurd cc
number_is (Constant (Truth b)) h = absurd cc
number_is (Constant (String t)) h = absurd cc
number_is (Constant (Function f)) h = absurd cc
number_is (Constant (Object o)) h = absurd cc
number_is (Constant (Struct t vs)) h = absurd cc
number_is (Variable (Whole z)) h = refl
number_is (Variable Nil) h = absurd cc
number_is (Variable (Truth b)) h = absurd cc
number_is (Variable (String t)) h = absurd cc
number_is (Variable (Function f)) h = absurd cc
number_is (Variable (Object o)) h = absurd cc
number_is (Variable (Struct t vs)) h = absurd cc

plain_bindings : (c : Content) (bs : List Binding) → AllByRecursion (content.PlainBinding c.name) bs → PlainBindings c bs
plain_bindings c [] each = tt
plain_bindings c (b ∷ bs) each = (record { home = each.0.home; number = number_is b.role each.0.whole }, plain_bindings c bs each.1)

pub content_law : a_plain_content_is_plain_in_a_session
content_law here c plain other = record {
  not_base = not_named_base c.name plain.named;
  not_here = other;
  types = plain.types;
  objects = plain.objects;
  methods = plain_methods c c.methods plain.methods plain.single;
  bindings = plain_bindings c c.bindings plain.bindings;
}

-- a file

-- a package that doesn't count as loaded isn't the module that runs
apart : (here name : Text) (b : Bool) → is_package_name name ≡ true → (b || (not (bytes_eq here main_name) && bytes_eq here name)) ≡ false → bytes_eq here name ≡ false
apart here name b is h = by (bytes_eq here main_name) refl (or_right b _ h)
  where
    by : (t : Bool) → bytes_eq here main_name ≡ t → (not t && bytes_eq here name) ≡ false → bytes_eq here name ≡ false
    by true e h' = subst (λ (x : Text). bytes_eq x name ≡ false) (sym (same_text here main_name e)) (not_named_main name is)
    by false e h' = h'

absent : {A : Type 0} → (o : Option A) → is_some o ≡ false → o ≡ None
absent None h = refl
absent (Some x) h = absurd cc

pub file_law : a_file_without_a_misfit_loads_well
file_law here es good name bytes i is fits free =
    let named : i.head.name ≡ name = is.called in
    let not_loaded : counts_loaded here es i.head.name ≡ false = rw named free in
    let event = content_law here (content_of i) (plainly i is.formed fits) (apart here i.head.name (is_some (image_in es i.head.name)) is.formed.named not_loaded) in
    let new = absent (image_in es i.head.name) (or_left (is_some (image_in es i.head.name)) _ not_loaded) in
    record { event = event; new = new; after = good_more here es (Loads (held_of bytes i)) good event new }

reasons : (loaded : Bool) (wrong : Option ℕ) (full : Bool)
    → or_refusal (cond loaded (Some IsLoaded) None) (or_refusal None (or_refusal (option_map Relocation wrong) (cond full (Some Full) None))) ≡ cond loaded (Some IsLoaded) (refused_for wrong full)
reasons true wrong full = refl
reasons false None true = refl
reasons false None false = refl
reasons false (Some k) full = refl

pub refusal_law : a_file_is_refused_as_the_events_say
refusal_law here es printed good name bytes i is =
    let s = state_of here es printed in
    let named : i.head.name ≡ name = is.called in
    let has : has_image s i.head.name ≡ counts_loaded here es name = has_is here es printed good i.head.name ∙ ap (counts_loaded here es) named in
    rw (has, read.no_needs i is.formed, full_is here es printed good) (reasons (counts_loaded here es name) (misfit i) (no_room here es))

none_left : (loaded : Bool) (wrong : Option ℕ) (full : Bool) → cond loaded (Some IsLoaded) (refused_for wrong full) ≡ None → (loaded ≡ false) × ((wrong ≡ None) × (refused_for wrong full ≡ None))
none_left true wrong full h = absurd cc
none_left false None full h = (refl, (refl, h))
none_left false (Some k) full h = absurd cc

pub read_law : what_is_read_and_not_refused_loads_well
read_law here es printed good name bytes image are held alone = by_size (nat_lt 67108864 (length bytes)) held
  where
    by_file : (found : Result Image ℕ) → file_at name bytes ≡ found → read_as bytes found ≡ Holds image → LoadsWell here es (held_by image (state_of here es printed))
    by_file (Err k) e h = absurd cc
    by_file (Ok i) e h =
        let same : image_of (identity_in bytes) i ≡ image = cc in
        let is = file_takes name bytes i are e in
        let why : why_refused here es name (misfit i) ≡ None = sym (refusal_law here es printed good name bytes i is) ∙ subst (λ (x : loading.Image). refusal x (state_of here es printed) ≡ None) (sym same) alone in
        let two = none_left (counts_loaded here es name) (misfit i) (no_room here es) why in
        subst (λ (x : loading.Image). LoadsWell here es (held_by x (state_of here es printed))) same (file_law here es good name bytes i is two.1.0 two.0)

    by_size : (long : Bool) → cond long Reading.TooMuch (read_as bytes (file_at name bytes)) ≡ Holds image → LoadsWell here es (held_by image (state_of here es printed))
    by_size true h = absurd cc
    by_size false h = by_file (file_at name bytes) refl h

-- an image that was loaded last

pub last_law : the_last_image_has_its_names
last_law here es held well name =
    let home = held.content.name in
    let found : image_in (es ++ Loads held ∷ []) home ≡ Some held.content =
    image_append es (Loads held ∷ []) home ∙ ap (λ o. option_or o (image_in (Loads held ∷ []) home)) well.new ∙ rw (text_itself home) refl in
    rw (well.event.not_here, found) refl

pub start_law : a_file_is_loaded_and_started
start_law here es printed good files name bytes i left there short found is alone =
    let s = state_of here es printed in
    let two = none_left (counts_loaded here es name) (misfit i) (no_room here es) alone in
    let well = file_law here es good name bytes i is two.1.0 two.0 in
    let reads : readings files name ≡ Holds (image_of (identity_in bytes) i) = ap (reading_of name) there ∙ read.held name bytes i short found in
    let named : i.head.name ≡ name = is.called in
    let thing : thing_in here (es ++ Loads (held_of bytes i) ∷ []) name init_name ≡ thing_of (content_of i) init_name =
    ap (λ (n : Text). thing_in here (es ++ Loads (held_of bytes i) ∷ []) n init_name) (sym named) ∙ last_law here es (held_of bytes i) well init_name in
    loads here es printed good (readings files) name (image_of (identity_in bytes) i) left two.0 reads named (read.no_needs i is.formed) two.1.1 named well.event
    ∙ ap (λ o. ended (got_ends (state_of here (es ++ Loads (held_of bytes i) ∷ []) printed) (started (method_for 0 o) left))) thing
