-- What a package comes to, by how its statements ended.
use Rattle.std.proofs.Common.{◌≡◌, ℕ, ◌≤◌, true, false, nat_lt, List, [], length, Some, None, Result, Ok, Err, IfOk, refl, sym, ap, subst, ◌∙◌, arith}
use Rattle.std.proofs.lemmas.Bool.Decides.{nat_tests}
use Rattle.pj_meaning.specs.Tree.{Text}
use Rattle.pj_meaning.specs.Values.{Value}
use Rattle.pj_meaning.specs.State.{State}
use Rattle.pj_meaning.specs.Content.{Content, content_of}
use Rattle.pj_meaning.specs.Outcome.{Outcome, Gives, Raises, Stops, after}
use Rattle.pj_meaning.specs.Printing.{error_line}
use Rattle.pj_meaning.specs.Packages.{Source, all_items, pack}
use Rattle.pj_meaning.specs.Base.{start}
use Rattle.pj_meaning.specs.Using.{Holds}
use Rattle.pj_words.specs.Words.{is_package_name}
use Rattle.pj_image.specs.declared.image.Image.{Image}
use Rattle.pj_image.specs.File.{file_at}
use Rattle.pj_image.specs.Formed.{IsFileOf}
use Rattle.pj_image.proofs.FileLaws.{file_again}
use Rattle.pj_content.specs.Content as image
use Rattle.pj_content.specs.Misfit.{misfit}
use Rattle.pj_content.specs.Readings.{identity_in, image_of, reading_of}
use Rattle.pj_session.specs.Events.{Event, state_of}
use Rattle.pj_session.specs.Good.{Good}
use Rattle.pj_session.specs.Seen.{events_of, state_seen}
use Rattle.pj_session.specs.States.{run}
use Rattle.pj_session.specs.Uses.{counts_loaded, image_count}
use Rattle.pj_session.specs.declared.end.End.{End}
use Rattle.pj_session.specs.declared.end.End.TheVariants as ends
use Rattle.pj_session.specs.declared.state.Session.{Session}
use Rattle.pj_session.proofs.Closed.{closed}
use Rattle.pj_session.proofs.Plainly.{not_named_base}
use Rattle.pj_build.specs.Own.{own_events}
use Rattle.pj_build.specs.Built.{Keeps}
use Rattle.pj_build.specs.Packs.{Built, PacksAs}
use Rattle.pj_build.specs.Evaluated.{Evaluates, IfMemory, IsLineOf, TellsEnd, kept}
use Rattle.pj_build.specs.declared.pack.BuildFault.{BuildFault}
use Rattle.pj_build.specs.declared.pack.BuildFault.TheVariants as build
use Rattle.pj_build.proofs.OwnOnly.{own_only, none_loaded}

-- ---- the bytes of an image

read_again : (name bytes : List ℕ) (i : Image) → IsFileOf name bytes i → file_at name bytes ≡ Ok i
read_again name bytes i file = rw (sym file.called, file.whole) (file_again i file.formed)

file_read : (name bytes : List ℕ) (i : Image) → IsFileOf name bytes i → length bytes ≤ 67108864 → reading_of name (Some bytes) ≡ Holds (image_of (identity_in bytes) i)
file_read name bytes i file short =
    let fine : nat_lt 67108864 (length bytes) ≡ false = grind (arith, nat_tests) in
    rw (fine, read_again name bytes i file) refl

pub is_own : (s : Session) → image_count (events_of s) ≡ 0 → events_of s ≡ own_events s.tables.own s.tables.things.items
is_own s none = let t = s.tables in own_only t.order.items t.own t.things.items t.images.items t.ordered none

built : (s : Session) → image_count (events_of s) ≡ 0 → (i : Image) (bytes : List ℕ) → i.head.name ≡ s.here → Keeps s.here s.tables.own s.tables.things.items (image.content_of i) → misfit i ≡ None
    → IsFileOf i.head.name bytes i → length bytes ≤ 67108864 → Built s.here (content_of 1 (state_seen s)) bytes
built s none i bytes called keeps fits file short =
    let file' : IsFileOf s.here bytes i = subst (λ (n : Text). IsFileOf n bytes i) called file in
    record {
      image = i;
      file = file';
      holds = keeps s.printed ∙ ap (λ (es : List Event). content_of 1 (state_of s.here es s.printed)) (sym (is_own s none));
      fits = fits;
      short = short;
      read = file_read s.here bytes i file' short;
    }

pub where_spelled : {E : Type 0} (s : Session) → image_count (events_of s) ≡ 0 → (i : Image) (r : Result Text E) → i.head.name ≡ s.here → Keeps s.here s.tables.own s.tables.things.items (image.content_of i) → misfit i ≡ None
    → IfOk r (λ bytes. IsFileOf i.head.name bytes i) → IfOk r (λ bytes. length bytes ≤ 67108864) → IfOk r (Built s.here (content_of 1 (state_seen s)))
where_spelled s none i (Ok bytes) called keeps fits file short = built s none i bytes called keeps fits file short
where_spelled s none i (Err e) called keeps fits file short = tt

-- ---- the end of the statements

printed_seen : (s : Session) → Good s.here (events_of s) → (state_seen s).printed ≡ s.printed
printed_seen s good = ap (λ (t : State). t.printed) (closed s.here (events_of s) s.printed good.each)

printed_in : (s : Session) (t : State) → Good s.here (events_of s) → state_seen s ≡ t → s.printed ≡ t.printed
printed_in s t good is = sym (printed_seen s good) ∙ ap (λ (u : State). u.printed) is

pub with_bytes : {A : Type 0} (s : Session) → Good s.here (events_of s) → (bytes : Text) → Built s.here (content_of 1 (state_seen s)) bytes
    → (given : Outcome Value) (done : A) → Evaluates given (Ok done) (state_seen s) → PacksAs s.here (kept given) s.printed (Ok bytes)
unfolding after
with_bytes s good bytes b (Gives v r) done is = (subst (λ (t : State). Built s.here (content_of 1 t) bytes) is b, printed_in s r.state good is)
with_bytes s good bytes b (Raises e r) done is = absurd is
with_bytes s good bytes b (Stops r) done is = absurd is

ended_so : (A : Type 0) (s : Session) → Good s.here (events_of s) → (end : End) (line : Text) → IsLineOf end line
    → (given : Outcome Value) → Evaluates {A = Value} {B = A} given (Err end) (state_seen s) → PacksAs s.here (kept given) s.printed (Err (build.Ended end line))
unfolding after
ended_so A s good (ends.Error told) line is (Gives v r) e = absurd e
ended_so A s good (ends.Error told) line is (Raises x r) e = (e.0, is ∙ ap error_line e.0, printed_in s r.state good e.1)
ended_so A s good (ends.Error told) line is (Stops r) e = absurd e
ended_so A s good ends.Steps line is (Gives v r) e = absurd e
ended_so A s good ends.Steps line is (Raises x r) e = absurd e
ended_so A s good ends.Steps line is (Stops r) e = (is, printed_in s r.state good e)
ended_so A s good ends.Trap line is given e = absurd is
ended_so A s good ends.NoMemory line is given e = absurd is

pub with_fault : (A : Type 0) (s : Session) → Good s.here (events_of s) → (end : End) (fault : BuildFault) → TellsEnd end fault
    → (given : Outcome Value) → Evaluates {A = Value} {B = A} given (Err end) (state_seen s) → IfMemory {A = Text} (Err fault) (PacksAs s.here (kept given) s.printed (Err fault))
with_fault A s good end build.NoMemory tells given e = tt
with_fault A s good end (build.Ended told line) tells given e =
    rw tells.0 (ended_so A s good end line tells.1 given e)

-- ---- without memory

pub no_memory : (name : Text) (given : Outcome Content) → PacksAs name given [] (Err build.NoMemory)
no_memory name (Gives v r) = refl
no_memory name (Raises e r) = refl
no_memory name (Stops r) = refl

-- ---- from the start to the end

pub good_start : (name : Text) → is_package_name name ≡ true → Good name []
good_start name named = record { home = not_named_base name named; each = tt }

pub start_seen : (s : Session) (name : Text) → s.here ≡ name → events_of s ≡ [] → s.printed ≡ [] → state_seen s ≡ start name
start_seen s name here events printed = ap (λ (h : Text). state_of h (events_of s) s.printed) here ∙ ap (λ (es : List Event). state_of name es s.printed) events ∙ ap (λ (t : Text). state_of name [] t) printed

pub is_packed : (p : Source) (s : Session) (steps : ℕ) → state_seen s ≡ start p.name → kept (all_items p.items (run (state_seen s) steps)) ≡ pack p [] steps
is_packed p s steps is = ap (λ (t : State). kept (all_items p.items (run t steps))) is

pub nothing_loaded : (s t : Session) → events_of s ≡ [] → t.here ≡ s.here → Good t.here (events_of t) → ((other : Text) → counts_loaded t.here (events_of t) other ≡ counts_loaded s.here (events_of s) other) → image_count (events_of t) ≡ 0
nothing_loaded s t empty here good h =
    none_loaded t.here (events_of t) good (λ other. h other ∙ ap (λ (es : List Event). counts_loaded s.here es other) empty ∙ ap (λ (n : Text). counts_loaded n [] other) (sym here))
