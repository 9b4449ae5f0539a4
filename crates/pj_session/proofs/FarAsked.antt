-- Names of modules that are written, and calls, as what is asked of a session.
use Rattle.std.proofs.Common.{◌≡◌, ℕ, ℤ, Bool, true, false, not, ◌&&◌, ◌||◌, List, [], ◌∷◌, ◌++◌, Option, Result, Ok, Err, refl, sym, subst, ◌∙◌}
use Rattle.std.proofs.lemmas.Bool.{false≢true}
use Rattle.std.proofs.lemmas.List.{append-nil}
use Rattle.pj_meaning.specs.Tree.{Text, Exprs, Call, Global}
use Rattle.pj_meaning.specs.Names.{id}
use Rattle.pj_meaning.specs.Lookup.{named_home}
use Rattle.pj_meaning.specs.Values as values
use Rattle.pj_plain.specs.Plain.{literals_only}
use Rattle.pj_words.specs.Words.{is_base_name}
use Rattle.pj_session.specs.Events.{Event}
use Rattle.pj_session.specs.Things.{Thing, thing_in, has_package}
use Rattle.pj_session.specs.Items.{Got, Has, Fails, Short, asked, called_in, call_of, got_value, integers, is_asked, line_of, read_of}
use Rattle.pj_session.specs.Ending.{Answers, Prints}
use Rattle.pj_session.specs.Found.{Reads, found_at}
use Rattle.pj_session.specs.OwnItems.{is_own_call}
use Rattle.pj_session.specs.SessionItems.{is_far}
use Rattle.pj_session.specs.declared.end.End.{End}
use Rattle.pj_session.specs.declared.end.End.TheVariants as ends
use Rattle.pj_session.specs.declared.value.Value.{Value}

-- what may be printed

pub asked_call : (m f : Text) (es : Exprs) → (is_own_call (Call m f es) || is_far (Call m f es)) ≡ true → is_asked (Call m f es) ≡ true
asked_call [] f es is = one (not (is_base_name f) && literals_only es) is
  where
    one : (t : Bool) → (t || false) ≡ true → t ≡ true
    one true h = refl
    one false h = absurd (false≢true h)
asked_call (c ∷ cs) f es is = is

pub asked_name : (m x : Text) → is_far (Global m x) ≡ true → is_asked (Global m x) ≡ true
asked_name [] x is = absurd (false≢true is)
asked_name (c ∷ cs) x is = is

-- what is found at a name is what the meaning asks there

pub found_call : (here : Text) (es : List Event) (m f home : Text) (zs : List ℤ) (left : ℕ) (there : Bool) (thing : Option Thing) (result : Result ℤ End) (after : ℕ)
    → home ≡ named_home here m → there ≡ has_package here es home → thing ≡ thing_in here es home f
    → Answers (call_of (found_at there thing home f) (id home f) zs left) result after → Answers (called_in here es m f zs left) result after
found_call here es m f home zs left there thing result after same_home same_there same_thing h = rw (same_there, same_thing, same_home) at h

pub found_name : (here : Text) (es : List Event) (m x : Text) (left : ℕ) (there : Bool) (thing : Option Thing) (result : Result Value End) (after : ℕ)
    → is_far (Global m x) ≡ true → there ≡ has_package here es m → thing ≡ thing_in here es m x
    → Reads (read_of (found_at there thing m x) (id m x) left) result after → Reads (asked here es (Global m x) left) result after
found_name here es [] x left there thing result after is same_there same_thing h = absurd (false≢true is)
found_name here es (c ∷ cs) x left there thing result after is same_there same_thing h = rw (same_there, same_thing) at h

pub called_reads : (here : Text) (es : List Event) (m f : Text) (zs : List ℤ) (args : Exprs) (left : ℕ) (result : Result Value End) (after : ℕ)
    → zs ≡ integers args → Reads (got_value (called_in here es m f zs left)) result after → Reads (asked here es (Call m f args) left) result after
called_reads here es m f zs args left result after same h = subst (λ (l : List ℤ). Reads (got_value (called_in here es m f l left)) result after) same h

-- what was printed stays in front

pub front_kept : (old new : Text) → new ≡ old → (text : Text) × (new ≡ old ++ text)
front_kept old new same = ([], same ∙ sym (append-nil old))

pub prints_front : {A : Type 0} (got : Got values.Value) (result : Result A End) (old new : Text) (left : ℕ) → Prints got result old new left → (text : Text) × (new ≡ old ++ text)
prints_front (Has v l) (Ok done) old new left h = (line_of v, h.0)
prints_front (Has v l) (Err (ends.Error told)) old new left h = absurd h
prints_front (Has v l) (Err ends.Steps) old new left h = absurd h
prints_front (Has v l) (Err ends.Trap) old new left h = absurd h
prints_front (Has v l) (Err ends.NoMemory) old new left h = front_kept old new h
prints_front (Fails e l) (Ok done) old new left h = absurd h
prints_front (Fails e l) (Err (ends.Error told)) old new left h = front_kept old new h.1.0
prints_front (Fails e l) (Err ends.Steps) old new left h = absurd h
prints_front (Fails e l) (Err ends.Trap) old new left h = absurd h
prints_front (Fails e l) (Err ends.NoMemory) old new left h = front_kept old new h
prints_front Short (Ok done) old new left h = absurd h
prints_front Short (Err (ends.Error told)) old new left h = absurd h
prints_front Short (Err ends.Steps) old new left h = front_kept old new h
prints_front Short (Err ends.Trap) old new left h = absurd h
prints_front Short (Err ends.NoMemory) old new left h = front_kept old new h
