-- Methods and entries as they are added.
use Rattle.std.proofs.Common.{◌≡◌, ℕ, zero, suc, ◌+◌, ◌-◌, ◌*◌, ◌<◌, ◌≤◌, List, [], ◌∷◌, ◌++◌, length, get_or, drop, refl, sym, ap, subst, ◌∙◌, append_assoc, append-nil, add-one, length-append, arith}
use Rattle.std.proofs.Math.Seq.{drop-cons}
use Rattle.std.proofs.lemmas.List.{drop_all}
use Rattle.std.proofs.lemmas.List.Concat.{flat_map-cons}
use Rattle.pj_reloc.specs.declared.entry.Entry.{Entry}
use Rattle.pj_parts.specs.declared.types.Method.{Method}
use Rattle.pj_image.specs.Mentions.{count_from}
use Rattle.pj_session.specs.declared.own.Definition.{Definition}
use Rattle.pj_session.specs.declared.own.Own.{Own}
use Rattle.pj_session.specs.declared.own.Own.TheVariants as own
use Rattle.pj_build.specs.Own.{count_in, counts_in}
use Rattle.pj_build.specs.declared.wiring.Wiring.{Wiring}
use Rattle.pj_base.specs.declared.kinds.KindTag.TheVariants as kinds
use Rattle.pj_build.specs.Wiring.{entry_at, int_entries, wired_method, wired_entries, all_methods, all_entries}
use Rattle.pj_build.specs.Wired.{Wires, Continues}

pub length-int_entries : (place count : ℕ) → length (int_entries place count) ≡ count
length-int_entries place zero = refl
length-int_entries place (suc count) = ap suc (length-int_entries (place + 4) count)

pub length-wired : (place ordinal count : ℕ) → length (wired_entries place ordinal count) ≡ 1 + count
length-wired place ordinal count = omega (arith, length-int_entries (place + 8) count)

-- so many are there, and one more comes
one_more : (n : ℕ) → n + 1 ≡ suc n
one_more n = omega arith

int_entries-suc : (place count : ℕ) → int_entries place (suc count) ≡ int_entries place count ++ entry_at (place + 4 * count) kinds.TypeKind 0 5 ∷ []
int_entries-suc place zero = let e : place + 4 * 0 ≡ place = omega arith in rw e refl
int_entries-suc place (suc count) =
    let e : place + 4 + 4 * count ≡ place + 4 * suc count = omega arith in
    ap (λ (l : List Entry). entry_at place kinds.TypeKind 0 5 ∷ l) (int_entries-suc (place + 4) count ∙ ap (λ (p : ℕ). int_entries (place + 4) count ++ entry_at p kinds.TypeKind 0 5 ∷ []) e)

pub int_entries-push : (place count : ℕ) → int_entries place (count + 1) ≡ int_entries place count ++ entry_at (place + 4 * count) kinds.TypeKind 0 5 ∷ []
int_entries-push place count = ap (λ (n : ℕ). int_entries place n) (one_more count) ∙ int_entries-suc place count

count_from-suc : (first count : ℕ) → count_from first (suc count) ≡ count_from first count ++ (first + count) ∷ []
count_from-suc first zero = let e : first + 0 ≡ first = omega arith in rw e refl
count_from-suc first (suc count) =
    let e : first + 1 + count ≡ first + suc count = omega arith in
    ap (λ (l : List ℕ). first ∷ l) (count_from-suc (first + 1) count ∙ ap (λ (n : ℕ). count_from (first + 1) count ++ n ∷ []) e)

pub count_from-push : (first count : ℕ) → count_from first (count + 1) ≡ count_from first count ++ (first + count) ∷ []
count_from-push first count = ap (λ (n : ℕ). count_from first n) (one_more count) ∙ count_from-suc first count

pub numbers_turn : (old now : List Entry) (at turn : ℕ) (ts us : List ℕ) (n : ℕ) → now ≡ old ++ int_entries at turn → ts ≡ count_from (length old) turn → n ≡ length now → us ≡ ts ++ n ∷ [] → us ≡ count_from (length old) (turn + 1)
numbers_turn old now at turn ts us n e t k u =
    let len : length now ≡ length old + turn = ap (λ (l : List Entry). length l) e ∙ length-append old (int_entries at turn) ∙ ap (λ (m : ℕ). length old + m) (length-int_entries at turn) in
    u ∙ ap (λ (m : ℕ). ts ++ m ∷ []) (k ∙ len) ∙ ap (λ (l : List ℕ). l ++ (length old + turn) ∷ []) t ∙ sym (count_from-push (length old) turn)

pub entries_turn : (old now new : List Entry) (at here turn : ℕ) → now ≡ old ++ int_entries at turn → here ≡ at + 4 * turn → new ≡ now ++ entry_at here kinds.TypeKind 0 5 ∷ [] → new ≡ old ++ int_entries at (turn + 1)
entries_turn old now new at here turn e h n =
    n ∙ ap (λ (p : ℕ). now ++ entry_at p kinds.TypeKind 0 5 ∷ []) h
    ∙ ap (λ (l : List Entry). l ++ entry_at (at + 4 * turn) kinds.TypeKind 0 5 ∷ []) e
    ∙ append_assoc old (int_entries at turn) (entry_at (at + 4 * turn) kinds.TypeKind 0 5 ∷ [])
    ∙ ap (λ (l : List Entry). old ++ l) (sym (int_entries-push at turn))

pub continues_one : (old new : Wiring) (count : ℕ) → Wires old count new → Continues old (count ∷ []) new
continues_one old new count w =
    let e : length new.entries ≡ length old.entries + 1 + count = ap (λ (l : List Entry). length l) w.entries ∙ length-append old.entries (wired_entries old.at (length old.methods) count) ∙ (let k = length-wired old.at (length old.methods) count in omega (arith, k)) in
    let m : length new.methods ≡ length old.methods + 1 = ap (λ (l : List Method). length l) w.methods ∙ length-append old.methods (wired_method (length old.entries) (length old.methods) count ∷ []) in
    record {
      methods = λ rest.
          ap (λ (l : List Method). l ++ all_methods (length new.entries) (length new.methods) rest) w.methods
          ∙ ap (λ (n : ℕ). (old.methods ++ wired_method (length old.entries) (length old.methods) count ∷ []) ++ all_methods n (length new.methods) rest) e
          ∙ ap (λ (n : ℕ). (old.methods ++ wired_method (length old.entries) (length old.methods) count ∷ []) ++ all_methods (length old.entries + 1 + count) n rest) m
          ∙ append_assoc old.methods (wired_method (length old.entries) (length old.methods) count ∷ []) (all_methods (length old.entries + 1 + count) (length old.methods + 1) rest);
      entries = λ rest.
          ap (λ (l : List Entry). l ++ all_entries new.at (length new.methods) rest) w.entries
          ∙ ap (λ (n : ℕ). (old.entries ++ wired_entries old.at (length old.methods) count) ++ all_entries n (length new.methods) rest) w.at
          ∙ ap (λ (n : ℕ). (old.entries ++ wired_entries old.at (length old.methods) count) ++ all_entries (old.at + 12 + 4 * count) n rest) m
          ∙ append_assoc old.entries (wired_entries old.at (length old.methods) count) (all_entries (old.at + 12 + 4 * count) (length old.methods + 1) rest);
    }

pub continues_function : (old new : Wiring) (o : Own) (d : Definition) (count : ℕ) → o ≡ own.Function d → count ≡ length d.params → Wires old count new → Continues old (count_in o) new
continues_function old new o d count od is w = rw (od, ← is) (continues_one old new count w)

pub continues_constant : (old : Wiring) (counts : List ℕ) → counts ≡ [] → Continues old counts old
continues_constant old counts e = rw e (record { methods = λ rest. refl; entries = λ rest. refl })

-- the functions that are still to come
pub counts_turn : (things : List Own) (i : ℕ) (o : Own) → i < length things → o ≡ get_or things i o → counts_in (drop i things) ≡ count_in o ++ counts_in (drop (i + 1) things)
counts_turn things i o lt is =
    let d : drop i things ≡ o ∷ drop (suc i) things = subst (λ (y : Own). drop i things ≡ y ∷ drop (suc i) things) (sym is) (drop-cons things i o lt) in
    ap counts_in d ∙ flat_map-cons count_in o (drop (suc i) things) ∙ rw add-one refl

pub counts_over : (things : List Own) (i : ℕ) → length things ≤ i → counts_in (drop i things) ≡ []
counts_over things i le = ap counts_in (drop_all i things le)

pub ruleset one_by_one = (int_entries-push, count_from-push, append_assoc)

pub ruleset wires = (continues_function, continues_constant)
