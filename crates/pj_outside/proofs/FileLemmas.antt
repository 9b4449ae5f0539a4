-- A map of strings, read as a finite map of lists of bytes.
use Rattle.std.proofs.Common.{◌≡◌, ◌≢◌, ℕ, Bool, true, false, cond, List, [], ◌∷◌, Option, Some, None, option_map, string_bytes, bytes_eq, refl, sym, ap, ◌∙◌}
use Rattle.std.specs.declared.string.String.{String}
use Rattle.std.specs.declared.vec.Vec.{Vec}
use Rattle.std.specs.declared.alloc.Global.{Global}
use Rattle.std.specs.String.{string_cmp}
use Rattle.std.specs.BTreeMap.{BTreeMap, UpdatesBy, get_by_text}
use Rattle.std.specs.Map.{update}
use Rattle.std.specs.Ordering.{nat_cmp, eq_by_cmp}
use Rattle.std.specs.Cmp.{eq_by_cmp_equiv}
use Rattle.std.specs.Cmp.Lexicographic.{slice_cmp, nat_list_cmp_total}
use Rattle.std.specs.FinMap as finite
use Rattle.std.proofs.lemmas.Map.Text.{is_eq-slice_cmp, btree_map_updates_text}
use Rattle.std.proofs.lemmas.Slice.Eq.{bytes_eq-Decides}
use Rattle.std.proofs.lemmas.Bool.{false_from_ne_true, cond-true, cond-false}
use Rattle.pj_outside.specs.Memory.{FileTable, files_of, named_bytes}
use Rattle.pj_outside.specs.Stored.{Stores, KeepsRest}

abbrev pub Stored : Type 0
Stored = BTreeMap (String Global) (Vec ℕ Global)

abbrev pub table : Stored → FileTable
table m = finite.from_entries (named_bytes m.entries)

abbrev items : Option (Vec ℕ Global) → Option (List ℕ)
items o = option_map (λ v. v.items) o

mapped : (b : Bool) (v : Vec ℕ Global) (o : Option (Vec ℕ Global)) → cond b (Some v.items) (items o) ≡ items (cond b (Some v) o)
mapped true v o = refl
mapped false v o = refl

mapped_update : (b : Bool) (w o : Option (Vec ℕ Global)) → items (cond b w o) ≡ cond b (items w) (items o)
mapped_update true w o = refl
mapped_update false w o = refl

found : (name : List ℕ) (m : List (String Global × Vec ℕ Global)) → finite.find (slice_cmp nat_cmp) name (named_bytes m) ≡ items (Rattle.std.specs.Map.lookup (λ k. eq_by_cmp (slice_cmp nat_cmp) name (string_bytes k)) m)
found name [] = refl
found name (e ∷ es) = ap (λ r. cond (eq_by_cmp (slice_cmp nat_cmp) name (string_bytes e.0)) (Some e.1.items) r) (found name es) ∙ mapped (eq_by_cmp (slice_cmp nat_cmp) name (string_bytes e.0)) e.1 _

pub get_table : (m : Stored) (name : List ℕ) → finite.get (table m) name ≡ items (get_by_text m name)
get_table m name = finite.get-from_entries nat_list_cmp_total (named_bytes m.entries) name ∙ found name m.entries

same_test : (name q : List ℕ) → bytes_eq name q ≡ eq_by_cmp (slice_cmp nat_cmp) q name
same_test name q = sym (is_eq-slice_cmp name q) ∙ (eq_by_cmp_equiv nat_list_cmp_total).symm name q

pub changed : (m n : Stored) (name : List ℕ) (w : Option (Vec ℕ Global)) → UpdatesBy string_cmp (λ k. slice_cmp nat_cmp name (string_bytes k)) m n w → (q : List ℕ) → finite.get (table n) q ≡ cond (eq_by_cmp (slice_cmp nat_cmp) q name) (items w) (finite.get (table m) q)
changed m n name w updates q =
    get_table n q
    ∙ ap items (btree_map_updates_text name m n w updates q)
    ∙ mapped_update (bytes_eq name q) w (get_by_text m q)
    ∙ ap (λ b. cond b (items w) (items (get_by_text m q))) (same_test name q)
    ∙ ap (cond (eq_by_cmp (slice_cmp nat_cmp) q name) (items w)) (sym (get_table m q))

same_table : (m n : FileTable) → ((q : List ℕ) → finite.get m q ≡ finite.get n q) → m ≡ n
same_table = finite.same_map nat_list_cmp_total (finite.slice_cmp-IsAntisymmetric finite.nat_cmp-IsAntisymmetric)

pub inserted : (m n : Stored) (key : String Global) (name : List ℕ) (v : Vec ℕ Global) (bytes : List ℕ) → string_bytes key ≡ name → v.items ≡ bytes → UpdatesBy string_cmp (string_cmp key) m n (Some v) → table n ≡ finite.insert (table m) name bytes
inserted m n key name v bytes is same updates =
    same_table _ _ (λ q. changed m n (string_bytes key) (Some v) updates q ∙ sym (finite.get-insert nat_list_cmp_total (table m) (string_bytes key) v.items q))
    ∙ rw (is, same) refl

pub removed : (m n : Stored) (name : List ℕ) → UpdatesBy string_cmp (λ k. slice_cmp nat_cmp name (string_bytes k)) m n None → table n ≡ finite.remove (table m) name
removed m n name updates =
    same_table _ _ (λ q. changed m n name None updates q ∙ sym (finite.get-remove nat_list_cmp_total (table m) name q))

same_name : (name : List ℕ) → eq_by_cmp (slice_cmp nat_cmp) name name ≡ true
same_name name = is_eq-slice_cmp name name ∙ (bytes_eq-Decides name name).1 refl

other_name : (other name : List ℕ) → other ≢ name → eq_by_cmp (slice_cmp nat_cmp) other name ≡ false
other_name other name apart =
    is_eq-slice_cmp other name ∙ false_from_ne_true (bytes_eq other name) (λ e. apart ((bytes_eq-Decides other name).0 e))

pub stores_inserted : (old new : FileTable) (name bytes : List ℕ) → new ≡ finite.insert old name bytes → Stores (files_of old) name bytes (Some (files_of new))
stores_inserted old new name bytes is = rw is (record {
  here = finite.get-insert nat_list_cmp_total old name bytes name ∙ cond-true _ _ _ (same_name name);
  rest = λ other apart. finite.get-insert nat_list_cmp_total old name bytes other ∙ cond-false _ _ _ (other_name other name apart);
})

pub rest_removed : (old new : FileTable) (name : List ℕ) → new ≡ finite.remove old name → KeepsRest name (files_of old) (Some (files_of new))
rest_removed old new name is = rw is (λ other apart. finite.get-remove nat_list_cmp_total old name other ∙ cond-false _ _ _ (other_name other name apart))
