-- What stands among bindings and objects stays when they are changed.
use Rattle.std.proofs.Common.{◌≡◌, Bool, true, false, cond, ◌&&◌, List, [], ◌∷◌, ◌++◌, Option, Some, None, is_some, unwrap_or, refl, sym, ap, ◌∙◌, true≢false, find, if◌then◌else◌}
use Rattle.std.specs.Str.{bytes_eq}
use Rattle.std.proofs.lemmas.Slice.Eq.{bytes_eq-Decides}
use Rattle.pj_meaning.specs.Tree.{Text}
use Rattle.pj_meaning.specs.Values.{Value, ObjectName, ObjectRow, same_object, object_of}
use Rattle.pj_meaning.specs.State.{Binding, Role, Variable, role_in, role_of, rebound}
use Rattle.pj_meaning.specs.Lookup.{with_object}
use Rattle.pj_meaning.specs.Laws.{IsFixed, KeepsRoles, KeepsTypes}

pub none_is_not : {A B : Type 0} {a : A} → None ≡ Some a → B
none_is_not e = absurd (true≢false (sym (ap is_some e)))

kept_found : {A : Type 0} (b : Bool) (x y : A) (f g : Option A) → (f ≡ Some y → g ≡ Some y) → cond b (Some x) f ≡ Some y → cond b (Some x) g ≡ Some y
kept_found true x y f g h e = e
kept_found false x y f g h e = h e

pub found_before : {A : Type 0} (test : A → Bool) (xs ys : List A) (y : A) → find test xs ≡ Some y → find test (xs ++ ys) ≡ Some y
found_before test [] ys y e = none_is_not e
found_before test (x ∷ xs) ys y e = kept_found (test x) x y _ _ (found_before test xs ys y) e

kept_role : (b : Bool) (x : Binding) (role : Role) (f g : Option Binding) → (role_in f ≡ Some role → role_in g ≡ Some role) → role_in (cond b (Some x) f) ≡ Some role → role_in (cond b (Some x) g) ≡ Some role
kept_role true x role f g h e = e
kept_role false x role f g h e = h e

pub role_before : (test : Binding → Bool) (xs ys : List Binding) (role : Role) → role_in (find test xs) ≡ Some role → role_in (find test (xs ++ ys)) ≡ Some role
role_before test [] ys role e = none_is_not e
role_before test (x ∷ xs) ys role e = kept_role (test x) x role _ _ (role_before test xs ys role) e

-- bindings

pub more_bindings : (bs cs : List Binding) → KeepsRoles bs (bs ++ cs)
more_bindings bs cs home name role fixed e = role_before _ bs cs role e

is_fixed : (r s : Role) → r ≡ s → IsFixed s → IsFixed r
is_fixed r s e f = rw e f

not_a_variable : {B : Type 0} (v : Value) (role : Role) → Variable v ≡ role → IsFixed role → B
not_a_variable v role e f = absurd (is_fixed (Variable v) role e f)

some_is : {A : Type 0} (x y : A) → Some x ≡ Some y → x ≡ y
some_is x y e = ap (λ o. unwrap_or o x) e

both_true : (a b : Bool) → (a && b) ≡ true → (a ≡ true) × (b ≡ true)
both_true true true e = (refl, refl)
both_true true false e = absurd (true≢false (sym e))
both_true false true e = absurd (true≢false (sym e))
both_true false false e = absurd (true≢false (sym e))

-- a binding of this name is sought as the name is
as_named : (b : Binding) (home name home' name' : Text) → (bytes_eq b.home home && bytes_eq b.name name) ≡ true → (bytes_eq home home' && bytes_eq name name') ≡ (bytes_eq b.home home' && bytes_eq b.name name')
as_named b home name home' name' e =
    let t = both_true _ _ e in
    let h : b.home ≡ home = (bytes_eq-Decides b.home home).0 t.0 in
    let n : b.name ≡ name = (bytes_eq-Decides b.name name).0 t.1 in
    ap (λ x. bytes_eq x home' && bytes_eq name name') (sym h) ∙ ap (λ x. bytes_eq b.home home' && bytes_eq x name') (sym n)

-- the first binding is the one that is changed
at_head : (u u' : Bool) (b c : Binding) (old : Value) (role : Role) (rest : Option Binding) → u' ≡ u → b.role ≡ Variable old → IsFixed role → role_in (cond u (Some b) rest) ≡ Some role → role_in (cond u' (Some c) rest) ≡ Some role
at_head true u' b c old role rest e v f h = not_a_variable old role (sym v ∙ some_is b.role role h) f
at_head false u' b c old role rest e v f h = rw e h

-- or a later one is
past_head : (u : Bool) (b : Binding) (role : Role) (f g : Option Binding) → (role_in f ≡ Some role → role_in g ≡ Some role) → role_in (cond u (Some b) f) ≡ Some role → role_in (cond u (Some b) g) ≡ Some role
past_head true b role f g h e = e
past_head false b role f g h e = h e

changed_or_not : (t : Bool) (test : Binding → Bool) (b c : Binding) (bs cs : List Binding) (old : Value) (role : Role) (f : Option Binding)
    → (t ≡ true → test c ≡ test b)
    → IsFixed role
    → role_in (cond t (Some b) f) ≡ Some (Variable old)
    → (role_in f ≡ Some (Variable old) → role_in (find test bs) ≡ Some role → role_in (find test cs) ≡ Some role)
    → role_in (find test (b ∷ bs)) ≡ Some role
    → role_in (find test (if t then c ∷ bs else b ∷ cs)) ≡ Some role
changed_or_not true test b c bs cs old role f e x v k h = at_head (test b) (test c) b c old role (find test bs) (e refl) (some_is b.role (Variable old) v) x h
changed_or_not false test b c bs cs old role f e x v k h = past_head (test b) b role (find test bs) (find test cs) (k v) h

rebound_keeps : (bs : List Binding) (home name : Text) (v old : Value) (home' name' : Text) (role : Role) → IsFixed role → role_of bs home name ≡ Some (Variable old) → role_of bs home' name' ≡ Some role → role_of (rebound bs home name (Variable v)) home' name' ≡ Some role
rebound_keeps [] home name v old home' name' role x o h = h
rebound_keeps (b ∷ bs) home name v old home' name' role x o h =
    changed_or_not (bytes_eq b.home home && bytes_eq b.name name) (λ c. bytes_eq c.home home' && bytes_eq c.name name') b
    (record { home = home; name = name; role = Variable v }) bs (rebound bs home name (Variable v)) old role _
    (λ e. as_named b home name home' name' e) x o (λ p q. rebound_keeps bs home name v old home' name' role x p q) h

pub rebound_roles : (bs : List Binding) (home name : Text) (v old : Value) → role_of bs home name ≡ Some (Variable old) → KeepsRoles bs (rebound bs home name (Variable v))
rebound_roles bs home name v old o home' name' role x h = rebound_keeps bs home name v old home' name' role x o h

-- objects

pub more_objects : (xs ys : List ObjectRow) → KeepsTypes xs (xs ++ ys)
more_objects xs ys o row e = (row, found_before _ xs ys row e, refl)

abbrev Stays : Option ObjectRow → ObjectRow → Type 0
Stays g row = (new : ObjectRow) × (g ≡ Some new) × (new.type ≡ row.type)

stored_at : (u : Bool) (r c : ObjectRow) (f : Option ObjectRow) (row : ObjectRow) → c.type ≡ r.type → cond u (Some r) f ≡ Some row → Stays (cond u (Some c) f) row
stored_at true r c f row e h = (c, refl, e ∙ ap (λ x. x.type) (some_is r row h))
stored_at false r c f row e h = (row, h, refl)

stored_past : (u : Bool) (r : ObjectRow) (f g : Option ObjectRow) (row : ObjectRow) → (f ≡ Some row → Stays g row) → cond u (Some r) f ≡ Some row → Stays (cond u (Some r) g) row
stored_past true r f g row k h = (r, refl, ap (λ x. x.type) (some_is r row h))
stored_past false r f g row k h = k h

stored_or_not : (t : Bool) (r : ObjectRow) (vs : List Value) (rows cs : List ObjectRow) (p : ObjectName) (row : ObjectRow) → (object_of rows p ≡ Some row → Stays (object_of cs p) row) → object_of (r ∷ rows) p ≡ Some row → Stays (object_of (if t then record r { values = vs } ∷ rows else r ∷ cs) p) row
stored_or_not true r vs rows cs p row k h = stored_at (same_object r.name p) r (record r { values = vs }) (object_of rows p) row refl h
stored_or_not false r vs rows cs p row k h = stored_past (same_object r.name p) r (object_of rows p) (object_of cs p) row k h

pub stored_types : (rows : List ObjectRow) (o : ObjectName) (vs : List Value) → KeepsTypes rows (with_object rows o vs)
stored_types [] o vs p row h = none_is_not h
stored_types (r ∷ rows) o vs p row h =
    stored_or_not (same_object r.name o) r vs rows (with_object rows o vs) p row (λ e. stored_types rows o vs p row e) h
