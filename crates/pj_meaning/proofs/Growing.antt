-- Evaluation takes steps, and adds to the types, the methods and the printed text: lemmas from the parts to the whole.
use Rattle.std.proofs.Common.{◌≡◌, ℕ, zero, suc, ◌≤◌, ◌<◌, Bool, true, false, List, [], ◌∷◌, ◌++◌, Result, Ok, Err, refl, sym, ap, ◌∙◌, arith, append_assoc, append-nil, if◌then◌else◌}
use Rattle.pj_meaning.specs.Tree.{Text}
use Rattle.pj_meaning.specs.Types.{TypeRow}
use Rattle.pj_meaning.specs.Methods.{Method}
use Rattle.pj_meaning.specs.Values.{ObjectRow}
use Rattle.pj_meaning.specs.State.{State, Loaded, Binding}
use Rattle.pj_meaning.specs.Outcome.{Error, Run, Outcome, Gives, Raises, Stops, after, charged, choose}
use Rattle.pj_meaning.specs.Lookup.{then_check}
use Rattle.pj_meaning.specs.Calls.{checked, changed}
use Rattle.pj_meaning.specs.Laws.{last_of, KeepsRoles, KeepsTypes}

-- each is born above the first world, and at the second at the latest
abbrev pub BornIn : ℕ → ℕ → List Method → Type 0
BornIn low high [] = Unit {0}
BornIn low high (m ∷ ms) = (low < m.birth) × (m.birth ≤ high) × BornIn low high ms

wider : (low low' high high' : ℕ) (ms : List Method) → low' ≤ low → high ≤ high' → BornIn low high ms → BornIn low' high' ms
wider low low' high high' [] h k b = tt
wider low low' high high' (m ∷ ms) h k b =
    let l = b.0 in
    let u = b.1 in
    (omega arith, omega arith, wider low low' high high' ms h k b.2)

born_both : (low high : ℕ) (ms ns : List Method) → BornIn low high ms → BornIn low high ns → BornIn low high (ms ++ ns)
born_both low high [] ns b c = c
born_both low high (m ∷ ms) ns b c = (b.0, b.1, born_both low high ms ns b.2 c)

-- what a state has more than an earlier one
pub record Grows (s t : State) : Type 0 where
  pub newest : s.newest ≤ t.newest
  pub new_types : List TypeRow
  pub types : t.types ≡ s.types ++ new_types
  pub new_methods : List Method
  pub methods : t.methods ≡ s.methods ++ new_methods
  pub born : BornIn s.newest t.newest new_methods
  pub here : t.here ≡ s.here
  pub new_images : List Loaded
  pub images : t.images ≡ s.images ++ new_images
  pub text : Text
  pub printed : t.printed ≡ s.printed ++ text
  pub roles : KeepsRoles s.bindings t.bindings
  pub objects : KeepsTypes s.objects t.objects

pub same_roles : (bs : List Binding) → KeepsRoles bs bs
same_roles bs home name role x e = e

pub same_objects : (xs : List ObjectRow) → KeepsTypes xs xs
same_objects xs o row e = (row, e, refl)

both_roles : (a b c : List Binding) → KeepsRoles a b → KeepsRoles b c → KeepsRoles a c
both_roles a b c f g home name role x e = g home name role x (f home name role x e)

both_objects : (a b c : List ObjectRow) → KeepsTypes a b → KeepsTypes b c → KeepsTypes a c
both_objects a b c f g o row e =
    let x = f o row e in
    let y = g o x.0 x.1 in
    (y.0, y.1, y.2 ∙ x.2)

-- the same but for the bindings and the objects
pub kept : (s t : State) → t.newest ≡ s.newest → t.types ≡ s.types → t.methods ≡ s.methods → t.printed ≡ s.printed → t.here ≡ s.here → t.images ≡ s.images → KeepsRoles s.bindings t.bindings → KeepsTypes s.objects t.objects → Grows s t
kept s t n ty m p here images roles objects = record {
  newest = omega arith;
  new_types = [];
  types = ty ∙ sym (append-nil s.types);
  new_methods = [];
  methods = m ∙ sym (append-nil s.methods);
  born = tt;
  here = here;
  new_images = [];
  images = images ∙ sym (append-nil s.images);
  text = [];
  printed = p ∙ sym (append-nil s.printed);
  roles = roles;
  objects = objects;
}

pub same : (s : State) → Grows s s
same s = kept s s refl refl refl refl refl refl (same_roles s.bindings) (same_objects s.objects)

pub joined {ℓ} : {A : Type ℓ} (a b c x y : List A) → b ≡ a ++ x → c ≡ b ++ y → c ≡ a ++ (x ++ y)
joined a b c x y e h = h ∙ (ap (λ z. z ++ y) e ∙ append_assoc a x y)

pub both : (s t u : State) → Grows s t → Grows t u → Grows s u
both s t u g h = record {
  newest = (let a = g.newest in let b = h.newest in omega arith);
  new_types = g.new_types ++ h.new_types;
  types = joined s.types t.types u.types g.new_types h.new_types g.types h.types;
  new_methods = g.new_methods ++ h.new_methods;
  methods = joined s.methods t.methods u.methods g.new_methods h.new_methods g.methods h.methods;
  born =
      born_both s.newest u.newest g.new_methods h.new_methods (wider s.newest s.newest t.newest u.newest g.new_methods (omega arith) h.newest g.born)
      (wider t.newest s.newest u.newest u.newest h.new_methods g.newest (omega arith) h.born);
  here = h.here ∙ g.here;
  new_images = g.new_images ++ h.new_images;
  images = joined s.images t.images u.images g.new_images h.new_images g.images h.images;
  text = g.text ++ h.text;
  printed = joined s.printed t.printed u.printed g.text h.text g.printed h.printed;
  roles = both_roles s.bindings t.bindings u.bindings g.roles h.roles;
  objects = both_objects s.objects t.objects u.objects g.objects h.objects;
}

-- the same of runs
pub record GoesOn (r q : Run) : Type 0 where
  pub left : q.left ≤ r.left
  pub state : Grows r.state q.state

pub stays : (r : Run) → GoesOn r r
stays r = record { left = omega arith; state = same r.state }

pub onto : (r q p : Run) → GoesOn r q → GoesOn q p → GoesOn r p
onto r q p g h = record { left = (let a = g.left in let b = h.left in omega arith); state = both r.state q.state p.state g.state h.state }

-- an outcome goes on from a run
pub record Ends {A : Type 0} (r : Run) (o : Outcome A) : Type 0 where
  pub goes : GoesOn r (last_of o)

pub from : {A : Type 0} (r q : Run) (o : Outcome A) → GoesOn r q → Ends q o → Ends r o
from r q o g e = record { goes = onto r q (last_of o) g e.goes }

pub after_ends : {A B : Type 0} (r : Run) (o : Outcome A) (next : A → Run → Outcome B) → Ends r o → ((a : A) (q : Run) → Ends q (next a q)) → Ends r (after o next)
unfolding after
after_ends r (Gives a q) next e f = from r q (next a q) e.goes (f a q)
after_ends r (Raises x q) next e f = record { goes = e.goes }
after_ends r (Stops q) next e f = record { goes = e.goes }

pub charged_ends : {A : Type 0} (n : ℕ) (s : State) (next : Run → Outcome A) → ((q : Run) → Ends q (next q)) → Ends (record { state = s; left = n }) (charged n s next)
unfolding charged
charged_ends zero s next f = record { goes = stays (record { state = s; left = zero }) }
charged_ends (suc n) s next f =
    from (record { state = s; left = suc n }) (record { state = s; left = n }) (next (record { state = s; left = n })) (record { left = omega arith; state = same s }) (f (record { state = s; left = n }))

pub choose_ends : {A : Type 0} (b : Bool) (this that : Run → Outcome A) (r : Run) → Ends r (this r) → Ends r (that r) → Ends r (choose b this that r)
unfolding choose
choose_ends true this that r e f = e
choose_ends false this that r e f = f

pub gives : {A : Type 0} (a : A) (r : Run) → Ends r (Gives a r)
gives a r = record { goes = stays r }

pub raises : {A : Type 0} (e : Error) (r : Run) → Ends {A = A} r (Raises e r)
raises e r = record { goes = stays r }

pub stops : {A : Type 0} (r : Run) → Ends {A = A} r (Stops r)
stops r = record { goes = stays r }

pub checked_ends : {A : Type 0} (x : Result A Error) (r : Run) → Ends r (checked x r)
checked_ends (Ok a) r = gives a r
checked_ends (Err e) r = raises e r

-- a checked change of the state
abbrev pub IfState : State → Result State Error → Type 0
IfState s (Ok t) = Grows s t
IfState s (Err e) = Unit {0}

pub record Changes (s : State) (x : Result State Error) : Type 0 where
  pub if_ok : IfState s x

pub changed_ends : {A : Type 0} (x : Result State Error) (a : A) (r : Run) → Changes r.state x → Ends r (changed x a r)
changed_ends (Ok t) a r c = record { goes = record { left = omega arith; state = c.if_ok } }
changed_ends (Err e) a r c = raises e r

pub check_changes : {A : Type 0} (s : State) (x : Result A Error) (next : A → Result State Error) → ((a : A) → Changes s (next a)) → Changes s (then_check x next)
check_changes s (Ok a) next f = f a
check_changes s (Err e) next f = record { if_ok = tt }

pub either_changes : (s : State) (b : Bool) (x y : Result State Error) → Changes s x → Changes s y → Changes s (if b then x else y)
either_changes s true x y c d = c
either_changes s false x y c d = d
