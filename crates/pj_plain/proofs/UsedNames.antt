-- The packages that are used, of which only the members count.
use Rattle.std.proofs.Common.{◌≡◌, ℕ, ◌+◌, ◌<◌, ◌≤◌, Bool, true, false, cond, ◌&&◌, ◌||◌, not, List, [], ◌∷◌, ◌++◌, take, length, get_or, Option, Some, None, refl, sym, ap, ◌∙◌}
use Rattle.std.specs.List.{list_any, position_from}
use Rattle.std.specs.Option.{is_some, option_map, option_map_or}
use Rattle.std.specs.Str.{bytes_eq}
use Rattle.std.proofs.lemmas.Iterator.Adapters.{position_from-zero}
use Rattle.std.proofs.lemmas.List.{take_all}
use Rattle.std.proofs.lemmas.List.Folds.{list_any-append, list_any_more}
use Rattle.std.proofs.lemmas.Slice.Eq.{bytes_eq-Decides}
use Rattle.pj_base.specs.Interned.{Interns, found_at, has_text}
use Rattle.pj_base.specs.declared.names.Name.{Name}
use Rattle.pj_base.proofs.PlaceLemmas.{list_any-map}
use Rattle.pj_meaning.specs.Tree.{Text, Expr, Nothing, False, True, Int, Str, Local, Global, Field, Call, CallLocal, Latest, And, Or, Cond, Same, Intrin, TopItem, Using, AbstractDef, StructDef, Def, Declare, Const, Directive, Run}
use Rattle.pj_tree.specs.Reads.{texts_of}
use Rattle.pj_tree.specs.declared.tree.Sym.{Sym}
use Rattle.pj_plain.specs.Forms.{Known, is_used, known_behind, may_print, of_used, own_call, printed, script_item, script_items, used_behind}
use Rattle.pj_plain.specs.Held.{held_text, no_strings}
use Rattle.pj_plain.specs.Members.{SameMembers}
use Rattle.pj_plain.specs.Names.{is_among}
use Rattle.pj_plain.specs.Plain.{is_empty, literals_only}

or_false : (b : Bool) → (b || false) ≡ b
or_false true = refl
or_false false = refl

or_true : (b : Bool) → (b || true) ≡ true
or_true true = refl
or_true false = refl

or_assoc : (a b c : Bool) → ((a || b) || c) ≡ (a || (b || c))
or_assoc true b c = refl
or_assoc false b c = refl

some_or : (b : Bool) (i : ℕ) (o : Option ℕ) (c : Bool) → is_some o ≡ c → is_some (cond b (Some i) o) ≡ (b || c)
some_or true i o c h = refl
some_or false i o c h = h

place_there : {A : Type 0} (p : A → Bool) (i : ℕ) (xs : List A) → is_some (position_from p i xs) ≡ list_any p xs
place_there p i [] = refl
place_there p i (x ∷ xs) = some_or (p x) i (position_from p (i + 1) xs) (list_any p xs) (place_there p (i + 1) xs)

some_mapped : (r : Option Name) → is_some r ≡ is_some (option_map (λ (n : Name). n.0) r)
some_mapped (Some n) = refl
some_mapped None = refl

-- a name is found that is one of these
pub is_there : (r : Option Name) (q : Text) (names : List Text) → option_map (λ (n : Name). n.0) r ≡ found_at q names → is_some r ≡ is_among q names
is_there r q names e = some_mapped r ∙ ap is_some e ∙ ap is_some (position_from-zero (bytes_eq q) names) ∙ place_there (bytes_eq q) 0 names

-- one more name, where it was there
there : (q x : Text) (k : List Text) (t : Bool) → bytes_eq q x ≡ t → has_text x k ≡ true → has_text q k ≡ (has_text q k || t)
there q x k false e h = sym (or_false (has_text q k))
there q x k true e h = ap (λ y. has_text y k) ((bytes_eq-Decides q x).0 e) ∙ h ∙ sym (or_true (has_text q k))

one_more : (q x : Text) (k : List Text) (t : Bool) → has_text x k ≡ t → list_any (bytes_eq q) (cond t k (k ++ x ∷ [])) ≡ (has_text q k || bytes_eq q x)
one_more q x k true h = there q x k (bytes_eq q x) refl h
one_more q x k false h = list_any-append (bytes_eq q) k (x ∷ []) ∙ ap (λ b. has_text q k || b) (or_false (bytes_eq q x))

-- Of all that there is, some were there before, and some are among the first of these names.
abbrev pub Gathered : List Text → List Text → List Sym → ℕ → Type 0
Gathered before now names j = (q : Text) → is_among q now ≡ (is_among q before || list_any (λ s. bytes_eq q (held_text s)) (take j names))

pub gathers : (before now new : List Text) (names : List Sym) (j place : ℕ) (s : Sym) → j < length names → s ≡ get_or names j s → Gathered before now names j
    → Interns (held_text s) now place new → Gathered before new names (j + 1)
gathers before now new names j place s below is h interned q =
    let p = λ (x : Sym). bytes_eq q (held_text x) in
    ap (is_among q) interned.after
    ∙ one_more q (held_text s) now (has_text (held_text s) now) refl
    ∙ ap (λ b. b || bytes_eq q (held_text s)) (h q)
    ∙ or_assoc (is_among q before) (list_any p (take j names)) (bytes_eq q (held_text s))
    ∙ ap (λ x. is_among q before || (list_any p (take j names) || p x)) is
    ∙ ap (λ b. is_among q before || b) (sym (list_any_more p names j s below))

-- all of them
pub gathered : (before now : List Text) (names : List Sym) (j : ℕ) → length names ≤ j → Gathered before now names j → SameMembers now (before ++ texts_of no_strings names)
gathered before now names j past h q =
    h q
    ∙ ap (λ ss. is_among q before || list_any (λ s. bytes_eq q (held_text s)) ss) (take_all j names past)
    ∙ ap (λ b. is_among q before || b) (sym (list_any-map held_text (bytes_eq q) names))
    ∙ sym (list_any-append (bytes_eq q) before (texts_of no_strings names))

-- ---- what is of the form does not depend on the order of the packages that are used

module _ (known : Known) (used same : List Text) (alike : SameMembers used same) where
  used_alike : (m : Text) → is_used m used ≡ is_used m same
  used_alike m = ap (λ b. not (is_empty m) && b) (alike m)

  of_alike : (e : Expr) → of_used used e ≡ of_used same e
  of_alike Nothing = refl
  of_alike False = refl
  of_alike True = refl
  of_alike (Int z) = refl
  of_alike (Str t) = refl
  of_alike (Local x) = refl
  of_alike (Global m x) = used_alike m
  of_alike (Field a x) = refl
  of_alike (Call m f es) = ap (λ b. b && literals_only es) (used_alike m)
  of_alike (CallLocal x es) = refl
  of_alike (Latest f es) = refl
  of_alike (And a b) = refl
  of_alike (Or a b) = refl
  of_alike (Cond a b c) = refl
  of_alike (Same a b) = refl
  of_alike (Intrin i es) = refl

  print_alike : (o : Option Expr) → option_map_or (may_print known used) o false ≡ option_map_or (may_print known same) o false
  print_alike None = refl
  print_alike (Some e) = ap (λ b. own_call known e || b) (of_alike e)

  item_alike : (m : TopItem) → script_item known used m ≡ script_item known same m
  item_alike (Using names) = refl
  item_alike (AbstractDef x t) = refl
  item_alike (StructDef b x t ps) = refl
  item_alike (Def m f ps b) = refl
  item_alike (Declare f) = refl
  item_alike (Const x e) = refl
  item_alike (Directive m f ts) = refl
  item_alike (Run s) = print_alike (printed s)

behind_alike : (used same : List Text) (m : TopItem) → SameMembers used same → SameMembers (used_behind used m) (used_behind same m)
behind_alike used same (Using names) h q =
    list_any-append (bytes_eq q) used names ∙ ap (λ b. b || is_among q names) (h q) ∙ sym (list_any-append (bytes_eq q) same names)
behind_alike used same (AbstractDef x t) h q = h q
behind_alike used same (StructDef b x t ps) h q = h q
behind_alike used same (Def m f ps b) h q = h q
behind_alike used same (Declare f) h q = h q
behind_alike used same (Const x e) h q = h q
behind_alike used same (Directive m f ts) h q = h q
behind_alike used same (Run s) h q = h q

pub items_alike : (known : Known) (used same : List Text) (ms : List TopItem) → SameMembers used same → script_items known used ms ≡ script_items known same ms
items_alike known used same [] h = refl
items_alike known used same (m ∷ ms) h =
    ap (λ b. b && script_items (known_behind known m) (used_behind used m) ms) (item_alike known used same h m)
    ∙ ap (λ b. script_item known same m && b) (items_alike (known_behind known m) (used_behind used m) (used_behind same m) ms (behind_alike used same m h))
