-- A name is found in a table of names that are kept once where it is found in the list of them.
use Rattle.std.proofs.Common.{◌≡◌, ℕ, ◌+◌, Bool, true, false, cond, ◌||◌, List, [], ◌∷◌, ◌++◌, Option, Some, None, refl, sym, ap, ◌∙◌}
use Rattle.std.specs.List.{list_any, position_from}
use Rattle.std.specs.Option.{is_some, option_map}
use Rattle.std.specs.Str.{bytes_eq}
use Rattle.std.proofs.lemmas.Iterator.Adapters.{position_from-zero}
use Rattle.std.proofs.lemmas.List.Folds.{list_any-append}
use Rattle.std.proofs.lemmas.Slice.Eq.{bytes_eq-Decides}
use Rattle.pj_base.specs.Interned.{found_at, has_text}
use Rattle.pj_base.specs.declared.names.Name.{Name}
use Rattle.pj_read_makers.specs.Known.{distinct, with_text, with_texts}

or-false : (b : Bool) → (b || false) ≡ b
or-false true = refl
or-false false = refl

or-assoc : (a b c : Bool) → ((a || b) || c) ≡ (a || (b || c))
or-assoc true b c = refl
or-assoc false b c = refl

or-true : (b : Bool) → (b || true) ≡ true
or-true true = refl
or-true false = refl

-- one more name, where it was there
there : (q x : List ℕ) (k : List (List ℕ)) (t : Bool) → bytes_eq q x ≡ t → has_text x k ≡ true → has_text q k ≡ (has_text q k || t)
there q x k false e h = sym (or-false (has_text q k))
there q x k true e h = ap (λ y. has_text y k) ((bytes_eq-Decides q x).0 e) ∙ h ∙ sym (or-true (has_text q k))

-- one more name
added : (q x : List ℕ) (k : List (List ℕ)) (t : Bool) → has_text x k ≡ t
    → list_any (bytes_eq q) (cond t k (k ++ x ∷ [])) ≡ (has_text q k || bytes_eq q x)
added q x k true h = there q x k (bytes_eq q x) refl h
added q x k false h = list_any-append (bytes_eq q) k (x ∷ []) ∙ ap (λ b. has_text q k || b) (or-false (bytes_eq q x))

pub has-texts : (q : List ℕ) (k xs : List (List ℕ)) → has_text q (with_texts k xs) ≡ (has_text q k || has_text q xs)
has-texts q k [] = sym (or-false (has_text q k))
has-texts q k (x ∷ xs) =
    has-texts q (with_text k x) xs ∙ ap (λ b. b || has_text q xs) (added q x k (has_text x k) refl) ∙ or-assoc (has_text q k) (bytes_eq q x) (has_text q xs)

pub texts-after : (k xs : List (List ℕ)) (x : List ℕ) → with_texts k (xs ++ x ∷ []) ≡ with_text (with_texts k xs) x
texts-after k [] x = refl
texts-after k (y ∷ xs) x = texts-after (with_text k y) xs x

some-or : (b : Bool) (i : ℕ) (o : Option ℕ) (c : Bool) → is_some o ≡ c → is_some (cond b (Some i) o) ≡ (b || c)
some-or true i o c h = refl
some-or false i o c h = h

place-there : {A : Type 0} (p : A → Bool) (i : ℕ) (xs : List A) → is_some (position_from p i xs) ≡ list_any p xs
place-there p i [] = refl
place-there p i (x ∷ xs) = some-or (p x) i (position_from p (i + 1) xs) (list_any p xs) (place-there p (i + 1) xs)

some-mapped : (r : Option Name) → is_some r ≡ is_some (option_map (λ (n : Name). n.0) r)
some-mapped (Some n) = refl
some-mapped None = refl

pub known-there : (r : Option Name) (q : List ℕ) (listed known : List (List ℕ)) → option_map (λ (n : Name). n.0) r ≡ found_at q known → known ≡ distinct listed
    → is_some r ≡ has_text q listed
known-there r q listed known e d =
    some-mapped r ∙ ap is_some e ∙ ap is_some (position_from-zero (bytes_eq q) known) ∙ place-there (bytes_eq q) 0 known
    ∙ ap (has_text q) d ∙ has-texts q [] listed

pub known_after : (known new listed : List (List ℕ)) (x : List ℕ) → known ≡ distinct listed → new ≡ with_text known x → new ≡ distinct (listed ++ x ∷ [])
known_after known new listed x d e = e ∙ ap (λ k. with_text k x) d ∙ sym (texts-after [] listed x)
