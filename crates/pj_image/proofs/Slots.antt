-- Hashes in slots: one that is put wasn't there, and all that were there still are.
use Rattle.std.proofs.Common.{◌≡◌, ◌≢◌, ◌==◌, ◌||◌, ◌⊎◌, inl, inr, ℕ, ◌+◌, ◌<◌, ◌≤◌, Bool, true, false, List, [], ◌∷◌, ◌++◌, length, take, get_or, set, refl, sym, ap, subst, ◌∙◌, arith}
use Rattle.std.specs.List.{IsDistinct, list_any}
use Rattle.std.proofs.lemmas.Bool.{eqb-true, eq-eqb, cases_lt}
use Rattle.std.proofs.lemmas.List.{get_or-set_same, get_or-set_other, take_more}
use Rattle.std.proofs.lemmas.List.Folds.{list_any-append}
use Rattle.std.proofs.lemmas.Map.Keys.{IsDistinct-push}
use Rattle.std.specs.Cmp.{nat_eq_equiv}
use Rattle.pj_image.specs.Hashes.{slot_of, Stands, AllStand}

apart : (a b : ℕ) → (a == b) ≡ false → a ≢ b
apart a b e same = let no : true ≡ false = sym (eq-eqb a b same) ∙ e in absurd cc

module _ (slots : List ℕ) (hash turn : ℕ) (many : length slots ≡ 16384) (nonzero : hash ≢ 0) (free : get_or slots (slot_of hash turn) 0 ≡ 0)
    (taken : (earlier : ℕ) → earlier < turn → get_or slots (slot_of hash earlier) 0 ≢ 0)
    (others : (earlier : ℕ) → earlier < turn → get_or slots (slot_of hash earlier) 0 ≢ hash) where
  no_turn : (s : Stands slots hash) → (s.turn < turn) ⊎ (turn ≤ s.turn) → ⊥
  no_turn s (inl lt) = others s.turn lt s.there
  no_turn s (inr le) = later (turn == s.turn) refl
    where
      later : (b : Bool) → (turn == s.turn) ≡ b → ⊥
      later true e = nonzero (sym s.there ∙ ap (λ t. get_or slots (slot_of hash t) 0) (sym (eqb-true turn s.turn e)) ∙ free)
      later false e = s.taken turn (omega (arith, le, apart turn s.turn e)) free

  pub new : (hashes : List ℕ) → AllStand slots hashes → list_any (λ h. hash == h) hashes ≡ false
  new hashes all = by (list_any (λ h. hash == h) hashes) refl
    where
      by : (b : Bool) → list_any (λ h. hash == h) hashes ≡ b → list_any (λ h. hash == h) hashes ≡ false
      by false e = e
      by true e = let s = all hash e in absurd (no_turn s (cases_lt s.turn turn))

  kept : (at : ℕ) → get_or slots at 0 ≢ 0 → get_or (set slots (slot_of hash turn) hash) at 0 ≡ get_or slots at 0
  kept at there = get_or-set_other slots (slot_of hash turn) at hash 0 (λ same. there (ap (λ k. get_or slots k 0) same ∙ free))

  still : (h : ℕ) → Stands slots h → Stands (set slots (slot_of hash turn) hash) h
  still h s = record {
    nonzero = s.nonzero;
    turn = s.turn;
    there = kept (slot_of h s.turn) (λ e. s.nonzero (sym s.there ∙ e)) ∙ s.there;
    taken = λ earlier lt e. s.taken earlier lt (sym (kept (slot_of h earlier) (s.taken earlier lt)) ∙ e);
  }

  own : Stands (set slots (slot_of hash turn) hash) hash
  own = record {
    nonzero = nonzero;
    turn = turn;
    there = get_or-set_same slots (slot_of hash turn) hash 0 (omega (arith, many));
    taken = λ earlier lt e. taken earlier lt (sym (kept (slot_of hash earlier) (taken earlier lt)) ∙ e);
  }

  pub stand : (hashes : List ℕ) → AllStand slots hashes → AllStand (set slots (slot_of hash turn) hash) (hashes ++ hash ∷ [])
  stand hashes all h e = by (list_any (λ x. h == x) hashes) (h == hash) refl refl (sym (list_any-append (λ x. h == x) hashes (hash ∷ [])) ∙ e)
    where
      by : (a b : Bool) → list_any (λ x. h == x) hashes ≡ a → (h == hash) ≡ b → (a || (b || false)) ≡ true → Stands (set slots (slot_of hash turn) hash) h
      by true b ea eb e = still h (all h ea)
      by false true ea eb e = subst (Stands (set slots (slot_of hash turn) hash)) (sym (eqb-true h hash eb)) own
      by false false ea eb e = absurd cc

pub nothing : (slots : List ℕ) → AllStand slots []
nothing slots h e = absurd cc

-- the lists that a loop over hashes has behind it
pub one_more : (slots hashes : List ℕ) (i d : ℕ) → i < length hashes → AllStand slots (take i hashes ++ get_or hashes i d ∷ []) → AllStand slots (take (i + 1) hashes)
one_more slots hashes i d lt all = subst (AllStand slots) (sym (take_more hashes i d lt)) all

pub differ_more : (hashes : List ℕ) (i d : ℕ) → i < length hashes → IsDistinct (λ a b. a == b) (take i hashes) → list_any (λ x. get_or hashes i d == x) (take i hashes) ≡ false → IsDistinct (λ a b. a == b) (take (i + 1) hashes)
differ_more hashes i d lt differ none = subst (IsDistinct (λ a b. a == b)) (sym (take_more hashes i d lt)) (IsDistinct-push nat_eq_equiv (take i hashes) (get_or hashes i d) differ none)

pub none_differ : IsDistinct (λ (a b : ℕ). a == b) []
unfolding IsDistinct
none_differ = tt
