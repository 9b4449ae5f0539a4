-- Taking names one after another, as a loop does.
use Rattle.std.proofs.Common.{◌≡◌, ℕ, suc, ◌+◌, ◌≤◌, ◌<◌, Bool, List, ◌∷◌, map, length, get_or, drop, Option, Some, refl, sym, subst, ◌∙◌, add-one}
use Rattle.std.specs.Prelude.{option_and_then}
use Rattle.std.proofs.Math.Seq.{drop-cons}
use Rattle.std.proofs.lemmas.List.{drop_all}
use Rattle.pj_parts.specs.declared.fault.PartFault.{PartFault}
use Rattle.pj_parts.specs.declared.fault.PartFault.TheVariants as faults
use Rattle.pj_parts.specs.Given.{Fails}
use Rattle.pj_image.specs.New.{name_taken, all_taken}

module _ {A : Type 0} (num : A → Option ℕ) (good : List ℕ → Bool) (strings : List (List ℕ)) where
  pub turn : (xs : List A) (i : ℕ) (x : A) (seen : List (List ℕ)) → i < length xs → x ≡ get_or xs i x
      → all_taken good strings seen (map num (drop i xs)) ≡ option_and_then (λ more. all_taken good strings more (map num (drop (i + 1) xs))) (name_taken good strings seen (num x))
  unfolding all_taken
  turn xs i x seen lt is =
      let d : drop i xs ≡ x ∷ drop (suc i) xs = subst (λ (y : A). drop i xs ≡ y ∷ drop (suc i) xs) (sym is) (drop-cons xs i x lt) in
      rw (add-one, d) refl

  pub goes_on : (xs : List A) (i : ℕ) (x : A) (seen more : List (List ℕ)) (total : Option (List (List ℕ))) → i < length xs → x ≡ get_or xs i x → name_taken good strings seen (num x) ≡ Some more
      → all_taken good strings seen (map num (drop i xs)) ≡ total → all_taken good strings more (map num (drop (i + 1) xs)) ≡ total
  goes_on xs i x seen more total lt is h so_far = sym (turn xs i x seen lt is ∙ rw h refl) ∙ so_far

  pub fails : (fault : PartFault) (xs : List A) (i : ℕ) (x : A) (seen : List (List ℕ)) (total : Option (List (List ℕ))) → i < length xs → x ≡ get_or xs i x → Fails fault (name_taken good strings seen (num x))
      → all_taken good strings seen (map num (drop i xs)) ≡ total → Fails fault total
  fails faults.NoMemory xs i x seen total lt is h so_far = tt
  fails faults.Bad xs i x seen total lt is h so_far = sym so_far ∙ turn xs i x seen lt is ∙ rw h refl

  pub is_done : (xs : List A) (i : ℕ) (seen : List (List ℕ)) (total : Option (List (List ℕ))) → length xs ≤ i → all_taken good strings seen (map num (drop i xs)) ≡ total → total ≡ Some seen
  unfolding all_taken
  is_done xs i seen total le so_far = sym so_far ∙ rw (drop_all i xs le) refl
