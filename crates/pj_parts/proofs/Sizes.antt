-- How many bytes the fields have.
use Rattle.std.proofs.Common.{◌≡◌, ℕ, ℤ, ◌+◌, ◌≤◌, List, ◌++◌, length, take, refl, ◌∙◌, ap, length-append}
use Rattle.std.proofs.lemmas.List.{take_all}
use Rattle.pj_parts.specs.Capped.{capped}
use Rattle.std.specs.List.{flat_map}
use Rattle.pj_fields.specs.Fields.{number, int, list}

pub length-number : (n : ℕ) → length (number n) ≡ 4
unfolding number
length-number n = refl

pub length-int : (z : ℤ) → length (int z) ≡ 8
unfolding int
length-int z = refl

pub length-list : {A : Type 0} (put : A → List ℕ) (xs : List A) → length (list put xs) ≡ 4 + length (flat_map put xs)
unfolding list
length-list put xs = length-append (number (length xs)) (flat_map put xs) ∙ ap (λ n. n + length (flat_map put xs)) (length-number (length xs))

pub ruleset sizes = (length-number, length-int, length-list, length-append)

-- a loop that added up the sizes of all members has the size of the list
pub size_all : {A : Type 0} (put : A → List ℕ) (xs : List A) (i total : ℕ) → length xs ≤ i → total ≡ capped (4 + length (flat_map put (take i xs))) → total ≡ capped (length (list put xs))
size_all put xs i total le so_far =
    let all : take i xs ≡ xs = take_all i xs le in
    rw (length-list put xs) (rw all at so_far)
