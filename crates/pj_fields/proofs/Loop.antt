-- Reading members one after another, as a loop does.
use Rattle.std.proofs.Common.{◌≡◌, ℕ, suc, ◌-◌, ◌+◌, ◌≤◌, ◌<◌, List, [], ◌∷◌, ◌++◌, Option, Some, None, refl, sym, ap, ◌∙◌, append_assoc, arith}
use Rattle.std.proofs.lemmas.List.{append-nil}
use Rattle.pj_fields.specs.Fields.{Reader, after, many}

-- what was read before, and what is still read
abbrev pub with_front : {A : Type 0} → List A → Option (List A × List ℕ) → Option (List A × List ℕ)
with_front front read = after read (λ xs left. Some (front ++ xs, left))

regroup : {A : Type 0} (front : List A) (x : A) (read : Option (List A × List ℕ)) → with_front front (after read (λ xs left. Some (x ∷ xs, left))) ≡ with_front (front ++ x ∷ []) read
regroup front x (Some y) = ap (λ ns. Some (ns, y.1)) (sym (append_assoc front (x ∷ []) y.0))
regroup front x None = refl

pub goes_on : {A : Type 0} (get : Reader A) (front : List A) (count i : ℕ) (bytes : List ℕ) (x : A) (rest : List ℕ) (total : Option (List A × List ℕ)) → i < count → get bytes ≡ Some (x, rest)
    → with_front front (many get (count - i) bytes) ≡ total → with_front (front ++ x ∷ []) (many get (count - (i + 1)) rest) ≡ total
unfolding many
goes_on get front count i bytes x rest total lt h so_far =
    let k : count - i ≡ suc (count - (i + 1)) = omega arith in
    let one : with_front front (many get (count - i) bytes) ≡ with_front (front ++ x ∷ []) (many get (count - (i + 1)) rest) = rw (k, h) (regroup front x (many get (count - (i + 1)) rest)) in
    sym one ∙ so_far

pub ends : {A : Type 0} (get : Reader A) (front : List A) (count i : ℕ) (bytes : List ℕ) (total : Option (List A × List ℕ)) → i < count → get bytes ≡ None
    → with_front front (many get (count - i) bytes) ≡ total → total ≡ None
unfolding many
ends get front count i bytes total lt h so_far =
    let k : count - i ≡ suc (count - (i + 1)) = omega arith in
    let one : with_front front (many get (count - i) bytes) ≡ None = rw (k, h) refl in
    sym so_far ∙ one

pub is_done : {A : Type 0} (get : Reader A) (front : List A) (count i : ℕ) (bytes : List ℕ) (total : Option (List A × List ℕ)) → count ≤ i → with_front front (many get (count - i) bytes) ≡ total → total ≡ Some (front, bytes)
unfolding many
is_done get front count i bytes total le so_far =
    let k : count - i ≡ 0 = omega arith in
    let one : with_front front (many get (count - i) bytes) ≡ Some (front, bytes) = rw k (ap (λ xs. Some (xs, bytes)) (append-nil front)) in
    sym so_far ∙ one

front_nil : {A : Type 0} (read : Option (List A × List ℕ)) → with_front [] read ≡ read
front_nil (Some y) = refl
front_nil None = refl

pub begins : {A : Type 0} (get : Reader A) (count : ℕ) (bytes : List ℕ) → with_front [] (many get (count - 0) bytes) ≡ many get count bytes
begins get count bytes =
    let k : count - 0 ≡ count = omega arith in
    rw k (front_nil (many get count bytes))
