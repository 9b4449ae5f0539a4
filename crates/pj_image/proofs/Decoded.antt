-- What the answer of reading says of spellings.
use Rattle.std.proofs.Common.{◌≡◌, ℕ, List, Result, Ok, Err, sym, ap, ◌∙◌}
use Rattle.std.specs.Prelude.{IfOk}
use Rattle.pj_fields.proofs.Laws.{IsBytes}
use Rattle.pj_image.specs.declared.image.Image.{Image}
use Rattle.pj_image.specs.declared.fault.DecodeFault.{DecodeFault}
use Rattle.pj_image.specs.declared.fault.DecodeFault.TheVariants as faults
use Rattle.pj_image.specs.File.{file_at}
use Rattle.pj_image.specs.Found.{Finds}
use Rattle.pj_image.specs.Formed.{Formed, IsFileOf}
use Rattle.pj_image.specs.Spelled.{spelled}
use Rattle.pj_image.proofs.FileLaws.{file_takes, file_again, same_image}

abbrev Answer : Type 0
Answer = Result Image DecodeFault

pub found_by : (name bytes : List ℕ) (result : Answer) → IsBytes bytes → Finds (λ x. x) result (file_at name bytes) → IfOk result (λ i. IsFileOf name bytes i)
found_by name bytes (Ok i) are h = file_takes name bytes i are h
found_by name bytes (Err fault) are h = tt

pub only_by : (name bytes : List ℕ) (result : Answer) → IsBytes bytes → Finds (λ x. x) result (file_at name bytes) → IfOk result (λ i. (j : Image) → Formed j → bytes ≡ spelled j → j ≡ i)
only_by name bytes (Ok i) are h = λ j fj whole.
    let t = file_takes name bytes i are h in
    same_image j i fj t.formed (sym whole ∙ t.whole)
only_by name bytes (Err fault) are h = tt

pub bad_by : (name bytes : List ℕ) (result : Answer) → Finds (λ x. x) result (file_at name bytes) → (k : ℕ) → result ≡ Err (faults.Format k) → (j : Image) → IsFileOf name bytes j → ⊥
bad_by name bytes (Ok i) h k e j is = absurd cc
bad_by name bytes (Err (faults.Format s)) h k e j is =
    let again : file_at name bytes ≡ Ok j = ap (λ (l : List ℕ). file_at name l) is.whole ∙ ap (λ (n : List ℕ). file_at n (spelled j)) (sym is.called) ∙ file_again j is.formed in
    absurd cc
bad_by name bytes (Err faults.NoMemory) h k e j is = absurd cc
