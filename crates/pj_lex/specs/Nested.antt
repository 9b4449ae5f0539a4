-- Comments that begin with `#=`, as they nest.
use Rattle.std.specs.Prelude.{◌≡◌, ℕ, ◌==◌, ◌&&◌, false, List, ◌∷◌}

-- Behind its `#=` a comment closes at a `=#`, and this is what follows. A `#=` inside begins one that closes first; 35 is `#`, and
-- 61 is `=`.
pub data Closes : List ℕ → List ℕ → Type 0 where
  closes : {rest : List ℕ} → Closes (61 ∷ 35 ∷ rest) rest
  nests : {cs behind rest : List ℕ} → Closes cs behind → Closes behind rest → Closes (35 ∷ 61 ∷ cs) rest
  passes : {c d : ℕ} {cs rest : List ℕ} → ((c == 35) && (d == 61)) ≡ false → ((c == 61) && (d == 35)) ≡ false → Closes (d ∷ cs) rest → Closes (c ∷ d ∷ cs) rest
