-- Hashes of texts, and how they are spread over parts.
use Rattle.std.specs.Prelude.{◌≡◌, ◌≢◌, ◌<◌, ◌+◌, ◌/◌, ◌%◌, ◌==◌, ℕ, true, List, [], length, filter, slice_index_or}
use Rattle.std.specs.List.{list_any}
use Rattle.std.specs.Hash.FoldHasher as folding

-- the hash of a text
unfoldable pub hash_of : List ℕ → ℕ
hash_of text = folding.finish (folding.write folding.initial text)

-- 1,024 parts, where each hash stands in the part of its remainder
pub record Spreads (hashes : List ℕ) (parts : List (List ℕ)) : Type 0 where
  pub many : length parts ≡ 1024
  pub each : (i : ℕ) → i < 1024 → slice_index_or parts i [] ≡ filter (λ h. h % 1024 == i) hashes

-- ---- the hashes of one part in 16,384 slots, of which those that hold 0 are free

-- the slot in which a hash is sought at a turn: from its own on, and from the first again behind the last
abbrev pub slot_of : ℕ → ℕ → ℕ
slot_of hash turn = (hash / 1024 + turn) % 16384

-- the hash stands in one of its slots, and no earlier one is free
pub record Stands (slots : List ℕ) (hash : ℕ) : Type 0 where
  pub nonzero : hash ≢ 0
  pub turn : ℕ
  pub there : slice_index_or slots (slot_of hash turn) 0 ≡ hash
  pub taken : (earlier : ℕ) → earlier < turn → slice_index_or slots (slot_of hash earlier) 0 ≢ 0

-- each of the hashes does
abbrev pub AllStand : List ℕ → List ℕ → Type 0
AllStand slots hashes = (hash : ℕ) → list_any (λ h. hash == h) hashes ≡ true → Stands slots hash
