-- Which words of the command line are a command.
use Rattle.std.specs.Prelude.{◌≡◌, ℕ, ◌^◌, ◌<◌, Bool, true, false, List, [], ◌∷◌, ◌&&◌, ◌||◌, ◌==◌, nat_le, nat_lt, if◌then◌else◌, length, codes}
use Rattle.std.specs.List.{list_all}
use Rattle.std.specs.Fmt.{decimal}
use Rattle.pj_meaning.specs.Tree.{Text}
use Rattle.pj_words.specs.Words.{is_package_name}

-- an ASCII letter or digit, `_`, `-` or `.`
abbrev pub is_file_byte : ℕ → Bool
is_file_byte b =
    (nat_le 97 b && nat_le b 122) || (nat_le 65 b && nat_le b 90) || (nat_le 48 b && nat_le b 57) || (b == 95) || (b == 45) || (b == 46)

-- 1 to 64 of these bytes, of which the first is neither `.` nor `-`
abbrev pub is_file_name : Text → Bool
is_file_name [] = false
is_file_name (b ∷ bs) =
    if (b == 46) || (b == 45) then false else (if nat_lt 64 (length (b ∷ bs)) then false else list_all is_file_byte (b ∷ bs))

-- `0`, or a digit from 1 on in front
abbrev pub starts_number : Text → Bool
starts_number [] = false
starts_number (b ∷ bs) = if b == 48 then length bs == 0 else nat_le 49 b && nat_le b 57

-- `run STEPS SCRIPT`: a number in decimal digits without a leading zero, below 2 ^ 63, and a file's name
pub record IsRun (words : List Text) (steps : ℕ) (script : Text) : Type 0 where
  pub spelled : words ≡ codes "run" ∷ decimal steps ∷ script ∷ []
  pub few : steps < 2 ^ 63
  pub named : is_file_name script ≡ true

-- `precompile STEPS NAME`: such a number, and a package's name
pub record IsPrecompile (words : List Text) (steps : ℕ) (name : Text) : Type 0 where
  pub spelled : words ≡ codes "precompile" ∷ decimal steps ∷ name ∷ []
  pub few : steps < 2 ^ 63
  pub named : is_package_name name ≡ true

-- the words that are a command
pub data Command (words : List Text) : Type 0 where
  runs : (steps : ℕ) (script : Text) → IsRun words steps script → Command words
  precompiles : (steps : ℕ) (name : Text) → IsPrecompile words steps name → Command words
