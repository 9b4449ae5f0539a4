-- Names.
use Rattle.std.specs.Prelude.{ℕ, Bool, not, List, [], ◌∷◌, ◌==◌, ◌&&◌, if◌then◌else◌}
use Rattle.pj_words.specs.Words.{continues_name}
use Rattle.pj_lex.specs.Characters.{first_is}

-- a name goes on with this character, unless it is a `!` that `=` follows directly
abbrev pub goes_on : ℕ → List ℕ → Bool
goes_on c cs = continues_name c && not ((c == 33) && first_is (λ d. d == 61) cs)

-- what follows the characters with which a name goes on
unfoldable pub past_name : List ℕ → List ℕ
past_name [] = []
past_name (c ∷ cs) = if goes_on c cs then past_name cs else c ∷ cs
