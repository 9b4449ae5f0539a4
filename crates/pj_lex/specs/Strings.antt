-- Strings.
use Rattle.std.specs.Prelude.{ℕ, Bool, true, false, List, [], ◌∷◌, ◌++◌, ◌==◌, ◌||◌, Option, Some, None, if◌then◌else◌}
use Rattle.std.specs.Char.{encode_utf8}

-- behind a `\` stands one of `\`, `"`, `n`, `t` and `$`
abbrev pub is_escape : ℕ → Bool
is_escape c = (c == 92) || (c == 34) || (c == 110) || (c == 116) || (c == 36)

-- the character for which it stands: a line end, a tab, or itself
abbrev pub escaped : ℕ → ℕ
escaped c = if c == 110 then 10 else if c == 116 then 9 else c

-- The string's value, and what follows its closing `"`. The bytes of its value so far are given, and whether a `\` stands
-- directly before. No string has a line end or a `$` without a `\`; 34 is `"`, 36 `$` and 92 `\`.
unfoldable pub quoted : List ℕ → Bool → List ℕ → Option (List ℕ × List ℕ)
quoted value behind_escape [] = None
quoted value true (c ∷ cs) = if is_escape c then quoted (value ++ encode_utf8 (escaped c)) false cs else None
quoted value false (c ∷ cs) =
    if c == 34 then Some (value, cs)
    else if (c == 10) || (c == 36) then None
    else if c == 92 then quoted value true cs
    else quoted (value ++ encode_utf8 c) false cs
