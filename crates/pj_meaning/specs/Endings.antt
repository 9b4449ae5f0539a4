-- What a run puts in all: the printed text, and then the line of its ending.
use Rattle.std.specs.Prelude.{ℕ, List, [], ◌∷◌, ◌++◌, ◌+◌, ◌/◌, ◌%◌, nat_lt, option_map, unwrap_or, codes, if◌then◌else◌}
use Rattle.std.specs.Fmt.{decimal}
use Rattle.pj_meaning.specs.Tree.{Text}
use Rattle.pj_meaning.specs.Printing.{error_line}
use Rattle.pj_meaning.specs.Script.{Refusal, Format, IsLoaded, Dependency, Relocation, Full, Ending, AtEnd, Uncaught, OutOfSteps, Absent, TooLong, Refused, Ended}

abbrev pub hexadecimal_digit : ℕ → ℕ
hexadecimal_digit n = if nat_lt n 10 then 48 + n else 87 + n

-- two small digits a byte
abbrev pub hexadecimal : List ℕ → Text
hexadecimal [] = []
hexadecimal (b ∷ bs) = hexadecimal_digit (b / 16) ∷ hexadecimal_digit (b % 16) ∷ hexadecimal bs

abbrev pub refusal_line : Text → Refusal → Text
refusal_line file (Format n) = codes "refused " ++ (file ++ (codes " Format " ++ (decimal n ++ codes "\n")))
refusal_line file IsLoaded = codes "refused " ++ (file ++ codes " Loaded\n")
refusal_line file (Dependency name recorded found) =
    codes "refused " ++ (file ++ (codes " Dependency " ++ (name ++ (codes " " ++ (hexadecimal recorded ++ (codes " " ++ (unwrap_or (option_map hexadecimal found) (codes "none") ++ codes "\n")))))))
refusal_line file (Relocation k) = codes "refused " ++ (file ++ (codes " Relocation " ++ (decimal k ++ codes "\n")))
refusal_line file Full = codes "full " ++ (file ++ codes "\n")

abbrev pub ending_line : Ending → Text
ending_line AtEnd = []
ending_line (Uncaught e) = error_line e
ending_line OutOfSteps = codes "steps\n"
ending_line (Absent file) = codes "missing " ++ (file ++ codes "\n")
ending_line (TooLong file) = codes "too long " ++ (file ++ codes "\n")
ending_line (Refused file why) = refusal_line file why

abbrev pub whole_output : Ended → Text
whole_output e = e.last.state.printed ++ ending_line e.ending
