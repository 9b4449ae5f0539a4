-- Comments.
use Rattle.std.specs.Prelude.{ℕ, List, [], ◌∷◌, ◌+◌, ◌-◌, ◌==◌, ◌&&◌, Option, Some, None, if◌then◌else◌}

-- what follows a comment that goes to the line's end: that line end, if there is one
unfoldable pub past_line : List ℕ → List ℕ
past_line [] = []
past_line (c ∷ cs) = if c == 10 then c ∷ cs else past_line cs

-- What follows comments, of which so many are open, where all are closed. `#=` opens one more, and `=#` closes one; 35 is `#`, and 61
-- is `=`.
unfoldable pub past_comments : ℕ → List ℕ → Option (List ℕ)
past_comments open_ones [] = None
past_comments open_ones (c ∷ []) = None
past_comments open_ones (c ∷ d ∷ cs) =
    if (c == 35) && (d == 61) then past_comments (open_ones + 1) cs
    else if (c == 61) && (d == 35) then (if open_ones == 1 then Some cs else past_comments (open_ones - 1) cs)
    else past_comments open_ones (d ∷ cs)
