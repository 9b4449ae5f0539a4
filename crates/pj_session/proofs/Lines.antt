-- Lines that are put in parts.
use Rattle.std.proofs.Common.{◌≡◌, ℕ, List, ◌++◌, Result, Ok, Err, OnOk, append_assoc, refl}

pub three_put : {T E : Type 0} (old one two three a b c named : List ℕ) (result : Result T E) → b ≡ named → one ≡ old ++ a → two ≡ one ++ b → OnOk result (three ≡ two ++ c) → OnOk result (three ≡ old ++ (a ++ (named ++ c)))
three_put old one two three a b c named (Err e) same first second third = tt
three_put old one two three a b c named (Ok u) same first second third =
    rw (third, second, first, same, append_assoc old a named, append_assoc old (a ++ named) c, append_assoc a named c) refl
