-- Texts one behind the other.
use Rattle.std.proofs.Common.{◌≡◌, ℕ, ◌<◌, List, [], ◌∷◌, ◌++◌, length, codes, refl, append_assoc, arith}
use Rattle.pj_outline.specs.Outline.{Text, names, introduces, introducing, uses, commas}
use Rattle.pj_tree.specs.declared.tree.Sym.{Sym}

pub ruleset appended = (append_assoc)

pub introducing-some : (strings : List Text) (xs : List Sym) → 0 < length xs → introducing strings xs ≡ introduces ++ names strings xs
unfolding introducing
introducing-some strings [] h = absurd (omega (arith, h))
introducing-some strings (x ∷ xs) h = refl

pub uses-some : (ts : List Text) → 0 < length ts → uses ts ≡ codes " using " ++ commas (λ text. text) ts
unfolding uses
uses-some [] h = absurd (omega (arith, h))
uses-some (t ∷ ts) h = refl
