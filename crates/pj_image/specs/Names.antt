-- The names that an image declares.
use Rattle.std.specs.Prelude.{ℕ, Bool, List, [], ◌∷◌, ◌++◌, ◌&&◌, not, if◌then◌else◌, Option, Some, None, option_and_then, slice_get}
use Rattle.pj_base.specs.Interned.{has_text}
use Rattle.pj_words.specs.Words.{is_identifier, is_base_name}
use Rattle.pj_tree.specs.declared.tree.Sym.{Sym}
use Rattle.pj_tree.specs.declared.tree.Sym.TheVariants as s

-- the number of a name, where it has one
abbrev pub sym_number : Sym → Option ℕ
sym_number (s.Number n) = Some n
sym_number (s.Text _) = None

-- the string that a name is
abbrev pub text_of : List (List ℕ) → Sym → Option (List ℕ)
text_of strings name = option_and_then (λ n. slice_get strings n) (sym_number name)

-- what a package can bind
abbrev pub bindable : List ℕ → Bool
bindable text = is_identifier text && not (is_base_name text)

-- the names so far and one more, if it passes and is new
abbrev pub text_seen : (List ℕ → Bool) → List (List ℕ) → Option (List ℕ) → Option (List (List ℕ))
text_seen good seen None = None
text_seen good seen (Some text) = if good text && not (has_text text seen) then Some (seen ++ text ∷ []) else None

abbrev pub name_seen : (List ℕ → Bool) → List (List ℕ) → List (List ℕ) → Option ℕ → Option (List (List ℕ))
name_seen good strings seen number = text_seen good seen (option_and_then (λ n. slice_get strings n) number)

-- the names so far and these, if each is a string of the image that passes, and differs from all before it
unfoldable pub all_seen : (List ℕ → Bool) → List (List ℕ) → List (List ℕ) → List (Option ℕ) → Option (List (List ℕ))
all_seen good strings seen [] = Some seen
all_seen good strings seen (number ∷ numbers) = option_and_then (λ more. all_seen good strings more numbers) (name_seen good strings seen number)
