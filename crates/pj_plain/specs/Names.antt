-- Which names a definition can have.
use Rattle.std.specs.Prelude.{Bool, List, [], ◌∷◌, ◌&&◌, ◌||◌, true, not, codes}
use Rattle.std.specs.List.{list_any}
use Rattle.std.specs.Str.{bytes_eq}
use Rattle.pj_meaning.specs.Tree.{Text}
use Rattle.pj_words.specs.Words.{is_base_name, is_special}

-- the word is one of these
abbrev pub is_among : Text → List Text → Bool
is_among word words = list_any (bytes_eq word) words

-- no text stands twice
abbrev pub all_different : List Text → Bool
all_different [] = true
all_different (text ∷ texts) = not (is_among text texts) && all_different texts

-- A definition may be called so: the name is neither one that Base binds, nor one with a form of its own, nor that of the
-- module Base or Main.
abbrev pub free_name : Text → Bool
free_name name = not (is_base_name name || (is_special name || (bytes_eq name (codes "Base") || bytes_eq name (codes "Main"))))
