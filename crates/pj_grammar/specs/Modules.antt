-- The names of modules of a text, which are known before its grammar is asked.
use Rattle.std.specs.Prelude.{ℕ, Bool, List, [], ◌∷◌, ◌++◌, codes}
use Rattle.std.specs.List.{list_any}
use Rattle.std.specs.Str.{bytes_eq}
use Rattle.pj_words.specs.declared.word.Word.TheVariants as words
use Rattle.pj_lex.specs.declared.sign.Sign.TheVariants as signs
use Rattle.pj_lex.specs.declared.token.TokenKind.{TokenKind}
use Rattle.pj_lex.specs.declared.token.TokenKind.TheVariants as kinds
use Rattle.pj_lex.specs.declared.token.Token.{Token}

abbrev pub Modules : Type 0
Modules = List (List ℕ)

abbrev pub is_module : Modules → List ℕ → Bool
is_module modules x = list_any (bytes_eq x) modules

-- how much of `using NAME , NAME ..` stands directly before
pub data Run : Type 0 where
  outside : Run
  wants_name : Run
  has_name : Run

abbrev pub run_after : Run → TokenKind → Run
run_after _ (kinds.Reserved words.Using) = wants_name
run_after wants_name (kinds.Name x) = has_name
run_after has_name (kinds.Sign signs.Comma) = wants_name
run_after _ _ = outside

abbrev pub name_in_run : Run → TokenKind → List (List ℕ)
name_in_run wants_name (kinds.Name x) = x ∷ []
name_in_run _ _ = []

unfoldable pub names_used : Run → List Token → List (List ℕ)
names_used run [] = []
names_used run (t ∷ ts) = name_in_run run t.what ++ names_used (run_after run t.what) ts

-- `Base`, the text's own name, which is `Main` for a script, and each name in a run `using NAME , NAME ..` of its tokens
abbrev pub modules_of : List ℕ → List Token → Modules
modules_of own tokens = codes "Base" ∷ own ∷ names_used outside tokens
