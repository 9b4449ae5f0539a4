-- The reserved words, which can't be names.
use Rattle.std.specs.Prelude.{ℕ, Bool, List, [], ◌∷◌, Option, codes, find, is_some}
use Rattle.std.specs.Str.{bytes_eq}
use Rattle.pj_words.specs.declared.word.Word.{Word}
use Rattle.pj_words.specs.declared.word.Word.TheVariants as words

abbrev pub word_text : Word → List ℕ
word_text words.Module = codes "module"
word_text words.End = codes "end"
word_text words.Using = codes "using"
word_text words.Struct = codes "struct"
word_text words.Function = codes "function"
word_text words.If = codes "if"
word_text words.ElseIf = codes "elseif"
word_text words.Else = codes "else"
word_text words.While = codes "while"
word_text words.For = codes "for"
word_text words.Break = codes "break"
word_text words.Continue = codes "continue"
word_text words.Return = codes "return"
word_text words.Global = codes "global"
word_text words.Const = codes "const"
word_text words.True = codes "true"
word_text words.False = codes "false"
word_text words.Nothing = codes "nothing"
word_text words.Begin = codes "begin"
word_text words.Let = codes "let"
word_text words.Do = codes "do"
word_text words.Try = codes "try"
word_text words.Catch = codes "catch"
word_text words.Finally = codes "finally"
word_text words.Quote = codes "quote"
word_text words.Macro = codes "macro"
word_text words.Import = codes "import"
word_text words.Export = codes "export"
word_text words.BareModule = codes "baremodule"
word_text words.Local = codes "local"
word_text words.Where = codes "where"

unfoldable pub all_words : List Word
all_words =
    words.Module ∷ words.End ∷ words.Using ∷ words.Struct ∷ words.Function ∷ words.If ∷ words.ElseIf ∷ words.Else ∷
    words.While ∷ words.For ∷ words.Break ∷ words.Continue ∷ words.Return ∷ words.Global ∷ words.Const ∷ words.True ∷
    words.False ∷ words.Nothing ∷ words.Begin ∷ words.Let ∷ words.Do ∷ words.Try ∷ words.Catch ∷ words.Finally ∷
    words.Quote ∷ words.Macro ∷ words.Import ∷ words.Export ∷ words.BareModule ∷ words.Local ∷ words.Where ∷ []

-- the reserved word that a text is
unfoldable pub reserved_word : List ℕ → Option Word
reserved_word text = find (λ word. bytes_eq (word_text word) text) all_words

abbrev pub is_reserved : List ℕ → Bool
is_reserved text = is_some (reserved_word text)
