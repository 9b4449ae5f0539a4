-- Words at the front of statements and items.
use Rattle.std.specs.Prelude.{Bool, true, false}
use Rattle.pj_words.specs.declared.word.Word.{Word}
use Rattle.pj_words.specs.declared.word.Word.TheVariants as words

-- whether a word begins a statement or an item; all others end a list of these, or stand in none
abbrev pub begins_line : Word → Bool
begins_line words.If = true
begins_line words.While = true
begins_line words.For = true
begins_line words.Break = true
begins_line words.Continue = true
begins_line words.Return = true
begins_line words.Global = true
begins_line words.Struct = true
begins_line words.Function = true
begins_line words.Const = true
begins_line words.Using = true
begins_line words.True = true
begins_line words.False = true
begins_line words.Nothing = true
begins_line _ = false
