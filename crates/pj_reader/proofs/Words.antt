-- Words that begin no statement and no item.
use Rattle.std.proofs.Common.{◌≡◌, false, List, refl}
use Rattle.pj_words.specs.declared.word.Word.{Word}
use Rattle.pj_words.specs.declared.word.Word.TheVariants as words
use Rattle.pj_lex.specs.declared.token.TokenKind.TheVariants as kinds
use Rattle.pj_grammar.specs.declared.frame.Frame.{Frame}
use Rattle.pj_grammar.specs.Closing.{ending}
use Rattle.pj_grammar.specs.Machine.{line_word}
use Rattle.pj_grammar.specs.Tokens.{Place}
use Rattle.pj_reader.specs.Words.{begins_line}

pub word_ends : (k : List Frame) (p : Place) (w : Word) → begins_line w ≡ false → line_word k p w ≡ ending k (kinds.Reserved w)
word_ends k p words.If e = absurd (cc)
word_ends k p words.While e = absurd (cc)
word_ends k p words.For e = absurd (cc)
word_ends k p words.Break e = absurd (cc)
word_ends k p words.Continue e = absurd (cc)
word_ends k p words.Return e = absurd (cc)
word_ends k p words.Global e = absurd (cc)
word_ends k p words.Struct e = absurd (cc)
word_ends k p words.Function e = absurd (cc)
word_ends k p words.Const e = absurd (cc)
word_ends k p words.Using e = absurd (cc)
word_ends k p words.True e = absurd (cc)
word_ends k p words.False e = absurd (cc)
word_ends k p words.Nothing e = absurd (cc)
word_ends k p _ e = refl
