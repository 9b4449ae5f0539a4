use Rattle.std.proofs.Common.{rules, ◌≡◌, ℕ, List, drop, find, sym, subst, ◌∙◌, tests, arith}
use Rattle.std.specs.Str.{bytes_eq}
use Rattle.std.proofs.Math.Seq.{drop-cons}
use Rattle.std.proofs.lemmas.Iterator.{YieldsList-from_slice}
use Rattle.std.proofs.lemmas.Iterator.Search.{find_from_yields_List}
use Rattle.pj_words.specs.Reserved.{word_text, reserved_word}
use Rattle.pj_words.proofs.word.reserved_word.Goals as goal

pub returns-in-len1-up : goal.returns-in-len1-up
returns-in-len1-up c =
    c.copied.ensures ∙ find_from_yields_List (λ w. bytes_eq (word_text w) c.args.text.now) _ _ c.find.result c.find.ensures.ran (YieldsList-from_slice c.words_from.result.now cc) (λ x b q k. search (rules, tests))
    ∙ subst (λ (t : List ℕ). find (λ w. bytes_eq (word_text w) t) c.words_from.result.now ≡ reserved_word t)
    (sym (drop-cons c.args.text.now 0 _ (omega (arith, c.in-len1-up.len_at_least))))
    ((rw c.as_bytes.ensures.value at c.words_from.ensures) (drop 1 c.args.text.now))
