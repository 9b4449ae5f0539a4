use Rattle.std.proofs.Common.{rules, sym, ◌∙◌, tests, Bor, ℕ, List}
use Rattle.std.specs.Str.{bytes_eq}
use Rattle.std.proofs.lemmas.Iterator.{YieldsList-from_slice}
use Rattle.std.proofs.lemmas.Iterator.Search.{any_from_yields_List}
use Rattle.pj_words.specs.Words.{is_among}
use Rattle.pj_base.proofs.PlaceLemmas.{list_any-map}
use Rattle.pj_words.proofs.names.is_one_of.Goals as goal

pub returns : goal.returns
unfolding is_among
returns c =
    any_from_yields_List (λ (w : Bor (List ℕ)). bytes_eq c.args.text.now w.now) _ _ c.any.result c.any.ensures.ran (YieldsList-from_slice c.args.texts.now cc) (λ x b q k. search (rules, tests))
    ∙ sym (list_any-map (λ (w : Bor (List ℕ)). w.now) (bytes_eq c.args.text.now) c.args.texts.now)
