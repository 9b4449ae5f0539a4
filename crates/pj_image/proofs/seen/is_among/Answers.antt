use Rattle.std.proofs.Common.{rules, sym, ◌∙◌, tests, Bor, ℕ, List}
use Rattle.std.specs.Str.{bytes_eq}
use Rattle.std.proofs.lemmas.Iterator.{YieldsList-from_slice}
use Rattle.std.proofs.lemmas.Iterator.Search.{any_from_yields_List}
use Rattle.pj_image.proofs.Kept.{has}
use Rattle.pj_image.proofs.seen.is_among.Goals as goal

pub returns : goal.returns
returns c =
    any_from_yields_List (λ (w : Bor (List ℕ)). bytes_eq c.args.text.now w.now) _ _ c.any.result c.any.ensures.ran (YieldsList-from_slice c.args.texts.now cc) (λ x b q k. search (rules, tests))
    ∙ sym (has (λ (w : Bor (List ℕ)). w.now) c.args.text.now c.args.texts.now)
