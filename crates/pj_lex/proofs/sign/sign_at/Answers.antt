use Rattle.std.proofs.Common.{rules, ◌∙◌, tests, nat_eq}
use Rattle.std.specs.List.{starts_with}
use Rattle.std.proofs.lemmas.Iterator.{YieldsList-from_slice}
use Rattle.std.proofs.lemmas.Iterator.Search.{find_from_yields_List}
use Rattle.pj_lex.specs.Signs.{sign_text, sign_at, all_signs}
use Rattle.pj_lex.proofs.sign.sign_at.Goals as goal

pub returns-clause-found : goal.returns-clause-found
unfolding sign_at all_signs
returns-clause-found c =
    c.copied.ensures ∙ find_from_yields_List (λ w. starts_with nat_eq c.args.characters.now (sign_text w)) _ _ c.find.result c.find.ensures.ran (YieldsList-from_slice all_signs cc) (λ x b q k. search (rules, tests))
