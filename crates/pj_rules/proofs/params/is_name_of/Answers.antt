use Rattle.std.proofs.Common.{◌≡◌, ◌||◌, ◌+◌, ◌++◌, ◌∷◌, [], arith, take, ap, sym, ◌∙◌}
use Rattle.std.specs.Str.{bytes_eq}
use Rattle.std.proofs.lemmas.List.{take_more}
use Rattle.pj_rules.specs.Names.{text, stands_among}
use Rattle.pj_rules.proofs.ParamLaws.{stands_among-snoc}
use Rattle.pj_rules.proofs.params.is_name_of.Goals as goal
use Rattle.pj_rules.proofs.params.is_name_of.Goals.{then-found, else-found}

pub loop-param-preserved : goal.loop-param-preserved
loop-param-preserved c =
    let joined : c.if-found.found ≡ c.loop-param.found || c.eq-same.result =
    elim c.if-found.branch [ then-found w ↦ grind (arith, w.found-is, w.if-found) | else-found w ↦ grind (arith, w.found-is, w.if-found) ] in
    let more = stands_among-snoc c.args.strings.now c.args.name.now (take c.loop-param.param-index c.args.params.now) c.param-item.result in
    let taken = take_more c.args.params.now c.loop-param.param-index c.param-item.result c.loop-param-test.true in
    let here : c.eq-same.result ≡ bytes_eq c.args.name.now (text c.args.strings.now c.param-item.result.name) =
    c.eq-same.ensures ∙ ap (λ t. bytes_eq c.args.name.now t) c.spelled.ensures in
    let last : c.loop-param.found || c.eq-same.result ≡ stands_among c.args.strings.now c.args.name.now (take c.loop-param.param-index c.args.params.now) || bytes_eq c.args.name.now (text c.args.strings.now c.param-item.result.name) =
    cc (c.loop-param.invariant, here) in
    let whole : take (c.loop-param.param-index + 1) c.args.params.now ≡ take c.loop-param.param-index c.args.params.now ++ c.param-item.result ∷ [] =
    cc (taken, c.param-item.is) in
    joined ∙ last ∙ sym more ∙ sym (ap (λ ps. stands_among c.args.strings.now c.args.name.now ps) whole)
