use Rattle.std.proofs.Common.{length, sym, ap, ◌∙◌}
use Rattle.pj_rules.specs.Names.{strings_at}
use Rattle.pj_rules.specs.Counts.{capped, named_params, names_in_block}
use Rattle.pj_rules.proofs.CountLaws.{total_capped, body_has_few_names-parts}
use Rattle.pj_rules.proofs.counts.has_few_names.Goals as goal

pub returns : goal.returns
returns c = λ parts.
    let strings = strings_at c.args.strings.now in
    let inside = c.block_names.ensures strings parts ∙ ap (λ b. capped (names_in_block strings parts b)) c.as_slice.ensures in
    let named = c.names_of_params.ensures ∙ ap (λ ps. capped (named_params c.args.strings.now ps)) c.as_slice-2.ensures in
    total_capped c.len-own.result c.block_names.result c.saturating_add-inner.result c.names_of_params.result c.saturating_add.result
    (length c.args.body.now.introduced) (names_in_block strings parts c.args.body.now.block) (named_params c.args.strings.now c.args.body.now.params)
    c.len-own.ensures inside c.saturating_add-inner.ensures named c.saturating_add.ensures
    ∙ sym (body_has_few_names-parts c.args.strings.now parts c.args.body.now)
