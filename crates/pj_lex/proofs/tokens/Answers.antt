use Rattle.std.proofs.Common.{◌≡◌, ◌∙◌, ap, arith, length}
use Rattle.std.specs.Str.{chars}
use Rattle.pj_lex.specs.Characters.{width}
use Rattle.pj_lex.proofs.Whole as whole
use Rattle.pj_lex.proofs.Widths.{width_chars}
use Rattle.pj_lex.proofs.tokens.Goals as goal

pub tokens_of-requires : goal.tokens_of-requires
tokens_of-requires c =
    let same : width c.as_slice.result.now ≡ length c.args.bytes.now = ap width (c.as_slice.ensures.value ∙ c.in_ok-all.ensures ∙ ap chars c.in-Ok.ensures.cases.0) ∙ width_chars c.args.bytes.now c.in-Ok.ensures.cases.1 in
    rw same (omega arith)

pub returns-clause-lexed : goal.returns-clause-lexed
returns-clause-lexed c =
    whole.lexed _ _ c.in-Ok.ensures.cases.1 (c.as_slice.ensures.value ∙ c.in_ok-all.ensures ∙ ap chars c.in-Ok.ensures.cases.0) _ c.tokens_of.ensures.lexed

pub returns-clause-only : goal.returns-clause-only
returns-clause-only c =
    whole.only _ _ c.in-Ok.ensures.cases.1 (c.as_slice.ensures.value ∙ c.in_ok-all.ensures ∙ ap chars c.in-Ok.ensures.cases.0) _ c.tokens_of.ensures.lexed

pub returns-clause-spelled : goal.returns-clause-spelled
returns-clause-spelled c =
    whole.spelled _ _ c.in-Ok.ensures.cases.1 (c.as_slice.ensures.value ∙ c.in_ok-all.ensures ∙ ap chars c.in-Ok.ensures.cases.0) _ c.tokens_of.ensures.lexed

pub returns-clause-cover : goal.returns-clause-cover
returns-clause-cover c =
    whole.cover _ _ c.in-Ok.ensures.cases.1 (c.as_slice.ensures.value ∙ c.in_ok-all.ensures ∙ ap chars c.in-Ok.ensures.cases.0) _ (ap width (c.as_slice.ensures.value ∙ c.in_ok-all.ensures ∙ ap chars c.in-Ok.ensures.cases.0) ∙ width_chars c.args.bytes.now c.in-Ok.ensures.cases.1) c.tokens_of.ensures.cover

pub returns-clause-fault : goal.returns-clause-fault
returns-clause-fault c =
    whole.fault _ _ c.in-Ok.ensures.cases.1 (c.as_slice.ensures.value ∙ c.in_ok-all.ensures ∙ ap chars c.in-Ok.ensures.cases.0) _ c.tokens_of.ensures.fault

pub returns-clause-refused : goal.returns-clause-refused
returns-clause-refused c =
    whole.refused _ _ c.in-Ok.ensures.cases.1 (c.as_slice.ensures.value ∙ c.in_ok-all.ensures ∙ ap chars c.in-Ok.ensures.cases.0) _ c.tokens_of.ensures.fault
