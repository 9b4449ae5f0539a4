use Rattle.std.proofs.Common.{arith, ◌∙◌}
use Rattle.std.proofs.lemmas.List.{take_all}
use Rattle.pj_build.proofs.Declared.{text_turn}
use Rattle.pj_build.proofs.image.texts.Goals as goal

pub loop-place-preserved : goal.loop-place-preserved
loop-place-preserved c =
    text_turn c.args.strings.now c.loop-place.texts c.push.new.self c.loop-place.place c.in_ok-from_str.field-0 (rw (← c.in_ok-from_str.ensures) at c.text-text.ensures) c.loop-place.invariant c.in_ok-push.ensures.ok

pub returns : goal.returns
returns c = c.loop-place.invariant ∙ take_all c.loop-place.place c.args.strings.now (omega arith)
