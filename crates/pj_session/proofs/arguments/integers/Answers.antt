use Rattle.std.proofs.Common.{◌∙◌, ◌++◌, ap, sym}
use Rattle.std.specs.Prelude.{option_to_list}
use Rattle.pj_plain.specs.Held.{held_expr}
use Rattle.pj_session.specs.Counting.{integer_in}
use Rattle.pj_session.proofs.Integers.{one_integer}
use Rattle.pj_session.proofs.arguments.integers.Goals as goal

pub loop-e-preserved : goal.loop-e-preserved
loop-e-preserved c =
    c.in_ok-push_integer.ensures
    ∙ ap (λ vs. vs ++ option_to_list (integer_in (held_expr c.e-item.result))) c.loop-e.invariant
    ∙ sym (one_integer c.args.es.now c.loop-e.e-index c.e-item.result c.loop-e-test.true c.e-item.is)
