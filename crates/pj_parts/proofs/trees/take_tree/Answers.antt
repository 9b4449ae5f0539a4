use Rattle.std.proofs.Common.{◌++◌, sym, ap, ◌∙◌, arith}
use Rattle.pj_tree.specs.Bytes.{tree}
use Rattle.pj_parts.proofs.TreeParts.{there, not_there}
use Rattle.pj_parts.proofs.trees.take_tree.Goals as goal

pub returns-in-Ok : goal.returns-in-Ok
returns-in-Ok c =
    let found = c.in-Ok.ensures.found in
    there c.args.source.now c.in-Ok.found c.split_at.result.1.now found.0 (found.2 ∙ ap (λ b. tree c.in-Ok.found ++ b) (sym c.split_at.ensures.back))

pub returns-in-Err-Bad : goal.returns-in-Err-Bad
returns-in-Err-Bad c = not_there c.args.source.now (λ i. omega (arith, c.type_inv.source i)) (λ t rest fits is. c.in-Err-Bad.ensures.bad (cc) t rest fits is)
