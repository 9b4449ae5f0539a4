use Rattle.std.proofs.Common.{◌≡◌, ◌≤◌, ◌&&◌, length, ap, sym, ◌∙◌, arith}
use Rattle.pj_plain.specs.Held.{held_expr, held_names}
use Rattle.pj_plain.specs.Plain.{plain_expr}
use Rattle.pj_plain.proofs.Shapes.{fewer_are_no_pair, more_are_no_pair, two_are}
use Rattle.pj_plain.proofs.definition_form.+plain_test.Goals as goal

pub are_two_plain-returns-in-empty : goal.are_two_plain-returns-in-empty
are_two_plain-returns-in-empty t c =
    let few : length c.args.arguments.now ≤ 1 = omega arith in
    sym (fewer_are_no_pair (held_names c.args.params.now) c.args.arguments.now few)

pub are_two_plain-returns-then-is_plain : goal.are_two_plain-returns-then-is_plain
are_two_plain-returns-then-is_plain t c =
    let names = held_names c.args.params.now in
    let left = c.left-item.result in
    let right = c.right-item.result in
    let two : length c.args.arguments.now ≡ 2 = omega arith in
    c.is_plain-then-is_plain.ensures
    ∙ sym (two_are names c.args.arguments.now left right two c.left-item.is c.right-item.is ∙ ap (λ b. b && plain_expr names (held_expr right)) (sym c.is_plain.ensures ∙ c.if-is_plain.true))

pub are_two_plain-returns-in-len3-up : goal.are_two_plain-returns-in-len3-up
are_two_plain-returns-in-len3-up t c = sym (more_are_no_pair (held_names c.args.params.now) c.args.arguments.now c.in-len3-up.len_at_least)
