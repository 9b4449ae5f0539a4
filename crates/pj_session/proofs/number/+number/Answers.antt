use Rattle.std.proofs.Common.{map, sym}
use Rattle.pj_tree.specs.Reads.{text_of_sym, texts_of, expr_of}
use Rattle.pj_tree.proofs.ExprReads.{expr_of-Call}
use Rattle.pj_content.specs.Content.{strings_in}
use Rattle.pj_session.proofs.Operands.{two_operands, two_items, after_two, first_short, second_short}
use Rattle.pj_session.proofs.number.+number.Goals as goal

pub number-returns-in-Call : goal.number-returns-in-Call
number-returns-in-Call t c =
    let strings = strings_in c.args.strings.now in
    rw (c.in-Call.is, expr_of-Call strings c.in-Call.field-0 c.in-Call.name c.in-Call.operands, two_operands (texts_of strings c.args.params.now) c.args.arguments.now (text_of_sym strings c.in-Call.field-0) (text_of_sym strings c.in-Call.name) (map (expr_of strings) c.in-Call.operands) c.args.left.now, sym c.text-operator.ensures, sym c.as_slice.ensures)
    c.operation.ensures

pub operation-returns-in_ok-y-in-len2 : goal.operation-returns-in_ok-y-in-len2
operation-returns-in_ok-y-in-len2 t c =
    let strings = strings_in c.args.strings.now in
    let fits_x = (rw c.in_ok-x-in-len2.was at c.number.type_inv) in
    let fits_y = (rw c.in_ok-y-in-len2.was at c.number-in-len2.type_inv) in
    after_two (texts_of strings c.args.params.now) c.args.arguments.now c.args.operator.now (map (expr_of strings) c.args.operands.now) (expr_of strings c.a-item.result) (expr_of strings c.b-item.result) c.args.left.now
    c.in_ok-x-in-len2.x c.in_ok-y-in-len2.y c.number.new.left c.number-in-len2.new.left c.combined.new.left c.combined.result
    (two_items (expr_of strings) c.args.operands.now c.a-item.result c.b-item.result c.in-len2.len_at_least c.in-len2.len_below c.a-item.is c.b-item.is)
    c.in_ok-x-in-len2.ensures c.in_ok-y-in-len2.ensures fits_x.1.1.1.1.0.1 fits_y.1.1.1.1.0.1 c.combined.ensures

pub operation-returns-in_err-x-in-len2 : goal.operation-returns-in_err-x-in-len2
operation-returns-in_err-x-in-len2 t c =
    let strings = strings_in c.args.strings.now in
    rw c.from_residual.ensures (first_short (texts_of strings c.args.params.now) c.args.arguments.now c.args.operator.now (map (expr_of strings) c.args.operands.now) (expr_of strings c.a-item.result) (expr_of strings c.b-item.result) c.args.left.now (two_items (expr_of strings) c.args.operands.now c.a-item.result c.b-item.result c.in-len2.len_at_least c.in-len2.len_below c.a-item.is c.b-item.is) c.in_err-x-in-len2.ensures)

pub operation-returns-in_err-y-in-len2 : goal.operation-returns-in_err-y-in-len2
operation-returns-in_err-y-in-len2 t c =
    let strings = strings_in c.args.strings.now in
    rw c.from_residual-in_err-y-in-len2.ensures (second_short (texts_of strings c.args.params.now) c.args.arguments.now c.args.operator.now (map (expr_of strings) c.args.operands.now) (expr_of strings c.a-item.result) (expr_of strings c.b-item.result) c.args.left.now c.in_ok-x-in-len2.x c.number.new.left (two_items (expr_of strings) c.args.operands.now c.a-item.result c.b-item.result c.in-len2.len_at_least c.in-len2.len_below c.a-item.is c.b-item.is) c.in_ok-x-in-len2.ensures c.in_err-y-in-len2.ensures)
