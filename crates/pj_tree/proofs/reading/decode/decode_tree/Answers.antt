use Rattle.std.proofs.Common.{◌++◌, drop, length, sym, ap, ◌∙◌, ◌≤◌, arith, List, ℕ}
use Rattle.std.proofs.lemmas.Result.{err_from_is_err_and}
use Rattle.pj_fields.proofs.Laws.{IsBytes-drop}
use Rattle.pj_tree.specs.Bytes.{tree}
use Rattle.pj_tree.specs.Reading.{tree_at}
use Rattle.pj_tree.proofs.TreeLaws.{tree_laws}
use Rattle.pj_tree.proofs.Places.{rest_within, behind, left_is, none_where_bad, none_past, same_tree, bad_is, err_is}
use Rattle.pj_tree.proofs.reading.decode.decode_tree.Goals as goal

pub returns-then-at-bytes-clause-bad : goal.returns-then-at-bytes-clause-bad
returns-then-at-bytes-clause-bad c = λ _ t rest fits is. none_past c.args.at c.args.bytes.now t rest (omega (arith, c.if-at-bytes.true)) fits is

pub returns-in_err-tree-clause-bad : goal.returns-in_err-tree-clause-bad
returns-in_err-tree-clause-bad c = λ h t rest fits is.
    let p = err_from_is_err_and c.from_residual.result c.from_residual.ensures.1 in
    let fault = sym p.2 ∙ err_is c.from_residual.result p.0 _ p.1 h in
    let none = bad_is c.in_err-tree.field-0.0 (tree_at c.split_at.result.1.now) fault c.in_err-tree.ensures in
    none_where_bad (drop c.args.at c.args.bytes.now) t rest (ap tree_at (sym c.split_at.ensures.back) ∙ none) fits is

pub overflow_sub-result : goal.overflow_sub-result
overflow_sub-result c =
    let read = ap tree_at (sym c.split_at.ensures.back) ∙ c.in_ok-tree.ensures in
    let t = tree_laws.takes (drop c.args.at c.args.bytes.now) c.in_ok-tree.tree c.in_ok-tree.rest.now (IsBytes-drop c.args.at c.args.bytes.now (λ i. omega (arith, c.type_inv.bytes i))) read in
    rest_within c.args.at c.args.bytes.now (tree c.in_ok-tree.tree) c.in_ok-tree.rest.now (omega (arith, c.if-at-bytes.false)) t.parts

pub returns-clause-found : goal.returns-clause-found
returns-clause-found c =
    let read = ap tree_at (sym c.split_at.ensures.back) ∙ c.in_ok-tree.ensures in
    let t = tree_laws.takes (drop c.args.at c.args.bytes.now) c.in_ok-tree.tree c.in_ok-tree.rest.now (IsBytes-drop c.args.at c.args.bytes.now (λ i. omega (arith, c.type_inv.bytes i))) read in
    let front = tree c.in_ok-tree.tree in
    let le : c.args.at ≤ length c.args.bytes.now = omega (arith, c.if-at-bytes.false) in
    let left = left_is c.args.at c.args.bytes.now front c.in_ok-tree.rest.now le t.parts in
    (t.fits, behind c.args.at c.args.bytes.now front c.in_ok-tree.rest.now le t.parts, t.parts ∙ ap (λ (b : List ℕ). front ++ b) (sym left))

pub returns-clause-only : goal.returns-clause-only
returns-clause-only c = λ t rest fits is.
    let read = ap tree_at (sym c.split_at.ensures.back) ∙ c.in_ok-tree.ensures in
    same_tree (drop c.args.at c.args.bytes.now) t c.in_ok-tree.tree rest c.in_ok-tree.rest.now read fits is
