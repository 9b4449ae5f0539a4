use Rattle.std.proofs.Common.{arith}
use Rattle.pj_fields.specs.Fields.{list, list_at}
use Rattle.pj_fields.proofs.Laws.{IsBytes}
use Rattle.pj_tree.specs.Bytes.{tree}
use Rattle.pj_tree.specs.Fits.{TreeFits}
use Rattle.pj_tree.specs.Reading.{tree_at}
use Rattle.pj_parts.specs.Spelling.{method}
use Rattle.pj_parts.specs.Fits.{ListFits, MethodFits}
use Rattle.pj_parts.specs.Reading.{method_at}
use Rattle.pj_image.specs.Frames.{framed}
use Rattle.pj_image.proofs.Founds.{found_some}
use Rattle.pj_image.proofs.FrameLaws.{framed_length, framed_rest}
use Rattle.pj_image.proofs.SectionLaws.{trees_laws, methods_laws}
use Rattle.pj_image.proofs.sections.take_bodies.Goals as goal

pub overflow_sub-place : goal.overflow_sub-place
overflow_sub-place c =
    let are : IsBytes c.args.bytes.now = λ i. omega (arith, c.type_inv.bytes i) in
    let read = found_some 7 (framed 7 (list_at tree_at) c.args.bytes.now) (c.in_ok-trees.trees, c.in_ok-trees.rest.now) c.in_ok-trees.ensures in
    omega (arith, framed_length (list tree) (list_at tree_at) (ListFits TreeFits) trees_laws 7 c.args.bytes.now c.in_ok-trees.trees c.in_ok-trees.rest.now are read, c.requires.inside)

pub returns-clause-within : goal.returns-clause-within
returns-clause-within c =
    let are : IsBytes c.args.bytes.now = λ i. omega (arith, c.type_inv.bytes i) in
    let read = found_some 7 (framed 7 (list_at tree_at) c.args.bytes.now) (c.in_ok-trees.trees, c.in_ok-trees.rest.now) c.in_ok-trees.ensures in
    let trees = framed_length (list tree) (list_at tree_at) (ListFits TreeFits) trees_laws 7 c.args.bytes.now c.in_ok-trees.trees c.in_ok-trees.rest.now are read in
    let are-rest = framed_rest (list tree) (list_at tree_at) (ListFits TreeFits) trees_laws 7 c.args.bytes.now c.in_ok-trees.trees c.in_ok-trees.rest.now are read in
    let read-8 = found_some 8 (framed 8 (list_at method_at) c.in_ok-trees.rest.now) (c.in_ok-methods.methods, c.in_ok-methods.rest.now) c.in_ok-methods.ensures in
    let methods = framed_length (list method) (list_at method_at) (ListFits MethodFits) methods_laws 8 c.in_ok-trees.rest.now c.in_ok-methods.methods c.in_ok-methods.rest.now are-rest read-8 in
    omega (arith, trees, methods, c.requires.inside)
