use Rattle.std.proofs.Common.{length, ap, arith}
use Rattle.std.proofs.lemmas.List.{length-append}
use Rattle.pj_fields.proofs.Laws.{IsBytes}
use Rattle.pj_image.proofs.DeclaredLaws.{declared_put, declared_takes}
use Rattle.pj_image.proofs.sections.take_parts.Goals as goal

pub take_bodies-requires-clause-inside : goal.take_bodies-requires-clause-inside
take_bodies-requires-clause-inside c =
    let are : IsBytes c.args.bytes.now = λ i. omega (arith, c.type_inv.bytes i) in
    let read = declared_takes c.args.name.now c.args.bytes.now (c.in_ok-declared.declared, c.in_ok-declared.rest.now) are c.in_ok-declared.ensures in
    let parts = ap length read.parts in
    omega (arith, parts, length-append (declared_put c.in_ok-declared.declared) c.in_ok-declared.rest.now, c.requires.inside)
