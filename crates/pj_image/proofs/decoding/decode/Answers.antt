use Rattle.std.proofs.Common.{arith}
use Rattle.pj_image.proofs.Decoded.{found_by, only_by, bad_by}
use Rattle.pj_image.proofs.decoding.decode.Goals as goal

pub returns-clause-found : goal.returns-clause-found
returns-clause-found c = found_by c.args.name.now c.args.bytes.now c.take_file.result (λ i. omega (arith, c.type_inv.bytes i)) c.take_file.ensures

pub returns-clause-only : goal.returns-clause-only
returns-clause-only c = only_by c.args.name.now c.args.bytes.now c.take_file.result (λ i. omega (arith, c.type_inv.bytes i)) c.take_file.ensures

pub returns-clause-bad : goal.returns-clause-bad
returns-clause-bad c = bad_by c.args.name.now c.args.bytes.now c.take_file.result c.take_file.ensures
