use Rattle.std.proofs.Common.{◌≡◌, ◌∷◌, ◌-◌, length, take, drop, arith}
use Rattle.std.proofs.lemmas.Result.{err_from_is_err_and}
use Rattle.pj_reader.specs.Read.{kind_of}
use Rattle.pj_reader.proofs.Progress.{begun, fault, first_and_more, goes_on}
use Rattle.pj_reader.proofs.reader.read_all.Goals as goal

pub loop-rest-init : goal.loop-rest-init
loop-rest-init c =
    begun c.args.modules.now (kind_of c.args.kind) c.args.tokens.now c.in_ok-reading.reading c.as_slice-rest.result.now c.in_ok-reading.ensures c.as_slice-rest.ensures

pub returns-in_err-reading-2-clause-err : goal.returns-in_err-reading-2-clause-err
returns-in_err-reading-2-clause-err c =
    let p = err_from_is_err_and c.from_residual-in_err-reading-2.result c.from_residual-in_err-reading-2.ensures.1 in
    let rest = c.loop-rest.rest.now in
    let more = take (length rest - 1) (drop 1 rest) in
    let e = first_and_more rest c.in_ok-token.token c.first-item.result (omega arith) c.first-item.is c.in_ok-token.ensures in
    rw (p.1, p.2)
    (fault c.args.modules.now (kind_of c.args.kind) c.args.tokens.now rest more c.loop-rest.reading c.in_ok-token.token e
    _ c.in_err-reading-2.field-0.0 c.loop-rest.invariant (omega (arith, c.len-total.ensures)) c.in_err-reading-2.ensures.err)

pub loop-rest-preserved : goal.loop-rest-preserved
loop-rest-preserved c =
    let rest = c.loop-rest.rest.now in
    let more = take (length rest - 1) (drop 1 rest) in
    let e = first_and_more rest c.in_ok-token.token c.first-item.result (omega arith) c.first-item.is c.in_ok-token.ensures in
    goes_on c.args.modules.now (kind_of c.args.kind) c.args.tokens.now rest more c.loop-rest.reading c.in_ok-token.token e
    c.in_ok-reading-2.reading c.loop-rest.invariant c.in_ok-reading-2.ensures.ok
