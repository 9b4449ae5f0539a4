use Rattle.std.proofs.Common.{◌∙◌, sym, arith, slice_index_or}
use Rattle.pj_top.proofs.Positioning.{at_the_end, column_grows, line_grows, one_more}
use Rattle.pj_top.proofs.position.position_at.Goals as goal

pub loop-byte-preserved : goal.loop-byte-preserved
loop-byte-preserved c =
    let b = slice_index_or c.front-byte-items.result.now c.loop-byte.byte-index 0 in
    rw c.past-found.ensures (record {
      goes = sym (one_more c.loop-byte.found c.loop-byte.byte-index c.front-byte-items.result.now c.loop-byte-test.true) ∙ c.loop-byte.invariant.goes;
      lines = omega (arith, line_grows c.loop-byte.found b, c.loop-byte.invariant.lines);
      columns = omega (arith, column_grows c.loop-byte.found b, c.loop-byte.invariant.columns);
    })

pub returns : goal.returns
returns c =
    rw (← c.front-byte-items.ensures) (at_the_end c.loop-byte.found _ c.loop-byte.byte-index c.front-byte-items.result.now c.loop-byte-test.false c.loop-byte.invariant.goes)
