use Rattle.pj_faults.proofs.UnitLaws.{body_unit-steps}
use Rattle.pj_faults.proofs.unit.unit_of_body.Goals as goal

pub returns : goal.returns
returns c =
    body_unit-steps c.args.params.now c.args.block.now c.new-names.result c.put_params.new.names c.put_block.new.names c.gather.new.names c.new.result
    c.new-own.result c.put_params.new.out c.put_block.new.out c.gather.new.out
    c.new-names.ensures c.new-own.ensures.places c.in_ok-put_params.ensures.names c.in_ok-put_params.ensures.out c.in_ok-put_block.ensures.names c.in_ok-put_block.ensures.out
    c.new.ensures c.in_ok-gather.ensures.names c.in_ok-gather.ensures.out
