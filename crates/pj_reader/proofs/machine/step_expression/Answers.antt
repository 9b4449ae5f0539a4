use Rattle.std.proofs.Common.{Ok}
use Rattle.pj_grammar.specs.declared.mode.Mode.TheVariants as modes
use Rattle.pj_grammar.specs.Machine.{step_at}
use Rattle.pj_read_frames.specs.Places.{place_of}
use Rattle.pj_reader.proofs.Moving.{moved}
use Rattle.pj_reader.proofs.machine.step_expression.Goals as goal

pub returns-in-Want : goal.returns-in-Want
returns-in-Want c =
    moved (λ m. step_at c.args.modules.now m c.args.stack (place_of c.args.place) c.args.kind) c.operand.result c.args.mode modes.Want c.in-Want.is c.operand.ensures

pub returns-in-Have : goal.returns-in-Have
returns-in-Have c =
    moved (λ m. step_at c.args.modules.now m c.args.stack (place_of c.args.place) c.args.kind) c.have.result c.args.mode (modes.Have c.in-Have.head) c.in-Have.is c.have.ensures

pub returns-in-Field : goal.returns-in-Field
returns-in-Field c =
    moved (λ m. step_at c.args.modules.now m c.args.stack (place_of c.args.place) c.args.kind) c.field_name.result c.args.mode (modes.Field c.in-Field.e c.in-Field.assignable) c.in-Field.is c.field_name.ensures

pub returns-in-Member : goal.returns-in-Member
returns-in-Member c =
    moved (λ m. step_at c.args.modules.now m c.args.stack (place_of c.args.place) c.args.kind) (Ok c.member_name.result) c.args.mode (modes.Member c.in-Member.m) c.in-Member.is c.member_name.ensures

pub returns-in-BaseOperator : goal.returns-in-BaseOperator
returns-in-BaseOperator c =
    moved (λ m. step_at c.args.modules.now m c.args.stack (place_of c.args.place) c.args.kind) c.base_operator.result c.args.mode (modes.BaseOperator c.in-BaseOperator.m) c.in-BaseOperator.is c.base_operator.ensures

pub returns-in_default : goal.returns-in_default
returns-in_default c = c.step_list.ensures
