use Rattle.std.proofs.Common.{Ok}
use Rattle.pj_grammar.specs.declared.mode.Mode.TheVariants as modes
use Rattle.pj_grammar.specs.Machine.{step_at}
use Rattle.pj_read_frames.specs.Places.{place_of}
use Rattle.pj_reader.proofs.Moving.{moved}
use Rattle.pj_reader.proofs.machine.step_eval.Goals as goal

pub returns-in-Payload : goal.returns-in-Payload
returns-in-Payload c =
    moved (λ m. step_at c.args.modules.now m c.args.stack (place_of c.args.place) c.args.kind) c.payload.result c.args.mode modes.Payload c.in-Payload.is c.payload.ensures

pub returns-in-EvalName : goal.returns-in-EvalName
returns-in-EvalName c =
    moved (λ m. step_at c.args.modules.now m c.args.stack (place_of c.args.place) c.args.kind) c.eval_name_then.result c.args.mode (modes.EvalName c.in-EvalName.m) c.in-EvalName.is c.eval_name_then.ensures

pub returns-in-EvalColon : goal.returns-in-EvalColon
returns-in-EvalColon c =
    moved (λ m. step_at c.args.modules.now m c.args.stack (place_of c.args.place) c.args.kind) (Ok c.eval_colon.result) c.args.mode modes.EvalColon c.in-EvalColon.is c.eval_colon.ensures

pub returns-in-EvalOpen : goal.returns-in-EvalOpen
returns-in-EvalOpen c =
    moved (λ m. step_at c.args.modules.now m c.args.stack (place_of c.args.place) c.args.kind) c.eval_open.result c.args.mode modes.EvalOpen c.in-EvalOpen.is c.eval_open.ensures

pub returns-in-PayloadEnd : goal.returns-in-PayloadEnd
returns-in-PayloadEnd c =
    moved (λ m. step_at c.args.modules.now m c.args.stack (place_of c.args.place) c.args.kind) (Ok c.payload_end.result) c.args.mode (modes.PayloadEnd c.in-PayloadEnd.line) c.in-PayloadEnd.is c.payload_end.ensures

pub returns-in-EvalEnd : goal.returns-in-EvalEnd
returns-in-EvalEnd c =
    moved (λ m. step_at c.args.modules.now m c.args.stack (place_of c.args.place) c.args.kind) c.eval_end.result c.args.mode (modes.EvalEnd c.in-EvalEnd.line) c.in-EvalEnd.is c.eval_end.ensures

pub returns-in_default : goal.returns-in_default
returns-in_default c = c.step_set.ensures
