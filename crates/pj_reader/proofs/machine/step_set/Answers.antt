use Rattle.std.proofs.Common.{Ok}
use Rattle.pj_grammar.specs.declared.mode.Mode.TheVariants as modes
use Rattle.pj_grammar.specs.Machine.{step_at}
use Rattle.pj_read_frames.specs.Places.{place_of}
use Rattle.pj_reader.proofs.Moving.{moved}
use Rattle.pj_reader.proofs.machine.step_set.Goals as goal

pub returns-in-Return : goal.returns-in-Return
returns-in-Return c =
    moved (λ m. step_at c.args.modules.now m c.args.stack (place_of c.args.place) c.args.kind) c.after_return.result c.args.mode (modes.Return c.in-Return.word) c.in-Return.is c.after_return.ensures

pub returns-in-GlobalName : goal.returns-in-GlobalName
returns-in-GlobalName c =
    moved (λ m. step_at c.args.modules.now m c.args.stack (place_of c.args.place) c.args.kind) (Ok c.global_name.result) c.args.mode (modes.GlobalName c.in-GlobalName.word) c.in-GlobalName.is c.global_name.ensures

pub returns-in-GlobalAssign : goal.returns-in-GlobalAssign
returns-in-GlobalAssign c =
    moved (λ m. step_at c.args.modules.now m c.args.stack (place_of c.args.place) c.args.kind) c.global_assign.result c.args.mode (modes.GlobalAssign c.in-GlobalAssign.word c.in-GlobalAssign.x) c.in-GlobalAssign.is c.global_assign.ensures

pub returns-in-LoopName : goal.returns-in-LoopName
returns-in-LoopName c =
    moved (λ m. step_at c.args.modules.now m c.args.stack (place_of c.args.place) c.args.kind) (Ok c.loop_name.result) c.args.mode modes.LoopName c.in-LoopName.is c.loop_name.ensures

pub returns-in-LoopIn : goal.returns-in-LoopIn
returns-in-LoopIn c =
    moved (λ m. step_at c.args.modules.now m c.args.stack (place_of c.args.place) c.args.kind) c.loop_in.result c.args.mode (modes.LoopIn c.in-LoopIn.x) c.in-LoopIn.is c.loop_in.ensures

pub returns-in_default : goal.returns-in_default
returns-in_default c = c.step_item.ensures
