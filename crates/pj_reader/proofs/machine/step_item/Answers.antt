use Rattle.std.proofs.Common.{Ok}
use Rattle.pj_grammar.specs.declared.mode.Mode.TheVariants as modes
use Rattle.pj_grammar.specs.Machine.{step_at}
use Rattle.pj_read_frames.specs.Places.{place_of}
use Rattle.pj_reader.proofs.Moving.{moved}
use Rattle.pj_reader.proofs.machine.step_item.Goals as goal

pub returns-in-ConstName : goal.returns-in-ConstName
returns-in-ConstName c =
    moved (λ m. step_at c.args.modules.now m c.args.stack (place_of c.args.place) c.args.kind) (Ok c.const_name.result) c.args.mode modes.ConstName c.in-ConstName.is c.const_name.ensures

pub returns-in-ConstAssign : goal.returns-in-ConstAssign
returns-in-ConstAssign c =
    moved (λ m. step_at c.args.modules.now m c.args.stack (place_of c.args.place) c.args.kind) c.const_assign.result c.args.mode (modes.ConstAssign c.in-ConstAssign.x) c.in-ConstAssign.is c.const_assign.ensures

pub returns-in-UsingName : goal.returns-in-UsingName
returns-in-UsingName c =
    moved (λ m. step_at c.args.modules.now m c.args.stack (place_of c.args.place) c.args.kind) c.using_name.result c.args.mode (modes.UsingName c.in-UsingName.names) c.in-UsingName.is c.using_name.ensures

pub returns-in-UsingMore : goal.returns-in-UsingMore
returns-in-UsingMore c =
    moved (λ m. step_at c.args.modules.now m c.args.stack (place_of c.args.place) c.args.kind) c.after_use.result c.args.mode (modes.UsingMore c.in-UsingMore.names) c.in-UsingMore.is c.after_use.ensures

pub returns-in-Declared : goal.returns-in-Declared
returns-in-Declared c =
    moved (λ m. step_at c.args.modules.now m c.args.stack (place_of c.args.place) c.args.kind) c.after_declared.result c.args.mode (modes.Declared c.in-Declared.x) c.in-Declared.is c.after_declared.ensures

pub returns-in_default : goal.returns-in_default
returns-in_default c = c.step_type.ensures
