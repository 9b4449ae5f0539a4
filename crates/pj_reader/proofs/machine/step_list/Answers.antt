use Rattle.std.proofs.Common.{Ok}
use Rattle.pj_grammar.specs.declared.mode.Mode.TheVariants as modes
use Rattle.pj_grammar.specs.Machine.{step_at}
use Rattle.pj_read_frames.specs.Places.{place_of}
use Rattle.pj_reader.proofs.Moving.{moved}
use Rattle.pj_reader.proofs.machine.step_list.Goals as goal

pub returns-in-Arguments : goal.returns-in-Arguments
returns-in-Arguments c =
    moved (λ m. step_at c.args.modules.now m c.args.stack (place_of c.args.place) c.args.kind) c.argument.result c.args.mode modes.Arguments c.in-Arguments.is c.argument.ensures

pub returns-in-Params : goal.returns-in-Params
returns-in-Params c =
    moved (λ m. step_at c.args.modules.now m c.args.stack (place_of c.args.place) c.args.kind) c.parameter.result c.args.mode modes.Params c.in-Params.is c.parameter.ensures

pub returns-in-ShortAssign : goal.returns-in-ShortAssign
returns-in-ShortAssign c =
    moved (λ m. step_at c.args.modules.now m c.args.stack (place_of c.args.place) c.args.kind) c.short_assign.result c.args.mode modes.ShortAssign c.in-ShortAssign.is c.short_assign.ensures

pub returns-in-PathStart : goal.returns-in-PathStart
returns-in-PathStart c =
    moved (λ m. step_at c.args.modules.now m c.args.stack (place_of c.args.place) c.args.kind) (Ok c.path_start.result) c.args.mode modes.PathStart c.in-PathStart.is c.path_start.ensures

pub returns-in-Types : goal.returns-in-Types
returns-in-Types c =
    moved (λ m. step_at c.args.modules.now m c.args.stack (place_of c.args.place) c.args.kind) (Ok c.types.result) c.args.mode modes.Types c.in-Types.is c.types.ensures

pub returns-in-Line : goal.returns-in-Line
returns-in-Line c =
    moved (λ m. step_at c.args.modules.now m c.args.stack (place_of c.args.place) c.args.kind) c.line.result c.args.mode modes.Line c.in-Line.is c.line.ensures

pub returns-in-Closed : goal.returns-in-Closed
returns-in-Closed c =
    moved (λ m. step_at c.args.modules.now m c.args.stack (place_of c.args.place) c.args.kind) c.after_line.result c.args.mode modes.Closed c.in-Closed.is c.after_line.ensures

pub returns-in_default : goal.returns-in_default
returns-in_default c = c.step_eval.ensures
