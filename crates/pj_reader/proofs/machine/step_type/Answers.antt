use Rattle.std.proofs.Common.{Ok}
use Rattle.pj_grammar.specs.declared.mode.Mode.TheVariants as modes
use Rattle.pj_grammar.specs.Machine.{step_at}
use Rattle.pj_read_frames.specs.Places.{place_of}
use Rattle.pj_reader.proofs.Moving.{moved}
use Rattle.pj_reader.proofs.machine.step_type.Goals as goal

pub returns-in-AbstractName : goal.returns-in-AbstractName
returns-in-AbstractName c =
    moved (λ m. step_at c.args.modules.now m c.args.stack (place_of c.args.place) c.args.kind) (Ok c.abstract_name.result) c.args.mode modes.AbstractName c.in-AbstractName.is c.abstract_name.ensures

pub returns-in-StructName : goal.returns-in-StructName
returns-in-StructName c =
    moved (λ m. step_at c.args.modules.now m c.args.stack (place_of c.args.place) c.args.kind) (Ok c.struct_name.result) c.args.mode (modes.StructName c.in-StructName.mutable) c.in-StructName.is c.struct_name.ensures

pub returns-in-Header : goal.returns-in-Header
returns-in-Header c =
    moved (λ m. step_at c.args.modules.now m c.args.stack (place_of c.args.place) c.args.kind) c.header.result c.args.mode (modes.Header c.in-Header.h) c.in-Header.is c.header.ensures

pub returns-in-FieldStart : goal.returns-in-FieldStart
returns-in-FieldStart c =
    moved (λ m. step_at c.args.modules.now m c.args.stack (place_of c.args.place) c.args.kind) c.start_field.result c.args.mode modes.FieldStart c.in-FieldStart.is c.start_field.ensures

pub returns-in-TypesOpen : goal.returns-in-TypesOpen
returns-in-TypesOpen c =
    moved (λ m. step_at c.args.modules.now m c.args.stack (place_of c.args.place) c.args.kind) c.types_open.result c.args.mode (modes.TypesOpen c.in-TypesOpen.f) c.in-TypesOpen.is c.types_open.ensures

pub returns-in-DirectiveEnd : goal.returns-in-DirectiveEnd
returns-in-DirectiveEnd c =
    moved (λ m. step_at c.args.modules.now m c.args.stack (place_of c.args.place) c.args.kind) c.directive_end.result c.args.mode modes.DirectiveEnd c.in-DirectiveEnd.is c.directive_end.ensures

pub returns-in_default : goal.returns-in_default
returns-in_default c = c.step_package.ensures
