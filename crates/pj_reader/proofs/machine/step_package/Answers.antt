use Rattle.std.proofs.Common.{Ok}
use Rattle.pj_grammar.specs.declared.mode.Mode.TheVariants as modes
use Rattle.pj_grammar.specs.Machine.{step_at}
use Rattle.pj_read_frames.specs.Places.{place_of}
use Rattle.pj_reader.proofs.Moving.{moved}
use Rattle.pj_reader.proofs.machine.step_package.Goals as goal

pub returns-in-PackageStart : goal.returns-in-PackageStart
returns-in-PackageStart c =
    moved (λ m. step_at c.args.modules.now m c.args.stack (place_of c.args.place) c.args.kind) (Ok c.package_start.result) c.args.mode modes.PackageStart c.in-PackageStart.is c.package_start.ensures

pub returns-in-PackageName : goal.returns-in-PackageName
returns-in-PackageName c =
    moved (λ m. step_at c.args.modules.now m c.args.stack (place_of c.args.place) c.args.kind) (Ok c.package_name.result) c.args.mode modes.PackageName c.in-PackageName.is c.package_name.ensures

pub returns-in-PackageNamed : goal.returns-in-PackageNamed
returns-in-PackageNamed c =
    moved (λ m. step_at c.args.modules.now m c.args.stack (place_of c.args.place) c.args.kind) c.package_named.result c.args.mode (modes.PackageNamed c.in-PackageNamed.x) c.in-PackageNamed.is c.package_named.ensures

pub returns-in-PackageEnd : goal.returns-in-PackageEnd
returns-in-PackageEnd c =
    moved (λ m. step_at c.args.modules.now m c.args.stack (place_of c.args.place) c.args.kind) (Ok c.package_end.result) c.args.mode modes.PackageEnd c.in-PackageEnd.is c.package_end.ensures
