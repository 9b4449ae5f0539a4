-- What is told of a text: its tree where it has no faults, else the fault that counts. Want of memory tells nothing.
use Rattle.std.specs.Prelude.{◌≡◌, ℕ, List, [], Result, Ok, Err, ⊤}
use Rattle.pj_syntax.specs.declared.item.Script.{Script}
use Rattle.pj_syntax.specs.declared.item.Package.{Package}
use Rattle.pj_faults.specs.declared.fault.Fault.{Fault}
use Rattle.pj_faults.specs.Located.{Text}
use Rattle.pj_faults.specs.Faults.{script_faults, package_faults}
use Rattle.pj_faults.specs.Found.{distinct}
use Rattle.pj_scopes.specs.declared.fault.ScopeFault.{ScopeFault}
use Rattle.pj_scopes.specs.declared.fault.ScopeFault.TheVariants as told

abbrev pub IfFault : {T : Type 0} → Result T ScopeFault → (Fault → Type 0) → Type 0
IfFault (Ok t) P = ⊤
IfFault (Err (told.Fault place kind)) P = P (record { place = place; kind = kind })
IfFault (Err told.NoMemory) P = ⊤

unfoldable pub faults_of_script : List Text → Script → List Fault
faults_of_script modules text = script_faults (distinct [] modules) text

unfoldable pub faults_of_package : List Text → Text → Package → List Fault
faults_of_package modules asked text = package_faults (distinct [] modules) asked text
