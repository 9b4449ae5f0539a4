-- The fault that was found is the one that counts.
use Rattle.std.proofs.Common.{◌≡◌, List, [], Some, None}
use Rattle.pj_syntax.specs.declared.item.Script.{Script}
use Rattle.pj_syntax.specs.declared.item.Package.{Package}
use Rattle.pj_faults.specs.declared.fault.Fault.{Fault}
use Rattle.pj_faults.specs.Located.{Text}
use Rattle.pj_faults.specs.Counting.{Counts}
use Rattle.pj_faults.specs.Faults.{script_faults, package_faults}
use Rattle.pj_faults.specs.Found.{distinct, script_first, package_first}
use Rattle.pj_faults.proofs.CountingLaws.{first_counts, none_is_empty}
use Rattle.pj_scopes.specs.Told.{faults_of_script, faults_of_package}

pub script-Some : (modules : List Text) (t : Script) (f : Fault) → script_first modules t ≡ Some f → Counts f (faults_of_script modules t)
unfolding faults_of_script script_first
script-Some modules t f h = first_counts (script_faults (distinct [] modules) t) f h

pub script-None : (modules : List Text) (t : Script) → script_first modules t ≡ None → faults_of_script modules t ≡ []
unfolding faults_of_script script_first
script-None modules t h = none_is_empty (script_faults (distinct [] modules) t) h

pub package-Some : (modules : List Text) (asked : Text) (t : Package) (f : Fault) → package_first modules asked t ≡ Some f → Counts f (faults_of_package modules asked t)
unfolding faults_of_package package_first
package-Some modules asked t f h = first_counts (package_faults (distinct [] modules) asked t) f h

pub package-None : (modules : List Text) (asked : Text) (t : Package) → package_first modules asked t ≡ None → faults_of_package modules asked t ≡ []
unfolding faults_of_package package_first
package-None modules asked t h = none_is_empty (package_faults (distinct [] modules) asked t) h

pub ruleset telling = (script-Some, script-None, package-Some, package-None)
