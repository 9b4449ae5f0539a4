-- The package of a text has the name that was asked for.
use Rattle.std.proofs.Common.{◌≡◌, ℕ, Bool, true, false, not, List, ◌++◌, Option, Some, None, refl, sym, ap, ◌∙◌}
use Rattle.std.specs.Prelude.{option_map}
use Rattle.std.specs.Str.{bytes_eq}
use Rattle.std.proofs.lemmas.Slice.Eq.{bytes_eq-Decides}
use Rattle.pj_tree.specs.declared.item.PackageTree.{PackageTree}
use Rattle.pj_syntax.specs.declared.item.Package.{Package}
use Rattle.pj_faults.specs.declared.fault.Fault.{Fault}
use Rattle.pj_faults.specs.declared.fault.ScopeKind.TheVariants.{ModuleName}
use Rattle.pj_faults.specs.First.{first, sooner}
use Rattle.pj_faults.specs.Faults.{faulty}
use Rattle.pj_faults.specs.Found.{package_first}
use Rattle.pj_parse.specs.Scoped.{told}
use Rattle.pj_parse.specs.Texts.{IsPackage}

sooner-some : (f : Fault) (o : Option Fault) → sooner (Some f) o ≡ None → ⊥
unfolding sooner
sooner-some f None h = cc
sooner-some f (Some g) h = cc

-- a list without a fault begins with none
no-first : (b : Bool) (place : ℕ) (rest : List Fault) → first (faulty b ModuleName place ++ rest) ≡ None → b ≡ false
unfolding first
no-first true place rest h = absurd (sooner-some _ (first rest) h)
no-first false place rest h = refl

not-false : (b : Bool) → not b ≡ false → b ≡ true
not-false true h = refl
not-false false h = cc

named : (modules : List (List ℕ)) (asked : List ℕ) (p : Package) → package_first modules asked p ≡ None → p.name.text ≡ asked
unfolding package_first
named modules asked p h = (bytes_eq-Decides p.name.text asked).0 (not-false (bytes_eq p.name.text asked) (no-first (not (bytes_eq p.name.text asked)) p.name.at _ h))

none-told : (o : Option Fault) → option_map told o ≡ None → o ≡ None
none-told None h = refl
none-told (Some f) h = cc

pub called : {name bytes : List ℕ} {tree : PackageTree} → IsPackage name bytes tree → tree.name ≡ name
called {name} (p, is, same) = ap (λ (t : PackageTree). t.name) (sym same) ∙ named _ name p (none-told _ is.scoped)
