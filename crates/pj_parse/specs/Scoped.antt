-- What the rules of scopes say of a text that the grammar reads: its first fault, and its tree where it has none.
use Rattle.std.specs.Prelude.{ℕ, List, Option, option_map}
use Rattle.pj_lex.specs.declared.fault.SyntaxKind.{SyntaxKind}
use Rattle.pj_lex.specs.declared.fault.SyntaxKind.TheVariants as faults
use Rattle.pj_grammar.specs.declared.mode.Parsed.{Parsed}
use Rattle.pj_grammar.specs.declared.mode.Parsed.TheVariants as parsed
use Rattle.pj_grammar.specs.Modules.{Modules}
use Rattle.pj_faults.specs.declared.fault.Fault.{Fault}
use Rattle.pj_faults.specs.declared.fault.ScopeKind.{ScopeKind}
use Rattle.pj_faults.specs.declared.fault.ScopeKind.TheVariants as scopes
use Rattle.pj_faults.specs.Found.{package_first, script_first}

abbrev pub kind_of : ScopeKind → SyntaxKind
kind_of scopes.Many = faults.Many
kind_of scopes.ModuleName = faults.ModuleName
kind_of scopes.Twice = faults.Twice
kind_of scopes.LoopName = faults.LoopName
kind_of scopes.GlobalLocal = faults.GlobalLocal
kind_of scopes.Outside = faults.Outside
kind_of scopes.Reserved = faults.Reserved

abbrev pub told : Fault → ℕ × SyntaxKind
told f = (f.place, kind_of f.kind)

-- the fault that counts, if there is one; the text's own name is that of its module
abbrev pub scope_fault : List ℕ → Modules → Parsed → Option (ℕ × SyntaxKind)
scope_fault own modules (parsed.Script s) = option_map told (script_first modules s)
scope_fault own modules (parsed.Package p) = option_map told (package_first modules own p)
