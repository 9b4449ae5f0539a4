-- A text is one script at most, with one tree, or has one fault, and never both; and so is the package of a name.
use Rattle.std.proofs.Common.{◌≡◌, ℕ, List, refl, sym, ap, ◌∙◌}
use Rattle.std.specs.Prelude.{codes}
use Rattle.pj_lex.specs.declared.fault.SyntaxKind.{SyntaxKind}
use Rattle.pj_syntax.specs.declared.item.Script.{Script}
use Rattle.pj_syntax.specs.declared.item.Package.{Package}
use Rattle.pj_grammar.specs.declared.mode.Parsed.{Parsed}
use Rattle.pj_grammar.specs.declared.mode.Parsed.TheVariants as parsed
use Rattle.pj_grammar.specs.Texts.{script, «package»}
use Rattle.pj_tree.specs.declared.item.ScriptTree.{ScriptTree}
use Rattle.pj_tree.specs.declared.item.PackageTree.{PackageTree}
use Rattle.pj_scopes.specs.Resolved.{package_tree}
use Rattle.pj_scopes.specs.Resolved.{script as script_tree}
use Rattle.pj_parse.specs.Texts.{IsPackage, IsPackageFault, IsScript, IsScriptFault}
use Rattle.pj_parse.proofs.TextReadings.{never-both-law, one-fault, one-syntax}

same-script : {s t : Script} → parsed.Script s ≡ parsed.Script t → s ≡ t
same-script h = cc

pub one-script : {bytes : List ℕ} {a b : ScriptTree} → IsScript bytes a → IsScript bytes b → a ≡ b
one-script {bytes} (s, is, tree) (t, other, found) =
    sym tree ∙ ap script_tree (same-script (one-syntax script (codes "Main") bytes (parsed.Script s) (parsed.Script t) is other)) ∙ found

pub no-fault : {bytes : List ℕ} {a : ScriptTree} {place : ℕ} {kind : SyntaxKind} → IsScript bytes a → IsScriptFault bytes place kind → ⊥
no-fault {bytes} {place = place} {kind} (s, is, tree) fault = never-both-law script (codes "Main") bytes (parsed.Script s) place kind is fault

pub one-script-fault : {bytes : List ℕ} {p q : ℕ} {a b : SyntaxKind} → IsScriptFault bytes p a → IsScriptFault bytes q b → (p ≡ q) × (a ≡ b)
one-script-fault {bytes} {p} {q} {a} {b} f g = one-fault script (codes "Main") bytes p q a b f g

same-package : {p q : Package} → parsed.Package p ≡ parsed.Package q → p ≡ q
same-package h = cc

pub one-package : {name bytes : List ℕ} {a b : PackageTree} → IsPackage name bytes a → IsPackage name bytes b → a ≡ b
one-package {name} {bytes} (p, is, tree) (q, other, found) =
    sym tree ∙ ap package_tree (same-package (one-syntax «package» name bytes (parsed.Package p) (parsed.Package q) is other)) ∙ found

pub no-package-fault : {name bytes : List ℕ} {a : PackageTree} {place : ℕ} {kind : SyntaxKind} → IsPackage name bytes a → IsPackageFault name bytes place kind → ⊥
no-package-fault {name} {bytes} {place = place} {kind} (p, is, tree) fault = never-both-law «package» name bytes (parsed.Package p) place kind is fault
