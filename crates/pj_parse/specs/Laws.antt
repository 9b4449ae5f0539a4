-- A text has one reading: one syntax tree, or one fault, and never both; and a package has the name that was asked for.
use Rattle.std.specs.Prelude.{◌≡◌, ℕ, List}
use Rattle.pj_lex.specs.declared.fault.SyntaxKind.{SyntaxKind}
use Rattle.pj_grammar.specs.declared.mode.Parsed.{Parsed}
use Rattle.pj_grammar.specs.Texts.{Kind}
use Rattle.pj_tree.specs.declared.item.PackageTree.{PackageTree}
use Rattle.pj_parse.specs.Texts.{IsFault, IsPackage, IsSyntax}

abbrev pub OneSyntax : Type 0
OneSyntax = (kind : Kind) (own bytes : List ℕ) (a b : Parsed) → IsSyntax kind own bytes a → IsSyntax kind own bytes b → a ≡ b

abbrev pub OneFault : Type 0
OneFault = (kind : Kind) (own bytes : List ℕ) (p q : ℕ) (a b : SyntaxKind) → IsFault kind own bytes p a → IsFault kind own bytes q b → (p ≡ q) × (a ≡ b)

abbrev pub NeverBoth : Type 0
NeverBoth = (kind : Kind) (own bytes : List ℕ) (a : Parsed) (p : ℕ) (b : SyntaxKind) → IsSyntax kind own bytes a → IsFault kind own bytes p b → ⊥

abbrev pub IsCalled : Type 0
IsCalled = (name bytes : List ℕ) (tree : PackageTree) → IsPackage name bytes tree → tree.name ≡ name
