-- A small image: f(a, b) = a + b, g(a) = a * 3 and const k = 7 of the package Tri.
use Rattle.std.specs.Prelude.{ℕ, pos, List, [], ◌∷◌, codes}
use Rattle.pj_base.specs.declared.kinds.KindTag.{KindTag}
use Rattle.pj_base.specs.declared.kinds.KindTag.TheVariants as kinds
use Rattle.pj_reloc.specs.declared.entry.Entry.{Entry}
use Rattle.pj_tree.specs.declared.tree.Sym.{Sym}
use Rattle.pj_tree.specs.declared.tree.Sym.TheVariants as s
use Rattle.pj_tree.specs.declared.tree.Expr.{Expr}
use Rattle.pj_tree.specs.declared.tree.Expr.TheVariants as expr
use Rattle.pj_tree.specs.declared.tree.Stmt.TheVariants as stmt
use Rattle.pj_tree.specs.declared.tree.Body.{roll-Body}
use Rattle.pj_tree.specs.declared.tree.TreeNode.{TreeNode}
use Rattle.pj_tree.specs.declared.tree.TreeNode.TheVariants as node
use Rattle.pj_parts.specs.declared.types.Value.TheVariants as values
use Rattle.pj_parts.specs.declared.types.BindingForm.TheVariants as forms
use Rattle.pj_image.specs.declared.image.Image.{Image}

-- a body of one expression
abbrev pub body_tree : List Sym → Expr → TreeNode
body_tree params e = node.Body (roll-Body (record { params = params; introduced = []; block = stmt.Value e ∷ [] }))

abbrev pub entry : ℕ → KindTag → ℕ → ℕ → Entry
entry place kind dependency ordinal = record { place = place; kind = kind; dependency = dependency; ordinal = ordinal }

-- the mentions' places play no part here
abbrev pub right_entries : List Entry
right_entries =
    entry 0 kinds.FunKind 1 0 ∷ entry 8 kinds.TypeKind 0 5 ∷ entry 12 kinds.TypeKind 0 5
    ∷ entry 20 kinds.FunKind 1 1 ∷ entry 28 kinds.TypeKind 0 5
    ∷ []

abbrev pub sample : List Entry → Image
sample entries = record {
  head = record { name = codes "Tri"; dependencies = [] };
  strings = codes "f" ∷ codes "g" ∷ codes "a" ∷ codes "b" ∷ codes "Base" ∷ codes "+" ∷ codes "*" ∷ codes "k" ∷ [];
  types = [];
  functions = record { name = 0 } ∷ record { name = 1 } ∷ [];
  bindings = record { name = 7; form = forms.Const; value = values.Int (pos 7) } ∷ [];
  objects = [];
  trees =
      body_tree (s.Number 2 ∷ s.Number 3 ∷ []) (expr.Call (s.Number 4) (s.Number 5) (expr.Local (s.Number 2) ∷ expr.Local (s.Number 3) ∷ []))
      ∷ body_tree (s.Number 2 ∷ []) (expr.Call (s.Number 4) (s.Number 6) (expr.Local (s.Number 2) ∷ expr.Int (pos 3) ∷ []))
      ∷ [];
  methods = record { fun = 0; types = 1 ∷ 2 ∷ []; body = 0 } ∷ record { fun = 3; types = 4 ∷ []; body = 1 } ∷ [];
  directives = [];
  records = [];
  code = [];
  entries = entries;
}
