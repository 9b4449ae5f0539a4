-- Rows on what is built of `module P; f(x::Int64) = x + 1; const K = 5; end`, and of a package with nothing.
use Rattle.std.specs.Prelude.{◌≡◌, pos, List, [], ◌∷◌, codes, length}
use Rattle.std.specs.List.{zip}
use Rattle.pj_meaning.specs.Tree.{Text}
use Rattle.pj_meaning.specs.Values.{Whole}
use Rattle.pj_meaning.specs.State.{Constant}
use Rattle.pj_base.specs.declared.kinds.KindTag.TheVariants as kinds
use Rattle.pj_tree.specs.declared.tree.Sym.TheVariants as s
use Rattle.pj_tree.specs.declared.tree.Expr.TheVariants as expr
use Rattle.pj_image.specs.declared.image.Image.{Image}
use Rattle.pj_image.specs.Spelled.{spelled}
use Rattle.pj_session.specs.declared.own.Own.{Own}
use Rattle.pj_session.specs.declared.own.Own.TheVariants as own
use Rattle.pj_build.specs.Own.{functions_in, constants_in, counts_in}
use Rattle.pj_build.specs.Wiring.{entry_at, all_methods, all_entries}

abbrev names : List Text
names = codes "f" ∷ codes "K" ∷ []

abbrev things : List Own
things =
    own.Function (record {
      params = s.Text (codes "x") ∷ [];
      body = expr.Call (s.Text (codes "Base")) (s.Text (codes "+")) (expr.Local (s.Text (codes "x")) ∷ expr.Int (pos 1) ∷ []);
    })
    ∷ own.Constant (pos 5)
    ∷ []

abbrev pub its_functions : Type 0
its_functions = functions_in (zip names things) ≡ codes "f" ∷ []

abbrev pub its_constants : Type 0
its_constants = constants_in (codes "P") (zip names things) ≡ record { home = codes "P"; name = codes "K"; role = Constant (Whole (pos 5)) } ∷ []

abbrev pub its_method : Type 0
its_method = all_methods 0 0 (counts_in things) ≡ record { fun = 0; types = 1 ∷ []; body = 0 } ∷ []

-- where the method stands at 200
abbrev pub its_entries : Type 0
its_entries = all_entries 200 0 (counts_in things) ≡ entry_at 200 kinds.FunKind 1 0 ∷ entry_at 208 kinds.TypeKind 0 5 ∷ []

-- the image of a package with nothing
abbrev pub nothing : Text → Image
nothing name = record {
  head = record { name = name; dependencies = [] };
  strings = [];
  types = [];
  functions = [];
  bindings = [];
  objects = [];
  trees = [];
  methods = [];
  directives = [];
  records = [];
  code = [];
  entries = [];
}

abbrev pub its_bytes : Type 0
its_bytes = length (spelled (nothing (codes "Q"))) ≡ 193
