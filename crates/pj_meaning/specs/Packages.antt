-- A package's text, what building it gives, and what its image adds to a state.
use Rattle.std.specs.Prelude.{ℕ, suc, List, [], ◌∷◌, ◌++◌, map, flat_map, if◌then◌else◌}
use Rattle.std.specs.List.{list_any}
use Rattle.std.specs.Str.{bytes_eq}
use Rattle.pj_meaning.specs.Tree.{Text, TopItem}
use Rattle.pj_meaning.specs.Names.{id}
use Rattle.pj_meaning.specs.Types.{TypeRow}
use Rattle.pj_meaning.specs.Methods.{Method}
use Rattle.pj_meaning.specs.Values.{Value, Nil}
use Rattle.pj_meaning.specs.State.{State, Binding, TypeName, FunctionName}
use Rattle.pj_meaning.specs.Outcome.{Run, Outcome, Gives, after}
use Rattle.pj_meaning.specs.Base.{start}
use Rattle.pj_meaning.specs.Top.{top}
use Rattle.pj_meaning.specs.Content.{Made, Content, content_of}

-- a package as its text tells it
pub record Source : Type 0 where
  pub name : Text
  pub uses : List Text
  pub items : List TopItem

-- a content, and the identity of the image that holds it
pub record Held : Type 0 where
  pub content : Content
  pub identity : List ℕ

abbrev pub born_at : ℕ → Text → Made → Method
born_at world home m = record { fun = m.fun; signature = m.signature; code = m.code; home = home; birth = world }

abbrev pub type_name : TypeRow → Binding
type_name row = record { home = row.name.home; name = row.name.name; role = TypeName row.name }

abbrev pub own_function : Text → Text → Binding
own_function home name = record { home = home; name = name; role = FunctionName (id home name) }

-- A content is appended, and its image is the last that was loaded. All its methods are born in one new world, which is
-- new also where there are none.
abbrev pub add : Held → State → State
add held s =
    let c = held.content in
    record s {
      types = s.types ++ c.types;
      methods = s.methods ++ map (born_at (suc s.newest) c.name) c.methods;
      bindings = s.bindings ++ (map type_name c.types ++ (map (own_function c.name) c.functions ++ c.bindings));
      objects = s.objects ++ c.objects;
      images = s.images ++ record { name = c.name; identity = held.identity } ∷ [];
      newest = suc s.newest;
    }

abbrev pub add_all : List Held → State → State
add_all [] s = s
add_all (held ∷ more) s = add_all more (add held s)

-- each text once, at its first place, without those before
abbrev pub once : List Text → List Text → List Text
once before [] = []
once before (t ∷ ts) = if list_any (bytes_eq t) before then once before ts else t ∷ once (t ∷ before) ts

-- The dependencies that are recorded of a package, from those of the packages that it uses: for each of these in the
-- text's order its own dependencies and then itself.
abbrev pub recorded : (Text → List Text) → List Text → List Text
recorded needs uses = once [] (flat_map (λ name. needs name ++ name ∷ []) uses)

abbrev pub all_items : List TopItem → Run → Outcome Value
all_items [] r = Gives Nil r
all_items (item ∷ items) r = after (top item r) (λ v q. all_items items q)

-- Building: over Base and the contents of the recorded dependencies, whose `__init__` isn't called, the statements are
-- evaluated in the package. What they give is a content, or the error that ends them, or the end of the budget.
abbrev pub pack : Source → List Held → ℕ → Outcome Content
pack source needs steps =
    let s = add_all needs (start source.name) in
    after (all_items source.items (record { state = s; left = steps })) (λ v r. Gives (content_of s.newest r.state) r)
