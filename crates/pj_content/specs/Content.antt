-- What the parts of an image mean: its content, as it is loaded.
use Rattle.std.specs.Prelude.{ℕ, List, [], map, ◌==◌, if◌then◌else◌, Option, Some, None, slice_get, slice_index_or}
use Rattle.pj_meaning.specs.Tree.{Text}
use Rattle.pj_meaning.specs.Names.{Id, id, base, any_type}
use Rattle.pj_meaning.specs.Base.{base_types, function_names}
use Rattle.pj_meaning.specs.Values as values
use Rattle.pj_meaning.specs.State as state
use Rattle.pj_meaning.specs.State.{Role, Constant, Variable}
use Rattle.pj_meaning.specs.Content.{Content, Made}
use Rattle.pj_tree.specs.Reads.{Strings, as_body, parts_of}
use Rattle.pj_reloc.specs.declared.entry.Entry.{Entry}
use Rattle.pj_parts.specs.declared.types.Value.{Value, out-Value}
use Rattle.pj_parts.specs.declared.types.Value.TheOpen.{Value-F}
use Rattle.pj_parts.specs.declared.types.BindingForm.{BindingForm}
use Rattle.pj_parts.specs.declared.types.BindingForm.TheVariants as forms
use Rattle.pj_parts.specs.declared.types.Binding.{Binding}
use Rattle.pj_parts.specs.declared.types.Method.{Method}
use Rattle.pj_image.specs.declared.image.Image.{Image}

-- strings by their numbers; a number without a string, which no file has, counts as the empty text
abbrev pub strings_in : List Text → Strings
strings_in strings = λ n. slice_index_or strings n []

-- the names of the functions that the package binds
abbrev pub functions_of : Image → List Text
functions_of i = map (λ f. strings_in i.strings f.name) i.functions

-- what stands in a place of Base
abbrev pub base_function : ℕ → Id
base_function n = base (slice_index_or function_names n [])

abbrev pub base_type : ℕ → Id
base_type n = slice_index_or (map (λ row. row.name) base_types) n any_type

-- The function that an entry names, of Base where its dependency is 0, and else of the package, which is called so and
-- has these functions.
abbrev pub function_named : Text → List Text → Option Entry → Id
function_named home functions None = id home []
function_named home functions (Some e) = if e.dependency == 0 then base_function e.ordinal else id home (slice_index_or functions e.ordinal [])

-- the type that an entry names, which is Base's, since packages have none yet
abbrev pub type_named : Option Entry → Id
type_named None = any_type
type_named (Some e) = if e.dependency == 0 then base_type e.ordinal else any_type

-- an integer; no other value is read from a file yet, and one counts as `nothing`
abbrev pub value_in : Value-F Value → values.Value
value_in (Value-F.Int z) = values.Whole z
value_in other = values.Nil

abbrev pub role_of : BindingForm → values.Value → Role
role_of forms.Const v = Constant v
role_of forms.Global v = Variable v

abbrev pub binding_of : Image → Binding → state.Binding
binding_of i b = record { home = i.head.name; name = strings_in i.strings b.name; role = role_of b.form (value_in (out-Value b.value)) }

abbrev pub function_at : Image → ℕ → Id
function_at i k = function_named i.head.name (functions_of i) (slice_get i.entries k)

abbrev pub type_at : Image → ℕ → Id
type_at i k = type_named (slice_get i.entries k)

-- the function and the signature by the entries of the mentions, and the body by the number of its tree
abbrev pub made_of : Image → Method → Made
made_of i m = record {
  fun = function_at i m.fun;
  signature = map (type_at i) m.types;
  code = as_body (parts_of (strings_in i.strings) i.trees m.body);
}

abbrev pub content_of : Image → Content
content_of i = record {
  name = i.head.name;
  types = [];
  functions = functions_of i;
  methods = map (made_of i) i.methods;
  bindings = map (binding_of i) i.bindings;
  objects = [];
  wanted = [];
}
