-- What an image holds of its package, and how that is taken from the state in which the package was built.
use Rattle.std.specs.Prelude.{ℕ, zero, suc, not, List, [], ◌∷◌, ◌++◌, ◌&&◌, Option, Some, None, option_map, option_and_then, option_to_list, nat_lt, filter, filter_map, flat_map, map, slice_get, if◌then◌else◌}
use Rattle.std.specs.List.{list_any}
use Rattle.std.specs.Str.{bytes_eq}
use Rattle.pj_meaning.specs.Tree.{Text, Body}
use Rattle.pj_meaning.specs.Names.{Id}
use Rattle.pj_meaning.specs.Types.{TypeRow}
use Rattle.pj_meaning.specs.Values.{Value, Object, Struct, Values, empty, more, ObjectName, ObjectRow, same_object, object_of}
use Rattle.pj_meaning.specs.State.{State, Binding, Role, FunctionName, Constant, Variable, Wanted}
use Rattle.pj_meaning.specs.Lookup.{values_of_object}

-- a method as an image holds it: it is born when the image is loaded
pub record Made : Type 0 where
  pub fun : Id
  pub signature : List Id
  pub code : Body

-- A package's own types, functions, methods, consts and globals, the objects that those reach, and its directives.
pub record Content : Type 0 where
  pub name : Text
  pub types : List TypeRow
  pub functions : List Text
  pub methods : List Made
  pub bindings : List Binding
  pub objects : List ObjectRow
  pub wanted : List Wanted

-- the objects that a value names, those of a struct in the order of its fields, to any depth
abbrev mutual
  pub named_by : Value → List ObjectName
  named_by (Object o) = o ∷ []
  named_by (Struct t vs) = named_by_all vs
  named_by _ = []

  pub named_by_all : Values → List ObjectName
  named_by_all empty = []
  named_by_all (more v vs) = named_by v ++ named_by_all vs

-- those found, and behind them each further object of this owner, once
abbrev pub found_with : Text → List ObjectName → List ObjectName → List ObjectName
found_with home found [] = found
found_with home found (o ∷ os) =
    found_with home (if bytes_eq o.owner home && not (list_any (same_object o) found) then found ++ o ∷ [] else found) os

-- Breadth first: the fields of the objects found are followed one after another, from the one with this number on.
abbrev pub reached : ℕ → State → ℕ → List ObjectName → List ObjectName
reached zero s next found = found
reached (suc n) s next found =
    reached n s (suc next) (found_with s.here found (flat_map named_by (values_of_object (option_and_then (object_of s.objects) (slice_get found next)))))

-- the value of a const or a global
abbrev pub held_in : Role → Option Value
held_in (Constant v) = Some v
held_in (Variable v) = Some v
held_in _ = None

-- what the module that runs binds, in order
abbrev pub own_bindings : State → List Binding
own_bindings s = filter (λ b. bytes_eq b.home s.here) s.bindings

-- The package's own objects that its bindings reach, through its own objects only, in their order in the image.
abbrev pub saved_objects : State → List ObjectName
saved_objects s =
    reached s.allocated s 0 (found_with s.here [] (flat_map named_by (filter_map (λ b. held_in b.role) (own_bindings s))))

-- where an object stands among these
abbrev pub place_of : List ObjectName → ObjectName → ℕ
place_of [] o = 0
place_of (p ∷ ps) o = if same_object p o then 0 else suc (place_of ps o)

-- an object of this owner goes by its place, and any other keeps its name
abbrev pub renumbered : Text → List ObjectName → ObjectName → ObjectName
renumbered home saved o = if bytes_eq o.owner home then record o { number = place_of saved o } else o

abbrev mutual
  pub renamed : (ObjectName → ObjectName) → Value → Value
  renamed new (Object o) = Object (new o)
  renamed new (Struct t vs) = Struct t (renamed_all new vs)
  renamed new v = v

  pub renamed_all : (ObjectName → ObjectName) → Values → Values
  renamed_all new empty = empty
  renamed_all new (more v vs) = more (renamed new v) (renamed_all new vs)

abbrev pub renamed_row : (ObjectName → ObjectName) → ObjectRow → ObjectRow
renamed_row new row = record row { name = new row.name; values = map (renamed new) row.values }

abbrev pub kept_binding : (ObjectName → ObjectName) → Binding → Role → Option Binding
kept_binding new b (Constant v) = Some (record b { role = Constant (renamed new v) })
kept_binding new b (Variable v) = Some (record b { role = Variable (renamed new v) })
kept_binding new b _ = None

abbrev pub function_name : Text → Role → Option Text
function_name name (FunctionName f) = Some name
function_name name _ = None

-- What is kept of the package that was built, whose statements began when this world was the newest.
abbrev pub content_of : ℕ → State → Content
content_of world s =
    let saved = saved_objects s in
    let new = renumbered s.here saved in
    record {
      name = s.here;
      types = filter (λ row. bytes_eq row.name.home s.here) s.types;
      functions = filter_map (λ b. function_name b.name b.role) (own_bindings s);
      methods = flat_map (λ m. if nat_lt world m.birth then record { fun = m.fun; signature = m.signature; code = m.code } ∷ [] else []) s.methods;
      bindings = filter_map (λ b. kept_binding new b b.role) (own_bindings s);
      objects = flat_map (λ o. option_to_list (option_map (renamed_row new) (object_of s.objects o))) saved;
      wanted = s.wanted;
    }
