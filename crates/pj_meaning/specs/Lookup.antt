-- What a name means where it stands, and what a read, a field, a store or a binding gives. Nothing is entered here.
use Rattle.std.specs.Prelude.{Bool, true, false, not, List, [], ◌∷◌, ◌++◌, ◌&&◌, ◌||◌, Option, Some, None, Result, Ok, Err, find, is_some, if◌then◌else◌}
use Rattle.std.specs.List.{list_any}
use Rattle.std.specs.Str.{bytes_eq}
use Rattle.pj_meaning.specs.Tree.{Text, TypeRef, Param}
use Rattle.pj_meaning.specs.Names.{Id, id, same_id, same_ids}
use Rattle.pj_meaning.specs.Types.{TypeRow, Field, Form, row_of, is_below, is_abstract}
use Rattle.pj_meaning.specs.Methods.{Method}
use Rattle.pj_meaning.specs.Values.{Value, Function, Object, Struct, list_of, ObjectName, ObjectRow, same_object, object_of, type_of}
use Rattle.pj_meaning.specs.State.{State, Role, TypeName, FunctionName, Constant, Variable, role_of, role_from, is_base_name, is_loaded, bound, reassigned}
use Rattle.pj_meaning.specs.Outcome.{Error, Undefined, ModuleNotLoaded, NoField, Immutable as ImmutableError, WrongFieldType, Redefinition, NotAbstract}

-- goes on with what a check gives
abbrev pub then_check : {A B : Type 0} → Result A Error → (A → Result B Error) → Result B Error
then_check (Ok a) next = next a
then_check (Err e) next = Err e

abbrev pub role_or : Option Role → Error → Result Role Error
role_or None e = Err e
role_or (Some role) e = Ok role

-- A name as a text of the module `home` writes it: with a module before it, which has to be loaded, it is
-- sought there alone; without one, in the text's module and then in Base.
abbrev pub role_at : State → Text → Text → Text → Result Role Error
role_at s home [] name = role_or (role_from s home name) (Undefined home name)
role_at s home (c ∷ cs) name =
    if is_loaded s (c ∷ cs) then role_or (role_of s.bindings (c ∷ cs) name) (Undefined (c ∷ cs) name) else Err (ModuleNotLoaded (c ∷ cs))

-- the module that an error names for a name
abbrev pub named_home : Text → Text → Text
named_home home [] = home
named_home home (c ∷ cs) = c ∷ cs

-- a type is no value
abbrev pub value_of_role : Role → Error → Result Value Error
value_of_role (TypeName t) e = Err e
value_of_role (FunctionName f) e = Ok (Function f)
value_of_role (Constant v) e = Ok v
value_of_role (Variable v) e = Ok v

abbrev pub read_name : State → Text → Text → Text → Result Value Error
read_name s home qualifier name =
    then_check (role_at s home qualifier name) (λ role. value_of_role role (Undefined (named_home home qualifier) name))

abbrev pub type_of_role : Role → Error → Result Id Error
type_of_role (TypeName t) e = Ok t
type_of_role role e = Err e

-- the type that a text of the module `home` names
abbrev pub type_at : State → Text → TypeRef → Result Id Error
type_at s home t =
    then_check (role_at s home t.home t.name) (λ role. type_of_role role (Undefined (named_home home t.home) t.name))

abbrev pub types_at : State → Text → List Param → Result (List Id) Error
types_at s home [] = Ok []
types_at s home (p ∷ ps) =
    then_check (type_at s home p.declared) (λ t. then_check (types_at s home ps) (λ ts. Ok (t ∷ ts)))

-- fields

abbrev pub fields_of_row : Option TypeRow → List Field
fields_of_row None = []
fields_of_row (Some row) = row.fields

abbrev pub fields_of : State → Id → List Field
fields_of s t = fields_of_row (row_of s.types t)

abbrev pub values_of_object : Option ObjectRow → List Value
values_of_object None = []
values_of_object (Some row) = row.values

-- the values of a value's fields
abbrev pub contents : State → Value → List Value
contents s (Object o) = values_of_object (object_of s.objects o)
contents s (Struct t vs) = list_of vs
contents s v = []

abbrev pub value_at : List Field → List Value → Text → Option Value
value_at [] vs name = None
value_at (f ∷ fs) [] name = None
value_at (f ∷ fs) (v ∷ vs) name = if bytes_eq f.name name then Some v else value_at fs vs name

abbrev pub value_or : Option Value → Error → Result Value Error
value_or None e = Err e
value_or (Some v) e = Ok v

abbrev pub get_field : State → Value → Text → Result Value Error
get_field s v name =
    value_or (value_at (fields_of s (type_of s.objects v)) (contents s v) name) (NoField (type_of s.objects v) name)

-- the values with one changed, that of the field of this name
abbrev pub with_value : List Field → List Value → Text → Value → List Value
with_value [] vs name new = vs
with_value (f ∷ fs) [] name new = []
with_value (f ∷ fs) (v ∷ vs) name new = if bytes_eq f.name name then new ∷ vs else v ∷ with_value fs vs name new

abbrev pub with_object : List ObjectRow → ObjectName → List Value → List ObjectRow
with_object [] o vs = []
with_object (row ∷ rows) o vs =
    if same_object row.name o then record row { values = vs } ∷ rows else row ∷ with_object rows o vs

-- a store into an object, once its field is known
abbrev pub store : State → Value → Field → Value → Result State Error
store s (Object o) f new =
    if is_below s.types (type_of s.objects new) f.declared
    then Ok (record s { objects = with_object s.objects o (with_value (fields_of s (type_of s.objects (Object o))) (contents s (Object o)) f.name new) })
    else Err (WrongFieldType f.name (type_of s.objects (Object o)) f.declared (type_of s.objects new))
store s v f new = Err (ImmutableError (type_of s.objects v))

abbrev pub field_or : Option Field → Error → Result Field Error
field_or None e = Err e
field_or (Some f) e = Ok f

-- a field store: that there is the field, that the value is an object, that the new value is below the field's type
abbrev pub set_field : State → Value → Text → Value → Result State Error
set_field s v name new =
    let t = type_of s.objects v in
    then_check (field_or (find (λ f. bytes_eq f.name name) (fields_of s t)) (NoField t name)) (λ f. store s v f new)

-- bindings

abbrev pub assigned : Option Role → State → Text → Text → Value → Result State Error
assigned None s home name v = Ok (bound s home name (Variable v))
assigned (Some (Variable old)) s home name v = Ok (reassigned s home name (Variable v))
assigned (Some role) s home name v = Err (Redefinition home name)

-- an assignment to a global of a module
abbrev pub assign : State → Text → Text → Value → Result State Error
assign s home name v =
    if is_base_name s home name then Err (Redefinition home name) else assigned (role_of s.bindings home name) s home name v

-- a name that is bound for the first time
abbrev pub is_free : State → Text → Text → Bool
is_free s home name = not (is_base_name s home name || is_some (role_of s.bindings home name))

abbrev pub bind_new : State → Text → Text → Role → Result State Error
bind_new s home name role = if is_free s home name then Ok (bound s home name role) else Err (Redefinition home name)

-- definitions of methods

-- the function to which a definition adds, and whether it is to be made
pub record Target : Type 0 where
  pub fun : Id
  pub is_new : Bool

abbrev pub own_target : Option Role → Text → Text → Result Target Error
own_target None home name = Ok (record { fun = id home name; is_new = true })
own_target (Some (FunctionName f)) home name = Ok (record { fun = f; is_new = false })
own_target (Some role) home name = Err (Redefinition home name)

abbrev pub other_target : Option Role → Text → Text → Result Target Error
other_target (Some (FunctionName f)) home name = Ok (record { fun = f; is_new = false })
other_target role home name = Err (Undefined home name)

-- `f(..) = ..` adds to the text's own function, which it makes where there is none; `M.f(..) = ..` adds to M's
abbrev pub target_of : State → Text → Text → Text → Result Target Error
target_of s home [] name =
    if is_base_name s home name then Err (Redefinition home name) else own_target (role_of s.bindings home name) home name
target_of s home (c ∷ cs) name =
    if is_loaded s (c ∷ cs) then other_target (role_of s.bindings (c ∷ cs) name) (c ∷ cs) name else Err (ModuleNotLoaded (c ∷ cs))

-- a method of the function has this signature already
abbrev pub has_signature : List Method → Id → List Id → Bool
has_signature methods f types = list_any (λ m. same_id m.fun f && same_ids m.signature types) methods

abbrev pub with_function : State → Target → State
with_function s target =
    if target.is_new then bound s target.fun.home target.fun.name (FunctionName target.fun) else s

-- `function f end`
abbrev pub declare : State → Text → Text → Result State Error
declare s home name = then_check (target_of s home [] name) (λ target. Ok (with_function s target))

-- types

abbrev pub parent_at : State → Text → TypeRef → Result Id Error
parent_at s home t =
    then_check (type_at s home t) (λ parent. if is_abstract s.types parent then Ok parent else Err (NotAbstract parent))

abbrev pub field_rows : List Param → List Id → List Field
field_rows [] ts = []
field_rows (p ∷ ps) [] = []
field_rows (p ∷ ps) (t ∷ ts) = record { name = p.name; declared = t } ∷ field_rows ps ts

abbrev pub with_type : State → TypeRow → State
with_type s row = record s { types = s.types ++ row ∷ [] }

-- A type's definition: its name, its parent, and then its fields, which may be of the type itself.
abbrev pub declare_type : State → Text → Text → Form → TypeRef → List Param → Result State Error
declare_type s home name form parent fields =
    then_check (bind_new s home name (TypeName (id home name))) (λ named.
    then_check (parent_at s home parent) (λ above.
    then_check (types_at named home fields) (λ types.
    Ok (with_type named (record { name = id home name; parent = above; form = form; fields = field_rows fields types })))))
