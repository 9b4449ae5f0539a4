-- How values and errors are printed.
use Rattle.std.specs.Prelude.{ℕ, zero, suc, Bool, true, false, List, [], ◌∷◌, ◌++◌, codes, if◌then◌else◌, ◌==◌, Option, Some, None}
use Rattle.std.specs.Fmt.{signed_decimal}
use Rattle.std.specs.Str.{bytes_eq}
use Rattle.pj_meaning.specs.Tree.{Text}
use Rattle.pj_meaning.specs.Names.{Id, base_name}
use Rattle.pj_meaning.specs.Values.{Value, Nil, Truth, Whole, String, Function, Object, Struct, list_of, ObjectRow, object_of}
use Rattle.pj_meaning.specs.Outcome.{Callee, OfFunction, OfType, Error, NoMethod, AmbiguousCall, NotCallable, Undefined, LocalUndefined, DivideError, StackOverflow, NonBoolean, RangeBound, NoField, Immutable, WrongFieldType, Raised, Redefinition, Overwriting, ClosedModule, TooManyParts, NeedsConcrete, NotAbstract, ModuleNotLoaded}

-- a name with its module
abbrev pub full_name : Text → Text → Text
full_name home name = home ++ (codes "." ++ name)

abbrev pub function_text : Id → Text
function_text f = full_name f.home f.name

-- Base's types stand without their module
abbrev pub type_text : Id → Text
type_text t = if bytes_eq t.home base_name then t.name else full_name t.home t.name

abbrev pub callee_text : Callee → Text
callee_text (OfFunction f) = function_text f
callee_text (OfType t) = type_text t

-- with a comma and a space between them
abbrev pub listed : List Text → Text
listed [] = []
listed (t ∷ []) = t
listed (t ∷ u ∷ ts) = t ++ (codes ", " ++ listed (u ∷ ts))

abbrev pub type_texts : List Id → List Text
type_texts [] = []
type_texts (t ∷ ts) = type_text t ∷ type_texts ts

abbrev pub call_text : Text → List Id → Text
call_text f types = f ++ (codes "(" ++ (listed (type_texts types) ++ codes ")"))

-- backslash, quote, line feed, tab and dollar are written with a backslash inside a struct
abbrev pub escaped : Text → Text
escaped [] = []
escaped (c ∷ cs) =
    (if c == 92 then codes "\\\\" else if c == 34 then codes "\\\"" else if c == 10 then codes "\\n" else if c == 9 then codes "\\t" else if c == 36 then codes "\\$" else c ∷ [])
    ++ escaped cs

abbrev pub truth_text : Bool → Text
truth_text true = codes "true"
truth_text false = codes "false"

-- the values' texts with a comma and a space between them
abbrev pub inner_texts : (Value → Text) → List Value → List Text
inner_texts inner [] = []
inner_texts inner (v ∷ vs) = inner v ∷ inner_texts inner vs

abbrev pub struct_text : Id → Text → Text
struct_text t fields = type_text t ++ (codes "(" ++ (fields ++ codes ")"))

abbrev pub object_text : Option ObjectRow → (Id → List Value → Text) → Text
object_text None text = []
object_text (Some row) text = text row.type row.values

-- A value inside a struct, or the outermost struct, where so many levels of structs may be shown yet: at the
-- last level the fields give way to two dots.
abbrev pub inner_text : ℕ → List ObjectRow → Value → Text
inner_text levels objects Nil = codes "nothing"
inner_text levels objects (Truth b) = truth_text b
inner_text levels objects (Whole z) = signed_decimal z
inner_text levels objects (String s) = codes "\"" ++ (escaped s ++ codes "\"")
inner_text levels objects (Function f) = function_text f
inner_text zero objects (Object o) = object_text (object_of objects o) (λ t vs. struct_text t (codes ".."))
inner_text (suc n) objects (Object o) =
    object_text (object_of objects o) (λ t vs. struct_text t (listed (inner_texts (inner_text n objects) vs)))
inner_text zero objects (Struct t vs) = struct_text t (codes "..")
inner_text (suc n) objects (Struct t vs) = struct_text t (listed (inner_texts (inner_text n objects) (list_of vs)))

-- A value as it is printed: a String as its bytes, and a struct with three levels shown.
abbrev pub text_of : List ObjectRow → Value → Text
text_of objects (String s) = s
text_of objects v = inner_text 3 objects v

-- the text of an error, by itself
abbrev pub error_text : Error → Text
error_text (NoMethod f types) = codes "MethodError: no method matching " ++ call_text (callee_text f) types
error_text (AmbiguousCall f types) = codes "MethodError: " ++ (call_text (function_text f) types ++ codes " is ambiguous")
error_text (NotCallable t) = codes "MethodError: value of type " ++ (type_text t ++ codes " is not callable")
error_text (Undefined home name) = codes "UndefVarError: " ++ (full_name home name ++ codes " not defined")
error_text (LocalUndefined name) = codes "UndefVarError: local " ++ (name ++ codes " not defined")
error_text DivideError = codes "DivideError: integer division error"
error_text StackOverflow = codes "StackOverflowError"
error_text (NonBoolean t) = codes "TypeError: non-boolean (" ++ (type_text t ++ codes ") used in boolean context")
error_text (RangeBound t) = codes "TypeError: range bound of type " ++ type_text t
error_text (NoField t name) = codes "FieldError: type " ++ (type_text t ++ (codes " has no field " ++ name))
error_text (Immutable t) = codes "ImmutableError: type " ++ (type_text t ++ codes " cannot be changed")
error_text (WrongFieldType name t declared got) =
    codes "TypeError: field " ++ (name ++ (codes " of " ++ (type_text t ++ (codes " takes " ++ (type_text declared ++ (codes ", got " ++ type_text got))))))
error_text (Raised text) = text
error_text (Redefinition home name) = codes "invalid redefinition of " ++ full_name home name
error_text (Overwriting f types) =
    codes "method overwriting is not permitted during precompilation: " ++ call_text (function_text f) types
error_text (ClosedModule home) =
    codes "evaluation into the closed module " ++ (home ++ codes " during precompilation")
error_text TooManyParts = codes "LimitError: struct value of more than 4096 parts"
error_text (NeedsConcrete t) = codes "TypeError: precompile needs concrete types, got " ++ type_text t
error_text (NotAbstract t) = codes "TypeError: supertype " ++ (type_text t ++ codes " is not abstract")
error_text (ModuleNotLoaded home) = codes "UndefVarError: module " ++ (home ++ codes " not loaded")

-- the line that an uncaught error puts
abbrev pub error_line : Error → Text
error_line e = codes "ERROR: " ++ (error_text e ++ codes "\n")
