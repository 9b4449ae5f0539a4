-- The one spelling of each part in bytes. Numbers have four bytes, the lowest first; a list is how many it has, and each.
use Rattle.std.specs.Prelude.{ℕ, List, ◌++◌, length}
use Rattle.pj_fields.specs.Fields.{number, int, list}
use Rattle.pj_base.specs.Kinds.{kind_number}
use Rattle.pj_base.specs.declared.kinds.KindTag.{KindTag}
use Rattle.pj_reloc.specs.declared.entry.Entry.{Entry}
use Rattle.pj_parts.specs.declared.types.Dependency.{Dependency}
use Rattle.pj_parts.specs.declared.types.Head.{Head}
use Rattle.pj_parts.specs.declared.types.TypeForm.{TypeForm}
use Rattle.pj_parts.specs.declared.types.TypeForm.TheVariants as forms
use Rattle.pj_parts.specs.declared.types.FieldDef.{FieldDef}
use Rattle.pj_parts.specs.declared.types.TypeDef.{TypeDef}
use Rattle.pj_parts.specs.declared.types.FunDef.{FunDef}
use Rattle.pj_parts.specs.declared.types.BindingForm.{BindingForm}
use Rattle.pj_parts.specs.declared.types.BindingForm.TheVariants as binding_forms
use Rattle.pj_parts.specs.declared.types.Value.{Value}
use Rattle.pj_parts.specs.declared.types.Value.TheOpen.{Value-F}
use Rattle.pj_parts.specs.declared.types.Value.TheFolds.{fold-Value}
use Rattle.pj_parts.specs.declared.types.Binding.{Binding}
use Rattle.pj_parts.specs.declared.types.Object.{Object}
use Rattle.pj_parts.specs.declared.types.Method.{Method}
use Rattle.pj_parts.specs.declared.types.Directive.{Directive}
use Rattle.pj_parts.specs.declared.types.Element.{Element}
use Rattle.pj_parts.specs.declared.types.Element.TheVariants as elements
use Rattle.pj_parts.specs.declared.types.Outcome.{Outcome}
use Rattle.pj_parts.specs.declared.types.Outcome.TheVariants as outcomes
use Rattle.pj_parts.specs.declared.types.Edge.{Edge}
use Rattle.pj_parts.specs.declared.types.Edge.TheVariants as edges
use Rattle.pj_parts.specs.declared.types.CodeRecord.{CodeRecord}
use Rattle.pj_parts.specs.declared.types.CodeWord.{CodeWord}

-- how many bytes, and the bytes
abbrev pub text : List ℕ → List ℕ
text t = number (length t) ++ t

-- ---- the package

abbrev pub dependency : Dependency → List ℕ
dependency d = text d.name ++ d.identity

abbrev pub head : Head → List ℕ
head h = text h.name ++ list dependency h.dependencies

-- ---- what it declares

abbrev pub form_number : TypeForm → ℕ
form_number forms.Abstract = 0
form_number forms.Immutable = 1
form_number forms.Mutable = 2

abbrev pub field_def : FieldDef → List ℕ
field_def f = number f.name ++ number f.declared

abbrev pub type_def : TypeDef → List ℕ
type_def d = number d.name ++ (number (form_number d.form) ++ (number d.parent ++ list field_def d.fields))

abbrev pub fun_def : FunDef → List ℕ
fun_def f = number f.name

abbrev pub binding_form : BindingForm → List ℕ
binding_form binding_forms.Const = number 0
binding_form binding_forms.Global = number 1

-- a value's tag and its fields, with the bytes of each value in it in its place
abbrev pub value_step : Value-F (List ℕ) → List ℕ
value_step Value-F.Nothing = number 0
value_step Value-F.False = number 1
value_step Value-F.True = number 2
value_step (Value-F.Int z) = number 3 ++ int z
value_step (Value-F.Str text) = number 4 ++ number text
value_step (Value-F.Fun fun) = number 5 ++ number fun
value_step (Value-F.Object object) = number 6 ++ number object
value_step (Value-F.Struct declared fields) = number 7 ++ (number declared ++ list (λ bytes. bytes) fields)

abbrev pub value : Value → List ℕ
value = fold-Value (List ℕ) value_step

abbrev pub binding : Binding → List ℕ
binding b = number b.name ++ (binding_form b.form ++ value b.value)

abbrev pub object : Object → List ℕ
object o = number o.declared ++ list value o.values

-- ---- methods and what is asked of them

abbrev pub method : Method → List ℕ
method m = number m.fun ++ (list number m.types ++ number m.body)

abbrev pub directive : Directive → List ℕ
directive d = number d.fun ++ list number d.types

-- ---- records

abbrev pub element : Element → List ℕ
element elements.Bottom = number 0
element (elements.OneOf types) = number 1 ++ list number types
element (elements.Below above) = number 2 ++ number above
element elements.Any = number 3

abbrev pub outcome : Outcome → List ℕ
outcome (outcomes.One method) = number 0 ++ number method
outcome outcomes.NoneMatch = number 1
outcome outcomes.Ambiguous = number 2

abbrev pub edge : Edge → List ℕ
edge (edges.Call fun types picked) = number 0 ++ (number fun ++ (list number types ++ outcome picked))
edge (edges.Meets fun elems methods) = number 1 ++ (number fun ++ (list element elems ++ list number methods))

abbrev pub code_record : CodeRecord → List ℕ
code_record r = number r.method ++ (list element r.params ++ (element r.outcome ++ (list edge r.edges ++ (list number r.links ++ (number r.registers ++ number r.instructions)))))

abbrev pub code_word : CodeWord → List ℕ
code_word w = number w.0

-- ---- what the mentions name

abbrev pub kind : KindTag → List ℕ
kind k = number (kind_number k)

abbrev pub entry : Entry → List ℕ
entry e = number e.place ++ (kind e.kind ++ (number e.dependency ++ number e.ordinal))
