-- Which parts have a spelling today.
use Rattle.std.specs.Prelude.{◌≡◌, ◌<◌, ◌^◌, ℕ, true, List, length, FitsSigned, ⊤}
use Rattle.std.specs.Int.{w64}
use Rattle.std.specs.List.{AllByRecursion}
use Rattle.std.specs.Str.{is_utf8}
use Rattle.pj_reloc.specs.declared.entry.Entry.{Entry}
use Rattle.pj_parts.specs.declared.types.Dependency.{Dependency}
use Rattle.pj_parts.specs.declared.types.TypeDef.{TypeDef}
use Rattle.pj_parts.specs.declared.types.Object.{Object}
use Rattle.pj_parts.specs.declared.types.Directive.{Directive}
use Rattle.pj_parts.specs.declared.types.Element.{Element}
use Rattle.pj_parts.specs.declared.types.Element.TheVariants as elements
use Rattle.pj_parts.specs.declared.types.Edge.{Edge}
use Rattle.pj_parts.specs.declared.types.Edge.TheVariants as edges
use Rattle.pj_parts.specs.declared.types.CodeRecord.{CodeRecord}
use Rattle.pj_parts.specs.declared.types.Head.{Head}
use Rattle.pj_parts.specs.declared.types.FunDef.{FunDef}
use Rattle.pj_parts.specs.declared.types.Value.{Value, out-Value}
use Rattle.pj_parts.specs.declared.types.Value.TheOpen.{Value-F}
use Rattle.pj_parts.specs.declared.types.Binding.{Binding}
use Rattle.pj_parts.specs.declared.types.Method.{Method}

-- at most 4,294,967,295 members, each as P says
abbrev pub ListFits : {A : Type 0} → (A → Type 0) → List A → Type 0
ListFits P xs = (length xs < 2 ^ 32) × AllByRecursion P xs

-- parts that aren't built yet
abbrev pub NoneYet : {A : Type 0} → A → Type 0
NoneYet x = ⊥

-- a number of four bytes
abbrev pub NumberFits : ℕ → Type 0
NumberFits n = n < 2 ^ 32

-- UTF-8 of at most 4,294,967,295 bytes
abbrev pub TextFits : List ℕ → Type 0
TextFits t = (length t < 2 ^ 32) × (is_utf8 t ≡ true)

abbrev pub HeadFits : Head → Type 0
HeadFits h = TextFits h.name × ListFits NoneYet h.dependencies

abbrev pub FunDefFits : FunDef → Type 0
FunDefFits f = NumberFits f.name

-- of values, integers alone
abbrev pub ValueNodeFits : Value-F Value → Type 0
ValueNodeFits Value-F.Nothing = ⊥
ValueNodeFits Value-F.False = ⊥
ValueNodeFits Value-F.True = ⊥
ValueNodeFits (Value-F.Int z) = FitsSigned w64 z
ValueNodeFits (Value-F.Str text) = ⊥
ValueNodeFits (Value-F.Fun fun) = ⊥
ValueNodeFits (Value-F.Object object) = ⊥
ValueNodeFits (Value-F.Struct declared fields) = ⊥

abbrev pub ValueFits : Value → Type 0
ValueFits v = ValueNodeFits (out-Value v)

abbrev pub BindingFits : Binding → Type 0
BindingFits b = NumberFits b.name × (⊤ × ValueFits b.value)

abbrev pub MethodFits : Method → Type 0
MethodFits m = NumberFits m.fun × (ListFits NumberFits m.types × NumberFits m.body)

abbrev pub EntryFits : Entry → Type 0
EntryFits e = NumberFits e.place × (⊤ × (NumberFits e.dependency × NumberFits e.ordinal))

-- ---- parts that can be spelled, and aren't read yet: their lists aren't too long

abbrev pub DependencyFits : Dependency → Type 0
DependencyFits d = TextFits d.name

abbrev pub TypeDefFits : TypeDef → Type 0
TypeDefFits d = ListFits (λ f. ⊤) d.fields

abbrev pub ObjectFits : Object → Type 0
ObjectFits o = ListFits ValueFits o.values

abbrev pub DirectiveFits : Directive → Type 0
DirectiveFits d = ListFits NumberFits d.types

abbrev pub ElementFits : Element → Type 0
ElementFits elements.Bottom = ⊤
ElementFits (elements.OneOf types) = ListFits NumberFits types
ElementFits (elements.Below above) = ⊤
ElementFits elements.Any = ⊤

abbrev pub EdgeFits : Edge → Type 0
EdgeFits (edges.Call fun types picked) = ListFits NumberFits types
EdgeFits (edges.Meets fun elems methods) = ListFits ElementFits elems × ListFits NumberFits methods

abbrev pub CodeRecordFits : CodeRecord → Type 0
CodeRecordFits r = ListFits ElementFits r.params × (ElementFits r.outcome × (ListFits EdgeFits r.edges × ListFits NumberFits r.links))
