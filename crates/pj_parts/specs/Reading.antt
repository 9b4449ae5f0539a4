-- The part that stands at the front of bytes, and the bytes after it.
use Rattle.std.specs.Prelude.{ℕ, List, [], ◌∷◌, length, take, drop, Some, None, nat_lt, if◌then◌else◌}
use Rattle.std.specs.Str.{is_utf8}
use Rattle.pj_fields.specs.Fields.{Reader, after, done, made, both, number_at, int_at, list_at, tagged}
use Rattle.pj_base.specs.declared.kinds.KindTag.{KindTag}
use Rattle.pj_base.specs.declared.kinds.KindTag.TheVariants as kinds
use Rattle.pj_reloc.specs.declared.entry.Entry.{Entry}
use Rattle.pj_parts.specs.declared.types.Dependency.{Dependency}
use Rattle.pj_parts.specs.declared.types.Head.{Head}
use Rattle.pj_parts.specs.declared.types.FunDef.{FunDef}
use Rattle.pj_parts.specs.declared.types.BindingForm.{BindingForm}
use Rattle.pj_parts.specs.declared.types.BindingForm.TheVariants as binding_forms
use Rattle.pj_parts.specs.declared.types.Value.{Value}
use Rattle.pj_parts.specs.declared.types.Value.TheVariants as values
use Rattle.pj_parts.specs.declared.types.Binding.{Binding}
use Rattle.pj_parts.specs.declared.types.Method.{Method}

-- parts that aren't built yet aren't read
unfoldable pub nothing_at : {A : Type 0} → Reader A
nothing_at bytes = None

-- so many bytes, if they are there and are UTF-8
abbrev pub string_at : ℕ → Reader (List ℕ)
string_at n bytes = if nat_lt (length bytes) n then None else if is_utf8 (take n bytes) then Some (take n bytes, drop n bytes) else None

unfoldable pub text_at : Reader (List ℕ)
text_at bytes = after (number_at bytes) string_at

abbrev pub head_of : List ℕ × List Dependency → Head
head_of x = record { name = x.0; dependencies = x.1 }

unfoldable pub head_at : Reader Head
head_at = made head_of (both text_at (list_at nothing_at))

abbrev pub fun_def_of : ℕ → FunDef
fun_def_of n = record { name = n }

abbrev pub fun_def_at : Reader FunDef
fun_def_at = made fun_def_of number_at

unfoldable pub binding_form_at : Reader BindingForm
binding_form_at = tagged ((0, done binding_forms.Const) ∷ (1, done binding_forms.Global) ∷ [])

-- of values, integers alone
unfoldable pub value_at : Reader Value
value_at = tagged ((3, made values.Int int_at) ∷ [])

abbrev pub binding_of : ℕ × (BindingForm × Value) → Binding
binding_of x = record { name = x.0; form = x.1.0; value = x.1.1 }

unfoldable pub binding_at : Reader Binding
binding_at = made binding_of (both number_at (both binding_form_at value_at))

abbrev pub method_of : ℕ × (List ℕ × ℕ) → Method
method_of x = record { fun = x.0; types = x.1.0; body = x.1.1 }

unfoldable pub method_at : Reader Method
method_at = made method_of (both number_at (both (list_at number_at) number_at))

unfoldable pub kind_at : Reader KindTag
kind_at = tagged (
    (0, done kinds.TypeKind) ∷ (1, done kinds.FunKind) ∷ (2, done kinds.MethodKind) ∷ (3, done kinds.BindingKind)
    ∷ (4, done kinds.ObjectKind) ∷ (5, done kinds.RecordKind) ∷ (6, done kinds.TreeKind) ∷ [])

abbrev pub entry_of : ℕ × (KindTag × (ℕ × ℕ)) → Entry
entry_of x = record { place = x.0; kind = x.1.0; dependency = x.1.1.0; ordinal = x.1.1.1 }

unfoldable pub entry_at : Reader Entry
entry_at = made entry_of (both number_at (both kind_at (both number_at number_at)))
