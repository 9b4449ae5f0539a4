-- What is put of a part is read again, whatever follows it, and what is read was put so.
use Rattle.std.proofs.Common.{◌≡◌, ℕ, ◌≤◌, Bool, true, false, cond, ltb, List, [], ◌∷◌, ◌++◌, length, take, drop, Some, None, refl, sym, ap, subst, ◌∙◌, append_assoc, arith}
use Rattle.std.specs.Prelude.{FitsSigned, ⊤}
use Rattle.std.specs.Int.{w64}
use Rattle.std.specs.Str.{is_utf8}
use Rattle.std.proofs.lemmas.Bool.{ltb-false, le-ltb}
use Rattle.std.proofs.lemmas.List.{take_at, drop_at, take-append-drop, length-append, append-nil, length-take-le}
use Rattle.pj_fields.specs.Fields.{Reader, number, int, list, done, made, both, number_at, int_at, list_at}
use Rattle.pj_fields.proofs.Laws.{IsBytes, Taken, Laws, after_some, some_is, number_laws, int_laws, both_laws, list_laws, made_takes, made_again, Arms, arm_of, arm_done, tagged_takes, tagged_again}
use Rattle.pj_base.specs.declared.kinds.KindTag.{KindTag}
use Rattle.pj_base.specs.declared.kinds.KindTag.TheVariants as kinds
use Rattle.pj_parts.specs.declared.types.Dependency.{Dependency}
use Rattle.pj_parts.specs.declared.types.BindingForm.{BindingForm}
use Rattle.pj_parts.specs.declared.types.BindingForm.TheVariants as forms
use Rattle.pj_parts.specs.declared.types.Value.{Value, out-Value, roll-Value}
use Rattle.pj_parts.specs.declared.types.Value.TheVariants as v
use Rattle.pj_parts.specs.declared.types.Value.TheOpen.{Value-F}
use Rattle.pj_parts.specs.declared.types.Value.TheViews.{roll-out-Value}
use Rattle.pj_parts.specs.Spelling.{text, dependency, head, fun_def, binding_form, value, binding, method, kind, entry}
use Rattle.pj_parts.specs.Fits.{ListFits, NoneYet, NumberFits, TextFits, HeadFits, FunDefFits, ValueNodeFits, ValueFits, BindingFits, MethodFits, EntryFits}
use Rattle.pj_parts.specs.Reading.{nothing_at, string_at, text_at, head_of, head_at, fun_def_of, fun_def_at, binding_form_at, value_at, binding_of, binding_at, method_of, method_at, kind_at, entry_of, entry_at}
use Rattle.pj_parts.proofs.Values.{value-Int}

-- ---- parts that aren't built yet

pub nothing_laws : {A : Type 0} (put : A → List ℕ) → Laws put (nothing_at {A = A}) (NoneYet {A = A})
unfolding nothing_at
nothing_laws put = record { takes = λ bytes x rest fits e. absurd cc; again = λ x rest fits. absurd fits }

-- ---- texts

guard_twice : {A : Type 0} (short fine : Bool) (x y : A) → cond short None (cond fine (Some x) None) ≡ Some y → (short ≡ false) × ((fine ≡ true) × (x ≡ y))
guard_twice true fine x y e = absurd cc
guard_twice false true x y e = (refl, (refl, some_is x y e))
guard_twice false false x y e = absurd cc

text_takes : (bytes t rest : List ℕ) → IsBytes bytes → text_at bytes ≡ Some (t, rest) → Taken text TextFits bytes t rest
unfolding text_at
text_takes bytes t rest fits e =
    let a = after_some (number_at bytes) string_at (t, rest) e in
    let n = a.0.0 in
    let behind = a.0.1 in
    let first = number_laws.takes bytes n behind fits a.1 in
    let g = guard_twice (ltb (length behind) n) (is_utf8 (take n behind)) (take n behind, drop n behind) (t, rest) a.2 in
    let long : n ≤ length behind = ltb-false _ _ g.0 in
    let t-is : take n behind ≡ t = ap (λ (p : List ℕ × List ℕ). p.0) g.1.1 in
    let rest-is : drop n behind ≡ rest = ap (λ (p : List ℕ × List ℕ). p.1) g.1.1 in
    let n-is : length t ≡ n = sym (ap length t-is) ∙ length-take-le n behind long in
    let whole : bytes ≡ (number n ++ t) ++ rest = first.parts ∙ ap (λ (b : List ℕ). number n ++ b) (sym (take-append-drop n behind)) ∙ rw (t-is, rest-is) (sym (append_assoc (number n) t rest)) in
    record {
      fits = (rw n-is first.fits, subst (λ (b : List ℕ). is_utf8 b ≡ true) t-is g.1.0);
      parts = rw n-is whole;
    }

text_again : (t rest : List ℕ) → TextFits t → text_at (text t ++ rest) ≡ Some (t, rest)
unfolding text_at
text_again t rest fits =
    let regrouped : (number (length t) ++ t) ++ rest ≡ number (length t) ++ (t ++ rest) = append_assoc (number (length t)) t rest in
    let long : ltb (length (t ++ rest)) (length t) ≡ false = le-ltb _ _ (omega (arith, length-append t rest)) in
    ap text_at regrouped ∙ rw (number_laws.again (length t) (t ++ rest) fits.0, long, take_at t rest (length t) refl, drop_at t rest (length t) refl, fits.1) refl

pub text_laws : Laws text text_at TextFits
text_laws = record { takes = text_takes; again = text_again }

-- ---- the head

head_fields : Laws (λ (x : List ℕ × List Dependency). text x.0 ++ list dependency x.1) (both text_at (list_at nothing_at)) (λ x. TextFits x.0 × ListFits NoneYet x.1)
head_fields = both_laws text text_at TextFits (list dependency) (list_at nothing_at) (ListFits NoneYet) text_laws (list_laws dependency nothing_at NoneYet (nothing_laws dependency))

pub head_laws : Laws head head_at HeadFits
unfolding head_at
head_laws = record {
  takes = made_takes head_of (λ (x : List ℕ × List Dependency). text x.0 ++ list dependency x.1) (both text_at (list_at nothing_at)) (λ x. TextFits x.0 × ListFits NoneYet x.1) head_fields head HeadFits (λ x. refl) (λ x h. h);
  again = λ h rest fits. made_again head_of (λ (x : List ℕ × List Dependency). text x.0 ++ list dependency x.1) (both text_at (list_at nothing_at)) (λ x. TextFits x.0 × ListFits NoneYet x.1) head_fields (h.name, h.dependencies) rest fits;
}

-- ---- functions

pub fun_def_laws : Laws fun_def fun_def_at FunDefFits
fun_def_laws = record {
  takes = made_takes fun_def_of number number_at NumberFits number_laws fun_def FunDefFits (λ n. refl) (λ n h. h);
  again = λ f rest fits. made_again fun_def_of number number_at NumberFits number_laws f.name rest fits;
}

-- ---- bindings

abbrev AnyForm : BindingForm → Type 0
AnyForm form = ⊤

form_arms : Arms binding_form AnyForm ((0, done forms.Const) ∷ (1, done forms.Global) ∷ [])
form_arms = (arm_done binding_form AnyForm 0 forms.Const refl tt, (arm_done binding_form AnyForm 1 forms.Global refl tt, tt))

form_takes : (bytes : List ℕ) (x : BindingForm) (rest : List ℕ) → IsBytes bytes → binding_form_at bytes ≡ Some (x, rest) → Taken binding_form AnyForm bytes x rest
unfolding binding_form_at
form_takes = tagged_takes binding_form AnyForm ((0, done forms.Const) ∷ (1, done forms.Global) ∷ []) form_arms

form_again : (x : BindingForm) (rest : List ℕ) → AnyForm x → binding_form_at (binding_form x ++ rest) ≡ Some (x, rest)
unfolding binding_form_at
form_again forms.Const rest fits = tagged_again binding_form AnyForm ((0, done forms.Const) ∷ (1, done forms.Global) ∷ []) 0 forms.Const [] rest (omega arith) (sym (append-nil (number 0))) refl
form_again forms.Global rest fits = tagged_again binding_form AnyForm ((0, done forms.Const) ∷ (1, done forms.Global) ∷ []) 1 forms.Global [] rest (omega arith) (sym (append-nil (number 1))) refl

pub form_laws : Laws binding_form binding_form_at AnyForm
form_laws = record { takes = form_takes; again = form_again }

value_arms : Arms value ValueFits ((3, made v.Int int_at) ∷ [])
value_arms = (arm_of value ValueFits 3 v.Int int int_at (FitsSigned w64) int_laws value-Int (λ x h. rw (v.outs-Int x) h), tt)

value_takes : (bytes : List ℕ) (x : Value) (rest : List ℕ) → IsBytes bytes → value_at bytes ≡ Some (x, rest) → Taken value ValueFits bytes x rest
unfolding value_at
value_takes = tagged_takes value ValueFits ((3, made v.Int int_at) ∷ []) value_arms

layer_again : (layer : Value-F Value) (rest : List ℕ) → ValueNodeFits layer → value_at (value (roll-Value layer) ++ rest) ≡ Some (roll-Value layer, rest)
unfolding value_at
layer_again Value-F.Nothing rest fits = absurd fits
layer_again Value-F.False rest fits = absurd fits
layer_again Value-F.True rest fits = absurd fits
layer_again (Value-F.Int z) rest fits = rw (v.rolls-Int z) (tagged_again value ValueFits ((3, made v.Int int_at) ∷ []) 3 (v.Int z) (int z) rest (omega arith) (value-Int z) (made_again v.Int int int_at (FitsSigned w64) int_laws z rest fits))
layer_again (Value-F.Str n) rest fits = absurd fits
layer_again (Value-F.Fun n) rest fits = absurd fits
layer_again (Value-F.Object n) rest fits = absurd fits
layer_again (Value-F.Struct n xs) rest fits = absurd fits

pub value_laws : Laws value value_at ValueFits
value_laws = record {
  takes = value_takes;
  again = λ x rest fits. subst (λ (y : Value). value_at (value y ++ rest) ≡ Some (y, rest)) (roll-out-Value x) (layer_again (out-Value x) rest fits);
}

abbrev binding_put : ℕ × (BindingForm × Value) → List ℕ
binding_put x = number x.0 ++ (binding_form x.1.0 ++ value x.1.1)

abbrev BindingPartsFit : ℕ × (BindingForm × Value) → Type 0
BindingPartsFit x = NumberFits x.0 × (AnyForm x.1.0 × ValueFits x.1.1)

binding_fields : Laws binding_put (both number_at (both binding_form_at value_at)) BindingPartsFit
binding_fields = both_laws number number_at NumberFits (λ (x : BindingForm × Value). binding_form x.0 ++ value x.1) (both binding_form_at value_at) (λ x. AnyForm x.0 × ValueFits x.1) number_laws (both_laws binding_form binding_form_at AnyForm value value_at ValueFits form_laws value_laws)

pub binding_laws : Laws binding binding_at BindingFits
unfolding binding_at
binding_laws = record {
  takes = made_takes binding_of binding_put (both number_at (both binding_form_at value_at)) BindingPartsFit binding_fields binding BindingFits (λ x. refl) (λ x h. h);
  again = λ b rest fits. made_again binding_of binding_put (both number_at (both binding_form_at value_at)) BindingPartsFit binding_fields (b.name, (b.form, b.value)) rest fits;
}

-- ---- methods

abbrev method_put : ℕ × (List ℕ × ℕ) → List ℕ
method_put x = number x.0 ++ (list number x.1.0 ++ number x.1.1)

abbrev MethodPartsFit : ℕ × (List ℕ × ℕ) → Type 0
MethodPartsFit x = NumberFits x.0 × (ListFits NumberFits x.1.0 × NumberFits x.1.1)

method_fields : Laws method_put (both number_at (both (list_at number_at) number_at)) MethodPartsFit
method_fields = both_laws number number_at NumberFits (λ (x : List ℕ × ℕ). list number x.0 ++ number x.1) (both (list_at number_at) number_at) (λ x. ListFits NumberFits x.0 × NumberFits x.1) number_laws (both_laws (list number) (list_at number_at) (ListFits NumberFits) number number_at NumberFits (list_laws number number_at NumberFits number_laws) number_laws)

pub method_laws : Laws method method_at MethodFits
unfolding method_at
method_laws = record {
  takes = made_takes method_of method_put (both number_at (both (list_at number_at) number_at)) MethodPartsFit method_fields method MethodFits (λ x. refl) (λ x h. h);
  again = λ m rest fits. made_again method_of method_put (both number_at (both (list_at number_at) number_at)) MethodPartsFit method_fields (m.fun, (m.types, m.body)) rest fits;
}

-- ---- entries

abbrev AnyKind : KindTag → Type 0
AnyKind k = ⊤

abbrev kind_rows : List (ℕ × Reader KindTag)
kind_rows = (0, done kinds.TypeKind) ∷ (1, done kinds.FunKind) ∷ (2, done kinds.MethodKind) ∷ (3, done kinds.BindingKind)
    ∷ (4, done kinds.ObjectKind) ∷ (5, done kinds.RecordKind) ∷ (6, done kinds.TreeKind) ∷ []

kind_arms : Arms kind AnyKind kind_rows
kind_arms = (
  arm_done kind AnyKind 0 kinds.TypeKind refl tt,
  (
    arm_done kind AnyKind 1 kinds.FunKind refl tt,
    (
      arm_done kind AnyKind 2 kinds.MethodKind refl tt,
      (
        arm_done kind AnyKind 3 kinds.BindingKind refl tt,
        (
          arm_done kind AnyKind 4 kinds.ObjectKind refl tt,
          (
            arm_done kind AnyKind 5 kinds.RecordKind refl tt,
            (arm_done kind AnyKind 6 kinds.TreeKind refl tt, tt),
          ),
        ),
      ),
    ),
  ),
)

kind_takes : (bytes : List ℕ) (x : KindTag) (rest : List ℕ) → IsBytes bytes → kind_at bytes ≡ Some (x, rest) → Taken kind AnyKind bytes x rest
unfolding kind_at
kind_takes = tagged_takes kind AnyKind kind_rows kind_arms

kind_again : (x : KindTag) (rest : List ℕ) → AnyKind x → kind_at (kind x ++ rest) ≡ Some (x, rest)
unfolding kind_at
kind_again kinds.TypeKind rest fits = tagged_again kind AnyKind kind_rows 0 kinds.TypeKind [] rest (omega arith) (sym (append-nil (number 0))) refl
kind_again kinds.FunKind rest fits = tagged_again kind AnyKind kind_rows 1 kinds.FunKind [] rest (omega arith) (sym (append-nil (number 1))) refl
kind_again kinds.MethodKind rest fits = tagged_again kind AnyKind kind_rows 2 kinds.MethodKind [] rest (omega arith) (sym (append-nil (number 2))) refl
kind_again kinds.BindingKind rest fits = tagged_again kind AnyKind kind_rows 3 kinds.BindingKind [] rest (omega arith) (sym (append-nil (number 3))) refl
kind_again kinds.ObjectKind rest fits = tagged_again kind AnyKind kind_rows 4 kinds.ObjectKind [] rest (omega arith) (sym (append-nil (number 4))) refl
kind_again kinds.RecordKind rest fits = tagged_again kind AnyKind kind_rows 5 kinds.RecordKind [] rest (omega arith) (sym (append-nil (number 5))) refl
kind_again kinds.TreeKind rest fits = tagged_again kind AnyKind kind_rows 6 kinds.TreeKind [] rest (omega arith) (sym (append-nil (number 6))) refl

pub kind_laws : Laws kind kind_at AnyKind
kind_laws = record { takes = kind_takes; again = kind_again }

abbrev entry_put : ℕ × (KindTag × (ℕ × ℕ)) → List ℕ
entry_put x = number x.0 ++ (kind x.1.0 ++ (number x.1.1.0 ++ number x.1.1.1))

abbrev EntryPartsFit : ℕ × (KindTag × (ℕ × ℕ)) → Type 0
EntryPartsFit x = NumberFits x.0 × (AnyKind x.1.0 × (NumberFits x.1.1.0 × NumberFits x.1.1.1))

entry_fields : Laws entry_put (both number_at (both kind_at (both number_at number_at))) EntryPartsFit
entry_fields = both_laws number number_at NumberFits (λ (x : KindTag × (ℕ × ℕ)). kind x.0 ++ (number x.1.0 ++ number x.1.1)) (both kind_at (both number_at number_at)) (λ x. AnyKind x.0 × (NumberFits x.1.0 × NumberFits x.1.1)) number_laws
    (both_laws kind kind_at AnyKind (λ (x : ℕ × ℕ). number x.0 ++ number x.1) (both number_at number_at) (λ x. NumberFits x.0 × NumberFits x.1) kind_laws (both_laws number number_at NumberFits number number_at NumberFits number_laws number_laws))

pub entry_laws : Laws entry entry_at EntryFits
unfolding entry_at
entry_laws = record {
  takes = made_takes entry_of entry_put (both number_at (both kind_at (both number_at number_at))) EntryPartsFit entry_fields entry EntryFits (λ x. refl) (λ x h. h);
  again = λ e rest fits. made_again entry_of entry_put (both number_at (both kind_at (both number_at number_at))) EntryPartsFit entry_fields (e.place, (e.kind, (e.dependency, e.ordinal))) rest fits;
}
