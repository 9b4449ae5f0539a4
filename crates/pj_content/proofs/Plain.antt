-- A formed image without a misfit has a plain content.
use Rattle.std.proofs.Common.{◌≡◌, ℕ, true, List, [], ◌∷◌, ◌++◌, map, length, Option, Some, None, refl, sym, ap, subst, slice_index_or}
use Rattle.std.specs.Prelude.{is_some, option_and_then}
use Rattle.std.specs.List.{list_all, AllByRecursion}
use Rattle.std.proofs.lemmas.List.{length-map}
use Rattle.pj_meaning.specs.Tree.{Text}
use Rattle.pj_plain.specs.Names.{all_different}
use Rattle.pj_parts.specs.declared.types.FunDef.{FunDef}
use Rattle.pj_parts.specs.declared.types.BindingForm.{BindingForm}
use Rattle.pj_parts.specs.declared.types.BindingForm.TheVariants as forms
use Rattle.pj_parts.specs.declared.types.Binding.{Binding}
use Rattle.pj_parts.specs.declared.types.Value.{Value, out-Value}
use Rattle.pj_parts.specs.declared.types.Value.TheOpen.{Value-F}
use Rattle.pj_parts.specs.Fits.{BindingFits, ValueNodeFits}
use Rattle.pj_image.specs.declared.image.Image.{Image}
use Rattle.pj_image.specs.File.{function_number, binding_number}
use Rattle.pj_image.specs.Names.{bindable, all_seen}
use Rattle.pj_image.specs.New.{all_new}
use Rattle.pj_image.specs.Formed.{Formed, names_of}
use Rattle.pj_content.specs.Content.{strings_in, functions_of, value_in, role_of, binding_of, content_of}
use Rattle.pj_content.specs.Misfit.{tables, methods_misfit, misfit}
use Rattle.pj_content.specs.Plainly.{PlainBinding, Plainly, holds_whole, names_in}
use Rattle.pj_content.proofs.Names.{SeenAll, seen_all, different, new_append, good_append}
use Rattle.pj_content.proofs.Methods.{plain_methods, single_methods}

-- ---- names

pub record Named (functions bindings : List Text) : Type 0 where
  pub first : all_different functions ≡ true
  pub all : all_different (functions ++ bindings) ≡ true
  pub free : list_all bindable (functions ++ bindings) ≡ true

both_named : (functions bindings seen all : List Text) → SeenAll bindable [] functions seen → SeenAll bindable seen bindings all → Named functions bindings
both_named functions bindings seen all f b =
    let behind : all_new functions bindings ≡ true = subst (λ (l : List Text). all_new l bindings ≡ true) f.whole b.new in
    record {
      first = different functions [] f.new;
      all = different (functions ++ bindings) [] (new_append functions bindings [] f.new behind);
      free = good_append bindable functions bindings f.pass b.pass;
    }

found_number : (strings : List Text) (m n : ℕ) → Some m ≡ Some n → slice_index_or strings m [] ≡ slice_index_or strings n []
found_number strings m n e = let same : m ≡ n = cc in ap (λ (k : ℕ). slice_index_or strings k []) same

names_of_bindings : (i : Image) (seen : List Text) (all : Option (List Text)) → SeenAll bindable [] (functions_of i) seen → all_seen bindable i.strings seen (map binding_number i.bindings) ≡ all → is_some all ≡ true
    → Named (functions_of i) (map (λ b. strings_in i.strings b.name) i.bindings)
names_of_bindings i seen None f e h = absurd cc
names_of_bindings i seen (Some all) f e h =
    let view : Binding → Text = λ b. strings_in i.strings b.name in
    let b = seen_all bindable i.strings binding_number view (λ b n is. found_number i.strings b.name n is) i.bindings seen all e in
    both_named (functions_of i) (map view i.bindings) seen all f b

names_of_functions : (i : Image) (seen : Option (List Text)) → all_seen bindable i.strings [] (map function_number i.functions) ≡ seen → is_some (option_and_then (λ names. all_seen bindable i.strings names (map binding_number i.bindings)) seen) ≡ true
    → Named (functions_of i) (map (λ b. strings_in i.strings b.name) i.bindings)
names_of_functions i None e h = absurd cc
names_of_functions i (Some seen) e h =
    let view : FunDef → Text = λ f. strings_in i.strings f.name in
    let f = seen_all bindable i.strings function_number view (λ f n is. found_number i.strings f.name n is) i.functions [] seen e in
    names_of_bindings i seen (all_seen bindable i.strings seen (map binding_number i.bindings)) f refl h

pub named_by : (i : Image) → is_some (names_of i) ≡ true → Named (functions_of i) (map (λ b. strings_in i.strings b.name) i.bindings)
named_by i h = names_of_functions i (all_seen bindable i.strings [] (map function_number i.functions)) refl h

binding_texts : (i : Image) (bs : List Binding) → map (λ b. b.name) (map (binding_of i) bs) ≡ map (λ b. strings_in i.strings b.name) bs
binding_texts i [] = refl
binding_texts i (b ∷ bs) = ap (λ (l : List Text). strings_in i.strings b.name ∷ l) (binding_texts i bs)

-- ---- bindings

whole_value : (form : BindingForm) (x : Value-F Value) → ValueNodeFits x → holds_whole (role_of form (value_in x)) ≡ true
whole_value form Value-F.Nothing h = absurd h
whole_value form Value-F.False h = absurd h
whole_value form Value-F.True h = absurd h
whole_value forms.Const (Value-F.Int z) h = refl
whole_value forms.Global (Value-F.Int z) h = refl
whole_value form (Value-F.Str text) h = absurd h
whole_value form (Value-F.Fun fun) h = absurd h
whole_value form (Value-F.Object object) h = absurd h
whole_value form (Value-F.Struct declared fields) h = absurd h

pub plain_bindings : (i : Image) (bs : List Binding) → AllByRecursion BindingFits bs → AllByRecursion (PlainBinding i.head.name) (map (binding_of i) bs)
plain_bindings i [] h = tt
plain_bindings i (b ∷ bs) h = (record { home = refl; whole = whole_value b.form (out-Value b.value) h.0.1.1 }, plain_bindings i bs h.1)

-- ---- all of it

pub plainly : (i : Image) → Formed i → misfit i ≡ None → Plainly (content_of i)
plainly i formed none =
    let names = named_by i formed.names in
    let many : length (functions_of i) ≡ length i.functions = length-map i.functions (λ f. strings_in i.strings f.name) in
    let fits : methods_misfit i.entries (tables (length (functions_of i))) [] i.methods ≡ None = subst (λ (n : ℕ). methods_misfit i.entries (tables n) [] i.methods ≡ None) (sym many) none in
    let texts : names_in (content_of i) ≡ functions_of i ++ map (λ b. strings_in i.strings b.name) i.bindings = ap (λ (l : List Text). functions_of i ++ l) (binding_texts i i.bindings) in
    record {
      named = formed.named;
      types = refl;
      objects = refl;
      wanted = refl;
      methods = plain_methods i i.methods [] formed.plain formed.fine fits;
      single = single_methods i i.methods [] names.first fits;
      bindings = plain_bindings i i.bindings formed.bindings.0.1;
      different = subst (λ (l : List Text). all_different l ≡ true) (sym texts) names.all;
      free = subst (λ (l : List Text). list_all bindable l ≡ true) (sym texts) names.free;
    }
