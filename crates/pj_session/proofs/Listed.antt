-- Lists that an index of an image has, as they grow.
use Rattle.std.proofs.Common.{◌≡◌, ℕ, suc, ◌+◌, ◌<◌, ◌≤◌, Bool, true, false, cond, List, [], ◌∷◌, ◌++◌, take, replicate, length, position, Option, Some, None, slice_get, slice_index_or, refl, sym, ap, ◌∙◌, arith}
use Rattle.std.specs.Prelude.{◌-◌, nat_lt, option_map, option_and_then}
use Rattle.std.specs.List.{position_from}
use Rattle.std.proofs.lemmas.Bool.Decides.{nat_tests}
use Rattle.std.proofs.Math.Seq.{take-suc}
use Rattle.std.proofs.lemmas.List.{take_all, get_or_past, length-take-le, length-replicate, get_or-replicate}
use Rattle.std.proofs.lemmas.Option.{unwrap_or-slice_get}
use Rattle.std.proofs.lemmas.Iterator.Adapters.{position_from-zero}
use Rattle.pj_base.specs.Interned.{found_at}
use Rattle.pj_meaning.specs.Tree.{Text}
use Rattle.pj_reloc.specs.declared.entry.Entry.{Entry}
use Rattle.pj_parts.specs.declared.types.Value.{out-Value}
use Rattle.pj_parts.specs.declared.types.Method.{Method}
use Rattle.pj_image.specs.declared.image.Image.{Image}
use Rattle.pj_image.specs.Formed.{Formed}
use Rattle.pj_content.specs.Content.{content_of}
use Rattle.pj_content.specs.Misfit.{misfit}
use Rattle.pj_session.specs.Things.{Thing, Calls, Holds, thing_of}
use Rattle.pj_session.specs.Indexed.{names_in_image, is_of_place, method_place, parts_at, whole_of, thing_in_place, thing_by_list, noted, MethodList, a_name_of_a_file_is_found_by_its_lists}
use Rattle.pj_session.proofs.Indexed.{merely_readable, place_law, thing_law}

-- places of methods

push_from : {A : Type 0} → (p : A → Bool) (xs : List A) (y : A) (n : ℕ) → position_from p n (xs ++ y ∷ []) ≡ noted (n + length xs) (p y) (position_from p n xs)
push_from p [] y n = let same : n ≡ n + 0 = omega arith in ap (λ (k : ℕ). cond (p y) (Some k) None) same
push_from {A} p (x ∷ xs) y n = by (push_from p xs y (n + 1)) (p x)
  where
    by : position_from p (n + 1) (xs ++ y ∷ []) ≡ noted ((n + 1) + length xs) (p y) (position_from p (n + 1) xs)
        → (b : Bool) → cond b (Some n) (position_from p (n + 1) (xs ++ y ∷ [])) ≡ noted (n + suc (length xs)) (p y) (cond b (Some n) (position_from p (n + 1) xs))
    by rest true = refl
    by rest false = let same : (n + 1) + length xs ≡ n + suc (length xs) = omega arith in rest ∙ ap (λ (k : ℕ). noted k (p y) (position_from p (n + 1) xs)) same

push : {A : Type 0} → (p : A → Bool) (xs : List A) (y : A) → position p (xs ++ y ∷ []) ≡ noted (length xs) (p y) (position p xs)
push p xs y =
    let same : 0 + length xs ≡ length xs = omega arith in
    position_from-zero p (xs ++ y ∷ []) ∙ push_from p xs y 0 ∙ ap (λ (k : ℕ). noted k (p y) (position_from p 0 xs)) same ∙ ap (noted (length xs) (p y)) (sym (position_from-zero p xs))

-- what is noted behind these methods
pub record Noted (entries : List Entry) (functions : ℕ) (seen : List Method) (list : List (Option ℕ)) : Type 0 where
  pub many : length list ≡ functions
  pub each : (place : ℕ) → place < functions → slice_index_or list place None ≡ position (λ m. is_of_place place (slice_get entries m.fun)) seen

-- what is like nothing is nothing
pub only_none : (P : Option ℕ → Type 0) → ((n : ℕ) → P (Some n) → ⊥) → (y : Option ℕ) → P y → y ≡ None
only_none P wrong None h = refl
only_none P wrong (Some n) h = absurd (wrong n h)

pub start : (entries : List Entry) (functions : ℕ) (list : List (Option ℕ)) → list ≡ replicate functions None → Noted entries functions [] list
start entries functions list is = rw is (record { many = length-replicate functions None; each = λ place lt. get_or-replicate functions place None None lt })

pub next : (entries : List Entry) (functions : ℕ) (methods : List Method) (n : ℕ) (d : Method) (old new : List (Option ℕ)) → n < length methods → length new ≡ length old
    → ((place : ℕ) → place < length old → slice_index_or new place None ≡ noted n (is_of_place place (slice_get entries (slice_index_or methods n d).fun)) (slice_index_or old place None))
    → Noted entries functions (take n methods) old → Noted entries functions (take (n + 1) methods) new
next entries functions methods n d old new lt same step sofar =
    let m = slice_index_or methods n d in
    let cut : take (n + 1) methods ≡ take n methods ++ slice_index_or methods n d ∷ [] = ap (λ (k : ℕ). take k methods) (let e : n + 1 ≡ suc n = omega arith in e) ∙ take-suc methods n d lt in
    let many : length (take n methods) ≡ n = length-take-le n methods (omega arith) in
    record {
      many = same ∙ sofar.many;
      each = λ place within.
          step place (rw sofar.many within)
          ∙ ap (noted n (is_of_place place (slice_get entries m.fun))) (sofar.each place within)
          ∙ ap (λ (k : ℕ). noted k (is_of_place place (slice_get entries m.fun)) (position (λ (x : Method). is_of_place place (slice_get entries x.fun)) (take n methods))) (sym many)
          ∙ sym (push (λ (x : Method). is_of_place place (slice_get entries x.fun)) (take n methods) m)
          ∙ ap (λ (l : List Method). position (λ (x : Method). is_of_place place (slice_get entries x.fun)) l) (sym cut);
    }

pub ends : (i : Image) (n : ℕ) (list : List (Option ℕ)) → length i.methods ≤ n → Noted i.entries (length i.functions) (take n i.methods) list → MethodList i list
ends i n list h sofar =
    let all = take_all n i.methods h in
    record { many = sofar.many; each = λ place lt. sofar.each place lt ∙ ap (λ (l : List Method). position (λ (x : Method). is_of_place place (slice_get i.entries x.fun)) l) all }

-- strings

pub no_string : (strings : List Text) (n : ℕ) → slice_get strings n ≡ None → slice_index_or strings n [] ≡ []
no_string strings n h = sym (unwrap_or-slice_get strings n []) ∙ rw h refl

-- lookups

listed : (i : Image) (methods : List (Option ℕ)) → MethodList i methods → (place : Option ℕ) → option_and_then (thing_in_place i) place ≡ option_and_then (thing_by_list i methods) place
listed i methods lists None = refl
listed i methods lists (Some n) = by (nat_lt n (length i.functions)) refl
  where
    other : Option Thing
    other = option_map (λ b. Holds (whole_of (out-Value b.value))) (slice_get i.bindings (n - length i.functions))

    by : (b : Bool) → nat_lt n (length i.functions) ≡ b
        → cond b (Some (Calls (parts_at i (method_place i n)))) other ≡ cond b (Some (Calls (parts_at i (slice_index_or methods n None)))) other
    by true e = let less : n < length i.functions = grind (arith, nat_tests) in ap (λ (k : Option ℕ). Some (Calls (parts_at i k))) (sym (lists.each n less))
    by false e = refl

pub lists_law : a_name_of_a_file_is_found_by_its_lists
lists_law i formed fits methods lists name = place_law i formed fits name ∙ listed i methods lists (found_at name (names_in_image i))

pub by_lists : (i : Image) (methods : List (Option ℕ)) (name : Text) (result : Option Thing) → result ≡ option_and_then (thing_by_list i methods) (found_at name (names_in_image i))
    → MethodList i methods → ∥ Formed i ∥₁ → misfit i ≡ None → result ≡ thing_of (content_of i) name
by_lists i methods name result is lists formed fits =
    is ∙ sym (thing_law i (merely_readable i formed) fits name ∙ listed i methods lists (found_at name (names_in_image i)))

-- nothing is noted behind the end
pub past_end : (methods : List (Option ℕ)) (n : ℕ) → length methods ≤ n → slice_index_or methods n None ≡ None
past_end methods n h = get_or_past methods n None h
