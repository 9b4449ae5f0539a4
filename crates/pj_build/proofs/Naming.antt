-- The names that an image declares are different, and may be bound.
use Rattle.std.proofs.Common.{◌≡◌, ℕ, zero, suc, Bool, true, false, List, [], ◌∷◌, ◌++◌, map, length, Option, Some, None, is_some, option_and_then, refl, sym, ap, subst, ◌∙◌, append_assoc, append-nil, slice_get, slice_index_or, arith}
use Rattle.std.specs.Prelude.{⊤, if◌then◌else◌}
use Rattle.std.proofs.lemmas.Str.{chars-nil}
use Rattle.std.specs.List.{list_all, zip}
use Rattle.std.specs.Str.{bytes_eq}
use Rattle.std.proofs.lemmas.Slice.Eq.{bytes_eq-Decides}
use Rattle.pj_base.specs.Interned.{has_text}
use Rattle.pj_words.specs.Words.{is_identifier, is_base_name}
use Rattle.pj_meaning.specs.Tree.{Text}
use Rattle.pj_meaning.specs.State as state
use Rattle.pj_tree.specs.Reads.{Strings}
use Rattle.pj_parts.specs.declared.types.FunDef.{FunDef}
use Rattle.pj_parts.specs.declared.types.Binding.{Binding}
use Rattle.pj_image.specs.declared.image.Image.{Image}
use Rattle.pj_image.specs.File.{function_number, binding_number}
use Rattle.pj_image.specs.Formed.{names_of}
use Rattle.pj_image.specs.Names.{bindable, name_seen, all_seen}
use Rattle.pj_content.specs.Content.{strings_in}
use Rattle.pj_plain.proofs.Bools.{both_true}
use Rattle.pj_session.specs.Good.{Good, GoodEvents}
use Rattle.pj_session.specs.Things.{Thing, Calls, Holds, own_in}
use Rattle.pj_session.specs.declared.own.Own.{Own}
use Rattle.pj_session.specs.declared.own.Own.TheVariants as own
use Rattle.pj_build.specs.Own.{Named, parts_of, own_event, own_events, functions_in, constants_in}
use Rattle.pj_build.specs.Sections.{binding_in}
use Rattle.pj_build.specs.Built.{Declares}
use Rattle.pj_build.proofs.Declared.{begins_all}
use Rattle.pj_build.proofs.Growing.{both}

-- ---- texts that differ

abbrev pub Other : Text → Text → Type 0
Other t u = t ≡ u → ⊥

-- a text that is none of these
abbrev pub Fresh : Text → List Text → Type 0
Fresh t [] = ⊤
Fresh t (u ∷ us) = Other t u × Fresh t us

-- texts that are none of these
abbrev pub AllFresh : List Text → List Text → Type 0
AllFresh [] seen = ⊤
AllFresh (t ∷ ts) seen = Fresh t seen × AllFresh ts seen

-- different texts
abbrev pub Apart : List Text → Type 0
Apart [] = ⊤
Apart (t ∷ ts) = Fresh t ts × Apart ts

pub not_true : (b : Bool) → (b ≡ true → ⊥) → b ≡ false
not_true true h = absurd (h refl)
not_true false h = refl

fresh_tested : (t : Text) (us : List Text) → Fresh t us → has_text t us ≡ false
fresh_tested t [] h = refl
fresh_tested t (u ∷ us) h = rw (not_true (bytes_eq t u) (λ e. h.0 ((bytes_eq-Decides t u).0 e)), fresh_tested t us h.1) refl

fresh_push : (t u : Text) (us : List Text) → Fresh t us → Other t u → Fresh t (us ++ u ∷ [])
fresh_push t u [] h o = (o, tt)
fresh_push t u (x ∷ us) h o = (h.0, fresh_push t u us h.1 o)

-- the next is none of the others behind it
all_push : (t : Text) (ts seen : List Text) → AllFresh ts seen → Fresh t ts → AllFresh ts (seen ++ t ∷ [])
all_push t [] seen h f = tt
all_push t (u ∷ us) seen h f = (fresh_push u t seen h.0 (λ e. f.0 (sym e)), all_push t us seen h.1 f.1)

-- ---- names that are seen

abbrev pub string_at : List Text → Option ℕ → Option Text
string_at strings number = option_and_then (λ n. slice_get strings n) number

seen_one : (good : Text → Bool) (strings seen : List Text) (number : Option ℕ) (t : Text) → string_at strings number ≡ Some t → good t ≡ true → has_text t seen ≡ false → name_seen good strings seen number ≡ Some (seen ++ t ∷ [])
seen_one good strings seen number t h g new = rw (h, g, new) refl

-- names that are all there, pass and are new
pub all_there : {A : Type 0} (number : A → Option ℕ) (good : Text → Bool) (strings : List Text) (xs : List A) (ts seen : List Text)
    → map (λ x. option_and_then (λ n. slice_get strings n) (number x)) xs ≡ map Some ts → list_all good ts ≡ true → AllFresh ts seen → Apart ts
    → all_seen good strings seen (map number xs) ≡ Some (seen ++ ts)
unfolding all_seen
all_there number good strings [] [] seen e g f a = ap Some (sym (append-nil seen))
all_there number good strings [] (t ∷ ts) seen e g f a = absurd cc
all_there number good strings (x ∷ xs) [] seen e g f a = absurd cc
all_there number good strings (x ∷ xs) (t ∷ ts) seen e g f a =
    let first : string_at strings (number x) ≡ Some t = cc in
    let rest : map (λ y. option_and_then (λ n. slice_get strings n) (number y)) xs ≡ map Some ts = cc in
    let good_all = both_true (good t) (list_all good ts) g in
    ap (λ more. option_and_then (λ l. all_seen good strings l (map number xs)) more) (seen_one good strings seen (number x) t first good_all.0 (fresh_tested t seen f.0))
    ∙ all_there number good strings xs ts (seen ++ t ∷ []) rest good_all.1 (all_push t ts seen f.1 a.0) a.1
    ∙ ap Some (append_assoc seen (t ∷ []) ts)

pub got_there : (texts : List Text) (n : ℕ) (t : Text) → slice_index_or texts n [] ≡ t → (t ≡ [] → ⊥) → slice_get texts n ≡ Some t
got_there [] n t e some = absurd (some (sym e))
got_there (x ∷ texts) zero t e some = ap Some e
got_there (x ∷ texts) (suc n) t e some = got_there texts n t e some

-- no text that passes is empty
pub has_bytes : (good : Text → Bool) → good [] ≡ false → (t : Text) → good t ≡ true → t ≡ [] → ⊥
has_bytes good bad t passing none = let passing_too : good [] ≡ true = subst (λ u. good u ≡ true) none passing in absurd cc

-- texts that pass are read at numbers of strings
each_there : {A : Type 0} (number : A → ℕ) (good : Text → Bool) (strings : List Text) → good [] ≡ false → (xs : List A) (ts : List Text) → map (λ x. slice_index_or strings (number x) []) xs ≡ ts → list_all good ts ≡ true
    → map (λ x. slice_get strings (number x)) xs ≡ map Some ts
each_there number good strings bad [] [] e g = refl
each_there number good strings bad [] (t ∷ ts) e g = absurd cc
each_there number good strings bad (x ∷ xs) [] e g = absurd cc
each_there number good strings bad (x ∷ xs) (t ∷ ts) e g =
    let first : slice_index_or strings (number x) [] ≡ t = cc in
    let rest : map (λ y. slice_index_or strings (number y) []) xs ≡ ts = cc in
    let good_all = both_true (good t) (list_all good ts) g in
    let here : slice_get strings (number x) ≡ Some t = got_there strings (number x) t first (has_bytes good bad t good_all.0) in
    rw (here, each_there number good strings bad xs ts rest good_all.1) refl

-- ---- the names of a package's things

abbrev pub constant_names : Named → List Text
constant_names [] = []
constant_names ((name, own.Function d) ∷ ps) = constant_names ps
constant_names ((name, own.Constant z) ∷ ps) = name ∷ constant_names ps

abbrev pub keys : Named → List Text
keys [] = []
keys (p ∷ ps) = p.0 ∷ keys ps

fresh_functions : (t : Text) (ps : Named) → Fresh t (keys ps) → Fresh t (functions_in ps)
fresh_functions t [] h = h
fresh_functions t ((name, own.Function d) ∷ ps) h = (h.0, fresh_functions t ps h.1)
fresh_functions t ((name, own.Constant z) ∷ ps) h = fresh_functions t ps h.1

fresh_constants : (t : Text) (ps : Named) → Fresh t (keys ps) → Fresh t (constant_names ps)
fresh_constants t [] h = h
fresh_constants t ((name, own.Function d) ∷ ps) h = fresh_constants t ps h.1
fresh_constants t ((name, own.Constant z) ∷ ps) h = (h.0, fresh_constants t ps h.1)

apart_functions : (ps : Named) → Apart (keys ps) → Apart (functions_in ps)
apart_functions [] h = h
apart_functions ((name, own.Function d) ∷ ps) h = (fresh_functions name ps h.0, apart_functions ps h.1)
apart_functions ((name, own.Constant z) ∷ ps) h = apart_functions ps h.1

apart_constants : (ps : Named) → Apart (keys ps) → Apart (constant_names ps)
apart_constants [] h = h
apart_constants ((name, own.Function d) ∷ ps) h = apart_constants ps h.1
apart_constants ((name, own.Constant z) ∷ ps) h = (fresh_constants name ps h.0, apart_constants ps h.1)

all_before : (t : Text) (ts seen : List Text) → AllFresh ts seen → Fresh t ts → AllFresh ts (t ∷ seen)
all_before t [] seen h f = tt
all_before t (u ∷ us) seen h f = ((λ e. f.0 (sym e), h.0), all_before t us seen h.1 f.1)

pub none_fresh : (ts : List Text) → AllFresh ts []
none_fresh [] = tt
none_fresh (t ∷ ts) = (tt, none_fresh ts)

-- no constant has the name of a function
between : (ps : Named) → Apart (keys ps) → AllFresh (constant_names ps) (functions_in ps)
between [] h = tt
between ((name, own.Function d) ∷ ps) h = all_before name (constant_names ps) (functions_in ps) (between ps h.1) (fresh_constants name ps h.0)
between ((name, own.Constant z) ∷ ps) h = (fresh_functions name ps h.0, between ps h.1)

pub test_functions : (good : Text → Bool) (ps : Named) → list_all good (keys ps) ≡ true → list_all good (functions_in ps) ≡ true
test_functions good [] h = refl
test_functions good ((name, own.Function d) ∷ ps) h = let two = both_true (good name) (list_all good (keys ps)) h in both (good name) (list_all good (functions_in ps)) two.0 (test_functions good ps two.1)
test_functions good ((name, own.Constant z) ∷ ps) h = let two = both_true (good name) (list_all good (keys ps)) h in test_functions good ps two.1

test_constants : (good : Text → Bool) (ps : Named) → list_all good (keys ps) ≡ true → list_all good (constant_names ps) ≡ true
test_constants good [] h = refl
test_constants good ((name, own.Function d) ∷ ps) h = let two = both_true (good name) (list_all good (keys ps)) h in test_constants good ps two.1
test_constants good ((name, own.Constant z) ∷ ps) h = let two = both_true (good name) (list_all good (keys ps)) h in both (good name) (list_all good (constant_names ps)) two.0 (test_constants good ps two.1)

-- ---- from what is good

other_first : {P : Type 0} (name t : Text) (thing rest : Option Thing) (b : Bool) → bytes_eq name t ≡ b → (if b then thing else rest) ≡ None → (thing ≡ None → ⊥) → (rest ≡ None → P) → Other t name × P
other_first name t thing rest true e h some f = absurd (some h)
other_first name t thing rest false e h some f = (λ same. let equal = (bytes_eq-Decides name t).1 (sym same) in absurd cc, f h)

-- a name that nothing has behind it
fresh_behind : (t : Text) (ps : Named) → own_in (map (λ p. own_event p.0 p.1) ps) t ≡ None → Fresh t (keys ps)
fresh_behind t [] h = tt
fresh_behind t ((name, own.Function d) ∷ ps) h = other_first name t (Some (Calls (Some (parts_of d)))) (own_in (map (λ p. own_event p.0 p.1) ps) t) (bytes_eq name t) refl h (λ e. absurd cc) (fresh_behind t ps)
fresh_behind t ((name, own.Constant z) ∷ ps) h = other_first name t (Some (Holds z)) (own_in (map (λ p. own_event p.0 p.1) ps) t) (bytes_eq name t) refl h (λ e. absurd cc) (fresh_behind t ps)

apart_keys : (here : Text) (ps : Named) → GoodEvents here (map (λ p. own_event p.0 p.1) ps) → Apart (keys ps)
apart_keys here [] g = tt
apart_keys here ((name, own.Function d) ∷ ps) g = (fresh_behind name ps g.1.0, apart_keys here ps g.1.1)
apart_keys here ((name, own.Constant z) ∷ ps) g = (fresh_behind name ps g.1.0, apart_keys here ps g.1.1)

pub can_bind : (name : Text) → is_identifier name ≡ true → is_base_name name ≡ false → bindable name ≡ true
can_bind name a b = rw (a, b) refl

bindable_keys : (here : Text) (ps : Named) → GoodEvents here (map (λ p. own_event p.0 p.1) ps) → list_all is_identifier (keys ps) ≡ true → list_all bindable (keys ps) ≡ true
bindable_keys here [] g h = refl
bindable_keys here ((name, own.Function d) ∷ ps) g h =
    let two = both_true (is_identifier name) (list_all is_identifier (keys ps)) h in
    both (bindable name) (list_all bindable (keys ps)) (can_bind name two.0 g.0.free) (bindable_keys here ps g.1.1 two.1)
bindable_keys here ((name, own.Constant z) ∷ ps) g h =
    let two = both_true (is_identifier name) (list_all is_identifier (keys ps)) h in
    both (bindable name) (list_all bindable (keys ps)) (can_bind name two.0 g.0) (bindable_keys here ps g.1.1 two.1)

keys_zip : (names : List Text) (things : List Own) → length names ≡ length things → keys (zip names things) ≡ names
keys_zip [] [] e = refl
keys_zip [] (o ∷ os) e = absurd (omega arith)
keys_zip (n ∷ ns) [] e = absurd (omega arith)
keys_zip (n ∷ ns) (o ∷ os) e = ap (λ (l : List Text). n ∷ l) (keys_zip ns os (omega arith))

pub no_identifier : is_identifier [] ≡ false
unfolding is_identifier
no_identifier = rw chars-nil refl

nothing_bound : bindable [] ≡ false
nothing_bound = rw no_identifier refl

-- ---- the names of bindings

names_read : (home : Text) (all : Strings) (bs : List Binding) → map (λ (c : state.Binding). c.name) (map (binding_in home all) bs) ≡ map (λ (b : Binding). all b.name) bs
names_read home all [] = refl
names_read home all (b ∷ bs) = ap (λ (l : List Text). all b.name ∷ l) (names_read home all bs)

names_meant : (home : Text) (ps : Named) → map (λ (c : state.Binding). c.name) (constants_in home ps) ≡ constant_names ps
names_meant home [] = refl
names_meant home ((name, own.Function d) ∷ ps) = names_meant home ps
names_meant home ((name, own.Constant z) ∷ ps) = ap (λ (l : List Text). name ∷ l) (names_meant home ps)

-- ---- the whole

pub built_names : (name : Text) (names : List Text) (things : List Own) (i : Image) → length names ≡ length things → Good name (own_events names things) → list_all is_identifier names ≡ true → Declares name names things i → is_some (names_of i) ≡ true
built_names name names things i each good ids d =
    let ps = zip names things in
    let all = strings_in i.strings in
    let ids_keys : list_all is_identifier (keys ps) ≡ true = subst (λ l. list_all is_identifier l ≡ true) (sym (keys_zip names things each)) ids in
    let apart = apart_keys name ps good.each in
    let can = bindable_keys name ps good.each ids_keys in
    let functions_can = test_functions bindable ps can in
    let constants_can = test_constants bindable ps can in
    let functions_are : map (λ (f : FunDef). all f.name) i.functions ≡ functions_in ps = d.functions.means all (begins_all i.strings) in
    let constants_are : map (λ (b : Binding). all b.name) i.bindings ≡ constant_names ps =
    sym (names_read name all i.bindings) ∙ ap (λ (l : List state.Binding). map (λ (c : state.Binding). c.name) l) (d.bindings.means name all (begins_all i.strings)) ∙ names_meant name ps in
    let first : all_seen bindable i.strings [] (map function_number i.functions) ≡ Some (functions_in ps) =
    all_there function_number bindable i.strings i.functions (functions_in ps) [] (each_there (λ (f : FunDef). f.name) bindable i.strings nothing_bound i.functions (functions_in ps) functions_are functions_can) functions_can (none_fresh (functions_in ps)) (apart_functions ps apart) in
    let second : all_seen bindable i.strings (functions_in ps) (map binding_number i.bindings) ≡ Some (functions_in ps ++ constant_names ps) =
    all_there binding_number bindable i.strings i.bindings (constant_names ps) (functions_in ps) (each_there (λ (b : Binding). b.name) bindable i.strings nothing_bound i.bindings (constant_names ps) constants_are constants_can) constants_can (between ps apart) (apart_constants ps apart) in
    rw (first, second) refl
