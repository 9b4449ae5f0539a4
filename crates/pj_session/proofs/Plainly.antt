-- What makes a content plain, from facts on its parts.
use Rattle.std.proofs.Common.{◌≡◌, ℕ, zero, suc, ◌==◌, nat_le, true, false, not, ◌&&◌, ◌||◌, List, [], ◌∷◌, None, map, length, refl, sym, ap, subst, ◌∙◌}
use Rattle.std.specs.Prelude.{replicate}
use Rattle.std.specs.List.{list_any, list_all}
use Rattle.std.specs.Char.{is_ascii_alphanumeric, is_ascii_uppercase}
use Rattle.std.specs.Str.{bytes_eq}
use Rattle.pj_meaning.specs.Tree.{Text, body, step, end, Value, Expr}
use Rattle.pj_meaning.specs.Names.{base_name, main_name, int_type}
use Rattle.pj_meaning.specs.Content.{Made, Content}
use Rattle.pj_plain.specs.Names.{is_among, all_different}
use Rattle.pj_plain.specs.Plain.{plain_expr}
use Rattle.pj_words.specs.Words.{first_is, is_package_name}
use Rattle.pj_words.specs.Words as words
use Rattle.pj_session.specs.Events.{Parts, ints, body_of, parts_of}
use Rattle.pj_session.specs.Things.{made_for}
use Rattle.pj_session.specs.Good.{PlainMade, PlainParts}
use Rattle.pj_session.proofs.Texts.{bytes_eq-comm, and_left, and_right, or_left, or_right, not_true}

-- a package is neither Base nor Main

neither : (name : Text) → is_package_name name ≡ true → list_any (bytes_eq name) (base_name ∷ main_name ∷ []) ≡ false
unfolding is_package_name words.is_among
neither name is =
    let short = (first_is is_ascii_uppercase name && list_all (λ c. is_ascii_alphanumeric c || (c == 95)) name) && nat_le (length name) 64 in
    not_true (list_any (bytes_eq name) (base_name ∷ main_name ∷ [])) (and_right short (not (list_any (bytes_eq name) (base_name ∷ main_name ∷ []))) is)

pub not_named_base : (name : Text) → is_package_name name ≡ true → bytes_eq name base_name ≡ false
not_named_base name is = or_left (bytes_eq name base_name) _ (neither name is)

pub not_named_main : (name : Text) → is_package_name name ≡ true → bytes_eq main_name name ≡ false
not_named_main name is = bytes_eq-comm main_name name ∙ or_left (bytes_eq name main_name) _ (or_right (bytes_eq name base_name) _ (neither name is))

-- a method

same_ints : (n : ℕ) → replicate n int_type ≡ ints n
same_ints zero = refl
same_ints (suc n) = ap (λ ts. int_type ∷ ts) (same_ints n)

pub has_it : (fs : List Text) (name : Text) → is_among name fs ≡ true → list_any (λ f. bytes_eq f name) fs ≡ true
has_it fs name is = sym (alike fs) ∙ is
  where
    alike : (gs : List Text) → list_any (bytes_eq name) gs ≡ list_any (λ f. bytes_eq f name) gs
    alike [] = refl
    alike (g ∷ gs) = ap (λ b. b || list_any (bytes_eq name) gs) (bytes_eq-comm name g) ∙ ap (λ b. bytes_eq g name || b) (alike gs)

pub made_plain : (c : Content) (m : Made) (params : List Text) (value : Expr) → m.fun.home ≡ c.name → is_among m.fun.name c.functions ≡ true
    → m.signature ≡ replicate (length m.signature) int_type → m.code ≡ body params [] (step (Value value) end) → length params ≡ length m.signature → plain_expr params value ≡ true
    → PlainMade c m
made_plain c m params value home own typed code many plain =
    let parts : parts_of m.code ≡ (params, value) = ap parts_of code in
    record {
      home = home;
      own = has_it c.functions m.fun.name own;
      code = code ∙ ap body_of (sym parts);
      signature = typed ∙ same_ints (length m.signature) ∙ ap ints (sym many) ∙ ap (λ (d : Parts). ints (length d.0)) (sym parts);
      plain = subst PlainParts (sym parts) plain;
    }

-- no other method of its function, where the methods' functions differ
pub none_made : (name : Text) (ms : List Made) → is_among name (map (λ (m : Made). m.fun.name) ms) ≡ false → made_for name ms ≡ None
none_made name [] none = refl
none_made name (m ∷ ms) none =
    rw (bytes_eq-comm m.fun.name name ∙ or_left (bytes_eq name m.fun.name) _ none) (none_made name ms (or_right (bytes_eq name m.fun.name) _ none))

pub first_differs : (m : Made) (ms : List Made) → all_different (map (λ (x : Made). x.fun.name) (m ∷ ms)) ≡ true
    → (made_for m.fun.name ms ≡ None) × (all_different (map (λ (x : Made). x.fun.name) ms) ≡ true)
first_differs m ms differ = (
  none_made m.fun.name ms (not_true (is_among m.fun.name (map (λ (x : Made). x.fun.name) ms)) (and_left _ _ differ)),
  and_right (not (is_among m.fun.name (map (λ (x : Made). x.fun.name) ms))) _ differ,
)
