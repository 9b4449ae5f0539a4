-- Names that are added one by one.
use Rattle.std.proofs.Common.{◌≡◌, Bool, true, false, cond, List, [], ◌∷◌, ◌++◌, length, take, refl, sym, ap, ◌∙◌, append_assoc}
use Rattle.std.proofs.Math.Seq.{take-append_seam}
use Rattle.std.proofs.lemmas.List.{append-nil}
use Rattle.pj_syntax.specs.declared.expression.Spot.{Spot}
use Rattle.pj_faults.specs.Located.{Text}
use Rattle.pj_faults.specs.Introduced.{is_among, with_name, with_names, new_names}

pub with_names-none : (names : List Text) → with_names names [] ≡ names
unfolding with_names
with_names-none names = refl

pub with_names-one : (names : List Text) (x : Spot) → with_names names (x ∷ []) ≡ with_name names x.text
unfolding with_names
with_names-one names x = refl

pub with_names-append : (names : List Text) (xs ys : List Spot) → with_names names (xs ++ ys) ≡ with_names (with_names names xs) ys
unfolding with_names
with_names-append names [] ys = refl
with_names-append names (x ∷ xs) ys = with_names-append (with_name names x.text) xs ys

new_by : (names : List Text) (x : Spot) (b : Bool) (rest more : List Spot) → cond b (rest ++ more) (x ∷ rest ++ more) ≡ cond b rest (x ∷ rest) ++ more
new_by names x true rest more = refl
new_by names x false rest more = refl

pub new_names-none : (names : List Text) → new_names names [] ≡ []
unfolding new_names
new_names-none names = refl

name_known : (names : List Text) (x : Text) (b : Bool) → is_among x names ≡ b → b ≡ true → with_name names x ≡ names
unfolding with_name
name_known names x b h k = rw (h, k) refl

first_new : (names : List Text) (x : Spot) (xs ys : List Spot) (b : Bool) → is_among x.text names ≡ b
    → (new_names names (xs ++ ys) ≡ new_names names xs ++ new_names (with_names names xs) ys)
    → (new_names (with_name names x.text) (xs ++ ys) ≡ new_names (with_name names x.text) xs ++ new_names (with_names (with_name names x.text) xs) ys)
    → cond b (new_names names (xs ++ ys)) (x ∷ new_names (with_name names x.text) (xs ++ ys))
    ≡ cond b (new_names names xs) (x ∷ new_names (with_name names x.text) xs) ++ new_names (with_names (with_name names x.text) xs) ys
first_new names x xs ys true h same other = same ∙ ap (λ ns. new_names names xs ++ new_names (with_names ns xs) ys) (sym (name_known names x.text true h refl))
first_new names x xs ys false h same other = ap (λ t. x ∷ t) other

pub new_names-append : (names : List Text) (xs ys : List Spot) → new_names names (xs ++ ys) ≡ new_names names xs ++ new_names (with_names names xs) ys
unfolding new_names with_names
new_names-append names [] ys = refl
new_names-append names (x ∷ xs) ys =
    first_new names x xs ys (is_among x.text names) refl (new_names-append names xs ys) (new_names-append (with_name names x.text) xs ys)

pub new_names-known : (names : List Text) (x : Spot) → is_among x.text names ≡ true → new_names names (x ∷ []) ≡ []
unfolding new_names
new_names-known names x h = rw h refl

pub new_names-new : (names : List Text) (x : Spot) → is_among x.text names ≡ false → new_names names (x ∷ []) ≡ x ∷ []
unfolding new_names
new_names-new names x h = rw h refl

-- what is added stands behind what was there
pub record Behind (names more : List Text) : Type 0 where
  pub rest : List Text
  pub whole : more ≡ names ++ rest

behind_by : (names : List Text) (x : Text) (b : Bool) → Behind names (cond b names (names ++ x ∷ []))
behind_by names x true = record { rest = []; whole = sym (append-nil names) }
behind_by names x false = record { rest = x ∷ []; whole = refl }

pub behind_one : (names : List Text) (x : Text) → Behind names (with_name names x)
unfolding with_name
behind_one names x = behind_by names x (is_among x names)

pub behind_further : (a b c : List Text) → Behind a b → Behind b c → Behind a c
behind_further a b c h k = record {
  rest = h.rest ++ k.rest;
  whole = k.whole ∙ (ap (λ t. t ++ k.rest) h.whole ∙ append_assoc a h.rest k.rest);
}

pub behind_all : (names : List Text) (xs : List Spot) → Behind names (with_names names xs)
unfolding with_names
behind_all names [] = record { rest = []; whole = sym (append-nil names) }
behind_all names (x ∷ xs) = behind_further names (with_name names x.text) (with_names (with_name names x.text) xs) (behind_one names x.text) (behind_all (with_name names x.text) xs)

pub take_behind : (a b : List Text) → Behind a b → take (length a) b ≡ a
take_behind a b h = ap (take (length a)) h.whole ∙ take-append_seam a h.rest
