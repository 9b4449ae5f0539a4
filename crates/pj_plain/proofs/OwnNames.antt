-- A text's own names, each at the place of what it is.
use Rattle.std.proofs.Common.{◌≡◌, ℕ, suc, ◌+◌, ◌<◌, ◌≤◌, Bool, true, false, cond, not, ◌||◌, List, [], ◌∷◌, ◌++◌, length, Option, Some, None, slice_get, nat_lt, is_none, refl, sym, ap, ◌∙◌, arith}
use Rattle.std.specs.List.{zip, position_or_len}
use Rattle.std.specs.Borrow.{Bor}
use Rattle.std.specs.Option.{option_copied}
use Rattle.std.specs.Slice.{IsGetResult}
use Rattle.std.specs.Str.{bytes_eq}
use Rattle.std.proofs.lemmas.Bool.Decides.{nat_tests}
use Rattle.std.proofs.lemmas.Option.{slice_get_past, slice_get-get_or}
use Rattle.pj_base.specs.Interned.{Interns, has_text, found_at}
use Rattle.pj_meaning.specs.Tree.{Text}
use Rattle.pj_plain.specs.Forms.{is_new, role_of}

role_step : (name : Text) (names : List Text) (roles : List (Option ℕ)) (r : Option ℕ) (t : Bool)
    → role_of name (zip names roles) ≡ slice_get roles (position_or_len (bytes_eq name) names)
    → cond t (Some r) (role_of name (zip names roles)) ≡ slice_get (r ∷ roles) (cond (not t) (1 + position_or_len (bytes_eq name) names) 0)
role_step name names roles r true h = refl
role_step name names roles r false h =
    let p = position_or_len (bytes_eq name) names in
    let e : suc p ≡ 1 + p = omega arith in
    h ∙ ap (slice_get (r ∷ roles)) e

role_at : (name : Text) (names : List Text) (roles : List (Option ℕ)) → length names ≡ length roles
    → role_of name (zip names roles) ≡ slice_get roles (position_or_len (bytes_eq name) names)
role_at name [] [] h = refl
role_at name [] (r ∷ roles) h = absurd (omega arith)
role_at name (n ∷ names) [] h = absurd (omega arith)
role_at name (n ∷ names) (r ∷ roles) h = role_step name names roles r (bytes_eq name n) (role_at name names roles (omega arith))

chosen : (b : Bool) (i at : ℕ) → Some at ≡ cond b (Some i) None → at ≡ i
chosen true i at h = cc
chosen false i at h = cc

not_chosen : (b : Bool) (i : ℕ) → None ≡ cond b (Some i) None → b ≡ false
not_chosen true i h = cc
not_chosen false i h = refl

-- what is at the place where a name is found
pub role_found : (name : Text) (names : List Text) (roles : List (Option ℕ)) (at : ℕ) → length names ≡ length roles → Some at ≡ found_at name names
    → slice_get roles at ≡ role_of name (zip names roles)
role_found name names roles at whole e =
    ap (slice_get roles) (chosen (nat_lt (position_or_len (bytes_eq name) names) (length names)) _ at e) ∙ sym (role_at name names roles whole)

past_end : (p n : ℕ) → nat_lt p n ≡ false → n ≤ p
past_end p n e = grind (arith, nat_tests)

pub role_missing : (name : Text) (names : List Text) (roles : List (Option ℕ)) → length names ≡ length roles → None ≡ found_at name names
    → None ≡ role_of name (zip names roles)
role_missing name names roles whole e =
    let p = position_or_len (bytes_eq name) names in
    let past = past_end p (length names) (not_chosen (nat_lt p (length names)) p e) in
    sym (role_at name names roles whole ∙ slice_get_past roles p (omega (arith, past)))

new_step : (r : Option ℕ) (o : Option (Option ℕ)) (t b : Bool) → (is_none o ≡ true → b ≡ false) → is_none (cond t (Some r) o) ≡ true → (t || b) ≡ false
new_step r o true b h e = absurd (grind (arith, e))
new_step r o false b h e = h e

new_text : (name : Text) (names : List Text) (roles : List (Option ℕ)) → length names ≡ length roles → is_new name (zip names roles) ≡ true → has_text name names ≡ false
new_text name [] roles h e = refl
new_text name (n ∷ names) [] h e = absurd (omega arith)
new_text name (n ∷ names) (r ∷ roles) h e =
    new_step r (role_of name (zip names roles)) (bytes_eq name n) (has_text name names) (new_text name names roles (omega arith)) e

past : (i n : ℕ) → false ≡ nat_lt i n → n ≤ i
past i n e = grind (arith, nat_tests)

within : (i n : ℕ) → true ≡ nat_lt i n → i < n
within i n e = grind (arith, nat_tests)

-- what `get` lends is the element at the index
pub copied_get : {X : Type 0} (r : Option (Bor X)) (xs : List X) (i : ℕ) → IsGetResult xs i i r → option_copied r ≡ slice_get xs i
copied_get None xs i h = sym (slice_get_past xs i (past i (length xs) h.0))
copied_get (Some x) xs i h = ap Some h.1 ∙ sym (slice_get-get_or xs i x.now (within i (length xs) h.0))

-- a name that is new goes behind the others
pub added_last : (name : Text) (names : List Text) (roles : List (Option ℕ)) (place : ℕ) (new : List Text) → length names ≡ length roles
    → is_new name (zip names roles) ≡ true → Interns name names place new → new ≡ names ++ name ∷ []
added_last name names roles place new whole is interned =
    interned.after ∙ ap (λ b. cond b names (names ++ name ∷ [])) (new_text name names roles whole is)

pub zip_last : (names : List Text) (roles : List (Option ℕ)) (n : Text) (r : Option ℕ) → length names ≡ length roles
    → zip (names ++ n ∷ []) (roles ++ r ∷ []) ≡ zip names roles ++ (n, r) ∷ []
zip_last [] [] n r h = refl
zip_last [] (s ∷ roles) n r h = absurd (omega arith)
zip_last (m ∷ names) [] n r h = absurd (omega arith)
zip_last (m ∷ names) (s ∷ roles) n r h = ap (λ k. (m, s) ∷ k) (zip_last names roles n r (omega arith))
