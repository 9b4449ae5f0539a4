-- Walking over pieces, as loops do.
use Rattle.std.proofs.Common.{◌≡◌, ℕ, suc, ◌+◌, ◌*◌, ◌≤◌, ◌<◌, List, [], ◌∷◌, ◌++◌, map, length, get_or, take, drop, Option, Some, None, refl, sym, ap, subst, ◌∙◌, add-one, arith, length-append}
use Rattle.std.specs.Prelude.{option_and_then, option_map}
use Rattle.std.specs.List.{flat_map}
use Rattle.std.proofs.Math.Seq.{drop-cons}
use Rattle.std.proofs.lemmas.List.{drop_all, take_more, append-nil}
use Rattle.std.proofs.lemmas.List.Folds.{length-flat_map-take}
use Rattle.std.proofs.lemmas.Grind.{flat_map-append}
use Rattle.std.proofs.lemmas.List.Concat.{flat_map-cons}
use Rattle.pj_fields.specs.Fields.{number, list}
use Rattle.pj_reloc.specs.declared.entry.Entry.{Entry}
use Rattle.pj_parts.specs.declared.types.Method.{Method}
use Rattle.pj_parts.specs.Spelling.{method}
use Rattle.pj_parts.proofs.Sizes.{length-number, length-list}
use Rattle.pj_image.specs.Pieces.{Piece, Plain, Mention, Walk, past, walk, walk_from, method_pieces}

append_by : (ps qs : List Piece) → ((v : Walk) → walk (ps ++ qs) v ≡ option_and_then (λ u. walk qs u) (walk ps v)) → (v : Option Walk)
    → option_and_then (λ u. walk (ps ++ qs) u) v ≡ option_and_then (λ u. walk qs u) (option_and_then (λ u. walk ps u) v)
append_by ps qs again None = refl
append_by ps qs again (Some v) = again v

pub walk-append : (ps qs : List Piece) (w : Walk) → walk (ps ++ qs) w ≡ option_and_then (λ v. walk qs v) (walk ps w)
unfolding walk
walk-append [] qs w = refl
walk-append (p ∷ ps) qs w = append_by ps qs (λ v. walk-append ps qs v) (past p w)

flat_map-numbers : (ns : List ℕ) → length (flat_map number ns) ≡ 4 * length ns
flat_map-numbers [] = refl
flat_map-numbers (n ∷ ns) = length-append (number n) (flat_map number ns) ∙ (let one = length-number n in let more = flat_map-numbers ns in omega (arith, one, more))

pub length-method : (m : Method) → length (method m) ≡ 12 + 4 * length m.types
length-method m =
    let a = length-append (number m.fun) (list number m.types ++ number m.body) in
    let b = length-append (list number m.types) (number m.body) in
    let c = length-list number m.types in
    let d = flat_map-numbers m.types in
    omega (arith, a, b, c, d, length-number m.fun, length-number m.body)

pub ruleset lengths = (length-method)

pub ruleset lists = (length-list, length-number)

-- ---- mentions one after another

module _ (numbers : List ℕ) (next at : ℕ) where
  one : (i : ℕ) (rest : List Entry) → i < length numbers
      → walk (map Mention (drop i numbers)) (walk_from (next + i) (at + 4 * i) rest) ≡ option_and_then (λ v. walk (map Mention (drop (i + 1) numbers)) v) (past (Mention (get_or numbers i 0)) (walk_from (next + i) (at + 4 * i) rest))
  unfolding walk
  one i rest lt = rw (drop-cons numbers i 0 lt, add-one) refl

  pub goes_on : (i : ℕ) (rest more : List Entry) (total : Option Walk) → i < length numbers
      → past (Mention (get_or numbers i 0)) (walk_from (next + i) (at + 4 * i) rest) ≡ Some (walk_from (next + i + 1) (at + 4 * i + 4) more)
      → walk (map Mention (drop i numbers)) (walk_from (next + i) (at + 4 * i) rest) ≡ total
      → walk (map Mention (drop (i + 1) numbers)) (walk_from (next + (i + 1)) (at + 4 * (i + 1)) more) ≡ total
  goes_on i rest more total lt h so_far =
      let next-is : next + i + 1 ≡ next + (i + 1) = omega arith in
      let at-is : at + 4 * i + 4 ≡ at + 4 * (i + 1) = omega arith in
      let h' : past (Mention (get_or numbers i 0)) (walk_from (next + i) (at + 4 * i) rest) ≡ Some (walk_from (next + (i + 1)) (at + 4 * (i + 1)) more) = h ∙ ap (λ n. Some (walk_from n (at + 4 * i + 4) more)) next-is ∙ ap (λ n. Some (walk_from (next + (i + 1)) n more)) at-is in
      sym (one i rest lt ∙ ap (λ r. option_and_then (λ v. walk (map Mention (drop (i + 1) numbers)) v) r) h') ∙ so_far

  pub ends : (i : ℕ) (rest : List Entry) (total : Option Walk) → i < length numbers
      → past (Mention (get_or numbers i 0)) (walk_from (next + i) (at + 4 * i) rest) ≡ None
      → walk (map Mention (drop i numbers)) (walk_from (next + i) (at + 4 * i) rest) ≡ total → total ≡ None
  ends i rest total lt h so_far = sym so_far ∙ one i rest lt ∙ ap (λ r. option_and_then (λ v. walk (map Mention (drop (i + 1) numbers)) v) r) h

  pub is_done : (i : ℕ) (rest : List Entry) (total : Option Walk) → i ≡ length numbers
      → walk (map Mention (drop i numbers)) (walk_from (next + i) (at + 4 * i) rest) ≡ total → total ≡ Some (walk_from (next + length numbers) (at + 4 * length numbers) rest)
  unfolding walk
  is_done i rest total is so_far =
      let nothing : drop i numbers ≡ [] = drop_all i numbers (omega arith) in
      sym so_far ∙ ap (λ ns. walk (map Mention ns) (walk_from (next + i) (at + 4 * i) rest)) nothing ∙ ap (λ n. Some (walk_from (next + n) (at + 4 * n) rest)) is

-- ---- a method

last : {T : Type 0} (view : T → List Entry) (body n a : ℕ) (tail : Option T)
    → option_and_then (λ v. walk (Plain (number body) ∷ []) v) (option_map (λ r. walk_from n a (view r)) tail) ≡ option_map (λ r. walk_from n (a + 4) (view r)) tail
unfolding walk
last view body n a None = refl
last view body n a (Some t) = ap (λ k. Some (walk_from n (a + k) (view t))) (length-number body)

front : (m : Method) (next at : ℕ) (left rest : List Entry) → past (Mention m.fun) (walk_from next at left) ≡ Some (walk_from (next + 1) (at + 4) rest)
    → walk (method_pieces m) (walk_from next at left) ≡ walk (map Mention m.types ++ Plain (number m.body) ∷ []) (walk_from (next + 1) (at + 4 + length (number (length m.types))) rest)
unfolding walk
front m next at left rest h = ap (λ r. option_and_then (λ v. walk (Plain (number (length m.types)) ∷ (map Mention m.types ++ Plain (number m.body) ∷ [])) v) r) h

pub method_on : {T : Type 0} (view : T → List Entry) (m : Method) (next at : ℕ) (left rest : List Entry) (tail : Option T)
    → past (Mention m.fun) (walk_from next at left) ≡ Some (walk_from (next + 1) (at + 4) rest)
    → walk (map Mention m.types) (walk_from (next + 1) (at + 8) rest) ≡ option_map (λ r. walk_from (next + 1 + length m.types) (at + 8 + 4 * length m.types) (view r)) tail
    → walk (method_pieces m) (walk_from next at left) ≡ option_map (λ r. walk_from (next + 1 + length m.types) (at + length (method m)) (view r)) tail
method_on view m next at left rest tail h e =
    let count = length m.types in
    let eight : at + 4 + length (number count) ≡ at + 8 = omega (arith, length-number count) in
    let whole : at + 8 + 4 * count + 4 ≡ at + length (method m) = omega (arith, length-method m) in
    front m next at left rest h
    ∙ ap (λ a. walk (map Mention m.types ++ Plain (number m.body) ∷ []) (walk_from (next + 1) a rest)) eight
    ∙ walk-append (map Mention m.types) (Plain (number m.body) ∷ []) (walk_from (next + 1) (at + 8) rest)
    ∙ ap (λ r. option_and_then (λ v. walk (Plain (number m.body) ∷ []) v) r) e
    ∙ last view m.body (next + 1 + count) (at + 8 + 4 * count) tail
    ∙ ap (λ a. option_map (λ r. walk_from (next + 1 + count) a (view r)) tail) whole

pub method_off : (m : Method) (next at : ℕ) (left : List Entry) → past (Mention m.fun) (walk_from next at left) ≡ None → walk (method_pieces m) (walk_from next at left) ≡ None
unfolding walk
method_off m next at left h = ap (λ r. option_and_then (λ v. walk (Plain (number (length m.types)) ∷ (map Mention m.types ++ Plain (number m.body) ∷ [])) v) r) h

-- ---- methods one after another

module _ (methods : List Method) (at : ℕ) where
  method_turn : (i : ℕ) (m : Method) (w : Walk) → i < length methods → m ≡ get_or methods i m
      → walk (flat_map method_pieces (drop i methods)) w ≡ option_and_then (λ v. walk (flat_map method_pieces (drop (i + 1) methods)) v) (walk (method_pieces m) w)
  method_turn i m w lt is =
      let d : drop i methods ≡ m ∷ drop (suc i) methods = subst (λ (y : Method). drop i methods ≡ y ∷ drop (suc i) methods) (sym is) (drop-cons methods i m lt) in
      ap (λ ms. walk (flat_map method_pieces ms) w) d ∙ ap (λ ps. walk ps w) (flat_map-cons method_pieces m (drop (suc i) methods)) ∙ walk-append (method_pieces m) (flat_map method_pieces (drop (suc i) methods)) w ∙ rw add-one refl

  pub method_goes_on : (i : ℕ) (m : Method) (w v : Walk) (total : Option Walk) → i < length methods → m ≡ get_or methods i m → walk (method_pieces m) w ≡ Some v
      → walk (flat_map method_pieces (drop i methods)) w ≡ total → walk (flat_map method_pieces (drop (i + 1) methods)) v ≡ total
  method_goes_on i m w v total lt is h so_far = sym (method_turn i m w lt is ∙ ap (λ r. option_and_then (λ u. walk (flat_map method_pieces (drop (i + 1) methods)) u) r) h) ∙ so_far

  pub method_ends : (i : ℕ) (m : Method) (w : Walk) (total : Option Walk) → i < length methods → m ≡ get_or methods i m → walk (method_pieces m) w ≡ None
      → walk (flat_map method_pieces (drop i methods)) w ≡ total → total ≡ None
  method_ends i m w total lt is h so_far = sym so_far ∙ method_turn i m w lt is ∙ ap (λ r. option_and_then (λ u. walk (flat_map method_pieces (drop (i + 1) methods)) u) r) h

  pub methods_done : (i : ℕ) (w : Walk) (total : Option Walk) → length methods ≤ i → walk (flat_map method_pieces (drop i methods)) w ≡ total → total ≡ Some w
  unfolding walk
  methods_done i w total le so_far = sym so_far ∙ ap (λ ms. walk (flat_map method_pieces ms) w) (drop_all i methods le)

pub size_within : (methods : List Method) (i : ℕ) (m : Method) → i < length methods → m ≡ get_or methods i m → length (flat_map method (take i methods)) + length (method m) ≤ length (flat_map method methods)
size_within methods i m lt is = subst (λ (y : Method). length (flat_map method (take i methods)) + length (method y) ≤ length (flat_map method methods)) (sym is) (length-flat_map-take method methods i m lt)

pub size_more : (methods : List Method) (i : ℕ) (m : Method) → i < length methods → m ≡ get_or methods i m → length (flat_map method (take (i + 1) methods)) ≡ length (flat_map method (take i methods)) + length (method m)
size_more methods i m lt is =
    let more : take (i + 1) methods ≡ take i methods ++ m ∷ [] = subst (λ (y : Method). take (i + 1) methods ≡ take i methods ++ y ∷ []) (sym is) (take_more methods i m lt) in
    let one : flat_map method (m ∷ []) ≡ method m = flat_map-cons method m [] ∙ append-nil (method m) in
    ap (λ ms. length (flat_map method ms)) more ∙ ap (λ (b : List ℕ). length b) (flat_map-append method (take i methods) (m ∷ [])) ∙ length-append (flat_map method (take i methods)) (flat_map method (m ∷ [])) ∙ ap (λ (b : List ℕ). length (flat_map method (take i methods)) + length b) one

-- the walk behind a method, as a loop counts
pub behind_method : (m : Method) (next place : ℕ) (w : Walk) (behind : List Entry) → walk (method_pieces m) w ≡ Some (walk_from (next + 1 + length m.types) (place + length (method m)) behind)
    → walk (method_pieces m) w ≡ Some (walk_from (next + (1 + length m.types)) (place + (12 + 4 * length m.types)) behind)
behind_method m next place w behind h =
    let next-is : next + 1 + length m.types ≡ next + (1 + length m.types) = omega arith in
    let place-is : place + length (method m) ≡ place + (12 + 4 * length m.types) = omega (arith, length-method m) in
    h ∙ ap (λ n. Some (walk_from n (place + length (method m)) behind)) next-is ∙ ap (λ n. Some (walk_from (next + (1 + length m.types)) n behind)) place-is
