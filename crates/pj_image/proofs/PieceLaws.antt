-- The bytes of pieces, and what the walk over them says.
use Rattle.std.proofs.Common.{◌≡◌, ℕ, ◌+◌, Bool, true, false, cond, eqb, List, [], ◌∷◌, ◌++◌, map, length, Option, Some, None, refl, sym, ap, subst, ◌∙◌, append_assoc, arith, eq-eqb}
use Rattle.std.specs.Prelude.{◌&&◌, option_and_then}
use Rattle.std.specs.List.{flat_map}
use Rattle.std.proofs.lemmas.Bool.{eqb-true}
use Rattle.std.proofs.lemmas.List.{append-nil}
use Rattle.std.proofs.lemmas.List.Concat.{flat_map-cons}
use Rattle.pj_fields.specs.Fields.{number, list}
use Rattle.pj_reloc.specs.declared.entry.Entry.{Entry}
use Rattle.pj_parts.specs.declared.types.Method.{Method}
use Rattle.pj_parts.specs.Spelling.{method}
use Rattle.pj_image.specs.Pieces.{Piece, Plain, Mention, bytes_of, method_pieces, methods_pieces, Walk, walk, walk_from, is_over}
use Rattle.pj_image.specs.Mentions.{mentions_of, places_from, count_from}

-- ---- bytes

bytes-append : (ps qs : List Piece) → bytes_of (ps ++ qs) ≡ bytes_of ps ++ bytes_of qs
bytes-append [] qs = refl
bytes-append (Plain b ∷ ps) qs = ap (λ (t : List ℕ). b ++ t) (bytes-append ps qs) ∙ sym (append_assoc b (bytes_of ps) (bytes_of qs))
bytes-append (Mention n ∷ ps) qs = ap (λ (t : List ℕ). number n ++ t) (bytes-append ps qs) ∙ sym (append_assoc (number n) (bytes_of ps) (bytes_of qs))

bytes-mentions : (ns : List ℕ) → bytes_of (map Mention ns) ≡ flat_map number ns
bytes-mentions [] = refl
bytes-mentions (n ∷ ns) = ap (λ (t : List ℕ). number n ++ t) (bytes-mentions ns) ∙ sym (flat_map-cons number n ns)

bytes-method : (m : Method) → bytes_of (method_pieces m) ≡ method m
unfolding list
bytes-method m =
    let count = number (length m.types) in
    let last : bytes_of (map Mention m.types ++ Plain (number m.body) ∷ []) ≡ flat_map number m.types ++ number m.body =
    bytes-append (map Mention m.types) (Plain (number m.body) ∷ []) ∙ ap (λ (t : List ℕ). t ++ (number m.body ++ [])) (bytes-mentions m.types) ∙ ap (λ (t : List ℕ). flat_map number m.types ++ t) (append-nil (number m.body)) in
    ap (λ (t : List ℕ). number m.fun ++ (count ++ t)) last ∙ ap (λ (t : List ℕ). number m.fun ++ t) (sym (append_assoc count (flat_map number m.types) (number m.body)))

bytes-methods : (ms : List Method) → bytes_of (flat_map method_pieces ms) ≡ flat_map method ms
bytes-methods [] = refl
bytes-methods (m ∷ ms) =
    ap bytes_of (flat_map-cons method_pieces m ms) ∙ bytes-append (method_pieces m) (flat_map method_pieces ms)
    ∙ ap (λ (t : List ℕ). t ++ bytes_of (flat_map method_pieces ms)) (bytes-method m) ∙ ap (λ (t : List ℕ). method m ++ t) (bytes-methods ms) ∙ sym (flat_map-cons method m ms)

pub bytes-pieces : (ms : List Method) → bytes_of (methods_pieces ms) ≡ list method ms
unfolding list
bytes-pieces ms = ap (λ (t : List ℕ). number (length ms) ++ t) (bytes-methods ms)

-- ---- a walk to the end

abbrev place_of : Entry → ℕ
place_of e = e.place

pub record Right (next at : ℕ) (ps : List Piece) (es : List Entry) : Type 0 where
  pub numbers : mentions_of ps ≡ count_from next (length es)
  pub places : map place_of es ≡ places_from at ps

none_left : {A : Type 0} (xs : List A) → length xs ≡ 0 → xs ≡ []
none_left [] e = refl
none_left (x ∷ xs) e = absurd (omega (arith, e))

passed : (a b : Bool) (w : Walk) (rest : Walk → Option Walk) → is_over (option_and_then rest (cond (a && b) (Some w) None)) ≡ true → (a ≡ true) × ((b ≡ true) × (is_over (rest w) ≡ true))
passed true true w rest e = (refl, (refl, e))
passed true false w rest e = absurd cc
passed false b w rest e = absurd cc

pub over_right : (ps : List Piece) (next at : ℕ) (es : List Entry) → is_over (walk ps (walk_from next at es)) ≡ true → Right next at ps es
unfolding walk
over_right [] next at es e =
    let nothing : es ≡ [] = none_left es (eqb-true (length es) 0 e) in
    subst (λ (xs : List Entry). Right next at [] xs) (sym nothing) (record { numbers = refl; places = refl })
over_right (Plain b ∷ ps) next at es e =
    let r = over_right ps next (at + length b) es e in
    record { numbers = r.numbers; places = r.places }
over_right (Mention n ∷ ps) next at [] e = absurd cc
over_right (Mention n ∷ ps) next at (x ∷ es) e =
    let p = passed (eqb n next) (eqb x.place at) (walk_from (next + 1) (at + 4) es) (λ v. walk ps v) e in
    let r = over_right ps (next + 1) (at + 4) es p.1.1 in
    let n-is : n ≡ next = eqb-true n next p.0 in
    let place-is : x.place ≡ at = eqb-true x.place at p.1.0 in
    record {
      numbers = ap (λ (k : ℕ). k ∷ mentions_of ps) n-is ∙ ap (λ (ks : List ℕ). next ∷ ks) r.numbers;
      places = ap (λ (k : ℕ). k ∷ map place_of es) place-is ∙ ap (λ (ks : List ℕ). at ∷ ks) r.places;
    }

first_is : (a b : ℕ) (xs ys : List ℕ) → a ∷ xs ≡ b ∷ ys → (a ≡ b) × (xs ≡ ys)
first_is a b xs ys e = (cc, cc)

pub right_over : (ps : List Piece) (next at : ℕ) (es : List Entry) → mentions_of ps ≡ count_from next (length es) → map place_of es ≡ places_from at ps → is_over (walk ps (walk_from next at es)) ≡ true
unfolding walk
right_over [] next at [] numbers places = refl
right_over [] next at (x ∷ es) numbers places = absurd cc
right_over (Plain b ∷ ps) next at es numbers places = right_over ps next (at + length b) es numbers places
right_over (Mention n ∷ ps) next at [] numbers places = absurd cc
right_over (Mention n ∷ ps) next at (x ∷ es) numbers places =
    let f = first_is n next (mentions_of ps) (count_from (next + 1) (length es)) numbers in
    let g = first_is x.place at (map place_of es) (places_from (at + 4) ps) places in
    rw (eq-eqb n next f.0, eq-eqb x.place at g.0) (right_over ps (next + 1) (at + 4) es f.1 g.1)
