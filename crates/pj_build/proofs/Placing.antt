-- The entries of wired methods have the places of their mentions.
use Rattle.std.proofs.Common.{◌≡◌, ℕ, zero, suc, ◌+◌, ◌*◌, ◌==◌, true, List, [], ◌∷◌, ◌++◌, map, length, Option, Some, refl, sym, ap, ◌∙◌, arith}
use Rattle.std.specs.Prelude.{option_and_then}
use Rattle.std.specs.List.{flat_map}
use Rattle.std.proofs.lemmas.Bool.Decides.{nat_tests}
use Rattle.std.proofs.lemmas.List.Concat.{flat_map-cons}
use Rattle.pj_base.specs.declared.kinds.KindTag.{KindTag}
use Rattle.pj_base.specs.declared.kinds.KindTag.TheVariants as kinds
use Rattle.pj_reloc.specs.declared.entry.Entry.{Entry}
use Rattle.pj_parts.specs.declared.types.Method.{Method}
use Rattle.pj_parts.specs.Spelling.{method}
use Rattle.pj_parts.proofs.Sizes.{length-number}
use Rattle.pj_fields.specs.Fields.{number}
use Rattle.pj_image.specs.declared.image.Image.{Image}
use Rattle.pj_image.specs.Mentions.{count_from}
use Rattle.pj_image.specs.Pieces.{Piece, Mention, Walk, past, walk, walk_from, is_over, method_pieces, placed}
use Rattle.pj_image.specs.Spelled.{methods_place}
use Rattle.pj_image.proofs.Walking.{walk-append, length-method, method_on}
use Rattle.pj_build.specs.Wiring.{entry_at, int_entries, wired_method, wired_entries, all_methods, all_entries}
use Rattle.pj_build.specs.Built.{with_methods}

same_number : (n : ℕ) → (n == n) ≡ true
same_number n = grind (arith, nat_tests)

passed : (n at : ℕ) (kind : KindTag) (dependency ordinal : ℕ) (rest : List Entry) → past (Mention n) (walk_from n at (entry_at at kind dependency ordinal ∷ rest)) ≡ Some (walk_from (n + 1) (at + 4) rest)
passed n at kind dependency ordinal rest = rw (same_number n, same_number at) refl

length-count_from : (first count : ℕ) → length (count_from first count) ≡ count
length-count_from first zero = refl
length-count_from first (suc count) = ap suc (length-count_from (first + 1) count)

ints_passed : (n at count : ℕ) (rest : List Entry) → walk (map Mention (count_from n count)) (walk_from n at (int_entries at count ++ rest)) ≡ Some (walk_from (n + count) (at + 4 * count) rest)
unfolding walk
ints_passed n at zero rest =
    let a : n ≡ n + 0 = omega arith in
    let b : at ≡ at + 4 * 0 = omega arith in
    ap (λ (k : ℕ). Some (walk_from k at rest)) a ∙ ap (λ (k : ℕ). Some (walk_from (n + 0) k rest)) b
ints_passed n at (suc count) rest =
    let a : n + 1 + count ≡ n + suc count = omega arith in
    let b : at + 4 + 4 * count ≡ at + 4 * suc count = omega arith in
    ap (λ (o : Option Walk). option_and_then (λ v. walk (map Mention (count_from (n + 1) count)) v) o) (passed n at kinds.TypeKind 0 5 (int_entries (at + 4) count ++ rest))
    ∙ ints_passed (n + 1) (at + 4) count rest
    ∙ ap (λ (k : ℕ). Some (walk_from k (at + 4 + 4 * count) rest)) a
    ∙ ap (λ (k : ℕ). Some (walk_from (n + suc count) k rest)) b

method_passed : (next at ordinal count : ℕ) (rest : List Entry)
    → walk (method_pieces (wired_method next ordinal count)) (walk_from next at (wired_entries at ordinal count ++ rest)) ≡ Some (walk_from (next + 1 + count) (at + 12 + 4 * count) rest)
method_passed next at ordinal count rest =
    let m = wired_method next ordinal count in
    let types = count_from (next + 1) count in
    let many : length types ≡ count = length-count_from (next + 1) count in
    let long : at + length (method m) ≡ at + 12 + 4 * count = (let k = length-method m in omega (arith, k, many)) in
    let ints : walk (map Mention types) (walk_from (next + 1) (at + 8) (int_entries (at + 8) count ++ rest)) ≡ Some (walk_from (next + 1 + length types) (at + 8 + 4 * length types) rest) =
    ints_passed (next + 1) (at + 8) count rest ∙ ap (λ (k : ℕ). Some (walk_from (next + 1 + k) (at + 8 + 4 * k) rest)) (sym many) in
    method_on (λ (r : List Entry). r) m next at (wired_entries at ordinal count ++ rest) (int_entries (at + 8) count ++ rest) (Some rest) (passed next at kinds.FunKind 1 ordinal (int_entries (at + 8) count ++ rest)) ints
    ∙ ap (λ (k : ℕ). Some (walk_from (next + 1 + k) (at + length (method m)) rest)) many
    ∙ ap (λ (k : ℕ). Some (walk_from (next + 1 + count) k rest)) long

pub all_passed : (counts : List ℕ) (next at ordinal : ℕ) → is_over (walk (flat_map method_pieces (all_methods next ordinal counts)) (walk_from next at (all_entries at ordinal counts))) ≡ true
unfolding walk
all_passed [] next at ordinal = refl
all_passed (count ∷ counts) next at ordinal =
    let m = wired_method next ordinal count in
    let more = all_methods (next + 1 + count) (ordinal + 1) counts in
    let behind = all_entries (at + 12 + 4 * count) (ordinal + 1) counts in
    let w = walk_from next at (wired_entries at ordinal count ++ behind) in
    ap (λ (o : Option Walk). is_over o) (ap (λ (ps : List Piece). walk ps w) (flat_map-cons method_pieces m more) ∙ walk-append (method_pieces m) (flat_map method_pieces more) w
    ∙ ap (λ (o : Option Walk). option_and_then (λ v. walk (flat_map method_pieces more) v) o) (method_passed next at ordinal count behind))
    ∙ all_passed counts (next + 1 + count) (at + 12 + 4 * count) (ordinal + 1)

pub all_placed : (counts : List ℕ) (at first : ℕ) → first ≡ at + 4 → placed at (all_methods 0 0 counts) (all_entries first 0 counts) ≡ true
unfolding walk
all_placed counts at first e =
    let ms = all_methods 0 0 counts in
    let four : at + length (number (length ms)) ≡ first = (let k = length-number (length ms) in omega (arith, k)) in
    ap (λ (a : ℕ). is_over (walk (flat_map method_pieces ms) (walk_from 0 a (all_entries first 0 counts)))) four ∙ all_passed counts 0 first 0

pub methods_place_same : (i : Image) (ms : List Method) (es : List Entry) → methods_place (with_methods i ms es) ≡ methods_place i
unfolding methods_place
methods_place_same i ms es = refl
