-- Numbering a list, one more at its end.
use Rattle.std.proofs.Common.{◌≡◌, ℕ, suc, ◌+◌, ◌<◌, List, [], ◌∷◌, ◌++◌, map, take, length, sym, ap, ◌∙◌, append_assoc, arith}
use Rattle.std.proofs.Math.ListN.{get_or}
use Rattle.std.proofs.Math.Seq.{take-suc}
use Rattle.std.proofs.lemmas.List.{append-nil, map-append}
use Rattle.pj_tree.specs.Numbering.{From, both, all}

pub all-last : {A : Type 0} (fs : List (From A)) (f : From A) (n : ℕ) → all (fs ++ f ∷ []) n ≡ both (λ xs x. xs ++ x ∷ []) (all fs) f n
all-last [] f n = ap (λ l. record { laid = (f n).laid ∷ []; later = l; next = (f n).next }) (append-nil (f n).later)
all-last (g ∷ gs) f n =
    let m = (g n).next in
    ap (λ rest. record { laid = (g n).laid ∷ rest.laid; later = (g n).later ++ rest.later; next = rest.next }) (all-last gs f m)
    ∙ ap (λ l. record { laid = (g n).laid ∷ ((all gs m).laid ++ (f (all gs m).next).laid ∷ []); later = l; next = (f (all gs m).next).next }) (sym (append_assoc (g n).later (all gs m).later (f (all gs m).next).later))

pub all-more : {X A : Type 0} (f : X → From A) (xs : List X) (j n : ℕ) (x : X) → j < length xs → x ≡ get_or xs j x →
    all (map f (take (j + 1) xs)) n ≡ both (λ ys y. ys ++ y ∷ []) (all (map f (take j xs))) (f x) n
all-more f xs j n x below is =
    let more : j + 1 ≡ suc j = omega arith in
    rw more
    (ap (λ ys. all (map f ys) n) (take-suc xs j x below ∙ ap (λ y. take j xs ++ y ∷ []) (sym is))
    ∙ ap (λ fs. all fs n) (map-append f (take j xs) (x ∷ []))
    ∙ all-last (map f (take j xs)) (f x) n)
