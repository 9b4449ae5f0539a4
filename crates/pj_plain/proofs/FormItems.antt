-- The items that are left, after those of the form.
use Rattle.std.proofs.Common.{◌≡◌, ℕ, suc, ◌+◌, ◌<◌, true, ◌&&◌, List, [], ◌∷◌, map, drop, length, sym, ap, ◌∙◌, arith}
use Rattle.std.proofs.Math.ListN.{get_or}
use Rattle.std.proofs.Math.Seq.{drop-cons}
use Rattle.pj_meaning.specs.Tree.{Text, TopItem}
use Rattle.pj_plain.specs.Forms.{Known, known_behind, script_item, script_items, used_behind}
use Rattle.pj_plain.specs.Members.{SameMembers}
use Rattle.pj_plain.proofs.UsedNames.{items_alike}

rest_is : {X : Type 0} (f : X → TopItem) (xs : List X) (j : ℕ) (x : X) → j < length xs → x ≡ get_or xs j x → map f (drop j xs) ≡ f x ∷ map f (drop (j + 1) xs)
rest_is f xs j x below is =
    let more : j + 1 ≡ suc j = omega arith in
    rw more (ap (map f) (drop-cons xs j x below) ∙ ap (λ y. f y ∷ map f (drop (suc j) xs)) (sym is))

module _ {X : Type 0} (f : X → TopItem) (all : List X) (j : ℕ) (x : X) (below : j < length all) (is : x ≡ get_or all j x) where
  pub script_goes_on : (known next : Known) (used later : List Text) → script_items known used (map f (drop j all)) ≡ script_items [] [] (map f all)
      → script_item known used (f x) ≡ true → next ≡ known_behind known (f x) → SameMembers later (used_behind used (f x))
      → script_items next later (map f (drop (j + 1) all)) ≡ script_items [] [] (map f all)
  script_goes_on known next used later so item behind alike =
      items_alike next later (used_behind used (f x)) (map f (drop (j + 1) all)) alike
      ∙ ap (λ k. script_items k (used_behind used (f x)) (map f (drop (j + 1) all))) behind
      ∙ sym (ap (λ b. b && script_items (known_behind known (f x)) (used_behind used (f x)) (map f (drop (j + 1) all))) item)
      ∙ ap (script_items known used) (sym (rest_is f all j x below is))
      ∙ so
