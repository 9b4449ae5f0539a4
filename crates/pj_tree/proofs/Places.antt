-- Where a tree's bytes end, and what stands where none is.
use Rattle.std.proofs.Common.{◌≡◌, ℕ, ◌-◌, ◌+◌, ◌≤◌, List, [], ◌++◌, length, drop, Some, None, Option, Result, Err, refl, sym, ap, ◌∙◌, arith}
use Rattle.std.proofs.lemmas.List.{length-append, length-drop, drop_at, drop-drop}
use Rattle.std.proofs.Math.ListN.{drop_of_length-le}
use Rattle.pj_fields.specs.Fields.{number_at}
use Rattle.pj_fields.proofs.Laws.{some_is}
use Rattle.pj_tree.specs.declared.tree.TreeNode.{TreeNode}
use Rattle.pj_tree.specs.declared.fault.TreeFault.{TreeFault}
use Rattle.pj_tree.specs.declared.fault.TreeFault.TheVariants as faults
use Rattle.pj_tree.specs.Bytes.{tree}
use Rattle.pj_tree.specs.Given.{Fails}
use Rattle.pj_tree.specs.Fits.{TreeFits}
use Rattle.pj_tree.specs.Reading.{tree_at, tree_node_at}
use Rattle.pj_tree.proofs.TreeLaws.{tree_laws}

abbrev failed : {A : Type 0} → TreeFault → Result A TreeFault
failed x = Err x

-- the front is as long as what isn't left
front_len : (at : ℕ) (bytes front rest : List ℕ) → at ≤ length bytes → drop at bytes ≡ front ++ rest → length bytes ≡ at + length front + length rest
front_len at bytes front rest le is = omega (arith, le, ap length is, length-append front rest, length-drop at bytes)

pub rest_within : (at : ℕ) (bytes front rest : List ℕ) → at ≤ length bytes → drop at bytes ≡ front ++ rest → length rest ≤ length bytes
rest_within at bytes front rest le is = omega (arith, front_len at bytes front rest le is)

pub behind : (at : ℕ) (bytes front rest : List ℕ) → at ≤ length bytes → drop at bytes ≡ front ++ rest → at ≤ length bytes - length rest
behind at bytes front rest le is = omega (arith, front_len at bytes front rest le is)

pub left_is : (at : ℕ) (bytes front rest : List ℕ) → at ≤ length bytes → drop at bytes ≡ front ++ rest → drop (length bytes - length rest) bytes ≡ rest
left_is at bytes front rest le is =
    let n : length bytes - length rest ≡ at + length front = omega (arith, front_len at bytes front rest le is) in
    rw n (sym (drop-drop (length front) at bytes) ∙ ap (drop (length front)) is ∙ drop_at front rest (length front) refl)

abbrev nothing : {A : Type 0} → Option A
nothing = None

clashes : {A : Type 0} (x : A) → nothing {A = A} ≡ Some x → ⊥
clashes x e = absurd cc

pub none_where_bad : (bytes : List ℕ) (t : TreeNode) (rest : List ℕ) → tree_at bytes ≡ None → TreeFits t → bytes ≡ tree t ++ rest → ⊥
none_where_bad bytes t rest none fits is =
    let there : tree_at bytes ≡ Some (t, rest) = ap tree_at is ∙ tree_laws.again t rest fits in
    let clash : nothing {A = TreeNode × List ℕ} ≡ Some (t, rest) = sym none ∙ there in
    absurd (clashes (t, rest) clash)

pub same_tree : (bytes : List ℕ) (t u : TreeNode) (rest left : List ℕ) → tree_at bytes ≡ Some (u, left) → TreeFits t → bytes ≡ tree t ++ rest → t ≡ u
same_tree bytes t u rest left found fits is =
    let there : tree_at bytes ≡ Some (t, rest) = ap tree_at is ∙ tree_laws.again t rest fits in
    ap (λ (p : TreeNode × List ℕ). p.0) (some_is (t, rest) (u, left) (sym there ∙ found))

nothing_at : tree_at [] ≡ None
unfolding tree_at tree_node_at number_at
nothing_at = refl

pub none_past : (at : ℕ) (bytes : List ℕ) (t : TreeNode) (rest : List ℕ) → length bytes ≤ at → TreeFits t → drop at bytes ≡ tree t ++ rest → ⊥
none_past at bytes t rest le fits is = none_where_bad [] t rest nothing_at fits (sym (drop_of_length-le bytes le) ∙ is)

pub bad_is : {A : Type 0} (fault : TreeFault) (read : Option A) → fault ≡ faults.Bad → Fails fault read → read ≡ None
bad_is faults.Bad read is h = h
bad_is faults.NoMemory read is h = absurd cc

err_in : {A : Type 0} (x y : TreeFault) → failed {A = A} x ≡ failed {A = A} y → x ≡ y
err_in x y e = cc

pub err_is : {A : Type 0} (result : Result A TreeFault) (x y : TreeFault) → result ≡ Err x → result ≡ Err y → x ≡ y
err_is {A = A} result x y e f = err_in {A = A} x y (sym e ∙ f)
