-- Trees that are appended leave the meaning of the older ones as it was.
use Rattle.std.proofs.Common.{◌≡◌, ◌<◌, ◌+◌, refl, ap, ◌∙◌, subst, ℕ, zero, suc, List, [], ◌∷◌, ◌++◌, length, arith}
use Rattle.pj_tree.specs.Reads.{Strings, Meant, numbered, nodes_of, parts_of}
use Rattle.pj_tree.specs.Named.{Numbers, Agree, AllBetween, NameLater, named_by_node}
use Rattle.pj_tree.specs.declared.tree.TreeNode.{TreeNode}
use Rattle.pj_tree.proofs.NumberReads.{numbered-older, length-nodes_of}
use Rattle.pj_tree.proofs.Depends.{same_where_named}

agree_older : (n : ℕ) (xs ys : List Meant) (ns : Numbers) → AllBetween n (n + length xs) ns → Agree (numbered n (xs ++ ys)) (numbered n xs) ns
agree_older n xs ys [] h = _
agree_older n xs ys (k ∷ ns) h = (numbered-older n xs ys k h.0 h.1.0, agree_older n xs ys ns h.1.1)

module _ (strings : Strings) where
  pub nodes_of-append : (n after : ℕ) (xs ys : List TreeNode) → after ≡ n + length xs → NameLater n after xs →
      nodes_of strings n (xs ++ ys) ≡ nodes_of strings n xs ++ nodes_of strings after ys
  nodes_of-append n after [] ys e h = ap (λ m. nodes_of strings m ys) (omega (arith, e))
  nodes_of-append n after (t ∷ xs) ys e h =
      let rest = nodes_of-append (suc n) after xs ys (omega (arith, e)) h.1 in
      let far : after ≡ suc n + length (nodes_of strings (suc n) xs) = omega (arith, e, length-nodes_of strings (suc n) xs) in
      let older = agree_older (suc n) (nodes_of strings (suc n) xs) (nodes_of strings after ys) (named_by_node t) (subst (λ m. AllBetween (suc n) m (named_by_node t)) far h.0) in
      let same = same_where_named strings (numbered (suc n) (nodes_of strings (suc n) xs ++ nodes_of strings after ys)) (numbered (suc n) (nodes_of strings (suc n) xs)) t older in
      rw (rest, same) refl

pub parts_of-older : (strings : Strings) (older newer : List TreeNode) (k : ℕ) → NameLater zero (length older) older → k < length older →
    parts_of strings (older ++ newer) k ≡ parts_of strings older k
parts_of-older strings older newer k h below =
    let old = nodes_of strings zero older in
    let new = nodes_of strings (length older) newer in
    let within : k < zero + length old = omega (arith, below, length-nodes_of strings zero older) in
    ap (λ ms. numbered zero ms k) (nodes_of-append strings zero (length older) older newer (omega arith) h) ∙ numbered-older zero old new k (omega arith) within
