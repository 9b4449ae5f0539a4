-- Trees that were numbered mean what they did before.
use Rattle.std.proofs.Common.{◌≡◌, sym, ap, ◌∙◌, subst, ◌≤◌, ◌+◌, ℕ, zero, suc, List, [], ◌∷◌, ◌++◌, length, arith}
use Rattle.pj_tree.specs.Reads.{Strings, Parts, Meant, numbered, nodes_of, parts_of, node_of}
use Rattle.pj_tree.specs.Named.{Numbers, Agree, AllBetween, NameLater, EachOnce, named_by_node, named_by_all}
use Rattle.pj_tree.specs.Numbering.{numbered_node, laid_out}
use Rattle.pj_tree.specs.declared.tree.TreeNode.{TreeNode}
use Rattle.pj_tree.proofs.Counting.{count-both}
use Rattle.pj_tree.proofs.Depends.{same_where_named}
use Rattle.pj_tree.proofs.Laid.{Holds, numbered_well}

agree-above : (p q : Parts) (low high : ℕ) (ns : Numbers) → ((k : ℕ) → low ≤ k → p k ≡ q k) → AllBetween low high ns → Agree p q ns
agree-above p q low high [] e h = _
agree-above p q low high (n ∷ ns) e h = (e n h.0, agree-above p q low high ns e h.1.1)

module _ (strings : Strings) where
  holds-agree : (p q : Parts) (n high : ℕ) (ts : List TreeNode) → ((k : ℕ) → n ≤ k → p k ≡ q k) → NameLater n high ts → Holds strings p n ts → Holds strings q n ts
  holds-agree p q n high [] e l h = _
  holds-agree p q n high (t ∷ ts) e l h =
      let above : (k : ℕ) → suc n ≤ k → p k ≡ q k = λ k from. e k (omega (arith, from)) in (
        sym (e n (omega arith)) ∙ (h.0 ∙ same_where_named strings p q t (agree-above p q (suc n) high (named_by_node t) above l.0)),
        holds-agree p q (suc n) high ts above l.1 h.1,
      )

  numbered-first : (n : ℕ) (m : Meant) (ms : List Meant) → numbered n (m ∷ ms) n ≡ m
  numbered-first n m ms = grind arith

  numbered-rest : (n : ℕ) (m : Meant) (ms : List Meant) (k : ℕ) → suc n ≤ k → numbered (suc n) ms k ≡ numbered n (m ∷ ms) k
  numbered-rest n m ms k from = grind (arith, from)

  -- each tree means what its number does
  pub nodes-hold : (n high : ℕ) (ts : List TreeNode) → NameLater n high ts → Holds strings (numbered n (nodes_of strings n ts)) n ts
  nodes-hold n high [] l = _
  nodes-hold n high (t ∷ ts) l =
      let ms = nodes_of strings (suc n) ts in
      let m = node_of strings (numbered (suc n) ms) t in
      let rest = numbered-rest n m ms in (
        numbered-first n m ms ∙ same_where_named strings (numbered (suc n) ms) (numbered n (m ∷ ms)) t (agree-above (numbered (suc n) ms) (numbered n (m ∷ ms)) (suc n) high (named_by_node t) rest l.0),
        holds-agree (numbered (suc n) ms) (numbered n (m ∷ ms)) (suc n) high ts rest l.1 (nodes-hold (suc n) high ts l.1),
      )

  newer : (m : ℕ) (older ts : List TreeNode) (k : ℕ) → m + length older ≤ k →
      numbered m (nodes_of strings m (older ++ ts)) k ≡ numbered (m + length older) (nodes_of strings (m + length older) ts) k
  newer m [] ts k from = let e : m + zero ≡ m = omega arith in ap (λ n. numbered n (nodes_of strings n ts) k) (sym e)
  newer m (t ∷ older) ts k from =
      let e : m + suc (length older) ≡ suc m + length older = omega arith in
      let beyond : suc m + length older ≤ k = omega (arith, from) in
      sym (numbered-rest m (node_of strings (numbered (suc m) (nodes_of strings (suc m) (older ++ ts))) t) (nodes_of strings (suc m) (older ++ ts)) k (omega (arith, from)))
      ∙ (newer (suc m) older ts k beyond ∙ ap (λ n. numbered n (nodes_of strings n ts) k) (sym e))

  pub newer_alone : (older ts : List TreeNode) (k : ℕ) → length older ≤ k → parts_of strings (older ++ ts) k ≡ numbered (length older) (nodes_of strings (length older) ts) k
  newer_alone older ts k from =
      let e : zero + length older ≡ length older = omega arith in
      newer zero older ts k (omega (arith, from)) ∙ ap (λ n. numbered n (nodes_of strings n ts) k) e

pub laid_out-later : (t : TreeNode) (n : ℕ) → named_by_node t ≡ [] → NameLater n (n + length (laid_out t n)) (laid_out t n)
laid_out-later t n none =
    let f = numbered_well (λ k. []) t none (suc n) in
    let e : (numbered_node t (suc n)).next ≡ n + length (laid_out t n) = omega (arith, f.next) in
    (subst (λ m. AllBetween (suc n) m (named_by_node (numbered_node t (suc n)).laid)) e f.between, subst (λ m. NameLater (suc n) m (numbered_node t (suc n)).later) e f.ordered)

pub laid_out-once : (t : TreeNode) (n : ℕ) → named_by_node t ≡ [] → EachOnce (suc n) (n + length (laid_out t n)) (named_by_all (laid_out t n))
laid_out-once t n none k =
    let r = numbered_node t (suc n) in
    let f = numbered_well (λ k. []) t none (suc n) in
    let e : r.next ≡ n + length (laid_out t n) = omega (arith, f.next) in
    count-both k (named_by_node r.laid) (named_by_all r.later) ∙ rw (sym e) (f.once k)

pub laid_out-means : (strings : Strings) (p : Parts) (older : List TreeNode) (t : TreeNode) → named_by_node t ≡ [] →
    parts_of strings (older ++ laid_out t (length older)) (length older) ≡ node_of strings p t
laid_out-means strings p older t none =
    let n = length older in
    let ts = laid_out t n in
    let q = numbered n (nodes_of strings n ts) in
    let f = numbered_well strings t none (suc n) in
    let h = nodes-hold strings n (n + length ts) ts (laid_out-later t n none) in
    newer_alone strings older ts n (omega arith) ∙ (h.0 ∙ f.same p q h.1)
