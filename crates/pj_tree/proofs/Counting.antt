-- Bounds and counts of the numbers that trees name, where lists are put together.
use Rattle.std.proofs.Common.{◌≡◌, refl, sym, ap, ◌∙◌, ◌≤◌, ◌+◌, ◌&&◌, if◌then◌else◌, nat_le, nat_lt, ℕ, zero, suc, List, [], ◌∷◌, ◌++◌, map, length, arith, append_assoc, subst, nat_eq}
use Rattle.std.proofs.lemmas.List.{map-append}
use Rattle.pj_tree.specs.Named.{Numbers, together, AllBetween, NameLater, count, named_by_node, named_by_all}
use Rattle.pj_tree.specs.declared.tree.TreeNode.{TreeNode}

pub between-wider : (low high less more : ℕ) (ns : Numbers) → less ≤ low → high ≤ more → AllBetween low high ns → AllBetween less more ns
between-wider low high less more [] from to h = _
between-wider low high less more (n ∷ ns) from to h = (omega (arith, from, h.0), (omega (arith, to, h.1.0), between-wider low high less more ns from to h.1.1))

pub between-both : (low high : ℕ) (ms ns : Numbers) → AllBetween low high ms → AllBetween low high ns → AllBetween low high (ms ++ ns)
between-both low high [] ns f g = g
between-both low high (m ∷ ms) ns f g = (f.0, (f.1.0, between-both low high ms ns f.1.1 g))

pub later-wider : (n high more : ℕ) (ts : List TreeNode) → high ≤ more → NameLater n high ts → NameLater n more ts
later-wider n high more [] to h = _
later-wider n high more (t ∷ ts) to h = (between-wider (suc n) high (suc n) more (named_by_node t) (omega arith) to h.0, later-wider (suc n) high more ts to h.1)

pub later-both : (n high : ℕ) (us ts : List TreeNode) → NameLater n high us → NameLater (n + length us) high ts → NameLater n high (us ++ ts)
later-both n high [] ts f g = let e : n + zero ≡ n = omega arith in subst (λ m. NameLater m high ts) e g
later-both n high (u ∷ us) ts f g =
    let e : n + suc (length us) ≡ suc n + length us = omega arith in
    (f.0, later-both (suc n) high us ts f.1 (subst (λ m. NameLater m high ts) e g))

pub count-both : (k : ℕ) (ms ns : Numbers) → count k (ms ++ ns) ≡ count k ms + count k ns
count-both k [] ns = omega arith
count-both k (m ∷ ms) ns = grind (arith, count-both k ms ns)

pub together-both : (us ts : List Numbers) → together (us ++ ts) ≡ together us ++ together ts
together-both [] ts = refl
together-both (u ∷ us) ts = ap (λ ns. u ++ ns) (together-both us ts) ∙ sym (append_assoc u (together us) (together ts))

pub count-all-both : (k : ℕ) (us ts : List TreeNode) → count k (named_by_all (us ++ ts)) ≡ count k (named_by_all us) + count k (named_by_all ts)
count-all-both k us ts =
    ap (λ ls. count k (together ls)) (map-append named_by_node us ts)
    ∙ ap (count k) (together-both (map named_by_node us) (map named_by_node ts))
    ∙ count-both k (named_by_all us) (named_by_all ts)

-- 1 within bounds, and 0 elsewhere
abbrev pub within : ℕ → ℕ → ℕ → ℕ
within low high k = if nat_le low k && nat_lt k high then 1 else 0

pub within-both : (low middle high k : ℕ) → low ≤ middle → middle ≤ high → within low middle k + within middle high k ≡ within low high k
within-both low middle high k from to = grind (arith, from, to)

pub within-none : (low k : ℕ) → within low low k ≡ 0
within-none low k = grind arith

pub within-first : (low high k : ℕ) → suc low ≤ high → (if nat_eq low k then 1 else 0) + within (suc low) high k ≡ within low high k
within-first low high k from = grind (arith, from)

pub none-both : (ms ns : Numbers) → ms ++ ns ≡ [] → (ms ≡ []) × (ns ≡ [])
none-both [] ns h = (refl, h)
none-both (m ∷ ms) ns h = grind (arith, h)
