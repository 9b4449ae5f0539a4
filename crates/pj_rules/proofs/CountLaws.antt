-- Counts of names, one equation for each variant.
use Rattle.std.proofs.Common.{◌≡◌, ◌<◌, ℕ, suc, ◌+◌, ◌-◌, ◌^◌, List, [], ◌∷◌, ◌++◌, map, length, refl, ap, ◌∙◌, arith, length-append}
use Rattle.std.specs.Prelude.{min, nat_le}
use Rattle.pj_tree.specs.Reads.{Strings, Parts, texts_of, stmt_of, block_of}
use Rattle.pj_tree.specs.Scopes.{loop_names, loop_names_of, with_names}
use Rattle.pj_rules.specs.Names.{strings_at, text}
use Rattle.pj_rules.specs.Counts.{capped, names_in, names_in_block, named_params, body_has_few_names}
use Rattle.pj_tree.specs.declared.tree.Sym.{Sym}
use Rattle.pj_tree.specs.declared.tree.Part.{Part}
use Rattle.pj_tree.specs.declared.tree.Expr.{Expr}
use Rattle.pj_tree.specs.declared.tree.Stmt.{Stmt}
use Rattle.pj_tree.specs.declared.tree.Body.{Body}
use Rattle.pj_tree.specs.declared.tree.Stmt.TheVariants as s
use Rattle.pj_tree.proofs.TreeReads as tr

length-texts : (strings : Strings) (ns : List Sym) → length (texts_of strings ns) ≡ length ns
length-texts strings [] = refl
length-texts strings (n ∷ ns) = ap suc (length-texts strings ns)

pub capped-small : (n : ℕ) → n < 2 ^ 64 → capped n ≡ n
unfolding capped
capped-small n h = omega (arith, h)

pub capped-sum : (m n : ℕ) → min (capped m + capped n) (2 ^ 64 - 1) ≡ capped (m + n)
unfolding capped
capped-sum m n = omega arith

pub capped-left : (m n : ℕ) → min (m + capped n) (2 ^ 64 - 1) ≡ capped (m + n)
unfolding capped
capped-left m n = omega arith

pub capped-right : (m n : ℕ) → min (capped m + n) (2 ^ 64 - 1) ≡ capped (m + n)
unfolding capped
capped-right m n = omega arith

pub capped-limit : (n : ℕ) → nat_le (capped n) 1024 ≡ nat_le n 1024
unfolding capped
capped-limit n = grind arith

pub total_capped : (own block inner params total l n p : ℕ) → own ≡ l → block ≡ capped n → inner ≡ min (own + block) (2 ^ 64 - 1) → params ≡ capped p
    → total ≡ min (params + inner) (2 ^ 64 - 1) → nat_le total 1024 ≡ nat_le (p + (l + n)) 1024
unfolding capped
total_capped own block inner params total l n p o b i q t =
    let e : total ≡ capped (p + (l + n)) = omega (arith, o, b, i, q, t) in
    ap (λ k. nat_le k 1024) e ∙ capped-limit (p + (l + n))

pub names_in_block-none : (strings : Strings) (parts : Parts) → names_in_block strings parts [] ≡ 0
unfolding names_in_block
names_in_block-none strings parts = refl

pub names_in_block-snoc : (strings : Strings) (parts : Parts) (b : List Stmt) (x : Stmt) →
    names_in_block strings parts (b ++ x ∷ []) ≡ names_in_block strings parts b + names_in strings parts x
unfolding names_in_block names_in
names_in_block-snoc strings parts [] x = length-append (loop_names_of (stmt_of strings parts x)) [] ∙ omega arith
names_in_block-snoc strings parts (y ∷ b) x =
    length-append (loop_names_of (stmt_of strings parts y)) (loop_names (block_of (map (stmt_of strings parts) (b ++ x ∷ []))))
    ∙ ap (λ n. length (loop_names_of (stmt_of strings parts y)) + n) (names_in_block-snoc strings parts b x)
    ∙ omega (arith, length-append (loop_names_of (stmt_of strings parts y)) (loop_names (block_of (map (stmt_of strings parts) b))))

map_snoc : (texts : List (List ℕ)) (ns : List Sym) (n : Sym) → map (text texts) (ns ++ n ∷ []) ≡ map (text texts) ns ++ text texts n ∷ []
map_snoc texts [] n = refl
map_snoc texts (m ∷ ns) n = ap (λ t. text texts m ∷ t) (map_snoc texts ns n)

one_more : (xs : List (List ℕ)) (x : List ℕ) → 0 < length x → length (with_names (xs ++ x ∷ [])) ≡ length (with_names xs) + 1
one_more [] [] h = absurd (omega (arith, h))
one_more [] (b ∷ bs) h = omega arith
one_more ([] ∷ xs) x h = one_more xs x h
one_more ((c ∷ cs) ∷ xs) x h = omega (arith, one_more xs x h)

none_more : (xs : List (List ℕ)) (x : List ℕ) → length x ≡ 0 → length (with_names (xs ++ x ∷ [])) ≡ length (with_names xs)
none_more [] [] h = refl
none_more [] (b ∷ bs) h = cc
none_more ([] ∷ xs) x h = none_more xs x h
none_more ((c ∷ cs) ∷ xs) x h = ap suc (none_more xs x h)

pub named_params-none : (texts : List (List ℕ)) → named_params texts [] ≡ 0
unfolding named_params
named_params-none texts = refl

pub named_params-named : (texts : List (List ℕ)) (ns : List Sym) (n : Sym) → 0 < length (text texts n) → named_params texts (ns ++ n ∷ []) ≡ named_params texts ns + 1
unfolding named_params
named_params-named texts ns n h = ap (λ xs. length (with_names xs)) (map_snoc texts ns n) ∙ one_more (map (text texts) ns) (text texts n) h

pub named_params-unnamed : (texts : List (List ℕ)) (ns : List Sym) (n : Sym) → length (text texts n) ≡ 0 → named_params texts (ns ++ n ∷ []) ≡ named_params texts ns
unfolding named_params
named_params-unnamed texts ns n h = ap (λ xs. length (with_names xs)) (map_snoc texts ns n) ∙ none_more (map (text texts) ns) (text texts n) h

texts-map : (texts : List (List ℕ)) (ns : List Sym) → texts_of (strings_at texts) ns ≡ map (text texts) ns
unfolding text
texts-map texts [] = refl
texts-map texts (n ∷ ns) = ap (λ t. text texts n ∷ t) (texts-map texts ns)

pub body_has_few_names-parts : (texts : List (List ℕ)) (parts : Parts) (b : Body) →
    body_has_few_names texts parts b ≡ nat_le (named_params texts b.params + (length b.introduced + names_in_block (strings_at texts) parts b.block)) 1024
unfolding body_has_few_names named_params names_in_block
body_has_few_names-parts texts parts b =
    let rest = length (loop_names (block_of (map (stmt_of (strings_at texts) parts) b.block))) in
    ap (λ n. nat_le (length (with_names (texts_of (strings_at texts) b.params)) + (n + rest)) 1024) (length-texts (strings_at texts) b.introduced)
    ∙ ap (λ ps. nat_le (length (with_names ps) + (length b.introduced + rest)) 1024) (texts-map texts b.params)

pub names_in-Value : (strings : Strings) (parts : Parts) (v : Expr) → names_in strings parts (s.Value v) ≡ 0
unfolding names_in names_in_block
names_in-Value strings parts v = ap (λ t. length (loop_names_of t)) (tr.stmt_of-Value strings parts v)

pub names_in-SetLocal : (strings : Strings) (parts : Parts) (x : Sym) (v : Expr) → names_in strings parts (s.SetLocal x v) ≡ 0
unfolding names_in names_in_block
names_in-SetLocal strings parts x v = ap (λ t. length (loop_names_of t)) (tr.stmt_of-SetLocal strings parts x v)

pub names_in-SetGlobal : (strings : Strings) (parts : Parts) (x : Sym) (v : Expr) → names_in strings parts (s.SetGlobal x v) ≡ 0
unfolding names_in names_in_block
names_in-SetGlobal strings parts x v = ap (λ t. length (loop_names_of t)) (tr.stmt_of-SetGlobal strings parts x v)

pub names_in-SetField : (strings : Strings) (parts : Parts) (a : Expr) (x : Sym) (v : Expr) → names_in strings parts (s.SetField a x v) ≡ 0
unfolding names_in names_in_block
names_in-SetField strings parts a x v = ap (λ t. length (loop_names_of t)) (tr.stmt_of-SetField strings parts a x v)

pub names_in-If : (strings : Strings) (parts : Parts) (c : Expr) (a : List Stmt) (b : List Stmt) → names_in strings parts (s.If c a b) ≡ names_in_block strings parts a + names_in_block strings parts b
unfolding names_in names_in_block
names_in-If strings parts c a b = ap (λ t. length (loop_names_of t)) (tr.stmt_of-If strings parts c a b) ∙ length-append (loop_names (block_of (map (stmt_of strings parts) a))) (loop_names (block_of (map (stmt_of strings parts) b)))

pub names_in-While : (strings : Strings) (parts : Parts) (ns : List Sym) (c : Expr) (b : List Stmt) → names_in strings parts (s.While ns c b) ≡ length ns + names_in_block strings parts b
unfolding names_in names_in_block
names_in-While strings parts ns c b = ap (λ t. length (loop_names_of t)) (tr.stmt_of-While strings parts ns c b) ∙ length-append (texts_of strings ns) (loop_names (block_of (map (stmt_of strings parts) b))) ∙ ap (λ n. n + length (loop_names (block_of (map (stmt_of strings parts) b)))) (length-texts strings ns)

pub names_in-For : (strings : Strings) (parts : Parts) (x : Sym) (v : Expr) (w : Expr) (ns : List Sym) (b : List Stmt) → names_in strings parts (s.For x v w ns b) ≡ (length ns + names_in_block strings parts b) + 1
unfolding names_in names_in_block
names_in-For strings parts x v w ns b = ap (λ t. length (loop_names_of t)) (tr.stmt_of-For strings parts x v w ns b) ∙ omega (arith, length-append (texts_of strings ns) (loop_names (block_of (map (stmt_of strings parts) b))), length-texts strings ns)

pub names_in-Break : (strings : Strings) (parts : Parts) → names_in strings parts s.Break ≡ 0
unfolding names_in names_in_block
names_in-Break strings parts = ap (λ t. length (loop_names_of t)) (tr.stmt_of-Break strings parts)

pub names_in-Continue : (strings : Strings) (parts : Parts) → names_in strings parts s.Continue ≡ 0
unfolding names_in names_in_block
names_in-Continue strings parts = ap (λ t. length (loop_names_of t)) (tr.stmt_of-Continue strings parts)

pub names_in-Return : (strings : Strings) (parts : Parts) (v : Expr) → names_in strings parts (s.Return v) ≡ 0
unfolding names_in names_in_block
names_in-Return strings parts v = ap (λ t. length (loop_names_of t)) (tr.stmt_of-Return strings parts v)

pub names_in-Eval : (strings : Strings) (parts : Parts) (m : Sym) (r : Part) → names_in strings parts (s.Eval m r) ≡ 0
unfolding names_in names_in_block
names_in-Eval strings parts m r = ap (λ t. length (loop_names_of t)) (tr.stmt_of-Eval strings parts m r)

pub ruleset count_rules = (names_in-Value, names_in-SetLocal, names_in-SetGlobal, names_in-SetField, names_in-If, names_in-While, names_in-For, names_in-Break, names_in-Continue, names_in-Return, names_in-Eval, names_in_block-none, names_in_block-snoc, named_params-none, named_params-named, named_params-unnamed, body_has_few_names-parts, capped-small, capped-sum, capped-left, capped-right, capped-limit)
