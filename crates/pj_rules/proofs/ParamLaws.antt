-- Names that stand twice among parameters, as far as a loop has come.
use Rattle.std.proofs.Common.{◌≡◌, ◌<◌, ℕ, suc, Bool, true, false, not, ◌&&◌, ◌||◌, List, [], ◌∷◌, ◌++◌, map, length, refl, ap, ◌∙◌, arith}
use Rattle.std.specs.Prelude.{nat_le, nat_eq}
use Rattle.std.specs.Str.{bytes_eq}
use Rattle.pj_tree.specs.Reads.{params_of}
use Rattle.pj_tree.specs.Scopes.{is_among, with_names, has_twice, names_of, names_twice}
use Rattle.pj_rules.specs.Names.{strings_at, text, param_text, stands_among, twice_named, params_are_ok}
use Rattle.pj_tree.specs.declared.tree.Param.{Param}

or_assoc : (a b c : Bool) → a || (b || c) ≡ (a || b) || c
or_assoc true b c = refl
or_assoc false b c = refl

or_false : (a : Bool) → a || false ≡ a
or_false true = refl
or_false false = refl

or_swap : (a b c d : Bool) → (a || b) || (c || d) ≡ (a || c) || (b || d)
or_swap true b c d = refl
or_swap false true true d = refl
or_swap false true false d = refl
or_swap false false c d = refl

bytes_swap : (xs ys : List ℕ) → bytes_eq xs ys ≡ bytes_eq ys xs
bytes_swap [] [] = refl
bytes_swap [] (y ∷ ys) = refl
bytes_swap (x ∷ xs) [] = refl
bytes_swap (x ∷ xs) (y ∷ ys) = let e : nat_eq x y ≡ nat_eq y x = grind arith in rw e (ap (λ b. nat_eq y x && b) (bytes_swap xs ys))

among_snoc : (x : List ℕ) (ys : List (List ℕ)) (y : List ℕ) → is_among x (ys ++ y ∷ []) ≡ is_among x ys || bytes_eq x y
among_snoc x [] y = or_false (bytes_eq x y)
among_snoc x (z ∷ ys) y = ap (λ b. bytes_eq x z || b) (among_snoc x ys y) ∙ or_assoc (bytes_eq x z) (is_among x ys) (bytes_eq x y)

twice_snoc : (xs : List (List ℕ)) (x : List ℕ) → has_twice (xs ++ x ∷ []) ≡ has_twice xs || is_among x xs
twice_snoc [] x = refl
twice_snoc (y ∷ xs) x =
    ap (λ b. b || has_twice (xs ++ x ∷ [])) (among_snoc y xs x)
    ∙ ap (λ b. (is_among y xs || bytes_eq y x) || b) (twice_snoc xs x)
    ∙ or_swap (is_among y xs) (bytes_eq y x) (has_twice xs) (is_among x xs)
    ∙ ap (λ b. (is_among y xs || has_twice xs) || (b || is_among x xs)) (bytes_swap y x)

named_append : (xs ys : List (List ℕ)) → with_names (xs ++ ys) ≡ with_names xs ++ with_names ys
named_append [] ys = refl
named_append ([] ∷ xs) ys = named_append xs ys
named_append ((b ∷ bs) ∷ xs) ys = ap (λ t. (b ∷ bs) ∷ t) (named_append xs ys)

-- a name is among those with a name where it is among all
among_named : (b : ℕ) (bs : List ℕ) (xs : List (List ℕ)) → is_among (b ∷ bs) (with_names xs) ≡ is_among (b ∷ bs) xs
among_named b bs [] = refl
among_named b bs ([] ∷ xs) = among_named b bs xs
among_named b bs ((c ∷ cs) ∷ xs) = ap (λ t. bytes_eq (b ∷ bs) (c ∷ cs) || t) (among_named b bs xs)

append_none : (xs : List (List ℕ)) → xs ++ [] ≡ xs
append_none [] = refl
append_none (x ∷ xs) = ap (λ t. x ∷ t) (append_none xs)

snoc_empty : (xs : List (List ℕ)) → names_twice (xs ++ [] ∷ []) ≡ names_twice xs
snoc_empty xs = ap has_twice (named_append xs ([] ∷ [])) ∙ ap has_twice (append_none (with_names xs))

snoc_named : (xs : List (List ℕ)) (b : ℕ) (bs : List ℕ) → names_twice (xs ++ (b ∷ bs) ∷ []) ≡ names_twice xs || is_among (b ∷ bs) xs
snoc_named xs b bs =
    ap has_twice (named_append xs ((b ∷ bs) ∷ []))
    ∙ twice_snoc (with_names xs) (b ∷ bs)
    ∙ ap (λ t. names_twice xs || t) (among_named b bs xs)

snoc_some : (xs : List (List ℕ)) (x : List ℕ) → 0 < length x → names_twice (xs ++ x ∷ []) ≡ names_twice xs || is_among x xs
snoc_some xs [] h = absurd (omega (arith, h))
snoc_some xs (b ∷ bs) h = snoc_named xs b bs

snoc_none : (xs : List (List ℕ)) (x : List ℕ) → length x ≡ 0 → names_twice (xs ++ x ∷ []) ≡ names_twice xs
snoc_none xs [] h = snoc_empty xs
snoc_none xs (b ∷ bs) h = cc

map_snoc : (texts : List (List ℕ)) (ps : List Param) (p : Param) → map (param_text texts) (ps ++ p ∷ []) ≡ map (param_text texts) ps ++ param_text texts p ∷ []
map_snoc texts [] p = refl
map_snoc texts (q ∷ ps) p = ap (λ t. param_text texts q ∷ t) (map_snoc texts ps p)

pub stands_among-none : (texts : List (List ℕ)) (x : List ℕ) → stands_among texts x [] ≡ false
unfolding stands_among
stands_among-none texts x = refl

pub stands_among-snoc : (texts : List (List ℕ)) (x : List ℕ) (ps : List Param) (p : Param) →
    stands_among texts x (ps ++ p ∷ []) ≡ stands_among texts x ps || bytes_eq x (text texts p.name)
unfolding stands_among
stands_among-snoc texts x ps p = ap (is_among x) (map_snoc texts ps p) ∙ among_snoc x (map (param_text texts) ps) (param_text texts p)

pub twice_named-none : (texts : List (List ℕ)) → twice_named texts [] ≡ false
unfolding twice_named
twice_named-none texts = refl

pub twice_named-unnamed : (texts : List (List ℕ)) (ps : List Param) (p : Param) → length (text texts p.name) ≡ 0 →
    twice_named texts (ps ++ p ∷ []) ≡ twice_named texts ps
unfolding twice_named
twice_named-unnamed texts ps p h = ap names_twice (map_snoc texts ps p) ∙ snoc_none (map (param_text texts) ps) (param_text texts p) h

pub twice_named-snoc : (texts : List (List ℕ)) (ps : List Param) (p : Param) → 0 < length (text texts p.name) →
    twice_named texts (ps ++ p ∷ []) ≡ twice_named texts ps || stands_among texts (text texts p.name) ps
unfolding twice_named stands_among
twice_named-snoc texts ps p h = ap names_twice (map_snoc texts ps p) ∙ snoc_some (map (param_text texts) ps) (param_text texts p) h

names-map : (texts : List (List ℕ)) (ps : List Param) → names_of (params_of (strings_at texts) ps) ≡ map (param_text texts) ps
unfolding text
names-map texts [] = refl
names-map texts (p ∷ ps) = ap (λ t. text texts p.name ∷ t) (names-map texts ps)

length-params : (texts : List (List ℕ)) (ps : List Param) → length (params_of (strings_at texts) ps) ≡ length ps
length-params texts [] = refl
length-params texts (p ∷ ps) = ap suc (length-params texts ps)

pub params_are_ok-parts : (texts : List (List ℕ)) (ps : List Param) → params_are_ok texts ps ≡ nat_le (length ps) 16 && not (twice_named texts ps)
unfolding twice_named params_are_ok
params_are_ok-parts texts ps =
    ap (λ n. nat_le n 16 && not (names_twice (names_of (params_of (strings_at texts) ps)))) (length-params texts ps)
    ∙ ap (λ ns. nat_le (length ps) 16 && not (names_twice ns)) (names-map texts ps)

pub ruleset param_rules = (stands_among-none, stands_among-snoc, twice_named-none, twice_named-unnamed, twice_named-snoc, params_are_ok-parts)
