-- Lists of parameters, statements and arguments, by how long they are.
use Rattle.std.proofs.Common.{◌≡◌, ℕ, refl, ap, suc, Option, Some, None, true, false, Bool, get_or, ◌&&◌, List, [], ◌∷◌, length, ◌≤◌, nat_eq, nat_le, arith}
use Rattle.std.specs.List.{list_any, list_all}
use Rattle.std.specs.Option.{option_flatten}
use Rattle.std.specs.Str.{bytes_eq}
use Rattle.std.proofs.lemmas.List.Folds.{list_all-map}
use Rattle.std.proofs.lemmas.List.{length-map}
use Rattle.pj_base.proofs.PlaceLemmas.{list_any-map}
use Rattle.pj_meaning.specs.Tree as tree
use Rattle.pj_meaning.specs.Tree.{Text, Stmt, Value, SetLocal, SetGlobal, SetField, If, While, For, Break, Continue, Return, Eval, Block, step, end}
use Rattle.pj_tree.specs.Reads.{as_body, block_of, params_of, param_of, part_of, type_of}
use Rattle.pj_tree.proofs.TreeReads.{def_of-DefTree}
use Rattle.pj_tree.specs.declared.tree.Param.{Param}
use Rattle.pj_tree.specs.declared.tree.Expr.{Expr}
use Rattle.pj_tree.specs.declared.tree.DefTree.{DefTree}
use Rattle.pj_plain.specs.Forms.{only}
use Rattle.pj_plain.specs.Held.{held_expr, held_exprs, held_names, held_parts, held_text, no_parts, no_strings}
use Rattle.pj_plain.specs.Names.{all_different, free_name, is_among}
use Rattle.pj_plain.specs.Plain.{has_count, how_many, is_empty, is_int64, is_literal, literals_only, names_of, plain_block, plain_body, plain_definition, plain_expr, plain_pair, same_texts}

pub among_names : (params : List Param) (word : Text) → is_among word (held_names params) ≡ list_any (λ p. bytes_eq word (held_text p.name)) params
among_names params word = list_any-map (λ p. held_text p.name) (bytes_eq word) params

and_false : (b : Bool) → (b && false) ≡ false
and_false true = refl
and_false false = refl

-- arguments that are two, fewer or more
pub two_are : (names : List Text) (es : List Expr) (a b : Expr) → length es ≡ 2 → a ≡ get_or es 0 a → b ≡ get_or es 1 b
    → plain_pair names (held_exprs es) ≡ (plain_expr names (held_expr a) && plain_expr names (held_expr b))
two_are names [] a b h x y = absurd (omega (arith, h))
two_are names (c ∷ []) a b h x y = absurd (omega (arith, h))
two_are names (c ∷ (d ∷ [])) a b h x y = rw (x, y) refl
two_are names (c ∷ (d ∷ (e ∷ es))) a b h x y = absurd (omega (arith, h))

pub fewer_are_no_pair : (names : List Text) (es : List Expr) → length es ≤ 1 → plain_pair names (held_exprs es) ≡ false
fewer_are_no_pair names [] h = refl
fewer_are_no_pair names (a ∷ []) h = and_false (plain_expr names (held_expr a))
fewer_are_no_pair names (a ∷ (b ∷ es)) h = absurd (omega (arith, h))

pub more_are_no_pair : (names : List Text) (es : List Expr) → 3 ≤ length es → plain_pair names (held_exprs es) ≡ false
more_are_no_pair names [] h = absurd (omega (arith, h))
more_are_no_pair names (a ∷ []) h = absurd (omega (arith, h))
more_are_no_pair names (a ∷ (b ∷ [])) h = absurd (omega (arith, h))
more_are_no_pair names (a ∷ (b ∷ (c ∷ es))) h = and_false (plain_expr names (held_expr a))

-- more than one statement
pub two_statements : (names : List Text) (s t : Stmt) (b : Block) → plain_block names (step s (step t b)) ≡ false
two_statements names (Value e) t b = refl
two_statements names (SetLocal x e) t b = refl
two_statements names (SetGlobal x e) t b = refl
two_statements names (SetField a x e) t b = refl
two_statements names (If c a d) t b = refl
two_statements names (While xs c a) t b = refl
two_statements names (For x c d xs a) t b = refl
two_statements names Break t b = refl
two_statements names Continue t b = refl
two_statements names (Return e) t b = refl
two_statements names (Eval m p) t b = refl

pub more_statements : (names : List Text) (ss : List Stmt) → 2 ≤ length ss → plain_block names (block_of ss) ≡ false
more_statements names [] h = absurd (omega (arith, h))
more_statements names (s ∷ []) h = absurd (omega (arith, h))
more_statements names (s ∷ (t ∷ ss)) h = two_statements names s t (block_of ss)

-- more than one argument
pub more_than_one : (es : List Expr) → 2 ≤ length es → only (held_exprs es) ≡ None
more_than_one [] h = absurd (omega (arith, h))
more_than_one (a ∷ []) h = absurd (omega (arith, h))
more_than_one (a ∷ (b ∷ es)) h = refl

pub all_integers : (es : List Expr) → literals_only (held_exprs es) ≡ list_all (λ e. is_literal (held_expr e)) es
all_integers [] = refl
all_integers (e ∷ es) = ap (λ b. is_literal (held_expr e) && b) (all_integers es)

pub so_many : (es : List Expr) → how_many (held_exprs es) ≡ length es
so_many [] = refl
so_many (e ∷ es) = ap suc (so_many es)

pub counted : (es : List Expr) (n : ℕ) (o : Option (Option ℕ)) → Some (Some n) ≡ o → nat_eq (length es) n ≡ has_count (how_many (held_exprs es)) (option_flatten o)
counted es n o h = rw (so_many es, ← h) refl

-- names that are no parameters
pub none_same : (names : List Text) → same_texts [] names ≡ nat_eq (length names) 0
none_same [] = refl
none_same (n ∷ names) = grind arith

-- the names of the parameters of a tree
pub names_held : (params : List Param) → names_of (params_of no_strings params) ≡ held_names params
names_held [] = refl
names_held (p ∷ params) = ap (λ names. held_text p.name ∷ names) (names_held params)

pub all_held : (params : List Param) → list_all (λ (p : tree.Param). is_int64 p.declared) (params_of no_strings params) ≡ list_all (λ p. is_int64 (type_of no_strings p.declared)) params
all_held params = list_all-map (λ p. is_int64 p.declared) (param_of no_strings) params

pub so_many_held : (params : List Param) → length (params_of no_strings params) ≡ length params
so_many_held params = length-map params (param_of no_strings)

pub empty_at : (t : Text) → is_empty t ≡ nat_eq (length t) 0
empty_at [] = refl
empty_at (b ∷ bs) = grind arith

-- a definition by the parts of its tree
pub plain_parts : (d : DefTree) → plain_definition (held_parts d).home (held_parts d).fun (held_parts d).params (held_parts d).code
    ≡ (is_empty (held_text d.«module») && (free_name (held_text d.fun) && (nat_le (length d.params) 16
    && (list_all (λ p. is_int64 (type_of no_strings p.declared)) d.params && (all_different (held_names d.params) && plain_body (held_names d.params) (as_body (part_of no_strings no_parts d.body)))))))
plain_parts d = rw (def_of-DefTree no_strings no_parts d, all_held d.params, names_held d.params, so_many_held d.params) refl
