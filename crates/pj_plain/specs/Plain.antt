-- Which expressions and definitions are plain: those of functions of whole numbers.
use Rattle.std.specs.Prelude.{ℕ, zero, suc, Bool, true, false, ◌&&◌, ◌||◌, List, [], ◌∷◌, map, length, codes, nat_le, ◌==◌, Option, Some, None}
use Rattle.std.specs.List.{list_all}
use Rattle.std.specs.Str.{bytes_eq}
use Rattle.pj_meaning.specs.Tree.{Text, TypeRef, Param, Expr, Exprs, Int, Local, Call, none, also, Value, Block, end, step, Body, body}
use Rattle.pj_plain.specs.Names.{all_different, free_name, is_among}

abbrev pub same_texts : List Text → List Text → Bool
same_texts [] [] = true
same_texts [] (y ∷ ys) = false
same_texts (x ∷ xs) [] = false
same_texts (x ∷ xs) (y ∷ ys) = bytes_eq x y && same_texts xs ys

abbrev pub is_empty : Text → Bool
is_empty [] = true
is_empty (b ∷ bs) = false

abbrev pub is_operator : Text → Bool
is_operator name = bytes_eq name (codes "+") || (bytes_eq name (codes "-") || bytes_eq name (codes "*"))

-- an integer, a parameter, or Base's `+`, `-` or `*` on two such expressions
abbrev mutual
  pub plain_expr : List Text → Expr → Bool
  plain_expr names (Int z) = true
  plain_expr names (Local x) = is_among x names
  plain_expr names (Call m f es) = bytes_eq m (codes "Base") && (is_operator f && plain_pair names es)
  plain_expr names e = false

  pub plain_pair : List Text → Exprs → Bool
  plain_pair names none = false
  plain_pair names (also a es) = plain_expr names a && plain_last names es

  pub plain_last : List Text → Exprs → Bool
  plain_last names none = false
  plain_last names (also b none) = plain_expr names b
  plain_last names (also b (also c es)) = false

-- one such expression
abbrev pub plain_block : List Text → Block → Bool
plain_block names (step (Value e) end) = plain_expr names e
plain_block names b = false

-- a body with these parameters
abbrev pub plain_body : List Text → Body → Bool
plain_body names (body params [] b) = same_texts params names && plain_block names b
plain_body names (body params (x ∷ xs) b) = false

abbrev pub is_int64 : TypeRef → Bool
is_int64 t = is_empty t.home && bytes_eq t.name (codes "Int64")

abbrev pub names_of : List Param → List Text
names_of params = map (λ p. p.name) params

abbrev pub is_literal : Expr → Bool
is_literal (Int z) = true
is_literal e = false

abbrev pub literals_only : Exprs → Bool
literals_only none = true
literals_only (also e es) = is_literal e && literals_only es

abbrev pub how_many : Exprs → ℕ
how_many none = zero
how_many (also e es) = suc (how_many es)

abbrev pub has_count : ℕ → Option ℕ → Bool
has_count n None = false
has_count n (Some m) = n == m

-- a definition whose name is free, and whose parameters are few and different and all Int64
abbrev pub plain_definition : Text → Text → List Param → Body → Bool
plain_definition m f params b =
    is_empty m && (free_name f && (nat_le (length params) 16
    && (list_all (λ p. is_int64 p.declared) params && (all_different (names_of params) && plain_body (names_of params) b))))
