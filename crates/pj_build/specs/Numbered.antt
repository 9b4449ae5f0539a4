-- Names and expressions by the numbers of their names.
use Rattle.std.specs.Prelude.{◌≡◌, ◌^◌, ℤ, pos, negsuc, Bool, true, false, nat_lt, ◌&&◌, List, [], ◌∷◌, map}
use Rattle.pj_meaning.specs.Tree.{Text}
use Rattle.pj_tree.specs.Reads.{Strings, text_of_sym, texts_of, expr_of}
use Rattle.pj_tree.specs.declared.tree.Sym.{Sym}
use Rattle.pj_tree.specs.declared.tree.Sym.TheVariants as s
use Rattle.pj_tree.specs.declared.tree.Expr.{Expr}
use Rattle.pj_tree.specs.declared.tree.Expr.TheOpen.{Expr-F}
use Rattle.pj_tree.specs.declared.tree.Expr.TheFolds.{fold-Expr}
use Rattle.pj_plain.specs.Held.{held_text, held_expr}
use Rattle.pj_build.specs.Strings.{Begins}

-- a number of four bytes
abbrev pub is_number : Sym → Bool
is_number (s.Number n) = nat_lt n (2 ^ 32)
is_number (s.Text t) = false

-- an integer of eight bytes
abbrev pub is_int : ℤ → Bool
is_int (pos n) = nat_lt n (2 ^ 63)
is_int (negsuc n) = nat_lt n (2 ^ 63)

abbrev pub all_true : List Bool → Bool
all_true [] = true
all_true (b ∷ bs) = b && all_true bs

-- one node, each node below it as its Bool says
abbrev pub numbers_step : Expr-F Bool → Bool
numbers_step Expr-F.Nothing = true
numbers_step Expr-F.False = true
numbers_step Expr-F.True = true
numbers_step (Expr-F.Int z) = is_int z
numbers_step (Expr-F.Str text) = is_number text
numbers_step (Expr-F.Local name) = is_number name
numbers_step (Expr-F.Global owner name) = is_number owner && is_number name
numbers_step (Expr-F.Field of name) = of && is_number name
numbers_step (Expr-F.Call owner name args) = is_number owner && (is_number name && all_true args)
numbers_step (Expr-F.CallLocal name args) = is_number name && all_true args
numbers_step (Expr-F.Latest callee args) = callee && all_true args
numbers_step (Expr-F.And left right) = left && right
numbers_step (Expr-F.Or left right) = left && right
numbers_step (Expr-F.Cond test chosen other) = test && (chosen && other)
numbers_step (Expr-F.Same left right) = left && right

-- each name in it is a number, and each integer has eight bytes
abbrev pub only_numbers : Expr → Bool
only_numbers = fold-Expr Bool numbers_step

-- a number of the same name, over any strings that begin with these
pub record NumberedSym (strings : List Text) (held x : Sym) : Type 0 where
  pub means : (all : Strings) → Begins strings all → text_of_sym all x ≡ held_text held
  pub number : is_number x ≡ true

pub record NumberedSyms (strings : List Text) (held xs : List Sym) : Type 0 where
  pub means : (all : Strings) → Begins strings all → texts_of all xs ≡ map held_text held
  pub numbers : all_true (map is_number xs) ≡ true

-- the same expression by numbers, over any strings that begin with these
pub record NumberedExpr (strings : List Text) (held x : Expr) : Type 0 where
  pub means : (all : Strings) → Begins strings all → expr_of all x ≡ held_expr held
  pub numbers : only_numbers x ≡ true

pub record NumberedExprs (strings : List Text) (held xs : List Expr) : Type 0 where
  pub means : (all : Strings) → Begins strings all → map (expr_of all) xs ≡ map held_expr held
  pub numbers : all_true (map only_numbers xs) ≡ true
