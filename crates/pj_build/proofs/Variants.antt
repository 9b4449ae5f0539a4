-- An expression by numbers is one whose parts are, one lemma for each variant. The strings may grow from part to part.
use Rattle.std.proofs.Common.{◌≡◌, ℤ, pos, negsuc, true, ◌&&◌, List, map, refl, arith}
use Rattle.std.specs.Prelude.{FitsSigned}
use Rattle.std.specs.Int.{w64}
use Rattle.std.proofs.lemmas.Bool.Decides.{nat_tests}
use Rattle.pj_meaning.specs.Tree.{Text}
use Rattle.pj_tree.specs.declared.tree.Sym.{Sym}
use Rattle.pj_tree.specs.declared.tree.Expr.{Expr}
use Rattle.pj_tree.specs.declared.tree.Expr.TheVariants as expr
use Rattle.pj_tree.proofs.ExprReads.{expr_of-Nothing, expr_of-False, expr_of-True, expr_of-Int, expr_of-Str, expr_of-Local, expr_of-Global, expr_of-Field, expr_of-Call, expr_of-CallLocal, expr_of-Latest, expr_of-And, expr_of-Or, expr_of-Cond, expr_of-Same}
use Rattle.pj_plain.specs.Held.{no_strings}
use Rattle.pj_build.specs.Strings.{Grown}
use Rattle.pj_build.specs.Numbered.{is_number, is_int, all_true, only_numbers, NumberedSym, NumberedExpr, NumberedExprs}
use Rattle.pj_build.proofs.Interning.{grown_same, grown_more}
use Rattle.pj_build.proofs.Growing.{begins_less, both}
use Rattle.pj_build.proofs.NumbersReads.{only_numbers-Nothing, only_numbers-False, only_numbers-True, only_numbers-Int, only_numbers-Str, only_numbers-Local, only_numbers-Global, only_numbers-Field, only_numbers-Call, only_numbers-CallLocal, only_numbers-Latest, only_numbers-And, only_numbers-Or, only_numbers-Cond, only_numbers-Same}

pub numbered-Nothing : (strings : List Text) → NumberedExpr strings expr.Nothing expr.Nothing
numbered-Nothing strings = record {
  means = λ all begun. rw (expr_of-Nothing all, expr_of-Nothing no_strings) refl;
  numbers = rw only_numbers-Nothing refl;
}

pub numbered-False : (strings : List Text) → NumberedExpr strings expr.False expr.False
numbered-False strings = record {
  means = λ all begun. rw (expr_of-False all, expr_of-False no_strings) refl;
  numbers = rw only_numbers-False refl;
}

pub numbered-True : (strings : List Text) → NumberedExpr strings expr.True expr.True
numbered-True strings = record {
  means = λ all begun. rw (expr_of-True all, expr_of-True no_strings) refl;
  numbers = rw only_numbers-True refl;
}

int_fits : (z : ℤ) → FitsSigned w64 z → is_int z ≡ true
int_fits (pos n) f = let below = f.sfits in grind (arith, nat_tests)
int_fits (negsuc n) f = let below = f.sfits in grind (arith, nat_tests)

pub numbered-Int : (strings : List Text) (a : ℤ) → FitsSigned w64 a → NumberedExpr strings (expr.Int a) (expr.Int a)
numbered-Int strings a f = record {
  means = λ all begun. rw (expr_of-Int all a, expr_of-Int no_strings a) refl;
  numbers = rw (only_numbers-Int a) (int_fits a f);
}

pub numbered-Str : (strings : List Text) (a x : Sym) → NumberedSym strings a x → NumberedExpr strings (expr.Str a) (expr.Str x)
numbered-Str strings a x p = record {
  means = λ all begun. rw (expr_of-Str all x, expr_of-Str no_strings a, p.means all begun) refl;
  numbers = rw (only_numbers-Str x) p.number;
}

pub numbered-Local : (strings : List Text) (a x : Sym) → NumberedSym strings a x → NumberedExpr strings (expr.Local a) (expr.Local x)
numbered-Local strings a x p = record {
  means = λ all begun. rw (expr_of-Local all x, expr_of-Local no_strings a, p.means all begun) refl;
  numbers = rw (only_numbers-Local x) p.number;
}

pub numbered-Global : (before strings : List Text) (a x : Sym) (b y : Sym) → NumberedSym before a x → Grown before strings → NumberedSym strings b y → NumberedExpr strings (expr.Global a b) (expr.Global x y)
numbered-Global before strings a x b y p g q = record {
  means = λ all begun. rw (expr_of-Global all x y, expr_of-Global no_strings a b, p.means all (begins_less before strings all g begun), q.means all begun) refl;
  numbers = rw (only_numbers-Global x y) (both (is_number x) (is_number y) p.number q.number);
}

pub numbered-Field : (before strings : List Text) (a x : Expr) (b y : Sym) → NumberedExpr before a x → Grown before strings → NumberedSym strings b y → NumberedExpr strings (expr.Field a b) (expr.Field x y)
numbered-Field before strings a x b y p g q = record {
  means = λ all begun. rw (expr_of-Field all x y, expr_of-Field no_strings a b, p.means all (begins_less before strings all g begun), q.means all begun) refl;
  numbers = rw (only_numbers-Field x y) (both (only_numbers x) (is_number y) p.numbers q.number);
}

pub numbered-Call : (first before strings : List Text) (a x : Sym) (b y : Sym) (c z : List Expr) → NumberedSym first a x → Grown first before → NumberedSym before b y → Grown before strings → NumberedExprs strings c z → NumberedExpr strings (expr.Call a b c) (expr.Call x y z)
numbered-Call first before strings a x b y c z p g q h r = record {
  means = λ all begun. rw (expr_of-Call all x y z, expr_of-Call no_strings a b c, p.means all (begins_less first before all g (begins_less before strings all h begun)), q.means all (begins_less before strings all h begun), r.means all begun) refl;
  numbers = rw (only_numbers-Call x y z) (both (is_number x) (is_number y && (all_true (map only_numbers z))) p.number (both (is_number y) (all_true (map only_numbers z)) q.number r.numbers));
}

pub numbered-CallLocal : (before strings : List Text) (a x : Sym) (b y : List Expr) → NumberedSym before a x → Grown before strings → NumberedExprs strings b y → NumberedExpr strings (expr.CallLocal a b) (expr.CallLocal x y)
numbered-CallLocal before strings a x b y p g q = record {
  means = λ all begun. rw (expr_of-CallLocal all x y, expr_of-CallLocal no_strings a b, p.means all (begins_less before strings all g begun), q.means all begun) refl;
  numbers = rw (only_numbers-CallLocal x y) (both (is_number x) (all_true (map only_numbers y)) p.number q.numbers);
}

pub numbered-Latest : (before strings : List Text) (a x : Expr) (b y : List Expr) → NumberedExpr before a x → Grown before strings → NumberedExprs strings b y → NumberedExpr strings (expr.Latest a b) (expr.Latest x y)
numbered-Latest before strings a x b y p g q = record {
  means = λ all begun. rw (expr_of-Latest all x y, expr_of-Latest no_strings a b, p.means all (begins_less before strings all g begun), q.means all begun) refl;
  numbers = rw (only_numbers-Latest x y) (both (only_numbers x) (all_true (map only_numbers y)) p.numbers q.numbers);
}

pub numbered-And : (before strings : List Text) (a x : Expr) (b y : Expr) → NumberedExpr before a x → Grown before strings → NumberedExpr strings b y → NumberedExpr strings (expr.And a b) (expr.And x y)
numbered-And before strings a x b y p g q = record {
  means = λ all begun. rw (expr_of-And all x y, expr_of-And no_strings a b, p.means all (begins_less before strings all g begun), q.means all begun) refl;
  numbers = rw (only_numbers-And x y) (both (only_numbers x) (only_numbers y) p.numbers q.numbers);
}

pub numbered-Or : (before strings : List Text) (a x : Expr) (b y : Expr) → NumberedExpr before a x → Grown before strings → NumberedExpr strings b y → NumberedExpr strings (expr.Or a b) (expr.Or x y)
numbered-Or before strings a x b y p g q = record {
  means = λ all begun. rw (expr_of-Or all x y, expr_of-Or no_strings a b, p.means all (begins_less before strings all g begun), q.means all begun) refl;
  numbers = rw (only_numbers-Or x y) (both (only_numbers x) (only_numbers y) p.numbers q.numbers);
}

pub numbered-Cond : (first before strings : List Text) (a x : Expr) (b y : Expr) (c z : Expr) → NumberedExpr first a x → Grown first before → NumberedExpr before b y → Grown before strings → NumberedExpr strings c z → NumberedExpr strings (expr.Cond a b c) (expr.Cond x y z)
numbered-Cond first before strings a x b y c z p g q h r = record {
  means = λ all begun. rw (expr_of-Cond all x y z, expr_of-Cond no_strings a b c, p.means all (begins_less first before all g (begins_less before strings all h begun)), q.means all (begins_less before strings all h begun), r.means all begun) refl;
  numbers = rw (only_numbers-Cond x y z) (both (only_numbers x) (only_numbers y && (only_numbers z)) p.numbers (both (only_numbers y) (only_numbers z) q.numbers r.numbers));
}

pub numbered-Same : (before strings : List Text) (a x : Expr) (b y : Expr) → NumberedExpr before a x → Grown before strings → NumberedExpr strings b y → NumberedExpr strings (expr.Same a b) (expr.Same x y)
numbered-Same before strings a x b y p g q = record {
  means = λ all begun. rw (expr_of-Same all x y, expr_of-Same no_strings a b, p.means all (begins_less before strings all g begun), q.means all begun) refl;
  numbers = rw (only_numbers-Same x y) (both (only_numbers x) (only_numbers y) p.numbers q.numbers);
}

pub ruleset variants = (grown_same, grown_more, numbered-Nothing, numbered-False, numbered-True, numbered-Int, numbered-Str, numbered-Local, numbered-Global, numbered-Field, numbered-Call, numbered-CallLocal, numbered-Latest, numbered-And, numbered-Or, numbered-Cond, numbered-Same)
