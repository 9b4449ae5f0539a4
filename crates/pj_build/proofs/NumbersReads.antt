-- The equations of the test that each name is a number, one for each variant.
use Rattle.std.proofs.Common.{◌≡◌, ℤ, Bool, true, ◌&&◌, List, map, sym, ap, ◌∙◌}
use Rattle.pj_tree.specs.declared.tree.Sym.{Sym}
use Rattle.pj_tree.specs.declared.tree.Expr.{Expr}
use Rattle.pj_tree.specs.declared.tree.Expr.TheVariants as expr
use Rattle.pj_tree.specs.declared.tree.Expr.TheOpen.{Expr-F}
use Rattle.pj_tree.specs.declared.tree.Expr.TheFolds.{fold-roll-Expr}
use Rattle.pj_build.specs.Numbered.{is_number, is_int, all_true, numbers_step, only_numbers}

pub only_numbers-Nothing : only_numbers expr.Nothing ≡ (true)
only_numbers-Nothing = ap only_numbers (sym expr.rolls-Nothing) ∙ fold-roll-Expr Bool numbers_step Expr-F.Nothing

pub only_numbers-False : only_numbers expr.False ≡ (true)
only_numbers-False = ap only_numbers (sym expr.rolls-False) ∙ fold-roll-Expr Bool numbers_step Expr-F.False

pub only_numbers-True : only_numbers expr.True ≡ (true)
only_numbers-True = ap only_numbers (sym expr.rolls-True) ∙ fold-roll-Expr Bool numbers_step Expr-F.True

pub only_numbers-Int : (a : ℤ) → only_numbers (expr.Int a) ≡ (is_int a)
only_numbers-Int a = ap only_numbers (sym (expr.rolls-Int a)) ∙ fold-roll-Expr Bool numbers_step (Expr-F.Int a)

pub only_numbers-Str : (a : Sym) → only_numbers (expr.Str a) ≡ (is_number a)
only_numbers-Str a = ap only_numbers (sym (expr.rolls-Str a)) ∙ fold-roll-Expr Bool numbers_step (Expr-F.Str a)

pub only_numbers-Local : (a : Sym) → only_numbers (expr.Local a) ≡ (is_number a)
only_numbers-Local a = ap only_numbers (sym (expr.rolls-Local a)) ∙ fold-roll-Expr Bool numbers_step (Expr-F.Local a)

pub only_numbers-Global : (a : Sym) (b : Sym) → only_numbers (expr.Global a b) ≡ (is_number a && is_number b)
only_numbers-Global a b = ap only_numbers (sym (expr.rolls-Global a b)) ∙ fold-roll-Expr Bool numbers_step (Expr-F.Global a b)

pub only_numbers-Field : (a : Expr) (b : Sym) → only_numbers (expr.Field a b) ≡ (only_numbers a && is_number b)
only_numbers-Field a b = ap only_numbers (sym (expr.rolls-Field a b)) ∙ fold-roll-Expr Bool numbers_step (Expr-F.Field a b)

pub only_numbers-Call : (a : Sym) (b : Sym) (c : List Expr) → only_numbers (expr.Call a b c) ≡ (is_number a && (is_number b && all_true (map only_numbers c)))
only_numbers-Call a b c = ap only_numbers (sym (expr.rolls-Call a b c)) ∙ fold-roll-Expr Bool numbers_step (Expr-F.Call a b c)

pub only_numbers-CallLocal : (a : Sym) (b : List Expr) → only_numbers (expr.CallLocal a b) ≡ (is_number a && all_true (map only_numbers b))
only_numbers-CallLocal a b = ap only_numbers (sym (expr.rolls-CallLocal a b)) ∙ fold-roll-Expr Bool numbers_step (Expr-F.CallLocal a b)

pub only_numbers-Latest : (a : Expr) (b : List Expr) → only_numbers (expr.Latest a b) ≡ (only_numbers a && all_true (map only_numbers b))
only_numbers-Latest a b = ap only_numbers (sym (expr.rolls-Latest a b)) ∙ fold-roll-Expr Bool numbers_step (Expr-F.Latest a b)

pub only_numbers-And : (a : Expr) (b : Expr) → only_numbers (expr.And a b) ≡ (only_numbers a && only_numbers b)
only_numbers-And a b = ap only_numbers (sym (expr.rolls-And a b)) ∙ fold-roll-Expr Bool numbers_step (Expr-F.And a b)

pub only_numbers-Or : (a : Expr) (b : Expr) → only_numbers (expr.Or a b) ≡ (only_numbers a && only_numbers b)
only_numbers-Or a b = ap only_numbers (sym (expr.rolls-Or a b)) ∙ fold-roll-Expr Bool numbers_step (Expr-F.Or a b)

pub only_numbers-Cond : (a : Expr) (b : Expr) (c : Expr) → only_numbers (expr.Cond a b c) ≡ (only_numbers a && (only_numbers b && only_numbers c))
only_numbers-Cond a b c = ap only_numbers (sym (expr.rolls-Cond a b c)) ∙ fold-roll-Expr Bool numbers_step (Expr-F.Cond a b c)

pub only_numbers-Same : (a : Expr) (b : Expr) → only_numbers (expr.Same a b) ≡ (only_numbers a && only_numbers b)
only_numbers-Same a b = ap only_numbers (sym (expr.rolls-Same a b)) ∙ fold-roll-Expr Bool numbers_step (Expr-F.Same a b)
