-- The equations of the reading of expressions, one for each variant.
use Rattle.std.proofs.Common.{◌≡◌, ℤ, List, map, sym, ap, ◌∙◌}
use Rattle.pj_meaning.specs.Tree as tree
use Rattle.pj_tree.specs.Reads.{Strings, text_of_sym, exprs_of, expr_layer, expr_of}
use Rattle.pj_tree.specs.declared.tree.Sym.{Sym}
use Rattle.pj_tree.specs.declared.tree.Expr.{Expr}
use Rattle.pj_tree.specs.declared.tree.Expr.TheVariants as expr
use Rattle.pj_tree.specs.declared.tree.Expr.TheOpen.{Expr-F}
use Rattle.pj_tree.specs.declared.tree.Expr.TheFolds.{fold-roll-Expr}

pub expr_of-Nothing : (strings : Strings) → expr_of strings expr.Nothing ≡ tree.Nothing
expr_of-Nothing strings =
    ap (expr_of strings) (sym expr.rolls-Nothing) ∙ fold-roll-Expr tree.Expr (expr_layer strings) Expr-F.Nothing

pub expr_of-False : (strings : Strings) → expr_of strings expr.False ≡ tree.False
expr_of-False strings =
    ap (expr_of strings) (sym expr.rolls-False) ∙ fold-roll-Expr tree.Expr (expr_layer strings) Expr-F.False

pub expr_of-True : (strings : Strings) → expr_of strings expr.True ≡ tree.True
expr_of-True strings =
    ap (expr_of strings) (sym expr.rolls-True) ∙ fold-roll-Expr tree.Expr (expr_layer strings) Expr-F.True

pub expr_of-Int : (strings : Strings) (n : ℤ) → expr_of strings (expr.Int n) ≡ tree.Int n
expr_of-Int strings n =
    ap (expr_of strings) (sym (expr.rolls-Int n)) ∙ fold-roll-Expr tree.Expr (expr_layer strings) (Expr-F.Int n)

pub expr_of-Str : (strings : Strings) (s : Sym) → expr_of strings (expr.Str s) ≡ tree.Str (text_of_sym strings s)
expr_of-Str strings s =
    ap (expr_of strings) (sym (expr.rolls-Str s)) ∙ fold-roll-Expr tree.Expr (expr_layer strings) (Expr-F.Str s)

pub expr_of-Local : (strings : Strings) (x : Sym) → expr_of strings (expr.Local x) ≡ tree.Local (text_of_sym strings x)
expr_of-Local strings x =
    ap (expr_of strings) (sym (expr.rolls-Local x)) ∙ fold-roll-Expr tree.Expr (expr_layer strings) (Expr-F.Local x)

pub expr_of-Global : (strings : Strings) (m : Sym) (x : Sym) → expr_of strings (expr.Global m x) ≡ tree.Global (text_of_sym strings m) (text_of_sym strings x)
expr_of-Global strings m x =
    ap (expr_of strings) (sym (expr.rolls-Global m x)) ∙ fold-roll-Expr tree.Expr (expr_layer strings) (Expr-F.Global m x)

pub expr_of-Field : (strings : Strings) (a : Expr) (x : Sym) → expr_of strings (expr.Field a x) ≡ tree.Field (expr_of strings a) (text_of_sym strings x)
expr_of-Field strings a x =
    ap (expr_of strings) (sym (expr.rolls-Field a x)) ∙ fold-roll-Expr tree.Expr (expr_layer strings) (Expr-F.Field a x)

pub expr_of-Call : (strings : Strings) (m : Sym) (f : Sym) (es : List Expr) → expr_of strings (expr.Call m f es) ≡ tree.Call (text_of_sym strings m) (text_of_sym strings f) (exprs_of (map (expr_of strings) es))
expr_of-Call strings m f es =
    ap (expr_of strings) (sym (expr.rolls-Call m f es)) ∙ fold-roll-Expr tree.Expr (expr_layer strings) (Expr-F.Call m f es)

pub expr_of-CallLocal : (strings : Strings) (x : Sym) (es : List Expr) → expr_of strings (expr.CallLocal x es) ≡ tree.CallLocal (text_of_sym strings x) (exprs_of (map (expr_of strings) es))
expr_of-CallLocal strings x es =
    ap (expr_of strings) (sym (expr.rolls-CallLocal x es)) ∙ fold-roll-Expr tree.Expr (expr_layer strings) (Expr-F.CallLocal x es)

pub expr_of-Latest : (strings : Strings) (f : Expr) (es : List Expr) → expr_of strings (expr.Latest f es) ≡ tree.Latest (expr_of strings f) (exprs_of (map (expr_of strings) es))
expr_of-Latest strings f es =
    ap (expr_of strings) (sym (expr.rolls-Latest f es)) ∙ fold-roll-Expr tree.Expr (expr_layer strings) (Expr-F.Latest f es)

pub expr_of-And : (strings : Strings) (a : Expr) (b : Expr) → expr_of strings (expr.And a b) ≡ tree.And (expr_of strings a) (expr_of strings b)
expr_of-And strings a b =
    ap (expr_of strings) (sym (expr.rolls-And a b)) ∙ fold-roll-Expr tree.Expr (expr_layer strings) (Expr-F.And a b)

pub expr_of-Or : (strings : Strings) (a : Expr) (b : Expr) → expr_of strings (expr.Or a b) ≡ tree.Or (expr_of strings a) (expr_of strings b)
expr_of-Or strings a b =
    ap (expr_of strings) (sym (expr.rolls-Or a b)) ∙ fold-roll-Expr tree.Expr (expr_layer strings) (Expr-F.Or a b)

pub expr_of-Cond : (strings : Strings) (a : Expr) (b : Expr) (c : Expr) → expr_of strings (expr.Cond a b c) ≡ tree.Cond (expr_of strings a) (expr_of strings b) (expr_of strings c)
expr_of-Cond strings a b c =
    ap (expr_of strings) (sym (expr.rolls-Cond a b c)) ∙ fold-roll-Expr tree.Expr (expr_layer strings) (Expr-F.Cond a b c)

pub expr_of-Same : (strings : Strings) (a : Expr) (b : Expr) → expr_of strings (expr.Same a b) ≡ tree.Same (expr_of strings a) (expr_of strings b)
expr_of-Same strings a b =
    ap (expr_of strings) (sym (expr.rolls-Same a b)) ∙ fold-roll-Expr tree.Expr (expr_layer strings) (Expr-F.Same a b)

pub ruleset expr_reads = (expr_of-Nothing, expr_of-False, expr_of-True, expr_of-Int, expr_of-Str, expr_of-Local, expr_of-Global, expr_of-Field, expr_of-Call, expr_of-CallLocal, expr_of-Latest, expr_of-And, expr_of-Or, expr_of-Cond, expr_of-Same)
