-- The bytes of expressions, one equation for each tag.
use Rattle.std.proofs.Common.{◌≡◌, ℤ, List, [], ◌∷◌, ◌++◌, map, flat_map, length, refl, sym, ap, ◌∙◌, append_assoc}
use Rattle.std.proofs.lemmas.List.{length-map}
use Rattle.pj_fields.specs.Fields.{number, int, list}
use Rattle.pj_tree.specs.Bytes.{Bytes, expr_step, expr}
use Rattle.pj_tree.specs.Bytes.{sym as name}
use Rattle.pj_tree.proofs.NameLaws.{parts-is}
use Rattle.pj_tree.specs.declared.tree.Sym.{Sym}
use Rattle.pj_tree.specs.declared.tree.Expr.{Expr}
use Rattle.pj_tree.specs.declared.tree.Expr.TheVariants as e
use Rattle.pj_tree.specs.declared.tree.Expr.TheOpen.{Expr-F}
use Rattle.pj_tree.specs.declared.tree.Expr.TheFolds.{fold-roll-Expr}

pub expr-Nothing : expr e.Nothing ≡ number 0
expr-Nothing = ap expr (sym e.rolls-Nothing) ∙ fold-roll-Expr Bytes expr_step Expr-F.Nothing

pub expr-False : expr e.False ≡ number 1
expr-False = ap expr (sym e.rolls-False) ∙ fold-roll-Expr Bytes expr_step Expr-F.False

pub expr-True : expr e.True ≡ number 2
expr-True = ap expr (sym e.rolls-True) ∙ fold-roll-Expr Bytes expr_step Expr-F.True

pub expr-Int : (z : ℤ) → expr (e.Int z) ≡ number 3 ++ int z
expr-Int z = ap expr (sym (e.rolls-Int z)) ∙ fold-roll-Expr Bytes expr_step (Expr-F.Int z)

pub expr-Str : (s : Sym) → expr (e.Str s) ≡ number 4 ++ name s
expr-Str s = ap expr (sym (e.rolls-Str s)) ∙ fold-roll-Expr Bytes expr_step (Expr-F.Str s)

pub expr-Local : (x : Sym) → expr (e.Local x) ≡ number 5 ++ name x
expr-Local x = ap expr (sym (e.rolls-Local x)) ∙ fold-roll-Expr Bytes expr_step (Expr-F.Local x)

pub expr-Global : (m : Sym) (x : Sym) → expr (e.Global m x) ≡ number 6 ++ name m ++ name x
expr-Global m x = ap expr (sym (e.rolls-Global m x)) ∙ fold-roll-Expr Bytes expr_step (Expr-F.Global m x)

pub expr-Field : (a : Expr) (x : Sym) → expr (e.Field a x) ≡ number 7 ++ expr a ++ name x
expr-Field a x = ap expr (sym (e.rolls-Field a x)) ∙ fold-roll-Expr Bytes expr_step (Expr-F.Field a x)

pub expr-Call : (m : Sym) (f : Sym) (es : List Expr) → expr (e.Call m f es) ≡ number 8 ++ name m ++ name f ++ list expr es
expr-Call m f es = ap expr (sym (e.rolls-Call m f es)) ∙ fold-roll-Expr Bytes expr_step (Expr-F.Call m f es) ∙ ap (λ t. number 8 ++ name m ++ name f ++ t) (parts-is expr es)

pub expr-CallLocal : (x : Sym) (es : List Expr) → expr (e.CallLocal x es) ≡ number 9 ++ name x ++ list expr es
expr-CallLocal x es = ap expr (sym (e.rolls-CallLocal x es)) ∙ fold-roll-Expr Bytes expr_step (Expr-F.CallLocal x es) ∙ ap (λ t. number 9 ++ name x ++ t) (parts-is expr es)

pub expr-Latest : (a : Expr) (es : List Expr) → expr (e.Latest a es) ≡ number 10 ++ expr a ++ list expr es
expr-Latest a es = ap expr (sym (e.rolls-Latest a es)) ∙ fold-roll-Expr Bytes expr_step (Expr-F.Latest a es) ∙ ap (λ t. number 10 ++ expr a ++ t) (parts-is expr es)

pub expr-And : (a : Expr) (b : Expr) → expr (e.And a b) ≡ number 11 ++ expr a ++ expr b
expr-And a b = ap expr (sym (e.rolls-And a b)) ∙ fold-roll-Expr Bytes expr_step (Expr-F.And a b)

pub expr-Or : (a : Expr) (b : Expr) → expr (e.Or a b) ≡ number 12 ++ expr a ++ expr b
expr-Or a b = ap expr (sym (e.rolls-Or a b)) ∙ fold-roll-Expr Bytes expr_step (Expr-F.Or a b)

pub expr-Cond : (a : Expr) (b : Expr) (c : Expr) → expr (e.Cond a b c) ≡ number 13 ++ expr a ++ expr b ++ expr c
expr-Cond a b c = ap expr (sym (e.rolls-Cond a b c)) ∙ fold-roll-Expr Bytes expr_step (Expr-F.Cond a b c)

pub expr-Same : (a : Expr) (b : Expr) → expr (e.Same a b) ≡ number 14 ++ expr a ++ expr b
expr-Same a b = ap expr (sym (e.rolls-Same a b)) ∙ fold-roll-Expr Bytes expr_step (Expr-F.Same a b)

pub ruleset spelling = (expr-Nothing, expr-False, expr-True, expr-Int, expr-Str, expr-Local, expr-Global, expr-Field, expr-Call, expr-CallLocal, expr-Latest, expr-And, expr-Or, expr-Cond, expr-Same, append_assoc)
