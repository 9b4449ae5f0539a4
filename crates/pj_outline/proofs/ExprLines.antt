-- The lines of expressions, one equation for each variant.
use Rattle.std.proofs.Common.{◌≡◌, ℕ, suc, ℤ, List, [], ◌∷◌, ◌++◌, map, flat_map, codes, refl, sym, ap, ◌∙◌, append_assoc}
use Rattle.pj_outline.specs.Outline.{Text, Lines, below, plain, named, owned, integer, quoted, expr_step, expr, exprs}
use Rattle.pj_tree.specs.declared.tree.Sym.{Sym}
use Rattle.pj_tree.specs.declared.tree.Expr.{Expr}
use Rattle.pj_tree.specs.declared.tree.Expr.TheVariants as e
use Rattle.pj_tree.specs.declared.tree.Expr.TheOpen.{Expr-F}
use Rattle.pj_tree.specs.declared.tree.Expr.TheFolds.{fold-Expr, fold-roll-Expr}

pub below-map : {A : Type 0} (lines : A → Lines) (xs : List A) (level : ℕ) → below (map lines xs) level ≡ flat_map (λ x. lines x level) xs
below-map lines [] level = refl
below-map lines (x ∷ xs) level = ap (λ t. lines x level ++ t) (below-map lines xs level)

pub expr-Nothing : (strings : List Text) (level : ℕ) →
    expr strings e.Nothing level ≡ plain level (codes "Nothing")
unfolding expr exprs
expr-Nothing strings level =
    ap (λ t. expr strings t level) (sym e.rolls-Nothing)
    ∙ ap (λ lines. lines level) (fold-roll-Expr Lines (expr_step strings) Expr-F.Nothing)

pub expr-False : (strings : List Text) (level : ℕ) →
    expr strings e.False level ≡ plain level (codes "False")
unfolding expr exprs
expr-False strings level =
    ap (λ t. expr strings t level) (sym e.rolls-False)
    ∙ ap (λ lines. lines level) (fold-roll-Expr Lines (expr_step strings) Expr-F.False)

pub expr-True : (strings : List Text) (level : ℕ) →
    expr strings e.True level ≡ plain level (codes "True")
unfolding expr exprs
expr-True strings level =
    ap (λ t. expr strings t level) (sym e.rolls-True)
    ∙ ap (λ lines. lines level) (fold-roll-Expr Lines (expr_step strings) Expr-F.True)

pub expr-Int : (strings : List Text) (z : ℤ) (level : ℕ) →
    expr strings (e.Int z) level ≡ integer level z
unfolding expr exprs
expr-Int strings z level =
    ap (λ t. expr strings t level) (sym (e.rolls-Int z))
    ∙ ap (λ lines. lines level) (fold-roll-Expr Lines (expr_step strings) (Expr-F.Int z))

pub expr-Str : (strings : List Text) (text : Sym) (level : ℕ) →
    expr strings (e.Str text) level ≡ quoted strings level text
unfolding expr exprs
expr-Str strings text level =
    ap (λ t. expr strings t level) (sym (e.rolls-Str text))
    ∙ ap (λ lines. lines level) (fold-roll-Expr Lines (expr_step strings) (Expr-F.Str text))

pub expr-Local : (strings : List Text) (x : Sym) (level : ℕ) →
    expr strings (e.Local x) level ≡ named strings level (codes "Local") x
unfolding expr exprs
expr-Local strings x level =
    ap (λ t. expr strings t level) (sym (e.rolls-Local x))
    ∙ ap (λ lines. lines level) (fold-roll-Expr Lines (expr_step strings) (Expr-F.Local x))

pub expr-Global : (strings : List Text) (m : Sym) (x : Sym) (level : ℕ) →
    expr strings (e.Global m x) level ≡ owned strings level (codes "Global") m x
unfolding expr exprs
expr-Global strings m x level =
    ap (λ t. expr strings t level) (sym (e.rolls-Global m x))
    ∙ ap (λ lines. lines level) (fold-roll-Expr Lines (expr_step strings) (Expr-F.Global m x))

pub expr-Field : (strings : List Text) (a : Expr) (x : Sym) (level : ℕ) →
    expr strings (e.Field a x) level ≡ named strings level (codes "Field") x ++ expr strings a (suc level)
unfolding expr exprs
expr-Field strings a x level =
    ap (λ t. expr strings t level) (sym (e.rolls-Field a x))
    ∙ ap (λ lines. lines level) (fold-roll-Expr Lines (expr_step strings) (Expr-F.Field a x))

pub expr-Call : (strings : List Text) (m : Sym) (f : Sym) (es : List Expr) (level : ℕ) →
    expr strings (e.Call m f es) level ≡ owned strings level (codes "Call") m f ++ exprs strings es (suc level)
unfolding expr exprs
expr-Call strings m f es level =
    ap (λ t. expr strings t level) (sym (e.rolls-Call m f es))
    ∙ ap (λ lines. lines level) (fold-roll-Expr Lines (expr_step strings) (Expr-F.Call m f es))
    ∙ ap (λ t. owned strings level (codes "Call") m f ++ t) (below-map (fold-Expr Lines (expr_step strings)) es (suc level))

pub expr-CallLocal : (strings : List Text) (x : Sym) (es : List Expr) (level : ℕ) →
    expr strings (e.CallLocal x es) level ≡ named strings level (codes "CallLocal") x ++ exprs strings es (suc level)
unfolding expr exprs
expr-CallLocal strings x es level =
    ap (λ t. expr strings t level) (sym (e.rolls-CallLocal x es))
    ∙ ap (λ lines. lines level) (fold-roll-Expr Lines (expr_step strings) (Expr-F.CallLocal x es))
    ∙ ap (λ t. named strings level (codes "CallLocal") x ++ t) (below-map (fold-Expr Lines (expr_step strings)) es (suc level))

pub expr-Latest : (strings : List Text) (f : Expr) (es : List Expr) (level : ℕ) →
    expr strings (e.Latest f es) level ≡ plain level (codes "Latest") ++ expr strings f (suc level) ++ exprs strings es (suc level)
unfolding expr exprs
expr-Latest strings f es level =
    ap (λ t. expr strings t level) (sym (e.rolls-Latest f es))
    ∙ ap (λ lines. lines level) (fold-roll-Expr Lines (expr_step strings) (Expr-F.Latest f es))
    ∙ ap (λ t. plain level (codes "Latest") ++ expr strings f (suc level) ++ t) (below-map (fold-Expr Lines (expr_step strings)) es (suc level))

pub expr-And : (strings : List Text) (a : Expr) (b : Expr) (level : ℕ) →
    expr strings (e.And a b) level ≡ plain level (codes "And") ++ expr strings a (suc level) ++ expr strings b (suc level)
unfolding expr exprs
expr-And strings a b level =
    ap (λ t. expr strings t level) (sym (e.rolls-And a b))
    ∙ ap (λ lines. lines level) (fold-roll-Expr Lines (expr_step strings) (Expr-F.And a b))

pub expr-Or : (strings : List Text) (a : Expr) (b : Expr) (level : ℕ) →
    expr strings (e.Or a b) level ≡ plain level (codes "Or") ++ expr strings a (suc level) ++ expr strings b (suc level)
unfolding expr exprs
expr-Or strings a b level =
    ap (λ t. expr strings t level) (sym (e.rolls-Or a b))
    ∙ ap (λ lines. lines level) (fold-roll-Expr Lines (expr_step strings) (Expr-F.Or a b))

pub expr-Cond : (strings : List Text) (a : Expr) (b : Expr) (c : Expr) (level : ℕ) →
    expr strings (e.Cond a b c) level ≡ plain level (codes "Cond") ++ expr strings a (suc level) ++ expr strings b (suc level) ++ expr strings c (suc level)
unfolding expr exprs
expr-Cond strings a b c level =
    ap (λ t. expr strings t level) (sym (e.rolls-Cond a b c))
    ∙ ap (λ lines. lines level) (fold-roll-Expr Lines (expr_step strings) (Expr-F.Cond a b c))

pub expr-Same : (strings : List Text) (a : Expr) (b : Expr) (level : ℕ) →
    expr strings (e.Same a b) level ≡ plain level (codes "Same") ++ expr strings a (suc level) ++ expr strings b (suc level)
unfolding expr exprs
expr-Same strings a b level =
    ap (λ t. expr strings t level) (sym (e.rolls-Same a b))
    ∙ ap (λ lines. lines level) (fold-roll-Expr Lines (expr_step strings) (Expr-F.Same a b))

pub ruleset expr_lines = (expr-Nothing, expr-False, expr-True, expr-Int, expr-Str, expr-Local, expr-Global, expr-Field, expr-Call, expr-CallLocal, expr-Latest, expr-And, expr-Or, expr-Cond, expr-Same, append_assoc)
