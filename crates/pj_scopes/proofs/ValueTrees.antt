-- The trees of expressions, one equation for each variant.
use Rattle.std.proofs.Common.{◌≡◌, ℕ, ℤ, List, [], ◌∷◌, ◌++◌, map, Option, Some, None, slice_get, remove, refl, sym, ap, ◌∙◌}
use Rattle.pj_syntax.specs.declared.expression.Spot.{Spot}
use Rattle.pj_syntax.specs.declared.expression.Path.{Path}
use Rattle.pj_syntax.specs.declared.expression.Argument.{Argument}
use Rattle.pj_syntax.specs.declared.expression.Expr.{Expr as Syntax}
use Rattle.pj_syntax.specs.declared.expression.Expr.TheVariants as a
use Rattle.pj_tree.specs.declared.tree.Expr.{Expr}
use Rattle.pj_tree.specs.declared.tree.Expr.TheVariants as e
use Rattle.pj_tree.specs.declared.tree.Sym.TheVariants as sym
use Rattle.pj_faults.specs.Located.{Text, Given, arguments, value_of, given_of, arguments_of}
use Rattle.pj_faults.proofs.LocatedLaws as l
use Rattle.pj_scopes.specs.Resolved as r
use Rattle.pj_scopes.specs.Resolved.{word, read, called, latest}
use Rattle.pj_scopes.specs.Made.{value_tree, values_tree, returned_tree}

pub latest-none : (es : List Expr) → es ≡ [] → latest es ≡ e.Latest e.Nothing []
latest-none es h = ap latest h

latest_by : (es : List Expr) (f : Expr) → slice_get es 0 ≡ Some f → latest es ≡ e.Latest f (remove es 0)
latest_by [] f h = absurd (cc h)
latest_by (g ∷ es) f h = let same : g ≡ f = cc h in rw same refl

pub latest-some : (es rest : List Expr) (f : Expr) → slice_get es 0 ≡ Some f → rest ≡ remove es 0 → latest es ≡ e.Latest f rest
latest-some es rest f h k = latest_by es f h ∙ ap (e.Latest f) (sym k)

pub ruleset latest_rules = (latest-none, latest-some)

values-snoc : (names : List Text) (gs : List Given) (g : Given) → r.values names (arguments (gs ++ g ∷ [])) ≡ r.values names (arguments gs) ++ r.value names g.value ∷ []
values-snoc names [] g = refl
values-snoc names (h ∷ gs) g = ap (λ ts. r.value names h.value ∷ ts) (values-snoc names gs g)

map-snoc : (es : List Argument) (g : Argument) → map given_of (es ++ g ∷ []) ≡ map given_of es ++ given_of g ∷ []
map-snoc [] g = refl
map-snoc (h ∷ es) g = ap (λ gs. given_of h ∷ gs) (map-snoc es g)

pub values-none : (names : List Text) → values_tree names [] ≡ []
unfolding values_tree
values-none names = refl

pub values-more : (names : List Text) (es : List Argument) (g : Argument) → values_tree names (es ++ g ∷ []) ≡ values_tree names es ++ value_tree names g.value ∷ []
unfolding values_tree value_tree
values-more names es g =
    ap (λ gs. r.values names (arguments gs)) (map-snoc es g)
    ∙ values-snoc names (map given_of es) (given_of g)
    ∙ ap (λ v. r.values names (arguments_of es) ++ r.value names v ∷ []) (ap (λ (h : Given). h.value) (l.given_of-parts g))

pub returned-None : (names : List Text) → returned_tree names None ≡ e.Nothing
unfolding returned_tree
returned-None names = refl

pub returned-Some : (names : List Text) (x : Syntax) → returned_tree names (Some x) ≡ value_tree names x
unfolding returned_tree value_tree
returned-Some names x = refl

pub value-Nothing : (names : List Text) → value_tree names a.Nothing ≡ e.Nothing
unfolding value_tree values_tree
value-Nothing names = ap (r.value names) l.value_of-Nothing

pub value-False : (names : List Text) → value_tree names a.False ≡ e.False
unfolding value_tree values_tree
value-False names = ap (r.value names) l.value_of-False

pub value-True : (names : List Text) → value_tree names a.True ≡ e.True
unfolding value_tree values_tree
value-True names = ap (r.value names) l.value_of-True

pub value-Int : (names : List Text) (z : ℤ) → value_tree names (a.Int z) ≡ e.Int z
unfolding value_tree values_tree
value-Int names z = ap (r.value names) (l.value_of-Int z)

pub value-Str : (names : List Text) (t : Text) → value_tree names (a.Str t) ≡ e.Str (sym.Text t)
unfolding value_tree values_tree
value-Str names t = ap (r.value names) (l.value_of-Str t)

pub value-Name : (names : List Text) (p : Path) → value_tree names (a.Name p) ≡ read names p
unfolding value_tree values_tree
value-Name names p = ap (r.value names) (l.value_of-Name p)

pub value-Field : (names : List Text) (x : Syntax) (y : Spot) → value_tree names (a.Field x y) ≡ e.Field (value_tree names x) (word y)
unfolding value_tree values_tree
value-Field names x y = ap (r.value names) (l.value_of-Field x y)

pub value-Call : (names : List Text) (p : Path) (es : List Argument) → value_tree names (a.Call p es) ≡ called names p (values_tree names es)
unfolding value_tree values_tree
value-Call names p es = ap (r.value names) (l.value_of-Call p es)

pub value-Latest : (names : List Text) (es : List Argument) → value_tree names (a.Latest es) ≡ latest (values_tree names es)
unfolding value_tree values_tree
value-Latest names es = ap (r.value names) (l.value_of-Latest es)

pub value-And : (names : List Text) (x : Syntax) (y : Syntax) → value_tree names (a.And x y) ≡ e.And (value_tree names x) (value_tree names y)
unfolding value_tree values_tree
value-And names x y = ap (r.value names) (l.value_of-And x y)

pub value-Or : (names : List Text) (x : Syntax) (y : Syntax) → value_tree names (a.Or x y) ≡ e.Or (value_tree names x) (value_tree names y)
unfolding value_tree values_tree
value-Or names x y = ap (r.value names) (l.value_of-Or x y)

pub value-Cond : (names : List Text) (x : Syntax) (y : Syntax) (z : Syntax) → value_tree names (a.Cond x y z) ≡ e.Cond (value_tree names x) (value_tree names y) (value_tree names z)
unfolding value_tree values_tree
value-Cond names x y z = ap (r.value names) (l.value_of-Cond x y z)

pub value-Same : (names : List Text) (x : Syntax) (y : Syntax) → value_tree names (a.Same x y) ≡ e.Same (value_tree names x) (value_tree names y)
unfolding value_tree values_tree
value-Same names x y = ap (r.value names) (l.value_of-Same x y)

pub ruleset value_trees = (values-none, values-more, returned-None, returned-Some, value-Nothing, value-False, value-True, value-Int, value-Str, value-Name, value-Field, value-Call, value-Latest, value-And, value-Or, value-Cond, value-Same)
