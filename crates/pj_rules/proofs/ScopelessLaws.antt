-- An expression in no scope, one equation for each variant.
use Rattle.std.proofs.Common.{◌≡◌, ℕ, ℤ, Bool, true, false, not, ◌&&◌, List, [], ◌∷◌, ◌++◌, map, refl, ap, ◌∙◌}
use Rattle.pj_tree.specs.Reads.{Strings, text_of_sym, expr_of, exprs_of}
use Rattle.pj_tree.specs.Scopes.{expr_reads, exprs_read, is_hidden}
use Rattle.pj_rules.specs.Limits.{few}
use Rattle.pj_rules.specs.Names.{scopeless, all_scopeless, expr_is_ok}
use Rattle.pj_tree.specs.declared.tree.Sym.{Sym}
use Rattle.pj_tree.specs.declared.tree.Expr.{Expr}
use Rattle.pj_tree.specs.declared.tree.Expr.TheVariants as e
use Rattle.pj_tree.proofs.ExprReads as er

and_assoc : (a b c : Bool) → a && (b && c) ≡ (a && b) && c
and_assoc true b c = refl
and_assoc false b c = refl

and_true : (a : Bool) → a && true ≡ a
and_true true = refl
and_true false = refl

nothing_hidden : (m x : List ℕ) → not (is_hidden [] m x) ≡ true
nothing_hidden [] x = refl
nothing_hidden (b ∷ bs) x = refl

pub all_scopeless-none : (strings : Strings) → all_scopeless strings [] ≡ true
unfolding all_scopeless
all_scopeless-none strings = refl

pub all_scopeless-snoc : (strings : Strings) (es : List Expr) (x : Expr) → all_scopeless strings (es ++ x ∷ []) ≡ all_scopeless strings es && scopeless strings x
unfolding all_scopeless scopeless
all_scopeless-snoc strings [] x = and_true (expr_reads [] (expr_of strings x))
all_scopeless-snoc strings (y ∷ es) x =
    ap (λ b. expr_reads [] (expr_of strings y) && b) (all_scopeless-snoc strings es x)
    ∙ and_assoc (expr_reads [] (expr_of strings y)) (exprs_read [] (exprs_of (map (expr_of strings) es))) (expr_reads [] (expr_of strings x))

pub expr_is_ok-parts : (strings : Strings) (e : Expr) → expr_is_ok strings e ≡ scopeless strings e && few strings e
unfolding expr_is_ok scopeless few
expr_is_ok-parts strings e = refl

pub scopeless-Nothing : (strings : Strings) → scopeless strings e.Nothing ≡ true
unfolding scopeless all_scopeless
scopeless-Nothing strings = ap (expr_reads []) (er.expr_of-Nothing strings)

pub scopeless-False : (strings : Strings) → scopeless strings e.False ≡ true
unfolding scopeless all_scopeless
scopeless-False strings = ap (expr_reads []) (er.expr_of-False strings)

pub scopeless-True : (strings : Strings) → scopeless strings e.True ≡ true
unfolding scopeless all_scopeless
scopeless-True strings = ap (expr_reads []) (er.expr_of-True strings)

pub scopeless-Int : (strings : Strings) (z : ℤ) → scopeless strings (e.Int z) ≡ true
unfolding scopeless all_scopeless
scopeless-Int strings z = ap (expr_reads []) (er.expr_of-Int strings z)

pub scopeless-Str : (strings : Strings) (t : Sym) → scopeless strings (e.Str t) ≡ true
unfolding scopeless all_scopeless
scopeless-Str strings t = ap (expr_reads []) (er.expr_of-Str strings t)

pub scopeless-Local : (strings : Strings) (x : Sym) → scopeless strings (e.Local x) ≡ false
unfolding scopeless all_scopeless
scopeless-Local strings x = ap (expr_reads []) (er.expr_of-Local strings x)

pub scopeless-Global : (strings : Strings) (m : Sym) (x : Sym) → scopeless strings (e.Global m x) ≡ true
unfolding scopeless all_scopeless
scopeless-Global strings m x = ap (expr_reads []) (er.expr_of-Global strings m x) ∙ nothing_hidden (text_of_sym strings m) (text_of_sym strings x)

pub scopeless-Field : (strings : Strings) (a : Expr) (x : Sym) → scopeless strings (e.Field a x) ≡ scopeless strings a
unfolding scopeless all_scopeless
scopeless-Field strings a x = ap (expr_reads []) (er.expr_of-Field strings a x)

pub scopeless-Call : (strings : Strings) (m : Sym) (f : Sym) (es : List Expr) → scopeless strings (e.Call m f es) ≡ all_scopeless strings es
unfolding scopeless all_scopeless
scopeless-Call strings m f es = ap (expr_reads []) (er.expr_of-Call strings m f es)
    ∙ ap (λ b. b && exprs_read [] (exprs_of (map (expr_of strings) es))) (nothing_hidden (text_of_sym strings m) (text_of_sym strings f))

pub scopeless-CallLocal : (strings : Strings) (x : Sym) (es : List Expr) → scopeless strings (e.CallLocal x es) ≡ false
unfolding scopeless all_scopeless
scopeless-CallLocal strings x es = ap (expr_reads []) (er.expr_of-CallLocal strings x es)

pub scopeless-Latest : (strings : Strings) (f : Expr) (es : List Expr) → scopeless strings (e.Latest f es) ≡ scopeless strings f && all_scopeless strings es
unfolding scopeless all_scopeless
scopeless-Latest strings f es = ap (expr_reads []) (er.expr_of-Latest strings f es)

pub scopeless-And : (strings : Strings) (a : Expr) (b : Expr) → scopeless strings (e.And a b) ≡ scopeless strings a && scopeless strings b
unfolding scopeless all_scopeless
scopeless-And strings a b = ap (expr_reads []) (er.expr_of-And strings a b)

pub scopeless-Or : (strings : Strings) (a : Expr) (b : Expr) → scopeless strings (e.Or a b) ≡ scopeless strings a && scopeless strings b
unfolding scopeless all_scopeless
scopeless-Or strings a b = ap (expr_reads []) (er.expr_of-Or strings a b)

pub scopeless-Cond : (strings : Strings) (a : Expr) (b : Expr) (c : Expr) → scopeless strings (e.Cond a b c) ≡ scopeless strings a && (scopeless strings b && scopeless strings c)
unfolding scopeless all_scopeless
scopeless-Cond strings a b c = ap (expr_reads []) (er.expr_of-Cond strings a b c)

pub scopeless-Same : (strings : Strings) (a : Expr) (b : Expr) → scopeless strings (e.Same a b) ≡ scopeless strings a && scopeless strings b
unfolding scopeless all_scopeless
scopeless-Same strings a b = ap (expr_reads []) (er.expr_of-Same strings a b)

pub ruleset scopeless_rules = (scopeless-Nothing, scopeless-False, scopeless-True, scopeless-Int, scopeless-Str, scopeless-Local, scopeless-Global, scopeless-Field, scopeless-Call, scopeless-CallLocal, scopeless-Latest, scopeless-And, scopeless-Or, scopeless-Cond, scopeless-Same, all_scopeless-none, all_scopeless-snoc, expr_is_ok-parts)
