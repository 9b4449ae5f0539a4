-- The limits, one equation for each variant.
use Rattle.std.proofs.Common.{◌≡◌, ℤ, suc, Bool, true, false, not, ◌&&◌, ◌||◌, List, [], ◌∷◌, ◌++◌, map, length, refl, ap, ◌∙◌}
use Rattle.std.specs.Prelude.{nat_le}
use Rattle.pj_tree.specs.Reads.{Strings, Parts, expr_of, exprs_of, stmt_of, block_of}
use Rattle.pj_tree.specs.Scopes.{few_arguments, few_in_all, few_in_stmt, few_in, stmt_strays, strays, how_many}
use Rattle.pj_rules.specs.Limits.{few, all_few, stmt_few, block_few, stray, block_stray}
use Rattle.pj_tree.specs.declared.tree.Sym.{Sym}
use Rattle.pj_tree.specs.declared.tree.Part.{Part}
use Rattle.pj_tree.specs.declared.tree.Expr.{Expr}
use Rattle.pj_tree.specs.declared.tree.Stmt.{Stmt}
use Rattle.pj_tree.specs.declared.tree.Expr.TheVariants as e
use Rattle.pj_tree.specs.declared.tree.Stmt.TheVariants as s
use Rattle.pj_tree.proofs.ExprReads as er
use Rattle.pj_tree.proofs.TreeReads as tr

how_many-map : (strings : Strings) (es : List Expr) → how_many (exprs_of (map (expr_of strings) es)) ≡ length es
how_many-map strings [] = refl
how_many-map strings (x ∷ es) = ap suc (how_many-map strings es)

and_assoc : (a b c : Bool) → a && (b && c) ≡ (a && b) && c
and_assoc true b c = refl
and_assoc false b c = refl

or_assoc : (a b c : Bool) → a || (b || c) ≡ (a || b) || c
or_assoc true b c = refl
or_assoc false b c = refl

and_true : (a : Bool) → a && true ≡ a
and_true true = refl
and_true false = refl

or_false : (a : Bool) → a || false ≡ a
or_false true = refl
or_false false = refl

pub all_few-none : (strings : Strings) → all_few strings [] ≡ true
unfolding all_few
all_few-none strings = refl

pub all_few-snoc : (strings : Strings) (es : List Expr) (x : Expr) → all_few strings (es ++ x ∷ []) ≡ all_few strings es && few strings x
unfolding all_few few
all_few-snoc strings [] x = and_true (few_arguments (expr_of strings x))
all_few-snoc strings (y ∷ es) x =
    ap (λ b. few_arguments (expr_of strings y) && b) (all_few-snoc strings es x)
    ∙ and_assoc (few_arguments (expr_of strings y)) (few_in_all (exprs_of (map (expr_of strings) es))) (few_arguments (expr_of strings x))

pub block_few-none : (strings : Strings) (parts : Parts) → block_few strings parts [] ≡ true
unfolding block_few
block_few-none strings parts = refl

pub block_few-snoc : (strings : Strings) (parts : Parts) (b : List Stmt) (x : Stmt) → block_few strings parts (b ++ x ∷ []) ≡ block_few strings parts b && stmt_few strings parts x
unfolding block_few stmt_few
block_few-snoc strings parts [] x = and_true (few_in_stmt (stmt_of strings parts x))
block_few-snoc strings parts (y ∷ b) x =
    ap (λ t. few_in_stmt (stmt_of strings parts y) && t) (block_few-snoc strings parts b x)
    ∙ and_assoc (few_in_stmt (stmt_of strings parts y)) (few_in (block_of (map (stmt_of strings parts) b))) (few_in_stmt (stmt_of strings parts x))

pub block_stray-none : (strings : Strings) (parts : Parts) (p : Bool) (q : Bool) → block_stray strings parts p q [] ≡ false
unfolding block_stray
block_stray-none strings parts p q = refl

pub block_stray-snoc : (strings : Strings) (parts : Parts) (p : Bool) (q : Bool) (b : List Stmt) (x : Stmt) → block_stray strings parts p q (b ++ x ∷ []) ≡ block_stray strings parts p q b || stray strings parts p q x
unfolding block_stray stray
block_stray-snoc strings parts p q [] x = or_false (stmt_strays p q (stmt_of strings parts x))
block_stray-snoc strings parts p q (y ∷ b) x =
    ap (λ t. stmt_strays p q (stmt_of strings parts y) || t) (block_stray-snoc strings parts p q b x)
    ∙ or_assoc (stmt_strays p q (stmt_of strings parts y)) (strays p q (block_of (map (stmt_of strings parts) b))) (stmt_strays p q (stmt_of strings parts x))

pub few-Nothing : (strings : Strings) → few strings e.Nothing ≡ true
unfolding few all_few
few-Nothing strings = ap few_arguments (er.expr_of-Nothing strings)

pub few-False : (strings : Strings) → few strings e.False ≡ true
unfolding few all_few
few-False strings = ap few_arguments (er.expr_of-False strings)

pub few-True : (strings : Strings) → few strings e.True ≡ true
unfolding few all_few
few-True strings = ap few_arguments (er.expr_of-True strings)

pub few-Int : (strings : Strings) (z : ℤ) → few strings (e.Int z) ≡ true
unfolding few all_few
few-Int strings z = ap few_arguments (er.expr_of-Int strings z)

pub few-Str : (strings : Strings) (t : Sym) → few strings (e.Str t) ≡ true
unfolding few all_few
few-Str strings t = ap few_arguments (er.expr_of-Str strings t)

pub few-Local : (strings : Strings) (x : Sym) → few strings (e.Local x) ≡ true
unfolding few all_few
few-Local strings x = ap few_arguments (er.expr_of-Local strings x)

pub few-Global : (strings : Strings) (m : Sym) (x : Sym) → few strings (e.Global m x) ≡ true
unfolding few all_few
few-Global strings m x = ap few_arguments (er.expr_of-Global strings m x)

pub few-Field : (strings : Strings) (a : Expr) (x : Sym) → few strings (e.Field a x) ≡ few strings a
unfolding few all_few
few-Field strings a x = ap few_arguments (er.expr_of-Field strings a x)

pub few-Call : (strings : Strings) (m : Sym) (f : Sym) (es : List Expr) → few strings (e.Call m f es) ≡ nat_le (length es) 16 && all_few strings es
unfolding few all_few
few-Call strings m f es = ap few_arguments (er.expr_of-Call strings m f es)
    ∙ ap (λ n. nat_le (n) 16 && few_in_all (exprs_of (map (expr_of strings) es))) (how_many-map strings es)

pub few-CallLocal : (strings : Strings) (x : Sym) (es : List Expr) → few strings (e.CallLocal x es) ≡ nat_le (length es) 16 && all_few strings es
unfolding few all_few
few-CallLocal strings x es = ap few_arguments (er.expr_of-CallLocal strings x es)
    ∙ ap (λ n. nat_le (n) 16 && few_in_all (exprs_of (map (expr_of strings) es))) (how_many-map strings es)

pub few-Latest : (strings : Strings) (f : Expr) (es : List Expr) → few strings (e.Latest f es) ≡ nat_le (suc (length es)) 16 && (few strings f && all_few strings es)
unfolding few all_few
few-Latest strings f es = ap few_arguments (er.expr_of-Latest strings f es)
    ∙ ap (λ n. nat_le (suc (n)) 16 && (few_arguments (expr_of strings f) && few_in_all (exprs_of (map (expr_of strings) es)))) (how_many-map strings es)

pub few-And : (strings : Strings) (a : Expr) (b : Expr) → few strings (e.And a b) ≡ few strings a && few strings b
unfolding few all_few
few-And strings a b = ap few_arguments (er.expr_of-And strings a b)

pub few-Or : (strings : Strings) (a : Expr) (b : Expr) → few strings (e.Or a b) ≡ few strings a && few strings b
unfolding few all_few
few-Or strings a b = ap few_arguments (er.expr_of-Or strings a b)

pub few-Cond : (strings : Strings) (a : Expr) (b : Expr) (c : Expr) → few strings (e.Cond a b c) ≡ few strings a && (few strings b && few strings c)
unfolding few all_few
few-Cond strings a b c = ap few_arguments (er.expr_of-Cond strings a b c)

pub few-Same : (strings : Strings) (a : Expr) (b : Expr) → few strings (e.Same a b) ≡ few strings a && few strings b
unfolding few all_few
few-Same strings a b = ap few_arguments (er.expr_of-Same strings a b)

pub stmt_few-Value : (strings : Strings) (parts : Parts) (v : Expr) → stmt_few strings parts (s.Value v) ≡ few strings v
unfolding few all_few stmt_few block_few
stmt_few-Value strings parts v = ap few_in_stmt (tr.stmt_of-Value strings parts v)

pub stray-Value : (strings : Strings) (parts : Parts) (p : Bool) (q : Bool) (v : Expr) → stray strings parts p q (s.Value v) ≡ false
unfolding stray block_stray
stray-Value strings parts p q v = ap (stmt_strays p q) (tr.stmt_of-Value strings parts v)

pub stmt_few-SetLocal : (strings : Strings) (parts : Parts) (x : Sym) (v : Expr) → stmt_few strings parts (s.SetLocal x v) ≡ few strings v
unfolding few all_few stmt_few block_few
stmt_few-SetLocal strings parts x v = ap few_in_stmt (tr.stmt_of-SetLocal strings parts x v)

pub stray-SetLocal : (strings : Strings) (parts : Parts) (p : Bool) (q : Bool) (x : Sym) (v : Expr) → stray strings parts p q (s.SetLocal x v) ≡ false
unfolding stray block_stray
stray-SetLocal strings parts p q x v = ap (stmt_strays p q) (tr.stmt_of-SetLocal strings parts x v)

pub stmt_few-SetGlobal : (strings : Strings) (parts : Parts) (x : Sym) (v : Expr) → stmt_few strings parts (s.SetGlobal x v) ≡ few strings v
unfolding few all_few stmt_few block_few
stmt_few-SetGlobal strings parts x v = ap few_in_stmt (tr.stmt_of-SetGlobal strings parts x v)

pub stray-SetGlobal : (strings : Strings) (parts : Parts) (p : Bool) (q : Bool) (x : Sym) (v : Expr) → stray strings parts p q (s.SetGlobal x v) ≡ false
unfolding stray block_stray
stray-SetGlobal strings parts p q x v = ap (stmt_strays p q) (tr.stmt_of-SetGlobal strings parts x v)

pub stmt_few-SetField : (strings : Strings) (parts : Parts) (a : Expr) (x : Sym) (v : Expr) → stmt_few strings parts (s.SetField a x v) ≡ few strings a && few strings v
unfolding few all_few stmt_few block_few
stmt_few-SetField strings parts a x v = ap few_in_stmt (tr.stmt_of-SetField strings parts a x v)

pub stray-SetField : (strings : Strings) (parts : Parts) (p : Bool) (q : Bool) (a : Expr) (x : Sym) (v : Expr) → stray strings parts p q (s.SetField a x v) ≡ false
unfolding stray block_stray
stray-SetField strings parts p q a x v = ap (stmt_strays p q) (tr.stmt_of-SetField strings parts a x v)

pub stmt_few-If : (strings : Strings) (parts : Parts) (c : Expr) (a : List Stmt) (b : List Stmt) → stmt_few strings parts (s.If c a b) ≡ few strings c && (block_few strings parts a && block_few strings parts b)
unfolding few all_few stmt_few block_few
stmt_few-If strings parts c a b = ap few_in_stmt (tr.stmt_of-If strings parts c a b)

pub stray-If : (strings : Strings) (parts : Parts) (p : Bool) (q : Bool) (c : Expr) (a : List Stmt) (b : List Stmt) → stray strings parts p q (s.If c a b) ≡ block_stray strings parts p q a || block_stray strings parts p q b
unfolding stray block_stray
stray-If strings parts p q c a b = ap (stmt_strays p q) (tr.stmt_of-If strings parts c a b)

pub stmt_few-While : (strings : Strings) (parts : Parts) (ns : List Sym) (c : Expr) (b : List Stmt) → stmt_few strings parts (s.While ns c b) ≡ few strings c && block_few strings parts b
unfolding few all_few stmt_few block_few
stmt_few-While strings parts ns c b = ap few_in_stmt (tr.stmt_of-While strings parts ns c b)

pub stray-While : (strings : Strings) (parts : Parts) (p : Bool) (q : Bool) (ns : List Sym) (c : Expr) (b : List Stmt) → stray strings parts p q (s.While ns c b) ≡ block_stray strings parts p true b
unfolding stray block_stray
stray-While strings parts p q ns c b = ap (stmt_strays p q) (tr.stmt_of-While strings parts ns c b)

pub stmt_few-For : (strings : Strings) (parts : Parts) (x : Sym) (v : Expr) (w : Expr) (ns : List Sym) (b : List Stmt) → stmt_few strings parts (s.For x v w ns b) ≡ few strings v && (few strings w && block_few strings parts b)
unfolding few all_few stmt_few block_few
stmt_few-For strings parts x v w ns b = ap few_in_stmt (tr.stmt_of-For strings parts x v w ns b)

pub stray-For : (strings : Strings) (parts : Parts) (p : Bool) (q : Bool) (x : Sym) (v : Expr) (w : Expr) (ns : List Sym) (b : List Stmt) → stray strings parts p q (s.For x v w ns b) ≡ block_stray strings parts p true b
unfolding stray block_stray
stray-For strings parts p q x v w ns b = ap (stmt_strays p q) (tr.stmt_of-For strings parts x v w ns b)

pub stmt_few-Break : (strings : Strings) (parts : Parts) → stmt_few strings parts s.Break ≡ true
unfolding few all_few stmt_few block_few
stmt_few-Break strings parts = ap few_in_stmt (tr.stmt_of-Break strings parts)

pub stray-Break : (strings : Strings) (parts : Parts) (p : Bool) (q : Bool) → stray strings parts p q s.Break ≡ not q
unfolding stray block_stray
stray-Break strings parts p q = ap (stmt_strays p q) (tr.stmt_of-Break strings parts)

pub stmt_few-Continue : (strings : Strings) (parts : Parts) → stmt_few strings parts s.Continue ≡ true
unfolding few all_few stmt_few block_few
stmt_few-Continue strings parts = ap few_in_stmt (tr.stmt_of-Continue strings parts)

pub stray-Continue : (strings : Strings) (parts : Parts) (p : Bool) (q : Bool) → stray strings parts p q s.Continue ≡ not q
unfolding stray block_stray
stray-Continue strings parts p q = ap (stmt_strays p q) (tr.stmt_of-Continue strings parts)

pub stmt_few-Return : (strings : Strings) (parts : Parts) (v : Expr) → stmt_few strings parts (s.Return v) ≡ few strings v
unfolding few all_few stmt_few block_few
stmt_few-Return strings parts v = ap few_in_stmt (tr.stmt_of-Return strings parts v)

pub stray-Return : (strings : Strings) (parts : Parts) (p : Bool) (q : Bool) (v : Expr) → stray strings parts p q (s.Return v) ≡ not p
unfolding stray block_stray
stray-Return strings parts p q v = ap (stmt_strays p q) (tr.stmt_of-Return strings parts v)

pub stmt_few-Eval : (strings : Strings) (parts : Parts) (m : Sym) (r : Part) → stmt_few strings parts (s.Eval m r) ≡ true
unfolding few all_few stmt_few block_few
stmt_few-Eval strings parts m r = ap few_in_stmt (tr.stmt_of-Eval strings parts m r)

pub stray-Eval : (strings : Strings) (parts : Parts) (p : Bool) (q : Bool) (m : Sym) (r : Part) → stray strings parts p q (s.Eval m r) ≡ false
unfolding stray block_stray
stray-Eval strings parts p q m r = ap (stmt_strays p q) (tr.stmt_of-Eval strings parts m r)

pub ruleset few_rules = (few-Nothing, few-False, few-True, few-Int, few-Str, few-Local, few-Global, few-Field, few-Call, few-CallLocal, few-Latest, few-And, few-Or, few-Cond, few-Same, all_few-none, all_few-snoc)

pub ruleset stmt_few_rules = (stmt_few-Value, stmt_few-SetLocal, stmt_few-SetGlobal, stmt_few-SetField, stmt_few-If, stmt_few-While, stmt_few-For, stmt_few-Break, stmt_few-Continue, stmt_few-Return, stmt_few-Eval, block_few-none, block_few-snoc)

pub ruleset stray_rules = (stray-Value, stray-SetLocal, stray-SetGlobal, stray-SetField, stray-If, stray-While, stray-For, stray-Break, stray-Continue, stray-Return, stray-Eval, block_stray-none, block_stray-snoc)
