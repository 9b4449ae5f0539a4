-- The integers among expressions, one expression after another.
use Rattle.std.proofs.Common.{◌≡◌, ◌<◌, ◌+◌, ℕ, List, [], ◌∷◌, ◌++◌, map, take, length, get_or, refl, sym, ap, ◌∙◌, subst, append_assoc}
use Rattle.std.specs.Prelude.{option_to_list}
use Rattle.std.proofs.lemmas.List.{append-nil, take_more}
use Rattle.pj_meaning.specs.Tree.{Expr, Exprs, Int, none, also}
use Rattle.pj_tree.specs.Reads.{exprs_of}
use Rattle.pj_tree.specs.declared.tree.Expr as tree
use Rattle.pj_plain.specs.Held.{held_expr}
use Rattle.pj_session.specs.Items.{integers}
use Rattle.pj_session.specs.Counting.{integer_in}

integers_first : (e : Expr) (es : Exprs) → integers (also e es) ≡ option_to_list (integer_in e) ++ integers es
integers_first (Int z) es = refl
integers_first e es = refl

integers_last : (xs : List tree.Expr) (x : tree.Expr) → integers (exprs_of (map held_expr (xs ++ x ∷ []))) ≡ integers (exprs_of (map held_expr xs)) ++ option_to_list (integer_in (held_expr x))
integers_last [] x = integers_first (held_expr x) none ∙ append-nil (option_to_list (integer_in (held_expr x)))
integers_last (y ∷ ys) x =
    integers_first (held_expr y) (exprs_of (map held_expr (ys ++ x ∷ [])))
    ∙ ap (λ r. option_to_list (integer_in (held_expr y)) ++ r) (integers_last ys x)
    ∙ sym (append_assoc (option_to_list (integer_in (held_expr y))) (integers (exprs_of (map held_expr ys))) (option_to_list (integer_in (held_expr x))))
    ∙ ap (λ r. r ++ option_to_list (integer_in (held_expr x))) (sym (integers_first (held_expr y) (exprs_of (map held_expr ys))))

pub one_integer : (es : List tree.Expr) (k : ℕ) (e : tree.Expr) → k < length es → e ≡ get_or es k e
    → integers (exprs_of (map held_expr (take (k + 1) es))) ≡ integers (exprs_of (map held_expr (take k es))) ++ option_to_list (integer_in (held_expr e))
one_integer es k e lt is =
    let more : take (k + 1) es ≡ take k es ++ e ∷ [] = subst (λ (y : tree.Expr). take (k + 1) es ≡ take k es ++ y ∷ []) (sym is) (take_more es k e lt) in
    ap (λ l. integers (exprs_of (map held_expr l))) more ∙ integers_last (take k es) e
