-- What is numbered over strings stays so while they grow.
use Rattle.std.proofs.Common.{◌≡◌, ℕ, zero, suc, Bool, true, ◌&&◌, List, [], ◌∷◌, ◌++◌, map, length, get_or, take, ◌<◌, ◌+◌, ◌^◌, arith, Some, refl, sym, ap, subst, ◌∙◌, slice_get}
use Rattle.std.proofs.lemmas.List.{take_more}
use Rattle.std.proofs.lemmas.Bool.Decides.{nat_tests}
use Rattle.pj_base.proofs.PlaceLemmas.{map-push}
use Rattle.pj_plain.proofs.Bools.{both_true}
use Rattle.pj_meaning.specs.Tree.{Text}
use Rattle.pj_tree.specs.Reads.{Strings, text_of_sym, expr_of}
use Rattle.pj_tree.specs.declared.tree.Sym.{Sym}
use Rattle.pj_tree.specs.declared.tree.Sym.TheVariants as s
use Rattle.pj_tree.specs.declared.tree.Expr.{Expr}
use Rattle.pj_plain.specs.Held.{held_text, held_expr}
use Rattle.pj_build.specs.Strings.{Begins, Grown}
use Rattle.pj_build.specs.Numbered.{is_number, all_true, only_numbers, NumberedSym, NumberedSyms, NumberedExpr, NumberedExprs}
use Rattle.pj_build.proofs.Interning.{grown_same, grown_more}

get_before : {A : Type 0} (xs ys : List A) (n : ℕ) (x : A) → slice_get xs n ≡ Some x → slice_get (xs ++ ys) n ≡ Some x
get_before [] ys n x h = absurd cc
get_before (y ∷ xs) ys zero x h = h
get_before (y ∷ xs) ys (suc n) x h = get_before xs ys n x h

pub begins_less : (old new : List Text) (all : Strings) → Grown old new → Begins new all → Begins old all
begins_less old new all g b = record {
  at = λ n t e. b.at n t (subst (λ (l : List Text). slice_get l n ≡ Some t) (sym g.is) (get_before old g.more n t e));
}

pub both : (a b : Bool) → a ≡ true → b ≡ true → (a && b) ≡ true
both a b p q = rw (p, q) refl

pub all_push : (bs : List Bool) (b : Bool) → all_true bs ≡ true → b ≡ true → all_true (bs ++ b ∷ []) ≡ true
all_push [] b p q = rw q refl
all_push (c ∷ bs) b p q = let two = both_true c (all_true bs) p in both c (all_true (bs ++ b ∷ [])) two.0 (all_push bs b two.1 q)

pub sym_numbered : (strings : List Text) (held : Sym) (n : ℕ) → n < 2 ^ 32 → slice_get strings n ≡ Some (held_text held) → NumberedSym strings held (s.Number n)
sym_numbered strings held n lt h = record { means = λ all b. b.at n (held_text held) h; number = grind (arith, nat_tests) }

pub sym_later : (old new : List Text) (held x : Sym) → NumberedSym old held x → Grown old new → NumberedSym new held x
sym_later old new held x p g = record { means = λ all b. p.means all (begins_less old new all g b); number = p.number }

pub syms_later : (old new : List Text) (held xs : List Sym) → NumberedSyms old held xs → Grown old new → NumberedSyms new held xs
syms_later old new held xs p g = record { means = λ all b. p.means all (begins_less old new all g b); numbers = p.numbers }

pub expr_later : (old new : List Text) (held x : Expr) → NumberedExpr old held x → Grown old new → NumberedExpr new held x
expr_later old new held x p g = record { means = λ all b. p.means all (begins_less old new all g b); numbers = p.numbers }

pub no_syms : (strings : List Text) → NumberedSyms strings [] []
no_syms strings = record { means = λ all b. refl; numbers = refl }

pub no_exprs : (strings : List Text) → NumberedExprs strings [] []
no_exprs strings = record { means = λ all b. refl; numbers = refl }

pub syms_push : (old new : List Text) (held xs : List Sym) (h x : Sym) → NumberedSyms old held xs → Grown old new → NumberedSym new h x → NumberedSyms new (held ++ h ∷ []) (xs ++ x ∷ [])
syms_push old new held xs h x p g q = record {
  means = λ all b. map-push (text_of_sym all) xs x ∙ rw (p.means all (begins_less old new all g b), q.means all b, map-push held_text held h) refl;
  numbers = rw (map-push is_number xs x) (all_push (map is_number xs) (is_number x) p.numbers q.number);
}

pub exprs_push : (old new : List Text) (held xs : List Expr) (h x : Expr) → NumberedExprs old held xs → Grown old new → NumberedExpr new h x → NumberedExprs new (held ++ h ∷ []) (xs ++ x ∷ [])
exprs_push old new held xs h x p g q = record {
  means = λ all b. map-push (expr_of all) xs x ∙ rw (p.means all (begins_less old new all g b), q.means all b, map-push held_expr held h) refl;
  numbers = rw (map-push only_numbers xs x) (all_push (map only_numbers xs) (only_numbers x) p.numbers q.numbers);
}

pub syms_turn : (old new : List Text) (held xs ys : List Sym) (i : ℕ) (h x : Sym) → i < length held → h ≡ get_or held i h → NumberedSyms old (take i held) xs → Grown old new → NumberedSym new h x → ys ≡ xs ++ x ∷ [] → NumberedSyms new (take (i + 1) held) ys
syms_turn old new held xs ys i h x lt is p g q e =
    subst (λ (zs : List Sym). NumberedSyms new (take (i + 1) held) zs) (sym e)
    (subst (λ (hs : List Sym). NumberedSyms new hs (xs ++ x ∷ [])) (sym (take_more held i h lt ∙ ap (λ (y : Sym). take i held ++ y ∷ []) (sym is))) (syms_push old new (take i held) xs h x p g q))

pub exprs_turn : (old new : List Text) (held xs ys : List Expr) (i : ℕ) (h x : Expr) → i < length held → h ≡ get_or held i h → NumberedExprs old (take i held) xs → Grown old new → NumberedExpr new h x → ys ≡ xs ++ x ∷ [] → NumberedExprs new (take (i + 1) held) ys
exprs_turn old new held xs ys i h x lt is p g q e =
    subst (λ (zs : List Expr). NumberedExprs new (take (i + 1) held) zs) (sym e)
    (subst (λ (hs : List Expr). NumberedExprs new hs (xs ++ x ∷ [])) (sym (take_more held i h lt ∙ ap (λ (y : Expr). take i held ++ y ∷ []) (sym is))) (exprs_push old new (take i held) xs h x p g q))

pub ruleset growing = (sym_numbered, no_syms, no_exprs, syms_push, exprs_push, sym_later, expr_later, grown_same, grown_more)
