-- The trees of plain functions are plain, and have spellings.
use Rattle.std.proofs.Common.{◌≡◌, ℕ, zero, suc, ◌≤◌, ℤ, pos, negsuc, Bool, true, false, ◌&&◌, List, [], ◌∷◌, map, codes, Some, refl, sym, subst, slice_get, slice_index_or, arith}
use Rattle.std.specs.Prelude.{FitsSigned}
use Rattle.std.specs.Int.{w64}
use Rattle.std.specs.Str.{bytes_eq}
use Rattle.std.proofs.lemmas.Bool.Decides.{nat_tests}
use Rattle.pj_meaning.specs.Tree as tree
use Rattle.pj_meaning.specs.Tree.{Text}
use Rattle.pj_tree.specs.Reads.{text_of_sym, exprs_of, expr_layer, expr_of}
use Rattle.pj_tree.specs.Fits.{ListFits, SymFits, ExprNodeFits, ExprFits}
use Rattle.pj_tree.specs.declared.tree.Sym.{Sym}
use Rattle.pj_tree.specs.declared.tree.Sym.TheVariants as s
use Rattle.pj_tree.specs.declared.tree.Expr.{Expr, out-Expr, roll-Expr}
use Rattle.pj_tree.specs.declared.tree.Expr.TheOpen.{Expr-F}
use Rattle.pj_tree.specs.declared.tree.Expr.TheFolds.{fold-roll-Expr}
use Rattle.pj_tree.specs.declared.tree.Expr.TheViews.{roll-out-Expr}
use Rattle.pj_plain.specs.Plain as held
use Rattle.pj_plain.proofs.Bools.{both_true}
use Rattle.pj_image.specs.Names.{text_of}
use Rattle.pj_image.specs.PlainTrees.{passes, is_among, is_base, is_operator, plain_pair, plain_node, plain_expr}
use Rattle.pj_content.specs.Content.{strings_in}
use Rattle.pj_build.specs.Numbered.{is_number, is_int, all_true, numbers_step, only_numbers}
use Rattle.pj_build.specs.Read.{depth_of, deepest}
use Rattle.pj_build.proofs.Growing.{both}
use Rattle.pj_build.proofs.Naming.{got_there, has_bytes}

-- ---- a name whose text passes

record NameFits (good : Text → Bool) (strings : List Text) (name : Sym) : Type 0 where
  pub passing : passes good (text_of strings name) ≡ true
  pub fits : SymFits name

name_fits : (good : Text → Bool) (strings : List Text) (name : Sym) → good [] ≡ false → is_number name ≡ true → good (text_of_sym (strings_in strings) name) ≡ true → NameFits good strings name
name_fits good strings (s.Text t) bad n h = absurd cc
name_fits good strings (s.Number n) bad lt h =
    let t = slice_index_or strings n [] in
    let there : slice_get strings n ≡ Some t = got_there strings n t refl (has_bytes good bad t h) in
    record { passing = rw there h; fits = grind (arith, nat_tests) }

int_whole : (z : ℤ) → is_int z ≡ true → FitsSigned w64 z
int_whole (pos n) h = record { sfits = grind (arith, nat_tests) }
int_whole (negsuc n) h = record { sfits = grind (arith, nat_tests) }

-- no expression nests nought deep
too_deep : (e : tree.Expr) → depth_of e ≤ 0 → ⊥
too_deep tree.Nothing h = absurd (omega (arith, h))
too_deep tree.False h = absurd (omega (arith, h))
too_deep tree.True h = absurd (omega (arith, h))
too_deep (tree.Int z) h = absurd (omega (arith, h))
too_deep (tree.Str t) h = absurd (omega (arith, h))
too_deep (tree.Local t) h = absurd (omega (arith, h))
too_deep (tree.Global m t) h = absurd (omega (arith, h))
too_deep (tree.Field a t) h = absurd (omega (arith, h))
too_deep (tree.Call m f es) h = absurd (omega (arith, h))
too_deep (tree.CallLocal f es) h = absurd (omega (arith, h))
too_deep (tree.Latest f es) h = absurd (omega (arith, h))
too_deep (tree.And a b) h = absurd (omega (arith, h))
too_deep (tree.Or a b) h = absurd (omega (arith, h))
too_deep (tree.Cond a b c) h = absurd (omega (arith, h))
too_deep (tree.Same a b) h = absurd (omega (arith, h))
too_deep (tree.Intrin i es) h = absurd (omega (arith, h))

module _ (strings names : List Text) (bad : is_among names [] ≡ false) where
  -- an expression by numbers that is plain, and nests at most so deep
  pub record Plain (depth : ℕ) (e : Expr) : Type 0 where
    pub plain : held.plain_expr names (expr_of (strings_in strings) e) ≡ true
    pub shallow : depth_of (expr_of (strings_in strings) e) ≤ depth
    pub numbers : only_numbers e ≡ true

  pub record ExprGood (depth : ℕ) (e : Expr) : Type 0 where
    pub plain : plain_expr strings names depth e ≡ true
    pub fits : ExprFits depth e

  record NodeGood (below : ℕ) (x : Expr-F Expr) : Type 0 where
    pub plain : plain_node strings names (plain_expr strings names below) x ≡ true
    pub fits : ExprNodeFits (ExprFits below) x

  record PairGood (below : ℕ) (es : List Expr) : Type 0 where
    pub plain : plain_pair (plain_expr strings names below) es ≡ true
    pub fits : ListFits (ExprFits below) es

  pair : (below : ℕ) → ((e : Expr) → Plain below e → ExprGood below e) → (es : List Expr)
      → held.plain_pair names (exprs_of (map (expr_of (strings_in strings)) es)) ≡ true → deepest (exprs_of (map (expr_of (strings_in strings)) es)) ≤ below → all_true (map only_numbers es) ≡ true
      → PairGood below es
  pair below each [] h d n = absurd cc
  pair below each (a ∷ []) h d n =
      let two = both_true (held.plain_expr names (expr_of (strings_in strings) a)) (held.plain_last names tree.none) h in
      absurd (let no = two.1 in cc)
  pair below each (a ∷ (b ∷ [])) h d n =
      let x = expr_of (strings_in strings) a in
      let y = expr_of (strings_in strings) b in
      let two = both_true (held.plain_expr names x) (held.plain_expr names y) h in
      let first = both_true (only_numbers a) (all_true (map only_numbers (b ∷ []))) n in
      let second = both_true (only_numbers b) true first.1 in
      let left = each a (record { plain = two.0; shallow = omega (arith, d); numbers = first.0 }) in
      let right = each b (record { plain = two.1; shallow = omega (arith, d); numbers = second.0 }) in
      record { plain = both (plain_expr strings names below a) (plain_expr strings names below b) left.plain right.plain; fits = (omega arith, (left.fits, (right.fits, tt))) }
  pair below each (a ∷ (b ∷ (c ∷ es))) h d n =
      let two = both_true (held.plain_expr names (expr_of (strings_in strings) a)) (held.plain_last names (exprs_of (map (expr_of (strings_in strings)) (b ∷ (c ∷ es))))) h in
      absurd (let no = two.1 in cc)

  call : (below : ℕ) → ((e : Expr) → Plain below e → ExprGood below e) → (owner name : Sym) (es : List Expr)
      → held.plain_expr names (tree.Call (text_of_sym (strings_in strings) owner) (text_of_sym (strings_in strings) name) (exprs_of (map (expr_of (strings_in strings)) es))) ≡ true
      → suc (deepest (exprs_of (map (expr_of (strings_in strings)) es))) ≤ suc below
      → (is_number owner && (is_number name && all_true (map only_numbers es))) ≡ true
      → NodeGood below (Expr-F.Call owner name es)
  call below each owner name es h d n =
      let args = exprs_of (map (expr_of (strings_in strings)) es) in
      let m = text_of_sym (strings_in strings) owner in
      let f = text_of_sym (strings_in strings) name in
      let one = both_true (bytes_eq m (codes "Base")) (held.is_operator f && held.plain_pair names args) h in
      let two = both_true (held.is_operator f) (held.plain_pair names args) one.1 in
      let first = both_true (is_number owner) (is_number name && all_true (map only_numbers es)) n in
      let second = both_true (is_number name) (all_true (map only_numbers es)) first.1 in
      let base = name_fits is_base strings owner refl first.0 one.0 in
      let op = name_fits is_operator strings name refl second.0 two.0 in
      let rest = pair below each es two.1 (omega (arith, d)) second.1 in
      record {
        plain = both (passes is_base (text_of strings owner)) (passes is_operator (text_of strings name) && plain_pair (plain_expr strings names below) es) base.passing
            (both (passes is_operator (text_of strings name)) (plain_pair (plain_expr strings names below) es) op.passing rest.plain);
        fits = (base.fits, (op.fits, rest.fits));
      }

  -- one node, by what it means
  node : (below : ℕ) → ((e : Expr) → Plain below e → ExprGood below e) → (x : Expr-F Expr) → Plain (suc below) (roll-Expr x) → NodeGood below x
  node below each Expr-F.Nothing p = absurd (let h = rw (fold-roll-Expr tree.Expr (expr_layer (strings_in strings)) Expr-F.Nothing) at p.plain in cc)
  node below each Expr-F.False p = absurd (let h = rw (fold-roll-Expr tree.Expr (expr_layer (strings_in strings)) Expr-F.False) at p.plain in cc)
  node below each Expr-F.True p = absurd (let h = rw (fold-roll-Expr tree.Expr (expr_layer (strings_in strings)) Expr-F.True) at p.plain in cc)
  node below each (Expr-F.Int z) p =
      let n = rw (fold-roll-Expr Bool numbers_step (Expr-F.Int z)) at p.numbers in
      record { plain = refl; fits = int_whole z n }
  node below each (Expr-F.Str text) p = absurd (let h = rw (fold-roll-Expr tree.Expr (expr_layer (strings_in strings)) (Expr-F.Str text)) at p.plain in cc)
  node below each (Expr-F.Local name) p =
      let h = rw (fold-roll-Expr tree.Expr (expr_layer (strings_in strings)) (Expr-F.Local name)) at p.plain in
      let n = rw (fold-roll-Expr Bool numbers_step (Expr-F.Local name)) at p.numbers in
      let one = name_fits (is_among names) strings name bad n h in
      record { plain = one.passing; fits = one.fits }
  node below each (Expr-F.Global owner name) p = absurd (let h = rw (fold-roll-Expr tree.Expr (expr_layer (strings_in strings)) (Expr-F.Global owner name)) at p.plain in cc)
  node below each (Expr-F.Field of name) p = absurd (let h = rw (fold-roll-Expr tree.Expr (expr_layer (strings_in strings)) (Expr-F.Field of name)) at p.plain in cc)
  node below each (Expr-F.Call owner name es) p =
      let h = rw (fold-roll-Expr tree.Expr (expr_layer (strings_in strings)) (Expr-F.Call owner name es)) at p.plain in
      let d = rw (fold-roll-Expr tree.Expr (expr_layer (strings_in strings)) (Expr-F.Call owner name es)) at p.shallow in
      let n = rw (fold-roll-Expr Bool numbers_step (Expr-F.Call owner name es)) at p.numbers in
      call below each owner name es h d n
  node below each (Expr-F.CallLocal name es) p = absurd (let h = rw (fold-roll-Expr tree.Expr (expr_layer (strings_in strings)) (Expr-F.CallLocal name es)) at p.plain in cc)
  node below each (Expr-F.Latest callee es) p = absurd (let h = rw (fold-roll-Expr tree.Expr (expr_layer (strings_in strings)) (Expr-F.Latest callee es)) at p.plain in cc)
  node below each (Expr-F.And left right) p = absurd (let h = rw (fold-roll-Expr tree.Expr (expr_layer (strings_in strings)) (Expr-F.And left right)) at p.plain in cc)
  node below each (Expr-F.Or left right) p = absurd (let h = rw (fold-roll-Expr tree.Expr (expr_layer (strings_in strings)) (Expr-F.Or left right)) at p.plain in cc)
  node below each (Expr-F.Cond test chosen other) p = absurd (let h = rw (fold-roll-Expr tree.Expr (expr_layer (strings_in strings)) (Expr-F.Cond test chosen other)) at p.plain in cc)
  node below each (Expr-F.Same left right) p = absurd (let h = rw (fold-roll-Expr tree.Expr (expr_layer (strings_in strings)) (Expr-F.Same left right)) at p.plain in cc)

  pub expr_good : (depth : ℕ) (e : Expr) → Plain depth e → ExprGood depth e
  unfolding plain_expr ExprFits
  expr_good zero e p = absurd (too_deep (expr_of (strings_in strings) e) p.shallow)
  expr_good (suc below) e p =
      let good = node below (expr_good below) (out-Expr e) (subst (λ (y : Expr). Plain (suc below) y) (sym (roll-out-Expr e)) p) in
      record { plain = good.plain; fits = good.fits }
