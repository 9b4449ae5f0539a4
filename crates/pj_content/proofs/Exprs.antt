-- A plain expression of an image is plain as it is read.
use Rattle.std.proofs.Common.{◌≡◌, ℕ, zero, suc, Bool, true, ◌&&◌, List, [], ◌∷◌, map, codes, Option, Some, None, refl, subst, slice_get, slice_index_or}
use Rattle.std.specs.Str.{bytes_eq}
use Rattle.std.proofs.lemmas.Option.{get_or_from_slice_get}
use Rattle.pj_meaning.specs.Tree as tree
use Rattle.pj_tree.specs.Reads.{text_of_sym, exprs_of, expr_layer, expr_of}
use Rattle.pj_tree.specs.declared.tree.Sym.{Sym}
use Rattle.pj_tree.specs.declared.tree.Sym.TheVariants as s
use Rattle.pj_tree.specs.declared.tree.Expr.{Expr, out-Expr, roll-Expr}
use Rattle.pj_tree.specs.declared.tree.Expr.TheOpen.{Expr-F}
use Rattle.pj_tree.specs.declared.tree.Expr.TheFolds.{fold-roll-Expr}
use Rattle.pj_tree.specs.declared.tree.Expr.TheViews.{roll-out-Expr}
use Rattle.pj_plain.specs.Plain as held
use Rattle.pj_plain.proofs.Bools.{both_true}
use Rattle.pj_image.specs.Names.{text_of}
use Rattle.pj_image.specs.PlainTrees.{passes, is_among, is_base, is_operator, plain_pair, plain_node, plain_expr}
use Rattle.pj_content.specs.Content.{strings_in}
use Rattle.pj_content.proofs.Bools.{both}

found : (good : List ℕ → Bool) (strings : List (List ℕ)) (n : ℕ) (text : Option (List ℕ)) → slice_get strings n ≡ text → passes good text ≡ true → good (slice_index_or strings n []) ≡ true
found good strings n None e h = absurd cc
found good strings n (Some t) e h = rw (get_or_from_slice_get strings n t [] e) h

-- a name whose string passes
pub name_passes : (good : List ℕ → Bool) (strings : List (List ℕ)) (name : Sym) → passes good (text_of strings name) ≡ true → good (text_of_sym (strings_in strings) name) ≡ true
name_passes good strings (s.Text t) h = absurd cc
name_passes good strings (s.Number n) h = found good strings n (slice_get strings n) refl h

module _ (strings names : List (List ℕ)) where
  abbrev IsPlain : Expr → Type 0
  IsPlain e = held.plain_expr names (expr_of (strings_in strings) e) ≡ true

  pair : (below : Expr → Bool) → ((e : Expr) → below e ≡ true → IsPlain e) → (es : List Expr) → plain_pair below es ≡ true → held.plain_pair names (exprs_of (map (expr_of (strings_in strings)) es)) ≡ true
  pair below each [] h = absurd cc
  pair below each (a ∷ []) h = absurd cc
  pair below each (a ∷ (b ∷ [])) h =
      let two = both_true (below a) (below b) h in
      both (held.plain_expr names (expr_of (strings_in strings) a)) (held.plain_expr names (expr_of (strings_in strings) b)) (each a two.0) (each b two.1)
  pair below each (a ∷ (b ∷ (c ∷ es))) h = absurd cc

  call : (below : Expr → Bool) → ((e : Expr) → below e ≡ true → IsPlain e) → (owner name : Sym) (es : List Expr) → plain_node strings names below (Expr-F.Call owner name es) ≡ true
      → held.plain_expr names (tree.Call (text_of_sym (strings_in strings) owner) (text_of_sym (strings_in strings) name) (exprs_of (map (expr_of (strings_in strings)) es))) ≡ true
  call below each owner name es h =
      let one = both_true (passes is_base (text_of strings owner)) (passes is_operator (text_of strings name) && plain_pair below es) h in
      let two = both_true (passes is_operator (text_of strings name)) (plain_pair below es) one.1 in
      let all = held.plain_pair names (exprs_of (map (expr_of (strings_in strings)) es)) in
      let op = held.is_operator (text_of_sym (strings_in strings) name) in
      both (bytes_eq (text_of_sym (strings_in strings) owner) (codes "Base")) (op && all) (name_passes is_base strings owner one.0)
      (both op all (name_passes is_operator strings name two.0) (pair below each es two.1))

  node : (below : Expr → Bool) → ((e : Expr) → below e ≡ true → IsPlain e) → (x : Expr-F Expr) → plain_node strings names below x ≡ true → IsPlain (roll-Expr x)
  node below each Expr-F.Nothing h = absurd cc
  node below each Expr-F.False h = absurd cc
  node below each Expr-F.True h = absurd cc
  node below each (Expr-F.Int z) h = rw (fold-roll-Expr tree.Expr (expr_layer (strings_in strings)) (Expr-F.Int z)) refl
  node below each (Expr-F.Str text) h = absurd cc
  node below each (Expr-F.Local name) h = rw (fold-roll-Expr tree.Expr (expr_layer (strings_in strings)) (Expr-F.Local name)) (name_passes (is_among names) strings name h)
  node below each (Expr-F.Global owner name) h = absurd cc
  node below each (Expr-F.Field of name) h = absurd cc
  node below each (Expr-F.Call owner name es) h = rw (fold-roll-Expr tree.Expr (expr_layer (strings_in strings)) (Expr-F.Call owner name es)) (call below each owner name es h)
  node below each (Expr-F.CallLocal name es) h = absurd cc
  node below each (Expr-F.Latest callee es) h = absurd cc
  node below each (Expr-F.And left right) h = absurd cc
  node below each (Expr-F.Or left right) h = absurd cc
  node below each (Expr-F.Cond test chosen other) h = absurd cc
  node below each (Expr-F.Same left right) h = absurd cc

  pub plain_read : (depth : ℕ) (e : Expr) → plain_expr strings names depth e ≡ true → held.plain_expr names (expr_of (strings_in strings) e) ≡ true
  unfolding plain_expr
  plain_read zero e h = absurd cc
  plain_read (suc below) e h = subst (λ (y : Expr). IsPlain y) (roll-out-Expr e) (node (plain_expr strings names below) (plain_read below) (out-Expr e) h)
