-- A plain body of an image is plain as it is read.
use Rattle.std.proofs.Common.{◌≡◌, ℕ, true, ◌&&◌, ◌==◌, List, [], ◌∷◌, map, length, Option, Some, None, refl, sym, ap, subst, slice_index_or, nat_le, arith}
use Rattle.std.proofs.lemmas.Bool.Decides.{nat_tests}
use Rattle.std.proofs.lemmas.List.{length-map}
use Rattle.pj_meaning.specs.Tree as tree
use Rattle.pj_words.specs.Words.{is_identifier}
use Rattle.pj_tree.specs.Reads.{Parts, as_body, text_of_sym, texts_of, block_of, expr_of, stmt_of, node_of, body_of}
use Rattle.pj_tree.specs.declared.tree.Sym.{Sym}
use Rattle.pj_tree.specs.declared.tree.Sym.TheVariants as s
use Rattle.pj_tree.specs.declared.tree.Stmt.{Stmt, out-Stmt, roll-Stmt}
use Rattle.pj_tree.specs.declared.tree.Stmt.TheVariants as stmt
use Rattle.pj_tree.specs.declared.tree.Part.{Part}
use Rattle.pj_tree.specs.declared.tree.Payload.{Payload}
use Rattle.pj_tree.specs.declared.tree.Body.{Body, out-Body}
use Rattle.pj_tree.specs.declared.tree.DefTree.{DefTree}
use Rattle.pj_tree.specs.declared.tree.TreeNode.{TreeNode, out-TreeNode, roll-TreeNode}
use Rattle.pj_tree.specs.declared.tree.TreeNode.TheVariants as node
use Rattle.pj_tree.specs.declared.tree.Part.TheOpen.{Stmt-F, TreeNode-F}
use Rattle.pj_tree.specs.declared.tree.Part.TheViews.{roll-out-Stmt, roll-out-TreeNode}
use Rattle.pj_tree.proofs.TreeReads.{stmt_of-Value, node_of-Body, body_of-Body}
use Rattle.pj_plain.specs.Plain as held
use Rattle.pj_plain.proofs.Bools.{both_true}
use Rattle.pj_image.specs.Names.{sym_number, all_seen}
use Rattle.pj_image.specs.Pieces.{takes_node, takes}
use Rattle.pj_image.specs.PlainTrees.{plain_stmt, plain_block, plain_under, plain_body, plain_tree, is_plain}
use Rattle.pj_content.specs.Content.{strings_in}
use Rattle.pj_content.specs.Plainly.{PlainCode}
use Rattle.pj_content.proofs.Names.{seen_all, different}
use Rattle.pj_content.proofs.Exprs.{plain_read}

module _ (strings : List (List ℕ)) (parts : Parts) where
  -- a statement that is such an expression
  record OneValue (names : List (List ℕ)) (x : Stmt) : Type 0 where
    pub value : tree.Expr
    pub is : stmt_of (strings_in strings) parts x ≡ tree.Value value
    pub plain : held.plain_expr names value ≡ true

  layer_value : (names : List (List ℕ)) (x : Stmt-F Part Payload Stmt TreeNode Body DefTree) → plain_stmt strings names x ≡ true → OneValue names (roll-Stmt x)
  layer_value names (Stmt-F.Stmt::Value e) h =
      rw (stmt.rolls-Value e) (record { value = expr_of (strings_in strings) e; is = stmt_of-Value (strings_in strings) parts e; plain = plain_read strings names 126 e h })
  layer_value names (Stmt-F.SetLocal name value) h = absurd cc
  layer_value names (Stmt-F.SetGlobal name value) h = absurd cc
  layer_value names (Stmt-F.SetField of name value) h = absurd cc
  layer_value names (Stmt-F.If test chosen other) h = absurd cc
  layer_value names (Stmt-F.While introduced test block) h = absurd cc
  layer_value names (Stmt-F.For name first last introduced block) h = absurd cc
  layer_value names Stmt-F.Break h = absurd cc
  layer_value names Stmt-F.Continue h = absurd cc
  layer_value names (Stmt-F.Return value) h = absurd cc
  layer_value names (Stmt-F.Eval owner part) h = absurd cc

  one_value : (names : List (List ℕ)) (x : Stmt) → plain_stmt strings names (out-Stmt x) ≡ true → OneValue names x
  one_value names x h = subst (λ (y : Stmt). OneValue names y) (roll-out-Stmt x) (layer_value names (out-Stmt x) h)

  -- a block under these names
  record OneBlock (names : List (List ℕ)) (block : List Stmt) : Type 0 where
    pub value : tree.Expr
    pub is : block_of (map (stmt_of (strings_in strings) parts) block) ≡ tree.step (tree.Value value) tree.end
    pub plain : held.plain_expr names value ≡ true

  one_block : (names : List (List ℕ)) (block : List Stmt) → plain_block strings names block ≡ true → OneBlock names block
  one_block names [] h = absurd cc
  one_block names (x ∷ []) h =
      let one = one_value names x h in
      record { value = one.value; is = ap (λ (y : tree.Stmt). tree.step y tree.end) one.is; plain = one.plain }
  one_block names (x ∷ (y ∷ more)) h = absurd cc

  sym_is : (x : Sym) (n : ℕ) → sym_number x ≡ Some n → text_of_sym (strings_in strings) x ≡ slice_index_or strings n []
  sym_is (s.Text t) n e = absurd cc
  sym_is (s.Number m) n e = let same : m ≡ n = cc in rw same refl

  no_names : (introduced : List Sym) → (length introduced == 0) ≡ true → texts_of (strings_in strings) introduced ≡ []
  no_names [] h = refl
  no_names (x ∷ introduced) h = absurd (grind (arith, h))

  under : (params introduced : List Sym) (block : List Stmt) (seen : Option (List (List ℕ))) → all_seen is_identifier strings [] (map sym_number params) ≡ seen → (length introduced == 0) ≡ true → plain_under strings block seen ≡ true
      → PlainCode (length params) (tree.body (texts_of (strings_in strings) params) (texts_of (strings_in strings) introduced) (block_of (map (stmt_of (strings_in strings) parts) block)))
  under params introduced block None e none h = absurd cc
  under params introduced block (Some names) e none h =
      let texts = texts_of (strings_in strings) params in
      let all = seen_all is_identifier strings sym_number (text_of_sym (strings_in strings)) sym_is params [] names e in
      let one = one_block names block h in
      let same : names ≡ texts = all.whole in
      record {
        params = texts;
        value = one.value;
        is = rw (no_names introduced none, one.is) refl;
        many = length-map params (text_of_sym (strings_in strings));
        different = different texts [] all.new;
        plain = subst (λ (l : List (List ℕ)). held.plain_expr l one.value ≡ true) same one.plain;
      }

  body_is : (b : Body) → plain_body strings (out-Body b) ≡ true → PlainCode (length (out-Body b).params) (body_of (strings_in strings) parts b)
  body_is b h =
      let r = out-Body b in
      let seen = all_seen is_identifier strings [] (map sym_number r.params) in
      let one = both_true (nat_le (length r.params) 16) ((length r.introduced == 0) && plain_under strings r.block seen) h in
      let two = both_true (length r.introduced == 0) (plain_under strings r.block seen) one.1 in
      subst (λ (c : tree.Body). PlainCode (length r.params) c) (sym (body_of-Body (strings_in strings) parts b)) (under r.params r.introduced r.block seen refl two.0 two.1)

  counted : (n count : ℕ) (code : tree.Body) → (n == count) ≡ true → PlainCode n code → PlainCode count code
  counted n count code h p = let same : n ≡ count = grind (arith, nat_tests) in subst (λ (k : ℕ). PlainCode k code) same p

  layer_is : (count : ℕ) (x : TreeNode-F Part Payload Stmt TreeNode Body DefTree) → plain_tree strings x ≡ true → takes_node count x ≡ true → PlainCode count (as_body (node_of (strings_in strings) parts (roll-TreeNode x)))
  layer_is count (TreeNode-F.Body b) h k =
      rw (node.rolls-Body b, node_of-Body (strings_in strings) parts b) (counted (length (out-Body b).params) count (body_of (strings_in strings) parts b) k (body_is b h))
  layer_is count (TreeNode-F.Payload p) h k = absurd cc

  pub tree_is : (count : ℕ) (t : TreeNode) → is_plain strings t ≡ true → takes count (Some t) ≡ true → PlainCode count (as_body (node_of (strings_in strings) parts t))
  tree_is count t h k = subst (λ (y : TreeNode). PlainCode count (as_body (node_of (strings_in strings) parts y))) (roll-out-TreeNode t) (layer_is count (out-TreeNode t) h k)
