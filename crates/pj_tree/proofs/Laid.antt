-- What numbering leaves: the numbers that it gives, what names them, and that nothing means other than it did.
use Rattle.std.proofs.Common.{◌≡◌, refl, sym, ap, ◌∙◌, subst, ◌≤◌, ◌+◌, ℕ, suc, List, [], ◌∷◌, ◌++◌, map, length, arith, length-append}
use Rattle.std.specs.Bool.{⊤}
use Rattle.pj_meaning.specs.Tree as tree
use Rattle.pj_tree.specs.Reads.{Strings, Parts, Meant, OfBody, OfPayload, Defined, define, as_body, as_payload, text_of_sym, texts_of, params_of, expr_of, block_of, part_layer, payload_layer, stmt_layer, node_layer, body_layer, def_layer, part_of, payload_of, stmt_of, node_of, body_of, def_of}
use Rattle.pj_tree.specs.Named.{Numbers, together, AllBetween, NameLater, count, named_by_all, part_names, payload_names, stmt_names, node_names, body_names, def_names, named_by_part, named_by_payload, named_by_stmt, named_by_node, named_by_body, named_by_def}
use Rattle.pj_tree.specs.Numbering.{Laid, From, nothing_named, made, both, all, held, part_from, payload_from, stmt_from, node_from, body_from, def_from, numbered_part, numbered_payload, numbered_stmt, numbered_node, numbered_body, numbered_def}
use Rattle.pj_tree.specs.declared.tree.Stmt.{Stmt}
use Rattle.pj_tree.specs.declared.tree.Stmt.TheVariants as stmt
use Rattle.pj_tree.specs.declared.tree.Part.{Part}
use Rattle.pj_tree.specs.declared.tree.TreeNode.{TreeNode}
use Rattle.pj_tree.specs.declared.tree.TreeNode.TheVariants as node
use Rattle.pj_tree.specs.declared.tree.Body.{Body}
use Rattle.pj_tree.specs.declared.tree.DefTree.{DefTree}
use Rattle.pj_tree.specs.declared.tree.Payload.{Payload}
use Rattle.pj_tree.specs.declared.tree.Payload.TheVariants as payload
use Rattle.pj_tree.specs.declared.tree.Part.TheOpen.{Part-F, Payload-F, Stmt-F, TreeNode-F, Body-F, DefTree-F}
use Rattle.pj_tree.specs.declared.tree.Part.TheViews.{roll-Part, roll-Payload, roll-Stmt, roll-TreeNode, roll-Body, roll-DefTree}
use Rattle.pj_tree.specs.declared.tree.Part.TheFolds.{map-Part, map-Payload, map-Stmt, map-TreeNode, map-Body, map-DefTree, fold-roll-Part, fold-roll-Payload, fold-roll-Stmt, fold-roll-TreeNode, fold-roll-Body, fold-roll-DefTree, ind-TreeNode}
use Rattle.pj_tree.proofs.Counting.{between-wider, between-both, later-wider, later-both, count-both, count-all-both, within, within-both, within-none, within-first, none-both}
use Rattle.pj_tree.proofs.TreeReads.{part_of-Number, stmt_of-Value, stmt_of-SetLocal, stmt_of-SetGlobal, stmt_of-SetField, stmt_of-If, stmt_of-While, stmt_of-For, stmt_of-Break, stmt_of-Continue, stmt_of-Return, stmt_of-Eval, payload_of-Def, payload_of-SetBinding, payload_of-Value, node_of-Body, node_of-Payload}
use Rattle.pj_tree.proofs.NamedParts as NamedParts

module _ (strings : Strings) where
  -- each tree means what its number does
  abbrev pub Holds : Parts → ℕ → List TreeNode → Type 0
  Holds q n [] = ⊤
  Holds q n (t ∷ later) = (q n ≡ node_of strings q t) × Holds q (suc n) later

  holds-front : (q : Parts) (n : ℕ) (us ts : List TreeNode) → Holds q n (us ++ ts) → Holds q n us
  holds-front q n [] ts h = _
  holds-front q n (u ∷ us) ts h = (h.0, holds-front q (suc n) us ts h.1)

  holds-back : (q : Parts) (n m : ℕ) (us ts : List TreeNode) → m ≡ n + length us → Holds q n (us ++ ts) → Holds q m ts
  holds-back q n m [] ts e h = let same : m ≡ n = omega (arith, e) in subst (λ k. Holds q k ts) (sym same) h
  holds-back q n m (u ∷ us) ts e h = holds-back q (suc n) m us ts (omega (arith, e)) h.1

  -- what numbering from n leaves of something that names no number and means so
  pub record Fine {A M : Type 0} (named : A → Numbers) (meaning : Parts → A → M) (meant : Parts → M) (n : ℕ) (r : Laid A) : Type 0 where
    pub next : r.next ≡ n + length r.later
    pub between : AllBetween n r.next (named r.laid)
    pub ordered : NameLater n r.next r.later
    pub once : (k : ℕ) → count k (named r.laid) + count k (named_by_all r.later) ≡ within n r.next k
    pub same : (p q : Parts) → Holds q n r.later → meaning q r.laid ≡ meant p

  abbrev pub AllFine : {A M : Type 0} → (A → Numbers) → (Parts → A → M) → From A → (Parts → M) → Type 0
  AllFine named meaning from meant = (n : ℕ) → Fine named meaning meant n (from n)

  fine-none : {A M : Type 0} (named : A → Numbers) (meaning : Parts → A → M) (meant : Parts → M) (x : A) → named x ≡ [] → ((p q : Parts) → meaning q x ≡ meant p) → AllFine named meaning (nothing_named x) meant
  fine-none named meaning meant x none means n = record {
    next = omega arith;
    between = rw none _;
    ordered = _;
    once = λ k. rw none (sym (within-none n k));
    same = λ p q h. means p q;
  }

  fine-made : {A B M N : Type 0} (named : A → Numbers) (meaning : Parts → A → M) (from : From A) (meant : Parts → M)
      (name : B → Numbers) (mean : Parts → B → N) (make : A → B) (lift : M → N) →
      ((x : A) → name (make x) ≡ named x) → ((q : Parts) (x : A) → mean q (make x) ≡ lift (meaning q x)) →
      AllFine named meaning from meant → AllFine name mean (made make from) (λ p. lift (meant p))
  fine-made named meaning from meant name mean make lift names means fine n =
      let f = fine n in
      let r = from n in
      record {
        next = f.next;
        between = rw (names r.laid) f.between;
        ordered = f.ordered;
        once = λ k. rw (names r.laid) (f.once k);
        same = λ p q h. means q r.laid ∙ ap lift (f.same p q h);
      }

  fine-both : {A B C M N O : Type 0} (named : A → Numbers) (meaning : Parts → A → M) (one : From A) (meant : Parts → M)
      (named_two : B → Numbers) (meaning_two : Parts → B → N) (two : From B) (meant_two : Parts → N)
      (name : C → Numbers) (mean : Parts → C → O) (make : A → B → C) (lift : M → N → O) →
      ((x : A) (y : B) → name (make x y) ≡ named x ++ named_two y) → ((q : Parts) (x : A) (y : B) → mean q (make x y) ≡ lift (meaning q x) (meaning_two q y)) →
      AllFine named meaning one meant → AllFine named_two meaning_two two meant_two → AllFine name mean (both make one two) (λ p. lift (meant p) (meant_two p))
  fine-both named meaning one meant named_two meaning_two two meant_two name mean make lift names means fine fine_two n =
      let r = one n in
      let f = fine n in
      let m = r.next in
      let s = two m in
      let g = fine_two m in
      let from : n ≤ m = omega (arith, f.next) in
      let to : m ≤ s.next = omega (arith, g.next) in
      let start : m ≡ n + length r.later = f.next in
      record {
        next = let l = length-append r.later s.later in omega (arith, f.next, g.next, l);
        between = rw (names r.laid s.laid) (between-both n s.next (named r.laid) (named_two s.laid) (between-wider n m n s.next (named r.laid) (omega arith) to f.between) (between-wider m s.next n s.next (named_two s.laid) from (omega arith) g.between));
        ordered = later-both n s.next r.later s.later (later-wider n m s.next r.later to f.ordered) (subst (λ k. NameLater k s.next s.later) start g.ordered);
        once = λ k.
            let a = f.once k in
            let b = g.once k in
            let c = count-both k (named r.laid) (named_two s.laid) in
            let d = count-all-both k r.later s.later in
            let e = within-both n m s.next k from to in
            rw (names r.laid s.laid) (omega (arith, a, b, c, d, e));
        same = λ p q h. means q r.laid s.laid ∙ (ap (λ x. lift x (meaning_two q s.laid)) (f.same p q (holds-front q n r.later s.later h)) ∙ ap (lift (meant p)) (g.same p q (holds-back q n m r.later s.later start h)));
      }

  fine-held : (from : From TreeNode) (meant : Parts → Meant) → AllFine named_by_node (node_of strings) from meant → AllFine named_by_part (part_of strings) (held from) meant
  fine-held from meant fine n =
      let r = from (suc n) in
      let f = fine (suc n) in
      record {
        next = omega (arith, f.next);
        between = rw (NamedParts.part-Number n) (omega arith, (omega (arith, f.next), _));
        ordered = (f.between, f.ordered);
        once = λ k.
            let a = f.once k in
            let b = count-both k (named_by_node r.laid) (named_by_all r.later) in
            let c = within-first n r.next k (omega (arith, f.next)) in
            rw (NamedParts.part-Number n) (omega (arith, a, b, c));
        same = λ p q h. part_of-Number strings q n ∙ (h.0 ∙ f.same p q h.1);
      }

  abbrev PartFine : Part → Type 0
  PartFine t = named_by_part t ≡ [] → AllFine named_by_part (part_of strings) (numbered_part t) (λ p. part_of strings p t)

  abbrev WithPart : Type 0
  WithPart = (t : Part) × PartFine t

  abbrev PayloadFine : Payload → Type 0
  PayloadFine t = named_by_payload t ≡ [] → AllFine named_by_payload (payload_of strings) (numbered_payload t) (λ p. payload_of strings p t)

  abbrev WithPayload : Type 0
  WithPayload = (t : Payload) × PayloadFine t

  abbrev StmtFine : Stmt → Type 0
  StmtFine t = named_by_stmt t ≡ [] → AllFine named_by_stmt (stmt_of strings) (numbered_stmt t) (λ p. stmt_of strings p t)

  abbrev WithStmt : Type 0
  WithStmt = (t : Stmt) × StmtFine t

  abbrev NodeFine : TreeNode → Type 0
  NodeFine t = named_by_node t ≡ [] → AllFine named_by_node (node_of strings) (numbered_node t) (λ p. node_of strings p t)

  abbrev WithNode : Type 0
  WithNode = (t : TreeNode) × NodeFine t

  abbrev BodyFine : Body → Type 0
  BodyFine t = named_by_body t ≡ [] → AllFine named_by_body (body_of strings) (numbered_body t) (λ p. body_of strings p t)

  abbrev WithBody : Type 0
  WithBody = (t : Body) × BodyFine t

  abbrev DefFine : DefTree → Type 0
  DefFine t = named_by_def t ≡ [] → AllFine named_by_def (def_of strings) (numbered_def t) (λ p. def_of strings p t)

  abbrev WithDef : Type 0
  WithDef = (t : DefTree) × DefFine t

  abbrev block_names : List Stmt → Numbers
  block_names ss = together (map named_by_stmt ss)

  abbrev block_means : Parts → List Stmt → tree.Block
  block_means q ss = block_of (map (stmt_of strings q) ss)

  abbrev bare : List WithStmt → List Stmt
  bare ss = map (λ e. e.0) ss

  fine-block : (ss : List WithStmt) → block_names (bare ss) ≡ [] → AllFine block_names block_means (all (map numbered_stmt (bare ss))) (λ p. block_means p (bare ss))
  fine-block [] h = fine-none block_names block_means (λ p. tree.end) [] refl (λ p q. refl)
  fine-block (e ∷ ss) h =
      let hs = none-both (named_by_stmt e.0) (block_names (bare ss)) h in
      fine-both named_by_stmt (stmt_of strings) (numbered_stmt e.0) (λ p. stmt_of strings p e.0)
      block_names block_means (all (map numbered_stmt (bare ss))) (λ p. block_means p (bare ss))
      block_names block_means (λ x xs. x ∷ xs) (λ x xs. tree.step x xs) (λ x y. refl) (λ q x y. refl) (e.1 hs.0) (fine-block ss hs.1)

  abbrev bare_part : Part-F WithPart WithPayload WithStmt WithNode WithBody WithDef → Part-F Part Payload Stmt TreeNode Body DefTree
  bare_part y = map-Part WithPart WithPayload WithStmt WithNode WithBody WithDef Part Payload Stmt TreeNode Body DefTree (λ e. e.0) (λ e. e.0) (λ e. e.0) (λ e. e.0) (λ e. e.0) (λ e. e.0) y

  abbrev part_named : Part-F WithPart WithPayload WithStmt WithNode WithBody WithDef → Numbers
  part_named y = part_names (map-Part Part Payload Stmt TreeNode Body DefTree Numbers Numbers Numbers Numbers Numbers Numbers named_by_part named_by_payload named_by_stmt named_by_node named_by_body named_by_def (bare_part y))

  abbrev part_numbered : Part-F WithPart WithPayload WithStmt WithNode WithBody WithDef → From Part
  part_numbered y = part_from (map-Part Part Payload Stmt TreeNode Body DefTree (From Part) (From Payload) (From Stmt) (From TreeNode) (From Body) (From DefTree) numbered_part numbered_payload numbered_stmt numbered_node numbered_body numbered_def (bare_part y))

  abbrev part_means : Part-F WithPart WithPayload WithStmt WithNode WithBody WithDef → Parts → Meant
  part_means y p = part_layer p (map-Part Part Payload Stmt TreeNode Body DefTree Meant tree.Payload tree.Stmt Meant tree.Body Defined (part_of strings p) (payload_of strings p) (stmt_of strings p) (node_of strings p) (body_of strings p) (def_of strings p) (bare_part y))

  layer_part : (y : Part-F WithPart WithPayload WithStmt WithNode WithBody WithDef) → part_named y ≡ [] → AllFine named_by_part (part_of strings) (part_numbered y) (part_means y)
  layer_part (Part-F.Held e) h = fine-held (numbered_node e.0) (λ p. node_of strings p e.0) (e.1 h)
  layer_part (Part-F.Number n) h = absurd (grind (arith, h))

  step_part : (x : Part-F Part Payload Stmt TreeNode Body DefTree) (y : Part-F WithPart WithPayload WithStmt WithNode WithBody WithDef) → bare_part y ≡ x → PartFine (roll-Part x)
  step_part x y is = subst (λ z. PartFine (roll-Part z)) is (λ h n.
      let f = layer_part y (sym (fold-roll-Part Numbers Numbers Numbers Numbers Numbers Numbers part_names payload_names stmt_names node_names body_names def_names (bare_part y)) ∙ h) n in
      let e = fold-roll-Part (From Part) (From Payload) (From Stmt) (From TreeNode) (From Body) (From DefTree) part_from payload_from stmt_from node_from body_from def_from (bare_part y) in
      rw e (record {
        next = f.next;
        between = f.between;
        ordered = f.ordered;
        once = f.once;
        same = λ p q holds. f.same p q holds ∙ sym (fold-roll-Part Meant tree.Payload tree.Stmt Meant tree.Body Defined (part_layer p) (payload_layer strings) (stmt_layer strings) node_layer (body_layer strings) (def_layer strings) (bare_part y));
      }))

  abbrev bare_payload : Payload-F WithPart WithPayload WithStmt WithNode WithBody WithDef → Payload-F Part Payload Stmt TreeNode Body DefTree
  bare_payload y = map-Payload WithPart WithPayload WithStmt WithNode WithBody WithDef Part Payload Stmt TreeNode Body DefTree (λ e. e.0) (λ e. e.0) (λ e. e.0) (λ e. e.0) (λ e. e.0) (λ e. e.0) y

  abbrev payload_named : Payload-F WithPart WithPayload WithStmt WithNode WithBody WithDef → Numbers
  payload_named y = payload_names (map-Payload Part Payload Stmt TreeNode Body DefTree Numbers Numbers Numbers Numbers Numbers Numbers named_by_part named_by_payload named_by_stmt named_by_node named_by_body named_by_def (bare_payload y))

  abbrev payload_numbered : Payload-F WithPart WithPayload WithStmt WithNode WithBody WithDef → From Payload
  payload_numbered y = payload_from (map-Payload Part Payload Stmt TreeNode Body DefTree (From Part) (From Payload) (From Stmt) (From TreeNode) (From Body) (From DefTree) numbered_part numbered_payload numbered_stmt numbered_node numbered_body numbered_def (bare_payload y))

  abbrev payload_means : Payload-F WithPart WithPayload WithStmt WithNode WithBody WithDef → Parts → tree.Payload
  payload_means y p = payload_layer strings (map-Payload Part Payload Stmt TreeNode Body DefTree Meant tree.Payload tree.Stmt Meant tree.Body Defined (part_of strings p) (payload_of strings p) (stmt_of strings p) (node_of strings p) (body_of strings p) (def_of strings p) (bare_payload y))

  layer_payload : (y : Payload-F WithPart WithPayload WithStmt WithNode WithBody WithDef) → payload_named y ≡ [] → AllFine named_by_payload (payload_of strings) (payload_numbered y) (payload_means y)
  layer_payload (Payload-F.Def e) h =
      fine-made named_by_def (def_of strings) (numbered_def e.0) (λ p. def_of strings p e.0) named_by_payload (payload_of strings) payload.Def define
      NamedParts.payload-Def (λ q d. payload_of-Def strings q d) (e.1 h)
  layer_payload (Payload-F.SetBinding x e) h =
      fine-none named_by_payload (payload_of strings) (λ p. tree.SetBinding (text_of_sym strings x) (expr_of strings e)) (payload.SetBinding x e)
      (NamedParts.payload-SetBinding x e) (λ p q. payload_of-SetBinding strings q x e)
  layer_payload (Payload-F.Payload::Value e) h =
      fine-none named_by_payload (payload_of strings) (λ p. tree.Evaluate (expr_of strings e)) (payload.Value e)
      (NamedParts.payload-Value e) (λ p q. payload_of-Value strings q e)

  step_payload : (x : Payload-F Part Payload Stmt TreeNode Body DefTree) (y : Payload-F WithPart WithPayload WithStmt WithNode WithBody WithDef) → bare_payload y ≡ x → PayloadFine (roll-Payload x)
  step_payload x y is = subst (λ z. PayloadFine (roll-Payload z)) is (λ h n.
      let f = layer_payload y (sym (fold-roll-Payload Numbers Numbers Numbers Numbers Numbers Numbers part_names payload_names stmt_names node_names body_names def_names (bare_payload y)) ∙ h) n in
      let e = fold-roll-Payload (From Part) (From Payload) (From Stmt) (From TreeNode) (From Body) (From DefTree) part_from payload_from stmt_from node_from body_from def_from (bare_payload y) in
      rw e (record {
        next = f.next;
        between = f.between;
        ordered = f.ordered;
        once = f.once;
        same = λ p q holds. f.same p q holds ∙ sym (fold-roll-Payload Meant tree.Payload tree.Stmt Meant tree.Body Defined (part_layer p) (payload_layer strings) (stmt_layer strings) node_layer (body_layer strings) (def_layer strings) (bare_payload y));
      }))

  abbrev bare_stmt : Stmt-F WithPart WithPayload WithStmt WithNode WithBody WithDef → Stmt-F Part Payload Stmt TreeNode Body DefTree
  bare_stmt y = map-Stmt WithPart WithPayload WithStmt WithNode WithBody WithDef Part Payload Stmt TreeNode Body DefTree (λ e. e.0) (λ e. e.0) (λ e. e.0) (λ e. e.0) (λ e. e.0) (λ e. e.0) y

  abbrev stmt_named : Stmt-F WithPart WithPayload WithStmt WithNode WithBody WithDef → Numbers
  stmt_named y = stmt_names (map-Stmt Part Payload Stmt TreeNode Body DefTree Numbers Numbers Numbers Numbers Numbers Numbers named_by_part named_by_payload named_by_stmt named_by_node named_by_body named_by_def (bare_stmt y))

  abbrev stmt_numbered : Stmt-F WithPart WithPayload WithStmt WithNode WithBody WithDef → From Stmt
  stmt_numbered y = stmt_from (map-Stmt Part Payload Stmt TreeNode Body DefTree (From Part) (From Payload) (From Stmt) (From TreeNode) (From Body) (From DefTree) numbered_part numbered_payload numbered_stmt numbered_node numbered_body numbered_def (bare_stmt y))

  abbrev stmt_means : Stmt-F WithPart WithPayload WithStmt WithNode WithBody WithDef → Parts → tree.Stmt
  stmt_means y p = stmt_layer strings (map-Stmt Part Payload Stmt TreeNode Body DefTree Meant tree.Payload tree.Stmt Meant tree.Body Defined (part_of strings p) (payload_of strings p) (stmt_of strings p) (node_of strings p) (body_of strings p) (def_of strings p) (bare_stmt y))

  layer_stmt : (y : Stmt-F WithPart WithPayload WithStmt WithNode WithBody WithDef) → stmt_named y ≡ [] → AllFine named_by_stmt (stmt_of strings) (stmt_numbered y) (stmt_means y)
  layer_stmt (Stmt-F.Stmt::Value e) h =
      fine-none named_by_stmt (stmt_of strings) (λ p. tree.Value (expr_of strings e)) (stmt.Value e) (NamedParts.stmt-Value e) (λ p q. stmt_of-Value strings q e)
  layer_stmt (Stmt-F.SetLocal x e) h =
      fine-none named_by_stmt (stmt_of strings) (λ p. tree.SetLocal (text_of_sym strings x) (expr_of strings e)) (stmt.SetLocal x e) (NamedParts.stmt-SetLocal x e) (λ p q. stmt_of-SetLocal strings q x e)
  layer_stmt (Stmt-F.SetGlobal x e) h =
      fine-none named_by_stmt (stmt_of strings) (λ p. tree.SetGlobal (text_of_sym strings x) (expr_of strings e)) (stmt.SetGlobal x e) (NamedParts.stmt-SetGlobal x e) (λ p q. stmt_of-SetGlobal strings q x e)
  layer_stmt (Stmt-F.SetField a x e) h =
      fine-none named_by_stmt (stmt_of strings) (λ p. tree.SetField (expr_of strings a) (text_of_sym strings x) (expr_of strings e)) (stmt.SetField a x e) (NamedParts.stmt-SetField a x e) (λ p q. stmt_of-SetField strings q a x e)
  layer_stmt (Stmt-F.If c a b) h =
      let hs = none-both (block_names (bare a)) (block_names (bare b)) h in
      fine-both block_names block_means (all (map numbered_stmt (bare a))) (λ p. block_means p (bare a))
      block_names block_means (all (map numbered_stmt (bare b))) (λ p. block_means p (bare b))
      named_by_stmt (stmt_of strings) (stmt.If c) (tree.If (expr_of strings c))
      (NamedParts.stmt-If c) (λ q x y. stmt_of-If strings q c x y) (fine-block a hs.0) (fine-block b hs.1)
  layer_stmt (Stmt-F.While names c b) h =
      fine-made block_names block_means (all (map numbered_stmt (bare b))) (λ p. block_means p (bare b))
      named_by_stmt (stmt_of strings) (stmt.While names c) (tree.While (texts_of strings names) (expr_of strings c))
      (NamedParts.stmt-While names c) (λ q x. stmt_of-While strings q names c x) (fine-block b h)
  layer_stmt (Stmt-F.For x from to names b) h =
      fine-made block_names block_means (all (map numbered_stmt (bare b))) (λ p. block_means p (bare b))
      named_by_stmt (stmt_of strings) (stmt.For x from to names) (tree.For (text_of_sym strings x) (expr_of strings from) (expr_of strings to) (texts_of strings names))
      (NamedParts.stmt-For x from to names) (λ q y. stmt_of-For strings q x from to names y) (fine-block b h)
  layer_stmt Stmt-F.Break h =
      fine-none named_by_stmt (stmt_of strings) (λ p. tree.Break) stmt.Break NamedParts.stmt-Break (λ p q. stmt_of-Break strings q)
  layer_stmt Stmt-F.Continue h =
      fine-none named_by_stmt (stmt_of strings) (λ p. tree.Continue) stmt.Continue NamedParts.stmt-Continue (λ p q. stmt_of-Continue strings q)
  layer_stmt (Stmt-F.Return e) h =
      fine-none named_by_stmt (stmt_of strings) (λ p. tree.Return (expr_of strings e)) (stmt.Return e) (NamedParts.stmt-Return e) (λ p q. stmt_of-Return strings q e)
  layer_stmt (Stmt-F.Eval m e) h =
      fine-made named_by_part (part_of strings) (numbered_part e.0) (λ p. part_of strings p e.0)
      named_by_stmt (stmt_of strings) (stmt.Eval m) (λ t. tree.Eval (text_of_sym strings m) (as_payload t))
      (NamedParts.stmt-Eval m) (λ q x. stmt_of-Eval strings q m x) (e.1 h)

  step_stmt : (x : Stmt-F Part Payload Stmt TreeNode Body DefTree) (y : Stmt-F WithPart WithPayload WithStmt WithNode WithBody WithDef) → bare_stmt y ≡ x → StmtFine (roll-Stmt x)
  step_stmt x y is = subst (λ z. StmtFine (roll-Stmt z)) is (λ h n.
      let f = layer_stmt y (sym (fold-roll-Stmt Numbers Numbers Numbers Numbers Numbers Numbers part_names payload_names stmt_names node_names body_names def_names (bare_stmt y)) ∙ h) n in
      let e = fold-roll-Stmt (From Part) (From Payload) (From Stmt) (From TreeNode) (From Body) (From DefTree) part_from payload_from stmt_from node_from body_from def_from (bare_stmt y) in
      rw e (record {
        next = f.next;
        between = f.between;
        ordered = f.ordered;
        once = f.once;
        same = λ p q holds. f.same p q holds ∙ sym (fold-roll-Stmt Meant tree.Payload tree.Stmt Meant tree.Body Defined (part_layer p) (payload_layer strings) (stmt_layer strings) node_layer (body_layer strings) (def_layer strings) (bare_stmt y));
      }))

  abbrev bare_node : TreeNode-F WithPart WithPayload WithStmt WithNode WithBody WithDef → TreeNode-F Part Payload Stmt TreeNode Body DefTree
  bare_node y = map-TreeNode WithPart WithPayload WithStmt WithNode WithBody WithDef Part Payload Stmt TreeNode Body DefTree (λ e. e.0) (λ e. e.0) (λ e. e.0) (λ e. e.0) (λ e. e.0) (λ e. e.0) y

  abbrev node_named : TreeNode-F WithPart WithPayload WithStmt WithNode WithBody WithDef → Numbers
  node_named y = node_names (map-TreeNode Part Payload Stmt TreeNode Body DefTree Numbers Numbers Numbers Numbers Numbers Numbers named_by_part named_by_payload named_by_stmt named_by_node named_by_body named_by_def (bare_node y))

  abbrev node_numbered : TreeNode-F WithPart WithPayload WithStmt WithNode WithBody WithDef → From TreeNode
  node_numbered y = node_from (map-TreeNode Part Payload Stmt TreeNode Body DefTree (From Part) (From Payload) (From Stmt) (From TreeNode) (From Body) (From DefTree) numbered_part numbered_payload numbered_stmt numbered_node numbered_body numbered_def (bare_node y))

  abbrev node_means : TreeNode-F WithPart WithPayload WithStmt WithNode WithBody WithDef → Parts → Meant
  node_means y p = node_layer (map-TreeNode Part Payload Stmt TreeNode Body DefTree Meant tree.Payload tree.Stmt Meant tree.Body Defined (part_of strings p) (payload_of strings p) (stmt_of strings p) (node_of strings p) (body_of strings p) (def_of strings p) (bare_node y))

  layer_node : (y : TreeNode-F WithPart WithPayload WithStmt WithNode WithBody WithDef) → node_named y ≡ [] → AllFine named_by_node (node_of strings) (node_numbered y) (node_means y)
  layer_node (TreeNode-F.Body e) h =
      fine-made named_by_body (body_of strings) (numbered_body e.0) (λ p. body_of strings p e.0) named_by_node (node_of strings) node.Body OfBody
      NamedParts.node-Body (λ q b. node_of-Body strings q b) (e.1 h)
  layer_node (TreeNode-F.Payload e) h =
      fine-made named_by_payload (payload_of strings) (numbered_payload e.0) (λ p. payload_of strings p e.0) named_by_node (node_of strings) node.Payload OfPayload
      NamedParts.node-Payload (λ q b. node_of-Payload strings q b) (e.1 h)

  step_node : (x : TreeNode-F Part Payload Stmt TreeNode Body DefTree) (y : TreeNode-F WithPart WithPayload WithStmt WithNode WithBody WithDef) → bare_node y ≡ x → NodeFine (roll-TreeNode x)
  step_node x y is = subst (λ z. NodeFine (roll-TreeNode z)) is (λ h n.
      let f = layer_node y (sym (fold-roll-TreeNode Numbers Numbers Numbers Numbers Numbers Numbers part_names payload_names stmt_names node_names body_names def_names (bare_node y)) ∙ h) n in
      let e = fold-roll-TreeNode (From Part) (From Payload) (From Stmt) (From TreeNode) (From Body) (From DefTree) part_from payload_from stmt_from node_from body_from def_from (bare_node y) in
      rw e (record {
        next = f.next;
        between = f.between;
        ordered = f.ordered;
        once = f.once;
        same = λ p q holds. f.same p q holds ∙ sym (fold-roll-TreeNode Meant tree.Payload tree.Stmt Meant tree.Body Defined (part_layer p) (payload_layer strings) (stmt_layer strings) node_layer (body_layer strings) (def_layer strings) (bare_node y));
      }))

  abbrev bare_body : Body-F WithPart WithPayload WithStmt WithNode WithBody WithDef → Body-F Part Payload Stmt TreeNode Body DefTree
  bare_body y = map-Body WithPart WithPayload WithStmt WithNode WithBody WithDef Part Payload Stmt TreeNode Body DefTree (λ e. e.0) (λ e. e.0) (λ e. e.0) (λ e. e.0) (λ e. e.0) (λ e. e.0) y

  abbrev body_named : Body-F WithPart WithPayload WithStmt WithNode WithBody WithDef → Numbers
  body_named y = body_names (map-Body Part Payload Stmt TreeNode Body DefTree Numbers Numbers Numbers Numbers Numbers Numbers named_by_part named_by_payload named_by_stmt named_by_node named_by_body named_by_def (bare_body y))

  abbrev body_numbered : Body-F WithPart WithPayload WithStmt WithNode WithBody WithDef → From Body
  body_numbered y = body_from (map-Body Part Payload Stmt TreeNode Body DefTree (From Part) (From Payload) (From Stmt) (From TreeNode) (From Body) (From DefTree) numbered_part numbered_payload numbered_stmt numbered_node numbered_body numbered_def (bare_body y))

  abbrev body_means : Body-F WithPart WithPayload WithStmt WithNode WithBody WithDef → Parts → tree.Body
  body_means y p = body_layer strings (map-Body Part Payload Stmt TreeNode Body DefTree Meant tree.Payload tree.Stmt Meant tree.Body Defined (part_of strings p) (payload_of strings p) (stmt_of strings p) (node_of strings p) (body_of strings p) (def_of strings p) (bare_body y))

  layer_body : (y : Body-F WithPart WithPayload WithStmt WithNode WithBody WithDef) → body_named y ≡ [] → AllFine named_by_body (body_of strings) (body_numbered y) (body_means y)
  layer_body y h =
      fine-made block_names block_means (all (map numbered_stmt (bare y.block))) (λ p. block_means p (bare y.block))
      named_by_body (body_of strings) (λ ss. roll-Body (record { params = y.params; introduced = y.introduced; block = ss })) (tree.body (texts_of strings y.params) (texts_of strings y.introduced))
      (λ ss. fold-roll-Body Numbers Numbers Numbers Numbers Numbers Numbers part_names payload_names stmt_names node_names body_names def_names (record { params = y.params; introduced = y.introduced; block = ss }))
      (λ q ss. fold-roll-Body Meant tree.Payload tree.Stmt Meant tree.Body Defined (part_layer q) (payload_layer strings) (stmt_layer strings) node_layer (body_layer strings) (def_layer strings) (record { params = y.params; introduced = y.introduced; block = ss }))
      (fine-block y.block h)

  step_body : (x : Body-F Part Payload Stmt TreeNode Body DefTree) (y : Body-F WithPart WithPayload WithStmt WithNode WithBody WithDef) → bare_body y ≡ x → BodyFine (roll-Body x)
  step_body x y is = subst (λ z. BodyFine (roll-Body z)) is (λ h n.
      let f = layer_body y (sym (fold-roll-Body Numbers Numbers Numbers Numbers Numbers Numbers part_names payload_names stmt_names node_names body_names def_names (bare_body y)) ∙ h) n in
      let e = fold-roll-Body (From Part) (From Payload) (From Stmt) (From TreeNode) (From Body) (From DefTree) part_from payload_from stmt_from node_from body_from def_from (bare_body y) in
      rw e (record {
        next = f.next;
        between = f.between;
        ordered = f.ordered;
        once = f.once;
        same = λ p q holds. f.same p q holds ∙ sym (fold-roll-Body Meant tree.Payload tree.Stmt Meant tree.Body Defined (part_layer p) (payload_layer strings) (stmt_layer strings) node_layer (body_layer strings) (def_layer strings) (bare_body y));
      }))

  abbrev bare_def : DefTree-F WithPart WithPayload WithStmt WithNode WithBody WithDef → DefTree-F Part Payload Stmt TreeNode Body DefTree
  bare_def y = map-DefTree WithPart WithPayload WithStmt WithNode WithBody WithDef Part Payload Stmt TreeNode Body DefTree (λ e. e.0) (λ e. e.0) (λ e. e.0) (λ e. e.0) (λ e. e.0) (λ e. e.0) y

  abbrev def_named : DefTree-F WithPart WithPayload WithStmt WithNode WithBody WithDef → Numbers
  def_named y = def_names (map-DefTree Part Payload Stmt TreeNode Body DefTree Numbers Numbers Numbers Numbers Numbers Numbers named_by_part named_by_payload named_by_stmt named_by_node named_by_body named_by_def (bare_def y))

  abbrev def_numbered : DefTree-F WithPart WithPayload WithStmt WithNode WithBody WithDef → From DefTree
  def_numbered y = def_from (map-DefTree Part Payload Stmt TreeNode Body DefTree (From Part) (From Payload) (From Stmt) (From TreeNode) (From Body) (From DefTree) numbered_part numbered_payload numbered_stmt numbered_node numbered_body numbered_def (bare_def y))

  abbrev def_means : DefTree-F WithPart WithPayload WithStmt WithNode WithBody WithDef → Parts → Defined
  def_means y p = def_layer strings (map-DefTree Part Payload Stmt TreeNode Body DefTree Meant tree.Payload tree.Stmt Meant tree.Body Defined (part_of strings p) (payload_of strings p) (stmt_of strings p) (node_of strings p) (body_of strings p) (def_of strings p) (bare_def y))

  layer_def : (y : DefTree-F WithPart WithPayload WithStmt WithNode WithBody WithDef) → def_named y ≡ [] → AllFine named_by_def (def_of strings) (def_numbered y) (def_means y)
  layer_def y h =
      fine-made named_by_part (part_of strings) (numbered_part y.body.0) (λ p. part_of strings p y.body.0)
      named_by_def (def_of strings) (λ b. roll-DefTree (record { «module» = y.«module»; fun = y.fun; params = y.params; body = b }))
      (λ t. record { home = text_of_sym strings y.«module»; fun = text_of_sym strings y.fun; params = params_of strings y.params; code = as_body t })
      (λ b. fold-roll-DefTree Numbers Numbers Numbers Numbers Numbers Numbers part_names payload_names stmt_names node_names body_names def_names (record { «module» = y.«module»; fun = y.fun; params = y.params; body = b }))
      (λ q b. fold-roll-DefTree Meant tree.Payload tree.Stmt Meant tree.Body Defined (part_layer q) (payload_layer strings) (stmt_layer strings) node_layer (body_layer strings) (def_layer strings) (record { «module» = y.«module»; fun = y.fun; params = y.params; body = b }))
      (y.body.1 h)

  step_def : (x : DefTree-F Part Payload Stmt TreeNode Body DefTree) (y : DefTree-F WithPart WithPayload WithStmt WithNode WithBody WithDef) → bare_def y ≡ x → DefFine (roll-DefTree x)
  step_def x y is = subst (λ z. DefFine (roll-DefTree z)) is (λ h n.
      let f = layer_def y (sym (fold-roll-DefTree Numbers Numbers Numbers Numbers Numbers Numbers part_names payload_names stmt_names node_names body_names def_names (bare_def y)) ∙ h) n in
      let e = fold-roll-DefTree (From Part) (From Payload) (From Stmt) (From TreeNode) (From Body) (From DefTree) part_from payload_from stmt_from node_from body_from def_from (bare_def y) in
      rw e (record {
        next = f.next;
        between = f.between;
        ordered = f.ordered;
        once = f.once;
        same = λ p q holds. f.same p q holds ∙ sym (fold-roll-DefTree Meant tree.Payload tree.Stmt Meant tree.Body Defined (part_layer p) (payload_layer strings) (stmt_layer strings) node_layer (body_layer strings) (def_layer strings) (bare_def y));
      }))

  pub numbered_well : (t : TreeNode) → named_by_node t ≡ [] → AllFine named_by_node (node_of strings) (numbered_node t) (λ p. node_of strings p t)
  numbered_well = ind-TreeNode PartFine PayloadFine StmtFine NodeFine BodyFine DefFine step_part step_payload step_stmt step_node step_body step_def
