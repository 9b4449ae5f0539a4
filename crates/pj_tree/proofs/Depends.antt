-- What a tree means depends on the meaning of those trees alone whose numbers it names.
use Rattle.std.proofs.Common.{◌≡◌, refl, sym, ap, ◌∙◌, subst, List, [], ◌∷◌, ◌++◌, map}
use Rattle.pj_meaning.specs.Tree as tree
use Rattle.pj_tree.specs.Reads.{Strings, Parts, Meant, OfBody, OfPayload, Defined, define, as_body, as_payload, text_of_sym, texts_of, params_of, block_of, part_layer, payload_layer, stmt_layer, node_layer, body_layer, def_layer, part_of, payload_of, stmt_of, node_of, body_of, def_of}
use Rattle.pj_tree.specs.Named.{Numbers, Agree, together, part_names, payload_names, stmt_names, node_names, body_names, def_names, named_by_part, named_by_payload, named_by_stmt, named_by_node, named_by_body, named_by_def}
use Rattle.pj_tree.specs.declared.tree.Stmt.{Stmt}
use Rattle.pj_tree.specs.declared.tree.Part.{Part}
use Rattle.pj_tree.specs.declared.tree.TreeNode.{TreeNode}
use Rattle.pj_tree.specs.declared.tree.Body.{Body}
use Rattle.pj_tree.specs.declared.tree.DefTree.{DefTree}
use Rattle.pj_tree.specs.declared.tree.Payload.{Payload}
use Rattle.pj_tree.specs.declared.tree.Part.TheOpen.{Part-F, Payload-F, Stmt-F, TreeNode-F, Body-F, DefTree-F}
use Rattle.pj_tree.specs.declared.tree.Part.TheViews.{roll-Part, roll-Payload, roll-Stmt, roll-TreeNode, roll-Body, roll-DefTree}
use Rattle.pj_tree.specs.declared.tree.Part.TheFolds.{map-Part, map-Payload, map-Stmt, map-TreeNode, map-Body, map-DefTree, fold-roll-Part, fold-roll-Payload, fold-roll-Stmt, fold-roll-TreeNode, fold-roll-Body, fold-roll-DefTree, ind-TreeNode}

front : (p q : Parts) (ms ns : Numbers) → Agree p q (ms ++ ns) → Agree p q ms
front p q [] ns h = _
front p q (m ∷ ms) ns h = (h.0, front p q ms ns h.1)

back : (p q : Parts) (ms ns : Numbers) → Agree p q (ms ++ ns) → Agree p q ns
back p q [] ns h = h
back p q (m ∷ ms) ns h = back p q ms ns h.1

module _ (strings : Strings) (p q : Parts) where
  abbrev Same : Numbers → Type 0
  Same ns = Agree p q ns

  abbrev PartSame : Part → Type 0
  PartSame t = Same (named_by_part t) → part_of strings p t ≡ part_of strings q t

  abbrev WithPart : Type 0
  WithPart = (t : Part) × PartSame t

  abbrev PayloadSame : Payload → Type 0
  PayloadSame t = Same (named_by_payload t) → payload_of strings p t ≡ payload_of strings q t

  abbrev WithPayload : Type 0
  WithPayload = (t : Payload) × PayloadSame t

  abbrev StmtSame : Stmt → Type 0
  StmtSame t = Same (named_by_stmt t) → stmt_of strings p t ≡ stmt_of strings q t

  abbrev WithStmt : Type 0
  WithStmt = (t : Stmt) × StmtSame t

  abbrev NodeSame : TreeNode → Type 0
  NodeSame t = Same (named_by_node t) → node_of strings p t ≡ node_of strings q t

  abbrev WithNode : Type 0
  WithNode = (t : TreeNode) × NodeSame t

  abbrev BodySame : Body → Type 0
  BodySame t = Same (named_by_body t) → body_of strings p t ≡ body_of strings q t

  abbrev WithBody : Type 0
  WithBody = (t : Body) × BodySame t

  abbrev DefSame : DefTree → Type 0
  DefSame t = Same (named_by_def t) → def_of strings p t ≡ def_of strings q t

  abbrev WithDef : Type 0
  WithDef = (t : DefTree) × DefSame t

  blocks : (ss : List WithStmt) → Same (together (map named_by_stmt (map (λ e. e.0) ss))) → block_of (map (stmt_of strings p) (map (λ e. e.0) ss)) ≡ block_of (map (stmt_of strings q) (map (λ e. e.0) ss))
  blocks [] h = refl
  blocks (e ∷ ss) h = rw (e.1 (front p q (named_by_stmt e.0) (together (map named_by_stmt (map (λ e. e.0) ss))) h), blocks ss (back p q (named_by_stmt e.0) (together (map named_by_stmt (map (λ e. e.0) ss))) h)) refl

  abbrev bare_part : Part-F WithPart WithPayload WithStmt WithNode WithBody WithDef → Part-F Part Payload Stmt TreeNode Body DefTree
  bare_part y = map-Part WithPart WithPayload WithStmt WithNode WithBody WithDef Part Payload Stmt TreeNode Body DefTree (λ e. e.0) (λ e. e.0) (λ e. e.0) (λ e. e.0) (λ e. e.0) (λ e. e.0) y

  layer_part : (y : Part-F WithPart WithPayload WithStmt WithNode WithBody WithDef) → Same (part_names (map-Part Part Payload Stmt TreeNode Body DefTree Numbers Numbers Numbers Numbers Numbers Numbers named_by_part named_by_payload named_by_stmt named_by_node named_by_body named_by_def (bare_part y))) →
      part_layer p (map-Part Part Payload Stmt TreeNode Body DefTree Meant tree.Payload tree.Stmt Meant tree.Body Defined (part_of strings p) (payload_of strings p) (stmt_of strings p) (node_of strings p) (body_of strings p) (def_of strings p) (bare_part y)) ≡ part_layer q (map-Part Part Payload Stmt TreeNode Body DefTree Meant tree.Payload tree.Stmt Meant tree.Body Defined (part_of strings q) (payload_of strings q) (stmt_of strings q) (node_of strings q) (body_of strings q) (def_of strings q) (bare_part y))
  layer_part (Part-F.Held e) h = e.1 h
  layer_part (Part-F.Number n) h = h.0

  step_part : (x : Part-F Part Payload Stmt TreeNode Body DefTree) (y : Part-F WithPart WithPayload WithStmt WithNode WithBody WithDef) → bare_part y ≡ x → PartSame (roll-Part x)
  step_part x y is = subst (λ z. PartSame (roll-Part z)) is (λ h.
      fold-roll-Part Meant tree.Payload tree.Stmt Meant tree.Body Defined (part_layer p) (payload_layer strings) (stmt_layer strings) node_layer (body_layer strings) (def_layer strings) (bare_part y)
      ∙ (layer_part y (subst Same (fold-roll-Part Numbers Numbers Numbers Numbers Numbers Numbers part_names payload_names stmt_names node_names body_names def_names (bare_part y)) h)
      ∙ sym (fold-roll-Part Meant tree.Payload tree.Stmt Meant tree.Body Defined (part_layer q) (payload_layer strings) (stmt_layer strings) node_layer (body_layer strings) (def_layer strings) (bare_part y))))

  abbrev bare_payload : Payload-F WithPart WithPayload WithStmt WithNode WithBody WithDef → Payload-F Part Payload Stmt TreeNode Body DefTree
  bare_payload y = map-Payload WithPart WithPayload WithStmt WithNode WithBody WithDef Part Payload Stmt TreeNode Body DefTree (λ e. e.0) (λ e. e.0) (λ e. e.0) (λ e. e.0) (λ e. e.0) (λ e. e.0) y

  layer_payload : (y : Payload-F WithPart WithPayload WithStmt WithNode WithBody WithDef) → Same (payload_names (map-Payload Part Payload Stmt TreeNode Body DefTree Numbers Numbers Numbers Numbers Numbers Numbers named_by_part named_by_payload named_by_stmt named_by_node named_by_body named_by_def (bare_payload y))) →
      payload_layer strings (map-Payload Part Payload Stmt TreeNode Body DefTree Meant tree.Payload tree.Stmt Meant tree.Body Defined (part_of strings p) (payload_of strings p) (stmt_of strings p) (node_of strings p) (body_of strings p) (def_of strings p) (bare_payload y)) ≡ payload_layer strings (map-Payload Part Payload Stmt TreeNode Body DefTree Meant tree.Payload tree.Stmt Meant tree.Body Defined (part_of strings q) (payload_of strings q) (stmt_of strings q) (node_of strings q) (body_of strings q) (def_of strings q) (bare_payload y))
  layer_payload (Payload-F.Def e) h = ap define (e.1 h)
  layer_payload (Payload-F.SetBinding x e) h = refl
  layer_payload (Payload-F.Payload::Value e) h = refl

  step_payload : (x : Payload-F Part Payload Stmt TreeNode Body DefTree) (y : Payload-F WithPart WithPayload WithStmt WithNode WithBody WithDef) → bare_payload y ≡ x → PayloadSame (roll-Payload x)
  step_payload x y is = subst (λ z. PayloadSame (roll-Payload z)) is (λ h.
      fold-roll-Payload Meant tree.Payload tree.Stmt Meant tree.Body Defined (part_layer p) (payload_layer strings) (stmt_layer strings) node_layer (body_layer strings) (def_layer strings) (bare_payload y)
      ∙ (layer_payload y (subst Same (fold-roll-Payload Numbers Numbers Numbers Numbers Numbers Numbers part_names payload_names stmt_names node_names body_names def_names (bare_payload y)) h)
      ∙ sym (fold-roll-Payload Meant tree.Payload tree.Stmt Meant tree.Body Defined (part_layer q) (payload_layer strings) (stmt_layer strings) node_layer (body_layer strings) (def_layer strings) (bare_payload y))))

  abbrev bare_stmt : Stmt-F WithPart WithPayload WithStmt WithNode WithBody WithDef → Stmt-F Part Payload Stmt TreeNode Body DefTree
  bare_stmt y = map-Stmt WithPart WithPayload WithStmt WithNode WithBody WithDef Part Payload Stmt TreeNode Body DefTree (λ e. e.0) (λ e. e.0) (λ e. e.0) (λ e. e.0) (λ e. e.0) (λ e. e.0) y

  layer_stmt : (y : Stmt-F WithPart WithPayload WithStmt WithNode WithBody WithDef) → Same (stmt_names (map-Stmt Part Payload Stmt TreeNode Body DefTree Numbers Numbers Numbers Numbers Numbers Numbers named_by_part named_by_payload named_by_stmt named_by_node named_by_body named_by_def (bare_stmt y))) →
      stmt_layer strings (map-Stmt Part Payload Stmt TreeNode Body DefTree Meant tree.Payload tree.Stmt Meant tree.Body Defined (part_of strings p) (payload_of strings p) (stmt_of strings p) (node_of strings p) (body_of strings p) (def_of strings p) (bare_stmt y)) ≡ stmt_layer strings (map-Stmt Part Payload Stmt TreeNode Body DefTree Meant tree.Payload tree.Stmt Meant tree.Body Defined (part_of strings q) (payload_of strings q) (stmt_of strings q) (node_of strings q) (body_of strings q) (def_of strings q) (bare_stmt y))
  layer_stmt (Stmt-F.Stmt::Value e) h = refl
  layer_stmt (Stmt-F.SetLocal x e) h = refl
  layer_stmt (Stmt-F.SetGlobal x e) h = refl
  layer_stmt (Stmt-F.SetField a x e) h = refl
  layer_stmt (Stmt-F.If c a b) h = rw (blocks a (front p q (together (map named_by_stmt (map (λ e. e.0) a))) (together (map named_by_stmt (map (λ e. e.0) b))) h), blocks b (back p q (together (map named_by_stmt (map (λ e. e.0) a))) (together (map named_by_stmt (map (λ e. e.0) b))) h)) refl
  layer_stmt (Stmt-F.While names c b) h = rw (blocks b h) refl
  layer_stmt (Stmt-F.For x from to names b) h = rw (blocks b h) refl
  layer_stmt Stmt-F.Break h = refl
  layer_stmt Stmt-F.Continue h = refl
  layer_stmt (Stmt-F.Return e) h = refl
  layer_stmt (Stmt-F.Eval m e) h = ap (λ t. tree.Eval (text_of_sym strings m) (as_payload t)) (e.1 h)

  step_stmt : (x : Stmt-F Part Payload Stmt TreeNode Body DefTree) (y : Stmt-F WithPart WithPayload WithStmt WithNode WithBody WithDef) → bare_stmt y ≡ x → StmtSame (roll-Stmt x)
  step_stmt x y is = subst (λ z. StmtSame (roll-Stmt z)) is (λ h.
      fold-roll-Stmt Meant tree.Payload tree.Stmt Meant tree.Body Defined (part_layer p) (payload_layer strings) (stmt_layer strings) node_layer (body_layer strings) (def_layer strings) (bare_stmt y)
      ∙ (layer_stmt y (subst Same (fold-roll-Stmt Numbers Numbers Numbers Numbers Numbers Numbers part_names payload_names stmt_names node_names body_names def_names (bare_stmt y)) h)
      ∙ sym (fold-roll-Stmt Meant tree.Payload tree.Stmt Meant tree.Body Defined (part_layer q) (payload_layer strings) (stmt_layer strings) node_layer (body_layer strings) (def_layer strings) (bare_stmt y))))

  abbrev bare_node : TreeNode-F WithPart WithPayload WithStmt WithNode WithBody WithDef → TreeNode-F Part Payload Stmt TreeNode Body DefTree
  bare_node y = map-TreeNode WithPart WithPayload WithStmt WithNode WithBody WithDef Part Payload Stmt TreeNode Body DefTree (λ e. e.0) (λ e. e.0) (λ e. e.0) (λ e. e.0) (λ e. e.0) (λ e. e.0) y

  layer_node : (y : TreeNode-F WithPart WithPayload WithStmt WithNode WithBody WithDef) → Same (node_names (map-TreeNode Part Payload Stmt TreeNode Body DefTree Numbers Numbers Numbers Numbers Numbers Numbers named_by_part named_by_payload named_by_stmt named_by_node named_by_body named_by_def (bare_node y))) →
      node_layer (map-TreeNode Part Payload Stmt TreeNode Body DefTree Meant tree.Payload tree.Stmt Meant tree.Body Defined (part_of strings p) (payload_of strings p) (stmt_of strings p) (node_of strings p) (body_of strings p) (def_of strings p) (bare_node y)) ≡ node_layer (map-TreeNode Part Payload Stmt TreeNode Body DefTree Meant tree.Payload tree.Stmt Meant tree.Body Defined (part_of strings q) (payload_of strings q) (stmt_of strings q) (node_of strings q) (body_of strings q) (def_of strings q) (bare_node y))
  layer_node (TreeNode-F.Body e) h = ap OfBody (e.1 h)
  layer_node (TreeNode-F.Payload e) h = ap OfPayload (e.1 h)

  step_node : (x : TreeNode-F Part Payload Stmt TreeNode Body DefTree) (y : TreeNode-F WithPart WithPayload WithStmt WithNode WithBody WithDef) → bare_node y ≡ x → NodeSame (roll-TreeNode x)
  step_node x y is = subst (λ z. NodeSame (roll-TreeNode z)) is (λ h.
      fold-roll-TreeNode Meant tree.Payload tree.Stmt Meant tree.Body Defined (part_layer p) (payload_layer strings) (stmt_layer strings) node_layer (body_layer strings) (def_layer strings) (bare_node y)
      ∙ (layer_node y (subst Same (fold-roll-TreeNode Numbers Numbers Numbers Numbers Numbers Numbers part_names payload_names stmt_names node_names body_names def_names (bare_node y)) h)
      ∙ sym (fold-roll-TreeNode Meant tree.Payload tree.Stmt Meant tree.Body Defined (part_layer q) (payload_layer strings) (stmt_layer strings) node_layer (body_layer strings) (def_layer strings) (bare_node y))))

  abbrev bare_body : Body-F WithPart WithPayload WithStmt WithNode WithBody WithDef → Body-F Part Payload Stmt TreeNode Body DefTree
  bare_body y = map-Body WithPart WithPayload WithStmt WithNode WithBody WithDef Part Payload Stmt TreeNode Body DefTree (λ e. e.0) (λ e. e.0) (λ e. e.0) (λ e. e.0) (λ e. e.0) (λ e. e.0) y

  layer_body : (y : Body-F WithPart WithPayload WithStmt WithNode WithBody WithDef) → Same (body_names (map-Body Part Payload Stmt TreeNode Body DefTree Numbers Numbers Numbers Numbers Numbers Numbers named_by_part named_by_payload named_by_stmt named_by_node named_by_body named_by_def (bare_body y))) →
      body_layer strings (map-Body Part Payload Stmt TreeNode Body DefTree Meant tree.Payload tree.Stmt Meant tree.Body Defined (part_of strings p) (payload_of strings p) (stmt_of strings p) (node_of strings p) (body_of strings p) (def_of strings p) (bare_body y)) ≡ body_layer strings (map-Body Part Payload Stmt TreeNode Body DefTree Meant tree.Payload tree.Stmt Meant tree.Body Defined (part_of strings q) (payload_of strings q) (stmt_of strings q) (node_of strings q) (body_of strings q) (def_of strings q) (bare_body y))
  layer_body y h = ap (λ b. tree.body (texts_of strings y.params) (texts_of strings y.introduced) b) (blocks y.block h)

  step_body : (x : Body-F Part Payload Stmt TreeNode Body DefTree) (y : Body-F WithPart WithPayload WithStmt WithNode WithBody WithDef) → bare_body y ≡ x → BodySame (roll-Body x)
  step_body x y is = subst (λ z. BodySame (roll-Body z)) is (λ h.
      fold-roll-Body Meant tree.Payload tree.Stmt Meant tree.Body Defined (part_layer p) (payload_layer strings) (stmt_layer strings) node_layer (body_layer strings) (def_layer strings) (bare_body y)
      ∙ (layer_body y (subst Same (fold-roll-Body Numbers Numbers Numbers Numbers Numbers Numbers part_names payload_names stmt_names node_names body_names def_names (bare_body y)) h)
      ∙ sym (fold-roll-Body Meant tree.Payload tree.Stmt Meant tree.Body Defined (part_layer q) (payload_layer strings) (stmt_layer strings) node_layer (body_layer strings) (def_layer strings) (bare_body y))))

  abbrev bare_def : DefTree-F WithPart WithPayload WithStmt WithNode WithBody WithDef → DefTree-F Part Payload Stmt TreeNode Body DefTree
  bare_def y = map-DefTree WithPart WithPayload WithStmt WithNode WithBody WithDef Part Payload Stmt TreeNode Body DefTree (λ e. e.0) (λ e. e.0) (λ e. e.0) (λ e. e.0) (λ e. e.0) (λ e. e.0) y

  layer_def : (y : DefTree-F WithPart WithPayload WithStmt WithNode WithBody WithDef) → Same (def_names (map-DefTree Part Payload Stmt TreeNode Body DefTree Numbers Numbers Numbers Numbers Numbers Numbers named_by_part named_by_payload named_by_stmt named_by_node named_by_body named_by_def (bare_def y))) →
      def_layer strings (map-DefTree Part Payload Stmt TreeNode Body DefTree Meant tree.Payload tree.Stmt Meant tree.Body Defined (part_of strings p) (payload_of strings p) (stmt_of strings p) (node_of strings p) (body_of strings p) (def_of strings p) (bare_def y)) ≡ def_layer strings (map-DefTree Part Payload Stmt TreeNode Body DefTree Meant tree.Payload tree.Stmt Meant tree.Body Defined (part_of strings q) (payload_of strings q) (stmt_of strings q) (node_of strings q) (body_of strings q) (def_of strings q) (bare_def y))
  layer_def y h = ap (λ t. record { home = text_of_sym strings y.«module»; fun = text_of_sym strings y.fun; params = params_of strings y.params; code = as_body t }) (y.body.1 h)

  step_def : (x : DefTree-F Part Payload Stmt TreeNode Body DefTree) (y : DefTree-F WithPart WithPayload WithStmt WithNode WithBody WithDef) → bare_def y ≡ x → DefSame (roll-DefTree x)
  step_def x y is = subst (λ z. DefSame (roll-DefTree z)) is (λ h.
      fold-roll-DefTree Meant tree.Payload tree.Stmt Meant tree.Body Defined (part_layer p) (payload_layer strings) (stmt_layer strings) node_layer (body_layer strings) (def_layer strings) (bare_def y)
      ∙ (layer_def y (subst Same (fold-roll-DefTree Numbers Numbers Numbers Numbers Numbers Numbers part_names payload_names stmt_names node_names body_names def_names (bare_def y)) h)
      ∙ sym (fold-roll-DefTree Meant tree.Payload tree.Stmt Meant tree.Body Defined (part_layer q) (payload_layer strings) (stmt_layer strings) node_layer (body_layer strings) (def_layer strings) (bare_def y))))

  pub same_where_named : (t : TreeNode) → Same (named_by_node t) → node_of strings p t ≡ node_of strings q t
  same_where_named = ind-TreeNode PartSame PayloadSame StmtSame NodeSame BodySame DefSame step_part step_payload step_stmt step_node step_body step_def
