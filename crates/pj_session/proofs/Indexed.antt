-- What an image binds, by places.
use Rattle.std.proofs.Common.{◌≡◌, ℕ, zero, suc, ◌-◌, ◌<◌, ◌≤◌, ◌==◌, nat_lt, nat_le, Bool, true, false, cond, not, ◌&&◌, List, [], ◌∷◌, ◌++◌, take, find, map, length, Option, Some, None, slice_get, slice_index_or, option_map, refl, sym, ap, subst, ◌∙◌, arith}
use Rattle.std.specs.Prelude.{option_and_then, is_some}
use Rattle.std.proofs.Math.Bool.{Bool-set}
use Rattle.std.proofs.Math.Logic.{∥∥₁_elim}
use Rattle.std.specs.List.{list_all, position_or_len}
use Rattle.std.specs.Str.{bytes_eq}
use Rattle.std.proofs.lemmas.Option.{slice_get_past, slice_get-map, slice_get-get_or}
use Rattle.std.proofs.lemmas.Bool.Decides.{nat_tests}
use Rattle.std.proofs.lemmas.List.{length-map, map-append}
use Rattle.std.proofs.lemmas.List.Folds.{find_at}
use Rattle.pj_base.specs.Kinds.{kind_number}
use Rattle.pj_base.specs.Interned.{has_text, place_of, found_at}
use Rattle.pj_base.specs.declared.kinds.KindTag.TheVariants as kinds
use Rattle.pj_reloc.specs.declared.entry.Entry.{Entry}
use Rattle.pj_reloc.specs.Resolving.{among, resolved}
use Rattle.pj_meaning.specs.Tree.{Text}
use Rattle.pj_meaning.specs.Tree as tree
use Rattle.pj_meaning.specs.State as state
use Rattle.pj_meaning.specs.Content.{Made}
use Rattle.pj_tree.specs.Reads as reads
use Rattle.pj_tree.specs.Reads.{as_body, texts_of, block_of, stmt_of, node_of}
use Rattle.pj_tree.specs.declared.tree.Sym.{Sym}
use Rattle.pj_tree.specs.declared.tree.Stmt.{Stmt, out-Stmt, roll-Stmt}
use Rattle.pj_tree.specs.declared.tree.Stmt.TheVariants as stmt
use Rattle.pj_tree.specs.declared.tree.Part.{Part}
use Rattle.pj_tree.specs.declared.tree.Payload.{Payload}
use Rattle.pj_tree.specs.declared.tree.Body.{Body, out-Body}
use Rattle.pj_tree.specs.declared.tree.DefTree.{DefTree}
use Rattle.pj_tree.specs.declared.tree.TreeNode.{TreeNode, out-TreeNode, roll-TreeNode}
use Rattle.pj_tree.specs.declared.tree.TreeNode.TheVariants as node
use Rattle.pj_tree.specs.declared.tree.Part.TheOpen.{Stmt-F, TreeNode-F}
use Rattle.pj_tree.specs.declared.tree.Part.TheViews.{roll-out-Stmt, roll-out-TreeNode}
use Rattle.pj_tree.proofs.TreeReads.{stmt_of-Value, node_of-Body, body_of-Body}
use Rattle.pj_words.specs.Words.{is_identifier}
use Rattle.pj_parts.specs.declared.types.Value.{out-Value}
use Rattle.pj_parts.specs.declared.types.Value.TheOpen.{Value-F}
use Rattle.pj_parts.specs.declared.types.BindingForm.{BindingForm}
use Rattle.pj_parts.specs.declared.types.BindingForm.TheVariants as forms
use Rattle.pj_parts.specs.declared.types.Binding.{Binding}
use Rattle.pj_parts.specs.declared.types.Method.{Method}
use Rattle.pj_plain.specs.Names.{all_different, is_among}
use Rattle.pj_plain.proofs.Bools.{both_true}
use Rattle.pj_image.specs.declared.image.Image.{Image}
use Rattle.pj_image.specs.Names.{sym_number, all_seen}
use Rattle.pj_image.specs.Pieces.{takes, method_fine}
use Rattle.pj_image.specs.PlainTrees.{plain_stmt, plain_block, plain_under, plain_tree, is_plain}
use Rattle.pj_image.specs.Formed as formed_images
use Rattle.pj_image.specs.Formed.{Formed}
use Rattle.pj_content.specs.Content.{strings_in, functions_of, function_at, value_in, role_of, binding_of, made_of, content_of}
use Rattle.pj_content.specs.Misfit.{tables, own_place, methods_misfit, misfit}
use Rattle.pj_content.proofs.Bools.{all_at}
use Rattle.pj_content.proofs.Names.{places_differ}
use Rattle.pj_content.proofs.Entries.{own_named}
use Rattle.pj_content.proofs.Methods.{placed_by}
use Rattle.pj_content.proofs.Trees.{tree_at}
use Rattle.pj_content.proofs.Plain as plain
use Rattle.pj_session.specs.Events.{Parts, parts_of}
use Rattle.pj_session.specs.Things.{Thing, Calls, Holds, number_of, made_for, thing_of}
use Rattle.pj_session.specs.Places.{Named, names_of, named_by, own_things, images, content_things}
use Rattle.pj_session.specs.Indexed.{names_in_image, statement_parts, block_parts, node_parts, tree_parts, is_of_place, adds_to, method_place, method_parts, parts_at, whole_of, thing_in_place, a_name_of_a_file_is_the_thing_in_its_place, the_names_of_a_file_are_new, an_own_name_is_in_its_place, an_image_is_in_its_place}
use Rattle.pj_session.proofs.Texts.{text_itself, bytes_eq-comm, or_left, or_right, and_left, and_right, not_true}
use Rattle.pj_session.proofs.Places.{own_at, image_at, thing_at}

-- lists

at_least : (n m : ℕ) → nat_lt n m ≡ false → m ≤ n
at_least n m h = grind (arith, nat_tests)

below : (n m : ℕ) → nat_lt n m ≡ true → n < m
below n m h = grind (arith, nat_tests)

-- a place in a list, or none behind it
in_list : {A : Type 0} → (xs : List A) (n m : ℕ) → length xs ≡ m → slice_get xs n ≡ option_and_then (slice_get xs) (cond (nat_lt n m) (Some n) None)
in_list {A} xs n m many = by (nat_lt n m) refl
  where
    by : (b : Bool) → nat_lt n m ≡ b → slice_get xs n ≡ option_and_then (slice_get xs) (cond b (Some n) None)
    by true e = refl
    by false e = slice_get_past xs n (let h = at_least n m e in omega (arith, many))

get_append : {A : Type 0} → (xs ys : List A) (n : ℕ) → slice_get (xs ++ ys) n ≡ cond (nat_lt n (length xs)) (slice_get xs n) (slice_get ys (n - length xs))
get_append [] ys n = let no : nat_lt n 0 ≡ false = grind (arith, nat_tests) in let same : n - 0 ≡ n = omega arith in rw (no, same) refl
get_append (x ∷ xs) ys zero = let yes : nat_lt 0 (suc (length xs)) ≡ true = grind (arith, nat_tests) in rw yes refl
get_append (x ∷ xs) ys (suc n) =
    let less : nat_lt (suc n) (suc (length xs)) ≡ nat_lt n (length xs) = grind (arith, nat_tests) in
    let left : suc n - suc (length xs) ≡ n - length xs = omega arith in
    get_append xs ys n ∙ rw (less, left) refl

-- the body of a method

module _ (strings : List (List ℕ)) (parts : reads.Parts) where
  abbrev names : List Sym → List Text
  names params = texts_of (strings_in strings) params

  statement_is : (texts : List (List ℕ)) (params : List Sym) (xs : List Text) (x : Stmt-F Part Payload Stmt TreeNode Body DefTree) → plain_stmt strings texts x ≡ true
      → statement_parts (strings_in strings) params x ≡ Some (parts_of (tree.body (names params) xs (tree.step (stmt_of (strings_in strings) parts (roll-Stmt x)) tree.end)))
  statement_is texts params xs (Stmt-F.Stmt::Value e) h = rw (stmt.rolls-Value e, stmt_of-Value (strings_in strings) parts e) refl
  statement_is texts params xs (Stmt-F.SetLocal name value) h = absurd cc
  statement_is texts params xs (Stmt-F.SetGlobal name value) h = absurd cc
  statement_is texts params xs (Stmt-F.SetField of name value) h = absurd cc
  statement_is texts params xs (Stmt-F.If test chosen other) h = absurd cc
  statement_is texts params xs (Stmt-F.While introduced test block) h = absurd cc
  statement_is texts params xs (Stmt-F.For name first last introduced block) h = absurd cc
  statement_is texts params xs Stmt-F.Break h = absurd cc
  statement_is texts params xs Stmt-F.Continue h = absurd cc
  statement_is texts params xs (Stmt-F.Return value) h = absurd cc
  statement_is texts params xs (Stmt-F.Eval owner part) h = absurd cc

  block_is : (texts : List (List ℕ)) (params : List Sym) (xs : List Text) (block : List Stmt) → plain_block strings texts block ≡ true
      → block_parts (strings_in strings) params block ≡ Some (parts_of (tree.body (names params) xs (block_of (map (stmt_of (strings_in strings) parts) block))))
  block_is texts params xs [] h = absurd cc
  block_is texts params xs (x ∷ []) h =
      subst (λ (y : Stmt). statement_parts (strings_in strings) params (out-Stmt x) ≡ Some (parts_of (tree.body (names params) xs (tree.step (stmt_of (strings_in strings) parts y) tree.end)))) (roll-out-Stmt x)
      (statement_is texts params xs (out-Stmt x) h)
  block_is texts params xs (x ∷ (y ∷ more)) h = absurd cc

  under_is : (seen : Option (List (List ℕ))) (params : List Sym) (xs : List Text) (block : List Stmt) → plain_under strings block seen ≡ true
      → block_parts (strings_in strings) params block ≡ Some (parts_of (tree.body (names params) xs (block_of (map (stmt_of (strings_in strings) parts) block))))
  under_is None params xs block h = absurd cc
  under_is (Some texts) params xs block h = block_is texts params xs block h

  node_is : (x : TreeNode-F Part Payload Stmt TreeNode Body DefTree) → plain_tree strings x ≡ true → node_parts (strings_in strings) x ≡ Some (parts_of (as_body (node_of (strings_in strings) parts (roll-TreeNode x))))
  node_is (TreeNode-F.Body b) h =
      let r = out-Body b in
      let seen = all_seen is_identifier strings [] (map sym_number r.params) in
      let one = both_true (nat_le (length r.params) 16) ((length r.introduced == 0) && plain_under strings r.block seen) h in
      let two = both_true (length r.introduced == 0) (plain_under strings r.block seen) one.1 in
      rw (node.rolls-Body b, node_of-Body (strings_in strings) parts b, body_of-Body (strings_in strings) parts b) (under_is seen r.params (names r.introduced) r.block two.1)
  node_is (TreeNode-F.Payload p) h = absurd cc

  tree_is : (t : TreeNode) → is_plain strings t ≡ true → tree_parts (strings_in strings) (Some t) ≡ Some (parts_of (as_body (node_of (strings_in strings) parts t)))
  tree_is t h =
      subst (λ (y : TreeNode). node_parts (strings_in strings) (out-TreeNode t) ≡ Some (parts_of (as_body (node_of (strings_in strings) parts y)))) (roll-out-TreeNode t) (node_is (out-TreeNode t) h)

code_is : (i : Image) (m : Method) (t : Option TreeNode) → slice_get i.trees m.body ≡ t → list_all (is_plain i.strings) i.trees ≡ true → takes (length m.types) t ≡ true
    → tree_parts (strings_in i.strings) t ≡ Some (parts_of (made_of i m).code)
code_is i m None e all h = absurd cc
code_is i m (Some t) e all h =
    tree_at (λ x. tree_parts (strings_in i.strings) (Some t) ≡ Some (parts_of (as_body x))) (strings_in i.strings) i.trees m.body 0 m.body t (omega arith) e
    (λ parts. tree_is i.strings parts t (all_at (is_plain i.strings) i.trees m.body t all e))

-- the method of a function, by the function's place

own_among : (b : Bool) (ordinal place : ℕ) → own_place (cond b (Some (1, ordinal)) None) ≡ Some place → ordinal ≡ place
own_among true ordinal place h = cc
own_among false ordinal place h = absurd cc

base_among : (b : Bool) (ordinal place : ℕ) → own_place (cond b (Some (0, ordinal)) None) ≡ Some place → ordinal ≡ place
base_among true ordinal place h = absurd cc
base_among false ordinal place h = absurd cc

ordinal_is : (b : Bool) (functions dependency ordinal place : ℕ) → own_place (cond b (among kinds.FunKind ordinal (slice_get (tables functions) dependency)) None) ≡ Some place → ordinal ≡ place
ordinal_is false functions dependency ordinal place h = absurd cc
ordinal_is true functions zero ordinal place h = base_among (nat_lt ordinal 18) ordinal place h
ordinal_is true functions (suc zero) ordinal place h = own_among (nat_lt ordinal functions) ordinal place h
ordinal_is true functions (suc (suc d)) ordinal place h = absurd cc

place_is : (functions n place : ℕ) (e : Option Entry) → own_place (option_and_then (λ x. resolved kinds.FunKind x (tables functions)) e) ≡ Some place → is_of_place n e ≡ (place == n)
place_is functions n place None h = absurd cc
place_is functions n place (Some e) h = ap (λ (k : ℕ). k == n) (ordinal_is (kind_number e.kind == 1) functions e.dependency e.ordinal place h)

module _ (i : Image) (n : ℕ) (within : n < length (functions_of i)) (different : all_different (functions_of i) ≡ true) where
  one_method : (m : Method) (ms : List Method) (place : ℕ) (name : Text) → name ≡ slice_index_or (functions_of i) place [] → place < length (functions_of i) → adds_to i n m ≡ (place == n)
      → tree_parts (strings_in i.strings) (slice_get i.trees m.body) ≡ Some (parts_of (made_of i m).code)
      → made_for (slice_index_or (functions_of i) n []) (map (made_of i) ms) ≡ method_parts i (find (adds_to i n) ms)
      → (b : Bool) → (place == n) ≡ b
      → cond (bytes_eq name (slice_index_or (functions_of i) n [])) (Some (parts_of (made_of i m).code)) (made_for (slice_index_or (functions_of i) n []) (map (made_of i) ms))
      ≡ method_parts i (cond (adds_to i n m) (Some m) (find (adds_to i n) ms))
  one_method m ms place name named lt adds code rest true e =
      let same : place ≡ n = grind (arith, nat_tests) in
      let text : name ≡ slice_index_or (functions_of i) n [] = named ∙ ap (λ (k : ℕ). slice_index_or (functions_of i) k []) same in
      rw (adds ∙ e, text, text_itself (slice_index_or (functions_of i) n [])) (sym code)
  one_method m ms place name named lt adds code rest false e = rw (adds ∙ e, named, places_differ (functions_of i) place n different lt within e) rest

  made_at : (ms : List Method) (taken : List ℕ) → list_all (is_plain i.strings) i.trees ≡ true → list_all (method_fine i.trees) ms ≡ true
      → methods_misfit i.entries (tables (length (functions_of i))) taken ms ≡ None
      → made_for (slice_index_or (functions_of i) n []) (map (made_of i) ms) ≡ method_parts i (find (adds_to i n) ms)
  made_at [] taken plain fine h = refl
  made_at (m ∷ ms) taken plain fine h =
      let two = both_true (method_fine i.trees m) (list_all (method_fine i.trees) ms) fine in
      let takes_it = both_true (nat_le (length m.types) 16) (takes (length m.types) (slice_get i.trees m.body)) two.0 in
      let p = placed_by i.entries (length (functions_of i)) taken m ms h in
      let fun = own_named i.head.name (functions_of i) i.entries m.fun p.place p.own in
      one_method m ms p.place (function_at i m.fun).name (ap (λ d. d.name) fun.is) fun.within (place_is (length (functions_of i)) n p.place (slice_get i.entries m.fun) p.own)
      (code_is i m (slice_get i.trees m.body) refl plain takes_it.1) (made_at ms (taken ++ p.place ∷ []) plain two.1 p.rest) (p.place == n) refl

place_found : (i : Image) (k : ℕ) (b : Bool) → nat_lt k (length i.methods) ≡ b → method_parts i (slice_get i.methods k) ≡ parts_at i (cond b (Some k) None)
place_found i k true e = refl
place_found i k false e = ap (method_parts i) (slice_get_past i.methods k (at_least k (length i.methods) e))

found_method : (i : Image) (n : ℕ) → method_parts i (find (adds_to i n) i.methods) ≡ parts_at i (method_place i n)
found_method i n =
    let k = position_or_len (adds_to i n) i.methods in
    ap (method_parts i) (find_at (adds_to i n) i.methods) ∙ place_found i k (nat_lt k (length i.methods)) refl

-- consts and globals

whole_is : (form : BindingForm) (x : Value-F _) → number_of (role_of form (value_in x)) ≡ whole_of x
whole_is forms.Const Value-F.Nothing = refl
whole_is forms.Const Value-F.False = refl
whole_is forms.Const Value-F.True = refl
whole_is forms.Const (Value-F.Int z) = refl
whole_is forms.Const (Value-F.Str text) = refl
whole_is forms.Const (Value-F.Fun fun) = refl
whole_is forms.Const (Value-F.Object object) = refl
whole_is forms.Const (Value-F.Struct declared fields) = refl
whole_is forms.Global Value-F.Nothing = refl
whole_is forms.Global Value-F.False = refl
whole_is forms.Global Value-F.True = refl
whole_is forms.Global (Value-F.Int z) = refl
whole_is forms.Global (Value-F.Str text) = refl
whole_is forms.Global (Value-F.Fun fun) = refl
whole_is forms.Global (Value-F.Object object) = refl
whole_is forms.Global (Value-F.Struct declared fields) = refl

binding_is : (i : Image) (bs : List Binding) (n : ℕ) → slice_get (map (λ (b : state.Binding). Holds (number_of b.role)) (map (binding_of i) bs)) n ≡ option_map (λ b. Holds (whole_of (out-Value b.value))) (slice_get bs n)
binding_is i [] n = refl
binding_is i (b ∷ bs) zero = ap (λ z. Some (Holds z)) (whole_is b.form (out-Value b.value))
binding_is i (b ∷ bs) (suc n) = binding_is i bs n

-- all names

abbrev function_things : Image → List Thing
function_things i = map (λ f. Calls (made_for f (map (made_of i) i.methods))) (functions_of i)

abbrev binding_things : Image → List Thing
binding_things i = map (λ (b : state.Binding). Holds (number_of b.role)) (map (binding_of i) i.bindings)

function_names : (ms : List Made) (fs : List Text) → names_of (map (λ f. (f, Calls (made_for f ms))) fs) ≡ fs
function_names ms [] = refl
function_names ms (f ∷ fs) = ap (λ l. f ∷ l) (function_names ms fs)

binding_names : (i : Image) (bs : List Binding) → names_of (map (λ (b : state.Binding). (b.name, Holds (number_of b.role))) (map (binding_of i) bs)) ≡ map (λ b. strings_in i.strings b.name) bs
binding_names i [] = refl
binding_names i (b ∷ bs) = ap (λ l. strings_in i.strings b.name ∷ l) (binding_names i bs)

names_are : (i : Image) → names_of (content_things (content_of i)) ≡ names_in_image i
names_are i =
    map-append (λ (p : Text × Thing). p.0) (map (λ f. (f, Calls (made_for f (map (made_of i) i.methods)))) (functions_of i)) (map (λ (b : state.Binding). (b.name, Holds (number_of b.role))) (map (binding_of i) i.bindings))
    ∙ ap (λ (l : List Text). l ++ names_of (map (λ (b : state.Binding). (b.name, Holds (number_of b.role))) (map (binding_of i) i.bindings))) (function_names (map (made_of i) i.methods) (functions_of i))
    ∙ ap (λ (l : List Text). functions_of i ++ l) (binding_names i i.bindings)

function_seconds : (ms : List Made) (fs : List Text) → named_by (map (λ f. (f, Calls (made_for f ms))) fs) ≡ map (λ f. Calls (made_for f ms)) fs
function_seconds ms [] = refl
function_seconds ms (f ∷ fs) = ap (λ l. Calls (made_for f ms) ∷ l) (function_seconds ms fs)

binding_seconds : (bs : List state.Binding) → named_by (map (λ (b : state.Binding). (b.name, Holds (number_of b.role))) bs) ≡ map (λ (b : state.Binding). Holds (number_of b.role)) bs
binding_seconds [] = refl
binding_seconds (b ∷ bs) = ap (λ l. Holds (number_of b.role) ∷ l) (binding_seconds bs)

things_are : (i : Image) → named_by (content_things (content_of i)) ≡ function_things i ++ binding_things i
things_are i =
    map-append (λ (p : Text × Thing). p.1) (map (λ f. (f, Calls (made_for f (map (made_of i) i.methods)))) (functions_of i)) (map (λ (b : state.Binding). (b.name, Holds (number_of b.role))) (map (binding_of i) i.bindings))
    ∙ ap (λ (l : List Thing). l ++ named_by (map (λ (b : state.Binding). (b.name, Holds (number_of b.role))) (map (binding_of i) i.bindings))) (function_seconds (map (made_of i) i.methods) (functions_of i))
    ∙ ap (λ (l : List Thing). function_things i ++ l) (binding_seconds (map (binding_of i) i.bindings))

-- what these places rest on of a formed image
pub record Readable (i : Image) : Type 0 where
  pub names : is_some (formed_images.names_of i) ≡ true
  pub plain : list_all (is_plain i.strings) i.trees ≡ true
  pub fine : list_all (method_fine i.trees) i.methods ≡ true

readable : (i : Image) → Formed i → Readable i
readable i formed = record { names = formed.names; plain = formed.plain; fine = formed.fine }

-- it is enough that there is a proof that the image is formed
pub merely_readable : (i : Image) → ∥ Formed i ∥₁ → Readable i
merely_readable i formed =
    record {
      names = ∥∥₁_elim formed (Bool-set _ _) (λ (f : Formed i). f.names);
      plain = ∥∥₁_elim formed (Bool-set _ _) (λ (f : Formed i). f.plain);
      fine = ∥∥₁_elim formed (Bool-set _ _) (λ (f : Formed i). f.fine);
    }

module _ (i : Image) (formed : Readable i) (fits : misfit i ≡ None) where
  in_place : (n : ℕ) → slice_get (function_things i ++ binding_things i) n ≡ thing_in_place i n
  in_place n =
      let many : length (functions_of i) ≡ length i.functions = length-map i.functions (λ f. strings_in i.strings f.name) in
      let same : length (function_things i) ≡ length i.functions = length-map (functions_of i) (λ f. Calls (made_for f (map (made_of i) i.methods))) ∙ many in
      get_append (function_things i) (binding_things i) n
      ∙ ap (λ (k : ℕ). cond (nat_lt n k) (slice_get (function_things i) n) (slice_get (binding_things i) (n - k))) same
      ∙ by many (nat_lt n (length i.functions)) refl
    where
      by : length (functions_of i) ≡ length i.functions → (b : Bool) → nat_lt n (length i.functions) ≡ b
          → cond b (slice_get (function_things i) n) (slice_get (binding_things i) (n - length i.functions))
          ≡ cond b (Some (Calls (parts_at i (method_place i n)))) (option_map (λ x. Holds (whole_of (out-Value x.value))) (slice_get i.bindings (n - length i.functions)))
      by many true e =
          let less : n < length i.functions = below n (length i.functions) e in
          let within : n < length (functions_of i) = omega (arith, many, less) in
          let all : methods_misfit i.entries (tables (length (functions_of i))) [] i.methods ≡ None = subst (λ (k : ℕ). methods_misfit i.entries (tables k) [] i.methods ≡ None) (sym many) fits in
          slice_get-map (λ f. Calls (made_for f (map (made_of i) i.methods))) (functions_of i) n
          ∙ ap (option_map (λ f. Calls (made_for f (map (made_of i) i.methods)))) (slice_get-get_or (functions_of i) n [] within)
          ∙ ap (λ (d : Option Parts). Some (Calls d)) (made_at i n within (plain.named_by i formed.names).first i.methods [] formed.plain formed.fine all ∙ found_method i n)
      by many false e = binding_is i i.bindings (n - length i.functions)

  pub thing_law : (name : Text) → thing_of (content_of i) name ≡ option_and_then (thing_in_place i) (found_at name (names_in_image i))
  thing_law name =
      let names = names_in_image i in
      thing_at (content_of i) name
      ∙ ap (λ (l : List Thing). slice_get l (place_of name (names_of (content_things (content_of i))))) (things_are i)
      ∙ ap (λ (l : List Text). slice_get (function_things i ++ binding_things i) (place_of name l)) (names_are i)
      ∙ in_list (function_things i ++ binding_things i) (place_of name names) (length names) count
      ∙ by (nat_lt (place_of name names) (length names))
    where
      count : length (function_things i ++ binding_things i) ≡ length (names_in_image i)
      count = ap length (sym (things_are i)) ∙ length-map (content_things (content_of i)) (λ (p : Text × Thing). p.1) ∙ sym (length-map (content_things (content_of i)) (λ (p : Text × Thing). p.0)) ∙ ap length (names_are i)

      by : (b : Bool) → option_and_then (slice_get (function_things i ++ binding_things i)) (cond b (Some (place_of name (names_in_image i))) None) ≡ option_and_then (thing_in_place i) (cond b (Some (place_of name (names_in_image i))) None)
      by true = in_place (place_of name (names_in_image i))
      by false = refl

pub place_law : a_name_of_a_file_is_the_thing_in_its_place
place_law i formed fits = thing_law i (readable i formed) fits

-- names that are new one after another

not_before : (t : Text) (xs : List Text) (n : ℕ) → is_among t xs ≡ false → n < length xs → bytes_eq (slice_index_or xs n []) t ≡ false
not_before t [] n h lt = absurd (omega arith)
not_before t (x ∷ xs) zero h lt = bytes_eq-comm x t ∙ or_left (bytes_eq t x) _ h
not_before t (x ∷ xs) (suc n) h lt = not_before t xs n (or_right (bytes_eq t x) _ h) (omega arith)

new_at : (xs : List Text) (n : ℕ) → all_different xs ≡ true → n < length xs → has_text (slice_index_or xs n []) (take n xs) ≡ false
new_at [] n h lt = absurd (omega arith)
new_at (x ∷ xs) zero h lt = refl
new_at (x ∷ xs) (suc n) h lt =
    rw (not_before x xs n (not_true (is_among x xs) (and_left (not (is_among x xs)) _ h)) (omega arith)) (new_at xs n (and_right (not (is_among x xs)) _ h) (omega arith))

pub new_law : the_names_of_a_file_are_new
new_law i formed n lt = new_at (names_in_image i) n (plain.named_by i formed.names).all lt

-- the module that runs, and the images

found_in : {A : Type 0} → (ps : Named A) (name : Text) → slice_get (named_by ps) (place_of name (names_of ps)) ≡ option_and_then (slice_get (named_by ps)) (found_at name (names_of ps))
found_in {A} ps name = in_list (named_by ps) (place_of name (names_of ps)) (length (names_of ps)) (length-map ps (λ (p : Text × A). p.1) ∙ sym (length-map ps (λ (p : Text × A). p.0)))

pub own_law : an_own_name_is_in_its_place
own_law es name = own_at es name ∙ found_in (own_things es) name

pub image_law : an_image_is_in_its_place
image_law es home = image_at es home ∙ found_in (images es) home

pub merely_new : (i : Image) → ∥ Formed i ∥₁ → (place : ℕ) → place < length (names_in_image i) → has_text (slice_index_or (names_in_image i) place []) (take place (names_in_image i)) ≡ false
merely_new i formed n lt = new_at (names_in_image i) n (plain.named_by i (merely_readable i formed).names).all lt
