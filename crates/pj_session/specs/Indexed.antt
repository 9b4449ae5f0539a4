-- What an image binds, by places: as it is found with an index of its names, over its parts as they stand.
use Rattle.std.specs.Prelude.{◌≡◌, ◌<◌, ◌-◌, ℕ, ℤ, pos, Bool, false, List, [], ◌∷◌, ◌++◌, map, length, take, nat_lt, ◌==◌, if◌then◌else◌, position, Option, Some, None, option_map, option_and_then, slice_get, slice_index_or}
use Rattle.pj_base.specs.Interned.{has_text, found_at}
use Rattle.pj_meaning.specs.Tree.{Text}
use Rattle.pj_tree.specs.Reads.{Strings, texts_of, expr_of}
use Rattle.pj_tree.specs.declared.tree.Sym.{Sym}
use Rattle.pj_tree.specs.declared.tree.Stmt.{Stmt, out-Stmt}
use Rattle.pj_tree.specs.declared.tree.Part.{Part}
use Rattle.pj_tree.specs.declared.tree.Payload.{Payload}
use Rattle.pj_tree.specs.declared.tree.Body.{Body, out-Body}
use Rattle.pj_tree.specs.declared.tree.DefTree.{DefTree}
use Rattle.pj_tree.specs.declared.tree.TreeNode.{TreeNode, out-TreeNode}
use Rattle.pj_tree.specs.declared.tree.Part.TheOpen.{Stmt-F, TreeNode-F}
use Rattle.pj_reloc.specs.declared.entry.Entry.{Entry}
use Rattle.pj_parts.specs.declared.types.Value.{Value, out-Value}
use Rattle.pj_parts.specs.declared.types.Value.TheOpen.{Value-F}
use Rattle.pj_parts.specs.declared.types.Method.{Method}
use Rattle.pj_image.specs.declared.image.Image.{Image}
use Rattle.pj_image.specs.Formed.{Formed}
use Rattle.pj_content.specs.Content.{strings_in, functions_of, content_of}
use Rattle.pj_content.specs.Misfit.{misfit}
use Rattle.pj_session.specs.Events.{Event, Parts}
use Rattle.pj_session.specs.Things.{Thing, Calls, Holds, thing_of, own_in, image_in}
use Rattle.pj_session.specs.Places.{names_of, named_by, own_things, images}

-- the names of an image's functions, and behind them those of its consts and globals
abbrev pub names_in_image : Image → List Text
names_in_image i = functions_of i ++ map (λ b. strings_in i.strings b.name) i.bindings

-- the parameters and the expression of a body that is one expression

abbrev pub statement_parts : Strings → List Sym → Stmt-F Part Payload Stmt TreeNode Body DefTree → Option Parts
statement_parts strings params (Stmt-F.Stmt::Value e) = Some (texts_of strings params, expr_of strings e)
statement_parts strings params other = None

abbrev pub block_parts : Strings → List Sym → List Stmt → Option Parts
block_parts strings params (x ∷ []) = statement_parts strings params (out-Stmt x)
block_parts strings params other = None

abbrev pub node_parts : Strings → TreeNode-F Part Payload Stmt TreeNode Body DefTree → Option Parts
node_parts strings (TreeNode-F.Body b) = block_parts strings (out-Body b).params (out-Body b).block
node_parts strings (TreeNode-F.Payload p) = None

abbrev pub tree_parts : Strings → Option TreeNode → Option Parts
tree_parts strings None = None
tree_parts strings (Some t) = node_parts strings (out-TreeNode t)

-- an entry of the thing in this place
abbrev pub is_of_place : ℕ → Option Entry → Bool
is_of_place place None = false
is_of_place place (Some e) = e.ordinal == place

-- a method that adds to the function in this place
abbrev pub adds_to : Image → ℕ → Method → Bool
adds_to i place m = is_of_place place (slice_get i.entries m.fun)

-- where the first such method stands
abbrev pub method_place : Image → ℕ → Option ℕ
method_place i place = position (adds_to i place) i.methods

-- the parameters and the expression of a method
abbrev pub method_parts : Image → Option Method → Option Parts
method_parts i None = None
method_parts i (Some m) = tree_parts (strings_in i.strings) (slice_get i.trees m.body)

-- those of the method in this place, if one stands there
abbrev pub parts_at : Image → Option ℕ → Option Parts
parts_at i None = None
parts_at i (Some k) = method_parts i (slice_get i.methods k)

-- an integer; another value, which no file has, counts as 0
abbrev pub whole_of : Value-F Value → ℤ
whole_of (Value-F.Int z) = z
whole_of other = pos 0

-- what has the name in this place
abbrev pub thing_in_place : Image → ℕ → Option Thing
thing_in_place i place =
    if nat_lt place (length i.functions) then Some (Calls (parts_at i (method_place i place)))
    else option_map (λ b. Holds (whole_of (out-Value b.value))) (slice_get i.bindings (place - length i.functions))

-- what is noted of a place, behind one more method, which may add to its function: what was noted comes first
abbrev pub noted : ℕ → Bool → Option ℕ → Option ℕ
noted at adds (Some k) = Some k
noted at adds None = if adds then Some at else None

-- A list that has, in the place of each function, the place of its first method, if it has one.
pub record MethodList (i : Image) (methods : List (Option ℕ)) : Type 0 where
  pub many : length methods ≡ length i.functions
  pub each : (place : ℕ) → place < length i.functions → slice_index_or methods place None ≡ method_place i place

-- what has the name in this place, where the methods' places are listed so
abbrev pub thing_by_list : Image → List (Option ℕ) → ℕ → Option Thing
thing_by_list i methods place =
    if nat_lt place (length i.functions) then Some (Calls (parts_at i (slice_index_or methods place None)))
    else option_map (λ b. Holds (whole_of (out-Value b.value))) (slice_get i.bindings (place - length i.functions))

abbrev pub a_name_of_a_file_is_the_thing_in_its_place : Type 0
a_name_of_a_file_is_the_thing_in_its_place =
    (i : Image) → Formed i → misfit i ≡ None → (name : Text) → thing_of (content_of i) name ≡ option_and_then (thing_in_place i) (found_at name (names_in_image i))

-- and it is found by a list of the names and one of the methods
abbrev pub a_name_of_a_file_is_found_by_its_lists : Type 0
a_name_of_a_file_is_found_by_its_lists =
    (i : Image) → Formed i → misfit i ≡ None → (methods : List (Option ℕ)) → MethodList i methods → (name : Text)
    → thing_of (content_of i) name ≡ option_and_then (thing_by_list i methods) (found_at name (names_in_image i))

-- so that they can be put into an index one after another
abbrev pub the_names_of_a_file_are_new : Type 0
the_names_of_a_file_are_new =
    (i : Image) → Formed i → (place : ℕ) → place < length (names_in_image i) → has_text (slice_index_or (names_in_image i) place []) (take place (names_in_image i)) ≡ false

-- the module that runs, and the images, with an index of their names

abbrev pub an_own_name_is_in_its_place : Type 0
an_own_name_is_in_its_place =
    (events : List Event) (name : Text) → own_in events name ≡ option_and_then (slice_get (named_by (own_things events))) (found_at name (names_of (own_things events)))

abbrev pub an_image_is_in_its_place : Type 0
an_image_is_in_its_place =
    (events : List Event) (home : Text) → image_in events home ≡ option_and_then (slice_get (named_by (images events))) (found_at home (names_of (images events)))
