-- The bytes of methods as pieces, and where their mentions stand.
use Rattle.std.specs.Prelude.{ℕ, ◌+◌, List, [], ◌∷◌, ◌++◌, length, map, Bool, false, ◌==◌, ◌&&◌, nat_le, if◌then◌else◌, Option, Some, None, option_and_then, slice_get}
use Rattle.std.specs.List.{flat_map}
use Rattle.pj_fields.specs.Fields.{number}
use Rattle.pj_tree.specs.declared.tree.Part.{Part}
use Rattle.pj_tree.specs.declared.tree.Payload.{Payload}
use Rattle.pj_tree.specs.declared.tree.Stmt.{Stmt}
use Rattle.pj_tree.specs.declared.tree.Body.{Body, out-Body}
use Rattle.pj_tree.specs.declared.tree.DefTree.{DefTree}
use Rattle.pj_tree.specs.declared.tree.TreeNode.{TreeNode, out-TreeNode}
use Rattle.pj_tree.specs.declared.tree.Part.TheOpen.{TreeNode-F}
use Rattle.pj_reloc.specs.declared.entry.Entry.{Entry}
use Rattle.pj_parts.specs.declared.types.Method.{Method}

-- bytes, or a mention's number
pub data Piece : Type 0 where
  Plain : List ℕ → Piece
  Mention : ℕ → Piece

abbrev pub bytes_of : List Piece → List ℕ
bytes_of [] = []
bytes_of (Plain bytes ∷ pieces) = bytes ++ bytes_of pieces
bytes_of (Mention n ∷ pieces) = number n ++ bytes_of pieces

abbrev pub method_pieces : Method → List Piece
method_pieces m = Mention m.fun ∷ (Plain (number (length m.types)) ∷ (map Mention m.types ++ Plain (number m.body) ∷ []))

abbrev pub methods_pieces : List Method → List Piece
methods_pieces ms = Plain (number (length ms)) ∷ flat_map method_pieces ms

-- the number of the next mention, the place in the file, and the entries of the mentions from there on
pub record Walk : Type 0 where
  pub next : ℕ
  pub at : ℕ
  pub left : List Entry

abbrev pub walk_from : ℕ → ℕ → List Entry → Walk
walk_from next at left = record { next = next; at = at; left = left }

-- a mention holds the next number, and the next entry has its place
abbrev pub past_mention : ℕ → Walk → List Entry → Option Walk
past_mention n w [] = None
past_mention n w (e ∷ entries) = if n == w.next && e.place == w.at then Some (walk_from (w.next + 1) (w.at + 4) entries) else None

abbrev pub past : Piece → Walk → Option Walk
past (Plain bytes) w = Some (walk_from w.next (w.at + length bytes) w.left)
past (Mention n) w = past_mention n w w.left

unfoldable pub walk : List Piece → Walk → Option Walk
walk [] w = Some w
walk (piece ∷ pieces) w = option_and_then (λ v. walk pieces v) (past piece w)

-- no entry is left
abbrev pub is_over : Option Walk → Bool
is_over None = false
is_over (Some w) = length w.left == 0

-- each mention from this place on holds its number, and there is one entry for each, with its place
abbrev pub placed : ℕ → List Method → List Entry → Bool
placed at methods entries = is_over (walk (methods_pieces methods) (walk_from 0 at entries))

-- the tree is a body of so many parameters
abbrev pub takes_node : ℕ → TreeNode-F Part Payload Stmt TreeNode Body DefTree → Bool
takes_node count (TreeNode-F.Body body) = length (out-Body body).params == count
takes_node count (TreeNode-F.Payload payload) = false

abbrev pub takes : ℕ → Option TreeNode → Bool
takes count None = false
takes count (Some t) = takes_node count (out-TreeNode t)

-- at most 16 parameters, and a body of as many
abbrev pub method_fine : List TreeNode → Method → Bool
method_fine trees m = nat_le (length m.types) 16 && takes (length m.types) (slice_get trees m.body)
