-- The parts of an image whose file these bytes are, or the first section at fault.
use Rattle.std.specs.Prelude.{ℕ, ◌+◌, ◌-◌, Bool, List, [], ◌++◌, map, length, take, drop, codes, nat_lt, ◌==◌, ◌&&◌, not, if◌then◌else◌, Option, Some, Result, Ok, Err}
use Rattle.std.specs.List.{list_all}
use Rattle.std.specs.Str.{bytes_eq}
use Rattle.sha2.specs.Sha256.{sha256}
use Rattle.pj_words.specs.Words.{is_package_name}
use Rattle.pj_fields.specs.Fields.{number, list_at}
use Rattle.pj_tree.specs.Reading.{tree_at}
use Rattle.pj_parts.specs.declared.types.Head.{Head}
use Rattle.pj_parts.specs.declared.types.FunDef.{FunDef}
use Rattle.pj_parts.specs.declared.types.Binding.{Binding}
use Rattle.pj_parts.specs.declared.types.Method.{Method}
use Rattle.pj_parts.specs.Reading.{nothing_at, text_at, head_at, fun_def_at, binding_at, method_at, entry_at}
use Rattle.pj_image.specs.declared.image.Image.{Image}
use Rattle.pj_image.specs.declared.stages.Declared.{Declared}
use Rattle.pj_image.specs.declared.stages.Bodies.{Bodies}
use Rattle.pj_image.specs.declared.stages.Ending.{Ending}
use Rattle.pj_image.specs.Found.{◌>>=◌, or_fault, checked}
use Rattle.pj_image.specs.Frames.{framed}
use Rattle.pj_image.specs.Names.{bindable, all_seen}
use Rattle.pj_image.specs.Pieces.{placed, method_fine}
use Rattle.pj_image.specs.PlainTrees.{is_plain}

-- what every file begins with: eight letters, and the version
unfoldable pub front : List ℕ
front = codes "PJIMAGE1" ++ number 1

-- the asked name, which is a package's
abbrev pub is_named : List ℕ → Head → Bool
is_named name h = bytes_eq h.name name && is_package_name h.name

abbrev pub function_number : FunDef → Option ℕ
function_number f = Some f.name

abbrev pub binding_number : Binding → Option ℕ
binding_number b = Some b.name

-- ---- sections 1 to 6: what the package is and declares

unfoldable pub declared_at : List ℕ → List ℕ → Result (Declared × List ℕ) ℕ
declared_at name bytes = do
  head ← or_fault 1 (framed 1 head_at bytes)
  asked ← checked 1 (is_named name head.0)
  strings ← or_fault 2 (framed 2 (list_at text_at) head.1)
  types ← or_fault 3 (framed 3 (list_at nothing_at) strings.1)
  functions ← or_fault 4 (framed 4 (list_at fun_def_at) types.1)
  seen ← or_fault 4 (all_seen bindable strings.0 [] (map function_number functions.0))
  bindings ← or_fault 5 (framed 5 (list_at binding_at) functions.1)
  both ← or_fault 5 (all_seen bindable strings.0 seen (map binding_number bindings.0))
  objects ← or_fault 6 (framed 6 (list_at nothing_at) bindings.1)
  Ok (record { head = head.0; strings = strings.0; types = types.0; functions = functions.0; bindings = bindings.0; objects = objects.0 }, objects.1)

-- ---- sections 7 and 8: trees and methods, with the place of the list of methods in a file whose sections end at `size`

unfoldable pub bodies_at : List (List ℕ) → ℕ → List ℕ → Result (Bodies × List ℕ) ℕ
bodies_at strings size bytes = do
  trees ← or_fault 7 (framed 7 (list_at tree_at) bytes)
  plain ← checked 7 (list_all (is_plain strings) trees.0)
  methods ← or_fault 8 (framed 8 (list_at method_at) trees.1)
  fine ← checked 8 (list_all (method_fine trees.0) methods.0)
  Ok (record { trees = trees.0; place = size - length trees.1 + 8; methods = methods.0 }, methods.1)

-- ---- sections 9 to 12: what is compiled, and what the mentions name

unfoldable pub ending_at : ℕ → List Method → List ℕ → Result Ending ℕ
ending_at place methods bytes = do
  directives ← or_fault 9 (framed 9 (list_at nothing_at) bytes)
  records ← or_fault 10 (framed 10 (list_at nothing_at) directives.1)
  code ← or_fault 11 (framed 11 (list_at nothing_at) records.1)
  entries ← or_fault 12 (framed 12 (list_at entry_at) code.1)
  right ← checked 12 (placed place methods entries.0 && length entries.1 == 0)
  Ok (record { directives = directives.0; records = records.0; code = code.0; entries = entries.0 })

-- ---- the file

abbrev pub image_of : Declared → Bodies → Ending → Image
image_of d b e = record {
  head = d.head;
  strings = d.strings;
  types = d.types;
  functions = d.functions;
  bindings = d.bindings;
  objects = d.objects;
  trees = b.trees;
  methods = b.methods;
  directives = e.directives;
  records = e.records;
  code = e.code;
  entries = e.entries;
}

-- all sections, in a file in which they end at `size`
unfoldable pub parts_at : List ℕ → ℕ → List ℕ → Result Image ℕ
parts_at name size bytes = do
  declared ← declared_at name bytes
  bodies ← bodies_at declared.0.strings size declared.1
  ending ← ending_at bodies.0.place bodies.0.methods bodies.1
  Ok (image_of declared.0 bodies.0 ending)

-- what stands before the identity, and the identity
abbrev pub sealed_at : List ℕ → List ℕ → List ℕ → Result Image ℕ
sealed_at name body digest =
    if not (bytes_eq (take 12 body) front) then Err 0 else
    if not (bytes_eq digest (sha256 body)) then Err 13 else
    parts_at name (length body) (drop 12 body)

unfoldable pub file_at : List ℕ → List ℕ → Result Image ℕ
file_at name bytes = if nat_lt (length bytes) 44 then Err 0 else sealed_at name (take (length bytes - 32) bytes) (drop (length bytes - 32) bytes)
