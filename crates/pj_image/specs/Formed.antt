-- Which images have a spelling.
use Rattle.std.specs.Prelude.{◌≡◌, ◌<◌, ◌≤◌, ◌^◌, ℕ, true, List, [], map, length, Option, is_some, option_and_then}
use Rattle.std.specs.List.{list_all}
use Rattle.pj_words.specs.Words.{is_package_name}
use Rattle.pj_fields.specs.Fields.{list}
use Rattle.pj_tree.specs.Bytes.{tree}
use Rattle.pj_tree.specs.Fits.{TreeFits}
use Rattle.pj_parts.specs.Spelling.{head, text, type_def, fun_def, binding, object, method, directive, code_record, code_word, entry}
use Rattle.pj_parts.specs.Fits.{ListFits, NoneYet, TextFits, HeadFits, FunDefFits, BindingFits, MethodFits, EntryFits}
use Rattle.pj_image.specs.declared.image.Image.{Image}
use Rattle.pj_image.specs.File.{function_number, binding_number}
use Rattle.pj_image.specs.Names.{bindable, all_seen}
use Rattle.pj_image.specs.Pieces.{placed, method_fine}
use Rattle.pj_image.specs.PlainTrees.{is_plain}
use Rattle.pj_image.specs.Spelled.{spelled, methods_place}

-- a part with a spelling, whose bytes can be counted in a section
abbrev pub Counted : {A : Type 0} → (A → List ℕ) → (A → Type 0) → A → Type 0
Counted put P x = P x × (length (put x) < 2 ^ 32)

-- the names of functions, and behind them those of bindings, if all may be and differ
abbrev pub names_of : Image → Option (List (List ℕ))
names_of i = option_and_then (λ seen. all_seen bindable i.strings seen (map binding_number i.bindings)) (all_seen bindable i.strings [] (map function_number i.functions))

pub record Formed (i : Image) : Type 0 where
  pub head : Counted head HeadFits i.head
  pub strings : Counted (list text) (ListFits TextFits) i.strings
  pub types : Counted (list type_def) (ListFits NoneYet) i.types
  pub functions : Counted (list fun_def) (ListFits FunDefFits) i.functions
  pub bindings : Counted (list binding) (ListFits BindingFits) i.bindings
  pub objects : Counted (list object) (ListFits NoneYet) i.objects
  pub trees : Counted (list tree) (ListFits TreeFits) i.trees
  pub methods : Counted (list method) (ListFits MethodFits) i.methods
  pub directives : Counted (list directive) (ListFits NoneYet) i.directives
  pub records : Counted (list code_record) (ListFits NoneYet) i.records
  pub code : Counted (list code_word) (ListFits NoneYet) i.code
  pub entries : Counted (list entry) (ListFits EntryFits) i.entries
  pub named : is_package_name i.head.name ≡ true
  pub names : is_some (names_of i) ≡ true
  pub plain : list_all (is_plain i.strings) i.trees ≡ true
  pub fine : list_all (method_fine i.trees) i.methods ≡ true
  pub right : placed (methods_place i) i.methods i.entries ≡ true

-- the image of this name whose file the bytes are
pub record IsFileOf (name bytes : List ℕ) (i : Image) : Type 0 where
  pub formed : Formed i
  pub called : i.head.name ≡ name
  pub whole : bytes ≡ spelled i

-- a spelling of at most 67,108,864 bytes
pub record ImageOk (i : Image) : Type 0 where
  pub formed : Formed i
  pub short : length (spelled i) ≤ 67108864
