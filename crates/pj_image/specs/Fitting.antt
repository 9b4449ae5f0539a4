-- The parts of an image that have spellings, some sections at a time.
use Rattle.std.specs.Prelude.{◌≡◌, true}
use Rattle.std.specs.List.{list_all}
use Rattle.pj_tree.specs.Fits.{TreeFits}
use Rattle.pj_parts.specs.Fits.{ListFits, NoneYet, TextFits, HeadFits, FunDefFits, BindingFits, MethodFits, EntryFits}
use Rattle.pj_image.specs.declared.image.Image.{Image}
use Rattle.pj_image.specs.Pieces.{placed, method_fine}
use Rattle.pj_image.specs.PlainTrees.{is_plain}
use Rattle.pj_image.specs.Spelled.{methods_place}

pub record DeclaredFit (i : Image) : Type 0 where
  pub head : HeadFits i.head
  pub strings : ListFits TextFits i.strings
  pub types : ListFits NoneYet i.types
  pub functions : ListFits FunDefFits i.functions
  pub bindings : ListFits BindingFits i.bindings
  pub objects : ListFits NoneYet i.objects

pub record TreesFit (i : Image) : Type 0 where
  pub trees : ListFits TreeFits i.trees
  pub plain : list_all (is_plain i.strings) i.trees ≡ true

pub record OthersFit (i : Image) : Type 0 where
  pub methods : ListFits MethodFits i.methods
  pub directives : ListFits NoneYet i.directives
  pub records : ListFits NoneYet i.records
  pub code : ListFits NoneYet i.code
  pub entries : ListFits EntryFits i.entries

pub record MethodsRight (i : Image) : Type 0 where
  pub fine : list_all (method_fine i.trees) i.methods ≡ true
  pub right : placed (methods_place i) i.methods i.entries ≡ true
