-- What is built of what a package has of its own.
use Rattle.std.specs.Prelude.{◌≡◌, List, []}
use Rattle.std.specs.List.{zip}
use Rattle.pj_meaning.specs.Tree.{Text}
use Rattle.pj_meaning.specs.Content.{Content, content_of}
use Rattle.pj_reloc.specs.declared.entry.Entry.{Entry}
use Rattle.pj_parts.specs.declared.types.Method.{Method}
use Rattle.pj_image.specs.declared.image.Image.{Image}
use Rattle.pj_session.specs.Events.{state_of}
use Rattle.pj_session.specs.declared.own.Own.{Own}
use Rattle.pj_build.specs.Own.{own_events}
use Rattle.pj_build.specs.Sections.{KeptFunctions, KeptBindings, KeptTrees}

-- What the state holds of a package in which these events are all that was done, whatever was printed meanwhile. When
-- its statements began, Base's world was the newest.
abbrev pub Keeps : Text → List Text → List Own → Content → Type 0
Keeps name names things c = (printed : Text) → c ≡ content_of 1 (state_of name (own_events names things) printed)

-- an image that declares what the package has of its own, and has trees, and nothing else yet
pub record Declares (name : Text) (names : List Text) (things : List Own) (i : Image) : Type 0 where
  pub called : i.head.name ≡ name
  pub alone : i.head.dependencies ≡ []
  pub functions : KeptFunctions i.strings (zip names things) i.functions
  pub bindings : KeptBindings i.strings (zip names things) i.bindings
  pub trees : KeptTrees i.strings things i.trees

-- the image with these methods and entries
abbrev pub with_methods : Image → List Method → List Entry → Image
with_methods i methods entries = record i { methods = methods; entries = entries }
