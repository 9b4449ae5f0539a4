-- The events of a session, from its own definitions with their names, its images, and the order in which each came.
use Rattle.std.specs.Prelude.{List, [], ◌∷◌, Some, Bool, true, false}
use Rattle.pj_meaning.specs.Tree.{Text}
use Rattle.pj_meaning.specs.Content.{Content}
use Rattle.pj_meaning.specs.Packages.{Held}
use Rattle.pj_tree.specs.Reads.{texts_of, expr_of}
use Rattle.pj_content.specs.Content.{strings_in, content_of}
use Rattle.pj_session.specs.Events.{Parts, Event, Defines, Binds, Loads}
use Rattle.pj_session.specs.Things.{Thing, Calls, Holds}
use Rattle.pj_session.specs.declared.own.Definition.{Definition}
use Rattle.pj_session.specs.declared.own.Own.{Own}
use Rattle.pj_session.specs.declared.own.Own.TheVariants as own
use Rattle.pj_session.specs.declared.package.Package.{Package}
use Rattle.pj_session.specs.declared.own.Kind.{Kind}
use Rattle.pj_session.specs.declared.own.Kind.TheVariants as kind

-- the names of an own definition are held as texts
abbrev pub parts_in : Definition → Parts
parts_in d = (texts_of (strings_in []) d.params, expr_of (strings_in []) d.body)

abbrev pub thing_in_own : Own → Thing
thing_in_own (own.Function d) = Calls (Some (parts_in d))
thing_in_own (own.Constant z) = Holds z

abbrev pub own_event : Text → Own → Event
own_event name (own.Function d) = Defines name (parts_in d).0 (parts_in d).1
own_event name (own.Constant z) = Binds name z

abbrev pub held_of : Package → Held
held_of p = record { content = content_of p.image; identity = p.identity }

abbrev pub package_content : Package → Content
package_content p = content_of p.image

abbrev pub image_name : Package → Text
image_name p = p.image.head.name

-- one event for each kind, of the next own thing or of the next image
abbrev pub merged : List Kind → List Text → List Own → List Package → List Event
merged [] names things images = []
merged (kind.Own ∷ order) (n ∷ names) (t ∷ things) images = own_event n t ∷ merged order names things images
merged (kind.Image ∷ order) names things (p ∷ images) = Loads (held_of p) ∷ merged order names things images
merged (k ∷ order) names things images = []

-- there are as many names and things, and as many images, as the order tells
abbrev pub is_ordered : List Kind → List Text → List Own → List Package → Bool
is_ordered [] [] [] [] = true
is_ordered (kind.Own ∷ order) (n ∷ names) (t ∷ things) images = is_ordered order names things images
is_ordered (kind.Image ∷ order) names things (p ∷ images) = is_ordered order names things images
is_ordered order names things images = false
