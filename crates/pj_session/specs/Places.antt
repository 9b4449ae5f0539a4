-- The names of the module that runs, of the images and of a content, in order, each with what it is: as an index has them.
use Rattle.std.specs.Prelude.{ℕ, suc, List, [], ◌∷◌, ◌++◌, map, Option, Some, option_map}
use Rattle.pj_base.specs.Interned.{found_at}
use Rattle.pj_meaning.specs.Tree.{Text}
use Rattle.pj_meaning.specs.Content.{Content}
use Rattle.pj_session.specs.Events.{Event, Defines, Binds, Loads}
use Rattle.pj_session.specs.Things.{Thing, Calls, Holds, number_of, made_for}

abbrev pub Named : Type 0 → Type 0
Named A = List (Text × A)

abbrev pub names_of : {A : Type 0} → Named A → List Text
names_of ps = map (λ p. p.0) ps

abbrev pub named_by : {A : Type 0} → Named A → List A
named_by ps = map (λ p. p.1) ps

abbrev pub own_things : List Event → Named Thing
own_things [] = []
own_things (Defines f ps e ∷ es) = (f, Calls (Some (ps, e))) ∷ own_things es
own_things (Binds x z ∷ es) = (x, Holds z) ∷ own_things es
own_things (Loads held ∷ es) = own_things es

abbrev pub images : List Event → Named Content
images [] = []
images (Defines f ps e ∷ es) = images es
images (Binds x z ∷ es) = images es
images (Loads held ∷ es) = (held.content.name, held.content) ∷ images es

-- the number of the first image of a name, where images are counted from 1
abbrev pub image_number : List Event → Text → Option ℕ
image_number events name = option_map suc (found_at name (names_of (images events)))

-- its functions, and then its consts and globals
abbrev pub content_things : Content → Named Thing
content_things c = map (λ f. (f, Calls (made_for f c.methods))) c.functions ++ map (λ b. (b.name, Holds (number_of b.role))) c.bindings
