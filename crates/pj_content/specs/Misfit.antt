-- The first entry of an image that is refused.
use Rattle.std.specs.Prelude.{ℕ, Bool, false, not, List, [], ◌∷◌, ◌++◌, length, ◌==◌, ◌&&◌, if◌then◌else◌, find, Option, Some, None, option_and_then, slice_get}
use Rattle.std.specs.List.{list_any}
use Rattle.pj_base.specs.declared.kinds.KindTag.{KindTag}
use Rattle.pj_base.specs.declared.kinds.KindTag.TheVariants as kinds
use Rattle.pj_reloc.specs.declared.entry.Entry.{Entry}
use Rattle.pj_reloc.specs.declared.deps.Counts.{Counts}
use Rattle.pj_reloc.specs.Resolving.{resolved}
use Rattle.pj_parts.specs.declared.types.Method.{Method}
use Rattle.pj_image.specs.declared.image.Image.{Image}

-- the image of this number, of which types and functions can be named today
abbrev pub counts : ℕ → ℕ → ℕ → Counts
counts image types funs = record { image = image; types = types; funs = funs; methods = 0; bindings = 0; objects = 0; records = 0; trees = 0 }

-- Base, whose number is 0, and an image that has so many functions, no types, and no dependencies
abbrev pub tables : ℕ → List Counts
tables functions = counts 0 11 18 ∷ counts 1 0 functions ∷ []

-- the place of a function of the image itself
abbrev pub own_place : Option (ℕ × ℕ) → Option ℕ
own_place None = None
own_place (Some target) = if target.0 == 1 then Some target.1 else None

-- the place, unless it is taken
abbrev pub free_place : List ℕ → Option ℕ → Option ℕ
free_place taken None = None
free_place taken (Some place) = if list_any (λ other. other == place) taken then None else Some place

-- Int64 is Base's type in place 5
abbrev pub is_int64 : Option (ℕ × ℕ) → Bool
is_int64 None = false
is_int64 (Some target) = target.0 == 0 && target.1 == 5

-- the mention, where it has no place, and else what is found with the place
abbrev pub or_with : ℕ → (ℕ → Option ℕ) → Option ℕ → Option ℕ
or_with mention next None = Some mention
or_with mention next (Some place) = next place

abbrev pub first_of : Option ℕ → Option ℕ → Option ℕ
first_of (Some k) other = Some k
first_of None other = other

module _ (entries : List Entry) (images : List Counts) where
  -- what the entry of a mention names as a thing of a kind
  abbrev pub target : KindTag → ℕ → Option (ℕ × ℕ)
  target kind k = option_and_then (λ e. resolved kind e images) (slice_get entries k)

  -- the place of the package's function to which a method adds, where no earlier method adds to it
  abbrev pub place_for : List ℕ → ℕ → Option ℕ
  place_for taken k = free_place taken (own_place (target kinds.FunKind k))

  abbrev pub types_misfit : List ℕ → Option ℕ
  types_misfit mentions = find (λ k. not (is_int64 (target kinds.TypeKind k))) mentions

  -- the first misfit in methods, where earlier ones add to the functions in the places that are taken
  unfoldable pub methods_misfit : List ℕ → List Method → Option ℕ
  methods_misfit taken [] = None
  methods_misfit taken (m ∷ ms) = or_with m.fun (λ place. first_of (types_misfit m.types) (methods_misfit (taken ++ place ∷ []) ms)) (place_for taken m.fun)

-- The first mention whose entry is refused, in the order of the file, in which the k-th mention has the k-th entry. An
-- entry is refused where its kind isn't the one that its place asks for, its dependency is none of the images, or its
-- ordinal isn't below that image's count of the kind. Besides, since methods don't dispatch generally yet, a function is
-- refused that is Base's or to which an earlier method of the image adds, and each type but Base's Int64.
abbrev pub misfit : Image → Option ℕ
misfit i = methods_misfit i.entries (tables (length i.functions)) [] i.methods
