-- What a package's file gives, by its bytes.
use Rattle.std.specs.Prelude.{ℕ, List, ◌-◌, map, length, drop, nat_lt, if◌then◌else◌, Option, Some, None, Result, Ok, Err}
use Rattle.pj_meaning.specs.Tree.{Text}
use Rattle.pj_meaning.specs.State.{Loaded}
use Rattle.pj_meaning.specs.Using as loading
use Rattle.pj_meaning.specs.Using.{Reading, NoFile, TooMuch, Faulty, Holds, Files, image_file}
use Rattle.pj_image.specs.declared.image.Image.{Image}
use Rattle.pj_image.specs.File.{file_at}
use Rattle.pj_content.specs.Content.{content_of}
use Rattle.pj_content.specs.Misfit.{misfit}

abbrev pub needs_of : Image → List Loaded
needs_of i = map (λ d. record { name = d.name; identity = d.identity }) i.head.dependencies

-- the image of these parts, whose file has this identity; it has no dependencies, so what is loaded before changes nothing
abbrev pub image_of : List ℕ → Image → loading.Image
image_of identity i = record {
  name = i.head.name;
  needs = needs_of i;
  identity = identity;
  misfit = λ s. misfit i;
  content = λ s. content_of i;
}

abbrev pub identity_in : List ℕ → List ℕ
identity_in bytes = drop (length bytes - 32) bytes

abbrev pub read_as : List ℕ → Result Image ℕ → Reading
read_as bytes (Err section) = Faulty section
read_as bytes (Ok i) = Holds (image_of (identity_in bytes) i)

-- a file of more than 67,108,864 bytes isn't read
abbrev pub reading_of : Text → Option (List ℕ) → Reading
reading_of name None = NoFile
reading_of name (Some bytes) = if nat_lt 67108864 (length bytes) then TooMuch else read_as bytes (file_at name bytes)

-- what the packages' files give, by the files' names
abbrev pub readings : (Text → Option (List ℕ)) → Files
readings files = λ name. reading_of name (files (image_file name))
