-- The steps of `using` a package: its file is read, its image is loaded, and the image is started.
use Rattle.std.specs.Prelude.{◌≡◌, ◌<◌, ℕ, List, length, Option, Some, None, Result, Ok, Err, IsSomeAnd, ⊤}
use Rattle.pj_meaning.specs.Tree.{Text}
use Rattle.pj_meaning.specs.Using.{image_file}
use Rattle.pj_outside.specs.Stored.{Files}
use Rattle.pj_session.specs.Loading.{Added, Refuses}
use Rattle.pj_session.specs.declared.load.LoadFault.{LoadFault}
use Rattle.pj_session.specs.declared.load.LoadFault.TheVariants as faults
use Rattle.pj_session.specs.declared.state.Session.{Session}
use Rattle.pj_session.specs.declared.using.ImageFile.{ImageFile}
use Rattle.pj_session.specs.declared.using.UsingFault.{UsingFault}
use Rattle.pj_session.specs.declared.using.UsingFault.TheVariants as used

-- the file's bytes were read, or the fault tells why not
abbrev pub Fetched : Files → Text → Result ImageFile UsingFault → Type 0
Fetched files name (Ok found) = files (image_file name) ≡ Some found.bytes.items
Fetched files name (Err (used.Missing file)) = (file ≡ image_file name) × (files (image_file name) ≡ None)
Fetched files name (Err (used.TooLong file)) = (file ≡ image_file name) × IsSomeAnd (files (image_file name)) (λ bytes. 67108864 < length bytes)
Fetched files name (Err (used.DepotFailed file)) = ⊤
Fetched files name (Err used.NoMemory) = ⊤
Fetched files name (Err (used.Ended end)) = ⊥
Fetched files name (Err (used.Refused file fault)) = ⊥

-- the image was refused, and the fault names the file
abbrev pub RefusedAt : Session → Text → List ℕ → Text → LoadFault → Type 0
RefusedAt before name bytes file faults.NoMemory = ⊥
RefusedAt before name bytes file fault = (file ≡ image_file name) × Refuses before name bytes fault

-- why the image of this name isn't loaded, whose file the bytes are
abbrev pub Unloaded : Session → Text → List ℕ → UsingFault → Type 0
Unloaded before name bytes (used.Refused file fault) = RefusedAt before name bytes file fault
Unloaded before name bytes used.NoMemory = ⊤
Unloaded before name bytes fault = ⊥

-- the image is loaded, as the last of some number
abbrev pub Gained : Session → Text → List ℕ → Session → Type 0
Gained before name bytes after = (count : ℕ) × Added before name bytes count after
