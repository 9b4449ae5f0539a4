-- How building a package ends, beside what the meaning says.
use Rattle.std.specs.Prelude.{◌≡◌, ◌≤◌, ℕ, List, [], codes, length, None, Some, Result, Ok, Err}
use Rattle.pj_meaning.specs.Tree.{Text}
use Rattle.pj_meaning.specs.Content.{Content}
use Rattle.pj_meaning.specs.Outcome.{Outcome, Gives, Raises, Stops}
use Rattle.pj_meaning.specs.Printing.{error_line}
use Rattle.pj_meaning.specs.Using.{Holds}
use Rattle.pj_image.specs.declared.image.Image.{Image}
use Rattle.pj_image.specs.Formed.{IsFileOf}
use Rattle.pj_content.specs.Content.{content_of}
use Rattle.pj_content.specs.Misfit.{misfit}
use Rattle.pj_content.specs.Readings.{identity_in, image_of, reading_of}
use Rattle.pj_session.specs.Spoken.{error_of}
use Rattle.pj_session.specs.declared.end.End.TheVariants as ends
use Rattle.pj_build.specs.declared.pack.Packed.{Packed}
use Rattle.pj_build.specs.declared.pack.BuildFault.{BuildFault}
use Rattle.pj_build.specs.declared.pack.BuildFault.TheVariants as build

-- the bytes are the file of an image of this name with this content, of which no entry is refused
pub record Built (name : Text) (content : Content) (bytes : List ℕ) : Type 0 where
  pub image : Image
  pub file : IsFileOf name bytes image
  pub holds : content_of image ≡ content
  pub fits : misfit image ≡ None
  pub short : length bytes ≤ 67108864
  pub read : reading_of name (Some bytes) ≡ Holds (image_of (identity_in bytes) image)

-- The image's bytes where the statements come to their end, or the error or the end of the budget that ends them, with
-- its line; and what was printed. Without memory nothing is told as printed.
abbrev pub PacksAs : Text → Outcome Content → Text → Result Text BuildFault → Type 0
PacksAs name outcome printed (Err build.NoMemory) = printed ≡ []
PacksAs name (Gives content r) printed (Ok bytes) = Built name content bytes × (printed ≡ r.state.printed)
PacksAs name (Raises e r) printed (Err (build.Ended (ends.Error told) line)) = (error_of told ≡ e) × (line ≡ error_line e) × (printed ≡ r.state.printed)
PacksAs name (Stops r) printed (Err (build.Ended ends.Steps line)) = (line ≡ codes "steps\n") × (printed ≡ r.state.printed)
PacksAs name outcome printed result = ⊥

abbrev pub Packs : Text → Outcome Content → Packed → Type 0
Packs name outcome packed = PacksAs name outcome packed.printed packed.outcome
