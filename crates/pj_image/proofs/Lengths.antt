-- How many bytes an image has.
use Rattle.std.proofs.Common.{◌≡◌, ℕ, ◌+◌, ◌≤◌, List, ◌++◌, length, arith}
use Rattle.std.proofs.lemmas.List.{length-append}
use Rattle.sha2.specs.Sha256.{sha256}
use Rattle.sha2.proofs.Facts256.{length-sha256}
use Rattle.pj_fields.specs.Fields.{number, list}
use Rattle.pj_tree.specs.Bytes.{tree}
use Rattle.pj_parts.specs.Spelling.{head, text, type_def, fun_def, binding, object, method, directive, code_record, code_word, entry}
use Rattle.pj_parts.proofs.Sizes.{length-number}
use Rattle.pj_image.specs.declared.image.Image.{Image}
use Rattle.pj_image.specs.Frames.{section}
use Rattle.pj_image.specs.File.{front}
use Rattle.pj_image.specs.Spelled.{declared_sections, body_sections, ending_sections, before_identity, spelled, methods_place}
use Rattle.pj_image.proofs.FileLaws.{front-length}

pub length-section : (k : ℕ) (payload : List ℕ) → length (section k payload) ≡ 8 + length payload
length-section k payload = omega (arith, length-append (number k) (number (length payload) ++ payload), length-append (number (length payload)) payload, length-number k, length-number (length payload))

six : (a b c d f o : List ℕ) → length (section 1 a ++ (section 2 b ++ (section 3 c ++ (section 4 d ++ (section 5 f ++ section 6 o))))) ≡ 48 + (length a + length b) + (length c + length d) + (length f + length o)
six a b c d f o =
    omega (
      arith,
      length-append (section 1 a) (section 2 b ++ (section 3 c ++ (section 4 d ++ (section 5 f ++ section 6 o)))),
      length-append (section 2 b) (section 3 c ++ (section 4 d ++ (section 5 f ++ section 6 o))),
      length-append (section 3 c) (section 4 d ++ (section 5 f ++ section 6 o)),
      length-append (section 4 d) (section 5 f ++ section 6 o),
      length-append (section 5 f) (section 6 o),
      length-section 1 a,
      length-section 2 b,
      length-section 3 c,
      length-section 4 d,
      length-section 5 f,
      length-section 6 o,
    )

pub length-declared : (i : Image) → length (declared_sections i) ≡ 48 + (length (head i.head) + length (list text i.strings)) + (length (list type_def i.types) + length (list fun_def i.functions)) + (length (list binding i.bindings) + length (list object i.objects))
length-declared i = six (head i.head) (list text i.strings) (list type_def i.types) (list fun_def i.functions) (list binding i.bindings) (list object i.objects)

pub length-bodies : (i : Image) → length (body_sections i) ≡ 16 + (length (list tree i.trees) + length (list method i.methods))
length-bodies i = omega (arith, length-append (section 7 (list tree i.trees)) (section 8 (list method i.methods)), length-section 7 (list tree i.trees), length-section 8 (list method i.methods))

four : (a b c d : List ℕ) → length (section 9 a ++ (section 10 b ++ (section 11 c ++ section 12 d))) ≡ 32 + (length a + length b) + (length c + length d)
four a b c d =
    omega (
      arith,
      length-append (section 9 a) (section 10 b ++ (section 11 c ++ section 12 d)),
      length-append (section 10 b) (section 11 c ++ section 12 d),
      length-append (section 11 c) (section 12 d),
      length-section 9 a,
      length-section 10 b,
      length-section 11 c,
      length-section 12 d,
    )

pub length-ending : (i : Image) → length (ending_sections i) ≡ 32 + (length (list directive i.directives) + length (list code_record i.records)) + (length (list code_word i.code) + length (list entry i.entries))
length-ending i = four (list directive i.directives) (list code_record i.records) (list code_word i.code) (list entry i.entries)

pub length-spelled : (i : Image) → length (spelled i) ≡ 44 + length (declared_sections i) + length (body_sections i) + length (ending_sections i)
unfolding spelled before_identity
length-spelled i =
    let body = front ++ (declared_sections i ++ (body_sections i ++ ending_sections i)) in
    omega (
      arith,
      length-append body (sha256 body),
      length-sha256 body,
      length-append front (declared_sections i ++ (body_sections i ++ ending_sections i)),
      front-length,
      length-append (declared_sections i) (body_sections i ++ ending_sections i),
      length-append (body_sections i) (ending_sections i),
    )

pub ruleset declared = (length-declared)

pub ruleset bodies = (length-bodies)

pub ruleset ending = (length-ending)

pub ruleset whole = (length-spelled)

pub length-place : (i : Image) → methods_place i ≡ 28 + length (declared_sections i) + length (list tree i.trees)
unfolding methods_place
length-place i = omega (arith, length-append front (declared_sections i ++ section 7 (list tree i.trees)), front-length, length-append (declared_sections i) (section 7 (list tree i.trees)), length-section 7 (list tree i.trees))

-- where the list of methods ends
pub place_within : (i : Image) → methods_place i + length (list method i.methods) ≤ length (spelled i)
place_within i = omega (arith, length-place i, length-spelled i, length-bodies i)

pub ruleset placing = (length-place, length-spelled, length-bodies)
