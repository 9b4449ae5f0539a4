-- The one spelling of an image.
use Rattle.std.specs.Prelude.{ℕ, ◌+◌, List, ◌++◌, length}
use Rattle.sha2.specs.Sha256.{sha256}
use Rattle.pj_fields.specs.Fields.{list}
use Rattle.pj_tree.specs.Bytes.{tree}
use Rattle.pj_parts.specs.Spelling.{head, text, type_def, fun_def, binding, object, method, directive, code_record, code_word, entry}
use Rattle.pj_image.specs.declared.image.Image.{Image}
use Rattle.pj_image.specs.Frames.{section}
use Rattle.pj_image.specs.File.{front}

abbrev pub declared_sections : Image → List ℕ
declared_sections i =
    section 1 (head i.head) ++ (section 2 (list text i.strings) ++ (section 3 (list type_def i.types)
    ++ (section 4 (list fun_def i.functions) ++ (section 5 (list binding i.bindings) ++ section 6 (list object i.objects)))))

abbrev pub body_sections : Image → List ℕ
body_sections i = section 7 (list tree i.trees) ++ section 8 (list method i.methods)

abbrev pub ending_sections : Image → List ℕ
ending_sections i =
    section 9 (list directive i.directives) ++ (section 10 (list code_record i.records)
    ++ (section 11 (list code_word i.code) ++ section 12 (list entry i.entries)))

unfoldable pub before_identity : Image → List ℕ
before_identity i = front ++ (declared_sections i ++ (body_sections i ++ ending_sections i))

-- all of it, and its digest
unfoldable pub spelled : Image → List ℕ
spelled i = before_identity i ++ sha256 (before_identity i)

-- where the list of methods stands, behind the number and the length of its section
unfoldable pub methods_place : Image → ℕ
methods_place i = length (front ++ (declared_sections i ++ section 7 (list tree i.trees))) + 8
