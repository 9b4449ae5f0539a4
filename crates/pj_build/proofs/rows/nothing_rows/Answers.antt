use Rattle.std.proofs.Common.{codes, [], arith, length-append}
use Rattle.pj_tree.specs.Bytes.{tree}
use Rattle.pj_fields.specs.Fields.{number, list}
use Rattle.pj_parts.specs.Spelling.{dependency, text, type_def, fun_def, binding, object, method, directive, code_record, code_word, entry}
use Rattle.pj_parts.proofs.Sizes.{length-number, length-list}
use Rattle.pj_image.proofs.Lengths.{length-declared, length-bodies, length-ending, length-spelled}
use Rattle.pj_build.specs.Rows.{nothing}
use Rattle.pj_build.proofs.rows.nothing_rows.Goals as goal

pub returns : goal.returns
returns c =
    let i = nothing (codes "Q") in
    omega (
      arith,
      length-spelled i,
      length-declared i,
      length-bodies i,
      length-ending i,
      length-append (text (codes "Q")) (list dependency []),
      length-append (number 1) (codes "Q"),
      length-number 1,
      length-list dependency [],
      length-list text [],
      length-list type_def [],
      length-list fun_def [],
      length-list binding [],
      length-list object [],
      length-list tree [],
      length-list method [],
      length-list directive [],
      length-list code_record [],
      length-list code_word [],
      length-list entry [],
    )
