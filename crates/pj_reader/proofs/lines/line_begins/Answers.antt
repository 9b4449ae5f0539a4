use Rattle.std.proofs.Common.{Ok}
use Rattle.pj_words.specs.declared.word.Word.TheVariants as words
use Rattle.pj_grammar.specs.Machine.{line_word}
use Rattle.pj_read_frames.specs.Places.{place_of}
use Rattle.pj_reader.proofs.Moving.{moved}
use Rattle.pj_reader.proofs.lines.line_begins.Goals as goal

pub returns-in-If : goal.returns-in-If
returns-in-If c =
    moved (line_word c.args.stack (place_of c.args.place)) c.hole.result c.args.word words.If c.in-If.is c.hole.ensures

pub returns-in-While : goal.returns-in-While
returns-in-While c =
    moved (line_word c.args.stack (place_of c.args.place)) c.hole-in-While.result c.args.word words.While c.in-While.is c.hole-in-While.ensures

pub returns-in-For : goal.returns-in-For
returns-in-For c =
    moved (line_word c.args.stack (place_of c.args.place)) (Ok c.at.result) c.args.word words.For c.in-For.is c.at.ensures

pub returns-in_default : goal.returns-in_default
returns-in_default c = c.plain_word.ensures
