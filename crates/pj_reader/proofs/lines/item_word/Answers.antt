use Rattle.std.proofs.Common.{Ok}
use Rattle.pj_words.specs.declared.word.Word.TheVariants as words
use Rattle.pj_grammar.specs.Machine.{line_word}
use Rattle.pj_read_frames.specs.Places.{place_of}
use Rattle.pj_reader.proofs.Moving.{moved}
use Rattle.pj_reader.proofs.lines.item_word.Goals as goal

pub returns-in-Struct : goal.returns-in-Struct
returns-in-Struct c =
    moved (line_word c.args.stack (place_of c.args.place)) (Ok c.item.result) c.args.word words.Struct c.in-Struct.is c.item.ensures

pub returns-in-Function : goal.returns-in-Function
returns-in-Function c =
    moved (line_word c.args.stack (place_of c.args.place)) c.function.result c.args.word words.Function c.in-Function.is c.function.ensures

pub returns-in-Const : goal.returns-in-Const
returns-in-Const c =
    moved (line_word c.args.stack (place_of c.args.place)) (Ok c.item-in-Const.result) c.args.word words.Const c.in-Const.is c.item-in-Const.ensures

pub returns-in-Using : goal.returns-in-Using
returns-in-Using c =
    moved (line_word c.args.stack (place_of c.args.place)) (Ok c.using.result) c.args.word words.Using c.in-Using.is c.using.ensures

pub returns-in_default : goal.returns-in_default
returns-in_default c = c.literal_word.ensures
