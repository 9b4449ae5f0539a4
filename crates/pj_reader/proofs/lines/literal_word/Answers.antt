use Rattle.pj_words.specs.declared.word.Word.TheVariants as words
use Rattle.pj_grammar.specs.Machine.{line_word}
use Rattle.pj_read_frames.specs.Places.{place_of}
use Rattle.pj_reader.proofs.Moving.{moved}
use Rattle.pj_reader.proofs.lines.literal_word.Goals as goal

pub returns-in-True : goal.returns-in-True
returns-in-True c =
    moved (line_word c.args.stack (place_of c.args.place)) c.value.result c.args.word words.True c.in-True.is c.value.ensures

pub returns-in-False : goal.returns-in-False
returns-in-False c =
    moved (line_word c.args.stack (place_of c.args.place)) c.value-in-False.result c.args.word words.False c.in-False.is c.value-in-False.ensures

pub returns-in-Nothing : goal.returns-in-Nothing
returns-in-Nothing c =
    moved (line_word c.args.stack (place_of c.args.place)) c.value-in-Nothing.result c.args.word words.Nothing c.in-Nothing.is c.value-in-Nothing.ensures
