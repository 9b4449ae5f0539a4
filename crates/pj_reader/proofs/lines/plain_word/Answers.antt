use Rattle.std.proofs.Common.{Ok, sym}
use Rattle.pj_words.specs.declared.word.Word.TheVariants as words
use Rattle.pj_grammar.specs.Closing.{closed_line}
use Rattle.pj_grammar.specs.Machine.{line_word}
use Rattle.pj_read_frames.specs.Places.{place_of}
use Rattle.pj_reader.proofs.Moving.{moved}
use Rattle.pj_reader.proofs.lines.plain_word.Goals as goal

pub returns-in-Break : goal.returns-in-Break
returns-in-Break c =
    moved (line_word c.args.stack (place_of c.args.place)) c.closed_line.result c.args.word words.Break c.in-Break.is
    (moved (λ l. closed_line l c.args.stack) c.closed_line.result _ c.break_of.result (sym c.break_of.ensures.made) c.closed_line.ensures)

pub returns-in-Continue : goal.returns-in-Continue
returns-in-Continue c =
    moved (line_word c.args.stack (place_of c.args.place)) c.closed_line-in-Continue.result c.args.word words.Continue c.in-Continue.is
    (moved (λ l. closed_line l c.args.stack) c.closed_line-in-Continue.result _ c.continue_of.result (sym c.continue_of.ensures.made)
    c.closed_line-in-Continue.ensures)

pub returns-in-Return : goal.returns-in-Return
returns-in-Return c =
    moved (line_word c.args.stack (place_of c.args.place)) (Ok c.at.result) c.args.word words.Return c.in-Return.is c.at.ensures

pub returns-in-Global : goal.returns-in-Global
returns-in-Global c =
    moved (line_word c.args.stack (place_of c.args.place)) (Ok c.at-in-Global.result) c.args.word words.Global c.in-Global.is c.at-in-Global.ensures

pub returns-in_default : goal.returns-in_default
returns-in_default c = c.item_word.ensures
