use Rattle.std.proofs.Common.{◌≡◌, sym, ◌∙◌}
use Rattle.pj_reader.specs.Read.{kind_of}
use Rattle.pj_reader.proofs.Progress.{accepts}
use Rattle.pj_reader.proofs.reader.read.Goals as goal

pub returns-in-Some-clause-read : goal.returns-in-Some-clause-read
returns-in-Some-clause-read c =
    accepts c.args.modules.now (kind_of c.args.kind) c.args.tokens.now c.in_ok-last.last c.in-Some.tree c.in-Some.field-0-1 c.in_ok-last.ensures.ok (sym c.accepted.ensures ∙ c.in-Some.is)
