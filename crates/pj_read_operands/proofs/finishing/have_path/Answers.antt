use Rattle.std.proofs.Common.{◌≡◌, List, Option, sym}
use Rattle.pj_syntax.specs.declared.expression.Path.{Path}
use Rattle.pj_grammar.specs.declared.frame.Frame.{Frame}
use Rattle.pj_grammar.specs.Frames.{head_path}
use Rattle.pj_grammar.specs.Operands.{have_path}
use Rattle.pj_read_operands.specs.Wants.{path_on}
use Rattle.pj_read_operands.proofs.Moving.{moved}
use Rattle.pj_read_operands.proofs.finishing.have_path.Goals as goal

pub returns-in-Some : goal.returns-in-Some
returns-in-Some c = moved (λ (k : List Frame). path_on c.args.head k c.args.start c.args.kind) c.path_over.result c.args.stack _ c.in-Some.ensures
    (moved (λ (o : Option Path). have_path c.in-Some.frame o c.pop.new.self c.args.start c.args.kind) c.path_over.result (head_path c.args.head) c.head_path.result (sym c.head_path.ensures) c.path_over.ensures)
