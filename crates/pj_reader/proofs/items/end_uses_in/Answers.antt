use Rattle.std.proofs.Common.{◌∷◌}
use Rattle.pj_grammar.specs.declared.frame.Frame.TheVariants as frames
use Rattle.pj_grammar.specs.declared.frame.Root.TheVariants as roots
use Rattle.pj_grammar.specs.Machine.{end_uses}
use Rattle.pj_reader.proofs.Moving.{moved}
use Rattle.pj_reader.proofs.items.end_uses_in.Goals as goal

pub returns-in-Script : goal.returns-in-Script
returns-in-Script c =
    moved (λ r. end_uses c.args.names (frames.Items r c.args.entries ∷ c.args.stack) c.args.kind) c.end_script_uses.result c.args.root roots.Script c.in-Script.is
    c.end_script_uses.ensures

pub returns-in-Package : goal.returns-in-Package
returns-in-Package c =
    moved (λ r. end_uses c.args.names (frames.Items r c.args.entries ∷ c.args.stack) c.args.kind) c.end_package_uses.result c.args.root
    (roots.Package c.in-Package.x c.in-Package.uses) c.in-Package.is c.end_package_uses.ensures
