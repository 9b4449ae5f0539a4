use Rattle.std.proofs.Common.{ap, ◌∙◌}
use Rattle.pj_base.specs.Interned.{has_text}
use Rattle.pj_read_makers.proofs.Known.{known-there}
use Rattle.pj_read_makers.proofs.modules.ModuleNames.is_module.Goals as goal

pub returns : goal.returns
returns c =
    c.is_some.ensures
    ∙ known-there c.find.result c.args.name.now c.self.inside.listed c.self.inside.known c.find.ensures c.self.invariant
    ∙ ap (has_text c.args.name.now) c.self.view_is
