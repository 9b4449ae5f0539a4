use Rattle.std.specs.Prelude.{option_map}
use Rattle.pj_session.specs.Lent.{thing_seen}
use Rattle.pj_session.proofs.Listed.{by_lists}
use Rattle.pj_session.proofs.index.image_thing.Goals as goal

pub returns : goal.returns
returns c = λ lists formed fits. by_lists c.args.image.now c.args.methods.now c.args.name.now (option_map thing_seen c.found.result) (c.found.ensures formed) lists formed fits
