-- What the set of strings answers is what the list of their bytes has.
use Rattle.std.proofs.Common.{string_bytes}
use Rattle.pj_base.proofs.PlaceLemmas.{found, added}
use Rattle.pj_base.proofs.names.Names.intern.Goals as goal

pub returns-in-Some-clause-interned : goal.returns-in-Some-clause-interned
returns-in-Some-clause-interned c =
    rw (← c.self.view_is) (found string_bytes c.args.text.now c.self.inside.texts.keys c.in-Some.at c.in-Some.ensures.index c.in-Some.ensures.found)

pub returns-clause-interned : goal.returns-clause-interned
returns-clause-interned c =
    rw (← c.self.view_is) (added string_bytes c.args.text.now c.self.inside.texts.keys _ c.in_ok-at.at _ c.in_ok-from_str.ensures.ok c.in_default.ensures.found c.in_ok-at.ensures.index c.in_ok-at.ensures.keys)
