-- The bytes of a short text are UTF-8.
use Rattle.std.proofs.lemmas.Str.{IsUtf8-had}
use Rattle.pj_base.proofs.short.Short.as_str.Goals as goal

pub from_utf8_unchecked-requires : goal.from_utf8_unchecked-requires
from_utf8_unchecked-requires c = IsUtf8-had _ c.args.self.now.utf8
