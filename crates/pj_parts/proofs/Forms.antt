-- How many bytes there are behind a tag.
use Rattle.std.proofs.Common.{length-append}
use Rattle.pj_parts.proofs.Sizes.{length-number, length-int, length-list}

pub ruleset forms = (length-number, length-int, length-list, length-append)
