-- Where tokens stand.
use Rattle.pj_grammar.specs.Tokens.{Place as Stands}
use Rattle.pj_read_frames.specs.declared.place.Place.{Place}

abbrev pub place_of : Place → Stands
place_of p = record { start = p.start; end = p.end; blank = p.blank }
