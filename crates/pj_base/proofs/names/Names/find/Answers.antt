-- The index in the set of strings is the place in the list of their bytes.
use Rattle.std.proofs.Common.{◌∙◌, ap, string_bytes, option_map}
use Rattle.std.specs.Str.{bytes_eq}
use Rattle.pj_base.proofs.PlaceLemmas.{position-map}
use Rattle.pj_base.proofs.names.Names.find.Goals as goal

pub returns-in_err-at : goal.returns-in_err-at
returns-in_err-at c = rw (← c.self.view_is, position-map string_bytes (bytes_eq c.args.text.now) c.self.inside.texts.keys) (ap (option_map (λ name. name.0)) c.from_residual.ensures ∙ c.in_err-at.ensures.index)

pub returns : goal.returns
returns c = rw (← c.self.view_is, position-map string_bytes (bytes_eq c.args.text.now) c.self.inside.texts.keys) c.in_ok-at.ensures.index
