use Rattle.std.proofs.Common.{◌≡◌, ◌∷◌, ◌∙◌, ap}
use Rattle.pj_grammar.specs.declared.frame.Frame.TheVariants as frames
use Rattle.pj_grammar.specs.Machine.{end_uses}
use Rattle.pj_reader.proofs.Moving.{moved}
use Rattle.pj_reader.proofs.items.end_uses.Goals as goal

pub returns-in-Items : goal.returns-in-Items
returns-in-Items c =
    let e : c.args.stack ≡ frames.Items c.in-Items.root c.in-Items.entries ∷ c.pop.new.self = c.in-Some.ensures ∙ ap (λ f. f ∷ c.pop.new.self) c.in-Items.is in
    moved (λ k. end_uses c.args.names k c.args.kind) c.end_uses_in.result c.args.stack _ e c.end_uses_in.ensures
