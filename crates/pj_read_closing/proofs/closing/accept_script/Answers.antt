use Rattle.std.proofs.Common.{◌≡◌, ◌∷◌, ap, ◌∙◌}
use Rattle.pj_grammar.specs.declared.frame.Frame.{Frame}
use Rattle.pj_grammar.specs.declared.frame.Frame.TheVariants as frames
use Rattle.pj_grammar.specs.Closing.{accept_script}
use Rattle.pj_read_closing.proofs.Moving.{moved}
use Rattle.pj_read_closing.proofs.closing.accept_script.Goals as goal

pub returns-in-Items : goal.returns-in-Items
returns-in-Items c =
    let e : c.args.stack ≡ frames.Items c.in-Items.root c.in-Items.entries ∷ c.pop.new.self = c.in-Some.ensures ∙ ap (λ (f : Frame). f ∷ c.pop.new.self) c.in-Items.is in
    moved accept_script c.accept_in.result c.args.stack _ e c.accept_in.ensures
