use Rattle.std.proofs.Common.{◌≡◌, ◌∷◌, ap, ◌∙◌}
use Rattle.pj_grammar.specs.declared.frame.Frame.{Frame}
use Rattle.pj_grammar.specs.declared.frame.Frame.TheVariants as frames
use Rattle.pj_grammar.specs.Closing.{close_block}
use Rattle.pj_read_closing.proofs.Moving.{moved}
use Rattle.pj_read_closing.proofs.blocks.close_block.Goals as goal

pub returns-in-Block : goal.returns-in-Block
returns-in-Block c =
    let e : c.args.stack ≡ frames.Block c.in-Block.opener c.in-Block.lines ∷ c.pop.new.self = c.in-Some.ensures ∙ ap (λ (f : Frame). f ∷ c.pop.new.self) c.in-Block.is in
    moved close_block c.end_block.result c.args.stack _ e c.end_block.ensures

pub returns-in-Items : goal.returns-in-Items
returns-in-Items c =
    let e : c.args.stack ≡ frames.Items c.in-Items.root c.in-Items.entries ∷ c.pop.new.self = c.in-Some.ensures ∙ ap (λ (f : Frame). f ∷ c.pop.new.self) c.in-Items.is in
    moved close_block c.end_items.result c.args.stack _ e c.end_items.ensures
