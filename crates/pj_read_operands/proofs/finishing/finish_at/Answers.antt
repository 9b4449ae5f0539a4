use Rattle.std.proofs.Common.{◌≡◌, ◌∷◌, List, ap, ◌∙◌}
use Rattle.pj_grammar.specs.declared.frame.Frame.{Frame}
use Rattle.pj_grammar.specs.declared.frame.Frame.TheVariants as frames
use Rattle.pj_grammar.specs.Operands.{finish_at}
use Rattle.pj_read_operands.proofs.Moving.{moved}
use Rattle.pj_read_operands.proofs.finishing.finish_at.Goals as goal

pub returns-in-Then : goal.returns-in-Then
returns-in-Then c =
    let e : c.args.stack ≡ frames.Then c.in-Then.c ∷ c.pop.new.self = c.in-Some.ensures ∙ ap (λ (f : Frame). f ∷ c.pop.new.self) c.in-Then.is in
    moved (λ (k : List Frame). finish_at c.args.head k c.args.kind) c.after_then.result c.args.stack _ e c.after_then.ensures

pub returns-in-Group : goal.returns-in-Group
returns-in-Group c =
    let e : c.args.stack ≡ frames.Group c.in-Group.start c.in-Group.types ∷ c.pop.new.self = c.in-Some.ensures ∙ ap (λ (f : Frame). f ∷ c.pop.new.self) c.in-Group.is in
    moved (λ (k : List Frame). finish_at c.args.head k c.args.kind) c.after_group.result c.args.stack _ e c.after_group.ensures

pub returns-in-Call : goal.returns-in-Call
returns-in-Call c =
    let e : c.args.stack ≡ frames.Call c.in-Call.f c.in-Call.given ∷ c.pop.new.self = c.in-Some.ensures ∙ ap (λ (f : Frame). f ∷ c.pop.new.self) c.in-Call.is in
    moved (λ (k : List Frame). finish_at c.args.head k c.args.kind) c.after_given.result c.args.stack _ e c.after_given.ensures

pub returns-in-Hole : goal.returns-in-Hole
returns-in-Hole c =
    let e : c.args.stack ≡ frames.Hole c.in-Hole.purpose ∷ c.pop.new.self = c.in-Some.ensures ∙ ap (λ (f : Frame). f ∷ c.pop.new.self) c.in-Hole.is in
    moved (λ (k : List Frame). finish_at c.args.head k c.args.kind) c.after_hole.result c.args.stack _ e c.after_hole.ensures
