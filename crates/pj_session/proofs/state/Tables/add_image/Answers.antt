-- A new image and its name go behind the others.
use Rattle.std.proofs.Common.{◌≡◌, [], ◌∷◌, ◌++◌, map, arith}
use Rattle.std.proofs.lemmas.Grind.{common_steps}
use Rattle.pj_session.specs.Merged.{image_name}
use Rattle.pj_session.specs.declared.own.Kind.TheVariants as kind
use Rattle.pj_session.proofs.Loading.{merged_image, ordered_image, named_image, few_more}
use Rattle.pj_session.proofs.state.Tables.add_image.Goals as goal

pub invariant_of-self-2 : goal.invariant_of-self-2
invariant_of-self-2 c =
    let s = c.args.self.now in
    let images : c.push.new.self.items ≡ s.images.items ++ c.args.loaded ∷ [] = grind (arith, common_steps) in
    let order : c.push-2.new.self.items ≡ s.order.items ++ kind.Image ∷ [] = grind (arith, common_steps) in
    let names : c.intern.new.self ≡ map image_name (s.images.items ++ c.args.loaded ∷ []) =
    named_image s.order.items s.own s.things.items s.images.items s.packages c.args.loaded c.args.name.now _ c.intern.new.self s.ordered s.named c.requires.new c.requires.called c.in_ok-intern.ensures.interned in
    record {
      ordered = rw (images, order) (ordered_image s.order.items s.own s.things.items s.images.items c.args.loaded s.ordered);
      named = rw images names;
      few = rw images (few_more s.order.items s.own s.things.items s.images.items c.args.loaded s.ordered c.requires.room);
    }

pub returns-clause-added : goal.returns-clause-added
returns-clause-added c =
    let s = c.args.self.now in
    let images : c.push.new.self.items ≡ s.images.items ++ c.args.loaded ∷ [] = grind (arith, common_steps) in
    let order : c.push-2.new.self.items ≡ s.order.items ++ kind.Image ∷ [] = grind (arith, common_steps) in
    rw (images, order) (merged_image s.order.items s.own s.things.items s.images.items c.args.loaded s.ordered)
