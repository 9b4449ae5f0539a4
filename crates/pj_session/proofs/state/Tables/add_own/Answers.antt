-- A new thing and its name go behind the others.
use Rattle.std.proofs.Common.{◌≡◌, [], ◌∷◌, ◌++◌, arith}
use Rattle.std.proofs.lemmas.Grind.{common_steps}
use Rattle.pj_session.specs.declared.own.Kind.TheVariants as kind
use Rattle.pj_session.proofs.Ordered.{merged_more, ordered_more, named_more}
use Rattle.pj_session.proofs.state.Tables.add_own.Goals as goal

pub invariant_of-self-2 : goal.invariant_of-self-2
invariant_of-self-2 c =
    let s = c.args.self.now in
    let things : c.push.new.self.items ≡ s.things.items ++ c.args.thing ∷ [] = grind (arith, common_steps) in
    let order : c.push-2.new.self.items ≡ s.order.items ++ kind.Own ∷ [] = grind (arith, common_steps) in
    let names : c.intern.new.self ≡ s.own ++ c.args.name.now ∷ [] = named_more s.order.items s.own s.things.items s.images.items c.args.name.now _ c.intern.new.self s.ordered c.requires.new c.in_ok-intern.ensures.interned in
    record {
      ordered = rw (things, order, names) (ordered_more s.order.items s.own s.things.items s.images.items c.args.name.now c.args.thing s.ordered);
      named = s.named;
      few = s.few;
    }

pub returns-clause-added : goal.returns-clause-added
returns-clause-added c =
    let s = c.args.self.now in
    let things : c.push.new.self.items ≡ s.things.items ++ c.args.thing ∷ [] = grind (arith, common_steps) in
    let order : c.push-2.new.self.items ≡ s.order.items ++ kind.Own ∷ [] = grind (arith, common_steps) in
    let names : c.intern.new.self ≡ s.own ++ c.args.name.now ∷ [] = named_more s.order.items s.own s.things.items s.images.items c.args.name.now _ c.intern.new.self s.ordered c.requires.new c.in_ok-intern.ensures.interned in
    rw (things, order, names) (merged_more s.order.items s.own s.things.items s.images.items c.args.name.now c.args.thing s.ordered)
