use Rattle.std.proofs.Common.{ap, sym, arith, ◌∙◌, ◌+◌, ◌++◌, append-nil, length, drop, List, ℕ}
use Rattle.pj_build.specs.Own.{counts_in}
use Rattle.pj_build.specs.Wiring.{all_methods, all_entries}
use Rattle.pj_build.proofs.Wires.{counts_turn, counts_over}
use Rattle.pj_build.proofs.wiring.wired.Goals as goal

pub loop-thing-preserved : goal.loop-thing-preserved
loop-thing-preserved c =
    let i = c.loop-thing.thing-index in
    let w = c.loop-thing.w in
    let rest : List ℕ = counts_in (drop (i + 1) c.args.things.now) in
    let e = counts_turn c.args.things.now i c.thing-item.result (omega arith) c.thing-item.is in
    record {
      methods = c.in_ok-wire.ensures.methods rest ∙ ap (λ (ns : List ℕ). w.methods ++ all_methods (length w.entries) (length w.methods) ns) (sym e) ∙ c.loop-thing.invariant.methods;
      entries = c.in_ok-wire.ensures.entries rest ∙ ap (λ (ns : List ℕ). w.entries ++ all_entries w.at (length w.methods) ns) (sym e) ∙ c.loop-thing.invariant.entries;
    }

pub returns-clause-methods : goal.returns-clause-methods
returns-clause-methods c =
    let w = c.loop-thing.w in
    let over = counts_over c.args.things.now c.loop-thing.thing-index (omega arith) in
    sym (append-nil w.methods) ∙ sym (ap (λ (ns : List ℕ). w.methods ++ all_methods (length w.entries) (length w.methods) ns) over) ∙ c.loop-thing.invariant.methods

pub returns-clause-entries : goal.returns-clause-entries
returns-clause-entries c =
    let w = c.loop-thing.w in
    let over = counts_over c.args.things.now c.loop-thing.thing-index (omega arith) in
    sym (append-nil w.entries) ∙ sym (ap (λ (ns : List ℕ). w.entries ++ all_entries w.at (length w.methods) ns) over) ∙ c.loop-thing.invariant.entries
