use Rattle.std.proofs.Common.{length}
use Rattle.pj_meaning.specs.Top.{top}
use Rattle.pj_plain.specs.Forms.{is_new}
use Rattle.pj_plain.specs.Held.{held_expr, held_parts, held_text}
use Rattle.pj_session.specs.Events.{parts_of}
use Rattle.pj_session.specs.OwnItems.{known_in}
use Rattle.pj_session.specs.Seen.{events_of, state_seen}
use Rattle.pj_session.specs.States.{run}
use Rattle.pj_session.specs.Tops.{Tops}
use Rattle.pj_session.proofs.OwnKnown.{constant_as, constant_free, new_known, shown_as}
use Rattle.pj_session.proofs.FarAsked.{front_kept}
use Rattle.pj_session.proofs.HeldParts.{defined_count}
use Rattle.pj_session.proofs.OwnMore.{bind_known, bind_loaded, define_known, define_loaded, either_good, free_good, kept_good, kept_loaded, plain_good}
use Rattle.pj_session.proofs.Texts.{and_left, and_right}
use Rattle.pj_session.proofs.state.Session.evaluate.Goals as goal

pub define_tree-requires : goal.define_tree-requires
define_tree-requires c =
    let events = events_of c.args.self.now in
    let name = (held_parts c.in-Def.d).fun in
    record { new = new_known events name (and_left (is_new name (known_in events)) _ (rw c.in-Def.is at c.requires.form)) }

pub constant_tree-requires : goal.constant_tree-requires
constant_tree-requires c =
    let events = events_of c.args.self.now in
    let name = held_text c.in-Const.name in
    record { new = rw c.text.ensures (new_known events name (and_left (is_new name (known_in events)) _ (rw c.in-Const.is at c.requires.form))) }

pub returns-in-Const-clause-tops : goal.returns-in-Const-clause-tops
returns-in-Const-clause-tops c good =
    let s = c.args.self.now in
    constant_as (λ i. Tops (top i (run (state_seen s) c.args.left.now)) c.constant_tree.result (state_seen s) (state_seen c.constant_tree.new.self) c.constant_tree.new.left)
    s.here (events_of s) c.args.item.now c.in-Const.name c.in-Const.value c.text.result.now c.in-Const.is c.text.ensures c.requires.form good c.constant_tree.ensures.tops

pub returns-in-Run-clause-tops : goal.returns-in-Run-clause-tops
returns-in-Run-clause-tops c good =
    let s = c.args.self.now in
    shown_as (λ i. Tops (top i (run (state_seen s) c.args.left.now)) c.show.result (state_seen s) (state_seen c.show.new.self) c.show.new.left)
    s.here (events_of s) c.args.item.now c.in-Run.s c.in-Run.is c.requires.form good c.show.ensures.tops

pub returns-in-Def-clause-good : goal.returns-in-Def-clause-good
returns-in-Def-clause-good c =
    let events = events_of c.args.self.now in
    let name = (held_parts c.in-Def.d).fun in
    let plain = and_right (is_new name (known_in events)) _ (rw c.in-Def.is at c.requires.form) in
    either_good c.define_tree.result _ _ _ _ c.define_tree.ensures.here (plain_good c.define_tree.result _ _ _ _ plain c.define_tree.ensures.good) c.define_tree.ensures.unchanged

pub returns-in-Def-clause-known : goal.returns-in-Def-clause-known
returns-in-Def-clause-known c =
    let events = events_of c.args.self.now in
    let d = held_parts c.in-Def.d in
    let p = parts_of d.code in
    let plain = and_right (is_new d.fun (known_in events)) _ (rw c.in-Def.is at c.requires.form) in
    rw c.in-Def.is (define_known c.define_tree.result events _ d.fun p.0 p.1 (length d.params) (defined_count d plain) c.define_tree.ensures.added)

pub returns-in-Def-clause-loaded : goal.returns-in-Def-clause-loaded
returns-in-Def-clause-loaded c =
    let d = held_parts c.in-Def.d in
    let p = parts_of d.code in
    define_loaded c.define_tree.result _ _ _ _ d.fun p.0 p.1 c.define_tree.ensures.here c.define_tree.ensures.added c.define_tree.ensures.unchanged

pub returns-in-Def-clause-printed : goal.returns-in-Def-clause-printed
returns-in-Def-clause-printed c = front_kept c.args.self.now.printed _ c.define_tree.ensures.printed

pub returns-in-Const-clause-good : goal.returns-in-Const-clause-good
returns-in-Const-clause-good c =
    let s = c.args.self.now in
    let free = constant_free (events_of s) (held_text c.in-Const.name) (held_expr c.in-Const.value) (rw c.in-Const.is at c.requires.form) in
    either_good c.constant_tree.result _ _ _ _ c.constant_tree.ensures.here (free_good c.constant_tree.result _ _ c.text.result.now _ _ (rw c.text.ensures free) c.constant_tree.ensures.good) c.constant_tree.ensures.unchanged

pub returns-in-Const-clause-known : goal.returns-in-Const-clause-known
returns-in-Const-clause-known c =
    rw c.in-Const.is (bind_known c.constant_tree.result _ _ (held_text c.in-Const.name) (rw c.text.ensures at c.constant_tree.ensures.added))

pub returns-in-Const-clause-loaded : goal.returns-in-Const-clause-loaded
returns-in-Const-clause-loaded c =
    bind_loaded c.constant_tree.result _ _ _ _ c.text.result.now c.constant_tree.ensures.here c.constant_tree.ensures.added c.constant_tree.ensures.unchanged

pub returns-in-Const-clause-printed : goal.returns-in-Const-clause-printed
returns-in-Const-clause-printed c = front_kept c.args.self.now.printed _ c.constant_tree.ensures.printed

pub returns-in-Run-clause-good : goal.returns-in-Run-clause-good
returns-in-Run-clause-good c = kept_good _ _ _ _ c.show.ensures.here c.show.ensures.events

pub returns-in-Run-clause-loaded : goal.returns-in-Run-clause-loaded
returns-in-Run-clause-loaded c = kept_loaded _ _ _ _ c.show.ensures.here c.show.ensures.events
