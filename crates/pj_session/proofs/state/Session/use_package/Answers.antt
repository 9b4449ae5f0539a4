-- Each step ends as the meaning's does.
use Rattle.std.proofs.lemmas.Result.{err_from_is_err_and}
use Rattle.pj_session.specs.Seen.{state_seen}
use Rattle.pj_session.proofs.Used.{already_told, unread_told, unloaded_told, started_told, counts_behind, kept_behind, known_behind}
use Rattle.std.proofs.Common.{◌≡◌, true, false, Err, refl, sym, ◌∙◌}
use Rattle.pj_session.specs.Seen.{events_of}
use Rattle.pj_session.specs.Uses.{counts_loaded}
use Rattle.pj_session.proofs.state.Session.use_package.Goals as goal

pub returns-then-counts_loaded-clause-uses : goal.returns-then-counts_loaded-clause-uses
returns-then-counts_loaded-clause-uses g c =
    already_told (Unit {0}) _ c.args.self.now c.args.name.now c.args.left.now tt (sym c.counts_loaded.ensures ∙ c.if-counts_loaded.true)

pub returns-in_err-found-clause-uses : goal.returns-in_err-found-clause-uses
returns-in_err-found-clause-uses g c =
    let s = c.args.self.now in
    let free : counts_loaded s.here (events_of s) c.args.name.now ≡ false = sym c.counts_loaded.ensures ∙ c.if-counts_loaded.false in
    let p = err_from_is_err_and c.from_residual.result c.from_residual.ensures.1 in
    let is : c.from_residual.result ≡ Err c.in_err-found.field-0.0 = rw (p.1, p.2) refl in
    unread_told _ s c.args.name.now c.args.left.now c.args.left.now c.from_residual.result c.in_err-found.field-0.0 is free c.in_err-found.ensures.fetched

pub returns-in_err-gain-clause-uses : goal.returns-in_err-gain-clause-uses
returns-in_err-gain-clause-uses g c =
    let s = c.args.self.now in
    let free : counts_loaded s.here (events_of s) c.args.name.now ≡ false = sym c.counts_loaded.ensures ∙ c.if-counts_loaded.false in
    let p = err_from_is_err_and c.from_residual-in_err-gain.result c.from_residual-in_err-gain.ensures.1 in
    let is : c.from_residual-in_err-gain.result ≡ Err c.in_err-gain.field-0.0 = rw (p.1, p.2) refl in
    unloaded_told _ s c.gain.new.self c.args.name.now c.args.left.now c.args.left.now c.from_residual-in_err-gain.result c.in_err-gain.field-0.0 c.in_ok-found.found is free c.in_ok-found.ensures.fetched c.in_err-gain.ensures.refused
    c.gain.ensures.here c.gain.ensures.printed c.in_err-gain.ensures.unchanged

pub returns-clause-uses : goal.returns-clause-uses
returns-clause-uses g c =
    let s = c.args.self.now in
    let free : counts_loaded s.here (events_of s) c.args.name.now ≡ false = sym c.counts_loaded.ensures ∙ c.if-counts_loaded.false in
    started_told _ _ s c.gain.new.self c.args.name.now c.args.left.now c.start_gained.new.left c.start_gained.result (state_seen c.start_gained.new.self) c.in_ok-found.found free c.in_ok-found.ensures.fetched c.in_ok-gain.ensures.gained
    c.gain.ensures.here c.gain.ensures.printed c.start_gained.ensures.read c.start_gained.ensures.uses

pub returns-clause-loaded : goal.returns-clause-loaded
returns-clause-loaded g c =
    counts_behind c.args.self.now c.gain.new.self c.start_gained.new.self c.args.name.now c.in_ok-found.found.bytes.items c.start_gained.result c.in_ok-gain.ensures.gained c.gain.ensures.here c.start_gained.ensures.here c.start_gained.ensures.events

pub returns-clause-kept : goal.returns-clause-kept
returns-clause-kept g c =
    kept_behind c.args.self.now c.gain.new.self c.start_gained.new.self c.args.name.now c.in_ok-found.found.bytes.items c.in_ok-gain.ensures.gained c.gain.ensures.here c.start_gained.ensures.here c.start_gained.ensures.events

pub returns-clause-known : goal.returns-clause-known
returns-clause-known g c =
    known_behind c.args.self.now c.gain.new.self c.start_gained.new.self c.args.name.now c.in_ok-found.found.bytes.items c.in_ok-gain.ensures.gained c.gain.ensures.here c.start_gained.ensures.events
