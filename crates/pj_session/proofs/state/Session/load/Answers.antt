-- What was read and judged is told.
use Rattle.std.proofs.Common.{◌≡◌, [], ◌∷◌, ◌++◌, Ok, length, vec_len, rules, ◌∙◌, arith}
use Rattle.std.proofs.lemmas.Result.{err_from_is_err_and}
use Rattle.pj_image.specs.File.{file_at}
use Rattle.pj_image.specs.Formed.{IsFileOf}
use Rattle.pj_session.specs.Events.{Loads}
use Rattle.pj_session.specs.FromFiles.{held_of}
use Rattle.pj_session.specs.Seen.{events_of}
use Rattle.pj_session.proofs.Loading.{kept, added}
use Rattle.pj_session.proofs.state.Session.load.Goals as goal

pub returns-in_err-judge-clause-refused : goal.returns-in_err-judge-clause-refused
returns-in_err-judge-clause-refused c =
    let s = c.args.self.now in
    let i = c.in_ok-image.image in
    let found : file_at c.args.name.now c.args.bytes.items ≡ Ok i = rw c.as_slice-file.ensures.value at c.in_ok-image.ensures.found in
    let fits : IsFileOf c.args.name.now c.args.bytes.items i = rw c.as_slice-file.ensures.value at c.in_ok-image.ensures.fits in
    let p = err_from_is_err_and c.from_residual-in_err-judge.result c.from_residual-in_err-judge.ensures.1 in
    rw (p.1, p.2) (kept s c.args.name.now c.args.bytes.items i c.in_err-judge.field-0.0 c.requires found fits c.in_err-judge.ensures.bad)

pub overflow_cast-result : goal.overflow_cast-result
overflow_cast-result c =
    let t = c.add_file.new.self.tables in
    let long : vec_len t.images ≡ length t.images.items = search rules in
    omega (arith, t.few, c.len.ensures, long)

pub returns-in-Ok-clause-loaded : goal.returns-in-Ok-clause-loaded
returns-in-Ok-clause-loaded c =
    let s = c.args.self.now in
    let i = c.in_ok-image.image in
    let found : file_at c.args.name.now c.args.bytes.items ≡ Ok i = rw c.as_slice-file.ensures.value at c.in_ok-image.ensures.found in
    let fits : IsFileOf c.args.name.now c.args.bytes.items i = rw c.as_slice-file.ensures.value at c.in_ok-image.ensures.fits in
    let events : events_of c.add_file.new.self ≡ events_of s ++ Loads (held_of c.args.bytes.items i) ∷ [] = rw c.as_slice-file.ensures.value at c.in-Ok.ensures.added in
    let long : vec_len c.add_file.new.self.tables.images ≡ length c.add_file.new.self.tables.images.items = search rules in
    added s c.add_file.new.self c.args.name.now c.args.bytes.items i c.len.result c.requires found fits c.in_ok-judge.ensures.fine events (c.len.ensures ∙ long)
