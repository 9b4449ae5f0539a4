-- A file ends in an identity, and there is room for its image.
use Rattle.pj_content.specs.Misfit.{misfit}
use Rattle.pj_session.specs.Seen.{events_of}
use Rattle.pj_session.proofs.Loading.{has_room, long_enough}
use Rattle.pj_session.proofs.state.Session.add_file.Goals as goal

pub identity-requires : goal.identity-requires
identity-requires c = long_enough c.args.name.now c.args.bytes.now c.args.image c.requires.file

pub add_image-requires-clause-room : goal.add_image-requires-clause-room
add_image-requires-clause-room c =
    let s = c.args.self.now in
    has_room s.here (events_of s) c.args.name.now (misfit c.args.image) c.requires.fine
