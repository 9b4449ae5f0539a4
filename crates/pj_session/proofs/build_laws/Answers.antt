-- The law is proved in the file beside.
use Rattle.pj_session.proofs.Stated.{build_law}
use Rattle.pj_session.proofs.build_laws.Goals as goal

pub returns : goal.returns
returns c = record { a_build_keeps_its_events = build_law }
