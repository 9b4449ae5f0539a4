-- An image's index tells what its names are.
use Rattle.pj_session.proofs.package.Package.thing.Goals as goal

pub returns : goal.returns
returns c =
    let p = c.args.self.now in
    c.image_thing.ensures (rw c.as_slice-2.ensures.value p.listed) p.formed p.fits
