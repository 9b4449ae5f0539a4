use Rattle.std.proofs.Common.{◌≡◌, ◌∙◌, ap, slice_get}
use Rattle.std.specs.Option.{option_copied}
use Rattle.pj_plain.specs.Forms.{role_of}
use Rattle.pj_plain.proofs.OwnNames.{copied_get, role_found, role_missing}
use Rattle.pj_plain.proofs.own_names.OwnNames.role.Goals as goal

pub returns-in_err-at : goal.returns-in_err-at
returns-in_err-at c =
    c.from_residual.ensures
    ∙ role_missing c.args.name.now c.self.inside.names c.self.inside.roles.items c.self.invariant c.in_err-at.ensures
    ∙ ap (role_of c.args.name.now) c.self.view_is

pub returns : goal.returns
returns c =
    let got : option_copied c.get.result ≡ slice_get c.self.inside.roles.items c.in_ok-at.at.0 = rw c.deref.ensures.value at (copied_get c.get.result c.deref.result.now c.in_ok-at.at.0 c.get.ensures.lookup) in
    c.copied.ensures
    ∙ got
    ∙ role_found c.args.name.now c.self.inside.names c.self.inside.roles.items c.in_ok-at.at.0 c.self.invariant c.in_ok-at.ensures
    ∙ ap (role_of c.args.name.now) c.self.view_is
