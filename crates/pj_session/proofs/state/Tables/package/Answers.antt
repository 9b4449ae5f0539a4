-- An image is found at the place of its name.
use Rattle.std.proofs.Common.{◌∙◌, ap, sym}
use Rattle.std.specs.Prelude.{option_map}
use Rattle.std.specs.Option.{option_copied}
use Rattle.pj_session.specs.Merged.{package_content}
use Rattle.pj_session.proofs.Ordered.{image_found, image_not_found}
use Rattle.pj_session.proofs.state.Tables.package.Goals as goal

pub returns-in_err-at : goal.returns-in_err-at
returns-in_err-at c =
    let s = c.args.self.now in
    ap (λ r. option_map package_content (option_copied r)) c.from_residual.ensures
    ∙ sym (image_not_found s.order.items s.own s.things.items s.images.items s.packages c.args.name.now s.ordered s.named c.in_err-at.ensures)

pub returns : goal.returns
returns c =
    let s = c.args.self.now in
    ap (option_map package_content) (rw c.as_slice.ensures.value at c.at.ensures)
    ∙ sym (image_found s.order.items s.own s.things.items s.images.items s.packages c.args.name.now c.in_ok-at.at.0 s.ordered s.named c.in_ok-at.ensures)
