use Rattle.std.proofs.Common.{◌≡◌, ◌∙◌, true, refl, sym, ap}
use Rattle.std.specs.Prelude.{is_some}
use Rattle.pj_words.specs.Words.{is_package_name}
use Rattle.pj_image.specs.Formed.{names_of}
use Rattle.pj_image.proofs.Fits.{ok_of, ok_by}
use Rattle.pj_image.proofs.fitness.image_ok.Goals as goal

pub returns : goal.returns
returns c =
    let i = c.args.image.now in
    let named : is_package_name i.head.name ≡ true = ap is_package_name (sym c.as_str.ensures) ∙ sym c.if-not-is_package_name.ensures in
    let names : is_some (names_of i) ≡ true = sym c.in_ok-names_fine.ensures ∙ c.if-not-branch.false in
    let right = c.if-not-methods_right.ensures.0 refl in
    ok_by i c.trees_fine.result c.trees_fine.ensures (λ trees. ok_of i (c.if-not-is_short.ensures.0 refl) (c.if-not-declared_fit.ensures.0 refl) (c.if-not-others_fit.ensures.0 refl) trees named names right.fine right.right)
