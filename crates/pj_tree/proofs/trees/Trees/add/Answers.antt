use Rattle.std.proofs.Common.{◌≡◌, ◌≤◌, ◌∙◌, ap, length, ◌++◌, arith}
use Rattle.pj_tree.specs.Forest.{main_number, trees_of}
use Rattle.pj_tree.specs.Numbering.{laid_out}
use Rattle.pj_tree.specs.Reads.{parts_of}
use Rattle.pj_tree.proofs.Appended.{parts_of-older}
use Rattle.pj_tree.proofs.Behind.{behind}
use Rattle.pj_tree.proofs.ReadBack.{laid_out-means}
use Rattle.pj_tree.proofs.trees.Trees.add.Goals as goal

abbrev number-is : (c : goal.After-new) → c.in_ok-number.number ≡ length (trees_of c.args.self.now c.args.image)
number-is c = c.in_ok-number.ensures ∙ ap length c.list-place.ensures

abbrev stands : (c : goal.After-new) → trees_of c.put.new.self c.args.image ≡ trees_of c.args.self.now c.args.image ++ laid_out c.args.item.now (length (trees_of c.args.self.now c.args.image))
stands c =
    let fits : c.args.image ≤ main_number = omega (arith, c.ranges.image.fits) in
    ap (λ f. trees_of f c.args.image) c.in_ok-put.ensures.added
    ∙ (behind c.args.self.now c.args.image c.in_ok-more.more fits c.requires.there
    ∙ ap (λ ts. trees_of c.args.self.now c.args.image ++ ts) (c.in_ok-more.ensures ∙ ap (λ n. laid_out c.args.item.now n) (number-is c)))

pub returns-clause-means : goal.returns-clause-means
returns-clause-means c none strings parts =
    ap (λ ts. parts_of strings ts c.new.result.ordinal) (stands c)
    ∙ (ap (λ n. parts_of strings (trees_of c.args.self.now c.args.image ++ laid_out c.args.item.now (length (trees_of c.args.self.now c.args.image))) n) (c.new.ensures.ordinal ∙ ap length c.list-place.ensures)
    ∙ laid_out-means strings parts (trees_of c.args.self.now c.args.image) c.args.item.now none)

pub returns-clause-older : goal.returns-clause-older
returns-clause-older c strings k below later =
    ap (λ ts. parts_of strings ts k) (stands c)
    ∙ parts_of-older strings (trees_of c.args.self.now c.args.image) (laid_out c.args.item.now (length (trees_of c.args.self.now c.args.image))) k later below
