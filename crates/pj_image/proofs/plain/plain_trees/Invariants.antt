use Rattle.std.proofs.Common.{◌≡◌, true, take}
use Rattle.std.specs.List.{AllByRecursion, list_all}
use Rattle.pj_tree.specs.Fits.{TreeFits}
use Rattle.pj_image.specs.PlainTrees.{is_plain}
use Rattle.pj_image.proofs.plain.plain_trees.Given as goal

abbrev pub invariant-loop-t : goal.invariant-loop-t
invariant-loop-t l =
    record {
      plain : list_all (is_plain l.strings) (take l.t-index l.trees) ≡ true;
      fits : AllByRecursion TreeFits (take l.t-index l.trees);
    }
