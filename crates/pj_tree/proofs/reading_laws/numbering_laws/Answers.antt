use Rattle.pj_tree.proofs.ReadBack.{laid_out-means, laid_out-later, laid_out-once}
use Rattle.pj_tree.proofs.reading_laws.numbering_laws.Goals as goal

pub returns-clause-laid_out_trees_mean_what_the_tree_did : goal.returns-clause-laid_out_trees_mean_what_the_tree_did
returns-clause-laid_out_trees_mean_what_the_tree_did c = laid_out-means

pub returns-clause-laid_out_trees_name_later_ones : goal.returns-clause-laid_out_trees_name_later_ones
returns-clause-laid_out_trees_name_later_ones c = laid_out-later

pub returns-clause-laid_out_trees_are_named_once : goal.returns-clause-laid_out_trees_are_named_once
returns-clause-laid_out_trees_are_named_once c = laid_out-once
