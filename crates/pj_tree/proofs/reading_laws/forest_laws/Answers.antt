use Rattle.pj_tree.proofs.Behind.{behind, beside}
use Rattle.pj_tree.proofs.reading_laws.forest_laws.Goals as goal

pub returns-clause-trees_are_put_behind_those_of_their_image : goal.returns-clause-trees_are_put_behind_those_of_their_image
returns-clause-trees_are_put_behind_those_of_their_image c = behind

pub returns-clause-other_images_keep_their_trees : goal.returns-clause-other_images_keep_their_trees
returns-clause-other_images_keep_their_trees c = beside
