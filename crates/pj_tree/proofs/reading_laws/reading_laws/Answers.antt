use Rattle.pj_tree.proofs.Depends.{same_where_named}
use Rattle.pj_tree.proofs.Appended.{parts_of-older}
use Rattle.pj_tree.proofs.ReadBack.{newer_alone}
use Rattle.pj_tree.proofs.reading_laws.reading_laws.Goals as goal

pub returns-clause-a_tree_means_what_those_it_names_let_it : goal.returns-clause-a_tree_means_what_those_it_names_let_it
returns-clause-a_tree_means_what_those_it_names_let_it c = same_where_named

pub returns-clause-older_trees_keep_their_meaning : goal.returns-clause-older_trees_keep_their_meaning
returns-clause-older_trees_keep_their_meaning c = parts_of-older

pub returns-clause-newer_trees_mean_what_they_do_by_themselves : goal.returns-clause-newer_trees_mean_what_they_do_by_themselves
returns-clause-newer_trees_mean_what_they_do_by_themselves c = newer_alone
