use Rattle.pj_session.proofs.error.+put_integers.Given as goal

abbrev pub decreases-put_integers : goal.decreases-put_integers
decreases-put_integers l = l.count
