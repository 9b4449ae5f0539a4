use Rattle.std.proofs.Common.{◌≤◌, map, take, drop}
use Rattle.pj_plain.specs.Held.{held_text}
use Rattle.pj_top.proofs.RunningNames.{Naming}
use Rattle.pj_top.proofs.run.use_names.Given as goal

-- what is behind the loop and what is to come, and that the depot's count has not fallen
abbrev pub invariant-loop-name : goal.invariant-loop-name
invariant-loop-name g l =
    Naming l.initial.session l.session l.initial.left l.left (map held_text l.names) (map held_text (take l.name-index l.names)) (map held_text (drop l.name-index l.names))
    (g.D.Depot.files l.initial.depot) (g.D.Depot.files l.depot)
    × (g.D.Depot.faults l.initial.depot ≤ g.D.Depot.faults l.depot)
