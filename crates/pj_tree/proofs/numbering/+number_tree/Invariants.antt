use Rattle.std.proofs.Common.{◌≡◌, ◌++◌, take, map}
use Rattle.pj_tree.specs.Numbering.{all, numbered_stmt}
use Rattle.pj_tree.proofs.numbering.+number_tree.Given as goal

abbrev pub invariant-block-loop-s : goal.invariant-block-loop-s
invariant-block-loop-s l =
    (l.laid ≡ (all (map numbered_stmt (take l.s-index l.stmts)) l.initial.n.next).laid)
    × (l.n.later ≡ l.initial.n.later ++ (all (map numbered_stmt (take l.s-index l.stmts)) l.initial.n.next).later)
    × (l.n.next ≡ (all (map numbered_stmt (take l.s-index l.stmts)) l.initial.n.next).next)
