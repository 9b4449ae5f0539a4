use Rattle.std.proofs.Common.{◌≡◌, ◌++◌, take, flat_map}
use Rattle.pj_outline.specs.Outline.{stmt}
use Rattle.pj_outline.proofs.statements.+stmt.Given as goal

abbrev pub invariant-put_stmts-loop-s : goal.invariant-put_stmts-loop-s
invariant-put_stmts-loop-s l = l.out ≡ l.initial.out ++ flat_map (λ x. stmt l.strings x l.level) (take l.s-index l.all)
