use Rattle.std.proofs.Common.{◌≡◌, ◌++◌, take, map}
use Rattle.pj_rules.specs.Numbering.{named}
use Rattle.pj_rules.proofs.numbering.put_numbers.Given as goal

abbrev pub invariant-loop-mention : goal.invariant-loop-mention
invariant-loop-mention l = l.out ≡ l.initial.out ++ map named (take l.mention-index l.mentions)
