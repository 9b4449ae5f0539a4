use Rattle.std.proofs.Common.{◌≡◌, map, take, drop}
use Rattle.std.specs.List.{AllByRecursion}
use Rattle.pj_image.specs.New.{all_taken}
use Rattle.pj_image.proofs.named.take_names.Given as goal

abbrev pub invariant-loop-named : goal.invariant-loop-named
invariant-loop-named g l =
    record {
      seen : all_taken g.T.Named.good l.strings l.seen (map g.T.Named.number_of (drop l.named-index l.all)) ≡ all_taken g.T.Named.good l.strings l.initial.seen (map g.T.Named.number_of l.all);
      range : AllByRecursion g.T.Named.in_range (take l.named-index l.all);
    }
