use Rattle.std.proofs.Common.{◌≡◌, ◌<◌, ℕ, List, length, get_or, true, sym, subst, arith}
use Rattle.pj_rules.specs.Numbering.{all_name_well, all_numbers}
use Rattle.pj_rules.proofs.BelowLaws.{each_below}
use Rattle.pj_rules.proofs.numbering.trees_name_well.Goals as goal

pub stands_twice-requires : goal.stands_twice-requires
stands_twice-requires c =
    let e : c.as_slice.result.now ≡ all_numbers c.args.trees.now = cc (c.as_slice.ensures, c.in_ok-all.ensures) in
    let well : all_name_well c.args.trees.now 0 c.args.trees.now ≡ true = grind (arith, c.in_ok-all_name_well_here.ensures, c.if-not-branch.false) in
    subst (λ (xs : List ℕ). (k : ℕ) → k < length xs → get_or xs k 0 < length c.args.trees.now) (sym e) (each_below c.args.trees.now well)
