use Rattle.std.proofs.Common.{◌≡◌, ◌+◌, Bool, false, List, Some, None, drop, replicate, sym, subst, ◌∙◌}
use Rattle.pj_content.proofs.Taken.{Left, start, front, none_left, refuses, refuses_some, goes_on, ends, is_none_by, same_marks}
use Rattle.pj_content.proofs.fitting.methods_misfit.Goals as goal

pub loop-m-init : goal.loop-m-init
loop-m-init c =
    let all : c.in_ok-marks.marks.items ≡ replicate c.args.functions false = c.in_ok-marks.ensures.items_if_clones_equal (λ y h. h) in
    subst (λ (marks : List Bool). Left c.args.entries.now c.args.functions c.args.methods.now c.args.methods.now marks) (sym all) (start c.args.entries.now c.args.functions c.args.methods.now)

pub returns-in_default : goal.returns-in_default
returns-in_default c =
    let left = front c.args.entries.now c.args.functions c.args.methods.now c.loop-m.m-index c.m-item.result c.loop-m.marks.items c.loop-m-test.true c.m-item.is c.loop-m.invariant in
    let none = same_marks c.args.entries.now c.as_slice.result.now c.loop-m.marks.items c.m-item.result.fun None c.as_slice.ensures.value c.in_default.ensures.is in
    sym (refuses c.args.entries.now c.args.functions c.args.methods.now c.m-item.result (drop (c.loop-m.m-index + 1) c.args.methods.now) c.loop-m.marks.items left none)

pub returns-then-is_some : goal.returns-then-is_some
returns-then-is_some c =
    let left = front c.args.entries.now c.args.functions c.args.methods.now c.loop-m.m-index c.m-item.result c.loop-m.marks.items c.loop-m-test.true c.m-item.is c.loop-m.invariant in
    let some = same_marks c.args.entries.now c.as_slice.result.now c.loop-m.marks.items c.m-item.result.fun (Some c.in-Some.place) c.as_slice.ensures.value c.in-Some.ensures.is in
    refuses_some c.args.entries.now c.args.functions c.args.methods.now c.m-item.result (drop (c.loop-m.m-index + 1) c.args.methods.now) c.loop-m.marks.items c.in-Some.place c.types_misfit-wrong.result left some
    (rw c.as_slice-in-loop-m.ensures at c.types_misfit-wrong.ensures) (sym c.is_some.ensures ∙ c.if-is_some.true)

pub loop-m-preserved : goal.loop-m-preserved
loop-m-preserved c =
    let left = front c.args.entries.now c.args.functions c.args.methods.now c.loop-m.m-index c.m-item.result c.loop-m.marks.items c.loop-m-test.true c.m-item.is c.loop-m.invariant in
    let some = same_marks c.args.entries.now c.as_slice.result.now c.loop-m.marks.items c.m-item.result.fun (Some c.in-Some.place) c.as_slice.ensures.value c.in-Some.ensures.is in
    goes_on c.args.entries.now c.args.functions c.args.methods.now c.m-item.result (drop (c.loop-m.m-index + 1) c.args.methods.now) c.loop-m.marks.items c.in-Some.place left some
    (rw c.as_slice.ensures.value at c.in-Some.ensures.within) (sym (rw c.as_slice-in-loop-m.ensures at c.types_misfit-wrong.ensures) ∙ is_none_by c.types_misfit-wrong.result (sym c.is_some.ensures ∙ c.if-is_some.false))

pub returns : goal.returns
returns c =
    sym (ends c.args.entries.now c.args.functions c.args.methods.now c.loop-m.marks.items (none_left c.args.entries.now c.args.functions c.args.methods.now c.loop-m.m-index c.loop-m.marks.items c.loop-m-test.false c.loop-m.invariant))
