-- A word spells a number of steps exactly where it is that number's decimal digits.
use Rattle.std.proofs.Common.{◌≡◌, ℕ, true, sym, ap, ◌∙◌, arith, List, Bool}
use Rattle.std.proofs.lemmas.Bool.{false≢true}
use Rattle.pj_top.specs.Commands.{starts_number}
use Rattle.pj_top.proofs.Decimals.{starts-decimal, spells, misses}
use Rattle.pj_top.proofs.words.step_count.Goals as goal

starts : (word ds : List ℕ) (r : Bool) → ds ≡ word → r ≡ starts_number ds → r ≡ true → starts_number word ≡ true
starts word ds r same is yes_ = cc

pub returns-then-not-starts_number : goal.returns-then-not-starts_number
returns-then-not-starts_number c = λ n small e.
    let begins : starts_number c.args.word.now ≡ true = rw e (starts-decimal n (omega arith)) in
    false≢true (sym c.if-not-starts_number.true ∙ c.starts_number.ensures ∙ ap starts_number c.as_bytes.ensures.value ∙ begins)

pub returns-in-Ok : goal.returns-in-Ok
returns-in-Ok c =
    (spells c.args.word.now c.in-Ok.n c.parse.result (starts c.args.word.now c.as_bytes.result.now c.starts_number.result c.as_bytes.ensures.value c.starts_number.ensures c.if-not-starts_number.false) c.in-Ok.is c.parse.ensures.value.0, omega arith)

pub returns-in_default : goal.returns-in_default
returns-in_default c = λ n small e.
    let same = sym c.in-Ok.is ∙ misses c.args.word.now n c.parse.result small e c.parse.ensures.value.0 in
    let m : c.in-Ok.n ≡ n = cc in
    omega arith

pub returns-in_default-2 : goal.returns-in_default-2
returns-in_default-2 c = λ n small e.
    let same = sym c.in_default.is ∙ misses c.args.word.now n c.parse.result small e c.parse.ensures.value.0 in cc
