-- Decimal digits without a leading zero, and the number that they spell.
use Rattle.std.proofs.Common.{◌≡◌, ℕ, zero, suc, ◌^◌, ◌<◌, ◌≤◌, ◌==◌, true, false, List, [], ◌∷◌, length, get_or, Result, Ok, refl, sym, ap, ◌∙◌, arith, lit<}
use Rattle.std.specs.Fmt.{decimal}
use Rattle.std.specs.Str.Parse.{AllDigits, IsNumeral, digits_value, ParsesUnsigned, without_leading_plus}
use Rattle.std.proofs.lemmas.Fmt.{decimal_digit, first_decimal, decimal_is_IsNumeral, decimal-digits_value, parse-decimal}
use Rattle.std.proofs.lemmas.Str.Parse.{IsNumeralModel, digit_at}
use Rattle.std.proofs.lemmas.Bool.{false≢true}
use Rattle.std.proofs.lemmas.Bool.Decides.{nat_tests}
use Rattle.pj_top.specs.Commands.{starts_number}

own : IsNumeralModel (AllDigits 10) (digits_value 10)
own = record { to = λ _ h. h; from = λ _ h. h; same = λ _ _. refl }

starts-first : (ds : List ℕ) → 0 < length ds → 48 < get_or ds 0 0 → get_or ds 0 0 ≤ 57 → starts_number ds ≡ true
starts-first [] some low high = absurd (omega arith)
starts-first (b ∷ bs) some low high = grind (arith, nat_tests)

pub starts-decimal : (n : ℕ) → n < 2 ^ 64 → starts_number (decimal n) ≡ true
starts-decimal zero small = rw (decimal_digit 0 (lit< tt)) refl
starts-decimal (suc n) small =
    let numeral = decimal_is_IsNumeral (suc n) small in
    let digit = digit_at (decimal (suc n)) 0 numeral.0.1 numeral.0.0 in
    starts-first (decimal (suc n)) numeral.0.0 (first_decimal (suc n) (omega arith) small) (omega (arith, digit.1))

not_plus : (b : ℕ) (bs : List ℕ) → starts_number (b ∷ bs) ≡ true → (b == 43) ≡ false
not_plus b bs starts = grind (arith, nat_tests)

no_plus : (ds : List ℕ) → starts_number ds ≡ true → without_leading_plus ds ≡ ds
no_plus [] starts = refl
no_plus (b ∷ bs) starts = rw (not_plus b bs starts) refl

alone : (b : ℕ) (bs : List ℕ) → starts_number (b ∷ bs) ≡ true → b ≡ 48 → length bs ≡ 0
alone b bs starts e = grind (arith, nat_tests)

lone_zero : (ds : List ℕ) → starts_number ds ≡ true → get_or ds 0 0 ≡ 48 → length ds ≡ 1
lone_zero [] starts e = absurd (false≢true starts)
lone_zero (b ∷ bs) starts e = omega (arith, alone b bs starts e)

not_empty : (ds : List ℕ) → starts_number ds ≡ true → 0 < length ds
not_empty [] starts = absurd (false≢true starts)
not_empty (b ∷ bs) starts = omega arith

-- what parse reads of such digits is the number whose decimal digits they are
pub spells : {E : Type 0} (ds : List ℕ) (n : ℕ) (r : Result ℕ E) → starts_number ds ≡ true → r ≡ Ok n → ParsesUnsigned 64 10 ds r → ds ≡ decimal n
spells {E} ds n r starts is parses =
    let plain = no_plus ds starts in
    let parsed : (IsNumeral 10 ds × (digits_value 10 ds < 2 ^ 64)) × (n ≡ digits_value 10 ds) = rw plain at (rw is at parses) in
    sym (decimal-digits_value own ds parsed.0.0.1 (not_empty ds starts) (lone_zero ds starts) parsed.0.1) ∙ ap (λ m. decimal m) (sym parsed.1)

pub misses : {E : Type 0} (ds : List ℕ) (n : ℕ) (r : Result ℕ E) → n < 2 ^ 63 → ds ≡ decimal n → ParsesUnsigned 64 10 ds r → r ≡ Ok n
misses ds n r small e parses = parse-decimal 64 n ds r (omega arith) (omega arith) e parses
