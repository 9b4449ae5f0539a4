-- The sign that is found is the longest that stands there.
use Rattle.std.proofs.Common.{◌≡◌, ℕ, ◌≤◌, ◌&&◌, Bool, true, false, cond, List, [], ◌∷◌, Some, IsSome, length, nat_eq, refl, sym, arith}
use Rattle.std.specs.Prelude.{nat_le}
use Rattle.std.specs.List.{find, starts_with}
use Rattle.std.proofs.lemmas.Bool.{leb-true}
use Rattle.pj_lex.specs.declared.sign.Sign.{Sign}
use Rattle.pj_lex.specs.declared.sign.Sign.TheVariants as signs
use Rattle.pj_lex.specs.Signs.{sign_text, sign_at, all_signs}

-- the sign stands in the list
data Listed : Sign → List Sign → Type 0 where
  first : {s : Sign} {ss : List Sign} → Listed s (s ∷ ss)
  later : {s t : Sign} {ss : List Sign} → Listed s ss → Listed s (t ∷ ss)

-- no sign in the list is longer than the one before it, and the first is no longer than this
abbrev falls : ℕ → List Sign → Bool
falls n [] = true
falls n (s ∷ ss) = nat_le (length (sign_text s)) n && falls (length (sign_text s)) ss

and_left : (a b : Bool) → (a && b) ≡ true → a ≡ true
and_left true b e = refl
and_left false b e = cc

and_right : (a b : Bool) → (a && b) ≡ true → b ≡ true
and_right true b e = e
and_right false b e = cc

below : (s : Sign) (n : ℕ) (ss : List Sign) → falls n ss ≡ true → Listed s ss → length (sign_text s) ≤ n
below s n [] fall listed = elim listed [ ]
below s n (t ∷ ss) fall first = leb-true (length (sign_text s)) n (and_left _ (falls (length (sign_text s)) ss) fall)
below s n (t ∷ ss) fall (later listed) =
    let head : length (sign_text t) ≤ n = leb-true (length (sign_text t)) n (and_left _ (falls (length (sign_text t)) ss) fall) in
    let tail : length (sign_text s) ≤ length (sign_text t) = below s (length (sign_text t)) ss (and_right (nat_le (length (sign_text t)) n) _ fall) listed in
    omega arith

module _ (test : Sign → Bool) where
  taken : (s t x : Sign) (ss : List Sign) → falls (length (sign_text x)) ss ≡ true → Some x ≡ Some s → Listed t (x ∷ ss) → length (sign_text t) ≤ length (sign_text s)
  taken s t x ss fall is first = let same : x ≡ s = cc in rw same (omega arith)
  taken s t x ss fall is (later listed) = let same : x ≡ s = cc in rw (← same) (below t (length (sign_text x)) ss fall listed)

  left : (t x : Sign) (ss : List Sign) → test x ≡ false → test t ≡ true → Listed t (x ∷ ss) → Listed t ss
  left t x ss fails stands first = cc
  left t x ss fails stands (later listed) = listed

  by_test : (s t x : Sign) (ss : List Sign) (b : Bool) → b ≡ test x → falls (length (sign_text x)) ss ≡ true → cond b (Some x) (find test ss) ≡ Some s → Listed t (x ∷ ss) → test t ≡ true
      → (Listed t ss → find test ss ≡ Some s → length (sign_text t) ≤ length (sign_text s)) → length (sign_text t) ≤ length (sign_text s)
  by_test s t x ss true is fall found listed stands onward = taken s t x ss fall found listed
  by_test s t x ss false is fall found listed stands onward = onward (left t x ss (sym is) stands listed) found

  longest_in : (s t : Sign) (n : ℕ) (ss : List Sign) → falls n ss ≡ true → find test ss ≡ Some s → Listed t ss → test t ≡ true → length (sign_text t) ≤ length (sign_text s)
  longest_in s t n [] fall found listed stands = elim listed [ ]
  longest_in s t n (x ∷ ss) fall found listed stands =
      let tail : falls (length (sign_text x)) ss ≡ true = and_right (nat_le (length (sign_text x)) n) _ fall in
      by_test s t x ss (test x) refl tail found listed stands (λ l f. longest_in s t (length (sign_text x)) ss tail f l stands)

  some_by : (t x : Sign) (ss : List Sign) (b : Bool) → b ≡ test x → Listed t (x ∷ ss) → test t ≡ true → (Listed t ss → IsSome (find test ss)) → IsSome (cond b (Some x) (find test ss))
  some_by t x ss true is listed stands onward = refl
  some_by t x ss false is listed stands onward = onward (left t x ss (sym is) stands listed)

  some_in : (t : Sign) (ss : List Sign) → Listed t ss → test t ≡ true → IsSome (find test ss)
  some_in t [] listed stands = elim listed [ ]
  some_in t (x ∷ ss) listed stands = some_by t x ss (test x) refl listed stands (λ l. some_in t ss l stands)

-- each sign stands in the list
listed : (s : Sign) → Listed s all_signs
unfolding all_signs
listed signs.Same = first
listed signs.NotSame = later (first)
listed signs.AddAssign = later (later (first))
listed signs.SubtractAssign = later (later (later (first)))
listed signs.MultiplyAssign = later (later (later (later (first))))
listed signs.Equal = later (later (later (later (later (first)))))
listed signs.NotEqual = later (later (later (later (later (later (first))))))
listed signs.LessOrEqual = later (later (later (later (later (later (later (first)))))))
listed signs.GreaterOrEqual = later (later (later (later (later (later (later (later (first))))))))
listed signs.And = later (later (later (later (later (later (later (later (later (first)))))))))
listed signs.Or = later (later (later (later (later (later (later (later (later (later (first))))))))))
listed signs.DoubleColon = later (later (later (later (later (later (later (later (later (later (later (first)))))))))))
listed signs.Below = later (later (later (later (later (later (later (later (later (later (later (later (first))))))))))))
listed signs.Comma = later (later (later (later (later (later (later (later (later (later (later (later (later (first)))))))))))))
listed signs.Assign = later (later (later (later (later (later (later (later (later (later (later (later (later (later (first))))))))))))))
listed signs.Plus = later (later (later (later (later (later (later (later (later (later (later (later (later (later (later (first)))))))))))))))
listed signs.Minus = later (later (later (later (later (later (later (later (later (later (later (later (later (later (later (later (first))))))))))))))))
listed signs.Times = later (later (later (later (later (later (later (later (later (later (later (later (later (later (later (later (later (first)))))))))))))))))
listed signs.Quotient = later (later (later (later (later (later (later (later (later (later (later (later (later (later (later (later (later (later (first))))))))))))))))))
listed signs.Remainder = later (later (later (later (later (later (later (later (later (later (later (later (later (later (later (later (later (later (later (first)))))))))))))))))))
listed signs.Less = later (later (later (later (later (later (later (later (later (later (later (later (later (later (later (later (later (later (later (later (first))))))))))))))))))))
listed signs.Greater = later (later (later (later (later (later (later (later (later (later (later (later (later (later (later (later (later (later (later (later (later (first)))))))))))))))))))))
listed signs.Question = later (later (later (later (later (later (later (later (later (later (later (later (later (later (later (later (later (later (later (later (later (later (first))))))))))))))))))))))
listed signs.Colon = later (later (later (later (later (later (later (later (later (later (later (later (later (later (later (later (later (later (later (later (later (later (later (first)))))))))))))))))))))))
listed signs.LeftParen = later (later (later (later (later (later (later (later (later (later (later (later (later (later (later (later (later (later (later (later (later (later (later (later (first))))))))))))))))))))))))
listed signs.RightParen = later (later (later (later (later (later (later (later (later (later (later (later (later (later (later (later (later (later (later (later (later (later (later (later (later (first)))))))))))))))))))))))))
listed signs.Dot = later (later (later (later (later (later (later (later (later (later (later (later (later (later (later (later (later (later (later (later (later (later (later (later (later (later (first))))))))))))))))))))))))))
listed signs.Not = later (later (later (later (later (later (later (later (later (later (later (later (later (later (later (later (later (later (later (later (later (later (later (later (later (later (later (first)))))))))))))))))))))))))))

pub longest_sign : (cs : List ℕ) (sign other : Sign) → sign_at cs ≡ Some sign → starts_with nat_eq cs (sign_text other) ≡ true → length (sign_text other) ≤ length (sign_text sign)
unfolding sign_at all_signs
longest_sign cs sign other found stands = longest_in (λ s. starts_with nat_eq cs (sign_text s)) sign other 3 all_signs refl found (listed other) stands

pub some_sign : (cs : List ℕ) (sign : Sign) → starts_with nat_eq cs (sign_text sign) ≡ true → IsSome (sign_at cs)
unfolding sign_at
some_sign cs sign stands = some_in (λ s. starts_with nat_eq cs (sign_text s)) sign all_signs (listed sign) stands
