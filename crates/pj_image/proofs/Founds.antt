-- What was found, where nothing is at fault.
use Rattle.std.proofs.Common.{◌≡◌, ℕ, Bool, true, false, Option, Some, None, Result, Ok, Err, refl, ap}
use Rattle.pj_image.specs.Found.{◌>>=◌, or_fault, checked}

abbrev pub ok : {A : Type 0} → A → Result A ℕ
ok x = Ok x

pub ok_is : {A : Type 0} (x y : A) → ok x ≡ ok y → x ≡ y
ok_is x y e = cc

pub found_some : {A : Type 0} (section : ℕ) (r : Option A) (x : A) → or_fault section r ≡ Ok x → r ≡ Some x
found_some {A = A} section None x e = absurd cc
found_some {A = A} section (Some y) x e = ap (λ (z : A). Some z) (ok_is y x e)

pub checked_true : (section : ℕ) (test : Bool) (u : Unit {0}) → checked section test ≡ Ok u → test ≡ true
checked_true section true u e = refl
checked_true section false u e = absurd cc

pub bind_ok : {A B : Type 0} (r : Result A ℕ) (f : A → Result B ℕ) (y : B) → (r >>= f) ≡ Ok y → (x : A) × (r ≡ Ok x) × (f x ≡ Ok y)
bind_ok (Ok x) f y e = (x, refl, e)
bind_ok (Err k) f y e = absurd cc
