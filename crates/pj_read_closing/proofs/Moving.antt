-- An answer at a value that equals another.
use Rattle.std.proofs.Common.{◌≡◌, IfOk, Result, Option, subst, sym}
use Rattle.pj_base.specs.declared.NoMemory.{NoMemory}
use Rattle.pj_grammar.specs.Frames.{State}

pub moved : {A : Type 0} (F : A → Option State) (x : Result (Option State) NoMemory) (a b : A) → a ≡ b → IfOk x (λ r. r ≡ F b) → IfOk x (λ r. r ≡ F a)
moved F x a b e h = subst (λ c. IfOk x (λ r. r ≡ F c)) (sym e) h
