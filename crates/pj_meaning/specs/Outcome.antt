-- What evaluation gives: a value, an error, or the end of the budget, each with the state and what is left.
use Rattle.std.specs.Prelude.{ℕ, zero, suc, Bool, true, false, List, Option, Some, None}
use Rattle.pj_meaning.specs.Tree.{Text}
use Rattle.pj_meaning.specs.Names.{Id}
use Rattle.pj_meaning.specs.State.{State}

-- what is called: a function, or a type as its constructor
pub data Callee : Type 0 where
  OfFunction : Id → Callee
  OfType : Id → Callee

pub data Error : Type 0 where
  NoMethod : Callee → List Id → Error
  AmbiguousCall : Id → List Id → Error
  NotCallable : Id → Error
  Undefined : Text → Text → Error
  LocalUndefined : Text → Error
  DivideError : Error
  StackOverflow : Error
  NonBoolean : Id → Error
  RangeBound : Id → Error
  NoField : Id → Text → Error
  Immutable : Id → Error
  WrongFieldType : Text → Id → Id → Id → Error
  Raised : Text → Error
  Redefinition : Text → Text → Error
  Overwriting : Id → List Id → Error
  ClosedModule : Text → Error
  TooManyParts : Error
  NeedsConcrete : Id → Error
  NotAbstract : Id → Error
  ModuleNotLoaded : Text → Error

-- the state, and the charges that are left
pub record Run : Type 0 where
  pub state : State
  pub left : ℕ

pub data Outcome (A : Type 0) : Type 0 where
  Gives : A → Run → Outcome A
  Raises : Error → Run → Outcome A
  Stops : Run → Outcome A

-- goes on with the value, where there is one
unfoldable pub after : {A B : Type 0} → Outcome A → (A → Run → Outcome B) → Outcome B
after (Gives a r) next = next a r
after (Raises e r) next = Raises e r
after (Stops r) next = Stops r

-- one charge: with none left the run stops
unfoldable pub charged : {A : Type 0} → ℕ → State → (Run → Outcome A) → Outcome A
charged zero s next = Stops (record { state = s; left = zero })
charged (suc n) s next = next (record { state = s; left = n })

-- one of two ways to go on
unfoldable pub choose : {A : Type 0} → Bool → (Run → A) → (Run → A) → Run → A
choose true this that r = this r
choose false this that r = that r

-- an error where there is none of it, and else goes on
unfoldable pub given : {A B : Type 0} → Option A → Error → (A → Run → Outcome B) → Run → Outcome B
given None e next r = Raises e r
given (Some a) e next r = next a r

-- the same run with another state
abbrev pub in_state : Run → State → Run
in_state r s = record { state = s; left = r.left }
