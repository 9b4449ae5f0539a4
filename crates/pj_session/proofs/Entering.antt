-- Steps of direct evaluation, over any state: a call of a picked method, and what entering it does.
use Rattle.std.proofs.Common.{◌≡◌, ℕ, zero, suc, false, List, nat_le, refl, ap, Ok}
use Rattle.pj_meaning.specs.Tree.{Text}
use Rattle.pj_meaning.specs.Names.{Id}
use Rattle.pj_meaning.specs.Methods.{Method, One, pick}
use Rattle.pj_meaning.specs.Values.{Value}
use Rattle.pj_meaning.specs.State.{State, FunctionName}
use Rattle.pj_meaning.specs.Outcome.{Run, Stops, charged, choose}
use Rattle.pj_meaning.specs.Lookup.{role_at}
use Rattle.pj_meaning.specs.Calls.{Enter, types_of, enter_picked, call_function, call_named, call_sought}
use Rattle.pj_meaning.specs.Evaluation.{in_body, enter_at}
use Rattle.pj_session.specs.States.{run}

-- a call of a name that means a function is a call of that function
pub named : (enter : Enter) (world depth : ℕ) (home qualifier name : Text) (vs : List Value) (r : Run) (f : Id) → role_at r.state home qualifier name ≡ Ok (FunctionName f)
    → call_named enter world depth home qualifier name vs r ≡ call_function enter world depth f vs r
unfolding call_named
named enter world depth home qualifier name vs r f e = ap (λ sought. call_sought sought enter world depth vs r) e

-- a call enters the method that is picked
pub called : (enter : Enter) (world depth : ℕ) (f : Id) (vs : List Value) (r : Run) (m : Method) → pick r.state.types r.state.methods world f (types_of r.state.objects vs) ≡ One m
    → call_function enter world depth f vs r ≡ enter world depth m vs r
unfolding call_function
called enter world depth f vs r m e = ap (λ p. enter_picked p enter world depth f vs r) e

-- without budget nothing is entered
pub stopped : (n world depth : ℕ) (m : Method) (vs : List Value) (s : State) → enter_at n world depth m vs (run s 0) ≡ Stops (run s 0)
unfolding enter_at charged
stopped zero world depth m vs s = refl
stopped (suc n) world depth m vs s = refl

-- with budget a charge is taken, and the body is evaluated one entry deeper
pub entered : (n world depth : ℕ) (m : Method) (vs : List Value) (s : State) (left : ℕ) → nat_le 20000 depth ≡ false
    → enter_at (suc n) world depth m vs (run s (suc left))
    ≡ in_body (enter_at n) (record { home = m.home; world = world; depth = suc depth }) m.code vs (run s left)
unfolding enter_at charged choose
entered n world depth m vs s left shallow = rw shallow refl
