-- The machine reads each expression of the grammar.
use Rattle.std.proofs.Common.{◌≡◌, ℕ, Bool, true, false, not, List, ◌∷◌, ◌++◌, Option, Some, codes, refl, ap, ◌∙◌}
use Rattle.pj_lex.specs.declared.sign.Sign.{Sign}
use Rattle.pj_lex.specs.declared.sign.Sign.TheVariants as signs
use Rattle.pj_lex.specs.declared.token.Token.{Token}
use Rattle.pj_lex.specs.Signs.{is_operator}
use Rattle.pj_syntax.specs.declared.expression.Spot.{Spot}
use Rattle.pj_syntax.specs.declared.expression.Path.{Path}
use Rattle.pj_grammar.specs.declared.level.Level.TheVariants as levels
use Rattle.pj_grammar.specs.declared.frame.Frame.{Frame}
use Rattle.pj_grammar.specs.declared.mode.Head.{Head}
use Rattle.pj_grammar.specs.declared.mode.Head.TheVariants as heads
use Rattle.pj_grammar.specs.declared.mode.Mode.{Mode}
use Rattle.pj_grammar.specs.declared.mode.Mode.TheVariants as modes
use Rattle.pj_grammar.specs.Expressions.{Callee, Named, bare, has_fields, named, of_module, operator}
use Rattle.pj_grammar.specs.Frames.{State, admits, at, head_path, is_value, node}
use Rattle.pj_grammar.specs.Levels.{operator_text}
use Rattle.pj_grammar.specs.Machine.{run, step}
use Rattle.pj_grammar.specs.Makers.{name_of}
use Rattle.pj_grammar.specs.Modules.{Modules, is_module}
use Rattle.pj_grammar.specs.Tokens.{Place, name, sign, spot}
use Rattle.pj_grammar.proofs.Levels.{admits-tighter}

-- whether an operand is a module's name, which a dot would make the module
abbrev pub module_name : Modules → Head → Bool
module_name modules (heads.Name x) = is_module modules x.text
module_name modules _ = false

not-not : (b : Bool) → not b ≡ true → b ≡ false
not-not true h = cc
not-not false h = refl

-- the machine reads these tokens as the name of a function, from a state that takes a name
pub record Called (modules : Modules) (s : State) (k : List Frame) (ts : List Token) (f : Path) : Type 0 where
  pub head : Head
  pub path : head_path head ≡ Some f
  pub is : node head ≡ name_of f
  pub value : is_value head ≡ true
  pub dots : has_fields modules ts ≡ true → module_name modules head ≡ false
  pub runs : (r : List Token) → run modules (ts ++ r) (Some s) ≡ run modules r (at (modes.Have head) k)

abbrev pub TakesName : Modules → State → List Frame → Type 0
TakesName modules s k = (p : Place) (x : List ℕ) → step modules s (name p x) ≡ at (modes.Have (heads.Name (spot p x))) k

-- one step of a run
pub runs-step : (modules : Modules) (t : Token) (ts : List Token) (s : State) (next : Option State) → step modules s t ≡ next
    → run modules (t ∷ ts) (Some s) ≡ run modules ts next
unfolding run
runs-step modules t ts s next e = ap (run modules ts) e

abbrev pub state : Mode → List Frame → State
state mode k = record { mode = mode; frames = k }

-- the dot behind a module's name, and what may follow it
pub step-module : (modules : Modules) (m : Spot) (k : List Frame) (q : Place) → is_module modules m.text ≡ true → admits k levels.Named ≡ true
    → step modules (state (modes.Have (heads.Name m)) k) (sign q signs.Dot) ≡ at (modes.Member m) k
unfolding step
step-module modules m k q is adm = rw is (rw adm refl)

step-member : (modules : Modules) (m : Spot) (k : List Frame) (q : Place) (x : List ℕ)
    → step modules (state (modes.Member m) k) (name q x) ≡ at (modes.Have (heads.Member m (spot q x))) k
unfolding step
step-member modules m k q x = refl

step-base : (modules : Modules) (p : Place) (k : List Frame) (q : Place) → admits k levels.Callee ≡ true
    → step modules (state (modes.Member (spot p (codes "Base"))) k) (sign q signs.Colon) ≡ at (modes.BaseOperator (spot p (codes "Base"))) k
unfolding step
step-base modules p k q adm = rw adm refl

step-operator : (modules : Modules) (m : Spot) (k : List Frame) (q : Place) (s : Sign) → is_operator s ≡ true
    → step modules (state (modes.BaseOperator m) k) (sign q s) ≡ at (modes.Have (heads.Operator m (record { text = operator_text s; at = q.start }))) k
unfolding step
step-operator modules m k q s is = rw is refl

pub reads-named : {modules : Modules} {ts : List Token} {f : Path} → Named modules ts f → (s : State) (k : List Frame) → TakesName modules s k
    → admits k levels.Named ≡ true → Called modules s k ts f
reads-named {modules} (bare p x) s k takes adm =
    record {
      head = heads.Name (spot p x);
      path = refl;
      is = refl;
      value = refl;
      dots = not-not (is_module modules x);
      runs = λ r. runs-step modules (name p x) r s _ (takes p x);
    }
reads-named {modules} (of_module p q o m x is) s k takes adm =
    record {
      head = heads.Member (spot p m) (spot o x);
      path = refl;
      is = refl;
      value = refl;
      dots = λ h. refl;
      runs = λ r. runs-step modules (name p m) (sign q signs.Dot ∷ name o x ∷ r) s _ (takes p m)
          ∙ runs-step modules (sign q signs.Dot) (name o x ∷ r) _ _ (step-module modules (spot p m) k q is adm)
          ∙ runs-step modules (name o x) r _ _ (step-member modules (spot p m) k o x);
    }

pub reads-callee : {modules : Modules} {ts : List Token} {f : Path} → is_module modules (codes "Base") ≡ true → Callee modules ts f → (s : State) (k : List Frame)
    → TakesName modules s k → admits k levels.Callee ≡ true → Called modules s k ts f
reads-callee base (named d) s k takes adm = reads-named d s k takes (admits-tighter k levels.Callee levels.Named adm refl)
reads-callee {modules} base (operator p q c o s' is) s k takes adm =
    record {
      head = heads.Operator (spot p (codes "Base")) (record { text = operator_text s'; at = o.start });
      path = refl;
      is = refl;
      value = refl;
      dots = λ h. refl;
      runs = λ r. runs-step modules (name p (codes "Base")) (sign q signs.Dot ∷ sign c signs.Colon ∷ sign o s' ∷ r) s _ (takes p (codes "Base"))
          ∙ runs-step modules (sign q signs.Dot) (sign c signs.Colon ∷ sign o s' ∷ r) _ _ (step-module modules (spot p (codes "Base")) k q base (admits-tighter k levels.Callee levels.Named adm refl))
          ∙ runs-step modules (sign c signs.Colon) (sign o s' ∷ r) _ _ (step-base modules p k c adm)
          ∙ runs-step modules (sign o s') r _ _ (step-operator modules (spot p (codes "Base")) k o s' is);
    }
