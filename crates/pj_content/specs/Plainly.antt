-- Contents of which a file can tell today: functions of whole numbers with one method each, and names of whole numbers.
use Rattle.std.specs.Prelude.{◌≡◌, ℕ, ◌≤◌, Bool, true, false, List, [], ◌++◌, map, length, replicate}
use Rattle.std.specs.List.{list_all, AllByRecursion}
use Rattle.pj_meaning.specs.Tree.{Text, Body, body, step, end, Value, Expr}
use Rattle.pj_meaning.specs.Names.{int_type}
use Rattle.pj_meaning.specs.Values.{Whole}
use Rattle.pj_meaning.specs.State.{Binding, Role, Constant, Variable}
use Rattle.pj_meaning.specs.Content.{Content, Made}
use Rattle.pj_words.specs.Words.{is_package_name}
use Rattle.pj_plain.specs.Names.{all_different, is_among}
use Rattle.pj_plain.specs.Plain.{plain_expr}
use Rattle.pj_image.specs.Names.{bindable}

-- one plain expression under so many different parameters
pub record PlainCode (count : ℕ) (code : Body) : Type 0 where
  pub params : List Text
  pub value : Expr
  pub is : code ≡ body params [] (step (Value value) end)
  pub many : length params ≡ count
  pub different : all_different params ≡ true
  pub plain : plain_expr params value ≡ true

-- a method of one of the package's functions, for at most 16 whole numbers
pub record PlainMethod (name : Text) (functions : List Text) (m : Made) : Type 0 where
  pub home : m.fun.home ≡ name
  pub among : is_among m.fun.name functions ≡ true
  pub few : length m.signature ≤ 16
  pub ints : m.signature ≡ replicate (length m.signature) int_type
  pub code : PlainCode (length m.signature) m.code

-- a const or a global that is a whole number
abbrev pub holds_whole : Role → Bool
holds_whole (Constant (Whole z)) = true
holds_whole (Variable (Whole z)) = true
holds_whole role = false

pub record PlainBinding (name : Text) (b : Binding) : Type 0 where
  pub home : b.home ≡ name
  pub whole : holds_whole b.role ≡ true

-- the names of functions, and behind them those of consts and globals
abbrev pub names_in : Content → List Text
names_in c = c.functions ++ map (λ b. b.name) c.bindings

pub record Plainly (c : Content) : Type 0 where
  pub named : is_package_name c.name ≡ true
  pub types : c.types ≡ []
  pub objects : c.objects ≡ []
  pub wanted : c.wanted ≡ []
  pub methods : AllByRecursion (PlainMethod c.name c.functions) c.methods
  -- each function has at most one method
  pub single : all_different (map (λ m. m.fun.name) c.methods) ≡ true
  pub bindings : AllByRecursion (PlainBinding c.name) c.bindings
  -- no name stands twice
  pub different : all_different (names_in c) ≡ true
  -- each is an identifier that Base doesn't bind
  pub free : list_all bindable (names_in c) ≡ true
