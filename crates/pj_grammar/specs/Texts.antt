-- The grammar of items and of whole texts.
use Rattle.std.specs.Prelude.{◌≡◌, ℕ, Bool, true, false, List, [], ◌∷◌, ◌++◌, Option, Some, None, codes}
use Rattle.pj_words.specs.declared.word.Word.TheVariants as words
use Rattle.pj_lex.specs.declared.sign.Sign.TheVariants as signs
use Rattle.pj_lex.specs.declared.token.TokenKind.TheVariants as kinds
use Rattle.pj_lex.specs.declared.token.Token.{Token}
use Rattle.pj_syntax.specs.declared.expression.Spot.{Spot}
use Rattle.pj_syntax.specs.declared.expression.Path.{Path}
use Rattle.pj_syntax.specs.declared.statement.Param.{Param}
use Rattle.pj_grammar.specs.declared.level.Level.TheVariants as levels
use Rattle.pj_grammar.specs.declared.node.Node.{Node}
use Rattle.pj_grammar.specs.declared.node.Line.{Line}
use Rattle.pj_grammar.specs.declared.node.Entries.{Entries}
use Rattle.pj_grammar.specs.declared.mode.Parsed.{Parsed}
use Rattle.pj_grammar.specs.declared.mode.Parsed.TheVariants as parsed
use Rattle.pj_grammar.specs.Expressions.{Callee, Named, Reads}
use Rattle.pj_grammar.specs.Makers.{Entry, Method, abstract_of, const_of, declared, directive_of, entry_before, method_defined, no_entries, run_of, struct_of, using_of}
use Rattle.pj_grammar.specs.Modules.{Modules, is_module}
use Rattle.pj_grammar.specs.Statements.{Defines, Statement, Typed, eval_name}
use Rattle.pj_grammar.specs.Tokens.{Place, name, separator, sign, spot, token, word}

-- which text it is
pub data Kind : Type 0 where
  script : Kind
  «package» : Kind

-- "using" NAME { "," NAME }
pub data Names : List Token → List Spot → Type 0 where
  one_name : (p : Place) (x : List ℕ) → Names (name p x ∷ []) (spot p x ∷ [])
  also_name : {ts : List Token} {xs : List Spot} (p q : Place) (x : List ℕ) → Names ts xs
      → Names (name p x ∷ sign q signs.Comma ∷ ts) (spot p x ∷ xs)

-- [ "<:" tname ]
pub data Above (modules : Modules) : List Token → Option Path → Type 0 where
  nothing_above : Above modules [] None
  below : {ts : List Token} {t : Path} (p : Place) → Named modules ts t → Above modules (sign p signs.Below ∷ ts) (Some t)

-- NAME [ "::" tname ]
pub data Field (modules : Modules) : List Token → Param → Type 0 where
  field : {ts : List Token} {t : Option Path} (p : Place) (x : List ℕ) → Typed modules ts t
      → Field modules (name p x ∷ ts) (record { at = p.start; name = Some (spot p x); declared = t })

-- fields with separators and their end
pub data Fields (modules : Modules) : List Token → List Param → Type 0 where
  no_field : (p : Place) → Fields modules (word p words.End ∷ []) []
  skip_field : {ts : List Token} {xs : List Param} (p : Place) → Fields modules ts xs → Fields modules (separator p ∷ ts) xs
  last_field : {ts : List Token} {x : Param} (p : Place) → Field modules ts x → Fields modules (ts ++ word p words.End ∷ []) (x ∷ [])
  then_fields : {ts us : List Token} {x : Param} {xs : List Param} (p : Place) → Field modules ts x → Fields modules us xs
      → Fields modules (ts ++ separator p ∷ us) (x ∷ xs)

-- what follows "struct"
pub data Structs (modules : Modules) (mutable : Bool) : List Token → Entry → Type 0 where
  struct : {us vs : List Token} {parent : Option Path} {fields : List Param} (p : Place) (x : List ℕ) → Above modules us parent
      → Fields modules vs fields → Structs modules mutable (name p x ∷ (us ++ vs)) (struct_of mutable (spot p x) parent fields)

-- the types of a directive behind the first, with their end: "," [ tname { "," tname } [ "," ] ] ")"
pub data MoreTypes (modules : Modules) : List Token → List Path → Type 0 where
  comma_ends : (p q : Place) → MoreTypes modules (sign p signs.Comma ∷ sign q signs.RightParen ∷ []) []
  last_type : {ts : List Token} {t : Path} (p q : Place) → Named modules ts t
      → MoreTypes modules (sign p signs.Comma ∷ (ts ++ sign q signs.RightParen ∷ [])) (t ∷ [])
  also_type : {ts us : List Token} {t : Path} {more : List Path} (p : Place) → Named modules ts t → MoreTypes modules us more
      → MoreTypes modules (sign p signs.Comma ∷ (ts ++ us)) (t ∷ more)

pub data Types (modules : Modules) : List Token → List Path → Type 0 where
  no_types : (p : Place) → Types modules (sign p signs.RightParen ∷ []) []
  types : {ts us : List Token} {t : Path} {more : List Path} → Named modules ts t → MoreTypes modules us more
      → Types modules (ts ++ us) (t ∷ more)

-- separators, of which there may be none
pub data Separators : List Token → Type 0 where
  no_separator : Separators []
  a_separator : {ts : List Token} (p : Place) → Separators ts → Separators (separator p ∷ ts)

-- An item of a script or a package. A script has `using`, and a package has directives.
pub data Item (modules : Modules) : Kind → List Token → Entry → Type 0 where
  using : {ts : List Token} {names : List Spot} (p : Place) → Names ts names
      → Item modules script (word p words.Using ∷ ts) (using_of names)
  abstract_type : {kind : Kind} {ts : List Token} {parent : Option Path} (p q r e : Place) (x : List ℕ) → Above modules ts parent
      → Item modules kind (name p (codes "abstract") ∷ name q (codes "type") ∷ name r x ∷ (ts ++ word e words.End ∷ [])) (abstract_of (spot r x) parent)
  struct_type : {kind : Kind} {ts : List Token} {i : Entry} (p : Place) → Structs modules false ts i
      → Item modules kind (word p words.Struct ∷ ts) i
  mutable_type : {kind : Kind} {ts : List Token} {i : Entry} (p q : Place) → Structs modules true ts i
      → Item modules kind (name p (codes "mutable") ∷ word q words.Struct ∷ ts) i
  method : {kind : Kind} {ts : List Token} {f : Method} → Defines modules ts f → Item modules kind ts (method_defined f)
  declaration : {kind : Kind} {ts : List Token} (p q r : Place) (x : List ℕ) → Separators ts
      → Item modules kind (word p words.Function ∷ name q x ∷ (ts ++ word r words.End ∷ [])) (declared (spot q x))
  const : {kind : Kind} {ts : List Token} {e : Node} (p q r : Place) (x : List ℕ) → Reads modules levels.Conditional ts e
      → Item modules kind (word p words.Const ∷ name q x ∷ sign r signs.Assign ∷ ts) (const_of (spot q x) e)
  directive : {ts us : List Token} {f : Path} {types : List Path} (p q c o e : Place) → Callee modules ts f → Types modules us types
      → Item modules «package» (name p (codes "precompile") ∷ sign q signs.LeftParen ∷ (ts ++ sign c signs.Comma ∷ sign o signs.LeftParen ∷ (us ++ sign e signs.RightParen ∷ []))) (directive_of f types)
  run : {kind : Kind} {ts : List Token} {s : Line} → Statement modules ts s → Item modules kind ts (run_of s)

-- what ends the items: of a script the text's end, and of a package "end" and then the text's end
pub data Ends : Kind → List Token → Type 0 where
  text_ends : (p : Place) → Ends script (token p kinds.Eof ∷ [])
  package_ends : {ts : List Token} (p e : Place) → Separators ts → Ends «package» (word p words.End ∷ (ts ++ token e kinds.Eof ∷ []))

-- Items with separators between them, and before and behind, and with their end. `@eval` of a module's name alone stands before
-- a separator or the text's end.
pub data Items (modules : Modules) (kind : Kind) : List Token → Entries → Type 0 where
  no_items : {ts : List Token} → Ends kind ts → Items modules kind ts no_entries
  skip_item : {ts : List Token} {is : Entries} (p : Place) → Items modules kind ts is → Items modules kind (separator p ∷ ts) is
  last_item : {ts us : List Token} {i : Entry} → Item modules kind ts i → Ends kind us → Items modules kind (ts ++ us) (entry_before i no_entries)
  then_items : {ts us : List Token} {i : Entry} {is : Entries} (p : Place) → Item modules kind ts i → Items modules kind us is
      → Items modules kind (ts ++ separator p ∷ us) (entry_before i is)
  after_name : {us : List Token} {is : Entries} (p q r : Place) (m : List ℕ) → is_module modules m ≡ true → Items modules kind us is
      → Items modules kind (token p kinds.AtEval ∷ name q m ∷ separator r ∷ us) (entry_before (run_of (eval_name (spot q m))) is)
  name_ends : (p q e : Place) (m : List ℕ) → kind ≡ script → is_module modules m ≡ true
      → Items modules kind (token p kinds.AtEval ∷ name q m ∷ token e kinds.Eof ∷ []) (entry_before (run_of (eval_name (spot q m))) no_entries)

-- a package behind its name: uses, items, and their end
pub data PackageRest (modules : Modules) : List Token → List Spot → Entries → Type 0 where
  has_items : {ts : List Token} {is : Entries} → Items modules «package» ts is → PackageRest modules ts [] is
  skip_before : {ts : List Token} {names : List Spot} {is : Entries} (p : Place) → PackageRest modules ts names is
      → PackageRest modules (separator p ∷ ts) names is
  uses : {ts us : List Token} {some names : List Spot} {is : Entries} (p q : Place) → Names ts some → PackageRest modules us names is
      → PackageRest modules (word p words.Using ∷ (ts ++ separator q ∷ us)) (some ++ names) is

-- A text of the grammar, its tree, and how deep the tree nests.
pub data IsText (modules : Modules) : Kind → List Token → Parsed → ℕ → Type 0 where
  is_script : {ts : List Token} {is : Entries} → Items modules script ts is
      → IsText modules script ts (parsed.Script (record { items = is.trees })) is.nesting
  is_package : {ts us : List Token} {names : List Spot} {is : Entries} (p q r : Place) (x : List ℕ) → Separators ts → PackageRest modules us names is
      → IsText modules «package» (ts ++ word p words.Module ∷ name q x ∷ separator r ∷ us) (parsed.Package (record { name = spot q x; uses = names; items = is.trees })) is.nesting
