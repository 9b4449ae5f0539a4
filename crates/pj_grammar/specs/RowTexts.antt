-- How worked rows write texts: their tokens with a blank between each two.
use Rattle.std.specs.Prelude.{◌≡◌, ℕ, suc, ◌+◌, ◌-◌, ◌==◌, nat_le, pos, Bool, false, ◌&&◌, List, [], ◌∷◌, Option, Some, None, codes, find, map, if◌then◌else◌}
use Prim.Native.String.{String}
use Rattle.std.specs.Str.{bytes_eq}
use Rattle.pj_words.specs.Reserved.{reserved_word}
use Rattle.pj_lex.specs.Signs.{all_signs, sign_text}
use Rattle.pj_lex.specs.declared.sign.Sign.TheVariants as signs
use Rattle.pj_lex.specs.declared.token.TokenKind.{TokenKind}
use Rattle.pj_lex.specs.declared.token.TokenKind.TheVariants as kinds
use Rattle.pj_lex.specs.declared.token.Token.{Token}
use Rattle.pj_syntax.specs.declared.expression.Spot.{Spot}
use Rattle.pj_syntax.specs.declared.expression.Path.{Path}
use Rattle.pj_syntax.specs.declared.expression.Path.TheVariants as paths
use Rattle.pj_syntax.specs.declared.expression.Argument.{Argument}
use Rattle.pj_syntax.specs.declared.expression.Expr.{Expr}
use Rattle.pj_syntax.specs.declared.expression.Expr.TheVariants as trees
use Rattle.pj_syntax.specs.declared.statement.Param.{Param}
use Rattle.pj_syntax.specs.declared.statement.Function.{Function}
use Rattle.pj_syntax.specs.declared.statement.Stmt.{Stmt}
use Rattle.pj_syntax.specs.declared.item.Item.{Item}
use Rattle.pj_grammar.specs.declared.mode.Parsed.{Parsed}
use Rattle.pj_grammar.specs.declared.mode.Parsed.TheVariants as parsed
use Rattle.pj_grammar.specs.Frames.{State}
use Rattle.pj_grammar.specs.Machine.{accepted, run, start, step}
use Rattle.pj_grammar.specs.Modules.{Modules, modules_of}
use Rattle.pj_grammar.specs.Need.{need}
use Rattle.pj_grammar.specs.Texts.{Kind, script, «package»}
use Rattle.pj_grammar.specs.Tokens.{token}

abbrev pub Bytes : Type 0
Bytes = List ℕ

-- what stands between blanks
abbrev pub put_first : ℕ → List Bytes → List Bytes
put_first c [] = (c ∷ []) ∷ []
put_first c (w ∷ ws) = (c ∷ w) ∷ ws

unfoldable pub pieces : Bytes → List Bytes
pieces [] = [] ∷ []
pieces (c ∷ cs) = if c == 32 then [] ∷ pieces cs else put_first c (pieces cs)

abbrev pub is_digit : ℕ → Bool
is_digit c = nat_le 48 c && nat_le c 57

abbrev pub word_kind : Bytes → TokenKind
word_kind w = elim (reserved_word w) [ Some r ↦ kinds.Reserved r | None ↦ kinds.Name w ]

abbrev pub sign_kind : Bytes → TokenKind
sign_kind w = elim (find (λ s. bytes_eq (sign_text s) w) all_signs) [ Some s ↦ kinds.Sign s | None ↦ word_kind w ]

-- A digit is an integer, `'` begins a string, `;` is a separator and `_(` a parenthesis behind a blank.
unfoldable pub kind_of : Bytes → TokenKind
kind_of [] = kinds.Eof
kind_of (c ∷ cs) =
    if is_digit c then kinds.Integer (pos (c - 48))
    else (if c == 39 then kinds.Str cs
    else (if c == 59 then kinds.Separator
    else (if c == 64 then kinds.AtEval
    else (if bytes_eq (c ∷ cs) (codes "_(") then kinds.Sign signs.LeftParen else sign_kind (c ∷ cs)))))

abbrev pub is_apart : Bytes → Bool
is_apart w = bytes_eq w (codes "_(")

-- tokens whose places are all 0, so that trees are short to write, or their numbers
unfoldable pub numbered : ℕ → ℕ → List Bytes → List Token
numbered step n [] = token (record { start = n; end = n; blank = false }) kinds.Eof ∷ []
numbered step n (w ∷ ws) = token (record { start = n; end = n + step; blank = is_apart w }) (kind_of w) ∷ numbered step (n + step) ws

abbrev pub tokens : ℕ → Bytes → List Token
tokens step [] = numbered step 0 []
tokens step (c ∷ cs) = numbered step 0 (pieces (c ∷ cs))

-- the number of the first token at which the machine has no answer
unfoldable pub stop : Modules → List Token → ℕ → Option State → Option ℕ
stop modules [] n s = None
stop modules (t ∷ ts) n None = None
stop modules (t ∷ ts) n (Some s) = elim (step modules s t) [ Some s' ↦ stop modules ts (suc n) (Some s') | None ↦ Some n ]

abbrev pub own_name : Kind → Bytes
own_name script = codes "Main"
own_name «package» = codes "P"

-- how deep a text nests and its tree, or the number of the first token that no text has there
pub data Answer : Type 0 where
  read : ℕ → Parsed → Answer
  refused : ℕ → Answer
  unfinished : Answer

abbrev pub answer_refused : Option ℕ → Answer
answer_refused (Some n) = refused n
answer_refused None = unfinished

abbrev pub answer_of : Modules → List Token → State → Option (Parsed × ℕ) → Answer
answer_of modules ts s (Some r) = read r.1 r.0
answer_of modules ts s None = answer_refused (stop modules ts 0 (Some s))

abbrev pub answer_from : Modules → List Token → State → Answer
answer_from modules ts s = answer_of modules ts s (accepted (run modules ts (Some s)))

-- the machine's answer; a package's own name is P
unfoldable pub answer : Kind → ℕ → Bytes → Answer
answer kind step w = answer_from (modules_of (own_name kind) (tokens step w)) (tokens step w) (start kind)

-- A worked row: a text, and what the machine has to answer.
pub record Claim : Type 0 where
  pub found : Answer
  pub expected : Answer

abbrev pub whole : Kind → Bytes → ℕ → Parsed → Claim
whole kind w nesting tree = record { found = answer kind 0 w; expected = read nesting tree }

-- the same, with the numbers of tokens for places
abbrev pub placed : Kind → Bytes → ℕ → Parsed → Claim
placed kind w nesting tree = record { found = answer kind 1 w; expected = read nesting tree }

abbrev pub stops : Kind → Bytes → ℕ → Claim
stops kind w n = record { found = answer kind 1 w; expected = refused n }

abbrev pub Each : List Claim → Type 0
Each claims = map (λ c. c.found) claims ≡ map (λ c. c.expected) claims

-- Trees, with 0 for all places.

abbrev pub spot : String → Spot
spot x = record { text = codes x; at = 0 }

abbrev pub bare : String → Path
bare x = paths.Bare (spot x)

abbrev pub of : String → String → Path
of m x = paths.Of (spot m) (spot x)

abbrev pub int : ℕ → Expr
int n = trees.Int (pos n)

abbrev pub arguments : List Expr → List Argument
arguments es = map (λ e. record { at = 0; value = e }) es

abbrev pub call : Path → List Expr → Expr
call f es = trees.Call f (arguments es)

abbrev pub latest : List Expr → Expr
latest es = trees.Latest (arguments es)

abbrev pub param : Option Spot → Option Path → Param
param x t = record { at = 0; name = x; declared = t }

abbrev pub method : Path → List Param → List Stmt → Function
method f ps ss = record { path = f; params = ps; block = ss }

abbrev pub script_of : List Item → Parsed
script_of is = parsed.Script (record { items = is })

abbrev pub package_of : String → List Spot → List Item → Parsed
package_of x uses is = parsed.Package (record { name = spot x; uses = uses; items = is })

-- Trees with places.

abbrev pub spot_at : ℕ → String → Spot
spot_at p x = record { text = codes x; at = p }

abbrev pub bare_at : ℕ → String → Path
bare_at p x = paths.Bare (spot_at p x)

abbrev pub of_at : ℕ → String → ℕ → String → Path
of_at p m q x = paths.Of (spot_at p m) (spot_at q x)

abbrev pub argument_at : ℕ → Expr → Argument
argument_at p e = record { at = p; value = e }

-- how deep a text nests at least that begins with these words
abbrev pub need_of : Option State → Option ℕ
need_of None = None
need_of (Some s) = Some (need s)

abbrev pub fresh : List Token → List Token
fresh [] = []
fresh (t ∷ []) = []
fresh (t ∷ ts) = t ∷ fresh ts

unfoldable pub needed : Kind → Bytes → Option ℕ
needed kind w = need_of (run (modules_of (own_name kind) (tokens 1 w)) (fresh (tokens 1 w)) (Some (start kind)))

pub record Needed : Type 0 where
  pub found : Option ℕ
  pub expected : Option ℕ

abbrev pub needs : Kind → Bytes → ℕ → Needed
needs kind w n = record { found = needed kind w; expected = Some n }

abbrev pub EachNeeds : List Needed → Type 0
EachNeeds claims = map (λ c. c.found) claims ≡ map (λ c. c.expected) claims
