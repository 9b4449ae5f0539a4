-- What each form of the grammar makes: a tree, and how deep it nests.
use Rattle.std.specs.Prelude.{ℕ, ◌+◌, max, Bool, false, ◌&&◌, List, [], ◌∷◌, ◌++◌, Option, Some, None, codes, if◌then◌else◌}
use Rattle.std.specs.Str.{bytes_eq}
use Rattle.pj_words.specs.declared.word.Word.TheVariants as words
use Rattle.pj_lex.specs.declared.sign.Sign.{Sign}
use Rattle.pj_lex.specs.declared.sign.Sign.TheVariants as signs
use Rattle.pj_lex.specs.declared.token.TokenKind.{TokenKind}
use Rattle.pj_lex.specs.declared.token.TokenKind.TheVariants as kinds
use Rattle.pj_syntax.specs.declared.expression.Spot.{Spot}
use Rattle.pj_syntax.specs.declared.expression.Path.{Path}
use Rattle.pj_syntax.specs.declared.expression.Path.TheVariants as paths
use Rattle.pj_syntax.specs.declared.expression.Argument.{Argument}
use Rattle.pj_syntax.specs.declared.expression.Expr.{Expr}
use Rattle.pj_syntax.specs.declared.expression.Expr.TheVariants as trees
use Rattle.pj_syntax.specs.declared.statement.Param.{Param}
use Rattle.pj_syntax.specs.declared.statement.Stmt.TheVariants as statements
use Rattle.pj_syntax.specs.declared.statement.Function.{Function}
use Rattle.pj_syntax.specs.declared.statement.Payload.{Payload}
use Rattle.pj_syntax.specs.declared.statement.Payload.TheVariants as payloads
use Rattle.pj_syntax.specs.declared.item.Item.{Item}
use Rattle.pj_syntax.specs.declared.item.Item.TheVariants as items
use Rattle.pj_grammar.specs.declared.level.Operator.{Operator}
use Rattle.pj_grammar.specs.declared.node.Node.{Node}
use Rattle.pj_grammar.specs.declared.node.Arguments.{Arguments}
use Rattle.pj_grammar.specs.declared.node.Line.{Line}
use Rattle.pj_grammar.specs.declared.node.Lines.{Lines}
use Rattle.pj_grammar.specs.declared.node.Entries.{Entries}
use Rattle.pj_grammar.specs.declared.frame.Target.{Target}
use Rattle.pj_grammar.specs.declared.frame.Target.TheVariants as targets
use Rattle.pj_grammar.specs.Levels.{operator_text}

-- the place of a path's first byte
abbrev pub path_at : Path → ℕ
path_at (paths.Bare x) = x.at
path_at (paths.Of m x) = m.at

-- a function of Base that is written as an operator
abbrev pub operator_path : Operator → Path
operator_path o = paths.Of (record { text = codes "Base"; at = o.at }) (record { text = operator_text o.sign; at = o.at })

-- Expressions.

abbrev pub literal_of : TokenKind → Option Expr
literal_of (kinds.Integer n) = Some (trees.Int n)
literal_of (kinds.Str s) = Some (trees.Str s)
literal_of (kinds.Reserved words.True) = Some trees.True
literal_of (kinds.Reserved words.False) = Some trees.False
literal_of (kinds.Reserved words.Nothing) = Some trees.Nothing
literal_of _ = None

unfoldable pub leaf : ℕ → Expr → Node
leaf at tree = record { tree = tree; nesting = 1; at = at }

unfoldable pub name_of : Path → Node
name_of path = record { tree = trees.Name path; nesting = 1; at = path_at path }

unfoldable pub field_of : Node → Spot → Node
field_of e f = record { tree = trees.Field e.tree f; nesting = 1 + e.nesting; at = e.at }

-- parentheses round an expression count, and leave no tree
unfoldable pub group_of : ℕ → Node → Node
group_of at e = record { tree = e.tree; nesting = 1 + e.nesting; at = at }

abbrev argument : Node → Argument
argument e = record { at = e.at; value = e.tree }

unfoldable pub prefix_of : Operator → Node → Node
prefix_of o e = record { tree = trees.Call (operator_path o) (argument e ∷ []); nesting = 1 + e.nesting; at = o.at }

-- `===`, `!==`, `&&` and `||` have trees of their own; `x !== y` is `x === y ? false : true`
abbrev infix_tree : Sign → Operator → Node → Node → Expr
infix_tree signs.Same o a b = trees.Same a.tree b.tree
infix_tree signs.NotSame o a b = trees.Cond (trees.Same a.tree b.tree) trees.False trees.True
infix_tree signs.And o a b = trees.And a.tree b.tree
infix_tree signs.Or o a b = trees.Or a.tree b.tree
infix_tree _ o a b = trees.Call (operator_path o) (argument a ∷ argument b ∷ [])

-- how many nodes an operator's expression has above its operands
abbrev pub infix_height : Sign → ℕ
infix_height signs.NotSame = 2
infix_height _ = 1

unfoldable pub infix_of : Node → Operator → Node → Node
infix_of a o b = record { tree = infix_tree o.sign o a b; nesting = infix_height o.sign + max a.nesting b.nesting; at = a.at }

unfoldable pub conditional_of : Node → Node → Node → Node
conditional_of c a b = record { tree = trees.Cond c.tree a.tree b.tree; nesting = 1 + max c.nesting (max a.nesting b.nesting); at = c.at }

-- Arguments.

unfoldable pub no_arguments : Arguments
no_arguments = record { trees = []; nesting = 0 }

unfoldable pub argument_before : Node → Arguments → Arguments
argument_before e es = record { trees = argument e ∷ es.trees; nesting = max e.nesting es.nesting }

unfoldable pub argument_after : Arguments → Node → Arguments
argument_after es e = record { trees = es.trees ++ argument e ∷ []; nesting = max es.nesting e.nesting }

-- names, with or without modules, as arguments
unfoldable pub paths_given : List Path → Arguments
paths_given [] = no_arguments
paths_given (p ∷ ps) = argument_before (name_of p) (paths_given ps)

abbrev is_latest : Path → Bool
is_latest (paths.Bare x) = bytes_eq x.text (codes "invokelatest")
is_latest (paths.Of m x) = bytes_eq m.text (codes "Base") && bytes_eq x.text (codes "invokelatest")

-- `invokelatest` without arguments isn't called
abbrev lacks_tree : Path → List Argument → Bool
lacks_tree f [] = is_latest f
lacks_tree f (_ ∷ _) = false

unfoldable pub lacks : Path → Arguments → Bool
lacks f es = lacks_tree f es.trees

unfoldable pub call_of : Path → Arguments → Node
call_of f es = record { tree = if is_latest f then trees.Latest es.trees else trees.Call f es.trees; nesting = 1 + es.nesting; at = path_at f }

-- Statements.

unfoldable pub no_lines : Lines
no_lines = record { trees = []; nesting = 0 }

unfoldable pub line_before : Line → Lines → Lines
line_before s ss = record { trees = s.tree ∷ ss.trees; nesting = max s.nesting ss.nesting }

unfoldable pub line_after : Lines → Line → Lines
line_after ss s = record { trees = ss.trees ++ s.tree ∷ []; nesting = max ss.nesting s.nesting }

abbrev pub one_line : Line → Lines
one_line s = line_before s no_lines

unfoldable pub value_of : Node → Line
value_of e = record { tree = statements.Value e.tree; nesting = 1 + e.nesting }

-- what an assignment with an operator computes from what it sets
abbrev pub target_value : Target → Node
target_value (targets.Local x) = name_of (paths.Bare x)
target_value (targets.Field e f) = field_of e f
target_value (targets.Global at x) = name_of (paths.Bare x)

abbrev pub assigned : Target → Option Operator → Node → Node
assigned target None e = e
assigned target (Some o) e = infix_of (target_value target) o e

abbrev set_of : Target → Node → Line
set_of (targets.Local x) e = record { tree = statements.Set x e.tree; nesting = 1 + e.nesting }
set_of (targets.Field a f) e = record { tree = statements.SetField a.tree f e.tree; nesting = 1 + max a.nesting e.nesting }
set_of (targets.Global at x) e = record { tree = statements.Global at x e.tree; nesting = 1 + e.nesting }

unfoldable pub assign_of : Target → Option Operator → Node → Line
assign_of target o e = set_of target (assigned target o e)

unfoldable pub return_of : ℕ → Node → Line
return_of at e = record { tree = statements.Return at (Some e.tree); nesting = 1 + e.nesting }

-- it returns `nothing`
unfoldable pub bare_return : ℕ → Line
bare_return at = record { tree = statements.Return at None; nesting = 2 }

unfoldable pub break_of : ℕ → Line
break_of at = record { tree = statements.Break at; nesting = 1 }

unfoldable pub continue_of : ℕ → Line
continue_of at = record { tree = statements.Continue at; nesting = 1 }

unfoldable pub if_of : Node → Lines → Lines → Line
if_of c a b = record { tree = statements.If c.tree a.trees b.trees; nesting = 1 + max c.nesting (max a.nesting b.nesting) }

unfoldable pub while_of : Node → Lines → Line
while_of c b = record { tree = statements.While c.tree b.trees; nesting = 1 + max c.nesting b.nesting }

unfoldable pub for_of : Spot → Node → Node → Lines → Line
for_of x from to b = record { tree = statements.For x from.tree to.tree b.trees; nesting = 1 + max (max from.nesting to.nesting) b.nesting }

-- Methods and payloads. A method nests as its tree and its body over its statements.

pub record Method : Type 0 where
  pub tree : Function
  pub nesting : ℕ

unfoldable pub method_of : Path → List Param → Lines → Method
method_of f params body = record { tree = record { path = f; params = params; block = body.trees }; nesting = 2 + body.nesting }

abbrev pub short_method : Path → List Param → Node → Method
short_method f params e = method_of f params (one_line (value_of e))

pub record Evaluated : Type 0 where
  pub tree : Payload
  pub nesting : ℕ

unfoldable pub method_evaluated : Method → Evaluated
method_evaluated f = record { tree = payloads.Def f.tree; nesting = f.nesting }

unfoldable pub set_evaluated : Spot → Node → Evaluated
set_evaluated x e = record { tree = payloads.Set x e.tree; nesting = 1 + e.nesting }

unfoldable pub value_evaluated : Node → Evaluated
value_evaluated e = record { tree = payloads.Value e.tree; nesting = 1 + e.nesting }

unfoldable pub eval_of : Option Spot → Evaluated → Line
eval_of «module» y = record { tree = statements.Eval «module» y.tree; nesting = 1 + y.nesting }

-- Items.

pub record Entry : Type 0 where
  pub tree : Item
  pub nesting : ℕ

unfoldable pub no_entries : Entries
no_entries = record { trees = []; nesting = 0 }

unfoldable pub entry_before : Entry → Entries → Entries
entry_before i is = record { trees = i.tree ∷ is.trees; nesting = max i.nesting is.nesting }

unfoldable pub entry_after : Entries → Entry → Entries
entry_after is i = record { trees = is.trees ++ i.tree ∷ []; nesting = max is.nesting i.nesting }

unfoldable pub run_of : Line → Entry
run_of s = record { tree = items.Run s.tree; nesting = s.nesting }

unfoldable pub method_defined : Method → Entry
method_defined f = record { tree = items.Def f.tree; nesting = f.nesting }

unfoldable pub declared : Spot → Entry
declared x = record { tree = items.Declare x; nesting = 0 }

unfoldable pub const_of : Spot → Node → Entry
const_of x e = record { tree = items.Const x e.tree; nesting = e.nesting }

unfoldable pub using_of : List Spot → Entry
using_of names = record { tree = items.Using names; nesting = 0 }

unfoldable pub abstract_of : Spot → Option Path → Entry
abstract_of x parent = record { tree = items.Abstract x parent; nesting = 0 }

unfoldable pub struct_of : Bool → Spot → Option Path → List Param → Entry
struct_of mutable x parent fields = record { tree = items.Struct mutable x parent fields; nesting = 0 }

unfoldable pub directive_of : Path → List Path → Entry
directive_of f types = record { tree = items.Directive f types; nesting = 0 }
