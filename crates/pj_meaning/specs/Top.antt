-- Items at the top level of a script or a package.
use Rattle.std.specs.Prelude.{Bool, true, false, List, [], ◌∷◌, ◌++◌, Result, Ok, Err, if◌then◌else◌}
use Rattle.pj_meaning.specs.Tree.{Text, TypeRef, TopItem, Using, AbstractDef, StructDef, Def, Declare, Const, Directive}
use Rattle.pj_meaning.specs.Tree as tree
use Rattle.pj_meaning.specs.Names.{Id, id}
use Rattle.pj_meaning.specs.Types.{Form, Abstract, Immutable, Mutable, is_abstract}
use Rattle.pj_meaning.specs.Values.{Value, Nil, Function}
use Rattle.pj_meaning.specs.State.{State, Role, FunctionName, Constant}
use Rattle.pj_meaning.specs.Outcome.{Error, Undefined, NeedsConcrete, Run, Outcome, Gives, after}
use Rattle.pj_meaning.specs.Lookup.{then_check, role_at, named_home, type_at, bind_new, declare, declare_type}
use Rattle.pj_meaning.specs.Calls.{changed}
use Rattle.pj_meaning.specs.Evaluation.{Frame, expr, stmt, define, flow_value, enter_at}

-- a statement at the top level runs at the newest world of its start
abbrev pub top_frame : Run → Frame
top_frame r = record { home = r.state.here; world = r.state.newest; depth = 0 }

abbrev pub struct_form : Bool → Form
struct_form true = Mutable
struct_form false = Immutable

-- directives

abbrev pub function_of_role : Role → Error → Result Id Error
function_of_role (FunctionName f) e = Ok f
function_of_role role e = Err e

abbrev pub concrete_types : State → Text → List TypeRef → Result (List Id) Error
concrete_types s home [] = Ok []
concrete_types s home (t ∷ ts) =
    then_check (type_at s home t) (λ found.
    then_check (if is_abstract s.types found then Err (NeedsConcrete found) else Ok found) (λ concrete.
    then_check (concrete_types s home ts) (λ others. Ok (concrete ∷ others))))

abbrev pub directive : State → Text → Text → Text → List TypeRef → Result State Error
directive s home qualifier name types =
    then_check (role_at s home qualifier name) (λ role.
    then_check (function_of_role role (Undefined (named_home home qualifier) name)) (λ f.
    then_check (concrete_types s home types) (λ concrete.
    Ok (record s { wanted = s.wanted ++ record { fun = f; types = concrete } ∷ [] }))))

-- One item, but for `using`, which the run itself does.
abbrev pub top : TopItem → Run → Outcome Value
top (Using names) r = Gives Nil r
top (AbstractDef name parent) r = changed (declare_type r.state r.state.here name Abstract parent []) Nil r
top (StructDef mutable name parent fields) r =
    changed (declare_type r.state r.state.here name (struct_form mutable) parent fields) Nil r
top (Def qualifier name params code) r = define r.state.here qualifier name params code r
top (Declare name) r = changed (declare r.state r.state.here name) (Function (id r.state.here name)) r
top (Const name e) r =
    after (expr (enter_at r.left) (top_frame r) [] e r) (λ v q. changed (bind_new q.state q.state.here name (Constant v)) v q)
top (Directive qualifier name types) r = changed (directive r.state r.state.here qualifier name types) Nil r
top (tree.Run s) r =
    after (stmt (enter_at r.left) (top_frame r) [] s r) (λ w q. Gives (flow_value w.flow) q)
