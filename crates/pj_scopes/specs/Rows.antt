-- Worked rows: the trees of some small texts, with the places of tokens as numbers.
use Rattle.std.specs.Prelude.{ℕ, ◌≡◌, Bool, true, false, List, [], ◌∷◌, map, codes, Option, Some, None}
use Prim.Native.String.{String}
use Rattle.pj_syntax.specs.declared.expression.Spot.{Spot}
use Rattle.pj_syntax.specs.declared.expression.Path.TheVariants.{Bare, Of}
use Rattle.pj_syntax.specs.declared.statement.Param.{Param}
use Rattle.pj_tree.specs.declared.tree.Sym.{Sym}
use Rattle.pj_tree.specs.declared.tree.Sym.TheVariants.{Text as Written}
use Rattle.pj_tree.specs.declared.tree.Expr.{Expr}
use Rattle.pj_tree.specs.declared.tree.Expr.TheVariants as e
use Rattle.pj_tree.specs.declared.tree.Stmt.{Stmt}
use Rattle.pj_tree.specs.declared.tree.Stmt.TheVariants as s
use Rattle.pj_tree.specs.declared.tree.Part.TheVariants as part
use Rattle.pj_tree.specs.declared.tree.TreeNode.TheVariants as node
use Rattle.pj_tree.specs.declared.tree.Payload.TheVariants as payload
use Rattle.pj_faults.specs.Located.{Text, Value, Arguments, Statement, Block, Evaluated, True, Name, Call, Latest, Field, none, also, Give, Set, SetField, Global, Return, Break, If, While, For, Eval, end, step, method, Define, Bind, Find}
use Rattle.pj_scopes.specs.Resolved.{value, statement, evaluated, defined, declared_of}

-- ---- short forms

abbrev spot : String → Spot
spot x = record { text = codes x; at = 0 }

abbrev name : String → Value
name x = Name (Bare (spot x))

abbrev within : List String → List Text
within names = map codes names

abbrev lines : List Statement → Block
lines [] = end
lines (t ∷ ts) = step t (lines ts)

abbrev w : String → Sym
w x = Written (codes x)

abbrev unwritten : Sym
unwritten = Written []

abbrev top : Statement → Stmt
top t = statement true [] t

-- ---- reads and calls

abbrev pub a_name_of_a_scope_is_a_local : Type 0
a_name_of_a_scope_is_a_local = value (within ("x" ∷ [])) (name "x") ≡ e.Local (w "x")

abbrev pub another_name_is_of_a_module : Type 0
another_name_is_of_a_module = value (within ("x" ∷ [])) (name "y") ≡ e.Global unwritten (w "y")

abbrev pub a_module_before_a_name_is_kept : Type 0
a_module_before_a_name_is_kept = value (within ("x" ∷ [])) (Name (Of (spot "A") (spot "x"))) ≡ e.Global (w "A") (w "x")

abbrev pub a_local_is_called_as_one : Type 0
a_local_is_called_as_one = value (within ("f" ∷ [])) (Call (Bare (spot "f")) (also 0 True none)) ≡ e.CallLocal (w "f") (e.True ∷ [])

abbrev pub a_function_is_called_by_its_name : Type 0
a_function_is_called_by_its_name = value [] (Call (Bare (spot "f")) none) ≡ e.Call unwritten (w "f") []

abbrev pub a_latest_call_has_its_function_first : Type 0
a_latest_call_has_its_function_first = value [] (Latest (also 0 (name "f") (also 0 True none))) ≡ e.Latest (e.Global unwritten (w "f")) (e.True ∷ [])

-- ---- assignments

abbrev pub an_assignment_at_top_level_sets_a_global : Type 0
an_assignment_at_top_level_sets_a_global = top (If True (lines (Set (spot "x") True ∷ [])) end) ≡ s.If e.True (s.SetGlobal (w "x") e.True ∷ []) []

abbrev pub a_loop_at_top_level_introduces_a_local : Type 0
a_loop_at_top_level_introduces_a_local =
    top (While True (lines (Set (spot "x") (name "x") ∷ []))) ≡ s.While (w "x" ∷ []) e.True (s.SetLocal (w "x") (e.Local (w "x")) ∷ [])

abbrev pub a_global_is_set_from_a_loop : Type 0
a_global_is_set_from_a_loop = top (While True (lines (Global 0 (spot "x") True ∷ []))) ≡ s.While [] e.True (s.SetGlobal (w "x") e.True ∷ [])

abbrev pub a_loops_variable_is_not_in_its_list : Type 0
a_loops_variable_is_not_in_its_list =
    top (For (spot "i") True (name "i") (lines (Set (spot "i") True ∷ Set (spot "x") True ∷ [])))
    ≡ s.For (w "i") e.True (e.Global unwritten (w "i")) (w "x" ∷ []) (s.SetLocal (w "i") e.True ∷ s.SetLocal (w "x") e.True ∷ [])

abbrev pub a_bodys_names_stand_in_order : Type 0
a_bodys_names_stand_in_order =
    evaluated (Define (method (Bare (spot "f")) (record { at = 0; name = Some (spot "p"); declared = None } ∷ record { at = 0; name = None; declared = None } ∷ [])
    (lines (If True (lines (Set (spot "b") True ∷ Set (spot "p") True ∷ [])) end ∷ Set (spot "a") (name "b") ∷ Set (spot "b") True ∷ []))))
    ≡ payload.Def (record {
      «module» = unwritten;
      fun = w "f";
      params = record { name = w "p"; declared = declared_of None } ∷ record { name = unwritten; declared = declared_of None } ∷ [];
      body = part.Held (node.Body (record {
        params = w "p" ∷ unwritten ∷ [];
        introduced = w "b" ∷ w "a" ∷ [];
        block = s.If e.True (s.SetLocal (w "b") e.True ∷ s.SetLocal (w "p") e.True ∷ []) [] ∷ s.SetLocal (w "a") (e.Local (w "b")) ∷ s.SetLocal (w "b") e.True ∷ [];
      }));
    })

-- ---- what is evaluated, and what is returned

abbrev pub what_is_evaluated_sees_no_local : Type 0
what_is_evaluated_sees_no_local =
    statement false (within ("x" ∷ [])) (Eval (Some (spot "A")) (Find (name "x"))) ≡ s.Eval (w "A") (part.Held (node.Payload (payload.Value (e.Global unwritten (w "x")))))

abbrev pub a_payload_may_set_a_global : Type 0
a_payload_may_set_a_global = statement false [] (Eval None (Bind (spot "x") True)) ≡ s.Eval unwritten (part.Held (node.Payload (payload.SetBinding (w "x") e.True)))

abbrev pub a_bare_return_gives_nothing : Type 0
a_bare_return_gives_nothing = statement false [] (Return 0 None) ≡ s.Return e.Nothing
