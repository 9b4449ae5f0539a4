-- Worked rows: which fault counts in some small texts, with the places of tokens as numbers.
use Rattle.std.specs.Prelude.{ℕ, ◌≡◌, List, [], ◌∷◌, ◌++◌, map, codes, replicate, Option, Some, None}
use Prim.Native.String.{String}
use Rattle.pj_syntax.specs.declared.expression.Spot.{Spot}
use Rattle.pj_syntax.specs.declared.expression.Path.TheVariants.{Bare, Of}
use Rattle.pj_syntax.specs.declared.statement.Param.{Param}
use Rattle.pj_faults.specs.declared.fault.Fault.{Fault}
use Rattle.pj_faults.specs.declared.fault.ScopeKind.{ScopeKind}
use Rattle.pj_faults.specs.declared.fault.ScopeKind.TheVariants.{Many, ModuleName, Twice, LoopName, GlobalLocal, Outside, Reserved}
use Rattle.pj_faults.specs.First.{first}
use Rattle.pj_faults.specs.Located.{Text, Value, Arguments, Statement, Block, True, Name, Call, none, also, Give, Set, Global, Return, Break, Continue, If, While, For, Eval, end, step, method, Define, Bind, Find}
use Rattle.pj_faults.specs.Faults.{run_faults, method_faults, crowded}

-- ---- short forms

abbrev spot : String → ℕ → Spot
spot x at = record { text = codes x; at = at }

abbrev name : String → ℕ → Value
name x at = Name (Bare (spot x at))

abbrev block : List Statement → Block
block [] = end
block (s ∷ ss) = step s (block ss)

abbrev call : String → ℕ → List Value → Value
call f at es = Call (Bare (spot f at)) (given es)
  where
    given : List Value → Arguments
    given [] = none
    given (e ∷ es) = also 99 e (given es)

abbrev param : String → ℕ → Param
param x at = record { at = at; name = Some (spot x at); declared = None }

abbrev unnamed : ℕ → Param
unnamed at = record { at = at; name = None; declared = None }

abbrev modules : List Text
modules = map codes ("Base" ∷ "Main" ∷ "A" ∷ [])

-- a body of a method `f` whose name stands at 0
abbrev body : List Param → List Statement → Option Fault
body params ss = first (method_faults modules (method (Bare (spot "f" 0)) params (block ss)))

abbrev top : Statement → Option Fault
top s = first (run_faults modules s)

abbrev fault : ℕ → ScopeKind → Option Fault
fault place kind = Some (record { place = place; kind = kind })

-- ---- names of loops

abbrev pub a_loops_name_is_not_read_behind_it : Type 0
a_loops_name_is_not_read_behind_it = top (If True (block (For (spot "i" 3) True True end ∷ Give (name "i" 9) ∷ [])) end) ≡ fault 9 LoopName

abbrev pub a_loops_name_is_not_called_before_it : Type 0
a_loops_name_is_not_called_before_it = body [] (Give (call "g" 2 []) ∷ While True (block (Set (spot "g" 5) True ∷ [])) ∷ []) ≡ fault 2 LoopName

abbrev pub a_loops_bound_stands_outside : Type 0
a_loops_bound_stands_outside = top (For (spot "i" 1) (name "i" 4) True end) ≡ fault 4 LoopName

abbrev pub a_loops_condition_stands_outside : Type 0
a_loops_condition_stands_outside = top (While (name "x" 1) (block (Set (spot "x" 3) True ∷ []))) ≡ fault 1 LoopName

abbrev pub a_name_of_the_body_is_read_in_its_loops : Type 0
a_name_of_the_body_is_read_in_its_loops = body [] (While (name "x" 1) (block (Set (spot "x" 3) True ∷ [])) ∷ Set (spot "x" 6) True ∷ []) ≡ None

abbrev pub a_parameter_is_read_in_loops : Type 0
a_parameter_is_read_in_loops = body (param "i" 1 ∷ []) (For (spot "i" 2) (name "i" 3) True end ∷ Give (name "i" 5) ∷ []) ≡ None

abbrev pub a_module_before_a_name_is_no_scope : Type 0
a_module_before_a_name_is_no_scope = top (If True (block (For (spot "i" 1) True True end ∷ Give (Name (Of (spot "A" 3) (spot "i" 4))) ∷ [])) end) ≡ None

abbrev pub what_is_evaluated_sees_no_loop : Type 0
what_is_evaluated_sees_no_loop = top (For (spot "i" 1) True True (block (Eval None (Find (name "i" 4)) ∷ []))) ≡ None

-- ---- globals

abbrev pub a_global_has_no_parameters_name : Type 0
a_global_has_no_parameters_name = body (param "x" 1 ∷ []) (Global 3 (spot "x" 4) True ∷ []) ≡ fault 3 GlobalLocal

abbrev pub a_global_has_no_later_loops_name : Type 0
a_global_has_no_later_loops_name = body [] (Global 3 (spot "i" 4) True ∷ For (spot "i" 6) True True end ∷ []) ≡ fault 3 GlobalLocal

abbrev pub a_global_beside_an_assignment_at_top_level : Type 0
a_global_beside_an_assignment_at_top_level = top (If True (block (Set (spot "x" 1) True ∷ Global 3 (spot "x" 4) True ∷ [])) end) ≡ None

-- ---- names that are bound

abbrev pub no_local_has_a_modules_name : Type 0
no_local_has_a_modules_name = body [] (Set (spot "A" 3) True ∷ []) ≡ fault 3 ModuleName

abbrev pub no_loop_variable_is_reserved : Type 0
no_loop_variable_is_reserved = top (For (spot "eval" 2) True True end) ≡ fault 2 Reserved

abbrev pub no_payload_binds_a_modules_name : Type 0
no_payload_binds_a_modules_name = top (Eval (Some (spot "A" 1)) (Bind (spot "Main" 2) True)) ≡ fault 2 ModuleName

abbrev pub a_method_of_another_module_binds_nothing : Type 0
a_method_of_another_module_binds_nothing = first (method_faults modules (method (Of (spot "A" 0) (spot "eval" 1)) [] end)) ≡ None

abbrev pub no_parameter_stands_twice : Type 0
no_parameter_stands_twice = body (param "x" 1 ∷ unnamed 2 ∷ unnamed 3 ∷ param "x" 4 ∷ []) [] ≡ fault 4 Twice

-- ---- places of words

abbrev pub no_break_outside_a_loop : Type 0
no_break_outside_a_loop = body [] (While True (block (Break 2 ∷ [])) ∷ If True (block (Break 4 ∷ [])) end ∷ []) ≡ fault 4 Outside

abbrev pub no_return_at_top_level : Type 0
no_return_at_top_level = top (While True (block (Return 3 None ∷ []))) ≡ fault 3 Outside

abbrev pub a_payloads_body_may_return : Type 0
a_payloads_body_may_return = top (Eval None (Define (method (Bare (spot "g" 1)) [] (block (Return 3 (Some True) ∷ []))))) ≡ None

abbrev pub a_payloads_body_is_in_no_loop : Type 0
a_payloads_body_is_in_no_loop = top (While True (block (Eval None (Define (method (Bare (spot "g" 1)) [] (block (Continue 3 ∷ [])))) ∷ []))) ≡ fault 3 Outside

-- ---- too many

abbrev pub sixteen_arguments : Type 0
sixteen_arguments = top (Give (call "f" 0 (replicate 16 True))) ≡ None

abbrev pub no_seventeenth_argument : Type 0
no_seventeenth_argument = top (Give (call "f" 0 (replicate 17 True))) ≡ fault 99 Many

abbrev pub no_seventeenth_parameter : Type 0
no_seventeenth_parameter = body (replicate 16 (unnamed 1) ++ unnamed 7 ∷ []) [] ≡ fault 7 Many

abbrev pub so_many_names : Type 0
so_many_names = first (crowded (replicate 1024 (spot "x" 1))) ≡ None

-- the token that introduces the name past the last that is allowed, in the order of the text
abbrev pub one_name_too_many : Type 0
one_name_too_many = first (crowded (spot "y" 9 ∷ spot "z" 7 ∷ replicate 1023 (spot "x" 1))) ≡ fault 9 Many

-- ---- which fault counts

abbrev pub the_lowest_place_counts : Type 0
the_lowest_place_counts = body [] (Break 5 ∷ Set (spot "A" 3) True ∷ []) ≡ fault 3 ModuleName

abbrev pub at_one_place_the_order_of_kinds_counts : Type 0
at_one_place_the_order_of_kinds_counts = first (method_faults (map codes ("eval" ∷ [])) (method (Bare (spot "eval" 2)) [] end)) ≡ fault 2 ModuleName
