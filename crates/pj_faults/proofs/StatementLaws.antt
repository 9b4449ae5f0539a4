-- The fault that counts in statements, one equation for each variant.
use Rattle.std.proofs.Common.{◌≡◌, ℕ, Bool, true, false, not, ◌||◌, List, [], ◌∷◌, ◌++◌, map, Option, Some, None, option_map, refl, sym, ap, ◌∙◌, append_assoc}
use Rattle.std.proofs.lemmas.List.{append-nil}
use Rattle.pj_syntax.specs.declared.expression.Spot.{Spot}
use Rattle.pj_syntax.specs.declared.expression.Expr.{Expr}
use Rattle.pj_syntax.specs.declared.statement.Stmt.{Stmt}
use Rattle.pj_syntax.specs.declared.statement.Stmt.TheVariants as s
use Rattle.pj_syntax.specs.declared.statement.Function.{Function}
use Rattle.pj_syntax.specs.declared.statement.Payload.{Payload}
use Rattle.pj_syntax.specs.declared.statement.Payload.TheVariants as p
use Rattle.pj_faults.specs.declared.fault.Fault.{Fault}
use Rattle.pj_faults.specs.declared.fault.ScopeKind.TheVariants.{GlobalLocal, Outside}
use Rattle.pj_faults.specs.declared.statement.Within.{Within}
use Rattle.pj_faults.specs.First.{first, sooner, when}
use Rattle.pj_faults.specs.Located.{Text, Statement, block, value_of, statement_of, block_of}
use Rattle.pj_faults.specs.Introduced.{is_among, with_name, with_names, new_names, assigned, named, body_names, looped, looped_by}
use Rattle.pj_faults.specs.Faults as f
use Rattle.pj_faults.specs.Faults.{faulty, names_of}
use Rattle.pj_faults.specs.Found.{bound_first, bound_path_first, list_first, params_bound, value_first, returned_first, shadowed_first, statement_first, block_first, evaluated_first, method_first, head_first, run_first, grown, crowded_first, body_unit, run_unit}
use Rattle.pj_faults.proofs.LocatedLaws as l
use Rattle.pj_faults.proofs.FirstLaws.{first-none, first-append, sooner-assoc}
use Rattle.pj_faults.proofs.ValueLaws.{first-faulty}
use Rattle.pj_faults.proofs.ScopeLaws.{cut_while, cut_for, statements-snoc}

pub shadowed-is : (names loops : List Text) (at : ℕ) (x : Spot) → shadowed_first names loops at x ≡ when (is_among x.text names || is_among x.text loops) GlobalLocal at
unfolding shadowed_first
shadowed-is names loops at x = first-faulty (is_among x.text names || is_among x.text loops) GlobalLocal at

pub returned-None : (names loops : List Text) → returned_first names loops None ≡ None
unfolding returned_first
returned-None names loops = first-none

pub returned-Some : (names loops : List Text) (e : Expr) → returned_first names loops (Some e) ≡ value_first names loops e
unfolding returned_first value_first
returned-Some names loops e = refl

pub head-parts : (modules : List Text) (m : Function) → head_first modules m ≡ sooner (bound_path_first modules m.path) (sooner (list_first m.params) (params_bound modules m.params))
unfolding head_first bound_path_first list_first params_bound
head-parts modules m =
    first-append (f.bound_path modules m.path) (f.list_faults m.params ++ f.all_bound modules (named m.params))
    ∙ ap (λ t. sooner (first (f.bound_path modules m.path)) t) (first-append (f.list_faults m.params) (f.all_bound modules (named m.params)))

pub ruleset small_rules = (shadowed-is, returned-None, returned-Some, head-parts)

blocks-snoc : (modules loops : List Text) (in_body in_loop : Bool) (names : List Text) (ss : List Statement) (t : Statement)
    → f.block_faults modules loops in_body in_loop names (block (ss ++ t ∷ [])) ≡ f.block_faults modules loops in_body in_loop names (block ss) ++ f.statement_faults modules loops in_body in_loop names t
blocks-snoc modules loops i j names [] t = append-nil (f.statement_faults modules loops i j names t)
blocks-snoc modules loops i j names (u ∷ ss) t =
    ap (λ fs. f.statement_faults modules loops i j names u ++ fs) (blocks-snoc modules loops i j names ss t)
    ∙ sym (append_assoc (f.statement_faults modules loops i j names u) (f.block_faults modules loops i j names (block ss)) (f.statement_faults modules loops i j names t))

pub block-none : (modules loops : List Text) (w : Within) (names : List Text) → block_first modules loops w names [] ≡ None
unfolding block_first
block-none modules loops w names = first-none

pub block-snoc : (modules loops : List Text) (w : Within) (names : List Text) (b : List Stmt) (x : Stmt)
    → block_first modules loops w names (b ++ x ∷ []) ≡ sooner (block_first modules loops w names b) (statement_first modules loops w names x)
unfolding block_first statement_first
block-snoc modules loops w names b x =
    ap (λ ss. first (f.block_faults modules loops w.in_body w.in_loop names (block ss))) (statements-snoc b x)
    ∙ ap first (blocks-snoc modules loops w.in_body w.in_loop names (map statement_of b) (statement_of x))
    ∙ first-append (f.block_faults modules loops w.in_body w.in_loop names (block_of b)) (f.statement_faults modules loops w.in_body w.in_loop names (statement_of x))

three : (a b c d : Option Fault) → sooner a (sooner b (sooner c d)) ≡ sooner (sooner a (sooner b c)) d
three a b c d = ap (sooner a) (sym (sooner-assoc b c d)) ∙ sym (sooner-assoc a (sooner b c) d)

pub statement-Value : (modules loops : List Text) (w : Within) (names : List Text) (v : Expr) → statement_first modules loops w names (s.Value v) ≡
    value_first names loops v
unfolding statement_first block_first bound_first value_first returned_first shadowed_first evaluated_first grown
statement-Value modules loops w names v =
    ap (λ t. first (f.statement_faults modules loops w.in_body w.in_loop names t)) (l.statement_of-Value v)

pub statement-Set : (modules loops : List Text) (w : Within) (names : List Text) (x : Spot) (v : Expr) → statement_first modules loops w names (s.Set x v) ≡
    sooner (bound_first modules x) (value_first names loops v)
unfolding statement_first block_first bound_first value_first returned_first shadowed_first evaluated_first grown
statement-Set modules loops w names x v =
    ap (λ t. first (f.statement_faults modules loops w.in_body w.in_loop names t)) (l.statement_of-Set x v)
    ∙ first-append (f.bound modules x) (f.value_faults names loops (value_of v))

pub statement-SetField : (modules loops : List Text) (w : Within) (names : List Text) (a : Expr) (x : Spot) (v : Expr) → statement_first modules loops w names (s.SetField a x v) ≡
    sooner (value_first names loops a) (value_first names loops v)
unfolding statement_first block_first bound_first value_first returned_first shadowed_first evaluated_first grown
statement-SetField modules loops w names a x v =
    ap (λ t. first (f.statement_faults modules loops w.in_body w.in_loop names t)) (l.statement_of-SetField a x v)
    ∙ first-append (f.value_faults names loops (value_of a)) (f.value_faults names loops (value_of v))

pub statement-Global : (modules loops : List Text) (w : Within) (names : List Text) (at : ℕ) (x : Spot) (v : Expr) → statement_first modules loops w names (s.Global at x v) ≡
    sooner (bound_first modules x) (sooner (shadowed_first names loops at x) (value_first names loops v))
unfolding statement_first block_first bound_first value_first returned_first shadowed_first evaluated_first grown
statement-Global modules loops w names at x v =
    ap (λ t. first (f.statement_faults modules loops w.in_body w.in_loop names t)) (l.statement_of-Global at x v)
    ∙ first-append (f.bound modules x) ((f.shadowed names loops at x) ++ (f.value_faults names loops (value_of v)))
    ∙ ap (λ t. sooner (first (f.bound modules x)) t) (first-append (f.shadowed names loops at x) (f.value_faults names loops (value_of v)))

pub statement-Return : (modules loops : List Text) (w : Within) (names : List Text) (at : ℕ) (v : Option Expr) → statement_first modules loops w names (s.Return at v) ≡
    sooner (when (not w.in_body) Outside at) (returned_first names loops v)
unfolding statement_first block_first bound_first value_first returned_first shadowed_first evaluated_first grown
statement-Return modules loops w names at v =
    ap (λ t. first (f.statement_faults modules loops w.in_body w.in_loop names t)) (l.statement_of-Return at v)
    ∙ first-append (faulty (not w.in_body) Outside at) (f.returned (option_map value_of v) (f.value_faults names loops))
    ∙ ap (λ t. sooner t (first (f.returned (option_map value_of v) (f.value_faults names loops)))) (first-faulty (not w.in_body) Outside at)

pub statement-Break : (modules loops : List Text) (w : Within) (names : List Text) (at : ℕ) → statement_first modules loops w names (s.Break at) ≡
    when (not w.in_loop) Outside at
unfolding statement_first block_first bound_first value_first returned_first shadowed_first evaluated_first grown
statement-Break modules loops w names at =
    ap (λ t. first (f.statement_faults modules loops w.in_body w.in_loop names t)) (l.statement_of-Break at)
    ∙ first-faulty (not w.in_loop) Outside at

pub statement-Continue : (modules loops : List Text) (w : Within) (names : List Text) (at : ℕ) → statement_first modules loops w names (s.Continue at) ≡
    when (not w.in_loop) Outside at
unfolding statement_first block_first bound_first value_first returned_first shadowed_first evaluated_first grown
statement-Continue modules loops w names at =
    ap (λ t. first (f.statement_faults modules loops w.in_body w.in_loop names t)) (l.statement_of-Continue at)
    ∙ first-faulty (not w.in_loop) Outside at

pub statement-If : (modules loops : List Text) (w : Within) (names : List Text) (c : Expr) (a : List Stmt) (b : List Stmt) → statement_first modules loops w names (s.If c a b) ≡
    sooner (value_first names loops c) (sooner (block_first modules loops w names a) (block_first modules loops w names b))
unfolding statement_first block_first bound_first value_first returned_first shadowed_first evaluated_first grown
statement-If modules loops w names c a b =
    ap (λ t. first (f.statement_faults modules loops w.in_body w.in_loop names t)) (l.statement_of-If c a b)
    ∙ first-append (f.value_faults names loops (value_of c)) ((f.block_faults modules loops w.in_body w.in_loop names (block_of a)) ++ (f.block_faults modules loops w.in_body w.in_loop names (block_of b)))
    ∙ ap (λ t. sooner (first (f.value_faults names loops (value_of c))) t) (first-append (f.block_faults modules loops w.in_body w.in_loop names (block_of a)) (f.block_faults modules loops w.in_body w.in_loop names (block_of b)))

pub statement-While : (modules loops : List Text) (w : Within) (names : List Text) (c : Expr) (b : List Stmt) → statement_first modules loops w names (s.While c b) ≡
    sooner (value_first names loops c) (block_first modules loops (record { in_body = w.in_body; in_loop = true }) (grown names b) b)
unfolding statement_first block_first bound_first value_first returned_first shadowed_first evaluated_first grown
statement-While modules loops w names c b =
    ap (λ t. first (f.statement_faults modules loops w.in_body w.in_loop names t)) (l.statement_of-While c b)
    ∙ first-append (f.value_faults names loops (value_of c)) (f.block_faults modules loops w.in_body true (with_names names (assigned (block_of b))) (block_of b))

pub statement-For : (modules loops : List Text) (k : Within) (names : List Text) (x : Spot) (v : Expr) (w : Expr) (b : List Stmt) → statement_first modules loops k names (s.For x v w b) ≡
    sooner (sooner (bound_first modules x) (sooner (value_first names loops v) (value_first names loops w))) (block_first modules loops (record { in_body = k.in_body; in_loop = true }) (grown (with_name names x.text) b) b)
unfolding statement_first block_first bound_first value_first returned_first shadowed_first evaluated_first grown
statement-For modules loops k names x v w b =
    ap (λ t. first (f.statement_faults modules loops k.in_body k.in_loop names t)) (l.statement_of-For x v w b)
    ∙ first-append (f.bound modules x) ((f.value_faults names loops (value_of v)) ++ ((f.value_faults names loops (value_of w)) ++ (f.block_faults modules loops k.in_body true (with_names (with_name names x.text) (assigned (block_of b))) (block_of b))))
    ∙ ap (λ t. sooner (first (f.bound modules x)) t) (first-append (f.value_faults names loops (value_of v)) ((f.value_faults names loops (value_of w)) ++ (f.block_faults modules loops k.in_body true (with_names (with_name names x.text) (assigned (block_of b))) (block_of b))) ∙ ap (λ t. sooner (first (f.value_faults names loops (value_of v))) t) (first-append (f.value_faults names loops (value_of w)) (f.block_faults modules loops k.in_body true (with_names (with_name names x.text) (assigned (block_of b))) (block_of b))))
    ∙ three (first (f.bound modules x)) (first (f.value_faults names loops (value_of v))) (first (f.value_faults names loops (value_of w))) (first (f.block_faults modules loops k.in_body true (with_names (with_name names x.text) (assigned (block_of b))) (block_of b)))

pub statement-Eval : (modules loops : List Text) (w : Within) (names : List Text) (m : Option Spot) (q : Payload) → statement_first modules loops w names (s.Eval m q) ≡
    evaluated_first modules q
unfolding statement_first block_first bound_first value_first returned_first shadowed_first evaluated_first grown
statement-Eval modules loops w names m q =
    ap (λ t. first (f.statement_faults modules loops w.in_body w.in_loop names t)) (l.statement_of-Eval m q)

pub evaluated-Def : (modules : List Text) (m : Function) → evaluated_first modules (p.Def m) ≡ method_first modules m
unfolding evaluated_first method_first
evaluated-Def modules m = ap (λ t. first (f.evaluated_faults modules t)) (l.evaluated_of-Def m)

pub evaluated-Set : (modules : List Text) (x : Spot) (e : Expr) → evaluated_first modules (p.Set x e) ≡ sooner (bound_first modules x) (value_first [] [] e)
unfolding evaluated_first bound_first value_first
evaluated-Set modules x e =
    ap (λ t. first (f.evaluated_faults modules t)) (l.evaluated_of-Set x e) ∙ first-append (f.bound modules x) (f.value_faults [] [] (value_of e))

pub evaluated-Value : (modules : List Text) (e : Expr) → evaluated_first modules (p.Value e) ≡ value_first [] [] e
unfolding evaluated_first value_first
evaluated-Value modules e = ap (λ t. first (f.evaluated_faults modules t)) (l.evaluated_of-Value e)

pub method-parts : (modules : List Text) (m : Function) → method_first modules m ≡
    sooner (head_first modules m) (sooner (crowded_first (body_unit m.params m.block).inner.places)
    (block_first modules (body_unit m.params m.block).inner.names (record { in_body = true; in_loop = false }) (body_unit m.params m.block).names m.block))
unfolding method_first head_first crowded_first block_first body_unit
method-parts modules m =
    let path = f.bound_path modules m.path in
    let list = f.list_faults m.params in
    let bound = f.all_bound modules (named m.params) in
    let names = names_of (body_names m.params (block_of m.block)) in
    let crowded = f.crowded (new_names [] (body_names m.params (block_of m.block)) ++ looped names (block_of m.block)) in
    let inner = f.block_faults modules (names_of (looped names (block_of m.block))) true false names (block_of m.block) in
    ap (λ t. first (f.method_faults modules t)) (l.method_of-parts m)
    ∙ ap first (sym (ap (λ t. t ++ (crowded ++ inner)) refl ∙ append_assoc path (list ++ bound) (crowded ++ inner) ∙ ap (λ t. path ++ t) (append_assoc list bound (crowded ++ inner))))
    ∙ first-append (path ++ (list ++ bound)) (crowded ++ inner)
    ∙ ap (λ t. sooner (first (path ++ (list ++ bound))) t) (first-append crowded inner)

pub run-parts : (modules : List Text) (x : Stmt) → run_first modules x ≡
    sooner (crowded_first (run_unit x).inner.places) (statement_first modules (run_unit x).inner.names (record { in_body = false; in_loop = false }) (run_unit x).names x)
unfolding run_first crowded_first statement_first run_unit
run-parts modules x =
    first-append (f.crowded (looped_by [] (statement_of x))) (f.statement_faults modules (names_of (looped_by [] (statement_of x))) false false [] (statement_of x))

pub ruleset statement_rules = (small_rules, block-none, block-snoc, evaluated-Def, evaluated-Set, evaluated-Value, method-parts, run-parts, cut_while, cut_for, statement-Value, statement-Set, statement-SetField, statement-Global, statement-Return, statement-Break, statement-Continue, statement-If, statement-While, statement-For, statement-Eval)

pub run-Value : (modules : List Text) (v : Expr) → run_first modules (s.Value v) ≡ value_first [] [] v
unfolding run_first value_first first Rattle.pj_faults.specs.Sorted.sorted with_names
run-Value modules v = ap (λ t. first (f.run_faults modules t)) (l.statement_of-Value v)

pub run-Set : (modules : List Text) (x : Spot) (v : Expr) → run_first modules (s.Set x v) ≡ sooner (bound_first modules x) (value_first [] [] v)
unfolding run_first bound_first value_first first sooner Rattle.pj_faults.specs.Sorted.sorted is_among with_names
run-Set modules x v =
    ap (λ t. first (f.run_faults modules t)) (l.statement_of-Set x v)
    ∙ first-append (f.bound modules x) (f.value_faults [] [] (value_of v))

pub ruleset plain_runs = (run-Value, run-Set)
