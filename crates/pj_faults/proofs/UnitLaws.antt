-- What the scopes of a body introduce, from its parts.
use Rattle.std.proofs.Common.{◌≡◌, List, [], ◌∷◌, ◌++◌, map, Some, None, refl, sym, ap, ◌∙◌}
use Rattle.std.proofs.lemmas.List.{map-append}
use Rattle.pj_syntax.specs.declared.expression.Spot.{Spot}
use Rattle.pj_syntax.specs.declared.statement.Param.{Param}
use Rattle.pj_syntax.specs.declared.statement.Stmt.{Stmt}
use Rattle.pj_faults.specs.declared.gather.Gathered.{Gathered}
use Rattle.pj_faults.specs.Located.{Text, block_of}
use Rattle.pj_faults.specs.Introduced.{with_names, new_names, named, assigned, looped}
use Rattle.pj_faults.specs.Faults.{at_of}
use Rattle.pj_faults.specs.Found.{seen_after, new_params, gathered, grown, new_in, looped_in, looped_stmt, body_unit, run_unit}
use Rattle.pj_faults.proofs.NamesLaws.{with_names-none, with_names-one, with_names-append, new_names-none, new_names-append}
use Rattle.pj_faults.proofs.BoundLaws.{own, named-append, seen-none, seen-snoc, seen-Some, seen-None}
use Rattle.pj_faults.proofs.ScopeLaws.{gathered-none, gathered-append, gathered-one}

pub new_params-none : (names : List Text) → new_params names [] ≡ []
unfolding new_params
new_params-none names = new_names-none names

pub new_params-snoc : (names : List Text) (ps : List Param) (p : Param) → new_params names (ps ++ p ∷ []) ≡ new_params names ps ++ new_params (seen_after names ps) (p ∷ [])
unfolding new_params seen_after
new_params-snoc names ps p = ap (new_names names) (named-append ps (p ∷ [])) ∙ new_names-append names (named ps) (named (p ∷ []))

pub new_params-Some : (names : List Text) (p : Param) (x : Spot) → p.name ≡ Some x → new_params names (p ∷ []) ≡ new_names names (x ∷ [])
unfolding new_params
new_params-Some names p x h = ap (new_names names) (own p (Some x) h)

pub new_params-None : (names : List Text) (p : Param) → p.name ≡ None → new_params names (p ∷ []) ≡ []
unfolding new_params
new_params-None names p h = ap (new_names names) (own p None h) ∙ new_names-none names

pub ruleset param_rules = (new_params-none, new_params-snoc, new_params-Some, new_params-None, seen-none, seen-snoc, seen-Some, seen-None, gathered-none, gathered-append)

-- what was put in these steps is the whole
pub body_unit-made : (params : List Param) (b : List Stmt) (names : List Text) (own inner : Gathered) →
    names ≡ grown (seen_after [] params) b → own.places ≡ (gathered (gathered (record { places = []; names = [] }) (new_params [] params)) (new_in (seen_after [] params) b)).places
    → inner ≡ gathered (record { places = own.places; names = [] }) (looped_in names b) → record { names = names; inner = inner } ≡ body_unit params b
unfolding body_unit grown seen_after gathered new_params new_in looped_in
body_unit-made params b names own inner h k m =
    let whole : names ≡ with_names [] (named params ++ assigned (block_of b)) = h ∙ sym (with_names-append [] (named params) (assigned (block_of b))) in
    let news = new_names [] (named params) in
    let more = new_names (with_names [] (named params)) (assigned (block_of b)) in
    let places : own.places ≡ map at_of (new_names [] (named params ++ assigned (block_of b))) =
    k ∙ sym (map-append at_of news more) ∙ ap (map at_of) (sym (new_names-append [] (named params) (assigned (block_of b)))) in
    rw (m, whole, places, ← map-append at_of (new_names [] (named params ++ assigned (block_of b))) (looped (with_names [] (named params ++ assigned (block_of b))) (block_of b))) refl

pub body_unit-steps : (params : List Param) (b : List Stmt) (n0 n1 n2 n3 m : List Text) (o0 o1 o2 i : Gathered) → n0 ≡ [] → o0.places ≡ [] → n1 ≡ seen_after n0 params
    → o1 ≡ gathered o0 (new_params n0 params) → n2 ≡ grown n1 b → o2 ≡ gathered o1 (new_in n1 b) → m ≡ [] → n3 ≡ n2
    → i ≡ gathered (record { places = o2.places; names = m }) (looped_in n2 b) → record { names = n3; inner = i } ≡ body_unit params b
unfolding gathered
body_unit-steps params b n0 n1 n2 n3 m o0 o1 o2 i e0 p0 e1 q1 e2 q2 em e3 ei =
    let first : n1 ≡ seen_after [] params = e1 ∙ ap (λ n. seen_after n params) e0 in
    let whole : n3 ≡ grown (seen_after [] params) b = e3 ∙ e2 ∙ ap (λ n. grown n b) first in
    let some : o1.places ≡ map at_of (new_params [] params) = ap (λ (o : Gathered). o.places) q1 ∙ rw (p0, e0) refl in
    let more : o2.places ≡ map at_of (new_params [] params) ++ map at_of (new_in (seen_after [] params) b) = ap (λ (o : Gathered). o.places) q2 ∙ rw (some, first) refl in
    let last : i ≡ gathered (record { places = o2.places; names = [] }) (looped_in n3 b) = ei ∙ rw (em, e3) refl in
    body_unit-made params b n3 o2 i whole more last

pub run_unit-made : (s : Stmt) (inner : Gathered) → inner ≡ gathered (record { places = []; names = [] }) (looped_stmt [] s) → record { names = []; inner = inner } ≡ run_unit s
unfolding run_unit gathered looped_stmt
run_unit-made s inner h = rw h refl

pub ruleset unit_rules = (run_unit-made, with_names-none)
