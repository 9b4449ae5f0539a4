-- The fault that counts of names that are bound, and of lists of parameters.
use Rattle.std.proofs.Common.{◌≡◌, true, List, [], ◌∷◌, ◌++◌, map, Option, Some, None, option_map, slice_get, refl, sym, ap, ◌∙◌, append_assoc}
use Rattle.std.proofs.lemmas.List.{append-nil}
use Rattle.std.proofs.lemmas.Option.{slice_get-map}
use Rattle.pj_words.specs.Words.{is_special}
use Rattle.pj_syntax.specs.declared.expression.Spot.{Spot}
use Rattle.pj_syntax.specs.declared.expression.Path.TheVariants as paths
use Rattle.pj_syntax.specs.declared.statement.Param.{Param}
use Rattle.pj_faults.specs.declared.fault.Fault.{Fault}
use Rattle.pj_faults.specs.declared.fault.ScopeKind.TheVariants.{Many, ModuleName, Twice, Reserved}
use Rattle.pj_faults.specs.First.{first, sooner, when}
use Rattle.pj_faults.specs.Located.{Text}
use Rattle.pj_faults.specs.Introduced.{is_among, with_name, with_names, named, own_name}
use Rattle.pj_faults.specs.Faults as f
use Rattle.pj_faults.specs.Faults.{faulty, too_many, beyond, param_at}
use Rattle.pj_faults.specs.Found.{bound_first, bound_path_first, params_bound, seen_after, params_repeated, many_params, list_first}
use Rattle.pj_faults.proofs.FirstLaws.{first-none, first-append, first-one}
use Rattle.pj_faults.proofs.NamesLaws.{with_names-none, with_names-one, with_names-append}
use Rattle.pj_faults.proofs.ValueLaws.{first-faulty}

pub bound-parts : (modules : List Text) (x : Spot) → bound_first modules x ≡ sooner (when (is_among x.text modules) ModuleName x.at) (when (is_special x.text) Reserved x.at)
unfolding bound_first
bound-parts modules x =
    first-append (faulty (is_among x.text modules) ModuleName x.at) (faulty (is_special x.text) Reserved x.at)
    ∙ ap (λ a. sooner a (first (faulty (is_special x.text) Reserved x.at))) (first-faulty (is_among x.text modules) ModuleName x.at)
    ∙ ap (λ a. sooner (when (is_among x.text modules) ModuleName x.at) a) (first-faulty (is_special x.text) Reserved x.at)

pub bound-Bare : (modules : List Text) (x : Spot) → bound_path_first modules (paths.Bare x) ≡ bound_first modules x
unfolding bound_path_first bound_first
bound-Bare modules x = refl

pub bound-Of : (modules : List Text) (m x : Spot) → bound_path_first modules (paths.Of m x) ≡ None
unfolding bound_path_first
bound-Of modules m x = first-none

-- lists of parameters, one more at a time

pub own : (p : Param) (name : Option Spot) → p.name ≡ name → named (p ∷ []) ≡ own_name name
own p name h = append-nil (own_name p.name) ∙ ap own_name h

pub named-append : (ps qs : List Param) → named (ps ++ qs) ≡ named ps ++ named qs
named-append [] qs = refl
named-append (p ∷ ps) qs = ap (λ xs. own_name p.name ++ xs) (named-append ps qs) ∙ sym (append_assoc (own_name p.name) (named ps) (named qs))

all_bound-append : (modules : List Text) (xs ys : List Spot) → f.all_bound modules (xs ++ ys) ≡ f.all_bound modules xs ++ f.all_bound modules ys
all_bound-append modules [] ys = refl
all_bound-append modules (x ∷ xs) ys = ap (λ fs. f.bound modules x ++ fs) (all_bound-append modules xs ys) ∙ sym (append_assoc (f.bound modules x) (f.all_bound modules xs) (f.all_bound modules ys))

pub params_bound-none : (modules : List Text) → params_bound modules [] ≡ None
unfolding params_bound
params_bound-none modules = first-none

pub params_bound-snoc : (modules : List Text) (ps : List Param) (p : Param) → params_bound modules (ps ++ p ∷ []) ≡ sooner (params_bound modules ps) (params_bound modules (p ∷ []))
unfolding params_bound
params_bound-snoc modules ps p =
    ap (λ xs. first (f.all_bound modules xs)) (named-append ps (p ∷ []))
    ∙ ap first (all_bound-append modules (named ps) (named (p ∷ [])))
    ∙ first-append (f.all_bound modules (named ps)) (f.all_bound modules (named (p ∷ [])))

pub params_bound-Some : (modules : List Text) (p : Param) (x : Spot) → p.name ≡ Some x → params_bound modules (p ∷ []) ≡ bound_first modules x
unfolding params_bound bound_first
params_bound-Some modules p x h = ap (λ xs. first (f.all_bound modules xs)) (own p (Some x) h) ∙ ap first (append-nil (f.bound modules x))

pub params_bound-None : (modules : List Text) (p : Param) → p.name ≡ None → params_bound modules (p ∷ []) ≡ None
unfolding params_bound
params_bound-None modules p h = ap (λ xs. first (f.all_bound modules xs)) (own p None h) ∙ first-none

repeated-append : (seen : List Text) (xs ys : List Spot) → f.repeated seen (xs ++ ys) ≡ f.repeated seen xs ++ f.repeated (with_names seen xs) ys
unfolding with_names
repeated-append seen [] ys = refl
repeated-append seen (x ∷ xs) ys =
    ap (λ fs. faulty (is_among x.text seen) Twice x.at ++ fs) (repeated-append (with_name seen x.text) xs ys)
    ∙ sym (append_assoc (faulty (is_among x.text seen) Twice x.at) (f.repeated (with_name seen x.text) xs) (f.repeated (with_names (with_name seen x.text) xs) ys))

pub seen-none : (seen : List Text) → seen_after seen [] ≡ seen
unfolding seen_after
seen-none seen = with_names-none seen

pub seen-snoc : (seen : List Text) (ps : List Param) (p : Param) → seen_after seen (ps ++ p ∷ []) ≡ seen_after (seen_after seen ps) (p ∷ [])
unfolding seen_after
seen-snoc seen ps p = ap (with_names seen) (named-append ps (p ∷ [])) ∙ with_names-append seen (named ps) (named (p ∷ []))

pub seen-Some : (seen : List Text) (p : Param) (x : Spot) → p.name ≡ Some x → seen_after seen (p ∷ []) ≡ with_name seen x.text
unfolding seen_after
seen-Some seen p x h = ap (with_names seen) (own p (Some x) h) ∙ with_names-one seen x

pub seen-None : (seen : List Text) (p : Param) → p.name ≡ None → seen_after seen (p ∷ []) ≡ seen
unfolding seen_after
seen-None seen p h = ap (with_names seen) (own p None h) ∙ with_names-none seen

pub repeated-none : (seen : List Text) → params_repeated seen [] ≡ None
unfolding params_repeated
repeated-none seen = first-none

pub repeated-snoc : (seen : List Text) (ps : List Param) (p : Param) → params_repeated seen (ps ++ p ∷ []) ≡ sooner (params_repeated seen ps) (params_repeated (seen_after seen ps) (p ∷ []))
unfolding params_repeated seen_after
repeated-snoc seen ps p =
    ap (λ xs. first (f.repeated seen xs)) (named-append ps (p ∷ []))
    ∙ ap first (repeated-append seen (named ps) (named (p ∷ [])))
    ∙ first-append (f.repeated seen (named ps)) (f.repeated (with_names seen (named ps)) (named (p ∷ [])))

pub repeated-Some : (seen : List Text) (p : Param) (x : Spot) → p.name ≡ Some x → params_repeated seen (p ∷ []) ≡ when (is_among x.text seen) Twice x.at
unfolding params_repeated
repeated-Some seen p x h =
    ap (λ xs. first (f.repeated seen xs)) (own p (Some x) h)
    ∙ ap first (append-nil (faulty (is_among x.text seen) Twice x.at))
    ∙ first-faulty (is_among x.text seen) Twice x.at

pub repeated-None : (seen : List Text) (p : Param) → p.name ≡ None → params_repeated seen (p ∷ []) ≡ None
unfolding params_repeated
repeated-None seen p h = ap (λ xs. first (f.repeated seen xs)) (own p None h) ∙ first-none

unfoldable pub past : Option Param → Option Fault
past None = None
past (Some p) = when true Many p.at

past-map : (p : Option Param) → first (too_many (option_map param_at p)) ≡ past p
unfolding when past
past-map None = first-none
past-map (Some p) = first-one (record { place = p.at; kind = Many })

many-past : (ps : List Param) → many_params ps ≡ past (slice_get ps 16)
unfolding many_params
many-past ps = ap (λ p. first (too_many p)) (slice_get-map param_at ps 16) ∙ past-map (slice_get ps 16)

pub many_params-None : (ps : List Param) → slice_get ps 16 ≡ None → many_params ps ≡ None
unfolding past
many_params-None ps h = many-past ps ∙ ap past h

pub many_params-Some : (ps : List Param) (p : Param) → slice_get ps 16 ≡ Some p → many_params ps ≡ when true Many p.at
unfolding past
many_params-Some ps p h = many-past ps ∙ ap past h

pub list-parts : (ps : List Param) → list_first ps ≡ sooner (many_params ps) (params_repeated [] ps)
unfolding list_first many_params params_repeated
list-parts ps = first-append (beyond 16 (map param_at ps)) (f.repeated [] (named ps))

pub ruleset bound_rules = (bound-parts, bound-Bare, bound-Of, params_bound-none, params_bound-snoc, params_bound-Some, params_bound-None, seen-none, seen-snoc, seen-Some, seen-None, repeated-none, repeated-snoc, repeated-Some, repeated-None, many_params-None, many_params-Some, list-parts)
