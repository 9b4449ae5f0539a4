-- The fault that counts in an expression, one equation for each variant.
use Rattle.std.proofs.Common.{◌≡◌, ℕ, ℤ, Bool, true, false, not, ◌&&◌, List, [], ◌∷◌, ◌++◌, map, Option, Some, None, option_map, slice_get, refl, sym, ap, ◌∙◌, append_assoc}
use Rattle.std.proofs.lemmas.List.{append-nil}
use Rattle.std.proofs.lemmas.Option.{slice_get-map}
use Rattle.pj_syntax.specs.declared.expression.Spot.{Spot}
use Rattle.pj_syntax.specs.declared.expression.Path.{Path}
use Rattle.pj_syntax.specs.declared.expression.Path.TheVariants as paths
use Rattle.pj_syntax.specs.declared.expression.Argument.{Argument}
use Rattle.pj_syntax.specs.declared.expression.Expr.{Expr}
use Rattle.pj_syntax.specs.declared.expression.Expr.TheVariants as e
use Rattle.pj_faults.specs.declared.fault.Fault.{Fault}
use Rattle.pj_faults.specs.declared.fault.ScopeKind.{ScopeKind}
use Rattle.pj_faults.specs.declared.fault.ScopeKind.TheVariants.{Many, LoopName}
use Rattle.pj_faults.specs.First.{first, sooner, when}
use Rattle.pj_faults.specs.Introduced.{is_among}
use Rattle.pj_faults.specs.Located.{Text, Given, arguments, value_of, given_of, arguments_of}
use Rattle.pj_faults.specs.Faults as f
use Rattle.pj_faults.specs.Faults.{faulty, too_many, beyond, places_of}
use Rattle.pj_faults.specs.Found.{read_first, many_arguments, value_first, arguments_first}
use Rattle.pj_faults.proofs.LocatedLaws as l
use Rattle.pj_faults.proofs.FirstLaws.{first-none, first-append, first-one}

pub first-faulty : (is_fault : Bool) (kind : ScopeKind) (place : ℕ) → first (faulty is_fault kind place) ≡ when is_fault kind place
unfolding when
first-faulty true kind place = first-one (record { place = place; kind = kind })
first-faulty false kind place = first-none

pub read-Bare : (names loops : List Text) (x : Spot) → read_first names loops (paths.Bare x) ≡ when (not (is_among x.text names) && is_among x.text loops) LoopName x.at
unfolding read_first
read-Bare names loops x = first-faulty (not (is_among x.text names) && is_among x.text loops) LoopName x.at

pub read-Of : (names loops : List Text) (m x : Spot) → read_first names loops (paths.Of m x) ≡ None
unfolding read_first
read-Of names loops m x = first-none

pub places : (es : List Argument) → places_of (arguments_of es) ≡ map (λ (g : Argument). g.at) es
places [] = refl
places (g ∷ es) = rw (l.given_of-parts g) (ap (λ t. g.at ∷ t) (places es))

-- the place of a member past so many
unfoldable pub past : Option Argument → Option Fault
past None = None
past (Some g) = when true Many g.at

past-map : (g : Option Argument) → first (too_many (option_map (λ (g : Argument). g.at) g)) ≡ past g
unfolding when past
past-map None = first-none
past-map (Some g) = first-one (record { place = g.at; kind = Many })

pub many-past : (es : List Argument) → many_arguments es ≡ past (slice_get es 16)
unfolding many_arguments
many-past es =
    ap (λ ps. first (too_many (slice_get ps 16))) (places es)
    ∙ ap (λ p. first (too_many p)) (slice_get-map (λ (g : Argument). g.at) es 16)
    ∙ past-map (slice_get es 16)

pub many-None : (es : List Argument) → slice_get es 16 ≡ None → many_arguments es ≡ None
unfolding past
many-None es h = many-past es ∙ ap past h

pub many-Some : (es : List Argument) (g : Argument) → slice_get es 16 ≡ Some g → many_arguments es ≡ when true Many g.at
unfolding past
many-Some es g h = many-past es ∙ ap past h

pub ruleset read_rules = (read-Bare, read-Of, many-None, many-Some)

snoc_faults : (names loops : List Text) (gs : List Given) (g : Given)
    → f.argument_faults names loops (arguments (gs ++ g ∷ [])) ≡ f.argument_faults names loops (arguments gs) ++ f.value_faults names loops g.value
snoc_faults names loops [] g = append-nil (f.value_faults names loops g.value)
snoc_faults names loops (h ∷ gs) g =
    ap (λ fs. f.value_faults names loops h.value ++ fs) (snoc_faults names loops gs g)
    ∙ sym (append_assoc (f.value_faults names loops h.value) (f.argument_faults names loops (arguments gs)) (f.value_faults names loops g.value))

map-snoc : (es : List Argument) (g : Argument) → map given_of (es ++ g ∷ []) ≡ map given_of es ++ given_of g ∷ []
map-snoc [] g = refl
map-snoc (h ∷ es) g = ap (λ gs. given_of h ∷ gs) (map-snoc es g)

pub arguments-none : (names loops : List Text) → arguments_first names loops [] ≡ None
unfolding arguments_first
arguments-none names loops = first-none

pub arguments-snoc : (names loops : List Text) (es : List Argument) (g : Argument)
    → arguments_first names loops (es ++ g ∷ []) ≡ sooner (arguments_first names loops es) (value_first names loops g.value)
unfolding arguments_first value_first
arguments-snoc names loops es g =
    ap (λ gs. first (f.argument_faults names loops (arguments gs))) (map-snoc es g)
    ∙ ap first (snoc_faults names loops (map given_of es) (given_of g))
    ∙ first-append (f.argument_faults names loops (arguments_of es)) (f.value_faults names loops (given_of g).value)
    ∙ ap (λ v. sooner (first (f.argument_faults names loops (arguments_of es))) (first (f.value_faults names loops v))) (ap (λ (h : Given). h.value) (l.given_of-parts g))

pub value-Nothing : (names loops : List Text) → value_first names loops e.Nothing ≡ None
unfolding value_first arguments_first read_first many_arguments
value-Nothing names loops = ap (λ v. first (f.value_faults names loops v)) l.value_of-Nothing ∙ first-none

pub value-False : (names loops : List Text) → value_first names loops e.False ≡ None
unfolding value_first arguments_first read_first many_arguments
value-False names loops = ap (λ v. first (f.value_faults names loops v)) l.value_of-False ∙ first-none

pub value-True : (names loops : List Text) → value_first names loops e.True ≡ None
unfolding value_first arguments_first read_first many_arguments
value-True names loops = ap (λ v. first (f.value_faults names loops v)) l.value_of-True ∙ first-none

pub value-Int : (names loops : List Text) (z : ℤ) → value_first names loops (e.Int z) ≡ None
unfolding value_first arguments_first read_first many_arguments
value-Int names loops z = ap (λ v. first (f.value_faults names loops v)) (l.value_of-Int z) ∙ first-none

pub value-Str : (names loops : List Text) (t : Text) → value_first names loops (e.Str t) ≡ None
unfolding value_first arguments_first read_first many_arguments
value-Str names loops t = ap (λ v. first (f.value_faults names loops v)) (l.value_of-Str t) ∙ first-none

pub value-Name : (names loops : List Text) (p : Path) → value_first names loops (e.Name p) ≡ read_first names loops p
unfolding value_first arguments_first read_first many_arguments
value-Name names loops p = ap (λ v. first (f.value_faults names loops v)) (l.value_of-Name p)

pub value-Field : (names loops : List Text) (a : Expr) (x : Spot) → value_first names loops (e.Field a x) ≡ value_first names loops a
unfolding value_first arguments_first read_first many_arguments
value-Field names loops a x = ap (λ v. first (f.value_faults names loops v)) (l.value_of-Field a x)

pub value-Call : (names loops : List Text) (p : Path) (es : List Argument) → value_first names loops (e.Call p es) ≡ sooner (read_first names loops p) (sooner (many_arguments es) (arguments_first names loops es))
unfolding value_first arguments_first read_first many_arguments
value-Call names loops p es = ap (λ v. first (f.value_faults names loops v)) (l.value_of-Call p es)
    ∙ first-append (f.read names loops p) ((beyond 16 (places_of (arguments_of es))) ++ (f.argument_faults names loops (arguments_of es)))
    ∙ ap (λ r. sooner (first (f.read names loops p)) r) (first-append (beyond 16 (places_of (arguments_of es))) (f.argument_faults names loops (arguments_of es)))

pub value-Latest : (names loops : List Text) (es : List Argument) → value_first names loops (e.Latest es) ≡ sooner (many_arguments es) (arguments_first names loops es)
unfolding value_first arguments_first read_first many_arguments
value-Latest names loops es = ap (λ v. first (f.value_faults names loops v)) (l.value_of-Latest es)
    ∙ first-append (beyond 16 (places_of (arguments_of es))) (f.argument_faults names loops (arguments_of es))

pub value-And : (names loops : List Text) (a : Expr) (b : Expr) → value_first names loops (e.And a b) ≡ sooner (value_first names loops a) (value_first names loops b)
unfolding value_first arguments_first read_first many_arguments
value-And names loops a b = ap (λ v. first (f.value_faults names loops v)) (l.value_of-And a b)
    ∙ first-append (f.value_faults names loops (value_of a)) (f.value_faults names loops (value_of b))

pub value-Or : (names loops : List Text) (a : Expr) (b : Expr) → value_first names loops (e.Or a b) ≡ sooner (value_first names loops a) (value_first names loops b)
unfolding value_first arguments_first read_first many_arguments
value-Or names loops a b = ap (λ v. first (f.value_faults names loops v)) (l.value_of-Or a b)
    ∙ first-append (f.value_faults names loops (value_of a)) (f.value_faults names loops (value_of b))

pub value-Same : (names loops : List Text) (a : Expr) (b : Expr) → value_first names loops (e.Same a b) ≡ sooner (value_first names loops a) (value_first names loops b)
unfolding value_first arguments_first read_first many_arguments
value-Same names loops a b = ap (λ v. first (f.value_faults names loops v)) (l.value_of-Same a b)
    ∙ first-append (f.value_faults names loops (value_of a)) (f.value_faults names loops (value_of b))

pub value-Cond : (names loops : List Text) (a : Expr) (b : Expr) (c : Expr) → value_first names loops (e.Cond a b c) ≡ sooner (value_first names loops a) (sooner (value_first names loops b) (value_first names loops c))
unfolding value_first arguments_first read_first many_arguments
value-Cond names loops a b c = ap (λ v. first (f.value_faults names loops v)) (l.value_of-Cond a b c)
    ∙ first-append (f.value_faults names loops (value_of a)) ((f.value_faults names loops (value_of b)) ++ (f.value_faults names loops (value_of c)))
    ∙ ap (λ r. sooner (first (f.value_faults names loops (value_of a))) r) (first-append (f.value_faults names loops (value_of b)) (f.value_faults names loops (value_of c)))

pub ruleset value_rules = (value-Nothing, value-False, value-True, value-Int, value-Str, value-Name, value-Field, value-Call, value-Latest, value-And, value-Or, value-Same, value-Cond, arguments-none, arguments-snoc)
