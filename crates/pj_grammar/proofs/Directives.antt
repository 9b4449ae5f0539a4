-- The machine reads directives.
use Rattle.std.proofs.Common.{◌≡◌, ℕ, Bool, true, false, List, [], ◌∷◌, ◌++◌, Some, codes, refl, sym, ap, ◌∙◌}
use Rattle.std.proofs.lemmas.List.{append_assoc, append-nil}
use Rattle.pj_lex.specs.declared.sign.Sign.TheVariants as signs
use Rattle.pj_lex.specs.declared.token.Token.{Token}
use Rattle.pj_syntax.specs.declared.expression.Spot.{Spot}
use Rattle.pj_syntax.specs.declared.expression.Path.{Path}
use Rattle.pj_syntax.specs.declared.expression.Path.TheVariants as paths
use Rattle.pj_grammar.specs.declared.node.Entries.{Entries}
use Rattle.pj_grammar.specs.declared.frame.Frame.{Frame}
use Rattle.pj_grammar.specs.declared.frame.Frame.TheVariants as frames
use Rattle.pj_grammar.specs.declared.frame.Given.{Given}
use Rattle.pj_grammar.specs.declared.frame.Given.TheVariants as given
use Rattle.pj_grammar.specs.declared.frame.Purpose.TheVariants as purposes
use Rattle.pj_grammar.specs.declared.frame.Root.TheVariants as roots
use Rattle.pj_grammar.specs.declared.mode.Head.{Head}
use Rattle.pj_grammar.specs.declared.mode.Head.TheVariants as heads
use Rattle.pj_grammar.specs.declared.mode.Mode.TheVariants as modes
use Rattle.pj_grammar.specs.Expressions.{Callee, bare, of_module}
use Rattle.pj_grammar.specs.Frames.{State, at, give, head_path, settle}
use Rattle.pj_grammar.specs.Machine.{run, step}
use Rattle.pj_grammar.specs.Makers.{directive_of, entry_after}
use Rattle.pj_grammar.specs.Modules.{Modules, is_module}
use Rattle.pj_grammar.specs.Texts.{MoreTypes, Types, also_type, comma_ends, last_type, no_types, types}
use Rattle.pj_grammar.specs.Tokens.{Place, name, sign, spot}
use Rattle.pj_grammar.proofs.Joining.{ItemRuns}
use Rattle.pj_grammar.proofs.Reading.{TakesName, reads-callee, reads-named, runs-step, state, step-module}
use Rattle.pj_grammar.proofs.Stepping.{step-call, step-comma}

type-names : (modules : Modules) (k : List Frame) → TakesName modules (state modes.Types k) k
unfolding step
type-names modules k p x = refl

path-names : (modules : Modules) (k : List Frame) → TakesName modules (state modes.PathStart k) k
unfolding step
path-names modules k p x = refl

argument-names : (modules : Modules) (k : List Frame) → TakesName modules (state modes.Arguments k) k
unfolding step
argument-names modules k p x = refl

-- the types behind the first
step-types-end : (modules : Modules) (k : List Frame) (p : Place) → step modules (state modes.Types k) (sign p signs.RightParen) ≡ at modes.DirectiveEnd k
unfolding step
step-types-end modules k p = refl

step-type-comma : (modules : Modules) (h : Head) (t : Path) (f : Path) (ts : List Path) (k : List Frame) (p : Place) → head_path h ≡ Some t
    → step modules (state (modes.Have h) (frames.Types f ts ∷ k)) (sign p signs.Comma) ≡ at modes.Types (frames.Types f (ts ++ t ∷ []) ∷ k)
unfolding step
step-type-comma modules h t f ts k p path = rw path refl

step-type-last : (modules : Modules) (h : Head) (t : Path) (f first : Path) (ts : List Path) (k : List Frame) (p : Place) → head_path h ≡ Some t
    → step modules (state (modes.Have h) (frames.Types f (first ∷ ts) ∷ k)) (sign p signs.RightParen) ≡ at modes.DirectiveEnd (frames.Types f (first ∷ ts ++ t ∷ []) ∷ k)
unfolding step
step-type-last modules h t f first ts k p path = rw path refl

-- a state in which a comma makes way for one more type
abbrev TakesComma : Modules → State → Path → List Path → List Frame → Type 0
TakesComma modules s f ts k = (p : Place) → step modules s (sign p signs.Comma) ≡ at modes.Types (frames.Types f ts ∷ k)

more-types-run : {modules : Modules} {us : List Token} {ts : List Path} → MoreTypes modules us ts → (s : State) (f first : Path) (before : List Path) (k : List Frame) (r : List Token)
    → TakesComma modules s f (first ∷ before) k
    → run modules (us ++ r) (Some s) ≡ run modules r (at modes.DirectiveEnd (frames.Types f (first ∷ before ++ ts) ∷ k))
more-types-run {modules} (comma_ends p q) s f first before k r takes =
    runs-step modules (sign p signs.Comma) (sign q signs.RightParen ∷ r) s _ (takes p)
    ∙ runs-step modules (sign q signs.RightParen) r _ _ (step-types-end modules (frames.Types f (first ∷ before) ∷ k) q)
    ∙ ap (λ ys. run modules r (at modes.DirectiveEnd (frames.Types f (first ∷ ys) ∷ k))) (sym (append-nil before))
more-types-run {modules} (last_type {ts = ts} p q d) s f first before k r takes =
    let c = reads-named d (state modes.Types (frames.Types f (first ∷ before) ∷ k)) (frames.Types f (first ∷ before) ∷ k) (type-names modules (frames.Types f (first ∷ before) ∷ k)) refl in
    runs-step modules (sign p signs.Comma) ((ts ++ sign q signs.RightParen ∷ []) ++ r) s _ (takes p)
    ∙ ap (λ w. run modules w (at modes.Types (frames.Types f (first ∷ before) ∷ k))) (append_assoc ts (sign q signs.RightParen ∷ []) r)
    ∙ c.runs (sign q signs.RightParen ∷ r)
    ∙ runs-step modules (sign q signs.RightParen) r _ _ (step-type-last modules c.head _ f first before k q c.path)
more-types-run {modules} (also_type {ts = ts} {us = us} {t = t} {more = more} p d ds) s f first before k r takes =
    let c = reads-named d (state modes.Types (frames.Types f (first ∷ before) ∷ k)) (frames.Types f (first ∷ before) ∷ k) (type-names modules (frames.Types f (first ∷ before) ∷ k)) refl in
    runs-step modules (sign p signs.Comma) ((ts ++ us) ++ r) s _ (takes p)
    ∙ ap (λ w. run modules w (at modes.Types (frames.Types f (first ∷ before) ∷ k))) (append_assoc ts us r)
    ∙ c.runs (us ++ r)
    ∙ more-types-run ds (state (modes.Have c.head) (frames.Types f (first ∷ before) ∷ k)) f first (before ++ t ∷ []) k r (λ o. step-type-comma modules c.head t f (first ∷ before) k o c.path)
    ∙ ap (λ ys. run modules r (at modes.DirectiveEnd (frames.Types f (first ∷ ys) ∷ k))) (append_assoc before (t ∷ []) more)

-- the types, where `precompile (` had a blank
types-run : {modules : Modules} {us : List Token} {ts : List Path} → Types modules us ts → (f : Path) (k : List Frame) (r : List Token)
    → run modules (us ++ r) (at modes.Types (frames.Types f [] ∷ k)) ≡ run modules r (at modes.DirectiveEnd (frames.Types f ts ∷ k))
types-run {modules} (no_types p) f k r = runs-step modules (sign p signs.RightParen) r _ _ (step-types-end modules (frames.Types f [] ∷ k) p)
types-run {modules} (types {ts = ts} {us = us} {t = t} d ds) f k r =
    let c = reads-named d (state modes.Types (frames.Types f [] ∷ k)) (frames.Types f [] ∷ k) (type-names modules (frames.Types f [] ∷ k)) refl in
    ap (λ w. run modules w (at modes.Types (frames.Types f [] ∷ k))) (append_assoc ts us r)
    ∙ c.runs (us ++ r)
    ∙ more-types-run ds (state (modes.Have c.head) (frames.Types f [] ∷ k)) f t [] k r (λ o. step-type-comma modules c.head t f [] k o c.path)

-- the types, where `precompile(` began as a call
abbrev package_frames : Spot → List Spot → Entries → List Frame → List Frame
package_frames x uses done k = frames.Items (roots.Package x uses) done ∷ k

abbrev call_frames : Place → Given → List Frame → List Frame
call_frames p g k = frames.Call (paths.Bare (spot p (codes "precompile"))) g ∷ frames.Hole purposes.Value ∷ k

abbrev group_frames : ℕ → Place → Path → List Frame → List Frame
group_frames n p g k = frames.Group n true ∷ call_frames p (given.Paths (g ∷ [])) k

step-no-types : (modules : Modules) (n : ℕ) (p q : Place) (g : Path) (k : List Frame)
    → step modules (state modes.Want (group_frames n p g k)) (sign q signs.RightParen) ≡ at modes.DirectiveEnd (frames.Types g [] ∷ k)
unfolding step
step-no-types modules n p q g k = refl

step-group-name : (modules : Modules) (k : List Frame) (q : Place) (x : List ℕ) → step modules (state modes.Want k) (name q x) ≡ at (modes.Have (heads.Name (spot q x))) k
unfolding step
step-group-name modules k q x = refl

step-group-member : (modules : Modules) (m : Spot) (k : List Frame) (q : Place) (x : List ℕ)
    → step modules (state (modes.Member m) k) (name q x) ≡ at (modes.Have (heads.Member m (spot q x))) k
unfolding step
step-group-member modules m k q x = refl

comma-name : (modules : Modules) (n : ℕ) (p : Place) (g : Path) (k : List Frame) (x : Spot) → TakesComma modules (state (modes.Have (heads.Name x)) (group_frames n p g k)) g (paths.Bare x ∷ []) k
unfolding step settle
comma-name modules n p g k x q = refl

comma-member : (modules : Modules) (n : ℕ) (p : Place) (g : Path) (k : List Frame) (m x : Spot) → TakesComma modules (state (modes.Have (heads.Member m x)) (group_frames n p g k)) g (paths.Of m x ∷ []) k
unfolding step settle
comma-member modules n p g k m x q = refl

group-types-run : {modules : Modules} {us : List Token} {ts : List Path} → Types modules us ts → (n : ℕ) (p : Place) (g : Path) (k : List Frame) (r : List Token)
    → run modules (us ++ r) (at modes.Want (group_frames n p g k)) ≡ run modules r (at modes.DirectiveEnd (frames.Types g ts ∷ k))
group-types-run {modules} (no_types q) n p g k r = runs-step modules (sign q signs.RightParen) r _ _ (step-no-types modules n p q g k)
group-types-run {modules} (types {us = us} (bare q x) ds) n p g k r =
    runs-step modules (name q x) (us ++ r) _ _ (step-group-name modules (group_frames n p g k) q x)
    ∙ more-types-run ds (state (modes.Have (heads.Name (spot q x))) (group_frames n p g k)) g (paths.Bare (spot q x)) [] k r (comma-name modules n p g k (spot q x))
group-types-run {modules} (types {us = us} (of_module q c o m x is) ds) n p g k r =
    runs-step modules (name q m) (sign c signs.Dot ∷ name o x ∷ (us ++ r)) _ _ (step-group-name modules (group_frames n p g k) q m)
    ∙ runs-step modules (sign c signs.Dot) (name o x ∷ (us ++ r)) _ _ (step-module modules (spot q m) (group_frames n p g k) c is refl)
    ∙ runs-step modules (name o x) (us ++ r) _ _ (step-group-member modules (spot q m) (group_frames n p g k) o x)
    ∙ more-types-run ds (state (modes.Have (heads.Member (spot q m) (spot o x))) (group_frames n p g k)) g (paths.Of (spot q m) (spot o x)) [] k r (comma-member modules n p g k (spot q m) (spot o x))

-- from `(` behind `precompile` to the types' end
give-path : (h : Head) (f : Path) → head_path h ≡ Some f → give (given.Paths []) h ≡ given.Paths (f ∷ [])
give-path h f path = rw (path, give) refl

step-types-open : (modules : Modules) (p q : Place) (g : Path) (x : Spot) (uses : List Spot) (done : Entries) (k : List Frame)
    → step modules (state modes.Arguments (call_frames p (given.Paths (g ∷ [])) (package_frames x uses done k))) (sign q signs.LeftParen) ≡ at modes.Want (group_frames q.start p g (package_frames x uses done k))
unfolding step
step-types-open modules p q g x uses done k = refl

-- the `(` directly behind `precompile`
direct-runs : {modules : Modules} {ts us : List Token} {f : Path} {named : List Path} → is_module modules (codes "Base") ≡ true → (p q c o : Place) → q.blank ≡ false → Callee modules ts f
    → Types modules us named → (x : Spot) (uses : List Spot) (done : Entries) (k : List Frame) (r : List Token)
    → run modules (sign q signs.LeftParen ∷ (ts ++ sign c signs.Comma ∷ sign o signs.LeftParen ∷ (us ++ r)))
    (at (modes.Have (heads.Name (spot p (codes "precompile")))) (frames.Hole purposes.Value ∷ package_frames x uses done k))
    ≡ run modules r (at modes.DirectiveEnd (frames.Types f named ∷ package_frames x uses done k))
direct-runs {modules} {ts} {us} {f} base p q c o blank d ds x uses done k r =
    let low = package_frames x uses done k in
    let e = reads-callee base d (state modes.Arguments (call_frames p (given.Paths []) low)) (call_frames p (given.Paths []) low) (argument-names modules (call_frames p (given.Paths []) low)) refl in
    runs-step modules (sign q signs.LeftParen) (ts ++ sign c signs.Comma ∷ sign o signs.LeftParen ∷ (us ++ r)) _ _ (step-call modules (frames.Hole purposes.Value ∷ low) (heads.Name (spot p (codes "precompile"))) (paths.Bare (spot p (codes "precompile"))) q refl blank refl)
    ∙ e.runs (sign c signs.Comma ∷ sign o signs.LeftParen ∷ (us ++ r))
    ∙ runs-step modules (sign c signs.Comma) (sign o signs.LeftParen ∷ (us ++ r)) _ _ (step-comma modules (frames.Hole purposes.Value ∷ low) (paths.Bare (spot p (codes "precompile"))) (given.Paths []) e.head c e.value)
    ∙ ap (λ g. run modules (sign o signs.LeftParen ∷ (us ++ r)) (at modes.Arguments (call_frames p g low))) (give-path e.head f e.path)
    ∙ runs-step modules (sign o signs.LeftParen) (us ++ r) _ _ (step-types-open modules p o f x uses done k)
    ∙ group-types-run ds o.start p f low r

step-apart : (modules : Modules) (p q : Place) (x : Spot) (uses : List Spot) (done : Entries) (k : List Frame) → q.blank ≡ true
    → step modules (state (modes.Have (heads.Name (spot p (codes "precompile")))) (frames.Hole purposes.Value ∷ package_frames x uses done k)) (sign q signs.LeftParen)
    ≡ at modes.PathStart (frames.DirectiveFun ∷ package_frames x uses done k)
unfolding step
step-apart modules p q x uses done k blank = rw blank refl

step-directive-comma : (modules : Modules) (h : Head) (f : Path) (k : List Frame) (c : Place) → head_path h ≡ Some f
    → step modules (state (modes.Have h) (frames.DirectiveFun ∷ k)) (sign c signs.Comma) ≡ at (modes.TypesOpen f) k
unfolding step
step-directive-comma modules h f k c path = rw path refl

step-directive-types : (modules : Modules) (f : Path) (k : List Frame) (o : Place)
    → step modules (state (modes.TypesOpen f) k) (sign o signs.LeftParen) ≡ at modes.Types (frames.Types f [] ∷ k)
unfolding step
step-directive-types modules f k o = refl

-- the `(` behind a blank
apart-runs : {modules : Modules} {ts us : List Token} {f : Path} {named : List Path} → is_module modules (codes "Base") ≡ true → (p q c o : Place) → q.blank ≡ true → Callee modules ts f
    → Types modules us named → (x : Spot) (uses : List Spot) (done : Entries) (k : List Frame) (r : List Token)
    → run modules (sign q signs.LeftParen ∷ (ts ++ sign c signs.Comma ∷ sign o signs.LeftParen ∷ (us ++ r)))
    (at (modes.Have (heads.Name (spot p (codes "precompile")))) (frames.Hole purposes.Value ∷ package_frames x uses done k))
    ≡ run modules r (at modes.DirectiveEnd (frames.Types f named ∷ package_frames x uses done k))
apart-runs {modules} {ts} {us} {f} base p q c o blank d ds x uses done k r =
    let low = package_frames x uses done k in
    let e = reads-callee base d (state modes.PathStart (frames.DirectiveFun ∷ low)) (frames.DirectiveFun ∷ low) (path-names modules (frames.DirectiveFun ∷ low)) refl in
    runs-step modules (sign q signs.LeftParen) (ts ++ sign c signs.Comma ∷ sign o signs.LeftParen ∷ (us ++ r)) _ _ (step-apart modules p q x uses done k blank)
    ∙ e.runs (sign c signs.Comma ∷ sign o signs.LeftParen ∷ (us ++ r))
    ∙ runs-step modules (sign c signs.Comma) (sign o signs.LeftParen ∷ (us ++ r)) _ _ (step-directive-comma modules e.head f low c e.path)
    ∙ runs-step modules (sign o signs.LeftParen) (us ++ r) _ _ (step-directive-types modules f low o)
    ∙ types-run ds f low r

opened : {modules : Modules} {ts us : List Token} {f : Path} {named : List Path} → is_module modules (codes "Base") ≡ true → (p q c o : Place) (b : Bool) → q.blank ≡ b → Callee modules ts f
    → Types modules us named → (x : Spot) (uses : List Spot) (done : Entries) (k : List Frame) (r : List Token)
    → run modules (sign q signs.LeftParen ∷ (ts ++ sign c signs.Comma ∷ sign o signs.LeftParen ∷ (us ++ r)))
    (at (modes.Have (heads.Name (spot p (codes "precompile")))) (frames.Hole purposes.Value ∷ package_frames x uses done k))
    ≡ run modules r (at modes.DirectiveEnd (frames.Types f named ∷ package_frames x uses done k))
opened base p q c o true blank d ds x uses done k r = apart-runs base p q c o blank d ds x uses done k r
opened base p q c o false blank d ds x uses done k r = direct-runs base p q c o blank d ds x uses done k r

step-precompile : (modules : Modules) (p : Place) (k : List Frame)
    → step modules (state modes.Line k) (name p (codes "precompile")) ≡ at (modes.Have (heads.Name (spot p (codes "precompile")))) (frames.Hole purposes.Value ∷ k)
unfolding step
step-precompile modules p k = refl

step-directive-end : (modules : Modules) (f : Path) (ts : List Path) (x : Spot) (uses : List Spot) (done : Entries) (k : List Frame) (e : Place)
    → step modules (state modes.DirectiveEnd (frames.Types f ts ∷ package_frames x uses done k)) (sign e signs.RightParen)
    ≡ at modes.Closed (package_frames x uses (entry_after done (directive_of f ts)) k)
unfolding step
step-directive-end modules f ts x uses done k e = refl

pub directive-runs : {modules : Modules} {ts us : List Token} {f : Path} {named : List Path} → is_module modules (codes "Base") ≡ true → (x : Spot) (uses : List Spot) (p q c o e : Place)
    → Callee modules ts f → Types modules us named
    → ItemRuns modules (roots.Package x uses) (name p (codes "precompile") ∷ sign q signs.LeftParen ∷ (ts ++ sign c signs.Comma ∷ sign o signs.LeftParen ∷ (us ++ sign e signs.RightParen ∷ []))) (directive_of f named)
directive-runs {modules} {ts} {us} {f} {named} base x uses p q c o e d ds done k t r ends =
    runs-step modules (name p (codes "precompile")) (sign q signs.LeftParen ∷ ((ts ++ sign c signs.Comma ∷ sign o signs.LeftParen ∷ (us ++ sign e signs.RightParen ∷ [])) ++ t ∷ r)) _ _ (step-precompile modules p (package_frames x uses done k))
    ∙ ap (λ w. run modules (sign q signs.LeftParen ∷ w) (at (modes.Have (heads.Name (spot p (codes "precompile")))) (frames.Hole purposes.Value ∷ package_frames x uses done k)))
    (append_assoc ts (sign c signs.Comma ∷ sign o signs.LeftParen ∷ (us ++ sign e signs.RightParen ∷ [])) (t ∷ r)
    ∙ ap (λ w. ts ++ sign c signs.Comma ∷ sign o signs.LeftParen ∷ w) (append_assoc us (sign e signs.RightParen ∷ []) (t ∷ r)))
    ∙ opened base p q c o q.blank refl d ds x uses done k (sign e signs.RightParen ∷ t ∷ r)
    ∙ runs-step modules (sign e signs.RightParen) (t ∷ r) _ _ (step-directive-end modules f named x uses done k e)
