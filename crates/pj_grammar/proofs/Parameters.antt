-- The machine reads parameters, also where they begin as the arguments of a call.
use Rattle.std.proofs.Common.{◌≡◌, ℕ, Bool, true, false, List, [], ◌∷◌, ◌++◌, Option, Some, None, refl, sym, ap, ◌∙◌}
use Rattle.std.proofs.lemmas.List.{append_assoc, append-nil}
use Rattle.pj_lex.specs.declared.sign.Sign.TheVariants as signs
use Rattle.pj_lex.specs.declared.token.TokenKind.{TokenKind}
use Rattle.pj_lex.specs.declared.token.Token.{Token}
use Rattle.pj_syntax.specs.declared.expression.Spot.{Spot}
use Rattle.pj_syntax.specs.declared.expression.Path.{Path}
use Rattle.pj_syntax.specs.declared.expression.Path.TheVariants as paths
use Rattle.pj_syntax.specs.declared.statement.Param.{Param}
use Rattle.pj_grammar.specs.declared.frame.Form.{Form}
use Rattle.pj_grammar.specs.declared.frame.Form.TheVariants as forms
use Rattle.pj_grammar.specs.declared.frame.Frame.{Frame}
use Rattle.pj_grammar.specs.declared.frame.Frame.TheVariants as frames
use Rattle.pj_grammar.specs.declared.frame.Given.TheVariants as given
use Rattle.pj_grammar.specs.declared.frame.Purpose.TheVariants as purposes
use Rattle.pj_grammar.specs.declared.mode.Head.{Head}
use Rattle.pj_grammar.specs.declared.mode.Head.TheVariants as heads
use Rattle.pj_grammar.specs.declared.mode.Mode.TheVariants as modes
use Rattle.pj_grammar.specs.Expressions.{Named}
use Rattle.pj_grammar.specs.Frames.{State, at, head_path, params_of, takes_definition}
use Rattle.pj_grammar.specs.Machine.{run, step}
use Rattle.pj_grammar.specs.Makers.{lacks, paths_given}
use Rattle.pj_grammar.specs.Modules.{Modules}
use Rattle.pj_grammar.specs.Operands.{add_param, after_param, close_call, close_paths, end_params, have_next, next, other}
use Rattle.pj_grammar.specs.Statements.{Parameter, Parameters, also, last_one, no_more, typed, untyped, with_name, without}
use Rattle.pj_grammar.specs.Tokens.{Place, name, place, sign, spot, token}
use Rattle.pj_grammar.proofs.Reading.{TakesName, reads-named, runs-step, state}
use Rattle.pj_grammar.proofs.Stepping.{step-call-end, step-comma, step-no-argument}

path-names : (modules : Modules) (k : List Frame) → TakesName modules (state modes.PathStart k) k
unfolding step
path-names modules k p x = refl

step-type : (modules : Modules) (h : Head) (t : Path) (x : Option Spot) (first : ℕ) (k : List Frame) (q : Place) (kind : TokenKind) → head_path h ≡ Some t
    → next kind ≡ other
    → step modules (state (modes.Have h) (frames.TypeOf x first ∷ k)) (token q kind) ≡ add_param (record { at = first; name = x; declared = Some t }) k kind
unfolding step
step-type modules h t x first k q kind path plain =
    ap (have_next modules h (frames.TypeOf x first ∷ k) q kind) plain ∙ rw path refl

-- the type of a parameter or field, and what follows it
pub type-runs : {modules : Modules} {ts : List Token} {t : Path} → Named modules ts t → (x : Option Spot) (first : ℕ) (k : List Frame) (u : Token) (r : List Token)
    → next u.what ≡ other
    → run modules (ts ++ u ∷ r) (at modes.PathStart (frames.TypeOf x first ∷ k)) ≡ run modules r (add_param (record { at = first; name = x; declared = Some t }) k u.what)
type-runs {modules} {ts} {t} d x first k u r plain =
    let c = reads-named d (state modes.PathStart (frames.TypeOf x first ∷ k)) (frames.TypeOf x first ∷ k) (path-names modules (frames.TypeOf x first ∷ k)) refl in
    c.runs (u ∷ r) ∙ runs-step modules u r _ _ (step-type modules c.head t x first k (place u) u.what c.path plain)

abbrev pub named_param : Spot → Option Path → Param
named_param x t = record { at = x.at; name = Some x; declared = t }

abbrev pub signature : Form → Path → List Param → List Frame → List Frame
signature form f ps k = frames.Signature form f ps ∷ k

step-name : (modules : Modules) (p : Place) (x : List ℕ) (k : List Frame) → step modules (state modes.Params k) (name p x) ≡ at (modes.Have (heads.Name (spot p x))) k
unfolding step
step-name modules p x k = refl

step-param-type : (modules : Modules) (p : Place) (k : List Frame) → step modules (state modes.Params k) (sign p signs.DoubleColon) ≡ at modes.PathStart (frames.TypeOf None p.start ∷ k)
unfolding step
step-param-type modules p k = refl

step-named-type : (modules : Modules) (x : Spot) (q : Place) (form : Form) (f : Path) (ps : List Param) (k : List Frame)
    → step modules (state (modes.Have (heads.Name x)) (signature form f ps k)) (sign q signs.DoubleColon) ≡ at modes.PathStart (frames.TypeOf (Some x) x.at ∷ signature form f ps k)
unfolding step
step-named-type modules x q form f ps k = refl

step-untyped : (modules : Modules) (x : Spot) (q : Place) (kind : TokenKind) (form : Form) (f : Path) (ps : List Param) (k : List Frame) → next kind ≡ other
    → step modules (state (modes.Have (heads.Name x)) (signature form f ps k)) (token q kind) ≡ after_param (signature form f (ps ++ named_param x None ∷ []) k) kind
unfolding step
step-untyped modules x q kind form f ps k plain = ap (have_next modules (heads.Name x) (signature form f ps k) q kind) plain

param-runs : {modules : Modules} {ts : List Token} {x : Param} → Parameter modules ts x → (form : Form) (f : Path) (ps : List Param) (k : List Frame) (u : Token) (r : List Token)
    → next u.what ≡ other
    → run modules (ts ++ u ∷ r) (at modes.Params (signature form f ps k)) ≡ run modules r (after_param (signature form f (ps ++ x ∷ []) k) u.what)
param-runs {modules} (with_name p x untyped) form f ps k u r plain =
    runs-step modules (name p x) (u ∷ r) _ _ (step-name modules p x (signature form f ps k))
    ∙ runs-step modules u r _ _ (step-untyped modules (spot p x) (place u) u.what form f ps k plain)
param-runs {modules} (with_name p x (typed {ts = ts} q d)) form f ps k u r plain =
    runs-step modules (name p x) (sign q signs.DoubleColon ∷ (ts ++ u ∷ r)) _ _ (step-name modules p x (signature form f ps k))
    ∙ runs-step modules (sign q signs.DoubleColon) (ts ++ u ∷ r) _ _ (step-named-type modules (spot p x) q form f ps k)
    ∙ type-runs d (Some (spot p x)) p.start (signature form f ps k) u r plain
param-runs {modules} (without {ts = ts} p d) form f ps k u r plain =
    runs-step modules (sign p signs.DoubleColon) (ts ++ u ∷ r) _ _ (step-param-type modules p (signature form f ps k))
    ∙ type-runs d None p.start (signature form f ps k) u r plain

step-params-end : (modules : Modules) (p : Place) (k : List Frame) → step modules (state modes.Params k) (sign p signs.RightParen) ≡ end_params k
unfolding step
step-params-end modules p k = refl

regroup : (modules : Modules) (ts us r : List Token) (s : Option State) → run modules ((ts ++ us) ++ r) s ≡ run modules (ts ++ (us ++ r)) s
regroup modules ts us r s = ap (λ w. run modules w s) (append_assoc ts us r)

pub params-run : {modules : Modules} {us : List Token} {xs : List Param} → Parameters modules us xs → (form : Form) (f : Path) (ps : List Param) (k : List Frame) (r : List Token)
    → run modules (us ++ r) (at modes.Params (signature form f ps k)) ≡ run modules r (end_params (signature form f (ps ++ xs) k))
params-run {modules} (no_more p) form f ps k r =
    runs-step modules (sign p signs.RightParen) r _ _ (step-params-end modules p (signature form f ps k))
    ∙ ap (λ qs. run modules r (end_params (signature form f qs k))) (sym (append-nil ps))
params-run {modules} (last_one {ts = ts} p d) form f ps k r =
    regroup modules ts (sign p signs.RightParen ∷ []) r _ ∙ param-runs d form f ps k (sign p signs.RightParen) r refl
params-run {modules} (also {ts = ts} {us = us} {x = x} {xs = xs} p d ds) form f ps k r =
    regroup modules ts (sign p signs.Comma ∷ us) r _
    ∙ param-runs d form f ps k (sign p signs.Comma) (us ++ r) refl
    ∙ params-run ds form f (ps ++ x ∷ []) k r
    ∙ ap (λ qs. run modules r (end_params (signature form f qs k))) (append_assoc ps (x ∷ []) xs)

-- Parameters that begin as arguments.

abbrev snoc : Param → Option (List Param) → Option (List Param)
snoc x (Some qs) = Some (qs ++ x ∷ [])
snoc x None = None

abbrev cons : Param → Option (List Param) → Option (List Param)
cons y o = elim o [ Some qs ↦ Some (y ∷ qs) | None ↦ None ]

cons-snoc : (y x : Param) (o : Option (List Param)) → cons y (snoc x o) ≡ snoc x (cons y o)
cons-snoc y x (Some qs) = refl
cons-snoc y x None = refl

params-snoc : (ps : List Path) (x : Spot) → params_of (ps ++ paths.Bare x ∷ []) ≡ snoc (named_param x None) (params_of ps)
params-snoc [] x = refl
params-snoc (paths.Bare y ∷ ps) x = ap (cons (named_param y None)) (params-snoc ps x) ∙ cons-snoc (named_param y None) (named_param x None) (params_of ps)
params-snoc (paths.Of m y ∷ ps) x = refl

known : (ps : List Path) (qs : List Param) (x : Spot) → params_of ps ≡ Some qs → params_of (ps ++ paths.Bare x ∷ []) ≡ Some (qs ++ named_param x None ∷ [])
known ps qs x is = params-snoc ps x ∙ ap (snoc (named_param x None)) is

abbrev call_head : Path → List Path → List Frame → List Frame
call_head f ps k = frames.Call f (given.Paths ps) ∷ frames.Hole purposes.Value ∷ k

step-define : (modules : Modules) (f : Path) (ps : List Path) (qs : List Param) (k : List Frame) (q : Place) → params_of ps ≡ Some qs → takes_definition k ≡ true
    → step modules (state (modes.Have (heads.Call f ps)) (frames.Hole purposes.Value ∷ k)) (sign q signs.Assign) ≡ at modes.Want (frames.Hole (purposes.Short f qs) ∷ k)
unfolding step
step-define modules f ps qs k q is takes = rw is (rw takes refl)

closed-head : (f : Path) (ps : List Path) (k : List Frame) (b : Bool) → takes_definition k ≡ true
    → close_paths f ps (frames.Hole purposes.Value ∷ k) b ≡ at (modes.Have (heads.Call f ps)) (frames.Hole purposes.Value ∷ k)
closed-head f ps k true takes = rw takes refl
closed-head f ps k false takes = refl

-- the end of such parameters, and `=`
ends-head : (modules : Modules) (f : Path) (ps : List Path) (qs : List Param) (k : List Frame) (q : Place) (r : List Token) → params_of ps ≡ Some qs
    → takes_definition k ≡ true
    → run modules (sign q signs.Assign ∷ r) (close_call f (given.Paths ps) (frames.Hole purposes.Value ∷ k)) ≡ run modules r (at modes.Want (frames.Hole (purposes.Short f qs) ∷ k))
ends-head modules f ps qs k q r is takes =
    ap (run modules (sign q signs.Assign ∷ r)) (closed-head f ps k (lacks f (paths_given ps)) takes)
    ∙ runs-step modules (sign q signs.Assign) r _ _ (step-define modules f ps qs k q is takes)

step-argument-name : (modules : Modules) (p : Place) (x : List ℕ) (k : List Frame)
    → step modules (state modes.Arguments k) (name p x) ≡ at (modes.Have (heads.Name (spot p x))) k
unfolding step
step-argument-name modules p x k = refl

step-argument-type : (modules : Modules) (p : Place) (f : Path) (ps : List Path) (qs : List Param) (k : List Frame) → params_of ps ≡ Some qs → takes_definition k ≡ true
    → step modules (state modes.Arguments (call_head f ps k)) (sign p signs.DoubleColon) ≡ at modes.PathStart (frames.TypeOf None p.start ∷ signature forms.Short f qs k)
unfolding step
step-argument-type modules p f ps qs k is takes = rw is (rw takes refl)

step-argument-named-type : (modules : Modules) (x : Spot) (p : Place) (f : Path) (ps : List Path) (qs : List Param) (k : List Frame) → params_of ps ≡ Some qs
    → takes_definition k ≡ true
    → step modules (state (modes.Have (heads.Name x)) (call_head f ps k)) (sign p signs.DoubleColon) ≡ at modes.PathStart (frames.TypeOf (Some x) x.at ∷ signature forms.Short f qs k)
unfolding step
step-argument-named-type modules x p f ps qs k is takes = rw is (rw takes refl)

step-short : (modules : Modules) (f : Path) (qs : List Param) (k : List Frame) (q : Place)
    → step modules (state modes.ShortAssign (signature forms.Short f qs k)) (sign q signs.Assign) ≡ at modes.Want (frames.Hole (purposes.Short f qs) ∷ k)
unfolding step
step-short modules f qs k q = refl

-- from a typed parameter on, with the parameters before it
typed-end : (modules : Modules) (f : Path) (qs : List Param) (k : List Frame) (q : Place) (r : List Token)
    → run modules (sign q signs.Assign ∷ r) (end_params (signature forms.Short f qs k)) ≡ run modules r (at modes.Want (frames.Hole (purposes.Short f qs) ∷ k))
typed-end modules f qs k q r = runs-step modules (sign q signs.Assign) r _ _ (step-short modules f qs k q)

typed-more : {modules : Modules} {us : List Token} {xs : List Param} → Parameters modules us xs → (f : Path) (qs : List Param) (x : Param) (k : List Frame) (q : Place) (r : List Token)
    → run modules (us ++ sign q signs.Assign ∷ r) (at modes.Params (signature forms.Short f (qs ++ x ∷ []) k)) ≡ run modules r (at modes.Want (frames.Hole (purposes.Short f (qs ++ x ∷ xs)) ∷ k))
typed-more {modules} {us} {xs} ds f qs x k q r =
    params-run ds forms.Short f (qs ++ x ∷ []) k (sign q signs.Assign ∷ r)
    ∙ typed-end modules f ((qs ++ x ∷ []) ++ xs) k q r
    ∙ ap (λ ps. run modules r (at modes.Want (frames.Hole (purposes.Short f ps) ∷ k))) (append_assoc qs (x ∷ []) xs)

-- a typed parameter where arguments were read
typed-begins : {modules : Modules} {ts : List Token} {t : Path} → Named modules ts t → (f : Path) (ps : List Path) (qs : List Param) (k : List Frame) (p q : Place) (x : List ℕ)
    → params_of ps ≡ Some qs → takes_definition k ≡ true → (u : Token) (r : List Token) → next u.what ≡ other
    → run modules (name p x ∷ sign q signs.DoubleColon ∷ (ts ++ u ∷ r)) (at modes.Arguments (call_head f ps k))
    ≡ run modules r (after_param (signature forms.Short f (qs ++ named_param (spot p x) (Some t) ∷ []) k) u.what)
typed-begins {modules} {ts} d f ps qs k p q x is takes u r plain =
    runs-step modules (name p x) (sign q signs.DoubleColon ∷ (ts ++ u ∷ r)) _ _ (step-argument-name modules p x (call_head f ps k))
    ∙ runs-step modules (sign q signs.DoubleColon) (ts ++ u ∷ r) _ _ (step-argument-named-type modules (spot p x) q f ps qs k is takes)
    ∙ type-runs d (Some (spot p x)) p.start (signature forms.Short f qs k) u r plain

nameless-begins : {modules : Modules} {ts : List Token} {t : Path} → Named modules ts t → (f : Path) (ps : List Path) (qs : List Param) (k : List Frame) (p : Place)
    → params_of ps ≡ Some qs → takes_definition k ≡ true → (u : Token) (r : List Token) → next u.what ≡ other
    → run modules (sign p signs.DoubleColon ∷ (ts ++ u ∷ r)) (at modes.Arguments (call_head f ps k))
    ≡ run modules r (after_param (signature forms.Short f (qs ++ record { at = p.start; name = None; declared = Some t } ∷ []) k) u.what)
nameless-begins {modules} {ts} d f ps qs k p is takes u r plain =
    runs-step modules (sign p signs.DoubleColon) (ts ++ u ∷ r) _ _ (step-argument-type modules p f ps qs k is takes)
    ∙ type-runs d None p.start (signature forms.Short f qs k) u r plain

pub head-params : {modules : Modules} {us : List Token} {xs : List Param} → Parameters modules us xs → (f : Path) (ps : List Path) (qs : List Param) (k : List Frame)
    → params_of ps ≡ Some qs → takes_definition k ≡ true → (q : Place) (r : List Token)
    → run modules (us ++ sign q signs.Assign ∷ r) (at modes.Arguments (call_head f ps k)) ≡ run modules r (at modes.Want (frames.Hole (purposes.Short f (qs ++ xs)) ∷ k))
head-params {modules} (no_more p) f ps qs k is takes q r =
    runs-step modules (sign p signs.RightParen) (sign q signs.Assign ∷ r) _ _ (step-no-argument modules (frames.Hole purposes.Value ∷ k) f (given.Paths ps) p)
    ∙ ends-head modules f ps qs k q r is takes
    ∙ ap (λ ps. run modules r (at modes.Want (frames.Hole (purposes.Short f ps) ∷ k))) (sym (append-nil qs))
head-params {modules} (last_one p (with_name o x untyped)) f ps qs k is takes q r =
    runs-step modules (name o x) (sign p signs.RightParen ∷ sign q signs.Assign ∷ r) _ _ (step-argument-name modules o x (call_head f ps k))
    ∙ runs-step modules (sign p signs.RightParen) (sign q signs.Assign ∷ r) _ _ (step-call-end modules (frames.Hole purposes.Value ∷ k) f (given.Paths ps) (heads.Name (spot o x)) p refl)
    ∙ ends-head modules f (ps ++ paths.Bare (spot o x) ∷ []) (qs ++ named_param (spot o x) None ∷ []) k q r (known ps qs (spot o x) is) takes
head-params {modules} (last_one p (with_name o x (typed {ts = ts} c d))) f ps qs k is takes q r =
    regroup modules (name o x ∷ sign c signs.DoubleColon ∷ ts) (sign p signs.RightParen ∷ []) (sign q signs.Assign ∷ r) _
    ∙ typed-begins d f ps qs k o c x is takes (sign p signs.RightParen) (sign q signs.Assign ∷ r) refl
    ∙ typed-end modules f _ k q r
head-params {modules} (last_one p (without {ts = ts} o d)) f ps qs k is takes q r =
    regroup modules (sign o signs.DoubleColon ∷ ts) (sign p signs.RightParen ∷ []) (sign q signs.Assign ∷ r) _
    ∙ nameless-begins d f ps qs k o is takes (sign p signs.RightParen) (sign q signs.Assign ∷ r) refl
    ∙ typed-end modules f _ k q r
head-params {modules} (also {us = us} {xs = xs} p (with_name o x untyped) ds) f ps qs k is takes q r =
    runs-step modules (name o x) (sign p signs.Comma ∷ (us ++ sign q signs.Assign ∷ r)) _ _ (step-argument-name modules o x (call_head f ps k))
    ∙ runs-step modules (sign p signs.Comma) (us ++ sign q signs.Assign ∷ r) _ _ (step-comma modules (frames.Hole purposes.Value ∷ k) f (given.Paths ps) (heads.Name (spot o x)) p refl)
    ∙ head-params ds f (ps ++ paths.Bare (spot o x) ∷ []) (qs ++ named_param (spot o x) None ∷ []) k (known ps qs (spot o x) is) takes q r
    ∙ ap (λ ps. run modules r (at modes.Want (frames.Hole (purposes.Short f ps) ∷ k))) (append_assoc qs (named_param (spot o x) None ∷ []) xs)
head-params {modules} (also {us = us} p (with_name o x (typed {ts = ts} c d)) ds) f ps qs k is takes q r =
    regroup modules (name o x ∷ sign c signs.DoubleColon ∷ ts) (sign p signs.Comma ∷ us) (sign q signs.Assign ∷ r) _
    ∙ typed-begins d f ps qs k o c x is takes (sign p signs.Comma) (us ++ sign q signs.Assign ∷ r) refl
    ∙ typed-more ds f qs _ k q r
head-params {modules} (also {us = us} p (without {ts = ts} o d) ds) f ps qs k is takes q r =
    regroup modules (sign o signs.DoubleColon ∷ ts) (sign p signs.Comma ∷ us) (sign q signs.Assign ∷ r) _
    ∙ nameless-begins d f ps qs k o is takes (sign p signs.Comma) (us ++ sign q signs.Assign ∷ r) refl
    ∙ typed-more ds f qs _ k q r
