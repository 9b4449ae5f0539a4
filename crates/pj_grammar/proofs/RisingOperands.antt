-- From an operand on, the frames stay well stacked and the need doesn't fall: dots, parentheses, operators and assignments.
use Rattle.std.proofs.Common.{◌≡◌, ◌≤◌, ◌+◌, arith, max, ℕ, Bool, true, false, ◌&&◌, List, [], ◌∷◌, ◌++◌, if◌then◌else◌, Option, Some, None, refl, sym, ◌∙◌, codes}
use Rattle.std.specs.Str.{bytes_eq}
use Rattle.pj_lex.specs.declared.sign.Sign.{Sign}
use Rattle.pj_lex.specs.declared.sign.Sign.TheVariants as signs
use Rattle.pj_syntax.specs.declared.expression.Path.{Path}
use Rattle.pj_syntax.specs.declared.expression.Path.TheVariants as paths
use Rattle.pj_syntax.specs.declared.statement.Param.{Param}
use Rattle.pj_grammar.specs.declared.level.Level.{Level}
use Rattle.pj_grammar.specs.declared.level.Level.TheVariants as levels
use Rattle.pj_grammar.specs.declared.node.Node.{Node}
use Rattle.pj_grammar.specs.declared.frame.Frame.{Frame}
use Rattle.pj_grammar.specs.declared.frame.Frame.TheVariants as frames
use Rattle.pj_grammar.specs.declared.frame.Given.{Given}
use Rattle.pj_grammar.specs.declared.frame.Given.TheVariants as given
use Rattle.pj_grammar.specs.declared.frame.Purpose.TheVariants as purposes
use Rattle.pj_grammar.specs.declared.mode.Head.{Head}
use Rattle.pj_grammar.specs.declared.mode.Head.TheVariants as heads
use Rattle.pj_grammar.specs.declared.mode.Mode.TheVariants as modes
use Rattle.pj_grammar.specs.Frames.{Settled, State, admits, at, give, guarded, head_path, is_value, node, takes_definition, takes_directives, takes_items, takes_lines}
use Rattle.pj_grammar.specs.Levels.{fits}
use Rattle.pj_grammar.specs.Makers.{argument_after, argument_before, call_of, field_of, infix_height, lacks, name_of, no_arguments, paths_given}
use Rattle.pj_grammar.specs.Modules.{Modules, is_module}
use Rattle.pj_grammar.specs.Need.{depth, given_nesting, head_nesting, need, need_at, place_nesting}
use Rattle.pj_grammar.specs.Operands.{ask, define, extend, have_dot, have_paren, open_apart, open_call, open_direct}
use Rattle.pj_grammar.proofs.Levels.{Binary, absurd-of, and, comparison, or, product, sum}
use Rattle.pj_grammar.proofs.RisingOperators.{Ended, guard-rises}
use Rattle.pj_grammar.proofs.RisingEnds.{flat}
use Rattle.pj_grammar.proofs.Stacks.{HeadOver, Rise, Stack, directives-items, takes_expression, takes_path}

pub if-rises : (n : ℕ) (b : Bool) (x y : Option State) → (b ≡ true → Rise n x) → (b ≡ false → Rise n y) → Rise n (if b then x else y)
if-rises n true x y f g = f refl
if-rises n false x y f g = g refl

pub and-right : (a b : Bool) → (a && b) ≡ true → b ≡ true
and-right true b h = h
and-right false b h = absurd-of h

-- What the frames take, from the level that they admit.
pub named-path : (k : List Frame) → admits k levels.Named ≡ true → takes_path k ≡ true
named-path [] h = absurd-of h
named-path (frames.Signature form f ps ∷ k) h = absurd-of h
named-path (frames.Fields mutable x parent fs ∷ k) h = absurd-of h
named-path (frames.Block o ss ∷ k) h = absurd-of h
named-path (frames.Branch c ss ∷ k) h = absurd-of h
named-path (frames.Payload m quoted ∷ k) h = absurd-of h
named-path (frames.Items root is ∷ k) h = absurd-of h
named-path k h = refl

pub callee-path : (k : List Frame) → admits k levels.Callee ≡ true → takes_path k ≡ true
callee-path [] h = absurd-of h
callee-path (frames.Signature form f ps ∷ k) h = absurd-of h
callee-path (frames.Fields mutable x parent fs ∷ k) h = absurd-of h
callee-path (frames.Block o ss ∷ k) h = absurd-of h
callee-path (frames.Branch c ss ∷ k) h = absurd-of h
callee-path (frames.Payload m quoted ∷ k) h = absurd-of h
callee-path (frames.Items root is ∷ k) h = absurd-of h
callee-path k h = refl

-- a level that only frames for expressions admit
pub record Low (l : Level) : Type 0 where
  pub callee : fits levels.Callee l ≡ false
  pub named : fits levels.Named l ≡ false
  pub bare : fits levels.Bare l ≡ false

no-fit : {A : Type 0} {b : Bool} → b ≡ false → b ≡ true → A
no-fit e h = absurd-of (sym e ∙ h)

pub low-expression : (l : Level) (k : List Frame) → Low l → admits k l ≡ true → takes_expression k ≡ true
low-expression l [] low h = no-fit low.bare h
low-expression l (frames.Signature form f ps ∷ k) low h = no-fit low.bare h
low-expression l (frames.Fields mutable x parent fs ∷ k) low h = no-fit low.bare h
low-expression l (frames.Block o ss ∷ k) low h = no-fit low.bare h
low-expression l (frames.Branch c ss ∷ k) low h = no-fit low.bare h
low-expression l (frames.Payload m quoted ∷ k) low h = no-fit low.bare h
low-expression l (frames.Items root is ∷ k) low h = no-fit low.bare h
low-expression l (frames.FunctionName ∷ k) low h = no-fit low.callee h
low-expression l (frames.DirectiveFun ∷ k) low h = no-fit low.callee h
low-expression l (frames.TypeOf x p ∷ k) low h = no-fit low.named h
low-expression l (frames.Parent header ∷ k) low h = no-fit low.named h
low-expression l (frames.Types f ts ∷ k) low h = no-fit low.named h
low-expression l k low h = refl

pub low-binary : (l : Level) → Binary l → Low l
low-binary _ or = record { callee = refl; named = refl; bare = refl }
low-binary _ and = record { callee = refl; named = refl; bare = refl }
low-binary _ comparison = record { callee = refl; named = refl; bare = refl }
low-binary _ sum = record { callee = refl; named = refl; bare = refl }
low-binary _ product = record { callee = refl; named = refl; bare = refl }

-- How deep operands nest.
pub place-low : (e : Node) (k : List Frame) → e.nesting ≤ place_nesting e k
place-low e (frames.Hole purposes.Value ∷ k) = branch (takes_lines k)
  where
    branch : (b : Bool) → e.nesting ≤ (if b then e.nesting else 1 + e.nesting)
    branch true = grind arith
    branch false = grind arith
place-low e k = grind arith

pub place-high : (e : Node) (k : List Frame) → place_nesting e k ≤ 1 + e.nesting
place-high e (frames.Hole purposes.Value ∷ k) = branch (takes_lines k)
  where
    branch : (b : Bool) → (if b then e.nesting else 1 + e.nesting) ≤ 1 + e.nesting
    branch true = grind arith
    branch false = grind arith
place-high e k = grind arith

pub paths-nest : (ps : List Path) → (paths_given ps).nesting ≡ given_nesting (given.Paths ps)
unfolding paths_given no_arguments argument_before name_of
paths-nest [] = refl
paths-nest (p ∷ []) = refl
paths-nest (p ∷ q ∷ ps) = let i : (paths_given (q ∷ ps)).nesting ≡ 1 = paths-nest (q ∷ ps) in grind arith

pub given-few : (ps : List Path) → given_nesting (given.Paths ps) ≤ 1
given-few [] = grind arith
given-few (p ∷ ps) = grind arith

pub given-last : (ps : List Path) (f : Path) → given_nesting (given.Paths (ps ++ f ∷ [])) ≡ 1
given-last [] f = refl
given-last (p ∷ ps) f = refl

-- a call of names
pub call-head-low : (f : Path) (ps : List Path) (k : List Frame) → 1 + given_nesting (given.Paths ps) ≤ head_nesting (heads.Call f ps) k
unfolding call_of
call-head-low f ps k = branch (lacks f (paths_given ps)) (paths-nest ps) (given-few ps)
  where
    branch : (b : Bool) → (paths_given ps).nesting ≡ given_nesting (given.Paths ps) → given_nesting (given.Paths ps) ≤ 1
        → 1 + given_nesting (given.Paths ps) ≤ (if b then 3 else 1 + (paths_given ps).nesting)
    branch true e few = grind arith
    branch false e few = grind arith

pub call-head-high : (f : Path) (ps : List Path) (k : List Frame) → head_nesting (heads.Call f ps) k ≤ 3
unfolding call_of
call-head-high f ps k = branch (lacks f (paths_given ps)) (paths-nest ps) (given-few ps)
  where
    branch : (b : Bool) → (paths_given ps).nesting ≡ given_nesting (given.Paths ps) → given_nesting (given.Paths ps) ≤ 1
        → (if b then 3 else 1 + (paths_given ps).nesting) ≤ 3
    branch true e few = grind arith
    branch false e few = grind arith

-- what an operand that is a value nests, its node does
pub value-nests : (h : Head) (k : List Frame) → is_value h ≡ true → head_nesting h k ≤ (node h).nesting
unfolding field_of
value-nests (heads.Place e x) k v = place-high e k
value-nests (heads.Call f ps) k v = branch (lacks f (paths_given ps)) v
  where
    branch : (b : Bool) → (if b then false else true) ≡ true
        → (if b then 3 else (call_of f (paths_given ps)).nesting) ≤ (call_of f (paths_given ps)).nesting
    branch true h = absurd-of h
    branch false h = grind arith
value-nests h k v = grind arith

pub value-rises-here : (n : ℕ) (h : Head) (k : List Frame) → is_value h ≡ true → n ≤ need_at (head_nesting h k) (depth k)
    → n ≤ need_at (node h).nesting (depth k)
value-rises-here n h k v r = let e : head_nesting h k ≤ (node h).nesting = value-nests h k v in grind arith

pub some-node : (h : Head) (k : List Frame) → HeadOver h k → 1 ≤ (node h).nesting
unfolding name_of field_of call_of
some-node (heads.Name x) k o = grind arith
some-node (heads.Member m x) k o = grind arith
some-node (heads.Operator m x) k o = grind arith
some-node (heads.Place e x) k o = grind arith
some-node (heads.Call f ps) k o = grind arith
some-node (heads.Plain e) k o = o.1

-- one argument more
pub give-low : (g : Given) (h : Head) → max (given_nesting g) (node h).nesting ≤ given_nesting (give g h)
unfolding argument_after name_of
give-low (given.Paths ps) (heads.Name x) = let a : given_nesting (given.Paths (ps ++ paths.Bare x ∷ [])) ≡ 1 = given-last ps (paths.Bare x) in let b : given_nesting (given.Paths ps) ≤ 1 = given-few ps in grind arith
give-low (given.Paths ps) (heads.Member m x) = let a : given_nesting (given.Paths (ps ++ paths.Of m x ∷ [])) ≡ 1 = given-last ps (paths.Of m x) in let b : given_nesting (given.Paths ps) ≤ 1 = given-few ps in grind arith
give-low (given.Paths ps) (heads.Operator m x) = let a : given_nesting (given.Paths (ps ++ paths.Of m x ∷ [])) ≡ 1 = given-last ps (paths.Of m x) in let b : given_nesting (given.Paths ps) ≤ 1 = given-few ps in grind arith
give-low (given.Paths ps) (heads.Place e x) = let a : (paths_given ps).nesting ≡ given_nesting (given.Paths ps) = paths-nest ps in grind arith
give-low (given.Paths ps) (heads.Call f qs) = let a : (paths_given ps).nesting ≡ given_nesting (given.Paths ps) = paths-nest ps in grind arith
give-low (given.Paths ps) (heads.Plain e) = let a : (paths_given ps).nesting ≡ given_nesting (given.Paths ps) = paths-nest ps in grind arith
give-low (given.Mixed es) h = grind arith

-- A dot.
field-rises : (n : ℕ) (e : Node) (k : List Frame) → Stack k → 1 ≤ e.nesting → n ≤ need_at e.nesting (depth k)
    → Rise n (guarded (admits k levels.Postfix) (at (modes.Field e true) k))
unfolding need
field-rises n e k st some r = guard-rises n (admits k levels.Postfix) _
    (λ a. record { stack = st; good = (low-expression levels.Postfix k (record { callee = refl; named = refl; bare = refl }) a, some); rises = (let l : e.nesting ≤ place_nesting e k = place-low e k in grind arith) })

value-field-rises : (n : ℕ) (e : Node) (k : List Frame) → Stack k → 1 ≤ e.nesting → n ≤ need_at e.nesting (depth k)
    → Rise n (guarded (admits k levels.Postfix) (at (modes.Field e false) k))
unfolding need
value-field-rises n e k st some r = guard-rises n (admits k levels.Postfix) _
    (λ a. record { stack = st; good = (low-expression levels.Postfix k (record { callee = refl; named = refl; bare = refl }) a, some); rises = grind arith })

pub dot-rises : (n : ℕ) (modules : Modules) (h : Head) (k : List Frame) → Stack k → HeadOver h k → is_value h ≡ true
    → n ≤ need_at (head_nesting h k) (depth k) → Rise n (have_dot modules h k)
unfolding need name_of field_of
dot-rises n modules (heads.Name x) k st o v r = if-rises n (is_module modules x.text) _ _
    (λ e. guard-rises n (admits k levels.Named) _ (λ a. record { stack = st; good = named-path k a; rises = r }))
    (λ e. field-rises n (name_of (paths.Bare x)) k st (grind arith) r)
dot-rises n modules (heads.Member m x) k st o v r = field-rises n (name_of (paths.Of m x)) k st (grind arith) r
dot-rises n modules (heads.Place e x) k st o v r = field-rises n (field_of e x) k st (grind arith) (let l : place_nesting e k ≤ 1 + e.nesting = place-high e k in grind arith)
dot-rises n modules (heads.Operator m x) k st o v r = value-field-rises n (node (heads.Operator m x)) k st (some-node (heads.Operator m x) k o) (value-rises-here n (heads.Operator m x) k v r)
dot-rises n modules (heads.Call f ps) k st o v r = value-field-rises n (node (heads.Call f ps)) k st (some-node (heads.Call f ps) k o) (value-rises-here n (heads.Call f ps) k v r)
dot-rises n modules (heads.Plain e) k st o v r = value-field-rises n e k st (some-node (heads.Plain e) k o) (value-rises-here n (heads.Plain e) k v r)

-- A parenthesis.
call-rises : (n : ℕ) (f : Path) (k : List Frame) → Stack k → n ≤ need_at 1 (depth k)
    → Rise n (guarded (admits k levels.Primary) (at modes.Arguments (frames.Call f (given.Paths []) ∷ k)))
unfolding need depth
call-rises n f k st r = guard-rises n (admits k levels.Primary) _
    (λ a. record { stack = (low-expression levels.Primary k (record { callee = refl; named = refl; bare = refl }) a, st); good = refl; rises = grind arith })

open-rises : (n : ℕ) (f : Path) (k : List Frame) → Stack k → n ≤ need_at 1 (depth k) → Rise n (open_call f k)
unfolding need depth
open-rises n f (frames.FunctionName ∷ k) st r = record { stack = st; good = refl; rises = grind arith }
open-rises n f k st r = call-rises n f k st r

direct-rises : (n : ℕ) (h : Head) (k : List Frame) → Stack k → n ≤ need_at (head_nesting h k) (depth k) → Rise n (open_direct (head_path h) k)
unfolding name_of
direct-rises n (heads.Name x) k st r = open-rises n (paths.Bare x) k st r
direct-rises n (heads.Member m x) k st r = open-rises n (paths.Of m x) k st r
direct-rises n (heads.Operator m x) k st r = open-rises n (paths.Of m x) k st r
direct-rises n h k st r = tt

apart-rises : (n : ℕ) (h : Head) (k : List Frame) → Stack k → n ≤ need_at (head_nesting h k) (depth k) → Rise n (open_apart h k)
unfolding need depth name_of
apart-rises n (heads.Name x) (frames.Hole purposes.Value ∷ k) st r = if-rises n (bytes_eq x.text (codes "eval")) _ _
    (λ e. guard-rises n (takes_lines k) _ (λ a. record { stack = st.1; good = a; rises = grind arith }))
    (λ e. guard-rises n (bytes_eq x.text (codes "precompile") && takes_directives k) _
    (λ a. let i : takes_items k ≡ true = directives-items k (and-right (bytes_eq x.text (codes "precompile")) (takes_directives k) a) in let z : (depth k).above ≡ 0 = flat k i st.1 in record { stack = (i, st.1); good = refl; rises = grind arith }))
apart-rises n h k st r = tt

pub paren-rises : (n : ℕ) (h : Head) (k : List Frame) (blank : Bool) → Stack k → n ≤ need_at (head_nesting h k) (depth k) → Rise n (have_paren h k blank)
paren-rises n h k false st r = direct-rises n h k st r
paren-rises n h k true st r = apart-rises n h k st r

-- Operators.
height-some : (s : Sign) → 1 ≤ infix_height s
height-some signs.NotSame = grind arith
height-some s = grind arith

pub extend-rises : (n : ℕ) (l : Level) (s : Sign) (p : ℕ) (settled : Settled) → Binary l → Ended n settled → Rise n (extend l s p settled)
unfolding need depth
extend-rises n l s p settled b ended = guard-rises n (admits settled.frames l) _
    (λ a. record { stack = (low-expression l settled.frames (low-binary l b) a, ended.stack); good = refl; rises = (let r : n ≤ need_at (node settled.head).nesting (depth settled.frames) = ended.rises in let i : 1 ≤ infix_height s = height-some s in grind arith) })

pub ask-rises : (n : ℕ) (settled : Settled) → Ended n settled → Rise n (ask settled)
unfolding need depth
ask-rises n settled ended = guard-rises n (admits settled.frames levels.Conditional) _
    (λ a. record { stack = (low-expression levels.Conditional settled.frames (record { callee = refl; named = refl; bare = refl }) a, ended.stack); good = refl; rises = (let r : n ≤ need_at (node settled.head).nesting (depth settled.frames) = ended.rises in grind arith) })

-- Assignments and short definitions.
pub define-rises : (n : ℕ) (f : Path) (ps : Option (List Param)) (k : List Frame) → Stack k → n ≤ need_at 4 (depth k) → Rise n (define f ps k)
unfolding need depth
define-rises n f (Some ps) k st r = guard-rises n (takes_definition k) _ (λ a. record { stack = (a, st); good = refl; rises = grind arith })
define-rises n f None k st r = tt
