-- What an operand becomes by the token behind it keeps what has been read: an assignment, a definition, a name with a type, or the end of an expression.
use Rattle.pj_grammar.proofs.Begun.{Opens, ShortBegun, Under, assign_begun, assigns, binds, defines, hole_begun, named_type, type_begun, under}
use Rattle.pj_grammar.proofs.Concluding.{first-stands, value-stands}
use Rattle.pj_grammar.proofs.Directing.{after-type-stands, directive-named}
use Rattle.pj_grammar.proofs.Ending.{lines-open}
use Rattle.pj_grammar.proofs.Follow.{over}
use Rattle.pj_grammar.proofs.Having.{dot-stands, paren-stands}
use Rattle.pj_grammar.proofs.Heading.{field-added, parent-stands, type-stands}
use Rattle.pj_grammar.proofs.Holding.{operand-path}
use Rattle.pj_grammar.proofs.Levels.{absurd-of}
use Rattle.pj_grammar.proofs.Lining.{opens-value}
use Rattle.pj_grammar.proofs.Naming.{function-named}
use Rattle.pj_grammar.proofs.Operating.{guard-stands, infix-stands, question-stands, stands-text}
use Rattle.pj_grammar.proofs.Settling.{opens-more}
use Rattle.pj_grammar.proofs.Signing.{below-value, param-added, typed-call}
use Rattle.pj_grammar.proofs.Standing.{Operand, Stands, a_call, a_member, a_name, a_place, an_expression, an_operator, bare_at}
use Rattle.pj_grammar.specs.Expressions.{Callee, Named, bare, of_module}
use Rattle.pj_grammar.specs.Frames.{admits, at, head_path, is_value, params_of, settle, takes_definition, takes_lines}
use Rattle.pj_grammar.specs.Levels.{left_of, level_of}
use Rattle.pj_grammar.specs.Modules.{Modules}
use Rattle.pj_grammar.specs.Operands.{add_name, after_path, ask, define, extend, have, have_assign, have_dot, have_next, have_other, have_path, have_type, is_plain, next_assignment, next_infix}
use Rattle.pj_grammar.specs.Statements.{Assigned, Parameters, assigning, operator_at, to_field, to_name, untyped, with_name}
use Rattle.pj_grammar.specs.Texts.{Kind, field}
use Rattle.pj_grammar.specs.Tokens.{Place, name, sign, spot, token}
use Rattle.pj_grammar.specs.declared.frame.Frame.{Frame}
use Rattle.pj_grammar.specs.declared.frame.Target.{Target}
use Rattle.pj_grammar.specs.declared.level.Level.{Level}
use Rattle.pj_grammar.specs.declared.mode.Head.{Head}
use Rattle.pj_grammar.specs.declared.node.Node.{Node}
use Rattle.pj_lex.specs.declared.sign.Sign.{Sign}
use Rattle.pj_lex.specs.declared.token.Token.{Token}
use Rattle.pj_lex.specs.declared.token.TokenKind.{TokenKind}
use Rattle.pj_syntax.specs.declared.expression.Path.{Path}
use Rattle.pj_syntax.specs.declared.expression.Spot.{Spot}
use Rattle.pj_syntax.specs.declared.statement.Param.{Param}
use Rattle.std.proofs.Common.{Bool, List, None, Option, Some, [], ap, false, refl, subst, sym, true, ℕ, ◌++◌, ◌∙◌, ◌∷◌, ◌≡◌}
use Rattle.std.proofs.lemmas.List.{append_assoc}
use Rattle.pj_grammar.specs.declared.frame.Frame.TheVariants as frames
use Rattle.pj_grammar.specs.declared.frame.Given.TheVariants as given
use Rattle.pj_grammar.specs.declared.mode.Head.TheVariants as heads
use Rattle.pj_lex.specs.declared.token.TokenKind.TheVariants as kinds
use Rattle.pj_grammar.specs.declared.level.Level.TheVariants as levels
use Rattle.pj_grammar.specs.declared.mode.Mode.TheVariants as modes
use Rattle.pj_grammar.specs.declared.frame.Purpose.TheVariants as purposes
use Rattle.pj_lex.specs.declared.sign.Sign.TheVariants as signs
use Rattle.pj_grammar.specs.declared.frame.Target.TheVariants as targets

is-assign : (s : Sign) → assigning s ≡ Some None → s ≡ signs.Assign
is-assign signs.Assign h = refl
is-assign s h = cc

is-none : (o : Option Sign) → is_plain o ≡ true → o ≡ None
is-none None h = refl
is-none (Some s) h = absurd-of h

-- an assignment of a statement
line-assigns : (modules : Modules) (kind : Kind) (target : Target) (k : List Frame) (before ts : List Token) (p : Place) (s : Sign) (o : Option Sign) → takes_lines k ≡ true
    → Under modules kind k before → Assigned modules ts target → assigning s ≡ Some o
    → Stands modules kind (at modes.Want (frames.Hole (purposes.Assign target (operator_at p.start o)) ∷ k)) (before ++ ts ++ sign p s ∷ [])
line-assigns modules kind target k before ts p s o takes u a is =
    stands-text modules kind (at modes.Want (frames.Hole (purposes.Assign target (operator_at p.start o)) ∷ k)) (before ++ (ts ++ sign p s ∷ [])) (before ++ ts ++ sign p s ∷ []) (simp append_assoc)
    (bare_at refl (under u (lines-open modules k (ts ++ sign p s ∷ []) takes) (hole_begun (assigns p s takes (assign_begun a) is))))

-- a name that a payload binds
payload-binds : (modules : Modules) (kind : Kind) (m : Option Spot) (quoted : Bool) (k : List Frame) (before : List Token) (q p : Place) (x : List ℕ) (s : Sign) → s ≡ signs.Assign
    → Under modules kind (frames.Payload m quoted ∷ k) before → Opens modules (frames.Payload m quoted ∷ k) (name q x ∷ sign p s ∷ [])
    → Stands modules kind (at modes.Want (frames.Hole (purposes.Assign (targets.Local (spot q x)) None) ∷ frames.Payload m quoted ∷ k)) (before ++ name q x ∷ sign p s ∷ [])
payload-binds modules kind m quoted k before q p x s is u o =
    stands-text modules kind (at modes.Want (frames.Hole (purposes.Assign (targets.Local (spot q x)) None) ∷ frames.Payload m quoted ∷ k)) (before ++ name q x ∷ sign p signs.Assign ∷ []) (before ++ name q x ∷ sign p s ∷ [])
    (ap (λ l. before ++ name q x ∷ sign p l ∷ []) (sym is))
    (bare_at refl (under u (subst (λ l. Opens modules (frames.Payload m quoted ∷ k) (name q x ∷ sign p l ∷ [])) is o) (hole_begun (binds q p x))))

name-assigns : (modules : Modules) (kind : Kind) (k : List Frame) (before : List Token) (q p : Place) (x : List ℕ) (s : Sign) (o : Option Sign)
    → Under modules kind k before → Opens modules k (name q x ∷ sign p s ∷ []) → assigning s ≡ Some o
    → Stands modules kind (have_assign (heads.Name (spot q x)) k p.start o) (before ++ name q x ∷ [] ++ sign p s ∷ [])
name-assigns modules kind (frames.Hole purposes.Value ∷ frames.Payload m quoted ∷ k) before q p x s o u opened is =
    guard-stands modules kind (is_plain o) (at modes.Want (frames.Hole (purposes.Assign (targets.Local (spot q x)) None) ∷ frames.Payload m quoted ∷ k)) (before ++ name q x ∷ [] ++ sign p s ∷ [])
    (λ plain. stands-text modules kind (at modes.Want (frames.Hole (purposes.Assign (targets.Local (spot q x)) None) ∷ frames.Payload m quoted ∷ k)) (before ++ name q x ∷ sign p s ∷ []) (before ++ name q x ∷ [] ++ sign p s ∷ []) (simp append_assoc)
    (payload-binds modules kind m quoted k before q p x s (is-assign s (is ∙ ap (λ l. Some l) (is-none o plain))) (below-value u).under opened))
name-assigns modules kind (frames.Hole purposes.Value ∷ frames.Block b ss ∷ k) before q p x s o u opened is =
    line-assigns modules kind (targets.Local (spot q x)) (frames.Block b ss ∷ k) before (name q x ∷ []) p s o refl (below-value u).under (to_name q x) is
name-assigns modules kind (frames.Hole purposes.Value ∷ frames.Items root is ∷ k) before q p x s o u opened sets =
    line-assigns modules kind (targets.Local (spot q x)) (frames.Items root is ∷ k) before (name q x ∷ []) p s o refl (below-value u).under (to_name q x) sets
name-assigns modules kind (frames.Hole purposes.Value ∷ k) before q p x s o u opened is = absurd-of (below-value u).takes
name-assigns modules kind k before q p x s o u opened is = tt

-- a field that is set
place-assigns : (modules : Modules) (kind : Kind) (e : Node) (x : Spot) (k : List Frame) (before ts : List Token) (p : Place) (s : Sign) (o : Option Sign)
    → Under modules kind k before → Assigned modules ts (targets.Field e x) → assigning s ≡ Some o
    → Stands modules kind (have_assign (heads.Place e x) k p.start o) (before ++ ts ++ sign p s ∷ [])
place-assigns modules kind e x (frames.Hole purposes.Value ∷ k) before ts p s o u a is =
    guard-stands modules kind (takes_lines k) (at modes.Want (frames.Hole (purposes.Assign (targets.Field e x) (operator_at p.start o)) ∷ k)) (before ++ ts ++ sign p s ∷ [])
    (λ takes. line-assigns modules kind (targets.Field e x) k before ts p s o takes (below-value u).under a is)
place-assigns modules kind e x k before ts p s o u a is = tt

-- a short definition
call-defines : (modules : Modules) (kind : Kind) (f : Path) (ps : List Path) (k : List Frame) (before ts us : List Token) (p : Place) (s : Sign) → s ≡ signs.Assign
    → Under modules kind (frames.Hole purposes.Value ∷ k) before → Opens modules (frames.Hole purposes.Value ∷ k) (ts ++ us) → ShortBegun modules f ts
    → ((qs : List Param) → params_of ps ≡ Some qs → Parameters modules us qs)
    → Stands modules kind (define f (params_of ps) k) (before ++ (ts ++ us) ++ sign p s ∷ [])
call-defines modules kind f ps k before ts us p s is u o begun params = by-params (params_of ps) refl
  where
    by-params : (r : Option (List Param)) → params_of ps ≡ r → Stands modules kind (define f r k) (before ++ (ts ++ us) ++ sign p s ∷ [])
    by-params None e = tt
    by-params (Some qs) e =
        guard-stands modules kind (takes_definition k) (at modes.Want (frames.Hole (purposes.Short f qs) ∷ k)) (before ++ (ts ++ us) ++ sign p s ∷ []) (λ takes.
        stands-text modules kind (at modes.Want (frames.Hole (purposes.Short f qs) ∷ k)) (before ++ (ts ++ (us ++ sign p signs.Assign ∷ []))) (before ++ (ts ++ us) ++ sign p s ∷ [])
        (simp append_assoc refl ∙ ap (λ l. before ++ (ts ++ us) ++ sign p l ∷ []) (sym is))
        (bare_at refl (under (below-value u).under
        (opens-more modules k (ts ++ us) (sign p signs.Assign ∷ []) (ts ++ (us ++ sign p signs.Assign ∷ [])) (opens-value modules k (ts ++ us) (below-value u).takes o) (append_assoc ts us (sign p signs.Assign ∷ [])))
        (hole_begun (defines p takes begun (params qs e))))))

call-assigns : (modules : Modules) (kind : Kind) (f : Path) (ps : List Path) (k : List Frame) (before ts us : List Token) (p : Place) (s : Sign) (o : Option Sign)
    → Under modules kind k before → Opens modules k (ts ++ us) → ShortBegun modules f ts → ((qs : List Param) → params_of ps ≡ Some qs → Parameters modules us qs) → assigning s ≡ Some o
    → Stands modules kind (have_assign (heads.Call f ps) k p.start o) (before ++ (ts ++ us) ++ sign p s ∷ [])
call-assigns modules kind f ps (frames.Hole purposes.Value ∷ k) before ts us p s None u o begun params is = call-defines modules kind f ps k before ts us p s (is-assign s is) u o begun params
call-assigns modules kind f ps k before ts us p s r u o begun params is = tt

pub assign-stands : (modules : Modules) (kind : Kind) (h : Head) (k : List Frame) (before ts : List Token) (p : Place) (s : Sign) (o : Option Sign)
    → Under modules kind k before → Opens modules k ts → Operand modules h k ts → assigning s ≡ Some o
    → Stands modules kind (have_assign h k p.start o) (before ++ ts ++ sign p s ∷ [])
assign-stands modules kind _ k before _ p s o u opened (a_name q x) is =
    name-assigns modules kind k before q p x s o u (opens-more modules k (name q x ∷ []) (sign p s ∷ []) (name q x ∷ sign p s ∷ []) opened refl) is
assign-stands modules kind _ k before _ p s o u opened (a_place q r x d adm) is = place-assigns modules kind _ (spot r x) k before _ p s o u (to_field q r x d) is
assign-stands modules kind _ k before _ p s o u opened (a_call {ts = ts} {us = us} {f = f} {ps = ps} adm begun args params lone) is = call-assigns modules kind f ps k before ts us p s o u opened begun params is
assign-stands modules kind _ k before _ p s o u opened (a_member q r t m x known adm) is = tt
assign-stands modules kind _ k before _ p s o u opened (an_operator q r t b x known adm) is = tt
assign-stands modules kind _ k before _ p s o u opened (an_expression adm fields d) is = tt

-- `::` behind a name
name-typed : (modules : Modules) (kind : Kind) (k : List Frame) (before : List Token) (q p : Place) (x : List ℕ) → Under modules kind k before
    → Stands modules kind (have_type (heads.Name (spot q x)) k) (before ++ name q x ∷ sign p signs.DoubleColon ∷ [])
name-typed modules kind (frames.Signature form f ps ∷ k) before q p x u = bare_at refl (under u (λ rest. refl) (type_begun refl (named_type q p x)))
name-typed modules kind (frames.Fields mutable s parent fs ∷ k) before q p x u = bare_at refl (under u (λ rest. refl) (type_begun refl (named_type q p x)))
name-typed modules kind (frames.Call f (given.Paths ps) ∷ frames.Hole purposes.Value ∷ k) before q p x u =
    typed-call modules kind (Some (spot q x)) q.start f ps k before (name q x ∷ sign p signs.DoubleColon ∷ []) u (named_type q p x)
name-typed modules kind k before q p x u = tt

pub have-type-stands : (modules : Modules) (kind : Kind) (h : Head) (k over : List Frame) (before ts : List Token) (p : Place) → Under modules kind k before → Operand modules h over ts
    → Stands modules kind (have_type h k) (before ++ ts ++ sign p signs.DoubleColon ∷ [])
have-type-stands modules kind _ k over before _ p u (a_name q x) =
    stands-text modules kind (have_type (heads.Name (spot q x)) k) (before ++ name q x ∷ sign p signs.DoubleColon ∷ []) (before ++ name q x ∷ [] ++ sign p signs.DoubleColon ∷ []) (simp append_assoc)
    (name-typed modules kind k before q p x u)
have-type-stands modules kind _ k over before _ p u (a_member q r t m x known adm) = tt
have-type-stands modules kind _ k over before _ p u (an_operator q r t b x known adm) = tt
have-type-stands modules kind _ k over before _ p u (a_place q r x d adm) = tt
have-type-stands modules kind _ k over before _ p u (a_call adm begun args params lone) = tt
have-type-stands modules kind _ k over before _ p u (an_expression adm fields d) = tt

-- a type's name
same-path : {a b : Path} → Some a ≡ Some b → a ≡ b
same-path h = cc

head-named : {modules : Modules} {h : Head} (k : List Frame) {ts : List Token} → Operand modules h k ts → admits k levels.Callee ≡ false → (f : Path) → head_path h ≡ Some f
    → Named modules ts f
head-named {modules} k {ts} (a_name p x) closed f e = subst (λ g. Named modules ts g) (same-path e) (bare p x)
head-named {modules} k {ts} (a_member p q r m x is adm) closed f e = subst (λ g. Named modules ts g) (same-path e) (of_module p q r m x is)
head-named k (an_operator p q r o s is adm) closed f e = absurd-of (sym closed ∙ adm)
head-named k (a_place p q x d adm) closed f e = cc
head-named k (a_call adm s args params lone) closed f e = cc
head-named k (an_expression adm fields d) closed f e = cc

path-behind : (modules : Modules) (kind : Kind) (f : Frame) (h : Head) (k : List Frame) (before ts : List Token) (p : Place) (what : TokenKind)
    → ((t : Path) → head_path h ≡ Some t → Stands modules kind (after_path f t k p.start what) (before ++ ts ++ token p what ∷ []))
    → Stands modules kind (have_path f (head_path h) k p.start what) (before ++ ts ++ token p what ∷ [])
path-behind modules kind f h k before ts p what g = by-path (head_path h) refl
  where
    by-path : (r : Option Path) → head_path h ≡ r → Stands modules kind (have_path f r k p.start what) (before ++ ts ++ token p what ∷ [])
    by-path None e = tt
    by-path (Some t) e = g t e

directive-path : (modules : Modules) (kind : Kind) (t : Path) (k : List Frame) (before ts : List Token) (p : Place) (what : TokenKind) → Under modules kind (frames.DirectiveFun ∷ k) before
    → Callee modules ts t → Stands modules kind (after_path frames.DirectiveFun t k p.start what) (before ++ ts ++ token p what ∷ [])
directive-path modules kind t k before ts p what u c = by-kind what
  where
    by-sign : (s : Sign) → Stands modules kind (after_path frames.DirectiveFun t k p.start (kinds.Sign s)) (before ++ ts ++ sign p s ∷ [])
    by-sign signs.Comma = directive-named modules kind t k before ts p u c
    by-sign s = tt

    by-kind : (what : TokenKind) → Stands modules kind (after_path frames.DirectiveFun t k p.start what) (before ++ ts ++ token p what ∷ [])
    by-kind (kinds.Sign s) = by-sign s
    by-kind what = tt

-- a parameter or field that is a name alone
name-added : (modules : Modules) (kind : Kind) (h : Head) (k over : List Frame) (before ts : List Token) (p : Place) (what : TokenKind) → Under modules kind k before → Operand modules h over ts
    → Stands modules kind (add_name h k what) (before ++ ts ++ token p what ∷ [])
name-added modules kind _ (frames.Signature form f ps ∷ k) over before _ p what u (a_name q x) = param-added modules kind form f ps k before _ _ p what u (with_name q x untyped)
name-added modules kind _ (frames.Fields mutable s parent fs ∷ k) over before _ p what u (a_name q x) = field-added modules kind mutable s parent fs k before _ _ p what u (field q x untyped)
name-added modules kind _ k over before _ p what u (a_name q x) = tt
name-added modules kind _ k over before _ p what u (a_member q r t m x known adm) = tt
name-added modules kind _ k over before _ p what u (an_operator q r t b x known adm) = tt
name-added modules kind _ k over before _ p what u (a_place q r x d adm) = tt
name-added modules kind _ k over before _ p what u (a_call adm begun args params lone) = tt
name-added modules kind _ k over before _ p what u (an_expression adm fields d) = tt

-- any other token
pub other-stands : (modules : Modules) (kind : Kind) (h : Head) (k : List Frame) (before ts : List Token) (p : Place) (what : TokenKind)
    → Under modules kind k before → Opens modules k ts → Operand modules h k ts
    → Stands modules kind (have_other h k p.start what) (before ++ ts ++ token p what ∷ [])
other-stands modules kind h (frames.FunctionName ∷ k) before ts p what u o d = function-named modules kind h k before ts p what u d
other-stands modules kind h (frames.Signature form f ps ∷ k) before ts p what u o d = name-added modules kind h (frames.Signature form f ps ∷ k) (frames.Signature form f ps ∷ k) before ts p what u d
other-stands modules kind h (frames.Fields mutable x parent fs ∷ k) before ts p what u o d = name-added modules kind h (frames.Fields mutable x parent fs ∷ k) (frames.Fields mutable x parent fs ∷ k) before ts p what u d
other-stands modules kind h (frames.TypeOf x first ∷ k) before ts p what u o d =
    path-behind modules kind (frames.TypeOf x first) h k before ts p what (λ t e. type-stands modules kind x first t k before ts p what u (head-named (frames.TypeOf x first ∷ k) d refl t e))
other-stands modules kind h (frames.Parent l ∷ k) before ts p what u o d =
    path-behind modules kind (frames.Parent l) h k before ts p what (λ t e. parent-stands modules kind l t k before ts p what u (head-named (frames.Parent l ∷ k) d refl t e))
other-stands modules kind h (frames.DirectiveFun ∷ k) before ts p what u o d =
    path-behind modules kind frames.DirectiveFun h k before ts p what (λ t e. directive-path modules kind t k before ts p what u (operand-path d t e))
other-stands modules kind h (frames.Types f list ∷ k) before ts p what u o d =
    path-behind modules kind (frames.Types f list) h k before ts p what (λ t e. after-type-stands modules kind f t list k before ts p what u (head-named (frames.Types f list ∷ k) d refl t e))
other-stands modules kind h (frames.Hole purposes.Value ∷ k) before ts p what u o d = first-stands modules kind h k before ts p what u o d
other-stands modules kind h k before ts p what u o d = value-stands modules kind h k before ts p what u o d

-- What follows an operand.
pub have-stands : (modules : Modules) (kind : Kind) (h : Head) (k : List Frame) (before ts : List Token) (p : Place) (what : TokenKind)
    → Under modules kind k before → Opens modules k ts → Operand modules h k ts
    → Stands modules kind (have modules h k p what) (before ++ ts ++ token p what ∷ [])
have-stands modules kind h k before ts p what u o d = by-kind what
  where
    by-assigning : (s : Sign) (r : Option (Option Sign)) → assigning s ≡ r → Stands modules kind (have_next modules h k p (kinds.Sign s) (next_assignment r)) (before ++ ts ++ sign p s ∷ [])
    by-assigning s None e = other-stands modules kind h k before ts p (kinds.Sign s) u o d
    by-assigning s (Some r) e = assign-stands modules kind h k before ts p s r u o d e

    by-level : (s : Sign) (r : Option Level) → level_of s ≡ r → Stands modules kind (have_next modules h k p (kinds.Sign s) (next_infix s r)) (before ++ ts ++ sign p s ∷ [])
    by-level s None e = by-assigning s (assigning s) refl
    by-level s (Some l) e =
        guard-stands modules kind (is_value h) (extend l s p.start (settle (left_of l) h k)) (before ++ ts ++ sign p s ∷ []) (λ v. infix-stands modules kind h k before ts l p s u o d v e)

    by-sign : (s : Sign) → Stands modules kind (have modules h k p (kinds.Sign s)) (before ++ ts ++ sign p s ∷ [])
    by-sign signs.Dot = guard-stands modules kind (is_value h) (have_dot modules h k) (before ++ ts ++ sign p signs.Dot ∷ []) (λ v. dot-stands modules kind h k before ts p u o d v)
    by-sign signs.LeftParen = paren-stands modules kind h k before ts p u o d
    by-sign signs.Question =
        guard-stands modules kind (is_value h) (ask (settle levels.Disjunction h k)) (before ++ ts ++ sign p signs.Question ∷ []) (λ v. question-stands modules kind h k before ts p u o d v)
    by-sign signs.DoubleColon = have-type-stands modules kind h k k before ts p u d
    by-sign s = by-level s (level_of s) refl

    by-kind : (what : TokenKind) → Stands modules kind (have modules h k p what) (before ++ ts ++ token p what ∷ [])
    by-kind (kinds.Sign s) = by-sign s
    by-kind what = other-stands modules kind h k before ts p what u o d
