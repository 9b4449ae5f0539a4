-- A dot and a parenthesis behind an operand keep what has been read.
use Rattle.pj_grammar.proofs.Begun.{Opens, ShortBegun, Under, call_begun, directive_function, function_begun, infix_begun, long_begun, long_signature, no_parameter, no_paths, short_begun, under}
use Rattle.pj_grammar.proofs.Calling.{fields-given}
use Rattle.pj_grammar.proofs.Concluding.{purpose-admits}
use Rattle.pj_grammar.proofs.Directing.{and-first, and-second, directives-lines, text-eq}
use Rattle.pj_grammar.proofs.Ending.{lines-open}
use Rattle.pj_grammar.proofs.Follow.{over}
use Rattle.pj_grammar.proofs.Holding.{operand-path, operand-reads}
use Rattle.pj_grammar.proofs.Levels.{Binary, absurd-of, and, binary, comparison, or, product, sum}
use Rattle.pj_grammar.proofs.Lining.{if-stands}
use Rattle.pj_grammar.proofs.Operating.{guard-stands, stands-text}
use Rattle.pj_grammar.proofs.Settling.{opens-more}
use Rattle.pj_grammar.proofs.Signing.{below-value}
use Rattle.pj_grammar.proofs.Standing.{Operand, Stands, a_call, a_member, a_name, a_place, an_expression, an_operator, bare_at, before_colon, field_of_place, field_of_value, has_module, over_frames}
use Rattle.pj_grammar.specs.Expressions.{Callee, Given as Arguing, has_fields}
use Rattle.pj_grammar.specs.Frames.{admits, at, guarded, head_path, is_value, node, takes_directives, takes_lines}
use Rattle.pj_grammar.specs.Levels.{fits, right_of}
use Rattle.pj_grammar.specs.Makers.{field_of, name_of}
use Rattle.pj_grammar.specs.Modules.{Modules, is_module}
use Rattle.pj_grammar.specs.Operands.{have_dot, have_paren, open_apart, open_call, open_direct}
use Rattle.pj_grammar.specs.Statements.{a_field, a_member as member_holder, a_name as name_holder}
use Rattle.pj_grammar.specs.Texts.{Kind}
use Rattle.pj_grammar.specs.Tokens.{Place, name, sign, spot, word}
use Rattle.pj_grammar.specs.declared.frame.Frame.{Frame}
use Rattle.pj_grammar.specs.declared.level.Level.{Level}
use Rattle.pj_grammar.specs.declared.mode.Head.{Head}
use Rattle.pj_grammar.specs.declared.node.Arguments.{Arguments}
use Rattle.pj_lex.specs.declared.token.Token.{Token}
use Rattle.pj_syntax.specs.declared.expression.Path.{Path}
use Rattle.std.proofs.Common.{Bool, List, None, Option, Some, [], ap, codes, false, refl, subst, sym, true, ℕ, ◌&&◌, ◌++◌, ◌∷◌, ◌≡◌}
use Rattle.std.proofs.lemmas.List.{append-nil, append_assoc}
use Rattle.std.specs.Str.{bytes_eq}
use Rattle.pj_grammar.specs.declared.frame.Form.TheVariants as forms
use Rattle.pj_grammar.specs.declared.frame.Frame.TheVariants as frames
use Rattle.pj_grammar.specs.declared.frame.Given.TheVariants as given
use Rattle.pj_grammar.specs.declared.mode.Head.TheVariants as heads
use Rattle.pj_grammar.specs.declared.level.Level.TheVariants as levels
use Rattle.pj_grammar.specs.declared.mode.Mode.TheVariants as modes
use Rattle.pj_syntax.specs.declared.expression.Path.TheVariants as paths
use Rattle.pj_grammar.specs.declared.frame.Purpose.TheVariants as purposes
use Rattle.pj_lex.specs.declared.sign.Sign.TheVariants as signs
use Rattle.pj_words.specs.declared.word.Word.TheVariants as words

-- a dot
call-fields : {modules : Modules} {ts us : List Token} {f : Path} {es : Arguments} → ShortBegun modules f ts → Arguing modules us es → has_fields modules (ts ++ us) ≡ true
call-fields {modules} {us = us} (short_begun {ts = cs} p c direct) d =
    subst (λ l. has_fields modules l ≡ true) (sym (append_assoc cs (sign p signs.LeftParen ∷ []) us)) (fields-given cs (sign p signs.LeftParen) d)

dot-behind : (modules : Modules) (kind : Kind) (h : Head) (k : List Frame) (before ts : List Token) (p : Place)
    → Under modules kind k before → Opens modules k (ts ++ sign p signs.Dot ∷ []) → Operand modules h k ts → is_value h ≡ true
    → Stands modules kind (have_dot modules h k) (before ++ (ts ++ sign p signs.Dot ∷ []))
dot-behind modules kind _ k before _ p u o (a_name q x) v =
    if-stands modules kind (is_module modules x) (guarded (admits k levels.Named) (at (modes.Member (spot q x)) k)) (guarded (admits k levels.Postfix) (at (modes.Field (name_of (paths.Bare (spot q x))) true) k))
    (before ++ name q x ∷ sign p signs.Dot ∷ [])
    (λ known. guard-stands modules kind (admits k levels.Named) (at (modes.Member (spot q x)) k) _ (λ adm. over_frames u o (has_module q p x known adm)))
    (λ known. guard-stands modules kind (admits k levels.Postfix) (at (modes.Field (name_of (paths.Bare (spot q x))) true) k) _ (λ adm. over_frames u o (field_of_place p adm (name_holder q x known))))
dot-behind modules kind _ k before _ p u o (a_member q r s m x known adm) v =
    guard-stands modules kind (admits k levels.Postfix) (at (modes.Field (name_of (paths.Of (spot q m) (spot s x))) true) k) _ (λ takes. over_frames u o (field_of_place p takes (member_holder q r s m x known)))
dot-behind modules kind _ k before _ p u o (a_place {ts = ts} {e = e} q r x d adm) v =
    guard-stands modules kind (admits k levels.Postfix) (at (modes.Field (field_of e (spot r x)) true) k) _ (λ takes. over_frames u o (field_of_place p takes (a_field q r x d)))
dot-behind modules kind h k before _ p u o (an_operator q r s b x known adm) v =
    guard-stands modules kind (admits k levels.Postfix) (at (modes.Field (node h) false) k) _ (λ takes. over_frames u o (field_of_value p takes refl (operand-reads {k = k} (an_operator q r s b x known adm) v)))
dot-behind modules kind h k before _ p u o (a_call adm s args params lone) v =
    guard-stands modules kind (admits k levels.Postfix) (at (modes.Field (node h) false) k) _ (λ takes. over_frames u o (field_of_value p takes (call-fields s args) (operand-reads {k = k} (a_call adm s args params lone) v)))
dot-behind modules kind h k before _ p u o (an_expression adm fields d) v =
    guard-stands modules kind (admits k levels.Postfix) (at (modes.Field (node h) false) k) _ (λ takes. over_frames u o (field_of_value p takes fields d))

pub dot-stands : (modules : Modules) (kind : Kind) (h : Head) (k : List Frame) (before ts : List Token) (p : Place)
    → Under modules kind k before → Opens modules k ts → Operand modules h k ts → is_value h ≡ true
    → Stands modules kind (have_dot modules h k) (before ++ ts ++ sign p signs.Dot ∷ [])
dot-stands modules kind h k before ts p u o d v =
    stands-text modules kind (have_dot modules h k) (before ++ (ts ++ sign p signs.Dot ∷ [])) (before ++ ts ++ sign p signs.Dot ∷ []) (simp append_assoc)
    (dot-behind modules kind h k before ts p u (opens-more modules k ts (sign p signs.Dot ∷ []) (ts ++ sign p signs.Dot ∷ []) o refl) d v)

-- what takes a call takes a field too
infix-admits : (l : Level) → Binary l → fits (right_of l) levels.Postfix ≡ true
infix-admits _ or = refl
infix-admits _ and = refl
infix-admits _ comparison = refl
infix-admits _ sum = refl
infix-admits _ product = refl

primary-admits : {modules : Modules} {kind : Kind} (k : List Frame) {before : List Token} → Under modules kind k before → admits k levels.Primary ≡ true → admits k levels.Postfix ≡ true
primary-admits (frames.Infix l a b ∷ k) (under u o (infix_begun p s is adm d)) h = infix-admits l (binary s l is)
primary-admits (frames.Prefix b ∷ k) u h = refl
primary-admits (frames.Then c ∷ k) u h = refl
primary-admits (frames.Else c a ∷ k) u h = refl
primary-admits (frames.Group a types ∷ k) u h = refl
primary-admits (frames.Call f g ∷ k) u h = refl
primary-admits (frames.Hole purpose ∷ k) u h = purpose-admits purpose
primary-admits k u h = absurd-of h

-- `(` directly behind an operand
call-opens : (modules : Modules) (kind : Kind) (f : Path) (k : List Frame) (before ts : List Token) (p : Place) → p.blank ≡ false
    → Under modules kind k before → Opens modules k ts → Callee modules ts f
    → Stands modules kind (guarded (admits k levels.Primary) (at modes.Arguments (frames.Call f (given.Paths []) ∷ k))) (before ++ ts ++ sign p signs.LeftParen ∷ [])
call-opens modules kind f k before ts p direct u o c =
    guard-stands modules kind (admits k levels.Primary) (at modes.Arguments (frames.Call f (given.Paths []) ∷ k)) (before ++ ts ++ sign p signs.LeftParen ∷ [])
    (λ adm. stands-text modules kind (at modes.Arguments (frames.Call f (given.Paths []) ∷ k)) (before ++ ((ts ++ sign p signs.LeftParen ∷ []) ++ [])) (before ++ ts ++ sign p signs.LeftParen ∷ []) (simp (append_assoc, append-nil))
    (bare_at refl (under u (opens-more modules k ts (sign p signs.LeftParen ∷ []) ((ts ++ sign p signs.LeftParen ∷ []) ++ []) o (sym (append-nil (ts ++ sign p signs.LeftParen ∷ []))))
    (call_begun [] (primary-admits k u adm) (short_begun p c direct) no_paths))))

function-opens : (modules : Modules) (kind : Kind) (f : Path) (k : List Frame) (before ts : List Token) (p : Place) → p.blank ≡ false
    → Under modules kind (frames.FunctionName ∷ k) before → Callee modules ts f
    → Stands modules kind (at modes.Params (frames.Signature forms.Long f [] ∷ k)) (before ++ ts ++ sign p signs.LeftParen ∷ [])
function-opens modules kind f k _ ts p direct (under {before = b} u o (function_begun q takes)) c =
    stands-text modules kind (at modes.Params (frames.Signature forms.Long f [] ∷ k)) (b ++ ((word q words.Function ∷ (ts ++ sign p signs.LeftParen ∷ [])) ++ []))
    ((b ++ word q words.Function ∷ []) ++ ts ++ sign p signs.LeftParen ∷ []) (simp (append_assoc, append-nil))
    (bare_at refl (under u
    (opens-more modules k (word q words.Function ∷ []) (ts ++ sign p signs.LeftParen ∷ []) ((word q words.Function ∷ (ts ++ sign p signs.LeftParen ∷ [])) ++ []) o (sym (append-nil (word q words.Function ∷ (ts ++ sign p signs.LeftParen ∷ [])))))
    (long_signature takes (long_begun q p c direct) no_parameter)))

open-stands : (modules : Modules) (kind : Kind) (f : Path) (k : List Frame) (before ts : List Token) (p : Place) → p.blank ≡ false
    → Under modules kind k before → Opens modules k ts → Callee modules ts f
    → Stands modules kind (open_call f k) (before ++ ts ++ sign p signs.LeftParen ∷ [])
open-stands modules kind f (frames.FunctionName ∷ k) before ts p direct u o c = function-opens modules kind f k before ts p direct u c
open-stands modules kind f k before ts p direct u o c = call-opens modules kind f k before ts p direct u o c

-- `(` behind a blank
apart-stands : (modules : Modules) (kind : Kind) (q : Place) (x : List ℕ) (k : List Frame) (before : List Token) (p : Place)
    → Under modules kind (frames.Hole purposes.Value ∷ k) before
    → Stands modules kind (open_apart (heads.Name (spot q x)) (frames.Hole purposes.Value ∷ k)) (before ++ name q x ∷ sign p signs.LeftParen ∷ [])
apart-stands modules kind q x k before p u =
    if-stands modules kind (bytes_eq x (codes "eval")) (guarded (takes_lines k) (at modes.EvalColon k))
    (guarded (bytes_eq x (codes "precompile") && takes_directives k) (at modes.PathStart (frames.DirectiveFun ∷ k))) (before ++ name q x ∷ sign p signs.LeftParen ∷ [])
    (λ is. guard-stands modules kind (takes_lines k) (at modes.EvalColon k) (before ++ name q x ∷ sign p signs.LeftParen ∷ [])
    (λ takes. stands-text modules kind (at modes.EvalColon k) (before ++ name q (codes "eval") ∷ sign p signs.LeftParen ∷ []) (before ++ name q x ∷ sign p signs.LeftParen ∷ [])
    (ap (λ l. before ++ name q l ∷ sign p signs.LeftParen ∷ []) (sym (text-eq x (codes "eval") is)))
    (over_frames (below-value u).under (lines-open modules k (name q (codes "eval") ∷ sign p signs.LeftParen ∷ []) takes) (before_colon q p takes))))
    (λ _. guard-stands modules kind (bytes_eq x (codes "precompile") && takes_directives k) (at modes.PathStart (frames.DirectiveFun ∷ k)) (before ++ name q x ∷ sign p signs.LeftParen ∷ [])
    (λ both. stands-text modules kind (at modes.PathStart (frames.DirectiveFun ∷ k)) (before ++ name q (codes "precompile") ∷ sign p signs.LeftParen ∷ []) (before ++ name q x ∷ sign p signs.LeftParen ∷ [])
    (ap (λ l. before ++ name q l ∷ sign p signs.LeftParen ∷ []) (sym (text-eq x (codes "precompile") (and-first _ _ both))))
    (bare_at refl (under (below-value u).under (lines-open modules k (name q (codes "precompile") ∷ sign p signs.LeftParen ∷ []) (directives-lines k (and-second (bytes_eq x (codes "precompile")) (takes_directives k) both)))
    (directive_function q p (and-second (bytes_eq x (codes "precompile")) (takes_directives k) both))))))

apart-behind : (modules : Modules) (kind : Kind) (h : Head) (k over : List Frame) (before ts : List Token) (p : Place) → Under modules kind k before → Operand modules h over ts
    → Stands modules kind (open_apart h k) (before ++ ts ++ sign p signs.LeftParen ∷ [])
apart-behind modules kind _ (frames.Hole purposes.Value ∷ k) over before _ p u (a_name q x) =
    stands-text modules kind (open_apart (heads.Name (spot q x)) (frames.Hole purposes.Value ∷ k)) (before ++ name q x ∷ sign p signs.LeftParen ∷ []) (before ++ name q x ∷ [] ++ sign p signs.LeftParen ∷ [])
    (simp append_assoc) (apart-stands modules kind q x k before p u)
apart-behind modules kind _ k over before _ p u (a_name q x) = tt
apart-behind modules kind _ k over before _ p u (a_member q r s m x known adm) = tt
apart-behind modules kind _ k over before _ p u (an_operator q r s o x known adm) = tt
apart-behind modules kind _ k over before _ p u (a_place q r x d adm) = tt
apart-behind modules kind _ k over before _ p u (a_call adm s args params lone) = tt
apart-behind modules kind _ k over before _ p u (an_expression adm fields d) = tt

pub paren-stands : (modules : Modules) (kind : Kind) (h : Head) (k : List Frame) (before ts : List Token) (p : Place)
    → Under modules kind k before → Opens modules k ts → Operand modules h k ts
    → Stands modules kind (have_paren h k p.blank) (before ++ ts ++ sign p signs.LeftParen ∷ [])
paren-stands modules kind h k before ts p u o d = by-blank p.blank refl
  where
    by-path : (r : Option Path) → head_path h ≡ r → p.blank ≡ false → Stands modules kind (open_direct r k) (before ++ ts ++ sign p signs.LeftParen ∷ [])
    by-path None e direct = tt
    by-path (Some f) e direct = open-stands modules kind f k before ts p direct u o (operand-path d f e)

    by-blank : (b : Bool) → p.blank ≡ b → Stands modules kind (have_paren h k b) (before ++ ts ++ sign p signs.LeftParen ∷ [])
    by-blank true e = apart-behind modules kind h k k before ts p u d
    by-blank false e = by-path (head_path h) refl e
