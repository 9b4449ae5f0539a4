-- What the machine accepts is a text of the grammar: each step keeps what has been read, and where it accepts, that is a text.
use Rattle.pj_grammar.proofs.Becoming.{have-stands}
use Rattle.pj_grammar.proofs.Begun.{DirectiveBegun, Opens, Under, a_mutable, a_struct, an_abstract, from, hole_begun, items_begun, no_item, nothing, quoted_begun, script_begun, sets_const, under}
use Rattle.pj_grammar.proofs.Directing.{close-types-stands, directive-ends, types-open, types-stands}
use Rattle.pj_grammar.proofs.Ending.{lines-open}
use Rattle.pj_grammar.proofs.Evaluating.{eval-name-stands, payload-stands}
use Rattle.pj_grammar.proofs.Heading.{field-begins, items-lines, named-header-stands}
use Rattle.pj_grammar.proofs.Levels.{absurd-of}
use Rattle.pj_grammar.proofs.Lining.{closed-stands, eval-end-stands, line-stands, payload-end-stands}
use Rattle.pj_grammar.proofs.Naming.{declared-stands, use-named, use-stands}
use Rattle.pj_grammar.proofs.Opening.{argument-begins, assign-wanted, base-stands, close-wanted, colon-wanted, field-named, global-stands, member-stands, name-wanted, open-wanted, package-begins, package-ended-stands, package-opens, place-named, return-stands, short-stands}
use Rattle.pj_grammar.proofs.Operating.{guard-stands, operand-stands, stands-text, wants-opens, wants-unary}
use Rattle.pj_grammar.proofs.Signing.{parameter-stands}
use Rattle.pj_grammar.proofs.Standing.{Mine, Standing, Stands, a_name, at_package, at_package_name, at_package_named, bare_at, before_colon, before_end, before_ends, before_open, before_types, const_named, entry_closed, eval_named, field_of_place, field_of_value, global_named, has_abstract, has_base, has_const, has_declared, has_for, has_global, has_header, has_module, has_mutable, has_operand, has_return, has_struct, has_use, is_call, is_fields, is_path, is_payload, is_signature, is_types, line_closed, loop_named, over_frames, package_ended, signature_closed, stands, text_ended, types_closed, wants_use}
use Rattle.pj_grammar.specs.Closing.{closed_line}
use Rattle.pj_grammar.specs.Frames.{State, at, takes_directives}
use Rattle.pj_grammar.specs.Machine.{accepted, accepted_at, argument, directive_end, parameter, path_start, payload, read_frames, run, start, step, step_at}
use Rattle.pj_grammar.specs.Modules.{Modules}
use Rattle.pj_grammar.specs.Operands.{start_field}
use Rattle.pj_grammar.specs.Statements.{begins_bounds}
use Rattle.pj_grammar.specs.Texts.{IsText, Kind, Types, no_separator, script, «package»}
use Rattle.pj_grammar.specs.Theorems.{Sound, reached, with_base}
use Rattle.pj_grammar.specs.Tokens.{Place, name, place, sign, spot, token, word}
use Rattle.pj_grammar.specs.declared.frame.Frame.{Frame}
use Rattle.pj_grammar.specs.declared.mode.Mode.{Mode}
use Rattle.pj_grammar.specs.declared.mode.Parsed.{Parsed}
use Rattle.pj_lex.specs.declared.sign.Sign.{Sign}
use Rattle.pj_lex.specs.declared.token.Token.{Token}
use Rattle.pj_lex.specs.declared.token.TokenKind.{TokenKind}
use Rattle.pj_syntax.specs.declared.expression.Path.{Path}
use Rattle.std.proofs.Common.{List, None, Option, Some, [], codes, false, refl, subst, sym, true, ℕ, ◌++◌, ◌∙◌, ◌∷◌, ◌≡◌}
use Rattle.std.proofs.lemmas.List.{append-nil, append_assoc}
use Rattle.pj_grammar.specs.declared.frame.Frame.TheVariants as frames
use Rattle.pj_grammar.specs.declared.frame.Header.TheVariants as headers
use Rattle.pj_lex.specs.declared.token.TokenKind.TheVariants as kinds
use Rattle.pj_grammar.specs.declared.mode.Mode.TheVariants as modes
use Rattle.pj_grammar.specs.declared.frame.Purpose.TheVariants as purposes
use Rattle.pj_lex.specs.declared.sign.Sign.TheVariants as signs
use Rattle.pj_words.specs.declared.word.Word.TheVariants as words

-- the modes that have tokens of their own
mine-step : (modules : Modules) (kind : Kind) (mode : Mode) (k : List Frame) (before mine : List Token) (p : Place) (what : TokenKind) → Under modules kind k before → Opens modules k mine
    → Mine modules mode k mine → Stands modules kind (step_at modules mode k p what) (before ++ mine ++ token p what ∷ [])
mine-step modules kind _ k before mine p what u o (has_operand d) = have-stands modules kind _ k before mine p what u o d
mine-step modules kind _ k before _ p what u o (field_of_place q adm d) = place-named modules kind _ k before _ p what u o (field_of_place q adm d)
mine-step modules kind _ k before _ p what u o (field_of_value q adm fields d) = field-named modules kind _ k before _ p what u o (field_of_value q adm fields d)
mine-step modules kind _ k before _ p what u o (has_module q r m known adm) = member-stands modules kind _ k before _ p what u o (has_module q r m known adm)
mine-step modules kind _ k before _ p what u o (has_base q r s adm) = base-stands modules kind _ k before _ p what u o (has_base q r s adm)
mine-step modules kind _ k before _ p what u o (before_colon q r takes) =
    colon-wanted modules kind (at modes.EvalOpen k) (before ++ name q (codes "eval") ∷ sign r signs.LeftParen ∷ []) p what
    (stands-text modules kind (at modes.EvalOpen k) (before ++ name q (codes "eval") ∷ sign r signs.LeftParen ∷ sign p signs.Colon ∷ []) _ (simp append_assoc)
    (over_frames u (lines-open modules k (name q (codes "eval") ∷ sign r signs.LeftParen ∷ sign p signs.Colon ∷ []) takes) (before_open q r p takes)))
mine-step modules kind _ k before _ p what u o (before_open q r s takes) =
    open-wanted modules kind (at modes.Payload (frames.Payload None true ∷ k)) (before ++ name q (codes "eval") ∷ sign r signs.LeftParen ∷ sign s signs.Colon ∷ []) p what
    (stands-text modules kind (at modes.Payload (frames.Payload None true ∷ k)) (before ++ name q (codes "eval") ∷ sign r signs.LeftParen ∷ sign s signs.Colon ∷ sign p signs.LeftParen ∷ []) _ (simp append_assoc)
    (bare_at refl (under u (lines-open modules k (name q (codes "eval") ∷ sign r signs.LeftParen ∷ sign s signs.Colon ∷ sign p signs.LeftParen ∷ []) takes) (quoted_begun q r s p takes))))
mine-step modules kind _ k before _ p what u o (before_ends {ts = ts} {s = s} takes d) =
    close-wanted modules kind (at (modes.EvalEnd s) k) (before ++ ts) p what (payload-end-stands modules kind s k (before ++ ts) p (over_frames u o (before_ends takes d)))
mine-step modules kind _ k before _ p what u o (before_end {ts = ts} {s = s} takes d) =
    close-wanted modules kind (closed_line s k) (before ++ ts) p what (eval-end-stands modules kind s k (before ++ ts) p (over_frames u o (before_end takes d)))
mine-step modules kind _ k before _ p what u o (has_return q takes) = return-stands modules kind k before q p what takes u
mine-step modules kind _ k before _ p what u o (has_global q takes) =
    name-wanted modules kind (modes.GlobalAssign q.start) k (before ++ word q words.Global ∷ []) p what
    (λ x. stands-text modules kind (at (modes.GlobalAssign q.start (spot p x)) k) (before ++ word q words.Global ∷ name p x ∷ []) _ (simp append_assoc)
    (over_frames u (lines-open modules k (word q words.Global ∷ name p x ∷ []) takes) (global_named q p x takes)))
mine-step modules kind _ k before _ p what u o (global_named q r x takes) = global-stands modules kind k before q r p x what takes u
mine-step modules kind _ k before _ p what u o (has_const q takes) =
    name-wanted modules kind modes.ConstAssign k (before ++ word q words.Const ∷ []) p what
    (λ x. stands-text modules kind (at (modes.ConstAssign (spot p x)) k) (before ++ word q words.Const ∷ name p x ∷ []) _ (simp append_assoc)
    (over_frames u (lines-open modules k (word q words.Const ∷ name p x ∷ []) (items-lines k takes)) (const_named q p x takes)))
mine-step modules kind _ k before _ p what u o (const_named q r x takes) =
    assign-wanted modules kind (at modes.Want (frames.Hole (purposes.Const (spot r x)) ∷ k)) (before ++ word q words.Const ∷ name r x ∷ []) p what
    (stands-text modules kind (at modes.Want (frames.Hole (purposes.Const (spot r x)) ∷ k)) (before ++ word q words.Const ∷ name r x ∷ sign p signs.Assign ∷ []) _ (simp append_assoc)
    (bare_at refl (under u (lines-open modules k (word q words.Const ∷ name r x ∷ sign p signs.Assign ∷ []) (items-lines k takes)) (hole_begun (sets_const q r p x takes)))))
mine-step modules kind _ k before _ p what u o (has_for q takes) =
    name-wanted modules kind modes.LoopIn k (before ++ word q words.For ∷ []) p what
    (λ x. stands-text modules kind (at (modes.LoopIn (spot p x)) k) (before ++ word q words.For ∷ name p x ∷ []) _ (simp append_assoc)
    (over_frames u (lines-open modules k (word q words.For ∷ name p x ∷ []) takes) (loop_named q p x takes)))
mine-step modules kind _ k before _ p what u o (loop_named q r x takes) =
    guard-stands modules kind (begins_bounds what) (at modes.Want (frames.Hole (purposes.From (spot r x)) ∷ k)) (before ++ word q words.For ∷ name r x ∷ [] ++ token p what ∷ [])
    (λ is. stands-text modules kind (at modes.Want (frames.Hole (purposes.From (spot r x)) ∷ k)) (before ++ word q words.For ∷ name r x ∷ token p what ∷ []) (before ++ word q words.For ∷ name r x ∷ [] ++ token p what ∷ []) (simp append_assoc)
    (bare_at refl (under u (lines-open modules k (word q words.For ∷ name r x ∷ token p what ∷ []) takes) (hole_begun (from q r (token p what) x takes is)))))
mine-step modules kind _ k before _ p what u o (wants_use {ts = ts} {xs = xs} q takes d) = use-named modules kind xs k before ts q p what takes u d
mine-step modules kind _ k before _ p what u o (has_use {ts = ts} {xs = xs} q takes d) = use-stands modules kind xs k before ts q p what takes u d
mine-step modules kind _ k before _ p what u o (has_abstract q r takes) =
    name-wanted modules kind (λ x. modes.Header (headers.Abstract x)) k (before ++ name q (codes "abstract") ∷ name r (codes "type") ∷ []) p what
    (λ x. stands-text modules kind (at (modes.Header (headers.Abstract (spot p x))) k) (before ++ name q (codes "abstract") ∷ name r (codes "type") ∷ name p x ∷ []) _ (simp append_assoc)
    (over_frames u (lines-open modules k (name q (codes "abstract") ∷ name r (codes "type") ∷ name p x ∷ []) (items-lines k takes)) (has_header takes (an_abstract q r p x))))
mine-step modules kind _ k before _ p what u o (has_struct q takes) =
    name-wanted modules kind (λ x. modes.Header (headers.Struct false x)) k (before ++ word q words.Struct ∷ []) p what
    (λ x. stands-text modules kind (at (modes.Header (headers.Struct false (spot p x))) k) (before ++ word q words.Struct ∷ name p x ∷ []) _ (simp append_assoc)
    (over_frames u (lines-open modules k (word q words.Struct ∷ name p x ∷ []) (items-lines k takes)) (has_header takes (a_struct q p x))))
mine-step modules kind _ k before _ p what u o (has_mutable q r takes) =
    name-wanted modules kind (λ x. modes.Header (headers.Struct true x)) k (before ++ name q (codes "mutable") ∷ word r words.Struct ∷ []) p what
    (λ x. stands-text modules kind (at (modes.Header (headers.Struct true (spot p x))) k) (before ++ name q (codes "mutable") ∷ word r words.Struct ∷ name p x ∷ []) _ (simp append_assoc)
    (over_frames u (lines-open modules k (name q (codes "mutable") ∷ word r words.Struct ∷ name p x ∷ []) (items-lines k takes)) (has_header takes (a_mutable q r p x))))
mine-step modules kind _ k before mine p what u o (has_header {h = h} takes d) = named-header-stands modules kind h k before mine p what takes u d
mine-step modules kind _ k before _ p what u o (has_declared {ts = ts} q r x takes d) = declared-stands modules kind k before ts q r p x what takes u d
mine-step modules kind _ k before _ p what u o (before_types {ts = ts} {f = f} q r c takes callee) =
    open-wanted modules kind (at modes.Types (frames.Types f [] ∷ k)) (before ++ name q (codes "precompile") ∷ sign r signs.LeftParen ∷ (ts ++ sign c signs.Comma ∷ [])) p what
    (types-open modules kind f k before (name q (codes "precompile") ∷ sign r signs.LeftParen ∷ (ts ++ sign c signs.Comma ∷ [])) p u (before_types q r c takes callee))

-- the modes that have none
path-opens : (modules : Modules) (k : List Frame) (ts : List Token) → is_path k ≡ true → Opens modules k ts
path-opens modules (frames.FunctionName ∷ k) ts h = λ rest. refl
path-opens modules (frames.TypeOf x p ∷ k) ts h = λ rest. refl
path-opens modules (frames.Parent l ∷ k) ts h = λ rest. refl
path-opens modules (frames.DirectiveFun ∷ k) ts h = λ rest. refl
path-opens modules k ts h = absurd-of h

path-begins : (modules : Modules) (kind : Kind) (k : List Frame) (before : List Token) (p : Place) (what : TokenKind) → is_path k ≡ true → Under modules kind k before
    → Stands modules kind (path_start k p what) (before ++ token p what ∷ [])
path-begins modules kind k before p (kinds.Name x) is u = over_frames u (path-opens modules k (name p x ∷ []) is) (has_operand (a_name p x))
path-begins modules kind k before p what is u = tt

call-step : (modules : Modules) (kind : Kind) (k : List Frame) (before : List Token) (p : Place) (what : TokenKind) → is_call k ≡ true → Under modules kind k before
    → Stands modules kind (argument k p what) (before ++ token p what ∷ [])
call-step modules kind (frames.Call f g ∷ k) before p what is u = argument-begins modules kind f g k before p what u
call-step modules kind k before p what is u = absurd-of is

params-step : (modules : Modules) (kind : Kind) (k : List Frame) (before : List Token) (p : Place) (what : TokenKind) → is_signature k ≡ true → Under modules kind k before
    → Stands modules kind (parameter k p what) (before ++ token p what ∷ [])
params-step modules kind (frames.Signature form f ps ∷ k) before p what is u = parameter-stands modules kind form f ps k before p what u
params-step modules kind k before p what is u = absurd-of is

payload-step : (modules : Modules) (kind : Kind) (k : List Frame) (before : List Token) (p : Place) (what : TokenKind) → is_payload k ≡ true → Under modules kind k before
    → Stands modules kind (payload modules k p what) (before ++ token p what ∷ [])
payload-step modules kind (frames.Payload None true ∷ k) before p what is u = payload-stands modules kind None true k before p what u (λ _ rest. refl)
payload-step modules kind (frames.Payload None false ∷ k) before p what is u = payload-stands modules kind None false k before p what u (λ h. absurd-of (sym h))
payload-step modules kind k before p what is u = absurd-of is

fields-step : (modules : Modules) (kind : Kind) (k : List Frame) (before : List Token) (p : Place) (what : TokenKind) → is_fields k ≡ true → Under modules kind k before
    → Stands modules kind (start_field k p.start what) (before ++ token p what ∷ [])
fields-step modules kind (frames.Fields mutable x parent fs ∷ k) before p what is u = field-begins modules kind mutable x parent fs k before p what u
fields-step modules kind k before p what is u = absurd-of is

types-step : (modules : Modules) (kind : Kind) (k : List Frame) (before : List Token) (p : Place) (what : TokenKind) → is_types k ≡ true → Under modules kind k before
    → Stands modules kind (step_at modules modes.Types k p what) (before ++ token p what ∷ [])
types-step modules kind (frames.Types f list ∷ k) before p what is u = types-stands modules kind f list k before p what u
types-step modules kind k before p what is u = absurd-of is

bare-step : (modules : Modules) (kind : Kind) (mode : Mode) (k : List Frame) (before : List Token) (p : Place) (what : TokenKind) → stands mode k ≡ true → Under modules kind k before
    → Stands modules kind (step_at modules mode k p what) (before ++ token p what ∷ [])
bare-step modules kind modes.Want k before p what h u =
    operand-stands modules kind k before p what u (wants-unary k h) (wants-opens modules k (token p what ∷ []) h) (λ q. close-types-stands modules kind k before q u)
bare-step modules kind modes.Arguments k before p what h u = call-step modules kind k before p what h u
bare-step modules kind modes.Params k before p what h u = params-step modules kind k before p what h u
bare-step modules kind modes.PathStart k before p what h u = path-begins modules kind k before p what h u
bare-step modules kind modes.Line k before p what h u = line-stands modules kind k before p what h u
bare-step modules kind modes.Payload k before p what h u = payload-step modules kind k before p what h u
bare-step modules kind modes.FieldStart k before p what h u = fields-step modules kind k before p what h u
bare-step modules kind modes.Types k before p what h u = types-step modules kind k before p what h u
bare-step modules kind mode k before p what h u = absurd-of h

-- the parameters of a short definition have ended, and the types of a directive
types-ended : (modules : Modules) (kind : Kind) (f : Path) (list : List Path) (k : List Frame) (before ts us : List Token) (p : Place) (what : TokenKind) → takes_directives k ≡ true
    → Under modules kind k before → DirectiveBegun modules f ts → Types modules us list
    → Stands modules kind (directive_end (frames.Types f list ∷ k) what) (before ++ (ts ++ us) ++ token p what ∷ [])
types-ended modules kind f list k before ts us p what takes u d e = by-kind what
  where
    by-sign : (s : Sign) → Stands modules kind (directive_end (frames.Types f list ∷ k) (kinds.Sign s)) (before ++ (ts ++ us) ++ sign p s ∷ [])
    by-sign signs.RightParen = directive-ends modules kind f list k before ts us p takes u d e
    by-sign s = tt

    by-kind : (what : TokenKind) → Stands modules kind (directive_end (frames.Types f list ∷ k) what) (before ++ (ts ++ us) ++ token p what ∷ [])
    by-kind (kinds.Sign s) = by-sign s
    by-kind what = tt

-- Each step keeps what has been read.
pub step-stands : (modules : Modules) (kind : Kind) (mode : Mode) (k : List Frame) (ts : List Token) (p : Place) (what : TokenKind) → Standing modules kind mode k ts
    → Stands modules kind (step_at modules mode k p what) (ts ++ token p what ∷ [])
step-stands modules kind mode k ts p what (bare_at h u) = bare-step modules kind mode k ts p what h u
step-stands modules kind mode k _ p what (over_frames {before = before} {ts = ts} u o m) = mine-step modules kind mode k before ts p what u o m
step-stands modules kind _ k ts p what (line_closed u d) = closed-stands modules kind k ts p what (line_closed u d)
step-stands modules kind _ k ts p what (entry_closed u d) = closed-stands modules kind k ts p what (entry_closed u d)
step-stands modules kind _ k _ p what (eval_named {before = before} q m takes known u) = eval-name-stands modules kind k before q p m what takes known u
step-stands modules kind _ _ _ p what (signature_closed {ts = ts} {us = us} {before = before} {f = f} {ps = ps} {k = k} takes u o s params) = short-stands modules kind f ps k before ts us p what takes u o s params
step-stands modules kind _ _ _ p what (types_closed {ts = ts} {us = us} {before = before} {f = f} {types = list} {k = k} takes u d e) = types-ended modules kind f list k before ts us p what takes u d e
step-stands modules kind _ _ ts p what (at_package is d) = package-begins modules kind ts p what is d
step-stands modules kind _ _ _ p what (at_package_name {ts = ts} q is d) =
    name-wanted modules kind modes.PackageNamed [] (ts ++ word q words.Module ∷ []) p what
    (λ x. stands-text modules kind (at (modes.PackageNamed (spot p x)) []) (ts ++ word q words.Module ∷ name p x ∷ []) (ts ++ word q words.Module ∷ [] ++ name p x ∷ []) (simp append_assoc) (at_package_named q p x is d))
step-stands modules kind _ _ _ p what (at_package_named {ts = ts} q r x is d) = package-opens modules kind ts q r p x what is d
step-stands modules kind _ _ _ p what (package_ended {ts = ts} {us = us} {x = x} {uses = names} {is = is} root e) = package-ended-stands modules kind x names is ts us p what root e
step-stands modules kind _ k ts p what (text_ended is d) = tt

-- so do all
runs-stand : (modules : Modules) (kind : Kind) (s : Option State) (ts us : List Token) → Stands modules kind s ts → Stands modules kind (run modules us s) (ts ++ us)
unfolding run step
runs-stand modules kind None ts us d = tt
runs-stand modules kind (Some s) ts [] d = stands-text modules kind (Some s) ts (ts ++ []) (sym (append-nil ts)) d
runs-stand modules kind (Some s) ts (t ∷ us) d =
    stands-text modules kind (run modules us (step modules s t)) ((ts ++ t ∷ []) ++ us) (ts ++ t ∷ us) (append_assoc ts (t ∷ []) us)
    (runs-stand modules kind (step modules s t) (ts ++ t ∷ []) us (step-stands modules kind s.mode s.frames ts (place t) t.what d))

start-stands : (modules : Modules) (kind : Kind) → Stands modules kind (Some (start kind)) []
start-stands modules script = bare_at refl (under nothing (λ rest. refl) (items_begun script_begun no_item))
start-stands modules «package» = at_package refl no_separator

-- a tree and its nesting
abbrev IsRead : Modules → Kind → List Token → Parsed × ℕ → Type 0
IsRead modules kind ts x = IsText modules kind ts x.0 x.1

unwrapped : {x y : Parsed × ℕ} → Some x ≡ Some y → x ≡ y
unwrapped h = cc

same-read : (modules : Modules) (kind : Kind) (ts : List Token) (x y : Parsed × ℕ) → Some x ≡ Some y → IsRead modules kind ts x → IsRead modules kind ts y
same-read modules kind ts x y h d = subst (λ z. IsRead modules kind ts z) (unwrapped h) d

accepts : (modules : Modules) (kind : Kind) (k : List Frame) (ts : List Token) (tree : Parsed) (nesting : ℕ) → Standing modules kind modes.Accepted k ts
    → read_frames k ≡ Some (tree, nesting) → IsText modules kind ts tree nesting
accepts modules kind k ts tree nesting (bare_at h u) e = absurd-of h
accepts modules kind k _ tree nesting (over_frames u o m) e = elim m [ ]
accepts modules kind k ts tree nesting (text_ended {tree = found} {nesting = deep} is d) e = same-read modules kind ts (found, deep) (tree, nesting) (sym is ∙ e) d

mode-accepts : (modules : Modules) (kind : Kind) (mode : Mode) (k : List Frame) (ts : List Token) (tree : Parsed) (nesting : ℕ) → Standing modules kind mode k ts
    → accepted_at mode k ≡ Some (tree, nesting) → IsText modules kind ts tree nesting
mode-accepts modules kind modes.Accepted k ts tree nesting d e = accepts modules kind k ts tree nesting d e
mode-accepts modules kind mode k ts tree nesting d e = cc

state-accepts : (modules : Modules) (kind : Kind) (s : Option State) (ts : List Token) (tree : Parsed) (nesting : ℕ) → Stands modules kind s ts
    → accepted s ≡ Some (tree, nesting) → IsText modules kind ts tree nesting
state-accepts modules kind None ts tree nesting d e = cc
state-accepts modules kind (Some s) ts tree nesting d e = mode-accepts modules kind s.mode s.frames ts tree nesting d e

pub sound : Sound
sound modules kind ts tree nesting e =
    state-accepts (with_base modules) kind (reached (with_base modules) kind ts) ts tree nesting (runs-stand (with_base modules) kind (Some (start kind)) [] ts (start-stands (with_base modules) kind)) e
