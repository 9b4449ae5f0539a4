-- Parameters, also where they began as the arguments of a call, keep what has been read.
use Rattle.pj_grammar.proofs.Arguing.{lacks-not}
use Rattle.pj_grammar.proofs.Begun.{GivenBegun, LongBegun, Opens, ParametersBegun, PathsBegun, ShortBegun, TypeBegun, Under, at_value, block_begun, call_begun, function_opened, hole_begun, long_signature, no_line, no_parameter, no_paths, only_type, short_signature, takes_value, then_parameter, then_path, type_begun, under}
use Rattle.pj_grammar.proofs.Calling.{MayEnd}
use Rattle.pj_grammar.proofs.Lining.{opens-value}
use Rattle.pj_grammar.proofs.Listing.{last-parameter, no-parameter}
use Rattle.pj_grammar.proofs.Operating.{guard-stands, stands-text}
use Rattle.pj_grammar.proofs.Settling.{opens-more}
use Rattle.pj_grammar.proofs.Standing.{Stands, a_name, bare_at, has_operand, over_frames, signature_closed}
use Rattle.pj_grammar.specs.Expressions.{Callee, bare, named, of_module, operator}
use Rattle.pj_grammar.specs.Frames.{at, give, head_path, params_of, takes_definition}
use Rattle.pj_grammar.specs.Machine.{parameter}
use Rattle.pj_grammar.specs.Makers.{no_lines, paths_given}
use Rattle.pj_grammar.specs.Modules.{Modules}
use Rattle.pj_grammar.specs.Operands.{after_param, end_params, type_of_param}
use Rattle.pj_grammar.specs.Statements.{Parameter, Parameters, untyped, with_name}
use Rattle.pj_grammar.specs.Texts.{Kind}
use Rattle.pj_grammar.specs.Tokens.{Place, name, sign, token}
use Rattle.pj_grammar.specs.declared.frame.Form.{Form}
use Rattle.pj_grammar.specs.declared.frame.Frame.{Frame}
use Rattle.pj_grammar.specs.declared.frame.Given.{Given}
use Rattle.pj_grammar.specs.declared.mode.Head.{Head}
use Rattle.pj_lex.specs.declared.sign.Sign.{Sign}
use Rattle.pj_lex.specs.declared.token.Token.{Token}
use Rattle.pj_lex.specs.declared.token.TokenKind.{TokenKind}
use Rattle.pj_syntax.specs.declared.expression.Path.{Path}
use Rattle.pj_syntax.specs.declared.expression.Spot.{Spot}
use Rattle.pj_syntax.specs.declared.statement.Param.{Param}
use Rattle.std.proofs.Common.{List, None, Option, Some, [], ap, refl, subst, sym, true, ℕ, ◌++◌, ◌∙◌, ◌∷◌, ◌≡◌}
use Rattle.std.proofs.lemmas.List.{append-nil, append_assoc}
use Rattle.pj_grammar.specs.declared.frame.Form.TheVariants as forms
use Rattle.pj_grammar.specs.declared.frame.Frame.TheVariants as frames
use Rattle.pj_grammar.specs.declared.frame.Given.TheVariants as given
use Rattle.pj_grammar.specs.declared.mode.Head.TheVariants as heads
use Rattle.pj_lex.specs.declared.token.TokenKind.TheVariants as kinds
use Rattle.pj_grammar.specs.declared.mode.Mode.TheVariants as modes
use Rattle.pj_grammar.specs.declared.frame.Opener.TheVariants as openers
use Rattle.pj_syntax.specs.declared.expression.Path.TheVariants as paths
use Rattle.pj_grammar.specs.declared.frame.Purpose.TheVariants as purposes
use Rattle.pj_lex.specs.declared.sign.Sign.TheVariants as signs

-- a definition of a form, up to its parameters
abbrev pub FormBegun : Modules → Form → Path → List Token → Type 0
FormBegun modules forms.Short f ts = ShortBegun modules f ts
FormBegun modules forms.Long f ts = LongBegun modules f ts

pub record Signed (modules : Modules) (kind : Kind) (form : Form) (f : Path) (ps : List Param) (k : List Frame) (text : List Token) : Type 0 where
  pub before : List Token
  pub first : List Token
  pub read : List Token
  pub is : before ++ (first ++ read) ≡ text
  pub under : Under modules kind k before
  pub opens : Opens modules k (first ++ read)
  pub takes : takes_definition k ≡ true
  pub starts : FormBegun modules form f first
  pub params : ParametersBegun modules read ps

pub signed : {modules : Modules} {kind : Kind} {form : Form} {f : Path} {ps : List Param} {k : List Frame} {before : List Token}
    → Under modules kind (frames.Signature form f ps ∷ k) before → Signed modules kind form f ps k before
signed (under {before = b} u o (short_signature {ts = ts} {us = us} takes s params)) =
    record { before = b; first = ts; read = us; is = refl; under = u; opens = o; takes = takes; starts = s; params = params }
signed (under {before = b} u o (long_signature {ts = ts} {us = us} takes s params)) =
    record { before = b; first = ts; read = us; is = refl; under = u; opens = o; takes = takes; starts = s; params = params }

pub signature-under : {modules : Modules} {kind : Kind} (form : Form) {f : Path} {ps : List Param} {k : List Frame} {before : List Token} (ts us : List Token)
    → Under modules kind k before → Opens modules k (ts ++ us) → takes_definition k ≡ true → FormBegun modules form f ts → ParametersBegun modules us ps
    → Under modules kind (frames.Signature form f ps ∷ k) (before ++ (ts ++ us))
signature-under forms.Short ts us u o takes s params = under u o (short_signature takes s params)
signature-under forms.Long ts us u o takes s params = under u o (long_signature takes s params)

-- parameters end
pub params-end : (modules : Modules) (kind : Kind) (form : Form) (f : Path) (ps : List Param) (k : List Frame) (before ts us : List Token)
    → Under modules kind k before → Opens modules k (ts ++ us) → takes_definition k ≡ true → FormBegun modules form f ts → Parameters modules us ps
    → Stands modules kind (end_params (frames.Signature form f ps ∷ k)) (before ++ (ts ++ us))
params-end modules kind forms.Short f ps k before ts us u o takes s params = signature_closed takes u o s params
params-end modules kind forms.Long f ps k before ts us u o takes s params =
    stands-text modules kind (at modes.Line (frames.Block (openers.Function f ps) no_lines ∷ k)) (before ++ ((ts ++ us) ++ [])) (before ++ (ts ++ us)) (simp append-nil)
    (bare_at refl (under u (opens-more modules k (ts ++ us) [] ((ts ++ us) ++ []) o refl) (block_begun (function_opened takes s params) no_line)))

-- a parameter has been read
pub param-added : (modules : Modules) (kind : Kind) (form : Form) (f : Path) (ps : List Param) (k : List Frame) (before mine : List Token) (x : Param) (p : Place) (what : TokenKind)
    → Under modules kind (frames.Signature form f ps ∷ k) before → Parameter modules mine x
    → Stands modules kind (after_param (frames.Signature form f (ps ++ x ∷ []) ∷ k) what) (before ++ mine ++ token p what ∷ [])
param-added modules kind form f ps k before mine x p what u d = by-kind what
  where
    s : Signed modules kind form f ps k before
    s = signed u

    moved : (r : Token) → s.before ++ (s.first ++ (s.read ++ (mine ++ r ∷ []))) ≡ before ++ mine ++ r ∷ []
    moved r = simp append_assoc refl ∙ ap (λ l. l ++ mine ++ r ∷ []) s.is

    opened : (r : Token) → Opens modules k (s.first ++ (s.read ++ (mine ++ r ∷ [])))
    opened r = opens-more modules k (s.first ++ s.read) (mine ++ r ∷ []) (s.first ++ (s.read ++ (mine ++ r ∷ []))) s.opens (append_assoc s.first s.read (mine ++ r ∷ []))

    by-sign : (o : Sign) → Stands modules kind (after_param (frames.Signature form f (ps ++ x ∷ []) ∷ k) (kinds.Sign o)) (before ++ mine ++ sign p o ∷ [])
    by-sign signs.Comma =
        stands-text modules kind (at modes.Params (frames.Signature form f (ps ++ x ∷ []) ∷ k)) (s.before ++ (s.first ++ (s.read ++ (mine ++ sign p signs.Comma ∷ [])))) _ (moved (sign p signs.Comma))
        (bare_at refl (signature-under form s.first (s.read ++ (mine ++ sign p signs.Comma ∷ [])) s.under (opened (sign p signs.Comma)) s.takes s.starts (then_parameter p s.params d)))
    by-sign signs.RightParen =
        stands-text modules kind (end_params (frames.Signature form f (ps ++ x ∷ []) ∷ k)) (s.before ++ (s.first ++ (s.read ++ (mine ++ sign p signs.RightParen ∷ [])))) _ (moved (sign p signs.RightParen))
        (params-end modules kind form f (ps ++ x ∷ []) k s.before s.first (s.read ++ (mine ++ sign p signs.RightParen ∷ [])) s.under (opened (sign p signs.RightParen)) s.takes s.starts (last-parameter p s.params d))
    by-sign o = tt

    by-kind : (what : TokenKind) → Stands modules kind (after_param (frames.Signature form f (ps ++ x ∷ []) ∷ k) what) (before ++ mine ++ token p what ∷ [])
    by-kind (kinds.Sign o) = by-sign o
    by-kind what = tt

-- a parameter begins, or the parameters end
pub parameter-stands : (modules : Modules) (kind : Kind) (form : Form) (f : Path) (ps : List Param) (k : List Frame) (before : List Token) (p : Place) (what : TokenKind)
    → Under modules kind (frames.Signature form f ps ∷ k) before
    → Stands modules kind (parameter (frames.Signature form f ps ∷ k) p what) (before ++ token p what ∷ [])
parameter-stands modules kind form f ps k before p what u = by-kind what
  where
    s : Signed modules kind form f ps k before
    s = signed u

    by-sign : (o : Sign) → Stands modules kind (parameter (frames.Signature form f ps ∷ k) p (kinds.Sign o)) (before ++ sign p o ∷ [])
    by-sign signs.RightParen =
        stands-text modules kind (end_params (frames.Signature form f ps ∷ k)) (s.before ++ (s.first ++ (s.read ++ sign p signs.RightParen ∷ []))) (before ++ sign p signs.RightParen ∷ [])
        (simp append_assoc refl ∙ ap (λ l. l ++ sign p signs.RightParen ∷ []) s.is)
        (params-end modules kind form f ps k s.before s.first (s.read ++ sign p signs.RightParen ∷ []) s.under
        (opens-more modules k (s.first ++ s.read) (sign p signs.RightParen ∷ []) (s.first ++ (s.read ++ sign p signs.RightParen ∷ [])) s.opens (append_assoc s.first s.read (sign p signs.RightParen ∷ [])))
        s.takes s.starts (no-parameter p s.params))
    by-sign signs.DoubleColon = bare_at refl (under u (λ more. refl) (type_begun refl (only_type p)))
    by-sign o = tt

    by-kind : (what : TokenKind) → Stands modules kind (parameter (frames.Signature form f ps ∷ k) p what) (before ++ token p what ∷ [])
    by-kind (kinds.Sign o) = by-sign o
    by-kind (kinds.Name x) = over_frames u (λ more. refl) (has_operand (a_name p x))
    by-kind what = tt

-- Arguments that are names are parameters.
abbrev plain : Spot → Param
plain x = record { at = x.at; name = Some x; declared = None }

plain-read : {modules : Modules} {ts : List Token} {f : Path} → Callee modules ts f → (x : Spot) → f ≡ paths.Bare x → Parameter modules ts (plain x)
plain-read {modules} (named (bare p t)) x is = subst (λ y. Parameter modules (name p t ∷ []) (plain y)) (same-spot is) (with_name p t untyped)
  where
    same-spot : {a b : Spot} → paths.Bare a ≡ paths.Bare b → a ≡ b
    same-spot h = cc
plain-read (named (of_module p q r m t known)) x is = cc
plain-read (operator p q r o s known) x is = cc

-- the last of names that are parameters
record LastParam (ps : List Path) (f : Path) (qs : List Param) : Type 0 where
  before : List Param
  last : Spot
  is : f ≡ paths.Bare last
  first : params_of ps ≡ Some before
  all : qs ≡ before ++ plain last ∷ []

some-params : {a b : List Param} → Some a ≡ Some b → a ≡ b
some-params h = cc

abbrev with-param : Spot → Option (List Param) → Option (List Param)
with-param y r = elim r [ Some us ↦ Some (plain y ∷ us) | None ↦ None ]

last-param : (ps : List Path) (f : Path) (qs : List Param) → params_of (ps ++ f ∷ []) ≡ Some qs → LastParam ps f qs
last-param [] (paths.Bare x) qs h = record { before = []; last = x; is = refl; first = refl; all = sym (some-params h) }
last-param [] (paths.Of m x) qs h = cc
last-param (paths.Of m x ∷ ps) f qs h = cc
last-param (paths.Bare y ∷ ps) f qs h = by-rest (last-param ps f) (params_of (ps ++ f ∷ [])) refl h
  where
    by-rest : ((us : List Param) → params_of (ps ++ f ∷ []) ≡ Some us → LastParam ps f us) → (r : Option (List Param)) → params_of (ps ++ f ∷ []) ≡ r → with-param y r ≡ Some qs → LastParam (paths.Bare y ∷ ps) f qs
    by-rest g None e h = cc
    by-rest g (Some us) e h =
        let l = g us e in
        record { before = plain y ∷ l.before; last = l.last; is = l.is; first = ap (with-param y) l.first; all = sym (some-params h) ∙ ap (λ v. plain y ∷ v) l.all }

pub paths-params : {modules : Modules} {ts : List Token} {ps : List Path} {qs : List Param} → PathsBegun modules ts ps → params_of ps ≡ Some qs
    → ParametersBegun modules ts qs
paths-params {modules} no_paths h = subst (λ l. ParametersBegun modules [] l) (some-params h) no_parameter
paths-params {modules} {qs = qs} (then_path {ts = ts} {us = us} {ps = ps} {f = f} p b c e) h =
    let l = last-param ps f qs (ap params_of (sym e) ∙ h) in
    subst (λ v. ParametersBegun modules (ts ++ (us ++ sign p signs.Comma ∷ [])) v) (sym l.all)
    (then_parameter p (paths-params b l.first) (plain-read c l.last l.is))

-- a call may end behind an argument, and at once
pub may-end : (modules : Modules) (us : List Token) (f : Path) (g : Given) → GivenBegun modules us g → (p : Place) → MayEnd modules (us ++ sign p signs.RightParen ∷ []) f g
may-end modules us f (given.Paths ps) b p = λ qs h. no-parameter p (paths-params b h)
may-end modules us f (given.Mixed es) b p = b.1 f

last-path : {modules : Modules} {us mine : List Token} (ps : List Path) (f : Path) → PathsBegun modules us ps → Callee modules mine f → (p : Place) (qs : List Param)
    → params_of (ps ++ f ∷ []) ≡ Some qs → Parameters modules (us ++ (mine ++ sign p signs.RightParen ∷ [])) qs
last-path {modules} {us} {mine} ps f b c p qs h =
    let l = last-param ps f qs h in
    subst (λ v. Parameters modules (us ++ (mine ++ sign p signs.RightParen ∷ [])) v) (sym l.all) (last-parameter p (paths-params b l.first) (plain-read c l.last l.is))

pub may-end-behind : (modules : Modules) (us mine : List Token) (f : Path) (g : Given) (h : Head) → GivenBegun modules us g
    → ((x : Path) → head_path h ≡ Some x → Callee modules mine x) → (p : Place) → MayEnd modules (us ++ (mine ++ sign p signs.RightParen ∷ [])) f (give g h)
may-end-behind modules us mine f (given.Paths ps) (heads.Name x) b c p = last-path ps (paths.Bare x) b (c _ refl) p
may-end-behind modules us mine f (given.Paths ps) (heads.Member m x) b c p = last-path ps (paths.Of m x) b (c _ refl) p
may-end-behind modules us mine f (given.Paths ps) (heads.Operator m x) b c p = last-path ps (paths.Of m x) b (c _ refl) p
may-end-behind modules us mine f (given.Paths ps) (heads.Place e x) b c p = lacks-not f (paths_given ps) _
may-end-behind modules us mine f (given.Paths ps) (heads.Call g qs) b c p = lacks-not f (paths_given ps) _
may-end-behind modules us mine f (given.Paths ps) (heads.Plain e) b c p = lacks-not f (paths_given ps) _
may-end-behind modules us mine f (given.Mixed es) h b c p = lacks-not f es _

-- what stands below the expression of a statement or a payload
pub record Below (modules : Modules) (kind : Kind) (k : List Frame) (before : List Token) : Type 0 where
  pub takes : takes_value k ≡ true
  pub under : Under modules kind k before

pub below-value : {modules : Modules} {kind : Kind} {k : List Frame} {before : List Token} → Under modules kind (frames.Hole purposes.Value ∷ k) before
    → Below modules kind k before
below-value (at_value takes u) = record { takes = takes; under = u }
below-value (under u o (hole_begun d)) = elim d [ ]

-- `::`, which makes a call a definition
pub typed-call : (modules : Modules) (kind : Kind) (x : Option Spot) (first : ℕ) (f : Path) (ps : List Path) (k : List Frame) (before mine : List Token)
    → Under modules kind (frames.Call f (given.Paths ps) ∷ frames.Hole purposes.Value ∷ k) before → TypeBegun x first mine
    → Stands modules kind (type_of_param x first f (params_of ps) k) (before ++ mine)
typed-call modules kind x first f ps k _ mine (under {before = b} u o (call_begun {ts = ts} us adm s begun)) d = by-params (params_of ps) refl
  where
    by-params : (r : Option (List Param)) → params_of ps ≡ r → Stands modules kind (type_of_param x first f r k) (b ++ (ts ++ us) ++ mine)
    by-params None e = tt
    by-params (Some qs) e =
        let l = below-value u in
        guard-stands modules kind (takes_definition k) _ _ (λ takes. bare_at refl
        (under (signature-under forms.Short ts us l.under (opens-value modules k (ts ++ us) l.takes o) takes s (paths-params begun e)) (λ more. refl) (type_begun refl d)))
