-- A call goes on behind an argument, and ends.
use Rattle.std.proofs.Common.{◌≡◌, Bool, true, false, List, [], ◌∷◌, ◌++◌, Some, refl, sym, subst, ap, ◌∙◌}
use Rattle.std.proofs.lemmas.List.{append_assoc}
use Rattle.pj_lex.specs.declared.sign.Sign.TheVariants as signs
use Rattle.pj_lex.specs.declared.token.Token.{Token}
use Rattle.pj_syntax.specs.declared.expression.Path.{Path}
use Rattle.pj_syntax.specs.declared.statement.Param.{Param}
use Rattle.pj_grammar.specs.declared.level.Level.TheVariants as levels
use Rattle.pj_grammar.specs.declared.node.Arguments.{Arguments}
use Rattle.pj_grammar.specs.declared.frame.Frame.{Frame}
use Rattle.pj_grammar.specs.declared.frame.Frame.TheVariants as frames
use Rattle.pj_grammar.specs.declared.frame.Given.{Given as Shape}
use Rattle.pj_grammar.specs.declared.frame.Given.TheVariants as given
use Rattle.pj_grammar.specs.declared.mode.Head.{Head}
use Rattle.pj_grammar.specs.declared.mode.Head.TheVariants as heads
use Rattle.pj_grammar.specs.declared.mode.Mode.TheVariants as modes
use Rattle.pj_grammar.specs.Expressions.{Callee, Given, Reads, call, ended, has_fields, last, more, tighter}
use Rattle.pj_grammar.specs.Frames.{admits, at, give, head_path, node, params_of, takes_short}
use Rattle.pj_grammar.specs.Makers.{argument_after, call_of, lacks, no_arguments, paths_given}
use Rattle.pj_grammar.specs.Modules.{Modules}
use Rattle.pj_grammar.specs.Operands.{close_call, close_paths}
use Rattle.pj_grammar.specs.Statements.{Parameters}
use Rattle.pj_grammar.specs.Texts.{Kind}
use Rattle.pj_grammar.specs.Tokens.{Place, sign}
use Rattle.pj_grammar.proofs.Adding.{give-after, given_arguments, join-after, join-none}
use Rattle.pj_grammar.proofs.Arguing.{close-arguments, give-begun, given-at, paths-arguments}
use Rattle.pj_grammar.proofs.Begun.{ArgumentsBegun, GivenBegun, Opens, ShortBegun, Under, call_begun, short_begun, under}
use Rattle.pj_grammar.proofs.Levels.{absurd-of}
use Rattle.pj_grammar.proofs.Operating.{guard-stands, stands-text}
use Rattle.pj_grammar.proofs.Settling.{opens-more}
use Rattle.pj_grammar.proofs.Standing.{Stands, a_call, an_expression, bare_at, has_operand, over_frames}

-- the tokens of a call, and those of an argument behind them
regroup : (b ts us ms : List Token) (t : Token) → b ++ (ts ++ (us ++ (ms ++ t ∷ []))) ≡ b ++ (ts ++ us) ++ ms ++ t ∷ []
regroup b ts us ms t =
    ap (λ x. b ++ x) (sym (append_assoc ts us (ms ++ t ∷ [])))
    ∙ sym (append_assoc b (ts ++ us) (ms ++ t ∷ []))
    ∙ sym (append_assoc (b ++ (ts ++ us)) ms (t ∷ []))

-- A comma behind an argument.
pub comma-stands : (modules : Modules) (kind : Kind) (f : Path) (g : Shape) (h : Head) (k : List Frame) (before mine : List Token) (p : Place)
    → Under modules kind (frames.Call f g ∷ k) before → ((x : Path) → head_path h ≡ Some x → Callee modules mine x)
    → Reads modules levels.Conditional mine (node h)
    → Stands modules kind (at modes.Arguments (frames.Call f (give g h) ∷ k)) (before ++ mine ++ sign p signs.Comma ∷ [])
comma-stands modules kind f g h k before mine p (under {before = b} u o (call_begun {ts = ts} us adm s begun)) c d =
    stands-text modules kind (at modes.Arguments (frames.Call f (give g h) ∷ k)) (b ++ (ts ++ (us ++ (mine ++ sign p signs.Comma ∷ [])))) _
    (regroup b ts us mine (sign p signs.Comma))
    (bare_at refl (under u (opens-more modules k (ts ++ us) (mine ++ sign p signs.Comma ∷ []) _ o (append_assoc ts us _))
    (call_begun (us ++ (mine ++ sign p signs.Comma ∷ [])) adm s (give-begun us g h p begun c d))))

-- arguments and their end, behind what has been read of them
pub begun-arguments : {modules : Modules} {ts : List Token} (g : Shape) → GivenBegun modules ts g → ArgumentsBegun modules ts (given_arguments g)
begun-arguments (given.Paths ps) b = paths-arguments b
begun-arguments (given.Mixed es) b = b.0

pub last-argument : {modules : Modules} {mine : List Token} (us : List Token) (g : Shape) (h : Head) (p : Place) → GivenBegun modules us g
    → Reads modules levels.Conditional mine (node h)
    → Given modules (us ++ (mine ++ sign p signs.RightParen ∷ [])) (given_arguments (give g h))
last-argument us g h p b d =
    given-at (close-arguments (begun-arguments g b) (last p d)) refl
    (sym (join-after (given_arguments g) no_arguments (node h)) ∙ join-none (argument_after (given_arguments g) (node h)) ∙ sym (give-after g h))

pub no-argument : {modules : Modules} (us : List Token) (g : Shape) (p : Place) → GivenBegun modules us g
    → Given modules (us ++ sign p signs.RightParen ∷ []) (given_arguments g)
no-argument us g p b = given-at (close-arguments (begun-arguments g b) (ended p)) refl (join-none (given_arguments g))

-- what the end of a call needs to know: arguments that are names may be parameters, and others are arguments of a call
abbrev pub MayEnd : Modules → List Token → Path → Shape → Type 0
MayEnd modules us f (given.Paths ps) = (qs : List Param) → params_of ps ≡ Some qs → Parameters modules us qs
MayEnd modules us f (given.Mixed es) = lacks f es ≡ false

pub fields-two : (modules : Modules) (cs bs rest : List Token) (a b : Token) → has_fields modules (cs ++ a ∷ (bs ++ b ∷ rest)) ≡ true
fields-two modules [] [] rest a b = refl
fields-two modules [] (x ∷ bs) rest a b = refl
fields-two modules (x ∷ []) bs rest a b = refl
fields-two modules (x ∷ y ∷ cs) bs rest a b = refl

pub fields-given : {modules : Modules} {us : List Token} {es : Arguments} (cs : List Token) (p : Token) → Given modules us es → has_fields modules (cs ++ p ∷ us) ≡ true
fields-given {modules} cs p (ended q) = fields-two modules cs [] [] p _
fields-given {modules} cs p (last {ts = ts} q d) = fields-two modules cs ts [] p _
fields-given {modules} cs p (more {ts = ts} {us = us} q d e) = fields-two modules cs ts us p _

-- A call ends.
pub close-stands : (modules : Modules) (kind : Kind) (f : Path) (g : Shape) (k : List Frame) (before ts us : List Token) → Under modules kind k before
    → Opens modules k (ts ++ us) → admits k levels.Postfix ≡ true → ShortBegun modules f ts → Given modules us (given_arguments g) → MayEnd modules us f g
    → Stands modules kind (close_call f g k) (before ++ (ts ++ us))
close-stands modules kind f (given.Paths ps) k before ts us u o adm s d params = by-lacks (lacks f (paths_given ps)) refl
  where
    by-lacks : (b : Bool) → lacks f (paths_given ps) ≡ b → Stands modules kind (close_paths f ps k b) (before ++ (ts ++ us))
    by-lacks true e = guard-stands modules kind (takes_short k) _ _ (λ short. over_frames u o (has_operand (a_call adm s d params (λ _. short))))
    by-lacks false e = over_frames u o (has_operand (a_call adm s d params (λ h. absurd-of (sym e ∙ h))))
close-stands modules kind f (given.Mixed es) k before _ us u o adm (short_begun {ts = cs} p c direct) d not =
    stands-text modules kind (at (modes.Have (heads.Plain (call_of f es))) k) (before ++ (cs ++ sign p signs.LeftParen ∷ us)) _ (ap (λ x. before ++ x) (sym (append_assoc cs (sign p signs.LeftParen ∷ []) us)))
    (over_frames u (subst (λ x. Opens modules k x) (append_assoc cs (sign p signs.LeftParen ∷ []) us) o)
    (has_operand (an_expression adm (fields-given cs (sign p signs.LeftParen) d) (tighter refl (call p direct c d not)))))
