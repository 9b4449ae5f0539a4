-- The machine reads each expression of the grammar, and each list of arguments.
use Rattle.std.proofs.Common.{◌≡◌, ℕ, true, false, List, [], ◌∷◌, ◌++◌, Option, Some, codes, refl, sym, ap, ◌∙◌}
use Rattle.std.proofs.lemmas.List.{append_assoc}
use Rattle.pj_lex.specs.declared.sign.Sign.{Sign}
use Rattle.pj_lex.specs.declared.sign.Sign.TheVariants as signs
use Rattle.pj_lex.specs.declared.token.TokenKind.{TokenKind}
use Rattle.pj_lex.specs.declared.token.Token.{Token}
use Rattle.pj_syntax.specs.declared.expression.Path.{Path}
use Rattle.pj_syntax.specs.declared.expression.Expr.{Expr}
use Rattle.pj_grammar.specs.declared.level.Level.{Level}
use Rattle.pj_grammar.specs.declared.level.Level.TheVariants as levels
use Rattle.pj_grammar.specs.declared.level.Operator.{Operator}
use Rattle.pj_grammar.specs.declared.node.Node.{Node}
use Rattle.pj_grammar.specs.declared.node.Arguments.{Arguments}
use Rattle.pj_grammar.specs.declared.frame.Frame.{Frame}
use Rattle.pj_grammar.specs.declared.frame.Frame.TheVariants as frames
use Rattle.pj_grammar.specs.declared.frame.Given.{Given}
use Rattle.pj_grammar.specs.declared.frame.Given.TheVariants as given
use Rattle.pj_grammar.specs.declared.mode.Head.{Head}
use Rattle.pj_grammar.specs.declared.mode.Head.TheVariants as heads
use Rattle.pj_grammar.specs.declared.mode.Mode.TheVariants as modes
use Rattle.pj_grammar.specs.Expressions as grammar
use Rattle.pj_grammar.specs.Expressions.{Callee, Reads, call, conditional, ended, field, group, has_fields, infix_, last, literal, more, prefix, read, tighter}
use Rattle.pj_grammar.specs.Follows.{follows}
use Rattle.pj_grammar.specs.Frames.{State, admits, at, give, is_value, node}
use Rattle.pj_grammar.specs.Levels.{fits, is_prefix, left_of, level_of, right_of}
use Rattle.pj_grammar.specs.Machine.{opens_types, run, step}
use Rattle.pj_grammar.specs.Makers.{argument_after, argument_before, call_of, conditional_of, field_of, group_of, infix_of, lacks, leaf, literal_of, name_of, no_arguments, paths_given, prefix_of}
use Rattle.pj_grammar.specs.Modules.{Modules, is_module}
use Rattle.pj_grammar.specs.Operands.{close_call}
use Rattle.pj_grammar.specs.Tokens.{Place, name, sign, spot, token}
use Rattle.pj_grammar.proofs.Adding.{give-after, given_arguments, join, join-after, join-none, none-join}
use Rattle.pj_grammar.proofs.Begin.{from-argument, starts}
use Rattle.pj_grammar.proofs.Follow.{follows-tighter, pending-else, pending-infix, pending-prefix}
use Rattle.pj_grammar.proofs.Levels.{Binary, admits-tighter, and, binary, comparison, fits-refl, or, product, splits, sum}
use Rattle.pj_grammar.proofs.Reading.{Called, TakesName, module_name, reads-callee, runs-step, state}
use Rattle.pj_grammar.proofs.Stepping.{fielded, fielded-module, fielded-node, fielded-value, follows-infix, placed, runs-over, step-call, step-call-end, step-colon, step-comma, step-dot, step-field, step-group, step-group-end, step-infix, step-literal, step-no-argument, step-prefix, step-question}

-- the machine reads these tokens as an operand, where an expression of this level is wanted
pub record Read (modules : Modules) (k : List Frame) (l : Level) (ts : List Token) (e : Node) : Type 0 where
  pub head : Head
  pub is : node head ≡ e
  pub value : is_value head ≡ true
  pub dots : has_fields modules ts ≡ true → module_name modules head ≡ false
  pub runs : (t : Token) (r : List Token) → follows l t.what ≡ true → run modules (ts ++ t ∷ r) (at modes.Want k) ≡ run modules (t ∷ r) (at (modes.Have head) k)

-- the machine reads these tokens as the rest of a call
pub record Closed (modules : Modules) (k : List Frame) (f : Path) (g : Given) (us : List Token) (e : Node) : Type 0 where
  pub head : Head
  pub is : node head ≡ e
  pub value : is_value head ≡ true
  pub no_module : module_name modules head ≡ false
  pub runs : (r : List Token) → run modules (us ++ r) (at modes.Arguments (frames.Call f g ∷ k)) ≡ run modules r (at (modes.Have head) k)

abbrev Regrouped : Modules → List Token → List Token → List Token → Option State → Type 0
Regrouped modules ts us r s = run modules ((ts ++ us) ++ r) s ≡ run modules (ts ++ (us ++ r)) s

regrouped : (modules : Modules) (ts us r : List Token) (s : Option State) → Regrouped modules ts us r s
regrouped modules ts us r s = ap (λ w. run modules w s) (append_assoc ts us r)

wants-names : (modules : Modules) (k : List Frame) → TakesName modules (state modes.Want k) k
unfolding step
wants-names modules k p x = refl

read-tighter : {modules : Modules} {k : List Frame} {l found : Level} {ts : List Token} {e : Node} → fits l found ≡ true → Read modules k found ts e → Read modules k l ts e
read-tighter {l = l} {found = found} fit i =
    record { head = i.head; is = i.is; value = i.value; dots = i.dots; runs = λ t r q. i.runs t r (follows-tighter l found t.what fit q) }

read-name : {modules : Modules} {k : List Frame} {ts : List Token} {f : Path} → Called modules (state modes.Want k) k ts f → Read modules k levels.Primary ts (name_of f)
read-name c = record { head = c.head; is = c.is; value = c.value; dots = c.dots; runs = λ t r q. c.runs (t ∷ r) }

read-literal : {modules : Modules} (k : List Frame) (p : Place) (kind : TokenKind) (e : Expr) → literal_of kind ≡ Some e
    → Read modules k levels.Primary (token p kind ∷ []) (leaf p.start e)
read-literal {modules} k p kind e is =
    record {
      head = heads.Plain (leaf p.start e);
      is = refl;
      value = refl;
      dots = λ h. refl;
      runs = λ t r q. runs-step modules (token p kind) (t ∷ r) (state modes.Want k) _ (step-literal modules k p kind e is);
    }

read-group : {modules : Modules} {ts : List Token} {e : Node} (k : List Frame) (p q : Place)
    → Read modules (frames.Group p.start (opens_types k) ∷ k) levels.Conditional ts e
    → Read modules k levels.Primary (sign p signs.LeftParen ∷ (ts ++ sign q signs.RightParen ∷ [])) (group_of p.start e)
read-group {modules} {ts} k p q i =
    record {
      head = heads.Plain (group_of p.start (node i.head));
      is = ap (group_of p.start) i.is;
      value = refl;
      dots = λ h. refl;
      runs = λ t r fine. runs-step modules (sign p signs.LeftParen) ((ts ++ sign q signs.RightParen ∷ []) ++ t ∷ r) (state modes.Want k) _ (step-group modules k p)
          ∙ regrouped modules ts (sign q signs.RightParen ∷ []) (t ∷ r) _
          ∙ i.runs (sign q signs.RightParen) (t ∷ r) refl
          ∙ runs-step modules (sign q signs.RightParen) (t ∷ r) _ _ (step-group-end modules k p.start (opens_types k) i.head q i.value);
    }

read-prefix : {modules : Modules} {ts : List Token} {e : Node} (k : List Frame) (p : Place) (s : Sign) → is_prefix s ≡ true → admits k levels.Unary ≡ true
    → Read modules (frames.Prefix (record { sign = s; at = p.start }) ∷ k) levels.Unary ts e
    → Read modules k levels.Unary (sign p s ∷ ts) (prefix_of (record { sign = s; at = p.start }) e)
read-prefix {modules} {ts} k p s is adm i =
    let o : Operator = record { sign = s; at = p.start } in
    record {
      head = heads.Plain (prefix_of o (node i.head));
      is = ap (prefix_of o) i.is;
      value = refl;
      dots = λ h. refl;
      runs = λ t r q. runs-step modules (sign p s) (ts ++ t ∷ r) (state modes.Want k) _ (step-prefix modules k p s is)
          ∙ i.runs t r q
          ∙ runs-over modules (frames.Prefix o) levels.Unary (λ h. prefix_of o (node h)) (pending-prefix o) refl k adm i.head i.value t r q;
    }

read-field : {modules : Modules} {ts : List Token} {e : Node} (k : List Frame) (p q : Place) (x : List ℕ) → has_fields modules ts ≡ true
    → admits k levels.Postfix ≡ true → Read modules k levels.Postfix ts e
    → Read modules k levels.Postfix (ts ++ sign p signs.Dot ∷ name q x ∷ []) (field_of e (spot q x))
read-field {modules} {ts} k p q x fields adm i =
    record {
      head = fielded (placed i.head) (node i.head) (spot q x);
      is = fielded-node (placed i.head) (node i.head) (spot q x) ∙ ap (λ e. field_of e (spot q x)) i.is;
      value = fielded-value (placed i.head) (node i.head) (spot q x);
      dots = λ h. fielded-module modules (placed i.head) (node i.head) (spot q x);
      runs = λ t r fine. regrouped modules ts (sign p signs.Dot ∷ name q x ∷ []) (t ∷ r) _
          ∙ i.runs (sign p signs.Dot) (name q x ∷ t ∷ r) refl
          ∙ runs-step modules (sign p signs.Dot) (name q x ∷ t ∷ r) _ _ (step-dot modules k i.head p (i.dots fields) i.value adm)
          ∙ runs-step modules (name q x) (t ∷ r) _ _ (step-field modules k (placed i.head) (node i.head) q x);
    }

-- a binary operator's operands
binary-low : (l : Level) → Binary l → fits levels.Postfix l ≡ false
binary-low _ or = refl
binary-low _ and = refl
binary-low _ comparison = refl
binary-low _ sum = refl
binary-low _ product = refl

fits-right : (l : Level) → Binary l → fits l (right_of l) ≡ true
fits-right _ or = refl
fits-right _ and = refl
fits-right _ comparison = refl
fits-right _ sum = refl
fits-right _ product = refl

fits-left : (l : Level) → Binary l → fits l (left_of l) ≡ true
fits-left _ or = refl
fits-left _ and = refl
fits-left _ comparison = refl
fits-left _ sum = refl
fits-left _ product = refl

read-infix : {modules : Modules} {l : Level} {ts us : List Token} {a b : Node} (k : List Frame) (p : Place) (s : Sign) → level_of s ≡ Some l → Binary l
    → admits k l ≡ true → (i : Read modules k (left_of l) ts a)
    → Read modules (frames.Infix l (node i.head) (record { sign = s; at = p.start }) ∷ k) (right_of l) us b
    → Read modules k l (ts ++ sign p s ∷ us) (infix_of a (record { sign = s; at = p.start }) b)
read-infix {modules} {l} {ts} {us} {a} k p s is two adm i j =
    let o : Operator = record { sign = s; at = p.start } in
    record {
      head = heads.Plain (infix_of (node i.head) o (node j.head));
      is = ap (λ x. infix_of x o (node j.head)) i.is ∙ ap (infix_of a o) j.is;
      value = refl;
      dots = λ h. refl;
      runs = λ t r q. regrouped modules ts (sign p s ∷ us) (t ∷ r) _
          ∙ i.runs (sign p s) (us ++ t ∷ r) (follows-infix s l is (fits-refl (left_of l)))
          ∙ runs-step modules (sign p s) (us ++ t ∷ r) _ _ (step-infix modules k i.head p s l is (splits l two) i.value adm)
          ∙ j.runs t r (follows-tighter l (right_of l) t.what (fits-right l two) q)
          ∙ runs-over modules (frames.Infix l (node i.head) o) l (λ h. infix_of (node i.head) o (node h)) (pending-infix l (node i.head) o) (binary-low l two) k adm j.head j.value t r q;
    }

read-conditional : {modules : Modules} {cs ts us : List Token} {c a b : Node} (k : List Frame) (p q : Place) → admits k levels.Conditional ≡ true
    → (i : Read modules k levels.Disjunction cs c) → (j : Read modules (frames.Then (node i.head) ∷ k) levels.Conditional ts a)
    → Read modules (frames.Else (node i.head) (node j.head) ∷ k) levels.Conditional us b
    → Read modules k levels.Conditional (cs ++ sign p signs.Question ∷ (ts ++ sign q signs.Colon ∷ us)) (conditional_of c a b)
read-conditional {modules} {cs} {ts} {us} {c} {a} k p q adm i j l =
    record {
      head = heads.Plain (conditional_of (node i.head) (node j.head) (node l.head));
      is = ap (λ c. conditional_of c (node j.head) (node l.head)) i.is ∙ ap (λ x. conditional_of c x (node l.head)) j.is ∙ ap (conditional_of c a) l.is;
      value = refl;
      dots = λ h. refl;
      runs = λ t r fine. regrouped modules cs (sign p signs.Question ∷ (ts ++ sign q signs.Colon ∷ us)) (t ∷ r) _
          ∙ i.runs (sign p signs.Question) ((ts ++ sign q signs.Colon ∷ us) ++ t ∷ r) refl
          ∙ runs-step modules (sign p signs.Question) ((ts ++ sign q signs.Colon ∷ us) ++ t ∷ r) _ _ (step-question modules k i.head p i.value adm)
          ∙ regrouped modules ts (sign q signs.Colon ∷ us) (t ∷ r) _
          ∙ j.runs (sign q signs.Colon) (us ++ t ∷ r) refl
          ∙ runs-step modules (sign q signs.Colon) (us ++ t ∷ r) _ _ (step-colon modules k (node i.head) j.head q j.value)
          ∙ l.runs t r fine
          ∙ runs-over modules (frames.Else (node i.head) (node j.head)) levels.Conditional (λ h. conditional_of (node i.head) (node j.head) (node h)) (pending-else (node i.head) (node j.head)) refl k adm l.head l.value t r fine;
    }

-- a call's end
pub record Ends (modules : Modules) (k : List Frame) (f : Path) (g : Given) : Type 0 where
  pub head : Head
  pub is : node head ≡ call_of f (given_arguments g)
  pub value : is_value head ≡ true
  pub no_module : module_name modules head ≡ false
  pub closes : close_call f g k ≡ at (modes.Have head) k

call-ends : (modules : Modules) (k : List Frame) (f : Path) (g : Given) → lacks f (given_arguments g) ≡ false → Ends modules k f g
call-ends modules k f (given.Paths ps) some =
    record { head = heads.Call f ps; is = refl; value = rw some refl; no_module = refl; closes = rw some refl }
call-ends modules k f (given.Mixed es) some = record { head = heads.Plain (call_of f es); is = refl; value = refl; no_module = refl; closes = refl }

given-last : (g : Given) (h : Head) (e : Node) → node h ≡ e → given_arguments (give g h) ≡ join (given_arguments g) (argument_before e no_arguments)
given-last g h e is =
    give-after g h ∙ ap (argument_after (given_arguments g)) is ∙ sym (join-none (argument_after (given_arguments g) e)) ∙ join-after (given_arguments g) no_arguments e

given-more : (g : Given) (h : Head) (e : Node) (es : Arguments) → node h ≡ e → join (given_arguments (give g h)) es ≡ join (given_arguments g) (argument_before e es)
given-more g h e es is =
    ap (λ a. join a es) (give-after g h ∙ ap (argument_after (given_arguments g)) is) ∙ join-after (given_arguments g) es e

close-none : (modules : Modules) (k : List Frame) (f : Path) (g : Given) (p : Place) → lacks f (join (given_arguments g) no_arguments) ≡ false
    → Closed modules k f g (sign p signs.RightParen ∷ []) (call_of f (join (given_arguments g) no_arguments))
close-none modules k f g p some =
    let same = join-none (given_arguments g) in
    let end = call-ends modules k f g (ap (lacks f) (sym same) ∙ some) in
    record {
      head = end.head;
      is = end.is ∙ ap (call_of f) (sym same);
      value = end.value;
      no_module = end.no_module;
      runs = λ r. runs-step modules (sign p signs.RightParen) r _ _ (step-no-argument modules k f g p ∙ end.closes);
    }

close-last : {modules : Modules} {ts : List Token} {e : Node} (k : List Frame) (f : Path) (g : Given) (p : Place)
    → (d : Reads modules levels.Conditional ts e) → Read modules (frames.Call f g ∷ k) levels.Conditional ts e
    → lacks f (join (given_arguments g) (argument_before e no_arguments)) ≡ false
    → Closed modules k f g (ts ++ sign p signs.RightParen ∷ []) (call_of f (join (given_arguments g) (argument_before e no_arguments)))
close-last {modules} {ts} {e} k f g p d i some =
    let same = given-last g i.head e i.is in
    let end = call-ends modules k f (give g i.head) (ap (lacks f) same ∙ some) in
    record {
      head = end.head;
      is = end.is ∙ ap (call_of f) same;
      value = end.value;
      no_module = end.no_module;
      runs = λ r. regrouped modules ts (sign p signs.RightParen ∷ []) r _
          ∙ from-argument modules ts (sign p signs.RightParen ∷ r) (starts d) (frames.Call f g ∷ k)
          ∙ i.runs (sign p signs.RightParen) r refl
          ∙ runs-step modules (sign p signs.RightParen) r _ _ (step-call-end modules k f g i.head p i.value ∙ end.closes);
    }

close-more : {modules : Modules} {ts us : List Token} {e : Node} (es : Arguments) (k : List Frame) (f : Path) (g : Given) (p : Place)
    → (d : Reads modules levels.Conditional ts e) → (i : Read modules (frames.Call f g ∷ k) levels.Conditional ts e)
    → Closed modules k f (give g i.head) us (call_of f (join (given_arguments (give g i.head)) es))
    → Closed modules k f g (ts ++ sign p signs.Comma ∷ us) (call_of f (join (given_arguments g) (argument_before e es)))
close-more {modules} {ts} {us} {e} es k f g p d i c =
    record {
      head = c.head;
      is = c.is ∙ ap (call_of f) (given-more g i.head e es i.is);
      value = c.value;
      no_module = c.no_module;
      runs = λ r. regrouped modules ts (sign p signs.Comma ∷ us) r _
          ∙ from-argument modules ts (sign p signs.Comma ∷ (us ++ r)) (starts d) (frames.Call f g ∷ k)
          ∙ i.runs (sign p signs.Comma) (us ++ r) refl
          ∙ runs-step modules (sign p signs.Comma) (us ++ r) _ _ (step-comma modules k f g i.head p i.value)
          ∙ c.runs r;
    }

paths-none : paths_given [] ≡ no_arguments
unfolding paths_given
paths-none = refl

none-given : (es : Arguments) → join (paths_given []) es ≡ es
none-given es = ap (λ a. join a es) paths-none ∙ none-join es

read-call : {modules : Modules} {ts us : List Token} {f : Path} (es : Arguments) (k : List Frame) (p : Place) → p.blank ≡ false → admits k levels.Primary ≡ true
    → Called modules (state modes.Want k) k ts f → Closed modules k f (given.Paths []) us (call_of f (join (paths_given []) es))
    → Read modules k levels.Primary (ts ++ sign p signs.LeftParen ∷ us) (call_of f es)
read-call {modules} {ts} {us} {f} es k p blank adm c d =
    record {
      head = d.head;
      is = d.is ∙ ap (call_of f) (none-given es);
      value = d.value;
      dots = λ h. d.no_module;
      runs = λ t r q. regrouped modules ts (sign p signs.LeftParen ∷ us) (t ∷ r) _
          ∙ c.runs (sign p signs.LeftParen ∷ (us ++ t ∷ r))
          ∙ runs-step modules (sign p signs.LeftParen) (us ++ t ∷ r) _ _ (step-call modules k c.head f p c.path blank adm)
          ∙ d.runs (t ∷ r);
    }

mutual
  pub reads : {modules : Modules} {l : Level} {ts : List Token} {e : Node} → is_module modules (codes "Base") ≡ true → Reads modules l ts e
      → (k : List Frame) → admits k l ≡ true → Read modules k l ts e
  reads base (tighter {l = l} {found = found} fit d) k adm = read-tighter fit (reads base d k (admits-tighter k l found adm fit))
  reads base (conditional p q c a b) k adm =
      let i = reads base c k (admits-tighter k levels.Conditional levels.Disjunction adm refl) in
      let j = reads base a (frames.Then (node i.head) ∷ k) refl in
      read-conditional k p q adm i j (reads base b (frames.Else (node i.head) (node j.head) ∷ k) refl)
  reads base (infix_ {l = l} p s is a b) k adm =
      let two = binary s l is in
      let i = reads base a k (admits-tighter k l (left_of l) adm (fits-left l two)) in
      read-infix k p s is two adm i (reads base b (frames.Infix l (node i.head) (record { sign = s; at = p.start }) ∷ k) (fits-refl (right_of l)))
  reads base (prefix p s is d) k adm = read-prefix k p s is adm (reads base d (frames.Prefix (record { sign = s; at = p.start }) ∷ k) refl)
  reads base (field p q x fields d) k adm = read-field k p q x fields adm (reads base d k adm)
  reads base (literal {tree = e} p kind is) k adm = read-literal k p kind e is
  reads base (read d) k adm = read-name (reads-callee base d _ k (wants-names _ k) (admits-tighter k levels.Primary levels.Callee adm refl))
  reads base (call {f = f} {es = es} p blank d ds some) k adm =
      read-call es k p blank adm (reads-callee base d _ k (wants-names _ k) (admits-tighter k levels.Primary levels.Callee adm refl))
      (gives base ds f (given.Paths []) k (ap (lacks f) (none-given es) ∙ some))
  reads base (group p q d) k adm = read-group k p q (reads base d (frames.Group p.start (opens_types k) ∷ k) refl)

  pub gives : {modules : Modules} {us : List Token} {es : Arguments} → is_module modules (codes "Base") ≡ true → grammar.Given modules us es
      → (f : Path) (g : Given) (k : List Frame) → lacks f (join (given_arguments g) es) ≡ false
      → Closed modules k f g us (call_of f (join (given_arguments g) es))
  gives base (ended p) f g k some = close-none _ k f g p some
  gives base (last p d) f g k some = close-last k f g p d (reads base d (frames.Call f g ∷ k) refl) some
  gives base (more {e = e} {es = es} p d ds) f g k some =
      let i = reads base d (frames.Call f g ∷ k) refl in
      close-more es k f g p d i (gives base ds f (give g i.head) k (ap (lacks f) (given-more g i.head e es i.is) ∙ some))
