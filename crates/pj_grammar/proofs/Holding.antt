-- What an operand is in the grammar, and how one is made.
use Rattle.std.proofs.Common.{◌≡◌, Bool, true, false, not, List, [], ◌∷◌, ◌++◌, Some, if◌then◌else◌, refl, sym, subst, ap}
use Rattle.std.proofs.lemmas.List.{append_assoc}
use Rattle.pj_lex.specs.declared.sign.Sign.TheVariants as signs
use Rattle.pj_lex.specs.declared.token.Token.{Token}
use Rattle.pj_syntax.specs.declared.expression.Path.{Path}
use Rattle.pj_grammar.specs.declared.level.Level.TheVariants as levels
use Rattle.pj_grammar.specs.declared.node.Node.{Node}
use Rattle.pj_grammar.specs.declared.frame.Frame.{Frame}
use Rattle.pj_grammar.specs.declared.mode.Head.{Head}
use Rattle.pj_grammar.specs.Expressions.{Callee, Named, Reads, call, field, has_fields, named, of_module, bare, operator, read, tighter}
use Rattle.pj_grammar.specs.Frames.{head_path, is_value, node}
use Rattle.pj_grammar.specs.Makers.{call_of, lacks, paths_given}
use Rattle.pj_grammar.specs.Modules.{Modules}
use Rattle.pj_grammar.specs.Operands.{type_path}
use Rattle.pj_grammar.specs.Statements.{Holder, a_field, a_member, a_name}
use Rattle.pj_grammar.specs.Tokens.{sign}
use Rattle.pj_grammar.proofs.Begun.{short_begun}
use Rattle.pj_grammar.proofs.Standing.{Operand, a_call, a_place, an_expression, an_operator}
use Rattle.pj_grammar.proofs.Standing.{a_member as operand_member, a_name as operand_name}

-- two tokens and more have fields
pub fields-of-more : (modules : Modules) (ts : List Token) (a b : Token) → has_fields modules (ts ++ a ∷ b ∷ []) ≡ true
fields-of-more modules [] a b = refl
fields-of-more modules (t ∷ []) a b = refl
fields-of-more modules (t ∷ u ∷ ts) a b = refl

holder-fields : {modules : Modules} {ts : List Token} {e : Node} → Holder modules ts e → has_fields modules ts ≡ true
holder-fields (a_name p x is) = ap not is
holder-fields (a_member p q r m x is) = refl
holder-fields {modules} (a_field {ts = ts} p q x d) = fields-of-more modules ts _ _

-- what is before a field that can be assigned is an expression
pub holder-reads : {modules : Modules} {ts : List Token} {e : Node} → Holder modules ts e → Reads modules levels.Postfix ts e
holder-reads (a_name p x is) = tighter refl (read (named (bare p x)))
holder-reads (a_member p q r m x is) = tighter refl (read (named (of_module p q r m x is)))
holder-reads (a_field p q x d) = field p q x (holder-fields d) (holder-reads d)

has-value : (b : Bool) → (if b then false else true) ≡ true → b ≡ false
has-value true h = cc
has-value false h = refl

some-path : {a b : Path} → Some a ≡ Some b → a ≡ b
some-path h = cc

-- An operand is an expression, but where it can only be the head of a definition.
pub operand-reads : {modules : Modules} {h : Head} {k : List Frame} {ts : List Token} → Operand modules h k ts → is_value h ≡ true
    → Reads modules levels.Postfix ts (node h)
operand-reads (operand_name p x) v = tighter refl (read (named (bare p x)))
operand-reads (operand_member p q r m x is adm) v = tighter refl (read (named (of_module p q r m x is)))
operand-reads (an_operator p q r o s is adm) v = tighter refl (read (operator p q r o s is))
operand-reads (a_place p q x d adm) v = field p q x (holder-fields d) (holder-reads d)
operand-reads {modules} (a_call {us = us} {f = f} {ps = ps} adm (short_begun {ts = cs} p c direct) given params short) v =
    subst (λ t. Reads modules levels.Postfix t (call_of f (paths_given ps))) (sym (append_assoc cs (sign p signs.LeftParen ∷ []) us))
    (tighter refl (call p direct c given (has-value (lacks f (paths_given ps)) v)))
operand-reads (an_expression adm fields d) v = d

-- an operand that is a path was read as one
pub operand-path : {modules : Modules} {h : Head} {k : List Frame} {ts : List Token} → Operand modules h k ts → (f : Path) → head_path h ≡ Some f
    → Callee modules ts f
operand-path {modules} {ts = ts} (operand_name p x) f e = subst (λ g. Callee modules ts g) (some-path e) (named (bare p x))
operand-path {modules} {ts = ts} (operand_member p q r m x is adm) f e = subst (λ g. Callee modules ts g) (some-path e) (named (of_module p q r m x is))
operand-path {modules} {ts = ts} (an_operator p q r o s is adm) f e = subst (λ g. Callee modules ts g) (some-path e) (operator p q r o s is)
operand-path (a_place p q x d adm) f e = cc
operand-path (a_call adm s given params short) f e = cc
operand-path (an_expression adm fields d) f e = cc

-- an operand that can be a type's name was read as one
pub operand-type : {modules : Modules} {h : Head} {k : List Frame} {ts : List Token} → Operand modules h k ts → (f : Path) → type_path h ≡ Some f
    → Named modules ts f
operand-type {modules} {ts = ts} (operand_name p x) f e = subst (λ g. Named modules ts g) (some-path e) (bare p x)
operand-type {modules} {ts = ts} (operand_member p q r m x is adm) f e = subst (λ g. Named modules ts g) (some-path e) (of_module p q r m x is)
operand-type (an_operator p q r o s is adm) f e = cc
operand-type (a_place p q x d adm) f e = cc
operand-type (a_call adm s given params short) f e = cc
operand-type (an_expression adm fields d) f e = cc
