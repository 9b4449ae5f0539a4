-- What may follow an expression of a level, and how it ends what is pending before it.
use Rattle.std.proofs.Common.{◌≡◌, ℕ, true, false, List, [], ◌∷◌, refl, sym, ◌∙◌}
use Rattle.pj_lex.specs.declared.token.TokenKind.{TokenKind}
use Rattle.pj_grammar.specs.declared.level.Level.{Level}
use Rattle.pj_grammar.specs.declared.level.Level.TheVariants as levels
use Rattle.pj_grammar.specs.declared.level.Operator.{Operator}
use Rattle.pj_grammar.specs.declared.node.Node.{Node}
use Rattle.pj_grammar.specs.declared.frame.Frame.{Frame}
use Rattle.pj_grammar.specs.declared.frame.Frame.TheVariants as frames
use Rattle.pj_grammar.specs.declared.frame.Purpose.TheVariants as purposes
use Rattle.pj_grammar.specs.declared.mode.Head.{Head}
use Rattle.pj_grammar.specs.declared.mode.Head.TheVariants as heads
use Rattle.pj_grammar.specs.Follows.{follows, follows_next}
use Rattle.pj_grammar.specs.Frames.{admits, is_value, node, settle}
use Rattle.pj_grammar.specs.Levels.{fits, left_of}
use Rattle.pj_grammar.specs.Makers.{conditional_of, infix_of, prefix_of}
use Rattle.pj_grammar.specs.Modules.{Modules}
use Rattle.pj_grammar.specs.Operands.{Next, assignment, dot, finish, have, have_next, have_other, have_value, infix_, next, other, paren, question, type}
use Rattle.pj_grammar.specs.Tokens.{Place}
use Rattle.pj_grammar.proofs.Levels.{absurd-of, fits-conditional, fits-trans}

pub follows-tighter : (l found : Level) (kind : TokenKind) → fits l found ≡ true → follows l kind ≡ true → follows found kind ≡ true
follows-tighter l found kind p q = at-next (next kind) q
  where
    at-next : (n : Next) → follows_next l n ≡ true → follows_next found n ≡ true
    at-next dot q = fits-trans levels.Postfix l found q p
    at-next paren q = q
    at-next (infix_ m s) q = fits-trans (left_of m) l found q p
    at-next question q = fits-trans levels.Disjunction l found q p
    at-next (assignment o) q = q
    at-next type q = q
    at-next other q = refl

-- where an operand is wanted, a level below names is looser than the level of names
not-named : (named l : Level) → fits levels.Postfix named ≡ true → fits levels.Postfix l ≡ false → fits named l ≡ true → false ≡ true
not-named named l a b c = sym b ∙ fits-trans levels.Postfix named l a c

pub other-plain : (l : Level) → fits levels.Postfix l ≡ false → (k : List Frame) → admits k l ≡ true → (e : Node) (p : ℕ) (kind : TokenKind)
    → have_other (heads.Plain e) k p kind ≡ finish (settle levels.Conditional (heads.Plain e) k) kind
other-plain l low [] a e p kind = refl
other-plain l low (frames.FunctionName ∷ k) a e p kind = absurd-of (not-named levels.Callee l refl low a)
other-plain l low (frames.Signature form f ps ∷ k) a e p kind = absurd-of (not-named levels.Bare l refl low a)
other-plain l low (frames.Fields mutable x parent fs ∷ k) a e p kind = absurd-of (not-named levels.Bare l refl low a)
other-plain l low (frames.TypeOf x q ∷ k) a e p kind = absurd-of (not-named levels.Named l refl low a)
other-plain l low (frames.Parent header ∷ k) a e p kind = absurd-of (not-named levels.Named l refl low a)
other-plain l low (frames.DirectiveFun ∷ k) a e p kind = absurd-of (not-named levels.Callee l refl low a)
other-plain l low (frames.Types f ts ∷ k) a e p kind = absurd-of (not-named levels.Named l refl low a)
other-plain l low (frames.Prefix o ∷ k) a e p kind = refl
other-plain l low (frames.Infix m b o ∷ k) a e p kind = refl
other-plain l low (frames.Then c ∷ k) a e p kind = refl
other-plain l low (frames.Else c b ∷ k) a e p kind = refl
other-plain l low (frames.Group q types ∷ k) a e p kind = refl
other-plain l low (frames.Call f g ∷ k) a e p kind = refl
other-plain l low (frames.Hole purposes.Value ∷ k) a e p kind = refl
other-plain l low (frames.Hole (purposes.Assign target o) ∷ k) a e p kind = refl
other-plain l low (frames.Hole (purposes.Return q) ∷ k) a e p kind = refl
other-plain l low (frames.Hole purposes.If ∷ k) a e p kind = refl
other-plain l low (frames.Hole purposes.While ∷ k) a e p kind = refl
other-plain l low (frames.Hole (purposes.From x) ∷ k) a e p kind = refl
other-plain l low (frames.Hole (purposes.To x b) ∷ k) a e p kind = refl
other-plain l low (frames.Hole (purposes.Const x) ∷ k) a e p kind = refl
other-plain l low (frames.Hole (purposes.Short f ps) ∷ k) a e p kind = refl
other-plain l low (frames.Block o ss ∷ k) a e p kind = refl
other-plain l low (frames.Branch c ss ∷ k) a e p kind = refl
other-plain l low (frames.Payload m quoted ∷ k) a e p kind = refl
other-plain l low (frames.Items root is ∷ k) a e p kind = refl

-- a frame of a level that ends with its operand
pub record Pending (f : Frame) (l : Level) (made : Head → Node) : Type 0 where
  pub ends : (low : Level) → fits low l ≡ true → (h : Head) (k : List Frame) → settle low h (f ∷ k) ≡ settle low (heads.Plain (made h)) k
  pub is_operator : (h : Head) (k : List Frame) (p : ℕ) (kind : TokenKind) → have_other h (f ∷ k) p kind ≡ have_value h (f ∷ k) kind

pub pending-prefix : (o : Operator) → Pending (frames.Prefix o) levels.Unary (λ h. prefix_of o (node h))
unfolding settle
pending-prefix o = record { ends = λ low p h k. refl; is_operator = λ h k p kind. refl }

pub pending-infix : (l : Level) (a : Node) (o : Operator) → Pending (frames.Infix l a o) l (λ h. infix_of a o (node h))
unfolding settle
pending-infix l a o = record { ends = λ low p h k. rw p refl; is_operator = λ h k p kind. refl }

pub pending-else : (c a : Node) → Pending (frames.Else c a) levels.Conditional (λ h. conditional_of c a (node h))
unfolding settle
pending-else c a = record { ends = λ low p h k. rw p refl; is_operator = λ h k p kind. refl }

-- What may follow ends the frame: the operand over it is as what the frame makes.
pub over : (modules : Modules) (f : Frame) (l : Level) (made : Head → Node) → Pending f l made → fits levels.Postfix l ≡ false
    → (k : List Frame) → admits k l ≡ true → (h : Head) → is_value h ≡ true → (p : Place) (kind : TokenKind) → follows l kind ≡ true
    → have modules h (f ∷ k) p kind ≡ have modules (heads.Plain (made h)) k p kind
over modules f l made pending low k a h value p kind q = at-next (next kind) q
  where
    at-next : (n : Next) → follows_next l n ≡ true → have_next modules h (f ∷ k) p kind n ≡ have_next modules (heads.Plain (made h)) k p kind n
    at-next dot q = absurd-of (sym low ∙ q)
    at-next paren q = absurd-of q
    at-next (infix_ m s) q = rw value (rw (pending.ends (left_of m) q h k) refl)
    at-next question q = rw value (rw (pending.ends levels.Disjunction q h k) refl)
    at-next (assignment o) q = absurd-of q
    at-next type q = absurd-of q
    at-next other q =
        rw (pending.is_operator h k p.start kind) (rw value (rw (pending.ends levels.Conditional (fits-conditional l) h k) (sym (other-plain l low k a (made h) p.start kind))))
