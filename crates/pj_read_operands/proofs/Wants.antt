-- How a reader goes on from an operand, by what the frame on top takes.
use Rattle.std.proofs.Common.{◌≡◌, ℕ, List, [], ◌∷◌, Option, Some, None, refl, sym, ap, ◌∙◌}
use Rattle.std.specs.Prelude.{MatchOption}
use Rattle.pj_lex.specs.declared.token.TokenKind.{TokenKind}
use Rattle.pj_grammar.specs.declared.frame.Frame.{Frame}
use Rattle.pj_grammar.specs.declared.frame.Frame.TheVariants as frames
use Rattle.pj_grammar.specs.declared.frame.Purpose.TheVariants as purposes
use Rattle.pj_grammar.specs.declared.mode.Head.{Head}
use Rattle.pj_grammar.specs.Frames.{head_path}
use Rattle.pj_grammar.specs.Operands.{add_name, after_function, have_first, have_other, have_path, have_value}
use Rattle.pj_read_operands.specs.declared.finishing.Wanted.TheVariants as wants
use Rattle.pj_read_operands.specs.Wants.{below_top, path_on, wanted_of, wanted_on}

declared : (h : Head) (f : Frame) (k : List Frame) (p : ℕ) (t : TokenKind) → wanted_of f ≡ wants.Declared
    → have_other h (f ∷ k) p t ≡ after_function h k t
declared h frames.FunctionName k p t e = refl
declared h (frames.Hole purposes.Value) k p t e = absurd (cc)
declared h (frames.Hole o) k p t e = absurd (cc)
declared h _ k p t e = absurd (cc)

param : (h : Head) (f : Frame) (k : List Frame) (p : ℕ) (t : TokenKind) → wanted_of f ≡ wants.Param
    → have_other h (f ∷ k) p t ≡ add_name h (f ∷ k) t
param h (frames.Signature form f ps) k p t e = refl
param h (frames.Fields m x parent fs) k p t e = refl
param h (frames.Hole purposes.Value) k p t e = absurd (cc)
param h (frames.Hole o) k p t e = absurd (cc)
param h _ k p t e = absurd (cc)

path : (h : Head) (f : Frame) (k : List Frame) (p : ℕ) (t : TokenKind) → wanted_of f ≡ wants.Path
    → have_other h (f ∷ k) p t ≡ have_path f (head_path h) k p t
path h (frames.TypeOf x first) k p t e = refl
path h (frames.Parent header) k p t e = refl
path h frames.DirectiveFun k p t e = refl
path h (frames.Types f ts) k p t e = refl
path h (frames.Hole purposes.Value) k p t e = absurd (cc)
path h (frames.Hole o) k p t e = absurd (cc)
path h _ k p t e = absurd (cc)

first : (h : Head) (f : Frame) (k : List Frame) (p : ℕ) (t : TokenKind) → wanted_of f ≡ wants.First
    → have_other h (f ∷ k) p t ≡ have_first h k t
first h (frames.Hole purposes.Value) k p t e = refl
first h (frames.Hole o) k p t e = absurd (cc)
first h _ k p t e = absurd (cc)

value : (h : Head) (f : Frame) (k : List Frame) (p : ℕ) (t : TokenKind) → wanted_of f ≡ wants.Value
    → have_other h (f ∷ k) p t ≡ have_value h (f ∷ k) t
value h frames.FunctionName k p t e = absurd (cc)
value h (frames.Signature form f ps) k p t e = absurd (cc)
value h (frames.Fields m x parent fs) k p t e = absurd (cc)
value h (frames.TypeOf x first) k p t e = absurd (cc)
value h (frames.Parent header) k p t e = absurd (cc)
value h frames.DirectiveFun k p t e = absurd (cc)
value h (frames.Types f ts) k p t e = absurd (cc)
value h (frames.Hole purposes.Value) k p t e = absurd (cc)
value h (frames.Hole o) k p t e = refl
value h _ k p t e = refl

-- what is left of frames whose innermost ends
pub below-popped : (k rest : List Frame) (popped : Option Frame) → MatchOption popped ((k ≡ []) × (rest ≡ [])) (λ f. k ≡ f ∷ rest) → rest ≡ below_top k
below-popped k rest (Some f) e = sym (ap below_top e)
below-popped k rest None (none, left) = left ∙ sym (ap below_top none)

pub by-declared : (h : Head) (k : List Frame) (p : ℕ) (t : TokenKind) → wanted_on k ≡ wants.Declared
    → have_other h k p t ≡ after_function h (below_top k) t
by-declared h [] p t e = absurd (cc)
by-declared h (f ∷ k) p t e = declared h f k p t e

pub by-param : (h : Head) (k : List Frame) (p : ℕ) (t : TokenKind) → wanted_on k ≡ wants.Param → have_other h k p t ≡ add_name h k t
by-param h [] p t e = absurd (cc)
by-param h (f ∷ k) p t e = param h f k p t e

pub by-path : (h : Head) (k : List Frame) (p : ℕ) (t : TokenKind) → wanted_on k ≡ wants.Path → have_other h k p t ≡ path_on h k p t
by-path h [] p t e = absurd (cc)
by-path h (f ∷ k) p t e = path h f k p t e

pub by-first : (h : Head) (k : List Frame) (p : ℕ) (t : TokenKind) → wanted_on k ≡ wants.First → have_other h k p t ≡ have_first h (below_top k) t
by-first h [] p t e = absurd (cc)
by-first h (f ∷ k) p t e = first h f k p t e

pub by-value : (h : Head) (k : List Frame) (p : ℕ) (t : TokenKind) → wanted_on k ≡ wants.Value → have_other h k p t ≡ have_value h k t
by-value h [] p t e = refl
by-value h (f ∷ k) p t e = value h f k p t e

pub ruleset by_wanted = (by-declared, by-param, by-path, by-first, by-value)
