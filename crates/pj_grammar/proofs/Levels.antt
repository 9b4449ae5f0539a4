-- How levels stand to one another, and how operators that are begun end.
use Rattle.std.proofs.Common.{◌≡◌, true, false, List, [], ◌∷◌, Some, refl, sym, subst, ◌∙◌}
use Rattle.std.proofs.lemmas.Bool.{le-leb, leb-true}
use Rattle.std.proofs.Math.Dec.{leb-zero}
use Rattle.std.proofs.Math.Nat.{le_refl, le_trans}
use Rattle.pj_lex.specs.declared.sign.Sign.{Sign}
use Rattle.pj_lex.specs.declared.sign.Sign.TheVariants as signs
use Rattle.pj_grammar.specs.declared.level.Level.{Level}
use Rattle.pj_grammar.specs.declared.level.Level.TheVariants as levels
use Rattle.pj_grammar.specs.declared.frame.Frame.{Frame}
use Rattle.pj_grammar.specs.declared.frame.Frame.TheVariants as frames
use Rattle.pj_grammar.specs.declared.mode.Head.{Head}
use Rattle.pj_grammar.specs.Frames.{admits, settle, wants}
use Rattle.pj_grammar.specs.Levels.{fits, left_of, level_of, rank, right_of}

pub fits-refl : (l : Level) → fits l l ≡ true
fits-refl l = le-leb (rank l) (rank l) (le_refl (rank l))

pub fits-trans : (a b c : Level) → fits a b ≡ true → fits b c ≡ true → fits a c ≡ true
fits-trans a b c p q = le-leb (rank a) (rank c) (le_trans (leb-true (rank a) (rank b) p) (leb-true (rank b) (rank c) q))

pub fits-conditional : (l : Level) → fits levels.Conditional l ≡ true
fits-conditional l = leb-zero (rank l)

pub admits-tighter : (k : List Frame) (l found : Level) → admits k l ≡ true → fits l found ≡ true → admits k found ≡ true
admits-tighter k l found p q = fits-trans (wants k) l found p q

-- An operator of a level ends the operators over its left operand that stand above the threshold, and none of those below
-- that still take it.
pub record Splits (low l : Level) : Type 0 where
  pub stays : (m : Level) → fits (right_of m) l ≡ true → fits low m ≡ false
  pub no_condition : fits low levels.Conditional ≡ false
  pub no_prefix : fits levels.Unary l ≡ false

disjunction-stays : (m : Level) → fits (right_of m) levels.Disjunction ≡ true → fits levels.Conjunction m ≡ false
disjunction-stays levels.Conditional h = refl
disjunction-stays levels.Disjunction h = refl
disjunction-stays levels.Conjunction h = cc
disjunction-stays levels.Comparison h = cc
disjunction-stays levels.Sum h = cc
disjunction-stays levels.Product h = cc
disjunction-stays levels.Unary h = cc
disjunction-stays levels.Postfix h = cc
disjunction-stays levels.Primary h = cc
disjunction-stays levels.Callee h = cc
disjunction-stays levels.Named h = cc
disjunction-stays levels.Bare h = cc

pub splits-disjunction : Splits levels.Conjunction levels.Disjunction
splits-disjunction = record { stays = disjunction-stays; no_condition = refl; no_prefix = refl }

conjunction-stays : (m : Level) → fits (right_of m) levels.Conjunction ≡ true → fits levels.Comparison m ≡ false
conjunction-stays levels.Conditional h = refl
conjunction-stays levels.Disjunction h = refl
conjunction-stays levels.Conjunction h = refl
conjunction-stays levels.Comparison h = cc
conjunction-stays levels.Sum h = cc
conjunction-stays levels.Product h = cc
conjunction-stays levels.Unary h = cc
conjunction-stays levels.Postfix h = cc
conjunction-stays levels.Primary h = cc
conjunction-stays levels.Callee h = cc
conjunction-stays levels.Named h = cc
conjunction-stays levels.Bare h = cc

pub splits-conjunction : Splits levels.Comparison levels.Conjunction
splits-conjunction = record { stays = conjunction-stays; no_condition = refl; no_prefix = refl }

comparison-stays : (m : Level) → fits (right_of m) levels.Comparison ≡ true → fits levels.Sum m ≡ false
comparison-stays levels.Conditional h = refl
comparison-stays levels.Disjunction h = refl
comparison-stays levels.Conjunction h = refl
comparison-stays levels.Comparison h = cc
comparison-stays levels.Sum h = cc
comparison-stays levels.Product h = cc
comparison-stays levels.Unary h = cc
comparison-stays levels.Postfix h = cc
comparison-stays levels.Primary h = cc
comparison-stays levels.Callee h = cc
comparison-stays levels.Named h = cc
comparison-stays levels.Bare h = cc

pub splits-comparison : Splits levels.Sum levels.Comparison
splits-comparison = record { stays = comparison-stays; no_condition = refl; no_prefix = refl }

sum-stays : (m : Level) → fits (right_of m) levels.Sum ≡ true → fits levels.Sum m ≡ false
sum-stays levels.Conditional h = refl
sum-stays levels.Disjunction h = refl
sum-stays levels.Conjunction h = refl
sum-stays levels.Comparison h = refl
sum-stays levels.Sum h = cc
sum-stays levels.Product h = cc
sum-stays levels.Unary h = cc
sum-stays levels.Postfix h = cc
sum-stays levels.Primary h = cc
sum-stays levels.Callee h = cc
sum-stays levels.Named h = cc
sum-stays levels.Bare h = cc

pub splits-sum : Splits levels.Sum levels.Sum
splits-sum = record { stays = sum-stays; no_condition = refl; no_prefix = refl }

product-stays : (m : Level) → fits (right_of m) levels.Product ≡ true → fits levels.Product m ≡ false
product-stays levels.Conditional h = refl
product-stays levels.Disjunction h = refl
product-stays levels.Conjunction h = refl
product-stays levels.Comparison h = refl
product-stays levels.Sum h = refl
product-stays levels.Product h = cc
product-stays levels.Unary h = cc
product-stays levels.Postfix h = cc
product-stays levels.Primary h = cc
product-stays levels.Callee h = cc
product-stays levels.Named h = cc
product-stays levels.Bare h = cc

pub splits-product : Splits levels.Product levels.Product
splits-product = record { stays = product-stays; no_condition = refl; no_prefix = refl }

conditional-stays : (m : Level) → fits (right_of m) levels.Conditional ≡ true → fits levels.Disjunction m ≡ false
conditional-stays levels.Conditional h = refl
conditional-stays levels.Disjunction h = cc
conditional-stays levels.Conjunction h = cc
conditional-stays levels.Comparison h = cc
conditional-stays levels.Sum h = cc
conditional-stays levels.Product h = cc
conditional-stays levels.Unary h = cc
conditional-stays levels.Postfix h = cc
conditional-stays levels.Primary h = cc
conditional-stays levels.Callee h = cc
conditional-stays levels.Named h = cc
conditional-stays levels.Bare h = cc

pub splits-conditional : Splits levels.Disjunction levels.Conditional
splits-conditional = record { stays = conditional-stays; no_condition = refl; no_prefix = refl }

pub absurd-of {ℓ} : {A : Type ℓ} → false ≡ true → A
absurd-of h = cc

-- what stands on top of frames that take an operator stays
pub settles-not : {low l : Level} → Splits low l → (k : List Frame) (h : Head) → admits k l ≡ true → settle low h k ≡ record { head = h; frames = k }
unfolding settle
settles-not s [] h p = refl
settles-not s (frames.Prefix o ∷ k) h p = absurd-of (sym s.no_prefix ∙ p)
settles-not s (frames.Infix m a o ∷ k) h p = rw (s.stays m p) refl
settles-not s (frames.Else c a ∷ k) h p = rw s.no_condition refl
settles-not s (frames.Then c ∷ k) h p = refl
settles-not s (frames.Group q types ∷ k) h p = refl
settles-not s (frames.Call f g ∷ k) h p = refl
settles-not s (frames.Signature form f ps ∷ k) h p = refl
settles-not s (frames.TypeOf x q ∷ k) h p = refl
settles-not s (frames.FunctionName ∷ k) h p = refl
settles-not s (frames.Parent header ∷ k) h p = refl
settles-not s (frames.Fields mutable x parent fs ∷ k) h p = refl
settles-not s (frames.DirectiveFun ∷ k) h p = refl
settles-not s (frames.Types f ts ∷ k) h p = refl
settles-not s (frames.Hole purpose ∷ k) h p = refl
settles-not s (frames.Block o ss ∷ k) h p = refl
settles-not s (frames.Branch c ss ∷ k) h p = refl
settles-not s (frames.Payload m quoted ∷ k) h p = refl
settles-not s (frames.Items root is ∷ k) h p = refl

-- the levels of operators
pub data Binary : Level → Type 0 where
  or : Binary levels.Disjunction
  and : Binary levels.Conjunction
  comparison : Binary levels.Comparison
  sum : Binary levels.Sum
  product : Binary levels.Product

some-injective : {a b : Level} → Some a ≡ Some b → a ≡ b
some-injective h = cc

pub binary : (s : Sign) (l : Level) → level_of s ≡ Some l → Binary l
binary signs.Same l h = subst Binary (some-injective h) comparison
binary signs.NotSame l h = subst Binary (some-injective h) comparison
binary signs.AddAssign l h = cc
binary signs.SubtractAssign l h = cc
binary signs.MultiplyAssign l h = cc
binary signs.Equal l h = subst Binary (some-injective h) comparison
binary signs.NotEqual l h = subst Binary (some-injective h) comparison
binary signs.LessOrEqual l h = subst Binary (some-injective h) comparison
binary signs.GreaterOrEqual l h = subst Binary (some-injective h) comparison
binary signs.And l h = subst Binary (some-injective h) and
binary signs.Or l h = subst Binary (some-injective h) or
binary signs.DoubleColon l h = cc
binary signs.Below l h = cc
binary signs.Comma l h = cc
binary signs.Assign l h = cc
binary signs.Plus l h = subst Binary (some-injective h) sum
binary signs.Minus l h = subst Binary (some-injective h) sum
binary signs.Times l h = subst Binary (some-injective h) product
binary signs.Quotient l h = subst Binary (some-injective h) product
binary signs.Remainder l h = subst Binary (some-injective h) product
binary signs.Less l h = subst Binary (some-injective h) comparison
binary signs.Greater l h = subst Binary (some-injective h) comparison
binary signs.Question l h = cc
binary signs.Colon l h = cc
binary signs.LeftParen l h = cc
binary signs.RightParen l h = cc
binary signs.Dot l h = cc
binary signs.Not l h = cc

pub splits : (l : Level) → Binary l → Splits (left_of l) l
splits _ or = splits-disjunction
splits _ and = splits-conjunction
splits _ comparison = splits-comparison
splits _ sum = splits-sum
splits _ product = splits-product
