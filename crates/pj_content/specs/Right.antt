-- Which mentions in an image's methods are right.
use Rattle.std.specs.Prelude.{◌≡◌, ℕ, true, List, [], ◌∷◌, ◌++◌, length, Option, Some, ⊤}
use Rattle.std.specs.List.{AllByRecursion}
use Rattle.pj_base.specs.declared.kinds.KindTag.TheVariants as kinds
use Rattle.pj_parts.specs.declared.types.Method.{Method}
use Rattle.pj_image.specs.declared.image.Image.{Image}
use Rattle.pj_content.specs.Misfit.{tables, target, own_place, is_int64}

-- the place of the package's own function that a mention names
abbrev pub own_function : Image → ℕ → Option ℕ
own_function i k = own_place (target i.entries (tables (length i.functions)) kinds.FunKind k)

-- a method's function is one of the package's own, and no method before adds to it
pub record FunctionRight (i : Image) (before : List Method) (k : ℕ) : Type 0 where
  pub place : ℕ
  pub own : own_function i k ≡ Some place
  pub first : AllByRecursion (λ m. own_function i m.fun ≡ Some place → ⊥) before

-- a parameter's type is Base's Int64
abbrev pub TypeRight : Image → ℕ → Type 0
TypeRight i k = is_int64 (target i.entries (tables (length i.functions)) kinds.TypeKind k) ≡ true

-- the mentions in methods behind others are right, of the numbers that are meant
abbrev pub RightBehind : Image → (ℕ → Type 0) → List Method → List Method → Type 0
RightBehind i Meant before [] = ⊤
RightBehind i Meant before (m ∷ ms) =
    (Meant m.fun → FunctionRight i before m.fun) × (AllByRecursion (λ k. Meant k → TypeRight i k) m.types × RightBehind i Meant (before ++ m ∷ []) ms)

abbrev pub RightWhere : (ℕ → Type 0) → Image → Type 0
RightWhere Meant i = RightBehind i Meant [] i.methods
