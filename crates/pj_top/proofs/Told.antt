-- A command over files has one ending: the run of a script has one, and so has the building of a package.
use Rattle.std.proofs.Common.{◌≡◌, ℕ, ◌<◌, ◌≤◌, true, false, List, [], ◌∷◌, length, refl, sym, ap, subst, ◌∙◌, arith}
use Rattle.std.proofs.lemmas.Bool.{false≢true}
use Rattle.std.proofs.lemmas.Fmt.{decimal_injective}
use Rattle.pj_meaning.specs.Tree.{Text}
use Rattle.pj_meaning.specs.Endings.{ending_line}
use Rattle.pj_outside.specs.Stored.{Files}
use Rattle.pj_lex.specs.declared.fault.SyntaxKind.{SyntaxKind}
use Rattle.pj_tree.specs.declared.item.PackageTree.{PackageTree}
use Rattle.pj_tree.specs.declared.item.ScriptTree.{ScriptTree}
use Rattle.pj_plain.specs.Held.{held_package, held_script}
use Rattle.pj_plain.specs.Forms.{package_form, script_form}
use Rattle.pj_parse.specs.Texts.{IsPackage, IsPackageFault, IsScript, IsScriptFault}
use Rattle.pj_parse.proofs.TextReadings.{one-fault}
use Rattle.pj_parse.proofs.Scripts.{no-fault, no-package-fault, one-package, one-script, one-script-fault}
use Rattle.pj_top.specs.Positions.{position_of}
use Rattle.pj_top.specs.Commands.{Command, IsPrecompile, IsRun}
use Rattle.pj_top.specs.Endings.{ScriptEnds, PackageEnds, CommandEnds, no_command, run, precompile, text_limit, text_file, syntax_line, ending_of, printed_of, status_of, building, built_line, built_printed, built_status}
use Rattle.pj_top.specs.Endings.{absent, long, faulty, unbuilt, runs, builds}
use Rattle.pj_top.specs.declared.status.Status.{Status}

-- a file isn't both within the limit and beyond it
too_long : (a b : Text) → a ≡ b → text_limit < length a → length b ≤ text_limit → ⊥
too_long a b same past short = omega (arith, past, short, ap (λ (x : Text). length x) same)

same_line : (name a b : Text) (o r : ℕ) (w x : SyntaxKind) → a ≡ b → o ≡ r → w ≡ x → syntax_line name (position_of a o) w ≡ syntax_line name (position_of b r) x
same_line name a b o r w x bytes places kinds =
    ap (λ y. syntax_line name (position_of y o) w) bytes ∙ ap (λ y. syntax_line name (position_of b y) w) places ∙ ap (λ y. syntax_line name (position_of b r) y) kinds

-- ---- a script

-- a tree isn't both of the form that runs and of another
script_forms : (a b : ScriptTree) → a ≡ b → script_form (held_script a) ≡ false → script_form (held_script b) ≡ true → ⊥
script_forms a b same other form = false≢true (sym other ∙ ap (λ t. script_form (held_script t)) same ∙ form)

-- the run of a script has one ending
pub one_script_end : (files : Files) (name : Text) (steps : ℕ) (p l q m : Text) (s t : Status) → ScriptEnds files name steps p l s → ScriptEnds files name steps q m t → (p ≡ q) × (l ≡ m) × (s ≡ t)
one_script_end files name steps p l q m s t (absent e) (absent f) = (refl, refl, refl)
one_script_end files name steps p l q m s t (absent e) (long b f k) = cc
one_script_end files name steps p l q m s t (absent e) (faulty b o w f k n) = cc
one_script_end files name steps p l q m s t (absent e) (unbuilt b i f k n v) = cc
one_script_end files name steps p l q m s t (absent e) (runs b i f k n v) = cc
one_script_end files name steps p l q m s t (long a e h) (absent f) = cc
one_script_end files name steps p l q m s t (long a e h) (long b f k) = (refl, refl, refl)
one_script_end files name steps p l q m s t (long a e h) (faulty b o w f k n) = absurd (too_long a b (cc) h k)
one_script_end files name steps p l q m s t (long a e h) (unbuilt b i f k n v) = absurd (too_long a b (cc) h k)
one_script_end files name steps p l q m s t (long a e h) (runs b i f k n v) = absurd (too_long a b (cc) h k)
one_script_end files name steps p l q m s t (faulty a o w e h j) (absent f) = cc
one_script_end files name steps p l q m s t (faulty a o w e h j) (long b f k) = absurd (too_long b a (cc) k h)
one_script_end files name steps p l q m s t (faulty a o w e h j) (faulty b r x f k n) =
    let same : b ≡ a = cc in
    let one = one-script-fault j (subst (λ y. IsScriptFault y r x) same n) in
    (refl, same_line name a b o r w x (sym same) one.0 one.1, refl)
one_script_end files name steps p l q m s t (faulty a o w e h j) (unbuilt b i f k n v) = let same : b ≡ a = cc in absurd (no-fault (subst (λ y. IsScript y i) same n) j)
one_script_end files name steps p l q m s t (faulty a o w e h j) (runs b i f k n v) = let same : b ≡ a = cc in absurd (no-fault (subst (λ y. IsScript y i) same n) j)
one_script_end files name steps p l q m s t (unbuilt a i e h j u) (absent f) = cc
one_script_end files name steps p l q m s t (unbuilt a i e h j u) (long b f k) = absurd (too_long b a (cc) k h)
one_script_end files name steps p l q m s t (unbuilt a i e h j u) (faulty b o w f k n) = let same : b ≡ a = cc in absurd (no-fault j (subst (λ y. IsScriptFault y o w) same n))
one_script_end files name steps p l q m s t (unbuilt a i e h j u) (unbuilt b o f k n v) = (refl, refl, refl)
one_script_end files name steps p l q m s t (unbuilt a i e h j u) (runs b o f k n v) = let same : b ≡ a = cc in absurd (script_forms i o (one-script j (subst (λ y. IsScript y o) same n)) u v)
one_script_end files name steps p l q m s t (runs a i e h j u) (absent f) = cc
one_script_end files name steps p l q m s t (runs a i e h j u) (long b f k) = absurd (too_long b a (cc) k h)
one_script_end files name steps p l q m s t (runs a i e h j u) (faulty b o w f k n) = let same : b ≡ a = cc in absurd (no-fault j (subst (λ y. IsScriptFault y o w) same n))
one_script_end files name steps p l q m s t (runs a i e h j u) (unbuilt b o f k n v) = let same : b ≡ a = cc in absurd (script_forms o i (sym (one-script j (subst (λ y. IsScript y o) same n))) v u)
one_script_end files name steps p l q m s t (runs a i e h j u) (runs b o f k n v) =
    let same : b ≡ a = cc in
    let one = one-script j (subst (λ y. IsScript y o) same n) in
    (ap (λ y. printed_of files (held_script y) steps) one, ap (λ y. ending_line (ending_of files (held_script y) steps)) one, ap (λ y. status_of (ending_of files (held_script y) steps)) one)

-- ---- a package

package_forms : (a b : PackageTree) → a ≡ b → package_form (held_package a) ≡ false → package_form (held_package b) ≡ true → ⊥
package_forms a b same other form = false≢true (sym other ∙ ap (λ t. package_form (held_package t)) same ∙ form)

one_package_fault : (name bytes : Text) (p q : ℕ) (a b : SyntaxKind) → IsPackageFault name bytes p a → IsPackageFault name bytes q b → (p ≡ q) × (a ≡ b)
one_package_fault name bytes p q a b f g = one-fault _ name bytes p q a b f g

-- the building of a package has one ending
pub one_package_end : (files : Files) (name : Text) (steps : ℕ) (p l q m : Text) (s t : Status) → PackageEnds files name steps p l s → PackageEnds files name steps q m t → (p ≡ q) × (l ≡ m) × (s ≡ t)
one_package_end files name steps p l q m s t (absent e) (absent f) = (refl, refl, refl)
one_package_end files name steps p l q m s t (absent e) (long b f k) = cc
one_package_end files name steps p l q m s t (absent e) (faulty b o w f k n) = cc
one_package_end files name steps p l q m s t (absent e) (unbuilt b i f k n v) = cc
one_package_end files name steps p l q m s t (absent e) (builds b i f k n v) = cc
one_package_end files name steps p l q m s t (long a e h) (absent f) = cc
one_package_end files name steps p l q m s t (long a e h) (long b f k) = (refl, refl, refl)
one_package_end files name steps p l q m s t (long a e h) (faulty b o w f k n) = absurd (too_long a b (cc) h k)
one_package_end files name steps p l q m s t (long a e h) (unbuilt b i f k n v) = absurd (too_long a b (cc) h k)
one_package_end files name steps p l q m s t (long a e h) (builds b i f k n v) = absurd (too_long a b (cc) h k)
one_package_end files name steps p l q m s t (faulty a o w e h j) (absent f) = cc
one_package_end files name steps p l q m s t (faulty a o w e h j) (long b f k) = absurd (too_long b a (cc) k h)
one_package_end files name steps p l q m s t (faulty a o w e h j) (faulty b r x f k n) =
    let same : b ≡ a = cc in
    let one = one_package_fault name a o r w x j (subst (λ y. IsPackageFault name y r x) same n) in
    (refl, same_line (text_file name) a b o r w x (sym same) one.0 one.1, refl)
one_package_end files name steps p l q m s t (faulty a o w e h j) (unbuilt b i f k n v) = let same : b ≡ a = cc in absurd (no-package-fault (subst (λ y. IsPackage name y i) same n) j)
one_package_end files name steps p l q m s t (faulty a o w e h j) (builds b i f k n v) = let same : b ≡ a = cc in absurd (no-package-fault (subst (λ y. IsPackage name y i) same n) j)
one_package_end files name steps p l q m s t (unbuilt a i e h j u) (absent f) = cc
one_package_end files name steps p l q m s t (unbuilt a i e h j u) (long b f k) = absurd (too_long b a (cc) k h)
one_package_end files name steps p l q m s t (unbuilt a i e h j u) (faulty b o w f k n) = let same : b ≡ a = cc in absurd (no-package-fault j (subst (λ y. IsPackageFault name y o w) same n))
one_package_end files name steps p l q m s t (unbuilt a i e h j u) (unbuilt b o f k n v) = (refl, refl, refl)
one_package_end files name steps p l q m s t (unbuilt a i e h j u) (builds b o f k n v) = let same : b ≡ a = cc in absurd (package_forms i o (one-package j (subst (λ y. IsPackage name y o) same n)) u v)
one_package_end files name steps p l q m s t (builds a i e h j u) (absent f) = cc
one_package_end files name steps p l q m s t (builds a i e h j u) (long b f k) = absurd (too_long b a (cc) k h)
one_package_end files name steps p l q m s t (builds a i e h j u) (faulty b o w f k n) = let same : b ≡ a = cc in absurd (no-package-fault j (subst (λ y. IsPackageFault name y o w) same n))
one_package_end files name steps p l q m s t (builds a i e h j u) (unbuilt b o f k n v) = let same : b ≡ a = cc in absurd (package_forms o i (sym (one-package j (subst (λ y. IsPackage name y o) same n))) v u)
one_package_end files name steps p l q m s t (builds a i e h j u) (builds b o f k n v) =
    let same : b ≡ a = cc in
    let one = one-package j (subst (λ y. IsPackage name y o) same n) in
    (ap (λ y. built_printed (building y steps)) one, ap (λ y. built_line (building y steps)) one, ap (λ y. built_status (building y steps)) one)

-- ---- words are one command, with one number and one name

abbrev first_of : List Text → Text
first_of [] = []
first_of (a ∷ ws) = a

abbrev second_of : List Text → Text
second_of [] = []
second_of (a ∷ []) = []
second_of (a ∷ b ∷ ws) = b

abbrev third_of : List Text → Text
third_of [] = []
third_of (a ∷ []) = []
third_of (a ∷ b ∷ []) = []
third_of (a ∷ b ∷ c ∷ ws) = c

pub one_run : (words : List Text) (m n : ℕ) (a b : Text) → IsRun words m a → IsRun words n b → (m ≡ n) × (a ≡ b)
one_run words m n a b x y =
    let both = sym x.spelled ∙ y.spelled in
    (decimal_injective m n (omega (arith, x.few)) (omega (arith, y.few)) (ap second_of both), ap third_of both)

pub one_precompile : (words : List Text) (m n : ℕ) (a b : Text) → IsPrecompile words m a → IsPrecompile words n b → (m ≡ n) × (a ≡ b)
one_precompile words m n a b x y =
    let both = sym x.spelled ∙ y.spelled in
    (decimal_injective m n (omega (arith, x.few)) (omega (arith, y.few)) (ap second_of both), ap third_of both)

pub not_two : (words : List Text) (m n : ℕ) (a b : Text) → IsRun words m a → IsPrecompile words n b → ⊥
not_two words m n a b x y =
    let both = sym x.spelled ∙ y.spelled in
    let lengths : 3 ≡ 10 = ap (λ ws. length (first_of ws)) both in
    omega (arith, lengths)

-- a run's ending is that of its script
pub script_ends : (files : Files) (words : List Text) (steps : ℕ) (script : Text) (p l : Text) (s : Status) → IsRun words steps script → CommandEnds files words p l s → ScriptEnds files script steps p l s
script_ends files words steps script p l s r (no_command none) = absurd (none (Command.runs steps script r))
script_ends files words steps script p l s r (run steps' script' p' l' s' r' e) =
    let same = one_run words steps steps' script script' r r' in
    subst (λ n. ScriptEnds files script n p' l' s') (sym same.0) (subst (λ x. ScriptEnds files x steps' p' l' s') (sym same.1) e)
script_ends files words steps script p l s r (precompile steps' name' p' l' s' r' e) = absurd (not_two words steps steps' script name' r r')

-- the ending of a building is that of its package
pub package_ends : (files : Files) (words : List Text) (steps : ℕ) (name : Text) (p l : Text) (s : Status) → IsPrecompile words steps name → CommandEnds files words p l s → PackageEnds files name steps p l s
package_ends files words steps name p l s r (no_command none) = absurd (none (Command.precompiles steps name r))
package_ends files words steps name p l s r (run steps' script' p' l' s' r' e) = absurd (not_two words steps' steps script' name r' r)
package_ends files words steps name p l s r (precompile steps' name' p' l' s' r' e) =
    let same = one_precompile words steps steps' name name' r r' in
    subst (λ n. PackageEnds files name n p' l' s') (sym same.0) (subst (λ x. PackageEnds files x steps' p' l' s') (sym same.1) e)

-- a command has one ending
pub one_ending : (files : Files) (words : List Text) (p l q m : Text) (s t : Status) → CommandEnds files words p l s → CommandEnds files words q m t → (p ≡ q) × (l ≡ m) × (s ≡ t)
one_ending files words p l q m s t (no_command n) (no_command o) = (refl, refl, refl)
one_ending files words p l q m s t (no_command n) (run steps script q' m' t' r e) = absurd (n (Command.runs steps script r))
one_ending files words p l q m s t (no_command n) (precompile steps name q' m' t' r e) = absurd (n (Command.precompiles steps name r))
one_ending files words p l q m s t (run steps script p' l' s' r e) c =
    one_script_end files script steps p' l' q m s' t e (script_ends files words steps script q m t r c)
one_ending files words p l q m s t (precompile steps name p' l' s' r e) c =
    one_package_end files name steps p' l' q m s' t e (package_ends files words steps name q m t r c)
