-- A text has one tree, and where the machine has no answer no text begins so: both since it reads each text.
use Rattle.std.proofs.Common.{◌≡◌, ℕ, List, [], ◌∷◌, ◌++◌, Option, Some, None, refl, sym, ap, ◌∙◌}
use Rattle.pj_lex.specs.declared.token.Token.{Token}
use Rattle.pj_grammar.specs.declared.mode.Parsed.{Parsed}
use Rattle.pj_grammar.specs.Frames.{State}
use Rattle.pj_grammar.specs.Machine.{accepted, run, start, step}
use Rattle.pj_grammar.specs.Modules.{Modules}
use Rattle.pj_grammar.specs.Theorems.{Complete, NoneBegins, OneTree, with_base}

abbrev pair : Parsed → ℕ → Parsed × ℕ
pair a n = (a, n)

inner : {a b : Parsed × ℕ} → Some a ≡ Some b → a ≡ b
inner h = cc

both : {a b : Parsed} {n m : ℕ} → pair a n ≡ pair b m → (a ≡ b) × (n ≡ m)
both h = (ap (λ r. r.0) h, ap (λ r. r.1) h)

pub one-tree : Complete → OneTree
one-tree complete modules kind tokens tree other nesting other_nesting d e =
    both (inner (sym (complete modules kind tokens tree nesting d) ∙ complete modules kind tokens other other_nesting e))

run-none : (modules : Modules) (ts : List Token) → run modules ts None ≡ None
unfolding run
run-none modules [] = refl
run-none modules (t ∷ ts) = refl

-- tokens are read one after another
pub run-append : (modules : Modules) (ts us : List Token) (s : Option State) → run modules (ts ++ us) s ≡ run modules us (run modules ts s)
unfolding run
run-append modules [] us None = refl
run-append modules [] us (Some s) = refl
run-append modules (t ∷ ts) us None = sym (run-none modules us)
run-append modules (t ∷ ts) us (Some s) = run-append modules ts us (step modules s t)

no-answer : (read : Parsed × ℕ) → None ≡ Some read → ⊥
no-answer read h = cc

pub none-begins : Complete → NoneBegins
none-begins complete modules kind tokens none b =
    no-answer (pair b.tree b.nesting)
    (sym (ap accepted (run-append (with_base modules) tokens b.more (Some (start kind)) ∙ ap (run (with_base modules) b.more) none ∙ run-none (with_base modules) b.more))
    ∙ complete modules kind (tokens ++ b.more) b.tree b.nesting b.is)
