-- What the machine tells of faults, given that each state has a text that goes on from it, and that the need never falls.
use Rattle.std.proofs.Common.{◌≡◌, ◌≤◌, arith, ℕ, max, suc, List, ◌++◌, Option, Some, None, take, refl, sym, ap, ◌∙◌}
use Rattle.pj_lex.specs.declared.token.Token.{Token}
use Rattle.pj_grammar.specs.declared.mode.Parsed.{Parsed}
use Rattle.pj_grammar.specs.Frames.{State}
use Rattle.pj_grammar.specs.Machine.{accepted, run, start}
use Rattle.pj_grammar.specs.Modules.{Modules}
use Rattle.pj_grammar.specs.Need.{need}
use Rattle.pj_grammar.specs.Texts.{Kind}
use Rattle.pj_grammar.specs.Theorems.{Begins, Complete, Completion, DeepFaults, GrammarFaults, Monotone, NeedIsNesting, Viable, reached, with_base}
use Rattle.pj_grammar.proofs.Determined.{none-begins, run-append}

at-most : (a b c : ℕ) → a ≤ b → b ≤ c → a ≤ c
at-most a b c p q = grind arith

weaken : {modules : Modules} {kind : Kind} {tokens : List Token} (n limit : ℕ) → n ≤ limit → Viable modules kind n tokens → Viable modules kind limit tokens
weaken n limit h v = record { more = v.more; tree = v.tree; nesting = v.nesting; is = v.is; within = at-most v.nesting n limit v.within h }

begins : {modules : Modules} {kind : Kind} {tokens : List Token} (n : ℕ) → Viable modules kind n tokens → Begins modules kind tokens
begins n v = record { more = v.more; tree = v.tree; nesting = v.nesting; is = v.is }

pub grammar-faults : Complete → Completion → GrammarFaults
grammar-faults complete completion modules kind limit i tokens s before low none =
    (weaken (need s) limit low (completion modules kind (take i tokens) s before), none-begins complete modules kind (take (suc i) tokens) none)

too-deep : (need last nesting limit : ℕ) → suc limit ≤ need → need ≤ last → last ≡ max 8 nesting → nesting ≤ limit → 8 ≤ limit → ⊥
too-deep need last nesting limit over rises is within eight = grind arith

no-answer : (read : Parsed × ℕ) → None ≡ Some read → ⊥
no-answer read h = cc

ends-deep : Monotone → NeedIsNesting → (modules : Modules) (kind : Kind) (limit : ℕ) (tokens more : List Token) (t : State) (tree : Parsed) (nesting : ℕ) (last : Option State)
    → reached (with_base modules) kind tokens ≡ Some t → run (with_base modules) more (Some t) ≡ last → accepted last ≡ Some (tree, nesting) → nesting ≤ limit → 8 ≤ limit
    → suc limit ≤ need t → ⊥
ends-deep monotone nests modules kind limit tokens more t tree nesting None now later is within eight over = no-answer _ is
ends-deep monotone nests modules kind limit tokens more t tree nesting (Some u) now later is within eight over =
    too-deep (need t) (need u) nesting limit over (monotone modules kind tokens more t u now later) (nests u tree nesting is) within eight

pub not-within : Complete → Monotone → NeedIsNesting → (modules : Modules) (kind : Kind) (limit : ℕ) (tokens : List Token) (t : State) → reached (with_base modules) kind tokens ≡ Some t
    → 8 ≤ limit → suc limit ≤ need t → Viable (with_base modules) kind limit tokens → ⊥
not-within complete monotone nests modules kind limit tokens t now eight over v =
    ends-deep monotone nests modules kind limit tokens v.more t v.tree v.nesting (run (with_base modules) v.more (Some t)) now refl
    (ap accepted (sym (run-append (with_base modules) tokens v.more (Some (start kind)) ∙ ap (run (with_base modules) v.more) now))
    ∙ complete modules kind (tokens ++ v.more) v.tree v.nesting v.is)
    v.within
    eight
    over

pub deep-faults : Complete → Completion → Monotone → NeedIsNesting → DeepFaults
deep-faults complete completion monotone nests modules kind limit i tokens s t before low eight now over = (
  weaken (need s) limit low (completion modules kind (take i tokens) s before),
  begins (need t) (completion modules kind (take (suc i) tokens) t now),
  not-within complete monotone nests modules kind limit (take (suc i) tokens) t now eight over,
)
