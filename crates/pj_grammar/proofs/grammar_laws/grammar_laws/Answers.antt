use Rattle.std.specs.Prelude.{refl}
use Rattle.pj_grammar.specs.Theorems.{Complete, NeedIsNesting}
use Rattle.pj_grammar.proofs.Closed.{ends-accepted}
use Rattle.pj_grammar.proofs.Determined.{none-begins, one-tree}
use Rattle.pj_grammar.proofs.Expressions.{reads}
use Rattle.pj_grammar.proofs.Faulting.{deep-faults, grammar-faults, not-within}
use Rattle.pj_grammar.proofs.Holes.{line-ends-here}
use Rattle.pj_grammar.proofs.Leading.{completion, reached-leads}
use Rattle.pj_grammar.proofs.Nesting.{need-nesting}
use Rattle.pj_grammar.proofs.Sounding.{sound}
use Rattle.pj_grammar.proofs.Rising.{monotone}
use Rattle.pj_grammar.proofs.Whole.{whole}
use Rattle.pj_grammar.proofs.Written.{statement}
use Rattle.pj_grammar.proofs.grammar_laws.grammar_laws.Goals as goal

pub returns-clause-complete_expressions : goal.returns-clause-complete_expressions
returns-clause-complete_expressions c = λ modules l ts e d k adm.
    let i = reads refl d k adm in record { head = i.head; is = i.is; value = i.value; runs = i.runs }

pub returns-clause-complete_statements : goal.returns-clause-complete_statements
returns-clause-complete_statements c = λ modules ts s d k takes t rest ends. statement refl d k takes t rest (line-ends-here t.what ends)

each-text : Complete
each-text modules kind ts tree nesting d = whole refl d

pub returns-clause-complete : goal.returns-clause-complete
returns-clause-complete c = each-text

pub returns-clause-sound : goal.returns-clause-sound
returns-clause-sound c = sound

pub returns-clause-one_tree : goal.returns-clause-one_tree
returns-clause-one_tree c = one-tree each-text

pub returns-clause-none_begins : goal.returns-clause-none_begins
returns-clause-none_begins c = none-begins each-text

nests : NeedIsNesting
nests s tree nesting = need-nesting s.mode s.frames tree nesting

pub returns-clause-need_is_nesting : goal.returns-clause-need_is_nesting
returns-clause-need_is_nesting c = nests

pub returns-clause-monotone : goal.returns-clause-monotone
returns-clause-monotone c = monotone

pub returns-clause-none_within : goal.returns-clause-none_within
returns-clause-none_within c = λ modules kind limit tokens s now. not-within each-text monotone nests modules kind limit tokens s now

pub returns-clause-leads_on : goal.returns-clause-leads_on
returns-clause-leads_on c = reached-leads

pub returns-clause-completion : goal.returns-clause-completion
returns-clause-completion c = completion sound

pub returns-clause-grammar_faults : goal.returns-clause-grammar_faults
returns-clause-grammar_faults c = grammar-faults each-text (completion sound)

pub returns-clause-deep_faults : goal.returns-clause-deep_faults
returns-clause-deep_faults c = deep-faults each-text (completion sound) monotone nests

pub returns-clause-ends_accepted : goal.returns-clause-ends_accepted
returns-clause-ends_accepted c = ends-accepted
