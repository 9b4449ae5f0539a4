use Rattle.pj_grammar.specs.declared.frame.Purpose.{Purpose}
use Rattle.pj_grammar.specs.declared.frame.Purpose.TheVariants as purposes
use Rattle.pj_grammar.specs.Operands.{after_purpose}
use Rattle.pj_read_operands.proofs.Moving.{moved}
use Rattle.pj_read_operands.proofs.finishing.after_purpose.Goals as goal

pub returns-in-Value : goal.returns-in-Value
returns-in-Value c = moved (λ (p : Purpose). after_purpose p c.args.e c.args.stack c.args.kind.now) c.after_value.result c.args.purpose purposes.Value c.in-Value.is c.after_value.ensures

pub returns-in-Assign : goal.returns-in-Assign
returns-in-Assign c = moved (λ (p : Purpose). after_purpose p c.args.e c.args.stack c.args.kind.now) c.after_set.result c.args.purpose (purposes.Assign c.in-Assign.target c.in-Assign.operator) c.in-Assign.is c.after_set.ensures

pub returns-in-Return : goal.returns-in-Return
returns-in-Return c = moved (λ (p : Purpose). after_purpose p c.args.e c.args.stack c.args.kind.now) c.after_returned.result c.args.purpose (purposes.Return c.in-Return.word) c.in-Return.is c.after_returned.ensures

pub returns-in-If : goal.returns-in-If
returns-in-If c = moved (λ (p : Purpose). after_purpose p c.args.e c.args.stack c.args.kind.now) c.after_if.result c.args.purpose purposes.If c.in-If.is c.after_if.ensures

pub returns-in-While : goal.returns-in-While
returns-in-While c = moved (λ (p : Purpose). after_purpose p c.args.e c.args.stack c.args.kind.now) c.after_while.result c.args.purpose purposes.While c.in-While.is c.after_while.ensures

pub returns-in-From : goal.returns-in-From
returns-in-From c = moved (λ (p : Purpose). after_purpose p c.args.e c.args.stack c.args.kind.now) c.after_from.result c.args.purpose (purposes.From c.in-From.x) c.in-From.is c.after_from.ensures

pub returns-in-To : goal.returns-in-To
returns-in-To c = moved (λ (p : Purpose). after_purpose p c.args.e c.args.stack c.args.kind.now) c.after_to.result c.args.purpose (purposes.To c.in-To.x c.in-To.from) c.in-To.is c.after_to.ensures

pub returns-in-Const : goal.returns-in-Const
returns-in-Const c = moved (λ (p : Purpose). after_purpose p c.args.e c.args.stack c.args.kind.now) c.after_const.result c.args.purpose (purposes.Const c.in-Const.x) c.in-Const.is c.after_const.ensures

pub returns-in-Short : goal.returns-in-Short
returns-in-Short c = moved (λ (p : Purpose). after_purpose p c.args.e c.args.stack c.args.kind.now) c.after_short.result c.args.purpose (purposes.Short c.in-Short.f c.in-Short.params) c.in-Short.is c.after_short.ensures
