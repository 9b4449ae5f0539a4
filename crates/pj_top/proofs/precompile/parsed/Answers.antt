-- A tree is of a form, and a fault of the text is told with its place.
use Rattle.pj_top.proofs.PrecompilingTold.{fault_found, form_found, form_memory, form_serves}
use Rattle.pj_top.proofs.precompile.parsed.Goals as goal

pub returns-in-Err-Syntax-clause-found : goal.returns-in-Err-Syntax-clause-found
returns-in-Err-Syntax-clause-found c =
    fault_found c.args.name.now c.args.text.now c.args.file.now c.in-Err-Syntax.place c.in-Err-Syntax.kind _ c.faulty.result c.told_end.result c.requires.file
    c.position_at-at.ensures c.requires.short (rw c.in-Err-Syntax.field-0-is at c.in-Err-Syntax.ensures.fault)
    c.faulty.ensures.line c.faulty.ensures.status c.told_end.ensures

pub returns-in-Ok-clause-found : goal.returns-in-Ok-clause-found
returns-in-Ok-clause-found c =
    form_found c.args.name.now c.args.text.now c.args.file.now c.in-Ok.tree c.of_form.result c.requires.file c.requires.short c.in-Ok.ensures.tree c.of_form.ensures

pub returns-in-Ok-clause-named : goal.returns-in-Ok-clause-named
returns-in-Ok-clause-named c = form_serves c.args.name.now c.args.text.now c.args.file.now c.in-Ok.tree c.of_form.result c.in-Ok.ensures.tree c.of_form.ensures

pub returns-in-Ok-clause-memory : goal.returns-in-Ok-clause-memory
returns-in-Ok-clause-memory c = form_memory c.args.file.now c.in-Ok.tree c.of_form.result c.of_form.ensures
