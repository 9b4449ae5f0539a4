use Rattle.std.proofs.Common.{◌≡◌, ap, sym, subst, ◌∙◌, List, None, is_some, ℕ, true}
use Rattle.std.specs.List.{list_all, AllByRecursion}
use Rattle.std.proofs.lemmas.Str.{is_utf8-from_IsUtf8}
use Rattle.pj_words.specs.Words.{is_package_name}
use Rattle.pj_meaning.specs.Tree.{Text}
use Rattle.pj_tree.specs.Fits.{TreeFits}
use Rattle.pj_parts.specs.Fits.{HeadFits, FunDefFits, BindingFits}
use Rattle.pj_image.specs.PlainTrees.{is_plain}
use Rattle.pj_reloc.specs.declared.entry.Entry.{Entry}
use Rattle.pj_parts.specs.declared.types.Method.{Method}
use Rattle.pj_image.specs.declared.image.Image.{Image}
use Rattle.pj_image.specs.Pieces.{placed, method_fine}
use Rattle.pj_image.specs.Formed.{names_of}
use Rattle.pj_image.specs.Spelled.{methods_place}
use Rattle.pj_content.specs.Content.{content_of}
use Rattle.pj_content.specs.Misfit.{misfit}
use Rattle.pj_build.specs.Own.{counts_in}
use Rattle.pj_build.specs.Wiring.{all_methods, all_entries}
use Rattle.pj_build.specs.Built.{Keeps, with_methods}
use Rattle.pj_build.proofs.Declared.{built_content, built_fits}
use Rattle.pj_build.proofs.HeadFacts.{head_fits}
use Rattle.pj_build.proofs.Naming.{built_names}
use Rattle.pj_build.proofs.Placing.{all_placed, methods_place_same}
use Rattle.pj_build.proofs.TreesBuilt.{built_trees}
use Rattle.pj_build.proofs.image.image_of.Goals as goal

pub returns-clause-called : goal.returns-clause-called
returns-clause-called c = ap (λ (j : Image). j.head.name) c.put_methods.ensures ∙ c.in_ok-image.ensures.called

pub returns-clause-alone : goal.returns-clause-alone
returns-clause-alone c = ap (λ (j : Image). j.head.dependencies) c.put_methods.ensures ∙ c.in_ok-image.ensures.alone

pub returns-clause-content : goal.returns-clause-content
returns-clause-content c =
    let i = c.in_ok-image.image in
    let w = c.in_ok-w.w in
    let counts = counts_in c.args.things.now in
    let e : c.put_methods.result ≡ with_methods i (all_methods 0 0 counts) (all_entries c.in_ok-place.place 0 counts) =
    c.put_methods.ensures ∙ ap (λ (ms : List Method). with_methods i ms w.entries) c.in_ok-w.ensures.methods ∙ ap (λ (es : List Entry). with_methods i (all_methods 0 0 counts) es) c.in_ok-w.ensures.entries in
    subst (λ (j : Image). Keeps c.args.name.now c.args.names.now c.args.things.now (content_of j)) (sym e)
    (built_content c.args.name.now c.args.names.now c.args.things.now i c.in_ok-place.place c.requires.each c.in_ok-image.ensures c.requires.good)

pub returns-clause-no_misfit : goal.returns-clause-no_misfit
returns-clause-no_misfit c =
    let i = c.in_ok-image.image in
    let w = c.in_ok-w.w in
    let counts = counts_in c.args.things.now in
    let e : c.put_methods.result ≡ with_methods i (all_methods 0 0 counts) (all_entries c.in_ok-place.place 0 counts) =
    c.put_methods.ensures ∙ ap (λ (ms : List Method). with_methods i ms w.entries) c.in_ok-w.ensures.methods ∙ ap (λ (es : List Entry). with_methods i (all_methods 0 0 counts) es) c.in_ok-w.ensures.entries in
    subst (λ (j : Image). misfit j ≡ None) (sym e) (built_fits c.args.name.now c.args.names.now c.args.things.now i c.in_ok-place.place c.requires.each c.in_ok-image.ensures)

pub returns-clause-right : goal.returns-clause-right
returns-clause-right c =
    let i = c.in_ok-image.image in
    let w = c.in_ok-w.w in
    let counts = counts_in c.args.things.now in
    let e : c.put_methods.result ≡ with_methods i (all_methods 0 0 counts) (all_entries c.in_ok-place.place 0 counts) =
    c.put_methods.ensures ∙ ap (λ (ms : List Method). with_methods i ms w.entries) c.in_ok-w.ensures.methods ∙ ap (λ (es : List Entry). with_methods i (all_methods 0 0 counts) es) c.in_ok-w.ensures.entries in
    let at = methods_place i in
    let ms = all_methods 0 0 counts in
    let es = all_entries c.in_ok-place.place 0 counts in
    subst (λ (j : Image). placed (methods_place j) j.methods j.entries ≡ true) (sym e)
    (subst (λ (a : ℕ). placed a ms es ≡ true) (sym (methods_place_same i ms es)) (all_placed counts at c.in_ok-place.place c.in_ok-place.ensures))

pub returns-clause-names : goal.returns-clause-names
returns-clause-names c read =
    subst (λ (j : Image). is_some (names_of j) ≡ true) (sym c.put_methods.ensures)
    (built_names c.args.name.now c.args.names.now c.args.things.now c.in_ok-image.image c.requires.each c.requires.good read.identifiers c.in_ok-image.ensures)

pub returns-clause-plain : goal.returns-clause-plain
returns-clause-plain c read =
    let all = built_trees c.args.name.now c.args.names.now c.args.things.now c.in_ok-image.image c.requires.each c.requires.good read.each c.in_ok-image.ensures in
    subst (λ (j : Image). list_all (is_plain j.strings) j.trees ≡ true) (sym c.put_methods.ensures) all.plain

pub returns-clause-trees : goal.returns-clause-trees
returns-clause-trees c read =
    let all = built_trees c.args.name.now c.args.names.now c.args.things.now c.in_ok-image.image c.requires.each c.requires.good read.each c.in_ok-image.ensures in
    subst (λ (j : Image). AllByRecursion TreeFits j.trees) (sym c.put_methods.ensures) all.fits

pub returns-clause-fine : goal.returns-clause-fine
returns-clause-fine c read =
    let i = c.in_ok-image.image in
    let all = built_trees c.args.name.now c.args.names.now c.args.things.now i c.requires.each c.requires.good read.each c.in_ok-image.ensures in
    subst (λ (j : Image). list_all (method_fine j.trees) j.methods ≡ true) (sym c.put_methods.ensures)
    (subst (λ (ms : List Method). list_all (method_fine i.trees) ms ≡ true) (sym c.in_ok-w.ensures.methods) all.fine)

pub returns-clause-named : goal.returns-clause-named
returns-clause-named c read = subst (λ (t : Text). is_package_name t ≡ true) (sym (ap (λ (j : Image). j.head.name) c.put_methods.ensures ∙ c.in_ok-image.ensures.called)) read.called

pub returns-clause-functions : goal.returns-clause-functions
returns-clause-functions c = subst (λ (j : Image). AllByRecursion FunDefFits j.functions) (sym c.put_methods.ensures) c.in_ok-image.ensures.functions.fit

pub returns-clause-bindings : goal.returns-clause-bindings
returns-clause-bindings c = subst (λ (j : Image). AllByRecursion BindingFits j.bindings) (sym c.put_methods.ensures) c.in_ok-image.ensures.bindings.fit

pub returns-clause-head : goal.returns-clause-head
returns-clause-head c read =
    subst (λ (j : Image). HeadFits j.head) (sym c.put_methods.ensures)
    (head_fits c.in_ok-image.image.head c.args.name.now c.in_ok-image.ensures.called c.in_ok-image.ensures.alone (is_utf8-from_IsUtf8 c.args.name.now c.utf8.name) read.called)
