-- What the building of a package tells and leaves, by what its text gave.
use Rattle.std.proofs.Common.{◌≡◌, ℕ, ◌≤◌, ◌<◌, true, false, [], Option, Some, None, Result, Ok, Err, IfOk, length, refl, sym, ap, subst, ◌∙◌, arith}
use Rattle.std.specs.Option.{IfSome, IsSomeAnd}
use Rattle.std.proofs.lemmas.Bool.{false≢true}
use Rattle.pj_base.specs.declared.memory.NoMemory.{NoMemory}
use Rattle.pj_meaning.specs.Tree.{Text}
use Rattle.pj_meaning.specs.Using.{image_file}
use Rattle.pj_outside.specs.Stored.{Files, Keeps, KeepsRest}
use Rattle.pj_lex.specs.declared.fault.SyntaxKind.{SyntaxKind}
use Rattle.pj_tree.specs.declared.item.PackageTree.{PackageTree}
use Rattle.pj_plain.specs.Forms.{package_form}
use Rattle.pj_plain.specs.Held.{held_package}
use Rattle.pj_parse.specs.Texts.{IsPackage, IsPackageFault}
use Rattle.pj_parse.proofs.Scripts.{no-package-fault, one-package}
use Rattle.pj_top.specs.Claims.{IsBuilt, WritesImage}
use Rattle.pj_top.specs.Endings.{PackageEnds, absent, long, faulty, unbuilt, builds, building, built_line, built_printed, built_status, missing_line, too_long_line, syntax_line, unbuilt_line, text_file, text_limit}
use Rattle.pj_top.specs.Positions.{position_of}
use Rattle.pj_top.specs.Stops.{Builds, Leads, Reaches}
use Rattle.pj_top.specs.Building.{BuildsAs, FoundIn, IsUnbuilt, LacksMemory, OfForm, Serves, TellsEnding, TreeBuilds, TreeEnds, TreeIn, WritesBuilt}
use Rattle.pj_top.specs.declared.position.Position.{Position}
use Rattle.pj_top.specs.declared.precompile.Found.{Found}
use Rattle.pj_top.specs.declared.precompile.Found.TheVariants as found
use Rattle.pj_top.specs.declared.status.Status.{Status}
use Rattle.pj_top.specs.declared.status.Status.TheVariants as ends
use Rattle.pj_top.specs.declared.stop.Stop.{Stop}
use Rattle.pj_top.specs.declared.stop.Stop.TheVariants as stop
use Rattle.pj_top.specs.declared.stop.Ending.{Ending}
use Rattle.pj_parse.proofs.Called.{called}

-- ---- endings by their lines

pub line_found : (files : Files) (name want : Text) (status : Status) (ending : Result Ending NoMemory) (result : Result Found Stop) → IfOk ending (λ e. e.line ≡ want) → IfOk ending (λ e. e.status ≡ status)
    → TellsEnding ending result → ((steps : ℕ) → PackageEnds files name steps [] want status) → IfOk result (FoundIn files name)
line_found files name want status (Ok t) (Ok (found.Ends e)) line ended told so =
    λ steps. subst (λ (e : Ending). PackageEnds files name steps [] e.line e.status) (sym told)
    (subst (λ s. PackageEnds files name steps [] t.line s) (sym ended) (subst (λ l. PackageEnds files name steps [] l status) (sym line) (so steps)))
line_found files name want status (Ok t) (Ok (found.Tree tree)) line ended told so = absurd told
line_found files name want status (Ok t) (Err why) line ended told so = tt
line_found files name want status (Err none) (Ok answer) line ended told so = absurd told
line_found files name want status (Err none) (Err why) line ended told so = tt

some_and : (o : Option Text) (limit : ℕ) → IsSomeAnd o (λ bytes. limit < length bytes) → (bytes : Text) × (o ≡ Some bytes) × (limit < length bytes)
some_and None limit h = elim h [ ]
some_and (Some bytes) limit h = (bytes, refl, h)

pub absent_found : (files : Option Files) (name file : Text) (ending : Result Ending NoMemory) (result : Result Found Stop) → file ≡ text_file name → IfSome files (λ fs. fs file ≡ None)
    → IfOk ending (λ e. e.line ≡ missing_line file) → IfOk ending (λ e. e.status ≡ ends.Missing) → TellsEnding ending result → IfSome files (λ fs. IfOk result (FoundIn fs name))
absent_found None name file ending result is none told ended tells = tt
absent_found (Some fs) name file ending result is none told ended tells =
    line_found fs name (missing_line (text_file name)) ends.Missing ending result (subst (λ f. IfOk ending (λ e. e.line ≡ missing_line f)) is told) ended tells
    (λ steps. absent (subst (λ f. fs f ≡ None) is none))

pub long_found : (files : Option Files) (name file : Text) (ending : Result Ending NoMemory) (result : Result Found Stop) → file ≡ text_file name
    → IfSome files (λ fs. IsSomeAnd (fs file) (λ bytes. text_limit < length bytes))
    → IfOk ending (λ e. e.line ≡ too_long_line file) → IfOk ending (λ e. e.status ≡ ends.TooLong) → TellsEnding ending result → IfSome files (λ fs. IfOk result (FoundIn fs name))
long_found None name file ending result is past told ended tells = tt
long_found (Some fs) name file ending result is past told ended tells =
    let more = some_and (fs (text_file name)) text_limit (subst (λ f. IsSomeAnd (fs f) (λ bytes. text_limit < length bytes)) is past) in
    line_found fs name (too_long_line (text_file name)) ends.TooLong ending result (subst (λ f. IfOk ending (λ e. e.line ≡ too_long_line f)) is told) ended tells
    (λ steps. long more.0 more.1 more.2)

-- what a text gives, whatever the other files are
abbrev TextFound : Text → Text → Result Found Stop → Type 0
TextFound name text result = IfOk result (λ found. (files : Files) → files (text_file name) ≡ Some text → FoundIn files name found)

ends_found : (name text want : Text) (status : Status) (ending : Result Ending NoMemory) (result : Result Found Stop) → IfOk ending (λ e. e.line ≡ want) → IfOk ending (λ e. e.status ≡ status) → TellsEnding ending result
    → ((files : Files) → files (text_file name) ≡ Some text → (steps : ℕ) → PackageEnds files name steps [] want status) → TextFound name text result
ends_found name text want status ending (Ok f) told ended tells so = λ files is. line_found files name want status ending (Ok f) told ended tells (so files is)
ends_found name text want status ending (Err why) told ended tells so = tt

pub fault_found : (name text file : Text) (place : ℕ) (kind : SyntaxKind) (at : Position) (ending : Result Ending NoMemory) (result : Result Found Stop) → file ≡ text_file name
    → at ≡ position_of text place → length text ≤ text_limit → IsPackageFault name text place kind
    → IfOk ending (λ e. e.line ≡ syntax_line file at kind) → IfOk ending (λ e. e.status ≡ ends.Syntax) → TellsEnding ending result → TextFound name text result
fault_found name text file place kind at ending result is there short fault told ended tells =
    ends_found name text (syntax_line (text_file name) (position_of text place) kind) ends.Syntax ending result
    (subst (λ p. IfOk ending (λ e. e.line ≡ syntax_line (text_file name) p kind)) there (subst (λ f. IfOk ending (λ e. e.line ≡ syntax_line f at kind)) is told)) ended tells
    (λ files found steps. faulty text place kind found short fault)

-- ---- a tree, by its form

unbuilt_ends : (files : Files) (name text file : Text) (tree : PackageTree) (line : Text) (status : Status) → file ≡ text_file name → length text ≤ text_limit → IsPackage name text tree
    → package_form (held_package tree) ≡ false → line ≡ unbuilt_line file → status ≡ ends.Syntax → files (text_file name) ≡ Some text
    → (steps : ℕ) → PackageEnds files name steps [] line status
unbuilt_ends files name text file tree line status is short spelled form told ended found steps =
    subst (λ s. PackageEnds files name steps [] line s) (sym ended)
    (subst (λ l. PackageEnds files name steps [] l ends.Syntax) (sym (told ∙ ap unbuilt_line is)) (unbuilt text tree found short spelled form))

pub form_found : (name text file : Text) (tree : PackageTree) (result : Result Found Stop) → file ≡ text_file name → length text ≤ text_limit → IsPackage name text tree
    → OfForm file tree result → TextFound name text result
form_found name text file tree (Ok (found.Tree t)) is short spelled (same, form) =
    λ files found. record { bytes = text; is = found; short = short; spelled = subst (λ t. IsPackage name text t) (sym same) spelled; form = ap (λ t. package_form (held_package t)) same ∙ form }
form_found name text file tree (Ok (found.Ends e)) is short spelled (form, told) = λ files found. unbuilt_ends files name text file tree e.line e.status is short spelled form told.0 told.1 found
form_found name text file tree (Err why) is short spelled o = tt

pub form_serves : (name text file : Text) (tree : PackageTree) (result : Result Found Stop) → IsPackage name text tree → OfForm file tree result → IfOk result (Serves name)
form_serves name text file tree (Ok (found.Tree t)) spelled (same, form) = (ap (λ (t : PackageTree). t.name) same ∙ called spelled, ap (λ t. package_form (held_package t)) same ∙ form)
form_serves name text file tree (Ok (found.Ends e)) spelled (form, told) = subst IsUnbuilt (sym told.1) tt
form_serves name text file tree (Err why) spelled o = tt

pub form_memory : (file : Text) (tree : PackageTree) (result : Result Found Stop) → OfForm file tree result → LacksMemory result
form_memory file tree (Ok f) o = tt
form_memory file tree (Err stop.NoMemory) o = tt
form_memory file tree (Err stop.SinkFailed) o = o
form_memory file tree (Err (stop.DepotFailed file')) o = o

-- ---- endings of a tree

package_ends : (files : Files) (name : Text) (tree : PackageTree) (steps : ℕ) → TreeIn files name tree → (printed line : Text) (status : Status)
    → TreeEnds tree steps printed line status → PackageEnds files name steps printed line status
package_ends files name tree steps i printed line status t =
    subst (λ p. PackageEnds files name steps p line status) (sym t.prints)
    (subst (λ l. PackageEnds files name steps (built_printed (building tree steps)) l status) (sym t.tells)
    (subst (λ s. PackageEnds files name steps (built_printed (building tree steps)) (built_line (building tree steps)) s) (sym t.ends)
    (builds i.bytes tree i.is i.short i.spelled i.form)))

too_long : (a b : Text) → a ≡ b → text_limit < length a → length b ≤ text_limit → ⊥
too_long a b same past short = omega (arith, past, short, ap (λ (x : Text). length x) same)

not_both : (a b : PackageTree) → a ≡ b → package_form (held_package a) ≡ false → package_form (held_package b) ≡ true → ⊥
not_both a b same other plain = false≢true (sym other ∙ ap (λ t. package_form (held_package t)) same ∙ plain)

-- the ending of a package whose text has this tree is the tree's
tree_ends : (files : Files) (name : Text) (tree : PackageTree) (steps : ℕ) → TreeIn files name tree → (printed line : Text) (status : Status)
    → PackageEnds files name steps printed line status → TreeEnds tree steps printed line status
tree_ends files name tree steps i printed line status (absent e) = let is = i.is in cc
tree_ends files name tree steps i printed line status (long other e past) = let is = i.is in absurd (too_long other i.bytes (cc) past i.short)
tree_ends files name tree steps i printed line status (faulty other place kind e short fault) =
    let is = i.is in let same : other ≡ i.bytes = cc in
    absurd (no-package-fault i.spelled (subst (λ b. IsPackageFault name b place kind) same fault))
tree_ends files name tree steps i printed line status (unbuilt other tree' e short spelled form) =
    let is = i.is in let same : other ≡ i.bytes = cc in
    absurd (not_both tree' tree (one-package (subst (λ b. IsPackage name b tree') same spelled) i.spelled) form i.form)
tree_ends files name tree steps i printed line status (builds other tree' e short spelled form) =
    let is = i.is in let same : other ≡ i.bytes = cc in
    let one = one-package (subst (λ b. IsPackage name b tree') same spelled) i.spelled in
    record {
      prints = ap (λ t. built_printed (building t steps)) one;
      tells = ap (λ t. built_line (building t steps)) one;
      ends = ap (λ t. built_status (building t steps)) one;
    }

leads_from : (files : Files) (name : Text) (tree : PackageTree) (steps : ℕ) (old : Text) (result : Result Ending Stop) (now : Option Text) → TreeIn files name tree
    → Leads (TreeEnds tree steps) old result now → Leads (PackageEnds files name steps) old result now
leads_from files name tree steps old (Ok e) now i (printed, put, t) = (printed, put, package_ends files name tree steps i printed e.line e.status t)
leads_from files name tree steps old (Err why) now i (text, put, front) =
    (text, put, λ printed line status p. front printed line status (tree_ends files name tree steps i printed line status p))

reaches_from : (files : Files) (name : Text) (tree : PackageTree) (steps : ℕ) (result : Result Ending Stop) → TreeIn files name tree → Reaches (TreeEnds tree steps) result
    → Reaches (PackageEnds files name steps) result
reaches_from files name tree steps (Ok e) i (printed, t) = (printed, package_ends files name tree steps i printed e.line e.status t)
reaches_from files name tree steps (Err why) i r = tt

pub tree_leads : (files : Option Files) (written : Option Text) (name : Text) (tree : PackageTree) (steps : ℕ) (result : Result Ending Stop) (now : Option Text)
    → IfSome files (λ fs. TreeIn fs name tree) → IfSome written (λ old. Leads (TreeEnds tree steps) old result now)
    → IfSome files (λ fs. IfSome written (λ old. Leads (PackageEnds fs name steps) old result now))
tree_leads None written name tree steps result now i l = tt
tree_leads (Some fs) None name tree steps result now i l = tt
tree_leads (Some fs) (Some old) name tree steps result now i l = leads_from fs name tree steps old result now i l

pub tree_reaches : (files : Option Files) (name : Text) (tree : PackageTree) (steps : ℕ) (result : Result Ending Stop) → IfSome files (λ fs. TreeIn fs name tree)
    → Reaches (TreeEnds tree steps) result → IfSome files (λ fs. Reaches (PackageEnds fs name steps) result)
tree_reaches None name tree steps result i r = tt
tree_reaches (Some fs) name tree steps result i r = reaches_from fs name tree steps result i r

-- ---- files

rest_from : (name : Text) (before between : Files) (now : Option Files) → ((other : Text) → between other ≡ before other) → KeepsRest name between now → KeepsRest name before now
rest_from name before between None same k = k
rest_from name before between (Some new) same k = λ other differs. k other differs ∙ same other

keeps_from : (before between : Files) (now : Option Files) → ((other : Text) → between other ≡ before other) → Keeps between now → Keeps before now
keeps_from before between None same k = k
keeps_from before between (Some new) same k = λ other. k other ∙ same other

built_from : (name : Text) (before between : Files) (tree : PackageTree) (steps : ℕ) (now : Option Files) → ((other : Text) → between other ≡ before other) → TreeIn before name tree
    → WritesBuilt between name (building tree steps) now → WritesImage before name steps now
built_from name before between tree steps now same i w = record {
  image = w.image;
  stores = record { here = w.stores.here; rest = rest_from (image_file name) before between now same w.stores.rest };
  holds = λ other tree' e spelled.
      let is = i.is in
      let bytes : other ≡ i.bytes = cc in
      subst (λ t. IsBuilt name w.image (building t steps)) (one-package i.spelled (subst (λ b. IsPackage name b tree') bytes spelled)) w.holds;
}

builds_from : (name : Text) (before between : Files) (tree : PackageTree) (steps : ℕ) (result : Result Ending Stop) (now : Option Files) → ((other : Text) → between other ≡ before other)
    → TreeIn before name tree → BuildsAs between name (building tree steps) result now → Builds before name steps result now
builds_from name before between tree steps (Ok e) now same i (rest, (written, kept)) = (
  rest_from (image_file name) before between now same rest,
  ((λ well. built_from name before between tree steps now same i (written well)), λ ill. keeps_from before between now same (kept ill)),
)
builds_from name before between tree steps (Err why) now same i rest = rest_from (image_file name) before between now same rest

pub tree_builds : (before between : Option Files) (name : Text) (tree : PackageTree) (steps : ℕ) (result : Result Ending Stop) (now : Option Files)
    → IfSome before (λ fs. Keeps fs between) → IfSome before (λ fs. TreeIn fs name tree) → tree.name ≡ name → IfSome between (λ fs. TreeBuilds fs tree steps result now)
    → IfSome before (λ fs. Builds fs name steps result now)
tree_builds None between name tree steps result now same i called b = tt
tree_builds (Some fs) None name tree steps result now same i called b = absurd same
tree_builds (Some fs) (Some new) name tree steps result now same i called b =
    builds_from name fs new tree steps result now same i (subst (λ n. BuildsAs new n (building tree steps) result now) called b)
