-- The machine reads each item, each list of items and each text of the grammar.
use Rattle.std.proofs.Common.{◌≡◌, ℕ, true, false, List, [], ◌∷◌, ◌++◌, Some, None, codes, refl, sym, ap, ◌∙◌}
use Rattle.std.proofs.lemmas.List.{append_assoc, append-nil}
use Rattle.pj_words.specs.declared.word.Word.TheVariants as words
use Rattle.pj_lex.specs.declared.sign.Sign.TheVariants as signs
use Rattle.pj_lex.specs.declared.token.TokenKind.TheVariants as kinds
use Rattle.pj_lex.specs.declared.token.Token.{Token}
use Rattle.pj_syntax.specs.declared.expression.Spot.{Spot}
use Rattle.pj_grammar.specs.declared.node.Entries.{Entries}
use Rattle.pj_grammar.specs.declared.node.Line.{Line}
use Rattle.pj_grammar.specs.declared.frame.Frame.{Frame}
use Rattle.pj_grammar.specs.declared.frame.Frame.TheVariants as frames
use Rattle.pj_grammar.specs.declared.frame.Opener.TheVariants as openers
use Rattle.pj_grammar.specs.declared.frame.Root.{Root}
use Rattle.pj_grammar.specs.declared.frame.Root.TheVariants as roots
use Rattle.pj_grammar.specs.declared.mode.Mode.TheVariants as modes
use Rattle.pj_grammar.specs.declared.mode.Parsed.{Parsed}
use Rattle.pj_grammar.specs.Closing.{closed_line, closed_method}
use Rattle.pj_grammar.specs.Frames.{State, at, settle}
use Rattle.pj_grammar.specs.Machine.{accepted, run, start, step}
use Rattle.pj_grammar.specs.Makers.{Entry, Method, entry_after, entry_before, method_defined, method_of, no_entries, no_lines, run_of, short_method}
use Rattle.pj_grammar.specs.Modules.{Modules, is_module}
use Rattle.pj_grammar.specs.Statements as grammar
use Rattle.pj_grammar.specs.Statements.{Defines, Statement, eval_name}
use Rattle.pj_grammar.specs.Texts as texts
use Rattle.pj_grammar.specs.Texts.{Ends, IsText, Item, Items, Kind, PackageRest, Separators, a_separator, no_separator, script, «package»}
use Rattle.pj_grammar.specs.Tokens.{Place, name, separator, sign, spot, token, word}
use Rattle.pj_grammar.proofs.Begin.{from-line, starts-callee, starts-more}
use Rattle.pj_grammar.proofs.Blocks.{by_end, none-joined, step-closed-separator, step-separator}
use Rattle.pj_grammar.proofs.Directives.{directive-runs}
use Rattle.pj_grammar.proofs.Evaluations.{long-runs, short-runs, step-eval-name}
use Rattle.pj_grammar.proofs.Fielding.{abstract-runs, mutable-runs, struct-runs}
use Rattle.pj_grammar.proofs.Holes.{an_end_here, an_eof_here, a_separator_here, line-stops}
use Rattle.pj_grammar.proofs.Joining.{ItemRuns, entry-ends, line-entry, none-united, united, united-after, united-none, united-one}
use Rattle.pj_grammar.proofs.Reading.{runs-step, state}
use Rattle.pj_grammar.proofs.Uses.{const-runs, declaration-runs, names-run, step-function, using-runs}
use Rattle.pj_grammar.proofs.Written.{block, statement, step-at-eval}

-- what stands below the items of a text
pub data IsRoot : Kind → Root → Type 0 where
  of_script : IsRoot script roots.Script
  of_package : (x : Spot) (uses : List Spot) → IsRoot «package» (roots.Package x uses)

method-runs : {modules : Modules} {ts : List Token} {f : Method} → is_module modules (codes "Base") ≡ true → (root : Root) → Defines modules ts f → ItemRuns modules root ts (method_defined f)
method-runs {modules} base root (grammar.short {ts = ts} {us = us} {vs = vs} {f = f} {params = params} {e = e} p q d blank ds body) done k t r ends =
    from-line modules (ts ++ sign p signs.LeftParen ∷ (us ++ sign q signs.Assign ∷ vs)) (t ∷ r) (starts-more _ (starts-callee d)) (frames.Items root done ∷ k)
    ∙ short-runs base p q d blank ds body (frames.Items root done ∷ k) refl t r (line-stops t.what ends)
    ∙ entry-ends modules root (method_defined (short_method f params e)) done k t r
method-runs {modules} base root (grammar.long {ts = ts} {us = us} {vs = vs} {f = f} {params = params} {b = b} p q o d blank ds body) done k t r ends =
    runs-step modules (word p words.Function) ((ts ++ sign q signs.LeftParen ∷ (us ++ (vs ++ word o words.End ∷ []))) ++ t ∷ r) _ _ (step-function modules root p done k)
    ∙ ap (λ w. run modules w (at modes.PathStart (frames.FunctionName ∷ frames.Items root done ∷ k)))
    (append_assoc ts (sign q signs.LeftParen ∷ (us ++ (vs ++ word o words.End ∷ []))) (t ∷ r)
    ∙ ap (λ w. ts ++ sign q signs.LeftParen ∷ w) (append_assoc us (vs ++ word o words.End ∷ []) (t ∷ r) ∙ ap (λ w. us ++ w) (append_assoc vs (word o words.End ∷ []) (t ∷ r))))
    ∙ long-runs base q d blank ds (frames.Items root done ∷ k) (vs ++ word o words.End ∷ t ∷ r)
    ∙ block base body (openers.Function f params) no_lines (frames.Items root done ∷ k) (word o words.End) (t ∷ r) by_end
    ∙ ap (λ w. run modules (t ∷ r) (closed_method (method_of f params w) (frames.Items root done ∷ k))) (none-joined b)

statement-runs : {modules : Modules} {ts : List Token} {s : Line} → is_module modules (codes "Base") ≡ true → (root : Root) → Statement modules ts s → ItemRuns modules root ts (run_of s)
statement-runs {modules} {s = s} base root d done k t r ends =
    statement base d (frames.Items root done ∷ k) refl t r ends ∙ ap (run modules (t ∷ r)) (line-entry root s done k)

pub item : {modules : Modules} {kind : Kind} {root : Root} {ts : List Token} {i : Entry} → is_module modules (codes "Base") ≡ true → Item modules kind ts i → IsRoot kind root
    → ItemRuns modules root ts i
item {modules} base (texts.using p d) of_script = using-runs d modules p
item {root = root} base (texts.abstract_type p q c e x d) at' = abstract-runs root p q c e x d
item {root = root} base (texts.struct_type p d) at' = struct-runs root p d
item {root = root} base (texts.mutable_type p q d) at' = mutable-runs root p q d
item {root = root} base (texts.method d) at' = method-runs base root d
item {modules} {root = root} base (texts.declaration p q c x d) at' = declaration-runs d modules root p q c x
item {root = root} base (texts.const p q c x d) at' = const-runs base root p q c x d
item base (texts.directive p q c o e d ds) (of_package x uses) = directive-runs base x uses p q c o e d ds
item {root = root} base (texts.run d) at' = statement-runs base root d

-- the end of a text
abbrev items_at : Root → Entries → List Frame
items_at root done = frames.Items root done ∷ []

run-ended : (modules : Modules) (s : State) → run modules [] (Some s) ≡ Some s
unfolding run
run-ended modules s = refl

step-line-eof : (modules : Modules) (p : Place) (done : Entries) → step modules (state modes.Line (items_at roots.Script done)) (token p kinds.Eof) ≡ at modes.Accepted (items_at roots.Script done)
unfolding step
step-line-eof modules p done = refl

step-closed-eof : (modules : Modules) (p : Place) (done : Entries) → step modules (state modes.Closed (items_at roots.Script done)) (token p kinds.Eof) ≡ at modes.Accepted (items_at roots.Script done)
unfolding step
step-closed-eof modules p done = refl

step-line-package : (modules : Modules) (p : Place) (x : Spot) (uses : List Spot) (done : Entries)
    → step modules (state modes.Line (items_at (roots.Package x uses) done)) (word p words.End) ≡ at modes.PackageEnd (items_at (roots.Package x uses) done)
unfolding step
step-line-package modules p x uses done = refl

step-closed-package : (modules : Modules) (p : Place) (x : Spot) (uses : List Spot) (done : Entries)
    → step modules (state modes.Closed (items_at (roots.Package x uses) done)) (word p words.End) ≡ at modes.PackageEnd (items_at (roots.Package x uses) done)
unfolding step
step-closed-package modules p x uses done = refl

step-package-separator : (modules : Modules) (p : Place) (k : List Frame) → step modules (state modes.PackageEnd k) (separator p) ≡ at modes.PackageEnd k
unfolding step
step-package-separator modules p k = refl

step-package-eof : (modules : Modules) (p : Place) (k : List Frame) → step modules (state modes.PackageEnd k) (token p kinds.Eof) ≡ at modes.Accepted k
unfolding step
step-package-eof modules p k = refl

package-end-runs : {ts : List Token} → Separators ts → (modules : Modules) (e : Place) (k : List Frame) → run modules (ts ++ token e kinds.Eof ∷ []) (at modes.PackageEnd k) ≡ at modes.Accepted k
package-end-runs no_separator modules e k = runs-step modules (token e kinds.Eof) [] _ _ (step-package-eof modules e k) ∙ run-ended modules (state modes.Accepted k)
package-end-runs (a_separator {ts = ts} p d) modules e k =
    runs-step modules (separator p) (ts ++ token e kinds.Eof ∷ []) _ _ (step-package-separator modules p k) ∙ package-end-runs d modules e k

ends-run : {kind : Kind} {root : Root} {ts : List Token} → Ends kind ts → IsRoot kind root → (modules : Modules) (done : Entries)
    → run modules ts (at modes.Line (items_at root done)) ≡ at modes.Accepted (items_at root done)
ends-run (texts.text_ends p) of_script modules done =
    runs-step modules (token p kinds.Eof) [] _ _ (step-line-eof modules p done) ∙ run-ended modules (state modes.Accepted (items_at roots.Script done))
ends-run (texts.package_ends {ts = ts} p e d) (of_package x uses) modules done =
    runs-step modules (word p words.End) (ts ++ token e kinds.Eof ∷ []) _ _ (step-line-package modules p x uses done)
    ∙ package-end-runs d modules e (items_at (roots.Package x uses) done)

last-runs : (modules : Modules) {kind : Kind} {root : Root} {us : List Token} (ts : List Token) (i : Entry) → ItemRuns modules root ts i → Ends kind us → IsRoot kind root → (done : Entries)
    → run modules (ts ++ us) (at modes.Line (items_at root done)) ≡ at modes.Accepted (items_at root (entry_after done i))
last-runs modules ts i runs (texts.text_ends p) of_script done =
    runs done [] (token p kinds.Eof) [] an_eof_here
    ∙ runs-step modules (token p kinds.Eof) [] _ _ (step-closed-eof modules p (entry_after done i))
    ∙ run-ended modules (state modes.Accepted (items_at roots.Script (entry_after done i)))
last-runs modules ts i runs (texts.package_ends {ts = us} p e d) (of_package x uses) done =
    runs done [] (word p words.End) (us ++ token e kinds.Eof ∷ []) an_end_here
    ∙ runs-step modules (word p words.End) (us ++ token e kinds.Eof ∷ []) _ _ (step-closed-package modules p x uses (entry_after done i))
    ∙ package-end-runs d modules e (items_at (roots.Package x uses) (entry_after done i))

-- the machine reads items, with their end
abbrev pub ItemsRun : Modules → Root → List Token → Entries → Type 0
ItemsRun modules root ts is = (done : Entries) → run modules ts (at modes.Line (items_at root done)) ≡ at modes.Accepted (items_at root (united done is))

then-runs : (modules : Modules) (root : Root) (ts us : List Token) (i : Entry) (is : Entries) (p : Place) → ItemRuns modules root ts i → ItemsRun modules root us is
    → ItemsRun modules root (ts ++ separator p ∷ us) (entry_before i is)
then-runs modules root ts us i is p first rest done =
    first done [] (separator p) us a_separator_here
    ∙ runs-step modules (separator p) us _ _ (step-closed-separator modules (items_at root (entry_after done i)) p)
    ∙ rest (entry_after done i)
    ∙ ap (λ e. at modes.Accepted (items_at root e)) (united-after done is i)

step-name-separator : (modules : Modules) (m : Spot) (root : Root) (done : Entries) (u : Place)
    → step modules (state (modes.EvalName m) (frames.Payload None false ∷ items_at root done)) (separator u) ≡ at modes.Line (items_at root (entry_after done (run_of (eval_name m))))
unfolding step settle closed_line
step-name-separator modules m root done u = refl

step-name-eof : (modules : Modules) (m : Spot) (done : Entries) (u : Place)
    → step modules (state (modes.EvalName m) (frames.Payload None false ∷ items_at roots.Script done)) (token u kinds.Eof) ≡ at modes.Accepted (items_at roots.Script (entry_after done (run_of (eval_name m))))
unfolding step settle closed_line
step-name-eof modules m done u = refl

after-name-runs : (modules : Modules) (root : Root) (us : List Token) (is : Entries) (p q u : Place) (m : List ℕ) → is_module modules m ≡ true → ItemsRun modules root us is
    → ItemsRun modules root (token p kinds.AtEval ∷ name q m ∷ separator u ∷ us) (entry_before (run_of (eval_name (spot q m))) is)
after-name-runs modules root us is p q u m known rest done =
    runs-step modules (token p kinds.AtEval) (name q m ∷ separator u ∷ us) _ _ (step-at-eval modules p (items_at root done))
    ∙ runs-step modules (name q m) (separator u ∷ us) _ _ (step-eval-name modules (items_at root done) q m known)
    ∙ runs-step modules (separator u) us _ _ (step-name-separator modules (spot q m) root done u)
    ∙ rest (entry_after done (run_of (eval_name (spot q m))))
    ∙ ap (λ e. at modes.Accepted (items_at root e)) (united-after done is (run_of (eval_name (spot q m))))

name-ends-run : {kind : Kind} {root : Root} (modules : Modules) (p q u : Place) (m : List ℕ) → kind ≡ script → is_module modules m ≡ true → IsRoot kind root
    → ItemsRun modules root (token p kinds.AtEval ∷ name q m ∷ token u kinds.Eof ∷ []) (entry_before (run_of (eval_name (spot q m))) no_entries)
name-ends-run modules p q u m is known of_script done =
    runs-step modules (token p kinds.AtEval) (name q m ∷ token u kinds.Eof ∷ []) _ _ (step-at-eval modules p (items_at roots.Script done))
    ∙ runs-step modules (name q m) (token u kinds.Eof ∷ []) _ _ (step-eval-name modules (items_at roots.Script done) q m known)
    ∙ runs-step modules (token u kinds.Eof) [] _ _ (step-name-eof modules (spot q m) done u)
    ∙ run-ended modules (state modes.Accepted (items_at roots.Script (entry_after done (run_of (eval_name (spot q m))))))
    ∙ ap (λ e. at modes.Accepted (items_at roots.Script e)) (united-one done (run_of (eval_name (spot q m))))
name-ends-run modules p q u m is known (of_package x uses) done = cc

pub items : {modules : Modules} {kind : Kind} {root : Root} {ts : List Token} {is : Entries} → is_module modules (codes "Base") ≡ true → Items modules kind ts is → IsRoot kind root
    → ItemsRun modules root ts is
items {modules} {root = root} base (texts.no_items d) at' =
    λ done. ends-run d at' modules done ∙ ap (λ e. at modes.Accepted (items_at root e)) (sym (united-none done))
items {modules} {root = root} base (texts.skip_item {ts = ts} p d) at' =
    λ done. runs-step modules (separator p) ts _ _ (step-separator modules (items_at root done) p) ∙ items base d at' done
items {modules} {root = root} base (texts.last_item {ts = ts} {i = i} d e) at' =
    λ done. last-runs modules ts i (item base d at') e at' done ∙ ap (λ e. at modes.Accepted (items_at root e)) (united-one done i)
items {modules} {root = root} base (texts.then_items {ts = ts} {us = us} {i = i} {is = is} p d rest) at' = then-runs modules root ts us i is p (item base d at') (items base rest at')
items {modules} {root = root} base (texts.after_name {us = us} {is = is} p q u m known rest) at' = after-name-runs modules root us is p q u m known (items base rest at')
items {modules} base (texts.name_ends p q e m is known) at' = name-ends-run modules p q e m is known at'

-- packages
step-package-using : (modules : Modules) (p : Place) (x : Spot) (uses : List Spot)
    → step modules (state modes.Line (items_at (roots.Package x uses) no_entries)) (word p words.Using) ≡ at (modes.UsingName []) (items_at (roots.Package x uses) no_entries)
unfolding step no_entries
step-package-using modules p x uses = refl

step-uses-separator : (modules : Modules) (q : Place) (x : Spot) (uses some : List Spot)
    → step modules (state (modes.UsingMore some) (items_at (roots.Package x uses) no_entries)) (separator q) ≡ at modes.Line (items_at (roots.Package x (uses ++ some)) no_entries)
unfolding step
step-uses-separator modules q x uses some = refl

rest-runs : {modules : Modules} {ts : List Token} {names : List Spot} {is : Entries} → is_module modules (codes "Base") ≡ true → PackageRest modules ts names is → (x : Spot) (uses : List Spot)
    → run modules ts (at modes.Line (items_at (roots.Package x uses) no_entries)) ≡ at modes.Accepted (items_at (roots.Package x (uses ++ names)) is)
rest-runs {modules} {is = is} base (texts.has_items d) x uses =
    items base d (of_package x uses) no_entries
    ∙ ap (λ e. at modes.Accepted (items_at (roots.Package x uses) e)) (none-united is)
    ∙ ap (λ ys. at modes.Accepted (items_at (roots.Package x ys) is)) (sym (append-nil uses))
rest-runs {modules} base (texts.skip_before {ts = ts} p d) x uses =
    runs-step modules (separator p) ts _ _ (step-separator modules (items_at (roots.Package x uses) no_entries) p) ∙ rest-runs base d x uses
rest-runs {modules} base (texts.uses {ts = ts} {us = us} {some = some} {names = names} {is = is} p q d rest) x uses =
    runs-step modules (word p words.Using) (ts ++ separator q ∷ us) _ _ (step-package-using modules p x uses)
    ∙ names-run d modules [] (items_at (roots.Package x uses) no_entries) (separator q ∷ us)
    ∙ runs-step modules (separator q) us _ _ (step-uses-separator modules q x uses some)
    ∙ rest-runs base rest x (uses ++ some)
    ∙ ap (λ ys. at modes.Accepted (items_at (roots.Package x ys) is)) (append_assoc uses some names)

step-start-separator : (modules : Modules) (p : Place) (k : List Frame) → step modules (state modes.PackageStart k) (separator p) ≡ at modes.PackageStart k
unfolding step
step-start-separator modules p k = refl

step-start-module : (modules : Modules) (p : Place) (k : List Frame) → step modules (state modes.PackageStart k) (word p words.Module) ≡ at modes.PackageName k
unfolding step
step-start-module modules p k = refl

step-package-name : (modules : Modules) (q : Place) (x : List ℕ) (k : List Frame) → step modules (state modes.PackageName k) (name q x) ≡ at (modes.PackageNamed (spot q x)) k
unfolding step
step-package-name modules q x k = refl

step-package-named : (modules : Modules) (u : Place) (x : Spot) → step modules (state (modes.PackageNamed x) []) (separator u) ≡ at modes.Line (items_at (roots.Package x []) no_entries)
unfolding step
step-package-named modules u x = refl

before-package : {ts : List Token} → Separators ts → (modules : Modules) (p : Place) (r : List Token)
    → run modules (ts ++ word p words.Module ∷ r) (at modes.PackageStart []) ≡ run modules r (at modes.PackageName [])
before-package no_separator modules p r = runs-step modules (word p words.Module) r _ _ (step-start-module modules p [])
before-package (a_separator {ts = ts} q d) modules p r =
    runs-step modules (separator q) (ts ++ word p words.Module ∷ r) _ _ (step-start-separator modules q []) ∙ before-package d modules p r

pub whole : {modules : Modules} {kind : Kind} {ts : List Token} {tree : Parsed} {nesting : ℕ} → is_module modules (codes "Base") ≡ true → IsText modules kind ts tree nesting
    → accepted (run modules ts (Some (start kind))) ≡ Some (tree, nesting)
whole {modules} base (texts.is_script {is = is} d) =
    ap accepted (items base d of_script no_entries) ∙ ap (λ e. accepted (at modes.Accepted (items_at roots.Script e))) (none-united is)
whole {modules} base (texts.is_package {us = us} p q u x before rest) =
    ap accepted (before-package before modules p (name q x ∷ separator u ∷ us)
    ∙ runs-step modules (name q x) (separator u ∷ us) _ _ (step-package-name modules q x [])
    ∙ runs-step modules (separator u) us _ _ (step-package-named modules u (spot q x))
    ∙ rest-runs base rest (spot q x) [])
