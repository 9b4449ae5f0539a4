-- The script that was read, and the run's endings by it.
use Rattle.std.proofs.Common.{◌≡◌, ℕ, ◌<◌, ◌≤◌, true, false, List, [], Option, Some, None, Result, Ok, Err, length, refl, sym, ap, subst, ◌∙◌, append-nil}
use Rattle.std.specs.Option.{IfSome, IsSomeAnd}
use Rattle.pj_meaning.specs.Tree.{Text}
use Rattle.pj_meaning.specs.Endings.{ending_line}
use Rattle.pj_outside.specs.Stored.{Files, Keeps}
use Rattle.pj_lex.specs.declared.fault.SyntaxKind.{SyntaxKind}
use Rattle.pj_tree.specs.declared.item.ScriptTree.{ScriptTree}
use Rattle.pj_plain.specs.Held.{held_script}
use Rattle.pj_plain.specs.Forms.{script_form}
use Rattle.pj_parse.specs.Texts.{IsScript, IsScriptFault}
use Rattle.pj_top.specs.Endings.{ScriptEnds, absent, long, faulty, unbuilt, runs, text_limit, meaning, printed_of, ending_of, status_of, missing_line, too_long_line, syntax_line, unbuilt_line}
use Rattle.pj_top.specs.Positions.{position_of}
use Rattle.pj_top.specs.Running.{EndsAs, HasScript, ReadsAs}
use Rattle.pj_top.specs.Stops.{AddsSome, Ends, Leads, Reaches}
use Rattle.pj_top.specs.declared.position.Position.{Position}
use Rattle.pj_top.specs.declared.status.Status.{Status}
use Rattle.pj_top.specs.declared.status.Status.TheVariants as ends
use Rattle.pj_top.specs.declared.run.Reading.{Reading}
use Rattle.pj_top.specs.declared.run.Reading.TheVariants as reading
use Rattle.pj_top.specs.declared.stop.Stop.{Stop}
use Rattle.pj_top.specs.declared.stop.Ending.{Ending}
use Rattle.pj_top.proofs.Running.{kept_items}
use Rattle.pj_top.proofs.Told.{one_script_end}

-- ---- endings before anything is run

told_by : (files : Files) (name : Text) (steps : ℕ) (line told : Text) (status answered : Status) → told ≡ line → answered ≡ status
    → ScriptEnds files name steps [] line status → ScriptEnds files name steps [] told answered
told_by files name steps line told status answered same is ends' =
    subst (λ t. ScriptEnds files name steps [] t answered) (sym same) (subst (λ s. ScriptEnds files name steps [] line s) (sym is) ends')

pub unbuilt_ends : (name : Text) (tree : ScriptTree) (e : Ending) → script_form (held_script tree) ≡ false → e.line ≡ unbuilt_line name → e.status ≡ ends.Syntax
    → (files : Files) (bytes : List ℕ) → files name ≡ Some bytes → length bytes ≤ text_limit → IsScript bytes tree → ReadsAs files name (Ok (reading.Ends e))
unbuilt_ends name tree e other line status files bytes found short spelled =
    λ steps. told_by files name steps _ e.line _ e.status line status (unbuilt bytes tree found short spelled other)

pub faulty_ends : (name bytes : Text) (place : ℕ) (kind : SyntaxKind) (at : Position) (e : Ending) → at ≡ position_of bytes place → IsScriptFault bytes place kind
    → e.line ≡ syntax_line name at kind → e.status ≡ ends.Syntax
    → (files : Files) → files name ≡ Some bytes → length bytes ≤ text_limit → ReadsAs files name (Ok (reading.Ends e))
faulty_ends name bytes place kind at e there fault line status files found short =
    λ steps. told_by files name steps _ e.line _ e.status (line ∙ ap (λ p. syntax_line name p kind) there) status (faulty bytes place kind found short fault)

pub absent_read : (files : Option Files) (name : Text) (e : Ending) → IfSome files (λ fs. fs name ≡ None) → e.line ≡ missing_line name → e.status ≡ ends.Missing
    → IfSome files (λ fs. ReadsAs fs name (Ok (reading.Ends e)))
absent_read None name e told line status = tt
absent_read (Some fs) name e told line status = λ steps. told_by fs name steps _ e.line _ e.status line status (absent told)

some_and : (o : Option Text) (limit : ℕ) → IsSomeAnd o (λ bytes. limit < length bytes) → (bytes : Text) × (o ≡ Some bytes) × (limit < length bytes)
some_and None limit h = elim h [ ]
some_and (Some bytes) limit h = (bytes, refl, h)

pub long_read : (files : Option Files) (name : Text) (e : Ending) → IfSome files (λ fs. IsSomeAnd (fs name) (λ bytes. text_limit < length bytes)) → e.line ≡ too_long_line name
    → e.status ≡ ends.TooLong → IfSome files (λ fs. ReadsAs fs name (Ok (reading.Ends e)))
long_read None name e told line status = tt
long_read (Some fs) name e told line status =
    let some = some_and (fs name) text_limit told in
    λ steps. told_by fs name steps _ e.line _ e.status line status (long some.0 some.1 some.2)

pub bytes_read : (files : Option Files) (name bytes : Text) (result : Result Reading Stop) → IfSome files (λ fs. fs name ≡ Some bytes) → length bytes ≤ text_limit
    → ((fs : Files) → fs name ≡ Some bytes → length bytes ≤ text_limit → ReadsAs fs name result) → IfSome files (λ fs. ReadsAs fs name result)
bytes_read None name bytes result told short reads = tt
bytes_read (Some fs) name bytes result told short reads = reads fs told short

-- ---- the run of the script that was read

script_ends : (files : Files) (name : Text) (steps : ℕ) (tree : ScriptTree) → HasScript files name tree → script_form (held_script tree) ≡ true
    → ScriptEnds files name steps (printed_of files (held_script tree) steps) (ending_line (ending_of files (held_script tree) steps)) (status_of (ending_of files (held_script tree) steps))
script_ends files name steps tree has form = runs has.bytes tree has.found has.short has.spelled form

as_script : (files : Files) (name : Text) (steps : ℕ) (tree : ScriptTree) (printed line : Text) (status : Status) → HasScript files name tree → script_form (held_script tree) ≡ true
    → EndsAs (meaning files (held_script tree) steps) printed line status → ScriptEnds files name steps printed line status
as_script files name steps tree printed line status has form so =
    subst (λ p. ScriptEnds files name steps p line status) (sym so.0)
    (subst (λ l. ScriptEnds files name steps (printed_of files (held_script tree) steps) l status) (sym so.1)
    (subst (λ s. ScriptEnds files name steps (printed_of files (held_script tree) steps) (ending_line (ending_of files (held_script tree) steps)) s) (sym so.2)
    (script_ends files name steps tree has form)))

as_tree : (files : Files) (name : Text) (steps : ℕ) (tree : ScriptTree) (printed line : Text) (status : Status) → HasScript files name tree → script_form (held_script tree) ≡ true
    → ScriptEnds files name steps printed line status → EndsAs (meaning files (held_script tree) steps) printed line status
as_tree files name steps tree printed line status has form ends' =
    one_script_end files name steps printed line _ _ status _ ends' (script_ends files name steps tree has form)

leads_as : (files : Files) (name : Text) (steps : ℕ) (tree : ScriptTree) → HasScript files name tree → script_form (held_script tree) ≡ true
    → (old : Text) (result : Result Ending Stop) (now : Option Text) → Leads (EndsAs (meaning files (held_script tree) steps)) old result now → Leads (ScriptEnds files name steps) old result now
leads_as files name steps tree has form old (Ok e) now (printed, adds, so) = (printed, adds, as_script files name steps tree printed e.line e.status has form so)
leads_as files name steps tree has form old (Err why) now (text, adds, front) =
    (text, adds, λ printed line status ends'. front printed line status (as_tree files name steps tree printed line status has form ends'))

reaches_as : (files : Files) (name : Text) (steps : ℕ) (tree : ScriptTree) → HasScript files name tree → script_form (held_script tree) ≡ true
    → (result : Result Ending Stop) → Reaches (EndsAs (meaning files (held_script tree) steps)) result → Reaches (ScriptEnds files name steps) result
reaches_as files name steps tree has form (Ok e) (printed, so) = (printed, as_script files name steps tree printed e.line e.status has form so)
reaches_as files name steps tree has form (Err why) reached = tt

-- what the run of a tree leaves over the files behind the read, which are as before
kept_meaning : (files now : Files) → Keeps files (Some now) → (tree : ScriptTree) (steps : ℕ) → meaning now (held_script tree) steps ≡ meaning files (held_script tree) steps
kept_meaning files now kept tree steps = kept_items files now kept (held_script tree) _

told_over : (files : Files) (now : Option Files) → Keeps files now → (name : Text) (steps : ℕ) (tree : ScriptTree) → HasScript files name tree → script_form (held_script tree) ≡ true
    → (old : Text) (result : Result Ending Stop) (later : Option Text)
    → IfSome now (λ fs. Leads (EndsAs (meaning fs (held_script tree) steps)) old result later) → Leads (ScriptEnds files name steps) old result later
told_over files None kept name steps tree has form old result later leads = elim kept [ ]
told_over files (Some fs) kept name steps tree has form old result later leads =
    leads_as files name steps tree has form old result later (subst (λ e. Leads (EndsAs e) old result later) (kept_meaning files fs kept tree steps) leads)

ends_over : (files : Files) (now : Option Files) → Keeps files now → (name : Text) (steps : ℕ) (tree : ScriptTree) → HasScript files name tree → script_form (held_script tree) ≡ true
    → (result : Result Ending Stop) → IfSome now (λ fs. Reaches (EndsAs (meaning fs (held_script tree) steps)) result) → Reaches (ScriptEnds files name steps) result
ends_over files None kept name steps tree has form result reached = elim kept [ ]
ends_over files (Some fs) kept name steps tree has form result reached =
    reaches_as files name steps tree has form result (subst (λ e. Reaches (EndsAs e) result) (kept_meaning files fs kept tree steps) reached)

swapped : (now : Option Files) (written later : Option Text) (steps : ℕ) (tree : ScriptTree) (result : Result Ending Stop) (old : Text) → written ≡ Some old
    → IfSome now (λ fs. IfSome written (λ o. Leads (EndsAs (meaning fs (held_script tree) steps)) o result later))
    → IfSome now (λ fs. Leads (EndsAs (meaning fs (held_script tree) steps)) old result later)
swapped None written later steps tree result old is leads = tt
swapped (Some fs) written later steps tree result old is leads = subst (λ w. IfSome w (λ o. Leads (EndsAs (meaning fs (held_script tree) steps)) o result later)) is leads

pub run_told : (files now : Option Files) (written later : Option Text) (name : Text) (steps : ℕ) (tree : ScriptTree) (result : Result Ending Stop)
    → IfSome files (λ fs. Keeps fs now) → IfSome files (λ fs. ReadsAs fs name (Ok (reading.Runs tree))) → script_form (held_script tree) ≡ true
    → IfSome now (λ fs. IfSome written (λ old. Leads (EndsAs (meaning fs (held_script tree) steps)) old result later))
    → IfSome files (λ fs. IfSome written (λ old. Leads (ScriptEnds fs name steps) old result later))
run_told None now written later name steps tree result kept has form leads = tt
run_told (Some fs) now None later name steps tree result kept has form leads = tt
run_told (Some fs) now (Some old) later name steps tree result kept has form leads =
    told_over fs now kept name steps tree has form old result later (swapped now (Some old) later steps tree result old refl leads)

pub run_ends : (files now : Option Files) (name : Text) (steps : ℕ) (tree : ScriptTree) (result : Result Ending Stop)
    → IfSome files (λ fs. Keeps fs now) → IfSome files (λ fs. ReadsAs fs name (Ok (reading.Runs tree))) → script_form (held_script tree) ≡ true
    → IfSome now (λ fs. Reaches (EndsAs (meaning fs (held_script tree) steps)) result) → IfSome files (λ fs. Reaches (ScriptEnds fs name steps) result)
run_ends None now name steps tree result kept has form reached = tt
run_ends (Some fs) now name steps tree result kept has form reached = ends_over fs now kept name steps tree has form result reached

-- an ending before anything was put
pub early_told : (files : Option Files) (written : Option Text) (name : Text) (steps : ℕ) (e : Ending) → IfSome files (λ fs. ReadsAs fs name (Ok (reading.Ends e)))
    → IfSome files (λ fs. IfSome written (λ old. Leads (ScriptEnds fs name steps) old (Ok e) written))
early_told None written name steps e reads = tt
early_told (Some fs) None name steps e reads = tt
early_told (Some fs) (Some old) name steps e reads = ([], ap Some (sym (append-nil old)), reads steps)

pub early_ends : (files : Option Files) (name : Text) (steps : ℕ) (e : Ending) → IfSome files (λ fs. ReadsAs fs name (Ok (reading.Ends e)))
    → IfSome files (λ fs. Reaches (ScriptEnds fs name steps) (Ok e))
early_ends None name steps e reads = tt
early_ends (Some fs) name steps e reads = ([], reads steps)

-- a stop before anything was put
pub stop_told : (E : Files → Ends) (files : Option Files) (written : Option Text) (why : Stop) → IfSome files (λ fs. IfSome written (λ old. Leads (E fs) old (Err why) written))
stop_told E None written why = tt
stop_told E (Some fs) None why = tt
stop_told E (Some fs) (Some old) why = ([], ap Some (sym (append-nil old)), λ printed line status e. (0, refl))

pub nothing_added : (written : Option Text) → IfSome written (λ old. AddsSome old written)
nothing_added None = tt
nothing_added (Some old) = ([], ap Some (sym (append-nil old)))
