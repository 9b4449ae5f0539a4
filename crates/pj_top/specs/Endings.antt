-- How a command ends: what is printed, the line of its status, and the status.
use Rattle.std.specs.Fmt.{decimal}
use Rattle.std.specs.Prelude.{◌≡◌, ℕ, ◌<◌, ◌≤◌, true, false, List, [], ◌++◌, length, codes, Some, None}
use Rattle.pj_meaning.specs.Tree.{Text, TopItem}
use Rattle.pj_meaning.specs.Content.{Content}
use Rattle.pj_meaning.specs.Outcome.{Outcome, Gives, Raises, Stops}
use Rattle.pj_meaning.specs.Packages.{pack}
use Rattle.pj_meaning.specs.Printing.{error_line}
use Rattle.pj_meaning.specs.Script.{Refusal, Format, IsLoaded, Dependency, Relocation, Full, Ending, AtEnd, Uncaught, OutOfSteps, Absent, TooLong, Refused, Ended, run_script}
use Rattle.pj_meaning.specs.Using.{use_from}
use Rattle.pj_meaning.specs.Endings.{ending_line}
use Rattle.pj_outside.specs.Stored.{Files}
use Rattle.pj_lex.specs.declared.fault.SyntaxKind.{SyntaxKind}
use Rattle.pj_lex.specs.declared.fault.SyntaxKind.TheVariants as faults
use Rattle.pj_tree.specs.declared.item.PackageTree.{PackageTree}
use Rattle.pj_tree.specs.declared.item.ScriptTree.{ScriptTree}
use Rattle.pj_content.specs.Readings.{readings}
use Rattle.pj_plain.specs.Forms.{package_form, script_form}
use Rattle.pj_plain.specs.Held.{held_package, held_script}
use Rattle.pj_parse.specs.Texts.{IsPackage, IsPackageFault, IsScript, IsScriptFault}
use Rattle.pj_top.specs.declared.position.Position.{Position}
use Rattle.pj_top.specs.Positions.{position_of}
use Rattle.pj_top.specs.Commands.{Command, IsPrecompile, IsRun}
use Rattle.pj_top.specs.declared.status.Status.{Status}
use Rattle.pj_top.specs.declared.status.Status.TheVariants as ends

-- the longest text that is read, in bytes
abbrev pub text_limit : ℕ
text_limit = 1048576

abbrev pub usage_line : Text
usage_line = codes "usage: precompile STEPS NAME.. | run STEPS SCRIPT | report STEPS SCRIPT | session STEPS FILE | generate SEED COUNT\n"

-- a line that tells of a file
abbrev pub file_line : Text → Text → Text → Text
file_line before file behind = before ++ (file ++ behind)

abbrev pub missing_line : Text → Text
missing_line file = file_line (codes "missing ") file (codes "\n")

abbrev pub too_long_line : Text → Text
too_long_line file = file_line (codes "too long ") file (codes "\n")

-- what is wrong with a text has a word
abbrev pub kind_word : SyntaxKind → Text
kind_word faults.Utf8 = codes "Utf8"
kind_word faults.Token = codes "Token"
kind_word faults.Grammar = codes "Grammar"
kind_word faults.Deep = codes "Deep"
kind_word faults.Many = codes "Many"
kind_word faults.ModuleName = codes "ModuleName"
kind_word faults.Twice = codes "Twice"
kind_word faults.LoopName = codes "LoopName"
kind_word faults.GlobalLocal = codes "GlobalLocal"
kind_word faults.Outside = codes "Outside"
kind_word faults.Reserved = codes "Reserved"
kind_word faults.Unbuilt = codes "Unbuilt"

-- the position of a mistake, and its word
abbrev pub told_at : Position → SyntaxKind → Text
told_at p kind = codes " " ++ (decimal p.line ++ (codes ":" ++ (decimal p.column ++ (codes " " ++ (kind_word kind ++ codes "\n")))))

abbrev pub syntax_line : Text → Position → SyntaxKind → Text
syntax_line file p kind = file_line (codes "syntax ") file (told_at p kind)

-- a text of another form is told at its first place
abbrev pub unbuilt_line : Text → Text
unbuilt_line file = file_line (codes "syntax ") file (codes " 1:1 Unbuilt\n")

abbrev pub depot_line : Text → Text
depot_line file = file_line (codes "depot failed ") file (codes "\n")

abbrev pub refused_status : Refusal → Status
refused_status (Format n) = ends.Refused
refused_status IsLoaded = ends.Refused
refused_status (Dependency name recorded found) = ends.Refused
refused_status (Relocation k) = ends.Refused
refused_status Full = ends.Full

-- the status of a run by its ending
abbrev pub status_of : Ending → Status
status_of AtEnd = ends.Ok
status_of (Uncaught e) = ends.Error
status_of OutOfSteps = ends.Steps
status_of (Absent file) = ends.Missing
status_of (TooLong file) = ends.TooLong
status_of (Refused file why) = refused_status why

-- ---- a run

-- what the script means: direct evaluation of its items, with this budget, over the images in these files
abbrev pub meaning : Files → List TopItem → ℕ → Ended
meaning files items steps = run_script (use_from (readings files)) items steps

abbrev pub printed_of : Files → List TopItem → ℕ → Text
printed_of files items steps = (meaning files items steps).last.state.printed

abbrev pub ending_of : Files → List TopItem → ℕ → Ending
ending_of files items steps = (meaning files items steps).ending

-- A run of the script in the file of this name: it isn't there, it is too long, its text is no script, it is a script of another
-- form than runs today, or it is run. Then come the printed text, the line of the status, and the status.
pub data ScriptEnds (files : Files) (name : Text) (steps : ℕ) : Text → Text → Status → Type 0 where
  absent : files name ≡ None → ScriptEnds files name steps [] (missing_line name) ends.Missing
  long : (bytes : Text) → files name ≡ Some bytes → text_limit < length bytes → ScriptEnds files name steps [] (too_long_line name) ends.TooLong
  faulty : (bytes : Text) (place : ℕ) (kind : SyntaxKind) → files name ≡ Some bytes → length bytes ≤ text_limit → IsScriptFault bytes place kind
      → ScriptEnds files name steps [] (syntax_line name (position_of bytes place) kind) ends.Syntax
  unbuilt : (bytes : Text) (tree : ScriptTree) → files name ≡ Some bytes → length bytes ≤ text_limit → IsScript bytes tree → script_form (held_script tree) ≡ false
      → ScriptEnds files name steps [] (unbuilt_line name) ends.Syntax
  runs : (bytes : Text) (tree : ScriptTree) → files name ≡ Some bytes → length bytes ≤ text_limit → IsScript bytes tree → script_form (held_script tree) ≡ true
      → ScriptEnds files name steps (printed_of files (held_script tree) steps) (ending_line (ending_of files (held_script tree) steps)) (status_of (ending_of files (held_script tree) steps))

-- ---- the building of a package

-- the file of a package's text
abbrev pub text_file : Text → Text
text_file name = name ++ codes ".jl"

-- what building a package gives: direct evaluation of its statements, with this budget
abbrev pub building : PackageTree → ℕ → Outcome Content
building tree steps = pack (held_package tree) [] steps

abbrev pub built_printed : Outcome Content → Text
built_printed (Gives content r) = r.state.printed
built_printed (Raises e r) = r.state.printed
built_printed (Stops r) = r.state.printed

abbrev pub built_line : Outcome Content → Text
built_line (Gives content r) = []
built_line (Raises e r) = error_line e
built_line (Stops r) = codes "steps\n"

abbrev pub built_status : Outcome Content → Status
built_status (Gives content r) = ends.Ok
built_status (Raises e r) = ends.Error
built_status (Stops r) = ends.Steps

-- The building of the package of this name: its text isn't there, it is too long, it is no text of this package, it is of another
-- form than is built today, or its statements are evaluated. Then come the printed text, the line of the status, and the status.
pub data PackageEnds (files : Files) (name : Text) (steps : ℕ) : Text → Text → Status → Type 0 where
  absent : files (text_file name) ≡ None → PackageEnds files name steps [] (missing_line (text_file name)) ends.Missing
  long : (bytes : Text) → files (text_file name) ≡ Some bytes → text_limit < length bytes
      → PackageEnds files name steps [] (too_long_line (text_file name)) ends.TooLong
  faulty : (bytes : Text) (place : ℕ) (kind : SyntaxKind) → files (text_file name) ≡ Some bytes → length bytes ≤ text_limit → IsPackageFault name bytes place kind
      → PackageEnds files name steps [] (syntax_line (text_file name) (position_of bytes place) kind) ends.Syntax
  unbuilt : (bytes : Text) (tree : PackageTree) → files (text_file name) ≡ Some bytes → length bytes ≤ text_limit → IsPackage name bytes tree
      → package_form (held_package tree) ≡ false → PackageEnds files name steps [] (unbuilt_line (text_file name)) ends.Syntax
  builds : (bytes : Text) (tree : PackageTree) → files (text_file name) ≡ Some bytes → length bytes ≤ text_limit → IsPackage name bytes tree
      → package_form (held_package tree) ≡ true → PackageEnds files name steps (built_printed (building tree steps)) (built_line (building tree steps)) (built_status (building tree steps))

-- ---- commands

-- a command over these files: words that are none, the run of a script, or the building of a package
pub data CommandEnds (files : Files) (words : List Text) : Text → Text → Status → Type 0 where
  no_command : (Command words → ⊥) → CommandEnds files words [] usage_line ends.Usage
  run : (steps : ℕ) (script printed line : Text) (status : Status) → IsRun words steps script → ScriptEnds files script steps printed line status
      → CommandEnds files words printed line status
  precompile : (steps : ℕ) (name printed line : Text) (status : Status) → IsPrecompile words steps name → PackageEnds files name steps printed line status
      → CommandEnds files words printed line status
