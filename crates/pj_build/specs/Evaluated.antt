-- How the statements of a package end, beside what the meaning says, and how that is told.
use Rattle.std.specs.Prelude.{◌≡◌, codes, Result, Ok, Err, ⊤}
use Rattle.pj_meaning.specs.Tree.{Text}
use Rattle.pj_meaning.specs.State.{State}
use Rattle.pj_meaning.specs.Content.{Content, content_of}
use Rattle.pj_meaning.specs.Outcome.{Outcome, Gives, Raises, Stops, after}
use Rattle.pj_meaning.specs.Printing.{error_line}
use Rattle.pj_session.specs.Spoken.{error_of}
use Rattle.pj_session.specs.declared.end.End.{End}
use Rattle.pj_session.specs.declared.end.End.TheVariants as ends
use Rattle.pj_build.specs.declared.pack.BuildFault.{BuildFault}
use Rattle.pj_build.specs.declared.pack.BuildFault.TheVariants as build

-- the same end, in the state that the meaning leaves; or there was no memory
abbrev pub Evaluates : {A B : Type 0} → Outcome A → Result B End → State → Type 0
Evaluates (Gives v r) (Ok done) s = s ≡ r.state
Evaluates (Raises e r) (Err (ends.Error told)) s = (error_of told ≡ e) × (s ≡ r.state)
Evaluates (Stops r) (Err ends.Steps) s = s ≡ r.state
Evaluates outcome (Err ends.NoMemory) s = ⊤
Evaluates outcome result s = ⊥

-- what is kept of a package whose statements ended so: they began when Base's world was the newest
abbrev pub kept : {A : Type 0} → Outcome A → Outcome Content
kept outcome = after outcome (λ v r. Gives (content_of 1 r.state) r)

-- the line of an error, or of the end of the budget
abbrev pub IsLineOf : End → Text → Type 0
IsLineOf (ends.Error told) line = line ≡ error_line (error_of told)
IsLineOf ends.Steps line = line ≡ codes "steps\n"
IsLineOf end line = ⊥

-- the end is told with its line, or there was no memory
abbrev pub TellsEnd : End → BuildFault → Type 0
TellsEnd end build.NoMemory = ⊤
TellsEnd end (build.Ended told line) = (told ≡ end) × IsLineOf end line

-- this holds where there was memory
abbrev pub IfMemory : {A : Type 0} → Result A BuildFault → Type 0 → Type 0
IfMemory (Ok done) P = P
IfMemory (Err (build.Ended told line)) P = P
IfMemory (Err build.NoMemory) P = ⊤
