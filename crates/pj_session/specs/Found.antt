-- Names of modules that are written.
use Rattle.std.specs.Prelude.{ℕ, Bool, Option, Result, Ok, Err, if◌then◌else◌}
use Rattle.pj_meaning.specs.Tree.{Text}
use Rattle.pj_meaning.specs.Values as values
use Rattle.pj_meaning.specs.Outcome.{Error, Undefined, ModuleNotLoaded}
use Rattle.pj_session.specs.Ending.{Answers}
use Rattle.pj_session.specs.Items.{Got, thing_or}
use Rattle.pj_session.specs.Shown.{value_seen}
use Rattle.pj_session.specs.Things.{Thing}
use Rattle.pj_session.specs.declared.end.End.{End}
use Rattle.pj_session.specs.declared.value.Value.{Value}

-- what a name is, or the error of a module that isn't there or of a name that it doesn't bind
abbrev pub found_at : Bool → Option Thing → Text → Text → Result Thing Error
found_at there thing home name = if there then thing_or thing (Undefined home name) else Err (ModuleNotLoaded home)

-- the value, or the end, that is got
abbrev pub Reads : Got values.Value → Result Value End → ℕ → Type 0
Reads got (Ok value) left = Answers got (Ok (value_seen value)) left
Reads got (Err end) left = Answers {A = values.Value} got (Err end) left
