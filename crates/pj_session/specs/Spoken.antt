-- The errors that today's calls raise, as the code has them.
use Rattle.pj_meaning.specs.Names.{id, int_type}
use Rattle.pj_meaning.specs.Outcome as outcome
use Rattle.pj_session.specs.Events.{ints}
use Rattle.pj_session.specs.declared.error.ErrorValue.{ErrorValue}
use Rattle.pj_session.specs.declared.error.ErrorValue.TheVariants as e

abbrev pub error_of : ErrorValue → outcome.Error
error_of (e.NoMethod home name count) = outcome.NoMethod (outcome.OfFunction (id home name)) (ints count)
error_of e.NotCallable = outcome.NotCallable int_type
error_of (e.Undefined home name) = outcome.Undefined home name
error_of (e.ModuleNotLoaded home) = outcome.ModuleNotLoaded home
