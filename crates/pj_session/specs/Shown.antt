-- What contracts see of a value that is printed.
use Rattle.pj_meaning.specs.Names.{id}
use Rattle.pj_meaning.specs.Values as values
use Rattle.pj_session.specs.declared.value.Value.{Value}
use Rattle.pj_session.specs.declared.value.Value.TheVariants as value

abbrev pub value_seen : Value → values.Value
value_seen (value.Whole z) = values.Whole z
value_seen (value.Function home name) = values.Function (id home.now name.now)
