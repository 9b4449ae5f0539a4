-- The command that was read from words.
use Rattle.pj_meaning.specs.Tree.{Text}
use Rattle.std.specs.Prelude.{List}
use Rattle.pj_top.specs.Commands.{IsPrecompile, IsRun}
use Rattle.pj_top.specs.declared.words.Command.{Command}
use Rattle.pj_top.specs.declared.words.Command.TheVariants as read

abbrev pub IsAsked : List Text → Command → Type 0
IsAsked words (read.Run steps script) = IsRun words steps script.now
IsAsked words (read.Precompile steps name) = IsPrecompile words steps name.now
