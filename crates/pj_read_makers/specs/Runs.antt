-- How much of `using NAME , NAME ..` stands directly before, as the code keeps it.
use Rattle.pj_grammar.specs.Modules.{Run, has_name, outside, wants_name}
use Rattle.pj_read_makers.specs.declared.modules.UsingRun.{UsingRun}
use Rattle.pj_read_makers.specs.declared.modules.UsingRun.TheVariants as runs

abbrev pub run_of : UsingRun → Run
run_of runs.Outside = outside
run_of runs.WantsName = wants_name
run_of runs.HasName = has_name
