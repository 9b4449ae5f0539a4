use Rattle.pj_build.proofs.pack.with_output.Goals as goal

pub returns-in-Err-NoMemory : goal.returns-in-Err-NoMemory
returns-in-Err-NoMemory c name given h = c.nothing.ensures name given
