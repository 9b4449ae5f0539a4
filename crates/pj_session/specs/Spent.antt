-- When a session is spent.
use Rattle.std.specs.Prelude.{Bool, true, Result, Err}
use Rattle.pj_session.specs.declared.end.End.{End}
use Rattle.pj_session.specs.declared.end.End.TheVariants as ends

-- Want of memory spends a session. Any other end leaves it as it was.
abbrev pub spent_behind : {A : Type 0} → Result A End → Bool → Bool
spent_behind (Err ends.NoMemory) before = true
spent_behind result before = before
