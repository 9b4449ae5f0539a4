-- Definitions and constants of the module that runs, which name no other module.
use Rattle.std.specs.Prelude.{Bool, false, ◌&&◌, ◌||◌, List, [], ◌∷◌, Some, None, length}
use Rattle.pj_meaning.specs.Tree.{Expr, Call, TopItem, Def, Const}
use Rattle.pj_plain.specs.Forms.{Known, is_new, may_be_constant}
use Rattle.pj_plain.specs.Names.{free_name}
use Rattle.pj_plain.specs.Plain.{is_empty, plain_definition, plain_expr}
use Rattle.pj_session.specs.Events.{Event, Defines, Binds, Loads}
use Rattle.pj_session.specs.Items.{is_call}

-- a call with integers of a name without a module
abbrev pub is_own_call : Expr → Bool
is_own_call (Call m f es) = is_empty m && is_call (Call m f es)
is_own_call e = false

-- what a constant may be given
abbrev pub is_valued_here : Expr → Bool
is_valued_here e = plain_expr [] e || is_own_call e

-- the own names, each function's with the number of its parameters
abbrev pub known_in : List Event → Known
known_in [] = []
known_in (Defines f ps e ∷ es) = (f, Some (length ps)) ∷ known_in es
known_in (Binds x z ∷ es) = (x, None) ∷ known_in es
known_in (Loads held ∷ es) = known_in es

-- a plain definition of a new name, or a constant of one
abbrev pub own_item : Known → TopItem → Bool
own_item known (Def m f params b) = is_new f known && plain_definition m f params b
own_item known (Const x e) = is_new x known && (free_name x && may_be_constant known e)
own_item known item = false
