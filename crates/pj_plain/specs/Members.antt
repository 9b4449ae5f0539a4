-- Lists that have the same members.
use Rattle.std.specs.Prelude.{◌≡◌, List}
use Rattle.pj_meaning.specs.Tree.{Text}
use Rattle.pj_plain.specs.Names.{is_among}

abbrev pub SameMembers : List Text → List Text → Type 0
SameMembers xs ys = (text : Text) → is_among text xs ≡ is_among text ys
