-- How deep the parts may nest that something is made of. What a text may nest is far below, and so is what no sum passes.
use Rattle.std.specs.Prelude.{ℕ}

abbrev pub most_nesting : ℕ
most_nesting = 65536
