-- How many names the scopes of a body introduce. Counts stop at the greatest number, which is far beyond the limit.
use Rattle.std.specs.Prelude.{ℕ, ◌-◌, ◌^◌, min, Bool, List, map, length}
use Rattle.pj_tree.specs.Reads.{Strings, Parts, texts_of, stmt_of, block_of}
use Rattle.pj_tree.specs.Scopes.{loop_names, loop_names_of, with_names, few_names}
use Rattle.pj_rules.specs.Names.{strings_at, text}
use Rattle.pj_tree.specs.declared.tree.Sym.{Sym}
use Rattle.pj_tree.specs.declared.tree.Stmt.{Stmt}
use Rattle.pj_tree.specs.declared.tree.Body.{Body}

unfoldable pub capped : ℕ → ℕ
capped n = min n (2 ^ 64 - 1)

-- the names that the loops of a statement introduce
unfoldable pub names_in : Strings → Parts → Stmt → ℕ
names_in strings parts s = length (loop_names_of (stmt_of strings parts s))

unfoldable pub names_in_block : Strings → Parts → List Stmt → ℕ
names_in_block strings parts b = length (loop_names (block_of (map (stmt_of strings parts) b)))

-- the parameters that have a name
unfoldable pub named_params : List (List ℕ) → List Sym → ℕ
named_params texts params = length (with_names (map (text texts) params))

unfoldable pub body_has_few_names : List (List ℕ) → Parts → Body → Bool
body_has_few_names texts parts b =
    let strings = strings_at texts in
    few_names (texts_of strings b.params) (texts_of strings b.introduced) (block_of (map (stmt_of strings parts) b.block))
