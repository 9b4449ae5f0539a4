-- What the bytes of trees are, for counting them.
use Rattle.std.proofs.Common.{◌≡◌, ℕ, ◌+◌, ◌≤◌, List, length, take, length-append}
use Rattle.std.specs.List.{flat_map}
use Rattle.pj_tree.specs.Bytes.{sym, syms, param, params}
use Rattle.pj_tree.specs.declared.tree.Sym.{Sym}
use Rattle.pj_tree.specs.declared.tree.Param.{Param}
use Rattle.pj_tree.proofs.Spelling.{expr-Nothing, expr-False, expr-True, expr-Int, expr-Str, expr-Local, expr-Global, expr-Field, expr-Call, expr-CallLocal, expr-Latest, expr-And, expr-Or, expr-Cond, expr-Same}
use Rattle.pj_tree.proofs.TreeSpelling.{stmt-Value, stmt-SetLocal, stmt-SetGlobal, stmt-SetField, stmt-If, stmt-While, stmt-For, stmt-Break, stmt-Continue, stmt-Return, stmt-Eval, part-Number, part-Held, payload-Def, payload-SetBinding, payload-Value, tree-Body, tree-Payload, body-parts, definition-parts}
use Rattle.pj_parts.specs.Capped.{capped}
use Rattle.pj_parts.proofs.Sizes.{length-number, length-int, length-list, size_all}

pub ruleset expr_sizes = (expr-Nothing, expr-False, expr-True, expr-Int, expr-Str, expr-Local, expr-Global, expr-Field, expr-Call, expr-CallLocal, expr-Latest, expr-And, expr-Or, expr-Cond, expr-Same, length-number, length-int, length-append)

pub ruleset tree_sizes = (stmt-Value, stmt-SetLocal, stmt-SetGlobal, stmt-SetField, stmt-If, stmt-While, stmt-For, stmt-Break, stmt-Continue, stmt-Return, stmt-Eval, part-Number, part-Held, payload-Def, payload-SetBinding, payload-Value, tree-Body, tree-Payload, body-parts, definition-parts, length-number, length-append)

pub size_syms : (xs : List Sym) (i total : ℕ) → length xs ≤ i → total ≡ capped (4 + length (flat_map sym (take i xs))) → total ≡ capped (length (syms xs))
unfolding syms
size_syms xs i total le so_far = size_all sym xs i total le so_far

pub size_params : (xs : List Param) (i total : ℕ) → length xs ≤ i → total ≡ capped (4 + length (flat_map param (take i xs))) → total ≡ capped (length (params xs))
unfolding params
size_params xs i total le so_far = size_all param xs i total le so_far
