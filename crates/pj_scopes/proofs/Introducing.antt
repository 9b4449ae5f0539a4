-- The names that scopes introduce, as words.
use Rattle.std.proofs.Common.{◌≡◌, List, [], ◌∷◌, ◌++◌, map, refl, ap, append_assoc}
use Rattle.std.proofs.lemmas.List.{append-nil, map-append}
use Rattle.pj_syntax.specs.declared.expression.Spot.{Spot}
use Rattle.pj_tree.specs.declared.tree.Sym.{Sym}
use Rattle.pj_faults.proofs.BoundLaws.{seen-none, seen-snoc, seen-Some, seen-None}
use Rattle.pj_faults.proofs.NamesLaws.{new_names-known, new_names-new}
use Rattle.pj_faults.proofs.ScopeLaws.{gather_rules}
use Rattle.pj_scopes.specs.Resolved.{word, words}

pub words-none : (ws : List Sym) → ws ++ words [] ≡ ws
words-none ws = append-nil ws

pub words-append : (ws : List Sym) (xs ys : List Spot) → ws ++ words (xs ++ ys) ≡ (ws ++ words xs) ++ words ys
words-append ws xs ys = rw (map-append word xs ys, append_assoc ws (words xs) (words ys)) refl

pub ruleset introduced = (words-none, words-append, append-nil, gather_rules)

pub ruleset params_seen = (seen-none, seen-snoc, seen-Some, seen-None)
