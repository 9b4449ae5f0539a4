-- The bytes of values, one equation for each tag, and how many they are.
use Rattle.std.proofs.Common.{◌≡◌, ℕ, ℤ, ◌+◌, List, [], ◌∷◌, ◌++◌, map, length, refl, sym, ap, ◌∙◌, append_assoc, length-append}
use Rattle.std.specs.List.{flat_map}
use Rattle.std.proofs.lemmas.List.{length-map}
use Rattle.pj_fields.specs.Fields.{number, int, list}
use Rattle.pj_parts.specs.declared.types.Value.{Value}
use Rattle.pj_parts.specs.declared.types.Value.TheVariants as v
use Rattle.pj_parts.specs.declared.types.Value.TheOpen.{Value-F}
use Rattle.pj_parts.specs.declared.types.Value.TheFolds.{fold-roll-Value}
use Rattle.pj_parts.specs.Spelling.{value, value_step}
use Rattle.pj_parts.proofs.Sizes.{length-number, length-int, length-list}

flat_map-parts : {A : Type 0} (put : A → List ℕ) (xs : List A) → flat_map (λ (p : List ℕ). p) (map put xs) ≡ flat_map put xs
flat_map-parts put [] = refl
flat_map-parts put (x ∷ xs) = ap (λ t. put x ++ t) (flat_map-parts put xs)

-- members that are bytes already, and members that become bytes
pub list-map : {A : Type 0} (put : A → List ℕ) (xs : List A) → list (λ (p : List ℕ). p) (map put xs) ≡ list put xs
unfolding list
list-map put xs = ap (λ n. number n ++ flat_map (λ (p : List ℕ). p) (map put xs)) (length-map xs put) ∙ ap (λ t. number (length xs) ++ t) (flat_map-parts put xs)

pub value-Nothing : value v.Nothing ≡ number 0
value-Nothing = ap value (sym v.rolls-Nothing) ∙ fold-roll-Value (List ℕ) value_step Value-F.Nothing

pub value-False : value v.False ≡ number 1
value-False = ap value (sym v.rolls-False) ∙ fold-roll-Value (List ℕ) value_step Value-F.False

pub value-True : value v.True ≡ number 2
value-True = ap value (sym v.rolls-True) ∙ fold-roll-Value (List ℕ) value_step Value-F.True

pub value-Int : (z : ℤ) → value (v.Int z) ≡ number 3 ++ int z
value-Int z = ap value (sym (v.rolls-Int z)) ∙ fold-roll-Value (List ℕ) value_step (Value-F.Int z)

pub value-Str : (n : ℕ) → value (v.Str n) ≡ number 4 ++ number n
value-Str n = ap value (sym (v.rolls-Str n)) ∙ fold-roll-Value (List ℕ) value_step (Value-F.Str n)

pub value-Fun : (n : ℕ) → value (v.Fun n) ≡ number 5 ++ number n
value-Fun n = ap value (sym (v.rolls-Fun n)) ∙ fold-roll-Value (List ℕ) value_step (Value-F.Fun n)

pub value-Object : (n : ℕ) → value (v.Object n) ≡ number 6 ++ number n
value-Object n = ap value (sym (v.rolls-Object n)) ∙ fold-roll-Value (List ℕ) value_step (Value-F.Object n)

pub value-Struct : (n : ℕ) (xs : List Value) → value (v.Struct n xs) ≡ number 7 ++ (number n ++ list value xs)
value-Struct n xs = ap value (sym (v.rolls-Struct n xs)) ∙ fold-roll-Value (List ℕ) value_step (Value-F.Struct n xs) ∙ ap (λ t. number 7 ++ (number n ++ t)) (list-map value xs)

pub ruleset value_spelling = (value-Nothing, value-False, value-True, value-Int, value-Str, value-Fun, value-Object, value-Struct, append_assoc)

pub ruleset value_sizes = (value-Nothing, value-False, value-True, value-Int, value-Str, value-Fun, value-Object, value-Struct, length-number, length-int, length-list, length-append)

pub ruleset value_layers = (v.outs-Nothing, v.outs-False, v.outs-True, v.outs-Int, v.outs-Str, v.outs-Fun, v.outs-Object, v.outs-Struct)
