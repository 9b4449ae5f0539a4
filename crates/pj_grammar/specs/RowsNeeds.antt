-- Rows on how deep texts nest at least that begin so.
use Rattle.std.specs.Prelude.{[], ◌∷◌, codes}
use Rattle.pj_grammar.specs.RowTexts.{EachNeeds, needs}
use Rattle.pj_grammar.specs.Texts.{script}

abbrev pub needs_of_parentheses : Type 0
needs_of_parentheses =
    EachNeeds
    (needs script (codes "( ( ( ( ( ( ( ( ( x") 11
    ∷ needs script (codes "( ( ( ( ( ( ( ( ( x + 1") 12
    ∷ needs script (codes "( ( ( ( ( ( ( ( ( x !== 1") 13
    ∷ needs script (codes "x = ( ( ( ( ( ( ( ( ( 1") 11
    ∷ needs script (codes "x += ( ( ( ( ( ( ( ( ( 1") 12
    ∷ needs script (codes "- - - - - - - - -") 11
    ∷ needs script (codes "- - - - - - - - - x") 11
    ∷ needs script (codes "f ( f ( f ( f ( f ( f ( f ( f ( f (") 10
    ∷ needs script (codes "f ( f ( f ( f ( f ( f ( f ( f ( f ( x") 11
    ∷ [])

abbrev pub needs_of_places : Type 0
needs_of_places =
    EachNeeds
    (needs script (codes "x . a . b . c . d . e . f . g . h . i") 10
    ∷ needs script (codes "x . a . b . c . d . e . f . g . h . i ;") 11
    ∷ needs script (codes "x . a . b . c . d . e . f . g . h . i = 1") 10
    ∷ needs script (codes "x . a . b . c . d . e . f . g . h . i += 1") 12
    ∷ needs script (codes "x . a . b . c . d . e . f . g . h . i + 1") 12
    ∷ needs script (codes "@eval x . a . b . c . d . e . f . g . h . i") 12
    ∷ needs script (codes "y = x . a . b . c . d . e . f . g . h . i") 11
    ∷ [])

abbrev pub needs_of_operators : Type 0
needs_of_operators =
    EachNeeds
    (needs script (codes "1 + 2 + 3 + 4 + 5 + 6 + 7 + 8 + 9") 10
    ∷ needs script (codes "1 + 2 + 3 + 4 + 5 + 6 + 7 + 8 + 9 *") 10
    ∷ needs script (codes "1 + 2 + 3 + 4 + 5 + 6 + 7 + 8 + 9 -") 11
    ∷ needs script (codes "a && b && c && d && e && f && g && h && i") 10
    ∷ needs script (codes "a ? b : a ? b : a ? b : a ? b : a ? b : a ? b : a ? b : a ? b : c") 10
    ∷ needs script (codes "a ? a ? a ? a ? a ? a ? a ? a ? b") 10
    ∷ [])

abbrev pub needs_of_blocks : Type 0
needs_of_blocks =
    EachNeeds
    (needs script (codes "if a ; if a ; if a ; if a ; if a ; if a ; if a ; if a ; if a ;") 10
    ∷ needs script (codes "if a ; if a ; if a ; if a ; if a ; if a ; if a ; if a ; if a ; x") 11
    ∷ needs script (codes "if a ; elseif a ; elseif a ; elseif a ; elseif a ; elseif a ; elseif a ; elseif a ; elseif a ;") 10
    ∷ needs script (codes "while a ; while a ; while a ; while a ; while a ; while a ; while a ; while a ; while a ; break") 10
    ∷ needs script (codes "while a ; while a ; while a ; while a ; while a ; while a ; while a ; while a ; while a ; return") 11
    ∷ needs script (codes "while a ; while a ; while a ; while a ; while a ; while a ; while a ; while a ; while a ; global") 11
    ∷ needs script (codes "while a ; while a ; while a ; while a ; while a ; while a ; while a ; while a ; @eval") 11
    ∷ needs script (codes "while a ; while a ; while a ; while a ; while a ; while a ; while a ; while a ; @eval f ( x") 12
    ∷ needs script (codes "while a ; while a ; while a ; while a ; while a ; while a ; while a ; while a ; @eval f ( x ) =") 13
    ∷ needs script (codes "while a ; while a ; while a ; while a ; while a ; while a ; while a ; while a ; @eval function f ( x )") 11
    ∷ needs script (codes "while a ; while a ; while a ; while a ; while a ; while a ; while a ; while a ; @eval invokelatest ( )") 13
    ∷ needs script (codes "while a ; while a ; while a ; while a ; while a ; while a ; while a ; while a ; eval ( : (") 11
    ∷ needs script (codes "while a ; while a ; while a ; while a ; while a ; while a ; while a ; while a ; for") 10
    ∷ [])
