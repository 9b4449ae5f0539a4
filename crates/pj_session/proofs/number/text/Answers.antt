use Rattle.std.proofs.Common.{◌≡◌, ℕ, List, [], None, refl, sym, ◌∙◌, ap, slice_get, slice_index_or}
use Rattle.std.specs.Option.{option_copied}
use Rattle.std.proofs.lemmas.Option.{unwrap_or-slice_get}
use Rattle.pj_session.proofs.number.text.Goals as goal

no_string : (strings : List (List ℕ)) (n : ℕ) → slice_get strings n ≡ None → slice_index_or strings n [] ≡ []
no_string strings n h = sym (unwrap_or-slice_get strings n []) ∙ rw h refl

pub returns-in-None : goal.returns-in-None
returns-in-None c =
    let none : slice_get c.args.strings.now c.in-Number.number ≡ None = sym c.at.ensures ∙ ap option_copied c.in-None.is in
    rw c.in-Number.is (sym (no_string c.args.strings.now c.in-Number.number none))
