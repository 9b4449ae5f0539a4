-- The bytes of characters.
use Rattle.std.proofs.Common.{◌≡◌, ℕ, ◌+◌, ◌<◌, List, [], ◌∷◌, ◌++◌, length, get_or, take, sym, ap, ◌∙◌}
use Rattle.std.specs.Prelude.{encode_utf8, encode_utf8_all}
use Rattle.std.proofs.lemmas.List.{take_more, append-nil}
use Rattle.std.proofs.lemmas.Str.{encodes-append}

pub pushed : (cs : List ℕ) (i c : ℕ) (text new : List ℕ) → i < length cs → c ≡ get_or cs i c → text ≡ encode_utf8_all (take i cs) → new ≡ text ++ encode_utf8 c → new ≡ encode_utf8_all (take (i + 1) cs)
pushed cs i c text new lt is before after =
    let one : take (i + 1) cs ≡ take i cs ++ c ∷ [] = take_more cs i c lt ∙ ap (λ x. take i cs ++ x ∷ []) (sym is) in
    let both : encode_utf8_all (take i cs ++ c ∷ []) ≡ encode_utf8_all (take i cs) ++ encode_utf8 c = encodes-append (take i cs) (c ∷ []) ∙ ap (λ x. encode_utf8_all (take i cs) ++ x) (append-nil (encode_utf8 c)) in
    after ∙ ap (λ x. x ++ encode_utf8 c) before ∙ sym both ∙ ap encode_utf8_all (sym one)
