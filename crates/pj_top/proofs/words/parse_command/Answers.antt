-- The words are three, and these are they.
use Rattle.std.proofs.Common.{◌≡◌, ◌∙◌, sym, subst, MatchOption, string_bytes, arith, List, [], ◌∷◌}
use Rattle.pj_meaning.specs.Tree.{Text}
use Rattle.pj_top.specs.Commands.{Command}
use Rattle.pj_top.specs.Words.{IsAsked}
use Rattle.pj_top.proofs.Options.{three_of}
use Rattle.pj_top.proofs.words.parse_command.Goals as goal

spelled_as : (a b d x y z : Text) → a ≡ x → b ≡ y → d ≡ z → ◌≡◌ {A = List Text} (a ∷ b ∷ d ∷ []) (x ∷ y ∷ z ∷ [])
spelled_as a b d x y z e f g = cc

pub returns : goal.returns
returns c =
    let three = three_of string_bytes c.args.words.now c.index-words-0.result c.index-words-1.result c.index-words-2.result (omega arith) c.index-words-0.is c.index-words-1.is c.index-words-2.is in
    let same = spelled_as (string_bytes c.index-words-0.result) (string_bytes c.index-words-1.result) (string_bytes c.index-words-2.result) _ _ _
    (sym c.as_str-2.ensures.value) (sym c.as_str.ensures.value ∙ c.in_ok-steps.ensures.0) (sym c.as_str-3.ensures.value) in
    subst (λ ws. MatchOption c.command_of.result (Command ws → ⊥) (IsAsked ws)) (sym (three ∙ same)) c.command_of.ensures
