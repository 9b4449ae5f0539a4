-- The loop over the tokens of a text that collects the names of its modules.
use Rattle.std.proofs.Common.{◌≡◌, ℕ, ◌+◌, ◌<◌, ◌≤◌, List, ◌∷◌, ◌++◌, drop, length, get_or, sym, ap, subst, ◌∙◌}
use Rattle.std.proofs.lemmas.List.{append_assoc, append-nil, drop_all, drop_more}
use Rattle.pj_lex.specs.declared.token.Token.{Token}
use Rattle.pj_grammar.specs.Modules.{Run, name_in_run, names_used, run_after}

pub used-more : (modules more : List (List ℕ)) (run run' : Run) (tokens : List Token) (i : ℕ) (t : Token) (goal : List (List ℕ))
    → i < length tokens → t ≡ get_or tokens i t → more ≡ modules ++ name_in_run run t.what → run' ≡ run_after run t.what
    → modules ++ names_used run (drop i tokens) ≡ goal → more ++ names_used run' (drop (i + 1) tokens) ≡ goal
unfolding names_used
used-more modules more run run' tokens i t goal lt is e r h =
    let d : drop i tokens ≡ t ∷ drop (i + 1) tokens = subst (λ (y : Token). drop i tokens ≡ y ∷ drop (i + 1) tokens) (sym is) (drop_more tokens i t lt) in
    ap (λ ms. ms ++ names_used run' (drop (i + 1) tokens)) e
    ∙ ap (λ s. (modules ++ name_in_run run t.what) ++ names_used s (drop (i + 1) tokens)) r
    ∙ append_assoc modules (name_in_run run t.what) (names_used (run_after run t.what) (drop (i + 1) tokens))
    ∙ ap (λ ts. modules ++ names_used run ts) (sym d) ∙ h

pub used-all : (modules : List (List ℕ)) (run : Run) (tokens : List Token) (i : ℕ) (goal : List (List ℕ)) → length tokens ≤ i
    → modules ++ names_used run (drop i tokens) ≡ goal → modules ≡ goal
unfolding names_used
used-all modules run tokens i goal le h = sym (append-nil modules) ∙ ap (λ ts. modules ++ names_used run ts) (sym (drop_all i tokens le)) ∙ h
