-- Names that pass and are new, told in two steps: first that all pass, then that all are new.
use Rattle.std.proofs.Common.{◌≡◌, ℕ, ◌≤◌, Bool, true, false, cond, not, ◌&&◌, List, [], ◌∷◌, ◌++◌, length, take, drop, Option, Some, None, Result, Ok, Err, refl, sym, ap, ◌∙◌, append_assoc, append-nil, arith}
use Rattle.std.specs.Prelude.{option_and_then, option_map, slice_get}
use Rattle.std.proofs.lemmas.List.{take_at, drop_at, length-append}
use Rattle.pj_base.specs.Interned.{has_text}
use Rattle.pj_parts.specs.Given.{Fails}
use Rattle.pj_parts.specs.declared.fault.PartFault.{PartFault}
use Rattle.pj_parts.specs.declared.fault.PartFault.TheVariants as faults
use Rattle.pj_image.specs.Names.{text_seen, all_seen}
use Rattle.pj_image.specs.New.{all_new, text_taken, all_taken}
use Rattle.pj_image.specs.Sees.{Sees, Passes}

-- the text, if it passes, before the others, if they do
abbrev kept : (List ℕ → Bool) → Option (List ℕ) → Option (List (List ℕ)) → Option (List (List ℕ))
kept good None rest = None
kept good (Some text) rest = cond (good text) (option_map (λ texts. text ∷ texts) rest) None

abbrev good_texts : (List ℕ → Bool) → List (List ℕ) → List (Option ℕ) → Option (List (List ℕ))
good_texts good strings [] = Some []
good_texts good strings (number ∷ numbers) = kept good (option_and_then (λ n. slice_get strings n) number) (good_texts good strings numbers)

-- ---- taking

joined : (seen : List (List ℕ)) (t : List ℕ) (rest : Option (List (List ℕ))) → option_map (λ ts. (seen ++ t ∷ []) ++ ts) rest ≡ option_map (λ ts. seen ++ ts) (option_map (λ ts. t ∷ ts) rest)
joined seen t None = refl
joined seen t (Some ts) = ap (λ (l : List (List ℕ)). Some l) (append_assoc seen (t ∷ []) ts)

one_taken : (good : List ℕ → Bool) (text : Option (List ℕ)) (seen : List (List ℕ)) (next : List (List ℕ) → Option (List (List ℕ))) (rest : Option (List (List ℕ)))
    → ((more : List (List ℕ)) → next more ≡ option_map (λ ts. more ++ ts) rest) → option_and_then next (text_taken good seen text) ≡ option_map (λ ts. seen ++ ts) (kept good text rest)
one_taken good None seen next rest h = refl
one_taken good (Some t) seen next rest h = by (good t)
  where
    by : (b : Bool) → option_and_then next (cond b (Some (seen ++ t ∷ [])) None) ≡ option_map (λ ts. seen ++ ts) (cond b (option_map (λ ts. t ∷ ts) rest) None)
    by true = h (seen ++ t ∷ []) ∙ joined seen t rest
    by false = refl

taken : (good : List ℕ → Bool) (strings seen : List (List ℕ)) (numbers : List (Option ℕ)) → all_taken good strings seen numbers ≡ option_map (λ ts. seen ++ ts) (good_texts good strings numbers)
unfolding all_taken
taken good strings seen [] = ap (λ (l : List (List ℕ)). Some l) (sym (append-nil seen))
taken good strings seen (number ∷ numbers) =
    one_taken good (option_and_then (λ n. slice_get strings n) number) seen (λ more. all_taken good strings more numbers) (good_texts good strings numbers) (λ more. taken good strings more numbers)

-- ---- seeing

abbrev judged : List (List ℕ) → List (List ℕ) → Option (List (List ℕ))
judged seen ts = cond (all_new seen ts) (Some (seen ++ ts)) None

one_judged : (b : Bool) (seen : List (List ℕ)) (t : List ℕ) (rest : Option (List (List ℕ))) → has_text t seen ≡ b
    → cond (not b) (option_and_then (judged (seen ++ t ∷ [])) rest) None ≡ option_and_then (judged seen) (option_map (λ ts. t ∷ ts) rest)
one_judged true seen t None e = refl
one_judged true seen t (Some ts) e = rw e refl
one_judged false seen t None e = refl
one_judged false seen t (Some ts) e = rw (e, append_assoc seen (t ∷ []) ts) refl

one_seen : (good : List ℕ → Bool) (text : Option (List ℕ)) (seen : List (List ℕ)) (next : List (List ℕ) → Option (List (List ℕ))) (rest : Option (List (List ℕ)))
    → ((more : List (List ℕ)) → next more ≡ option_and_then (judged more) rest) → option_and_then next (text_seen good seen text) ≡ option_and_then (judged seen) (kept good text rest)
one_seen good None seen next rest h = refl
one_seen good (Some t) seen next rest h = by (good t) (has_text t seen) refl
  where
    by : (g b : Bool) → has_text t seen ≡ b → option_and_then next (cond (g && not b) (Some (seen ++ t ∷ [])) None) ≡ option_and_then (judged seen) (cond g (option_map (λ ts. t ∷ ts) rest) None)
    by true true e = one_judged true seen t rest e
    by true false e = h (seen ++ t ∷ []) ∙ one_judged false seen t rest e
    by false b e = refl

seen_is : (good : List ℕ → Bool) (strings seen : List (List ℕ)) (numbers : List (Option ℕ)) → all_seen good strings seen numbers ≡ option_and_then (judged seen) (good_texts good strings numbers)
unfolding all_seen
seen_is good strings seen [] = ap (λ (l : List (List ℕ)). Some l) (sym (append-nil seen))
seen_is good strings seen (number ∷ numbers) =
    one_seen good (option_and_then (λ n. slice_get strings n) number) seen (λ more. all_seen good strings more numbers) (good_texts good strings numbers) (λ more. seen_is good strings more numbers)

-- ---- both

found : (seen : List (List ℕ)) (texts : Option (List (List ℕ))) (all : List (List ℕ)) (b : Bool) → option_map (λ ts. seen ++ ts) texts ≡ Some all → all_new (take (length seen) all) (drop (length seen) all) ≡ b
    → option_and_then (judged seen) texts ≡ cond b (Some all) None
found seen None all b e h = absurd cc
found seen (Some ts) all b e h =
    let is : seen ++ ts ≡ all = cc in
    let new : all_new seen ts ≡ b = rw (sym is, take_at seen ts (length seen) refl, drop_at seen ts (length seen) refl) at h in
    rw (new, is) refl

module _ (good : List ℕ → Bool) (strings seen : List (List ℕ)) (numbers : List (Option ℕ)) where
  -- names that are taken are seen where each is new
  both : (all : List (List ℕ)) (start : ℕ) (b : Bool) → start ≡ length seen → all_taken good strings seen numbers ≡ Some all → all_new (take start all) (drop start all) ≡ b → all_seen good strings seen numbers ≡ cond b (Some all) None
  both all start b is e h = seen_is good strings seen numbers ∙ found seen (good_texts good strings numbers) all b (sym (taken good strings seen numbers) ∙ e) (rw is at h)

  none : (texts : Option (List (List ℕ))) → option_map (λ ts. seen ++ ts) texts ≡ None → option_and_then (judged seen) texts ≡ None
  none None e = refl
  none (Some ts) e = absurd cc

  -- and names that aren't taken aren't seen
  neither : all_taken good strings seen numbers ≡ None → all_seen good strings seen numbers ≡ None
  neither e = seen_is good strings seen numbers ∙ none (good_texts good strings numbers) (sym (taken good strings seen numbers) ∙ e)

  -- all that are taken stand behind those that are seen
  longer : (texts : Option (List (List ℕ))) (all : List (List ℕ)) → option_map (λ ts. seen ++ ts) texts ≡ Some all → length seen ≤ length all
  longer None all e = absurd cc
  longer (Some ts) all e = let is : seen ++ ts ≡ all = cc in rw (sym is) (omega (arith, length-append seen ts))

  pub behind : (all : List (List ℕ)) → all_taken good strings seen numbers ≡ Some all → length seen ≤ length all
  behind all e = longer (good_texts good strings numbers) all (sym (taken good strings seen numbers) ∙ e)

  pub failing : (fault : PartFault) → Fails fault (all_taken good strings seen numbers) → Fails fault (all_seen good strings seen numbers)
  failing faults.Bad h = neither h
  failing faults.NoMemory h = tt

  pub passing : {U : Type 0} (r : Result U PartFault) (all : List (List ℕ)) (start : ℕ) → start ≡ length seen → all_taken good strings seen numbers ≡ Some all → Passes r (all_new (take start all) (drop start all))
      → Sees r all (all_seen good strings seen numbers)
  passing (Ok u) all start is e h = both all start true is e h
  passing (Err faults.Bad) all start is e h = both all start false is e h
  passing (Err faults.NoMemory) all start is e h = tt
