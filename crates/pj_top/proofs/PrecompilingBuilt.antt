-- What building a tree puts, as it ends.
use Rattle.std.proofs.Common.{◌≡◌, ℕ, zero, suc, [], ◌∷◌, ◌++◌, ◌⊎◌, inl, inr, Option, Some, None, Result, Ok, Err, length, take, refl, sym, ap, ◌∙◌}
use Rattle.std.specs.Option.{IfSome}
use Rattle.std.proofs.Math.Seq.{take-length}
use Rattle.pj_meaning.specs.Tree.{Text}
use Rattle.pj_meaning.specs.Content.{Content}
use Rattle.pj_meaning.specs.Outcome.{Outcome, Gives, Raises, Stops}
use Rattle.pj_tree.specs.declared.item.PackageTree.{PackageTree}
use Rattle.pj_session.specs.declared.end.End.TheVariants as statements
use Rattle.pj_build.specs.Packs.{PacksAs}
use Rattle.pj_build.specs.declared.pack.BuildFault.{BuildFault}
use Rattle.pj_build.specs.declared.pack.BuildFault.TheVariants as build
use Rattle.pj_top.specs.Claims.{Adds}
use Rattle.pj_top.specs.Endings.{building, built_line, built_printed, built_status}
use Rattle.pj_top.specs.Stops.{Leads}
use Rattle.pj_top.specs.Building.{Concludes, TreeEnds}
use Rattle.pj_top.specs.declared.stop.Stop.{Stop}
use Rattle.pj_top.specs.declared.stop.Ending.{Ending}

-- how a call ends whose building gave an outcome
record EndsAs (outcome : Outcome Content) (printed : Text) (e : Ending) : Type 0 where
  prints : printed ≡ built_printed outcome
  tells : e.line ≡ built_line outcome
  ends : e.status ≡ built_status outcome

ends_as : (name : Text) (o : Outcome Content) (printed : Text) (r : Result Text BuildFault) (e : Ending) → PacksAs name o printed r → Concludes r (Ok e) → EndsAs o printed e
ends_as name (Gives content run) printed (Ok bytes) e (was, prints) c = record { prints = prints; tells = c.line; ends = c.status }
ends_as name (Raises err run) printed (Ok bytes) e p c = absurd p
ends_as name (Stops run) printed (Ok bytes) e p c = absurd p
ends_as name o printed (Err build.NoMemory) e p c = absurd c
ends_as name (Gives content run) printed (Err (build.Ended end line)) e p c = absurd p
ends_as name (Raises err run) printed (Err (build.Ended (statements.Error told) line)) e (same, spelled, prints) c = record { prints = prints; tells = c.0 ∙ spelled; ends = c.1 }
ends_as name (Raises err run) printed (Err (build.Ended statements.Steps line)) e p c = absurd p
ends_as name (Raises err run) printed (Err (build.Ended statements.Trap line)) e p c = absurd p
ends_as name (Raises err run) printed (Err (build.Ended statements.NoMemory line)) e p c = absurd p
ends_as name (Stops run) printed (Err (build.Ended (statements.Error told) line)) e p c = absurd p
ends_as name (Stops run) printed (Err (build.Ended statements.Steps line)) e (spelled, prints) c = record { prints = prints; tells = c.0 ∙ spelled; ends = c.1 }
ends_as name (Stops run) printed (Err (build.Ended statements.Trap line)) e p c = absurd p
ends_as name (Stops run) printed (Err (build.Ended statements.NoMemory line)) e p c = absurd p

-- all that is printed is told, or nothing
all_or_none : (name : Text) (o : Outcome Content) (printed : Text) (r : Result Text BuildFault) → PacksAs name o printed r → (printed ≡ built_printed o) ⊎ (printed ≡ [])
all_or_none name o printed (Err build.NoMemory) p = inr p
all_or_none name (Gives content run) printed (Ok bytes) (was, prints) = inl prints
all_or_none name (Raises err run) printed (Ok bytes) p = absurd p
all_or_none name (Stops run) printed (Ok bytes) p = absurd p
all_or_none name (Gives content run) printed (Err (build.Ended end line)) p = absurd p
all_or_none name (Raises err run) printed (Err (build.Ended (statements.Error told) line)) (same, spelled, prints) = inl prints
all_or_none name (Raises err run) printed (Err (build.Ended statements.Steps line)) p = absurd p
all_or_none name (Raises err run) printed (Err (build.Ended statements.Trap line)) p = absurd p
all_or_none name (Raises err run) printed (Err (build.Ended statements.NoMemory line)) p = absurd p
all_or_none name (Stops run) printed (Err (build.Ended (statements.Error told) line)) p = absurd p
all_or_none name (Stops run) printed (Err (build.Ended statements.Steps line)) (spelled, prints) = inl prints
all_or_none name (Stops run) printed (Err (build.Ended statements.Trap line)) p = absurd p
all_or_none name (Stops run) printed (Err (build.Ended statements.NoMemory line)) p = absurd p

take-none : (n : ℕ) (xs : Text) → xs ≡ [] → take n xs ≡ []
take-none zero xs none = refl
take-none (suc n) [] none = refl
take-none (suc n) (x ∷ xs) none = cc

front_of : (n : ℕ) (printed whole : Text) → (printed ≡ whole) ⊎ (printed ≡ []) → (m : ℕ) × (take n printed ≡ take m whole)
front_of n printed whole (inl same) = (n, ap (take n) same)
front_of n printed whole (inr none) = (0, take-none n printed none)

whole_front : (printed whole : Text) → (printed ≡ whole) ⊎ (printed ≡ []) → (m : ℕ) × (printed ≡ take m whole)
whole_front printed whole (inl same) = (length whole, same ∙ sym (take-length whole))
whole_front printed whole (inr none) = (0, none)

module _ (tree : PackageTree) (steps : ℕ) (printed : Text) (r : Result Text BuildFault) (packs : PacksAs tree.name (building tree steps) printed r) where
  tree_ends : (e : Ending) → Concludes r (Ok e) → TreeEnds tree steps printed e.line e.status
  tree_ends e c = let so = ends_as tree.name (building tree steps) printed r e packs c in record { prints = so.prints; tells = so.tells; ends = so.ends }

  -- where all was put
  leads_from : (old : Text) (now : Option Text) (result : Result Ending Stop) → Adds old printed now → Concludes r result → Leads (TreeEnds tree steps) old result now
  leads_from old now (Ok e) put c = (printed, put, tree_ends e c)
  leads_from old now (Err why) put c =
      let front = all_or_none tree.name (building tree steps) printed r packs in
      (printed, put, λ all line status t. let f = whole_front printed (built_printed (building tree steps)) front in (f.0, f.1 ∙ ap (take f.0) (sym t.prints)))

  pub leads : (written now : Option Text) (result : Result Ending Stop) → IfSome written (λ old. Adds old printed now) → Concludes r result
      → IfSome written (λ old. Leads (TreeEnds tree steps) old result now)
  leads None now result put c = tt
  leads (Some old) now result put c = leads_from old now result put c

  -- where the sink failed
  pub cut : (written now : Option Text) (why : Stop) → IfSome written (λ old. (n : ℕ) × (now ≡ Some (old ++ take n printed)))
      → IfSome written (λ old. Leads (TreeEnds tree steps) old (Err why) now)
  cut None now why put = tt
  cut (Some old) now why (n, put) =
      let front = all_or_none tree.name (building tree steps) printed r packs in
      (take n printed, put, λ all line status t. let f = front_of n printed (built_printed (building tree steps)) front in (f.0, f.1 ∙ ap (take f.0) (sym t.prints)))
