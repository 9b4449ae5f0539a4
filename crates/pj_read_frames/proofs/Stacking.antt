use Rattle.std.proofs.Common.{◌≡◌, true, Bool, ◌&&◌, List, [], ◌∷◌, ◌++◌, length, refl, subst, arith}
use Rattle.std.proofs.lemmas.Grind.{common_steps}
use Rattle.pj_grammar.specs.declared.frame.Frame.{Frame}
use Rattle.pj_grammar.specs.Need.{depth, frame_depth}
use Rattle.pj_read_frames.specs.declared.depth.Reach.{Reach}
use Rattle.pj_read_frames.specs.declared.stack.Layer.{Layer}
use Rattle.pj_read_frames.specs.Stacked.{frames_of, keeps, keeps_onto, onto, reach_of, same_reach}

onto_last : (k : List Frame) (ls : List Layer) (l : Layer) → onto k (ls ++ l ∷ []) ≡ l.frame ∷ onto k ls
onto_last k [] l = refl
onto_last k (g ∷ ls) l = onto_last (g.frame ∷ k) ls l

pub innermost_last : (ls : List Layer) (l : Layer) → frames_of (ls ++ l ∷ []) ≡ l.frame ∷ frames_of ls
innermost_last ls l = onto_last [] ls l

both : (a b : Bool) → a && b ≡ true → (a ≡ true) × (b ≡ true)
both a b e = grind (arith, common_steps)

same : (a b : Reach) → same_reach a b ≡ true → a ≡ b
same a b e = grind (arith, common_steps)

same_back : (a b : Reach) → a ≡ b → same_reach a b ≡ true
same_back a b e = grind (arith, common_steps)

abbrev right : List Frame → Layer → Bool
right k l = same_reach l.reach (reach_of (depth (l.frame ∷ k)))

keeps_last : (k : List Frame) (ls : List Layer) (l : Layer) → keeps_onto k (ls ++ l ∷ []) ≡ true
    → (keeps_onto k ls ≡ true) × (l.reach ≡ reach_of (depth (l.frame ∷ onto k ls)))
keeps_last k [] l e = (refl, same _ _ (both (right k l) true e).0)
keeps_last k (g ∷ ls) l e =
    let b = both (right k g) (keeps_onto (g.frame ∷ k) (ls ++ l ∷ [])) e in
    let r = keeps_last (g.frame ∷ k) ls l b.1 in (rw (b.0, r.0) refl, r.1)

keeps_more : (k : List Frame) (ls : List Layer) (l : Layer) → keeps_onto k ls ≡ true → l.reach ≡ reach_of (depth (l.frame ∷ onto k ls))
    → keeps_onto k (ls ++ l ∷ []) ≡ true
keeps_more k [] l e h = rw (same_back l.reach (reach_of (depth (l.frame ∷ k))) h) refl
keeps_more k (g ∷ ls) l e h =
    let b = both (right k g) (keeps_onto (g.frame ∷ k) ls) e in
    let r = keeps_more (g.frame ∷ k) ls l b.1 h in rw (b.0, r) refl

pub top_reach : (all ls : List Layer) (l : Layer) (k : List Frame) → all ≡ ls ++ l ∷ [] → keeps all ≡ true → frames_of all ≡ k
    → l.reach ≡ reach_of (depth k)
top_reach all ls l k e i v =
    let h : frames_of (ls ++ l ∷ []) ≡ k = (cc) in
    let j : keeps (ls ++ l ∷ []) ≡ true = (cc) in
    let m : l.frame ∷ frames_of ls ≡ k = (cc (innermost_last ls l)) in
    subst (λ (x : List Frame). l.reach ≡ reach_of (depth x)) m (keeps_last [] ls l j).1

empty_length : (ls : List Layer) → length ls ≡ 0 → ls ≡ []
empty_length [] e = refl
empty_length (l ∷ ls) e = absurd (omega arith)

pub no_reach : (all : List Layer) (k : List Frame) → length all ≡ 0 → frames_of all ≡ k → ◌≡◌ {A = Reach} (record { above = 0; read = 0 }) (reach_of (depth k))
unfolding depth
no_reach [] k e v = subst (λ (x : List Frame). ◌≡◌ {A = Reach} (record { above = 0; read = 0 }) (reach_of (depth x))) v refl
no_reach (l ∷ ls) k e v = absurd (omega arith)

pub fewer_keep : (ls : List Layer) (l : Layer) → keeps (ls ++ l ∷ []) ≡ true → keeps ls ≡ true
fewer_keep ls l e = (keeps_last [] ls l e).0

pub more_keeps : (ls more : List Layer) (f : Frame) (r : Reach) (k : List Frame) → keeps ls ≡ true → frames_of ls ≡ k
    → r ≡ reach_of (frame_depth f (depth k)) → more ≡ ls ++ (record { frame = f; reach = r }) ∷ [] → keeps more ≡ true
unfolding depth
more_keeps ls more f r k i v h e =
    let g : r ≡ reach_of (depth (f ∷ frames_of ls)) = rw v h in
    let j : keeps (ls ++ (record { frame = f; reach = r }) ∷ []) ≡ true = keeps_more [] ls (record { frame = f; reach = r }) i g in (cc)
