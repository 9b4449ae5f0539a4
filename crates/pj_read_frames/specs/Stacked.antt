-- Frames that are kept outermost first, each with the depth of the frames up to it.
use Rattle.std.specs.Prelude.{ℕ, min, ◌-◌, ◌^◌, nat_eq, Bool, true, ◌&&◌, List, [], ◌∷◌}
use Rattle.pj_grammar.specs.declared.frame.Frame.{Frame}
use Rattle.pj_grammar.specs.Need.{Depth, depth}
use Rattle.pj_read_frames.specs.declared.depth.Reach.{Reach}
use Rattle.pj_read_frames.specs.declared.stack.Layer.{Layer}

-- frames that stand on others, the innermost last
abbrev pub onto : List Frame → List Layer → List Frame
onto k [] = k
onto k (l ∷ ls) = onto (l.frame ∷ k) ls

-- all frames, the innermost first
abbrev pub frames_of : List Layer → List Frame
frames_of ls = onto [] ls

-- a number, or the greatest number of a word of the machine
abbrev pub capped : ℕ → ℕ
capped n = min n (2 ^ 64 - 1)

abbrev pub reach_of : Depth → Reach
reach_of d = record { above = capped d.above; read = capped d.read }

abbrev pub same_reach : Reach → Reach → Bool
same_reach a b = nat_eq a.above b.above && nat_eq a.read b.read

-- whether each layer keeps the depth of the frames up to it, over others
abbrev pub keeps_onto : List Frame → List Layer → Bool
keeps_onto k [] = true
keeps_onto k (l ∷ ls) = same_reach l.reach (reach_of (depth (l.frame ∷ k))) && keeps_onto (l.frame ∷ k) ls

abbrev pub keeps : List Layer → Bool
keeps ls = keeps_onto [] ls
