-- Operators that end one by one.
use Rattle.std.proofs.Common.{◌≡◌, ◌<◌, true, false, List, ◌∷◌, length, refl, arith}
use Rattle.pj_grammar.specs.declared.level.Level.{Level}
use Rattle.pj_grammar.specs.declared.frame.Frame.{Frame}
use Rattle.pj_grammar.specs.declared.frame.Frame.TheVariants as frames
use Rattle.pj_grammar.specs.declared.mode.Head.{Head}
use Rattle.pj_grammar.specs.Frames.{Settled, settle}
use Rattle.pj_read_frames.specs.declared.settling.Operand.{Operand}
use Rattle.pj_read_frames.specs.Tops.{ended, ends_top, settled_of}

settle_on : (l : Level) (h : Head) (k : List Frame) → ends_top l k ≡ true → settle l (ended h k).head (ended h k).frames ≡ settle l h k
unfolding settle
settle_on l h (frames.Prefix o ∷ k) e = refl
settle_on l h (frames.Infix m a o ∷ k) e = rw e refl
settle_on l h (frames.Else c a ∷ k) e = rw e refl
settle_on l h _ e = absurd (cc)

shorter : (l : Level) (h : Head) (k : List Frame) → ends_top l k ≡ true → length (ended h k).frames < length k
shorter l h (frames.Prefix o ∷ k) e = omega arith
shorter l h (frames.Infix m a o ∷ k) e = omega arith
shorter l h (frames.Else c a ∷ k) e = omega arith
shorter l h _ e = absurd (cc)

pub settle_off : (l : Level) (h : Head) (k : List Frame) → ends_top l k ≡ false → ◌≡◌ {A = Settled} (record { head = h; frames = k }) (settle l h k)
unfolding settle
settle_off l h (frames.Prefix o ∷ k) e = absurd (cc)
settle_off l h (frames.Infix m a o ∷ k) e = rw e refl
settle_off l h (frames.Else c a ∷ k) e = rw e refl
settle_off l h _ e = refl

pub one_ended : (l : Level) (o p : Operand) → ends_top l o.stack ≡ true → settled_of p ≡ ended o.head o.stack
    → settle l p.head p.stack ≡ settle l o.head o.stack
one_ended l o p e h = let g = settle_on l o.head o.stack e in rw (← h) at g

pub one_shorter : (l : Level) (o p : Operand) → ends_top l o.stack ≡ true → settled_of p ≡ ended o.head o.stack
    → length p.stack < length o.stack
one_shorter l o p e h = let g = shorter l o.head o.stack e in rw (← h) at g
