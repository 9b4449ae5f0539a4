-- What was written before and what is written now stand behind each other.
use Rattle.std.proofs.Common.{◌≡◌, ℕ, ◌+◌, ◌-◌, List, ◌++◌, length, arith, take, drop, take-add, subst, ap, sym, ◌∙◌}
use Rattle.std.proofs.lemmas.Grind.{common_steps}
use Rattle.std.specs.Io.KnownBytes.{Appends}
use Rattle.std.proofs.KnownBytes.{Appends-trans}
use Rattle.pj_outside.proofs.streams.put_whole.Goals as goal

whole : (n : ℕ) (xs : List ℕ) → take (length xs - n) (drop n xs) ≡ drop n xs
whole n xs = grind (arith, common_steps)

seam : (n m : ℕ) (xs : List ℕ) → take n xs ++ take m (take (length xs - n) (drop n xs)) ≡ take (n + m) xs
seam n m xs = ap (λ ys. take n xs ++ take m ys) (whole n xs) ∙ sym (take-add n m xs)

pub loop-preserved : goal.loop-preserved
loop-preserved g c = record {
  within = omega (arith, c.in-Ok-write.ensures.bound);
  front =
      let e = Appends-trans _ _ _ _ _ c.loop.invariant.front c.in-Ok-write.ensures.bytes in
      subst (Appends (g.W.Write.contents c.args.writer.now) (g.W.Write.contents c.write.new.self)) (seam c.loop.done c.in-Ok-write.count c.args.bytes.now) e;
}
