-- How items add up, and how the machine ends them.
use Rattle.std.proofs.Common.{◌≡◌, arith, ℕ, max, List, ◌∷◌, ◌++◌, refl, sym, ◌∙◌}
use Rattle.std.proofs.lemmas.List.{append_assoc, append-nil}
use Rattle.std.proofs.Math.Nat.{max-zero, zero-max}
use Rattle.pj_lex.specs.declared.token.Token.{Token}
use Rattle.pj_syntax.specs.declared.item.Item.{Item}
use Rattle.pj_grammar.specs.declared.node.Line.{Line}
use Rattle.pj_grammar.specs.declared.node.Entries.{Entries}
use Rattle.pj_grammar.specs.declared.frame.Frame.{Frame}
use Rattle.pj_grammar.specs.declared.frame.Frame.TheVariants as frames
use Rattle.pj_grammar.specs.declared.frame.Root.{Root}
use Rattle.pj_grammar.specs.declared.mode.Mode.TheVariants as modes
use Rattle.pj_grammar.specs.Closing.{after_end, closed_entry, closed_line}
use Rattle.pj_grammar.specs.Frames.{at}
use Rattle.pj_grammar.specs.Machine.{run, step}
use Rattle.pj_grammar.specs.Makers.{Entry, entry_after, entry_before, no_entries, run_of}
use Rattle.pj_grammar.specs.Modules.{Modules}
use Rattle.pj_grammar.proofs.Holes.{LineEnds}

abbrev listed : List Item → ℕ → Entries
listed trees nesting = record { trees = trees; nesting = nesting }

same : {a b : List Item} {n m : ℕ} → a ≡ b → n ≡ m → listed a n ≡ listed b m
same p q = cc

max-assoc : (a b c : ℕ) → max (max a b) c ≡ max a (max b c)
max-assoc a b c = grind arith

abbrev pub united : Entries → Entries → Entries
united a b = listed (a.trees ++ b.trees) (max a.nesting b.nesting)

pub united-none : (a : Entries) → united a no_entries ≡ a
unfolding no_entries
united-none a = same (append-nil a.trees) (max-zero a.nesting)

pub none-united : (a : Entries) → united no_entries a ≡ a
unfolding no_entries
none-united a = same refl (zero-max a.nesting)

pub united-after : (a b : Entries) (i : Entry) → united (entry_after a i) b ≡ united a (entry_before i b)
unfolding entry_after entry_before
united-after a b i = same (append_assoc a.trees _ b.trees) (max-assoc a.nesting i.nesting b.nesting)

pub united-one : (a : Entries) (i : Entry) → entry_after a i ≡ united a (entry_before i no_entries)
united-one a i = sym (united-none (entry_after a i)) ∙ united-after a no_entries i

-- the machine reads an item
abbrev pub ItemRuns : Modules → Root → List Token → Entry → Type 0
ItemRuns modules root ts i = (done : Entries) (k : List Frame) (t : Token) (r : List Token) → LineEnds t.what
    → run modules (ts ++ t ∷ r) (at modes.Line (frames.Items root done ∷ k)) ≡ run modules (t ∷ r) (at modes.Closed (frames.Items root (entry_after done i) ∷ k))

-- where an item has ended with its expression, the token behind it is looked at
pub entry-ends : (modules : Modules) (root : Root) (i : Entry) (done : Entries) (k : List Frame) (t : Token) (r : List Token)
    → run modules r (after_end (closed_entry i (frames.Items root done ∷ k)) t.what) ≡ run modules (t ∷ r) (at modes.Closed (frames.Items root (entry_after done i) ∷ k))
unfolding run step
entry-ends modules root i done k t r = refl

pub line-entry : (root : Root) (s : Line) (done : Entries) (k : List Frame)
    → closed_line s (frames.Items root done ∷ k) ≡ at modes.Closed (frames.Items root (entry_after done (run_of s)) ∷ k)
unfolding closed_line
line-entry root s done k = refl
