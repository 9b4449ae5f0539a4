-- What a state needs where a text was read.
use Rattle.std.proofs.Common.{◌≡◌, arith, ℕ, max, ◌+◌, List, [], ◌∷◌, Some, ap}
use Rattle.pj_grammar.specs.declared.frame.Frame.{Frame}
use Rattle.pj_grammar.specs.declared.frame.Frame.TheVariants as frames
use Rattle.pj_grammar.specs.declared.frame.Root.TheVariants as roots
use Rattle.pj_grammar.specs.declared.mode.Mode.{Mode}
use Rattle.pj_grammar.specs.declared.mode.Mode.TheVariants as modes
use Rattle.pj_grammar.specs.declared.mode.Parsed.{Parsed}
use Rattle.pj_grammar.specs.Machine.{accepted_at, read_frames}
use Rattle.pj_grammar.specs.Need.{depth, need}
use Rattle.pj_grammar.proofs.Reading.{state}

abbrev pair : Parsed → ℕ → Parsed × ℕ
pair a n = (a, n)

inner : {a b : Parsed × ℕ} → Some a ≡ Some b → a ≡ b
inner h = cc

second : {a b : Parsed} {n m : ℕ} → Some (pair a n) ≡ Some (pair b m) → n ≡ m
second h = ap (λ r. r.1) (inner h)

alone : (n m : ℕ) → n ≡ m → max 8 (max (max 0 (0 + n)) (0 + 0 + 0)) ≡ max 8 m
alone n m h = grind arith

read-nesting : (k : List Frame) (tree : Parsed) (nesting : ℕ) → read_frames k ≡ Some (tree, nesting) → need (state modes.Accepted k) ≡ max 8 nesting
unfolding need depth
read-nesting [] tree nesting h = cc
read-nesting (frames.Items roots.Script is ∷ []) tree nesting h = alone is.nesting nesting (second h)
read-nesting (frames.Items (roots.Package x uses) is ∷ []) tree nesting h = alone is.nesting nesting (second h)
read-nesting (frames.Items roots.Script is ∷ f ∷ k) tree nesting h = cc
read-nesting (frames.Items (roots.Package x uses) is ∷ f ∷ k) tree nesting h = cc
read-nesting (frames.Prefix o ∷ k) tree nesting h = cc
read-nesting (frames.Infix m a o ∷ k) tree nesting h = cc
read-nesting (frames.Then c ∷ k) tree nesting h = cc
read-nesting (frames.Else c b ∷ k) tree nesting h = cc
read-nesting (frames.Group q types ∷ k) tree nesting h = cc
read-nesting (frames.Call g es ∷ k) tree nesting h = cc
read-nesting (frames.Signature form g ps ∷ k) tree nesting h = cc
read-nesting (frames.TypeOf x q ∷ k) tree nesting h = cc
read-nesting (frames.FunctionName ∷ k) tree nesting h = cc
read-nesting (frames.Parent header ∷ k) tree nesting h = cc
read-nesting (frames.Fields mutable x parent fs ∷ k) tree nesting h = cc
read-nesting (frames.DirectiveFun ∷ k) tree nesting h = cc
read-nesting (frames.Types g ts ∷ k) tree nesting h = cc
read-nesting (frames.Hole purpose ∷ k) tree nesting h = cc
read-nesting (frames.Block o ss ∷ k) tree nesting h = cc
read-nesting (frames.Branch c ss ∷ k) tree nesting h = cc
read-nesting (frames.Payload m quoted ∷ k) tree nesting h = cc

pub need-nesting : (mode : Mode) (k : List Frame) (tree : Parsed) (nesting : ℕ) → accepted_at mode k ≡ Some (tree, nesting) → need (state mode k) ≡ max 8 nesting
need-nesting modes.Accepted k tree nesting h = read-nesting k tree nesting h
need-nesting modes.Want k tree nesting h = cc
need-nesting modes.Arguments k tree nesting h = cc
need-nesting modes.Params k tree nesting h = cc
need-nesting modes.ShortAssign k tree nesting h = cc
need-nesting modes.PathStart k tree nesting h = cc
need-nesting modes.Line k tree nesting h = cc
need-nesting modes.Closed k tree nesting h = cc
need-nesting modes.Payload k tree nesting h = cc
need-nesting modes.EvalColon k tree nesting h = cc
need-nesting modes.EvalOpen k tree nesting h = cc
need-nesting modes.ConstName k tree nesting h = cc
need-nesting modes.LoopName k tree nesting h = cc
need-nesting modes.AbstractName k tree nesting h = cc
need-nesting modes.FieldStart k tree nesting h = cc
need-nesting modes.Types k tree nesting h = cc
need-nesting modes.DirectiveEnd k tree nesting h = cc
need-nesting modes.PackageStart k tree nesting h = cc
need-nesting modes.PackageName k tree nesting h = cc
need-nesting modes.PackageEnd k tree nesting h = cc
need-nesting (modes.Have x) k tree nesting h = cc
need-nesting (modes.Field e b) k tree nesting h = cc
need-nesting (modes.Member m) k tree nesting h = cc
need-nesting (modes.BaseOperator m) k tree nesting h = cc
need-nesting (modes.EvalName m) k tree nesting h = cc
need-nesting (modes.PayloadEnd s) k tree nesting h = cc
need-nesting (modes.EvalEnd s) k tree nesting h = cc
need-nesting (modes.Return p) k tree nesting h = cc
need-nesting (modes.GlobalName p) k tree nesting h = cc
need-nesting (modes.GlobalAssign p x) k tree nesting h = cc
need-nesting (modes.ConstAssign x) k tree nesting h = cc
need-nesting (modes.LoopIn x) k tree nesting h = cc
need-nesting (modes.UsingName xs) k tree nesting h = cc
need-nesting (modes.UsingMore xs) k tree nesting h = cc
need-nesting (modes.StructName b) k tree nesting h = cc
need-nesting (modes.Header x) k tree nesting h = cc
need-nesting (modes.Declared x) k tree nesting h = cc
need-nesting (modes.TypesOpen f) k tree nesting h = cc
need-nesting (modes.PackageNamed x) k tree nesting h = cc
