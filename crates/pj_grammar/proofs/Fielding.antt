-- The machine reads definitions of types.
use Rattle.std.proofs.Common.{◌≡◌, ℕ, Bool, true, false, List, [], ◌∷◌, ◌++◌, Option, Some, None, codes, refl, sym, ap, ◌∙◌}
use Rattle.std.proofs.lemmas.List.{append_assoc, append-nil}
use Rattle.pj_words.specs.declared.word.Word.TheVariants as words
use Rattle.pj_lex.specs.declared.sign.Sign.TheVariants as signs
use Rattle.pj_lex.specs.declared.token.TokenKind.{TokenKind}
use Rattle.pj_lex.specs.declared.token.TokenKind.TheVariants as kinds
use Rattle.pj_lex.specs.declared.token.Token.{Token}
use Rattle.pj_syntax.specs.declared.expression.Spot.{Spot}
use Rattle.pj_syntax.specs.declared.expression.Path.{Path}
use Rattle.pj_syntax.specs.declared.statement.Param.{Param}
use Rattle.pj_grammar.specs.declared.node.Entries.{Entries}
use Rattle.pj_grammar.specs.declared.frame.Frame.{Frame}
use Rattle.pj_grammar.specs.declared.frame.Frame.TheVariants as frames
use Rattle.pj_grammar.specs.declared.frame.Header.{Header}
use Rattle.pj_grammar.specs.declared.frame.Header.TheVariants as headers
use Rattle.pj_grammar.specs.declared.frame.Purpose.TheVariants as purposes
use Rattle.pj_grammar.specs.declared.frame.Root.{Root}
use Rattle.pj_grammar.specs.declared.mode.Head.{Head}
use Rattle.pj_grammar.specs.declared.mode.Head.TheVariants as heads
use Rattle.pj_grammar.specs.declared.mode.Mode.TheVariants as modes
use Rattle.pj_grammar.specs.Closing.{closed_entry}
use Rattle.pj_grammar.specs.Frames.{at, head_path}
use Rattle.pj_grammar.specs.Machine.{run, step}
use Rattle.pj_grammar.specs.Makers.{Entry, abstract_of, struct_of}
use Rattle.pj_grammar.specs.Modules.{Modules}
use Rattle.pj_grammar.specs.Operands.{after_field, after_header, have_next, next, other}
use Rattle.pj_grammar.specs.Statements.{typed, untyped}
use Rattle.pj_grammar.specs.Texts as texts
use Rattle.pj_grammar.specs.Texts.{Above, Field, Fields, Structs}
use Rattle.pj_grammar.specs.Tokens.{Place, name, place, separator, sign, spot, token, word}
use Rattle.pj_grammar.proofs.Joining.{ItemRuns}
use Rattle.pj_grammar.proofs.Parameters.{type-runs}
use Rattle.pj_grammar.proofs.Reading.{TakesName, reads-named, runs-step, state}

-- what may follow the name and the parent of a type
data HeaderEnds : TokenKind → Type 0 where
  at_end : HeaderEnds (kinds.Reserved words.End)
  at_separator : HeaderEnds kinds.Separator
  at_name : (x : List ℕ) → HeaderEnds (kinds.Name x)

header-other : (kind : TokenKind) → HeaderEnds kind → next kind ≡ other
header-other _ at_end = refl
header-other _ at_separator = refl
header-other _ (at_name x) = refl

path-names : (modules : Modules) (k : List Frame) → TakesName modules (state modes.PathStart k) k
unfolding step
path-names modules k p x = refl

step-header : (modules : Modules) (h : Header) (k : List Frame) (q : Place) (kind : TokenKind) → HeaderEnds kind
    → step modules (state (modes.Header h) k) (token q kind) ≡ after_header h None k q.start kind
unfolding step
step-header modules h k q _ at_end = refl
step-header modules h k q _ at_separator = refl
step-header modules h k q _ (at_name x) = refl

step-below : (modules : Modules) (h : Header) (k : List Frame) (q : Place) → step modules (state (modes.Header h) k) (sign q signs.Below) ≡ at modes.PathStart (frames.Parent h ∷ k)
unfolding step
step-below modules h k q = refl

step-parent : (modules : Modules) (h : Head) (t : Path) (header : Header) (k : List Frame) (q : Place) (kind : TokenKind) → head_path h ≡ Some t → next kind ≡ other
    → step modules (state (modes.Have h) (frames.Parent header ∷ k)) (token q kind) ≡ after_header header (Some t) k q.start kind
unfolding step
step-parent modules h t header k q kind path plain = ap (have_next modules h (frames.Parent header ∷ k) q kind) plain ∙ rw path refl

above-runs : {modules : Modules} {ts : List Token} {parent : Option Path} → Above modules ts parent → (h : Header) (k : List Frame) (u : Token) (r : List Token) → HeaderEnds u.what
    → run modules (ts ++ u ∷ r) (at (modes.Header h) k) ≡ run modules r (after_header h parent k u.start u.what)
above-runs {modules} texts.nothing_above h k u r ends = runs-step modules u r _ _ (step-header modules h k (place u) u.what ends)
above-runs {modules} (texts.below {ts = ts} p d) h k u r ends =
    let c = reads-named d (state modes.PathStart (frames.Parent h ∷ k)) (frames.Parent h ∷ k) (path-names modules (frames.Parent h ∷ k)) refl in
    runs-step modules (sign p signs.Below) (ts ++ u ∷ r) _ _ (step-below modules h k p)
    ∙ c.runs (u ∷ r)
    ∙ runs-step modules u r _ _ (step-parent modules c.head _ h k (place u) u.what c.path (header-other u.what ends))

-- fields
abbrev fielded : Bool → Spot → Option Path → List Param → List Frame → List Frame
fielded mutable s parent fs k = frames.Fields mutable s parent fs ∷ k

step-field-name : (modules : Modules) (p : Place) (x : List ℕ) (k : List Frame) → step modules (state modes.FieldStart k) (name p x) ≡ at (modes.Have (heads.Name (spot p x))) k
unfolding step
step-field-name modules p x k = refl

step-field-plain : (modules : Modules) (x : Spot) (q : Place) (kind : TokenKind) (mutable : Bool) (s : Spot) (parent : Option Path) (fs : List Param) (k : List Frame) → next kind ≡ other
    → step modules (state (modes.Have (heads.Name x)) (fielded mutable s parent fs k)) (token q kind)
    ≡ after_field (fielded mutable s parent (fs ++ record { at = x.at; name = Some x; declared = None } ∷ []) k) kind
unfolding step
step-field-plain modules x q kind mutable s parent fs k plain = ap (have_next modules (heads.Name x) (fielded mutable s parent fs k) q kind) plain

step-field-type : (modules : Modules) (x : Spot) (q : Place) (mutable : Bool) (s : Spot) (parent : Option Path) (fs : List Param) (k : List Frame)
    → step modules (state (modes.Have (heads.Name x)) (fielded mutable s parent fs k)) (sign q signs.DoubleColon) ≡ at modes.PathStart (frames.TypeOf (Some x) x.at ∷ fielded mutable s parent fs k)
unfolding step
step-field-type modules x q mutable s parent fs k = refl

field-runs : {modules : Modules} {ts : List Token} {x : Param} → Field modules ts x → (mutable : Bool) (s : Spot) (parent : Option Path) (fs : List Param) (k : List Frame) (u : Token) (r : List Token)
    → next u.what ≡ other
    → run modules (ts ++ u ∷ r) (at modes.FieldStart (fielded mutable s parent fs k)) ≡ run modules r (after_field (fielded mutable s parent (fs ++ x ∷ []) k) u.what)
field-runs {modules} (texts.field p x untyped) mutable s parent fs k u r plain =
    runs-step modules (name p x) (u ∷ r) _ _ (step-field-name modules p x (fielded mutable s parent fs k))
    ∙ runs-step modules u r _ _ (step-field-plain modules (spot p x) (place u) u.what mutable s parent fs k plain)
field-runs {modules} (texts.field p x (typed {ts = ts} q d)) mutable s parent fs k u r plain =
    runs-step modules (name p x) (sign q signs.DoubleColon ∷ (ts ++ u ∷ r)) _ _ (step-field-name modules p x (fielded mutable s parent fs k))
    ∙ runs-step modules (sign q signs.DoubleColon) (ts ++ u ∷ r) _ _ (step-field-type modules (spot p x) q mutable s parent fs k)
    ∙ type-runs d (Some (spot p x)) p.start (fielded mutable s parent fs k) u r plain

step-fields-end : (modules : Modules) (p : Place) (mutable : Bool) (s : Spot) (parent : Option Path) (fs : List Param) (k : List Frame)
    → step modules (state modes.FieldStart (fielded mutable s parent fs k)) (word p words.End) ≡ closed_entry (struct_of mutable s parent fs) k
unfolding step
step-fields-end modules p mutable s parent fs k = refl

step-fields-separator : (modules : Modules) (p : Place) (k : List Frame) → step modules (state modes.FieldStart k) (separator p) ≡ at modes.FieldStart k
unfolding step
step-fields-separator modules p k = refl

fields-run : {modules : Modules} {ts : List Token} {xs : List Param} → Fields modules ts xs → (mutable : Bool) (s : Spot) (parent : Option Path) (fs : List Param) (k : List Frame) (r : List Token)
    → run modules (ts ++ r) (at modes.FieldStart (fielded mutable s parent fs k)) ≡ run modules r (closed_entry (struct_of mutable s parent (fs ++ xs)) k)
fields-run {modules} (texts.no_field p) mutable s parent fs k r =
    runs-step modules (word p words.End) r _ _ (step-fields-end modules p mutable s parent fs k)
    ∙ ap (λ ys. run modules r (closed_entry (struct_of mutable s parent ys) k)) (sym (append-nil fs))
fields-run {modules} (texts.skip_field {ts = ts} p d) mutable s parent fs k r =
    runs-step modules (separator p) (ts ++ r) _ _ (step-fields-separator modules p (fielded mutable s parent fs k)) ∙ fields-run d mutable s parent fs k r
fields-run {modules} (texts.last_field {ts = ts} p d) mutable s parent fs k r =
    ap (λ w. run modules w (at modes.FieldStart (fielded mutable s parent fs k))) (append_assoc ts (word p words.End ∷ []) r)
    ∙ field-runs d mutable s parent fs k (word p words.End) r refl
fields-run {modules} (texts.then_fields {ts = ts} {us = us} {x = x} {xs = xs} p d ds) mutable s parent fs k r =
    ap (λ w. run modules w (at modes.FieldStart (fielded mutable s parent fs k))) (append_assoc ts (separator p ∷ us) r)
    ∙ field-runs d mutable s parent fs k (separator p) (us ++ r) refl
    ∙ fields-run ds mutable s parent (fs ++ x ∷ []) k r
    ∙ ap (λ ys. run modules r (closed_entry (struct_of mutable s parent ys) k)) (append_assoc fs (x ∷ []) xs)

-- with what fields begin, with their end
record Opens (ts : List Token) : Type 0 where
  first : Token
  rest : List Token
  are : ts ≡ first ∷ rest
  ends : HeaderEnds first.what

opens-more : {ts : List Token} (us : List Token) → Opens ts → Opens (ts ++ us)
opens-more us s = record { first = s.first; rest = s.rest ++ us; are = ap (λ w. w ++ us) s.are; ends = s.ends }

opens-field : {modules : Modules} {ts : List Token} {x : Param} → Field modules ts x → Opens ts
opens-field (texts.field {ts = ts} p x d) = record { first = name p x; rest = ts; are = refl; ends = at_name x }

opens : {modules : Modules} {ts : List Token} {xs : List Param} → Fields modules ts xs → Opens ts
opens (texts.no_field p) = record { first = word p words.End; rest = []; are = refl; ends = at_end }
opens (texts.skip_field {ts = ts} p d) = record { first = separator p; rest = ts; are = refl; ends = at_separator }
opens (texts.last_field p d) = opens-more _ (opens-field d)
opens (texts.then_fields p d ds) = opens-more _ (opens-field d)

step-struct-name : (modules : Modules) (mutable : Bool) (p : Place) (x : List ℕ) (k : List Frame)
    → step modules (state (modes.StructName mutable) k) (name p x) ≡ at (modes.Header (headers.Struct mutable (spot p x))) k
unfolding step
step-struct-name modules mutable p x k = refl

fields-begin : (modules : Modules) (mutable : Bool) (s : Spot) (parent : Option Path) (k : List Frame) (u : Token) (r : List Token)
    → run modules r (after_header (headers.Struct mutable s) parent k u.start u.what) ≡ run modules (u ∷ r) (at modes.FieldStart (fielded mutable s parent [] k))
unfolding run step
fields-begin modules mutable s parent k u r = refl

above-fields : {modules : Modules} {us : List Token} {parent : Option Path} → Above modules us parent → (vs : List Token) → Opens vs → (mutable : Bool) (s : Spot) (k : List Frame) (r : List Token)
    → run modules (us ++ (vs ++ r)) (at (modes.Header (headers.Struct mutable s)) k) ≡ run modules (vs ++ r) (at modes.FieldStart (fielded mutable s parent [] k))
above-fields {modules} {us} {parent} d vs o mutable s k r =
    rw o.are (above-runs d (headers.Struct mutable s) k o.first (o.rest ++ r) o.ends ∙ fields-begin modules mutable s parent k o.first (o.rest ++ r))

structs-run : {modules : Modules} {mutable : Bool} {ts : List Token} {i : Entry} → Structs modules mutable ts i → (k : List Frame) (r : List Token)
    → run modules (ts ++ r) (at (modes.StructName mutable) k) ≡ run modules r (closed_entry i k)
structs-run {modules} {mutable = mutable} (texts.struct {us = us} {vs = vs} {parent = parent} p x d ds) k r =
    runs-step modules (name p x) ((us ++ vs) ++ r) _ _ (step-struct-name modules mutable p x k)
    ∙ ap (λ w. run modules w (at (modes.Header (headers.Struct mutable (spot p x))) k)) (append_assoc us vs r)
    ∙ above-fields d vs (opens ds) mutable (spot p x) k r
    ∙ fields-run ds mutable (spot p x) parent [] k r

step-struct : (modules : Modules) (root : Root) (p : Place) (done : Entries) (k : List Frame)
    → step modules (state modes.Line (frames.Items root done ∷ k)) (word p words.Struct) ≡ at (modes.StructName false) (frames.Items root done ∷ k)
unfolding step
step-struct modules root p done k = refl

step-word : (modules : Modules) (p : Place) (x : List ℕ) (k : List Frame) → step modules (state modes.Line k) (name p x) ≡ at (modes.Have (heads.Name (spot p x))) (frames.Hole purposes.Value ∷ k)
unfolding step
step-word modules p x k = refl

step-mutable : (modules : Modules) (root : Root) (p q : Place) (done : Entries) (k : List Frame)
    → step modules (state (modes.Have (heads.Name (spot p (codes "mutable")))) (frames.Hole purposes.Value ∷ frames.Items root done ∷ k)) (word q words.Struct) ≡ at (modes.StructName true) (frames.Items root done ∷ k)
unfolding step
step-mutable modules root p q done k = refl

pub struct-runs : {modules : Modules} {ts : List Token} {i : Entry} (root : Root) (p : Place) → Structs modules false ts i → ItemRuns modules root (word p words.Struct ∷ ts) i
struct-runs {modules} {ts} root p d done k t r ends =
    runs-step modules (word p words.Struct) (ts ++ t ∷ r) _ _ (step-struct modules root p done k) ∙ structs-run d (frames.Items root done ∷ k) (t ∷ r)

pub mutable-runs : {modules : Modules} {ts : List Token} {i : Entry} (root : Root) (p q : Place) → Structs modules true ts i
    → ItemRuns modules root (name p (codes "mutable") ∷ word q words.Struct ∷ ts) i
mutable-runs {modules} {ts} root p q d done k t r ends =
    runs-step modules (name p (codes "mutable")) (word q words.Struct ∷ (ts ++ t ∷ r)) _ _ (step-word modules p (codes "mutable") (frames.Items root done ∷ k))
    ∙ runs-step modules (word q words.Struct) (ts ++ t ∷ r) _ _ (step-mutable modules root p q done k)
    ∙ structs-run d (frames.Items root done ∷ k) (t ∷ r)

step-abstract : (modules : Modules) (root : Root) (p q : Place) (done : Entries) (k : List Frame)
    → step modules (state (modes.Have (heads.Name (spot p (codes "abstract")))) (frames.Hole purposes.Value ∷ frames.Items root done ∷ k)) (name q (codes "type")) ≡ at modes.AbstractName (frames.Items root done ∷ k)
unfolding step
step-abstract modules root p q done k = refl

step-abstract-name : (modules : Modules) (p : Place) (x : List ℕ) (k : List Frame) → step modules (state modes.AbstractName k) (name p x) ≡ at (modes.Header (headers.Abstract (spot p x))) k
unfolding step
step-abstract-name modules p x k = refl

pub abstract-runs : {modules : Modules} {ts : List Token} {parent : Option Path} (root : Root) (p q c e : Place) (x : List ℕ) → Above modules ts parent
    → ItemRuns modules root (name p (codes "abstract") ∷ name q (codes "type") ∷ name c x ∷ (ts ++ word e words.End ∷ [])) (abstract_of (spot c x) parent)
abstract-runs {modules} {ts} root p q c e x d done k t r ends =
    runs-step modules (name p (codes "abstract")) (name q (codes "type") ∷ name c x ∷ ((ts ++ word e words.End ∷ []) ++ t ∷ r)) _ _ (step-word modules p (codes "abstract") (frames.Items root done ∷ k))
    ∙ runs-step modules (name q (codes "type")) (name c x ∷ ((ts ++ word e words.End ∷ []) ++ t ∷ r)) _ _ (step-abstract modules root p q done k)
    ∙ runs-step modules (name c x) ((ts ++ word e words.End ∷ []) ++ t ∷ r) _ _ (step-abstract-name modules c x (frames.Items root done ∷ k))
    ∙ ap (λ w. run modules w (at (modes.Header (headers.Abstract (spot c x))) (frames.Items root done ∷ k))) (append_assoc ts (word e words.End ∷ []) (t ∷ r))
    ∙ above-runs d (headers.Abstract (spot c x)) (frames.Items root done ∷ k) (word e words.End) (t ∷ r) at_end
