-- Tokens that are read one by one.
use Rattle.std.proofs.Common.{◌≡◌, ℕ, suc, ◌+◌, ◌-◌, ◌≤◌, max, Bool, true, false, List, [], ◌∷◌, ◌++◌, length, take, drop, get_or, slice_get, Option, Some, None, refl, sym, ap, ◌∙◌, subst, arith, rules, append_assoc, append-nil, length-append}
use Rattle.std.proofs.Math.Seq.{take-length}
use Rattle.pj_lex.specs.declared.token.Token.{Token}
use Rattle.pj_grammar.specs.declared.mode.Parsed.{Parsed}
use Rattle.pj_grammar.specs.Frames.{State}
use Rattle.pj_grammar.specs.declared.frame.Frame.{Frame}
use Rattle.pj_grammar.specs.declared.frame.Frame.TheVariants as frames
use Rattle.pj_grammar.specs.declared.frame.Root.TheVariants as roots
use Rattle.pj_grammar.specs.Machine.{accepted, read_frames, run, start, step}
use Rattle.pj_grammar.specs.Makers.{no_entries}
use Rattle.pj_grammar.specs.Modules.{Modules}
use Rattle.pj_grammar.specs.Need.{depth, need}
use Rattle.pj_grammar.specs.Texts.{Kind, script, «package»}
use Rattle.pj_grammar.specs.Theorems.{reached}
use Rattle.pj_grammar.proofs.Determined.{run-append}
use Rattle.pj_grammar.proofs.Nesting.{need-nesting}
use Rattle.pj_reader.specs.Read.{Accepts, Before, GoesOn, IsEndless, IsFault, IsNextDeep, IsNextFault, IsNextRefused, IsRefused, IsTooDeep, Progress, deep_fault, ends_text, limit}
use Rattle.pj_reader.specs.declared.fault.ReadFault.{ReadFault}
use Rattle.pj_reader.specs.declared.fault.ReadFault.TheVariants as faults

nothing_more : (m : Modules) (o : Option State) → run m [] o ≡ o
unfolding run
nothing_more m None = refl
nothing_more m (Some s) = refl

one_more : (m : Modules) (s : State) (t : Token) → run m (t ∷ []) (Some s) ≡ step m s t
unfolding run
one_more m s t = nothing_more m (step m s t)

front : (a b : List Token) → take (length a) (a ++ b) ≡ a
front [] b = refl
front (x ∷ a) b = ap (λ r. x ∷ r) (front a b)

front_more : (a b : List Token) (t : Token) → take (suc (length a)) (a ++ t ∷ b) ≡ a ++ t ∷ []
front_more [] b t = refl
front_more (x ∷ a) b t = ap (λ r. x ∷ r) (front_more a b t)

found : (a b : List Token) (t : Token) → slice_get (a ++ t ∷ b) (length a) ≡ Some t
found [] b t = refl
found (x ∷ a) b t = found a b t

pub first_and_more : (rest : List Token) (copy first : Token) → 1 ≤ length rest → first ≡ get_or rest 0 first → copy ≡ first
    → rest ≡ copy ∷ take (length rest - 1) (drop 1 rest)
first_and_more [] copy first some is same = absurd (omega arith)
first_and_more (t ∷ ts) copy first some is same =
    let size : length (t ∷ ts) - 1 ≡ length ts = omega arith in
    rw (size, take-length ts) (ap (λ x. x ∷ ts) (sym (same ∙ is)))

module _ (m : Modules) (k : Kind) (ts more rest : List Token) (s : State) (t : Token) (e : more ≡ t ∷ rest) where
  behind : (p : Progress m k ts more s) → reached m k (p.done ++ t ∷ []) ≡ step m s t
  behind p = run-append m p.done (t ∷ []) (Some (start k)) ∙ ap (run m (t ∷ [])) p.ran ∙ one_more m s t

  whole : (p : Progress m k ts more s) → p.done ++ t ∷ rest ≡ ts
  whole p = ap (λ r. p.done ++ r) (sym e) ∙ p.split

  pub goes_on : (s' : State) → Progress m k ts more s → GoesOn m s t s' → Progress m k ts rest s'
  goes_on s' p g = record {
    done = p.done ++ t ∷ [];
    split = append_assoc p.done (t ∷ []) rest ∙ whole p;
    ran = behind p ∙ g.is;
    within = g.within;
  }

  pub count : (p : Progress m k ts more s) → length ts ≡ length p.done + suc (length rest)
  count p =
      ap length (sym (whole p)) ∙ length-append p.done (t ∷ rest)

  number : (p : Progress m k ts more s) (i : ℕ) → i ≡ length ts - 1 - length rest → i ≡ length p.done
  number p i h = omega (arith, count p)

  with_one : (p : Progress m k ts more s) → take (suc (length p.done)) ts ≡ p.done ++ t ∷ []
  with_one p = subst (λ (x : List Token). take (suc (length p.done)) x ≡ p.done ++ t ∷ []) (whole p) (front_more p.done rest t)

  before_at : (p : Progress m k ts more s) → Before m k ts (length p.done) t.start
  before_at p = record {
    token = t;
    is = subst (λ (x : List Token). slice_get x (length p.done) ≡ Some t) (whole p) (found p.done rest t);
    starts = refl;
    state = s;
    reaches = ap (reached m k) (subst (λ (x : List Token). take (length p.done) x ≡ p.done) (whole p) (front p.done (t ∷ rest))) ∙ p.ran;
    within = p.within;
  }

  refused_at : (p : Progress m k ts more s) → step m s t ≡ None → IsRefused m k ts (length p.done) t.start
  refused_at p h = record { before = before_at p; none = ap (reached m k) (with_one p) ∙ behind p ∙ h }

  deep_at : (p : Progress m k ts more s) (last : Bool) → ends_text t.what ≡ last → (s' : State) → step m s t ≡ Some s' → suc limit ≤ need s' → IsTooDeep m k ts (length p.done) t.start last
  unfolding before_at
  deep_at p last l s' h d = record {
    before = before_at p;
    behind = l;
    state = s';
    reaches = ap (reached m k) (with_one p) ∙ behind p ∙ h;
    deeper = d;
  }

  refused : (n i place : ℕ) → Progress m k ts more s → n ≡ length ts - 1 - length rest → IsNextRefused m s t n i place → IsRefused m k ts i place
  refused n i place p h r =
      subst (λ (x : ℕ). IsRefused m k ts i x) (sym r.starts) (subst (λ (x : ℕ). IsRefused m k ts x t.start) (sym (r.numbered ∙ number p n h)) (refused_at p r.is))

  deep : (n i place : ℕ) (last : Bool) → Progress m k ts more s → n ≡ length ts - 1 - length rest → IsNextDeep m s t n i place last → IsTooDeep m k ts i place last
  deep n i place last p h r =
      subst (λ (x : ℕ). IsTooDeep m k ts i x last) (sym r.starts)
      (subst (λ (x : ℕ). IsTooDeep m k ts x t.start last) (sym (r.numbered ∙ number p n h)) (deep_at p last r.behind r.next r.is r.deeper))

  pub fault : (n : ℕ) (f : ReadFault) → Progress m k ts more s → n ≡ length ts - 1 - length rest → IsNextFault m s t n f → IsFault m k ts f
  fault n (faults.Grammar i place) p h r = refused n i place p h r
  fault n (faults.Deep i place) p h r = deep n i place false p h r
  fault n (faults.Early i place) p h r = deep n i place true p h r
  fault n faults.Endless p h r = elim r [ ]
  fault n faults.NoMemory p h r = tt

pub deep_next : (m : Modules) (s : State) (t : Token) (n : ℕ) (last : Bool) (next : State) → ends_text t.what ≡ last → step m s t ≡ Some next → suc limit ≤ need next
    → IsNextFault m s t n (deep_fault last n t.start)
deep_next m s t n true next b h d = record { numbered = refl; starts = refl; behind = b; next = next; is = h; deeper = d }
deep_next m s t n false next b h d = record { numbered = refl; starts = refl; behind = b; next = next; is = h; deeper = d }

pub two_frames : (f g : Frame) (k : List Frame) → read_frames (f ∷ g ∷ k) ≡ None
two_frames (frames.Items roots.Script is) g k = refl
two_frames (frames.Items (roots.Package x uses) is) g k = refl
two_frames _ g k = refl

small_start : (k : Kind) → need (start k) ≤ limit
unfolding need depth no_entries
small_start script = search rules
small_start «package» = search rules

pub begun : (m : Modules) (k : Kind) (ts : List Token) (s : State) (rest : List Token) → s ≡ start k → rest ≡ ts → Progress m k ts rest s
begun m k ts s rest e h = record {
  done = [];
  split = h;
  ran = nothing_more m (Some (start k)) ∙ ap Some (sym e);
  within = subst (λ (x : State). need x ≤ limit) (sym e) (small_start k);
}

all_read : (m : Modules) (k : Kind) (ts : List Token) (s : State) → (p : Progress m k ts [] s) → reached m k ts ≡ Some s
all_read m k ts s p = ap (reached m k) (sym (sym (append-nil p.done) ∙ p.split)) ∙ p.ran

within_limit : (s : State) (tree : Parsed) (nesting : ℕ) → accepted (Some s) ≡ Some (tree, nesting) → need s ≤ limit → nesting ≤ limit
within_limit s tree nesting h w = omega (arith, need-nesting s.mode s.frames tree nesting h, w)

pub accepts : (m : Modules) (k : Kind) (ts : List Token) (s : State) (tree : Parsed) (nesting : ℕ) → Progress m k ts [] s → accepted (Some s) ≡ Some (tree, nesting) → Accepts m k ts tree
accepts m k ts s tree nesting p h = record {
  nesting = nesting;
  is = ap accepted (all_read m k ts s p) ∙ h;
  within = within_limit s tree nesting h p.within;
}

pub endless : (m : Modules) (k : Kind) (ts : List Token) (s : State) → Progress m k ts [] s → accepted (Some s) ≡ None → IsEndless m k ts
endless m k ts s p h = record { state = s; reaches = all_read m k ts s p; open_yet = h }
