-- The whole command: what its inner call leaves and what is told at the end make up what the command promises.
use Rattle.std.proofs.Common.{◌≡◌, ℕ, ◌+◌, ◌⊎◌, inl, inr, List, [], ◌++◌, Option, Some, None, Result, Ok, Err, length, min, take, sym, ap, subst, ◌∙◌, append_assoc}
use Rattle.std.specs.Option.{IfSome}
use Rattle.std.specs.Prelude.{IfOk}
use Rattle.std.proofs.lemmas.List.{append-nil, append_cancel_left, take-append-le, take_min}
use Rattle.std.proofs.Math.Nat.{min-le_right}
use Rattle.std.proofs.Math.Seq.{take-append-add}
use Rattle.pj_meaning.specs.Tree.{Text}
use Rattle.pj_outside.specs.Stored.{Files, Keeps}
use Rattle.pj_outside.specs.Faults.{Rose}
use Rattle.pj_top.specs.Commands.{Command, IsPrecompile, IsRun}
use Rattle.pj_top.specs.Claims.{Adds, AddsFront, Ends, Runs, Begins, Reached, TellsFault, CutsFault, TellsUsage, Touches, IsPrintedFront, Leaves, Precompiles}
use Rattle.pj_top.specs.Endings.{ScriptEnds, PackageEnds, CommandEnds, no_command, run, precompile, usage_line, depot_line}
use Rattle.pj_top.specs.Stops.{Leads, Reaches, AddsSome, Builds, Finishes, TellsDepot, Concludes, Answers, IsEnding, IsRead, IsOfPackage, DepotCause}
use Rattle.pj_top.specs.declared.status.Status.{Status}
use Rattle.pj_top.specs.declared.status.Status.TheVariants as ends
use Rattle.pj_top.specs.declared.stop.Stop.{Stop}
use Rattle.pj_top.specs.declared.stop.Stop.TheVariants as stop
use Rattle.pj_top.specs.declared.stop.Ending.{Ending}
use Rattle.pj_top.proofs.Told.{one_ending, one_precompile, not_two, script_ends, package_ends}

-- ---- texts

some_injective : {A : Type 0} (x y : A) → Some x ≡ Some y → x ≡ y
some_injective x y e = cc

-- a text that stands behind another is one
one_text : (old a b : Text) (now : Option Text) → Adds old a now → Adds old b now → a ≡ b
one_text old a b now x y = append_cancel_left old a b (some_injective _ _ (sym x ∙ y))

-- a front of a text is a front of what is longer
longer_front : (p l : Text) (n : ℕ) → take n p ≡ take (min n (length p)) (p ++ l)
longer_front p l n = sym (take_min n p) ∙ sym (take-append-le (min n (length p)) p l (min-le_right n (length p)))

-- ---- the line at the end

pub depot_finished : (written now : Option Text) (line file : Text) (status : Status) → line ≡ depot_line file
    → IfSome written (λ old. Finishes old line ends.DepotFailed status now) → IfSome written (λ old. TellsDepot old file status now)
depot_finished None now line file status is told = tt
depot_finished (Some old) now line file status is told = inl (subst (λ l. Finishes old l ends.DepotFailed status now) is told)

pub depot_concluded : (written now : Option Text) (file told : Text) (came : Result Ending Stop) (status : Status) → came ≡ Err (stop.DepotFailed file) → told ≡ file
    → IfSome written (λ old. TellsDepot old told status now) → IfSome written (λ old. Concludes old came status now)
depot_concluded None now file told came status is same tells = tt
depot_concluded (Some old) now file told came status is same tells =
    subst (λ r. Concludes old r status now) (sym is) (subst (λ t. TellsDepot old t status now) same tells)

-- ---- words that are no command

module _ (words : List Text) (files : Option Files) (before now : Option Text) (status : Status) (none : Command words → ⊥)
    (told : IfSome before (λ old. Finishes old usage_line ends.Usage status now)) (which : (status ≡ ends.Usage) ⊎ (status ≡ ends.SinkFailed)) where
  said : (old : Text) → before ≡ Some old → Finishes old usage_line ends.Usage status now
  said old w = let P : Option Text → Type 0 = λ b. IfSome b (λ o. Finishes o usage_line ends.Usage status now) in subst P w told

  no_command_ends : (fs : Files) → status ≡ ends.Usage → CommandEnds fs words [] usage_line status
  no_command_ends fs e = subst (λ s. CommandEnds fs words [] usage_line s) (sym e) (no_command none)

  only_no_command : (fs : Files) (p l : Text) (s : Status) → CommandEnds fs words p l s → (p ≡ []) × (l ≡ usage_line)
  only_no_command fs p l s c = let one = one_ending fs words p l [] usage_line s ends.Usage c (no_command none) in (one.0, one.1)

  pub usage_reached : Reached words files status
  usage_reached = λ fs f nd ns nm. by_status fs which ns
    where
      by_status : (fs : Files) → (status ≡ ends.Usage) ⊎ (status ≡ ends.SinkFailed) → (status ≡ ends.SinkFailed → ⊥) → (printed line : Text) × CommandEnds fs words printed line status
      by_status fs (inl e) ns = ([], usage_line, no_command_ends fs e)
      by_status fs (inr e) ns = absurd (ns e)

  pub usage_runs : Runs words files before now status
  usage_runs = λ fs old f w nd ns nm. ended fs old ns (said old w)
    where
      ended : (fs : Files) (old : Text) → (status ≡ ends.SinkFailed → ⊥) → Finishes old usage_line ends.Usage status now → Ends words fs old now status
      ended fs old ns (inl (e, adds)) = record { printed = []; line = usage_line; added = adds; command = no_command_ends fs e }
      ended fs old ns (inr (e, front)) = absurd (ns e)

  pub usage_begins : (d0 d1 : ℕ) → Begins words files before now d0 d1 status
  usage_begins d0 d1 = record {
    memory = λ fs old p l s f w e c. never_memory which e;
    sink = λ fs old p l s f w e c. inl (front old p l s fs e (said old w) c);
    depot = λ old w e. never_depot which e;
  }
    where
      never_memory : {A : Type 0} → (status ≡ ends.Usage) ⊎ (status ≡ ends.SinkFailed) → status ≡ ends.NoMemory → A
      never_memory (inl u) e = cc
      never_memory (inr u) e = cc

      never_depot : {A : Type 0} → (status ≡ ends.Usage) ⊎ (status ≡ ends.SinkFailed) → status ≡ ends.DepotFailed → A
      never_depot (inl u) e = cc
      never_depot (inr u) e = cc

      front : (old p l : Text) (s : Status) (fs : Files) → status ≡ ends.SinkFailed → Finishes old usage_line ends.Usage status now → CommandEnds fs words p l s → AddsFront old (p ++ l) now
      front old p l s fs e (inl (u, adds)) c = cc
      front old p l s fs e (inr (u, cut)) c =
          let is = only_no_command fs p l s c in
          (cut.0, cut.1 ∙ ap (λ t. Some (old ++ take cut.0 t)) (ap (λ t. t ++ usage_line) (sym is.0) ∙ ap (λ t. p ++ t) (sym is.1)))

  told_so : (w : Option Text) → IfSome w (λ old. Finishes old usage_line ends.Usage status now)
      → ((status ≡ ends.Usage) × IfSome w (λ old. Adds old usage_line now)) ⊎ ((status ≡ ends.SinkFailed) × IfSome w (λ old. AddsFront old usage_line now))
  told_so None t = split which
    where
      split : (status ≡ ends.Usage) ⊎ (status ≡ ends.SinkFailed) → ((status ≡ ends.Usage) × Unit {0}) ⊎ ((status ≡ ends.SinkFailed) × Unit {0})
      split (inl e) = inl (e, tt)
      split (inr e) = inr (e, tt)
  told_so (Some old) t = t

  pub usage_told : TellsUsage words before now status
  usage_told = record { exactly = λ e. none; always = λ n. told_so before told }

-- ---- what an inner call came to

-- no ending has one of these statuses
not_usage : {A : Type 0} (s : Status) → IsEnding s → s ≡ ends.Usage → A
not_usage s is e = absurd (subst IsEnding e is)

not_depot : {A : Type 0} (s : Status) → IsEnding s → s ≡ ends.DepotFailed → A
not_depot s is e = absurd (subst IsEnding e is)

not_sink : {A : Type 0} (s : Status) → IsEnding s → s ≡ ends.SinkFailed → A
not_sink s is e = absurd (subst IsEnding e is)

not_memory : {A : Type 0} (s : Status) → IsEnding s → s ≡ ends.NoMemory → A
not_memory s is e = absurd (subst IsEnding e is)

-- what a call came to that wasn't stopped is an ending's status
abbrev pub EndsWell : Result Ending Stop → Type 0
EndsWell r = IfOk r (λ e. IsEnding e.status)

-- what is told at the end stands behind what the call put
behind : (old text : Text) (mid now : Option Text) (r : Result Ending Stop) (status : Status) → Adds old text mid → IfSome mid (λ o. Concludes o r status now) → Concludes (old ++ text) r status now
behind old text mid now r status adds concluded = let P : Option Text → Type 0 = λ b. IfSome b (λ x. Concludes x r status now) in subst P adds concluded

-- Words that are a command, which an inner call does over each depot's files.
module _ (words : List Text) (E : Files → Text → Text → Status → Type 0)
    (to : (fs : Files) (p l : Text) (s : Status) → E fs p l s → CommandEnds fs words p l s)
    (from : (fs : Files) (p l : Text) (s : Status) → CommandEnds fs words p l s → E fs p l s) where
  abbrev Leading : Option Files → Option Text → Result Ending Stop → Option Text → Type 0
  Leading files before r mid = IfSome files (λ fs. IfSome before (λ old. Leads (E fs) old r mid))

  left_by : (files : Option Files) (before mid : Option Text) (r : Result Ending Stop) (fs : Files) (old : Text) → files ≡ Some fs → before ≡ Some old
      → Leading files before r mid → Leads (E fs) old r mid
  left_by files before mid r fs old f w told =
      let P : Option Files → Type 0 = λ o. IfSome o (λ g. IfSome before (λ x. Leads (E g) x r mid)) in
      let Q : Option Text → Type 0 = λ b. IfSome b (λ x. Leads (E fs) x r mid) in
      subst Q w (subst P f told)

  -- ---- the status

  reached_by : (fs : Files) (r : Result Ending Stop) (status : Status) → Reaches (E fs) r → Answers r status
      → (status ≡ ends.DepotFailed → ⊥) → (status ≡ ends.SinkFailed → ⊥) → (status ≡ ends.NoMemory → ⊥) → (printed line : Text) × CommandEnds fs words printed line status
  reached_by fs (Ok e) status (printed, is) (inl a) nd ns nm = (printed, e.line, subst (λ s. CommandEnds fs words printed e.line s) (sym a) (to fs printed e.line e.status is))
  reached_by fs (Ok e) status (printed, is) (inr a) nd ns nm = absurd (ns a)
  reached_by fs (Err stop.SinkFailed) status is a nd ns nm = absurd (ns a)
  reached_by fs (Err (stop.DepotFailed file)) status is (inl a) nd ns nm = absurd (nd a)
  reached_by fs (Err (stop.DepotFailed file)) status is (inr (inl a)) nd ns nm = absurd (ns a)
  reached_by fs (Err (stop.DepotFailed file)) status is (inr (inr a)) nd ns nm = absurd (nm a)
  reached_by fs (Err stop.NoMemory) status is a nd ns nm = absurd (nm a)

  pub command_reached : (files : Option Files) (r : Result Ending Stop) (status : Status) → IfSome files (λ fs. Reaches (E fs) r) → Answers r status → Reached words files status
  command_reached files r status reaches answers = λ fs f nd ns nm.
      let P : Option Files → Type 0 = λ o. IfSome o (λ g. Reaches (E g) r) in
      reached_by fs r status (subst P f reaches) answers nd ns nm

  -- ---- where nothing failed

  ends_by : (fs : Files) (old : Text) (mid now : Option Text) (r : Result Ending Stop) (status : Status) → Leads (E fs) old r mid → IfSome mid (λ o. Concludes o r status now)
      → (status ≡ ends.DepotFailed → ⊥) → (status ≡ ends.SinkFailed → ⊥) → (status ≡ ends.NoMemory → ⊥) → Ends words fs old now status
  ends_by fs old mid now (Ok e) status (printed, adds, is) concluded nd ns nm = by_case (behind old printed mid now (Ok e) status adds concluded)
    where
      by_case : Finishes (old ++ printed) e.line e.status status now → Ends words fs old now status
      by_case (inl (a, put)) = record {
        printed = printed;
        line = e.line;
        added = put ∙ ap Some (append_assoc old printed e.line);
        command = subst (λ s. CommandEnds fs words printed e.line s) (sym a) (to fs printed e.line e.status is);
      }
      by_case (inr (a, put)) = absurd (ns a)
  ends_by fs old mid now (Err stop.SinkFailed) status (text, adds, front) concluded nd ns nm = absurd (ns (behind old text mid now (Err stop.SinkFailed) status adds concluded).0)
  ends_by fs old mid now (Err (stop.DepotFailed file)) status (text, adds, front) concluded nd ns nm = by_case (behind old text mid now (Err (stop.DepotFailed file)) status adds concluded)
    where
      by_case : TellsDepot (old ++ text) file status now → Ends words fs old now status
      by_case (inl (inl (a, put))) = absurd (nd a)
      by_case (inl (inr (a, put))) = absurd (ns a)
      by_case (inr (a, put)) = absurd (nm a)
  ends_by fs old mid now (Err stop.NoMemory) status (text, adds, front) concluded nd ns nm = absurd (nm (behind old text mid now (Err stop.NoMemory) status adds concluded).0)

  pub command_runs : (files : Option Files) (before mid now : Option Text) (r : Result Ending Stop) (status : Status) → Leading files before r mid
      → IfSome mid (λ o. Concludes o r status now) → Runs words files before now status
  command_runs files before mid now r status told concluded = λ fs old f w nd ns nm.
      ends_by fs old mid now r status (left_by files before mid r fs old f w told) concluded nd ns nm

  -- ---- where something failed

  -- after want of memory
  memory_front : (fs : Files) (old p l : Text) (s : Status) (mid now : Option Text) (r : Result Ending Stop) (status : Status) → EndsWell r → Leads (E fs) old r mid
      → IfSome mid (λ o. Concludes o r status now) → status ≡ ends.NoMemory → CommandEnds fs words p l s → AddsFront old p now
  memory_front fs old p l s mid now (Ok e) status well (printed, adds, is) concluded m c = by_case (behind old printed mid now (Ok e) status adds concluded)
    where
      by_case : Finishes (old ++ printed) e.line e.status status now → AddsFront old p now
      by_case (inl (a, put)) = not_memory e.status well (sym a ∙ m)
      by_case (inr (a, put)) = cc
  memory_front fs old p l s mid now (Err stop.SinkFailed) status well (text, adds, front) concluded m c = by_case (behind old text mid now (Err stop.SinkFailed) status adds concluded)
    where
      by_case : (status ≡ ends.SinkFailed) × Adds (old ++ text) [] now → AddsFront old p now
      by_case (a, put) = cc
  memory_front fs old p l s mid now (Err (stop.DepotFailed file)) status well (text, adds, front) concluded m c =
      by_case (front p l s (from fs p l s c)) (behind old text mid now (Err (stop.DepotFailed file)) status adds concluded)
    where
      by_case : (n : ℕ) × (text ≡ take n p) → TellsDepot (old ++ text) file status now → AddsFront old p now
      by_case n (inl (inl (a, put))) = cc
      by_case n (inl (inr (a, put))) = cc
      by_case n (inr (a, put)) = (n.0, put ∙ ap Some (append-nil (old ++ text) ∙ ap (λ t. old ++ t) n.1))
  memory_front fs old p l s mid now (Err stop.NoMemory) status well (text, adds, front) concluded m c =
      by_case (front p l s (from fs p l s c)) (behind old text mid now (Err stop.NoMemory) status adds concluded)
    where
      by_case : (n : ℕ) × (text ≡ take n p) → (status ≡ ends.NoMemory) × Adds (old ++ text) [] now → AddsFront old p now
      by_case n (a, put) = (n.0, put ∙ ap Some (append-nil (old ++ text) ∙ ap (λ t. old ++ t) n.1))

  -- the front that was put is one whatever the files are that are told
  printed_front : (files : Option Files) (before mid : Option Text) (old text : Text) (why : Stop) → before ≡ Some old → Leading files before (Err why) mid
      → Adds old text mid → IsPrintedFront words files text
  printed_front files before mid old text why w told adds = λ fs printed line end f c.
      let lead = left_by files before mid (Err why) fs old f w told in
      let n = lead.2 printed line end (from fs printed line end c) in
      (n.0, one_text old text lead.0 mid adds lead.1 ∙ n.1)

  -- after a fault of the sink
  sink_front : (Is : Text → Type 0) → ((file : Text) → Is file → Touches words file) → (files : Option Files) (before : Option Text) (fs : Files) (old p l : Text) (s : Status)
      (mid now : Option Text) (r : Result Ending Stop) (status : Status) (d0 d1 : ℕ) → files ≡ Some fs → before ≡ Some old → EndsWell r → Leading files before r mid
      → IfSome mid (λ o. Concludes o r status now) → DepotCause Is d0 d1 r → status ≡ ends.SinkFailed → CommandEnds fs words p l s
      → AddsFront old (p ++ l) now ⊎ (Rose d0 d1 × CutsFault words files old now)
  sink_front Is touches files before fs old p l s mid now (Ok e) status d0 d1 f w well told concluded cause m c =
      let lead = left_by files before mid (Ok e) fs old f w told in
      by_case lead.0 (one_ending fs words lead.0 e.line p l e.status s (to fs lead.0 e.line e.status lead.2) c) (behind old lead.0 mid now (Ok e) status lead.1 concluded)
    where
      by_case : (q : Text) → (q ≡ p) × (e.line ≡ l) × (e.status ≡ s) → Finishes (old ++ q) e.line e.status status now → AddsFront old (p ++ l) now ⊎ (Rose d0 d1 × CutsFault words files old now)
      by_case q one (inl (a, put)) = not_sink e.status well (sym a ∙ m)
      by_case q one (inr (a, put)) = inl (
        length q + put.0,
        put.1
            ∙ ap Some
            (append_assoc old q (take put.0 e.line)
            ∙ ap (λ x. old ++ x)
            (sym (take-append-add q e.line put.0)
            ∙ ap (λ x. take (length q + put.0) (x ++ e.line)) one.0
            ∙ ap (λ x. take (length q + put.0) (p ++ x)) one.1)),
      )
  sink_front Is touches files before fs old p l s mid now (Err stop.SinkFailed) status d0 d1 f w well told concluded cause m c =
      let lead = left_by files before mid (Err stop.SinkFailed) fs old f w told in
      by_case lead.0 (lead.2 p l s (from fs p l s c)) (behind old lead.0 mid now (Err stop.SinkFailed) status lead.1 concluded)
    where
      by_case : (text : Text) → (n : ℕ) × (text ≡ take n p) → (status ≡ ends.SinkFailed) × Adds (old ++ text) [] now → AddsFront old (p ++ l) now ⊎ (Rose d0 d1 × CutsFault words files old now)
      by_case text n (a, put) = inl (min n.0 (length p), put ∙ ap Some (append-nil (old ++ text) ∙ ap (λ t. old ++ t) (n.1 ∙ longer_front p l n.0)))
  sink_front Is touches files before fs old p l s mid now (Err (stop.DepotFailed file)) status d0 d1 f w well told concluded cause m c =
      let lead = left_by files before mid (Err (stop.DepotFailed file)) fs old f w told in
      by_case lead.0 (printed_front files before mid old lead.0 (stop.DepotFailed file) w told lead.1) (behind old lead.0 mid now (Err (stop.DepotFailed file)) status lead.1 concluded)
    where
      by_case : (text : Text) → IsPrintedFront words files text → TellsDepot (old ++ text) file status now → AddsFront old (p ++ l) now ⊎ (Rose d0 d1 × CutsFault words files old now)
      by_case text front (inl (inl (a, put))) = cc
      by_case text front (inl (inr (a, put))) = inr (
        cause.failed.0,
        record {
          file = file;
          text = text;
          touched = touches file cause.failed.1;
          front = front;
          added = (
            length text + put.0,
            put.1 ∙ ap Some (append_assoc old text (take put.0 (depot_line file)) ∙ ap (λ x. old ++ x) (sym (take-append-add text (depot_line file) put.0))),
          );
        },
      )
      by_case text front (inr (a, put)) = cc
  sink_front Is touches files before fs old p l s mid now (Err stop.NoMemory) status d0 d1 f w well told concluded cause m c =
      let lead = left_by files before mid (Err stop.NoMemory) fs old f w told in
      by_case lead.0 (behind old lead.0 mid now (Err stop.NoMemory) status lead.1 concluded)
    where
      by_case : (text : Text) → (status ≡ ends.NoMemory) × Adds (old ++ text) [] now → AddsFront old (p ++ l) now ⊎ (Rose d0 d1 × CutsFault words files old now)
      by_case text (a, put) = cc

  -- after a fault of the depot
  depot_told : (Is : Text → Type 0) → ((file : Text) → Is file → Touches words file) → (files : Option Files) (before : Option Text) (old : Text) (mid now : Option Text)
      (r : Result Ending Stop) (status : Status) (d0 d1 : ℕ) → before ≡ Some old → EndsWell r → Leading files before r mid → AddsSome old mid
      → IfSome mid (λ o. Concludes o r status now) → Answers r status → DepotCause Is d0 d1 r → status ≡ ends.DepotFailed → TellsFault words files old now
  depot_told Is touches files before old mid now (Ok e) status d0 d1 w well told some concluded (inl a) cause m = not_depot e.status well (sym a ∙ m)
  depot_told Is touches files before old mid now (Ok e) status d0 d1 w well told some concluded (inr a) cause m = cc
  depot_told Is touches files before old mid now (Err stop.SinkFailed) status d0 d1 w well told some concluded a cause m = cc
  depot_told Is touches files before old mid now (Err (stop.DepotFailed file)) status d0 d1 w well told some concluded answers cause m =
      by_case (printed_front files before mid old some.0 (stop.DepotFailed file) w told some.1) (behind old some.0 mid now (Err (stop.DepotFailed file)) status some.1 concluded)
    where
      by_case : IsPrintedFront words files some.0 → TellsDepot (old ++ some.0) file status now → TellsFault words files old now
      by_case front (inl (inl (a, put))) = record {
        file = file;
        text = some.0;
        touched = touches file cause.failed.1;
        front = front;
        added = put ∙ ap Some (append_assoc old some.0 (depot_line file));
      }
      by_case front (inl (inr (a, put))) = cc
      by_case front (inr (a, put)) = cc
  depot_told Is touches files before old mid now (Err stop.NoMemory) status d0 d1 w well told some concluded a cause m = cc

  some_by : (before mid : Option Text) (old : Text) → before ≡ Some old → IfSome before (λ o. AddsSome o mid) → AddsSome old mid
  some_by before mid old w untold = let P : Option Text → Type 0 = λ b. IfSome b (λ o. AddsSome o mid) in subst P w untold

  pub command_begins : (Is : Text → Type 0) → ((file : Text) → Is file → Touches words file) → (files : Option Files) (before mid now : Option Text)
      (r : Result Ending Stop) (status : Status) (d0 d1 : ℕ) → EndsWell r → Leading files before r mid → IfSome before (λ o. AddsSome o mid)
      → IfSome mid (λ o. Concludes o r status now) → Answers r status → DepotCause Is d0 d1 r → Begins words files before now d0 d1 status
  command_begins Is touches files before mid now r status d0 d1 well told untold concluded answers cause = record {
    memory = λ fs old p l s f w m c. memory_front fs old p l s mid now r status well (left_by files before mid r fs old f w told) concluded m c;
    sink = λ fs old p l s f w m c. sink_front Is touches files before fs old p l s mid now r status d0 d1 f w well told concluded cause m c;
    depot = λ old w m. depot_told Is touches files before old mid now r status d0 d1 w well told (some_by before mid old w untold) concluded answers cause m;
  }

-- ---- words and files

never_usage : (r : Result Ending Stop) (status : Status) → EndsWell r → Answers r status → status ≡ ends.Usage → ⊥
never_usage (Ok e) status well (inl a) m = not_usage e.status well (sym a ∙ m)
never_usage (Ok e) status well (inr a) m = cc
never_usage (Err stop.SinkFailed) status well a m = cc
never_usage (Err (stop.DepotFailed file)) status well (inl a) m = cc
never_usage (Err (stop.DepotFailed file)) status well (inr (inl a)) m = cc
never_usage (Err (stop.DepotFailed file)) status well (inr (inr a)) m = cc
never_usage (Err stop.NoMemory) status well a m = cc

pub command_usage : (words : List Text) (before now : Option Text) (r : Result Ending Stop) (status : Status) → Command words → EndsWell r → Answers r status → TellsUsage words before now status
command_usage words before now r status command well answers =
    record { exactly = λ e. absurd (never_usage r status well answers e); always = λ none. absurd (none command) }

pub run_leaves : (words : List Text) (files now : Option Files) (status : Status) (steps : ℕ) (script : Text) → IsRun words steps script → IfSome files (λ fs. Keeps fs now)
    → IfSome files (λ fs. Leaves words fs now status)
run_leaves words None now status steps script is same = tt
run_leaves words (Some fs) now status steps script is same =
    record { builds = λ steps' name other. absurd (not_two words steps steps' script name is other); others = λ none. same }

precompiles : (files : Files) (name : Text) (steps : ℕ) (now : Option Files) (r : Result Ending Stop) (status : Status) → Builds files name steps r now → Answers r status
    → Precompiles files name steps now status
precompiles files name steps now (Ok e) status (rest, (written, kept)) (inl a) =
    record { rest = rest; written = λ ok. written (sym a ∙ ok); kept = λ no nd ns nm. kept (λ ok. no (a ∙ ok)) }
precompiles files name steps now (Ok e) status (rest, (written, kept)) (inr a) =
    record { rest = rest; written = λ ok. cc; kept = λ no nd ns nm. absurd (ns a) }
precompiles files name steps now (Err stop.SinkFailed) status rest a =
    record { rest = rest; written = λ ok. cc; kept = λ no nd ns nm. absurd (ns a) }
precompiles files name steps now (Err (stop.DepotFailed file)) status rest (inl a) =
    record { rest = rest; written = λ ok. cc; kept = λ no nd ns nm. absurd (nd a) }
precompiles files name steps now (Err (stop.DepotFailed file)) status rest (inr (inl a)) =
    record { rest = rest; written = λ ok. cc; kept = λ no nd ns nm. absurd (ns a) }
precompiles files name steps now (Err (stop.DepotFailed file)) status rest (inr (inr a)) =
    record { rest = rest; written = λ ok. cc; kept = λ no nd ns nm. absurd (nm a) }
precompiles files name steps now (Err stop.NoMemory) status rest a =
    record { rest = rest; written = λ ok. cc; kept = λ no nd ns nm. absurd (nm a) }

pub precompile_leaves : (words : List Text) (files now : Option Files) (r : Result Ending Stop) (status : Status) (steps : ℕ) (name : Text) → IsPrecompile words steps name
    → IfSome files (λ fs. Builds fs name steps r now) → Answers r status → IfSome files (λ fs. Leaves words fs now status)
precompile_leaves words None now r status steps name is builds answers = tt
precompile_leaves words (Some fs) now r status steps name is builds answers = record {
  builds = λ steps' name' other.
      let same = one_precompile words steps steps' name name' is other in
      subst (λ n. Precompiles fs n steps' now status) same.1 (subst (λ k. Precompiles fs name k now status) same.0 (precompiles fs name steps now r status builds answers));
  others = λ none. absurd (none steps name is);
}

-- ---- the two commands

-- a run reads its script, and images of packages
pub run_touches : (words : List Text) (steps : ℕ) (script : Text) → IsRun words steps script → (file : Text) → IsRead script file → Touches words file
run_touches words steps script is file (inl e) = subst (Touches words) (sym e) (Touches.reads_script steps script is)
run_touches words steps script is file (inr (name, e)) = subst (Touches words) (sym e) (Touches.reads_image steps script name is)

-- a building reads the package's text and writes its image
pub precompile_touches : (words : List Text) (steps : ℕ) (name : Text) → IsPrecompile words steps name → (file : Text) → IsOfPackage name file → Touches words file
precompile_touches words steps name is file (inl e) = subst (Touches words) (sym e) (Touches.reads_text steps name is)
precompile_touches words steps name is file (inr e) = subst (Touches words) (sym e) (Touches.writes_image steps name is)

abbrev pub of_run : Text → ℕ → Files → Text → Text → Status → Type 0
of_run script steps files = ScriptEnds files script steps

abbrev pub of_precompile : Text → ℕ → Files → Text → Text → Status → Type 0
of_precompile name steps files = PackageEnds files name steps

pub run_to : (words : List Text) (steps : ℕ) (script : Text) → IsRun words steps script → (fs : Files) (p l : Text) (s : Status) → of_run script steps fs p l s → CommandEnds fs words p l s
run_to words steps script is fs p l s e = run steps script p l s is e

pub run_from : (words : List Text) (steps : ℕ) (script : Text) → IsRun words steps script → (fs : Files) (p l : Text) (s : Status) → CommandEnds fs words p l s → of_run script steps fs p l s
run_from words steps script is fs p l s c = script_ends fs words steps script p l s is c

pub precompile_to : (words : List Text) (steps : ℕ) (name : Text) → IsPrecompile words steps name → (fs : Files) (p l : Text) (s : Status) → of_precompile name steps fs p l s
    → CommandEnds fs words p l s
precompile_to words steps name is fs p l s e = precompile steps name p l s is e

pub precompile_from : (words : List Text) (steps : ℕ) (name : Text) → IsPrecompile words steps name → (fs : Files) (p l : Text) (s : Status) → CommandEnds fs words p l s
    → of_precompile name steps fs p l s
precompile_from words steps name is fs p l s c = package_ends fs words steps name p l s is c
