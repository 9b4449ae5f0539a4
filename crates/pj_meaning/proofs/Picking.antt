-- What is picked is seen and applicable, and what contents are added to stays.
use Rattle.std.proofs.Common.{◌≡◌, ℕ, ◌≤◌, Bool, true, false, cond, List, [], ◌∷◌, Option, Some, None, unwrap_or, refl, sym, ap, subst, true≢false, arith, IsTrue, filter, nat_le}
use Rattle.pj_meaning.specs.Methods.{Method, seen, is_applicable, applicable, is_least, last, Pick, One, NoneMatch, Ambiguous, chosen}
use Rattle.pj_meaning.proofs.Keeping.{none_is_not, found_before, role_before}
use Rattle.pj_meaning.specs.Laws.{what_is_picked_is_applicable, what_is_picked_is_least, nothing_is_found_where_nothing_applies, contents_keep_objects, contents_keep_bindings}

abbrev Each : (Method → Type 0) → List Method → Type 0
Each P [] = Unit {0}
Each P (m ∷ ms) = P m × Each P ms

either_each : (P : Method → Type 0) (b : Bool) (xs ys : List Method) → (b ≡ true → Each P xs) → Each P ys → Each P (cond b xs ys)
either_each P true xs ys h k = h refl
either_each P false xs ys h k = k

-- those that pass the test have what the test and the list give
filtered : (Q P : Method → Type 0) (test : Method → Bool) → ((m : Method) → test m ≡ true → Q m → P m) → (ms : List Method) → Each Q ms → Each P (filter test ms)
filtered Q P test h [] e = tt
filtered Q P test h (m ∷ ms) e =
    either_each P (test m) _ _ (λ t. (h m t e.0, filtered Q P test h ms e.1)) (filtered Q P test h ms e.1)

any_each : (ms : List Method) → Each (λ m. Unit {0}) ms
any_each [] = tt
any_each (m ∷ ms) = (tt, any_each ms)

last_each : (P : Method → Type 0) (ms : List Method) (m : Method) → Each P ms → last ms ≡ Some m → P m
last_each P [] m e h = none_is_not h
last_each P (x ∷ []) m e h = subst P (ap (λ o. unwrap_or o x) h) e.0
last_each P (x ∷ y ∷ ms) m e h = last_each P (y ∷ ms) m e.1 h

abbrev picked : Pick → Option Method
picked (One m) = Some m
picked NoneMatch = None
picked Ambiguous = None

chosen_is_last : (among : List Method) (found : Option Method) (m : Method) → picked (chosen among found) ≡ Some m → found ≡ Some m
chosen_is_last [] found m h = none_is_not h
chosen_is_last (x ∷ xs) None m h = none_is_not h
chosen_is_last (x ∷ xs) (Some least) m h = h

born_by : (m : Method) (world : ℕ) → nat_le m.birth world ≡ true → m.birth ≤ world
born_by m world h = grind arith

pub pick_law : what_is_picked_is_applicable
pick_law types methods world f args m h =
    let Seen : Method → Type 0 = λ n. n.birth ≤ world in
    let Fits : Method → Type 0 = λ n. (n.birth ≤ world) × IsTrue (is_applicable types f args n) in
    let among = applicable types methods world f args in
    let are_seen : Each Seen (seen methods world) = filtered (λ n. Unit {0}) Seen (λ n. nat_le n.birth world) (λ n t u. born_by n world t) methods (any_each methods) in
    let fit : Each Fits among = filtered Seen Fits (is_applicable types f args) (λ n t s. (s, t)) (seen methods world) are_seen in
    last_each Fits (filter (is_least types among) among) m (filtered Fits Fits (is_least types among) (λ n t g. g) among fit) (chosen_is_last among _ m (ap picked h))

pub least_law : what_is_picked_is_least
least_law types methods world f args m h =
    let among = applicable types methods world f args in
    let Least : Method → Type 0 = λ n. IsTrue (is_least types among n) in
    last_each Least (filter (is_least types among) among) m (filtered (λ n. Unit {0}) Least (is_least types among) (λ n t u. t) among (any_each among)) (chosen_is_last among _ m (ap picked h))

abbrev is_none : Pick → Bool
is_none NoneMatch = true
is_none (One m) = false
is_none Ambiguous = false

nothing_chosen : (among : List Method) (found : Option Method) → is_none (chosen among found) ≡ true → among ≡ []
nothing_chosen [] found h = refl
nothing_chosen (x ∷ xs) None h = absurd (true≢false (sym h))
nothing_chosen (x ∷ xs) (Some least) h = absurd (true≢false (sym h))

pub none_law : nothing_is_found_where_nothing_applies
none_law types methods world f args =
    let among = applicable types methods world f args in
    ((λ h. nothing_chosen among _ (ap is_none h)), (λ h. ap (λ ms. chosen ms (last (filter (is_least types ms) ms))) h))

-- contents

pub objects_law : contents_keep_objects
objects_law held s o row e = found_before _ s.objects held.content.objects row e

pub bindings_law : contents_keep_bindings
bindings_law held s home name role e = role_before _ s.bindings _ role e
