-- Names that scopes introduce, one equation for each variant and one for one more statement.
use Rattle.std.proofs.Common.{◌≡◌, ℕ, List, [], ◌∷◌, ◌++◌, map, length, take, Option, refl, sym, ap, ◌∙◌, append_assoc}
use Rattle.std.proofs.lemmas.List.{append-nil, map-append}
use Rattle.pj_syntax.specs.declared.expression.Spot.{Spot}
use Rattle.pj_syntax.specs.declared.expression.Expr.{Expr}
use Rattle.pj_syntax.specs.declared.statement.Stmt.{Stmt}
use Rattle.pj_syntax.specs.declared.statement.Stmt.TheVariants as s
use Rattle.pj_syntax.specs.declared.statement.Payload.{Payload}
use Rattle.pj_faults.specs.declared.gather.Gathered.{Gathered}
use Rattle.pj_faults.specs.Located.{Text, Statement, block, statement_of, block_of}
use Rattle.pj_faults.specs.Introduced.{with_name, with_names, new_names, assigned, assigned_by, looped, looped_by}
use Rattle.pj_faults.specs.Faults.{at_of}
use Rattle.pj_faults.specs.Found.{grown, grown_by, new_in, new_by, looped_in, looped_stmt, gathered}
use Rattle.pj_faults.proofs.LocatedLaws as l
use Rattle.pj_faults.proofs.NamesLaws.{Behind, with_names-none, with_names-one, with_names-append, new_names-none, new_names-append, new_names-known, new_names-new, behind_one, behind_further, behind_all, take_behind}

pub statements-snoc : (b : List Stmt) (x : Stmt) → map statement_of (b ++ x ∷ []) ≡ map statement_of b ++ statement_of x ∷ []
statements-snoc [] x = refl
statements-snoc (y ∷ b) x = ap (λ t. statement_of y ∷ t) (statements-snoc b x)

assigned-snoc : (ss : List Statement) (t : Statement) → assigned (block (ss ++ t ∷ [])) ≡ assigned (block ss) ++ assigned_by t
assigned-snoc [] t = append-nil (assigned_by t)
assigned-snoc (u ∷ ss) t = ap (λ xs. assigned_by u ++ xs) (assigned-snoc ss t) ∙ sym (append_assoc (assigned_by u) (assigned (block ss)) (assigned_by t))

pub assigned-more : (b : List Stmt) (x : Stmt) → assigned (block_of (b ++ x ∷ [])) ≡ assigned (block_of b) ++ assigned_by (statement_of x)
assigned-more b x = ap (λ ss. assigned (block ss)) (statements-snoc b x) ∙ assigned-snoc (map statement_of b) (statement_of x)

looped-snoc : (names : List Text) (ss : List Statement) (t : Statement) → looped names (block (ss ++ t ∷ [])) ≡ looped names (block ss) ++ looped_by names t
looped-snoc names [] t = append-nil (looped_by names t)
looped-snoc names (u ∷ ss) t = ap (λ xs. looped_by names u ++ xs) (looped-snoc names ss t) ∙ sym (append_assoc (looped_by names u) (looped names (block ss)) (looped_by names t))

pub grown-none : (names : List Text) → grown names [] ≡ names
unfolding grown
grown-none names = with_names-none names

pub grown-snoc : (names : List Text) (b : List Stmt) (x : Stmt) → grown names (b ++ x ∷ []) ≡ grown_by (grown names b) x
unfolding grown grown_by
grown-snoc names b x = ap (with_names names) (assigned-more b x) ∙ with_names-append names (assigned (block_of b)) (assigned_by (statement_of x))

pub new_in-none : (names : List Text) → new_in names [] ≡ []
unfolding new_in
new_in-none names = new_names-none names

pub new_in-snoc : (names : List Text) (b : List Stmt) (x : Stmt) → new_in names (b ++ x ∷ []) ≡ new_in names b ++ new_by (grown names b) x
unfolding new_in new_by grown
new_in-snoc names b x = ap (new_names names) (assigned-more b x) ∙ new_names-append names (assigned (block_of b)) (assigned_by (statement_of x))

pub looped_in-none : (names : List Text) → looped_in names [] ≡ []
unfolding looped_in
looped_in-none names = refl

pub looped_in-snoc : (names : List Text) (b : List Stmt) (x : Stmt) → looped_in names (b ++ x ∷ []) ≡ looped_in names b ++ looped_stmt names x
unfolding looped_in looped_stmt
looped_in-snoc names b x = ap (λ ss. looped names (block ss)) (statements-snoc b x) ∙ looped-snoc names (map statement_of b) (statement_of x)

-- what is gathered

pub gathered-none : (g : Gathered) → gathered g [] ≡ g
unfolding gathered
gathered-none g = rw (append-nil g.places, with_names-none g.names) refl

pub gathered-append : (g : Gathered) (xs ys : List Spot) → gathered g (xs ++ ys) ≡ gathered (gathered g xs) ys
unfolding gathered
gathered-append g xs ys = rw (map-append at_of xs ys, with_names-append g.names xs ys, append_assoc g.places (map at_of xs) (map at_of ys)) refl

pub gathered-one : (g : Gathered) (x : Spot) → gathered g (x ∷ []) ≡ record { places = g.places ++ x.at ∷ []; names = with_name g.names x.text }
unfolding gathered
gathered-one g x = rw (with_names-one g.names x) refl

pub cut_while : (names : List Text) (b : List Stmt) → take (length names) (grown names b) ≡ names
unfolding grown
cut_while names b = take_behind names (with_names names (assigned (block_of b))) (behind_all names (assigned (block_of b)))

pub cut_for : (names : List Text) (x : Text) (b : List Stmt) → take (length names) (grown (with_name names x) b) ≡ names
unfolding grown
cut_for names x b =
    take_behind names (with_names (with_name names x) (assigned (block_of b)))
    (behind_further names (with_name names x) (with_names (with_name names x) (assigned (block_of b))) (behind_one names x) (behind_all (with_name names x) (assigned (block_of b))))

pub grown_by-Value : (names : List Text) (v : Expr) → grown_by names (s.Value v) ≡ names
unfolding grown_by grown
grown_by-Value names v = ap (λ t. with_names names (assigned_by t)) (l.statement_of-Value v) ∙ with_names-none names

pub new_by-Value : (names : List Text) (v : Expr) → new_by names (s.Value v) ≡ []
unfolding new_by new_in grown
new_by-Value names v = ap (λ t. new_names names (assigned_by t)) (l.statement_of-Value v) ∙ new_names-none names

pub looped_stmt-Value : (names : List Text) (v : Expr) → looped_stmt names (s.Value v) ≡ []
unfolding looped_stmt looped_in new_in grown
looped_stmt-Value names v = ap (looped_by names) (l.statement_of-Value v)

pub grown_by-Set : (names : List Text) (x : Spot) (v : Expr) → grown_by names (s.Set x v) ≡ with_name names x.text
unfolding grown_by grown
grown_by-Set names x v = ap (λ t. with_names names (assigned_by t)) (l.statement_of-Set x v) ∙ with_names-one names x

pub new_by-Set : (names : List Text) (x : Spot) (v : Expr) → new_by names (s.Set x v) ≡ new_names names (x ∷ [])
unfolding new_by new_in grown
new_by-Set names x v = ap (λ t. new_names names (assigned_by t)) (l.statement_of-Set x v)

pub looped_stmt-Set : (names : List Text) (x : Spot) (v : Expr) → looped_stmt names (s.Set x v) ≡ []
unfolding looped_stmt looped_in new_in grown
looped_stmt-Set names x v = ap (looped_by names) (l.statement_of-Set x v)

pub grown_by-SetField : (names : List Text) (a : Expr) (x : Spot) (v : Expr) → grown_by names (s.SetField a x v) ≡ names
unfolding grown_by grown
grown_by-SetField names a x v = ap (λ t. with_names names (assigned_by t)) (l.statement_of-SetField a x v) ∙ with_names-none names

pub new_by-SetField : (names : List Text) (a : Expr) (x : Spot) (v : Expr) → new_by names (s.SetField a x v) ≡ []
unfolding new_by new_in grown
new_by-SetField names a x v = ap (λ t. new_names names (assigned_by t)) (l.statement_of-SetField a x v) ∙ new_names-none names

pub looped_stmt-SetField : (names : List Text) (a : Expr) (x : Spot) (v : Expr) → looped_stmt names (s.SetField a x v) ≡ []
unfolding looped_stmt looped_in new_in grown
looped_stmt-SetField names a x v = ap (looped_by names) (l.statement_of-SetField a x v)

pub grown_by-Global : (names : List Text) (at : ℕ) (x : Spot) (v : Expr) → grown_by names (s.Global at x v) ≡ names
unfolding grown_by grown
grown_by-Global names at x v = ap (λ t. with_names names (assigned_by t)) (l.statement_of-Global at x v) ∙ with_names-none names

pub new_by-Global : (names : List Text) (at : ℕ) (x : Spot) (v : Expr) → new_by names (s.Global at x v) ≡ []
unfolding new_by new_in grown
new_by-Global names at x v = ap (λ t. new_names names (assigned_by t)) (l.statement_of-Global at x v) ∙ new_names-none names

pub looped_stmt-Global : (names : List Text) (at : ℕ) (x : Spot) (v : Expr) → looped_stmt names (s.Global at x v) ≡ []
unfolding looped_stmt looped_in new_in grown
looped_stmt-Global names at x v = ap (looped_by names) (l.statement_of-Global at x v)

pub grown_by-Return : (names : List Text) (at : ℕ) (v : Option Expr) → grown_by names (s.Return at v) ≡ names
unfolding grown_by grown
grown_by-Return names at v = ap (λ t. with_names names (assigned_by t)) (l.statement_of-Return at v) ∙ with_names-none names

pub new_by-Return : (names : List Text) (at : ℕ) (v : Option Expr) → new_by names (s.Return at v) ≡ []
unfolding new_by new_in grown
new_by-Return names at v = ap (λ t. new_names names (assigned_by t)) (l.statement_of-Return at v) ∙ new_names-none names

pub looped_stmt-Return : (names : List Text) (at : ℕ) (v : Option Expr) → looped_stmt names (s.Return at v) ≡ []
unfolding looped_stmt looped_in new_in grown
looped_stmt-Return names at v = ap (looped_by names) (l.statement_of-Return at v)

pub grown_by-Break : (names : List Text) (at : ℕ) → grown_by names (s.Break at) ≡ names
unfolding grown_by grown
grown_by-Break names at = ap (λ t. with_names names (assigned_by t)) (l.statement_of-Break at) ∙ with_names-none names

pub new_by-Break : (names : List Text) (at : ℕ) → new_by names (s.Break at) ≡ []
unfolding new_by new_in grown
new_by-Break names at = ap (λ t. new_names names (assigned_by t)) (l.statement_of-Break at) ∙ new_names-none names

pub looped_stmt-Break : (names : List Text) (at : ℕ) → looped_stmt names (s.Break at) ≡ []
unfolding looped_stmt looped_in new_in grown
looped_stmt-Break names at = ap (looped_by names) (l.statement_of-Break at)

pub grown_by-Continue : (names : List Text) (at : ℕ) → grown_by names (s.Continue at) ≡ names
unfolding grown_by grown
grown_by-Continue names at = ap (λ t. with_names names (assigned_by t)) (l.statement_of-Continue at) ∙ with_names-none names

pub new_by-Continue : (names : List Text) (at : ℕ) → new_by names (s.Continue at) ≡ []
unfolding new_by new_in grown
new_by-Continue names at = ap (λ t. new_names names (assigned_by t)) (l.statement_of-Continue at) ∙ new_names-none names

pub looped_stmt-Continue : (names : List Text) (at : ℕ) → looped_stmt names (s.Continue at) ≡ []
unfolding looped_stmt looped_in new_in grown
looped_stmt-Continue names at = ap (looped_by names) (l.statement_of-Continue at)

pub grown_by-If : (names : List Text) (c : Expr) (a : List Stmt) (b : List Stmt) → grown_by names (s.If c a b) ≡ grown (grown names a) b
unfolding grown_by grown
grown_by-If names c a b = ap (λ t. with_names names (assigned_by t)) (l.statement_of-If c a b) ∙ with_names-append names (assigned (block_of a)) (assigned (block_of b))

pub new_by-If : (names : List Text) (c : Expr) (a : List Stmt) (b : List Stmt) → new_by names (s.If c a b) ≡ new_in names a ++ new_in (grown names a) b
unfolding new_by new_in grown
new_by-If names c a b = ap (λ t. new_names names (assigned_by t)) (l.statement_of-If c a b) ∙ new_names-append names (assigned (block_of a)) (assigned (block_of b))

pub looped_stmt-If : (names : List Text) (c : Expr) (a : List Stmt) (b : List Stmt) → looped_stmt names (s.If c a b) ≡ looped_in names a ++ looped_in names b
unfolding looped_stmt looped_in new_in grown
looped_stmt-If names c a b = ap (looped_by names) (l.statement_of-If c a b)

pub grown_by-While : (names : List Text) (c : Expr) (b : List Stmt) → grown_by names (s.While c b) ≡ names
unfolding grown_by grown
grown_by-While names c b = ap (λ t. with_names names (assigned_by t)) (l.statement_of-While c b) ∙ with_names-none names

pub new_by-While : (names : List Text) (c : Expr) (b : List Stmt) → new_by names (s.While c b) ≡ []
unfolding new_by new_in grown
new_by-While names c b = ap (λ t. new_names names (assigned_by t)) (l.statement_of-While c b) ∙ new_names-none names

pub looped_stmt-While : (names : List Text) (c : Expr) (b : List Stmt) → looped_stmt names (s.While c b) ≡ new_in names b ++ looped_in (grown names b) b
unfolding looped_stmt looped_in new_in grown
looped_stmt-While names c b = ap (looped_by names) (l.statement_of-While c b)

pub grown_by-For : (names : List Text) (x : Spot) (v : Expr) (w : Expr) (b : List Stmt) → grown_by names (s.For x v w b) ≡ names
unfolding grown_by grown
grown_by-For names x v w b = ap (λ t. with_names names (assigned_by t)) (l.statement_of-For x v w b) ∙ with_names-none names

pub new_by-For : (names : List Text) (x : Spot) (v : Expr) (w : Expr) (b : List Stmt) → new_by names (s.For x v w b) ≡ []
unfolding new_by new_in grown
new_by-For names x v w b = ap (λ t. new_names names (assigned_by t)) (l.statement_of-For x v w b) ∙ new_names-none names

pub looped_stmt-For : (names : List Text) (x : Spot) (v : Expr) (w : Expr) (b : List Stmt) → looped_stmt names (s.For x v w b) ≡ (x ∷ []) ++ (new_in (with_name names x.text) b ++ looped_in (grown (with_name names x.text) b) b)
unfolding looped_stmt looped_in new_in grown
looped_stmt-For names x v w b = ap (looped_by names) (l.statement_of-For x v w b)

pub grown_by-Eval : (names : List Text) (m : Option Spot) (q : Payload) → grown_by names (s.Eval m q) ≡ names
unfolding grown_by grown
grown_by-Eval names m q = ap (λ t. with_names names (assigned_by t)) (l.statement_of-Eval m q) ∙ with_names-none names

pub new_by-Eval : (names : List Text) (m : Option Spot) (q : Payload) → new_by names (s.Eval m q) ≡ []
unfolding new_by new_in grown
new_by-Eval names m q = ap (λ t. new_names names (assigned_by t)) (l.statement_of-Eval m q) ∙ new_names-none names

pub looped_stmt-Eval : (names : List Text) (m : Option Spot) (q : Payload) → looped_stmt names (s.Eval m q) ≡ []
unfolding looped_stmt looped_in new_in grown
looped_stmt-Eval names m q = ap (looped_by names) (l.statement_of-Eval m q)

pub gathered-For : (g : Gathered) (names : List Text) (x : Spot) (v : Expr) (w : Expr) (b : List Stmt) → gathered g (looped_stmt names (s.For x v w b)) ≡
    gathered (gathered (gathered g (x ∷ [])) (new_in (with_name names x.text) b)) (looped_in (grown (with_name names x.text) b) b)
gathered-For g names x v w b =
    let own = new_in (with_name names x.text) b in
    let inner = looped_in (grown (with_name names x.text) b) b in
    ap (gathered g) (looped_stmt-For names x v w b)
    ∙ gathered-append g (x ∷ []) (own ++ inner)
    ∙ gathered-append (gathered g (x ∷ [])) own inner

pub ruleset enter_rules = (grown-none, grown-snoc, grown_by-Value, grown_by-Set, grown_by-SetField, grown_by-Global, grown_by-Return, grown_by-Break, grown_by-Continue, grown_by-If, grown_by-While, grown_by-For, grown_by-Eval)

pub ruleset gather_rules = (enter_rules, new_in-none, new_in-snoc, looped_in-none, looped_in-snoc, gathered-none, gathered-append, gathered-one, new_names-known, new_names-new, cut_while, cut_for, new_by-Value, looped_stmt-Value, new_by-Set, looped_stmt-Set, new_by-SetField, looped_stmt-SetField, new_by-Global, looped_stmt-Global, new_by-Return, looped_stmt-Return, new_by-Break, looped_stmt-Break, new_by-Continue, looped_stmt-Continue, new_by-If, looped_stmt-If, new_by-While, looped_stmt-While, new_by-For, new_by-Eval, looped_stmt-Eval, gathered-For)
