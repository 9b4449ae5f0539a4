-- All trees of a package's functions are plain and have spellings, and its methods have them as bodies.
use Rattle.std.proofs.Common.{◌≡◌, ℕ, zero, suc, ◌≤◌, ◌+◌, ◌==◌, Bool, true, false, not, nat_le, ◌||◌, List, [], ◌∷◌, ◌++◌, map, length, Some, option_and_then, refl, sym, ap, subst, ◌∙◌, append_assoc, length-append, slice_get, arith}
use Rattle.std.specs.List.{list_all, zip, AllByRecursion}
use Rattle.std.specs.Str.{bytes_eq}
use Rattle.std.proofs.lemmas.Bool.Decides.{nat_tests}
use Rattle.std.proofs.lemmas.List.{length-map}
use Rattle.std.proofs.lemmas.Slice.Eq.{bytes_eq-Decides}
use Rattle.pj_base.specs.Interned.{has_text}
use Rattle.pj_words.specs.Words.{is_identifier}
use Rattle.pj_meaning.specs.Tree.{Text}
use Rattle.pj_tree.specs.Reads.{text_of_sym, texts_of, expr_of}
use Rattle.pj_tree.specs.Fits.{SymFits, ExprFits, StmtFits, TreeFitsBelow, TreeFits}
use Rattle.pj_tree.specs.declared.tree.Sym.{Sym}
use Rattle.pj_tree.specs.declared.tree.Sym.TheVariants as s
use Rattle.pj_tree.specs.declared.tree.Expr.{Expr}
use Rattle.pj_tree.specs.declared.tree.Stmt.TheVariants as stmt
use Rattle.pj_tree.specs.declared.tree.Body.{roll-Body}
use Rattle.pj_tree.specs.declared.tree.TreeNode.{TreeNode}
use Rattle.pj_tree.specs.declared.tree.TreeNode.TheVariants as node
use Rattle.pj_plain.specs.Plain as held
use Rattle.pj_plain.specs.Names.{all_different}
use Rattle.pj_plain.proofs.Bools.{both_true}
use Rattle.pj_image.specs.declared.image.Image.{Image}
use Rattle.pj_image.specs.Names.{sym_number, all_seen}
use Rattle.pj_image.specs.Pieces.{takes, method_fine}
use Rattle.pj_image.specs.Mentions.{count_from}
use Rattle.pj_image.specs.PlainTrees.{plain_expr, is_plain}
use Rattle.pj_content.specs.Content.{strings_in}
use Rattle.pj_session.specs.Good.{Good, GoodEvents}
use Rattle.pj_session.specs.declared.own.Definition.{Definition}
use Rattle.pj_session.specs.declared.own.Own.{Own}
use Rattle.pj_session.specs.declared.own.Own.TheVariants as own
use Rattle.pj_build.specs.Own.{Named, parts_of, own_event, own_events, counts_in}
use Rattle.pj_build.specs.Built.{Declares}
use Rattle.pj_build.specs.Numbered.{is_number, all_true}
use Rattle.pj_build.specs.Read.{FunctionRead, ThingRead}
use Rattle.pj_build.specs.Sections.{body_tree, KeptBody, TreesOf}
use Rattle.pj_build.specs.Wiring.{all_methods}
use Rattle.pj_build.proofs.Declared.{begins_all, things_zip}
use Rattle.pj_build.proofs.Contents.{things_of}
use Rattle.pj_build.proofs.Growing.{both}
use Rattle.pj_build.proofs.Naming.{Fresh, Apart, not_true, none_fresh, all_there, got_there, has_bytes, no_identifier}
use Rattle.pj_build.proofs.TreeFacts.{expr_good}

-- ---- parameters

either_false : (a b : Bool) → (a || b) ≡ false → (a ≡ false) × (b ≡ false)
either_false true b h = absurd cc
either_false false b h = (refl, h)

not_false : (b : Bool) → not b ≡ true → b ≡ false
not_false true h = absurd cc
not_false false h = refl

fresh_from : (t : Text) (us : List Text) → has_text t us ≡ false → Fresh t us
fresh_from t [] h = tt
fresh_from t (u ∷ us) h =
    let two = either_false (bytes_eq t u) (has_text t us) h in
    let differ = two.0 in
    (λ same. let equal = (bytes_eq-Decides t u).1 same in absurd cc, fresh_from t us two.1)

apart_from : (ts : List Text) → all_different ts ≡ true → Apart ts
apart_from [] h = tt
apart_from (t ∷ ts) h =
    let two = both_true (not (has_text t ts)) (all_different ts) h in
    (fresh_from t ts (not_false (has_text t ts) two.0), apart_from ts two.1)

none_empty : (ts : List Text) → list_all is_identifier ts ≡ true → has_text [] ts ≡ false
none_empty [] h = refl
none_empty (t ∷ ts) h =
    let two = both_true (is_identifier t) (list_all is_identifier ts) h in
    rw (not_true (bytes_eq [] t) (λ e. has_bytes is_identifier no_identifier t two.0 (sym ((bytes_eq-Decides [] t).0 e))), none_empty ts two.1) refl

record SymsThere (strings : List Text) (xs : List Sym) (ts : List Text) : Type 0 where
  pub texts : map (λ x. option_and_then (λ n. slice_get strings n) (sym_number x)) xs ≡ map Some ts
  pub fits : AllByRecursion SymFits xs

sym_there : (strings : List Text) (x : Sym) (t : Text) → is_number x ≡ true → text_of_sym (strings_in strings) x ≡ t → (t ≡ [] → ⊥) → (option_and_then (λ n. slice_get strings n) (sym_number x) ≡ Some t) × SymFits x
sym_there strings (s.Text u) t n e some = absurd cc
sym_there strings (s.Number k) t n e some = (got_there strings k t e some, grind (arith, nat_tests))

syms_there : (strings : List Text) (xs : List Sym) (ts : List Text) → all_true (map is_number xs) ≡ true → texts_of (strings_in strings) xs ≡ ts → list_all is_identifier ts ≡ true → SymsThere strings xs ts
syms_there strings [] [] n e ids = record { texts = refl; fits = tt }
syms_there strings [] (t ∷ ts) n e ids = absurd cc
syms_there strings (x ∷ xs) [] n e ids = absurd cc
syms_there strings (x ∷ xs) (t ∷ ts) n e ids =
    let first : text_of_sym (strings_in strings) x ≡ t = cc in
    let rest : texts_of (strings_in strings) xs ≡ ts = cc in
    let numbers = both_true (is_number x) (all_true (map is_number xs)) n in
    let two = both_true (is_identifier t) (list_all is_identifier ts) ids in
    let one = sym_there strings x t numbers.0 first (has_bytes is_identifier no_identifier t two.0) in
    let more = syms_there strings xs ts numbers.1 rest two.1 in
    record { texts = rw (one.0, more.texts) refl; fits = (one.1, more.fits) }

-- ---- one tree

stmt_fits : (v : Expr) → ExprFits 126 v → StmtFits 127 (stmt.Value v)
unfolding StmtFits
stmt_fits v h = rw (stmt.outs-Value v) h

tree_fits : (params : List Sym) (v : Expr) → length params ≤ 16 → AllByRecursion SymFits params → ExprFits 126 v → TreeFits (body_tree params v)
unfolding TreeFitsBelow
tree_fits params v few fits h =
    rw (node.outs-Body (roll-Body (record { params = params; introduced = []; block = stmt.Value v ∷ [] })))
    ((omega (arith, few), fits), ((omega arith, tt), (omega arith, (stmt_fits v h, tt))))

tree_plain : (strings : List Text) (params : List Sym) (v : Expr) (names : List Text) → length params ≤ 16 → all_seen is_identifier strings [] (map sym_number params) ≡ Some names → plain_expr strings names 126 v ≡ true → is_plain strings (body_tree params v) ≡ true
tree_plain strings params v names few seen h =
    let short : nat_le (length params) 16 ≡ true = grind (arith, nat_tests) in
    rw (node.outs-Body (roll-Body (record { params = params; introduced = []; block = stmt.Value v ∷ [] })), seen, stmt.outs-Value v, short) h

tree_takes : (params : List Sym) (v : Expr) (count : ℕ) → length params ≡ count → takes count (Some (body_tree params v)) ≡ true
tree_takes params v count e =
    let same : (length params == count) ≡ true = grind (arith, nat_tests) in
    rw (node.outs-Body (roll-Body (record { params = params; introduced = []; block = stmt.Value v ∷ [] }))) same

pub record TreeGood (strings : List Text) (count : ℕ) (t : TreeNode) : Type 0 where
  pub plain : is_plain strings t ≡ true
  pub fits : TreeFits t
  pub taking : takes count (Some t) ≡ true

tree_good : (strings : List Text) (d : Definition) (t : TreeNode) → KeptBody strings d t → FunctionRead d → held.plain_expr (parts_of d).0 (parts_of d).1 ≡ true → TreeGood strings (length d.params) t
tree_good strings d t k r plain =
    let all = strings_in strings in
    let names = (parts_of d).0 in
    let named : texts_of all k.params ≡ names = k.named.means all (begins_all strings) in
    let value : expr_of all k.value ≡ (parts_of d).1 = k.numbered.means all (begins_all strings) in
    let long : length k.params ≡ length d.params = sym (length-map k.params (text_of_sym all)) ∙ ap (λ (l : List Text). length l) named ∙ length-map d.params (text_of_sym (λ n. [])) in
    let few : length k.params ≤ 16 = omega (arith, long, r.few) in
    let there = syms_there strings k.params names k.named.numbers named r.identifiers in
    let seen = all_there sym_number is_identifier strings k.params names [] there.texts r.identifiers (none_fresh names) (apart_from names r.different) in
    let good = expr_good strings names (none_empty names r.identifiers) 126 k.value (record { plain = rw value plain; shallow = rw value r.shallow; numbers = k.numbered.numbers }) in
    subst (λ (u : TreeNode). TreeGood strings (length d.params) u) (sym k.is) (record {
      plain = tree_plain strings k.params k.value names few seen good.plain;
      fits = tree_fits k.params k.value few there.fits good.fits;
      taking = tree_takes k.params k.value (length d.params) long;
    })

-- ---- all trees

pub record TreesGood (strings : List Text) (before ts : List TreeNode) (next : ℕ) (counts : List ℕ) : Type 0 where
  pub plain : list_all (is_plain strings) ts ≡ true
  pub fits : AllByRecursion TreeFits ts
  pub fine : list_all (method_fine (before ++ ts)) (all_methods next (length before) counts) ≡ true

at_end : (before ts : List TreeNode) (t : TreeNode) → slice_get (before ++ t ∷ ts) (length before) ≡ Some t
at_end [] ts t = refl
at_end (u ∷ before) ts t = at_end before ts t

count_length : (next count : ℕ) → length (count_from next count) ≡ count
count_length next zero = refl
count_length next (suc count) = ap suc (count_length (next + 1) count)

one_more_before : (before : List TreeNode) (t : TreeNode) → length (before ++ t ∷ []) ≡ length before + 1
one_more_before before t = length-append before (t ∷ [])

pub trees_good : (strings : List Text) (here : Text) (before : List TreeNode) (next : ℕ) (ps : Named) (ts : List TreeNode) → TreesOf strings (things_of ps) ts → GoodEvents here (map (λ p. own_event p.0 p.1) ps) → AllByRecursion ThingRead (things_of ps)
    → TreesGood strings before ts next (counts_in (things_of ps))
trees_good strings here before next [] [] k g r = record { plain = refl; fits = tt; fine = refl }
trees_good strings here before next [] (t ∷ ts) k g r = absurd k
trees_good strings here before next ((name, own.Constant z) ∷ ps) ts k g r = trees_good strings here before next ps ts k g.1.1 r.1
trees_good strings here before next ((name, own.Function d) ∷ ps) [] k g r = absurd k
trees_good strings here before next ((name, own.Function d) ∷ ps) (t ∷ ts) k g r =
    let one = tree_good strings d t k.0 r.0 g.0.plain in
    let count = length d.params in
    let counts = counts_in (things_of ps) in
    let rest = trees_good strings here (before ++ t ∷ []) (next + 1 + count) ps ts k.1 g.1.1 r.1 in
    let short : nat_le count 16 ≡ true = (let few = r.0.few in grind (arith, nat_tests)) in
    let more : list_all (method_fine (before ++ t ∷ ts)) (all_methods (next + 1 + count) (length before + 1) counts) ≡ true =
    subst (λ (l : List TreeNode). list_all (method_fine l) (all_methods (next + 1 + count) (length before + 1) counts) ≡ true) (append_assoc before (t ∷ []) ts)
    (subst (λ (n : ℕ). list_all (method_fine ((before ++ t ∷ []) ++ ts)) (all_methods (next + 1 + count) n counts) ≡ true) (one_more_before before t) rest.fine) in
    record {
      plain = both (is_plain strings t) (list_all (is_plain strings) ts) one.plain rest.plain;
      fits = (one.fits, rest.fits);
      fine = rw (count_length (next + 1) count, at_end before ts t, short, one.taking) more;
    }

pub built_trees : (name : Text) (names : List Text) (things : List Own) (i : Image) → length names ≡ length things → Good name (own_events names things) → AllByRecursion ThingRead things → Declares name names things i → TreesGood i.strings [] i.trees 0 (counts_in things)
built_trees name names things i each good read d =
    let ps = zip names things in
    let paired = things_zip names things each in
    subst (λ (os : List Own). TreesGood i.strings [] i.trees 0 (counts_in os)) paired
    (trees_good i.strings name [] 0 ps i.trees (subst (λ (os : List Own). TreesOf i.strings os i.trees) (sym paired) d.trees.each) good.each (subst (λ (os : List Own). AllByRecursion ThingRead os) (sym paired) read))
