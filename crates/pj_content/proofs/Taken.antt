-- Which functions have a method, by marks.
use Rattle.std.proofs.Common.{◌≡◌, ◌≤◌, ◌<◌, ℕ, ◌+◌, ◌==◌, ◌||◌, Bool, true, false, cond, List, [], ◌∷◌, ◌++◌, length, drop, replicate, set, get_or, ◌≢◌, length-set, add-one, drop_of_length-le, Option, Some, None, refl, sym, subst, ◌∙◌, arith, drop-cons, get_or-set_same, get_or-set_other}
use Rattle.std.specs.Prelude.{is_some}
use Rattle.std.specs.List.{list_any}
use Rattle.std.proofs.lemmas.Bool.{eq-eqb}
use Rattle.std.proofs.lemmas.List.{length-replicate, get_or-replicate}
use Rattle.std.proofs.lemmas.Bool.Decides.{nat_tests}
use Rattle.std.proofs.lemmas.List.Folds.{list_any-append}
use Rattle.pj_reloc.specs.declared.entry.Entry.{Entry}
use Rattle.pj_parts.specs.declared.types.Method.{Method}
use Rattle.pj_content.specs.Misfit.{tables, target, own_place, place_for, types_misfit, methods_misfit}
use Rattle.pj_content.specs.Marks.{Marks}
use Rattle.pj_base.specs.declared.kinds.KindTag.TheVariants as kinds

-- the methods that are left are judged under the places of those before them
pub record Left (entries : List Entry) (functions : ℕ) (all rest : List Method) (marks : List Bool) : Type 0 where
  pub places : List ℕ
  pub many : length marks ≡ functions
  pub marked : Marks marks places
  pub same : methods_misfit entries (tables functions) [] all ≡ methods_misfit entries (tables functions) places rest

pub start : (entries : List Entry) (functions : ℕ) (all : List Method) → Left entries functions all all (replicate functions false)
start entries functions all = record {
  places = [];
  many = length-replicate functions false;
  marked = record { is = λ place lt. get_or-replicate functions place false false (omega (arith, length-replicate functions false)) };
  same = refl;
}

-- ---- one more mark

marked_more : (marks : List Bool) (places : List ℕ) (place : ℕ) → place < length marks → Marks marks places → (q : ℕ) → q < length marks → (b : Bool) → (place == q) ≡ b
    → get_or (set marks place true) q false ≡ list_any (λ other. other == q) (places ++ place ∷ [])
marked_more marks places place lt m q within true e =
    let same : place ≡ q = grind (arith, nat_tests) in
    subst (λ (k : ℕ). get_or (set marks place true) k false ≡ list_any (λ other. other == k) (places ++ place ∷ [])) same
    (get_or-set_same marks place true false lt ∙ sym (list_any-append (λ other. other == place) places (place ∷ []) ∙ rw (eq-eqb place place refl) (last (list_any (λ other. other == place) places))))
  where
    last : (a : Bool) → (a || true) ≡ true
    last true = refl
    last false = refl
marked_more marks places place lt m q within false e =
    let apart : q ≢ place = λ h. (let is : (place == q) ≡ true = eq-eqb place q (sym h) in absurd cc) in
    get_or-set_other marks place q true false apart ∙ m.is q within ∙ sym (list_any-append (λ other. other == q) places (place ∷ []) ∙ rw e (last (list_any (λ other. other == q) places)))
  where
    last : (a : Bool) → (a || false) ≡ a
    last true = refl
    last false = refl

marked_set : (marks : List Bool) (places : List ℕ) (place : ℕ) → place < length marks → Marks marks places → Marks (set marks place true) (places ++ place ∷ [])
marked_set marks places place lt m = record { is = λ q within. marked_more marks places place lt m q (omega (arith, length-set marks place true)) (place == q) refl }

-- ---- one method

-- what is answered for the place of a method's function
abbrev pub Answers : List Entry → List Bool → ℕ → Option ℕ → Type 0
Answers entries marks k result = (places : List ℕ) → Marks marks places → result ≡ place_for entries (tables (length marks)) places k

module _ (entries : List Entry) (functions : ℕ) where
  placed : (marks : List Bool) (k : ℕ) (result : Option ℕ) (places : List ℕ) → Answers entries marks k result → Marks marks places → length marks ≡ functions → result ≡ place_for entries (tables functions) places k
  placed marks k result places h m many = subst (λ (n : ℕ). result ≡ place_for entries (tables n) places k) many (h places m)

  -- no place
  pub refuses : (all : List Method) (m : Method) (rest : List Method) (marks : List Bool) → Left entries functions all (m ∷ rest) marks → Answers entries marks m.fun None → methods_misfit entries (tables functions) [] all ≡ Some m.fun
  unfolding methods_misfit
  refuses all m rest marks left h =
      let none = placed marks m.fun None left.places h left.marked left.many in
      left.same ∙ rw (sym none) refl

  -- a wrong type
  pub refuses_type : (all : List Method) (m : Method) (rest : List Method) (marks : List Bool) (place k : ℕ) → Left entries functions all (m ∷ rest) marks → Answers entries marks m.fun (Some place) → types_misfit entries (tables functions) m.types ≡ Some k
      → methods_misfit entries (tables functions) [] all ≡ Some k
  unfolding methods_misfit
  refuses_type all m rest marks place k left h wrong =
      let some = placed marks m.fun (Some place) left.places h left.marked left.many in
      left.same ∙ rw (sym some, wrong) refl

  -- a method that is right
  pub goes_on : (all : List Method) (m : Method) (rest : List Method) (marks : List Bool) (place : ℕ) → Left entries functions all (m ∷ rest) marks → Answers entries marks m.fun (Some place) → place < length marks → types_misfit entries (tables functions) m.types ≡ None
      → Left entries functions all rest (set marks place true)
  unfolding methods_misfit
  goes_on all m rest marks place left h within right =
      let some = placed marks m.fun (Some place) left.places h left.marked left.many in
      record {
        places = left.places ++ place ∷ [];
        many = length-set marks place true ∙ left.many;
        marked = marked_set marks left.places place within left.marked;
        same = left.same ∙ rw (sym some, right) refl;
      }

  pub ends : (all : List Method) (marks : List Bool) → Left entries functions all [] marks → methods_misfit entries (tables functions) [] all ≡ None
  unfolding methods_misfit
  ends all marks left = left.same

-- ---- the place of a function that isn't marked

pub free_at : (entries : List Entry) (marks : List Bool) (k place : ℕ) (b : Bool) → Some place ≡ own_place (target entries (tables (length marks)) kinds.FunKind k) → place < length marks → get_or marks place false ≡ b
    → (places : List ℕ) → Marks marks places → cond b None (Some place) ≡ place_for entries (tables (length marks)) places k
free_at entries marks k place b own within e places m = let is : list_any (λ other. other == place) places ≡ b = sym (m.is place within) ∙ e in rw (sym own, is) refl

pub no_place : (entries : List Entry) (marks : List Bool) (k : ℕ) → None ≡ own_place (target entries (tables (length marks)) kinds.FunKind k) → (places : List ℕ) → Marks marks places → None ≡ place_for entries (tables (length marks)) places k
no_place entries marks k own places m = rw (sym own) refl

-- ---- the methods that are left, one fewer

pub front : (entries : List Entry) (functions : ℕ) (all : List Method) (i : ℕ) (m : Method) (marks : List Bool) → i < length all → m ≡ get_or all i m → Left entries functions all (drop i all) marks → Left entries functions all (m ∷ drop (i + 1) all) marks
front entries functions all i m marks lt is left =
    let cut : drop i all ≡ m ∷ drop (i + 1) all = drop-cons all i m lt ∙ rw (sym is, add-one i) refl in
    subst (λ (l : List Method). Left entries functions all l marks) cut left

pub none_left : (entries : List Entry) (functions : ℕ) (all : List Method) (i : ℕ) (marks : List Bool) → length all ≤ i → Left entries functions all (drop i all) marks → Left entries functions all [] marks
none_left entries functions all i marks le left = subst (λ (l : List Method). Left entries functions all l marks) (drop_of_length-le all le) left

-- ---- words of the code

pub same_marks : (entries : List Entry) (lent marks : List Bool) (k : ℕ) (result : Option ℕ) → lent ≡ marks → Answers entries lent k result → Answers entries marks k result
same_marks entries lent marks k result same h = subst (λ (l : List Bool). Answers entries l k result) same h

pub is_none_by : (o : Option ℕ) → is_some o ≡ false → o ≡ None
is_none_by None h = refl
is_none_by (Some k) h = absurd cc

pub refuses_some : (entries : List Entry) (functions : ℕ) (all : List Method) (m : Method) (rest : List Method) (marks : List Bool) (place : ℕ) (wrong : Option ℕ) → Left entries functions all (m ∷ rest) marks → Answers entries marks m.fun (Some place)
    → wrong ≡ types_misfit entries (tables functions) m.types → is_some wrong ≡ true → wrong ≡ methods_misfit entries (tables functions) [] all
refuses_some entries functions all m rest marks place None left h is some = absurd cc
refuses_some entries functions all m rest marks place (Some k) left h is some = sym (refuses_type entries functions all m rest marks place k left h (sym is))
