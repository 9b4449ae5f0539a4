-- A definition's parts, from its tree.
use Rattle.std.proofs.Common.{◌≡◌, ◌∙◌, Result, Ok, Err, IfOk, OnOk, subst, refl, sym, ap, true, false, ◌&&◌, List, [], ◌∷◌, map, length, nat_eq, nat_le, arith}
use Rattle.std.specs.Prelude.{codes}
use Rattle.std.specs.List.{list_all}
use Rattle.std.specs.Str.{bytes_eq}
use Rattle.std.proofs.lemmas.Bool.{false≢true}
use Rattle.std.proofs.lemmas.List.{length-map}
use Rattle.pj_meaning.specs.Tree as tree
use Rattle.pj_meaning.specs.Tree.{Text, Block, step, end, Body, body}
use Rattle.pj_words.specs.Words.{is_base_name}
use Rattle.pj_tree.specs.Reads.{Strings, Defined, as_body, define_item, expr_of, part_of, texts_of}
use Rattle.pj_tree.proofs.TreeReads.{def_of-DefTree}
use Rattle.pj_tree.specs.declared.tree.DefTree.{DefTree}
use Rattle.pj_tree.specs.declared.tree.Expr.{Expr}
use Rattle.pj_tree.specs.declared.tree.Sym.{Sym}
use Rattle.pj_content.specs.Content.{strings_in}
use Rattle.pj_plain.specs.Held.{held_def, held_expr, held_parts, held_text, no_parts, no_strings}
use Rattle.pj_plain.specs.Names.{all_different, free_name}
use Rattle.pj_plain.specs.Plain.{is_empty, is_int64, names_of, plain_body, plain_definition, plain_expr, same_texts}
use Rattle.pj_session.specs.Events.{Parts, Event, body_of, parts_of}
use Rattle.pj_session.specs.Good.{Good, PlainFunction}
use Rattle.pj_session.specs.Merged.{parts_in}
use Rattle.pj_session.specs.declared.end.End.{End}
use Rattle.pj_session.specs.declared.own.Definition.{Definition}
use Rattle.pj_session.specs.Items as items
use Rattle.pj_session.specs.Items.{int_param}
use Rattle.pj_session.proofs.Texts.{same_text, and_left, and_right, not_true, or_left}

-- names that are held mean the same over the strings of no image

pub same_strings : strings_in [] ≡ no_strings
same_strings = refl

pub same_names : (names : List Sym) → texts_of (strings_in []) names ≡ texts_of no_strings names
same_names names = ap (λ (s : Strings). texts_of s names) same_strings

pub same_expr : (e : Expr) → expr_of (strings_in []) e ≡ held_expr e
same_expr e = ap (λ (s : Strings). expr_of s e) same_strings

-- a plain definition

pub is_nothing : (t : Text) → is_empty t ≡ true → t ≡ []
is_nothing [] is = refl
is_nothing (b ∷ bs) is = absurd (false≢true is)

pub empty_at : (t : Text) → is_empty t ≡ nat_eq (length t) 0
empty_at [] = refl
empty_at (b ∷ bs) = grind arith

names_same : (xs ys : List Text) → same_texts xs ys ≡ true → xs ≡ ys
names_same [] [] is = refl
names_same [] (y ∷ ys) is = absurd (false≢true is)
names_same (x ∷ xs) [] is = absurd (false≢true is)
names_same (x ∷ xs) (y ∷ ys) is =
    ap (λ t. t ∷ xs) (same_text x y (and_left (bytes_eq x y) _ is)) ∙ ap (λ ts. y ∷ ts) (names_same xs ys (and_right (bytes_eq x y) _ is))

type_same : (t : tree.TypeRef) → is_int64 t ≡ true → record { home = []; name = codes "Int64" } ≡ t
type_same t is =
    rw (is_nothing t.home (and_left (is_empty t.home) _ is), same_text t.name (codes "Int64") (and_right (is_empty t.home) _ is)) refl

params_same : (params : List tree.Param) → list_all (λ (p : tree.Param). is_int64 p.declared) params ≡ true → map int_param (names_of params) ≡ params
params_same [] is = refl
params_same (p ∷ params) is =
    ap (λ t. record { name = p.name; declared = t } ∷ map int_param (names_of params)) (type_same p.declared (and_left (is_int64 p.declared) _ is))
    ∙ ap (λ ps. p ∷ ps) (params_same params (and_right (is_int64 p.declared) _ is))

-- a plain body has its parameters' names, and one expression, which is plain
pub record OneValue (names : List Text) (b : Body) : Type 0 where
  pub code : b ≡ body_of (parts_of b)
  pub params : (parts_of b).0 ≡ names
  pub plain : plain_expr names (parts_of b).1 ≡ true

one_value : (names : List Text) (b : Body) → plain_body names b ≡ true → OneValue names b
one_value names (body params [] (step (tree.Value e) end)) is =
    record { code = refl; params = names_same params names (and_left (same_texts params names) _ is); plain = and_right (same_texts params names) _ is }
one_value names (body params [] (step (tree.Value e) (step s b))) is = absurd (false≢true (and_right (same_texts params names) _ is))
one_value names (body params [] end) is = absurd (false≢true (and_right (same_texts params names) _ is))
one_value names (body params [] (step (tree.SetLocal x e) b)) is = absurd (false≢true (and_right (same_texts params names) _ is))
one_value names (body params [] (step (tree.SetGlobal x e) b)) is = absurd (false≢true (and_right (same_texts params names) _ is))
one_value names (body params [] (step (tree.SetField a x e) b)) is = absurd (false≢true (and_right (same_texts params names) _ is))
one_value names (body params [] (step (tree.If c a d) b)) is = absurd (false≢true (and_right (same_texts params names) _ is))
one_value names (body params [] (step (tree.While xs c a) b)) is = absurd (false≢true (and_right (same_texts params names) _ is))
one_value names (body params [] (step (tree.For x c d xs a) b)) is = absurd (false≢true (and_right (same_texts params names) _ is))
one_value names (body params [] (step tree.Break b)) is = absurd (false≢true (and_right (same_texts params names) _ is))
one_value names (body params [] (step tree.Continue b)) is = absurd (false≢true (and_right (same_texts params names) _ is))
one_value names (body params [] (step (tree.Return e) b)) is = absurd (false≢true (and_right (same_texts params names) _ is))
one_value names (body params [] (step (tree.Eval m p) b)) is = absurd (false≢true (and_right (same_texts params names) _ is))
one_value names (body params (x ∷ xs) b) is = absurd (false≢true is)

pub not_bases : (name : Text) → free_name name ≡ true → is_base_name name ≡ false
not_bases name is = or_left (is_base_name name) _ (not_true _ is)

module _ (d : Defined) (is : plain_definition d.home d.fun d.params d.code ≡ true) where
  no_home : is_empty d.home ≡ true
  no_home = and_left (is_empty d.home) _ is

  behind_home : (free_name d.fun && (nat_le (length d.params) 16 && (list_all (λ (p : tree.Param). is_int64 p.declared) d.params && (all_different (names_of d.params) && plain_body (names_of d.params) d.code)))) ≡ true
  behind_home = and_right (is_empty d.home) _ is

  behind_count : (list_all (λ (p : tree.Param). is_int64 p.declared) d.params && (all_different (names_of d.params) && plain_body (names_of d.params) d.code)) ≡ true
  behind_count = and_right (nat_le (length d.params) 16) _ (and_right (free_name d.fun) _ behind_home)

  has_one : OneValue (names_of d.params) d.code
  has_one = one_value (names_of d.params) d.code (and_right (all_different (names_of d.params)) _ (and_right (list_all (λ (p : tree.Param). is_int64 p.declared) d.params) _ behind_count))

  pub defined_free : is_base_name d.fun ≡ false
  defined_free = not_bases d.fun (and_left (free_name d.fun) _ behind_home)

  pub defined_as : define_item d ≡ items.define_item d.fun (parts_of d.code)
  defined_as =
      ap (λ home. tree.Def home d.fun d.params d.code) (is_nothing d.home no_home)
      ∙ ap (λ code. tree.Def [] d.fun d.params code) has_one.code
      ∙ ap (λ ps. tree.Def [] d.fun ps (body_of (parts_of d.code))) (sym (params_same d.params (and_left (list_all (λ (p : tree.Param). is_int64 p.declared) d.params) _ behind_count)))
      ∙ ap (λ names. tree.Def [] d.fun (map int_param names) (body_of (parts_of d.code))) (sym has_one.params)

  pub defined_plain : PlainFunction d.fun (parts_of d.code)
  defined_plain = record {
    free = defined_free;
    plain = ap (λ names. plain_expr names (parts_of d.code).1) has_one.params ∙ has_one.plain;
  }

  pub defined_count : length (parts_of d.code).0 ≡ length d.params
  defined_count = ap (λ (names : List Text). length names) has_one.params ∙ length-map d.params (λ (p : tree.Param). p.name)

-- the definition of a tree

pub item_as : {E : Type 0} (d : DefTree) (result : Result Definition E) → IfOk result (λ definition. parts_in definition ≡ parts_of (as_body (part_of no_strings no_parts d.body)))
    → IfOk result (λ definition. plain_definition (held_parts d).home (held_parts d).fun (held_parts d).params (held_parts d).code ≡ true → held_def d ≡ items.define_item (held_parts d).fun (parts_in definition))
item_as d (Ok definition) same =
    λ is. defined_as (held_parts d) is ∙ ap (items.define_item (held_parts d).fun) (ap (λ (p : Defined). parts_of p.code) (def_of-DefTree no_strings no_parts d) ∙ sym same)
item_as d (Err e) same = tt

pub good_tree : {A : Type 0} (result : Result A End) (here here' : Text) (es es' : List Event) (d : DefTree) (name : Text) (p : Parts) → name ≡ held_text d.fun → p ≡ parts_of (held_parts d).code
    → OnOk result (Good here es → PlainFunction name p → Good here' es')
    → OnOk result (plain_definition (held_parts d).home (held_parts d).fun (held_parts d).params (held_parts d).code ≡ true → Good here es → Good here' es')
good_tree (Ok done) here here' es es' d name p same_name same h =
    λ is good. h good (subst (λ n. PlainFunction n p) (ap (λ (q : Defined). q.fun) (def_of-DefTree no_strings no_parts d) ∙ sym same_name) (subst (PlainFunction (held_parts d).fun) (sym same) (defined_plain (held_parts d) is)))
good_tree (Err e) here here' es es' d name p same_name same h = tt
