-- What holds of a package's things that were read from a text, beside what makes them good.
use Rattle.std.specs.Prelude.{◌≡◌, ◌≤◌, ℕ, suc, max, true, List, length}
use Rattle.std.specs.List.{list_all, AllByRecursion}
use Rattle.pj_meaning.specs.Tree.{Text, Expr, Exprs, Field, Call, CallLocal, Latest, And, Or, Cond, Same, Intrin, none, also}
use Rattle.pj_words.specs.Words.{is_identifier, is_package_name}
use Rattle.pj_plain.specs.Names.{all_different}
use Rattle.pj_session.specs.declared.own.Definition.{Definition}
use Rattle.pj_session.specs.declared.own.Own.{Own}
use Rattle.pj_session.specs.declared.own.Own.TheVariants as own
use Rattle.pj_build.specs.Own.{parts_of}

-- how deep the nodes of an expression nest
abbrev mutual
  pub depth_of : Expr → ℕ
  depth_of (Field of name) = suc (depth_of of)
  depth_of (Call owner name args) = suc (deepest args)
  depth_of (CallLocal name args) = suc (deepest args)
  depth_of (Latest callee args) = suc (max (depth_of callee) (deepest args))
  depth_of (And left right) = suc (max (depth_of left) (depth_of right))
  depth_of (Or left right) = suc (max (depth_of left) (depth_of right))
  depth_of (Cond test chosen other) = suc (max (depth_of test) (max (depth_of chosen) (depth_of other)))
  depth_of (Same left right) = suc (max (depth_of left) (depth_of right))
  depth_of (Intrin what args) = suc (deepest args)
  depth_of e = 1

  pub deepest : Exprs → ℕ
  deepest none = 0
  deepest (also e es) = max (depth_of e) (deepest es)

-- at most 16 parameters, which are different identifiers, and an expression that nests at most 126 deep
pub record FunctionRead (d : Definition) : Type 0 where
  pub few : length d.params ≤ 16
  pub identifiers : list_all is_identifier (parts_of d).0 ≡ true
  pub different : all_different (parts_of d).0 ≡ true
  pub shallow : depth_of (parts_of d).1 ≤ 126

abbrev pub ThingRead : Own → Type 0
ThingRead (own.Function d) = FunctionRead d
ThingRead (own.Constant z) = Unit {0}

-- a package's name, and identifiers of what it has of its own
pub record PackageRead (name : Text) (names : List Text) (things : List Own) : Type 0 where
  pub called : is_package_name name ≡ true
  pub identifiers : list_all is_identifier names ≡ true
  pub each : AllByRecursion ThingRead things
