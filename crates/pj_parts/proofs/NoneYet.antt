-- A list of parts that aren't built yet has none, so it is one of any parts.
use Rattle.std.proofs.Common.{List, [], ◌∷◌}
use Rattle.std.specs.Prelude.{⊤}
use Rattle.pj_parts.specs.declared.types.Dependency.{Dependency}
use Rattle.pj_parts.specs.declared.types.TypeDef.{TypeDef}
use Rattle.pj_parts.specs.declared.types.Object.{Object}
use Rattle.pj_parts.specs.declared.types.Directive.{Directive}
use Rattle.pj_parts.specs.declared.types.CodeRecord.{CodeRecord}
use Rattle.pj_parts.specs.declared.types.CodeWord.{CodeWord}
use Rattle.pj_parts.specs.Fits.{CodeRecordFits, DependencyFits, DirectiveFits, ListFits, NoneYet, ObjectFits, TypeDefFits}

any : {A : Type 0} (P : A → Type 0) (xs : List A) → ListFits (NoneYet {A = A}) xs → ListFits P xs
any P [] h = h
any P (x ∷ xs) h = absurd h.1.0

pub no_dependencies : (xs : List Dependency) → ListFits NoneYet xs → ListFits DependencyFits xs
no_dependencies = any DependencyFits

pub no_types : (xs : List TypeDef) → ListFits NoneYet xs → ListFits TypeDefFits xs
no_types = any TypeDefFits

pub no_objects : (xs : List Object) → ListFits NoneYet xs → ListFits ObjectFits xs
no_objects = any ObjectFits

pub no_directives : (xs : List Directive) → ListFits NoneYet xs → ListFits DirectiveFits xs
no_directives = any DirectiveFits

pub no_records : (xs : List CodeRecord) → ListFits NoneYet xs → ListFits CodeRecordFits xs
no_records = any CodeRecordFits

pub no_code : (xs : List CodeWord) → ListFits NoneYet xs → ListFits (λ w. ⊤) xs
no_code = any (λ w. ⊤)
