-- The two laws of sections 7 and 8.
use Rattle.std.proofs.Common.{◌≡◌, ℕ, ◌+◌, ◌-◌, true, List, ◌++◌, length, Ok, refl, ap, subst, ◌∙◌, append_assoc, arith}
use Rattle.std.specs.List.{list_all}
use Rattle.pj_fields.specs.Fields.{list, list_at}
use Rattle.pj_fields.proofs.Laws.{IsBytes}
use Rattle.pj_tree.specs.Bytes.{tree}
use Rattle.pj_tree.specs.Fits.{TreeFits}
use Rattle.pj_tree.specs.Reading.{tree_at}
use Rattle.pj_parts.specs.Reading.{method_at}
use Rattle.pj_parts.specs.Fits.{ListFits, MethodFits}
use Rattle.pj_parts.specs.Spelling.{method}
use Rattle.pj_image.specs.declared.stages.Bodies.{Bodies}
use Rattle.pj_image.specs.Found.{or_fault, checked}
use Rattle.pj_image.specs.Frames.{section, framed}
use Rattle.pj_image.specs.File.{bodies_at}
use Rattle.pj_image.specs.Pieces.{method_fine}
use Rattle.pj_image.specs.PlainTrees.{is_plain}
use Rattle.pj_image.specs.Formed.{Counted}
use Rattle.pj_image.proofs.Founds.{checked_true, ok_is}
use Rattle.pj_image.proofs.SectionLaws.{trees_laws, methods_laws}
use Rattle.pj_image.proofs.Steps.{bind_then, read_section, read_again, joined}

abbrev pub bodies_put : Bodies → List ℕ
bodies_put b = section 7 (list tree b.trees) ++ section 8 (list method b.methods)

pub record BodiesFits (strings : List (List ℕ)) (b : Bodies) : Type 0 where
  pub trees : Counted (list tree) (ListFits TreeFits) b.trees
  pub methods : Counted (list method) (ListFits MethodFits) b.methods
  pub plain : list_all (is_plain strings) b.trees ≡ true
  pub fine : list_all (method_fine b.trees) b.methods ≡ true

pub record BodiesRead (strings : List (List ℕ)) (size : ℕ) (bytes : List ℕ) (x : Bodies × List ℕ) : Type 0 where
  pub fits : BodiesFits strings x.0
  pub place : x.0.place ≡ size - length (section 8 (list method x.0.methods) ++ x.1) + 8
  pub parts : bytes ≡ bodies_put x.0 ++ x.1
  pub rest : IsBytes x.1

pub bodies_takes : (strings : List (List ℕ)) (size : ℕ) (bytes : List ℕ) (x : Bodies × List ℕ) → IsBytes bytes → bodies_at strings size bytes ≡ Ok x → BodiesRead strings size bytes x
unfolding bodies_at
bodies_takes strings size bytes x are e =
    bind_then {C = BodiesRead strings size bytes x} (or_fault 7 (framed 7 (list_at tree_at) bytes)) _ x e (λ t ht e1.
    bind_then {C = BodiesRead strings size bytes x} (checked 7 (list_all (is_plain strings) t.0)) _ x e1 (λ u hu e2.
    bind_then {C = BodiesRead strings size bytes x} (or_fault 8 (framed 8 (list_at method_at) t.1)) _ x e2 (λ m hm e3.
    bind_then {C = BodiesRead strings size bytes x} (checked 8 (list_all (method_fine t.0) m.0)) _ x e3 (λ v hv e4.
    let s7 = read_section (list tree) (list_at tree_at) (ListFits TreeFits) trees_laws 7 (omega arith) bytes t are ht in
    let s8 = read_section (list method) (list_at method_at) (ListFits MethodFits) methods_laws 8 (omega arith) t.1 m s7.rest hm in
    let result : Bodies = record { trees = t.0; place = size - length t.1 + 8; methods = m.0 } in
    let fits : BodiesFits strings result = record { trees = s7.counted; methods = s8.counted; plain = checked_true 7 (list_all (is_plain strings) t.0) u hu; fine = checked_true 8 (list_all (method_fine t.0) m.0) v hv } in
    let place : result.place ≡ size - length (section 8 (list method m.0) ++ m.1) + 8 = ap (λ (r : List ℕ). size - length r + 8) s8.parts in
    subst (λ (y : Bodies × List ℕ). BodiesRead strings size bytes y) (ok_is (result, m.1) x e4)
    (record { fits = fits; place = place; parts = joined bytes (section 7 (list tree t.0)) t.1 (section 8 (list method m.0)) m.1 s7.parts s8.parts; rest = s8.rest })))))

pub bodies_again : (strings : List (List ℕ)) (size : ℕ) (b : Bodies) (rest : List ℕ) → BodiesFits strings b → b.place ≡ size - length (section 8 (list method b.methods) ++ rest) + 8
    → bodies_at strings size (bodies_put b ++ rest) ≡ Ok (b, rest)
unfolding bodies_at
bodies_again strings size b rest fits place =
    let r8 = section 8 (list method b.methods) ++ rest in
    let h7 = read_again (list tree) (list_at tree_at) (ListFits TreeFits) trees_laws 7 (omega arith) b.trees r8 fits.trees in
    let h8 = read_again (list method) (list_at method_at) (ListFits MethodFits) methods_laws 8 (omega arith) b.methods rest fits.methods in
    ap (bodies_at strings size) (append_assoc (section 7 (list tree b.trees)) (section 8 (list method b.methods)) rest)
    ∙ rw (h7, fits.plain, h8, fits.fine, ← place) refl
