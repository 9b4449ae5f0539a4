-- The two laws of sections 9 to 12.
use Rattle.std.proofs.Common.{◌≡◌, ℕ, Bool, true, false, eqb, List, [], ◌++◌, length, Ok, refl, sym, ap, subst, ◌∙◌, arith}
use Rattle.std.specs.Prelude.{◌&&◌}
use Rattle.std.proofs.lemmas.Bool.{eqb-true}
use Rattle.std.proofs.lemmas.List.{append-nil}
use Rattle.pj_fields.specs.Fields.{list, list_at}
use Rattle.pj_fields.proofs.Laws.{IsBytes}
use Rattle.pj_parts.specs.declared.types.Directive.{Directive}
use Rattle.pj_parts.specs.declared.types.CodeRecord.{CodeRecord}
use Rattle.pj_parts.specs.declared.types.CodeWord.{CodeWord}
use Rattle.pj_parts.specs.declared.types.Method.{Method}
use Rattle.pj_parts.specs.Reading.{nothing_at, entry_at}
use Rattle.pj_parts.specs.Fits.{ListFits, NoneYet, EntryFits}
use Rattle.pj_parts.specs.Spelling.{directive, code_record, code_word, entry}
use Rattle.pj_image.specs.declared.stages.Ending.{Ending}
use Rattle.pj_image.specs.Found.{or_fault, checked}
use Rattle.pj_image.specs.Frames.{section, framed}
use Rattle.pj_image.specs.File.{ending_at}
use Rattle.pj_image.specs.Pieces.{placed}
use Rattle.pj_image.specs.Formed.{Counted}
use Rattle.pj_image.proofs.Founds.{checked_true, ok_is}
use Rattle.pj_image.proofs.FrameLaws.{nothing_left}
use Rattle.pj_image.proofs.SectionLaws.{entries_laws, nothings_laws}
use Rattle.pj_image.proofs.Steps.{bind_then, read_section, read_again}

abbrev pub ending_put : Ending → List ℕ
ending_put d =
    section 9 (list directive d.directives) ++ (section 10 (list code_record d.records)
    ++ (section 11 (list code_word d.code) ++ section 12 (list entry d.entries)))

pub record EndingFits (place : ℕ) (methods : List Method) (d : Ending) : Type 0 where
  pub directives : Counted (list directive) (ListFits NoneYet) d.directives
  pub records : Counted (list code_record) (ListFits NoneYet) d.records
  pub code : Counted (list code_word) (ListFits NoneYet) d.code
  pub entries : Counted (list entry) (ListFits EntryFits) d.entries
  pub right : placed place methods d.entries ≡ true

pub record EndingRead (place : ℕ) (methods : List Method) (bytes : List ℕ) (x : Ending) : Type 0 where
  pub fits : EndingFits place methods x
  pub parts : bytes ≡ ending_put x

pub both_true : (a b : Bool) → (a && b) ≡ true → (a ≡ true) × (b ≡ true)
both_true true true e = (refl, refl)
both_true true false e = absurd cc
both_true false b e = absurd cc

pub ending_takes : (place : ℕ) (methods : List Method) (bytes : List ℕ) (x : Ending) → IsBytes bytes → ending_at place methods bytes ≡ Ok x → EndingRead place methods bytes x
unfolding ending_at
ending_takes place methods bytes x are e =
    bind_then {C = EndingRead place methods bytes x} (or_fault 9 (framed 9 (list_at (nothing_at {A = Directive})) bytes)) _ x e (λ a ha e1.
    bind_then {C = EndingRead place methods bytes x} (or_fault 10 (framed 10 (list_at (nothing_at {A = CodeRecord})) a.1)) _ x e1 (λ b hb e2.
    bind_then {C = EndingRead place methods bytes x} (or_fault 11 (framed 11 (list_at (nothing_at {A = CodeWord})) b.1)) _ x e2 (λ c hc e3.
    bind_then {C = EndingRead place methods bytes x} (or_fault 12 (framed 12 (list_at entry_at) c.1)) _ x e3 (λ d hd e4.
    bind_then {C = EndingRead place methods bytes x} (checked 12 (placed place methods d.0 && eqb (length d.1) 0)) _ x e4 (λ u hu e5.
    let s9 = read_section (list directive) (list_at (nothing_at {A = Directive})) (ListFits (NoneYet {A = Directive})) (nothings_laws directive) 9 (omega arith) bytes a are ha in
    let s10 = read_section (list code_record) (list_at (nothing_at {A = CodeRecord})) (ListFits (NoneYet {A = CodeRecord})) (nothings_laws code_record) 10 (omega arith) a.1 b s9.rest hb in
    let s11 = read_section (list code_word) (list_at (nothing_at {A = CodeWord})) (ListFits (NoneYet {A = CodeWord})) (nothings_laws code_word) 11 (omega arith) b.1 c s10.rest hc in
    let s12 = read_section (list entry) (list_at entry_at) (ListFits EntryFits) entries_laws 12 (omega arith) c.1 d s11.rest hd in
    let t = both_true (placed place methods d.0) (eqb (length d.1) 0) (checked_true 12 (placed place methods d.0 && eqb (length d.1) 0) u hu) in
    let nothing : d.1 ≡ [] = nothing_left d.1 (eqb-true (length d.1) 0 t.1) in
    let last : c.1 ≡ section 12 (list entry d.0) = s12.parts ∙ ap (λ (r : List ℕ). section 12 (list entry d.0) ++ r) nothing ∙ append-nil (section 12 (list entry d.0)) in
    let p11 : b.1 ≡ section 11 (list code_word c.0) ++ section 12 (list entry d.0) = s11.parts ∙ ap (λ (r : List ℕ). section 11 (list code_word c.0) ++ r) last in
    let p10 : a.1 ≡ section 10 (list code_record b.0) ++ (section 11 (list code_word c.0) ++ section 12 (list entry d.0)) = s10.parts ∙ ap (λ (r : List ℕ). section 10 (list code_record b.0) ++ r) p11 in
    let p9 : bytes ≡ section 9 (list directive a.0) ++ (section 10 (list code_record b.0) ++ (section 11 (list code_word c.0) ++ section 12 (list entry d.0))) = s9.parts ∙ ap (λ (r : List ℕ). section 9 (list directive a.0) ++ r) p10 in
    let result : Ending = record { directives = a.0; records = b.0; code = c.0; entries = d.0 } in
    let fits : EndingFits place methods result = record { directives = s9.counted; records = s10.counted; code = s11.counted; entries = s12.counted; right = t.0 } in
    subst (λ (y : Ending). EndingRead place methods bytes y) (ok_is result x e5) (record { fits = fits; parts = p9 }))))))

pub ending_again : (place : ℕ) (methods : List Method) (d : Ending) → EndingFits place methods d → ending_at place methods (ending_put d) ≡ Ok d
unfolding ending_at
ending_again place methods d fits =
    let s12 = section 12 (list entry d.entries) in
    let r11 = section 11 (list code_word d.code) ++ s12 in
    let r10 = section 10 (list code_record d.records) ++ r11 in
    let h9 = read_again (list directive) (list_at (nothing_at {A = Directive})) (ListFits (NoneYet {A = Directive})) (nothings_laws directive) 9 (omega arith) d.directives r10 fits.directives in
    let h10 = read_again (list code_record) (list_at (nothing_at {A = CodeRecord})) (ListFits (NoneYet {A = CodeRecord})) (nothings_laws code_record) 10 (omega arith) d.records r11 fits.records in
    let h11 = read_again (list code_word) (list_at (nothing_at {A = CodeWord})) (ListFits (NoneYet {A = CodeWord})) (nothings_laws code_word) 11 (omega arith) d.code s12 fits.code in
    let h12 : or_fault 12 (framed 12 (list_at entry_at) s12) ≡ Ok (d.entries, []) = ap (λ (r : List ℕ). or_fault 12 (framed 12 (list_at entry_at) r)) (sym (append-nil s12)) ∙ read_again (list entry) (list_at entry_at) (ListFits EntryFits) entries_laws 12 (omega arith) d.entries [] fits.entries in
    rw (h9, h10, h11, h12, fits.right) refl
