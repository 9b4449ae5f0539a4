-- The two laws of sections 1 to 6.
use Rattle.std.proofs.Common.{◌≡◌, ℕ, true, List, [], ◌++◌, map, Option, Ok, refl, ap, subst, ◌∙◌, append_assoc, arith}
use Rattle.std.specs.Prelude.{is_some, option_and_then}
use Rattle.pj_fields.specs.Fields.{list, list_at}
use Rattle.pj_fields.proofs.Laws.{IsBytes}
use Rattle.pj_parts.specs.declared.types.TypeDef.{TypeDef}
use Rattle.pj_parts.specs.declared.types.Object.{Object}
use Rattle.pj_parts.specs.Reading.{nothing_at, text_at, head_at, fun_def_at, binding_at}
use Rattle.pj_parts.specs.Fits.{ListFits, NoneYet, TextFits, HeadFits, FunDefFits, BindingFits}
use Rattle.pj_parts.specs.Spelling.{head, text, type_def, fun_def, binding, object}
use Rattle.pj_parts.proofs.PartLaws.{head_laws}
use Rattle.pj_image.specs.declared.stages.Declared.{Declared}
use Rattle.pj_image.specs.Found.{or_fault, checked}
use Rattle.pj_image.specs.Frames.{section, framed}
use Rattle.pj_image.specs.File.{is_named, function_number, binding_number, declared_at}
use Rattle.pj_image.specs.Names.{bindable, all_seen}
use Rattle.pj_image.specs.Formed.{Counted}
use Rattle.pj_image.proofs.Founds.{found_some, checked_true, ok_is}
use Rattle.pj_image.proofs.SectionLaws.{strings_laws, functions_laws, bindings_laws, nothings_laws}
use Rattle.pj_image.proofs.Steps.{bind_then, read_section, read_again, joined, two_seen, both_of}

abbrev pub declared_put : Declared → List ℕ
declared_put d =
    section 1 (head d.head) ++ (section 2 (list text d.strings) ++ (section 3 (list type_def d.types)
    ++ (section 4 (list fun_def d.functions) ++ (section 5 (list binding d.bindings) ++ section 6 (list object d.objects)))))

abbrev pub declared_names : Declared → Option (List (List ℕ))
declared_names d = option_and_then (λ seen. all_seen bindable d.strings seen (map binding_number d.bindings)) (all_seen bindable d.strings [] (map function_number d.functions))

pub record DeclaredFits (name : List ℕ) (d : Declared) : Type 0 where
  pub head : Counted head HeadFits d.head
  pub strings : Counted (list text) (ListFits TextFits) d.strings
  pub types : Counted (list type_def) (ListFits NoneYet) d.types
  pub functions : Counted (list fun_def) (ListFits FunDefFits) d.functions
  pub bindings : Counted (list binding) (ListFits BindingFits) d.bindings
  pub objects : Counted (list object) (ListFits NoneYet) d.objects
  pub named : is_named name d.head ≡ true
  pub names : is_some (declared_names d) ≡ true

pub record DeclaredRead (name bytes : List ℕ) (x : Declared × List ℕ) : Type 0 where
  pub fits : DeclaredFits name x.0
  pub parts : bytes ≡ declared_put x.0 ++ x.1
  pub rest : IsBytes x.1

pub declared_takes : (name bytes : List ℕ) (x : Declared × List ℕ) → IsBytes bytes → declared_at name bytes ≡ Ok x → DeclaredRead name bytes x
unfolding declared_at
declared_takes name bytes x are e =
    bind_then {C = DeclaredRead name bytes x} (or_fault 1 (framed 1 head_at bytes)) _ x e (λ a ha e1.
    bind_then {C = DeclaredRead name bytes x} (checked 1 (is_named name a.0)) _ x e1 (λ u hu e2.
    bind_then {C = DeclaredRead name bytes x} (or_fault 2 (framed 2 (list_at text_at) a.1)) _ x e2 (λ b hb e3.
    bind_then {C = DeclaredRead name bytes x} (or_fault 3 (framed 3 (list_at (nothing_at {A = TypeDef})) b.1)) _ x e3 (λ c hc e4.
    bind_then {C = DeclaredRead name bytes x} (or_fault 4 (framed 4 (list_at fun_def_at) c.1)) _ x e4 (λ d hd e5.
    bind_then {C = DeclaredRead name bytes x} (or_fault 4 (all_seen bindable b.0 [] (map function_number d.0))) _ x e5 (λ seen hs e6.
    bind_then {C = DeclaredRead name bytes x} (or_fault 5 (framed 5 (list_at binding_at) d.1)) _ x e6 (λ f hf e7.
    bind_then {C = DeclaredRead name bytes x} (or_fault 5 (all_seen bindable b.0 seen (map binding_number f.0))) _ x e7 (λ both hn e8.
    bind_then {C = DeclaredRead name bytes x} (or_fault 6 (framed 6 (list_at (nothing_at {A = Object})) f.1)) _ x e8 (λ o ho e9.
    let s1 = read_section head head_at HeadFits head_laws 1 (omega arith) bytes a are ha in
    let s2 = read_section (list text) (list_at text_at) (ListFits TextFits) strings_laws 2 (omega arith) a.1 b s1.rest hb in
    let s3 = read_section (list type_def) (list_at (nothing_at {A = TypeDef})) (ListFits (NoneYet {A = TypeDef})) (nothings_laws type_def) 3 (omega arith) b.1 c s2.rest hc in
    let s4 = read_section (list fun_def) (list_at fun_def_at) (ListFits FunDefFits) functions_laws 4 (omega arith) c.1 d s3.rest hd in
    let s5 = read_section (list binding) (list_at binding_at) (ListFits BindingFits) bindings_laws 5 (omega arith) d.1 f s4.rest hf in
    let s6 = read_section (list object) (list_at (nothing_at {A = Object})) (ListFits (NoneYet {A = Object})) (nothings_laws object) 6 (omega arith) f.1 o s5.rest ho in
    let p5 = joined d.1 (section 5 (list binding f.0)) f.1 (section 6 (list object o.0)) o.1 s5.parts s6.parts in
    let p4 = joined c.1 (section 4 (list fun_def d.0)) d.1 (section 5 (list binding f.0) ++ section 6 (list object o.0)) o.1 s4.parts p5 in
    let p3 = joined b.1 (section 3 (list type_def c.0)) c.1 (section 4 (list fun_def d.0) ++ (section 5 (list binding f.0) ++ section 6 (list object o.0))) o.1 s3.parts p4 in
    let p2 = joined a.1 (section 2 (list text b.0)) b.1 (section 3 (list type_def c.0) ++ (section 4 (list fun_def d.0) ++ (section 5 (list binding f.0) ++ section 6 (list object o.0)))) o.1 s2.parts p3 in
    let p1 = joined bytes (section 1 (head a.0)) a.1 (section 2 (list text b.0) ++ (section 3 (list type_def c.0) ++ (section 4 (list fun_def d.0) ++ (section 5 (list binding f.0) ++ section 6 (list object o.0))))) o.1 s1.parts p2 in
    let result : Declared = record { head = a.0; strings = b.0; types = c.0; functions = d.0; bindings = f.0; objects = o.0 } in
    let names : is_some (declared_names result) ≡ true = two_seen (all_seen bindable b.0 [] (map function_number d.0)) (λ seen. all_seen bindable b.0 seen (map binding_number f.0)) seen both (found_some 4 (all_seen bindable b.0 [] (map function_number d.0)) seen hs) (found_some 5 (all_seen bindable b.0 seen (map binding_number f.0)) both hn) in
    let fits : DeclaredFits name result = record { head = s1.counted; strings = s2.counted; types = s3.counted; functions = s4.counted; bindings = s5.counted; objects = s6.counted; named = checked_true 1 (is_named name a.0) u hu; names = names } in
    subst (λ (y : Declared × List ℕ). DeclaredRead name bytes y) (ok_is (result, o.1) x e9) (record { fits = fits; parts = p1; rest = s6.rest }))))))))))

regroup : (a b c d f o rest : List ℕ) → (a ++ (b ++ (c ++ (d ++ (f ++ o))))) ++ rest ≡ a ++ (b ++ (c ++ (d ++ (f ++ (o ++ rest)))))
regroup a b c d f o rest = simp append_assoc

pub declared_again : (name : List ℕ) (d : Declared) (rest : List ℕ) → DeclaredFits name d → declared_at name (declared_put d ++ rest) ≡ Ok (d, rest)
unfolding declared_at
declared_again name d rest fits =
    let names = both_of (all_seen bindable d.strings [] (map function_number d.functions)) (λ seen. all_seen bindable d.strings seen (map binding_number d.bindings)) fits.names in
    let seen = names.0 in
    let r6 = section 6 (list object d.objects) ++ rest in
    let r5 = section 5 (list binding d.bindings) ++ r6 in
    let r4 = section 4 (list fun_def d.functions) ++ r5 in
    let r3 = section 3 (list type_def d.types) ++ r4 in
    let r2 = section 2 (list text d.strings) ++ r3 in
    let h1 = read_again head head_at HeadFits head_laws 1 (omega arith) d.head r2 fits.head in
    let h2 = read_again (list text) (list_at text_at) (ListFits TextFits) strings_laws 2 (omega arith) d.strings r3 fits.strings in
    let h3 = read_again (list type_def) (list_at (nothing_at {A = TypeDef})) (ListFits (NoneYet {A = TypeDef})) (nothings_laws type_def) 3 (omega arith) d.types r4 fits.types in
    let h4 = read_again (list fun_def) (list_at fun_def_at) (ListFits FunDefFits) functions_laws 4 (omega arith) d.functions r5 fits.functions in
    let h5 = read_again (list binding) (list_at binding_at) (ListFits BindingFits) bindings_laws 5 (omega arith) d.bindings r6 fits.bindings in
    let h6 = read_again (list object) (list_at (nothing_at {A = Object})) (ListFits (NoneYet {A = Object})) (nothings_laws object) 6 (omega arith) d.objects rest fits.objects in
    ap (declared_at name) (regroup (section 1 (head d.head)) (section 2 (list text d.strings)) (section 3 (list type_def d.types)) (section 4 (list fun_def d.functions)) (section 5 (list binding d.bindings)) (section 6 (list object d.objects)) rest)
    ∙ rw (h1, fits.named, h2, h3, h4, names.2, h5, names.3, h6) refl
