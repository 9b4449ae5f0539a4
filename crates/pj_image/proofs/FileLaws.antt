-- The two laws of files.
use Rattle.std.proofs.Common.{◌≡◌, ℕ, ◌+◌, ◌-◌, ◌≤◌, Bool, true, false, cond, ltb, List, ◌++◌, length, take, drop, Some, Result, Ok, Err, refl, sym, ap, subst, ◌∙◌, append_assoc, arith}
use Rattle.std.specs.Prelude.{not}
use Rattle.std.specs.Str.{bytes_eq}
use Rattle.std.proofs.lemmas.Slice.Eq.{bytes_eq-Decides}
use Rattle.std.proofs.lemmas.Bool.{ltb-false, le-ltb}
use Rattle.std.proofs.lemmas.List.{take_at, drop_at, take-append-drop, length-append, length-take-le, length-drop}
use Rattle.sha2.specs.Sha256.{sha256}
use Rattle.sha2.proofs.Facts256.{length-sha256}
use Rattle.pj_words.specs.Words.{is_package_name}
use Rattle.pj_fields.specs.Fields.{number, list}
use Rattle.pj_fields.proofs.Laws.{IsBytes, IsBytes-take, IsBytes-drop, some_is}
use Rattle.pj_tree.specs.Bytes.{tree}
use Rattle.pj_parts.specs.declared.types.Head.{Head}
use Rattle.pj_parts.specs.Spelling.{head, text, type_def, fun_def, binding, object, method}
use Rattle.pj_parts.specs.Fits.{HeadFits}
use Rattle.pj_parts.specs.Reading.{head_at}
use Rattle.pj_parts.proofs.PartLaws.{head_laws}
use Rattle.pj_image.specs.declared.image.Image.{Image}
use Rattle.pj_image.specs.declared.stages.Declared.{Declared}
use Rattle.pj_image.specs.declared.stages.Bodies.{Bodies}
use Rattle.pj_image.specs.declared.stages.Ending.{Ending}
use Rattle.pj_image.specs.Frames.{section, framed}
use Rattle.pj_image.specs.File.{front, is_named, declared_at, bodies_at, ending_at, parts_at, sealed_at, file_at, image_of}
use Rattle.pj_image.specs.Pieces.{placed}
use Rattle.pj_image.specs.Spelled.{declared_sections, body_sections, ending_sections, before_identity, spelled, methods_place}
use Rattle.pj_image.specs.Formed.{Formed, IsFileOf}
use Rattle.pj_image.proofs.Founds.{ok, ok_is}
use Rattle.pj_image.proofs.FrameLaws.{framed_laws}
use Rattle.pj_image.proofs.Steps.{bind_then}
use Rattle.pj_image.proofs.DeclaredLaws.{declared_put, declared_takes, declared_again, DeclaredFits}
use Rattle.pj_image.proofs.BodiesLaws.{bodies_put, bodies_takes, bodies_again, BodiesFits}
use Rattle.pj_image.proofs.EndingLaws.{ending_put, ending_takes, ending_again, EndingFits, both_true}

abbrev pub declared_of : Image → Declared
declared_of i = record { head = i.head; strings = i.strings; types = i.types; functions = i.functions; bindings = i.bindings; objects = i.objects }

abbrev pub bodies_of : Image → Bodies
bodies_of i = record { trees = i.trees; place = methods_place i; methods = i.methods }

abbrev pub ending_of : Image → Ending
ending_of i = record { directives = i.directives; records = i.records; code = i.code; entries = i.entries }

abbrev pub sections : Image → List ℕ
sections i = declared_sections i ++ (body_sections i ++ ending_sections i)

pub front-length : length front ≡ 12
unfolding front number
front-length = refl

-- ---- where the methods stand

-- the place from the end, and the place from the start
place_is : (d s7 s8 ending : List ℕ) (size : ℕ) → size ≡ 12 + length (d ++ ((s7 ++ s8) ++ ending)) → size - length (s8 ++ ending) + 8 ≡ length (front ++ (d ++ s7)) + 8
place_is d s7 s8 ending size is =
    omega (arith, is, front-length, length-append front (d ++ s7), length-append d s7, length-append d ((s7 ++ s8) ++ ending), length-append (s7 ++ s8) ending, length-append s7 s8, length-append s8 ending)

pub methods_at : (i : Image) (size : ℕ) → size ≡ 12 + length (sections i) → size - length (section 8 (list method i.methods) ++ ending_sections i) + 8 ≡ methods_place i
unfolding methods_place
methods_at i size is = place_is (declared_sections i) (section 7 (list tree i.trees)) (section 8 (list method i.methods)) (ending_sections i) size is

-- ---- names

same_bytes : (a b : List ℕ) → bytes_eq a b ≡ true → a ≡ b
same_bytes a b e = (bytes_eq-Decides a b).0 e

pub equal_bytes : (a : List ℕ) → bytes_eq a a ≡ true
equal_bytes a = (bytes_eq-Decides a a).1 refl

-- ---- all sections

pub record PartsRead (name bytes : List ℕ) (i : Image) : Type 0 where
  pub formed : Formed i
  pub called : i.head.name ≡ name
  pub parts : bytes ≡ sections i

parts_result : (name bytes : List ℕ) (size : ℕ) (d : Declared) (b : Bodies) (e : Ending) → size ≡ 12 + length bytes
    → DeclaredFits name d → BodiesFits d.strings b → b.place ≡ size - length (section 8 (list method b.methods) ++ ending_put e) + 8 → EndingFits b.place b.methods e
    → bytes ≡ declared_put d ++ (bodies_put b ++ ending_put e) → PartsRead name bytes (image_of d b e)
parts_result name bytes size d b e is fd fb place fe parts =
    let named = both_true (bytes_eq d.head.name name) (is_package_name d.head.name) fd.named in
    let size-is : size ≡ 12 + length (sections (image_of d b e)) = is ∙ ap (λ (l : List ℕ). 12 + length l) parts in
    let at : b.place ≡ methods_place (image_of d b e) = place ∙ methods_at (image_of d b e) size size-is in
    record {
      formed = record {
        head = fd.head;
        strings = fd.strings;
        types = fd.types;
        functions = fd.functions;
        bindings = fd.bindings;
        objects = fd.objects;
        trees = fb.trees;
        methods = fb.methods;
        directives = fe.directives;
        records = fe.records;
        code = fe.code;
        entries = fe.entries;
        named = named.1;
        names = fd.names;
        plain = fb.plain;
        fine = fb.fine;
        right = subst (λ (p : ℕ). placed p b.methods e.entries ≡ true) at fe.right;
      };
      called = same_bytes d.head.name name named.0;
      parts = parts;
    }

pub parts_takes : (name bytes : List ℕ) (size : ℕ) (i : Image) → IsBytes bytes → size ≡ 12 + length bytes → parts_at name size bytes ≡ Ok i → PartsRead name bytes i
unfolding parts_at
parts_takes name bytes size i are is e =
    bind_then {C = PartsRead name bytes i} (declared_at name bytes) _ i e (λ d hd e1.
    bind_then {C = PartsRead name bytes i} (bodies_at d.0.strings size d.1) _ i e1 (λ b hb e2.
    bind_then {C = PartsRead name bytes i} (ending_at b.0.place b.0.methods b.1) _ i e2 (λ g hg e3.
    let rd = declared_takes name bytes d are hd in
    let rb = bodies_takes d.0.strings size d.1 b rd.rest hb in
    let rg = ending_takes b.0.place b.0.methods b.1 g rb.rest hg in
    let place : b.0.place ≡ size - length (section 8 (list method b.0.methods) ++ ending_put g) + 8 = rb.place ∙ ap (λ (r : List ℕ). size - length (section 8 (list method b.0.methods) ++ r) + 8) rg.parts in
    let parts : bytes ≡ declared_put d.0 ++ (bodies_put b.0 ++ ending_put g) = rd.parts ∙ ap (λ (r : List ℕ). declared_put d.0 ++ r) (rb.parts ∙ ap (λ (r : List ℕ). bodies_put b.0 ++ r) rg.parts) in
    subst (λ (y : Image). PartsRead name bytes y) (ok_is (image_of d.0 b.0 g) i e3) (parts_result name bytes size d.0 b.0 g is rd.fits rb.fits place rg.fits parts))))

pub parts_again : (i : Image) (size : ℕ) → size ≡ 12 + length (sections i) → Formed i → parts_at i.head.name size (sections i) ≡ Ok i
unfolding parts_at
parts_again i size is f =
    let named : is_named i.head.name i.head ≡ true = rw (equal_bytes i.head.name, f.named) refl in
    let fd : DeclaredFits i.head.name (declared_of i) = record { head = f.head; strings = f.strings; types = f.types; functions = f.functions; bindings = f.bindings; objects = f.objects; named = named; names = f.names } in
    let fb : BodiesFits i.strings (bodies_of i) = record { trees = f.trees; methods = f.methods; plain = f.plain; fine = f.fine } in
    let fe : EndingFits (methods_place i) i.methods (ending_of i) = record { directives = f.directives; records = f.records; code = f.code; entries = f.entries; right = f.right } in
    let h1 = declared_again i.head.name (declared_of i) (body_sections i ++ ending_sections i) fd in
    let h2 = bodies_again i.strings size (bodies_of i) (ending_sections i) fb (sym (methods_at i size is)) in
    let h3 = ending_again (methods_place i) i.methods (ending_of i) fe in
    rw (h1, h2, h3) refl

-- ---- the file

guard_two : {A : Type 0} (a b : Bool) (r : Result A ℕ) (y : A) → cond (not a) (Err 0) (cond (not b) (Err 13) r) ≡ Ok y → (a ≡ true) × ((b ≡ true) × (r ≡ Ok y))
guard_two true true r y e = (refl, (refl, e))
guard_two true false r y e = absurd cc
guard_two false b r y e = absurd cc

guard_short : {A : Type 0} (short : Bool) (r : Result A ℕ) (y : A) → cond short (Err 0) r ≡ Ok y → (short ≡ false) × (r ≡ Ok y)
guard_short true r y e = absurd cc
guard_short false r y e = (refl, e)

pub file_takes : (name bytes : List ℕ) (i : Image) → IsBytes bytes → file_at name bytes ≡ Ok i → IsFileOf name bytes i
unfolding file_at spelled before_identity
file_takes name bytes i are e =
    let n = length bytes - 32 in
    let body = take n bytes in
    let digest = drop n bytes in
    let g = guard_short (ltb (length bytes) 44) (sealed_at name body digest) i e in
    let h = guard_two (bytes_eq (take 12 body) front) (bytes_eq digest (sha256 body)) (parts_at name (length body) (drop 12 body)) i g.1 in
    let long : 44 ≤ length bytes = ltb-false _ _ g.0 in
    let body-length : length body ≡ n = length-take-le n bytes (omega arith) in
    let beginning : take 12 body ≡ front = same_bytes (take 12 body) front h.0 in
    let count : length body ≡ 12 + length (drop 12 body) = omega (arith, body-length, length-drop 12 body) in
    let p = parts_takes name (drop 12 body) (length body) i (IsBytes-drop 12 body (IsBytes-take n bytes are)) count h.1.1 in
    let body-is : body ≡ front ++ sections i = sym (take-append-drop 12 body) ∙ ap (λ (l : List ℕ). l ++ drop 12 body) beginning ∙ ap (λ (l : List ℕ). front ++ l) p.parts in
    let digest-is : digest ≡ sha256 (front ++ sections i) = same_bytes digest (sha256 body) h.1.0 ∙ ap sha256 body-is in
    record { formed = p.formed; called = p.called; whole = sym (take-append-drop n bytes) ∙ ap (λ (l : List ℕ). l ++ digest) body-is ∙ ap (λ (l : List ℕ). (front ++ sections i) ++ l) digest-is }

-- what stands before the identity, of a file that ends in 32 bytes
cut : (body seal : List ℕ) → length seal ≡ 32 → length (body ++ seal) - 32 ≡ length body
cut body seal is = omega (arith, is, length-append body seal)

pub sealed_again : (name body : List ℕ) → 12 ≤ length body → file_at name (body ++ sha256 body) ≡ sealed_at name body (sha256 body)
unfolding file_at
sealed_again name body long =
    let n-is = cut body (sha256 body) (length-sha256 body) in
    let not-short : ltb (length (body ++ sha256 body)) 44 ≡ false = le-ltb _ _ (omega (arith, length-append body (sha256 body), length-sha256 body)) in
    rw (not-short, n-is, take_at body (sha256 body) (length body) refl, drop_at body (sha256 body) (length body) refl) refl

pub file_again : (i : Image) → Formed i → file_at i.head.name (spelled i) ≡ Ok i
unfolding spelled before_identity
file_again i f =
    let body = front ++ sections i in
    let long : length body ≡ 12 + length (sections i) = length-append front (sections i) ∙ ap (λ n. n + length (sections i)) front-length in
    let front-is : take 12 body ≡ front = take_at front (sections i) 12 front-length in
    let rest-is : drop 12 body ≡ sections i = drop_at front (sections i) 12 front-length in
    sealed_again i.head.name body (omega (arith, long)) ∙ rw (front-is, rest-is, equal_bytes front, equal_bytes (sha256 body)) (parts_again i (length body) long f)

-- ---- one image a file

head_of : (i : Image) → Formed i → framed 1 head_at (drop 12 (before_identity i)) ≡ Some (i.head, drop (length (section 1 (head i.head))) (sections i))
unfolding before_identity
head_of i f =
    let rest = section 2 (list text i.strings) ++ (section 3 (list type_def i.types) ++ (section 4 (list fun_def i.functions) ++ (section 5 (list binding i.bindings) ++ section 6 (list object i.objects)))) in
    let behind = rest ++ (body_sections i ++ ending_sections i) in
    let parts : sections i ≡ section 1 (head i.head) ++ behind = append_assoc (section 1 (head i.head)) rest (body_sections i ++ ending_sections i) in
    let left : drop (length (section 1 (head i.head))) (sections i) ≡ behind = ap (drop (length (section 1 (head i.head)))) parts ∙ drop_at (section 1 (head i.head)) behind (length (section 1 (head i.head))) refl in
    let cut : drop 12 (front ++ sections i) ≡ section 1 (head i.head) ++ behind = drop_at front (sections i) 12 front-length ∙ parts in
    ap (framed 1 head_at) cut ∙ (framed_laws head head_at HeadFits head_laws 1 (omega arith)).again i.head behind f.head ∙ ap (λ (r : List ℕ). Some (i.head, r)) (sym left)

body_length : (i : Image) → length (spelled i) - 32 ≡ length (before_identity i)
unfolding spelled
body_length i = cut (before_identity i) (sha256 (before_identity i)) (length-sha256 (before_identity i))

body_of : (i : Image) → take (length (spelled i) - 32) (spelled i) ≡ before_identity i
unfolding spelled
body_of i = ap (λ n. take n (spelled i)) (body_length i) ∙ take_at (before_identity i) (sha256 (before_identity i)) (length (before_identity i)) refl

pub same_name : (i j : Image) → Formed i → Formed j → spelled i ≡ spelled j → i.head.name ≡ j.head.name
same_name i j fi fj same =
    let body : before_identity i ≡ before_identity j = sym (body_of i) ∙ ap (λ (l : List ℕ). take (length l - 32) l) same ∙ body_of j in
    let both : Some (i.head, drop (length (section 1 (head i.head))) (sections i)) ≡ Some (j.head, drop (length (section 1 (head j.head))) (sections j)) = sym (head_of i fi) ∙ ap (λ (l : List ℕ). framed 1 head_at (drop 12 l)) body ∙ head_of j fj in
    let parts = some_is (i.head, drop (length (section 1 (head i.head))) (sections i)) (j.head, drop (length (section 1 (head j.head))) (sections j)) both in
    ap (λ (p : Head × List ℕ). p.0.name) parts

pub same_image : (i j : Image) → Formed i → Formed j → spelled i ≡ spelled j → i ≡ j
same_image i j fi fj same =
    let name = same_name i j fi fj same in
    let both : ok i ≡ ok j = sym (file_again i fi) ∙ ap (λ (n : List ℕ). file_at n (spelled i)) name ∙ ap (λ (l : List ℕ). file_at j.head.name l) same ∙ file_again j fj in
    ok_is i j both
