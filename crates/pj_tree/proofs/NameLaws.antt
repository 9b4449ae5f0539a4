-- The two laws of names, of parts and of parameters.
use Rattle.std.proofs.Common.{◌≡◌, ℕ, ◌^◌, ◌<◌, List, [], ◌∷◌, ◌++◌, map, Some, refl, sym, ap, subst, ◌∙◌, append_assoc}
use Rattle.std.specs.List.{flat_map}
use Rattle.std.proofs.lemmas.List.{length-map}
use Rattle.pj_fields.specs.Fields.{number, list, both, number_at, list_at}
use Rattle.pj_fields.proofs.Laws.{IsBytes, Laws, Taken, number_laws, both_laws, list_laws, made_takes, made_again}
use Rattle.pj_tree.specs.declared.tree.Sym.{Sym}
use Rattle.pj_tree.specs.declared.tree.Sym.TheVariants as s
use Rattle.pj_tree.specs.declared.tree.Part.{Part, out-Part, roll-Part}
use Rattle.pj_tree.specs.declared.tree.Part.TheVariants as part
use Rattle.pj_tree.specs.declared.tree.Part.TheOpen.{Part-F}
use Rattle.pj_tree.specs.declared.tree.Part.TheFolds.{fold-roll-Part}
use Rattle.pj_tree.specs.declared.tree.Part.TheViews.{roll-out-Part}
use Rattle.pj_tree.specs.declared.tree.Payload.{Payload}
use Rattle.pj_tree.specs.declared.tree.Stmt.{Stmt}
use Rattle.pj_tree.specs.declared.tree.TreeNode.{TreeNode}
use Rattle.pj_tree.specs.declared.tree.Body.{Body}
use Rattle.pj_tree.specs.declared.tree.DefTree.{DefTree}
use Rattle.pj_tree.specs.Bytes.{Bytes, sym as sym_bytes, param, parts, part_bytes, part_step, payload_step, stmt_step, tree_step, body_step, def_step}
use Rattle.pj_tree.specs.Fits.{ListFits, SymFits, ParamFits, PartFits, PartNodeFits}
use Rattle.pj_tree.specs.Reading.{sym_at, syms_at, param_at, part_at, param_of}

flat-is : {A : Type 0} (put : A → Bytes) (xs : List A) → flat_map (λ (p : Bytes). p) (map put xs) ≡ flat_map put xs
flat-is put [] = refl
flat-is put (x ∷ xs) = ap (λ (b : Bytes). put x ++ b) (flat-is put xs)

-- members that are bytes already are the members' bytes
pub parts-is : {A : Type 0} (put : A → Bytes) (xs : List A) → parts (map put xs) ≡ list put xs
unfolding parts list
parts-is put xs = rw (length-map xs put, flat-is put xs) refl

-- the bytes of a tag and of so many fields, regrouped
pub assoc-2 : (t a b : Bytes) → t ++ a ++ b ≡ t ++ (a ++ b)
assoc-2 t a b = append_assoc t a b

pub assoc-3 : (t a b c : Bytes) → t ++ a ++ b ++ c ≡ t ++ (a ++ (b ++ c))
assoc-3 t a b c = append_assoc (t ++ a) b c ∙ assoc-2 t a (b ++ c)

pub assoc-4 : (t a b c d : Bytes) → t ++ a ++ b ++ c ++ d ≡ t ++ (a ++ (b ++ (c ++ d)))
assoc-4 t a b c d = append_assoc (t ++ a ++ b) c d ∙ assoc-3 t a b (c ++ d)

pub assoc-5 : (t a b c d g : Bytes) → t ++ a ++ b ++ c ++ d ++ g ≡ t ++ (a ++ (b ++ (c ++ (d ++ g))))
assoc-5 t a b c d g = append_assoc (t ++ a ++ b ++ c) d g ∙ assoc-4 t a b c (d ++ g)

sym_takes : (bytes : List ℕ) (x : Sym) (rest : List ℕ) → IsBytes bytes → sym_at bytes ≡ Some (x, rest) → Taken sym_bytes SymFits bytes x rest
sym_takes = made_takes s.Number number number_at (λ n. n < 2 ^ 32) number_laws sym_bytes SymFits (λ n. refl) (λ n h. h)

sym_again : (x : Sym) (rest : List ℕ) → SymFits x → sym_at (sym_bytes x ++ rest) ≡ Some (x, rest)
sym_again (s.Number n) rest fits = made_again s.Number number number_at (λ n. n < 2 ^ 32) number_laws n rest fits
sym_again (s.Text t) rest fits = absurd fits

pub sym_laws : Laws sym_bytes sym_at SymFits
sym_laws = record { takes = sym_takes; again = sym_again }

pub syms_laws : Laws (list sym_bytes) syms_at (ListFits SymFits)
syms_laws = list_laws sym_bytes sym_at SymFits sym_laws

param_fields : Laws (λ (x : Sym × (Sym × Sym)). sym_bytes x.0 ++ (sym_bytes x.1.0 ++ sym_bytes x.1.1)) (both sym_at (both sym_at sym_at)) (λ x. SymFits x.0 × (SymFits x.1.0 × SymFits x.1.1))
param_fields = both_laws sym_bytes sym_at SymFits (λ x. sym_bytes x.0 ++ sym_bytes x.1) (both sym_at sym_at) (λ x. SymFits x.0 × SymFits x.1) sym_laws (both_laws sym_bytes sym_at SymFits sym_bytes sym_at SymFits sym_laws sym_laws)

pub param_laws : Laws param param_at ParamFits
param_laws = record {
  takes = made_takes param_of (λ (x : Sym × (Sym × Sym)). sym_bytes x.0 ++ (sym_bytes x.1.0 ++ sym_bytes x.1.1)) (both sym_at (both sym_at sym_at)) (λ x. SymFits x.0 × (SymFits x.1.0 × SymFits x.1.1)) param_fields param ParamFits (λ x. append_assoc (sym_bytes x.0) (sym_bytes x.1.0) (sym_bytes x.1.1)) (λ x h. h);
  again = λ p rest fits.
      let is : param p ++ rest ≡ (sym_bytes p.name ++ (sym_bytes p.declared.«module» ++ sym_bytes p.declared.name)) ++ rest = ap (λ (b : Bytes). b ++ rest) (append_assoc (sym_bytes p.name) (sym_bytes p.declared.«module») (sym_bytes p.declared.name)) in
      ap param_at is ∙ made_again param_of (λ (x : Sym × (Sym × Sym)). sym_bytes x.0 ++ (sym_bytes x.1.0 ++ sym_bytes x.1.1)) (both sym_at (both sym_at sym_at)) (λ x. SymFits x.0 × (SymFits x.1.0 × SymFits x.1.1)) param_fields (p.name, (p.declared.«module», p.declared.name)) rest fits;
}

pub params_laws : Laws (list param) (list_at param_at) (ListFits ParamFits)
params_laws = list_laws param param_at ParamFits param_laws

-- ---- parts

spelled-Number : (n : ℕ) → part_bytes (part.Number n) ≡ number n
spelled-Number n = ap part_bytes (sym (part.rolls-Number n)) ∙ fold-roll-Part Bytes Bytes Bytes Bytes Bytes Bytes part_step payload_step stmt_step tree_step body_step def_step (Part-F.Number n)

part_takes : (bytes : List ℕ) (x : Part) (rest : List ℕ) → IsBytes bytes → part_at bytes ≡ Some (x, rest) → Taken part_bytes PartFits bytes x rest
part_takes = made_takes part.Number number number_at (λ n. n < 2 ^ 32) number_laws part_bytes PartFits spelled-Number (λ n h. rw (part.outs-Number n) h)

part_layer_again : (layer : Part-F Part Payload Stmt TreeNode Body DefTree) (rest : List ℕ) → PartNodeFits layer → part_at (part_bytes (roll-Part layer) ++ rest) ≡ Some (roll-Part layer, rest)
part_layer_again (Part-F.Number n) rest fits = rw (part.rolls-Number n, spelled-Number n) (made_again part.Number number number_at (λ n. n < 2 ^ 32) number_laws n rest fits)
part_layer_again (Part-F.Held t) rest fits = absurd fits

pub part_laws : Laws part_bytes part_at PartFits
part_laws = record {
  takes = part_takes;
  again = λ x rest fits. subst (λ (y : Part). part_at (part_bytes y ++ rest) ≡ Some (y, rest)) (roll-out-Part x) (part_layer_again (out-Part x) rest fits);
}
