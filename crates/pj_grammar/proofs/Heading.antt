-- Types that are defined, and their fields, keep what has been read.
use Rattle.pj_grammar.proofs.Begun.{HeaderBegun, TypeBegun, Under, a_mutable, a_struct, an_abstract, fields_begun, named_type, no_field_begun, only_type, parent_begun, takes_named_type, then_field, then_separator, type_begun, under}
use Rattle.pj_grammar.proofs.Ending.{entry-closes, lines-open}
use Rattle.pj_grammar.proofs.Levels.{absurd-of}
use Rattle.pj_grammar.proofs.Listing.{close-fields}
use Rattle.pj_grammar.proofs.Operating.{stands-text}
use Rattle.pj_grammar.proofs.Signing.{param-added}
use Rattle.pj_grammar.proofs.Standing.{Stands, a_name, bare_at, has_operand, over_frames}
use Rattle.pj_grammar.specs.Closing.{closed_entry}
use Rattle.pj_grammar.specs.Expressions.{Named}
use Rattle.pj_grammar.specs.Frames.{at, takes_items, takes_lines}
use Rattle.pj_grammar.specs.Machine.{header}
use Rattle.pj_grammar.specs.Makers.{abstract_of, struct_of}
use Rattle.pj_grammar.specs.Modules.{Modules}
use Rattle.pj_grammar.specs.Operands.{add_param, after_field, after_header, after_param, end_fields, start_field}
use Rattle.pj_grammar.specs.Statements.{Parameter, typed, with_name, without}
use Rattle.pj_grammar.specs.Texts.{Above, Field, Fields, Item, Kind, abstract_type, below, field, last_field, mutable_type, no_field, nothing_above, struct, struct_type}
use Rattle.pj_grammar.specs.Tokens.{Place, name, separator, sign, spot, token, word}
use Rattle.pj_grammar.specs.declared.frame.Frame.{Frame}
use Rattle.pj_grammar.specs.declared.frame.Header.{Header}
use Rattle.pj_lex.specs.declared.sign.Sign.{Sign}
use Rattle.pj_lex.specs.declared.token.Token.{Token}
use Rattle.pj_lex.specs.declared.token.TokenKind.{TokenKind}
use Rattle.pj_syntax.specs.declared.expression.Path.{Path}
use Rattle.pj_syntax.specs.declared.expression.Spot.{Spot}
use Rattle.pj_syntax.specs.declared.statement.Param.{Param}
use Rattle.pj_words.specs.declared.word.Word.{Word}
use Rattle.std.proofs.Common.{Bool, List, None, Option, Some, [], codes, false, refl, subst, true, ℕ, ◌++◌, ◌∷◌, ◌≡◌}
use Rattle.std.proofs.lemmas.List.{append-nil, append_assoc}
use Rattle.pj_grammar.specs.declared.frame.Frame.TheVariants as frames
use Rattle.pj_grammar.specs.declared.frame.Header.TheVariants as headers
use Rattle.pj_lex.specs.declared.token.TokenKind.TheVariants as kinds
use Rattle.pj_grammar.specs.declared.mode.Mode.TheVariants as modes
use Rattle.pj_lex.specs.declared.sign.Sign.TheVariants as signs
use Rattle.pj_words.specs.declared.word.Word.TheVariants as words

pub items-lines : (k : List Frame) → takes_items k ≡ true → takes_lines k ≡ true
items-lines (frames.Items root is ∷ k) h = refl
items-lines k h = absurd-of h

-- a type's definition ends
struct-read : {modules : Modules} {kind : Kind} {mutable : Bool} {x : Spot} {parent : Option Path} {fs : List Param} {ts us vs : List Token}
    → HeaderBegun (headers.Struct mutable x) ts → Above modules us parent → Fields modules vs fs
    → Item modules kind (ts ++ (us ++ vs)) (struct_of mutable x parent fs)
struct-read (a_struct p r x) above fields = struct_type p (struct r x above fields)
struct-read (a_mutable p q r x) above fields = mutable_type p q (struct r x above fields)

fields-end : (modules : Modules) (kind : Kind) (mutable : Bool) (x : Spot) (parent : Option Path) (fs : List Param) (k : List Frame) (before ts us vs : List Token)
    → takes_items k ≡ true → Under modules kind k before → HeaderBegun (headers.Struct mutable x) ts → Above modules us parent → Fields modules vs fs
    → Stands modules kind (end_fields (frames.Fields mutable x parent fs ∷ k)) (before ++ (ts ++ (us ++ vs)))
fields-end modules kind mutable x parent fs k before ts us vs takes u h above fields =
    entry-closes modules kind _ k before (ts ++ (us ++ vs)) u (λ _. struct-read h above fields)

-- what follows a field that has been read
pub field-added : (modules : Modules) (kind : Kind) (mutable : Bool) (x : Spot) (parent : Option Path) (fs : List Param) (k : List Frame) (before mine : List Token) (f : Param)
    (p : Place) (what : TokenKind) → Under modules kind (frames.Fields mutable x parent fs ∷ k) before → Field modules mine f
    → Stands modules kind (after_field (frames.Fields mutable x parent (fs ++ f ∷ []) ∷ k) what) (before ++ mine ++ token p what ∷ [])
field-added modules kind mutable x parent fs k _ mine f p what (under {before = b} u o (fields_begun {ts = ts} {us = us} {vs = vs} takes h above list)) d = by-kind what
  where
    by-word : (w : Word) → Stands modules kind (after_field (frames.Fields mutable x parent (fs ++ f ∷ []) ∷ k) (kinds.Reserved w)) (b ++ (ts ++ (us ++ vs)) ++ mine ++ word p w ∷ [])
    by-word words.End =
        stands-text modules kind (end_fields (frames.Fields mutable x parent (fs ++ f ∷ []) ∷ k)) (b ++ (ts ++ (us ++ (vs ++ (mine ++ word p words.End ∷ [])))))
        (b ++ (ts ++ (us ++ vs)) ++ mine ++ word p words.End ∷ []) (simp append_assoc)
        (fields-end modules kind mutable x parent (fs ++ f ∷ []) k b ts us (vs ++ (mine ++ word p words.End ∷ [])) takes u h above (close-fields list (last_field p d)))
    by-word w = tt

    by-kind : (what : TokenKind) → Stands modules kind (after_field (frames.Fields mutable x parent (fs ++ f ∷ []) ∷ k) what) (b ++ (ts ++ (us ++ vs)) ++ mine ++ token p what ∷ [])
    by-kind (kinds.Reserved w) = by-word w
    by-kind kinds.Separator =
        stands-text modules kind (at modes.FieldStart (frames.Fields mutable x parent (fs ++ f ∷ []) ∷ k)) (b ++ (ts ++ (us ++ (vs ++ (mine ++ separator p ∷ [])))))
        (b ++ (ts ++ (us ++ vs)) ++ mine ++ separator p ∷ []) (simp append_assoc)
        (bare_at refl (under u (lines-open modules k (ts ++ (us ++ (vs ++ (mine ++ separator p ∷ [])))) (items-lines k takes)) (fields_begun takes h above (then_field p list d))))
    by-kind what = tt

-- a field, a separator, or the end of the fields
pub field-begins : (modules : Modules) (kind : Kind) (mutable : Bool) (x : Spot) (parent : Option Path) (fs : List Param) (k : List Frame) (before : List Token)
    (p : Place) (what : TokenKind) → Under modules kind (frames.Fields mutable x parent fs ∷ k) before
    → Stands modules kind (start_field (frames.Fields mutable x parent fs ∷ k) p.start what) (before ++ token p what ∷ [])
field-begins modules kind mutable x parent fs k _ p what (under {before = b} u o (fields_begun {ts = ts} {us = us} {vs = vs} takes h above list)) = by-kind what
  where
    by-word : (w : Word) → Stands modules kind (after_field (frames.Fields mutable x parent fs ∷ k) (kinds.Reserved w)) (b ++ (ts ++ (us ++ vs)) ++ word p w ∷ [])
    by-word words.End =
        stands-text modules kind (end_fields (frames.Fields mutable x parent fs ∷ k)) (b ++ (ts ++ (us ++ (vs ++ word p words.End ∷ []))))
        (b ++ (ts ++ (us ++ vs)) ++ word p words.End ∷ []) (simp append_assoc)
        (fields-end modules kind mutable x parent fs k b ts us (vs ++ word p words.End ∷ []) takes u h above
        (subst (λ l. Fields modules (vs ++ word p words.End ∷ []) l) (append-nil fs) (close-fields list (no_field p))))
    by-word w = tt

    by-kind : (what : TokenKind) → Stands modules kind (start_field (frames.Fields mutable x parent fs ∷ k) p.start what) (b ++ (ts ++ (us ++ vs)) ++ token p what ∷ [])
    by-kind (kinds.Name y) = over_frames (under u o (fields_begun takes h above list)) (λ more. refl) (has_operand (a_name p y))
    by-kind (kinds.Reserved w) = by-word w
    by-kind kinds.Separator =
        stands-text modules kind (at modes.FieldStart (frames.Fields mutable x parent fs ∷ k)) (b ++ (ts ++ (us ++ (vs ++ separator p ∷ []))))
        (b ++ (ts ++ (us ++ vs)) ++ separator p ∷ []) (simp append_assoc)
        (bare_at refl (under u (lines-open modules k (ts ++ (us ++ (vs ++ separator p ∷ []))) (items-lines k takes)) (fields_begun takes h above (then_separator p list))))
    by-kind what = tt

-- what follows the name and the parent of a type
pub header-stands : (modules : Modules) (kind : Kind) (h : Header) (parent : Option Path) (k : List Frame) (before ts us : List Token) (p : Place) (what : TokenKind)
    → takes_items k ≡ true → Under modules kind k before → HeaderBegun h ts → Above modules us parent
    → Stands modules kind (after_header h parent k p.start what) (before ++ (ts ++ us) ++ token p what ∷ [])
header-stands modules kind _ parent k before _ us p what takes u (an_abstract q r s x) above = by-kind what
  where
    by-word : (w : Word) → Stands modules kind (after_header (headers.Abstract (spot s x)) parent k p.start (kinds.Reserved w))
        (before ++ (name q (codes "abstract") ∷ name r (codes "type") ∷ name s x ∷ us) ++ word p w ∷ [])
    by-word words.End =
        stands-text modules kind (closed_entry (abstract_of (spot s x) parent) k) (before ++ name q (codes "abstract") ∷ name r (codes "type") ∷ name s x ∷ (us ++ word p words.End ∷ []))
        (before ++ (name q (codes "abstract") ∷ name r (codes "type") ∷ name s x ∷ us) ++ word p words.End ∷ []) (simp append_assoc)
        (entry-closes modules kind (abstract_of (spot s x) parent) k before _ u (λ _. abstract_type q r s p x above))
    by-word w = tt

    by-kind : (what : TokenKind) → Stands modules kind (after_header (headers.Abstract (spot s x)) parent k p.start what)
        (before ++ (name q (codes "abstract") ∷ name r (codes "type") ∷ name s x ∷ us) ++ token p what ∷ [])
    by-kind (kinds.Reserved w) = by-word w
    by-kind what = tt
header-stands modules kind _ parent k before _ us p what takes u (a_struct q r x) above =
    stands-text modules kind (start_field (frames.Fields false (spot r x) parent [] ∷ k) p.start what)
    ((before ++ ((word q words.Struct ∷ name r x ∷ []) ++ (us ++ []))) ++ token p what ∷ [])
    (before ++ (word q words.Struct ∷ name r x ∷ us) ++ token p what ∷ []) (simp (append_assoc, append-nil))
    (field-begins modules kind false (spot r x) parent [] k _ p what
    (under u (lines-open modules k ((word q words.Struct ∷ name r x ∷ []) ++ (us ++ [])) (items-lines k takes)) (fields_begun takes (a_struct q r x) above no_field_begun)))
header-stands modules kind _ parent k before _ us p what takes u (a_mutable m q r x) above =
    stands-text modules kind (start_field (frames.Fields true (spot r x) parent [] ∷ k) p.start what)
    ((before ++ ((name m (codes "mutable") ∷ word q words.Struct ∷ name r x ∷ []) ++ (us ++ []))) ++ token p what ∷ [])
    (before ++ (name m (codes "mutable") ∷ word q words.Struct ∷ name r x ∷ us) ++ token p what ∷ []) (simp (append_assoc, append-nil))
    (field-begins modules kind true (spot r x) parent [] k _ p what
    (under u (lines-open modules k ((name m (codes "mutable") ∷ word q words.Struct ∷ name r x ∷ []) ++ (us ++ [])) (items-lines k takes)) (fields_begun takes (a_mutable m q r x) above no_field_begun)))

-- behind its name `<:` may follow
pub named-header-stands : (modules : Modules) (kind : Kind) (h : Header) (k : List Frame) (before ts : List Token) (p : Place) (what : TokenKind)
    → takes_items k ≡ true → Under modules kind k before → HeaderBegun h ts → Stands modules kind (header h k p what) (before ++ ts ++ token p what ∷ [])
named-header-stands modules kind h k before ts p what takes u d = by-kind what
  where
    otherwise : (what : TokenKind) → Stands modules kind (after_header h None k p.start what) (before ++ ts ++ token p what ∷ [])
    otherwise what =
        stands-text modules kind (after_header h None k p.start what) (before ++ (ts ++ []) ++ token p what ∷ []) (before ++ ts ++ token p what ∷ []) (simp append-nil)
        (header-stands modules kind h None k before ts [] p what takes u d nothing_above)

    by-sign : (s : Sign) → Stands modules kind (header h k p (kinds.Sign s)) (before ++ ts ++ sign p s ∷ [])
    by-sign signs.Below =
        stands-text modules kind (at modes.PathStart (frames.Parent h ∷ k)) (before ++ (ts ++ sign p signs.Below ∷ [])) (before ++ ts ++ sign p signs.Below ∷ []) (simp append_assoc)
        (bare_at refl (under u (lines-open modules k (ts ++ sign p signs.Below ∷ []) (items-lines k takes)) (parent_begun p takes d)))
    by-sign s = otherwise (kinds.Sign s)

    by-kind : (what : TokenKind) → Stands modules kind (header h k p what) (before ++ ts ++ token p what ∷ [])
    by-kind (kinds.Sign s) = by-sign s
    by-kind what = otherwise what

-- a parent has been read
pub parent-stands : (modules : Modules) (kind : Kind) (h : Header) (t : Path) (k : List Frame) (before mine : List Token) (p : Place) (what : TokenKind)
    → Under modules kind (frames.Parent h ∷ k) before → Named modules mine t
    → Stands modules kind (after_header h (Some t) k p.start what) (before ++ mine ++ token p what ∷ [])
parent-stands modules kind h t k _ mine p what (under {before = b} u o (parent_begun {ts = ts} q takes d)) e =
    stands-text modules kind (after_header h (Some t) k p.start what) (b ++ (ts ++ sign q signs.Below ∷ mine) ++ token p what ∷ [])
    ((b ++ (ts ++ sign q signs.Below ∷ [])) ++ mine ++ token p what ∷ []) (simp append_assoc)
    (header-stands modules kind h (Some t) k b ts (sign q signs.Below ∷ mine) p what takes u d (below q e))

-- the type of a parameter or a field has been read
type-under : {modules : Modules} {kind : Kind} {x : Option Spot} {first : ℕ} {k : List Frame} {before : List Token}
    → Under modules kind (frames.TypeOf x first ∷ k) before → takes_named_type x k ≡ true
type-under (under u o (type_begun takes d)) = takes

typed-param : {modules : Modules} {x : Option Spot} {first : ℕ} {ts mine : List Token} {t : Path} → TypeBegun x first ts → Named modules mine t
    → Parameter modules (ts ++ mine) (record { at = first; name = x; declared = Some t })
typed-param (named_type p q x) e = with_name p x (typed q e)
typed-param (only_type p) e = without p e

typed-field : {modules : Modules} {x : Spot} {first : ℕ} {ts mine : List Token} {t : Path} → TypeBegun (Some x) first ts → Named modules mine t
    → Field modules (ts ++ mine) (record { at = first; name = Some x; declared = Some t })
typed-field (named_type p q x) e = field p x (typed q e)

pub type-stands : (modules : Modules) (kind : Kind) (x : Option Spot) (first : ℕ) (t : Path) (k : List Frame) (before mine : List Token) (p : Place) (what : TokenKind)
    → Under modules kind (frames.TypeOf x first ∷ k) before → Named modules mine t
    → Stands modules kind (add_param (record { at = first; name = x; declared = Some t }) k what) (before ++ mine ++ token p what ∷ [])
type-stands modules kind x first t (frames.Signature form f ps ∷ k) _ mine p what (under {before = b} u o (type_begun {ts = ts} takes d)) e =
    stands-text modules kind (after_param (frames.Signature form f (ps ++ record { at = first; name = x; declared = Some t } ∷ []) ∷ k) what)
    (b ++ (ts ++ mine) ++ token p what ∷ []) ((b ++ ts) ++ mine ++ token p what ∷ []) (simp append_assoc)
    (param-added modules kind form f ps k b (ts ++ mine) _ p what u (typed-param d e))
type-stands modules kind (Some x) first t (frames.Fields mutable s parent fs ∷ k) _ mine p what (under {before = b} u o (type_begun {ts = ts} takes d)) e =
    stands-text modules kind (after_field (frames.Fields mutable s parent (fs ++ record { at = first; name = Some x; declared = Some t } ∷ []) ∷ k) what)
    (b ++ (ts ++ mine) ++ token p what ∷ []) ((b ++ ts) ++ mine ++ token p what ∷ []) (simp append_assoc)
    (field-added modules kind mutable s parent fs k b (ts ++ mine) _ p what u (typed-field d e))
type-stands modules kind x first t k before mine p what u e = absurd-of (type-under u)
