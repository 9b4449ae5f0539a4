-- Lists of which some has been read go before the rest of them.
use Rattle.pj_grammar.proofs.Begun.{FieldsBegun, ItemsBegun, LinesBegun, ParametersBegun, TypesBegun, UsesBegun, no_field_begun, no_item, no_line, no_parameter, no_type, no_use, then_blank, then_field, then_gap, then_item, then_line, then_module, then_name, then_parameter, then_separator, then_space, then_type, then_use}
use Rattle.pj_grammar.proofs.Blocks.{joined, joined-after, joined-none, joined-one, none-joined}
use Rattle.pj_grammar.proofs.Joining.{none-united, united, united-after, united-none, united-one}
use Rattle.pj_grammar.proofs.Settling.{with-sign}
use Rattle.pj_grammar.proofs.Standing.{NamesBegun, no_names, then_names}
use Rattle.pj_grammar.specs.Expressions.{Named}
use Rattle.pj_grammar.specs.Makers.{Entry, entry_after, line_after, run_of}
use Rattle.pj_grammar.specs.Modules.{Modules, is_module}
use Rattle.pj_grammar.specs.Statements.{Block, Parameter, Parameters, Statement, also, eval_name, last_line, last_one, no_more, none, skip, then_after_name, then_lines}
use Rattle.pj_grammar.specs.Texts.{Ends, Fields, Item, Items, Kind, MoreTypes, Names, PackageRest, Separators, Types, a_separator, after_name, also_name, also_type, comma_ends, last_item, last_type, name_ends, no_items, no_separator, no_types, one_name, script, skip_before, skip_field, skip_item, then_fields, then_items, types, uses}
use Rattle.pj_grammar.specs.Tokens.{Place, name, separator, sign, spot, token, word}
use Rattle.pj_grammar.specs.declared.node.Entries.{Entries}
use Rattle.pj_grammar.specs.declared.node.Line.{Line}
use Rattle.pj_grammar.specs.declared.node.Lines.{Lines}
use Rattle.pj_lex.specs.declared.token.Token.{Token}
use Rattle.pj_syntax.specs.declared.expression.Path.{Path}
use Rattle.pj_syntax.specs.declared.expression.Spot.{Spot}
use Rattle.pj_syntax.specs.declared.statement.Param.{Param}
use Rattle.std.proofs.Common.{List, [], ap, refl, subst, sym, true, ℕ, ◌++◌, ◌∙◌, ◌∷◌, ◌≡◌}
use Rattle.std.proofs.lemmas.List.{append-nil, append_assoc}
use Rattle.pj_lex.specs.declared.token.TokenKind.TheVariants as kinds
use Rattle.pj_lex.specs.declared.sign.Sign.TheVariants as signs
use Rattle.pj_words.specs.declared.word.Word.TheVariants as words

pub close-parameters : {modules : Modules} {ts us : List Token} {xs ys : List Param} → ParametersBegun modules ts xs → Parameters modules us ys
    → Parameters modules (ts ++ us) (xs ++ ys)
close-parameters no_parameter d = d
close-parameters {modules} {us = vs} {ys = ys} (then_parameter {ts = ts} {us = us} {xs = xs} {x = x} p b d) e =
    subst (λ l. Parameters modules ((ts ++ (us ++ sign p signs.Comma ∷ [])) ++ vs) l) (sym (append_assoc xs (x ∷ []) ys))
    (subst (λ l. Parameters modules l (xs ++ x ∷ ys)) (with-sign ts us vs (sign p signs.Comma)) (close-parameters b (also p d e)))

-- the end of parameters behind a comma or at once, and behind a parameter
pub no-parameter : {modules : Modules} {ts : List Token} {xs : List Param} (p : Place) → ParametersBegun modules ts xs
    → Parameters modules (ts ++ sign p signs.RightParen ∷ []) xs
no-parameter {modules} {ts} {xs} p b =
    subst (λ l. Parameters modules (ts ++ sign p signs.RightParen ∷ []) l) (append-nil xs) (close-parameters b (no_more p))

pub last-parameter : {modules : Modules} {ts us : List Token} {xs : List Param} {x : Param} (p : Place) → ParametersBegun modules ts xs → Parameter modules us x
    → Parameters modules (ts ++ (us ++ sign p signs.RightParen ∷ [])) (xs ++ x ∷ [])
last-parameter p b d = close-parameters b (last_one p d)

-- the types of a directive
close-types : {modules : Modules} {ts us vs : List Token} {xs ys : List Path} {t : Path} → TypesBegun modules ts xs → Named modules us t
    → MoreTypes modules vs ys → Types modules (ts ++ (us ++ vs)) (xs ++ t ∷ ys)
close-types no_type d e = types d e
close-types {modules} {us = ms} {vs = vs} {ys = ys} {t = t} (then_type {ts = ts} {us = us} {xs = xs} {all = all} {t = first} p b d is) e f =
    subst (λ l. Types modules ((ts ++ (us ++ sign p signs.Comma ∷ [])) ++ (ms ++ vs)) l) (sym (append_assoc xs (first ∷ []) (t ∷ ys)) ∙ ap (λ l. l ++ t ∷ ys) (sym is))
    (subst (λ l. Types modules l (xs ++ first ∷ t ∷ ys)) (with-sign ts us (ms ++ vs) (sign p signs.Comma)) (close-types b d (also_type p e f)))

pub types-end : {modules : Modules} {ts : List Token} {xs : List Path} (q : Place) → TypesBegun modules ts xs
    → Types modules (ts ++ sign q signs.RightParen ∷ []) xs
types-end q no_type = no_types q
types-end {modules} q (then_type {ts = ts} {us = us} {xs = xs} {t = t} p b d is) =
    subst (λ l. Types modules ((ts ++ (us ++ sign p signs.Comma ∷ [])) ++ sign q signs.RightParen ∷ []) l) (sym is)
    (subst (λ l. Types modules l (xs ++ t ∷ [])) (with-sign ts us (sign q signs.RightParen ∷ []) (sign p signs.Comma)) (close-types b d (comma_ends p q)))

-- a type and the end, behind at least one type
no-cons {ℓ} : {A : Type ℓ} (xs : List Path) (x t : Path) (ts : List Path) → t ∷ ts ≡ [] → A
no-cons xs x t ts h = cc

last-types : {modules : Modules} {ts us : List Token} {xs : List Path} {t : Path} (q : Place) → TypesBegun modules ts xs → (xs ≡ [] → ⊥) → Named modules us t
    → Types modules (ts ++ (us ++ sign q signs.RightParen ∷ [])) (xs ++ t ∷ [])
last-types q no_type some d = absurd (some refl)
last-types {modules} {us = ms} {t = t} q (then_type {ts = ts} {us = us} {xs = xs} {t = first} p b d is) some e =
    subst (λ l. Types modules ((ts ++ (us ++ sign p signs.Comma ∷ [])) ++ (ms ++ sign q signs.RightParen ∷ [])) l) (sym (append_assoc xs (first ∷ []) (t ∷ [])) ∙ ap (λ l. l ++ t ∷ []) (sym is))
    (subst (λ l. Types modules l (xs ++ first ∷ t ∷ [])) (with-sign ts us (ms ++ sign q signs.RightParen ∷ []) (sign p signs.Comma)) (close-types b d (last_type p q e)))

pub last-type-ends : {modules : Modules} {ts us : List Token} {first : Path} {xs : List Path} {t : Path} (q : Place) → TypesBegun modules ts (first ∷ xs)
    → Named modules us t → Types modules (ts ++ (us ++ sign q signs.RightParen ∷ [])) (first ∷ xs ++ t ∷ [])
last-type-ends {first = first} {xs = xs} q b d = last-types q b (λ h. no-cons xs first first xs h) d

-- fields
pub close-fields : {modules : Modules} {ts us : List Token} {xs ys : List Param} → FieldsBegun modules ts xs → Fields modules us ys
    → Fields modules (ts ++ us) (xs ++ ys)
close-fields no_field_begun d = d
close-fields {modules} {us = vs} {ys = ys} (then_separator {ts = ts} {xs = xs} p b) d =
    subst (λ l. Fields modules l (xs ++ ys)) (sym (append_assoc ts (separator p ∷ []) vs)) (close-fields b (skip_field p d))
close-fields {modules} {us = vs} {ys = ys} (then_field {ts = ts} {us = us} {xs = xs} {x = x} p b d) e =
    subst (λ l. Fields modules ((ts ++ (us ++ separator p ∷ [])) ++ vs) l) (sym (append_assoc xs (x ∷ []) ys))
    (subst (λ l. Fields modules l (xs ++ x ∷ ys)) (with-sign ts us vs (separator p)) (close-fields b (then_fields p d e)))

-- statements
block-of : {modules : Modules} {a b : List Token} {ss us : Lines} → Block modules a ss → a ≡ b → ss ≡ us → Block modules b us
block-of {modules} {a} {b} {ss} {us} d p q = subst (λ x. Block modules x us) p (subst (λ x. Block modules a x) q d)

pub close-lines : {modules : Modules} {ts us : List Token} {ss more : Lines} → LinesBegun modules ts ss → Block modules us more
    → Block modules (ts ++ us) (joined ss more)
close-lines {more = more} no_line d = block-of d refl (sym (none-joined more))
close-lines {us = vs} (then_blank {ts = ts} p b) d = block-of (close-lines b (skip p d)) (sym (append_assoc ts (separator p ∷ []) vs)) refl
close-lines {us = vs} {more = more} (then_line {ts = ts} {us = us} {ss = ss} {s = s} p b d) e =
    block-of (close-lines b (then_lines p d e)) (with-sign ts us vs (separator p)) (sym (joined-after ss more s))
close-lines {us = vs} {more = more} (then_name {ts = ts} {ss = ss} p q r m is b) d =
    block-of (close-lines b (then_after_name p q r m is d)) (sym (append_assoc ts (token p kinds.AtEval ∷ name q m ∷ separator r ∷ []) vs))
    (sym (joined-after ss more (eval_name (spot q m))))

pub lines-end : {modules : Modules} {ts : List Token} {ss : Lines} → LinesBegun modules ts ss → Block modules ts ss
lines-end {ts = ts} {ss = ss} b = block-of (close-lines b none) (append-nil ts) (joined-none ss)

pub lines-last : {modules : Modules} {ts us : List Token} {ss : Lines} {s : Line} → LinesBegun modules ts ss → Statement modules us s
    → Block modules (ts ++ us) (line_after ss s)
lines-last {ss = ss} {s = s} b d = block-of (close-lines b (last_line d)) refl (joined-one ss s)

-- items
items-of : {modules : Modules} {kind : Kind} {a b : List Token} {is js : Entries} → Items modules kind a is → a ≡ b → is ≡ js → Items modules kind b js
items-of {modules} {kind} {a} {b} {is} {js} d p q = subst (λ x. Items modules kind x js) p (subst (λ x. Items modules kind a x) q d)

pub close-items : {modules : Modules} {kind : Kind} {ts us : List Token} {is more : Entries} → ItemsBegun modules kind ts is → Items modules kind us more
    → Items modules kind (ts ++ us) (united is more)
close-items {more = more} no_item d = items-of d refl (sym (none-united more))
close-items {us = vs} (then_gap {ts = ts} p b) d = items-of (close-items b (skip_item p d)) (sym (append_assoc ts (separator p ∷ []) vs)) refl
close-items {us = vs} {more = more} (then_item {ts = ts} {us = us} {is = is} {i = i} p b d) e =
    items-of (close-items b (then_items p d e)) (with-sign ts us vs (separator p)) (sym (united-after is more i))
close-items {us = vs} {more = more} (then_module {ts = ts} {is = is} p q r m known b) d =
    items-of (close-items b (after_name p q r m known d)) (sym (append_assoc ts (token p kinds.AtEval ∷ name q m ∷ separator r ∷ []) vs))
    (sym (united-after is more (run_of (eval_name (spot q m)))))

pub items-end : {modules : Modules} {kind : Kind} {ts us : List Token} {is : Entries} → ItemsBegun modules kind ts is → Ends kind us
    → Items modules kind (ts ++ us) is
items-end {is = is} b e = items-of (close-items b (no_items e)) refl (united-none is)

pub items-last : {modules : Modules} {kind : Kind} {ts us vs : List Token} {is : Entries} {i : Entry} → ItemsBegun modules kind ts is → Item modules kind us i
    → Ends kind vs → Items modules kind ((ts ++ us) ++ vs) (entry_after is i)
items-last {ts = ts} {us = us} {vs = vs} {is = is} {i = i} b d e =
    items-of (close-items b (last_item d e)) (sym (append_assoc ts us vs)) (sym (united-one is i))

pub items-name : {modules : Modules} {ts : List Token} {is : Entries} (p q e : Place) (m : List ℕ) → is_module modules m ≡ true
    → ItemsBegun modules script ts is
    → Items modules script (ts ++ token p kinds.AtEval ∷ name q m ∷ token e kinds.Eof ∷ []) (entry_after is (run_of (eval_name (spot q m))))
items-name {is = is} p q e m known b =
    items-of (close-items b (name_ends p q e m refl known)) refl (sym (united-one is (run_of (eval_name (spot q m)))))

-- what a package uses
pub close-uses : {modules : Modules} {ts us : List Token} {some more : List Spot} {is : Entries} → UsesBegun ts some → PackageRest modules us more is
    → PackageRest modules (ts ++ us) (some ++ more) is
close-uses no_use d = d
close-uses {modules} {us = vs} {more = more} {is = is} (then_space {ts = ts} {names = names} p b) d =
    subst (λ l. PackageRest modules l (names ++ more) is) (sym (append_assoc ts (separator p ∷ []) vs)) (close-uses b (skip_before p d))
close-uses {modules} {us = vs} {more = more} {is = is} (then_use {ts = ts} {us = us} {names = names} {some = some} p q b d) e =
    subst (λ l. PackageRest modules ((ts ++ word p words.Using ∷ (us ++ separator q ∷ [])) ++ vs) l is) (sym (append_assoc names some more))
    (subst (λ l. PackageRest modules l (names ++ (some ++ more)) is)
    (ap (λ l. ts ++ word p words.Using ∷ l) (sym (append_assoc us (separator q ∷ []) vs)) ∙ sym (append_assoc ts (word p words.Using ∷ (us ++ separator q ∷ [])) vs))
    (close-uses b (uses p q d e)))

-- names
pub names-end : {ts : List Token} {xs : List Spot} (p : Place) (x : List ℕ) → NamesBegun ts xs → Names (ts ++ name p x ∷ []) (xs ++ spot p x ∷ [])
names-end p x b = close-names b (one_name p x)
  where
    close-names : {ts us : List Token} {xs ys : List Spot} → NamesBegun ts xs → Names us ys → Names (ts ++ us) (xs ++ ys)
    close-names no_names d = d
    close-names {us = us} {ys = ys} (then_names {ts = ts} {xs = xs} p q x b) d =
        subst (λ l. Names ((ts ++ name p x ∷ sign q signs.Comma ∷ []) ++ us) l) (sym (append_assoc xs (spot p x ∷ []) ys))
        (subst (λ l. Names l (xs ++ spot p x ∷ ys)) (sym (append_assoc ts (name p x ∷ sign q signs.Comma ∷ []) us)) (close-names b (also_name p q x d)))

names-before : {ts : List Token} {xs : List Spot} (p q : Place) (x : List ℕ) → NamesBegun ts xs
    → NamesBegun (name p x ∷ sign q signs.Comma ∷ ts) (spot p x ∷ xs)
names-before p q x no_names = then_names p q x no_names
names-before p q x (then_names r s y b) = then_names r s y (names-before p q x b)

pub names-comma : {ts : List Token} {xs : List Spot} (q : Place) → Names ts xs → NamesBegun (ts ++ sign q signs.Comma ∷ []) xs
names-comma q (one_name p x) = then_names p q x no_names
names-comma q (also_name p r x d) = names-before p r x (names-comma q d)

pub separators-more : {ts : List Token} (p : Place) → Separators ts → Separators (ts ++ separator p ∷ [])
separators-more p no_separator = a_separator p no_separator
separators-more p (a_separator q s) = a_separator q (separators-more p s)
