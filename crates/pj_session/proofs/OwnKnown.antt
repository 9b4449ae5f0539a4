-- The own names that are known, beside the events.
use Rattle.std.proofs.Common.{◌≡◌, ℕ, Bool, true, false, cond, not, ◌&&◌, ◌||◌, List, [], ◌∷◌, Option, Some, None, length, refl, sym, ap, subst, ◌∙◌}
use Rattle.std.specs.Prelude.{is_none}
use Rattle.std.specs.Option.{option_flatten, option_map_or}
use Rattle.std.specs.Str.{bytes_eq}
use Rattle.std.proofs.lemmas.Bool.{false≢true}
use Rattle.pj_meaning.specs.Tree.{Text, Expr, Exprs, Stmt}
use Rattle.pj_meaning.specs.Tree as tree
use Rattle.pj_meaning.specs.Names.{base_name}
use Rattle.pj_plain.specs.Forms.{is_new, may_be_constant, own_call, parameter_count, printed, role_of}
use Rattle.pj_tree.specs.declared.tree.Sym.{Sym}
use Rattle.pj_tree.specs.declared.tree.Expr as declared
use Rattle.pj_tree.specs.declared.tree.Stmt as statements
use Rattle.pj_tree.specs.declared.item.TopItem.{TopItem}
use Rattle.pj_tree.specs.declared.item.TopItem.TheVariants as item
use Rattle.pj_plain.specs.Held.{held_expr, held_item, held_stmt, held_text}
use Rattle.pj_plain.specs.Names.{free_name}
use Rattle.pj_plain.specs.Plain.{has_count, how_many, is_empty, literals_only, plain_expr}
use Rattle.pj_words.specs.Words.{is_base_name}
use Rattle.pj_session.specs.Events.{Event, Defines, Binds, Loads}
use Rattle.pj_session.specs.Things.{Calls, Holds, own_in}
use Rattle.pj_session.specs.Good.{Good, GoodEvents}
use Rattle.pj_session.specs.OwnItems.{is_own_call, is_valued_here, known_in}
use Rattle.pj_session.specs.SessionItems.{is_far, session_item}
use Rattle.pj_session.proofs.HeldParts.{not_bases}
use Rattle.pj_session.proofs.Texts.{same_text, bytes_eq-comm, and_left, and_right}

-- a name that isn't known is new
pub new_known : (es : List Event) (name : Text) → is_new name (known_in es) ≡ true → own_in es name ≡ None
new_known [] name new = refl
new_known (Defines f ps e ∷ es) name new = rw (bytes_eq-comm f name) (one (bytes_eq name f) (new_known es name) new)
  where
    one : (t : Bool) → (is_new name (known_in es) ≡ true → own_in es name ≡ None) → is_none (cond t (Some (Some (length ps))) (role_of name (known_in es))) ≡ true → cond t (Some (Calls (Some (ps, e)))) (own_in es name) ≡ None
    one true rest n = absurd (false≢true n)
    one false rest n = rest n
new_known (Binds x z ∷ es) name new = rw (bytes_eq-comm x name) (one (bytes_eq name x) (new_known es name) new)
  where
    one : (t : Bool) → (is_new name (known_in es) ≡ true → own_in es name ≡ None) → is_none (cond t (Some None) (role_of name (known_in es))) ≡ true → cond t (Some (Holds z)) (own_in es name) ≡ None
    one true rest n = absurd (false≢true n)
    one false rest n = rest n
new_known (Loads held ∷ es) name new = new_known es name new

-- a function that is known has no name of Base
counted_free : (here : Text) (es : List Event) (n : ℕ) (f : Text) → GoodEvents here es → has_count n (parameter_count f (known_in es)) ≡ true → is_base_name f ≡ false
counted_free here [] n f good is = absurd (false≢true is)
counted_free here (Defines g ps e ∷ es) n f good is = one (bytes_eq f g) refl (counted_free here es n f good.1.1) is
  where
    one : (t : Bool) → bytes_eq f g ≡ t → (has_count n (parameter_count f (known_in es)) ≡ true → is_base_name f ≡ false) → has_count n (option_flatten (cond t (Some (Some (length ps))) (role_of f (known_in es)))) ≡ true → is_base_name f ≡ false
    one true same rest h = ap is_base_name (same_text f g same) ∙ good.0.free
    one false same rest h = rest h
counted_free here (Binds x z ∷ es) n f good is = one (bytes_eq f x) (counted_free here es n f good.1.1) is
  where
    one : (t : Bool) → (has_count n (parameter_count f (known_in es)) ≡ true → is_base_name f ≡ false) → has_count n (option_flatten (cond t (Some None) (role_of f (known_in es)))) ≡ true → is_base_name f ≡ false
    one true rest h = absurd (false≢true h)
    one false rest h = rest h
counted_free here (Loads held ∷ es) n f good is = counted_free here es n f good.1.1 is

-- a call of a function that is known is one of a name without a module
pub known_call : (here : Text) (es : List Event) → GoodEvents here es → (e : Expr) → own_call (known_in es) e ≡ true → is_own_call e ≡ true
known_call here es good (tree.Call m f as_) is = one (is_empty m) is
  where
    one : (t : Bool) → (t && (literals_only as_ && has_count (how_many as_) (parameter_count f (known_in es)))) ≡ true → (t && (cond t (not (is_base_name f)) (not (bytes_eq m base_name)) && literals_only as_)) ≡ true
    one true h = rw (counted_free here es (how_many as_) f good (and_right (literals_only as_) _ h), and_left (literals_only as_) _ h) refl
    one false h = absurd (false≢true h)
known_call here es good tree.Nothing is = absurd (false≢true is)
known_call here es good tree.False is = absurd (false≢true is)
known_call here es good tree.True is = absurd (false≢true is)
known_call here es good (tree.Int z) is = absurd (false≢true is)
known_call here es good (tree.Str t) is = absurd (false≢true is)
known_call here es good (tree.Local x) is = absurd (false≢true is)
known_call here es good (tree.Global m x) is = absurd (false≢true is)
known_call here es good (tree.Field a x) is = absurd (false≢true is)
known_call here es good (tree.CallLocal x as_) is = absurd (false≢true is)
known_call here es good (tree.Latest a as_) is = absurd (false≢true is)
known_call here es good (tree.And a b) is = absurd (false≢true is)
known_call here es good (tree.Or a b) is = absurd (false≢true is)
known_call here es good (tree.Cond a b c) is = absurd (false≢true is)
known_call here es good (tree.Same a b) is = absurd (false≢true is)
known_call here es good (tree.Intrin i as_) is = absurd (false≢true is)

pub known_constant : (here : Text) (es : List Event) → GoodEvents here es → (e : Expr) → may_be_constant (known_in es) e ≡ true → is_valued_here e ≡ true
known_constant here es good e is = one (plain_expr [] e) is
  where
    one : (t : Bool) → (t || own_call (known_in es) e) ≡ true → (t || is_own_call e) ≡ true
    one true h = refl
    one false h = known_call here es good e h

pub known_printed : (here : Text) (es : List Event) → GoodEvents here es → (s : Stmt) → option_map_or (λ e. own_call (known_in es) e || is_far e) (printed s) false ≡ true → option_map_or (λ e. is_own_call e || is_far e) (printed s) false ≡ true
known_printed here es good s is = one (printed s) is
  where
    one : (o : Option Expr) → option_map_or (λ e. own_call (known_in es) e || is_far e) o false ≡ true → option_map_or (λ e. is_own_call e || is_far e) o false ≡ true
    one None h = absurd (false≢true h)
    one (Some e) h = two (own_call (known_in es) e) refl h
      where
        two : (t : Bool) → own_call (known_in es) e ≡ t → (t || is_far e) ≡ true → (is_own_call e || is_far e) ≡ true
        two true own h' = ap (λ b. b || is_far e) (known_call here es good e own)
        two false own h' = three (is_own_call e)
          where
            three : (u : Bool) → (u || is_far e) ≡ true
            three true = refl
            three false = h'

-- items, by what their trees are

pub constant_as : (P : tree.TopItem → Type 0) (here : Text) (es : List Event) (it : TopItem) (x : Sym) (v : declared.Expr) (name : Text) → it ≡ item.Const x v → name ≡ held_text x
    → session_item (known_in es) (held_item it) ≡ true → Good here es
    → (is_valued_here (held_expr v) ≡ true → is_base_name name ≡ false → Good here es → P (tree.Const name (held_expr v))) → P (held_item it)
constant_as P here es it x v name same same_name form good h =
    let there : session_item (known_in es) (held_item (item.Const x v)) ≡ true = subst (λ (i : TopItem). session_item (known_in es) (held_item i) ≡ true) same form in
    let behind : (free_name (held_text x) && may_be_constant (known_in es) (held_expr v)) ≡ true = and_right (is_new (held_text x) (known_in es)) _ there in
    let valued : is_valued_here (held_expr v) ≡ true = known_constant here es good.each (held_expr v) (and_right (free_name (held_text x)) _ behind) in
    let free : is_base_name name ≡ false = ap is_base_name same_name ∙ not_bases (held_text x) (and_left (free_name (held_text x)) _ behind) in
    subst (λ (i : TopItem). P (held_item i)) (sym same) (subst (λ (n : Text). P (tree.Const n (held_expr v))) same_name (h valued free good))

pub constant_free : (es : List Event) (x : Text) (e : Expr) → session_item (known_in es) (tree.Const x e) ≡ true → is_base_name x ≡ false
constant_free es x e form = not_bases x (and_left (free_name x) _ (and_right (is_new x (known_in es)) _ form))

pub shown_as : (P : tree.TopItem → Type 0) (here : Text) (es : List Event) (it : TopItem) (s : statements.Stmt) → it ≡ item.Run s
    → session_item (known_in es) (held_item it) ≡ true → Good here es
    → (option_map_or (λ e. is_own_call e || is_far e) (printed (held_stmt s)) false ≡ true → Good here es → P (tree.Run (held_stmt s))) → P (held_item it)
shown_as P here es it s same form good h =
    let there : session_item (known_in es) (held_item (item.Run s)) ≡ true = subst (λ (i : TopItem). session_item (known_in es) (held_item i) ≡ true) same form in
    subst (λ (i : TopItem). P (held_item i)) (sym same) (h (known_printed here es good.each (held_stmt s) there) good)
