-- Items of a script's form and of a package's form are among those that a session evaluates by themselves.
use Rattle.std.proofs.Common.{◌≡◌, ◌⊎◌, inl, inr, Bool, true, false, cond, not, ◌&&◌, ◌||◌, List, [], ◌∷◌, Option, Some, None, refl, sym, ap, ◌∙◌}
use Rattle.std.specs.Prelude.{is_some}
use Rattle.std.specs.Option.{option_map_or}
use Rattle.std.specs.Str.{bytes_eq}
use Rattle.std.proofs.lemmas.Bool.{false≢true}
use Rattle.pj_meaning.specs.Tree.{Text, Expr, TopItem}
use Rattle.pj_meaning.specs.Tree as tree
use Rattle.pj_meaning.specs.Names.{base_name, main_name}
use Rattle.pj_plain.specs.Forms.{Known, is_new, is_start, is_used, may_be_constant, may_print, of_used, own_call, printed, script_item}
use Rattle.pj_plain.specs.Names.{free_name, is_among}
use Rattle.pj_plain.specs.Plain.{is_empty, plain_definition}
use Rattle.pj_session.specs.Events.{Event, Defines, Binds, Loads}
use Rattle.pj_session.specs.Things.{image_in}
use Rattle.pj_session.specs.Good.{Good, GoodEvents}
use Rattle.pj_session.specs.OwnItems.{known_in}
use Rattle.pj_session.specs.Uses.{counts_loaded}
use Rattle.pj_session.specs.SessionItems.{is_far_home, is_far, session_item, all_loaded, is_using, a_script_item_is_evaluated, a_package_item_is_evaluated}
use Rattle.pj_session.proofs.Texts.{same_text, text_itself, and_left, and_right}

-- packages that are used

loaded_among : (here : Text) (es : List Event) (used : List Text) (m : Text) → all_loaded here es used ≡ true → is_among m used ≡ true → counts_loaded here es m ≡ true
loaded_among here es [] m all is = absurd (false≢true is)
loaded_among here es (u ∷ us) m all is = one (bytes_eq m u) refl (loaded_among here es us m (and_right (counts_loaded here es u) _ all)) is
  where
    one : (t : Bool) → bytes_eq m u ≡ t → (is_among m us ≡ true → counts_loaded here es m ≡ true) → (t || is_among m us) ≡ true → counts_loaded here es m ≡ true
    one true same rest h = ap (counts_loaded here es) (same_text m u same) ∙ and_left (counts_loaded here es u) _ all
    one false same rest h = rest h

-- a script isn't a package that is built, so that an image of the name is there
image_there : (es : List Event) (m : Text) → counts_loaded main_name es m ≡ true → is_some (image_in es m) ≡ true
image_there es m is = one (is_some (image_in es m)) (rw (text_itself main_name) at is)
  where
    one : (t : Bool) → (t || false) ≡ true → t ≡ true
    one true h = refl
    one false h = absurd (false≢true h)

image_far : (here : Text) (es : List Event) (m : Text) → GoodEvents here es → is_some (image_in es m) ≡ true → bytes_eq m base_name ≡ false
image_far here [] m good is = absurd (false≢true is)
image_far here (Defines f ps e ∷ es) m good is = image_far here es m good.1.1 is
image_far here (Binds x z ∷ es) m good is = image_far here es m good.1.1 is
image_far here (Loads held ∷ es) m good is = one (bytes_eq held.content.name m) refl (image_far here es m good.1.1) is
  where
    one : (t : Bool) → bytes_eq held.content.name m ≡ t → (is_some (image_in es m) ≡ true → bytes_eq m base_name ≡ false) → is_some (cond t (Some held.content) (image_in es m)) ≡ true → bytes_eq m base_name ≡ false
    one true same rest h = ap (λ u. bytes_eq u base_name) (sym (same_text held.content.name m same)) ∙ good.0.not_base
    one false same rest h = rest h

module _ (es : List Event) (good : Good main_name es) (used : List Text) (all : all_loaded main_name es used ≡ true) where
  used_far : (m : Text) → is_used m used ≡ true → is_far_home m ≡ true
  used_far m is = one (is_empty m) is
    where
      one : (t : Bool) → (not t && is_among m used) ≡ true → (not t && not (bytes_eq m base_name)) ≡ true
      one true h = absurd (false≢true h)
      one false h = rw (image_far main_name es m good.each (image_there es m (loaded_among main_name es used m all h))) refl

  expr_far : (e : Expr) → of_used used e ≡ true → is_far e ≡ true
  expr_far (tree.Global m x) is = used_far m is
  expr_far (tree.Call m f as_) is = rw (used_far m (and_left (is_used m used) _ is), and_right (is_used m used) _ is) refl
  expr_far tree.Nothing is = absurd (false≢true is)
  expr_far tree.False is = absurd (false≢true is)
  expr_far tree.True is = absurd (false≢true is)
  expr_far (tree.Int z) is = absurd (false≢true is)
  expr_far (tree.Str t) is = absurd (false≢true is)
  expr_far (tree.Local x) is = absurd (false≢true is)
  expr_far (tree.Field a x) is = absurd (false≢true is)
  expr_far (tree.CallLocal x as_) is = absurd (false≢true is)
  expr_far (tree.Latest a as_) is = absurd (false≢true is)
  expr_far (tree.And a b) is = absurd (false≢true is)
  expr_far (tree.Or a b) is = absurd (false≢true is)
  expr_far (tree.Cond a b c) is = absurd (false≢true is)
  expr_far (tree.Same a b) is = absurd (false≢true is)
  expr_far (tree.Intrin i as_) is = absurd (false≢true is)

  line_far : (known : Known) (o : Option Expr) → option_map_or (may_print known used) o false ≡ true → option_map_or (λ e. own_call known e || is_far e) o false ≡ true
  line_far known None is = absurd (false≢true is)
  line_far known (Some e) is = one (own_call known e) is
    where
      one : (t : Bool) → (t || of_used used e) ≡ true → (t || is_far e) ≡ true
      one true h = refl
      one false h = expr_far e h

  item_far : (known : Known) (item : TopItem) → script_item known used item ≡ true → (is_using item ≡ true) ⊎ (session_item known item ≡ true)
  item_far known (tree.Using names) is = inl refl
  item_far known (tree.Def m f params b) is = inr is
  item_far known (tree.Run s) is = inr (line_far known (printed s) is)
  item_far known (tree.AbstractDef name parent) is = absurd (false≢true is)
  item_far known (tree.StructDef mutable name parent fields) is = absurd (false≢true is)
  item_far known (tree.Declare name) is = absurd (false≢true is)
  item_far known (tree.Const x e) is = absurd (false≢true is)
  item_far known (tree.Directive m name types) is = absurd (false≢true is)

pub script_law : a_script_item_is_evaluated
script_law es good used all item is = item_far es good used all (known_in es) item is

-- a package's items

without_middle : (a b c : Bool) → (a && (b && c)) ≡ true → (a && c) ≡ true
without_middle true b c is = and_right b c is
without_middle false b c is = absurd (false≢true is)

pub package_law : a_package_item_is_evaluated
package_law known (tree.Def m f params b) is = without_middle (is_new f known) (not (is_start f)) (plain_definition m f params b) is
package_law known (tree.Const x e) is = without_middle (is_new x known) (not (is_start x)) (free_name x && may_be_constant known e) is
package_law known (tree.Using names) is = absurd (false≢true is)
package_law known (tree.Run s) is = absurd (false≢true is)
package_law known (tree.AbstractDef name parent) is = absurd (false≢true is)
package_law known (tree.StructDef mutable name parent fields) is = absurd (false≢true is)
package_law known (tree.Declare name) is = absurd (false≢true is)
package_law known (tree.Directive m name types) is = absurd (false≢true is)
