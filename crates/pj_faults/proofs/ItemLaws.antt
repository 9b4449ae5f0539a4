-- The fault that counts in items, one equation for each variant.
use Rattle.std.proofs.Common.{◌≡◌, Bool, true, not, ◌||◌, List, [], ◌∷◌, ◌++◌, Option, Some, None, option_map, slice_get, codes, refl, sym, ap, ◌∙◌, append_assoc}
use Rattle.std.specs.Str.{bytes_eq}
use Rattle.std.proofs.lemmas.List.{append-nil}
use Rattle.std.proofs.lemmas.Option.{slice_get-map}
use Rattle.pj_syntax.specs.declared.expression.Spot.{Spot}
use Rattle.pj_syntax.specs.declared.expression.Path.{Path}
use Rattle.pj_syntax.specs.declared.expression.Expr.{Expr}
use Rattle.pj_syntax.specs.declared.statement.Param.{Param}
use Rattle.pj_syntax.specs.declared.statement.Stmt.{Stmt}
use Rattle.pj_syntax.specs.declared.statement.Function.{Function}
use Rattle.pj_syntax.specs.declared.item.Item.{Item}
use Rattle.pj_syntax.specs.declared.item.Item.TheVariants as i
use Rattle.pj_syntax.specs.declared.item.Script.{Script}
use Rattle.pj_syntax.specs.declared.item.Package.{Package}
use Rattle.pj_faults.specs.declared.fault.Fault.{Fault}
use Rattle.pj_faults.specs.declared.fault.ScopeKind.TheVariants.{Many, ModuleName}
use Rattle.pj_faults.specs.First.{first, sooner, when}
use Rattle.pj_faults.specs.Located.{Text, value_of}
use Rattle.pj_faults.specs.Introduced.{with_name}
use Rattle.pj_faults.specs.Faults as f
use Rattle.pj_faults.specs.Faults.{faulty, too_many, path_at}
use Rattle.pj_faults.specs.Found.{bound_first, list_first, value_first, method_first, run_first, used_first, many_types, item_first, items_first, distinct, script_first, package_first}
use Rattle.pj_faults.proofs.FirstLaws.{first-none, first-append, first-one}
use Rattle.pj_faults.proofs.ValueLaws.{first-faulty}

used-append : (xs ys : List Spot) → f.all_used (xs ++ ys) ≡ f.all_used xs ++ f.all_used ys
used-append [] ys = refl
used-append (x ∷ xs) ys = ap (λ fs. f.used x ++ fs) (used-append xs ys) ∙ sym (append_assoc (f.used x) (f.all_used xs) (f.all_used ys))

pub used-none : used_first [] ≡ None
unfolding used_first
used-none = first-none

pub used-snoc : (xs : List Spot) (x : Spot) → used_first (xs ++ x ∷ []) ≡ sooner (used_first xs) (when (bytes_eq x.text (codes "Base") || bytes_eq x.text (codes "Main")) ModuleName x.at)
unfolding used_first
used-snoc xs x =
    ap first (used-append xs (x ∷ []))
    ∙ first-append (f.all_used xs) (f.used x ++ [])
    ∙ ap (λ fs. sooner (first (f.all_used xs)) (first fs)) (append-nil (f.used x))
    ∙ ap (sooner (first (f.all_used xs))) (first-faulty (bytes_eq x.text (codes "Base") || bytes_eq x.text (codes "Main")) ModuleName x.at)

unfoldable pub past : Option Path → Option Fault
past None = None
past (Some p) = when true Many (path_at p)

past-map : (p : Option Path) → first (too_many (option_map path_at p)) ≡ past p
unfolding when past
past-map None = first-none
past-map (Some p) = first-one (record { place = path_at p; kind = Many })

many-past : (ps : List Path) → many_types ps ≡ past (slice_get ps 16)
unfolding many_types
many-past ps = ap (λ p. first (too_many p)) (slice_get-map path_at ps 16) ∙ past-map (slice_get ps 16)

pub types-None : (ps : List Path) → slice_get ps 16 ≡ None → many_types ps ≡ None
unfolding past
types-None ps h = many-past ps ∙ ap past h

pub types-Some : (ps : List Path) (p : Path) → slice_get ps 16 ≡ Some p → many_types ps ≡ when true Many (path_at p)
unfolding past
types-Some ps p h = many-past ps ∙ ap past h

pub item-Using : (ms : List Text) (xs : List Spot) → item_first ms (i.Using xs) ≡ used_first xs
unfolding item_first used_first
item-Using ms xs = refl

pub item-Abstract : (ms : List Text) (x : Spot) (p : Option Path) → item_first ms (i.Abstract x p) ≡ bound_first ms x
unfolding item_first bound_first
item-Abstract ms x p = refl

pub item-Struct : (ms : List Text) (m : Bool) (x : Spot) (p : Option Path) (fields : List Param) → item_first ms (i.Struct m x p fields) ≡ sooner (bound_first ms x) (list_first fields)
unfolding item_first bound_first list_first
item-Struct ms m x p fields = first-append (f.bound ms x) (f.list_faults fields)

pub item-Def : (ms : List Text) (d : Function) → item_first ms (i.Def d) ≡ method_first ms d
unfolding item_first method_first
item-Def ms d = refl

pub item-Declare : (ms : List Text) (x : Spot) → item_first ms (i.Declare x) ≡ bound_first ms x
unfolding item_first bound_first
item-Declare ms x = refl

pub item-Const : (ms : List Text) (x : Spot) (e : Expr) → item_first ms (i.Const x e) ≡ sooner (bound_first ms x) (value_first [] [] e)
unfolding item_first bound_first value_first
item-Const ms x e = first-append (f.bound ms x) (f.value_faults [] [] (value_of e))

pub item-Directive : (ms : List Text) (p : Path) (types : List Path) → item_first ms (i.Directive p types) ≡ many_types types
unfolding item_first many_types
item-Directive ms p types = refl

pub item-Run : (ms : List Text) (x : Stmt) → item_first ms (i.Run x) ≡ run_first ms x
unfolding item_first run_first
item-Run ms x = refl

items-append : (ms : List Text) (xs ys : List Item) → f.all_items ms (xs ++ ys) ≡ f.all_items ms xs ++ f.all_items ms ys
items-append ms [] ys = refl
items-append ms (x ∷ xs) ys = ap (λ fs. f.item_faults ms x ++ fs) (items-append ms xs ys) ∙ sym (append_assoc (f.item_faults ms x) (f.all_items ms xs) (f.all_items ms ys))

pub items-none : (ms : List Text) → items_first ms [] ≡ None
unfolding items_first
items-none ms = first-none

pub items-snoc : (ms : List Text) (xs : List Item) (x : Item) → items_first ms (xs ++ x ∷ []) ≡ sooner (items_first ms xs) (item_first ms x)
unfolding items_first item_first
items-snoc ms xs x =
    ap first (items-append ms xs (x ∷ []))
    ∙ first-append (f.all_items ms xs) (f.item_faults ms x ++ [])
    ∙ ap (λ fs. sooner (first (f.all_items ms xs)) (first fs)) (append-nil (f.item_faults ms x))

pub distinct-none : (seen : List Text) → distinct seen [] ≡ seen
unfolding distinct
distinct-none seen = refl

pub distinct-snoc : (seen xs : List Text) (x : Text) → distinct seen (xs ++ x ∷ []) ≡ with_name (distinct seen xs) x
unfolding distinct
distinct-snoc seen [] x = refl
distinct-snoc seen (y ∷ xs) x = distinct-snoc (with_name seen y) xs x

pub script-is : (ms : List Text) (s : Script) → script_first ms s ≡ items_first (distinct [] ms) s.items
unfolding script_first items_first
script-is ms s = refl

pub package-is : (ms : List Text) (asked : Text) (p : Package) → package_first ms asked p ≡
    sooner (when (not (bytes_eq p.name.text asked)) ModuleName p.name.at) (sooner (used_first p.uses) (items_first (distinct [] ms) p.items))
unfolding package_first items_first used_first
package-is ms asked p =
    let name = faulty (not (bytes_eq p.name.text asked)) ModuleName p.name.at in
    let uses = f.all_used p.uses in
    let items = f.all_items (distinct [] ms) p.items in
    first-append name (uses ++ items)
    ∙ ap (λ t. sooner t (first (uses ++ items))) (first-faulty (not (bytes_eq p.name.text asked)) ModuleName p.name.at)
    ∙ ap (sooner (when (not (bytes_eq p.name.text asked)) ModuleName p.name.at)) (first-append uses items)

pub ruleset item_rules = (used-none, used-snoc, types-None, types-Some, item-Using, item-Abstract, item-Struct, item-Def, item-Declare, item-Const, item-Directive, item-Run, items-none, items-snoc, distinct-none, distinct-snoc, script-is, package-is)
