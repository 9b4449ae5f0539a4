-- The state after events, with all its lists written out.
use Rattle.std.proofs.Common.{◌≡◌, ℕ, suc, List, [], ◌∷◌, ◌++◌, map, refl, sym, ap, ◌∙◌, append_assoc}
use Rattle.std.proofs.lemmas.List.{append-nil}
use Rattle.pj_meaning.specs.Tree.{Text}
use Rattle.pj_meaning.specs.Names.{id}
use Rattle.pj_meaning.specs.Types.{TypeRow}
use Rattle.pj_meaning.specs.Values.{Whole, ObjectRow}
use Rattle.pj_meaning.specs.Methods.{Method}
use Rattle.pj_meaning.specs.State.{State, Binding, Loaded, FunctionName, Constant}
use Rattle.pj_meaning.specs.Base.{base_types, base_methods, base_bindings}
use Rattle.pj_meaning.specs.Content.{Content}
use Rattle.pj_meaning.specs.Packages.{born_at, type_name, own_function}
use Rattle.pj_session.specs.Events.{method_of, Event, Defines, Binds, Loads, with_event, after_events, state_of}
use Rattle.pj_session.specs.Good.{GoodEvents}

-- the methods of the events behind this world, each with its birth
abbrev pub methods_in : Text → ℕ → List Event → List Method
methods_in here w [] = []
methods_in here w (Defines f ps e ∷ es) = method_of here f (ps, e) (suc w) ∷ methods_in here (suc w) es
methods_in here w (Binds x z ∷ es) = methods_in here w es
methods_in here w (Loads held ∷ es) = map (born_at (suc w) held.content.name) held.content.methods ++ methods_in here (suc w) es

abbrev pub world_in : ℕ → List Event → ℕ
world_in w [] = w
world_in w (Defines f ps e ∷ es) = world_in (suc w) es
world_in w (Binds x z ∷ es) = world_in w es
world_in w (Loads held ∷ es) = world_in (suc w) es

abbrev pub image_bindings : Content → List Binding
image_bindings c = map (own_function c.name) c.functions ++ c.bindings

abbrev pub bindings_in : Text → List Event → List Binding
bindings_in here [] = []
bindings_in here (Defines f ps e ∷ es) = record { home = here; name = f; role = FunctionName (id here f) } ∷ bindings_in here es
bindings_in here (Binds x z ∷ es) = record { home = here; name = x; role = Constant (Whole z) } ∷ bindings_in here es
bindings_in here (Loads held ∷ es) = image_bindings held.content ++ bindings_in here es

abbrev pub images_in : List Event → List Loaded
images_in [] = []
images_in (Defines f ps e ∷ es) = images_in es
images_in (Binds x z ∷ es) = images_in es
images_in (Loads held ∷ es) = record { name = held.content.name; identity = held.identity } ∷ images_in es

abbrev pub wide_state : List TypeRow → List ObjectRow → Text → List Method → List Binding → List Loaded → ℕ → Text → State
wide_state types objects here methods bindings images newest printed = record {
  here = here;
  types = types;
  methods = methods;
  bindings = bindings;
  objects = objects;
  allocated = 0;
  images = images;
  wanted = [];
  newest = newest;
  printed = printed;
}

-- Base's types and no objects
abbrev pub made_state : Text → List Method → List Binding → List Loaded → ℕ → Text → State
made_state here methods bindings images newest printed = wide_state base_types [] here methods bindings images newest printed

pub after_all : (here : Text) (ms : List Method) (bs : List Binding) (is : List Loaded) (w : ℕ) (printed : Text) (es : List Event) → GoodEvents here es
    → after_events (made_state here ms bs is w printed) es
    ≡ made_state here (ms ++ methods_in here w es) (bs ++ bindings_in here es) (is ++ images_in es) (world_in w es) printed
after_all here ms bs is w printed [] good =
    ap (λ xs. made_state here xs bs is w printed) (sym (append-nil ms))
    ∙ ap (λ ys. made_state here (ms ++ []) ys is w printed) (sym (append-nil bs))
    ∙ ap (λ zs. made_state here (ms ++ []) (bs ++ []) zs w printed) (sym (append-nil is))
after_all here ms bs is w printed (Defines f ps e ∷ es) good =
    let m = method_of here f (ps, e) (suc w) in
    let b : Binding = record { home = here; name = f; role = FunctionName (id here f) } in
    after_all here (ms ++ m ∷ []) (bs ++ b ∷ []) is (suc w) printed es good.1.1
    ∙ ap (λ xs. made_state here xs ((bs ++ b ∷ []) ++ bindings_in here es) (is ++ images_in es) (world_in (suc w) es) printed) (append_assoc ms (m ∷ []) (methods_in here (suc w) es))
    ∙ ap (λ ys. made_state here (ms ++ m ∷ methods_in here (suc w) es) ys (is ++ images_in es) (world_in (suc w) es) printed) (append_assoc bs (b ∷ []) (bindings_in here es))
after_all here ms bs is w printed (Binds x z ∷ es) good =
    let b : Binding = record { home = here; name = x; role = Constant (Whole z) } in
    after_all here ms (bs ++ b ∷ []) is w printed es good.1.1
    ∙ ap (λ ys. made_state here (ms ++ methods_in here w es) ys (is ++ images_in es) (world_in w es) printed) (append_assoc bs (b ∷ []) (bindings_in here es))
after_all here ms bs is w printed (Loads held ∷ es) good =
    let c = held.content in
    let new = map (born_at (suc w) c.name) c.methods in
    let i : Loaded = record { name = c.name; identity = held.identity } in
    ap (λ ts. after_events (wide_state (base_types ++ ts) c.objects here (ms ++ new) (bs ++ (map type_name ts ++ image_bindings c)) (is ++ i ∷ []) (suc w) printed) es) good.0.types
    ∙ ap (λ os. after_events (wide_state base_types os here (ms ++ new) (bs ++ image_bindings c) (is ++ i ∷ []) (suc w) printed) es) good.0.objects
    ∙ after_all here (ms ++ new) (bs ++ image_bindings c) (is ++ i ∷ []) (suc w) printed es good.1.1
    ∙ ap (λ xs. made_state here xs ((bs ++ image_bindings c) ++ bindings_in here es) ((is ++ i ∷ []) ++ images_in es) (world_in (suc w) es) printed) (append_assoc ms new (methods_in here (suc w) es))
    ∙ ap (λ ys. made_state here (ms ++ (new ++ methods_in here (suc w) es)) ys ((is ++ i ∷ []) ++ images_in es) (world_in (suc w) es) printed) (append_assoc bs (image_bindings c) (bindings_in here es))
    ∙ ap (λ zs. made_state here (ms ++ (new ++ methods_in here (suc w) es)) (bs ++ (image_bindings c ++ bindings_in here es)) zs (world_in (suc w) es) printed) (append_assoc is (i ∷ []) (images_in es))

abbrev pub closed_state : Text → List Event → Text → State
closed_state here es printed =
    made_state here (base_methods ++ methods_in here 1 es) (base_bindings ++ bindings_in here es) (images_in es) (world_in 1 es) printed

pub closed : (here : Text) (es : List Event) (printed : Text) → GoodEvents here es → state_of here es printed ≡ closed_state here es printed
closed here es printed good = after_all here base_methods base_bindings [] 1 printed es good

-- one more event
pub one_more : (s : State) (es : List Event) (e : Event) → after_events s (es ++ e ∷ []) ≡ with_event (after_events s es) e
one_more s [] e = refl
one_more s (x ∷ es) e = one_more (with_event s x) es e
