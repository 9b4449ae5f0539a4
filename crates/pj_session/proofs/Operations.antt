-- The methods of Base that plain items call, and that they are picked.
use Rattle.std.proofs.Common.{◌≡◌, [], ◌∷◌, refl}
use Rattle.std.specs.Prelude.{codes}
use Rattle.pj_meaning.specs.Tree.{Text, Intrinsic, Add, Sub, Mul, Print, NewLine, Call, Local, Intrin, also, none, body, step, end}
use Rattle.pj_meaning.specs.Tree as tree
use Rattle.pj_meaning.specs.Names.{base, base_name, int_type, function_type, any_type}
use Rattle.pj_meaning.specs.Methods.{Method, One, pick}
use Rattle.pj_meaning.specs.Base.{base_types, base_methods}

abbrev pub operation : Text → Intrinsic → Method
operation name i = record {
  fun = base name;
  signature = int_type ∷ int_type ∷ [];
  code = body (codes "a" ∷ codes "b" ∷ []) [] (step (tree.Value (Intrin i (also (Local (codes "a")) (also (Local (codes "b")) none)))) end);
  home = base_name;
  birth = 1;
}

abbrev pub print_method : Method
print_method = record {
  fun = base (codes "print");
  signature = any_type ∷ [];
  code = body (codes "a" ∷ []) [] (step (tree.Value (Intrin Print (also (Local (codes "a")) none))) end);
  home = base_name;
  birth = 1;
}

abbrev pub println_method : Method
println_method = record {
  fun = base (codes "println");
  signature = any_type ∷ [];
  code = body (codes "a" ∷ []) [] (step (tree.Value (Call base_name (codes "print") (also (Local (codes "a")) none))) (step (tree.Value (Intrin NewLine none)) end));
  home = base_name;
  birth = 1;
}

pub pick_add : pick base_types base_methods 1 (base (codes "+")) (int_type ∷ int_type ∷ []) ≡ One (operation (codes "+") Add)
pick_add = refl

pub pick_sub : pick base_types base_methods 1 (base (codes "-")) (int_type ∷ int_type ∷ []) ≡ One (operation (codes "-") Sub)
pick_sub = refl

pub pick_mul : pick base_types base_methods 1 (base (codes "*")) (int_type ∷ int_type ∷ []) ≡ One (operation (codes "*") Mul)
pick_mul = refl

pub print_number : pick base_types base_methods 1 (base (codes "print")) (int_type ∷ []) ≡ One print_method
print_number = refl

pub println_number : pick base_types base_methods 1 (base (codes "println")) (int_type ∷ []) ≡ One println_method
println_number = refl

pub print_function : pick base_types base_methods 1 (base (codes "print")) (function_type ∷ []) ≡ One print_method
print_function = refl

pub println_function : pick base_types base_methods 1 (base (codes "println")) (function_type ∷ []) ≡ One println_method
println_function = refl
