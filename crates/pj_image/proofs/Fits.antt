-- An image that passes all tests is ok.
use Rattle.std.proofs.Common.{◌≡◌, ◌≤◌, true, length, arith}
use Rattle.std.specs.Prelude.{Bool, Result, Ok, Err, is_some, IsTrue, IfOk, ◌↔◌}
use Rattle.pj_base.specs.declared.memory.NoMemory.{NoMemory}
use Rattle.std.specs.List.{list_all}
use Rattle.pj_words.specs.Words.{is_package_name}
use Rattle.pj_image.specs.declared.image.Image.{Image}
use Rattle.pj_image.specs.Fitting.{DeclaredFit, TreesFit, OthersFit}
use Rattle.pj_image.specs.Formed.{ImageOk, names_of}
use Rattle.pj_image.specs.Pieces.{placed, method_fine}
use Rattle.pj_image.specs.Spelled.{spelled, methods_place}
use Rattle.pj_image.proofs.Lengths.{length-spelled, length-declared, length-bodies, length-ending}

module _ (i : Image) where
  pub ok_of : length (spelled i) ≤ 67108864 → DeclaredFit i → OthersFit i → TreesFit i → is_package_name i.head.name ≡ true → is_some (names_of i) ≡ true
      → list_all (method_fine i.trees) i.methods ≡ true → placed (methods_place i) i.methods i.entries ≡ true → ImageOk i
  ok_of short d o t named names fine right =
      let s = length-spelled i in
      let a = length-declared i in
      let b = length-bodies i in
      let e = length-ending i in
      record {
        formed = record {
          head = (d.head, omega (arith, short, s, a, b, e));
          strings = (d.strings, omega (arith, short, s, a, b, e));
          types = (d.types, omega (arith, short, s, a, b, e));
          functions = (d.functions, omega (arith, short, s, a, b, e));
          bindings = (d.bindings, omega (arith, short, s, a, b, e));
          objects = (d.objects, omega (arith, short, s, a, b, e));
          trees = (t.trees, omega (arith, short, s, a, b, e));
          methods = (o.methods, omega (arith, short, s, a, b, e));
          directives = (o.directives, omega (arith, short, s, a, b, e));
          records = (o.records, omega (arith, short, s, a, b, e));
          code = (o.code, omega (arith, short, s, a, b, e));
          entries = (o.entries, omega (arith, short, s, a, b, e));
          named = named;
          names = names;
          plain = t.plain;
          fine = fine;
          right = right;
        };
        short = short;
      }

  pub declared_of_ok : ImageOk i → DeclaredFit i
  declared_of_ok k = record { head = k.formed.head.0; strings = k.formed.strings.0; types = k.formed.types.0; functions = k.formed.functions.0; bindings = k.formed.bindings.0; objects = k.formed.objects.0 }

  pub others_of_ok : ImageOk i → OthersFit i
  others_of_ok k = record { methods = k.formed.methods.0; directives = k.formed.directives.0; records = k.formed.records.0; code = k.formed.code.0; entries = k.formed.entries.0 }

  pub trees_of_ok : ImageOk i → TreesFit i
  trees_of_ok k = record { trees = k.formed.trees.0; plain = k.formed.plain }

  pub ok_by : (result : Result Bool NoMemory) → IfOk result (λ fine. IsTrue fine ↔ TreesFit i) → (TreesFit i → ImageOk i) → IfOk result (λ ok. IsTrue ok ↔ ImageOk i)
  ok_by (Ok fine) h make = (λ t. make (h.0 t), λ k. h.1 (trees_of_ok k))
  ok_by (Err fault) h make = tt
