use Rattle.std.proofs.Common.{ap, sym, subst, List}
use Rattle.std.specs.List.{zip}
use Rattle.pj_meaning.specs.Tree.{Text}
use Rattle.pj_parts.specs.declared.types.Head.{Head}
use Rattle.pj_build.specs.Sections.{KeptFunctions, KeptBindings, KeptTrees}
use Rattle.pj_build.proofs.Declared.{functions_later, bindings_later}
use Rattle.pj_build.proofs.image.declared.Goals as goal

pub returns : goal.returns
returns c =
    let ps = zip c.args.names.now c.args.things.now in
    record {
      called = ap (λ (h : Head). h.name) c.in_ok-head.ensures;
      alone = ap (λ (h : Head). h.dependencies) c.in_ok-head.ensures;
      functions =
          subst (λ (s : List Text). KeptFunctions s ps c.in_ok-functions.functions) (sym c.in_ok-strings.ensures)
          (functions_later _ _ ps c.in_ok-functions.functions (functions_later _ _ ps c.in_ok-functions.functions c.in_ok-functions.ensures.is c.in_ok-bindings.ensures.grown) c.in_ok-trees.ensures.grown);
      bindings = subst (λ (s : List Text). KeptBindings s ps c.in_ok-bindings.bindings) (sym c.in_ok-strings.ensures) (bindings_later _ _ ps c.in_ok-bindings.bindings c.in_ok-bindings.ensures.is c.in_ok-trees.ensures.grown);
      trees = subst (λ (s : List Text). KeptTrees s c.args.things.now c.in_ok-trees.trees) (sym c.in_ok-strings.ensures) c.in_ok-trees.ensures.is;
    }
