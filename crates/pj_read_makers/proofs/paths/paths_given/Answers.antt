use Rattle.std.proofs.Common.{◌≡◌, reverse, sym, ap, ◌∙◌}
use Rattle.std.proofs.lemmas.List.{reverse-reverse}
use Rattle.pj_grammar.specs.Makers.{argument_after, name_of, paths_given}
use Rattle.pj_grammar.proofs.Adding.{join}
use Rattle.pj_read_makers.proofs.Turning.{given-begun, given-ended, given-more}
use Rattle.pj_read_makers.proofs.paths.paths_given.Goals as goal

pub loop-path-init : goal.loop-path-init
loop-path-init c = ap (λ g. join g (paths_given (reverse c.in_ok-rest.rest))) c.no_arguments-given.ensures ∙ given-begun (reverse c.in_ok-rest.rest)

pub loop-path-preserved : goal.loop-path-preserved
loop-path-preserved c =
    let e : c.in_ok-given.given ≡ argument_after c.loop-path.given (name_of c.in-Some.path) = c.in_ok-given.ensures.made ∙ ap (argument_after c.loop-path.given) c.name_of.ensures.made in
    ap (λ g. join g (paths_given (reverse c.pop.new.self))) e
    ∙ given-more c.loop-path.given c.pop.new.self c.loop-path.rest _ c.in-Some.path c.in-Some.ensures c.loop-path.invariant

pub returns : goal.returns
returns c =
    sym (given-ended c.loop-path.given)
    ∙ ap (λ r. join c.loop-path.given (paths_given (reverse r))) (sym c.in_default.ensures.0)
    ∙ c.loop-path.invariant
    ∙ ap paths_given (ap reverse c.in_ok-rest.ensures ∙ reverse-reverse c.args.paths)
