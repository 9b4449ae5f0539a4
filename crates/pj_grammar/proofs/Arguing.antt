-- Arguments that have been read so far, and how a call goes on and ends.
use Rattle.std.proofs.Common.{◌≡◌, false, List, [], ◌∷◌, ◌++◌, Some, refl, sym, subst, ap, ◌∙◌}
use Rattle.pj_lex.specs.declared.sign.Sign.TheVariants as signs
use Rattle.pj_lex.specs.declared.token.Token.{Token}
use Rattle.pj_syntax.specs.declared.expression.Argument.{Argument}
use Rattle.pj_syntax.specs.declared.expression.Path.{Path}
use Rattle.pj_grammar.specs.declared.level.Level.TheVariants as levels
use Rattle.pj_grammar.specs.declared.node.Node.{Node}
use Rattle.pj_grammar.specs.declared.node.Arguments.{Arguments}
use Rattle.pj_grammar.specs.declared.frame.Given.{Given as Shape}
use Rattle.pj_grammar.specs.declared.frame.Given.TheVariants as given
use Rattle.pj_grammar.specs.declared.mode.Head.{Head}
use Rattle.pj_grammar.specs.declared.mode.Head.TheVariants as heads
use Rattle.pj_grammar.specs.Expressions.{Callee, Given, Reads, more, read, tighter}
use Rattle.pj_grammar.specs.Frames.{give, head_path, node}
use Rattle.pj_grammar.specs.Makers.{argument_after, lacks, paths_given}
use Rattle.pj_grammar.specs.Modules.{Modules}
use Rattle.pj_grammar.specs.Tokens.{Place, sign}
use Rattle.pj_grammar.proofs.Adding.{join, join-after, none-join, paths-after}
use Rattle.pj_grammar.proofs.Begun.{ArgumentsBegun, GivenBegun, PathsBegun, no_argument, no_paths, then_argument, then_path}
use Rattle.pj_grammar.proofs.Settling.{with-sign}

pub given-at : {modules : Modules} {a b : List Token} {es fs : Arguments} → Given modules a es → a ≡ b → es ≡ fs → Given modules b fs
given-at {modules} {a} {b} {es} {fs} d p q = subst (λ x. Given modules x fs) p (subst (λ x. Given modules a x) q d)

-- what has been read of arguments goes before the rest of them
pub close-arguments : {modules : Modules} {ts us : List Token} {es fs : Arguments} → ArgumentsBegun modules ts es → Given modules us fs
    → Given modules (ts ++ us) (join es fs)
close-arguments {us = us} {fs = fs} no_argument d = given-at d refl (sym (none-join fs))
close-arguments {us = vs} {fs = fs} (then_argument {ts = ts} {us = us} {es = es} {e = e} p b reads) d =
    given-at (close-arguments b (more p reads d)) (with-sign ts us vs (sign p signs.Comma)) (sym (join-after es fs e))

pub paths-arguments : {modules : Modules} {ts : List Token} {ps : List Path} → PathsBegun modules ts ps → ArgumentsBegun modules ts (paths_given ps)
unfolding paths_given
paths-arguments no_paths = no_argument
paths-arguments {modules} (then_path {ts = ts} {us = us} {ps = ps} {f = f} p b c e) =
    subst (λ x. ArgumentsBegun modules (ts ++ (us ++ sign p signs.Comma ∷ [])) x) (sym (ap paths_given e ∙ paths-after ps f)) (then_argument p (paths-arguments b) (tighter refl (read c)))

-- a call with an argument lacks none
pub lacks-not : (f : Path) (es : Arguments) (e : Node) → lacks f (argument_after es e) ≡ false
unfolding lacks argument_after
lacks-not f es e = by-trees es.trees
  where
    by-trees : (ts : List Argument) → lacks f (record { trees = ts ++ record { at = e.at; value = e.tree } ∷ []; nesting = 0 }) ≡ false
    by-trees [] = refl
    by-trees (t ∷ ts) = refl

-- one more argument, with its comma
pub give-begun : {modules : Modules} {ts : List Token} (us : List Token) (g : Shape) (h : Head) (p : Place) → GivenBegun modules us g
    → ((f : Path) → head_path h ≡ Some f → Callee modules ts f) → Reads modules levels.Conditional ts (node h)
    → GivenBegun modules (us ++ (ts ++ sign p signs.Comma ∷ [])) (give g h)
give-begun us (given.Paths ps) (heads.Name x) p b c d = then_path p b (c _ refl) refl
give-begun us (given.Paths ps) (heads.Member m x) p b c d = then_path p b (c _ refl) refl
give-begun us (given.Paths ps) (heads.Operator m x) p b c d = then_path p b (c _ refl) refl
give-begun us (given.Paths ps) (heads.Place e x) p b c d = (then_argument p (paths-arguments b) d, λ f. lacks-not f (paths_given ps) _)
give-begun us (given.Paths ps) (heads.Call f qs) p b c d = (then_argument p (paths-arguments b) d, λ f. lacks-not f (paths_given ps) _)
give-begun us (given.Paths ps) (heads.Plain e) p b c d = (then_argument p (paths-arguments b) d, λ f. lacks-not f (paths_given ps) _)
give-begun us (given.Mixed es) h p b c d = (then_argument p b.0 d, λ f. lacks-not f es _)
