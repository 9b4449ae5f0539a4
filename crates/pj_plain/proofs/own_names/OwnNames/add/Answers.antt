use Rattle.std.proofs.Common.{◌≡◌, ◌+◌, [], ◌∷◌, ◌++◌, length, length-append, ap, sym, ◌∙◌, true}
use Rattle.std.specs.List.{zip}
use Rattle.pj_plain.specs.Forms.{is_new}
use Rattle.pj_plain.proofs.OwnNames.{added_last, zip_last}
use Rattle.pj_plain.proofs.own_names.OwnNames.add.Goals as goal

pub invariant_of-self-2 : goal.invariant_of-self-2
invariant_of-self-2 c =
    let names = c.self.inside.names in
    let roles = c.self.inside.roles.items in
    let is : is_new c.args.name.now (zip names roles) ≡ true = ap (is_new c.args.name.now) c.self.view_is ∙ c.requires in
    let after = added_last c.args.name.now names roles c.in_ok-intern.field-0.0 c.intern.new.self c.self.invariant is c.in_ok-intern.ensures.interned in
    let items : c.push_reserved.new.self.items ≡ roles ++ c.args.role ∷ [] = c.push_reserved.ensures.items ∙ ap (λ rs. rs ++ c.args.role ∷ []) c.reserve.ensures.items in
    ap length after
    ∙ length-append names (c.args.name.now ∷ [])
    ∙ ap (λ n. n + 1) c.self.invariant
    ∙ sym (length-append roles (c.args.role ∷ []))
    ∙ sym (ap length items)

pub returns : goal.returns
returns c =
    let names = c.self.inside.names in
    let roles = c.self.inside.roles.items in
    let is : is_new c.args.name.now (zip names roles) ≡ true = ap (is_new c.args.name.now) c.self.view_is ∙ c.requires in
    let after = added_last c.args.name.now names roles c.in_ok-intern.field-0.0 c.intern.new.self c.self.invariant is c.in_ok-intern.ensures.interned in
    let items : c.push_reserved.new.self.items ≡ roles ++ c.args.role ∷ [] = c.push_reserved.ensures.items ∙ ap (λ rs. rs ++ c.args.role ∷ []) c.reserve.ensures.items in
    ap (λ ns. zip ns c.push_reserved.new.self.items) after
    ∙ ap (zip (names ++ c.args.name.now ∷ [])) items
    ∙ zip_last names roles c.args.name.now c.args.role c.self.invariant
    ∙ ap (λ k. k ++ (c.args.name.now, c.args.role) ∷ []) c.self.view_is
