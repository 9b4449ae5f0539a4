-- The images are as many as the events tell.
use Rattle.std.proofs.Common.{◌≡◌, Bool, true, false, cond, nat_le, length, vec_len, rules, sym, ap, ◌∙◌}
use Rattle.pj_session.specs.Uses.{builds}
use Rattle.pj_session.proofs.Loading.{room}
use Rattle.pj_session.proofs.state.Session.has_no_room.Goals as goal

pub returns-then-builds : goal.returns-then-builds
returns-then-builds c =
    let s = c.args.self.now in
    let t = s.tables in
    let b : builds s.here ≡ true = sym c.builds.ensures ∙ c.if-builds.true in
    let long : vec_len t.images ≡ length t.images.items = search rules in
    ap (nat_le 1023) (c.len.ensures ∙ long)
    ∙ sym (room s.here t.order.items t.own t.things.items t.images.items t.ordered ∙ ap (λ (f : Bool). cond f (nat_le 1023 (length t.images.items)) (nat_le 1024 (length t.images.items))) b)

pub returns-else-builds : goal.returns-else-builds
returns-else-builds c =
    let s = c.args.self.now in
    let t = s.tables in
    let b : builds s.here ≡ false = sym c.builds.ensures ∙ c.if-builds.false in
    let long : vec_len t.images ≡ length t.images.items = search rules in
    ap (nat_le 1024) (c.len-else-builds.ensures ∙ long)
    ∙ sym (room s.here t.order.items t.own t.things.items t.images.items t.ordered ∙ ap (λ (f : Bool). cond f (nat_le 1023 (length t.images.items)) (nat_le 1024 (length t.images.items))) b)
