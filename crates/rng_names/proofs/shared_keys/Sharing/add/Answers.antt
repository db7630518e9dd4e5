use Rattle.std.proofs.Common.{◌≡◌, ◌<◌, refl, ap₂, ◌∙◌, slice_index_or, length, Some, bytes_eq, arith, rules}
use Rattle.std.specs.Map.{lookup, update}
use Rattle.std.proofs.lemmas.Result.{on_ok_weaker}
use Rattle.rng_model.specs.names.NameViews.{name_of, namespace_bytes}
use Rattle.rng_names.specs.plain.SharedKeys.{IsKeyIn, sharing_in}
use Rattle.rng_names.proofs.SharedKeys.{adds_alone, adds_following, adds_noted}
use Rattle.rng_names.proofs.shared_keys.Sharing.add.Goals as goal

pub returns-then-region-eq0 : goal.returns-then-region-eq0
returns-then-region-eq0 c =
    on_ok_weaker c.lead.result (adds_alone (name_of c.args.name.now) (sharing_in c.args.self.now) (sharing_in c.lead.new.self)) c.lead.ensures

pub returns-in-Some : goal.returns-in-Some
returns-in-Some c =
    let old = sharing_in c.args.self.now in
    let q = name_of c.args.name.now in
    let region = c.region_at-region.result in
    let here : region ≡ slice_index_or old.regions (length old.keys) 0 = search rules in
    let counts : 0 < region = omega (arith, c.if-region-eq0.false) in
    let is : IsKeyIn old q.ns region c.in-Some.key = c.in-Some.ensures in
    on_ok_weaker c.follow.result (adds_following q old (sharing_in c.follow.new.self) region c.in-Some.key here counts is) c.follow.ensures

pub returns : goal.returns
returns c =
    let old = sharing_in c.args.self.now in
    let q = name_of c.args.name.now in
    let mid = sharing_in (record { regions = c.args.self.now.regions; newest = c.note.new.numbers; keys = c.args.self.now.keys; leaders = c.args.self.now.leaders }) in
    let text : namespace_bytes c.in_ok-share.field-0 ≡ q.ns = search rules in
    let place : c.len-place.result ≡ length old.keys = search rules in
    on_ok_weaker c.lead-2.result
    (adds_noted q old mid (sharing_in c.lead-2.new.self) refl refl refl
    (λ u. c.in_ok-note.ensures u
    ∙ ap₂ (λ v n. update bytes_eq (λ w. lookup (bytes_eq w) old.newest) v (Some n) u) text place))
    c.lead-2.ensures
