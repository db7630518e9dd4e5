use Rattle.std.proofs.Common.{◌≡◌, inl, inr, ap, ◌∙◌, Some, length, map, vec_items}
use Rattle.std.proofs.lemmas.List.{length-map}
use Rattle.rng_model.specs.names.NameViews.{name_of}
use Rattle.rng_rules.specs.views.NamesMeetLabels.{plain_name_of}
use Rattle.rng_rules.specs.plain.NamesMeetReach.{lists}
use Rattle.rng_rules.proofs.NamesMeetGroups.{name_added, room_made}
use Rattle.rng_rules.proofs.names_meet_groups.NameGroups.add_name.Goals as goal

pub returns : goal.returns
returns c = λ ls is.
    let keys = c.args.self.now.names.keys in
    let new_keys = c.number.new.known.keys in
    let rows = c.args.self.now.rows.items in
    let n = c.in_ok-number.number in
    let e = c.as_str.ensures.value in
    let f = c.as_str-2.ensures.value in
    let same : plain_name_of (record { ns = c.as_str.result; local = c.as_str-2.result }) ≡ name_of c.args.name.now = cc in
    let long : length (lists c.add_above.new.all.items) ≡ length (map plain_name_of new_keys) =
    room_made (length rows) (length keys) (length c.make_room.new.rows.items) (length new_keys) n c.requires c.in_ok-number.ensures.within c.in_ok-number.ensures.old
    c.in_ok-number.ensures.one c.in_ok-make_room.ensures.old c.in_ok-make_room.ensures.one
    (length-map c.add_above.new.all.items vec_items ∙ c.in_ok-add_above.ensures.long) (length-map new_keys plain_name_of) in
    name_added ls (map plain_name_of keys) (map plain_name_of new_keys) (lists rows) (lists c.add_above.new.all.items) c.args.row n c.args.name.now is
    (c.in_ok-number.ensures.apart is.apart) (c.in_ok-number.ensures.there ∙ ap Some same) c.in_ok-number.ensures.kept long
    (λ k p. (
      λ h. elim ((c.in_ok-add_above.ensures.exact k p).0 h) [ inl o ↦ inl ((c.in_ok-make_room.ensures.same k p).0 o) | inr i ↦ inr i ],
      λ h. (c.in_ok-add_above.ensures.exact k p).1 (elim h [ inl o ↦ inl ((c.in_ok-make_room.ensures.same k p).1 o) | inr i ↦ inr i ]),
    ))
