use Rattle.std.proofs.Common.{inl, inr, length, refl, rules}
use Rattle.std.proofs.lemmas.Option.{slice_get_read}
use Rattle.rng_deriv_events.proofs.Lookups.{ends_set}
use Rattle.rng_deriv_events.proofs.level_table.table.put_end.Goals as goal

pub returns : goal.returns
returns c =
    let ends = c.make_place.new.ends.items in
    let known = c.index_mut-known.result.now in
    λ n e h. elim (ends_set ends c.args.number n known c.push.new.self c.args.end e
    (slice_get_read ends (length ends) c.args.number known refl c.in_ok-make_place.ensures.place (search rules)) c.in_ok-push.ensures.ok h) [
      | inl f ↦ inl (c.in_ok-make_place.ensures.ends n e f)
      | inr f ↦ inr f
    ]
