use Rattle.std.proofs.Common.{inl, inr}
use Rattle.rng_deriv_events.proofs.Lookups.{known_none, known_set}
use Rattle.rng_deriv_events.proofs.level_table.level_index.put_known.Goals as goal

pub places-preserved : goal.places-preserved
places-preserved c = λ n m h. c.places.invariant n m (known_none c.places.known.items c.push.new.self.items n m c.in_ok-push.ensures.items h)

pub returns : goal.returns
returns c = λ n m h. elim (known_set c.places.known.items c.args.number n c.args.level m h) [
  | inl f ↦ inl (c.places.invariant n m f)
  | inr f ↦ inr f
]
