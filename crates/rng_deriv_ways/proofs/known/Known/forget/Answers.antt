use Rattle.rng_deriv_ways.specs.views.KnownWays.{IsAttributeKind, IsElementKind}
use Rattle.rng_deriv_ways.specs.declared.way.Kind.TheVariants as kinds
use Rattle.rng_deriv_ways.proofs.AttributeTakers.{no_spans}
use Rattle.rng_deriv_ways.proofs.KnownRests.{no_rests}
use Rattle.rng_deriv_ways.proofs.KnownWays.{no_last, none_by_key, none_known}
use Rattle.rng_deriv_ways.proofs.KnownPlans.{no_plans}
use Rattle.rng_deriv_ways.proofs.known.Known.forget.Goals as goal

pub returns : goal.returns
returns c = λ t keys old new all. record {
  serve = all.serve;
  texts = none_known t new kinds.Text c.new.result c.new.ensures.empty;
  elements = none_by_key IsElementKind t keys new c.new-2.result c.new-2.ensures.empty;
  attributes = none_by_key IsAttributeKind t keys new c.new-3.result c.new-3.ensures.empty;
  rests = no_rests new c.new-4.result c.new-4.ensures.empty;
  takers = all.takers;
  alike = all.alike;
  attribute_takers = all.attribute_takers;
  spans = no_spans t new c.new-5.result.items c.new-5.ensures.items;
  skips = c.new-6.ensures new;
  datatypes = all.datatypes;
  last = no_last t keys new c.new-7.result.items c.new-7.ensures.items;
  plans = no_plans t keys new c.new-8.result c.new-8.ensures.empty;
}
