use Rattle.rng_deriv_ways.specs.views.KnownWays.{IsAttributeKind, IsElementKind}
use Rattle.rng_deriv_ways.specs.declared.way.Kind.TheVariants as kinds
use Rattle.rng_deriv_ways.proofs.AttributeTakers.{no_spans}
use Rattle.rng_deriv_ways.proofs.KnownRests.{no_rests}
use Rattle.rng_deriv_ways.proofs.KnownWays.{no_last, none_by_key, none_known}
use Rattle.rng_deriv_ways.proofs.KnownPlans.{no_plans}
use Rattle.rng_deriv_ways.proofs.known.Known.new.Goals as goal

pub returns : goal.returns
returns c =
    let t = c.args.grammar.now in λ ns. record {
      serve = c.requires;
      texts = none_known t ns kinds.Text c.new-2.result c.new-2.ensures.empty;
      elements = none_by_key IsElementKind t c.args.keys.now ns c.new-3.result c.new-3.ensures.empty;
      attributes = none_by_key IsAttributeKind t c.args.keys.now ns c.new-4.result c.new-4.ensures.empty;
      rests = no_rests ns c.new-5.result c.new-5.ensures.empty;
      takers = c.in_ok-takers.ensures;
      alike = c.in_ok-alike.ensures;
      attribute_takers = c.in_ok-attribute_takers.ensures;
      spans = no_spans t ns c.new-6.result.items c.new-6.ensures.items;
      skips = c.new-7.ensures ns;
      datatypes = c.in_ok-datatypes.ensures;
      last = no_last t c.args.keys.now ns c.new-8.result.items c.new-8.ensures.items;
      plans = no_plans t c.args.keys.now ns c.new-9.result c.new-9.ensures.empty;
    }
