use Rattle.std.proofs.Common.{◌∙◌, sym}
use Rattle.rng_deriv_ways.proofs.KnownPlans.{one_put, plans_more}
use Rattle.rng_deriv_ways.proofs.known.Known.keep_plan.Goals as goal

pub returns : goal.returns
returns c = λ t keys ns all own. record {
  serve = all.serve;
  texts = all.texts;
  elements = all.elements;
  attributes = all.attributes;
  rests = all.rests;
  takers = all.takers;
  alike = all.alike;
  attribute_takers = all.attribute_takers;
  spans = all.spans;
  skips = all.skips;
  datatypes = all.datatypes;
  last = all.last;
  plans = plans_more t keys ns c.args.self.now.plans c.insert.new.self c.args.asked c.args.plan all.plans own (λ b p h. one_put c.args.asked b c.args.plan p _ (sym (c.in_ok-insert.ensures.updates.0 b) ∙ h));
}
