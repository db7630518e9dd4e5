use Rattle.std.proofs.Common.{◌∙◌, sym}
use Rattle.rng_deriv_ways.proofs.KnownPlans.{others_stay, plan_found, plans_left}
use Rattle.rng_deriv_ways.proofs.known.Known.take_plan.Goals as goal

pub returns : goal.returns
returns c = record {
  known = λ t keys ns all. record {
    serve = all.serve;
    texts = all.texts;
    elements = all.elements;
    attributes = all.attributes;
    rests = all.rests;
    takers = all.takers;
    alike = all.alike;
    attribute_takers = all.attribute_takers;
    spans = all.spans;
    skips = all.skips;
    datatypes = all.datatypes;
    last = all.last;
    plans = plans_left t keys ns c.args.self.now.plans c.remove.new.self (λ a plan h. others_stay _ _ plan (sym (c.remove.ensures.updates.0 a) ∙ h)) all.plans;
  };
  plan = λ t keys ns all. plan_found t keys ns c.args.self.now.plans c.args.asked c.remove.result c.remove.ensures.value all.plans;
}
