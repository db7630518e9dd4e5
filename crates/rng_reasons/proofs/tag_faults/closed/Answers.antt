use Rattle.std.proofs.lemmas.Result.{IfOk-weaker as if_ok}
use Rattle.rng_deriv_ways.proofs.ClosedTags.{both_ok}
use Rattle.rng_deriv_ways.proofs.KnownWays.{all_longer}
use Rattle.rng_reasons.proofs.tag_faults.closed.Goals as goal

pub close-requires-clause-known : goal.close-requires-clause-known
close-requires-clause-known c = c.requires.known.rests

pub returns-clause-known : goal.returns-clause-known
returns-clause-known c =
    let t = c.args.context.now.grammar.now in
    if_ok c.close.result _ _ (λ n h.
    let more = all_longer t c.args.context.now.keys.now c.args.table.now c.close.new.table h.0 c.args.known.now c.requires.known in record {
      serve = more.serve;
      texts = more.texts;
      elements = more.elements;
      attributes = more.attributes;
      rests = h.1;
      takers = more.takers;
      alike = more.alike;
      attribute_takers = more.attribute_takers;
      spans = more.spans;
      skips = more.skips;
      datatypes = more.datatypes;
      last = more.last;
      plans = more.plans;
    }) (both_ok c.close.result _ _ c.close.ensures.longer c.close.ensures.known)
