use Rattle.std.proofs.Common.{subst, rules}
use Rattle.std.proofs.lemmas.Result.{IfOk-weaker as if_ok}
use Rattle.rng_deriv_table.specs.views.Trees.{tree_of}
use Rattle.rng_deriv_texts.specs.plain.Asking.{IsAskedBy}
use Rattle.rng_deriv_ways.proofs.ClosedTags.{both_ok}
use Rattle.rng_deriv_ways.proofs.KnownWays.{all_longer}
use Rattle.rng_deriv_texts.proofs.PlannedRests.{attribute_ways_asked, text_ways_asked}
use Rattle.rng_deriv_texts.proofs.after.ways_for.Goals as goal

pub returns-in-Text-clause-known : goal.returns-in-Text-clause-known
returns-in-Text-clause-known c =
    if_ok c.text_ways.result _ _ (λ ws h.
    let more = all_longer c.args.context.now.grammar.now c.args.context.now.keys.now c.args.table.now c.text_ways.new.table h.0 c.args.known.now
    c.requires.known in record {
      serve = more.serve;
      texts = h.1;
      elements = more.elements;
      attributes = more.attributes;
      rests = more.rests;
      takers = more.takers;
      alike = more.alike;
      attribute_takers = more.attribute_takers;
      spans = more.spans;
      skips = more.skips;
      datatypes = more.datatypes;
      last = more.last;
      plans = more.plans;
    }) (both_ok c.text_ways.result _ _ c.text_ways.ensures.longer c.text_ways.ensures.known)

pub returns-in-Text-clause-ways : goal.returns-in-Text-clause-ways
returns-in-Text-clause-ways c =
    let t = c.args.context.now.grammar.now in
    let keys = c.args.context.now.keys.now in
    let p = tree_of t c.args.table.now c.args.number.0 in
    if_ok c.text_ways.result _ _ (λ ws h. λ a asks kind k. text_ways_asked t keys c.text_ways.new.table c.args.number p ws.items a
    (subst (λ first. IsAskedBy keys first c.args.number a) c.in-Text.is asks) h kind k) c.text_ways.ensures.ways

pub returns-in-Attribute-clause-ways : goal.returns-in-Attribute-clause-ways
returns-in-Attribute-clause-ways c =
    let t = c.args.context.now.grammar.now in
    let keys = c.args.context.now.keys.now in
    if_ok c.attribute_ways.result _ _ (λ ws h. λ a asks kind k.
    let own = subst (λ first. IsAskedBy keys first c.args.number a) c.in-Attribute.is asks in
    attribute_ways_asked t keys c.requires.known.serve c.args.table.now c.attribute_ways.new.table h.0 c.args.number c.requires.inside own.0 _
    c.in-Attribute.attr.now ws.items (search rules) own.2 h.1 a own.1 kind k)
    (both_ok c.attribute_ways.result _ _ c.attribute_ways.ensures.longer c.attribute_ways.ensures.ways)
