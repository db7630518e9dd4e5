use Rattle.std.proofs.Common.{rules}
use Rattle.std.proofs.lemmas.Result.{IfOk-weaker as if_ok}
use Rattle.rng_deriv_ways.proofs.ClosedTags.{both_ok}
use Rattle.rng_deriv_ways.proofs.KnownWays.{all_longer}
use Rattle.rng_deriv_ways.proofs.StartBodies.{ready_longer}
use Rattle.rng_deriv_texts.proofs.TagAttributes.{one_behind_more, tag_behind}
use Rattle.rng_deriv_texts.proofs.after.after_tag.Goals as goal

pub after_attribute-requires-clause-ready : goal.after_attribute-requires-clause-ready
after_attribute-requires-clause-ready c =
    ready_longer c.args.context.now.grammar.now c.args.table.now c.attrs.table c.args.context.now.numbers.now c.attrs.invariant.behind.longer c.requires.ready

pub attrs-preserved : goal.attrs-preserved
attrs-preserved c = record {
  behind = one_behind_more c.args.context.now.grammar.now c.args.table.now c.attrs.table c.after_attribute.new.table c.args.attrs.now c.attrs.attr-index c.attr-item.result _
      c.args.number c.attrs.rest c.in_ok-rest.rest c.attrs-test.true c.attrs.invariant.behind c.in_ok-rest.ensures.longer (search rules) c.in_ok-rest.ensures.left;
  known = c.in_ok-rest.ensures.known;
}

pub close-requires-clause-known : goal.close-requires-clause-known
close-requires-clause-known c = c.attrs.invariant.known.rests

pub returns-clause-after : goal.returns-clause-after
returns-clause-after c =
    if_ok c.close.result _ _ (λ n h. tag_behind c.args.context.now.grammar.now c.args.table.now c.attrs.table c.close.new.table c.args.attrs.now
    c.attrs.attr-index c.args.number c.attrs.rest n c.attrs-test.false c.attrs.invariant.behind h) c.close.ensures.closed

pub after_attribute-requires-clause-known : goal.after_attribute-requires-clause-known
after_attribute-requires-clause-known c = c.attrs.invariant.known

pub returns-clause-known : goal.returns-clause-known
returns-clause-known c =
    let t = c.args.context.now.grammar.now in
    let known = c.attrs.known in
    if_ok c.close.result _ _ (λ n h.
    let more = all_longer t c.args.context.now.keys.now c.attrs.table c.close.new.table h.0 known c.attrs.invariant.known in record {
      serve = more.serve;
      texts = more.texts;
      elements = more.elements;
      attributes = more.attributes;
      rests = h.1;
      takers = more.takers;
      alike = more.alike;
      attribute_takers = more.attribute_takers;
      spans = more.spans;
      skips = more.skips;
      datatypes = more.datatypes;
      last = more.last;
      plans = more.plans;
    }) (both_ok c.close.result _ _ c.close.ensures.longer c.close.ensures.known)
