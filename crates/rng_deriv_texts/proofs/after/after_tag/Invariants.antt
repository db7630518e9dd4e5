use Rattle.std.proofs.Common.{drop}
use Rattle.rng_deriv_ways.specs.views.KnownWays.{AreAllKnown}
use Rattle.rng_deriv_texts.proofs.TagAttributes.{IsBehindSome}
use Rattle.rng_deriv_texts.proofs.after.after_tag.Given as goal

abbrev pub invariant-attrs : goal.invariant-attrs
invariant-attrs l = record {
  behind : IsBehindSome l.context.grammar.now l.fn.table l.table l.attrs (drop l.attr-index l.attrs) l.fn.number l.rest;
  known : AreAllKnown l.context.grammar.now l.context.keys.now l.table l.known;
}
