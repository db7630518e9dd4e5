use Rattle.std.proofs.Common.{◌≡◌, List, sym, subst}
use Rattle.rng_names.specs.plain.Keys.{key_of, name_at}
use Rattle.rng_deriv_table.specs.views.Trees.{tree_of}
use Rattle.rng_deriv_ways.specs.plain.Alike.{AreAlike}
use Rattle.rng_deriv_ways.specs.views.KnownWays.{IsElementKind}
use Rattle.rng_deriv_ways.specs.plain.Starting.{AreBodies}
use Rattle.rng_deriv_ways.specs.plain.Takers.{AreOfKey, IsTold}
use Rattle.rng_deriv_ways.specs.plain.Ways.{AreInside}
use Rattle.rng_deriv_ways.specs.declared.way.Kind.TheVariants as kinds
use Rattle.rng_deriv_ways.specs.declared.way.Place.TheVariants as places
use Rattle.rng_deriv_ways.specs.declared.way.LeafWay as numbered
use Rattle.rng_deriv_ways.proofs.KnownWays.{all_longer, by_key_changed, element_kept, element_law, same_elements}
use Rattle.rng_deriv_ways.proofs.ElementTakers.{element_takers}
use Rattle.rng_deriv_table.proofs.MemberSkips.{skips_longer}
use Rattle.rng_deriv_ways.proofs.StartBodies.{ready_longer, starts_made}
use Rattle.rng_deriv_ways.proofs.starting.start.Goals as goal

pub ways_by_key-requires-clause-candidates : goal.ways_by_key-requires-clause-candidates
ways_by_key-requires-clause-candidates c =
    let t = c.args.context.now.grammar.now in
    let keys = c.args.context.now.keys.now in
    let takers : AreOfKey t keys c.args.key.0 c.of-takers.result = λ e q is has.
    c.of-takers.ensures e (subst (λ k. IsTold c.args.known.now.takers k e) is (c.requires.known.takers e q has)) in
    let own = subst (λ q. key_of keys q ≡ c.args.key.0) c.name-name.ensures.name c.name-name.ensures.own in (
      element_takers t keys c.args.key.0 (name_at keys c.args.key.0) own (kinds.Element c.name-name.result) c.of-takers.result c.name-name.ensures.name takers,
      subst (AreAlike t) (sym c.as_slice.ensures.value) c.requires.known.alike,
      c.in_ok-add.ensures c.requires.known.skips,
    )

pub ways_by_key-requires-clause-known : goal.ways_by_key-requires-clause-known
ways_by_key-requires-clause-known c = c.requires.known.elements c.args.key (kinds.Element c.name-name.result) c.name-name.ensures.name

pub add_starts-requires : goal.add_starts-requires
add_starts-requires c = record {
  ready = ready_longer c.args.context.now.grammar.now c.args.table.now c.ways_by_key.new.table c.args.context.now.numbers.now c.in_ok-ways.ensures.longer c.requires.ready;
  ways = subst (AreInside c.ways_by_key.new.table) (sym c.as_slice-2.ensures) c.in_ok-ways.ensures.ways.inside;
  none = c.new-starts.ensures.items;
}

pub returns-clause-starts : goal.returns-clause-starts
returns-clause-starts c =
    let t = c.args.context.now.grammar.now in
    let new = c.ways_by_key.new.table in
    let p = tree_of t c.args.table.now c.args.number.0 in
    let q = name_at c.args.context.now.keys.now c.args.key.0 in
    let kind = kinds.Element c.name-name.result in
    let named = c.name-name.ensures.name in
    let told = c.in_ok-ways.ensures.ways in
    starts_made t new c.args.context.now.numbers.now p q c.in_ok-ways.ways.items c.add_starts.new.starts.items
    (element_law t new q p c.in_ok-ways.ways.items kind named told)
    (λ o. element_kept t new q p c.in_ok-ways.ways.items kind named told places.Content o)
    (subst (λ (ws : List numbered.LeafWay). AreBodies t new c.args.context.now.numbers.now q ws c.add_starts.new.starts.items)
    c.as_slice-2.ensures (subst (λ q. AreBodies t new c.args.context.now.numbers.now q c.as_slice-2.result.now c.add_starts.new.starts.items) c.name-name.ensures.name
    c.in_ok-add_starts.ensures.starts))

pub returns-clause-known : goal.returns-clause-known
returns-clause-known c =
    let t = c.args.context.now.grammar.now in
    let old = c.args.table.now in
    let new = c.ways_by_key.new.table in
    let told = c.in_ok-ways.ensures in
    let more = all_longer t c.args.context.now.keys.now old new told.longer c.args.known.now c.requires.known in
    record {
      serve = more.serve;
      texts = more.texts;
      elements = by_key_changed IsElementKind t c.args.context.now.keys.now old new told.longer c.args.known.now.elements c.requires.known.elements
          same_elements c.args.key (kinds.Element c.name-name.result) c.ways_by_key.new.known c.name-name.ensures.name told.known told.others;
      attributes = more.attributes;
      rests = more.rests;
      takers = more.takers;
      alike = more.alike;
      attribute_takers = more.attribute_takers;
      spans = more.spans;
      skips = skips_longer old new c.in_ok-ways.ensures.longer c.add.new.self (c.in_ok-add.ensures c.requires.known.skips);
      datatypes = more.datatypes;
      last = more.last;
      plans = more.plans;
    }
