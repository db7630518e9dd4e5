use Rattle.std.proofs.Common.{◌∙◌, ⊎_elim, arith, inl, inr, refl, subst, sym}
use Rattle.rng_model.specs.names.NameViews.{name_of}
use Rattle.rng_names.specs.plain.Keys.{name_at}
use Rattle.rng_deriv_table.proofs.Trees.{Longer-length, tree_stays}
use Rattle.rng_deriv_ways.specs.views.KnownWays.{IsAttributeKind}
use Rattle.rng_deriv_ways.specs.plain.Takers.{AreSpansOf, IsTold}
use Rattle.rng_deriv_ways.specs.plain.Ways.{AreWaysOf}
use Rattle.rng_deriv_ways.specs.declared.way.Kind.TheVariants as kinds
use Rattle.rng_deriv_ways.proofs.AttributeTakers.{spans_longer}
use Rattle.rng_deriv_ways.proofs.KnownWays.{all_longer, by_key_changed, last_more, same_attributes, those_known}
use Rattle.rng_deriv_ways.proofs.LikeAttributes.{ways_alike}
use Rattle.rng_deriv_ways.proofs.leaf_ways.attribute_ways.Goals as goal

pub ways_by_key-requires-clause-candidates : goal.ways_by_key-requires-clause-candidates
ways_by_key-requires-clause-candidates c =
    let t = c.args.context.now.grammar.now in
    let q = name_of c.name.result.now in (
      λ k at. c.of-takers.ensures k (subst (λ key. IsTold c.args.known.now.attribute_takers key k) c.name.ensures.own
          (c.requires.known.attribute_takers k q at)),
      subst (AreSpansOf t c.args.table.now) (sym c.as_slice.ensures.value) (c.in_ok-add_spans.ensures t c.requires.known.spans),
    )

pub ways_by_key-requires-clause-known : goal.ways_by_key-requires-clause-known
ways_by_key-requires-clause-known c = c.requires.known.attributes c.key-key.result (kinds.Attribute c.name.result) c.name.ensures.name

pub is_kept-requires : goal.is_kept-requires
is_kept-requires c =
    let long = Longer-length c.args.table.now c.ways_by_key.new.table c.in_ok-ways.ensures.longer in
    let inside = c.requires.inside in
    omega (arith, inside, long)

pub returns-then-not-is_kept-clause-known : goal.returns-then-not-is_kept-clause-known
returns-then-not-is_kept-clause-known c =
    let t = c.args.context.now.grammar.now in
    let keys = c.args.context.now.keys.now in
    let old = c.args.table.now in
    let new = c.ways_by_key.new.table in
    let told = c.in_ok-ways.ensures in
    let more = all_longer t keys old new told.longer c.args.known.now c.requires.known in record {
      serve = more.serve;
      texts = more.texts;
      elements = more.elements;
      attributes = by_key_changed IsAttributeKind t keys old new told.longer c.args.known.now.attributes c.requires.known.attributes same_attributes
          c.key-key.result (kinds.Attribute c.name.result) c.ways_by_key.new.known c.name.ensures.name told.known told.others;
      rests = more.rests;
      takers = more.takers;
      alike = more.alike;
      attribute_takers = more.attribute_takers;
      spans = spans_longer t old new told.longer c.add_spans.new.spans.items (c.in_ok-add_spans.ensures t c.requires.known.spans);
      skips = more.skips;
      datatypes = more.datatypes;
      last = more.last;
      plans = more.plans;
    }

pub returns-clause-known : goal.returns-clause-known
returns-clause-known c =
    let t = c.args.context.now.grammar.now in
    let keys = c.args.context.now.keys.now in
    let old = c.args.table.now in
    let new = c.ways_by_key.new.table in
    let told = c.in_ok-ways.ensures in
    let ws = c.in_ok-ways.ways.items in
    let own = those_known t old new (kinds.Attribute c.name.result) told.longer c.args.number ws c.requires.inside told.ways in
    let more = all_longer t keys old new told.longer c.args.known.now c.requires.known in record {
      serve = more.serve;
      texts = more.texts;
      elements = more.elements;
      attributes = by_key_changed IsAttributeKind t keys old new told.longer c.args.known.now.attributes c.requires.known.attributes same_attributes
          c.key-key.result (kinds.Attribute c.name.result) c.ways_by_key.new.known c.name.ensures.name told.known told.others;
      rests = more.rests;
      takers = more.takers;
      alike = more.alike;
      attribute_takers = more.attribute_takers;
      spans = spans_longer t old new told.longer c.add_spans.new.spans.items (c.in_ok-add_spans.ensures t c.requires.known.spans);
      skips = more.skips;
      datatypes = more.datatypes;
      last = last_more t keys new c.args.known.now.last.items c.keep_last.new.last.items c.args.number c.key-key.result ws more.last
          (λ kind named. same_attributes t new (kinds.Attribute c.name.result) kind (name_at keys c.key-key.result.0) c.name.ensures.name named
          c.args.number ws own)
          (λ n ls h. let f = c.in_ok-keep_last.ensures n ls h in
          ⊎_elim (λ a. inl a) (λ b. inr (b.0, b.1, b.2 ∙ c.as_slice-2.ensures)) f);
      plans = more.plans;
    }

pub returns-then-not-is_kept-clause-ways : goal.returns-then-not-is_kept-clause-ways
returns-then-not-is_kept-clause-ways c =
    let t = c.args.context.now.grammar.now in
    let old = c.args.table.now in
    let new = c.ways_by_key.new.table in
    let n = c.args.number.0 in
    let told = c.in_ok-ways.ensures in
    let is = tree_stays t old new n told.longer c.requires.inside in
    subst (λ p. AreWaysOf t new (kinds.Attribute c.args.name) p c.in_ok-ways.ways.items) is
    (ways_alike t c.args.context.now.keys.now c.requires.known.serve (name_of c.name.result.now) (name_of c.args.name.now) (c.name.ensures.own ∙ c.key-key.ensures.key)
    new n c.in_ok-ways.ways.items c.name.result c.args.name refl refl
    (subst (λ p. AreWaysOf t new (kinds.Attribute c.name.result) p c.in_ok-ways.ways.items) (sym is) told.ways))

pub returns-clause-ways : goal.returns-clause-ways
returns-clause-ways c =
    let t = c.args.context.now.grammar.now in
    let old = c.args.table.now in
    let new = c.ways_by_key.new.table in
    let n = c.args.number.0 in
    let told = c.in_ok-ways.ensures in
    let is = tree_stays t old new n told.longer c.requires.inside in
    subst (λ p. AreWaysOf t new (kinds.Attribute c.args.name) p c.in_ok-ways.ways.items) is
    (ways_alike t c.args.context.now.keys.now c.requires.known.serve (name_of c.name.result.now) (name_of c.args.name.now) (c.name.ensures.own ∙ c.key-key.ensures.key)
    new n c.in_ok-ways.ways.items c.name.result c.args.name refl refl
    (subst (λ p. AreWaysOf t new (kinds.Attribute c.name.result) p c.in_ok-ways.ways.items) (sym is) told.ways))
