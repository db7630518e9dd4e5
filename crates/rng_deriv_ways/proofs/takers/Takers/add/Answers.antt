use Rattle.std.proofs.Common.{◌≡◌, ◌∙◌, List, slice_set, ap, subst, sym, true}
use Rattle.rng_names.specs.plain.Keys.{key_of}
use Rattle.rng_model.specs.names.NameViews.{name_of}
use Rattle.rng_names.specs.plain.Holding.{holds}
use Rattle.rng_names.proofs.Holding.{same_name-Decides}
use Rattle.rng_names.proofs.NameViews.{name_class_is}
use Rattle.rng_deriv_table.specs.plain.Facts.{IsWithin, joined_spans, one_span}
use Rattle.rng_deriv_table.specs.declared.pattern.Span.{Span}
use Rattle.rng_deriv_table.proofs.KnownFacts.{joined_second, one_within}
use Rattle.rng_deriv_ways.proofs.ElementTakers.{Tells, named_told, wider_still}
use Rattle.rng_deriv_ways.proofs.takers.Takers.add.Goals as goal

pub returns-in-Name-clause-told : goal.returns-in-Name-clause-told
returns-in-Name-clause-told c = λ q held.
    let all : List Span = c.args.self.now.by_key.items in
    let others : Span = c.args.self.now.others in
    let key = c.key-key.result.0 in
    let e = c.args.number in
    let view = name_class_is c.args.class.now c.in-Name.name c.in-Name.is in
    let same = (same_name-Decides (name_of c.in-Name.name) q).0 (subst (λ class. holds class q ≡ true) view held) in
    let own : key_of c.args.keys.now q ≡ key = ap (key_of c.args.keys.now) same ∙ sym c.key-key.ensures.key in
    let wider : c.joined-wider.result ≡ joined_spans c.index.result.now (one_span e) =
    c.joined-wider.ensures ∙ ap (joined_spans c.index.result.now) c.one-own.ensures in
    subst (λ k. Tells (slice_set all key c.joined-wider.result) others k e) (sym own)
    (subst (λ m. Tells (slice_set all key m) others key e) (sym wider) (named_told all others key c.index.result.now e))

pub returns-in_default : goal.returns-in_default
returns-in_default c =
    let own = c.args.number in
    let others = c.args.self.now.others in
    let is : c.joined-self.result ≡ joined_spans others (one_span own) = c.joined-self.ensures ∙ ap (joined_spans others) c.one-own.ensures in
    record {
      count = c.requires;
      stays = λ k n told m at. subst (λ (s : Span). IsWithin (joined_spans m s) n) (sym is) (wider_still m others (one_span own) n (told m at));
      told = λ q held m at. subst (λ (s : Span). IsWithin (joined_spans m s) own) (sym is)
          (joined_second m (joined_spans others (one_span own)) own (joined_second others (one_span own) own (one_within own)));
    }
