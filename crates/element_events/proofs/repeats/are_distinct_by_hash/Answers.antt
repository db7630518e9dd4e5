use Rattle.std.proofs.Common.{◌∙◌, ap, get_or, map, sym, take}
use Rattle.rng_model.specs.matching.Document.{none}
use Rattle.element_events.specs.views.Told.{attribute_told, name_told}
use Rattle.element_events.proofs.DistinctNames.{among, is_repeated, names_more, no_attribute, not_among, not_false, not_true, says_not, still_distinct}
use Rattle.element_events.proofs.repeats.are_distinct_by_hash.Goals as goal

pub attributes-init : goal.attributes-init
attributes-init c = record { names = ap (map name_told) c.in_ok-names.ensures.empty; distinct = none }

pub returns-then-not-branch : goal.returns-then-not-branch
returns-then-not-branch c = says_not (is_repeated attribute_told c.args.attributes.now c.attributes.attribute-index _ c.attributes-test.true
    (among c.attributes.names.keys (map attribute_told (take c.attributes.attribute-index c.args.attributes.now))
    (get_or c.args.attributes.now c.attributes.attribute-index no_attribute).name c.attributes.invariant.names
    (not_false _ (sym c.in_ok-insert.ensures.added ∙ c.if-not-branch.true))))

pub attributes-preserved : goal.attributes-preserved
attributes-preserved c =
    let new = not_true _ (sym c.in_ok-insert.ensures.added ∙ c.if-not-branch.false) in record {
      names = names_more _ c.attributes.names.keys c.insert.new.self.keys c.args.attributes.now c.attributes.attribute-index _ c.attributes-test.true new
          c.in_ok-insert.ensures.keys c.attributes.invariant.names;
      distinct = still_distinct attribute_told c.args.attributes.now c.attributes.attribute-index _ c.attributes-test.true c.attributes.invariant.distinct
          (not_among c.attributes.names.keys (map attribute_told (take c.attributes.attribute-index c.args.attributes.now))
          (get_or c.args.attributes.now c.attributes.attribute-index no_attribute).name c.attributes.invariant.names new);
    }
