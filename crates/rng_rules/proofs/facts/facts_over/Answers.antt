use Rattle.std.proofs.Common.{◌∙◌}
use Rattle.rng_rules.proofs.FactsOver.{attribute_over, repeated_over, simple_over, joined_over, leaf_over}
use Rattle.rng_rules.proofs.facts.facts_over.Goals as goal

pub returns-in-Attribute : goal.returns-in-Attribute
returns-in-Attribute c = λ of has.
    c.facts_of_attribute.ensures ∙ attribute_over of c.args.below.now has _ _ _ _ _ c.deref.ensures c.in-Attribute.is c.requires

pub returns-in-OneOrMore : goal.returns-in-OneOrMore
returns-in-OneOrMore c = λ of has. c.facts_of_repeated.ensures ∙ repeated_over of c.args.below.now has _ _ _ c.in-OneOrMore.is c.requires

pub returns-in-NotAllowed : goal.returns-in-NotAllowed
returns-in-NotAllowed c = λ of has. c.facts_of_leaf.ensures ∙ leaf_over of _ _ c.in-NotAllowed.is (c.kind_of-kind.ensures of)

pub returns-in-Group : goal.returns-in-Group
returns-in-Group c = λ of has. c.facts_of_joined.ensures ∙ joined_over of c.args.below.now has _ _ _ _ _ _ c.in-Group.is c.requires (c.kind_of-kind.ensures of)

pub returns-in-List : goal.returns-in-List
returns-in-List c = λ of has. c.facts_of_simple.ensures ∙ simple_over of c.args.below.now has _ _ _ _ c.in-List.is c.requires (c.kind_of-kind.ensures of)
