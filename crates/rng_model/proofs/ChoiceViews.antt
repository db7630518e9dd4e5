-- The view of a choice of name classes.
use Rattle.std.proofs.Common.{◌≡◌, ◌∙◌, map, ap, rules, List, Vec, Global}
use Rattle.rng_model.specs.names.Names.{some_of}
use Rattle.rng_model.specs.names.NameViews.{class_of}
use Rattle.rng_model.specs.declared.name.NameClass.{NameClass, Choice, the_lemmas}

-- it is the choice of the views of its members
pub choice_is : (class : NameClass) (members : Vec NameClass Global) (xs : List NameClass) → class ≡ Choice members → xs ≡ members.items
    → class_of class ≡ some_of (map class_of xs)
choice_is class members xs e items = ap class_of e ∙ search (rules, the_lemmas, items)
