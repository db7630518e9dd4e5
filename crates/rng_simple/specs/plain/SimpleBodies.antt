-- What may be a start or a body in the simple syntax, kind by kind.
use Rattle.rng_model.specs.simple.Tree.{Simple, s_not_allowed, s_empty, s_text, s_leaf, s_attribute, s_list, s_data, s_data_except, s_value, s_one_or_more, s_joined}

-- notAllowed does not occur in the tree
abbrev pub LacksNotAllowed : {L : Type 0} → Simple L → Type 0
LacksNotAllowed s_not_allowed = ⊥
LacksNotAllowed s_empty = Unit {0}
LacksNotAllowed s_text = Unit {0}
LacksNotAllowed (s_leaf l) = Unit {0}
LacksNotAllowed (s_attribute c s) = LacksNotAllowed s
LacksNotAllowed (s_list s) = LacksNotAllowed s
LacksNotAllowed (s_data d) = Unit {0}
LacksNotAllowed (s_data_except d s) = LacksNotAllowed s
LacksNotAllowed (s_value d v) = Unit {0}
LacksNotAllowed (s_one_or_more s) = LacksNotAllowed s
LacksNotAllowed (s_joined k s u) = LacksNotAllowed s × LacksNotAllowed u

-- notAllowed as a whole, or a tree in which notAllowed does not occur
abbrev pub IsPlainBody : {L : Type 0} → Simple L → Type 0
IsPlainBody s_not_allowed = Unit {0}
IsPlainBody s_empty = Unit {0}
IsPlainBody s_text = Unit {0}
IsPlainBody (s_leaf l) = Unit {0}
IsPlainBody (s_attribute c s) = LacksNotAllowed s
IsPlainBody (s_list s) = LacksNotAllowed s
IsPlainBody (s_data d) = Unit {0}
IsPlainBody (s_data_except d s) = LacksNotAllowed s
IsPlainBody (s_value d v) = Unit {0}
IsPlainBody (s_one_or_more s) = LacksNotAllowed s
IsPlainBody (s_joined k s u) = LacksNotAllowed s × LacksNotAllowed u
