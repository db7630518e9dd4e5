-- Simple trees with their leaves under other names.
use Rattle.rng_model.specs.simple.Tree.{Simple, s_not_allowed, s_empty, s_text, s_leaf, s_attribute, s_list, s_data, s_data_except, s_value, s_one_or_more, s_joined}

-- the tree with each leaf under another name
abbrev pub simple_renamed : {K L : Type 0} → (K → L) → Simple K → Simple L
simple_renamed f s_not_allowed = s_not_allowed
simple_renamed f s_empty = s_empty
simple_renamed f s_text = s_text
simple_renamed f (s_leaf k) = s_leaf (f k)
simple_renamed f (s_attribute c s) = s_attribute c (simple_renamed f s)
simple_renamed f (s_list s) = s_list (simple_renamed f s)
simple_renamed f (s_data d) = s_data d
simple_renamed f (s_data_except d s) = s_data_except d (simple_renamed f s)
simple_renamed f (s_value d v) = s_value d v
simple_renamed f (s_one_or_more s) = s_one_or_more (simple_renamed f s)
simple_renamed f (s_joined k s u) = s_joined k (simple_renamed f s) (simple_renamed f u)
