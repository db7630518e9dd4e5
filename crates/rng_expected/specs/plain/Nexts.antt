-- What may come next, leaf by leaf.
use Rattle.std.specs.Prelude.{ℕ, List, [], ◌∷◌, ◌++◌, fold, true, Option, Some, None, slice_get}
use Rattle.rng_model.specs.names.Names.{NameClass}
use Rattle.rng_model.specs.simple.Grammar.{Grammar}
use Rattle.rng_model.specs.simple.Tree.{Datatype, Simple, s_not_allowed, s_empty, s_text, s_leaf, s_attribute, s_list, s_data, s_data_except, s_value}
use Rattle.rng_model.specs.simple.Tree.{s_one_or_more, s_joined}
use Rattle.rng_expected.specs.Expectations.{Next, nothing}

abbrev pub with_class : Option (NameClass × Simple ℕ) → Next → Next
with_class None next = next
with_class (Some e) next =
    record { elements = next.elements ++ e.0 ∷ []; text = next.text; values = next.values; datatypes = next.datatypes }

abbrev pub with_text : Next → Next
with_text next = record { elements = next.elements; text = true; values = next.values; datatypes = next.datatypes }

abbrev pub with_value : Datatype → List ℕ → Next → Next
with_value d v next =
    record { elements = next.elements; text = true; values = next.values ++ (d, v) ∷ []; datatypes = next.datatypes }

abbrev pub with_datatype : Datatype → Next → Next
with_datatype d next =
    record { elements = next.elements; text = true; values = next.values; datatypes = next.datatypes ++ d ∷ [] }

-- one more leaf may come
abbrev pub with_leaf : Grammar → Next → Simple ℕ → Next
with_leaf g next s_not_allowed = next
with_leaf g next s_empty = next
with_leaf g next s_text = with_text next
with_leaf g next (s_leaf k) = with_class (slice_get g.elements k) next
with_leaf g next (s_attribute c p) = next
with_leaf g next (s_list p) = with_text next
with_leaf g next (s_data d) = with_datatype d next
with_leaf g next (s_data_except d p) = with_datatype d next
with_leaf g next (s_value d v) = with_value d v next
with_leaf g next (s_one_or_more p) = next
with_leaf g next (s_joined k p q) = next

-- these leaves may come
abbrev pub with_leaves : Grammar → List (Simple ℕ) → Next
with_leaves g ls = fold (with_leaf g) nothing ls
