-- The listed mentions of a pattern are exactly its mentions.
use Rattle.std.proofs.Common.{◌≡◌, ◌↔◌, inl, inr, refl, ap, sym, ◌∙◌, subst, ℕ, zero, suc, ◌+◌, ◌-◌, ◌<◌, ◌≤◌, List, [], ◌∷◌, ◌++◌, length, map, take, drop, get_or, slice_get}
use Rattle.std.proofs.Common.{slice_index_or, Some, Contains, append_assoc, append-nil, arith}
use Rattle.std.proofs.lemmas.List.{length-map, length-drop, get_or-map, take-append-drop}
use Rattle.std.proofs.lemmas.List.Elements.{Contains-append_left, Contains-append_right, Contains-append_cases, Contains-push_cases}
use Rattle.std.proofs.lemmas.Option.{slice_get-get_or, slice_get_within, get_or_from_slice_get}
use Rattle.rng_model.proofs.Members.{not_in_none}
use Rattle.rng_model.specs.schema.Schema.{nested_from}
use Rattle.rng_model.specs.simple.Tree.{Tree, not_allowed, empty, text, leaf, attribute, list, data_of, data_except, value, mixed, optional, zero_or_more, one_or_more}
use Rattle.rng_model.specs.simple.Tree.{joined, Trees, no_trees, tree_and, Connector, choice, group, interleave}
use Rattle.rng_model.specs.simple.Leaves.{LeafIn, LeafAmong}
use Rattle.rng_model.specs.simple.Leaves as at
use Rattle.rng_simple.specs.plain.Graph.{Spot, at_element, at_definition, Graph, Mentions}
use Rattle.rng_simple.specs.views.GraphView.{arity, child, combined, forest, members, row_tree, trees_of, with_row}
use Rattle.rng_simple.specs.declared.graph.parts.GraphRow.{GraphRow}
use Rattle.rng_simple.specs.declared.graph.parts.GraphRow.TheVariants as row
use Rattle.rng_simple.specs.plain.Mentioned.{definition_of_row, definition_there, mentioned, mentioned_among, all_mentioned}
use Rattle.rng_simple.proofs.Forests.{next_row}
use Rattle.rng_simple.specs.plain.Search.{Lists}

-- ---- what is mentioned is listed

mutual
  listed : (a : Tree Spot) (i : ℕ) → LeafIn (at_definition i) a → Contains (mentioned a) i
  listed not_allowed i l = elim l [ ]
  listed empty i l = elim l [ ]
  listed text i l = elim l [ ]
  listed (data_of d) i l = elim l [ ]
  listed (value d v) i l = elim l [ ]
  listed (leaf p) i at.here = (0, omega arith, refl)
  listed (attribute c a) i (at.of_attribute l) = listed a i l
  listed (list a) i (at.of_list l) = listed a i l
  listed (data_except d a) i (at.of_except l) = listed a i l
  listed (mixed a) i (at.of_mixed l) = listed a i l
  listed (optional a) i (at.of_optional l) = listed a i l
  listed (zero_or_more a) i (at.of_zero_or_more l) = listed a i l
  listed (one_or_more a) i (at.of_one_or_more l) = listed a i l
  listed (joined k a b ts) i (at.of_first l) = Contains-append_left (mentioned a) (mentioned b ++ mentioned_among ts) i (listed a i l)
  listed (joined k a b ts) i (at.of_second l) =
      Contains-append_right (mentioned a) (mentioned b ++ mentioned_among ts) i
      (Contains-append_left (mentioned b) (mentioned_among ts) i (listed b i l))
  listed (joined k a b ts) i (at.of_others l) =
      Contains-append_right (mentioned a) (mentioned b ++ mentioned_among ts) i
      (Contains-append_right (mentioned b) (mentioned_among ts) i (listed_among ts i l))

  listed_among : (ts : Trees Spot) (i : ℕ) → LeafAmong (at_definition i) ts → Contains (mentioned_among ts) i
  listed_among no_trees i l = elim l [ ]
  listed_among (tree_and a ts) i (at.in_this l) = Contains-append_left (mentioned a) (mentioned_among ts) i (listed a i l)
  listed_among (tree_and a ts) i (at.in_later l) = Contains-append_right (mentioned a) (mentioned_among ts) i (listed_among ts i l)

-- ---- what is listed is mentioned

at_spot : (p : Spot) (i : ℕ) → Contains (definition_there p) i → LeafIn (at_definition i) (leaf p)
at_spot (at_element k) i c = absurd (not_in_none c)
at_spot (at_definition j) i c = elim (Contains-push_cases [] j i c) [
  | inl n ↦ absurd (not_in_none n)
  | inr e ↦ subst (λ n. LeafIn (at_definition n) (leaf (at_definition j))) e at.here
]

mutual
  there : (a : Tree Spot) (i : ℕ) → Contains (mentioned a) i → LeafIn (at_definition i) a
  there not_allowed i c = absurd (not_in_none c)
  there empty i c = absurd (not_in_none c)
  there text i c = absurd (not_in_none c)
  there (leaf p) i c = at_spot p i c
  there (attribute d a) i c = at.of_attribute (there a i c)
  there (list a) i c = at.of_list (there a i c)
  there (data_of d) i c = absurd (not_in_none c)
  there (data_except d a) i c = at.of_except (there a i c)
  there (value d v) i c = absurd (not_in_none c)
  there (mixed a) i c = at.of_mixed (there a i c)
  there (optional a) i c = at.of_optional (there a i c)
  there (zero_or_more a) i c = at.of_zero_or_more (there a i c)
  there (one_or_more a) i c = at.of_one_or_more (there a i c)
  there (joined k a b ts) i c = elim (Contains-append_cases (mentioned a) (mentioned b ++ mentioned_among ts) i c) [
    | inl h ↦ at.of_first (there a i h)
    | inr h ↦ elim (Contains-append_cases (mentioned b) (mentioned_among ts) i h) [
      | inl f ↦ at.of_second (there b i f)
      | inr f ↦ at.of_others (there_among ts i f)
    ]
  ]

  there_among : (ts : Trees Spot) (i : ℕ) → Contains (mentioned_among ts) i → LeafAmong (at_definition i) ts
  there_among no_trees i c = absurd (not_in_none c)
  there_among (tree_and a ts) i c = elim (Contains-append_cases (mentioned a) (mentioned_among ts) i c) [
    | inl h ↦ at.in_this (there a i h)
    | inr h ↦ at.in_later (there_among ts i h)
  ]

-- ---- so the lists of all bodies have exactly what each mentions

list_at : (rs : List (Tree Spot)) (j : ℕ) (r : Tree Spot) → slice_get rs j ≡ Some r → slice_index_or (map mentioned rs) j [] ≡ mentioned r
list_at rs j r e = get_or-map mentioned rs j r [] (slice_get_within rs j r e) ∙ ap mentioned (get_or_from_slice_get rs j r r e)

-- a number outside the list mentions nothing
within : (xs : List (List ℕ)) (j i : ℕ) → Lists xs j i → j < length xs
within [] j i c = absurd (not_in_none c)
within (x ∷ xs) zero i c = omega arith
within (x ∷ xs) (suc j) i c = let h = within xs j i c in omega arith

pub mentions_listed : (g : Graph) (j i : ℕ) → Mentions g j i ↔ Lists (map mentioned g.bodies) j i
mentions_listed g j i = (
  λ m. subst (λ xs. Contains xs i) (sym (list_at g.bodies j m.tree m.is)) (listed m.tree i m.there),
  λ c.
      let h = within (map mentioned g.bodies) j i c in
      let r = get_or g.bodies j not_allowed in
      let e : slice_get g.bodies j ≡ Some r = slice_get-get_or g.bodies j not_allowed (omega (arith, h, length-map g.bodies mentioned)) in
      record { tree = r; is = e; there = there r i (subst (λ xs. Contains xs i) (list_at g.bodies j r e) c) },
)

-- ---- members

among_all : (ts : List (Tree Spot)) → mentioned_among (trees_of ts) ≡ all_mentioned ts
among_all [] = refl
among_all (a ∷ ts) = ap (λ xs. mentioned a ++ xs) (among_all ts)

pub mentioned_members : (k : Connector) (ts : List (Tree Spot)) → mentioned (members k ts) ≡ all_mentioned ts
mentioned_members choice [] = refl
mentioned_members group [] = refl
mentioned_members interleave [] = refl
mentioned_members choice (a ∷ []) = sym (append-nil (mentioned a))
mentioned_members group (a ∷ []) = sym (append-nil (mentioned a))
mentioned_members interleave (a ∷ []) = sym (append-nil (mentioned a))
mentioned_members choice (a ∷ (b ∷ ts)) = ap (λ xs. mentioned a ++ (mentioned b ++ xs)) (among_all ts)
mentioned_members group (a ∷ (b ∷ ts)) = ap (λ xs. mentioned a ++ (mentioned b ++ xs)) (among_all ts)
mentioned_members interleave (a ∷ (b ∷ ts)) = ap (λ xs. mentioned a ++ (mentioned b ++ xs)) (among_all ts)

mentioned_nested : (k : Connector) (a : Tree Spot) (ts : List (Tree Spot)) → mentioned (nested_from k a ts) ≡ mentioned a ++ all_mentioned ts
mentioned_nested k a [] = sym (append-nil (mentioned a))
mentioned_nested k a (b ∷ ts) =
    mentioned_nested k (joined k a b no_trees) ts
    ∙ ap (λ xs. (mentioned a ++ xs) ++ all_mentioned ts) (append-nil (mentioned b)) ∙ append_assoc (mentioned a) (mentioned b) (all_mentioned ts)

pub mentioned_combined : (k : Connector) (ts : List (Tree Spot)) → mentioned (combined k ts) ≡ all_mentioned ts
mentioned_combined k [] = refl
mentioned_combined k (a ∷ ts) = mentioned_nested k a ts

-- ---- rows

all_of_two : (ts us : List (Tree Spot)) → all_mentioned (ts ++ us) ≡ all_mentioned ts ++ all_mentioned us
all_of_two [] us = refl
all_of_two (a ∷ ts) us = ap (λ xs. mentioned a ++ xs) (all_of_two ts us) ∙ sym (append_assoc (mentioned a) (all_mentioned ts) (all_mentioned us))

-- no tree, or one
mentioned_child : (ts : List (Tree Spot)) → length ts ≤ 1 → mentioned (child ts) ≡ all_mentioned ts
mentioned_child [] h = refl
mentioned_child (a ∷ []) h = sym (append-nil (mentioned a))
mentioned_child (a ∷ (b ∷ ts)) h = absurd (omega (arith, h))

-- a row mentions what its children mention, and the definition that it is
mentioned_row : (r : GraphRow) (ts : List (Tree Spot)) → length ts ≤ arity r → mentioned (row_tree r ts) ≡ all_mentioned ts ++ definition_of_row r
mentioned_row row.NotAllowed [] h = refl
mentioned_row row.Empty [] h = refl
mentioned_row row.Text [] h = refl
mentioned_row (row.Element k) [] h = refl
mentioned_row (row.Definition j) [] h = refl
mentioned_row (row.Data d) [] h = refl
mentioned_row (row.Value v) [] h = refl
mentioned_row row.NotAllowed (a ∷ ts) h = absurd (omega (arith, h))
mentioned_row row.Empty (a ∷ ts) h = absurd (omega (arith, h))
mentioned_row row.Text (a ∷ ts) h = absurd (omega (arith, h))
mentioned_row (row.Element k) (a ∷ ts) h = absurd (omega (arith, h))
mentioned_row (row.Definition j) (a ∷ ts) h = absurd (omega (arith, h))
mentioned_row (row.Data d) (a ∷ ts) h = absurd (omega (arith, h))
mentioned_row (row.Value v) (a ∷ ts) h = absurd (omega (arith, h))
mentioned_row (row.Attribute c) ts h = mentioned_child ts h ∙ sym (append-nil (all_mentioned ts))
mentioned_row row.List ts h = mentioned_child ts h ∙ sym (append-nil (all_mentioned ts))
mentioned_row (row.DataExcept d) ts h = mentioned_child ts h ∙ sym (append-nil (all_mentioned ts))
mentioned_row row.Mixed ts h = mentioned_child ts h ∙ sym (append-nil (all_mentioned ts))
mentioned_row row.Optional ts h = mentioned_child ts h ∙ sym (append-nil (all_mentioned ts))
mentioned_row row.ZeroOrMore ts h = mentioned_child ts h ∙ sym (append-nil (all_mentioned ts))
mentioned_row row.OneOrMore ts h = mentioned_child ts h ∙ sym (append-nil (all_mentioned ts))
mentioned_row (row.Group n) ts h = mentioned_members group ts ∙ sym (append-nil (all_mentioned ts))
mentioned_row (row.Interleave n) ts h = mentioned_members interleave ts ∙ sym (append-nil (all_mentioned ts))
mentioned_row (row.Choice n) ts h = mentioned_members choice ts ∙ sym (append-nil (all_mentioned ts))

mentioned_with : (ts : List (Tree Spot)) (r : GraphRow) → all_mentioned (with_row ts r) ≡ all_mentioned ts ++ definition_of_row r
mentioned_with ts r =
    let n = length ts - arity r in
    let few : length (drop n ts) ≤ arity r = omega (arith, length-drop n ts) in
    all_of_two (take n ts) (row_tree r (drop n ts) ∷ [])
    ∙ ap (λ xs. all_mentioned (take n ts) ++ xs) (append-nil (mentioned (row_tree r (drop n ts))) ∙ mentioned_row r (drop n ts) few)
    ∙ sym (append_assoc (all_mentioned (take n ts)) (all_mentioned (drop n ts)) (definition_of_row r))
    ∙ ap (λ xs. xs ++ definition_of_row r) (sym (all_of_two (take n ts) (drop n ts)) ∙ ap all_mentioned (take-append-drop n ts))

-- one more row
pub next_mentioned : (rows : List GraphRow) (i : ℕ) (r : GraphRow) (old new : List ℕ) → i < length rows → r ≡ get_or rows i r
    → old ≡ all_mentioned (forest (take i rows)) → new ≡ old ++ definition_of_row r → new ≡ all_mentioned (forest (take (i + 1) rows))
next_mentioned rows i r old new h e same more =
    more ∙ ap (λ xs. xs ++ definition_of_row r) same ∙ sym (ap all_mentioned (next_row rows i r h e) ∙ mentioned_with (forest (take i rows)) r)

-- a row that is no definition adds nothing
pub nothing_added : (xs : List ℕ) → xs ≡ xs ++ []
nothing_added xs = sym (append-nil xs)
