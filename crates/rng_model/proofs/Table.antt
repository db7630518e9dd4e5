-- The trees of a table, one pattern at a time.
use Rattle.std.proofs.Common.{◌≡◌, ℕ, ◌<◌, List, [], ◌∷◌, ◌++◌, length, take, drop, slice_get, Option, Some, None, option_copied, IfSome, Bor, refl, ap, ap₂}
use Rattle.std.proofs.Common.{sym, ◌∙◌, subst, inl, inr, get_or, ◌+◌, length-append, arith}
use Rattle.std.proofs.lemmas.Bool.{cases_lt}
use Rattle.std.proofs.lemmas.List.{take-append-drop, get_or_push, get_or_append_left}
use Rattle.std.proofs.lemmas.Option.{slice_get_within, get_or_from_slice_get, slice_get-get_or}
use Rattle.rng_model.specs.simple.Tree as tree
use Rattle.rng_model.specs.simple.Tree.{group, choice, interleave, s_not_allowed}
use Rattle.rng_model.specs.names.NameViews.{class_of}
use Rattle.rng_model.specs.datatypes.DatatypeViews.{datatype_of}
use Rattle.rng_model.specs.simple.Table.{Table, tree_over, tree_at, trees}
use Rattle.rng_model.specs.simple.TableRules.{AreChildrenBelow, Falls, IsTable}
use Rattle.rng_model.specs.declared.simple.PatternId.{PatternId}
use Rattle.rng_model.specs.declared.simple.Simple.{Simple}
use Rattle.rng_model.specs.declared.simple.Simple.TheVariants as simple
use Rattle.rng_model.proofs.NumberedTrees as numbered

-- one pattern as a tree, given the trees by number
abbrev over_numbers : (ℕ → tree.Simple ℕ) → Simple → tree.Simple ℕ
over_numbers of = tree_over (λ id. of id.0)

-- a pattern's tree depends only on those of its children
reads_below : (p : Simple) (i : ℕ) → AreChildrenBelow i p → numbered.ReadsBelow s_not_allowed over_numbers i p
reads_below (simple.Attribute class body) i h f g same = ap (tree.s_attribute (class_of class.value)) (same body.0 h)
reads_below (simple.List body) i h f g same = ap tree.s_list (same body.0 h)
reads_below (simple.DataExcept datatype except) i h f g same = ap (tree.s_data_except (datatype_of datatype.value)) (same except.0 h)
reads_below (simple.OneOrMore body) i h f g same = ap tree.s_one_or_more (same body.0 h)
reads_below (simple.Group a b) i h f g same = ap₂ (tree.s_joined group) (same a.0 h.0) (same b.0 h.1)
reads_below (simple.Interleave a b) i h f g same = ap₂ (tree.s_joined interleave) (same a.0 h.0) (same b.0 h.1)
reads_below (simple.Choice a b) i h f g same = ap₂ (tree.s_joined choice) (same a.0 h.0) (same b.0 h.1)
reads_below _ i h f g same = refl

-- a pattern's tree is made over the trees of its children
pub tree_at-over_children : (ps : List Simple) (id : PatternId) (p : Simple) → Falls ps → slice_get ps id.0 ≡ Some p → tree_at ps id ≡ tree_over (tree_at ps) p
unfolding trees
tree_at-over_children ps id p falls found = numbered.tree_of-over_children s_not_allowed over_numbers ps id.0 p (reads_below p id.0 (falls id.0 p found)) found

-- the same for a pattern that a look-up found
pub tree_of_found : (t : Table) (id : PatternId) (found : Option (Bor Simple)) → IsTable t → option_copied found ≡ slice_get t.patterns id.0 →
    IfSome found (λ p. tree_at t.patterns id ≡ tree_over (tree_at t.patterns) p.now)
tree_of_found t id None valid e = tt
tree_of_found t id (Some p) valid e = tree_at-over_children t.patterns id p.now valid.falls (sym e)

-- the tree of a pattern that is added at the end is made over the trees so far
pub tree_of_pushed : (ps qs : List Simple) (p : Simple) (id : PatternId) → qs ≡ ps ++ p ∷ [] → id.0 ≡ length ps → tree_at qs id ≡ tree_over (tree_at ps) p
unfolding trees
tree_of_pushed ps qs p id more at = numbered.tree_of_pushed s_not_allowed over_numbers ps qs p id.0 more at

-- and changes no other tree
pub tree_stays_after_push : (ps qs : List Simple) (p : Simple) (id : PatternId) → qs ≡ ps ++ p ∷ [] → id.0 < length ps → tree_at qs id ≡ tree_at ps id
unfolding trees
tree_stays_after_push ps qs p id more inside = numbered.tree_stays s_not_allowed over_numbers ps qs (p ∷ []) id.0 more inside

-- tables that begin with another table have its trees
pub tree_stays : (ps qs : List Simple) (id : PatternId) → take (length ps) qs ≡ ps → id.0 < length ps → tree_at qs id ≡ tree_at ps id
unfolding trees
tree_stays ps qs id front inside =
    let split : qs ≡ ps ++ drop (length ps) qs = sym (take-append-drop (length ps) qs) ∙ ap (λ xs. xs ++ drop (length ps) qs) front in
    numbered.tree_stays s_not_allowed over_numbers ps qs (drop (length ps) qs) id.0 split inside

-- a table stays in order after a pattern is added whose children are before it
pub falls_after_push : (ps qs : List Simple) (p : Simple) → Falls ps → qs ≡ ps ++ p ∷ [] → AreChildrenBelow (length ps) p → Falls qs
falls_after_push ps qs p falls more below i q found =
    let inside = slice_get_within qs i q found in
    let long : length qs ≡ length ps + 1 = omega (arith, ap length more, length-append ps (p ∷ [])) in
    let at : get_or qs i q ≡ q = get_or_from_slice_get qs i q q found in
    elim (cases_lt i (length ps)) [
      | inl old ↦
          let same : get_or ps i q ≡ q = sym (get_or_append_left ps (p ∷ []) q i old) ∙ ap (λ xs. get_or xs i q) (sym more) ∙ at in
          falls i q (slice_get-get_or ps i q old ∙ ap (λ x. Some x) same)
      | inr new ↦
          let last : length ps ≡ i = omega arith in
          let same : p ≡ q = sym (get_or_push ps p q i last) ∙ ap (λ xs. get_or xs i q) (sym more) ∙ at in
          subst (λ x. AreChildrenBelow i x) same (subst (λ n. AreChildrenBelow n p) last below)
    ]
