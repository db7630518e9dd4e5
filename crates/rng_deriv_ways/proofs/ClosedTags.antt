-- What is left of a pattern of the table after all attributes of a tag are taken, from what is left of its parts.
use Rattle.std.proofs.Common.{◌≡◌, ◌∙◌, Result, Ok, Err, IfOk, ℕ, ◌<◌, ◌+◌, ◌↔◌, suc, zero, All, List, [], ◌∷◌, ◌++◌, length, map, take, get_or, refl, sym}
use Rattle.std.proofs.Common.{ap, subst, arith, true}
use Rattle.std.specs.List.{Contains}
use Rattle.std.proofs.Math.ListN.{get_or-map}
use Rattle.std.proofs.Math.Seq.{take-suc}
use Rattle.std.proofs.lemmas.List.{length-map, map-append}
use Rattle.std.proofs.lemmas.List.Elements.{All-append, All-contains}
use Rattle.rng_model.specs.matching.Document.{Attribute, Item}
use Rattle.rng_model.specs.simple.Table.{Table}
use Rattle.rng_model.specs.simple.Tree.{Simple, s_not_allowed, s_empty, s_text, s_leaf, s_attribute, s_list, s_data, s_data_except}
use Rattle.rng_model.specs.simple.Tree.{s_value, s_one_or_more, s_joined}
use Rattle.rng_model.specs.matching.GrammarMatching.{Reading}
use Rattle.rng_deriv_laws.specs.plain.Taking.{Same, Takes}
use Rattle.rng_deriv_laws.specs.plain.Restricted.{HasTexts, MayBeListed}
use Rattle.rng_deriv_laws.specs.plain.Derivatives.{closed, joined_of, repeat_of}
use Rattle.rng_deriv_laws.proofs.SameWays.{choice_all}
use Rattle.rng_deriv_laws.proofs.KeptRestrictions.{HasTexts-hereditary, group_of-keeps, interleave_of-keeps}
use Rattle.rng_deriv_laws.proofs.SamePatterns.{same, same_through}
use Rattle.rng_deriv_table.specs.views.Choices.{IsAlternativeOf, SomeTakes}
use Rattle.rng_deriv_table.specs.views.Node.{Node}
use Rattle.rng_deriv_table.specs.views.PatternTable.{Adds, Longer}
use Rattle.rng_deriv_table.specs.plain.Reduced.{HasAlternative, has_attribute}
use Rattle.rng_deriv_table.specs.views.Trees.{choice_over, tree_of}
use Rattle.rng_deriv_table.specs.declared.pattern.PatternNumber.{PatternNumber}
use Rattle.rng_deriv_table.proofs.Trees.{Longer-length, tree_stays}
use Rattle.rng_deriv_ways.specs.plain.Closing.{IsBareOfAttributes, IsClosed}
use Rattle.rng_deriv_ways.specs.plain.Kinds.{IsAlone, connector_of}
use Rattle.rng_deriv_ways.specs.declared.way.Joint.{Joint}
use Rattle.rng_deriv_ways.specs.declared.way.Joint.TheVariants as joints
use Rattle.rng_deriv_ways.proofs.PatternsWithoutAttributes.{bare_hereditary, bare_repeat, closed_group, closed_interleave, closed_over, closed_repeat}
use Rattle.rng_deriv_ways.proofs.PatternsWithoutAttributes.{member_has, some_more}
use Rattle.rng_deriv_ways.proofs.WaysOfSides.{map_numbers}
use Rattle.rng_deriv_ways.proofs.KeptRestrictions.{choice_has}

closed_both : (g : Reading) (joint : Joint) (a b p q : Simple ℕ) → Same g a (closed p) → Same g b (closed q)
    → Same g (joined_of (connector_of joint) a b) (closed (s_joined (connector_of joint) p q))
closed_both g joints.Group a b p q h k = closed_group g a b p q h k
closed_both g joints.Interleave a b p q h k = closed_interleave g a b p q h k

bare_both : (joint : Joint) (a b : Simple ℕ) → IsBareOfAttributes a → IsBareOfAttributes b → IsBareOfAttributes (joined_of (connector_of joint) a b)
bare_both joints.Group a b h k = group_of-keeps IsBareOfAttributes bare_hereditary a b h k
bare_both joints.Interleave a b h k = interleave_of-keeps IsBareOfAttributes bare_hereditary a b h k

pub both_closed : (joint : Joint) (old n1 n2 n3 : List Node) (number first second a b rest : PatternNumber)
    → ((t : Table) → tree_of t old number.0 ≡ s_joined (connector_of joint) (tree_of t old first.0) (tree_of t old second.0))
    → second.0 < length old → Longer old n1 → Longer n1 n2 → IsClosed old n1 first a → IsClosed n1 n2 second b
    → Adds n2 n3 rest.0 (λ t. joined_of (connector_of joint) (tree_of t n2 a.0) (tree_of t n2 b.0)) → IsClosed old n3 number rest
both_closed joint old n1 n2 n3 number first second a b rest is inside longer1 longer2 h k adds = record {
  inside = adds.inside;
  same = λ t g.
      let p = tree_of t old first.0 in
      let q = tree_of t old second.0 in
      subst (λ r. Same g r (closed (tree_of t old number.0))) (sym (adds.is t))
      (subst (λ r. Same g (joined_of (connector_of joint) (tree_of t n2 a.0) (tree_of t n2 b.0)) (closed r)) (sym (is t))
      (closed_both g joint (tree_of t n2 a.0) (tree_of t n2 b.0) p q
      (subst (λ r. Same g r (closed p)) (sym (tree_stays t n1 n2 a.0 longer2 h.inside)) (h.same t g))
      (subst (λ r. Same g (tree_of t n2 b.0) (closed r)) (tree_stays t old n1 second.0 longer1 inside) (k.same t g))));
  bare = λ t o.
      let sides = (HasTexts-hereditary MayBeListed).sides (connector_of joint) (tree_of t old first.0) (tree_of t old second.0)
      (subst (HasTexts MayBeListed) (is t) o) in
      subst IsBareOfAttributes (sym (adds.is t))
      (bare_both joint (tree_of t n2 a.0) (tree_of t n2 b.0)
      (subst IsBareOfAttributes (sym (tree_stays t n1 n2 a.0 longer2 h.inside)) (h.bare t sides.0))
      (k.bare t (subst (HasTexts MayBeListed) (sym (tree_stays t old n1 second.0 longer1 inside)) sides.1)));
}

pub copies_closed : (old n1 n2 : List Node) (number body a rest : PatternNumber)
    → ((t : Table) → tree_of t old number.0 ≡ s_one_or_more (tree_of t old body.0)) → IsClosed old n1 body a
    → Adds n1 n2 rest.0 (λ t. repeat_of (tree_of t n1 a.0)) → IsClosed old n2 number rest
copies_closed old n1 n2 number body a rest is h adds = record {
  inside = adds.inside;
  same = λ t g.
      subst (λ r. Same g r (closed (tree_of t old number.0))) (sym (adds.is t))
      (subst (λ r. Same g (repeat_of (tree_of t n1 a.0)) (closed r)) (sym (is t)) (closed_repeat g (tree_of t n1 a.0) (tree_of t old body.0) (h.same t g)));
  bare = λ t o. subst IsBareOfAttributes (sym (adds.is t)) (bare_repeat (tree_of t n1 a.0) (h.bare t (subst (HasTexts MayBeListed) (is t) o)));
}

attribute_closed : (p : Simple ℕ) → IsAlone p → has_attribute p ≡ true → closed p ≡ s_not_allowed
attribute_closed s_not_allowed h e = refl
attribute_closed s_empty h e = absurd (cc)
attribute_closed s_text h e = absurd (cc)
attribute_closed (s_leaf k) h e = absurd (cc)
attribute_closed (s_attribute c p) h e = refl
attribute_closed (s_list p) h e = absurd (cc)
attribute_closed (s_data d) h e = absurd (cc)
attribute_closed (s_data_except d p) h e = absurd (cc)
attribute_closed (s_value d v) h e = absurd (cc)
attribute_closed (s_one_or_more p) h e = absurd h
attribute_closed (s_joined k p q) h e = absurd h

pub none_closed : (old new : List Node) (number rest : PatternNumber) → ((t : Table) → IsAlone (tree_of t old number.0))
    → ((t : Table) → has_attribute (tree_of t old number.0) ≡ true) → Adds old new rest.0 (λ t. s_not_allowed) → IsClosed old new number rest
none_closed old new number rest alone there adds = record {
  inside = adds.inside;
  same = λ t g. subst (λ r. Same g r (closed (tree_of t old number.0))) (sym (adds.is t))
      (subst (λ r. Same g s_not_allowed r) (sym (attribute_closed _ (alone t) (there t))) (same g s_not_allowed));
  bare = λ t o. subst IsBareOfAttributes (sym (adds.is t)) bare_hereditary.of_not_allowed;
}

pub choice_closed : (old before new : List Node) (number rest : PatternNumber) (ms closes : List PatternNumber)
    → ((t : Table) → tree_of t old number.0 ≡ choice_over (tree_of t old) (map (λ (m : PatternNumber). m.0) ms)) → rest.0 < length new
    → ((t : Table) (g : Reading) (xs : List Attribute) (ns : List Item) → SomeTakes g (tree_of t before) closes xs ns
    ↔ Takes g (choice_all (map (λ (m : PatternNumber). closed (tree_of t old m.0)) ms)) xs ns)
    → ((t : Table) → All (λ (m : PatternNumber). HasTexts MayBeListed (tree_of t old m.0)) ms → All
    (λ (m : PatternNumber). IsBareOfAttributes (tree_of t before m.0)) closes)
    → ((t : Table) (s : Simple ℕ) → HasAlternative (tree_of t new rest.0) s → IsAlternativeOf (tree_of t before) closes s)
    → ((t : Table) (g : Reading) (xs : List Attribute) (ns : List Item) → Takes g (tree_of t new rest.0) xs ns ↔ SomeTakes g (tree_of t before) closes xs ns)
    → IsClosed old new number rest
choice_closed old before new number rest ms closes is inside takes bare alternatives matches = record {
  inside = inside;
  same = λ t g.
      let numbers : List ℕ = map (λ (m : PatternNumber). m.0) ms in
      let f : ℕ → Simple ℕ = tree_of t old in
      subst (λ r. Same g (tree_of t new rest.0) (closed r)) (sym (is t))
      (same_through g (record {
        to = λ xs ns d. (takes t g xs ns).0 ((matches t g xs ns).0 d);
        back = λ xs ns d. (matches t g xs ns).1 ((takes t g xs ns).1 d);
      }) (subst (λ ps. Same g (choice_all ps) (closed (choice_over f numbers))) (map_numbers (λ m. closed (f m)) ms) (closed_over g f numbers)));
  bare = λ t o.
      let numbers : List ℕ = map (λ (m : PatternNumber). m.0) ms in
      let whole = subst (HasTexts MayBeListed) (is t) o in
      let each : All (λ (m : PatternNumber). HasTexts MayBeListed (tree_of t old m.0)) ms = λ i d h.
      let long = length-map ms (λ (m : PatternNumber). m.0) in
      subst (λ k. HasTexts MayBeListed (tree_of t old k)) (get_or-map (λ (m : PatternNumber). m.0) ms i d)
      (member_has (HasTexts MayBeListed) (HasTexts-hereditary MayBeListed) (tree_of t old) numbers whole i d.0 (omega (arith, long, h))) in
      let all = bare t each in
      choice_has IsBareOfAttributes bare_hereditary (tree_of t before) closes (tree_of t new rest.0) (alternatives t)
      (λ m c. let At : PatternNumber → Type 0 = λ k. IsBareOfAttributes (tree_of t before k.0) in All-contains At closes m all c);
}

-- ---- one more member

module _ (n0 before n1 : List Node) (ms : List PatternNumber) (i : ℕ) (none : PatternNumber) (closes : List PatternNumber) (rest : PatternNumber)
    (within : i < length ms) (there : (get_or ms i none).0 < length n0) (longer0 : Longer n0 before) (longer1 : Longer before n1)
    (own : IsClosed before n1 (get_or ms i none) rest)
    (inside : All (λ (m : PatternNumber). m.0 < length before) closes)
    (takes : (t : Table) (g : Reading) (xs : List Attribute) (ns : List Item) → SomeTakes g (tree_of t before) closes xs ns
    ↔ Takes g (choice_all (map (λ (m : PatternNumber). closed (tree_of t n0 m.0)) (take i ms))) xs ns)
    (bare : (t : Table) → All (λ (m : PatternNumber). HasTexts MayBeListed (tree_of t n0 m.0)) ms
    → All (λ (m : PatternNumber). IsBareOfAttributes (tree_of t before m.0)) closes)
  where
    member_is : (t : Table) → tree_of t before (get_or ms i none).0 ≡ tree_of t n0 (get_or ms i none).0
    member_is t = tree_stays t n0 before (get_or ms i none).0 longer0 there

    pub inside_more : All (λ (m : PatternNumber). m.0 < length n1) (closes ++ rest ∷ [])
    inside_more = All-append (λ (m : PatternNumber). m.0 < length n1) closes (rest ∷ [])
        (λ k d h. let was = inside k d h in let long = Longer-length before n1 longer1 in omega (arith, was, long)) (only own.inside) where
          only : rest.0 < length n1 → All (λ (m : PatternNumber). m.0 < length n1) (rest ∷ [])
          only h (zero) d l = h
          only h (suc k) d l = absurd (omega (arith, l))

    next : i + 1 ≡ suc i
    next = omega arith

    cut : (t : Table) → map (λ (m : PatternNumber). closed (tree_of t n0 m.0)) (take i ms) ++ closed (tree_of t n0 (get_or ms i none).0) ∷ []
        ≡ map (λ (m : PatternNumber). closed (tree_of t n0 m.0)) (take (i + 1) ms)
    cut t = sym (ap (map (λ (m : PatternNumber). closed (tree_of t n0 m.0))) (ap (λ k. take k ms) next ∙ take-suc ms i none within)
        ∙ map-append (λ (m : PatternNumber). closed (tree_of t n0 m.0)) (take i ms) (get_or ms i none ∷ []))

    some_stay : (t : Table) (g : Reading) (xs : List Attribute) (ns : List Item) → SomeTakes g (tree_of t n1) closes xs ns ↔ SomeTakes g
        (tree_of t before) closes xs ns
    some_stay t g xs ns = (
      λ h. (h.0, h.1, subst (λ p. Takes g p xs ns) (stays h.0 h.1) h.2),
      λ h. (h.0, h.1, subst (λ p. Takes g p xs ns) (sym (stays h.0 h.1)) h.2),
    ) where
      stays : (m : PatternNumber) → Contains closes m → tree_of t n1 m.0 ≡ tree_of t before m.0
      stays m (k, h, e) = let P : PatternNumber → Type 0 = λ m. tree_of t n1 m.0 ≡ tree_of t before m.0 in
          subst P e (tree_stays t before n1 (get_or closes k m).0 longer1 (inside k m h))

    pub takes_more : (t : Table) (g : Reading) (xs : List Attribute) (ns : List Item) → SomeTakes g (tree_of t n1) (closes ++ rest ∷ []) xs ns
        ↔ Takes g (choice_all (map (λ (m : PatternNumber). closed (tree_of t n0 m.0)) (take (i + 1) ms))) xs ns
    takes_more t g xs ns =
        let stay = some_stay t g xs ns in
        let was = takes t g xs ns in
        let front : List (Simple ℕ) = map (λ (m : PatternNumber). closed (tree_of t n0 m.0)) (take i ms) in
        subst (λ ps. SomeTakes g (tree_of t n1) (closes ++ rest ∷ []) xs ns ↔ Takes g (choice_all ps) xs ns) (cut t)
        (some_more g (tree_of t n1) closes rest front (closed (tree_of t n0 (get_or ms i none).0)) xs ns (λ h. was.0 (stay.0 h), λ d. stay.1 (was.1 d))
        (subst (λ p. Same g (tree_of t n1 rest.0) (closed p)) (member_is t) (own.same t g)))

    pub bare_more : (t : Table) → All (λ (m : PatternNumber). HasTexts MayBeListed (tree_of t n0 m.0)) ms
        → All (λ (m : PatternNumber). IsBareOfAttributes (tree_of t n1 m.0)) (closes ++ rest ∷ [])
    bare_more t each = All-append (λ (m : PatternNumber). IsBareOfAttributes (tree_of t n1 m.0)) closes (rest ∷ [])
        (λ k d h. subst IsBareOfAttributes (sym (tree_stays t before n1 (get_or closes k d).0 longer1 (inside k d h))) (bare t each k d h))
        (only (own.bare t (subst (HasTexts MayBeListed) (sym (member_is t)) (each i none within)))) where
          only : IsBareOfAttributes (tree_of t n1 rest.0) → All (λ (m : PatternNumber). IsBareOfAttributes (tree_of t n1 m.0)) (rest ∷ [])
          only h (zero) d l = h
          only h (suc k) d l = absurd (omega (arith, l))

pub both_ok : {X E : Type 0} (r : Result X E) (P Q : X → Type 0) → IfOk r P → IfOk r Q → IfOk r (λ x. P x × Q x)
both_ok (Ok x) P Q h k = (h, k)
both_ok (Err e) P Q h k = h
