-- After an attribute that a repetition takes, the repetition zero or more times is left. If no attribute is in a group
-- (section 7.1.2), the attribute is alone in its copy, so what else the copy may take is a copy again.
use Rattle.std.proofs.Common.{◌≡◌, ℕ, List, [], ◌∷◌, refl, sym, subst}
use Rattle.rng_model.specs.names.Lists.{Among}
use Rattle.rng_model.specs.simple.Tree.{Simple, s_one_or_more}
use Rattle.rng_model.specs.matching.Document.{Attribute, Item, Distinct}
use Rattle.rng_model.specs.matching.Document as document
use Rattle.rng_model.proofs.OneSidedInterleavings.{right_alone}
use Rattle.rng_model.specs.matching.GrammarMatching.{Reading}
use Rattle.rng_deriv_laws.specs.plain.Taking.{Takes, Same}
use Rattle.rng_deriv_laws.specs.plain.Taking as t
use Rattle.rng_deriv_laws.specs.plain.Restricted.{HasNoneGrouped}
use Rattle.rng_deriv_laws.specs.plain.Derivatives.{Way, more_of}
use Rattle.rng_deriv_laws.specs.plain.Ways.{TakesAttribute, AreAttributeWays}
use Rattle.rng_deriv_laws.proofs.AttributeWays.{Remains, nothing, some, attribute_alone, repeat_alone}
use Rattle.rng_deriv_laws.proofs.SameWays.{attribute_among, attribute_way}
use Rattle.rng_deriv_laws.proofs.ListFacts.{apart, distinct_left}

module _ (g : Reading) where
  -- a way of a copy whose leaf may be the whole copy
  pub record MayBeAll (ws : List Way) (leaf : Simple ℕ) : Type 0 where
    pub way : Way
    pub among : Among way ws
    pub same : way.leaf ≡ leaf
    pub ends : Takes g way.rest [] []

  further : (p : Simple ℕ) (xs : List Attribute) (ns : List Item) → Remains g (s_one_or_more p) xs ns → Takes g (more_of p) xs ns
  further p xs ns nothing = t.second t.empty_is
  further p xs ns (some d) = t.first d

  copy_before : (p : Simple ℕ) (a : Attribute) (xs : List Attribute) (ns : List Item) → Distinct (a ∷ xs) → Takes g p (a ∷ []) []
      → Takes g (more_of p) xs ns → Takes g (s_one_or_more p) (a ∷ xs) ns
  copy_before p a xs ns u d (t.first e) = t.again d e (apart (document.left (right_alone xs)) u) (document.left (right_alone xs)) refl
  copy_before p a xs ns u d (t.second t.empty_is) = t.once d

  pub repeated_ways : (Kind : Attribute → Type 0) (p : Simple ℕ) → HasNoneGrouped p → (more : Simple ℕ) (ws vs : List Way) → Same g more (more_of p) →
      ((w : Way) → Among w ws → Takes g w.rest [] [] → Among (record { leaf = w.leaf; rest = more }) vs) →
      ((w : Way) → Among w vs → (w.rest ≡ more) × MayBeAll ws w.leaf) →
      AreAttributeWays g Kind p ws → AreAttributeWays g Kind (s_one_or_more p) vs
  repeated_ways Kind p o more ws vs same each within b = record { to = to; back = back } where
    to : (a : Attribute) (xs : List Attribute) (ns : List Item) → Kind a → Takes g (s_one_or_more p) (a ∷ xs) ns → TakesAttribute g vs a xs ns
    to a xs ns kind d =
        let r = repeat_alone g p a (attribute_alone g p o a) xs ns d in
        let h = attribute_way g ws a [] [] (b.to a [] [] kind r.0) in
        attribute_among g vs _ a xs ns (each h.0 h.1 h.3) h.2 (same.back xs ns (further p xs ns r.1))

    back : (a : Attribute) (xs : List Attribute) (ns : List Item) → Distinct (a ∷ xs) → TakesAttribute g vs a xs ns → Takes g (s_one_or_more p) (a ∷ xs) ns
    back a xs ns u k =
        let h = attribute_way g vs a xs ns k in
        let all = (within h.0 h.1).1 in
        let copy = attribute_among g ws all.way a [] [] all.among (subst (λ l. Takes g l (a ∷ []) []) (sym all.same) h.2) all.ends in
        copy_before p a xs ns u (b.back a [] [] (distinct_left (document.left (right_alone xs)) u) copy)
        (same.to xs ns (subst (λ r. Takes g r xs ns) ((within h.0 h.1).0) h.3))
