-- What is left after a string or an attribute, by ways and their rests.
use Rattle.std.proofs.Common.{◌≡◌, ℕ, zero, suc, ◌<◌, ◌↔◌, ◌⊎◌, inl, inr, ⊎_elim, List, [], ◌∷◌, ◌++◌, length, sym, ap, subst, arith}
use Rattle.std.proofs.Common.{All, Bool, true, false, Contains, Bor}
use Rattle.std.proofs.lemmas.List.{map-append}
use Rattle.std.proofs.lemmas.List.Elements.{All-append, Contains-get_or, Contains-append_left, Contains-append_right, Contains-append_cases, All-contains}
use Rattle.rng_model.specs.names.Lists.{Among, here, there}
use Rattle.rng_model.specs.simple.Tree.{Simple, s_not_allowed}
use Rattle.rng_model.specs.matching.Document.{Attribute, Item, a_text}
use Rattle.rng_model.specs.simple.Table.{Table}
use Rattle.rng_model.specs.documents.EventViews.{attribute_of}
use Rattle.rng_model.specs.names.NameViews.{name_of}
use Rattle.rng_model.specs.declared.document.Attr.{Attr}
use Rattle.rng_model.specs.declared.name.Name.{Name}
use Rattle.rng_model.specs.matching.GrammarMatching.{Reading, reading_of}
use Rattle.rng_deriv_laws.specs.plain.Taking.{Takes}
use Rattle.rng_deriv_laws.specs.plain.Derivatives.{Way}
use Rattle.rng_deriv_laws.specs.plain.Restricted.{IsRestricted}
use Rattle.rng_deriv_laws.specs.plain.Ways.{AreAttributeWays, EachWay, IsAttributeLeaf}
use Rattle.rng_deriv_laws.proofs.AttributeWays.{attribute_ways-are}
use Rattle.rng_deriv_laws.proofs.KeptRestrictions.{attribute_ways-keep}
use Rattle.rng_deriv_laws.proofs.SameWays.{item_among, item_way, attribute_among, attribute_way}
use Rattle.rng_deriv_table.specs.views.Choices.{IsAlternativeOf, SomeTakes}
use Rattle.rng_deriv_table.specs.views.Node.{Node}
use Rattle.rng_deriv_table.specs.views.PatternTable.{Longer}
use Rattle.rng_deriv_table.specs.plain.Reduced.{HasAlternative}
use Rattle.rng_deriv_table.specs.views.Trees.{tree_of}
use Rattle.rng_deriv_table.specs.declared.pattern.PatternNumber.{PatternNumber}
use Rattle.rng_deriv_table.proofs.Choices.{only_one}
use Rattle.rng_deriv_table.proofs.Trees.{Longer-length, Longer-trans, tree_stays}
use Rattle.rng_deriv_texts.specs.plain.After.{AreFor, AreRests, AreThoseBehind, AreWaysFor, IsLeafFor, IsLeft, TellsTaken, attributes_of, items_of, place_of}
use Rattle.rng_deriv_ways.specs.plain.Kinds.{Obeys, rest_of_leaf}
use Rattle.rng_deriv_ways.specs.plain.Ways.{AreWaysOf, IsInside, Offers, way_by, ways_by}
use Rattle.rng_deriv_texts.specs.declared.first.First.{First}
use Rattle.rng_deriv_texts.specs.declared.first.First.TheVariants as firsts
use Rattle.rng_deriv_ways.specs.declared.way.Kind.TheVariants as kinds
use Rattle.rng_deriv_ways.specs.declared.way.Place.{Place}
use Rattle.rng_deriv_ways.specs.declared.way.Place.TheVariants as places
use Rattle.rng_deriv_ways.specs.declared.way.LeafWay as numbered
use Rattle.rng_deriv_ways.proofs.KeptRestrictions.{Obeys-hereditary, choice_has, each_first, each_second}
use Rattle.rng_deriv_ways.proofs.WayLists.{offers_both, offers_first, offers_second}
use Rattle.rng_deriv_ways.proofs.WaysOfLeaves.{attribute_leaf, leaf_kept, leaf_law, leaf_way}

-- a string in a list is judged for one outside, and one outside for the value of an attribute
abbrev pub rank : First → ℕ
rank (firsts.Text places.List s) = 0
rank (firsts.Text places.Content s) = 10
rank (firsts.Attribute a) = 20

-- ---- ways

pub ways_for_text : (t : Table) (ns : List Node) (place : Place) (s : _) (p : Simple ℕ) (ws : List numbered.LeafWay)
    → AreWaysOf t ns kinds.Text p ws → AreWaysFor t ns (firsts.Text place s) p ws
ways_for_text t ns place s p ws h = let g = reading_of t in let vs = ways_by (tree_of t ns) ws in record {
  inside = h.inside;
  law = λ o ms bare. (
    λ w. h.law.back (a_text s.now) ms (item_among g vs w.0 (a_text s.now) ms w.1 w.2 w.3),
    λ d. item_way g vs (a_text s.now) ms (h.law.to (a_text s.now) ms tt bare d),
  );
  kept = λ o. h.kept place o;
}

pub ways_for_attribute : (t : Table) (ns : List Node) (a : Bor Attr) (q : Bor Name) (p : Simple ℕ) (ws : List numbered.LeafWay)
    → q.now ≡ a.now.name
    → AreWaysOf t ns (kinds.Attribute q) p ws → AreWaysFor t ns (firsts.Attribute a) p ws
ways_for_attribute t ns a q p ws e h =
    let g = reading_of t in
    let vs = ways_by (tree_of t ns) ws in
    let b : Attribute = attribute_of a.now in record {
      inside = h.inside;
      law = λ o ys ms distinct. (
        λ w. (h.law o.repeats).back b ys ms distinct (attribute_among g vs w.0 b ys ms w.1 w.2 w.3),
        λ d. attribute_way g vs b ys ms ((h.law o.repeats).to b ys ms (sym (ap name_of e)) d),
      );
      kept = λ o. h.kept places.Content o;
    }

-- ---- rests

module _ (g : Reading) where
  pub those_same : (first : First) (p : Simple ℕ) (A B : List Attribute → List Item → Type 0) → ((xs : List Attribute) (ns : List Item) → B xs ns ↔ A xs ns)
      → AreThoseBehind g first p A → AreThoseBehind g first p B
  those_same (firsts.Text place s) p A B same law = λ ns bare.
      let e = same [] ns in let f = law ns bare in (λ h. f.0 (e.0 h), λ d. e.1 (f.1 d))
  those_same (firsts.Attribute a) p A B same law = λ xs ns distinct.
      let e = same xs ns in let f = law xs ns distinct in (λ h. f.0 (e.0 h), λ d. e.1 (f.1 d))

  pub one_more_takes : (f : ℕ → Simple ℕ) (ms : List PatternNumber) (m : PatternNumber) (xs : List Attribute) (ns : List Item)
      → SomeTakes g f (ms ++ m ∷ []) xs ns ↔ (SomeTakes g f ms xs ns ⊎ Takes g (f m.0) xs ns)
  one_more_takes f ms m xs ns = (
    λ h. ⊎_elim (λ l. inl (h.0, l, h.2)) (λ r. inr (own h.0 (only_one m h.0 r) h.2)) (Contains-append_cases ms (m ∷ []) h.0 h.1),
    λ d. ⊎_elim (λ h. (h.0, Contains-append_left ms (m ∷ []) h.0 h.1, h.2))
        (λ k. (m, Contains-append_right ms (m ∷ []) m (Contains-get_or (m ∷ []) 0 m (omega arith)), k)) d,
  ) where
    own : (n : PatternNumber) → m ≡ n → Takes g (f n.0) xs ns → Takes g (f m.0) xs ns
    own n e d = let P : PatternNumber → Type 0 = λ k. Takes g (f k.0) xs ns in subst P (sym e) d

  pub one_offers : (w : Way) (xs : List Attribute) (ks : List Item) (ys : List Attribute) (ms : List Item) → Offers g (w ∷ []) xs ks ys ms
      → Takes g w.leaf xs ks × Takes g w.rest ys ms
  one_offers w xs ks ys ms (v, here, d, e) = (d, e)
  one_offers w xs ks ys ms (v, there a, d, e) = elim a [ ]

module _ (P : PatternNumber → Type 0) where
  pub only_this : (m : PatternNumber) → P m → All P (m ∷ [])
  only_this m h (zero) d l = h
  only_this m h (suc k) d l = absurd (omega (arith, l))

-- without ways there are no rests
pub no_rests : (t : Table) (ns : List Node) (first : First) (rests : List PatternNumber) → rests ≡ [] → AreRests t ns ns first [] rests
no_rests t ns first rests e = subst (AreRests t ns ns first []) (sym e) (record {
  inside = λ i d h. absurd (omega (arith, h));
  takes = λ each xs ks. (λ h. absurd (none h.0 h.1), λ h. nowhere h.0 h.1);
  kept = λ each i d h. absurd (omega (arith, h));
}) where
  none : (m : PatternNumber) → Contains [] m → ⊥
  none m (i, h, e) = omega (arith, h)

  nowhere : {A : Type 0} (w : Way) → Among w [] → A
  nowhere w a = elim a [ ]

module _ (t : Table) (old before new : List Node) (first : First) (ws : List numbered.LeafWay) (w : numbered.LeafWay) (rests : List PatternNumber)
    (longer : Longer old before) (longer' : Longer before new) (inside : IsInside old w) (was : AreRests t old before first ws rests)
  where
    abbrev f : ℕ → Simple ℕ
    f = tree_of t old

    abbrev g : Reading
    g = reading_of t

    stays : (m : PatternNumber) → Contains rests m → tree_of t new m.0 ≡ tree_of t before m.0
    stays m c = let P : PatternNumber → Type 0 = λ m. m.0 < length before in tree_stays t before new m.0 longer' (All-contains P rests m was.inside c)

    some_stay : (xs : List Attribute) (ns : List Item) → SomeTakes g (tree_of t new) rests xs ns ↔ SomeTakes g (tree_of t before) rests xs ns
    some_stay xs ns = (
      λ h. (h.0, h.1, subst (λ p. Takes g p xs ns) (stays h.0 h.1) h.2),
      λ h. (h.0, h.1, subst (λ p. Takes g p xs ns) (sym (stays h.0 h.1)) h.2),
    )

    still_inside : All (λ (m : PatternNumber). m.0 < length new) rests
    still_inside i d h = let at = was.inside i d h in let long = Longer-length before new longer' in omega (arith, at, long)

    cut : ways_by f (ws ++ w ∷ []) ≡ ways_by f ws ++ way_by f w ∷ []
    cut = map-append (way_by f) ws (w ∷ [])

    front : AreFor first (ways_by f (ws ++ w ∷ [])) → AreFor first (ways_by f ws)
    front each = each_first _ _ (ways_by f ws) (way_by f w ∷ []) (subst (AreFor first) cut each)

    back : AreFor first (ways_by f (ws ++ w ∷ [])) → AreFor first (way_by f w ∷ [])
    back each = each_second _ _ (ways_by f ws) (way_by f w ∷ []) (subst (AreFor first) cut each)

    still_kept : AreFor first (ways_by f ws) → All (λ (m : PatternNumber). Obeys (place_of first) (tree_of t new m.0)) rests
    still_kept each i d h =
        let at = was.inside i d h in
        subst (Obeys (place_of first)) (sym (tree_stays t before new _ longer' at)) (was.kept each i d h)

    offers_more : (xs : List Attribute) (ns : List Item) → Offers g (ways_by f (ws ++ w ∷ [])) (attributes_of first) (items_of first) xs ns
        ↔ (Offers g (ways_by f ws) (attributes_of first) (items_of first) xs ns
        ⊎ (Takes g (f w.leaf.0) (attributes_of first) (items_of first) × Takes g (f w.rest.0) xs ns))
    offers_more xs ns =
        let One : List Way → Type 0 = λ vs. Offers g vs (attributes_of first) (items_of first) xs ns in (
          λ h. ⊎_elim (λ a. inl a) (λ b. inr (one_offers g (way_by f w) _ _ xs ns b))
              (offers_both g _ _ xs ns (ways_by f ws) (way_by f w ∷ []) (subst One cut h)),
          λ d. subst One (sym cut) (⊎_elim (λ a. offers_first g _ _ xs ns (ways_by f ws) (way_by f w ∷ []) a)
              (λ b. offers_second g _ _ xs ns (ways_by f ws) (way_by f w ∷ []) (way_by f w, here, b.0, b.1)) d),
        )

    told : (b : Bool) → TellsTaken g first (tree_of t before w.leaf.0) b → AreFor first (ways_by f (ws ++ w ∷ []))
        → (b ≡ true) ↔ Takes g (f w.leaf.0) (attributes_of first) (items_of first)
    told b tells each =
        let own = (back each).0 in
        subst (λ l. TellsTaken g first l b) (tree_stays t old before w.leaf.0 longer inside.0) tells own.0.0 own.0.1

    pub leaf_leaves_none : (b : Bool) → b ≡ false → TellsTaken g first (tree_of t before w.leaf.0) b → AreRests t old new first (ws ++ w ∷ []) rests
    leaf_leaves_none b e tells = record {
      inside = still_inside;
      takes = λ each xs ns.
          let stay = some_stay xs ns in
          let offer = offers_more xs ns in
          let now = was.takes (front each) xs ns in
          let leaf = told b tells each in (
            λ h. offer.1 (inl (now.0 (stay.0 h))),
            λ h. stay.1 (now.1 (⊎_elim (λ a. a) (λ d. let no = leaf.1 d.0 in absurd (cc)) (offer.0 h))),
          );
      kept = λ each. still_kept (front each);
    }

    -- a way whose rest is left already leaves no more
    pub leaf_covered : (r : PatternNumber) → Contains rests r → r ≡ w.rest → AreRests t old new first (ws ++ w ∷ []) rests
    leaf_covered r has e =
        let rest_is = tree_stays t old new w.rest.0 (Longer-trans old before new longer longer') inside.1 in
        record {
          inside = still_inside;
          takes = λ each xs ns.
              let stay = some_stay xs ns in
              let offer = offers_more xs ns in
              let now = was.takes (front each) xs ns in
              let P : PatternNumber → Type 0 = λ m. Takes g (tree_of t new m.0) xs ns in (
                λ h. offer.1 (inl (now.0 (stay.0 h))),
                λ h. ⊎_elim (λ a. stay.1 (now.1 a)) (λ d. (r, has, subst P (sym e) (subst (λ p. Takes g p xs ns) (sym rest_is) d.1))) (offer.0 h),
              );
          kept = λ each. still_kept (front each);
        }

    pub leaf_leaves : (b : Bool) (more : List PatternNumber) → b ≡ true → more ≡ rests ++ w.rest ∷ [] → TellsTaken g first (tree_of t before w.leaf.0) b
        → AreRests t old new first (ws ++ w ∷ []) more
    leaf_leaves b more e added tells =
        let rest_is = tree_stays t old new w.rest.0 (Longer-trans old before new longer longer') inside.1 in
        let long = Longer-length old new (Longer-trans old before new longer longer') in
        let there = inside.1 in
        subst (AreRests t old new first (ws ++ w ∷ [])) (sym added) (record {
          inside = All-append (λ (m : PatternNumber). m.0 < length new) rests (w.rest ∷ []) still_inside
              (only_this (λ m. m.0 < length new) w.rest (omega (arith, long, there)));
          takes = λ each xs ns.
              let stay = some_stay xs ns in
              let offer = offers_more xs ns in
              let now = was.takes (front each) xs ns in
              let leaf = told b tells each in
              let one = one_more_takes g (tree_of t new) rests w.rest xs ns in (
                λ h. offer.1 (⊎_elim (λ a. inl (now.0 (stay.0 a))) (λ d. inr (leaf.0 e, subst (λ p. Takes g p xs ns) rest_is d)) (one.0 h)),
                λ h. one.1 (⊎_elim (λ a. inl (stay.1 (now.1 a))) (λ d. inr (subst (λ p. Takes g p xs ns) (sym rest_is) d.1)) (offer.0 h)),
              );
          kept = λ each. All-append (λ (m : PatternNumber). Obeys (place_of first) (tree_of t new m.0)) rests (w.rest ∷ []) (still_kept (front each))
              (only_this (λ m. Obeys (place_of first) (tree_of t new m.0)) w.rest (subst (Obeys (place_of first)) (sym rest_is) (back each).0.1));
        })

-- ---- a choice of the rests

pub left_behind : (t : Table) (old n1 n2 new : List Node) (first : First) (number rest : PatternNumber) (ways : List numbered.LeafWay)
    (rests : List PatternNumber) → AreWaysFor t n1 first (tree_of t old number.0) ways → AreRests t n1 n2 first ways rests → rest.0 < length new
    → ((s : Simple ℕ) → HasAlternative (tree_of t new rest.0) s → IsAlternativeOf (tree_of t n2) rests s)
    → ((xs : List Attribute) (ns : List Item) → Takes (reading_of t) (tree_of t new rest.0) xs ns ↔ SomeTakes (reading_of t) (tree_of t n2) rests xs ns)
    → IsLeft t old new first number rest
left_behind t old n1 n2 new first number rest ways rests all some inside alternatives matches = record {
  inside = inside;
  law = λ o. those_same (reading_of t) first (tree_of t old number.0) _ _
      (λ xs ns. let e = matches xs ns in let f = some.takes (all.kept o) xs ns in (λ h. f.0 (e.0 h), λ h. e.1 (f.1 h))) (all.law o);
  kept = λ o. choice_has (Obeys (place_of first)) (Obeys-hereditary (place_of first)) (tree_of t n2) rests (tree_of t new rest.0)
      alternatives
      (λ m c. let P : PatternNumber → Type 0 = λ m. Obeys (place_of first) (tree_of t n2 m.0) in All-contains P rests m (some.kept (all.kept o)) c);
}

-- ---- a leaf that a string may take

pub takes_nothing : {g : Reading} {xs : List Attribute} {ns : List Item} → Takes g s_not_allowed xs ns → ⊥
takes_nothing d = elim d [ ]

module _ (t : Table) (old new : List Node) (number rest : PatternNumber) (inside : rest.0 < length new) where
  abbrev r : Reading
  r = reading_of t

  abbrev leaf : Simple ℕ
  leaf = tree_of t old number.0

  attribute_law : IsAttributeLeaf leaf → IsRestricted leaf → AreAttributeWays r (λ b. Unit {0}) leaf (leaf_way leaf ∷ [])
  attribute_law sort o = subst (λ ws. AreAttributeWays r (λ b. Unit {0}) leaf ws) (attribute_leaf leaf sort) (attribute_ways-are r _ leaf o.repeats)

  pub leaf_taken : (first : First) → IsLeafFor first leaf → tree_of t new rest.0 ≡ rest_of_leaf leaf
      → (Obeys (place_of first) leaf → Takes r leaf (attributes_of first) (items_of first)) → IsLeft t old new first number rest
  leaf_taken (firsts.Text place s) sort is taken =
      let law = leaf_law r kinds.Text leaf sort in
      record {
        inside = inside;
        law = λ o ms bare. (
          λ h. law.back (a_text s.now) ms (inl (taken o, subst (λ p. Takes r p [] ms) is h)),
          λ d. ⊎_elim (λ both. subst (λ p. Takes r p [] ms) (sym is) both.1) (λ none. absurd none) (law.to (a_text s.now) ms tt bare d),
        );
        kept = λ o. subst (Obeys place) (sym is) (leaf_kept kinds.Text place leaf sort o).0.1;
      }
  leaf_taken (firsts.Attribute a) sort is taken =
      record {
        inside = inside;
        law = λ o xs ms distinct. let law = attribute_law sort o in (
          λ h. law.back (attribute_of a.now) xs ms distinct (inl (taken o, subst (λ p. Takes r p xs ms) is h)),
          λ d. ⊎_elim (λ both. subst (λ p. Takes r p xs ms) (sym is) both.1) (λ none. absurd none) (law.to (attribute_of a.now) xs ms tt d),
        );
        kept = λ o. subst IsRestricted (sym is)
            (subst (EachWay (λ l. IsAttributeLeaf l × IsRestricted l) IsRestricted) (attribute_leaf leaf sort)
            (attribute_ways-keep IsRestricted (Obeys-hereditary places.Content) leaf o)).0.1;
      }

  pub leaf_not_taken : (first : First) → IsLeafFor first leaf → tree_of t new rest.0 ≡ s_not_allowed
      → (Obeys (place_of first) leaf → Takes r leaf (attributes_of first) (items_of first) → ⊥) → IsLeft t old new first number rest
  leaf_not_taken (firsts.Text place s) sort is not =
      let law = leaf_law r kinds.Text leaf sort in
      record {
        inside = inside;
        law = λ o ms bare. (
          λ h. absurd (takes_nothing (subst (λ p. Takes r p [] ms) is h)),
          λ d. ⊎_elim (λ both. absurd (not o both.0)) (λ none. absurd none) (law.to (a_text s.now) ms tt bare d),
        );
        kept = λ o. subst (Obeys place) (sym is) (Obeys-hereditary place).of_not_allowed;
      }
  leaf_not_taken (firsts.Attribute a) sort is not =
      record {
        inside = inside;
        law = λ o xs ms distinct. let law = attribute_law sort o in (
          λ h. absurd (takes_nothing (subst (λ p. Takes r p xs ms) is h)),
          λ d. ⊎_elim (λ both. absurd (not o both.0)) (λ none. absurd none) (law.to (attribute_of a.now) xs ms tt d),
        );
        kept = λ o. subst IsRestricted (sym is) (Obeys-hereditary places.Content).of_not_allowed;
      }

-- what is left of a leaf in a table that has grown, as a test in the earlier one tells
pub leaf_left_later : (t : Table) (old mid new : List Node) (leaf rest : PatternNumber) (first : First) (b : Bool) → Longer old mid → leaf.0 < length old
    → IsLeafFor first (tree_of t old leaf.0) → TellsTaken (reading_of t) first (tree_of t old leaf.0) b
    → (IsLeafFor first (tree_of t mid leaf.0) → TellsTaken (reading_of t) first (tree_of t mid leaf.0) b → IsLeft t mid new first leaf rest)
    → IsLeft t old new first leaf rest
leaf_left_later t old mid new leaf rest first b longer inside sort tells left =
    let stays = tree_stays t old mid leaf.0 longer inside in
    let At : Simple ℕ → Type 0 = λ p. IsLeafFor first p in
    let Told : Simple ℕ → Type 0 = λ p. TellsTaken (reading_of t) first p b in
    let made = left (subst At (sym stays) sort) (subst Told (sym stays) tells) in
    record {
      inside = made.inside;
      law = λ o. subst (λ p. AreThoseBehind (reading_of t) first p (Takes (reading_of t) (tree_of t new rest.0))) stays
          (made.law (subst (Obeys (place_of first)) (sym stays) o));
      kept = λ o. made.kept (subst (Obeys (place_of first)) (sym stays) o);
    }
