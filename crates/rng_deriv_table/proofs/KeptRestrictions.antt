-- What is made over the members of a pattern of a grammar obeys the restrictions that the pattern obeys, if each member
-- does.
use Rattle.std.proofs.Common.{◌≡◌, ℕ, ◌<◌, Option, Some, Contains, slice_get, refl, sym, ap, ap₂, ◌∙◌, subst, inl, inr, ⊎_elim}
use Rattle.std.proofs.Common.{List, [], ◌∷◌, ◌++◌, length, get_or, arith, length-append}
use Rattle.std.proofs.lemmas.Bool.{cases_lt}
use Rattle.std.proofs.lemmas.List.{get_or_append_left}
use Rattle.std.proofs.Math.Seq.{get_or-append_seam}
use Rattle.std.proofs.lemmas.Option.{same_Some}
use Rattle.rng_deriv_laws.proofs.Restricted.{greater_itself}
use Rattle.rng_model.specs.simple.Tree.{Simple, Connector, choice, group, interleave, s_not_allowed}
use Rattle.rng_model.specs.simple.Tree.{s_one_or_more, s_joined}
use Rattle.rng_model.specs.restrictions.Contents.{ContentType, empty_content, greater}
use Rattle.rng_model.specs.simple.Table.{Table, tree_at, tree_over}
use Rattle.rng_model.specs.simple.TableRules.{AreChildrenBelow}
use Rattle.rng_model.specs.declared.simple.PatternId.{PatternId}
use Rattle.rng_model.specs.declared.simple.Simple as rows
use Rattle.rng_model.specs.declared.simple.Simple.TheVariants as simple
use Rattle.rng_deriv_laws.specs.plain.Derivatives.{is_empty, is_not_allowed, joined_of, repeat_of}
use Rattle.rng_deriv_laws.specs.plain.Restricted.{HasNoAttribute, HasNoneGrouped, RepeatsWell, HasTexts, MayBeListed, content_type, type_of_both}
use Rattle.rng_deriv_laws.specs.plain.Restricted.{type_of_choice}
use Rattle.rng_deriv_laws.specs.plain.Restricted.{IsTyped}
use Rattle.rng_deriv_laws.proofs.KeptRestrictions.{none_is_ungrouped, either_one, repeat_of-keeps}
use Rattle.rng_deriv_table.specs.declared.uses.Use.{Use}
use Rattle.rng_deriv_table.specs.plain.AskedFor.{HasNumber, HasPart, IsAskedFor, IsNoChoice, IsOwn}
use Rattle.rng_deriv_table.specs.plain.Kept.{AreKeptAt, AreRestrictedAlike, HasContentWithin, HasNoLists, IsChoiceOf, IsChoiceTaken, IsInterleaveOf, IsMadeOver}
use Rattle.rng_deriv_table.specs.plain.Kept.{IsRegrouped}
use Rattle.rng_deriv_table.specs.plain.Kept.{IsTakenAs, KeepsRestrictions, by_members, by_parts, unnumbered}
use Rattle.rng_deriv_table.specs.views.Node.{Node}
use Rattle.rng_deriv_table.specs.views.PatternTable.{Longer}
use Rattle.rng_deriv_table.specs.views.Taking.{AreTakenAt, numbers_at, tree_by}
use Rattle.rng_deriv_table.specs.views.Trees.{tree_of}
use Rattle.rng_deriv_table.specs.declared.pattern.PatternNumber.{PatternNumber}
use Rattle.rng_deriv_table.proofs.OpenedChoices.{each_below, each_has, each_numbered}
use Rattle.rng_deriv_table.proofs.Taking.{part_below, position_among}
use Rattle.rng_deriv_table.proofs.Trees.{tree_stays}
use Rattle.rng_deriv_table.specs.plain.Reduced.{HasAlternative}
use Rattle.rng_deriv_table.proofs.Alternatives.{IsOfChoices, alternative_has, has_of_alternatives}
use Rattle.rng_deriv_table.proofs.ContentTypes.{both_have, both_members, both_within, less_together, together_greater, within_first}
use Rattle.rng_deriv_table.proofs.ContentTypes.{within_second}

-- a pattern that is unchanged
pub kept_same : (p : Simple ℕ) → KeepsRestrictions p p
kept_same p = record {
  bare = λ h. h;
  ungrouped = λ h. h;
  repeats = λ h. h;
  texts = λ h. h;
  unlisted = λ h. h;
  content = λ c e. inl (c, e, greater_itself c);
  not_allowed = λ e. e;
}

pub joined_has : (Q : Simple ℕ → Type 0) (k : Connector) (p q : Simple ℕ) → Q s_not_allowed → Q p → Q q → Q (s_joined k p q) → Q (joined_of k p q)
joined_has Q k p q none h i both =
    either_one Q (is_not_allowed p) s_not_allowed _ none (either_one Q (is_not_allowed q) s_not_allowed _ none
    (either_one Q (is_empty p) q _ i (either_one Q (is_empty q) p _ h both)))

-- ---- content types

-- what is within one type is within a greater one
pub content_wider : (p : Simple ℕ) (a c : ContentType) → ((x : ContentType) → greater x a ≡ a → greater x c ≡ c) → HasContentWithin a p → HasContentWithin c p
content_wider p a c wider h = ⊎_elim (λ t. inl (t.0, t.1, wider t.0 t.2)) (λ e. inr e) h

pub joined_content : (k : Connector) (p q : Simple ℕ) (u v c : ContentType) → content_type (s_joined k p q) ≡ type_of_both (content_type p) (content_type q)
    → type_of_both (Some u) (Some v) ≡ Some c → HasContentWithin u p → HasContentWithin v q → HasContentWithin c (joined_of k p q)
joined_content k p q u v c is e h i =
    let top = together_greater u v c e in
    ⊎_elim
    (λ s. ⊎_elim
    (λ t. joined_has (HasContentWithin c) k p q (inr refl)
    (inl (s.0, s.1, subst (λ c. greater s.0 c ≡ c) top (within_first s.0 u v s.2)))
    (inl (t.0, t.1, subst (λ c. greater t.0 c ≡ c) top (within_second t.0 u v t.2)))
    (inl (
      greater s.0 t.0,
      is ∙ ap₂ type_of_both s.1 t.1 ∙ less_together u v c s.0 t.0 e s.2 t.2,
      subst (λ c. greater (greater s.0 t.0) c ≡ c) top
          (both_within s.0 t.0 (greater u v) (within_first s.0 u v s.2) (within_second t.0 u v t.2)),
    )))
    (λ f. subst (λ q. HasContentWithin c (joined_of k p q)) (sym f)
    (either_one (HasContentWithin c) (is_not_allowed p) s_not_allowed s_not_allowed (inr refl) (inr refl)))
    i)
    (λ f. subst (λ p. HasContentWithin c (joined_of k p q)) (sym f) (inr refl))
    h

repeat_content : (p : Simple ℕ) (u c : ContentType) → type_of_both (Some u) (Some u) ≡ Some c → HasContentWithin u p → HasContentWithin c (repeat_of p)
repeat_content p u c e h =
    let top = together_greater u u c e in
    ⊎_elim
    (λ s. repeat_of-keeps (HasContentWithin c) p (inr refl) (inl (empty_content, refl, refl))
    (inl (
      greater s.0 s.0,
      ap₂ type_of_both s.1 s.1 ∙ less_together u u c s.0 s.0 e s.2 s.2,
      subst (λ c. greater (greater s.0 s.0) c ≡ c) top
          (both_within s.0 s.0 (greater u u) (within_first s.0 u u s.2) (within_second s.0 u u s.2)),
    )))
    (λ f. subst (λ p. HasContentWithin c (repeat_of p)) (sym f) (inr refl))
    h

-- ---- what is made from members

pub group_kept : (p q made other : Simple ℕ) → KeepsRestrictions p made → KeepsRestrictions q other
    → KeepsRestrictions (s_joined group p q) (joined_of group made other)
group_kept p q made other h i = record {
  bare = λ o. joined_has HasNoAttribute group made other tt (h.bare o.0) (i.bare o.1) (h.bare o.0, i.bare o.1);
  ungrouped = λ o.
      joined_has HasNoneGrouped group made other tt (none_is_ungrouped made (h.bare o.0)) (none_is_ungrouped other (i.bare o.1)) (h.bare o.0, i.bare o.1);
  repeats = λ o. joined_has RepeatsWell group made other tt (h.repeats o.0) (i.repeats o.1) (h.repeats o.0, i.repeats o.1);
  texts = λ o. joined_has (HasTexts MayBeListed) group made other tt (h.texts o.0) (i.texts o.1) (h.texts o.0, i.texts o.1);
  unlisted = λ o. joined_has HasNoLists group made other tt (h.unlisted o.0) (i.unlisted o.1) (h.unlisted o.0, i.unlisted o.1);
  content = λ c e.
      let b = both_have (content_type p) (content_type q) c e in
      joined_content group made other b.0 b.1 c refl b.4 (h.content b.0 b.2) (i.content b.1 b.3);
  not_allowed = λ e. absurd (cc);
}

interleave_kept : (p q made other whole : Simple ℕ) → KeepsRestrictions p made → KeepsRestrictions q other → IsInterleaveOf made other whole
    → KeepsRestrictions (s_joined interleave p q) whole
interleave_kept p q made other whole h i is = record {
  bare = λ o. is.bare (h.bare o.0) (i.bare o.1);
  ungrouped = λ o. none_is_ungrouped whole (is.bare (h.bare o.0) (i.bare o.1));
  repeats = λ o. is.repeats (h.repeats o.0) (i.repeats o.1);
  texts = λ o. is.texts (h.texts o.0) (i.texts o.1);
  unlisted = λ o. is.unlisted (h.unlisted o.0) (i.unlisted o.1);
  content = λ c e.
      let b = both_have (content_type p) (content_type q) c e in is.content b.0 b.1 c b.4 (h.content b.0 b.2) (i.content b.1 b.3);
  not_allowed = λ e. absurd (cc);
}

repeat_kept : (p made : Simple ℕ) → KeepsRestrictions p made → KeepsRestrictions (s_one_or_more p) (repeat_of made)
repeat_kept p made h = record {
  bare = λ o. repeat_of-keeps HasNoAttribute made tt tt (h.bare o);
  ungrouped = λ o. repeat_of-keeps HasNoneGrouped made tt tt (h.ungrouped o);
  repeats = λ o. repeat_of-keeps RepeatsWell made tt tt (h.ungrouped o.0, h.repeats o.1);
  texts = λ o. repeat_of-keeps (HasTexts MayBeListed) made tt tt (h.texts o);
  unlisted = λ o. repeat_of-keeps HasNoLists made tt tt (h.unlisted o);
  content = λ c e.
      let b = both_have (content_type p) (content_type p) c e in
      let one : b.1 ≡ b.0 = same_Some b.1 b.0 (sym b.3 ∙ b.2) in
      repeat_content made b.0 c (subst (λ v. type_of_both (Some b.0) (Some v) ≡ Some c) one b.4) (h.content b.0 b.2);
  not_allowed = λ e. absurd (cc);
}

choice_has : (Q : Simple ℕ → Type 0) → IsOfChoices Q → (f : ℕ → Simple ℕ) (ms : List PatternNumber) (whole : Simple ℕ) → Q s_not_allowed
    → IsChoiceOf f ms whole → ((m : PatternNumber) → Contains ms m → Q (f m.0)) → Q whole
choice_has Q of f ms whole none is each = ⊎_elim
    (λ e. subst Q (sym e) none)
    (λ allowed. has_of_alternatives Q of whole allowed
    (λ s a. let h = is.within s a in alternative_has Q of (f h.0.0) s (each h.0 h.1) h.2))
    is.reduced

-- a content type within another
abbrev HasWithin : ContentType → Simple ℕ → Type 0
HasWithin most p = (c : ContentType) × (content_type p ≡ Some c) × (greater c most ≡ most)

within_sides : (a b : Option ContentType) (c most : ContentType) → type_of_choice a b ≡ Some c → greater c most ≡ most
    → ((u : ContentType) × (a ≡ Some u) × (greater u most ≡ most)) × ((u : ContentType) × (b ≡ Some u) × (greater u most ≡ most))
within_sides a b c most e h =
    let t = both_members a b c e in
    let all : greater (greater t.0 t.1) most ≡ most = subst (λ c. greater c most ≡ most) (sym t.4) h in (
      (t.0, t.2, part t.0 (greater t.0 t.1) all (within_first t.0 t.0 t.1 (greater_itself t.0))),
      (t.1, t.3, part t.1 (greater t.0 t.1) all (within_second t.1 t.0 t.1 (greater_itself t.1))),
    )
  where
    part : (x y : ContentType) → greater y most ≡ most → greater x y ≡ y → greater x most ≡ most
    part x y f g = subst (λ z. greater x z ≡ z) f (within_first x y most g)

HasWithin-of_choices : (most : ContentType) → IsOfChoices (HasWithin most)
HasWithin-of_choices most = record {
  of_both = λ p q h i. (greater h.0 i.0, ap₂ type_of_choice h.1 i.1, both_within h.0 i.0 most h.2 i.2);
  sides = λ p q h. within_sides (content_type p) (content_type q) h.0 most h.1 h.2;
}

choice_content : (f : ℕ → Simple ℕ) (ms : List PatternNumber) (whole : Simple ℕ) (c : ContentType) → IsChoiceOf f ms whole
    → ((m : PatternNumber) → Contains ms m → HasContentWithin c (f m.0)) → HasContentWithin c whole
choice_content f ms whole c is each = ⊎_elim
    (λ e. inr e)
    (λ allowed. inl (has_of_alternatives (HasWithin c) (HasWithin-of_choices c) whole allowed
    (λ s a. let h = is.within s a in of_member (f h.0.0) s (each h.0 h.1) h.2)))
    is.reduced
  where
    of_member : (p s : Simple ℕ) → HasContentWithin c p → HasAlternative p s → HasWithin c s
    of_member p s h a = ⊎_elim
        (λ t. alternative_has (HasWithin c) (HasWithin-of_choices c) p s t a)
        (λ e. absurd (subst (λ p. HasAlternative p s) e a))
        h

-- ---- a choice of the members of a choice

module _ (t : Table) (us : List Use) (old new : List Node) (numbers : List PatternNumber) (first second : PatternId) (n : ℕ)
    (first_below : first.0 < length numbers) (second_below : second.0 < length numbers) (kept : AreKeptAt (HasNumber t us) t old numbers)
    (is : IsChoiceTaken t us numbers first second old new n) where
  abbrev pub whole : Simple ℕ
  whole = s_joined choice (tree_at t.patterns first) (tree_at t.patterns second)

  member_kept : (id : PatternId) → Contains is.positions id → KeepsRestrictions (tree_at t.patterns id) (tree_by t old numbers id)
  member_kept id h =
      kept id.0 (each_below t us first second (length numbers) first_below second_below is.opened id (inr h))
      (each_numbered t us first second is.opened id h)

  -- what each member obeys, if it keeps it
  each_number : (Q P : Simple ℕ → Type 0) → ((p q : Simple ℕ) → Q (s_joined choice p q) → Q p × Q q) → Q whole
      → ((p made : Simple ℕ) → KeepsRestrictions p made → Q p → P made)
      → (m : PatternNumber) → Contains (numbers_at numbers is.positions) m → P (tree_of t old m.0)
  each_number Q P sides h keeps m c =
      let at = position_among numbers is.positions m c in
      subst (λ (m : PatternNumber). P (tree_of t old m.0)) at.2
      (keeps (tree_at t.patterns at.0) (tree_by t old numbers at.0) (member_kept at.0 at.1) (each_has t us first second Q sides h is.opened at.0 (inr at.1)))

  keeps_all : (Q : Simple ℕ → Type 0) → IsOfChoices Q → Q s_not_allowed → ((p made : Simple ℕ) → KeepsRestrictions p made → Q p → Q made)
      → Q whole → Q (tree_of t new n)
  keeps_all Q of none keeps h =
      choice_has Q of (tree_of t old) (numbers_at numbers is.positions) (tree_of t new n) none is.made (each_number Q Q of.sides h keeps)

  pub choice_kept : KeepsRestrictions whole (tree_of t new n)
  choice_kept = record {
    bare = keeps_all HasNoAttribute (record { of_both = λ p q h i. (h, i); sides = λ p q h. h }) tt (λ p made k. k.bare);
    ungrouped = keeps_all HasNoneGrouped (record { of_both = λ p q h i. (h, i); sides = λ p q h. h }) tt (λ p made k. k.ungrouped);
    repeats = keeps_all RepeatsWell (record { of_both = λ p q h i. (h, i); sides = λ p q h. h }) tt (λ p made k. k.repeats);
    texts = keeps_all (HasTexts MayBeListed) (record { of_both = λ p q h i. (h, i); sides = λ p q h. h }) tt (λ p made k. k.texts);
    unlisted = keeps_all HasNoLists (record { of_both = λ p q h i. (h, i); sides = λ p q h. h }) tt (λ p made k. k.unlisted);
    content = λ c e.
        choice_content (tree_of t old) (numbers_at numbers is.positions) (tree_of t new n) c is.made
        (each_number (HasWithin c) (HasContentWithin c) (HasWithin-of_choices c).sides (c, e, greater_itself c)
        (λ p made k h. content_wider made h.0 c (λ x f. wider x h.0 c f h.2) (k.content h.0 h.1)));
    not_allowed = λ e. absurd (cc);
  }
    where
      wider : (x y most : ContentType) → greater x y ≡ y → greater y most ≡ most → greater x most ≡ most
      wider x y most f g = subst (λ z. greater x z ≡ z) g (within_first x y most f)

-- ---- a row of the grammar

parts_kept : (t : Table) (f : PatternId → Simple ℕ) (row : rows.Simple) (made : Simple ℕ)
    → ((id : PatternId) → HasPart row id.0 → KeepsRestrictions (tree_at t.patterns id) (f id)) → IsMadeOver t f row made
    → KeepsRestrictions (tree_over (tree_at t.patterns) row) made
parts_kept t f simple.NotAllowed made each is = subst (KeepsRestrictions _) (sym is) (kept_same _)
parts_kept t f simple.Empty made each is = subst (KeepsRestrictions _) (sym is) (kept_same _)
parts_kept t f simple.Text made each is = subst (KeepsRestrictions _) (sym is) (kept_same _)
parts_kept t f (simple.Element e) made each is = subst (KeepsRestrictions _) (sym is) (kept_same _)
parts_kept t f (simple.Attribute class body) made each is = subst (KeepsRestrictions _) (sym is) (kept_same _)
parts_kept t f (simple.List body) made each is = subst (KeepsRestrictions _) (sym is) (kept_same _)
parts_kept t f (simple.Data datatype) made each is = subst (KeepsRestrictions _) (sym is) (kept_same _)
parts_kept t f (simple.DataExcept datatype except) made each is = subst (KeepsRestrictions _) (sym is) (kept_same _)
parts_kept t f (simple.Value value) made each is = subst (KeepsRestrictions _) (sym is) (kept_same _)
parts_kept t f (simple.OneOrMore body) made each is = subst (KeepsRestrictions _) (sym is) (repeat_kept _ _ (each body refl))
parts_kept t f (simple.Group a b) made each is = subst (KeepsRestrictions _) (sym is) (group_kept _ _ _ _ (each a (inl refl)) (each b (inr refl)))
parts_kept t f (simple.Interleave a b) made each is = interleave_kept _ _ _ _ _ (each a (inl refl)) (each b (inr refl)) is
parts_kept t f (simple.Choice a b) made each is = absurd is

pub row_kept : (t : Table) (us : List Use) (old new : List Node) (numbers : List PatternNumber) (row : rows.Simple) (n : ℕ)
    → AreKeptAt (HasNumber t us) t old numbers → AreChildrenBelow (length numbers) row → slice_get t.patterns (length numbers) ≡ Some row
    → ((k : ℕ) → HasPart row k → IsOwn us k) → HasNumber t us (length numbers) → IsTakenAs t us numbers (length numbers) row old new n
    → KeepsRestrictions (tree_over (tree_at t.patterns) row) (tree_of t new n)
row_kept t us old new numbers row n kept below found parts numbered (by_parts plain is made) =
    parts_kept t (tree_by t old numbers) row (tree_of t new n)
    (λ id part. kept id.0 (part_below row (length numbers) id.0 below part) (λ p at. inr (parts id.0 part))) made
row_kept t us old new numbers row n kept below found parts numbered (by_members first second e is) =
    let sides = subst (AreChildrenBelow (length numbers)) e below in
    subst (λ r. KeepsRestrictions (tree_over (tree_at t.patterns) r) (tree_of t new n)) (sym e)
    (choice_kept t us old new numbers first second n sides.0 sides.1 kept is)
row_kept t us old new numbers row n kept below found parts numbered (unnumbered first second e none) =
    absurd (⊎_elim (λ plain. subst IsNoChoice e plain) (λ own. none own) (numbered row found))

-- ---- all rows

-- what obeys what another pattern obeys
pub kept_through : {p q r : Simple ℕ} → KeepsRestrictions p q → KeepsRestrictions q r → KeepsRestrictions p r
kept_through {p} {q} {r} k l = record {
  bare = λ h. l.bare (k.bare h);
  ungrouped = λ h. l.ungrouped (k.ungrouped h);
  repeats = λ h. l.repeats (k.repeats h);
  texts = λ h. l.texts (k.texts h);
  unlisted = λ h. l.unlisted (k.unlisted h);
  content = λ c e. ⊎_elim
      (λ a. content_wider r a.0 c (λ x f. subst (λ z. greater x z ≡ z) a.2 (within_first x a.0 c f)) (l.content a.0 a.1))
      (λ none. inr (l.not_allowed none))
      (k.content c e);
  not_allowed = λ e. l.not_allowed (k.not_allowed e);
}

-- one more, which may be regrouped once it is taken over
pub one_kept : (t : Table) (us : List Use) (old mid new : List Node) (numbers more : List PatternNumber) (first number : PatternNumber) (row : rows.Simple)
    → AreTakenAt (HasNumber t us) t old numbers → AreKeptAt (HasNumber t us) t old numbers → Longer old new → more ≡ numbers ++ number ∷ []
    → AreChildrenBelow (length numbers) row → slice_get t.patterns (length numbers) ≡ Some row
    → tree_at t.patterns (record { 0 = length numbers }) ≡ tree_over (tree_at t.patterns) row → ((k : ℕ) → HasPart row k → IsOwn us k)
    → IsTakenAs t us numbers (length numbers) row old mid first.0 → IsRegrouped (tree_of t mid first.0) (tree_of t new number.0)
    → AreKeptAt (HasNumber t us) t new more
one_kept t us old mid new numbers more first number row taken kept longer added below found is parts own regrouped =
    subst (AreKeptAt (HasNumber t us) t new) (sym added) (λ i h has. ⊎_elim
    (λ l. let stays = get_or_append_left numbers (number ∷ []) (record { 0 = 0 }) i l in
    subst (KeepsRestrictions (tree_at t.patterns (record { 0 = i })))
    (sym (ap (λ (k : PatternNumber). tree_of t new k.0) stays ∙ tree_stays t old new _ longer (taken.inside i l))) (kept i l has))
    (λ l. let here : i ≡ length numbers = omega (arith, h, l, length-append numbers (number ∷ [])) in
    let end = ap (λ j. get_or (numbers ++ number ∷ []) j (record { 0 = 0 })) here ∙ get_or-append_seam numbers number [] (record { 0 = 0 }) in
    subst (KeepsRestrictions (tree_at t.patterns (record { 0 = i }))) (sym (ap (λ (k : PatternNumber). tree_of t new k.0) end))
    (subst (λ j. KeepsRestrictions (tree_at t.patterns (record { 0 = j })) (tree_of t new number.0)) (sym here)
    (subst (λ p. KeepsRestrictions p (tree_of t new number.0)) (sym is)
    (kept_through (row_kept t us old mid numbers row first.0 kept below found parts (subst (HasNumber t us) here has) own) regrouped.kept))))
    (cases_lt i (length numbers)))

typed_kept : (p made : Simple ℕ) → KeepsRestrictions p made → IsTyped p → IsTyped made
typed_kept p made h typed = ⊎_elim
    (λ c. ⊎_elim (λ d. inl (d.0, d.1)) (λ e. inr e) (h.content c.0 c.1))
    (λ e. inr (h.not_allowed e))
    typed

pub restricted_alike : (Has : ℕ → Type 0) (t : Table) (ns : List Node) (numbers : List PatternNumber) → ((k : ℕ) → IsAskedFor t k → Has k)
    → AreKeptAt Has t ns numbers → AreRestrictedAlike t ns numbers
restricted_alike Has t ns numbers asked kept = record {
  restricted = λ id h has o. let k = kept id.0 h (asked id.0 has) in record { repeats = k.repeats o.repeats; texts = k.texts o.texts };
  unlisted = λ id h has o. (kept id.0 h (asked id.0 has)).unlisted o;
  typed = λ id h has o. typed_kept _ _ (kept id.0 h (asked id.0 has)) o;
}
