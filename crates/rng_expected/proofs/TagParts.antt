-- What the tag of an element may have, given the leaves that are found.
use Rattle.std.proofs.Common.{◌≡◌, ◌↔◌, inl, inr, ℕ, List, [], map, refl, sym, subst, ⊎_elim, Contains}
use Rattle.std.proofs.lemmas.List.Elements.{All-contains, All-map}
use Rattle.rng_model.proofs.Members.{all_from_members, contains_mapped, not_in_none}
use Rattle.rng_model.specs.names.Names.{Name, NameClass}
use Rattle.rng_model.specs.matching.GrammarMatching.{reading_of}
use Rattle.rng_model.specs.simple.Table.{Table}
use Rattle.rng_model.specs.simple.Tree.{Simple, choice, group, interleave, s_not_allowed, s_empty, s_text, s_leaf, s_attribute, s_list, s_data}
use Rattle.rng_model.specs.simple.Tree.{s_data_except, s_value, s_one_or_more, s_joined}
use Rattle.rng_deriv_laws.specs.plain.Reading.{body_of}
use Rattle.rng_deriv_laws.specs.plain.Taking.{Same}
use Rattle.rng_deriv_table.specs.views.Node.{Node}
use Rattle.rng_deriv_table.specs.views.Trees.{tree_of}
use Rattle.rng_deriv_table.specs.declared.pattern.PatternNumber.{PatternNumber}
use Rattle.rng_expected.specs.AttributeValues.{AreContents}
use Rattle.rng_expected.specs.Expectations.{BeginsWith}
use Rattle.rng_expected.specs.Tags.{AreBodies, HasAttribute, IsTag, IsTagOf, MayBegin, Needs, Tag, no_tag}
use Rattle.rng_expected.specs.plain.Leaves.{AreLeaves, Stands}
use Rattle.rng_expected.specs.plain.TagLeaves.{AreBodiesOf, AreClassesOf, AreContentsOf, AreNeeded, IsNamed}
use Rattle.rng_expected.specs.declared.leaves.Standing.TheVariants as standings
use Rattle.rng_expected.proofs.FoundLeaves.{member_before}
use Rattle.rng_expected.proofs.NextLeaves.{begins_first}

has_attribute : (p l : Simple ℕ) → HasAttribute p l ↔ Stands standings.InTag p l
has_attribute s_not_allowed l = (λ h. h, λ h. h)
has_attribute s_empty l = (λ h. h, λ h. h)
has_attribute s_text l = (λ h. absurd h, λ h. let no = h.0 in absurd cc)
has_attribute (s_leaf k) l = (λ h. absurd h, λ h. let no = h.0 in absurd cc)
has_attribute (s_attribute c p) l = (λ h. (refl, h), λ h. h.1)
has_attribute (s_list p) l = (λ h. absurd h, λ h. let no = h.0 in absurd cc)
has_attribute (s_data d) l = (λ h. absurd h, λ h. let no = h.0 in absurd cc)
has_attribute (s_data_except d p) l = (λ h. absurd h, λ h. let no = h.0 in absurd cc)
has_attribute (s_value d v) l = (λ h. absurd h, λ h. let no = h.0 in absurd cc)
has_attribute (s_one_or_more p) l = has_attribute p l
has_attribute (s_joined choice p q) l = (
  λ h. ⊎_elim (λ f. inl ((has_attribute p l).0 f)) (λ f. inr ((has_attribute q l).0 f)) h,
  λ h. ⊎_elim (λ f. inl ((has_attribute p l).1 f)) (λ f. inr ((has_attribute q l).1 f)) h,
)
has_attribute (s_joined group p q) l = (
  λ h. ⊎_elim (λ f. inl (refl, (has_attribute p l).0 f)) (λ f. inr (refl, (has_attribute q l).0 f)) h,
  λ h. ⊎_elim (λ f. inl ((has_attribute p l).1 f.1)) (λ f. inr ((has_attribute q l).1 f.1)) h,
)
has_attribute (s_joined interleave p q) l = (
  λ h. ⊎_elim (λ f. inl (refl, (has_attribute p l).0 f)) (λ f. inr (refl, (has_attribute q l).0 f)) h,
  λ h. ⊎_elim (λ f. inl ((has_attribute p l).1 f.1)) (λ f. inr ((has_attribute q l).1 f.1)) h,
)

module _ (t : Table) (ns : List Node) (ps starts bodies : List PatternNumber) (q : Name) where
  abbrev of : PatternNumber → Simple ℕ
  of n = tree_of t ns n.0

  -- an element that may begin, as a leaf that is found
  begins : AreLeaves standings.First t ns ps starts → (n : PatternNumber) (k : ℕ) → Contains starts n → IsNamed t ns q n k
      → MayBegin (reading_of t) (map of ps) q k
  begins are n k c named =
      let h = (are.law (s_leaf k)).1 (n, c, sym named.0) in
      ((of h.0, s_leaf k, contains_mapped of ps h.0 h.1, (begins_first (of h.0) (s_leaf k)).1 h.2, refl), named.1)

  found_begins : AreLeaves standings.First t ns ps starts → (k : ℕ) → MayBegin (reading_of t) (map of ps) q k
      → (n : PatternNumber) × Contains starts n × IsNamed t ns q n k
  found_begins are k may =
      let b = may.0 in
      let m = member_before of b.0 ps b.2 in
      let begun : BeginsWith (of m.0) (s_leaf k) = subst (λ p. BeginsWith p (s_leaf k)) (sym m.2) (subst (BeginsWith b.0) b.4 b.3) in
      let o = (are.law (s_leaf k)).0 (m.0, m.1, (begins_first (of m.0) (s_leaf k)).0 begun) in
      (o.0, o.1, (sym o.2, may.1))

  -- the bodies of the leaves that are found
  pub are_bodies : AreLeaves standings.First t ns ps starts → AreBodiesOf t ns q starts bodies → AreBodies (reading_of t) (map of ps) q (map of bodies)
  are_bodies first those = record {
    each = λ b c.
        let m = member_before of b bodies c in
        let h = those.each m.0 m.1 in
        (h.1, begins first h.0 h.1 h.2 h.3, subst (λ p. Same (reading_of t) p (body_of (reading_of t) h.1)) m.2 h.4);
    all = λ k may.
        let n = found_begins first k may in
        let h = those.all n.0 k n.1 n.2 in
        (of h.0, contains_mapped of bodies h.0 h.1, h.2);
  }

module _ (t : Table) (ns : List Node) (ps attributes : List PatternNumber) where
  abbrev tree : PatternNumber → Simple ℕ
  tree n = tree_of t ns n.0

  -- ---- the attributes of patterns

  module _ (inside : AreLeaves standings.InTag t ns ps attributes) where
    -- an attribute that is found is in a pattern
    in_pattern : (n : PatternNumber) (c : NameClass) (content : Simple ℕ) → Contains attributes n → tree n ≡ s_attribute c content
        → (m : PatternNumber) × Contains ps m × HasAttribute (tree m) (s_attribute c content)
    in_pattern n c content there is =
        let m = (inside.law (s_attribute c content)).1 (n, there, sym is) in
        (m.0, m.1, (has_attribute (tree m.0) (s_attribute c content)).1 m.2)

    -- one in a pattern is found
    is_found : (p : Simple ℕ) (c : NameClass) (content : Simple ℕ) → Contains (map tree ps) p → HasAttribute p (s_attribute c content)
        → (n : PatternNumber) × Contains attributes n × (tree n ≡ s_attribute c content)
    is_found p c content there has =
        let m = member_before tree p ps there in
        let here = subst (λ p. HasAttribute p (s_attribute c content)) (sym m.2) has in
        let o = (inside.law (s_attribute c content)).0 (m.0, m.1, (has_attribute (tree m.0) (s_attribute c content)).0 here) in
        (o.0, o.1, sym o.2)

    pub is_tag : (tag : Tag) → AreClassesOf t ns attributes tag.attributes → AreNeeded t ns ps tag.attributes tag.required → IsTagOf (map tree ps) tag
    is_tag tag are needed = record {
      each = λ c h.
          let n = are.each c h in
          let m = in_pattern n.0 c n.2.0 n.1 n.2.1 in
          (tree m.0, contains_mapped tree ps m.0 m.1, (n.2.0, m.2));
      all = λ p c h has. let o = is_found p c has.0 h has.1 in are.all o.0 c o.1 (has.0, o.2);
      required = λ n. (
        λ h. let d = (needed n).0 h in (d.0, All-map (Needs n) tree ps d.1),
        λ d. (needed n).1 (
          d.0,
          all_from_members (λ (b : PatternNumber). Needs n (tree b)) ps
              (λ b c. All-contains (Needs n) (map tree ps) (tree b) d.1 (contains_mapped tree ps b c)),
        ),
      );
    }

    pub are_contents : (q : Name) (contents : List PatternNumber) → AreContentsOf t ns q attributes contents
        → AreContents (reading_of t) (map tree ps) q (map tree contents)
    are_contents q contents those = record {
      each = λ p c.
          let b = member_before tree p contents c in
          let h = those.each b.0 b.1 in
          let m = in_pattern h.0 h.3.0 h.1 h.2 h.3.1 in
          (h.1, (tree m.0, h.3.0, contains_mapped tree ps m.0 m.1, m.2, h.3.2), subst (λ p. Same (reading_of t) p h.1) b.2 h.4);
      all = λ content is.
          let n = is_found is.0 is.1 content is.2 is.3 in
          let h = those.all n.0 content n.1 (is.1, n.2, is.4) in
          (tree h.0, contains_mapped tree contents h.0 h.1, h.2);
    }

-- where nothing is left
pub no_tag_there : (t : Table) (q : Name) (tag : Tag) → tag ≡ no_tag → IsTag (reading_of t) [] q tag
no_tag_there t q tag is = subst (IsTag (reading_of t) [] q) (sym is) (record {
  bodies = [];
  are = record { each = λ b c. absurd (not_in_none c); all = λ k may. absurd (not_in_none may.0.2) };
  has = record {
    each = λ c h. absurd (not_in_none h);
    all = λ b c h has. absurd (not_in_none h);
    required = λ n. (λ h. absurd (not_in_none h), λ d. absurd (not_in_none d.0));
  };
})
