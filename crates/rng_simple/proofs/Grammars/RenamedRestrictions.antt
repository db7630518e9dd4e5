-- The restrictions do not depend on the names of elements: a pattern breaks one exactly if it breaks it with renamed
-- leaves.
use Rattle.std.proofs.Common.{◌≡◌, ℕ, List, [], ◌∷◌, refl, ap, sym, ◌∙◌, subst}
use Rattle.rng_model.specs.names.Names.{NameClass}
use Rattle.rng_model.specs.simple.Tree as tree
use Rattle.rng_model.specs.simple.Tree.{Simple, s_not_allowed, s_empty, s_text, s_leaf, s_attribute, s_list, s_data, s_data_except, s_value, s_one_or_more}
use Rattle.rng_model.specs.simple.Tree.{s_joined}
use Rattle.rng_model.specs.simple.Grammar as inside_of
use Rattle.rng_model.specs.simple.Grammar.{Kind, kind_of, IsChild, Through, StandsIn, StandsUnrepeated, OccursIn, itself, below}
use Rattle.rng_model.specs.restrictions.Contents.{HasBelow, HasPath, HasProhibited, HasProhibitedInStart, ContentType, HasContent, BreaksContent}
use Rattle.rng_model.specs.restrictions.Contents as types
use Rattle.rng_model.specs.restrictions.Restrictions.{BreaksAttributeNames, BreaksWildcard, BreaksElementNames, BreaksText}
use Rattle.rng_model.proofs.Inside.{deeper, stands_through, in_left, in_right}
use Rattle.rng_simple.specs.plain.Renamed.{simple_renamed}

module _ {K L : Type 0} (f : K → L) where
  abbrev re : Simple K → Simple L
  re p = simple_renamed f p

  same_kind : (p : Simple K) → kind_of (re p) ≡ kind_of p
  same_kind s_not_allowed = refl
  same_kind s_empty = refl
  same_kind s_text = refl
  same_kind (s_leaf k) = refl
  same_kind (s_attribute c p) = refl
  same_kind (s_list p) = refl
  same_kind (s_data d) = refl
  same_kind (s_data_except d p) = refl
  same_kind (s_value d v) = refl
  same_kind (s_one_or_more p) = refl
  same_kind (s_joined k p q) = refl

  -- ---- from a pattern to the renamed one

  child : {q p : Simple K} → IsChild q p → IsChild (re q) (re p)
  child inside_of.of_attribute = inside_of.of_attribute
  child inside_of.of_list = inside_of.of_list
  child inside_of.of_except = inside_of.of_except
  child inside_of.of_one_or_more = inside_of.of_one_or_more
  child inside_of.of_left = inside_of.of_left
  child inside_of.of_right = inside_of.of_right

  through : {IsSuch : Kind → Type 0} {q p : Simple K} → Through IsSuch q p → Through IsSuch (re q) (re p)
  through itself = itself
  through {IsSuch} (below {p = p} such c w) = below (subst IsSuch (sym (same_kind p)) such) (child c) (through w)

  content : {p : Simple K} {t : ContentType} → HasContent p t → HasContent (re p) t
  content types.of_value = types.of_value
  content types.of_list = types.of_list
  content types.of_data = types.of_data
  content types.of_data_except = types.of_data_except
  content types.of_text = types.of_text
  content types.of_ref = types.of_ref
  content types.of_empty = types.of_empty
  content (types.of_attribute h) = types.of_attribute (content h)
  content (types.of_both n h i g) = types.of_both n (content h) (content i) g
  content (types.of_one_or_more h g) = types.of_one_or_more (content h) g
  content (types.of_choice h i) = types.of_choice (content h) (content i)

  -- ---- from the renamed pattern back

  -- the pattern is the renamed one of a pattern with this property
  record Image (P : Simple K → Type 0) (q : Simple L) : Type 0 where
    pub pattern : Simple K
    pub is : re pattern ≡ q
    pub holds : P pattern

  child_back : (p : Simple K) {q : Simple L} → IsChild q (re p) → Image (λ o. IsChild o p) q
  child_back s_not_allowed c = elim c [ ]
  child_back s_empty c = elim c [ ]
  child_back s_text c = elim c [ ]
  child_back (s_leaf k) c = elim c [ ]
  child_back (s_attribute c p) inside_of.of_attribute = record { pattern = p; is = refl; holds = inside_of.of_attribute }
  child_back (s_list p) inside_of.of_list = record { pattern = p; is = refl; holds = inside_of.of_list }
  child_back (s_data d) c = elim c [ ]
  child_back (s_data_except d p) inside_of.of_except = record { pattern = p; is = refl; holds = inside_of.of_except }
  child_back (s_value d v) c = elim c [ ]
  child_back (s_one_or_more p) inside_of.of_one_or_more = record { pattern = p; is = refl; holds = inside_of.of_one_or_more }
  child_back (s_joined k p q) inside_of.of_left = record { pattern = p; is = refl; holds = inside_of.of_left }
  child_back (s_joined k p q) inside_of.of_right = record { pattern = q; is = refl; holds = inside_of.of_right }

  content_back : (p : Simple K) {t : ContentType} → HasContent (re p) t → HasContent p t
  content_back s_not_allowed h = elim h [ ]
  content_back s_empty types.of_empty = types.of_empty
  content_back s_text types.of_text = types.of_text
  content_back (s_leaf k) types.of_ref = types.of_ref
  content_back (s_attribute c p) (types.of_attribute h) = types.of_attribute (content_back p h)
  content_back (s_list p) types.of_list = types.of_list
  content_back (s_data d) types.of_data = types.of_data
  content_back (s_data_except d p) types.of_data_except = types.of_data_except
  content_back (s_value d v) types.of_value = types.of_value
  content_back (s_one_or_more p) (types.of_one_or_more h g) = types.of_one_or_more (content_back p h) g
  content_back (s_joined k p q) (types.of_both n h i g) = types.of_both n (content_back p h) (content_back q i) g
  content_back (s_joined k p q) (types.of_choice h i) = types.of_choice (content_back p h) (content_back q i)

  -- the kind of a pattern, by its renamed one
  kind_back : (o : Simple K) {q : Simple L} {k : Kind} → re o ≡ q → kind_of q ≡ k → kind_of o ≡ k
  kind_back o e h = sym (same_kind o) ∙ ap kind_of e ∙ h

  through_from : {IsSuch : Kind → Type 0} {q a : Simple L} (o : Simple K) → re o ≡ a → Through IsSuch q a → Image (λ p. Through IsSuch p o) q
  through_from o e itself = record { pattern = o; is = e; holds = itself }
  through_from {IsSuch} o e (below {r = r} such c w) =
      let i = child_back o (subst (IsChild r) (sym e) c) in
      let j = through_from i.pattern i.is w in
      record { pattern = j.pattern; is = j.is; holds = below (subst IsSuch (sym (kind_back o e refl)) such) i.holds j.holds }

  through_back : {IsSuch : Kind → Type 0} (p : Simple K) {q : Simple L} → Through IsSuch q (re p) → Image (λ o. Through IsSuch o p) q
  through_back p w = through_from p refl w

  joined_back : (o : Simple K) {k : tree.Connector} {a b : Simple L} → re o ≡ s_joined k a b
      → (p : Simple K) × (q : Simple K) × (o ≡ s_joined k p q) × (re p ≡ a) × (re q ≡ b)
  joined_back s_not_allowed e = absurd (cc)
  joined_back s_empty e = absurd (cc)
  joined_back s_text e = absurd (cc)
  joined_back (s_leaf l) e = absurd (cc)
  joined_back (s_attribute c p) e = absurd (cc)
  joined_back (s_list p) e = absurd (cc)
  joined_back (s_data d) e = absurd (cc)
  joined_back (s_data_except d p) e = absurd (cc)
  joined_back (s_value d v) e = absurd (cc)
  joined_back (s_one_or_more p) e = absurd (cc)
  joined_back (s_joined k p q) e = (p, q, cc, cc, cc)

  attribute_back : (o : Simple K) {c : NameClass} {a : Simple L} → re o ≡ s_attribute c a → (p : Simple K) × (o ≡ s_attribute c p)
  attribute_back s_not_allowed e = absurd (cc)
  attribute_back s_empty e = absurd (cc)
  attribute_back s_text e = absurd (cc)
  attribute_back (s_leaf l) e = absurd (cc)
  attribute_back (s_attribute c p) e = (p, cc)
  attribute_back (s_list p) e = absurd (cc)
  attribute_back (s_data d) e = absurd (cc)
  attribute_back (s_data_except d p) e = absurd (cc)
  attribute_back (s_value d v) e = absurd (cc)
  attribute_back (s_one_or_more p) e = absurd (cc)
  attribute_back (s_joined k p q) e = absurd (cc)

  leaf_back : (o : Simple K) {l : L} → re o ≡ s_leaf l → (k : K) × (o ≡ s_leaf k) × (f k ≡ l)
  leaf_back s_not_allowed e = absurd (cc)
  leaf_back s_empty e = absurd (cc)
  leaf_back s_text e = absurd (cc)
  leaf_back (s_leaf k) e = (k, refl, cc)
  leaf_back (s_attribute c p) e = absurd (cc)
  leaf_back (s_list p) e = absurd (cc)
  leaf_back (s_data d) e = absurd (cc)
  leaf_back (s_data_except d p) e = absurd (cc)
  leaf_back (s_value d v) e = absurd (cc)
  leaf_back (s_one_or_more p) e = absurd (cc)
  leaf_back (s_joined k p q) e = absurd (cc)

  text_back : (o : Simple K) → re o ≡ s_text → o ≡ s_text
  text_back s_not_allowed e = absurd (cc)
  text_back s_empty e = absurd (cc)
  text_back s_text e = refl
  text_back (s_leaf k) e = absurd (cc)
  text_back (s_attribute c p) e = absurd (cc)
  text_back (s_list p) e = absurd (cc)
  text_back (s_data d) e = absurd (cc)
  text_back (s_data_except d p) e = absurd (cc)
  text_back (s_value d v) e = absurd (cc)
  text_back (s_one_or_more p) e = absurd (cc)
  text_back (s_joined k p q) e = absurd (cc)

  not_allowed_back : (o : Simple K) → re o ≡ s_not_allowed → o ≡ s_not_allowed
  not_allowed_back s_not_allowed e = refl
  not_allowed_back s_empty e = absurd (cc)
  not_allowed_back s_text e = absurd (cc)
  not_allowed_back (s_leaf k) e = absurd (cc)
  not_allowed_back (s_attribute c p) e = absurd (cc)
  not_allowed_back (s_list p) e = absurd (cc)
  not_allowed_back (s_data d) e = absurd (cc)
  not_allowed_back (s_data_except d p) e = absurd (cc)
  not_allowed_back (s_value d v) e = absurd (cc)
  not_allowed_back (s_one_or_more p) e = absurd (cc)
  not_allowed_back (s_joined k p q) e = absurd (cc)

  -- ---- the clauses, from a pattern to the renamed one

  below_forth : (path : List Kind) (p : Simple K) → HasBelow path p → HasBelow path (re p)
  below_forth [] p h = tt
  below_forth (k ∷ path) p (q, (r, c, w), is, h) = (re q, (re r, child c, through w), same_kind q ∙ is, below_forth path q h)

  path_forth : (path : List Kind) (p : Simple K) → HasPath path p → HasPath path (re p)
  path_forth [] p h = tt
  path_forth (k ∷ path) p (q, w, is, h) = (re q, through w, same_kind q ∙ is, below_forth path q h)

  pub prohibited_forth : {clause : ℕ} (p : Simple K) → HasProhibited clause p → HasProhibited clause (re p)
  prohibited_forth p (path, is, h) = (path, is, path_forth path p h)

  pub start_forth : (p : Simple K) → HasProhibitedInStart p → HasProhibitedInStart (re p)
  start_forth p (k, is, h) = (k, is, path_forth (k ∷ []) p h)

  pub content_forth : (p : Simple K) → BreaksContent p → BreaksContent (re p)
  content_forth p b = record { not_whole = λ e. b.not_whole (not_allowed_back p e); no_type = λ t h. b.no_type t (content_back p h) }

  pub attribute_names_forth : (p : Simple K) → BreaksAttributeNames p → BreaksAttributeNames (re p)
  attribute_names_forth p b = record {
    connector = b.connector;
    left = re b.left;
    right = re b.right;
    stands = through b.stands;
    is_no_choice = b.is_no_choice;
    first_class = b.first_class;
    first_body = re b.first_body;
    second_class = b.second_class;
    second_body = re b.second_body;
    occurs_left = through b.occurs_left;
    occurs_right = through b.occurs_right;
    overlap = b.overlap;
  }

  pub wildcard_forth : (p : Simple K) → BreaksWildcard p → BreaksWildcard (re p)
  wildcard_forth p b = record { class = b.class; body = re b.body; stands = through b.stands; wildcard = b.wildcard }

  pub text_forth : (p : Simple K) → BreaksText p → BreaksText (re p)
  text_forth p b = record { left = re b.left; right = re b.right; stands = through b.stands; occurs_left = through b.occurs_left; occurs_right = through b.occurs_right }

  pub element_names_forth : (P : K → NameClass → Type 0) (Q : L → NameClass → Type 0) (p : Simple K)
      → ((k : K) (c : NameClass) → P k c → Q (f k) c) → BreaksElementNames P p → BreaksElementNames Q (re p)
  element_names_forth P Q p same b = record {
    left = re b.left;
    right = re b.right;
    stands = through b.stands;
    first = f b.first;
    second = f b.second;
    occurs_left = through b.occurs_left;
    occurs_right = through b.occurs_right;
    first_class = b.first_class;
    second_class = b.second_class;
    is_first = same b.first b.first_class b.is_first;
    is_second = same b.second b.second_class b.is_second;
    overlap = b.overlap;
  }

  -- ---- the clauses, from the renamed pattern back

  below_from : (path : List Kind) (o : Simple K) {a : Simple L} → re o ≡ a → HasBelow path a → HasBelow path o
  below_from [] o e h = tt
  below_from (k ∷ path) o e (q, (r, c, w), is, h) =
      let i = child_back o (subst (IsChild r) (sym e) c) in
      let j = through_from i.pattern i.is w in
      (j.pattern, (i.pattern, i.holds, j.holds), kind_back j.pattern j.is is, below_from path j.pattern j.is h)

  path_from : (path : List Kind) (p : Simple K) → HasPath path (re p) → HasPath path p
  path_from [] p h = tt
  path_from (k ∷ path) p (q, w, is, h) =
      let j = through_back p w in (j.pattern, j.holds, kind_back j.pattern j.is is, below_from path j.pattern j.is h)

  pub prohibited_from : {clause : ℕ} (p : Simple K) → HasProhibited clause (re p) → HasProhibited clause p
  prohibited_from p (path, is, h) = (path, is, path_from path p h)

  pub start_from : (p : Simple K) → HasProhibitedInStart (re p) → HasProhibitedInStart p
  start_from p (k, is, h) = (k, is, path_from (k ∷ []) p h)

  pub content_from : (p : Simple K) → BreaksContent (re p) → BreaksContent p
  content_from p b = record { not_whole = λ e. b.not_whole (ap re e); no_type = λ t h. b.no_type t (content h) }

  pub attribute_names_from : (p : Simple K) → BreaksAttributeNames (re p) → BreaksAttributeNames p
  attribute_names_from p b =
      let o = through_back p b.stands in
      let j = joined_back o.pattern o.is in
      let x = through_from j.0 j.3 b.occurs_left in
      let y = through_from j.1 j.4 b.occurs_right in
      let v = attribute_back x.pattern x.is in
      let w = attribute_back y.pattern y.is in record {
        connector = b.connector;
        left = j.0;
        right = j.1;
        stands = subst (λ q. StandsIn q p) j.2 o.holds;
        is_no_choice = b.is_no_choice;
        first_class = b.first_class;
        first_body = v.0;
        second_class = b.second_class;
        second_body = w.0;
        occurs_left = subst (λ q. OccursIn q j.0) v.1 x.holds;
        occurs_right = subst (λ q. OccursIn q j.1) w.1 y.holds;
        overlap = b.overlap;
      }

  pub wildcard_from : (p : Simple K) → BreaksWildcard (re p) → BreaksWildcard p
  wildcard_from p b =
      let o = through_back p b.stands in
      let v = attribute_back o.pattern o.is in record {
        class = b.class;
        body = v.0;
        stands = subst (λ q. StandsUnrepeated q p) v.1 o.holds;
        wildcard = b.wildcard;
      }

  pub text_from : (p : Simple K) → BreaksText (re p) → BreaksText p
  text_from p b =
      let o = through_back p b.stands in
      let j = joined_back o.pattern o.is in
      let x = through_from j.0 j.3 b.occurs_left in
      let y = through_from j.1 j.4 b.occurs_right in record {
        left = j.0;
        right = j.1;
        stands = subst (λ q. StandsIn q p) j.2 o.holds;
        occurs_left = subst (λ q. OccursIn q j.0) (text_back x.pattern x.is) x.holds;
        occurs_right = subst (λ q. OccursIn q j.1) (text_back y.pattern y.is) y.holds;
      }

  pub element_names_from : (P : K → NameClass → Type 0) (Q : L → NameClass → Type 0) (p : Simple K)
      → ((k : K) (c : NameClass) → StandsIn (s_leaf k) p → Q (f k) c → P k c) → BreaksElementNames Q (re p) → BreaksElementNames P p
  element_names_from P Q p same b =
      let o = through_back p b.stands in
      let j = joined_back o.pattern o.is in
      let x = through_from j.0 j.3 b.occurs_left in
      let y = through_from j.1 j.4 b.occurs_right in
      let v = leaf_back x.pattern x.is in
      let w = leaf_back y.pattern y.is in
      let whole : StandsIn (s_joined tree.interleave j.0 j.1) p = subst (λ q. StandsIn q p) j.2 o.holds in
      let first : OccursIn (s_leaf v.0) j.0 = subst (λ q. OccursIn q j.0) v.1 x.holds in
      let second : OccursIn (s_leaf w.0) j.1 = subst (λ q. OccursIn q j.1) w.1 y.holds in record {
        left = j.0;
        right = j.1;
        stands = whole;
        first = v.0;
        second = w.0;
        occurs_left = first;
        occurs_right = second;
        first_class = b.first_class;
        second_class = b.second_class;
        is_first = same v.0 b.first_class (deeper whole (in_left (stands_through first))) (subst (λ l. Q l b.first_class) (sym v.2) b.is_first);
        is_second = same w.0 b.second_class (deeper whole (in_right (stands_through second))) (subst (λ l. Q l b.second_class) (sym w.2) b.is_second);
        overlap = b.overlap;
      }
