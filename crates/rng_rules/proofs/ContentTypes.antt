-- The computed content type is that of the pattern.
use Rattle.std.proofs.Common.{◌≡◌, ◌≢◌, ℕ, List, Option, Some, None, not, ◌&&◌, refl, sym, ◌∙◌, ap, ap₂, subst, Decides, true≢false}
use Rattle.std.proofs.lemmas.Bool.Decides.{Decides-and, Decides-like}
use Rattle.rng_model.specs.names.Names.{NameClass}
use Rattle.rng_model.specs.simple.Tree as tree
use Rattle.rng_model.specs.simple.Tree.{Connector, Simple, s_not_allowed, s_empty, s_text, s_leaf, s_attribute, s_list, s_data, s_data_except, s_value}
use Rattle.rng_model.specs.simple.Tree.{s_one_or_more, s_joined}
use Rattle.rng_model.specs.restrictions.Contents as model
use Rattle.rng_model.specs.restrictions.Contents.{HasContent, BreaksContent, AreGroupable, IsNoChoice, grouped, interleaved, empty_first, empty_second}
use Rattle.rng_model.specs.restrictions.Contents.{both_complex, complex_content, simple_content, greater}
use Rattle.rng_model.specs.simple.Grammar.{kind_of}
use Rattle.rng_rules.specs.plain.Kinds.{is_not_allowed}
use Rattle.rng_rules.specs.plain.Facts as facts
use Rattle.rng_rules.specs.plain.Facts.{content_of, content_seen, groupable}
use Rattle.rng_rules.specs.plain.Broken.{has_none}
use Rattle.rng_rules.specs.declared.content.ContentType.{ContentType}
use Rattle.rng_rules.specs.declared.content.ContentType.TheVariants as content

same_greater : (t u : ContentType) → greater (content_seen t) (content_seen u) ≡ content_seen (facts.greater t u)
same_greater content.Empty u = refl
same_greater content.Complex content.Empty = refl
same_greater content.Complex content.Complex = refl
same_greater content.Complex content.Simple = refl
same_greater content.Simple u = refl

-- the result for two types: the greater one, if they may be grouped
abbrev GroupsTo : ContentType → ContentType → Option ContentType → Type 0
GroupsTo t u None = ¬ (AreGroupable (content_seen t) (content_seen u))
GroupsTo t u (Some w) = AreGroupable (content_seen t) (content_seen u) × (greater (content_seen t) (content_seen u) ≡ content_seen w)

groups_to : (t u : ContentType) → GroupsTo t u (groupable t u)
groups_to content.Empty u = (empty_first, refl)
groups_to content.Complex content.Empty = (empty_second, refl)
groups_to content.Complex content.Complex = (both_complex, refl)
groups_to content.Complex content.Simple = λ g. elim g [ ]
groups_to content.Simple content.Empty = (empty_second, refl)
groups_to content.Simple content.Complex = λ g. elim g [ ]
groups_to content.Simple content.Simple = λ g. elim g [ ]

module _ {L : Type 0} where
  -- the result for a pattern is its content type
  abbrev pub ContentIs : Simple L → Option ContentType → Type 0
  ContentIs p None = (u : model.ContentType) → HasContent p u → ⊥
  ContentIs p (Some t) = HasContent p (content_seen t) × ((u : model.ContentType) → HasContent p u → u ≡ content_seen t)

  only_attribute : (c : NameClass) (p : Simple L) (u : model.ContentType) → HasContent (s_attribute c p) u → u ≡ model.empty_content
  only_attribute c p _ (model.of_attribute g) = refl

  only_empty : (u : model.ContentType) → HasContent {L = L} s_empty u → u ≡ model.empty_content
  only_empty _ model.of_empty = refl

  only_text : (u : model.ContentType) → HasContent {L = L} s_text u → u ≡ complex_content
  only_text _ model.of_text = refl

  only_ref : (l : L) (u : model.ContentType) → HasContent (s_leaf l) u → u ≡ complex_content
  only_ref l _ model.of_ref = refl

  only_list : (p : Simple L) (u : model.ContentType) → HasContent (s_list p) u → u ≡ simple_content
  only_list p _ model.of_list = refl

  only_data : (d : tree.Datatype) (u : model.ContentType) → HasContent {L = L} (s_data d) u → u ≡ simple_content
  only_data d _ model.of_data = refl

  only_except : (d : tree.Datatype) (p : Simple L) (u : model.ContentType) → HasContent (s_data_except d p) u → u ≡ simple_content
  only_except d p _ model.of_data_except = refl

  only_value : (d : tree.Datatype) (v : List ℕ) (u : model.ContentType) → HasContent {L = L} (s_value d v) u → u ≡ simple_content
  only_value d v _ model.of_value = refl

  none_inside : (c : NameClass) (p : Simple L) → ContentIs p None → ContentIs (s_attribute c p) None
  none_inside c p none _ (model.of_attribute g) = none _ g

  attribute_is : (c : NameClass) (p : Simple L) (o : Option ContentType) → ContentIs p o → ContentIs (s_attribute c p) (facts.of_attribute o)
  attribute_is c p None none = none_inside c p none
  attribute_is c p (Some t) is = (model.of_attribute is.0, only_attribute c p)

  none_left : (k : Connector) (p q : Simple L) → ContentIs p None → ContentIs (s_joined k p q) None
  none_left k p q none u (model.of_both n a b g) = none _ a
  none_left _ p q none u (model.of_choice a b) = none _ a

  none_right : (k : Connector) (p q : Simple L) → ContentIs q None → ContentIs (s_joined k p q) None
  none_right k p q none u (model.of_both n a b g) = none _ b
  none_right _ p q none u (model.of_choice a b) = none _ b

  only_greater : (k : Connector) (p q : Simple L) (t v : model.ContentType) → ((u : model.ContentType) → HasContent p u → u ≡ t) → ((u : model.ContentType) → HasContent q u → u ≡ v)
      → (u : model.ContentType) → HasContent (s_joined k p q) u → u ≡ greater t v
  only_greater k p q t v a b u (model.of_both n x y g) = ap₂ greater (a _ x) (b _ y)
  only_greater _ p q t v a b u (model.of_choice x y) = ap₂ greater (a _ x) (b _ y)

  not_grouped : (k : Connector) (p q : Simple L) (t v : model.ContentType) → IsNoChoice k → ¬ (AreGroupable t v) → ((u : model.ContentType) → HasContent p u → u ≡ t)
      → ((u : model.ContentType) → HasContent q u → u ≡ v) → ContentIs (s_joined k p q) None
  not_grouped k p q t v n apart a b u (model.of_both m x y g) = apart (subst (λ s. AreGroupable s v) (a _ x) (subst (AreGroupable _) (b _ y) g))
  not_grouped _ p q t v n apart a b u (model.of_choice x y) = elim n [ ]

  grouped_is : (k : Connector) (p q : Simple L) (t v : ContentType) → IsNoChoice k → ContentIs p (Some t) → ContentIs q (Some v) → (o : Option ContentType) → GroupsTo t v o
      → ContentIs (s_joined k p q) o
  grouped_is k p q t v n a b None apart = not_grouped k p q _ _ n apart a.1 b.1
  grouped_is k p q t v n a b (Some w) groups =
      (subst (HasContent (s_joined k p q)) groups.1 (model.of_both n a.0 b.0 groups.0), λ u h. only_greater k p q _ _ a.1 b.1 u h ∙ groups.1)

  both_is : (k : Connector) (p q : Simple L) (o r : Option ContentType) → IsNoChoice k → ContentIs p o → ContentIs q r → ContentIs (s_joined k p q) (facts.of_both o r)
  both_is k p q None r n a b = none_left k p q a
  both_is k p q (Some t) None n a b = none_right k p q b
  both_is k p q (Some t) (Some v) n a b = grouped_is k p q t v n a b (groupable t v) (groups_to t v)

  choice_is : (p q : Simple L) (o r : Option ContentType) → ContentIs p o → ContentIs q r → ContentIs (s_joined tree.choice p q) (facts.of_either o r)
  choice_is p q None r a b = none_left tree.choice p q a
  choice_is p q (Some t) None a b = none_right tree.choice p q b
  choice_is p q (Some t) (Some v) a b =
      (subst (HasContent (s_joined tree.choice p q)) (same_greater t v) (model.of_choice a.0 b.0), λ u h. only_greater tree.choice p q _ _ a.1 b.1 u h ∙ same_greater t v)

  -- a oneOrMore has the type of its content, if that may be grouped with itself
  same_grouped : (t : ContentType) (o : Option ContentType) → GroupsTo t t o → (p : Simple L) → ContentIs p (Some t) → ContentIs (s_one_or_more p) o
  same_grouped t None apart p is = λ u h. elim h [ model.of_one_or_more x g ↦ apart (subst (λ s. AreGroupable s s) (is.1 _ x) g) ]
  same_grouped t (Some w) groups p is =
      let same : content_seen t ≡ content_seen w = sym (greater_self t) ∙ groups.1 in
      (subst (HasContent (s_one_or_more p)) same (model.of_one_or_more is.0 groups.0), λ u h. elim h [ model.of_one_or_more x g ↦ is.1 _ x ∙ same ])
    where
      greater_self : (t : ContentType) → greater (content_seen t) (content_seen t) ≡ content_seen t
      greater_self content.Empty = refl
      greater_self content.Complex = refl
      greater_self content.Simple = refl

  repeated_is : (p : Simple L) (o : Option ContentType) → ContentIs p o → ContentIs (s_one_or_more p) (facts.of_both o o)
  repeated_is p None none = λ u h. elim h [ model.of_one_or_more x g ↦ none _ x ]
  repeated_is p (Some t) is = same_grouped t (groupable t t) (groups_to t t) p is

  pub content_is : (p : Simple L) → ContentIs p (content_of p)
  content_is s_not_allowed = λ u h. elim h [ ]
  content_is s_empty = (model.of_empty, only_empty)
  content_is s_text = (model.of_text, only_text)
  content_is (s_leaf l) = (model.of_ref, only_ref l)
  content_is (s_attribute c p) = attribute_is c p (content_of p) (content_is p)
  content_is (s_list p) = (model.of_list, only_list p)
  content_is (s_data d) = (model.of_data, only_data d)
  content_is (s_data_except d p) = (model.of_data_except, only_except d p)
  content_is (s_value d v) = (model.of_value, only_value d v)
  content_is (s_one_or_more p) = repeated_is p (content_of p) (content_is p)
  content_is (s_joined tree.choice p q) = choice_is p q (content_of p) (content_of q) (content_is p) (content_is q)
  content_is (s_joined tree.group p q) = both_is tree.group p q (content_of p) (content_of q) grouped (content_is p) (content_is q)
  content_is (s_joined tree.interleave p q) = both_is tree.interleave p q (content_of p) (content_of q) interleaved (content_is p) (content_is q)

  -- ---- the clause

  none_found : (p : Simple L) (o : Option ContentType) → ContentIs p o → Decides (has_none o) ((t : model.ContentType) → HasContent p t → ⊥)
  none_found p None none = (λ _. none, λ _. refl)
  none_found p (Some t) is = (λ e. elim (true≢false (sym e)) [ ], λ none. elim (none _ is.0) [ ])

  whole : (p : Simple L) → Decides (not (is_not_allowed (kind_of p))) (p ≢ s_not_allowed)
  whole s_not_allowed = (λ e. elim (true≢false (sym e)) [ ], λ apart. elim (apart refl) [ ])
  whole (s_joined tree.choice p q) = (λ _ e. true≢false (sym (ap (λ p. is_not_allowed (kind_of p)) e)), λ _. refl)
  whole (s_joined tree.group p q) = (λ _ e. true≢false (sym (ap (λ p. is_not_allowed (kind_of p)) e)), λ _. refl)
  whole (s_joined tree.interleave p q) = (λ _ e. true≢false (sym (ap (λ p. is_not_allowed (kind_of p)) e)), λ _. refl)
  whole _ = (λ _ e. true≢false (sym (ap (λ p. is_not_allowed (kind_of p)) e)), λ _. refl)

  pub breaks_content : (p : Simple L) → Decides (not (is_not_allowed (kind_of p)) && has_none (content_of p)) (BreaksContent p)
  breaks_content p =
      Decides-like _ (λ s. record { not_whole = s.0; no_type = s.1 }) (λ b. (b.not_whole, b.no_type))
      (Decides-and _ _ (whole p) (none_found p (content_of p) (content_is p)))
