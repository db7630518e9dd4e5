-- The facts of a pattern decide the clauses on one pattern.
use Rattle.std.proofs.Common.{◌≡◌, ℕ, [], ◌∷◌, Bool, ◌⊎◌, inl, inr, refl, sym, subst, Decides, true≢false}
use Rattle.std.proofs.lemmas.Bool.Decides.{Decides-and, Decides-like}
use Rattle.rng_model.specs.simple.Tree.{Simple}
use Rattle.rng_model.specs.simple.Grammar.{Kind, kind_of, StandsIn, Inside, empty_kind, text_kind, ref_kind, attribute_kind, list_kind, data_kind, value_kind}
use Rattle.rng_model.specs.simple.Grammar.{one_or_more_kind, group_kind, interleave_kind}
use Rattle.rng_model.specs.restrictions.Contents as paths
use Rattle.rng_model.specs.restrictions.Contents.{IsProhibited, IsProhibitedInStart, HasPath, HasProhibited, HasProhibitedInStart}
use Rattle.rng_rules.specs.plain.Kinds as kinds
use Rattle.rng_rules.specs.plain.Facts.{inside, somewhere, joins_attribute, barred_from_start}
use Rattle.rng_rules.specs.plain.Facts.{bad_attribute, bad_one_or_more, bad_list, bad_except}
use Rattle.rng_rules.proofs.PatternTests.{inside-Decides, somewhere-Decides}

-- ---- kinds

-- a test that holds for exactly this kind
is_kind : (k : Kind) → Decides (kinds.is_attribute k) (k ≡ attribute_kind)
is_kind attribute_kind = (λ _. refl, λ _. refl)
is_kind _ = (λ e. elim (true≢false (sym e)) [ ], λ e. cc)

is_one_or_more-Decides : (k : Kind) → Decides (kinds.is_one_or_more k) (k ≡ one_or_more_kind)
is_one_or_more-Decides one_or_more_kind = (λ _. refl, λ _. refl)
is_one_or_more-Decides _ = (λ e. elim (true≢false (sym e)) [ ], λ e. cc)

is_list-Decides : (k : Kind) → Decides (kinds.is_list k) (k ≡ list_kind)
is_list-Decides list_kind = (λ _. refl, λ _. refl)
is_list-Decides _ = (λ e. elim (true≢false (sym e)) [ ], λ e. cc)

is_data-Decides : (k : Kind) → Decides (kinds.is_data k) (k ≡ data_kind)
is_data-Decides data_kind = (λ _. refl, λ _. refl)
is_data-Decides _ = (λ e. elim (true≢false (sym e)) [ ], λ e. cc)

is_between-Decides : (k : Kind) → Decides (kinds.is_between k) ((k ≡ group_kind) ⊎ (k ≡ interleave_kind))
is_between-Decides group_kind = (λ _. inl refl, λ _. refl)
is_between-Decides interleave_kind = (λ _. inr refl, λ _. refl)
is_between-Decides _ = (λ e. elim (true≢false (sym e)) [ ], λ s. elim s [ inl e ↦ cc | inr e ↦ cc ])

-- the last kinds of the paths that begin with this one
abbrev BarredFromAttribute : Kind → Type 0
BarredFromAttribute k = IsProhibited 18 (attribute_kind ∷ k ∷ [])

abbrev BarredFromList : Kind → Type 0
BarredFromList k = IsProhibited 20 (list_kind ∷ k ∷ [])

abbrev BarredFromExcept : Kind → Type 0
BarredFromExcept k = IsProhibited 21 (data_kind ∷ k ∷ [])

barred_from_attribute-Decides : (k : Kind) → Decides (kinds.is_barred_from_attribute k) (BarredFromAttribute k)
barred_from_attribute-Decides ref_kind = (λ _. paths.attribute_ref, λ _. refl)
barred_from_attribute-Decides attribute_kind = (λ _. paths.attribute_attribute, λ _. refl)
barred_from_attribute-Decides _ = (λ e. elim (true≢false (sym e)) [ ], λ h. elim h [ ])

barred_from_list-Decides : (k : Kind) → Decides (kinds.is_barred_from_list k) (BarredFromList k)
barred_from_list-Decides list_kind = (λ _. paths.list_list, λ _. refl)
barred_from_list-Decides ref_kind = (λ _. paths.list_ref, λ _. refl)
barred_from_list-Decides attribute_kind = (λ _. paths.list_attribute, λ _. refl)
barred_from_list-Decides text_kind = (λ _. paths.list_text, λ _. refl)
barred_from_list-Decides interleave_kind = (λ _. paths.list_interleave, λ _. refl)
barred_from_list-Decides _ = (λ e. elim (true≢false (sym e)) [ ], λ h. elim h [ ])

barred_from_except-Decides : (k : Kind) → Decides (kinds.is_barred_from_except k) (BarredFromExcept k)
barred_from_except-Decides attribute_kind = (λ _. paths.data_attribute, λ _. refl)
barred_from_except-Decides ref_kind = (λ _. paths.data_ref, λ _. refl)
barred_from_except-Decides text_kind = (λ _. paths.data_text, λ _. refl)
barred_from_except-Decides list_kind = (λ _. paths.data_list, λ _. refl)
barred_from_except-Decides group_kind = (λ _. paths.data_group, λ _. refl)
barred_from_except-Decides interleave_kind = (λ _. paths.data_interleave, λ _. refl)
barred_from_except-Decides one_or_more_kind = (λ _. paths.data_one_or_more, λ _. refl)
barred_from_except-Decides empty_kind = (λ _. paths.data_empty, λ _. refl)
barred_from_except-Decides _ = (λ e. elim (true≢false (sym e)) [ ], λ h. elim h [ ])

barred_from_start-Decides : (k : Kind) → Decides (kinds.is_barred_from_start k) (IsProhibitedInStart k)
barred_from_start-Decides attribute_kind = (λ _. paths.start_attribute, λ _. refl)
barred_from_start-Decides data_kind = (λ _. paths.start_data, λ _. refl)
barred_from_start-Decides value_kind = (λ _. paths.start_value, λ _. refl)
barred_from_start-Decides text_kind = (λ _. paths.start_text, λ _. refl)
barred_from_start-Decides list_kind = (λ _. paths.start_list, λ _. refl)
barred_from_start-Decides group_kind = (λ _. paths.start_group, λ _. refl)
barred_from_start-Decides interleave_kind = (λ _. paths.start_interleave, λ _. refl)
barred_from_start-Decides one_or_more_kind = (λ _. paths.start_one_or_more, λ _. refl)
barred_from_start-Decides empty_kind = (λ _. paths.start_empty, λ _. refl)
barred_from_start-Decides _ = (λ e. elim (true≢false (sym e)) [ ], λ h. elim h [ ])

-- ---- clauses on what is not allowed inside what

module _ {L : Type 0} where
  -- something inside the pattern has such a kind
  abbrev Holds : (Kind → Type 0) → Simple L → Type 0
  Holds K p = (q : Simple L) × Inside q p × K (kind_of q)

  holds : (test : Kind → Bool) (K : Kind → Type 0) → ((k : Kind) → Decides (test k) (K k)) → (p : Simple L) → Decides (inside (λ q. test (kind_of q)) p) (Holds K p)
  holds test K each p = inside-Decides (λ q. test (kind_of q)) (λ q. K (kind_of q)) (λ q. each (kind_of q)) p

  -- a pattern of kind `a` in p, with a pattern inside whose kind is in K
  abbrev Around : Kind → (Kind → Type 0) → Simple L → Type 0
  Around a K p = (q : Simple L) × StandsIn q p × ((kind_of q ≡ a) × Holds K q)

  around : {a k : Kind} {p : Simple L} (K : Kind → Type 0) → K k → HasPath (a ∷ k ∷ []) p → Around a K p
  around K b (q, s, e, (r, i, f, _)) = (q, s, (e, (r, i, subst K (sym f) b)))

  attribute_around : {p : Simple L} → HasProhibited 18 p → Around attribute_kind BarredFromAttribute p
  attribute_around (_, paths.attribute_ref, h) = around BarredFromAttribute paths.attribute_ref h
  attribute_around (_, paths.attribute_attribute, h) = around BarredFromAttribute paths.attribute_attribute h

  list_around : {p : Simple L} → HasProhibited 20 p → Around list_kind BarredFromList p
  list_around (_, paths.list_list, h) = around BarredFromList paths.list_list h
  list_around (_, paths.list_ref, h) = around BarredFromList paths.list_ref h
  list_around (_, paths.list_attribute, h) = around BarredFromList paths.list_attribute h
  list_around (_, paths.list_text, h) = around BarredFromList paths.list_text h
  list_around (_, paths.list_interleave, h) = around BarredFromList paths.list_interleave h

  data_around : {p : Simple L} → HasProhibited 21 p → Around data_kind BarredFromExcept p
  data_around (_, paths.data_attribute, h) = around BarredFromExcept paths.data_attribute h
  data_around (_, paths.data_ref, h) = around BarredFromExcept paths.data_ref h
  data_around (_, paths.data_text, h) = around BarredFromExcept paths.data_text h
  data_around (_, paths.data_list, h) = around BarredFromExcept paths.data_list h
  data_around (_, paths.data_group, h) = around BarredFromExcept paths.data_group h
  data_around (_, paths.data_interleave, h) = around BarredFromExcept paths.data_interleave h
  data_around (_, paths.data_one_or_more, h) = around BarredFromExcept paths.data_one_or_more h
  data_around (_, paths.data_empty, h) = around BarredFromExcept paths.data_empty h

  path_of : {a : Kind} {clause : ℕ} {p : Simple L} → Around a (λ k. IsProhibited clause (a ∷ k ∷ [])) p → HasProhibited clause p
  path_of {a} s = (a ∷ kind_of s.2.1.0 ∷ [], s.2.1.2, (s.0, s.1, s.2.0, (s.2.1.0, s.2.1.1, refl, tt)))

  pub breaks_attribute : (p : Simple L) → Decides (somewhere bad_attribute p) (HasProhibited 18 p)
  breaks_attribute p =
      Decides-like _ path_of attribute_around
      (somewhere-Decides bad_attribute (λ q. (kind_of q ≡ attribute_kind) × Holds BarredFromAttribute q)
      (λ q. Decides-and _ _ (is_kind (kind_of q)) (holds kinds.is_barred_from_attribute BarredFromAttribute barred_from_attribute-Decides q)) p)

  pub breaks_list : (p : Simple L) → Decides (somewhere bad_list p) (HasProhibited 20 p)
  breaks_list p =
      Decides-like _ path_of list_around
      (somewhere-Decides bad_list (λ q. (kind_of q ≡ list_kind) × Holds BarredFromList q)
      (λ q. Decides-and _ _ (is_list-Decides (kind_of q)) (holds kinds.is_barred_from_list BarredFromList barred_from_list-Decides q)) p)

  -- a group or an interleave that contains an attribute
  abbrev JoinsAttribute : Simple L → Type 0
  JoinsAttribute p = ((kind_of p ≡ group_kind) ⊎ (kind_of p ≡ interleave_kind)) × Holds (λ k. k ≡ attribute_kind) p

  joins : (p : Simple L) → Decides (joins_attribute p) (JoinsAttribute p)
  joins p = Decides-and _ _ (is_between-Decides (kind_of p)) (holds kinds.is_attribute (λ k. k ≡ attribute_kind) is_kind p)

  -- a oneOrMore with a pattern inside that joins attributes
  abbrev IsBadRepetition : Simple L → Type 0
  IsBadRepetition q = (kind_of q ≡ one_or_more_kind) × ((r : Simple L) × Inside r q × JoinsAttribute r)

  repetition : (p q : Simple L) → StandsIn q p → IsBadRepetition q → HasProhibited 19 p
  repetition p q s (e, (r, i, (inl f, (a, j, g)))) = (_, paths.repeated_group_attribute, (q, s, e, (r, i, f, (a, j, g, tt))))
  repetition p q s (e, (r, i, (inr f, (a, j, g)))) = (_, paths.repeated_interleave_attribute, (q, s, e, (r, i, f, (a, j, g, tt))))

  repetition_in : (p : Simple L) → HasProhibited 19 p → (q : Simple L) × StandsIn q p × IsBadRepetition q
  repetition_in p (_, paths.repeated_group_attribute, (q, s, e, (r, i, f, (a, j, g, _)))) = (q, s, (e, (r, i, (inl f, (a, j, g)))))
  repetition_in p (_, paths.repeated_interleave_attribute, (q, s, e, (r, i, f, (a, j, g, _)))) = (q, s, (e, (r, i, (inr f, (a, j, g)))))

  pub breaks_one_or_more : (p : Simple L) → Decides (somewhere bad_one_or_more p) (HasProhibited 19 p)
  breaks_one_or_more p =
      Decides-like _ (λ s. repetition p s.0 s.1 s.2) (repetition_in p)
      (somewhere-Decides bad_one_or_more IsBadRepetition
      (λ q. Decides-and _ _ (is_one_or_more-Decides (kind_of q)) (inside-Decides joins_attribute JoinsAttribute joins q)) p)

  pub breaks_except : (p : Simple L) → Decides (somewhere bad_except p) (HasProhibited 21 p)
  breaks_except p =
      Decides-like _ path_of data_around
      (somewhere-Decides bad_except (λ q. (kind_of q ≡ data_kind) × Holds BarredFromExcept q)
      (λ q. Decides-and _ _ (is_data-Decides (kind_of q)) (holds kinds.is_barred_from_except BarredFromExcept barred_from_except-Decides q)) p)

  start_in : (p : Simple L) → HasProhibitedInStart p → (q : Simple L) × StandsIn q p × IsProhibitedInStart (kind_of q)
  start_in p (k, b, (q, s, e, _)) = (q, s, subst IsProhibitedInStart (sym e) b)

  pub breaks_start : (p : Simple L) → Decides (somewhere barred_from_start p) (HasProhibitedInStart p)
  breaks_start p =
      Decides-like _ (λ s. (kind_of s.0, s.2, (s.0, s.1, refl, tt))) (start_in p)
      (somewhere-Decides barred_from_start (λ q. IsProhibitedInStart (kind_of q)) (λ q. barred_from_start-Decides (kind_of q)) p)
