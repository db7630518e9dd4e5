-- Wildcards outside oneOrMores, and text on both sides of an interleave.
use Rattle.std.proofs.Common.{◌≡◌, false, ◌⊎◌, inl, inr, refl, sym, ◌∙◌, ap, subst, Decides, true≢false}
use Rattle.std.proofs.lemmas.Bool.Decides.{Decides-and, Decides-or, Decides-like}
use Rattle.rng_model.specs.names.Names.{NameClass}
use Rattle.rng_model.specs.simple.Tree as tree
use Rattle.rng_model.specs.simple.Tree.{Connector, Simple, s_not_allowed, s_empty, s_text, s_leaf, s_attribute, s_list, s_data, s_data_except, s_value}
use Rattle.rng_model.specs.simple.Tree.{s_one_or_more, s_joined}
use Rattle.rng_model.specs.restrictions.Restrictions.{HasWildcard, BreaksWildcard, BreaksText}
use Rattle.rng_model.specs.simple.Grammar.{StandsIn, StandsUnrepeated, OccursIn, IsChild, IsTransparent, kind_of, itself, below, of_attribute, of_list}
use Rattle.rng_model.specs.simple.Grammar.{of_except, of_one_or_more, of_left, of_right}
use Rattle.rng_model.proofs.Inside.{unrepeated_in_attribute, unrepeated_in_list, unrepeated_in_except, unrepeated_in_left, unrepeated_in_right}
use Rattle.rng_model.proofs.Inside.{occurs_repeated, occurs_left, occurs_right, through_cases}
use Rattle.rng_rules.specs.plain.Kinds.{is_interleave}
use Rattle.rng_rules.specs.plain.Facts.{unrepeated_wildcard, text_occurs, bad_text, somewhere}
use Rattle.rng_rules.proofs.PatternTests.{none, somewhere-Decides}
use Rattle.rng_rules.proofs.WildcardsInChoices.{has_wildcard-Decides}

module _ {L : Type 0} where
  -- ---- wildcards

  -- the pattern contains an attribute with this class and this content, outside every oneOrMore
  abbrev Unrepeated : NameClass → Simple L → Simple L → Type 0
  Unrepeated c body p = StandsUnrepeated (s_attribute c body) p

  moved : (p q : Simple L) → ((c : NameClass) (body : Simple L) → Unrepeated c body p → Unrepeated c body q) → BreaksWildcard p → BreaksWildcard q
  moved p q move b = record { class = b.class; body = b.body; stands = move b.class b.body b.stands; wildcard = b.wildcard }

  in_class_or_body : (c d : NameClass) (p body : Simple L) → Unrepeated d body (s_attribute c p) → HasWildcard d → HasWildcard c ⊎ BreaksWildcard p
  in_class_or_body _ d _ body itself w = inl w
  in_class_or_body c d p body (below _ of_attribute s) w = inr (record { class = d; body = body; stands = s; wildcard = w })

  in_side : (k : Connector) (d : NameClass) (p q body : Simple L) → Unrepeated d body (s_joined k p q) → HasWildcard d → BreaksWildcard p ⊎ BreaksWildcard q
  in_side k d p q body (below _ of_left s) w = inl (record { class = d; body = body; stands = s; wildcard = w })
  in_side k d p q body (below _ of_right s) w = inr (record { class = d; body = body; stands = s; wildcard = w })

  from_list : {c : NameClass} {body p : Simple L} → Unrepeated c body (s_list p) → Unrepeated c body p
  from_list (below _ of_list s) = s

  from_except : {c : NameClass} {body p : Simple L} {d : tree.Datatype} → Unrepeated c body (s_data_except d p) → Unrepeated c body p
  from_except (below _ of_except s) = s

  never_repeated : {c : NameClass} {body p : Simple L} → Unrepeated c body (s_one_or_more p) → ⊥
  never_repeated (below not of_one_or_more s) = not refl

  -- a pattern without children that is no attribute
  childless : {c : NameClass} {body p : Simple L} → (s_attribute c body ≡ p → ⊥) → ((r : Simple L) → IsChild r p → ⊥) → Unrepeated c body p → ⊥
  childless other none s = elim (through_cases s) [ inl e ↦ other e | inr t ↦ none t.1.0 t.1.1 ]

  pub breaks_wildcard : (p : Simple L) → Decides (unrepeated_wildcard p) (BreaksWildcard p)
  breaks_wildcard s_not_allowed = none (λ b. childless (λ e. cc) (λ r i. elim i [ ]) b.stands)
  breaks_wildcard s_empty = none (λ b. childless (λ e. cc) (λ r i. elim i [ ]) b.stands)
  breaks_wildcard s_text = none (λ b. childless (λ e. cc) (λ r i. elim i [ ]) b.stands)
  breaks_wildcard (s_leaf l) = none (λ b. childless (λ e. cc) (λ r i. elim i [ ]) b.stands)
  breaks_wildcard (s_attribute c p) =
      Decides-like _
      (λ s. elim s [
        | inl w ↦ record { class = c; body = p; stands = itself; wildcard = w }
        | inr b ↦ moved p (s_attribute c p) (λ d body s. unrepeated_in_attribute s) b
      ])
      (λ b. in_class_or_body c b.class p b.body b.stands b.wildcard) (Decides-or _ _ (has_wildcard-Decides c) (breaks_wildcard p))
  breaks_wildcard (s_list p) = Decides-like _ (moved p (s_list p) (λ d body s. unrepeated_in_list s)) (moved (s_list p) p (λ d body s. from_list s)) (breaks_wildcard p)
  breaks_wildcard (s_data d) = none (λ b. childless (λ e. cc) (λ r i. elim i [ ]) b.stands)
  breaks_wildcard (s_data_except d p) =
      Decides-like _ (moved p (s_data_except d p) (λ c body s. unrepeated_in_except s)) (moved (s_data_except d p) p (λ c body s. from_except s)) (breaks_wildcard p)
  breaks_wildcard (s_value d v) = none (λ b. childless (λ e. cc) (λ r i. elim i [ ]) b.stands)
  breaks_wildcard (s_one_or_more p) = none (λ b. never_repeated b.stands)
  breaks_wildcard (s_joined k p q) =
      Decides-like _
      (λ s. elim s [
        | inl b ↦ moved p (s_joined k p q) (λ d body s. unrepeated_in_left s) b
        | inr b ↦ moved q (s_joined k p q) (λ d body s. unrepeated_in_right s) b
      ])
      (λ b. in_side k b.class p q b.body b.stands b.wildcard) (Decides-or _ _ (breaks_wildcard p) (breaks_wildcard q))

  -- ---- text

  -- nothing else occurs in a pattern of another kind
  opaque : {p : Simple L} → (s_text ≡ p → ⊥) → (IsTransparent (kind_of p) → ⊥) → OccursIn s_text p → ⊥
  opaque other not o = elim (through_cases o) [ inl e ↦ other e | inr t ↦ not t.0 ]

  out_of_repeated : {p : Simple L} → OccursIn s_text (s_one_or_more p) → OccursIn s_text p
  out_of_repeated (below _ of_one_or_more s) = s

  out_of_sides : {k : Connector} {p q : Simple L} → OccursIn s_text (s_joined k p q) → OccursIn s_text p ⊎ OccursIn s_text q
  out_of_sides (below _ of_left s) = inl s
  out_of_sides (below _ of_right s) = inr s

  occurs : (p : Simple L) → Decides (text_occurs p) (OccursIn s_text p)
  occurs s_not_allowed = none (opaque (λ e. cc) (λ t. elim t [ ]))
  occurs s_empty = none (opaque (λ e. cc) (λ t. elim t [ ]))
  occurs s_text = (λ _. itself, λ _. refl)
  occurs (s_leaf l) = none (opaque (λ e. cc) (λ t. elim t [ ]))
  occurs (s_attribute c p) = none (opaque (λ e. cc) (λ t. elim t [ ]))
  occurs (s_list p) = none (opaque (λ e. cc) (λ t. elim t [ ]))
  occurs (s_data d) = none (opaque (λ e. cc) (λ t. elim t [ ]))
  occurs (s_data_except d p) = none (opaque (λ e. cc) (λ t. elim t [ ]))
  occurs (s_value d v) = none (opaque (λ e. cc) (λ t. elim t [ ]))
  occurs (s_one_or_more p) = Decides-like _ occurs_repeated out_of_repeated (occurs p)
  occurs (s_joined k p q) = Decides-like _ (λ s. elim s [ inl h ↦ occurs_left h | inr h ↦ occurs_right h ]) out_of_sides (Decides-or _ _ (occurs p) (occurs q))

  -- an interleave with text on both sides
  abbrev IsBadText : Simple L → Type 0
  IsBadText q = (a : Simple L) × (b : Simple L) × (q ≡ s_joined tree.interleave a b) × OccursIn s_text a × OccursIn s_text b

  no_interleave : (q a b : Simple L) → is_interleave (kind_of q) ≡ false → q ≡ s_joined tree.interleave a b → ⊥
  no_interleave q a b not is = true≢false (sym (ap (λ p. is_interleave (kind_of p)) is) ∙ not)

  bad : (q : Simple L) → Decides (bad_text q) (IsBadText q)
  bad (s_joined tree.interleave p q) =
      Decides-like _ (λ s. (p, q, refl, s.0, s.1)) (λ s. (subst (OccursIn s_text) (sym (lefts s.2)) s.3, subst (OccursIn s_text) (sym (rights s.2)) s.4)) (Decides-and _ _ (occurs p) (occurs q))
    where
      lefts : {a b : Simple L} → s_joined tree.interleave p q ≡ s_joined tree.interleave a b → p ≡ a
      lefts e = cc

      rights : {a b : Simple L} → s_joined tree.interleave p q ≡ s_joined tree.interleave a b → q ≡ b
      rights e = cc
  bad (s_joined tree.choice p q) = none (λ s. no_interleave _ s.0 s.1 refl s.2)
  bad (s_joined tree.group p q) = none (λ s. no_interleave _ s.0 s.1 refl s.2)
  bad p = none (λ s. no_interleave p s.0 s.1 refl s.2)

  pub breaks_text : (p : Simple L) → Decides (somewhere bad_text p) (BreaksText p)
  breaks_text p =
      Decides-like _ (λ s. record { left = s.2.0; right = s.2.1; stands = subst (λ q. StandsIn q p) s.2.2 s.1; occurs_left = s.2.3; occurs_right = s.2.4 })
      (λ b. (s_joined tree.interleave b.left b.right, b.stands, (b.left, b.right, refl, b.occurs_left, b.occurs_right)))
      (somewhere-Decides bad_text IsBadText bad p)
