-- The tests of what a pattern contains agree with the definitions.
use Rattle.std.proofs.Common.{Bool, false, ◌⊎◌, inl, inr, sym, Decides, true≢false}
use Rattle.std.proofs.lemmas.Bool.Decides.{Decides-or, Decides-like}
use Rattle.rng_model.specs.simple.Tree.{Simple, s_not_allowed, s_empty, s_text, s_leaf, s_attribute, s_list, s_data, s_data_except, s_value}
use Rattle.rng_model.specs.simple.Tree.{s_one_or_more, s_joined}
use Rattle.rng_model.specs.simple.Grammar.{StandsIn, Inside, itself, below, of_attribute, of_list, of_except, of_one_or_more, of_left, of_right}
use Rattle.rng_model.proofs.Inside.{out_of_attribute, out_of_list, out_of_except, out_of_one_or_more, out_of_joined}
use Rattle.rng_rules.specs.plain.Facts.{inside, somewhere}

pub none : {P : Type 0} → (P → ⊥) → Decides false P
none not = (λ e. elim (true≢false (sym e)) [ ], λ p. elim (not p) [ ])

module _ {L : Type 0} (test : Simple L → Bool) (P : Simple L → Type 0) (each : (q : Simple L) → Decides (test q) (P q)) where
  -- P holds for something inside the pattern
  abbrev pub Within : Simple L → Type 0
  Within p = (q : Simple L) × Inside q p × P q

  -- P holds for the pattern or for something inside it
  abbrev pub Standing : Simple L → Type 0
  Standing p = (q : Simple L) × StandsIn q p × P q

  -- the pattern itself, or something inside
  here_or_inside : (p : Simple L) → P p ⊎ Within p → Standing p
  here_or_inside p (inl h) = (p, itself, h)
  here_or_inside p (inr (q, (r, child, s), h)) = (q, below tt child s, h)

  split : (p q : Simple L) → StandsIn q p → P q → P p ⊎ Within p
  split p q itself h = inl h
  split p q (below {r = r} such child s) h = inr (q, (r, child, s), h)

  somewhere_from : (p : Simple L) → Decides (inside test p) (Within p) → Decides (somewhere test p) (Standing p)
  somewhere_from p within = Decides-like _ (here_or_inside p) (λ s. split p s.0 s.1 s.2) (Decides-or _ _ (each p) within)

  pub inside-Decides : (p : Simple L) → Decides (inside test p) (Within p)
  inside-Decides s_not_allowed = none (λ h. elim h.1.1 [ ])
  inside-Decides s_empty = none (λ h. elim h.1.1 [ ])
  inside-Decides s_text = none (λ h. elim h.1.1 [ ])
  inside-Decides (s_leaf l) = none (λ h. elim h.1.1 [ ])
  inside-Decides (s_attribute c p) =
      Decides-like _ (λ s. (s.0, (p, of_attribute, s.1), s.2)) (λ s. (s.0, out_of_attribute s.1, s.2)) (somewhere_from p (inside-Decides p))
  inside-Decides (s_list p) =
      Decides-like _ (λ s. (s.0, (p, of_list, s.1), s.2)) (λ s. (s.0, out_of_list s.1, s.2)) (somewhere_from p (inside-Decides p))
  inside-Decides (s_data d) = none (λ h. elim h.1.1 [ ])
  inside-Decides (s_data_except d p) =
      Decides-like _ (λ s. (s.0, (p, of_except, s.1), s.2)) (λ s. (s.0, out_of_except s.1, s.2)) (somewhere_from p (inside-Decides p))
  inside-Decides (s_value d v) = none (λ h. elim h.1.1 [ ])
  inside-Decides (s_one_or_more p) =
      Decides-like _ (λ s. (s.0, (p, of_one_or_more, s.1), s.2)) (λ s. (s.0, out_of_one_or_more s.1, s.2)) (somewhere_from p (inside-Decides p))
  inside-Decides (s_joined k p q) =
      Decides-like _ (λ s. elim s [ inl h ↦ (h.0, (p, of_left, h.1), h.2) | inr h ↦ (h.0, (q, of_right, h.1), h.2) ])
      (λ s. elim (out_of_joined s.1) [ inl t ↦ inl (s.0, t, s.2) | inr t ↦ inr (s.0, t, s.2) ])
      (Decides-or _ _ (somewhere_from p (inside-Decides p)) (somewhere_from q (inside-Decides q)))

  pub somewhere-Decides : (p : Simple L) → Decides (somewhere test p) (Standing p)
  somewhere-Decides p = somewhere_from p (inside-Decides p)
