-- The clauses that are found broken in the parts of a grammar are those that it breaks.
use Rattle.std.proofs.Common.{◌≡◌, ℕ, List, [], ◌∷◌, map, fold, Bool, ◌||◌, ◌⊎◌, inl, inr, refl, Decides}
use Rattle.std.proofs.lemmas.Bool.Decides.{Decides-or, Decides-like, Decides-at}
use Rattle.rng_model.specs.names.Lists.{Among, here, there}
use Rattle.rng_model.specs.names.Names.{NameClass}
use Rattle.rng_model.specs.simple.Grammar.{Grammar}
use Rattle.rng_model.specs.simple.Tree.{Simple}
use Rattle.rng_model.specs.restrictions.Contents.{HasProhibited, HasProhibitedInStart, BreaksContent}
use Rattle.rng_model.specs.restrictions.Restrictions.{BreaksWildcard, BreaksText, IsPart, the_start, a_body}
use Rattle.rng_rules.specs.plain.Broken.{either_broken, body_broken, start_broken, grammar_broken}
use Rattle.rng_rules.specs.plain.Facts.{facts_of}
use Rattle.rng_rules.specs.declared.broken.Broken.{Broken}
use Rattle.rng_rules.proofs.PatternClauses.{breaks_attribute, breaks_one_or_more, breaks_list, breaks_except, breaks_start}
use Rattle.rng_rules.proofs.ContentTypes.{breaks_content}
use Rattle.rng_rules.proofs.OccurrenceTests.{breaks_wildcard, breaks_text}
use Rattle.rng_rules.proofs.PatternTests.{none}

abbrev Element : Type 0
Element = NameClass × Simple ℕ

-- P holds for the body of one of the elements
abbrev SomeBody : (Simple ℕ → Type 0) → List Element → Type 0
SomeBody P es = (e : Element) × Among e es × P e.1

-- one field of the broken clauses
module _ (get : Broken → Bool) (either : (a b : Broken) → get (either_broken a b) ≡ (get a || get b)) (P : Simple ℕ → Type 0)
    (each : (p : Simple ℕ) → Decides (get (body_broken (facts_of p))) (P p)) where
  folded : (Q : Type 0) (b : Broken) (es : List Element) → Decides (get b) Q
      → Decides (get (fold (λ b f. either_broken b (body_broken f)) b (map (λ e. facts_of e.1) es))) (Q ⊎ SomeBody P es)
  folded Q b [] start = Decides-like _ inl (λ s. elim s [ inl q ↦ q | inr h ↦ elim h.1 [ ] ]) start
  folded Q b (e ∷ es) start =
      Decides-like _
      (λ s. elim s [ inl s ↦ elim s [ inl q ↦ inl q | inr p ↦ inr (e, here, p) ] | inr h ↦ inr (h.0, there h.1, h.2) ])
      (λ s. elim s [ inl q ↦ inl (inl q) | inr h ↦ split h.0 h.1 h.2 ])
      (folded (Q ⊎ P e.1) (either_broken b (body_broken (facts_of e.1))) es (Decides-at _ _ (either b (body_broken (facts_of e.1))) (Decides-or _ _ start (each e.1))))
    where
      split : (x : Element) → Among x (e ∷ es) → P x.1 → (Q ⊎ P e.1) ⊎ SomeBody P es
      split _ here p = inl (inr p)
      split x (there a) p = inr (x, a, p)

  -- the start, or some body
  parts : (g : Grammar) (Q : Type 0) → Decides (get (start_broken (facts_of g.start))) Q → Decides (get (grammar_broken g)) (Q ⊎ SomeBody P g.elements)
  parts g Q start = folded Q (start_broken (facts_of g.start)) g.elements start

  -- any part
  any_part : (g : Grammar) → Decides (get (start_broken (facts_of g.start))) (P g.start) → Decides (get (grammar_broken g)) ((p : Simple ℕ) × IsPart g p × P p)
  any_part g start = Decides-like _ (λ s. elim s [ inl q ↦ (g.start, the_start, q) | inr h ↦ (h.0.1, a_body h.1, h.2) ]) (λ s. split s.0 s.1 s.2) (parts g (P g.start) start)
    where
      split : (p : Simple ℕ) → IsPart g p → P p → P g.start ⊎ SomeBody P g.elements
      split _ the_start h = inl h
      split _ (a_body {c} {body} among) h = inr ((c, body), among, h)

module _ (g : Grammar) where
  pub attribute_broken : Decides (grammar_broken g).attribute ((p : Simple ℕ) × IsPart g p × HasProhibited 18 p)
  unfolding facts_of
  attribute_broken = any_part (λ b. b.attribute) (λ a b. refl) (HasProhibited 18) breaks_attribute g (breaks_attribute g.start)

  pub one_or_more_broken : Decides (grammar_broken g).one_or_more ((p : Simple ℕ) × IsPart g p × HasProhibited 19 p)
  unfolding facts_of
  one_or_more_broken = any_part (λ b. b.one_or_more) (λ a b. refl) (HasProhibited 19) breaks_one_or_more g (breaks_one_or_more g.start)

  pub list_broken : Decides (grammar_broken g).list ((p : Simple ℕ) × IsPart g p × HasProhibited 20 p)
  unfolding facts_of
  list_broken = any_part (λ b. b.list) (λ a b. refl) (HasProhibited 20) breaks_list g (breaks_list g.start)

  pub except_broken : Decides (grammar_broken g).except ((p : Simple ℕ) × IsPart g p × HasProhibited 21 p)
  unfolding facts_of
  except_broken = any_part (λ b. b.except) (λ a b. refl) (HasProhibited 21) breaks_except g (breaks_except g.start)

  pub start_found : Decides (grammar_broken g).start (HasProhibitedInStart g.start)
  unfolding facts_of
  start_found = Decides-like _ (λ s. elim s [ inl q ↦ q | inr h ↦ elim h.2 [ ] ]) inl
      (parts (λ b. b.start) (λ a b. refl) (λ p. ⊥) (λ p. none (λ h. h)) g (HasProhibitedInStart g.start) (breaks_start g.start))

  pub content_broken : Decides (grammar_broken g).content (SomeBody BreaksContent g.elements)
  unfolding facts_of
  content_broken = Decides-like _ (λ s. elim s [ inl q ↦ elim q [ ] | inr h ↦ h ]) inr
      (parts (λ b. b.content) (λ a b. refl) BreaksContent breaks_content g ⊥ (none (λ h. h)))

  pub wildcard_broken : Decides (grammar_broken g).wildcard ((p : Simple ℕ) × IsPart g p × BreaksWildcard p)
  unfolding facts_of
  wildcard_broken = any_part (λ b. b.wildcard) (λ a b. refl) BreaksWildcard breaks_wildcard g (breaks_wildcard g.start)

  pub text_broken : Decides (grammar_broken g).text ((p : Simple ℕ) × IsPart g p × BreaksText p)
  unfolding facts_of
  text_broken = any_part (λ b. b.text) (λ a b. refl) BreaksText breaks_text g (breaks_text g.start)
