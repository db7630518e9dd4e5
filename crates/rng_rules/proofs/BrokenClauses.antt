-- The restrictions that are broken, from the results for the parts and for the names.
use Rattle.std.proofs.Common.{◌≡◌, ℕ, ◌≤◌, ◌+◌, Bool, true, false, ap, arith, Decides, ⊎_elim, subst}
use Rattle.std.proofs.lemmas.Bool.Decides.{Decides-like, Decides-at, not_from_Decides}
use Rattle.std.proofs.lemmas.Bool.{cases_lt}
use Rattle.rng_model.specs.names.Lists.{Among}
use Rattle.rng_model.specs.names.Names.{NameClass}
use Rattle.rng_model.specs.simple.Grammar.{Grammar}
use Rattle.rng_model.specs.simple.Tree.{Simple}
use Rattle.rng_model.specs.restrictions.Contents.{HasProhibited, HasProhibitedInStart, BreaksContent}
use Rattle.rng_model.specs.restrictions.Restrictions.{BreaksWildcard, BreaksText, BreaksAttributeNames, BreaksElementNames, IsPart, BreaksRestriction}
use Rattle.rng_model.specs.restrictions.Restrictions.{ClassIn}
use Rattle.rng_model.specs.restrictions.RestrictionFaults.{IsLeastRestriction, BreaksNone}
use Rattle.rng_model.specs.restrictions.Restrictions as model
use Rattle.rng_model.proofs.ProhibitedPaths.{prohibits}
use Rattle.rng_rules.specs.plain.Broken.{IsIntactBelow, grammar_broken}
use Rattle.rng_rules.specs.declared.broken.Broken.{Broken}
use Rattle.rng_rules.proofs.PartClauses as parts

-- P holds for some part of the grammar
abbrev SomePart : Grammar → (Simple ℕ → Type 0) → Type 0
SomePart g P = (p : Simple ℕ) × IsPart g p × P p

-- what each number of a clause means for the grammar
from_18 : (g : Grammar) → BreaksRestriction g 18 → SomePart g (HasProhibited 18)
from_18 g (model.in_path part b) = (_, part, b)

from_19 : (g : Grammar) → BreaksRestriction g 19 → SomePart g (HasProhibited 19)
from_19 g (model.in_path part b) = (_, part, b)

from_20 : (g : Grammar) → BreaksRestriction g 20 → SomePart g (HasProhibited 20)
from_20 g (model.in_path part b) = (_, part, b)

from_21 : (g : Grammar) → BreaksRestriction g 21 → SomePart g (HasProhibited 21)
from_21 g (model.in_path part b) = (_, part, b)

from_22 : (g : Grammar) → BreaksRestriction g 22 → HasProhibitedInStart g.start
from_22 g (model.in_path part b) = elim b.1 [ ]
from_22 g (model.in_start b) = b

from_23 : (g : Grammar) → BreaksRestriction g 23 → (e : NameClass × Simple ℕ) × Among e g.elements × BreaksContent e.1
from_23 g (model.in_path part b) = elim b.1 [ ]
from_23 g (model.in_content {c} {body} among b) = ((c, body), among, b)

from_24 : (g : Grammar) → BreaksRestriction g 24 → SomePart g BreaksAttributeNames
from_24 g (model.in_path part b) = elim b.1 [ ]
from_24 g (model.in_attribute_names part b) = (_, part, b)

from_25 : (g : Grammar) → BreaksRestriction g 25 → SomePart g BreaksWildcard
from_25 g (model.in_path part b) = elim b.1 [ ]
from_25 g (model.in_wildcard part b) = (_, part, b)

from_26 : (g : Grammar) → BreaksRestriction g 26 → SomePart g (BreaksElementNames (ClassIn g))
from_26 g (model.in_path part b) = elim b.1 [ ]
from_26 g (model.in_element_names part b) = (_, part, b)

from_27 : (g : Grammar) → BreaksRestriction g 27 → SomePart g BreaksText
from_27 g (model.in_path part b) = elim b.1 [ ]
from_27 g (model.in_text part b) = (_, part, b)

-- ---- each clause, decided

module _ (g : Grammar) where
  broken_18 : Decides (grammar_broken g).attribute (BreaksRestriction g 18)
  broken_18 = Decides-like _ (λ s. model.in_path s.1 s.2) (from_18 g) (parts.attribute_broken g)

  broken_19 : Decides (grammar_broken g).one_or_more (BreaksRestriction g 19)
  broken_19 = Decides-like _ (λ s. model.in_path s.1 s.2) (from_19 g) (parts.one_or_more_broken g)

  broken_20 : Decides (grammar_broken g).list (BreaksRestriction g 20)
  broken_20 = Decides-like _ (λ s. model.in_path s.1 s.2) (from_20 g) (parts.list_broken g)

  broken_21 : Decides (grammar_broken g).except (BreaksRestriction g 21)
  broken_21 = Decides-like _ (λ s. model.in_path s.1 s.2) (from_21 g) (parts.except_broken g)

  broken_22 : Decides (grammar_broken g).start (BreaksRestriction g 22)
  broken_22 = Decides-like _ model.in_start (from_22 g) (parts.start_found g)

  broken_23 : Decides (grammar_broken g).content (BreaksRestriction g 23)
  broken_23 = Decides-like _ (λ s. model.in_content s.1 s.2) (from_23 g) (parts.content_broken g)

  pub broken_24 : (b : Bool) → Decides b (SomePart g BreaksAttributeNames) → Decides b (BreaksRestriction g 24)
  broken_24 b names = Decides-like _ (λ s. model.in_attribute_names s.1 s.2) (from_24 g) names

  broken_25 : Decides (grammar_broken g).wildcard (BreaksRestriction g 25)
  broken_25 = Decides-like _ (λ s. model.in_wildcard s.1 s.2) (from_25 g) (parts.wildcard_broken g)

  pub broken_26 : (b : Bool) → Decides b (SomePart g (BreaksElementNames (ClassIn g))) → Decides b (BreaksRestriction g 26)
  broken_26 b names = Decides-like _ (λ s. model.in_element_names s.1 s.2) (from_26 g) names

  broken_27 : Decides (grammar_broken g).text (BreaksRestriction g 27)
  broken_27 = Decides-like _ (λ s. model.in_text s.1 s.2) (from_27 g) (parts.text_broken g)

  -- ---- from the least one on

  intact_18 : IsIntactBelow g 18
  intact_18 clause (model.in_path part b) = (prohibits b.1).0
  intact_18 _ (model.in_start b) = omega arith
  intact_18 _ (model.in_content among b) = omega arith
  intact_18 _ (model.in_attribute_names part b) = omega arith
  intact_18 _ (model.in_wildcard part b) = omega arith
  intact_18 _ (model.in_element_names part b) = omega arith
  intact_18 _ (model.in_text part b) = omega arith

  at_most_27 : (clause : ℕ) → BreaksRestriction g clause → clause ≤ 27
  at_most_27 clause (model.in_path part b) = omega (arith, (prohibits b.1).1)
  at_most_27 _ (model.in_start b) = omega arith
  at_most_27 _ (model.in_content among b) = omega arith
  at_most_27 _ (model.in_attribute_names part b) = omega arith
  at_most_27 _ (model.in_wildcard part b) = omega arith
  at_most_27 _ (model.in_element_names part b) = omega arith
  at_most_27 _ (model.in_text part b) = omega arith

  -- the clause is not broken, and none below it is
  next_intact : (n : ℕ) (b : Bool) → IsIntactBelow g n → Decides b (BreaksRestriction g n) → b ≡ false → IsIntactBelow g (n + 1)
  next_intact n b intact decides not_so clause broken = ⊎_elim
      (λ less. omega (arith, less))
      (λ past.
      let same : clause ≡ n = omega (arith, past, intact clause broken) in
      elim (not_from_Decides b decides not_so (subst (BreaksRestriction g) same broken)) [ ])
      (cases_lt n clause)

  -- the clause is broken, and none below it is
  pub least : (n : ℕ) (b : Bool) → IsIntactBelow g n → Decides b (BreaksRestriction g n) → b ≡ true → IsLeastRestriction g n
  least n b intact decides so = record { broken = decides.0 so; least = intact }

  pub none_broken : IsIntactBelow g 28 → BreaksNone g
  none_broken intact clause broken = let never : ⊥ = omega (arith, intact clause broken, at_most_27 clause broken) in elim never [ ]

  -- from the result for the parts
  module _ (b : Broken) (is : b ≡ grammar_broken g) where
    at_18 : Decides b.attribute (BreaksRestriction g 18)
    at_18 = Decides-at _ _ (ap (λ b. b.attribute) is) broken_18

    at_19 : Decides b.one_or_more (BreaksRestriction g 19)
    at_19 = Decides-at _ _ (ap (λ b. b.one_or_more) is) broken_19

    at_20 : Decides b.list (BreaksRestriction g 20)
    at_20 = Decides-at _ _ (ap (λ b. b.list) is) broken_20

    at_21 : Decides b.except (BreaksRestriction g 21)
    at_21 = Decides-at _ _ (ap (λ b. b.except) is) broken_21

    at_22 : Decides b.start (BreaksRestriction g 22)
    at_22 = Decides-at _ _ (ap (λ b. b.start) is) broken_22

    at_23 : Decides b.content (BreaksRestriction g 23)
    at_23 = Decides-at _ _ (ap (λ b. b.content) is) broken_23

    at_25 : Decides b.wildcard (BreaksRestriction g 25)
    at_25 = Decides-at _ _ (ap (λ b. b.wildcard) is) broken_25

    at_27 : Decides b.text (BreaksRestriction g 27)
    at_27 = Decides-at _ _ (ap (λ b. b.text) is) broken_27

    pub least_18 : b.attribute ≡ true → IsLeastRestriction g 18
    least_18 = least 18 b.attribute intact_18 at_18

    pub intact_19 : b.attribute ≡ false → IsIntactBelow g 19
    intact_19 = next_intact 18 b.attribute intact_18 at_18

    pub least_19 : IsIntactBelow g 19 → b.one_or_more ≡ true → IsLeastRestriction g 19
    least_19 intact = least 19 b.one_or_more intact at_19

    pub intact_20 : IsIntactBelow g 19 → b.one_or_more ≡ false → IsIntactBelow g 20
    intact_20 intact = next_intact 19 b.one_or_more intact at_19

    pub least_20 : IsIntactBelow g 20 → b.list ≡ true → IsLeastRestriction g 20
    least_20 intact = least 20 b.list intact at_20

    pub intact_21 : IsIntactBelow g 20 → b.list ≡ false → IsIntactBelow g 21
    intact_21 intact = next_intact 20 b.list intact at_20

    pub least_21 : IsIntactBelow g 21 → b.except ≡ true → IsLeastRestriction g 21
    least_21 intact = least 21 b.except intact at_21

    pub intact_22 : IsIntactBelow g 21 → b.except ≡ false → IsIntactBelow g 22
    intact_22 intact = next_intact 21 b.except intact at_21

    pub least_22 : IsIntactBelow g 22 → b.start ≡ true → IsLeastRestriction g 22
    least_22 intact = least 22 b.start intact at_22

    pub intact_23 : IsIntactBelow g 22 → b.start ≡ false → IsIntactBelow g 23
    intact_23 intact = next_intact 22 b.start intact at_22

    pub least_23 : IsIntactBelow g 23 → b.content ≡ true → IsLeastRestriction g 23
    least_23 intact = least 23 b.content intact at_23

    pub intact_24 : IsIntactBelow g 23 → b.content ≡ false → IsIntactBelow g 24
    intact_24 intact = next_intact 23 b.content intact at_23

    pub least_25 : IsIntactBelow g 25 → b.wildcard ≡ true → IsLeastRestriction g 25
    least_25 intact = least 25 b.wildcard intact at_25

    pub intact_26 : IsIntactBelow g 25 → b.wildcard ≡ false → IsIntactBelow g 26
    intact_26 intact = next_intact 25 b.wildcard intact at_25

    pub least_27 : IsIntactBelow g 27 → b.text ≡ true → IsLeastRestriction g 27
    least_27 intact = least 27 b.text intact at_27

    pub intact_28 : IsIntactBelow g 27 → b.text ≡ false → IsIntactBelow g 28
    intact_28 intact = next_intact 27 b.text intact at_27

  -- the result for the names decides the clause
  pub found : (P : Simple ℕ → Type 0) (b : Bool) → (b ≡ true → SomePart g P) → ((p : Simple ℕ) → IsPart g p → P p → b ≡ true) → Decides b (SomePart g P)
  found P b only all = (only, λ s. all s.0 s.1 s.2)

  -- from the result for the names
  pub least_24 : (b : Bool) → IsIntactBelow g 24 → Decides b (SomePart g BreaksAttributeNames) → b ≡ true → IsLeastRestriction g 24
  least_24 b intact names = least 24 b intact (broken_24 b names)

  pub intact_25 : (b : Bool) → IsIntactBelow g 24 → Decides b (SomePart g BreaksAttributeNames) → b ≡ false → IsIntactBelow g 25
  intact_25 b intact names = next_intact 24 b intact (broken_24 b names)

  pub least_26 : (b : Bool) → IsIntactBelow g 26 → Decides b (SomePart g (BreaksElementNames (ClassIn g))) → b ≡ true → IsLeastRestriction g 26
  least_26 b intact names = least 26 b intact (broken_26 b names)

  pub intact_27 : (b : Bool) → IsIntactBelow g 26 → Decides b (SomePart g (BreaksElementNames (ClassIn g))) → b ≡ false → IsIntactBelow g 27
  intact_27 b intact names = next_intact 26 b intact (broken_26 b names)
