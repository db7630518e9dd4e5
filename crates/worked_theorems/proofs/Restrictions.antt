-- Paths that section 7.1 of the RELAX NG Specification prohibits.
use Rattle.std.proofs.Common.{◌≡◌, ℕ, List, [], ◌∷◌, codes, refl, sym, ◌∙◌, ◌⊎◌, inl, inr}
use Rattle.rng_model.specs.names.Names.{NameClass, name_is}
use Rattle.rng_model.specs.simple.Tree.{Simple, choice, group, s_text, s_attribute, s_one_or_more, s_joined}
use Rattle.rng_model.specs.simple.Grammar.{Kind, kind_of, attribute_kind, group_kind, text_kind, one_or_more_kind, interleave_kind, ref_kind, StandsIn, Inside}
use Rattle.rng_model.specs.simple.Grammar.{itself, below, of_attribute, of_one_or_more, of_left, of_right}
use Rattle.rng_model.specs.restrictions.Contents.{HasBelow, HasProhibited, attribute_attribute, attribute_ref, repeated_group_attribute}
use Rattle.rng_model.specs.restrictions.Contents.{repeated_interleave_attribute}

abbrev named : List ℕ → NameClass
named local = name_is (record { ns = []; local = local })

-- `attribute a { text }`
abbrev attribute_a : Simple ℕ
attribute_a = s_attribute (named (codes "a")) s_text

-- `attribute b { attribute a { text } }`
abbrev nested : Simple ℕ
nested = s_attribute (named (codes "b")) attribute_a

-- it breaks S18 by the path attribute // attribute (section 7.1.1)
nested_attribute : HasProhibited 18 nested
nested_attribute = (
  attribute_kind ∷ attribute_kind ∷ [],
  attribute_attribute,
  (nested, itself, refl, (attribute_a, (attribute_a, of_attribute, itself), refl, tt)),
)

-- what is in `text`
in_text : (q : Simple ℕ) → StandsIn q s_text → kind_of q ≡ text_kind
in_text q itself = refl
in_text q (below such child more) = elim child [ ]

-- what is inside `attribute a { text }`: only text
inside_attribute : (q : Simple ℕ) → Inside q attribute_a → kind_of q ≡ text_kind
inside_attribute q (r, of_attribute, stands) = in_text q stands

nothing_in_text : (k : Kind) (q : Simple ℕ) → StandsIn q s_text → ¬ (HasBelow (k ∷ []) q)
nothing_in_text k q itself (r, (u, child, stands), e, t) = elim child [ ]
nothing_in_text k q (below such child more) b = elim child [ ]

below_is_text : (k : Kind) (q : Simple ℕ) → StandsIn q attribute_a → HasBelow (k ∷ []) q → k ≡ text_kind
below_is_text k q itself (r, inside, e, t) = sym e ∙ inside_attribute r inside
below_is_text k q (below such of_attribute stands) b = absurd (nothing_in_text k q stands b)

-- `attribute a { text }` does not break S18
flat_attribute : ¬ (HasProhibited 18 attribute_a)
flat_attribute (path, attribute_ref, (q, stands, e, b)) = let same = below_is_text ref_kind q stands b in not_ref same where
  not_ref : ¬ (ref_kind ≡ text_kind)
  not_ref e = cc
flat_attribute (path, attribute_attribute, (q, stands, e, b)) = let same = below_is_text attribute_kind q stands b in not_attribute same where
  not_attribute : ¬ (attribute_kind ≡ text_kind)
  not_attribute e = cc

-- `(attribute a { text }, text)+`
abbrev repeated_group : Simple ℕ
repeated_group = s_one_or_more (s_joined group attribute_a s_text)

-- it breaks S19 by the path oneOrMore // group // attribute (section 7.1.2)
attribute_in_repeated_group : HasProhibited 19 repeated_group
attribute_in_repeated_group = (
  one_or_more_kind ∷ group_kind ∷ attribute_kind ∷ [],
  repeated_group_attribute,
  (
    repeated_group,
    itself,
    refl,
    (
      s_joined group attribute_a s_text,
      (s_joined group attribute_a s_text, of_one_or_more, itself),
      refl,
      (attribute_a, (attribute_a, of_left, itself), refl, tt),
    ),
  ),
)

-- `(attribute a { text } | text)+`
abbrev repeated_choice : Simple ℕ
repeated_choice = s_one_or_more (s_joined choice attribute_a s_text)

abbrev IsJoint : Kind → Type 0
IsJoint k = (k ≡ group_kind) ⊎ (k ≡ interleave_kind)

text_is_no_joint : (k : Kind) → k ≡ text_kind → ¬ (IsJoint k)
text_is_no_joint k e (inl h) = cc
text_is_no_joint k e (inr h) = cc

no_joint_in_attribute : (q : Simple ℕ) → StandsIn q attribute_a → ¬ (IsJoint (kind_of q))
no_joint_in_attribute q itself (inl h) = cc
no_joint_in_attribute q itself (inr h) = cc
no_joint_in_attribute q (below such of_attribute stands) h = text_is_no_joint (kind_of q) (in_text q stands) h

no_joint_in_choice : (q : Simple ℕ) → StandsIn q (s_joined choice attribute_a s_text) → ¬ (IsJoint (kind_of q))
no_joint_in_choice q itself (inl h) = cc
no_joint_in_choice q itself (inr h) = cc
no_joint_in_choice q (below such of_left stands) h = no_joint_in_attribute q stands h
no_joint_in_choice q (below such of_right stands) h = text_is_no_joint (kind_of q) (in_text q stands) h

-- q is a oneOrMore in the pattern, so it is the pattern
no_joint_in_repeated : (q r : Simple ℕ) → StandsIn q repeated_choice → kind_of q ≡ one_or_more_kind → Inside r q → ¬ (IsJoint (kind_of r))
no_joint_in_repeated q r itself e (u, of_one_or_more, stands) h = no_joint_in_choice r stands h
no_joint_in_repeated q r (below such of_one_or_more itself) e i h = cc
no_joint_in_repeated q r (below such of_one_or_more (below also of_left itself)) e i h = cc
no_joint_in_repeated q r (below such of_one_or_more (below also of_left (below third of_attribute stands))) e i h =
    let text_is = in_text q stands in
    let bad : text_kind ≡ one_or_more_kind = sym text_is ∙ e in
    absurd (cc)
no_joint_in_repeated q r (below such of_one_or_more (below also of_right stands)) e i h =
    let text_is = in_text q stands in
    let bad : text_kind ≡ one_or_more_kind = sym text_is ∙ e in
    absurd (cc)

-- it does not break S19: a choice may be between a oneOrMore and an attribute
attribute_in_repeated_choice : ¬ (HasProhibited 19 repeated_choice)
attribute_in_repeated_choice (path, repeated_group_attribute, (q, stands, e, (r, inside, k, rest))) =
    no_joint_in_repeated q r stands e inside (inl k)
attribute_in_repeated_choice (path, repeated_interleave_attribute, (q, stands, e, (r, inside, k, rest))) =
    no_joint_in_repeated q r stands e inside (inr k)
