-- What the restrictions of section 7 say of a pattern, kind by kind. If a grammar breaks none of the clauses S19, S20,
-- S21 and S23, its start and each of its bodies satisfy these (`proofs/Restricted`). Derivatives keep them.
use Rattle.std.specs.Prelude.{◌≡◌, ◌⊎◌, ℕ, Option, Some, None}
use Rattle.rng_model.specs.simple.Tree.{Simple, choice, group, interleave, s_not_allowed, s_empty, s_text, s_leaf, s_attribute, s_list, s_data}
use Rattle.rng_model.specs.simple.Tree.{s_data_except, s_value, s_one_or_more, s_joined}
use Rattle.rng_model.specs.restrictions.Contents.{ContentType, empty_content, complex_content, simple_content, greater}

-- no attribute is in the pattern
abbrev pub HasNoAttribute : Simple ℕ → Type 0
HasNoAttribute s_not_allowed = Unit {0}
HasNoAttribute s_empty = Unit {0}
HasNoAttribute s_text = Unit {0}
HasNoAttribute (s_leaf k) = Unit {0}
HasNoAttribute (s_attribute c p) = ⊥
HasNoAttribute (s_list p) = HasNoAttribute p
HasNoAttribute (s_data d) = Unit {0}
HasNoAttribute (s_data_except d p) = HasNoAttribute p
HasNoAttribute (s_value d v) = Unit {0}
HasNoAttribute (s_one_or_more p) = HasNoAttribute p
HasNoAttribute (s_joined k p q) = HasNoAttribute p × HasNoAttribute q

-- no attribute is in a group or an interleave of the pattern
abbrev pub HasNoneGrouped : Simple ℕ → Type 0
HasNoneGrouped s_not_allowed = Unit {0}
HasNoneGrouped s_empty = Unit {0}
HasNoneGrouped s_text = Unit {0}
HasNoneGrouped (s_leaf k) = Unit {0}
HasNoneGrouped (s_attribute c p) = HasNoneGrouped p
HasNoneGrouped (s_list p) = HasNoneGrouped p
HasNoneGrouped (s_data d) = Unit {0}
HasNoneGrouped (s_data_except d p) = HasNoneGrouped p
HasNoneGrouped (s_value d v) = Unit {0}
HasNoneGrouped (s_one_or_more p) = HasNoneGrouped p
HasNoneGrouped (s_joined choice p q) = HasNoneGrouped p × HasNoneGrouped q
HasNoneGrouped (s_joined group p q) = HasNoAttribute p × HasNoAttribute q
HasNoneGrouped (s_joined interleave p q) = HasNoAttribute p × HasNoAttribute q

-- no attribute is in a group or an interleave inside a oneOrMore (section 7.1.2)
abbrev pub RepeatsWell : Simple ℕ → Type 0
RepeatsWell s_not_allowed = Unit {0}
RepeatsWell s_empty = Unit {0}
RepeatsWell s_text = Unit {0}
RepeatsWell (s_leaf k) = Unit {0}
RepeatsWell (s_attribute c p) = RepeatsWell p
RepeatsWell (s_list p) = RepeatsWell p
RepeatsWell (s_data d) = Unit {0}
RepeatsWell (s_data_except d p) = RepeatsWell p
RepeatsWell (s_value d v) = Unit {0}
RepeatsWell (s_one_or_more p) = HasNoneGrouped p × RepeatsWell p
RepeatsWell (s_joined k p q) = RepeatsWell p × RepeatsWell q

-- what may be in the except of a data (section 7.1.4)
abbrev pub MayBeExcepted : Simple ℕ → Type 0
MayBeExcepted s_not_allowed = Unit {0}
MayBeExcepted s_empty = ⊥
MayBeExcepted s_text = ⊥
MayBeExcepted (s_leaf k) = ⊥
MayBeExcepted (s_attribute c p) = ⊥
MayBeExcepted (s_list p) = ⊥
MayBeExcepted (s_data d) = Unit {0}
MayBeExcepted (s_data_except d p) = MayBeExcepted p
MayBeExcepted (s_value d v) = Unit {0}
MayBeExcepted (s_one_or_more p) = ⊥
MayBeExcepted (s_joined choice p q) = MayBeExcepted p × MayBeExcepted q
MayBeExcepted (s_joined group p q) = ⊥
MayBeExcepted (s_joined interleave p q) = ⊥

-- what may be in a list (section 7.1.3), and in the excepts there
abbrev pub MayBeListed : Simple ℕ → Type 0
MayBeListed s_not_allowed = Unit {0}
MayBeListed s_empty = Unit {0}
MayBeListed s_text = ⊥
MayBeListed (s_leaf k) = ⊥
MayBeListed (s_attribute c p) = ⊥
MayBeListed (s_list p) = ⊥
MayBeListed (s_data d) = Unit {0}
MayBeListed (s_data_except d p) = MayBeExcepted p
MayBeListed (s_value d v) = Unit {0}
MayBeListed (s_one_or_more p) = MayBeListed p
MayBeListed (s_joined choice p q) = MayBeListed p × MayBeListed q
MayBeListed (s_joined group p q) = MayBeListed p × MayBeListed q
MayBeListed (s_joined interleave p q) = ⊥

-- the body of each list satisfies the predicate, and each except has only what it may have
abbrev pub HasTexts : (Simple ℕ → Type 0) → Simple ℕ → Type 0
HasTexts Ok s_not_allowed = Unit {0}
HasTexts Ok s_empty = Unit {0}
HasTexts Ok s_text = Unit {0}
HasTexts Ok (s_leaf k) = Unit {0}
HasTexts Ok (s_attribute c p) = HasTexts Ok p
HasTexts Ok (s_list p) = Ok p
HasTexts Ok (s_data d) = Unit {0}
HasTexts Ok (s_data_except d p) = MayBeExcepted p
HasTexts Ok (s_value d v) = Unit {0}
HasTexts Ok (s_one_or_more p) = HasTexts Ok p
HasTexts Ok (s_joined k p q) = HasTexts Ok p × HasTexts Ok q

-- what may be in a start (section 7.1.5)
abbrev pub MayStart : Simple ℕ → Type 0
MayStart s_not_allowed = Unit {0}
MayStart s_empty = ⊥
MayStart s_text = ⊥
MayStart (s_leaf k) = Unit {0}
MayStart (s_attribute c p) = ⊥
MayStart (s_list p) = ⊥
MayStart (s_data d) = ⊥
MayStart (s_data_except d p) = ⊥
MayStart (s_value d v) = ⊥
MayStart (s_one_or_more p) = ⊥
MayStart (s_joined choice p q) = MayStart p × MayStart q
MayStart (s_joined group p q) = ⊥
MayStart (s_joined interleave p q) = ⊥

-- ---- content types (section 7.2), if there is one

-- both sides of a choice have a content type
abbrev pub type_of_choice : Option ContentType → Option ContentType → Option ContentType
type_of_choice None u = None
type_of_choice (Some t) None = None
type_of_choice (Some t) (Some u) = Some (greater t u)

-- both sides have a content type, and one is empty or both are complex
abbrev pub type_of_both : Option ContentType → Option ContentType → Option ContentType
type_of_both None u = None
type_of_both (Some t) None = None
type_of_both (Some empty_content) (Some u) = Some u
type_of_both (Some complex_content) (Some empty_content) = Some complex_content
type_of_both (Some complex_content) (Some complex_content) = Some complex_content
type_of_both (Some complex_content) (Some simple_content) = None
type_of_both (Some simple_content) (Some empty_content) = Some simple_content
type_of_both (Some simple_content) (Some complex_content) = None
type_of_both (Some simple_content) (Some simple_content) = None

abbrev pub type_of_attribute : Option ContentType → Option ContentType
type_of_attribute None = None
type_of_attribute (Some t) = Some empty_content

abbrev pub content_type : Simple ℕ → Option ContentType
content_type s_not_allowed = None
content_type s_empty = Some empty_content
content_type s_text = Some complex_content
content_type (s_leaf k) = Some complex_content
content_type (s_attribute c p) = type_of_attribute (content_type p)
content_type (s_list p) = Some simple_content
content_type (s_data d) = Some simple_content
content_type (s_data_except d p) = Some simple_content
content_type (s_value d v) = Some simple_content
content_type (s_one_or_more p) = type_of_both (content_type p) (content_type p)
content_type (s_joined choice p q) = type_of_choice (content_type p) (content_type q)
content_type (s_joined group p q) = type_of_both (content_type p) (content_type q)
content_type (s_joined interleave p q) = type_of_both (content_type p) (content_type q)

-- the pattern has a content type, or is notAllowed
abbrev pub IsTyped : Simple ℕ → Type 0
IsTyped p = ((t : ContentType) × (content_type p ≡ Some t)) ⊎ (p ≡ s_not_allowed)

-- ---- together

-- what all patterns satisfy that derivatives make
pub record IsRestricted (p : Simple ℕ) : Type 0 where
  pub repeats : RepeatsWell p
  pub texts : HasTexts MayBeListed p

-- what the body of an element satisfies besides
pub record IsRestrictedBody (p : Simple ℕ) : Type 0 where
  pub restricted : IsRestricted p
  pub typed : IsTyped p
