-- Clauses 24 to 27: names and texts that meet, and wildcards (RELAX NG Specification, sections 7.3 and 7.4). Then which of
-- the clauses 18 to 27 a simple grammar breaks.
use Rattle.std.specs.Prelude.{ℕ, List, ◌≡◌, slice_get, Some}
use Rattle.rng_model.specs.names.Names.{NameClass, NameClasses, any_name, any_except, ns_name, ns_except, one_of, class_and, Overlap}
use Rattle.rng_model.specs.simple.Tree as tree
use Rattle.rng_model.specs.simple.Tree.{Connector, Simple, s_text, s_leaf, s_attribute, s_joined}
use Rattle.rng_model.specs.simple.Grammar.{StandsIn, StandsUnrepeated, OccursIn, Grammar}
use Rattle.rng_model.specs.restrictions.Contents.{IsNoChoice, BreaksContent, HasProhibited, HasProhibitedInStart}
use Rattle.rng_model.specs.names.Lists.{Among}

-- ---- names, texts and wildcards (sections 7.3 and 7.4)

-- `*` or `p:*` is written in the class, with an except or without
mutual
  pub data HasWildcard : NameClass → Type 0 where
    any : HasWildcard any_name
    any_but : {c : NameClass} → HasWildcard (any_except c)
    in_namespace : {ns : List ℕ} → HasWildcard (ns_name ns)
    in_namespace_but : {ns : List ℕ} {c : NameClass} → HasWildcard (ns_except ns c)
    in_first : {c d : NameClass} {cs : NameClasses} → HasWildcard c → HasWildcard (one_of c d cs)
    in_second : {c d : NameClass} {cs : NameClasses} → HasWildcard d → HasWildcard (one_of c d cs)
    in_another : {c d : NameClass} {cs : NameClasses} → HaveWildcard cs → HasWildcard (one_of c d cs)

  pub data HaveWildcard : NameClasses → Type 0 where
    in_this : {c : NameClass} {cs : NameClasses} → HasWildcard c → HaveWildcard (class_and c cs)
    in_later : {c : NameClass} {cs : NameClasses} → HaveWildcard cs → HaveWildcard (class_and c cs)

module _ {L : Type 0} where
  -- S24: in a group or an interleave, some name is in the classes of attributes that occur on both sides (section 7.3)
  pub record BreaksAttributeNames (p : Simple L) : Type 0 where
    pub connector : Connector
    pub left : Simple L
    pub right : Simple L
    pub stands : StandsIn (s_joined connector left right) p
    pub is_no_choice : IsNoChoice connector
    pub first_class : NameClass
    pub first_body : Simple L
    pub second_class : NameClass
    pub second_body : Simple L
    pub occurs_left : OccursIn (s_attribute first_class first_body) left
    pub occurs_right : OccursIn (s_attribute second_class second_body) right
    pub overlap : Overlap first_class second_class

  -- S25: an attribute with `*` or `p:*` in its name class is not inside a oneOrMore (section 7.3)
  pub record BreaksWildcard (p : Simple L) : Type 0 where
    pub class : NameClass
    pub body : Simple L
    pub stands : StandsUnrepeated (s_attribute class body) p
    pub wildcard : HasWildcard class

  -- S26: in an interleave, some name is in the classes of elements that are referred to on both sides (section 7.4)
  pub record BreaksElementNames (IsClass : L → NameClass → Type 0) (p : Simple L) : Type 0 where
    pub left : Simple L
    pub right : Simple L
    pub stands : StandsIn (s_joined tree.interleave left right) p
    pub first : L
    pub second : L
    pub occurs_left : OccursIn (s_leaf first) left
    pub occurs_right : OccursIn (s_leaf second) right
    pub first_class : NameClass
    pub second_class : NameClass
    pub is_first : IsClass first first_class
    pub is_second : IsClass second second_class
    pub overlap : Overlap first_class second_class

  -- S27: in an interleave, text occurs on both sides (section 7.4)
  pub record BreaksText (p : Simple L) : Type 0 where
    pub left : Simple L
    pub right : Simple L
    pub stands : StandsIn (s_joined tree.interleave left right) p
    pub occurs_left : OccursIn s_text left
    pub occurs_right : OccursIn s_text right

-- ---- all clauses on simple grammars

-- the pattern is the start, or the body of an element that is listed
pub data IsPart (g : Grammar) : Simple ℕ → Type 0 where
  the_start : IsPart g g.start
  a_body : {c : NameClass} {body : Simple ℕ} → Among (c, body) g.elements → IsPart g body

-- the class of the element of this number
abbrev pub ClassIn : Grammar → ℕ → NameClass → Type 0
ClassIn g e c = (body : Simple ℕ) × (slice_get g.elements e ≡ Some (c, body))

-- the grammar breaks the clause
pub data BreaksRestriction (g : Grammar) : ℕ → Type 0 where
  -- S18 to S21, by the table of their paths
  in_path : {clause : ℕ} {p : Simple ℕ} → IsPart g p → HasProhibited clause p → BreaksRestriction g clause
  in_start : HasProhibitedInStart g.start → BreaksRestriction g 22
  in_content : {c : NameClass} {body : Simple ℕ} → Among (c, body) g.elements → BreaksContent body → BreaksRestriction g 23
  in_attribute_names : {p : Simple ℕ} → IsPart g p → BreaksAttributeNames p → BreaksRestriction g 24
  in_wildcard : {p : Simple ℕ} → IsPart g p → BreaksWildcard p → BreaksRestriction g 25
  in_element_names : {p : Simple ℕ} → IsPart g p → BreaksElementNames (ClassIn g) p → BreaksRestriction g 26
  in_text : {p : Simple ℕ} → IsPart g p → BreaksText p → BreaksRestriction g 27
