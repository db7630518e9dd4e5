-- Clauses 18 to 23: what may not be inside what, and content types (RELAX NG Specification, sections 7.1 and 7.2).
use Rattle.std.specs.Prelude.{◌≡◌, ⊤, ℕ, List, [], ◌∷◌, ◌≢◌}
use Rattle.rng_model.specs.simple.Tree.{Simple, Connector, s_not_allowed, s_empty, s_text, s_leaf, s_attribute, s_list, s_data, s_data_except, s_value}
use Rattle.rng_model.specs.simple.Tree.{s_one_or_more, s_joined}
use Rattle.rng_model.specs.simple.Grammar.{Kind, kind_of, StandsIn, Inside, empty_kind, text_kind, ref_kind, attribute_kind, list_kind, data_kind, value_kind}
use Rattle.rng_model.specs.simple.Grammar.{one_or_more_kind, group_kind, interleave_kind}
use Rattle.rng_model.specs.names.Names.{NameClass}
use Rattle.rng_model.specs.simple.Tree as tree

-- ---- paths (section 7.1)

-- a // b // c as a list: the pattern has an a in it, that one has a b inside, and that one a c
module _ {L : Type 0} where
  abbrev pub HasBelow : List Kind → Simple L → Type 0
  HasBelow [] p = ⊤
  HasBelow (k ∷ path) p = (q : Simple L) × Inside q p × (kind_of q ≡ k) × HasBelow path q

  abbrev pub HasPath : List Kind → Simple L → Type 0
  HasPath [] p = ⊤
  HasPath (k ∷ path) p = (q : Simple L) × StandsIn q p × (kind_of q ≡ k) × HasBelow path q

-- the clause prohibits the path
pub data IsProhibited : ℕ → List Kind → Type 0 where
  -- 7.1.1
  attribute_ref : IsProhibited 18 (attribute_kind ∷ ref_kind ∷ [])
  attribute_attribute : IsProhibited 18 (attribute_kind ∷ attribute_kind ∷ [])
  -- 7.1.2
  repeated_group_attribute : IsProhibited 19 (one_or_more_kind ∷ group_kind ∷ attribute_kind ∷ [])
  repeated_interleave_attribute : IsProhibited 19 (one_or_more_kind ∷ interleave_kind ∷ attribute_kind ∷ [])
  -- 7.1.3
  list_list : IsProhibited 20 (list_kind ∷ list_kind ∷ [])
  list_ref : IsProhibited 20 (list_kind ∷ ref_kind ∷ [])
  list_attribute : IsProhibited 20 (list_kind ∷ attribute_kind ∷ [])
  list_text : IsProhibited 20 (list_kind ∷ text_kind ∷ [])
  list_interleave : IsProhibited 20 (list_kind ∷ interleave_kind ∷ [])
  -- 7.1.4: what is inside a data is its except, or inside that
  data_attribute : IsProhibited 21 (data_kind ∷ attribute_kind ∷ [])
  data_ref : IsProhibited 21 (data_kind ∷ ref_kind ∷ [])
  data_text : IsProhibited 21 (data_kind ∷ text_kind ∷ [])
  data_list : IsProhibited 21 (data_kind ∷ list_kind ∷ [])
  data_group : IsProhibited 21 (data_kind ∷ group_kind ∷ [])
  data_interleave : IsProhibited 21 (data_kind ∷ interleave_kind ∷ [])
  data_one_or_more : IsProhibited 21 (data_kind ∷ one_or_more_kind ∷ [])
  data_empty : IsProhibited 21 (data_kind ∷ empty_kind ∷ [])

-- clause 22 prohibits it in a start (7.1.5)
pub data IsProhibitedInStart : Kind → Type 0 where
  start_attribute : IsProhibitedInStart attribute_kind
  start_data : IsProhibitedInStart data_kind
  start_value : IsProhibitedInStart value_kind
  start_text : IsProhibitedInStart text_kind
  start_list : IsProhibitedInStart list_kind
  start_group : IsProhibitedInStart group_kind
  start_interleave : IsProhibitedInStart interleave_kind
  start_one_or_more : IsProhibitedInStart one_or_more_kind
  start_empty : IsProhibitedInStart empty_kind

-- the pattern has a path that the clause prohibits
abbrev pub HasProhibited : {L : Type 0} → ℕ → Simple L → Type 0
HasProhibited clause p = (path : List Kind) × IsProhibited clause path × HasPath path p

abbrev pub HasProhibitedInStart : {L : Type 0} → Simple L → Type 0
HasProhibitedInStart start = (k : Kind) × IsProhibitedInStart k × HasPath (k ∷ []) start

-- ---- content types (section 7.2)

-- the content types in their order
pub data ContentType : Type 0 where
  empty_content : ContentType
  complex_content : ContentType
  simple_content : ContentType

abbrev pub greater : ContentType → ContentType → ContentType
greater empty_content t = t
greater complex_content empty_content = complex_content
greater complex_content complex_content = complex_content
greater complex_content simple_content = simple_content
greater simple_content t = simple_content

-- one of the two is empty, or both are complex
pub data AreGroupable : ContentType → ContentType → Type 0 where
  empty_first : {t : ContentType} → AreGroupable empty_content t
  empty_second : {t : ContentType} → AreGroupable t empty_content
  both_complex : AreGroupable complex_content complex_content

-- a connector of a group or an interleave
pub data IsNoChoice : Connector → Type 0 where
  grouped : IsNoChoice tree.group
  interleaved : IsNoChoice tree.interleave

module _ {L : Type 0} where
  -- the content type of a pattern; notAllowed has none
  pub data HasContent : Simple L → ContentType → Type 0 where
    of_value : {d : tree.Datatype} {v : List ℕ} → HasContent (s_value d v) simple_content
    of_list : {p : Simple L} → HasContent (s_list p) simple_content
    of_data : {d : tree.Datatype} → HasContent (s_data d) simple_content
    of_data_except : {d : tree.Datatype} {p : Simple L} → HasContent (s_data_except d p) simple_content
    of_text : HasContent s_text complex_content
    of_ref : {l : L} → HasContent (s_leaf l) complex_content
    of_empty : HasContent s_empty empty_content
    of_attribute : {c : NameClass} {p : Simple L} {t : ContentType} → HasContent p t → HasContent (s_attribute c p) empty_content
    of_both : {k : Connector} {p q : Simple L} {t u : ContentType} → IsNoChoice k → HasContent p t → HasContent q u → AreGroupable t u
        → HasContent (s_joined k p q) (greater t u)
    of_one_or_more : {p : Simple L} {t : ContentType} → HasContent p t → AreGroupable t t → HasContent (s_one_or_more p) t
    of_choice : {p q : Simple L} {t u : ContentType} → HasContent p t → HasContent q u → HasContent (s_joined tree.choice p q) (greater t u)

  -- S23: a body has no content type, and is not notAllowed (section 7.2)
  pub record BreaksContent (body : Simple L) : Type 0 where
    pub not_whole : body ≢ s_not_allowed
    pub no_type : (t : ContentType) → ¬ (HasContent body t)
