-- What a start tag may have after some attributes, in the document of events that a handle holds.
use Rattle.std.specs.Prelude.{◌≡◌, ℕ, List, ◌++◌, Option, Some, None, map}
use Rattle.std.specs.Option.{option_map}
use Rattle.rng_model.specs.matching.Document.{Attribute}
use Rattle.rng_model.specs.matching.GrammarMatching.{reading_of}
use Rattle.rng_model.specs.names.Names.{Name}
use Rattle.rng_model.specs.documents.PyxTrees.{Event}
use Rattle.rng_deriv.specs.views.Followers.{HasTagOptions}
use Rattle.rng_deriv_events.specs.views.Positions.{StaysInMode}
use Rattle.rng_deriv.specs.views.Matchers.{trees_in}
use Rattle.rng_reasons.specs.TagOptions.{Options}
use Rattle.expected_text.specs.ExpectationText.{expectation_text, tag_text}
use Rattle.rncv_events.specs.views.Told.{HasTaken, Judging}
use Rattle.rncv_c_values.specs.views.Attributes.{AreTexts, IsTextName, attribute_of, name_of}
use Rattle.rncv_c_values.specs.declared.attributes.AttributeBytes.{AttributeBytes}
use Rattle.rncv_c_handles.specs.declared.options.TagBytes.{TagBytes}

-- the beginning of a start tag, and the name of the attribute that is asked for
pub record Beginning : Type 0 where
  pub name : Name
  pub attributes : List AttributeBytes
  pub named : Name

abbrev pub beginning_in : Name → List AttributeBytes → Name → Beginning
beginning_in name attributes named = record { name = name; attributes = attributes; named = named }

-- that of a tag as C passes it, without its place in memory
abbrev pub beginning_of : TagBytes → Beginning
beginning_of t = beginning_in (name_of t.name) t.attributes.now (name_of t.named)

-- all that it has are texts
abbrev pub IsOfTexts : Beginning → Type 0
IsOfTexts b = AreTexts b.name b.attributes × IsTextName b.named

-- as `EventDocument::tag_options` promises, of the calls that were taken
abbrev pub MayHaveAfter : Name → List Attribute → Name → Judging → Judging → Option Options → Type 0
MayHaveAfter q xs named old new options = (calls : List Event) (taken : HasTaken old calls)
    → HasTagOptions (reading_of old.grammar) old.matching.progress (trees_in new.matching) q xs named options taken.events

-- the text of what a tag may have, and behind it that of what the value of an attribute may be
abbrev pub options_text : Options → List ℕ
options_text o = tag_text o.tag ++ expectation_text o.value

-- the text is that of what the tag may have; without one nothing is left after the attributes
pub record TellsOptions (q : Name) (xs : List Attribute) (named : Name) (old new : Judging) (text : Option (List ℕ)) : Type 0 where
  pub options : Option Options
  pub may : MayHaveAfter q xs named old new options
  pub text_is : text ≡ option_map options_text options

-- the same, of the beginning of a tag
abbrev pub IsOptionsText : Beginning → Judging → Judging → List ℕ → Type 0
IsOptionsText b old new text = TellsOptions b.name (map attribute_of b.attributes) b.named old new (Some text)

abbrev pub HasNoOptions : Beginning → Judging → Judging → Type 0
HasNoOptions b old new = TellsOptions b.name (map attribute_of b.attributes) b.named old new None

-- the calls that were taken still are, and a start is kept as before
pub record StillHasTaken (old new : Judging) : Type 0 where
  pub taken : (calls : List Event) → HasTaken old calls → HasTaken new calls
  pub mode : StaysInMode old.matching.progress new.matching.progress
