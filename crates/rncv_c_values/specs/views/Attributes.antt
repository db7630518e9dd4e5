-- The names and attributes of a document of events as C passes them.
use Rattle.std.specs.Prelude.{ℕ, List, All, IsUtf8, map}
use Rattle.rng_model.specs.names.Names.{Name}
use Rattle.rng_model.specs.matching.Document.{Attribute}
use Rattle.rng_model.specs.documents.PyxTrees.{EventKind, a_start}
use Rattle.rncv_c_values.specs.declared.attributes.NameBytes.{NameBytes}
use Rattle.rncv_c_values.specs.declared.attributes.AttributeBytes.{AttributeBytes}

-- the name of these bytes
abbrev pub name_in : List ℕ → List ℕ → Name
name_in uri local = record { ns = uri; local = local }

-- a name and an attribute, without their place in memory
abbrev pub name_of : NameBytes → Name
name_of n = name_in n.uri.now n.local.now

abbrev pub attribute_of : AttributeBytes → Attribute
attribute_of a = record { name = name_of a.name; content = a.value.now }

-- the start of an element
abbrev pub start_of : Name → List AttributeBytes → EventKind
start_of name attributes = a_start name (map attribute_of attributes)

-- both parts of the name are texts
abbrev pub IsTextName : Name → Type 0
IsTextName n = IsUtf8 n.ns × IsUtf8 n.local

-- the parts of the attribute are texts
abbrev pub IsTextAttribute : AttributeBytes → Type 0
IsTextAttribute a = IsTextName (name_of a.name) × IsUtf8 a.value.now

-- all that a start has are texts
abbrev pub AreTexts : Name → List AttributeBytes → Type 0
AreTexts name attributes = IsTextName name × All IsTextAttribute attributes
