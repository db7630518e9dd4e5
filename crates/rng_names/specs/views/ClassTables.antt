-- A name class with its tables.
use Rattle.std.specs.Prelude.{◌≡◌, ◌<◌, ℕ, List, length, slice_get, Some, String, string_bytes}
use Rattle.rng_model.specs.names.Names.{NameClass}
use Rattle.rng_model.specs.names.NameViews.{class_of}
use Rattle.rng_names.specs.plain.Written.{longest}
use Rattle.rng_names.specs.views.Alternatives.{AreTables}
use Rattle.rng_names.specs.views.Namespaces.{Covers}
use Rattle.rng_names.specs.declared.alternatives.Alternatives.{Alternatives}
use Rattle.rng_names.specs.declared.namespaces.Namespaces.{Namespaces}

module _ {S : Type 0} where
  -- one of the tables and the namespaces are those of the class, and the text is longer than each text in the class
  pub record IsReady (c : NameClass) (tables : List Alternatives) (own : ℕ) (namespaces : Namespaces) (fresh : String S) : Type 0 where
    pub are : AreTables tables
    pub table : Alternatives
    pub at : slice_get tables own ≡ Some table
    pub class : class_of table.class.now ≡ c
    pub covers : Covers namespaces c
    pub longer : longest c < length (string_bytes fresh)
