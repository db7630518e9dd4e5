-- The view of the `A` lines of a tag.
use Rattle.std.specs.Prelude.{ℕ, List, string_bytes}
use Rattle.rng_model.specs.documents.PyxNamespaces.{WrittenAttribute}
use Rattle.pyx.specs.declared.namespaces.written.WrittenAttribute as written
use Rattle.pyx.specs.plain.WrittenNames.{written_of}

abbrev pub written_attribute : written.WrittenAttribute → WrittenAttribute
written_attribute a = record { name = written_of (string_bytes a.name); content = string_bytes a.value }

-- the name of one of its lines, as it is written
abbrev pub written_bytes : written.WrittenAttribute → List ℕ
written_bytes a = string_bytes a.name
