-- What may come next, without its place in memory.
use Rattle.std.specs.Prelude.{ℕ, List, map, string_bytes}
use Rattle.std.proofs.Common.{Bor}
use Rattle.rng_model.specs.datatypes.DatatypeViews.{datatype_of}
use Rattle.rng_model.specs.names.NameViews.{class_of, name_of}
use Rattle.rng_model.specs.schema.Patterns.{without_parameters}
use Rattle.rng_model.specs.simple.Tree.{Datatype}
use Rattle.rng_model.specs.declared.datatype.DatatypeValue.{DatatypeValue}
use Rattle.rng_expected.specs.Expectations.{Next}
use Rattle.rng_expected.specs.Tags.{Tag}
use Rattle.rng_expected.specs.declared.next.Expected.{Expected}
use Rattle.rng_expected.specs.declared.tags.ExpectedTag.{ExpectedTag}

-- a value: its datatype, and its text
abbrev pub value_of : Bor DatatypeValue → Datatype × List ℕ
value_of v = (without_parameters (string_bytes v.now.library) (string_bytes v.now.name), string_bytes v.now.text)

abbrev pub next_of : Expected → Next
next_of e = record {
  elements = map (λ c. class_of c.now) e.elements.items;
  text = e.text;
  values = map value_of e.values.items;
  datatypes = map (λ d. datatype_of d.now) e.datatypes.items;
}

abbrev pub tag_of : ExpectedTag → Tag
tag_of e = record {
  attributes = map (λ c. class_of c.now) e.attributes.items;
  required = map (λ n. name_of n.now) e.required.items;
}
