-- An example of a printable grammar, so the law is not vacuous.
use Rattle.std.proofs.Common.{[], ◌∷◌, refl, arith, codes, inl, inr, rules}
use Rattle.rng_model.specs.names.Names.{name_is}
use Rattle.rng_model.specs.schema.Patterns.{without_parameters}
use Rattle.rng_model.specs.simple.Tree.{s_text, s_leaf, s_attribute, s_value, s_joined, group}
use Rattle.rng_model.specs.simple.Grammar.{Grammar}
use Rattle.rnc_print_laws.specs.plain.Printable.{IsText, IsName, IsPrintable}
use Rattle.rnc_print_laws.proofs.Printability.NamedDatatypes.{ascii_text, ascii_name}

-- an element `doc` in the namespace `urn:a`, with an attribute `kind` with the value `a`, and text
abbrev pub example : Grammar
example = record {
  start = s_leaf 0;
  elements = (
    name_is (record { ns = codes "urn:a"; local = codes "doc" }),
    s_joined group (s_attribute (name_is (record { ns = []; local = codes "kind" })) (s_value (without_parameters [] (codes "token")) (codes "a"))) s_text,
  ) ∷ [];
}

uri : IsText (codes "urn:a")
uri = ascii_text _ (search rules) refl

none : IsText []
none = ascii_text _ (search rules) refl

value : IsText (codes "a")
value = ascii_text _ (search rules) refl

doc : IsName (codes "doc")
doc = ascii_name _ (search rules) refl

kind : IsName (codes "kind")
kind = ascii_name _ (search rules) refl

pub is_printable : IsPrintable example
is_printable = record {
  start = tt;
  elements = ((((uri, doc), omega arith), ((((none, kind), omega arith), ((inl (refl, inr refl), tt), value)), tt)), tt);
}
