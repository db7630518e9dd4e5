-- What the calls that apply declarations return.
use Rattle.std.specs.Prelude.{◌≡◌, ℕ, List, [], ◌∷◌, Result, Ok, Err, Option, Some, None, option_map, string_bytes}
use Rattle.std.specs.HashMap.{HashMap, get_by}
use Rattle.std.specs.Str.{bytes_eq}
use Rattle.std.proofs.Common.{Bor}
use Rattle.rnc_grammar.specs.declared.resolving.Unprefixed.{Unprefixed}
use Rattle.rnc_grammar.specs.declared.resolving.Unprefixed.TheVariants as places
use Rattle.rnc_grammar.specs.declared.resolving.Connector.{Connector}
use Rattle.rnc_grammar.specs.declared.resolving.Connector.TheVariants as connectors
use Rattle.rnc_grammar.specs.declared.resolving.Wrapper.{Wrapper}
use Rattle.rnc_grammar.specs.declared.resolving.Wrapper.TheVariants as wrappers
use Rattle.rnc_grammar.specs.declared.scope.Scope.{Scope}
use Rattle.rnc_grammar.specs.declared.scope.ScopeFault.{ScopeFault}
use Rattle.rnc_grammar.specs.declared.scope.ScopeFault.TheVariants.{Broken, Memory}
use Rattle.rnc_model.specs.declarations.Declarations as declarations
use Rattle.rnc_model.specs.declarations.Declarations.{◌>>=◌, class_in, default_of, pattern_in}
use Rattle.rnc_model.specs.grammar.Syntax as syntax
use Rattle.rnc_model.specs.grammar.Syntax.{applied, written, Namespace, given}
use Rattle.rng_model.specs.simple.Tree as simple
use Rattle.rnc_grammar.specs.views.View.{namespace_of}

-- a call returns what the definition returns, as the view sees it, unless memory runs out
abbrev pub Resolves : {X Y : Type 0} → (X → Y) → Result X ScopeFault → Option Y → Type 0
Resolves view (Ok x) found = found ≡ Some (view x)
Resolves view (Err Broken) found = found ≡ None
Resolves view (Err Memory) found = Unit {0}

-- the entry of a table under each text, as the view sees it
abbrev pub table_view : {X Y Z : Type 0} → (X → Y) → HashMap (Bor (List ℕ)) X Z → List ℕ → Option Y
table_view view table text = option_map view (get_by (λ k. bytes_eq text k.now) table)

-- what is declared, without its place in memory
abbrev pub scope_view : Scope → declarations.Scope
scope_view s = record {
  default = option_map namespace_of s.default;
  namespaces = table_view namespace_of s.namespaces;
  datatypes = table_view string_bytes s.datatypes;
}

-- the namespace of names without a prefix: the default one in the class of an element, and none in that of an attribute
abbrev pub namespace_at : declarations.Scope → Unprefixed → Namespace
namespace_at s places.Default = default_of s
namespace_at s places.None = given []

-- an element or an attribute of this class
abbrev pub named_with : Unprefixed → syntax.NameClassAt applied → syntax.PatternAt applied → syntax.PatternAt applied
named_with places.Default = syntax.element
named_with places.None = syntax.attribute

-- an element or an attribute, with its declarations applied
abbrev pub named_in : declarations.Scope → Unprefixed → syntax.NameClassAt written → syntax.PatternAt written → Option (syntax.PatternAt applied)
named_in s place c p = class_in s (namespace_at s place) c >>= λ c. pattern_in s p >>= λ p. Some (named_with place c p)

-- this around a pattern
abbrev pub wrapped_with : Wrapper → syntax.PatternAt applied → syntax.PatternAt applied
wrapped_with wrappers.List = syntax.list
wrapped_with wrappers.Mixed = syntax.mixed
wrapped_with wrappers.Optional = syntax.optional
wrapped_with wrappers.ZeroOrMore = syntax.zero_or_more
wrapped_with wrappers.OneOrMore = syntax.one_or_more

-- this around a pattern, with its declarations applied
abbrev pub wrapped_in : declarations.Scope → Wrapper → syntax.PatternAt written → Option (syntax.PatternAt applied)
wrapped_in s wrapper p = pattern_in s p >>= λ p. Some (wrapped_with wrapper p)

-- a connector, without its place in memory
abbrev pub connector_of : Connector → simple.Connector
connector_of connectors.Group = simple.group
connector_of connectors.Interleave = simple.interleave
connector_of connectors.Choice = simple.choice

-- the results for all members, if each has one
abbrev pub each : {A B : Type 0} → (A → Option B) → List A → Option (List B)
each f [] = Some []
each f (x ∷ xs) = f x >>= λ y. each f xs >>= λ ys. Some (y ∷ ys)

-- members with this connector between them, with their declarations applied
abbrev pub joined_in : declarations.Scope → Connector → List (syntax.PatternAt written) → Option (syntax.PatternAt applied)
joined_in s k ps = each (pattern_in s) ps >>= λ ps. Some (syntax.members (connector_of k) ps)
