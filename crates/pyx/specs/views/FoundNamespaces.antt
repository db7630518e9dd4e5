-- The view of a namespace that was looked up.
use Rattle.std.specs.Prelude.{ℕ, List}
use Rattle.rng_model.specs.names.NameViews.{namespace_bytes}
use Rattle.pyx.specs.declared.namespaces.found.FoundNamespace.{FoundNamespace}
use Rattle.pyx.specs.declared.namespaces.found.FoundNamespace.TheVariants as found

abbrev pub found_bytes : FoundNamespace → List ℕ
found_bytes (found.Declared namespace) = namespace_bytes namespace.now
found_bytes (found.Beforehand uri) = uri.now
