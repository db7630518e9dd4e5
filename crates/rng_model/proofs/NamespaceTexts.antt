-- Namespaces are texts.
use Rattle.std.proofs.Common.{Option, Some, None, Global, rules}
use Rattle.std.specs.Str.{IsUtf8}
use Rattle.std.specs.Arc.{arc_value}
use Rattle.std.specs.declared.sync.Arc.{Arc}
use Rattle.std.proofs.lemmas.Str.{IsUtf8-string_bytes}
use Rattle.rng_model.specs.declared.hashed_text.HashedText.{HashedText}
use Rattle.rng_model.specs.declared.namespace.Namespace.{Namespace}
use Rattle.rng_model.specs.names.NameViews.{bytes_if_any, namespace_bytes}

is_text_if_any : (text : Option (Arc HashedText Global)) → IsUtf8 (bytes_if_any text)
is_text_if_any None = search rules
is_text_if_any (Some text) = IsUtf8-string_bytes (arc_value text).text

pub IsUtf8-namespace_bytes : (n : Namespace) → IsUtf8 (namespace_bytes n)
IsUtf8-namespace_bytes n = is_text_if_any n.text
