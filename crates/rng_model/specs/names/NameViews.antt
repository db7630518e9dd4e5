-- What a namespace, a name and a name class of the code are, without their place in memory.
use Rattle.std.specs.Prelude.{ℕ, List, [], Option, Some, None, string_bytes}
use Rattle.std.specs.Arc.{arc_value}
use Rattle.std.specs.declared.sync.Arc.{Arc}
use Rattle.std.specs.Global.{Global}
use Rattle.rng_model.specs.declared.hashed_text.HashedText.{HashedText}
use Rattle.rng_model.specs.declared.namespace.Namespace.{Namespace}
use Rattle.rng_model.specs.declared.name.Name.{Name}
use Rattle.rng_model.specs.declared.name.NameClass.{NameClass, fold-NameClass}
use Rattle.rng_model.specs.declared.name.NameClass.TheOpen.{NameClass-F}
use Rattle.rng_model.specs.names.Names as names

-- the bytes of a text; none if there is no text
abbrev pub bytes_if_any : Option (Arc HashedText Global) → List ℕ
bytes_if_any None = []
bytes_if_any (Some text) = string_bytes (arc_value text).text

abbrev pub namespace_bytes : Namespace → List ℕ
namespace_bytes n = bytes_if_any n.text

abbrev pub name_of : Name → names.Name
name_of n = record { ns = namespace_bytes n.ns; local = string_bytes n.local }

-- one level of a name class, with each class inside already as its view
abbrev pub class_step : NameClass-F names.NameClass → names.NameClass
class_step NameClass-F.Any = names.any_name
class_step (NameClass-F.AnyExcept except) = names.any_except except.value
class_step (NameClass-F.Ns ns) = names.ns_name (namespace_bytes ns)
class_step (NameClass-F.NsExcept ns except) = names.ns_except (namespace_bytes ns) except.value
class_step (NameClass-F.Name n) = names.name_is (name_of n)
class_step (NameClass-F.Choice all) = names.some_of all.items

abbrev pub class_of : NameClass → names.NameClass
class_of = fold-NameClass names.NameClass class_step
