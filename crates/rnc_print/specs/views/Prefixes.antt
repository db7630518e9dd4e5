-- Namespaces that are written as prefixes, as the code keeps them.
use Rattle.std.specs.Prelude.{ℕ, List, map}
use Rattle.rnc_print.specs.declared.prefixes.Prefixes.{Prefixes}

-- the namespaces, in the order of their numbers
abbrev pub namespaces_seen : Prefixes → List (List ℕ)
namespaces_seen p = map (λ ns. ns.now) p.namespaces.keys
