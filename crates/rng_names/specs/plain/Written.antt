-- What is written in a class: names, namespaces and texts.
use Rattle.std.specs.Prelude.{ℕ, max, length, List, Bool, false, ◌&&◌, ◌||◌}
use Rattle.std.specs.Str.{bytes_eq}
use Rattle.rng_model.specs.names.Names.{Name, NameClass, NameClasses, any_name, any_except, ns_name, ns_except, name_is, one_of, no_classes, class_and}
use Rattle.rng_names.specs.plain.Holding.{holds, pair, same_name}

-- both classes hold the name
abbrev pub both_hold : NameClass → NameClass → Name → Bool
both_hold c d q = holds c q && holds d q

-- the test passes for a name that is written, or for the fresh local name in a namespace that is written
abbrev mutual
  pub is_met : (Name → Bool) → List ℕ → NameClass → Bool
  is_met test fresh any_name = false
  is_met test fresh (any_except c) = is_met test fresh c
  is_met test fresh (ns_name u) = test (pair u fresh)
  is_met test fresh (ns_except u c) = test (pair u fresh) || is_met test fresh c
  is_met test fresh (name_is n) = test n || test (pair n.ns fresh)
  is_met test fresh (one_of c d cs) = is_met test fresh c || (is_met test fresh d || is_some_met test fresh cs)

  pub is_some_met : (Name → Bool) → List ℕ → NameClasses → Bool
  is_some_met test fresh no_classes = false
  is_some_met test fresh (class_and c cs) = is_met test fresh c || is_some_met test fresh cs

-- the number of bytes in the longest text that is written
abbrev mutual
  pub longest : NameClass → ℕ
  longest any_name = 0
  longest (any_except c) = longest c
  longest (ns_name u) = length u
  longest (ns_except u c) = max (length u) (longest c)
  longest (name_is n) = max (length n.ns) (length n.local)
  longest (one_of c d cs) = max (longest c) (max (longest d) (longest_of cs))

  pub longest_of : NameClasses → ℕ
  longest_of no_classes = 0
  longest_of (class_and c cs) = max (longest c) (longest_of cs)

-- the name is written as a name
abbrev mutual
  pub writes_name : NameClass → Name → Bool
  writes_name any_name q = false
  writes_name (any_except c) q = writes_name c q
  writes_name (ns_name u) q = false
  writes_name (ns_except u c) q = writes_name c q
  writes_name (name_is n) q = same_name n q
  writes_name (one_of c d cs) q = writes_name c q || (writes_name d q || some_write_name cs q)

  pub some_write_name : NameClasses → Name → Bool
  some_write_name no_classes q = false
  some_write_name (class_and c cs) q = writes_name c q || some_write_name cs q

-- the namespace is written, by itself or in a name
abbrev mutual
  pub writes_ns : NameClass → List ℕ → Bool
  writes_ns any_name v = false
  writes_ns (any_except c) v = writes_ns c v
  writes_ns (ns_name u) v = bytes_eq u v
  writes_ns (ns_except u c) v = bytes_eq u v || writes_ns c v
  writes_ns (name_is n) v = bytes_eq n.ns v
  writes_ns (one_of c d cs) v = writes_ns c v || (writes_ns d v || some_write_ns cs v)

  pub some_write_ns : NameClasses → List ℕ → Bool
  some_write_ns no_classes v = false
  some_write_ns (class_and c cs) v = writes_ns c v || some_write_ns cs v
