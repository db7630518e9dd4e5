-- Which names a class holds, as a test.
use Rattle.std.specs.Prelude.{ℕ, List, Bool, true, false, not, ◌&&◌, ◌||◌}
use Rattle.std.specs.Str.{bytes_eq}
use Rattle.rng_model.specs.names.Names.{Name, NameClass, NameClasses, any_name, any_except, ns_name, ns_except, name_is, one_of, no_classes, class_and}

abbrev pub pair : List ℕ → List ℕ → Name
pair ns local = record { ns = ns; local = local }

abbrev pub same_name : Name → Name → Bool
same_name n q = bytes_eq n.local q.local && bytes_eq n.ns q.ns

abbrev mutual
  pub holds : NameClass → Name → Bool
  holds any_name q = true
  holds (any_except c) q = not (holds c q)
  holds (ns_name u) q = bytes_eq u q.ns
  holds (ns_except u c) q = bytes_eq u q.ns && not (holds c q)
  holds (name_is n) q = same_name n q
  holds (one_of c d cs) q = holds c q || (holds d q || some_hold cs q)

  pub some_hold : NameClasses → Name → Bool
  some_hold no_classes q = false
  some_hold (class_and c cs) q = holds c q || some_hold cs q
