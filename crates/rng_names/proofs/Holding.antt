-- The test of membership agrees with the definition.
use Rattle.std.proofs.Common.{◌≡◌, ℕ, bytes_eq, List, true, refl, sym, rules, Decides, Bool}
use Rattle.std.proofs.lemmas.Bool.Decides.{Decides-and, Decides-or, Decides-not, Decides-like}
use Rattle.std.proofs.lemmas.Slice.Eq.{bytes_eq-Decides}
use Rattle.std.specs.Bool.{one_answer}
use Rattle.rng_model.specs.names.Names.{Name, NameClass, NameClasses, In, InSome, any_name, any_except, ns_name, ns_except, name_is, one_of, no_classes, class_and}
use Rattle.rng_names.specs.plain.Holding.{holds, some_hold, same_name}

-- two names are the same if the bytes of their parts are
pub same_name-Decides : (n q : Name) → Decides (same_name n q) (q ≡ n)
same_name-Decides n q = (same, back) where
  same : same_name n q ≡ true → q ≡ n
  same e = search (rules, bytes_eq-Decides n.local q.local, bytes_eq-Decides n.ns q.ns)

  back : q ≡ n → same_name n q ≡ true
  back e = search (rules, bytes_eq-Decides n.local q.local, bytes_eq-Decides n.ns q.ns)

-- two texts are the same if their bytes are
swap-Decides : (u v : List ℕ) → Decides (bytes_eq u v) (v ≡ u)
swap-Decides u v = Decides-like (bytes_eq u v) sym sym (bytes_eq-Decides u v)

-- the test says whether the class holds the name
mutual
  pub holds-Decides : (c : NameClass) (q : Name) → Decides (holds c q) (In c q)
  holds-Decides any_name q = (λ _. tt, λ _. refl)
  holds-Decides (any_except c) q = Decides-not (holds c q) (holds-Decides c q)
  holds-Decides (ns_name u) q = swap-Decides u q.ns
  holds-Decides (ns_except u c) q = Decides-and _ _ (swap-Decides u q.ns) (Decides-not (holds c q) (holds-Decides c q))
  holds-Decides (name_is n) q = same_name-Decides n q
  holds-Decides (one_of c d cs) q = Decides-or _ _ (holds-Decides c q) (Decides-or _ _ (holds-Decides d q) (some_hold-Decides cs q))

  some_hold-Decides : (cs : NameClasses) (q : Name) → Decides (some_hold cs q) (InSome cs q)
  some_hold-Decides no_classes q = (λ e. search rules, λ none. elim none [ ])
  some_hold-Decides (class_and c cs) q = Decides-or _ _ (holds-Decides c q) (some_hold-Decides cs q)

-- a test that decides membership is the one of the class
pub decides_holds : (b : Bool) (c : NameClass) (q : Name) → Decides b (In c q) → b ≡ holds c q
decides_holds b c q d = one_answer b (holds c q) d (holds-Decides c q)
