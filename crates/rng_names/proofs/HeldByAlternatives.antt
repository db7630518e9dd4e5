-- The alternatives of a class hold the names that the class holds.
use Rattle.std.proofs.Common.{◌≡◌, refl, sym, subst, ap, ap₂, ◌∙◌, ℕ, List, [], ◌∷◌, map, Bool, true, false, not, ◌&&◌, ◌||◌, Option, Some, None}
use Rattle.std.proofs.Common.{bytes_eq, ◌++◌, Bor}
use Rattle.std.specs.List.{list_any}
use Rattle.std.proofs.Math.Bool.{or-false}
use Rattle.rng_model.specs.names.Names.{Name, NameClass, NameClasses, any_name, any_except, ns_name, ns_except, name_is, one_of, no_classes, class_and}
use Rattle.rng_model.specs.names.Names.{class_list, some_of}
use Rattle.std.proofs.lemmas.List.Folds.{list_any-append}
use Rattle.rng_model.specs.names.NameViews.{class_of}
use Rattle.rng_names.specs.views.Alternatives.{Adds, IsBare, Stands, excepted_hold, excepting, in_scope, has_alternative, some_has_alternative, is_any}
use Rattle.rng_names.specs.views.Alternatives.{is_written, is_excepted}
use Rattle.rng_names.specs.views.NameSets.{has, seen}
use Rattle.rng_names.specs.declared.alternatives.Excepted.{Excepted}
use Rattle.rng_names.specs.plain.Holding.{holds, some_hold}
use Rattle.rng_names.specs.declared.alternatives.Alternatives.{Alternatives}

or-true : (b : Bool) → true ≡ (b || true)
or-true true = refl
or-true false = refl

or-swap : (a b c d : Bool) → ((a || b) || (c || d)) ≡ ((a || c) || (b || d))
or-swap true b c d = refl
or-swap false b true d = sym (or-true b)
or-swap false b false d = refl

-- ---- a choice has the alternatives of its members

module _ {A : Type 0} (f : A → NameClass) (test : NameClass → Bool) where
  abbrev pub among : List A → Bool
  among xs = list_any (λ x. has_alternative test (f x)) xs

  some-members : (xs : List A) → some_has_alternative test (class_list (map f xs)) ≡ among xs
  some-members [] = refl
  some-members (x ∷ xs) = ap (λ b. has_alternative test (f x) || b) (some-members xs)

  pub alternatives-members : test (any_except any_name) ≡ false → (xs : List A) → has_alternative test (some_of (map f xs)) ≡ among xs
  alternatives-members none [] = none
  alternatives-members none (x ∷ []) = sym (or-false (has_alternative test (f x)))
  alternatives-members none (x ∷ (y ∷ xs)) = ap (λ b. has_alternative test (f x) || (has_alternative test (f y) || b)) (some-members xs)

-- ---- what is added

pub or-assoc : (a b c : Bool) → ((a || b) || c) ≡ (a || (b || c))
or-assoc true b c = refl
or-assoc false b c = refl

-- nothing is added
pub adds_none : (old : Alternatives) → Adds old old (λ test. false)
adds_none old = record {
  class = refl;
  any = sym (or-false old.any);
  written = λ u l. sym (or-false (has old.written u l));
  excepted = λ q. sym (or-false (excepted_hold old q));
}

-- one thing after the other
pub adds_more : (old between new : Alternatives) (first more both : (NameClass → Bool) → Bool) → Adds old between first → Adds between new more
    → ((test : NameClass → Bool) → both test ≡ (first test || more test)) → Adds old new both
adds_more old between new first more both a b joined = record {
  class = b.class ∙ a.class;
  any = b.any ∙ ap (λ x. x || more is_any) a.any ∙ or-assoc old.any (first is_any) (more is_any) ∙ ap (λ x. old.any || x) (sym (joined is_any));
  written = λ u l. let t = is_written u l in
      b.written u l ∙ ap (λ x. x || more t) (a.written u l) ∙ or-assoc (has old.written u l) (first t) (more t)
      ∙ ap (λ x. has old.written u l || x) (sym (joined t));
  excepted = λ q. let t = is_excepted q in
      b.excepted q ∙ ap (λ x. x || more t) (a.excepted q) ∙ or-assoc (excepted_hold old q) (first t) (more t)
      ∙ ap (λ x. excepted_hold old q || x) (sym (joined t));
}

-- a choice, in terms of its members
pub adds_choice : {A : Type 0} (f : A → NameClass) (xs : List A) (c : NameClass) (old new : Alternatives) → c ≡ some_of (map f xs)
    → Adds old new (λ test. list_any (λ x. has_alternative test (f x)) xs) → Adds old new (λ test. has_alternative test c)
adds_choice f xs c old new is a =
    let whole : (test : NameClass → Bool) → test (any_except any_name) ≡ false → list_any (λ x. has_alternative test (f x)) xs ≡ has_alternative test c =
    λ test none. sym (ap (has_alternative test) is ∙ alternatives-members f test none xs) in
    record {
      class = a.class;
      any = a.any ∙ ap (λ x. old.any || x) (whole is_any refl);
      written = λ u l. a.written u l ∙ ap (λ x. has old.written u l || x) (whole (is_written u l) refl);
      excepted = λ q. a.excepted q ∙ ap (λ x. excepted_hold old q || x) (whole (is_excepted q) refl);
    }

-- a class with an except
no_any : (ns : Option (List ℕ)) (c : NameClass) → is_any (excepting ns c) ≡ false
no_any None c = refl
no_any (Some u) c = refl

none_written : (u : List ℕ) (l : Option (List ℕ)) (ns : Option (List ℕ)) (c : NameClass) → is_written u l (excepting ns c) ≡ false
none_written u l None c = refl
none_written u l (Some v) c = refl

as_excepted : (q : Name) (ns : Option (Bor (List ℕ))) (c : NameClass) → is_excepted q (excepting (seen ns) c) ≡ (in_scope ns q.ns && not (holds c q))
as_excepted q None c = refl
as_excepted q (Some u) c = refl

pub adds_except : (old new : Alternatives) (e : Excepted) → new.class ≡ old.class → new.any ≡ old.any → new.written ≡ old.written
    → new.excepted.items ≡ old.excepted.items ++ e ∷ [] → Adds old new (λ test. test (excepting (seen e.ns) (class_of e.except.now)))
adds_except old new e class any written put =
    let ns = seen e.ns in
    let c = class_of e.except.now in
    record {
      class = class;
      any = any ∙ sym (ap (λ x. old.any || x) (no_any ns c) ∙ or-false old.any);
      written = λ u l. ap (λ keys. has keys u l) written
          ∙ sym (ap (λ x. has old.written u l || x) (none_written u l ns c) ∙ or-false (has old.written u l));
      excepted = λ q. let test : Excepted → Bool = λ x. in_scope x.ns q.ns && not (holds (class_of x.except.now) q) in
          ap (list_any test) put ∙ list_any-append test old.excepted.items (e ∷ [])
          ∙ ap (λ x. excepted_hold old q || x) (or-false (test e) ∙ sym (as_excepted q e.ns c));
    }

-- ---- a class holds what one of its alternatives holds

module _ (q : Name) where
  abbrev parts : ((NameClass → Bool) → Bool) → Bool
  parts some = some (is_written q.ns (Some q.local)) || (some is_any || (some (is_written q.ns None) || some (is_excepted q)))

  parts_of_both : (f g : (NameClass → Bool) → Bool) → (parts f || parts g) ≡ parts (λ test. f test || g test)
  parts_of_both f g =
      let name = is_written q.ns (Some q.local) in
      let ns = is_written q.ns None in
      let other = is_excepted q in
      or-swap (f name) (f is_any || (f ns || f other)) (g name) (g is_any || (g ns || g other))
      ∙ ap (λ x. (f name || g name) || x)
      (or-swap (f is_any) (f ns || f other) (g is_any) (g ns || g other)
      ∙ ap (λ x. (f is_any || g is_any) || x) (or-swap (f ns) (f other) (g ns) (g other)))

  and-swap : (a b : Bool) → (a && b) ≡ (b && a)
  and-swap true true = refl
  and-swap true false = refl
  and-swap false true = refl
  and-swap false false = refl

  and-true : (a : Bool) → a ≡ (a && true)
  and-true true = refl
  and-true false = refl

  and-none : (a : Bool) → false ≡ (a && false)
  and-none true = refl
  and-none false = refl

  mutual
    pub held_by_alternatives : (c : NameClass) → holds c q ≡ parts (λ test. has_alternative test c)
    held_by_alternatives any_name = refl
    held_by_alternatives (any_except c) = refl
    held_by_alternatives (ns_name u) = ap₂ (λ x y. x || y) (and-none (bytes_eq u q.ns)) (and-true (bytes_eq u q.ns) ∙ sym (or-false (bytes_eq u q.ns && true)))
    held_by_alternatives (ns_except u c) = refl
    held_by_alternatives (name_is n) = and-swap (bytes_eq n.local q.local) (bytes_eq n.ns q.ns)
        ∙ named_alone (bytes_eq n.ns q.ns && bytes_eq n.local q.local) (bytes_eq n.ns q.ns)
      where
        named_alone : (a b : Bool) → a ≡ (a || (false || ((b && false) || false)))
        named_alone true b = refl
        named_alone false true = refl
        named_alone false false = refl
    held_by_alternatives (one_of c d cs) =
        let after : (NameClass → Bool) → Bool = λ test. has_alternative test d || some_has_alternative test cs in
        let more : (holds d q || some_hold cs q) ≡ parts after =
        ap₂ (λ x y. x || y) (held_by_alternatives d) (some_held_by_alternatives cs)
        ∙ parts_of_both (λ test. has_alternative test d) (λ test. some_has_alternative test cs) in
        ap₂ (λ x y. x || y) (held_by_alternatives c) more ∙ parts_of_both (λ test. has_alternative test c) after

    some_held_by_alternatives : (cs : NameClasses) → some_hold cs q ≡ parts (λ test. some_has_alternative test cs)
    some_held_by_alternatives no_classes = refl
    some_held_by_alternatives (class_and c cs) =
        ap₂ (λ x y. x || y) (held_by_alternatives c) (some_held_by_alternatives cs)
        ∙ parts_of_both (λ test. has_alternative test c) (λ test. some_has_alternative test cs)

-- ---- a table of all alternatives, built from an empty one, holds what the class holds

or-turn : (a n s e : Bool) → ((a || (n || s)) || e) ≡ (s || (a || (n || e)))
or-turn true n true e = refl
or-turn true n false e = refl
or-turn false true true e = refl
or-turn false true false e = refl
or-turn false false true e = refl
or-turn false false false e = refl

pub stands : (old all : Alternatives) → IsBare old → Adds old all (λ test. has_alternative test (class_of old.class.now)) → Stands all
stands old all bare a q =
    let c : NameClass = class_of all.class.now in
    let b : Adds old all (λ test. has_alternative test c) = subst (λ k. Adds old all (λ test. has_alternative test (class_of k.now))) (sym a.class) a in
    let some : (NameClass → Bool) → Bool = λ test. has_alternative test c in
    let any : all.any ≡ some is_any = b.any ∙ ap (λ x. x || some is_any) bare.any in
    let written : (l : Option (List ℕ)) → has all.written q.ns l ≡ some (is_written q.ns l) =
    λ l. b.written q.ns l ∙ ap (λ keys. has keys q.ns l || some (is_written q.ns l)) bare.written in
    let test : Excepted → Bool = λ x. in_scope x.ns q.ns && not (holds (class_of x.except.now) q) in
    let excepted : excepted_hold all q ≡ some (is_excepted q) =
    b.excepted q ∙ ap (λ xs. list_any test xs || some (is_excepted q)) bare.excepted in
    or-turn all.any (has all.written q.ns None) (has all.written q.ns (Some q.local)) (excepted_hold all q)
    ∙ ap₂ (λ x y. x || y) (written (Some q.local)) (ap₂ (λ x y. x || y) any (ap₂ (λ x y. x || y) (written None) excepted))
    ∙ sym (held_by_alternatives q c)
