-- The tables of excepts, by number.
use Rattle.std.proofs.Common.{◌≡◌, refl, sym, subst, ap, ap₂, ◌∙◌, ℕ, ◌+◌, ◌≤◌, ◌⊎◌, inl, inr, List, [], ◌∷◌, ◌++◌, length, length-append, slice_get}
use Rattle.std.proofs.Common.{Some, Bool, true, false, not, ◌&&◌, ◌||◌, arith, rules}
use Rattle.std.proofs.lemmas.Option.{none-some}
use Rattle.std.proofs.lemmas.Bool.{or_right}
use Rattle.rng_model.proofs.Places.{in_front}
use Rattle.rng_model.specs.names.Names.{Name, NameClass}
use Rattle.rng_model.specs.names.NameViews.{class_of}
use Rattle.rng_names.specs.plain.Holding.{holds}
use Rattle.rng_names.specs.views.Alternatives.{AddsExcept, AreTables, Grows, HasTable, IsTable, Linked, LinkedBelow, Stands, excepted_hold, has_alternative, told, in_scope, Adds, IsBare}
use Rattle.rng_names.specs.declared.alternatives.Alternatives.{Alternatives}
use Rattle.rng_names.specs.declared.alternatives.Excepted.{Excepted}
use Rattle.rng_names.proofs.HeldByAlternatives.{stands}
use Rattle.rng_model.proofs.Places as places
use Rattle.rng_names.proofs.KeyLookups.{at_end}

-- ---- tables stay where they are

module _ (xs ys : List Alternatives) (kept : (k : ℕ) (t : Alternatives) → slice_get xs k ≡ Some t → slice_get ys k ≡ Some t) where
  pub below_kept : (k m : ℕ) (all : Alternatives) → k ≤ m → LinkedBelow xs k all → LinkedBelow ys m all
  below_kept k m all less linked j e at =
      let there = linked j e at in
      let below = there.below in
      record { below = omega (arith, below, less); table = there.table; at = kept e.table there.table there.at; class = there.class }

pub linked_kept : (xs ys : List Alternatives) (all : Alternatives) → Grows xs ys → Linked xs all → Linked ys all
linked_kept xs ys all grows = below_kept xs ys grows.kept (length xs) (length ys) all grows.longer

pub linked_same : (xs : List Alternatives) (old new : Alternatives) → new.excepted.items ≡ old.excepted.items → Linked xs old → Linked xs new
linked_same xs old new same linked j e at = linked j e (ap (λ es. slice_get es j) (sym same) ∙ at)

pub grows_more : (xs ys zs : List Alternatives) → Grows xs ys → Grows ys zs → Grows xs zs
grows_more xs ys zs a b =
    let first = a.longer in
    let second = b.longer in
    record { longer = omega (arith, first, second); kept = λ k all e. b.kept k all (a.kept k all e); tables = λ are. b.tables (a.tables are) }

-- ---- one more table

module _ (xs : List Alternatives) (inner : Alternatives) where
  abbrev pub more : List Alternatives
  more = xs ++ inner ∷ []

  kept_in_front : (k : ℕ) (t : Alternatives) → slice_get xs k ≡ Some t → slice_get more k ≡ Some t
  kept_in_front k t = in_front xs (inner ∷ []) k t

  longer_by_one : length more ≡ length xs + 1
  longer_by_one = length-append xs (inner ∷ [])

  one_more_table : Stands inner → Linked xs inner → AreTables xs → AreTables more
  one_more_table stands linked are k all e = by (at_end xs inner k all e) where
    by : (slice_get xs k ≡ Some all) ⊎ ((k ≡ length xs) × (inner ≡ all)) → IsTable more k all
    by (inl a) =
        let t = are k all a in
        record { stands = t.stands; linked = below_kept xs more kept_in_front k k all (omega arith) t.linked }
    by (inr b) =
        let at = b.0 in
        subst (IsTable more k) b.1
        (record { stands = stands; linked = below_kept xs more kept_in_front (length xs) k inner (omega (arith, at)) linked })

  pub grows_by_one : Stands inner → Linked xs inner → Grows xs more
  grows_by_one stands linked =
      let long = longer_by_one in
      record { longer = omega (arith, long); kept = kept_in_front; tables = one_more_table stands linked }

  pub the_last : slice_get more (length xs) ≡ Some inner
  the_last = places.at_end xs inner

pub grows_by_except : (xs ys : List Alternatives) (old new inner : Alternatives) → AddsExcept xs ys old new inner → Stands inner → Linked xs inner → Grows xs ys
grows_by_except xs ys old new inner adds stands linked = subst (Grows xs) (sym adds.tables) (grows_by_one xs inner stands linked)

pub linked_by_except : (xs ys : List Alternatives) (old new inner : Alternatives) → AddsExcept xs ys old new inner → Linked xs old → Linked ys new
linked_by_except xs ys old new inner adds linked j e at =
    by (at_end old.excepted.items adds.entry j e (ap (λ es. slice_get es j) (sym adds.entries) ∙ at)) where
      long : length ys ≡ length xs + 1
      long = ap length adds.tables ∙ longer_by_one xs inner

      kept : (k : ℕ) (t : Alternatives) → slice_get xs k ≡ Some t → slice_get ys k ≡ Some t
      kept k t h = ap (λ zs. slice_get zs k) adds.tables ∙ kept_in_front xs inner k t h

      number : adds.entry.table ≡ length xs
      number = adds.number

      by : (slice_get old.excepted.items j ≡ Some e) ⊎ ((j ≡ length old.excepted.items) × (adds.entry ≡ e)) → HasTable ys (length ys) e
      by (inl a) = below_kept xs ys kept (length xs) (length ys) old (omega (arith, long)) linked j e a
      by (inr b) = subst (HasTable ys (length ys)) b.1 (record {
        below = omega (arith, number, long);
        table = inner;
        at = ap (λ zs. slice_get zs adds.entry.table) adds.tables ∙ ap (slice_get (xs ++ inner ∷ [])) number ∙ the_last xs inner;
        class = sym adds.class;
      })

-- ---- what a table holds

or-second : (x y : Bool) → x ≡ false → (x || y) ≡ y
or-second true y e = search rules
or-second false y e = refl

module _ (all : Alternatives) (q : Name) (stands : Stands all) where
  pub held_if_told : told all q ≡ true → holds (class_of all.class.now) q ≡ true
  held_if_told e = sym (stands q) ∙ ap (λ b. b || excepted_hold all q) e

  pub held_as_excepted : told all q ≡ false → holds (class_of all.class.now) q ≡ excepted_hold all q
  held_as_excepted e = sym (stands q) ∙ or-second (told all q) (excepted_hold all q) e

-- ---- the first tables

no_tables : (xs : List Alternatives) → xs ≡ [] → AreTables xs
no_tables xs none k all e = absurd (none-some all (ap (λ ys. slice_get ys k) (sym none) ∙ e))

pub linked_bare : (xs : List Alternatives) (all : Alternatives) → IsBare all → Linked xs all
linked_bare xs all bare j e at = absurd (none-some e (ap (λ es. slice_get es j) (sym bare.excepted) ∙ at))

pub own_table : (none ys zs : List Alternatives) (bare all : Alternatives) → none ≡ [] → IsBare bare
    → Adds bare all (λ test. has_alternative test (class_of bare.class.now)) → Grows none ys → (Linked none bare → Linked ys all) → zs ≡ ys ++ all ∷ []
    → AreTables zs × (slice_get zs (length ys) ≡ Some all)
own_table none ys zs bare all empty is_bare adds grows linked put =
    let grown = grows_by_one ys all (stands bare all is_bare adds) (linked (linked_bare none bare is_bare)) in
    (subst AreTables (sym put) (grown.tables (grows.tables (no_tables none empty))), ap (λ xs. slice_get xs (length ys)) put ∙ the_last ys all)

-- ---- one more except

module _ (xs ys zs : List Alternatives) (old new bare inner : Alternatives) (c : NameClass) (is_bare : IsBare bare) (is : class_of bare.class.now ≡ c)
    (adds : Adds bare inner (λ test. has_alternative test c)) (grows : Grows xs ys) (linked : Linked xs bare → Linked ys inner)
    (put : AddsExcept ys zs old new inner) where
  pub grows_past_except : Grows xs zs
  grows_past_except =
      let whole = subst (λ d. Adds bare inner (λ test. has_alternative test d)) (sym is) adds in
      grows_more xs ys zs grows (grows_by_except ys zs old new inner put (stands bare inner is_bare whole) (linked (linked_bare xs bare is_bare)))

  pub linked_past_except : Linked xs old → Linked zs new
  linked_past_except before = linked_by_except ys zs old new inner put (linked_kept xs ys old grows before)

-- ---- what an alternative with an except holds

abbrev pub excepted_test : Name → Excepted → Bool
excepted_test q e = in_scope e.ns q.ns && not (holds (class_of e.except.now) q)

pub except_beyond : (xs : List Alternatives) (k : ℕ) (e : Excepted) (q : Name) (inside held : Bool) → inside ≡ in_scope e.ns q.ns
    → (there : HasTable xs k e) → held ≡ holds (class_of there.table.class.now) q → excepted_test q e ≡ (inside && not held)
except_beyond xs k e q inside held scope there is =
    sym (ap₂ (λ x y. x && not y) scope (is ∙ ap (λ d. holds (class_of d.now) q) there.class))

pub out_of_scope : (e : Excepted) (q : Name) → in_scope e.ns q.ns ≡ false → excepted_test q e ≡ false
out_of_scope e q off = ap (λ x. x && not (holds (class_of e.except.now) q)) off

pub held_by_except : (all : Alternatives) (q : Name) → Stands all → excepted_hold all q ≡ true → holds (class_of all.class.now) q ≡ true
held_by_except all q stands e = sym (stands q) ∙ or_right (told all q) (excepted_hold all q) e
