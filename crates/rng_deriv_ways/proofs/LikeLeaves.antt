-- A ref to an element may replace one to another element that takes the same.
use Rattle.std.proofs.Common.{◌≡◌, inl, inr, ℕ, List, [], ◌∷◌, sym, subst, true}
use Rattle.rng_model.specs.matching.Document.{Attribute, Item, list_of}
use Rattle.rng_model.specs.simple.Table.{Table}
use Rattle.rng_model.specs.simple.Tree.{Simple, s_leaf}
use Rattle.rng_model.specs.names.NameViews.{name_of}
use Rattle.rng_deriv_laws.specs.plain.Taking.{Takes, WeaklyMatches}
use Rattle.rng_deriv_laws.specs.plain.Taking as t
use Rattle.rng_deriv_laws.specs.plain.Derivatives.{Way}
use Rattle.rng_deriv_laws.specs.plain.Ways.{TakesItem}
use Rattle.rng_deriv_laws.proofs.ItemWays.{ways_that_take_the_same}
use Rattle.rng_deriv_ways.specs.plain.Alike.{AreLikeLeaves, IsAlike}
use Rattle.rng_deriv_ways.specs.plain.Kinds.{IsElementNamed, Obeys, rest_of_leaf, takes_kind}
use Rattle.rng_model.specs.matching.GrammarMatching.{reading_of}
use Rattle.rng_deriv_ways.specs.plain.Ways.{AreKept, AreWays}
use Rattle.rng_deriv_ways.specs.declared.way.Kind.{Kind}
use Rattle.rng_deriv_ways.specs.declared.way.Kind.TheVariants as kinds
use Rattle.rng_deriv_ways.specs.declared.way.Place.{Place}
use Rattle.rng_deriv_ways.specs.declared.way.Place.TheVariants as places
use Rattle.rng_deriv_ways.proofs.WaysOfLeaves.{is_leaf, leaf_kept, leaf_law, leaf_way}

-- the way with the second leaf, and with what is left after the first one
abbrev pub like_way : Simple ℕ → Simple ℕ → Way
like_way p q = record { leaf = q; rest = rest_of_leaf p }

module _ (table : Table) (e f : ℕ) (a : IsAlike table e f) where
  like_takes : (xs : List Attribute) (ns : List Item) → Takes (reading_of table) (s_leaf e) xs ns → Takes (reading_of table) (s_leaf f) xs ns
  like_takes xs ns (t.element_is {q = q} {xs = ys} {kids = kids} i w p) =
      t.element_is (subst (λ b. b ≡ true) (a.names q) i) (subst (λ b. WeaklyMatches (reading_of table) b ys (list_of kids)) a.bodies w) p

  taken_like : (xs : List Attribute) (ns : List Item) → Takes (reading_of table) (s_leaf f) xs ns → Takes (reading_of table) (s_leaf e) xs ns
  taken_like xs ns (t.element_is {q = q} {xs = ys} {kids = kids} i w p) =
      t.element_is (subst (λ b. b ≡ true) (sym (a.names q)) i) (subst (λ b. WeaklyMatches (reading_of table) b ys (list_of kids)) (sym a.bodies) w) p

  like_leaf_law : (kind : Kind) → takes_kind (reading_of table) kind (s_leaf e) ≡ true → AreWays (reading_of table) kind (s_leaf e) (like_way (s_leaf e) (s_leaf f) ∷ [])
  like_leaf_law (kinds.Element q) taken = ways_that_take_the_same (reading_of table) (IsElementNamed (name_of q.now)) (s_leaf e)
      (leaf_way (s_leaf e) ∷ []) (like_way (s_leaf e) (s_leaf f) ∷ []) onward back (leaf_law (reading_of table) (kinds.Element q) (s_leaf e) tt)
    where
      onward : (n : Item) (ns : List Item) → TakesItem (reading_of table) (leaf_way (s_leaf e) ∷ []) n ns
          → TakesItem (reading_of table) (like_way (s_leaf e) (s_leaf f) ∷ []) n ns
      onward n ns (inl h) = inl (like_takes [] (n ∷ []) h.0, h.1)
      onward n ns (inr h) = absurd h

      back : (n : Item) (ns : List Item) → TakesItem (reading_of table) (like_way (s_leaf e) (s_leaf f) ∷ []) n ns
          → TakesItem (reading_of table) (leaf_way (s_leaf e) ∷ []) n ns
      back n ns (inl h) = inl (taken_like [] (n ∷ []) h.0, h.1)
      back n ns (inr h) = absurd h
  like_leaf_law (kinds.Attribute q) taken = absurd (cc)
  like_leaf_law kinds.Text taken = absurd (cc)

obeys_like : (place : Place) (e f : ℕ) → Obeys place (s_leaf e) → Obeys place (s_leaf f)
obeys_like places.Content e f o = record { repeats = o.repeats; texts = o.texts }
obeys_like places.List e f o = o

like_leaf_kept : (g : _) (kind : Kind) (place : Place) (e f : ℕ) → takes_kind g kind (s_leaf e) ≡ true → Obeys place (s_leaf e)
    → AreKept kind place (like_way (s_leaf e) (s_leaf f) ∷ [])
like_leaf_kept g (kinds.Element q) place e f taken o =
    let own = leaf_kept (kinds.Element q) place (s_leaf e) tt o in (((tt, obeys_like place e f o), own.0.1), tt)
like_leaf_kept g (kinds.Attribute q) place e f taken o = absurd (cc)
like_leaf_kept g kinds.Text place e f taken o = absurd (cc)

pub like_law : (table : Table) (kind : Kind) (p q : Simple ℕ) → AreLikeLeaves table p q → takes_kind (reading_of table) kind p ≡ true
    → AreWays (reading_of table) kind p (like_way p q ∷ [])
like_law table kind p q (inl is) taken = subst (λ q. AreWays (reading_of table) kind p (like_way p q ∷ [])) (sym is)
    (leaf_law (reading_of table) kind p (is_leaf (reading_of table) kind p taken))
like_law table kind p q (inr h) taken =
    let e = h.0 in
    let f = h.1 in
    subst (λ p. AreWays (reading_of table) kind p (like_way p q ∷ [])) (sym h.2)
    (subst (λ q. AreWays (reading_of table) kind (s_leaf e) (like_way (s_leaf e) q ∷ [])) (sym h.3)
    (like_leaf_law table e f h.4 kind (subst (λ p. takes_kind (reading_of table) kind p ≡ true) h.2 taken)))

pub like_kept : (table : Table) (kind : Kind) (place : Place) (p q : Simple ℕ) → AreLikeLeaves table p q → takes_kind (reading_of table) kind p ≡ true
    → Obeys place p → AreKept kind place (like_way p q ∷ [])
like_kept table kind place p q (inl is) taken o = subst (λ q. AreKept kind place (like_way p q ∷ [])) (sym is)
    (leaf_kept kind place p (is_leaf (reading_of table) kind p taken) o)
like_kept table kind place p q (inr h) taken o =
    let e = h.0 in
    let f = h.1 in
    subst (λ p. AreKept kind place (like_way p q ∷ [])) (sym h.2)
    (subst (λ q. AreKept kind place (like_way (s_leaf e) q ∷ [])) (sym h.3)
    (like_leaf_kept (reading_of table) kind place e f (subst (λ p. takes_kind (reading_of table) kind p ≡ true) h.2 taken)
    (subst (Obeys place) h.2 o)))
