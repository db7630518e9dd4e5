-- Levels built step by step: at a start, the ways of one alternative after another; at an end, one way out after
-- another.
use Rattle.std.proofs.Common.{◌≡◌, ◌↔◌, ◌⊎◌, inl, inr, ℕ, zero, suc, ◌<◌, List, [], ◌∷◌, ◌++◌, length, refl, sym, ap, ◌∙◌, subst, Bool, true, Some}
use Rattle.std.proofs.Common.{slice_get, Contains, All, arith}
use Rattle.std.specs.List.{AllZip}
use Rattle.std.proofs.lemmas.Option.{same_Some}
use Rattle.std.proofs.lemmas.List.Elements.{All-contains, All-append, Contains-push, Contains-push_cases}
use Rattle.std.proofs.lemmas.List.Elements.{Contains-append_left, Contains-append_right, Contains-append_cases}
use Rattle.std.proofs.lemmas.Bool.{cases_eq}
use Rattle.rng_model.proofs.Places.{before_or_at_end, at_end, in_front, contains_at}
use Rattle.rng_model.specs.names.Names.{Name}
use Rattle.rng_model.specs.simple.Tree.{Simple}
use Rattle.rng_model.specs.matching.Document.{Attribute, Item, an_element, Items, list_of}
use Rattle.rng_model.specs.matching.GrammarMatching.{Reading}
use Rattle.rng_deriv_laws.specs.plain.Reading.{body_of}
use Rattle.rng_deriv_laws.specs.plain.Taking.{Takes, WeaklyTakes}
use Rattle.rng_deriv_laws.specs.plain.Restricted.{IsTyped}
use Rattle.rng_deriv_laws.specs.plain.Blanks.{Every, cons, no_blanks, IsNotBlank}
use Rattle.rng_deriv_laws.specs.plain.Derivatives.{Way, bodies_of}
use Rattle.rng_deriv_laws.specs.plain.Ways.{Opens, EachWay, AreItemWays, IsItemLeaf}
use Rattle.rng_deriv_laws.specs.plain.LevelStates.{Link, IsBodyNamed, AreStarts, OpensAt, AreOpened, AreEnded}
use Rattle.rng_deriv_laws.proofs.Starts.{bodies_in, bodies_out, bodies_keep}
use Rattle.rng_deriv_laws.proofs.Levels.States.{beside_second, found_at}

-- ---- look-ups in a list that grows

pub in_front_out : {A : Type 0} (xs ys : List A) (i : ℕ) (x : A) → i < length xs → slice_get (xs ++ ys) i ≡ Some x → slice_get xs i ≡ Some x
in_front_out [] ys i x l e = absurd (omega (arith, l))
in_front_out (x ∷ xs) ys zero y l e = e
in_front_out (x ∷ xs) ys (suc i) y l e = in_front_out xs ys i y (omega (arith, l)) e

-- the way out is that of this way, for the alternative at this place
abbrev pub IsLinked : List (Simple ℕ) → ℕ → Way → Link → Type 0
IsLinked bodies i w l = (l.outer ≡ i) × (slice_get bodies l.inner ≡ Some w.leaf) × (l.rest ≡ w.rest)

module _ (g : Reading) where
  -- ---- a start

  module _ (xs : List Attribute) (kids ns : List Item) where
    opens_at : (ws : List Way) (k : ℕ) (w : Way) → slice_get ws k ≡ Some w → WeaklyTakes g w.leaf xs kids → Takes g w.rest [] ns → Opens g xs kids ns ws
    opens_at [] k w e d f = absurd (cc)
    opens_at (v ∷ ws) zero w e d f =
        let is = same_Some _ _ e in inl (subst (λ v. WeaklyTakes g v.leaf xs kids) (sym is) d, subst (λ v. Takes g v.rest [] ns) (sym is) f)
    opens_at (v ∷ ws) (suc k) w e d f = inr (opens_at ws k w e d f)

    module _ (bodies : List (Simple ℕ)) (i : ℕ) where
      linked_to : (ws : List Way) (links : List Link) → AllZip (IsLinked bodies i) ws links → Opens g xs kids ns ws → OpensAt g bodies links i xs kids ns
      linked_to [] links z h = absurd h
      linked_to (w ∷ ws) [] z h = absurd z
      linked_to (w ∷ ws) (l ∷ links) z (inl h) =
          (l, w.leaf, contains_at (l ∷ links) 0 l refl, z.0.0, z.0.1, h.0, subst (λ r. Takes g r [] ns) (sym z.0.2) h.1)
      linked_to (w ∷ ws) (l ∷ links) z (inr h) =
          let o = linked_to ws links z.1 h in
          (o.0, o.1, Contains-append_right (l ∷ []) links o.0 o.2, o.3, o.4, o.5, o.6)

      linked_back : (ws : List Way) (links : List Link) → AllZip (IsLinked bodies i) ws links → (l : Link) (b : Simple ℕ) → Contains links l →
          slice_get bodies l.inner ≡ Some b → WeaklyTakes g b xs kids → Takes g l.rest [] ns → (l.outer ≡ i) × Opens g xs kids ns ws
      linked_back ws links z l b c e d f =
          let w = beside_second (IsLinked bodies i) ws links c.0 l z (found_at links l c) in
          let same : b ≡ w.0.leaf = same_Some _ _ (sym e ∙ w.2.1) in
          (w.2.0, opens_at ws c.0 w.0 w.1 (subst (λ b. WeaklyTakes g b xs kids) same d) (subst (λ r. Takes g r [] ns) w.2.2 f))

  -- item ways, with leaves replaced by bodies
  pub are_starts : (Kind : Item → Type 0) (Q : Simple ℕ → Type 0) (q : Name) (p : Simple ℕ) (ws : List Way) → ((k : ℕ) → IsTyped (body_of g k)) →
      ((xs : List Attribute) (kids : Items) → Kind (an_element q xs kids)) → AreItemWays g Kind p ws → EachWay (λ l. IsItemLeaf l × Q l) Q ws →
      AreStarts g q p (bodies_of g q ws)
  are_starts Kind Q q p ws typed kind a each = record {
    to = λ xs kids ns all d. bodies_in g q xs kids Q Q ws each ns (a.to (an_element q xs kids) ns (kind xs kids) (no_blanks (cons tt all)) d);
    back = λ xs kids ns h. a.back (an_element q xs kids) ns (bodies_out g q xs kids ws ns h);
    each = bodies_keep g q (IsBodyNamed g q) (λ r. Unit {0}) (λ k e. record { typed = typed k; element = k; named = e }) (λ l. Unit {0}) ws (any_ways ws);
  } where
    any_ways : (ws : List Way) → EachWay (λ l. Unit {0}) (λ r. Unit {0}) ws
    any_ways [] = tt
    any_ways (w ∷ ws) = ((tt, tt), any_ways ws)

  -- no alternative around: there are no ways
  pub none_opened : (q : Name) → AreOpened g q [] [] []
  none_opened q = record {
    to = λ i p xs kids ns e all d. absurd (cc);
    back = λ i xs kids ns o. let e = o.4 in absurd (cc);
    each = λ k d l. absurd (omega (arith, l));
  }

  -- the ways of one more alternative
  module _ (q : Name) (outside bodies new : List (Simple ℕ)) (links more : List Link) (p : Simple ℕ) (ws : List Way) (o : AreOpened g q outside bodies links)
      (within : All (λ l. l.inner < length bodies) links) (s : AreStarts g q p ws) (z : AllZip (IsLinked (bodies ++ new) (length outside)) ws more) where
    more_to : (i : ℕ) (r : Simple ℕ) (xs : List Attribute) (kids : Items) (ns : List Item) → slice_get (outside ++ p ∷ []) i ≡ Some r → Every IsNotBlank ns
        → Takes g r [] (an_element q xs kids ∷ ns) → OpensAt g (bodies ++ new) (links ++ more) i xs (list_of kids) ns
    more_to i r xs kids ns e all d = elim (before_or_at_end outside p r i e) [
      | inl f ↦ let k = o.to i r xs kids ns f all d in
          (k.0, k.1, Contains-append_left links more k.0 k.2, k.3, in_front bodies new k.0.inner k.1 k.4, k.5, k.6)
      | inr f ↦ let h = s.to xs kids ns all (subst (λ r. Takes g r [] (an_element q xs kids ∷ ns)) f.1 d) in
          let k = linked_to xs (list_of kids) ns (bodies ++ new) (length outside) ws more z h in
          (k.0, k.1, Contains-append_right links more k.0 k.2, k.3 ∙ sym f.0, k.4, k.5, k.6)
    ]

    more_back : (i : ℕ) (xs : List Attribute) (kids : Items) (ns : List Item) → OpensAt g (bodies ++ new) (links ++ more) i xs (list_of kids) ns
        → (r : Simple ℕ) × (slice_get (outside ++ p ∷ []) i ≡ Some r) × Takes g r [] (an_element q xs kids ∷ ns)
    more_back i xs kids ns (l, b, c, outer, e, d, f) = elim (Contains-append_cases links more l c) [
      | inl h ↦ let old = in_front_out bodies new l.inner b (All-contains (λ l. l.inner < length bodies) links l within h) e in
          let k = o.back i xs kids ns (l, b, h, outer, old, d, f) in
          (k.0, in_front outside (p ∷ []) i k.0 k.1, k.2)
      | inr h ↦ let k = linked_back xs (list_of kids) ns (bodies ++ new) (length outside) ws more z l b h e d f in
          (p, subst (λ i. slice_get (outside ++ p ∷ []) i ≡ Some p) (sym k.0 ∙ outer) (at_end outside p), s.back xs kids ns k.1)
    ]

    pub opened_more : All (IsBodyNamed g q) new → AreOpened g q (outside ++ p ∷ []) (bodies ++ new) (links ++ more)
    opened_more named = record { to = more_to; back = more_back; each = All-append (IsBodyNamed g q) bodies new o.each named }

  -- ---- an end

  -- no way out: nothing is left
  pub none_ended : (good : List Bool) (outside : List (Simple ℕ)) → ((i : ℕ) (r : Simple ℕ) (ns : List Item) → slice_get outside i ≡ Some r →
      Takes g r [] ns → ⊥)
      → AreEnded g good [] outside
  none_ended good outside none = record {
    to = λ l ns c e d. let lt = c.1 in absurd (omega (arith, lt));
    back = λ i r ns e d. absurd (none i r ns e d);
  }

  module _ (good : List Bool) (links : List Link) (outside : List (Simple ℕ)) (e : AreEnded g good links outside) (l : Link) where
    -- a way out from an alternative that is not good
    pub ended_no_more : (slice_get good l.inner ≡ Some true → ⊥) → AreEnded g good (links ++ l ∷ []) outside
    ended_no_more bad = record {
      to = λ k ns c is d. elim (Contains-push_cases links l k c) [
        | inl h ↦ e.to k ns h is d
        | inr h ↦ absurd (bad (subst (λ k. slice_get good k.inner ≡ Some true) (sym h) is))
      ];
      back = λ i r ns f d. let k = e.back i r ns f d in (k.0, Contains-append_left links (l ∷ []) k.0 k.1, k.2, k.3, k.4);
    }

    -- a way out from a good alternative: its rest is joined to the alternative around
    module _ (after : List (Simple ℕ)) (old new : Simple ℕ) (is_good : slice_get good l.inner ≡ Some true) (was : slice_get outside l.outer ≡ Some old)
        (now : slice_get after l.outer ≡ Some new)
        (same : (i : ℕ) (r : Simple ℕ) → (i ≡ l.outer → ⊥) → slice_get after i ≡ Some r ↔ slice_get outside i ≡ Some r)
        (joined : (ns : List Item) → Takes g new [] ns ↔ (Takes g old [] ns ⊎ Takes g l.rest [] ns)) where
      joined_to : (k : Link) (ns : List Item) → (Contains links k ⊎ (l ≡ k)) → slice_get good k.inner ≡ Some true → Takes g k.rest [] ns
          → (r : Simple ℕ) × (slice_get after k.outer ≡ Some r) × Takes g r [] ns
      joined_to k ns (inl c) is d = let o = e.to k ns c is d in elim (cases_eq k.outer l.outer) [
        | inl f ↦ let r : o.0 ≡ old = same_Some _ _ (sym o.1 ∙ ap (slice_get outside) f ∙ was) in
            (new, ap (slice_get after) f ∙ now, (joined ns).1 (inl (subst (λ r. Takes g r [] ns) r o.2)))
        | inr f ↦ (o.0, (same k.outer o.0 f).1 o.1, o.2)
      ]
      joined_to k ns (inr c) is d =
          (new, ap (λ k. slice_get after k.outer) (sym c) ∙ now, (joined ns).1 (inr (subst (λ k. Takes g k.rest [] ns) (sym c) d)))

      joined_back : (i : ℕ) (r : Simple ℕ) (ns : List Item) → slice_get after i ≡ Some r → Takes g r [] ns → ((i ≡ l.outer) ⊎ (i ≡ l.outer → ⊥))
          → (k : Link) × Contains (links ++ l ∷ []) k × (k.outer ≡ i) × (slice_get good k.inner ≡ Some true) × Takes g k.rest [] ns
      joined_back i r ns f d (inl h) =
          let is : r ≡ new = same_Some _ _ (sym f ∙ ap (slice_get after) h ∙ now) in
          elim ((joined ns).0 (subst (λ r. Takes g r [] ns) is d)) [
            | inl d ↦ let k = e.back l.outer old ns was d in (k.0, Contains-append_left links (l ∷ []) k.0 k.1, k.2 ∙ sym h, k.3, k.4)
            | inr d ↦ (l, Contains-push links l, sym h, is_good, d)
          ]
      joined_back i r ns f d (inr h) =
          let k = e.back i r ns ((same i r h).0 f) d in (k.0, Contains-append_left links (l ∷ []) k.0 k.1, k.2, k.3, k.4)

      pub ended_more : AreEnded g good (links ++ l ∷ []) after
      ended_more = record {
        to = λ k ns c is d. joined_to k ns (Contains-push_cases links l k c) is d;
        back = λ i r ns f d. joined_back i r ns f d (cases_eq i l.outer);
      }
