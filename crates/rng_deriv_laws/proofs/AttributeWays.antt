-- The first attribute: a law for each kind of pattern, from the ways of its sides to its own. `attribute_ways` returns
-- the ways of a pattern that obeys section 7.1.2. In such a pattern, an attribute that a copy of a repeated pattern
-- takes is alone in the copy, so it may be taken out of any copy.
use Rattle.std.proofs.Common.{◌≡◌, ℕ, List, [], ◌∷◌, ◌++◌, refl, sym, ◌∙◌, subst, inl, inr, ◌⊎◌}
use Rattle.std.proofs.lemmas.List.{append-nil}
use Rattle.rng_model.specs.simple.Tree.{Simple, choice, group, interleave, s_not_allowed, s_empty, s_text, s_leaf, s_attribute, s_list, s_data, s_data_except}
use Rattle.rng_model.specs.simple.Tree.{s_value, s_one_or_more, s_joined}
use Rattle.rng_model.specs.matching.Document.{Attribute, Item, Interleaves, SharesName, Distinct}
use Rattle.rng_model.specs.matching.Document as document
use Rattle.rng_model.proofs.OneSidedInterleavings.{right_alone, left_is_all, right_is_all}
use Rattle.rng_model.specs.matching.GrammarMatching.{Reading}
use Rattle.rng_deriv_laws.specs.plain.Taking.{Takes, Same}
use Rattle.rng_deriv_laws.specs.plain.Taking as t
use Rattle.rng_deriv_laws.specs.plain.Restricted.{HasNoAttribute, HasNoneGrouped, RepeatsWell}
use Rattle.rng_deriv_laws.specs.plain.Derivatives.{Way, more_of, alone, behind, group_of, interleave_of, group_before, interleave_before, attribute_ways}
use Rattle.rng_deriv_laws.specs.plain.Ways.{TakesAttribute, AreAttributeWays}
use Rattle.rng_deriv_laws.proofs.ListFacts.{nothing_shared, distinct_left, distinct_right, apart}
use Rattle.rng_deriv_laws.proofs.SamePatterns.{group_of-same, interleave_of-same}

module _ (g : Reading) where
  -- ---- lists of ways

  pub attribute_in_first : (ws vs : List Way) (a : Attribute) (xs : List Attribute) (ns : List Item) → TakesAttribute g ws a xs ns
      → TakesAttribute g (ws ++ vs) a xs ns
  attribute_in_first [] vs a xs ns h = absurd h
  attribute_in_first (w ∷ ws) vs a xs ns (inl h) = inl h
  attribute_in_first (w ∷ ws) vs a xs ns (inr h) = inr (attribute_in_first ws vs a xs ns h)

  pub attribute_in_second : (ws vs : List Way) (a : Attribute) (xs : List Attribute) (ns : List Item) → TakesAttribute g vs a xs ns
      → TakesAttribute g (ws ++ vs) a xs ns
  attribute_in_second [] vs a xs ns h = h
  attribute_in_second (w ∷ ws) vs a xs ns h = inr (attribute_in_second ws vs a xs ns h)

  pub attribute_of_both : (ws vs : List Way) (a : Attribute) (xs : List Attribute) (ns : List Item) → TakesAttribute g (ws ++ vs) a xs ns
      → TakesAttribute g ws a xs ns ⊎ TakesAttribute g vs a xs ns
  attribute_of_both [] vs a xs ns h = inr h
  attribute_of_both (w ∷ ws) vs a xs ns (inl h) = inl (inl h)
  attribute_of_both (w ∷ ws) vs a xs ns (inr h) = elim (attribute_of_both ws vs a xs ns h) [ inl k ↦ inl (inr k) | inr k ↦ inr k ]

  behind_in : (f : Simple ℕ → Simple ℕ) (a : Attribute) (xs ys : List Attribute) (ms ns : List Item) →
      ((r : Simple ℕ) → Takes g r xs ms → Takes g (f r) ys ns) → (ws : List Way) → TakesAttribute g ws a xs ms → TakesAttribute g (behind f ws) a ys ns
  behind_in f a xs ys ms ns on [] h = h
  behind_in f a xs ys ms ns on (w ∷ ws) (inl h) = inl (h.0, on w.rest h.1)
  behind_in f a xs ys ms ns on (w ∷ ws) (inr h) = inr (behind_in f a xs ys ms ns on ws h)

  -- what is taken without f, and a condition on it
  record Before (T : List Attribute → List Item → Type 0) (Q : List Attribute → List Item → Type 0) : Type 0 where
    xs : List Attribute
    ms : List Item
    taken : T xs ms
    beside : Q xs ms

  behind_out : (f : Simple ℕ → Simple ℕ) (a : Attribute) (Q : List Attribute → List Item → Type 0) (ys : List Attribute) (ns : List Item) →
      ((r : Simple ℕ) → Takes g (f r) ys ns → Before (λ xs ms. Takes g r xs ms) Q) →
      (ws : List Way) → TakesAttribute g (behind f ws) a ys ns → Before (λ xs ms. TakesAttribute g ws a xs ms) Q
  behind_out f a Q ys ns back [] h = absurd h
  behind_out f a Q ys ns back (w ∷ ws) (inl h) =
      let r = back w.rest h.1 in record { xs = r.xs; ms = r.ms; taken = inl (h.0, r.taken); beside = r.beside }
  behind_out f a Q ys ns back (w ∷ ws) (inr h) =
      let r = behind_out f a Q ys ns back ws h in record { xs = r.xs; ms = r.ms; taken = inr r.taken; beside = r.beside }

  -- ---- choices, and patterns that take the same

  pub choice_ways : (Kind : Attribute → Type 0) (p q : Simple ℕ) (ws vs : List Way) → AreAttributeWays g Kind p ws → AreAttributeWays g Kind q vs
      → AreAttributeWays g Kind (s_joined choice p q) (ws ++ vs)
  choice_ways Kind p q ws vs b c = record { to = to; back = back } where
    to : (a : Attribute) (xs : List Attribute) (ns : List Item) → Kind a → Takes g (s_joined choice p q) (a ∷ xs) ns → TakesAttribute g (ws ++ vs) a xs ns
    to a xs ns kind (t.first d) = attribute_in_first ws vs a xs ns (b.to a xs ns kind d)
    to a xs ns kind (t.second d) = attribute_in_second ws vs a xs ns (c.to a xs ns kind d)

    back : (a : Attribute) (xs : List Attribute) (ns : List Item) → Distinct (a ∷ xs) → TakesAttribute g (ws ++ vs) a xs ns
        → Takes g (s_joined choice p q) (a ∷ xs) ns
    back a xs ns u h = elim (attribute_of_both ws vs a xs ns h) [ inl k ↦ t.first (b.back a xs ns u k) | inr k ↦ t.second (c.back a xs ns u k) ]

  pub same_has_ways : (Kind : Attribute → Type 0) (p q : Simple ℕ) (ws : List Way) → Same g p q → AreAttributeWays g Kind p ws → AreAttributeWays g Kind q ws
  same_has_ways Kind p q ws s b =
      record { to = λ a xs ns kind d. b.to a xs ns kind (s.back (a ∷ xs) ns d); back = λ a xs ns u h. s.to (a ∷ xs) ns (b.back a xs ns u h) }

  pub ways_that_take_the_same : (Kind : Attribute → Type 0) (p : Simple ℕ) (ws vs : List Way) →
      ((a : Attribute) (xs : List Attribute) (ns : List Item) → TakesAttribute g ws a xs ns → TakesAttribute g vs a xs ns) →
      ((a : Attribute) (xs : List Attribute) (ns : List Item) → TakesAttribute g vs a xs ns → TakesAttribute g ws a xs ns) →
      AreAttributeWays g Kind p ws → AreAttributeWays g Kind p vs
  ways_that_take_the_same Kind p ws vs f h b =
      record { to = λ a xs ns kind d. f a xs ns (b.to a xs ns kind d); back = λ a xs ns u k. b.back a xs ns u (h a xs ns k) }

  -- ---- groups and interleaves: the attribute goes to either side

  -- what the other side takes
  record Grouped (q : Simple ℕ) (ys : List Attribute) (ns : List Item) (xs : List Attribute) (ms : List Item) : Type 0 where
    other_xs : List Attribute
    other_ns : List Item
    other : Takes g q other_xs other_ns
    shared : Interleaves xs other_xs ys
    items : ms ++ other_ns ≡ ns

  record GroupedBefore (p : Simple ℕ) (ys : List Attribute) (ns : List Item) (xs : List Attribute) (ms : List Item) : Type 0 where
    other_xs : List Attribute
    other_ns : List Item
    other : Takes g p other_xs other_ns
    shared : Interleaves other_xs xs ys
    items : other_ns ++ ms ≡ ns

  record Interleaved (q : Simple ℕ) (ys : List Attribute) (ns : List Item) (xs : List Attribute) (ms : List Item) : Type 0 where
    other_xs : List Attribute
    other_ns : List Item
    other : Takes g q other_xs other_ns
    shared : Interleaves xs other_xs ys
    items : Interleaves ms other_ns ns

  group_left : (q r : Simple ℕ) (ys : List Attribute) (ns : List Item) → Takes g (s_joined group r q) ys ns
      → Before (λ xs ms. Takes g r xs ms) (λ xs ms. Grouped q ys ns xs ms)
  group_left q r ys ns (t.grouped {xs = xs} {ys = zs} {ms = ms} {ns = os} d e i c) =
      record { xs = xs; ms = ms; taken = d; beside = record { other_xs = zs; other_ns = os; other = e; shared = i; items = c } }

  group_right : (p r : Simple ℕ) (ys : List Attribute) (ns : List Item) → Takes g (s_joined group p r) ys ns
      → Before (λ xs ms. Takes g r xs ms) (λ xs ms. GroupedBefore p ys ns xs ms)
  group_right p r ys ns (t.grouped {xs = zs} {ys = xs} {ms = os} {ns = ms} d e i c) =
      record { xs = xs; ms = ms; taken = e; beside = record { other_xs = zs; other_ns = os; other = d; shared = i; items = c } }

  between_left : (q r : Simple ℕ) (ys : List Attribute) (ns : List Item) → Takes g (s_joined interleave r q) ys ns
      → Before (λ xs ms. Takes g r xs ms) (λ xs ms. Interleaved q ys ns xs ms)
  between_left q r ys ns (t.interleaved {xs = xs} {ys = zs} {ms = ms} {ns = os} d e i c) =
      record { xs = xs; ms = ms; taken = d; beside = record { other_xs = zs; other_ns = os; other = e; shared = i; items = c } }

  between_right : (p r : Simple ℕ) (ys : List Attribute) (ns : List Item) → Takes g (s_joined interleave p r) ys ns
      → Before (λ xs ms. Takes g r xs ms) (λ xs ms. (zs : List Attribute) × (os : List Item) × Takes g p zs os × Interleaves zs xs ys × Interleaves os ms ns)
  between_right p r ys ns (t.interleaved {xs = zs} {ys = xs} {ms = os} {ns = ms} d e i c) =
      record { xs = xs; ms = ms; taken = e; beside = (zs, os, d, i, c) }

  pub group_ways : (Kind : Attribute → Type 0) (p q : Simple ℕ) (f h : Simple ℕ → Simple ℕ) (ws vs : List Way) →
      ((r : Simple ℕ) → Same g (f r) (s_joined group r q)) → ((r : Simple ℕ) → Same g (h r) (s_joined group p r)) →
      AreAttributeWays g Kind p ws → AreAttributeWays g Kind q vs → AreAttributeWays g Kind (s_joined group p q) (behind f ws ++ behind h vs)
  group_ways Kind p q f h ws vs on around b c = record { to = to; back = back } where
    to : (a : Attribute) (xs : List Attribute) (ns : List Item) → Kind a → Takes g (s_joined group p q) (a ∷ xs) ns
        → TakesAttribute g (behind f ws ++ behind h vs) a xs ns
    to a xs ns kind (t.grouped {ms = ms} d e (document.left {xs = ys} i) j) =
        attribute_in_first (behind f ws) _ a xs ns (behind_in f a ys xs ms ns (λ r k. (on r).back xs ns (t.grouped k e i j)) ws (b.to a ys ms kind d))
    to a xs ns kind (t.grouped {ns = os} d e (document.right {ys = ys} i) j) =
        attribute_in_second (behind f ws) _ a xs ns (behind_in h a ys xs os ns (λ r k. (around r).back xs ns (t.grouped d k i j)) vs (c.to a ys os kind e))

    by_first : (a : Attribute) (xs : List Attribute) (ns : List Item) → Distinct (a ∷ xs) → TakesAttribute g (behind f ws) a xs ns
        → Takes g (s_joined group p q) (a ∷ xs) ns
    by_first a xs ns u k =
        let r = behind_out f a (λ ys ms. Grouped q xs ns ys ms) xs ns (λ r k. group_left q r xs ns ((on r).to xs ns k)) ws k in
        let s = r.beside in
        t.grouped (b.back a r.xs r.ms (distinct_left (document.left s.shared) u) r.taken) s.other (document.left s.shared) s.items

    by_second : (a : Attribute) (xs : List Attribute) (ns : List Item) → Distinct (a ∷ xs) → TakesAttribute g (behind h vs) a xs ns
        → Takes g (s_joined group p q) (a ∷ xs) ns
    by_second a xs ns u k =
        let r = behind_out h a (λ ys ms. GroupedBefore p xs ns ys ms) xs ns (λ r k. group_right p r xs ns ((around r).to xs ns k)) vs k in
        let s = r.beside in
        t.grouped s.other (c.back a r.xs r.ms (distinct_right (document.right s.shared) u) r.taken) (document.right s.shared) s.items

    back : (a : Attribute) (xs : List Attribute) (ns : List Item) → Distinct (a ∷ xs) → TakesAttribute g (behind f ws ++ behind h vs) a xs ns
        → Takes g (s_joined group p q) (a ∷ xs) ns
    back a xs ns u k = elim (attribute_of_both (behind f ws) (behind h vs) a xs ns k) [ inl d ↦ by_first a xs ns u d | inr d ↦ by_second a xs ns u d ]

  pub interleave_ways : (Kind : Attribute → Type 0) (p q : Simple ℕ) (f h : Simple ℕ → Simple ℕ) (ws vs : List Way) →
      ((r : Simple ℕ) → Same g (f r) (s_joined interleave r q)) → ((r : Simple ℕ) → Same g (h r) (s_joined interleave p r)) →
      AreAttributeWays g Kind p ws → AreAttributeWays g Kind q vs → AreAttributeWays g Kind (s_joined interleave p q) (behind f ws ++ behind h vs)
  interleave_ways Kind p q f h ws vs on around b c = record { to = to; back = back } where
    to : (a : Attribute) (xs : List Attribute) (ns : List Item) → Kind a → Takes g (s_joined interleave p q) (a ∷ xs) ns
        → TakesAttribute g (behind f ws ++ behind h vs) a xs ns
    to a xs ns kind (t.interleaved {ms = ms} d e (document.left {xs = ys} i) j) =
        attribute_in_first (behind f ws) _ a xs ns (behind_in f a ys xs ms ns (λ r k. (on r).back xs ns (t.interleaved k e i j)) ws (b.to a ys ms kind d))
    to a xs ns kind (t.interleaved {ns = os} d e (document.right {ys = ys} i) j) =
        attribute_in_second (behind f ws) _ a xs ns (behind_in h a ys xs os ns (λ r k. (around r).back xs ns (t.interleaved d k i j)) vs (c.to a ys os kind e))

    by_first : (a : Attribute) (xs : List Attribute) (ns : List Item) → Distinct (a ∷ xs) → TakesAttribute g (behind f ws) a xs ns
        → Takes g (s_joined interleave p q) (a ∷ xs) ns
    by_first a xs ns u k =
        let r = behind_out f a (λ ys ms. Interleaved q xs ns ys ms) xs ns (λ r k. between_left q r xs ns ((on r).to xs ns k)) ws k in
        let s = r.beside in
        t.interleaved (b.back a r.xs r.ms (distinct_left (document.left s.shared) u) r.taken) s.other (document.left s.shared) s.items

    by_second : (a : Attribute) (xs : List Attribute) (ns : List Item) → Distinct (a ∷ xs) → TakesAttribute g (behind h vs) a xs ns
        → Takes g (s_joined interleave p q) (a ∷ xs) ns
    by_second a xs ns u k =
        let r = behind_out h a (λ ys ms. (zs : List Attribute) × (os : List Item) × Takes g p zs os × Interleaves zs ys xs × Interleaves os ms ns) xs ns
        (λ r k. between_right p r xs ns ((around r).to xs ns k)) vs k in
        let (zs, os, d, i, j) = r.beside in
        t.interleaved d (c.back a r.xs r.ms (distinct_right (document.right i) u) r.taken) (document.right i) j

    back : (a : Attribute) (xs : List Attribute) (ns : List Item) → Distinct (a ∷ xs) → TakesAttribute g (behind f ws ++ behind h vs) a xs ns
        → Takes g (s_joined interleave p q) (a ∷ xs) ns
    back a xs ns u k = elim (attribute_of_both (behind f ws) (behind h vs) a xs ns k) [ inl d ↦ by_first a xs ns u d | inr d ↦ by_second a xs ns u d ]

  -- ---- patterns without attributes

  repeat_none : (p : Simple ℕ) → ((xs : List Attribute) (ns : List Item) → Takes g p xs ns → xs ≡ []) → (xs : List Attribute) (ns : List Item)
      → Takes g (s_one_or_more p) xs ns → xs ≡ []
  repeat_none p inside xs ns (t.once d) = inside xs ns d
  repeat_none p inside xs ns (t.again d e f i c) = nothing_shared i (inside _ _ d) (repeat_none p inside _ _ e)

  pub takes_none : (p : Simple ℕ) → HasNoAttribute p → (xs : List Attribute) (ns : List Item) → Takes g p xs ns → xs ≡ []
  takes_none s_not_allowed o xs ns d = elim d [ ]
  takes_none s_empty o xs ns t.empty_is = refl
  takes_none s_text o xs ns (t.text_is all) = refl
  takes_none (s_leaf k) o xs ns (t.element_is i w p) = refl
  takes_none (s_attribute c p) o xs ns d = absurd o
  takes_none (s_list p) o xs ns (t.list_is e d) = refl
  takes_none (s_data d) o xs ns (t.data_is e) = refl
  takes_none (s_data_except d p) o xs ns (t.data_but e f) = refl
  takes_none (s_value d v) o xs ns (t.value_is e) = refl
  takes_none (s_one_or_more p) o xs ns d = repeat_none p (takes_none p o) xs ns d
  takes_none (s_joined choice p q) o xs ns (t.first d) = takes_none p o.0 xs ns d
  takes_none (s_joined choice p q) o xs ns (t.second d) = takes_none q o.1 xs ns d
  takes_none (s_joined group p q) o xs ns (t.grouped d e i c) = nothing_shared i (takes_none p o.0 _ _ d) (takes_none q o.1 _ _ e)
  takes_none (s_joined interleave p q) o xs ns (t.interleaved d e i c) = nothing_shared i (takes_none p o.0 _ _ d) (takes_none q o.1 _ _ e)

  -- ---- repetitions (section 7.1.2)

  -- what a pattern takes besides an attribute that it took: nothing at all, or what the pattern takes
  pub data Remains (p : Simple ℕ) : List Attribute → List Item → Type 0 where
    nothing : Remains p [] []
    some : {xs : List Attribute} {ns : List Item} → Takes g p xs ns → Remains p xs ns

  remains_in : (p q : Simple ℕ) (xs : List Attribute) (ns : List Item) → ((xs : List Attribute) (ns : List Item) → Takes g p xs ns → Takes g q xs ns)
      → Remains p xs ns → Remains q xs ns
  remains_in p q xs ns f nothing = nothing
  remains_in p q xs ns f (some d) = some (f xs ns d)

  beside_left : (p : Simple ℕ) (xs ys zs : List Attribute) (ms os ns : List Item) → Remains p xs ms → Takes g (s_one_or_more p) ys os →
      (SharesName xs ys → ⊥) → Interleaves xs ys zs → ms ++ os ≡ ns → Remains (s_one_or_more p) zs ns
  beside_left p xs ys zs ms os ns nothing r f i c =
      some (subst (λ l. Takes g (s_one_or_more p) l ns) (right_is_all i) (subst (λ l. Takes g (s_one_or_more p) ys l) c r))
  beside_left p xs ys zs ms os ns (some d) r f i c = some (t.again d r f i c)

  beside_right : (p : Simple ℕ) (xs ys zs : List Attribute) (ms os ns : List Item) → Takes g p xs ms → Remains (s_one_or_more p) ys os →
      (SharesName xs ys → ⊥) → Interleaves xs ys zs → ms ++ os ≡ ns → Remains (s_one_or_more p) zs ns
  beside_right p xs ys zs ms os ns d nothing f i c =
      some (t.once (subst (λ l. Takes g p l ns) (left_is_all i) (subst (λ l. Takes g p xs l) (sym (append-nil ms) ∙ c) d)))
  beside_right p xs ys zs ms os ns d (some r) f i c = some (t.again d r f i c)

  pub repeat_alone : (p : Simple ℕ) (a : Attribute) →
      ((xs : List Attribute) (ns : List Item) → Takes g p (a ∷ xs) ns → Takes g p (a ∷ []) [] × Remains p xs ns) →
      (xs : List Attribute) (ns : List Item) → Takes g (s_one_or_more p) (a ∷ xs) ns → Takes g p (a ∷ []) [] × Remains (s_one_or_more p) xs ns
  repeat_alone p a inside xs ns (t.once d) = let r = inside xs ns d in (r.0, remains_in p (s_one_or_more p) xs ns (λ xs ns d. t.once d) r.1)
  repeat_alone p a inside xs ns (t.again d e f (document.left i) c) =
      let r = inside _ _ d in (r.0, beside_left p _ _ _ _ _ _ r.1 e (λ s. f (document.later_left s)) i c)
  repeat_alone p a inside xs ns (t.again d e f (document.right i) c) =
      let r = repeat_alone p a inside _ _ e in (r.0, beside_right p _ _ _ _ _ _ d r.1 (λ s. f (document.later_right s)) i c)

  -- if no attribute is in a group, the attribute is taken alone
  pub attribute_alone : (p : Simple ℕ) → HasNoneGrouped p → (a : Attribute) (xs : List Attribute) (ns : List Item) → Takes g p (a ∷ xs) ns
      → Takes g p (a ∷ []) [] × Remains p xs ns
  attribute_alone s_not_allowed o a xs ns d = elim d [ ]
  attribute_alone s_empty o a xs ns d = elim d [ ]
  attribute_alone s_text o a xs ns d = elim d [ ]
  attribute_alone (s_leaf k) o a xs ns d = elim d [ ]
  attribute_alone (s_attribute c p) o a xs ns (t.attribute_is i w) = (t.attribute_is i w, nothing)
  attribute_alone (s_list p) o a xs ns d = elim d [ ]
  attribute_alone (s_data d) o a xs ns e = elim e [ ]
  attribute_alone (s_data_except d p) o a xs ns e = elim e [ ]
  attribute_alone (s_value d v) o a xs ns e = elim e [ ]
  attribute_alone (s_one_or_more p) o a xs ns d = let r = repeat_alone p a (attribute_alone p o a) xs ns d in (t.once r.0, r.1)
  attribute_alone (s_joined choice p q) o a xs ns (t.first d) =
      let r = attribute_alone p o.0 a xs ns d in (t.first r.0, remains_in p (s_joined choice p q) xs ns (λ xs ns d. t.first d) r.1)
  attribute_alone (s_joined choice p q) o a xs ns (t.second d) =
      let r = attribute_alone q o.1 a xs ns d in (t.second r.0, remains_in q (s_joined choice p q) xs ns (λ xs ns d. t.second d) r.1)
  attribute_alone (s_joined group p q) o a xs ns (t.grouped d e i c) =
      let n = nothing_shared i (takes_none p o.0 _ _ d) (takes_none q o.1 _ _ e) in absurd (cc)
  attribute_alone (s_joined interleave p q) o a xs ns (t.interleaved d e i c) =
      let n = nothing_shared i (takes_none p o.0 _ _ d) (takes_none q o.1 _ _ e) in absurd (cc)

  then_more : (p r : Simple ℕ) (xs : List Attribute) (ns : List Item) → Takes g r [] [] → Remains (s_one_or_more p) xs ns
      → Takes g (s_joined group r (more_of p)) xs ns
  then_more p r xs ns d nothing = t.grouped d (t.second t.empty_is) document.done refl
  then_more p r xs ns d (some e) = t.grouped d (t.first e) (right_alone xs) refl

  -- f appends the further copies to what is left of the copy that took the attribute
  pub repeat_ways : (Kind : Attribute → Type 0) (p : Simple ℕ) → HasNoneGrouped p → (f : Simple ℕ → Simple ℕ) (ws : List Way) →
      ((r : Simple ℕ) → Same g (f r) (s_joined group r (more_of p))) → AreAttributeWays g Kind p ws → AreAttributeWays g Kind (s_one_or_more p) (behind f ws)
  repeat_ways Kind p o f ws on b = record { to = to; back = back } where
    to : (a : Attribute) (xs : List Attribute) (ns : List Item) → Kind a → Takes g (s_one_or_more p) (a ∷ xs) ns → TakesAttribute g (behind f ws) a xs ns
    to a xs ns kind d =
        let r = repeat_alone p a (attribute_alone p o a) xs ns d in
        behind_in f a [] xs [] ns (λ q k. (on q).back xs ns (then_more p q xs ns k r.1)) ws (b.to a [] [] kind r.0)

    joined : (a : Attribute) (xs : List Attribute) (ns : List Item) → Distinct (a ∷ xs) → (ys zs : List Attribute) (ms os : List Item) →
        TakesAttribute g ws a ys ms → Takes g (more_of p) zs os → Interleaves ys zs xs → ms ++ os ≡ ns → Takes g (s_one_or_more p) (a ∷ xs) ns
    joined a xs ns u ys zs ms os k (t.first e) i c =
        t.again (b.back a ys ms (distinct_left (document.left i) u) k) e (apart (document.left i) u) (document.left i) c
    joined a xs ns u ys zs ms os k (t.second t.empty_is) i c =
        let e : ys ≡ xs = left_is_all i in
        t.once (subst (λ l. Takes g p (a ∷ l) ns) e
        (subst (λ l. Takes g p (a ∷ ys) l) (sym (append-nil ms) ∙ c) (b.back a ys ms (distinct_left (document.left i) u) k)))

    back : (a : Attribute) (xs : List Attribute) (ns : List Item) → Distinct (a ∷ xs) → TakesAttribute g (behind f ws) a xs ns
        → Takes g (s_one_or_more p) (a ∷ xs) ns
    back a xs ns u k =
        let r = behind_out f a (λ ys ms. Grouped (more_of p) xs ns ys ms) xs ns (λ r k. group_left (more_of p) r xs ns ((on r).to xs ns k)) ws k in
        let s = r.beside in joined a xs ns u r.xs s.other_xs r.ms s.other_ns r.taken s.other s.shared s.items

  -- ---- the ways of a pattern

  no_ways : (Kind : Attribute → Type 0) (p : Simple ℕ) → ((a : Attribute) (xs : List Attribute) (ns : List Item) → Takes g p (a ∷ xs) ns → ⊥)
      → AreAttributeWays g Kind p []
  no_ways Kind p none = record { to = λ a xs ns kind d. absurd (none a xs ns d); back = λ a xs ns u h. absurd h }

  leaf_to : (c : _) (p : Simple ℕ) (a : Attribute) (xs : List Attribute) (ns : List Item) → Takes g (s_attribute c p) (a ∷ xs) ns
      → TakesAttribute g (alone (s_attribute c p)) a xs ns
  leaf_to c p a xs ns (t.attribute_is i w) = inl (t.attribute_is i w, t.empty_is)

  leaf_back : (c : _) (p : Simple ℕ) (a : Attribute) (xs : List Attribute) (ns : List Item) → TakesAttribute g (alone (s_attribute c p)) a xs ns
      → Takes g (s_attribute c p) (a ∷ xs) ns
  leaf_back c p a xs ns (inl (d, t.empty_is)) = d
  leaf_back c p a xs ns (inr h) = absurd h

  pub attribute_ways-are : (Kind : Attribute → Type 0) (p : Simple ℕ) → RepeatsWell p → AreAttributeWays g Kind p (attribute_ways p)
  attribute_ways-are Kind s_not_allowed o = no_ways Kind s_not_allowed (λ a xs ns d. elim d [ ])
  attribute_ways-are Kind s_empty o = no_ways Kind s_empty (λ a xs ns d. elim d [ ])
  attribute_ways-are Kind s_text o = no_ways Kind s_text (λ a xs ns d. elim d [ ])
  attribute_ways-are Kind (s_leaf k) o = no_ways Kind (s_leaf k) (λ a xs ns d. elim d [ ])
  attribute_ways-are Kind (s_attribute c p) o = record { to = λ a xs ns kind d. leaf_to c p a xs ns d; back = λ a xs ns u h. leaf_back c p a xs ns h }
  attribute_ways-are Kind (s_list p) o = no_ways Kind (s_list p) (λ a xs ns d. elim d [ ])
  attribute_ways-are Kind (s_data d) o = no_ways Kind (s_data d) (λ a xs ns e. elim e [ ])
  attribute_ways-are Kind (s_data_except d p) o = no_ways Kind (s_data_except d p) (λ a xs ns e. elim e [ ])
  attribute_ways-are Kind (s_value d v) o = no_ways Kind (s_value d v) (λ a xs ns e. elim e [ ])
  attribute_ways-are Kind (s_one_or_more p) o =
      repeat_ways Kind p o.0 (group_before (more_of p)) (attribute_ways p) (λ r. group_of-same g r (more_of p)) (attribute_ways-are Kind p o.1)
  attribute_ways-are Kind (s_joined choice p q) o =
      choice_ways Kind p q (attribute_ways p) (attribute_ways q) (attribute_ways-are Kind p o.0) (attribute_ways-are Kind q o.1)
  attribute_ways-are Kind (s_joined group p q) o =
      group_ways Kind p q (group_before q) (group_of p) (attribute_ways p) (attribute_ways q) (λ r. group_of-same g r q) (λ r. group_of-same g p r)
      (attribute_ways-are Kind p o.0) (attribute_ways-are Kind q o.1)
  attribute_ways-are Kind (s_joined interleave p q) o =
      interleave_ways Kind p q (interleave_before q) (interleave_of p) (attribute_ways p) (attribute_ways q)
      (λ r. interleave_of-same g r q) (λ r. interleave_of-same g p r) (attribute_ways-are Kind p o.0) (attribute_ways-are Kind q o.1)
