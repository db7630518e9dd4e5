-- What lists of ways offer: concatenated, in longer tables, and with joined rests.
use Rattle.std.proofs.Common.{◌≡◌, ℕ, ◌↔◌, ◌⊎◌, inl, inr, ⊎_elim, List, [], ◌∷◌, ◌++◌, refl, sym, ap₂, ◌∙◌, subst, arith}
use Rattle.std.proofs.lemmas.List.Elements.{All-tail}
use Rattle.rng_model.specs.names.Lists.{Among, here, there}
use Rattle.rng_model.specs.simple.Tree.{Simple, choice, s_not_allowed, s_joined}
use Rattle.rng_model.specs.matching.Document.{Attribute, Item}
use Rattle.rng_model.specs.simple.Table.{Table}
use Rattle.rng_model.specs.matching.GrammarMatching.{Reading}
use Rattle.rng_deriv_laws.specs.plain.Taking.{Takes, Same}
use Rattle.rng_deriv_laws.specs.plain.Taking as t
use Rattle.rng_deriv_laws.specs.plain.Derivatives.{Way}
use Rattle.rng_deriv_laws.specs.plain.Ways.{TakesItem, TakesAttribute}
use Rattle.rng_deriv_laws.proofs.SameWays.{item_among, item_way, attribute_among, attribute_way}
use Rattle.rng_deriv_laws.proofs.ItemWays as items
use Rattle.rng_deriv_laws.proofs.AttributeWays as attributes
use Rattle.rng_deriv_table.specs.views.Node.{Node}
use Rattle.rng_deriv_table.specs.views.PatternTable.{Longer}
use Rattle.rng_deriv_table.specs.views.Trees.{tree_of}
use Rattle.rng_deriv_table.proofs.Trees.{Longer-length, tree_stays}
use Rattle.rng_deriv_ways.specs.plain.Ways.{AreInside, AreWays, IsInside, Offers, ways_by}
use Rattle.rng_deriv_ways.specs.declared.way.LeafWay as numbered
use Rattle.rng_deriv_ways.specs.declared.way.Kind.{Kind}
use Rattle.rng_deriv_ways.specs.declared.way.Kind.TheVariants as kinds

-- ---- lists

pub among_first : {A : Type 0} (xs ys : List A) (x : A) → Among x xs → Among x (xs ++ ys)
among_first [] ys y a = elim a [ ]
among_first (x ∷ xs) ys y here = here
among_first (x ∷ xs) ys y (there a) = there (among_first xs ys y a)

pub among_second : {A : Type 0} (xs ys : List A) (x : A) → Among x ys → Among x (xs ++ ys)
among_second [] ys y a = a
among_second (x ∷ xs) ys y a = there (among_second xs ys y a)

pub among_both : {A : Type 0} (xs ys : List A) (x : A) → Among x (xs ++ ys) → Among x xs ⊎ Among x ys
among_both [] ys y a = inr a
among_both (x ∷ xs) ys y here = inl here
among_both (x ∷ xs) ys y (there a) = ⊎_elim (λ b. inl (there b)) (λ b. inr b) (among_both xs ys y a)

-- ---- numbered ways

-- adding patterns changes no way
pub ways_stay : (t : Table) (old new : List Node) (ws : List numbered.LeafWay) → Longer old new → AreInside old ws
    → ways_by (tree_of t new) ws ≡ ways_by (tree_of t old) ws
ways_stay t old new [] longer inside = refl
ways_stay t old new (w ∷ ws) longer inside =
    let own : IsInside old w = inside 0 w (omega arith) in
    ap₂ (λ (v : Way) vs. v ∷ vs)
    (ap₂ (λ p q. record { leaf = p; rest = q }) (tree_stays t old new w.leaf.0 longer own.0) (tree_stays t old new w.rest.0 longer own.1))
    (ways_stay t old new ws longer (All-tail (IsInside old) w ws inside))

pub inside_longer : (old new : List Node) (ws : List numbered.LeafWay) → Longer old new → AreInside old ws → AreInside new ws
inside_longer old new ws longer inside = λ i d h.
    let was = inside i d h in
    let long = Longer-length old new longer in
    let leaf = was.0 in
    let rest = was.1 in
    (omega (arith, leaf, long), omega (arith, rest, long))

module _ (g : Reading) (xs : List Attribute) (ks : List Item) (ys : List Attribute) (ms : List Item) where
  -- ---- concatenation

  pub offers_first : (ws vs : List Way) → Offers g ws xs ks ys ms → Offers g (ws ++ vs) xs ks ys ms
  offers_first ws vs h = (h.0, among_first ws vs h.0 h.1, h.2, h.3)

  pub offers_second : (ws vs : List Way) → Offers g vs xs ks ys ms → Offers g (ws ++ vs) xs ks ys ms
  offers_second ws vs h = (h.0, among_second ws vs h.0 h.1, h.2, h.3)

  pub offers_both : (ws vs : List Way) → Offers g (ws ++ vs) xs ks ys ms → Offers g ws xs ks ys ms ⊎ Offers g vs xs ks ys ms
  offers_both ws vs h = ⊎_elim (λ a. inl (h.0, a, h.2, h.3)) (λ a. inr (h.0, a, h.2, h.3)) (among_both ws vs h.0 h.1)

  pub append_offers : (ws ws' vs vs' : List Way) → (Offers g ws xs ks ys ms ↔ Offers g ws' xs ks ys ms)
      → (Offers g vs xs ks ys ms ↔ Offers g vs' xs ks ys ms) → Offers g (ws ++ vs) xs ks ys ms ↔ Offers g (ws' ++ vs') xs ks ys ms
  append_offers ws ws' vs vs' e f = (
    λ h. ⊎_elim (λ a. offers_first ws' vs' (e.0 a)) (λ b. offers_second ws' vs' (f.0 b)) (offers_both ws vs h),
    λ h. ⊎_elim (λ a. offers_first ws vs (e.1 a)) (λ b. offers_second ws vs (f.1 b)) (offers_both ws' vs' h),
  )

  -- a way whose rest is notAllowed
  pub nowhere_offers : (ws : List Way) (w : Way) → w.rest ≡ s_not_allowed → Offers g (ws ++ w ∷ []) xs ks ys ms → Offers g ws xs ks ys ms
  nowhere_offers ws w e h = ⊎_elim (λ a. a) (λ b. only b.0 b.1 b.3) (offers_both ws (w ∷ []) h) where
    only : (v : Way) → Among v (w ∷ []) → Takes g v.rest ys ms → Offers g ws xs ks ys ms
    only v here d = elim (subst (λ p. Takes g p ys ms) e d) [ ]
    only v (there a) d = elim a [ ]

  -- two ways with one leaf, with a choice of their rests
  pub joined_offers : (front back : List Way) (v w n : Way) → n.leaf ≡ v.leaf → v.leaf ≡ w.leaf → Same g n.rest (s_joined choice v.rest w.rest)
      → Offers g ((front ++ v ∷ back) ++ w ∷ []) xs ks ys ms ↔ Offers g ((front ++ back) ++ n ∷ []) xs ks ys ms
  joined_offers front back v w n leaf same_leaf same = (to, from) where
    first_in : Offers g (v ∷ back) xs ks ys ms → Offers g ((front ++ back) ++ n ∷ []) xs ks ys ms
    first_in (u, here, d, e) = (
      n,
      among_second (front ++ back) (n ∷ []) n here,
      subst (λ p. Takes g p xs ks) (sym leaf) d,
      same.back ys ms (t.first e),
    )
    first_in (u, there a, d, e) = (u, among_first (front ++ back) (n ∷ []) u (among_second front back u a), d, e)

    last_in : Offers g (w ∷ []) xs ks ys ms → Offers g ((front ++ back) ++ n ∷ []) xs ks ys ms
    last_in (u, here, d, e) = (
      n,
      among_second (front ++ back) (n ∷ []) n here,
      subst (λ p. Takes g p xs ks) (sym (leaf ∙ same_leaf)) d,
      same.back ys ms (t.second e),
    )
    last_in (u, there a, d, e) = elim a [ ]

    to : Offers g ((front ++ v ∷ back) ++ w ∷ []) xs ks ys ms → Offers g ((front ++ back) ++ n ∷ []) xs ks ys ms
    to h = ⊎_elim
        (λ a. ⊎_elim (λ b. offers_first (front ++ back) (n ∷ []) (offers_first front back b)) first_in (offers_both front (v ∷ back) a))
        last_in (offers_both (front ++ v ∷ back) (w ∷ []) h)

    parted : Takes g n.leaf xs ks → Takes g (s_joined choice v.rest w.rest) ys ms → Offers g ((front ++ v ∷ back) ++ w ∷ []) xs ks ys ms
    parted d (t.first e) = (
      v,
      among_first (front ++ v ∷ back) (w ∷ []) v (among_second front (v ∷ back) v here),
      subst (λ p. Takes g p xs ks) leaf d,
      e,
    )
    parted d (t.second e) = (w, among_second (front ++ v ∷ back) (w ∷ []) w here, subst (λ p. Takes g p xs ks) (leaf ∙ same_leaf) d, e)

    last_out : Offers g (n ∷ []) xs ks ys ms → Offers g ((front ++ v ∷ back) ++ w ∷ []) xs ks ys ms
    last_out (u, here, d, e) = parted d (same.to ys ms e)
    last_out (u, there a, d, e) = elim a [ ]

    others_out : Offers g (front ++ back) xs ks ys ms → Offers g (front ++ v ∷ back) xs ks ys ms
    others_out h = ⊎_elim (λ b. offers_first front (v ∷ back) b) (λ b. offers_second front (v ∷ back) (b.0, there b.1, b.2, b.3)) (offers_both front back h)

    from : Offers g ((front ++ back) ++ n ∷ []) xs ks ys ms → Offers g ((front ++ v ∷ back) ++ w ∷ []) xs ks ys ms
    from h = ⊎_elim (λ a. offers_first (front ++ v ∷ back) (w ∷ []) (others_out a)) last_out (offers_both (front ++ back) (n ∷ []) h)

-- ---- ways that offer the same are ways of the same patterns

abbrev pub OfferSame : Reading → List Way → List Way → Type 0
OfferSame g ws vs = (xs : List Attribute) (ks : List Item) (ys : List Attribute) (ms : List Item) → Offers g ws xs ks ys ms ↔ Offers g vs xs ks ys ms

module _ (g : Reading) where
  item_moves : (ws vs : List Way) → OfferSame g ws vs → (n : Item) (ns : List Item) → TakesItem g ws n ns → TakesItem g vs n ns
  item_moves ws vs same n ns h = let v = (same [] (n ∷ []) [] ns).0 (item_way g ws n ns h) in item_among g vs v.0 n ns v.1 v.2 v.3

  attribute_moves : (ws vs : List Way) → OfferSame g ws vs → (a : Attribute) (xs : List Attribute) (ns : List Item) → TakesAttribute g ws a xs ns
      → TakesAttribute g vs a xs ns
  attribute_moves ws vs same a xs ns h = let v = (same (a ∷ []) [] xs ns).0 (attribute_way g ws a xs ns h) in attribute_among g vs v.0 a xs ns v.1 v.2 v.3

  turned : (ws vs : List Way) → OfferSame g ws vs → OfferSame g vs ws
  turned ws vs same = λ xs ks ys ms. let e = same xs ks ys ms in (e.1, e.0)

  pub law_moves : (kind : Kind) (p : Simple ℕ) (ws vs : List Way) → OfferSame g ws vs → AreWays g kind p ws → AreWays g kind p vs
  law_moves (kinds.Element q) p ws vs same law =
      items.ways_that_take_the_same g _ p ws vs (item_moves ws vs same) (item_moves vs ws (turned ws vs same)) law
  law_moves (kinds.Attribute q) p ws vs same law = λ well.
      attributes.ways_that_take_the_same g _ p ws vs (attribute_moves ws vs same) (attribute_moves vs ws (turned ws vs same)) (law well)
  law_moves kinds.Text p ws vs same law =
      items.ways_that_take_the_same g _ p ws vs (item_moves ws vs same) (item_moves vs ws (turned ws vs same)) law
