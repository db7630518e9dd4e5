-- Ways added to others.
use Rattle.std.proofs.Common.{◌≡◌, ℕ, ◌+◌, ◌<◌, ◌↔◌, ⊎_elim, All, List, [], ◌∷◌, ◌++◌, length, length-append, take, drop, get_or, slice_get, Some, zero, suc}
use Rattle.std.proofs.Common.{true, sym, ap, ap₂, ◌∙◌, subst, arith}
use Rattle.std.specs.List.{Contains}
use Rattle.std.proofs.lemmas.List.{get_or_append_left, map-append, take-append-drop}
use Rattle.std.proofs.lemmas.List.Elements.{All-append, All-tail, Contains-append_cases}
use Rattle.std.proofs.lemmas.Option.{slice_get_within, get_or_from_slice_get}
use Rattle.std.proofs.Math.Seq.{drop-cons, take-suc}
use Rattle.rng_deriv_laws.proofs.ListFacts.{behind-append}
use Rattle.rng_deriv_laws.proofs.SamePatterns.{none_is}
use Rattle.rng_model.specs.simple.Tree.{Simple, choice}
use Rattle.rng_model.specs.simple.Tree.{s_joined}
use Rattle.rng_model.specs.simple.Table.{Table}
use Rattle.rng_model.specs.matching.GrammarMatching.{Reading}
use Rattle.rng_deriv_laws.specs.plain.Taking.{Same}
use Rattle.rng_deriv_laws.specs.plain.Derivatives.{Way, behind, is_not_allowed, joined_of}
use Rattle.rng_deriv_table.specs.views.Choices.{IsAlternativeOf}
use Rattle.rng_deriv_table.specs.views.Node.{Node}
use Rattle.rng_deriv_table.specs.views.PatternTable.{Longer}
use Rattle.rng_deriv_table.specs.plain.Reduced.{HasAlternative}
use Rattle.rng_deriv_table.specs.views.Trees.{tree_of}
use Rattle.rng_deriv_table.specs.declared.pattern.PatternNumber.{PatternNumber}
use Rattle.rng_deriv_table.proofs.Choices.{only_one}
use Rattle.rng_deriv_table.proofs.Trees.{Longer-length, tree_stays}
use Rattle.rng_deriv_ways.specs.plain.Kinds.{IsLeafOf, Obeys, connector_of}
use Rattle.rng_deriv_ways.specs.plain.Ways.{AreInside, AreKept, IsHoleInside, IsInside, IsTakenOut, Offers, StandFor, way_by, ways_by, filled}
use Rattle.rng_deriv_ways.specs.declared.way.LeafWay as numbered
use Rattle.rng_deriv_ways.specs.declared.way.Hole.{Hole}
use Rattle.rng_deriv_ways.specs.declared.way.Hole.TheVariants as holes
use Rattle.rng_deriv_ways.specs.declared.way.Kind.{Kind}
use Rattle.rng_deriv_ways.specs.declared.way.Place.{Place}
use Rattle.rng_deriv_ways.proofs.KeptRestrictions.{Obeys-hereditary, choice_has, each_both, each_first, each_second}
use Rattle.rng_deriv_ways.proofs.WayLists.{inside_longer, joined_offers, nowhere_offers, offers_first, ways_stay}
use Rattle.rng_deriv_ways.proofs.NumberedWays.{stands_as}

-- an element is removed from its place
pub taken_out : {A : Type 0} (xs new : List A) (i : ℕ) (x : A) → slice_get xs i ≡ Some x → new ≡ take i xs ++ drop (suc i) xs → IsTakenOut xs new x
taken_out xs new i x found e =
    let inside = slice_get_within xs i x found in (
      take i xs,
      drop (suc i) xs,
      sym (take-append-drop i xs) ∙ ap (λ ys. take i xs ++ ys) (drop-cons xs i x inside ∙ ap (λ y. y ∷ drop (suc i) xs) (get_or_from_slice_get xs i x x found)),
      e,
    )

-- ---- one more way

pub nowhere_stands : (ns : List Node) (all : List numbered.LeafWay) (way : numbered.LeafWay) → AreInside ns all
    → ((t : Table) → true ≡ is_not_allowed (tree_of t ns way.rest.0)) → StandFor ns all (λ t. ways_by (tree_of t ns) (all ++ way ∷ []))
nowhere_stands ns all way inside none = stands_as ns all (λ t. ways_by (tree_of t ns) all ++ way_by (tree_of t ns) way ∷ [])
    (λ t. ways_by (tree_of t ns) (all ++ way ∷ [])) (λ t. sym (map-append (way_by (tree_of t ns)) all (way ∷ []))) (record {
      inside = inside;
      offers = λ t g xs ks ys ms. (
        λ h. offers_first g xs ks ys ms (ways_by (tree_of t ns) all) (way_by (tree_of t ns) way ∷ []) h,
        λ h. nowhere_offers g xs ks ys ms (ways_by (tree_of t ns) all) (way_by (tree_of t ns) way) (none_is _ (sym (none t))) h,
      );
      kept = λ t kind place h. each_first _ _ (ways_by (tree_of t ns) all) (way_by (tree_of t ns) way ∷ []) h;
    })

pub front_inside : (ns : List Node) (xs ys : List numbered.LeafWay) → AreInside ns (xs ++ ys) → AreInside ns xs
front_inside ns xs ys h = λ i d l. subst (IsInside ns) (get_or_append_left xs ys d i l) (h i d (omega (arith, l, length-append xs ys)))

pub back_inside : (ns : List Node) (xs ys : List numbered.LeafWay) → AreInside ns (xs ++ ys) → AreInside ns ys
back_inside ns [] ys h = h
back_inside ns (x ∷ xs) ys h = back_inside ns xs ys (All-tail (IsInside ns) x (xs ++ ys) h)

pub one_inside : (ns : List Node) (w : numbered.LeafWay) → IsInside ns w → AreInside ns (w ∷ [])
one_inside ns w h (zero) d l = h
one_inside ns w h (suc i) d l = absurd (omega (arith, l))

pub two_below : (n : ℕ) (a b : PatternNumber) → a.0 < n → b.0 < n → All (λ (m : PatternNumber). m.0 < n) (a ∷ b ∷ [])
two_below n a b h k (zero) d l = h
two_below n a b h k (suc zero) d l = k
two_below n a b h k (suc (suc i)) d l = absurd (omega (arith, l))

pub either_member : (Q : PatternNumber → Type 0) (a b m : PatternNumber) → Q a → Q b → Contains (a ∷ b ∷ []) m → Q m
either_member Q a b m h k c =
    ⊎_elim (λ e. subst Q (only_one a m e) h) (λ e. subst Q (only_one b m e) k) (Contains-append_cases (a ∷ []) (b ∷ []) m c)

module _ (old new : List Node) (front back : List numbered.LeafWay) (other way : numbered.LeafWay) (rest : PatternNumber)
    (longer : Longer old new) (all_inside : AreInside old (front ++ other ∷ back)) (way_inside : IsInside old way) (leaf : other.leaf ≡ way.leaf)
    (rest_inside : rest.0 < length new)
    (same : (t : Table) (g : Reading) → Same g (tree_of t new rest.0) (s_joined choice (tree_of t old other.rest.0) (tree_of t old way.rest.0)))
    (alternatives : (t : Table) (s : Simple ℕ) → HasAlternative (tree_of t new rest.0) s → IsAlternativeOf (tree_of t old) (other.rest ∷ way.rest ∷ []) s)
  where
    abbrev both : numbered.LeafWay
    both = record { leaf = way.leaf; rest = rest }

    others_inside : AreInside old (front ++ back)
    others_inside = All-append (IsInside old) front back (front_inside old front (other ∷ back) all_inside)
        (All-tail (IsInside old) other back (back_inside old front (other ∷ back) all_inside))

    abbrev more : List numbered.LeafWay
    more = (front ++ back) ++ both ∷ []

    more_inside : AreInside new more
    more_inside =
        let long = Longer-length old new longer in
        let leaf_inside = way_inside.0 in
        All-append (IsInside new) (front ++ back) (both ∷ []) (inside_longer old new (front ++ back) longer others_inside)
        (one_inside new both (omega (arith, leaf_inside, long), rest_inside))

    module _ (t : Table) where
      abbrev F : List Way
      F = ways_by (tree_of t old) front

      abbrev B : List Way
      B = ways_by (tree_of t old) back

      abbrev V : Way
      V = way_by (tree_of t old) other

      abbrev W : Way
      W = way_by (tree_of t old) way

      abbrev N : Way
      N = way_by (tree_of t new) both

      before : ways_by (tree_of t old) ((front ++ other ∷ back) ++ way ∷ []) ≡ (F ++ V ∷ B) ++ W ∷ []
      before = map-append (way_by (tree_of t old)) (front ++ other ∷ back) (way ∷ [])
          ∙ ap (λ us. us ++ W ∷ []) (map-append (way_by (tree_of t old)) front (other ∷ back))

      after : ways_by (tree_of t new) more ≡ (F ++ B) ++ N ∷ []
      after = map-append (way_by (tree_of t new)) (front ++ back) (both ∷ [])
          ∙ ap (λ us. us ++ N ∷ []) (ways_stay t old new (front ++ back) longer others_inside ∙ map-append (way_by (tree_of t old)) front back)

      leaf_stays : tree_of t new way.leaf.0 ≡ tree_of t old way.leaf.0
      leaf_stays = tree_stays t old new way.leaf.0 longer way_inside.0

      leaf_is : tree_of t old other.leaf.0 ≡ tree_of t old way.leaf.0
      leaf_is = ap (λ (l : PatternNumber). tree_of t old l.0) leaf

      rests_obey : (place : Place) → Obeys place V.rest → Obeys place W.rest → Obeys place N.rest
      rests_obey place h k = choice_has (Obeys place) (Obeys-hereditary place) (tree_of t old) (other.rest ∷ way.rest ∷ []) N.rest (alternatives t)
          (λ m c. either_member (λ n. Obeys place (tree_of t old n.0)) other.rest way.rest m h k c)

      kept_before : (kind : Kind) (place : Place) → AreKept kind place ((F ++ V ∷ B) ++ W ∷ []) → AreKept kind place ((F ++ B) ++ N ∷ [])
      kept_before kind place h =
          let firsts = each_first _ _ (F ++ V ∷ B) (W ∷ []) h in
          let last = each_second _ _ (F ++ V ∷ B) (W ∷ []) h in
          let rests = each_second _ _ F (V ∷ B) firsts in
          let Leaf : Simple ℕ → Type 0 = λ l. IsLeafOf kind l × Obeys place l in
          each_both _ _ (F ++ B) (N ∷ []) (each_both _ _ F B (each_first _ _ F (V ∷ B) firsts) rests.1)
          ((subst Leaf (sym leaf_stays) last.0.0, rests_obey place rests.0.1 last.0.1), tt)

    pub joined_stands : StandFor new ((front ++ back) ++ record { leaf = way.leaf; rest = rest } ∷ [])
        (λ t. ways_by (tree_of t old) ((front ++ other ∷ back) ++ way ∷ []))
    joined_stands = record {
      inside = more_inside;
      offers = λ t g xs ks ys ms.
          let e = joined_offers g xs ks ys ms (F t) (B t) (V t) (W t) (N t) (leaf_stays t ∙ sym (leaf_is t)) (leaf_is t) (same t g) in
          subst (λ us. Offers g us xs ks ys ms ↔ Offers g (ways_by (tree_of t old) ((front ++ other ∷ back) ++ way ∷ [])) xs ks ys ms) (sym (after t))
          (subst (λ us. Offers g ((F t ++ B t) ++ N t ∷ []) xs ks ys ms ↔ Offers g us xs ks ys ms) (sym (before t)) (e.1, e.0));
      kept = λ t kind place h. subst (AreKept kind place) (sym (after t)) (kept_before t kind place (subst (AreKept kind place) (before t) h));
    }

-- ---- a side in a hole

-- one more way of the side
pub filled_more : (t : Table) (base new : List Node) (hole : Hole) (ways : List numbered.LeafWay) (i : ℕ) (d : numbered.LeafWay) (leaf rest : PatternNumber)
    → i < length ways → Longer base new → IsInside base (get_or ways i d) → leaf ≡ (get_or ways i d).leaf
    → tree_of t new rest.0 ≡ filled (tree_of t base) hole (tree_of t base (get_or ways i d).rest.0)
    → behind (filled (tree_of t base) hole) (ways_by (tree_of t base) (take i ways)) ++ way_by (tree_of t new) (record { leaf = leaf; rest = rest }) ∷ []
    ≡ behind (filled (tree_of t base) hole) (ways_by (tree_of t base) (take (i + 1) ways))
filled_more t base new hole ways i d leaf rest within longer inside leaf_is rest_is =
    let f = tree_of t base in
    let next : i + 1 ≡ suc i = omega arith in
    let one : way_by (tree_of t new) (record { leaf = leaf; rest = rest }) ≡ record {
      leaf = f (get_or ways i d).leaf.0;
      rest = filled f hole
          (f (get_or ways i d).rest.0);
    } =
    ap₂ (λ p q. record { leaf = p; rest = q }) (ap (λ (l : PatternNumber). tree_of t new l.0) leaf_is ∙ tree_stays t base new _ longer inside.0) rest_is in
    ap (λ w. behind (filled f hole) (ways_by f (take i ways)) ++ w ∷ []) one
    ∙ sym (ap (λ ws. behind (filled f hole) (ways_by f ws)) (ap (λ k. take k ways) next ∙ take-suc ways i d within)
    ∙ ap (behind (filled f hole)) (map-append (way_by f) (take i ways) (get_or ways i d ∷ []))
    ∙ behind-append (filled f hole) (ways_by f (take i ways)) (way_by f (get_or ways i d) ∷ []))

-- a hole is the same in a longer table
pub filled_stays : (t : Table) (old new : List Node) (hole : Hole) (r : ℕ) → Longer old new → IsHoleInside old hole → r < length old
    → filled (tree_of t new) hole (tree_of t new r) ≡ filled (tree_of t old) hole (tree_of t old r)
filled_stays t old new holes.Whole r longer inside h = tree_stays t old new r longer h
filled_stays t old new (holes.First joint n) r longer inside h =
    ap₂ (joined_of (connector_of joint)) (tree_stays t old new r longer h) (tree_stays t old new n.0 longer inside)
filled_stays t old new (holes.Second joint n) r longer inside h =
    ap₂ (joined_of (connector_of joint)) (tree_stays t old new n.0 longer inside) (tree_stays t old new r longer h)
