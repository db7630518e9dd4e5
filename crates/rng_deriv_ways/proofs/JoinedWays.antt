-- Ways with the same leaf are joined into one, whose rest is the choice of their rests.
use Rattle.std.proofs.Common.{IsPermutation, ◌≡◌, ℕ, suc, ◌+◌, ◌<◌, ◌≤◌, ◌↔◌, ◌⊎◌, inl, inr, ⊎_elim, List, [], ◌∷◌, ◌++◌, length, take, get_or, refl, sym, ap}
use Rattle.std.proofs.Common.{◌∙◌, subst, arith}
use Rattle.std.specs.List.{Contains}
use Rattle.std.proofs.lemmas.List.Sorted.{Contains-permutation, IsPermutation-sym}
use Rattle.std.proofs.lemmas.List.{length_push, take_all}
use Rattle.std.proofs.lemmas.List.Elements.{All-append, All-contains, Contains-append_cases, Contains-append_left, Contains-append_right, Contains-get_or}
use Rattle.std.proofs.lemmas.List.Elements.{Contains-push}
use Rattle.std.proofs.lemmas.List.Elements.{Contains-push_cases}
use Rattle.std.proofs.Math.Seq.{take-suc}
use Rattle.rng_model.specs.names.Lists.{Among, here, there}
use Rattle.rng_model.specs.simple.Tree.{Simple}
use Rattle.rng_model.specs.matching.Document.{Attribute, Item}
use Rattle.rng_model.specs.simple.Table.{Table}
use Rattle.rng_model.specs.matching.GrammarMatching.{Reading}
use Rattle.rng_deriv_laws.specs.plain.Taking.{Takes}
use Rattle.rng_deriv_laws.specs.plain.Derivatives as tree
use Rattle.rng_deriv_laws.specs.plain.Ways.{EachWay}
use Rattle.rng_deriv_table.specs.views.Choices.{IsAlternativeOf, SomeTakes}
use Rattle.rng_deriv_table.specs.views.Node.{Node}
use Rattle.rng_deriv_table.specs.views.PatternTable.{Longer}
use Rattle.rng_deriv_table.specs.plain.Reduced.{HasAlternative}
use Rattle.rng_deriv_table.specs.views.Trees.{tree_of}
use Rattle.rng_deriv_table.specs.declared.pattern.PatternNumber.{PatternNumber}
use Rattle.rng_deriv_table.proofs.Trees.{Longer-length, Longer-trans, tree_stays}
use Rattle.rng_deriv_ways.specs.plain.Kinds.{IsLeafOf, Obeys}
use Rattle.rng_deriv_ways.specs.plain.Ways.{AreInside, IsInside, IsRun, Offers, StandFor, way_at, way_by, ways_by}
use Rattle.rng_deriv_ways.specs.declared.way.LeafWay.{LeafWay}
use Rattle.rng_deriv_ways.proofs.AddedWays.{one_inside}
use Rattle.rng_deriv_ways.proofs.KeptRestrictions.{Obeys-hereditary, alternative_has, has_of_alternatives}
use Rattle.rng_deriv_ways.proofs.WayLists.{inside_longer}

pub one_more_taken : {A : Type 0} (xs : List A) (i : ℕ) (d : A) → i < length xs → take i xs ++ get_or xs i d ∷ [] ≡ take (i + 1) xs
one_more_taken xs i d inside = let next : i + 1 ≡ suc i = omega arith in sym (ap (λ k. take k xs) next ∙ take-suc xs i d inside)

-- the way to this rest
abbrev pub way_to : PatternNumber → PatternNumber → LeafWay
way_to leaf rest = record { leaf = leaf; rest = rest }

-- ---- numbered ways and their trees

pub among_ways : (f : ℕ → Simple ℕ) (ws : List LeafWay) (w : tree.Way) → Among w (ways_by f ws) → (v : LeafWay) × Contains ws v × (way_by f v ≡ w)
among_ways f [] w a = elim a [ ]
among_ways f (v ∷ ws) w here = (v, Contains-append_left (v ∷ []) ws v (Contains-push [] v), refl)
among_ways f (v ∷ ws) w (there a) = let h = among_ways f ws w a in (h.0, Contains-append_right (v ∷ []) ws h.0 h.1, h.2)

first_or_later : (w v : LeafWay) (ws : List LeafWay) → Contains (w ∷ ws) v → (w ≡ v) ⊎ Contains ws v
first_or_later w v ws c = ⊎_elim
    (λ h. ⊎_elim (λ none. absurd (let k = none.1 in omega (arith, k))) (λ e. inl e) (Contains-push_cases [] w v h))
    (λ h. inr h) (Contains-append_cases (w ∷ []) ws v c)

pub ways_among : (f : ℕ → Simple ℕ) (ws : List LeafWay) (v : LeafWay) → Contains ws v → Among (way_by f v) (ways_by f ws)
ways_among f [] v c = absurd (let h = c.1 in omega (arith, h))
ways_among f (w ∷ ws) v c =
    ⊎_elim (λ e. subst (λ x. Among (way_by f x) (ways_by f (w ∷ ws))) e here) (λ h. there (ways_among f ws v h)) (first_or_later w v ws c)

pub each_way : (P Q : Simple ℕ → Type 0) (f : ℕ → Simple ℕ) (ws : List LeafWay) → EachWay P Q (ways_by f ws) → (v : LeafWay) → Contains ws v
    → P (f v.leaf.0) × Q (f v.rest.0)
each_way P Q f [] h v c = absurd (let k = c.1 in omega (arith, k))
each_way P Q f (w ∷ ws) h v c =
    ⊎_elim (λ e. subst (λ (x : LeafWay). P (f x.leaf.0) × Q (f x.rest.0)) e h.0) (λ k. each_way P Q f ws h.1 v k) (first_or_later w v ws c)

pub all_ways : (P Q : Simple ℕ → Type 0) (f : ℕ → Simple ℕ) (ws : List LeafWay) → ((v : LeafWay) → Contains ws v → P (f v.leaf.0) × Q (f v.rest.0))
    → EachWay P Q (ways_by f ws)
all_ways P Q f [] each = tt
all_ways P Q f (w ∷ ws) each = (
  each w (Contains-append_left (w ∷ []) ws w (Contains-push [] w)),
  all_ways P Q f ws (λ v c. each v (Contains-append_right (w ∷ []) ws v c)),
)

-- ---- the way into which those with one leaf are joined

module _ (old : List Node) (ways : List LeafWay) where
  -- what is left after the leaf takes these
  abbrev pub TakesBehind : PatternNumber → Table → Reading → List Attribute → List Item → Type 0
  TakesBehind leaf t g xs ns = (r : PatternNumber) × Contains ways (way_to leaf r) × Takes g (tree_of t old r.0) xs ns

  -- the way has the leaf of some ways, and a choice of some of their rests
  pub record IsJoin (new : List Node) (w : LeafWay) : Type 0 where
    pub some : (r : PatternNumber) × Contains ways (way_to w.leaf r)
    pub takes : (t : Table) (g : Reading) (xs : List Attribute) (ns : List Item) → Takes g (tree_of t new w.rest.0) xs ns → TakesBehind w.leaf t g xs ns
    pub alternatives : (t : Table) (s : Simple ℕ) → HasAlternative (tree_of t new w.rest.0) s
        → (r : PatternNumber) × Contains ways (way_to w.leaf r) × HasAlternative (tree_of t old r.0) s

  -- one of these has the leaf of the way, and takes what its rest takes
  abbrev pub HasJoin : List Node → List LeafWay → LeafWay → Type 0
  HasJoin new all v = (w : LeafWay) × Contains all w × (w.leaf ≡ v.leaf)
      × ((t : Table) (g : Reading) (xs : List Attribute) (ns : List Item) → Takes g (tree_of t old v.rest.0) xs ns → Takes g (tree_of t new w.rest.0) xs ns)

  -- the first ways are joined
  pub record AreJoined (new : List Node) (all : List LeafWay) (i : ℕ) : Type 0 where
    pub longer : Longer old new
    pub inside : AreInside new all
    pub joins : (w : LeafWay) → Contains all w → IsJoin new w
    pub met : (v : LeafWay) → Contains (take i ways) v → HasJoin new all v

  pub join_stays : (new more : List Node) (w : LeafWay) → Longer new more → IsInside new w → IsJoin new w → IsJoin more w
  join_stays new more w longer inside h =
      let stays : (t : Table) → tree_of t more w.rest.0 ≡ tree_of t new w.rest.0 = λ t. tree_stays t new more w.rest.0 longer inside.1 in
      record {
        some = h.some;
        takes = λ t g xs ns d. h.takes t g xs ns (subst (λ p. Takes g p xs ns) (stays t) d);
        alternatives = λ t s a. h.alternatives t s (subst (λ p. HasAlternative p s) (stays t) a);
      }

  module _ (are_inside : AreInside old ways) where
    rest_inside : (leaf r : PatternNumber) → Contains ways (way_to leaf r) → r.0 < length old
    rest_inside leaf r c = (All-contains (IsInside old) ways (way_to leaf r) are_inside c).1

    pub rests_inside : (base : List Node) (start : ℕ) (rests : List PatternNumber) → Longer old base → IsRun ways start rests
        → (r : PatternNumber) → Contains rests r → r.0 < length base
    rests_inside base start rests longer run r c =
        let own = rest_inside (way_at ways start).leaf r (run.own r c) in
        let long = Longer-length old base longer in
        omega (arith, own, long)

    -- the ways of the next run are joined
    pub run_joined : (base new : List Node) (all : List LeafWay) (start : ℕ) (n : PatternNumber) (rests : List PatternNumber) → start < length ways
        → Longer base new → n.0 < length new → IsRun ways start rests
        → ((t : Table) (g : Reading) (xs : List Attribute) (ns : List Item) → Takes g (tree_of t new n.0) xs ns ↔ SomeTakes g (tree_of t base) rests xs ns)
        → ((t : Table) (s : Simple ℕ) → HasAlternative (tree_of t new n.0) s → IsAlternativeOf (tree_of t base) rests s)
        → AreJoined base all start → AreJoined new (all ++ way_to (way_at ways start).leaf n ∷ []) (start + length rests)
    run_joined base new all start n rests within longer inside run takes alternatives h =
        let leaf = (way_at ways start).leaf in
        let w = way_to leaf n in
        let all_longer = Longer-trans old base new h.longer longer in
        let first = Contains-get_or ways start (way_to (record { 0 = 0 }) (record { 0 = 0 })) within in
        let leaf_inside = (All-contains (IsInside old) ways (way_at ways start) are_inside first).0 in
        let long = Longer-length old new all_longer in
        let stays : (t : Table) (r : PatternNumber) → Contains rests r → tree_of t base r.0 ≡ tree_of t old r.0 =
        λ t r c. tree_stays t old base r.0 h.longer (rest_inside leaf r (run.own r c)) in
        let join : IsJoin new w = record {
          some = ((way_at ways start).rest, first);
          takes = λ t g xs ns d.
              let k = (takes t g xs ns).0 d in
              (k.0, run.own k.0 k.1, subst (λ p. Takes g p xs ns) (stays t k.0 k.1) k.2);
          alternatives = λ t s a.
              let k = alternatives t s a in
              (k.0, run.own k.0 k.1, subst (λ p. HasAlternative p s) (stays t k.0 k.1) k.2);
        } in
        record {
          longer = all_longer;
          inside = All-append (IsInside new) all (w ∷ []) (inside_longer base new all longer h.inside)
              (one_inside new w (omega (arith, leaf_inside, long), inside));
          joins = λ v c. ⊎_elim (λ k. join_stays base new v longer (All-contains (IsInside base) all v h.inside k) (h.joins v k))
              (λ e. subst (IsJoin new) e join) (Contains-push_cases all w v c);
          met = λ v c. ⊎_elim
              (λ k.
              let o = h.met v k in
              let there = All-contains (IsInside base) all o.0 h.inside o.1 in (
                o.0,
                Contains-append_left all (w ∷ []) o.0 o.1,
                o.2,
                λ t g xs ns d. subst (λ p. Takes g p xs ns) (sym (tree_stays t base new o.0.rest.0 longer there.1)) (o.3 t g xs ns d),
              ))
              (λ k. (
                w,
                Contains-push all w,
                sym k.0,
                λ t g xs ns d. (takes t g xs ns).1
                    (v.rest, k.1, subst (λ p. Takes g p xs ns) (sym (stays t v.rest k.1)) d),
              ))
              (run.all v c);
        }

    -- the joined ways represent all ways
    pub joined_stand : (new : List Node) (all : List LeafWay) (i : ℕ) → length ways ≤ i → AreJoined new all i → StandFor new all (λ t. ways_by (tree_of t old) ways)
    joined_stand new all i end h = record {
      inside = h.inside;
      offers = λ t g xs ks ys ms. (onward t g xs ks ys ms, back t g xs ks ys ms);
      kept = λ t kind place k. all_ways _ _ (tree_of t new) all (λ w c.
          let j = h.joins w c in
          let own = each_way _ _ (tree_of t old) ways k (way_to w.leaf j.some.0) j.some.1 in
          let Leaf : Simple ℕ → Type 0 = λ l. IsLeafOf kind l × Obeys place l in (
            subst Leaf (sym (leaf_stays t w j.some.0 j.some.1)) own.0,
            has_of_alternatives (Obeys place) (Obeys-hereditary place) (tree_of t new w.rest.0) (λ s a.
                let alternative = j.alternatives t s a in
                alternative_has (Obeys place) (Obeys-hereditary place) (tree_of t old alternative.0.0) s
                (each_way _ _ (tree_of t old) ways k (way_to w.leaf alternative.0) alternative.1).1 alternative.2),
          ));
    }
      where
        leaf_stays : (t : Table) (w : LeafWay) (r : PatternNumber) → Contains ways (way_to w.leaf r) → tree_of t new w.leaf.0 ≡ tree_of t old w.leaf.0
        leaf_stays t w r c = tree_stays t old new w.leaf.0 h.longer (All-contains (IsInside old) ways (way_to w.leaf r) are_inside c).0

        onward : (t : Table) (g : Reading) (xs : List Attribute) (ks : List Item) (ys : List Attribute) (ms : List Item)
            → Offers g (ways_by (tree_of t new) all) xs ks ys ms → Offers g (ways_by (tree_of t old) ways) xs ks ys ms
        onward t g xs ks ys ms o =
            let v = among_ways (tree_of t new) all o.0 o.1 in
            let w = v.0 in
            let j = h.joins w v.1 in
            let left = (j.takes t g ys ms (subst (λ (x : tree.Way). Takes g x.rest ys ms) (sym v.2) o.3)) in (
              way_by (tree_of t old) (way_to w.leaf left.0),
              ways_among (tree_of t old) ways (way_to w.leaf left.0) left.1,
              subst (λ p. Takes g p xs ks) (leaf_stays t w left.0 left.1) (subst (λ (x : tree.Way). Takes g x.leaf xs ks) (sym v.2) o.2),
              left.2,
            )

        back : (t : Table) (g : Reading) (xs : List Attribute) (ks : List Item) (ys : List Attribute) (ms : List Item)
            → Offers g (ways_by (tree_of t old) ways) xs ks ys ms → Offers g (ways_by (tree_of t new) all) xs ks ys ms
        back t g xs ks ys ms o =
            let v = among_ways (tree_of t old) ways o.0 o.1 in
            let w = h.met v.0 (subst (λ ws. Contains ws v.0) (sym (take_all i ways end)) v.1) in
            let own : Contains ways (way_to w.0.leaf v.0.rest) = subst (λ l. Contains ways (way_to l v.0.rest)) (sym w.2) v.1 in
            let leaf : tree_of t old v.0.leaf.0 ≡ tree_of t new w.0.leaf.0 =
            ap (λ (l : PatternNumber). tree_of t old l.0) (sym w.2) ∙ sym (leaf_stays t w.0 v.0.rest own) in (
              way_by (tree_of t new) w.0,
              ways_among (tree_of t new) all w.0 w.1,
              subst (λ p. Takes g p xs ks) leaf (subst (λ (x : tree.Way). Takes g x.leaf xs ks) (sym v.2) o.2),
              w.3 t g ys ms (subst (λ (x : tree.Way). Takes g x.rest ys ms) (sym v.2) o.3),
            )

-- ---- runs

-- the first way of a run
pub run_begins : (ways : List LeafWay) (start : ℕ) → start < length ways → IsRun ways start ((way_at ways start).rest ∷ [])
run_begins ways start inside = record {
  some = omega arith;
  within = omega (arith, inside);
  all = λ v c. ⊎_elim (λ k. inl k)
      (λ e. inr (
        sym (ap (λ (w : LeafWay). w.leaf) e),
        subst (Contains ((way_at ways start).rest ∷ [])) (ap (λ (w : LeafWay). w.rest) e) (Contains-push [] (way_at ways start).rest),
      ))
      (Contains-push_cases (take start ways) (way_at ways start) v (subst (λ ws. Contains ws v) (sym (one_more_taken ways start _ inside)) c));
  own = λ r c. ⊎_elim (λ none. absurd (let k = none.1 in omega (arith, k)))
      (λ e. subst (λ r. Contains ways (way_to (way_at ways start).leaf r)) e (Contains-get_or ways start _ inside))
      (Contains-push_cases [] (way_at ways start).rest r c);
}

-- the next way has the leaf, too
pub run_more : (ways : List LeafWay) (start next : ℕ) (rests : List PatternNumber) → next ≡ start + length rests → next < length ways
    → IsRun ways start rests → (way_at ways next).leaf ≡ (way_at ways start).leaf → IsRun ways start (rests ++ (way_at ways next).rest ∷ [])
run_more ways start next rests at inside run same =
    let long = length_push rests (way_at ways next).rest in
    let after : start + length (rests ++ (way_at ways next).rest ∷ []) ≡ next + 1 = omega (arith, long, at) in
    record {
      some = omega (arith, long);
      within = omega (arith, long, at, inside);
      all = λ v c. ⊎_elim
          (λ k. ⊎_elim (λ a. inl a) (λ b. inr (b.0, Contains-append_left rests _ v.rest b.1))
          (run.all v (subst (λ i. Contains (take i ways) v) at k)))
          (λ e. inr (
            sym (ap (λ (w : LeafWay). w.leaf) e) ∙ same,
            subst (Contains (rests ++ (way_at ways next).rest ∷ [])) (ap (λ (w : LeafWay). w.rest) e) (Contains-push rests _),
          ))
          (Contains-push_cases (take next ways) (way_at ways next) v (subst (λ ws. Contains ws v) (sym (one_more_taken ways next _ inside))
          (subst (λ i. Contains (take i ways) v) after c)));
      own = λ r c. ⊎_elim (λ k. run.own r k)
          (λ e. subst (λ r. Contains ways (way_to (way_at ways start).leaf r)) e
          (subst (λ l. Contains ways (way_to l (way_at ways next).rest)) same (Contains-get_or ways next _ inside)))
          (Contains-push_cases rests (way_at ways next).rest r c);
    }

-- ---- ways in another order

pub reordered_stand : (old new : List Node) (ways sorted all : List LeafWay) → IsPermutation ways sorted
    → StandFor new all (λ t. ways_by (tree_of t old) sorted) → StandFor new all (λ t. ways_by (tree_of t old) ways)
reordered_stand old new ways sorted all same h = record {
  inside = h.inside;
  offers = λ t g xs ks ys ms. (
    λ o. moved t g xs ks ys ms sorted ways (IsPermutation-sym ways sorted same) ((h.offers t g xs ks ys ms).0 o),
    λ o. (h.offers t g xs ks ys ms).1 (moved t g xs ks ys ms ways sorted same o),
  );
  kept = λ t kind place k. h.kept t kind place (all_ways _ _ (tree_of t old) sorted
      (λ v c. each_way _ _ (tree_of t old) ways k v (Contains-permutation sorted ways v (IsPermutation-sym ways sorted same) c)));
}
  where
    moved : (t : Table) (g : Reading) (xs : List Attribute) (ks : List Item) (ys : List Attribute) (ms : List Item) (ws vs : List LeafWay)
        → IsPermutation ws vs → Offers g (ways_by (tree_of t old) ws) xs ks ys ms → Offers g (ways_by (tree_of t old) vs) xs ks ys ms
    moved t g xs ks ys ms ws vs p o =
        let v = among_ways (tree_of t old) ws o.0 o.1 in
        (o.0, subst (λ (w : tree.Way). Among w (ways_by (tree_of t old) vs)) v.2 (ways_among (tree_of t old) vs v.0 (Contains-permutation ws vs v.0 p v.1)), o.2, o.3)
