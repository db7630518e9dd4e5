-- Fewer ways are still the ways of a pattern: those of a repetition to take an attribute, and those of a group. The
-- second side of the group takes all subsequences of what it takes, or begins with copies of the first side.
use Rattle.std.proofs.Common.{◌≡◌, ◌↔◌, ◌⊎◌, ◌<◌, inl, inr, ⊎_elim, ℕ, List, [], ◌∷◌, ◌++◌, length, append-nil, refl, sym, ap, subst}
use Rattle.std.proofs.lemmas.List.Elements.{All-contains, All-contains_itself}
use Rattle.rng_model.specs.names.Lists.{Among}
use Rattle.rng_model.specs.simple.Tree.{Simple, choice, group, s_empty, s_joined, s_one_or_more}
use Rattle.rng_model.specs.matching.Document.{Attribute, Item}
use Rattle.rng_model.specs.simple.Table.{Table}
use Rattle.rng_deriv_laws.specs.plain.Blanks.{IsBare}
use Rattle.rng_model.specs.matching.GrammarMatching.{Reading, reading_of}
use Rattle.rng_deriv_laws.specs.plain.Taking.{Same, Takes}
use Rattle.rng_deriv_laws.specs.plain.Derivatives as tree
use Rattle.rng_deriv_laws.specs.plain.Derivatives.{behind, group_of, more_of}
use Rattle.rng_deriv_laws.specs.plain.Ways.{AreItemWays, TakesItem}
use Rattle.rng_deriv_laws.proofs.SameWays.{item_among, item_way}
use Rattle.rng_deriv_laws.proofs.ItemWays.{item_in_first, item_in_second}
use Rattle.rng_deriv_laws.proofs.RepeatedAttributes.{MayBeAll, repeated_ways}
use Rattle.rng_deriv_laws.proofs.SamePatterns.{group_of-same}
use Rattle.rng_deriv_table.specs.views.Choices.{IsAlternativeOf, SomeTakes}
use Rattle.rng_deriv_table.specs.plain.Copies.{IsBehindCopies, IsOfCopies}
use Rattle.rng_deriv_table.specs.plain.Facts.{LosesFirst}
use Rattle.rng_deriv_table.specs.views.Node.{Node}
use Rattle.rng_deriv_table.specs.views.PatternTable.{Longer}
use Rattle.rng_deriv_table.specs.plain.Reduced.{HasAlternative}
use Rattle.rng_deriv_table.specs.views.Trees.{tree_of}
use Rattle.rng_deriv_table.specs.declared.pattern.PatternNumber.{PatternNumber}
use Rattle.rng_deriv_table.proofs.Taking.{choice_of_two}
use Rattle.rng_deriv_table.proofs.Trees.{tree_stays}
use Rattle.rng_deriv_ways.specs.plain.FewerWays.{AreRepeated, AreUncovered, IsCovered}
use Rattle.rng_deriv_ways.specs.plain.Kinds.{IsLeafOf, IsOfItems, Obeys}
use Rattle.rng_deriv_ways.specs.plain.Ways.{AreInside, AreKept, AreWays, AreWaysOf, IsInside, StandFor, filled, way_by, ways_by}
use Rattle.rng_deriv_ways.specs.declared.way.Hole.TheVariants as holes
use Rattle.rng_deriv_ways.specs.declared.way.Joint.TheVariants as joints
use Rattle.rng_deriv_ways.specs.declared.way.Kind.{Kind}
use Rattle.rng_deriv_ways.specs.declared.way.Kind.TheVariants as kinds
use Rattle.rng_deriv_ways.specs.declared.way.Place.{Place}
use Rattle.rng_deriv_ways.specs.declared.way.LeafWay.{LeafWay}
use Rattle.rng_deriv_ways.proofs.AddedWays.{either_member}
use Rattle.rng_deriv_ways.proofs.WaysOfSides.{behind_kept, joined_obeys, made}
use Rattle.rng_deriv_ways.proofs.Copies.{HasCopyFirst, begins, begins_alone, behind_has, behind_taken, by_way, with_copies}
use Rattle.rng_deriv_ways.proofs.JoinedWays.{all_ways, among_ways, each_way, way_to, ways_among}
use Rattle.rng_deriv_ways.proofs.KeptRestrictions.{Obeys-hereditary, choice_has, each_both}
use Rattle.rng_deriv_ways.proofs.NumberedWays.{behind-whole, stands_longer, stands_more}

-- ---- repetitions

module _ (t : Table) (ns : List Node) (copies all : List LeafWay) (more : PatternNumber) (h : AreRepeated ns copies more all) where
  abbrev f : ℕ → Simple ℕ
  f = tree_of t ns

  repeated_each : (g : Reading) (w : tree.Way) → Among w (ways_by f copies) → Takes g w.rest [] []
      → Among (record { leaf = w.leaf; rest = f more.0 }) (ways_by f all)
  repeated_each g w a d =
      let v = among_ways f copies w a in
      ⊎_elim (λ c. subst (λ (w : tree.Way). Among (record { leaf = w.leaf; rest = f more.0 }) (ways_by f all)) v.2
      (ways_among f all (way_to v.0.leaf more) c))
      (λ never. absurd (never t g (subst (λ (w : tree.Way). Takes g w.rest [] []) (sym v.2) d))) (h.each v.0 v.1)

  repeated_within : (g : Reading) (w : tree.Way) → Among w (ways_by f all) → (w.rest ≡ f more.0) × MayBeAll g (ways_by f copies) w.leaf
  repeated_within g w a =
      let v = among_ways f all w a in
      let own = h.within v.0 v.1 in
      let copy = own.1 in
      subst (λ (w : tree.Way). (w.rest ≡ f more.0) × MayBeAll g (ways_by f copies) w.leaf) v.2 (
        ap (λ (n : PatternNumber). f n.0) own.0,
        record {
          way = way_by f copy.way;
          among = ways_among f copies copy.way copy.contained;
          same = ap (λ (n : PatternNumber). f n.0) copy.same;
          ends = copy.optional t g;
        },
      )

  repeated_inside : AreInside ns copies → more.0 < length ns → AreInside ns all
  repeated_inside inside below k d lt =
      let own = h.within _ (All-contains_itself all k d lt) in
      let copy = All-contains (IsInside ns) copies own.1.way inside own.1.contained in
      (subst (λ (l : PatternNumber). l.0 < length ns) own.1.same copy.0, subst (λ (r : PatternNumber). r.0 < length ns) (sym own.0) below)

  repeated_kept : (kind : Kind) (place : Place) → AreKept kind place (ways_by f copies) → Obeys place (f more.0) → AreKept kind place (ways_by f all)
  repeated_kept kind place kept rest = all_ways _ _ f all (λ w c.
      let own = h.within w c in
      let copy = each_way _ _ f copies kept own.1.way own.1.contained in
      let Leaf : PatternNumber → Type 0 = λ l. IsLeafOf kind (f l.0) × Obeys place (f l.0) in
      (subst Leaf own.1.same copy.0, subst (λ (r : PatternNumber). Obeys place (f r.0)) (sym own.0) rest))

  pub repeated_made : (kind : Kind) (q : _) → kind ≡ kinds.Attribute q → (p : Simple ℕ) → more.0 < length ns → Same (reading_of t) (f more.0) (more_of p)
      → ((place : Place) → Obeys place (s_one_or_more p) → Obeys place (f more.0)) → AreWaysOf t ns kind p copies → AreWaysOf t ns kind (s_one_or_more p) all
  repeated_made kind q is p below same obeys a = record {
    inside = repeated_inside a.inside below;
    law = subst (λ k. AreWays (reading_of t) k (s_one_or_more p) (ways_by f all)) (sym is) (λ well. repeated_ways (reading_of t) _ p well.0 (f more.0)
        (ways_by f copies) (ways_by f all) same (repeated_each (reading_of t)) (repeated_within (reading_of t))
        (subst (λ k. AreWays (reading_of t) k p (ways_by f copies)) is a.law well.1));
    kept = λ place o. repeated_kept kind place (a.kept place ((Obeys-hereditary place).copy p o)) (obeys place o);
  }

-- ---- groups

module _ (g : Reading) (q : Simple ℕ) (ws : List tree.Way) where
  -- some way with the leaf may end after it, and q takes all subsequences
  pub record IsCoveredBy (w : tree.Way) : Type 0 where
    pub loses : LosesFirst g q
    pub way : tree.Way
    pub among : Among way ws
    pub same : way.leaf ≡ w.leaf
    pub ends : Takes g way.rest [] []

-- p, and q, which is s after copies of p
module _ (g : Reading) (p q s : Simple ℕ) (ends : Takes g p [] []) (copies : IsBehindCopies p q s) (f : Simple ℕ → Simple ℕ)
    (on : (r : Simple ℕ) → Same g (f r) (s_joined group r q)) (ws vs left : List tree.Way) (within : (w : tree.Way) → Among w left → Among w vs)
    (each : (w : tree.Way) → Among w vs → Among w left ⊎ IsCoveredBy g s ws w) where
  uncovered_law : (Kind : Item → Type 0) → AreItemWays g Kind p ws → AreItemWays g Kind s vs → AreItemWays g Kind (s_joined group p q) (behind f ws ++ left)
  uncovered_law Kind a b = with_copies g p ends Kind q f ws on a left to_q of_q where
    by_first : (n : Item) (ns : List Item) (w : tree.Way) → IsBare (n ∷ ns) → Takes g s [] (n ∷ ns) → Takes g w.leaf [] (n ∷ []) → IsCoveredBy g s ws w
        → TakesItem g (behind f ws) n ns
    by_first n ns w bare d leaf c =
        by_way g p ends Kind q f ws on a n [] ns ns c.way c.among (subst (λ l. Takes g l [] (n ∷ [])) (sym c.same) leaf) c.ends
        (behind_taken g p ends q s copies ns (c.loses [] n ns bare d)) refl

    by_others : (n : Item) (ns : List Item) → Kind n → IsBare (n ∷ ns) → Takes g s [] (n ∷ ns) → TakesItem g (behind f ws ++ left) n ns
    by_others n ns kind bare d =
        let w = item_way g vs n ns (b.to n ns kind bare d) in
        ⊎_elim (λ k. item_in_second g (behind f ws) left n ns (item_among g left w.0 n ns k w.2 w.3))
        (λ c. item_in_first g (behind f ws) left n ns (by_first n ns w.0 bare d w.2 c)) (each w.0 w.1)

    to_q : (n : Item) (ns : List Item) → Kind n → IsBare (n ∷ ns) → Takes g q [] (n ∷ ns) → HasCopyFirst g p ends q n ns ⊎ TakesItem g (behind f ws ++ left) n ns
    to_q n ns kind bare d = ⊎_elim (λ h. inl h) (λ d. inr (by_others n ns kind bare d)) (begins g p ends q s copies n ns d)

    of_q : (n : Item) (ns : List Item) → TakesItem g left n ns → Takes g q [] (n ∷ ns)
    of_q n ns h =
        let w = item_way g left n ns h in
        behind_taken g p ends q s copies (n ∷ ns) (b.back n ns (item_among g vs w.0 n ns (within w.0 w.1) w.2 w.3))

  uncovered_ways : (kind : Kind) → IsOfItems kind → AreWays g kind p ws → AreWays g kind s vs → AreWays g kind (s_joined group p q) (behind f ws ++ left)
  uncovered_ways (kinds.Element n) item a b = uncovered_law _ a b
  uncovered_ways (kinds.Attribute n) item a b = absurd item
  uncovered_ways kinds.Text item a b = uncovered_law _ a b

-- p, and q, which consists only of copies of p
module _ (g : Reading) (p q : Simple ℕ) (ends : Takes g p [] []) (copies : IsOfCopies p q) (f : Simple ℕ → Simple ℕ)
    (on : (r : Simple ℕ) → Same g (f r) (s_joined group r q)) (ws : List tree.Way) where
  alone_law : (Kind : Item → Type 0) → AreItemWays g Kind p ws → AreItemWays g Kind (s_joined group p q) (behind f ws)
  alone_law Kind a = subst (AreItemWays g Kind (s_joined group p q)) (append-nil (behind f ws))
      (with_copies g p ends Kind q f ws on a [] (λ n ns kind bare d. inl (begins_alone g p ends q copies n ns d)) (λ n ns h. absurd h))

  alone_ways : (kind : Kind) → IsOfItems kind → AreWays g kind p ws → AreWays g kind (s_joined group p q) (behind f ws)
  alone_ways (kinds.Element n) item a = alone_law _ a
  alone_ways (kinds.Attribute n) item a = absurd item
  alone_ways kinds.Text item a = alone_law _ a

-- the second side of a group is put into its hole
on_second : (t : Table) (ns : List Node) (second : PatternNumber) (q : Simple ℕ) → tree_of t ns second.0 ≡ q
    → (r : Simple ℕ) → Same (reading_of t) (group_of r (tree_of t ns second.0)) (s_joined group r q)
on_second t ns second q is r = subst (λ o. Same (reading_of t) (group_of r o) (s_joined group r q)) (sym is) (group_of-same (reading_of t) r q)

module _ (t : Table) (n1 n3 : List Node) (longer : Longer n1 n3) (rest : PatternNumber) (s : Simple ℕ) (firsts seconds left : List LeafWay)
    (rest_is : tree_of t n3 rest.0 ≡ s) (inside : AreInside n1 firsts) (h : AreUncovered n3 rest firsts seconds left) where
  left_within : (w : tree.Way) → Among w (ways_by (tree_of t n3) left) → Among w (ways_by (tree_of t n3) seconds)
  left_within w a =
      let v = among_ways (tree_of t n3) left w a in
      subst (λ w. Among w (ways_by (tree_of t n3) seconds)) v.2 (ways_among (tree_of t n3) seconds v.0 (h.within v.0 v.1))

  covered_by : (v : LeafWay) → IsCovered n3 rest firsts v → IsCoveredBy (reading_of t) s (ways_by (tree_of t n1) firsts) (way_by (tree_of t n3) v)
  covered_by v c =
      let own = All-contains (IsInside n1) firsts c.first.way inside c.first.contained in
      record {
        loses = subst (LosesFirst (reading_of t)) rest_is (c.loses t (reading_of t));
        way = way_by (tree_of t n1) c.first.way;
        among = ways_among (tree_of t n1) firsts c.first.way c.first.contained;
        same = subst (λ l. l ≡ tree_of t n3 v.leaf.0) (tree_stays t n1 n3 c.first.way.leaf.0 longer own.0)
            (ap (λ (l : PatternNumber). tree_of t n3 l.0) c.first.same);
        ends = subst (λ r. Takes (reading_of t) r [] []) (tree_stays t n1 n3 c.first.way.rest.0 longer own.1) (c.first.optional t (reading_of t));
      }

  left_each : (w : tree.Way) → Among w (ways_by (tree_of t n3) seconds)
      → Among w (ways_by (tree_of t n3) left) ⊎ IsCoveredBy (reading_of t) s (ways_by (tree_of t n1) firsts) w
  left_each w a =
      let v = among_ways (tree_of t n3) seconds w a in
      subst (λ w. Among w (ways_by (tree_of t n3) left) ⊎ IsCoveredBy (reading_of t) s (ways_by (tree_of t n1) firsts) w) v.2
      (⊎_elim (λ c. inl (ways_among (tree_of t n3) left v.0 c)) (λ c. inr (covered_by v.0 c)) (h.each v.0 v.1))

  left_kept : (kind : Kind) (place : Place) → AreKept kind place (ways_by (tree_of t n3) seconds) → AreKept kind place (ways_by (tree_of t n3) left)
  left_kept kind place kept = all_ways _ _ (tree_of t n3) left (λ w c. each_way _ _ (tree_of t n3) seconds kept w (h.within w c))

  -- a first side that may be left out, and what is after its copies and adds something
  pub uncovered_made : (n2 n4 : List Node) (kind : Kind) (second : PatternNumber) (p q : Simple ℕ) (none some all : List LeafWay)
      → IsOfItems kind → Takes (reading_of t) p [] [] → IsBehindCopies p q s → none ≡ [] → tree_of t n1 second.0 ≡ q
      → AreWaysOf t n1 kind p firsts → AreWaysOf t n3 kind s seconds → Longer n2 n3
      → StandFor n2 some (λ t. ways_by (tree_of t n1) none ++ behind (filled (tree_of t n1) (holes.First joints.Group second)) (ways_by (tree_of t n1) firsts))
      → StandFor n4 all (λ t. ways_by (tree_of t n3) some ++ behind (filled (tree_of t n3) holes.Whole) (ways_by (tree_of t n3) left))
      → AreWaysOf t n4 kind (s_joined group p q) all
  uncovered_made n2 n4 kind second p q none some all item ends copies empty second_is a b more u v =
      made t n4 kind (s_joined group p q) all (λ t. Before t ++ After t) (stands_more n3 n4 some all Before After (stands_longer n2 n3 some Before more u) v)
      (subst (λ ns. AreWays (reading_of t) kind (s_joined group p q) ((ways_by (tree_of t n1) ns ++ Side) ++ After t)) (sym empty)
      (subst (λ vs. AreWays (reading_of t) kind (s_joined group p q) (Side ++ vs)) (sym (behind-whole (ways_by (tree_of t n3) left)))
      (uncovered_ways (reading_of t) p q s ends copies Fill (on_second t n1 second q second_is) (ways_by (tree_of t n1) firsts)
      (ways_by (tree_of t n3) seconds) (ways_by (tree_of t n3) left) left_within left_each kind item a.law b.law)))
      (λ place o.
      let sides = (Obeys-hereditary place).sides group p q o in
      subst (λ ns. AreKept kind place ((ways_by (tree_of t n1) ns ++ Side) ++ After t)) (sym empty)
      (subst (λ vs. AreKept kind place (Side ++ vs)) (sym (behind-whole (ways_by (tree_of t n3) left)))
      (each_both _ _ Side (ways_by (tree_of t n3) left)
      (behind_kept kind place _ (λ r k. joined_obeys joints.Group place r (tree_of t n1 second.0) k (subst (Obeys place) (sym second_is) sides.1))
      (ways_by (tree_of t n1) firsts) (a.kept place sides.0))
      (left_kept kind place (b.kept place (behind_has (Obeys place) (Obeys-hereditary place) p q s copies sides.1))))))
    where
      Fill : Simple ℕ → Simple ℕ
      Fill r = group_of r (tree_of t n1 second.0)

      Side : List tree.Way
      Side = behind Fill (ways_by (tree_of t n1) firsts)

      Before : Table → List tree.Way
      Before t = ways_by (tree_of t n1) none ++ behind (filled (tree_of t n1) (holes.First joints.Group second)) (ways_by (tree_of t n1) firsts)

      After : Table → List tree.Way
      After t = behind (filled (tree_of t n3) holes.Whole) (ways_by (tree_of t n3) left)

-- a first side that may be left out, and only its copies
pub alone_made : (t : Table) (n1 n2 : List Node) (kind : Kind) (second : PatternNumber) (p q : Simple ℕ) (firsts none all : List LeafWay)
    → IsOfItems kind → Takes (reading_of t) p [] [] → IsOfCopies p q → none ≡ [] → tree_of t n1 second.0 ≡ q → AreWaysOf t n1 kind p firsts
    → StandFor n2 all (λ t. ways_by (tree_of t n1) none ++ behind (filled (tree_of t n1) (holes.First joints.Group second)) (ways_by (tree_of t n1) firsts))
    → AreWaysOf t n2 kind (s_joined group p q) all
alone_made t n1 n2 kind second p q firsts none all item ends copies empty second_is a u =
    made t n2 kind (s_joined group p q) all Before u
    (subst (λ ns. AreWays (reading_of t) kind (s_joined group p q) (ways_by (tree_of t n1) ns ++ Side)) (sym empty)
    (alone_ways (reading_of t) p q ends copies Fill (on_second t n1 second q second_is) (ways_by (tree_of t n1) firsts) kind item a.law))
    (λ place o.
    let sides = (Obeys-hereditary place).sides group p q o in
    subst (λ ns. AreKept kind place (ways_by (tree_of t n1) ns ++ Side)) (sym empty)
    (behind_kept kind place _ (λ r k. joined_obeys joints.Group place r (tree_of t n1 second.0) k (subst (Obeys place) (sym second_is) sides.1))
    (ways_by (tree_of t n1) firsts) (a.kept place sides.0)))
  where
    Fill : Simple ℕ → Simple ℕ
    Fill r = group_of r (tree_of t n1 second.0)

    Side : List tree.Way
    Side = behind Fill (ways_by (tree_of t n1) firsts)

    Before : Table → List tree.Way
    Before t = ways_by (tree_of t n1) none ++ behind (filled (tree_of t n1) (holes.First joints.Group second)) (ways_by (tree_of t n1) firsts)

pub left_inside : (ns : List Node) (second : PatternNumber) (firsts seconds left : List LeafWay) → AreUncovered ns second firsts seconds left
    → AreInside ns seconds → AreInside ns left
left_inside ns second firsts seconds left h inside = λ k d lt.
    All-contains (IsInside ns) seconds _ inside (h.within _ (All-contains_itself left k d lt))

-- ---- more copies: a choice of the repetition and empty

pub more_copies : (t : Table) (n2 n3 : List Node) (number none more : PatternNumber) (p : Simple ℕ) → tree_of t n2 number.0 ≡ s_one_or_more p
    → tree_of t n2 none.0 ≡ s_empty
    → ((g : Reading) (xs : List Attribute) (ns : List Item) → Takes g (tree_of t n3 more.0) xs ns ↔ SomeTakes g (tree_of t n2) (number ∷ none ∷ []) xs ns)
    → ((s : Simple ℕ) → HasAlternative (tree_of t n3 more.0) s → IsAlternativeOf (tree_of t n2) (number ∷ none ∷ []) s)
    → Same (reading_of t) (tree_of t n3 more.0) (more_of p) × ((place : Place) → Obeys place (s_one_or_more p) → Obeys place (tree_of t n3 more.0))
more_copies t n2 n3 number none more p number_is none_is matches alternatives = (
  subst (λ a. Same (reading_of t) (tree_of t n3 more.0) (s_joined choice (s_one_or_more p) a)) none_is
      (subst (λ a. Same (reading_of t) (tree_of t n3 more.0) (s_joined choice a (tree_of t n2 none.0))) number_is
      (choice_of_two (reading_of t) (tree_of t n2) number none (tree_of t n3 more.0) (matches (reading_of t)))),
  λ place o. choice_has (Obeys place) (Obeys-hereditary place) (tree_of t n2) (number ∷ none ∷ []) (tree_of t n3 more.0) alternatives
      (λ m k. either_member (λ n. Obeys place (tree_of t n2 n.0)) number none m (subst (Obeys place) (sym number_is) o)
      (subst (Obeys place) (sym none_is) (Obeys-hereditary place).of_empty) k),
)
