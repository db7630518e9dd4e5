-- The ways of a start, without those that nothing matches, each rest once.
use Rattle.std.proofs.Common.{◌≡◌, ◌∙◌, ℕ, ◌<◌, ◌+◌, ◌↔◌, suc, zero, inl, inr, ⊎_elim, All, List, [], ◌∷◌, ◌++◌, length, map, take, get_or, refl, sym, ap, ap₂}
use Rattle.std.proofs.Common.{subst, arith, Bool, true, false, ◌||◌}
use Rattle.std.proofs.lemmas.List.{map-append, take_more}
use Rattle.std.proofs.lemmas.List.Elements.{All-append, All-cons, All-head, All-nil, All-push, All-tail, All-weaker}
use Rattle.rng_model.specs.names.Names.{Name}
use Rattle.rng_model.specs.matching.Document.{Attribute, Item, list_of}
use Rattle.rng_model.specs.simple.Table.{Table}
use Rattle.rng_model.specs.simple.Tree.{Simple, choice, s_joined, s_not_allowed}
use Rattle.rng_deriv_laws.specs.plain.Blanks.{cons, no_blanks}
use Rattle.rng_deriv_laws.specs.plain.Derivatives.{is_not_allowed}
use Rattle.rng_deriv_laws.specs.plain.Derivatives as tree
use Rattle.rng_deriv_laws.specs.plain.LevelStates as level
use Rattle.rng_deriv_laws.specs.plain.LevelStates.{IsBodyNamed}
use Rattle.rng_model.specs.matching.GrammarMatching.{Reading, reading_of}
use Rattle.rng_deriv_laws.specs.plain.Restricted.{IsRestricted, IsTyped}
use Rattle.rng_deriv_laws.specs.plain.Taking.{Same, Takes, WeaklyTakes}
use Rattle.rng_deriv_laws.specs.plain.Taking as t
use Rattle.rng_deriv_laws.specs.plain.Ways.{EachWay, Opens}
use Rattle.rng_deriv_laws.proofs.SameWays.{bodies_joined, bodies_parted, way}
use Rattle.rng_deriv_table.specs.views.Node.{Node}
use Rattle.rng_deriv_table.specs.views.PatternTable.{Longer}
use Rattle.rng_deriv_table.specs.views.Trees.{trees, tree_of}
use Rattle.rng_deriv_table.specs.declared.pattern.PatternNumber.{PatternNumber}
use Rattle.rng_deriv_table.proofs.Trees.{Longer-length, tree_stays}
use Rattle.rng_deriv_ways.specs.plain.Starting.{AreStarts, IsRestrictedBodyNamed}
use Rattle.rng_deriv_ways.specs.plain.Ways.{AreInside, IsInside, way_by, ways_by}
use Rattle.rng_deriv_ways.specs.declared.way.LeafWay as numbered
use Rattle.rng_deriv_ways.proofs.KeptRestrictions.{each_both, each_first, each_second}
use Rattle.rng_deriv_ways.proofs.StartBodies.{append_opens, opens_both, opens_first, opens_second}
use Rattle.rng_deriv_events.specs.views.Numbers as numbers
use Rattle.rng_deriv_events.specs.views.Numbers.{way_of}
use Rattle.rng_deriv_events.specs.declared.derivatives.StartWay.{StartWay}
use Rattle.rng_deriv.specs.views.Starts.{IsWayInside, OpensLike, with_way}

-- ---- patterns that nothing matches

nothing_taken : (g : Reading) (p : Simple ℕ) (xs : List Attribute) (ns : List Item) → is_not_allowed p ≡ true → Takes g p xs ns → ⊥
nothing_taken g s_not_allowed xs ns e d = elim d [ ]
nothing_taken g _ xs ns e d = cc

nothing_weakly_taken : (g : Reading) (p : Simple ℕ) (xs : List Attribute) (ns : List Item) → is_not_allowed p ≡ true → WeaklyTakes g p xs ns → ⊥
nothing_weakly_taken g p xs ns e (t.as_is d) = nothing_taken g p xs ns e d
nothing_weakly_taken g p xs ns e (t.blank_text d b) = nothing_taken g p xs [] e d
nothing_weakly_taken g p xs ns e (t.nothing_there d) = nothing_taken g p xs _ e d

one_of_two : (a b : Bool) → a || b ≡ true → (a ≡ true → ⊥) → (b ≡ true → ⊥) → ⊥
one_of_two true b e h k = h refl
one_of_two false b e h k = k e

nothing_opened : (g : Reading) (xs : List Attribute) (kids ms : List Item) (w : tree.Way) → is_not_allowed w.leaf || is_not_allowed w.rest ≡ true
    → Opens g xs kids ms (w ∷ []) → ⊥
nothing_opened g xs kids ms w e (inl d) =
    one_of_two (is_not_allowed w.leaf) (is_not_allowed w.rest) e (λ f. nothing_weakly_taken g w.leaf xs kids f d.0) (λ f. nothing_taken g w.rest [] ms f d.1)
nothing_opened g xs kids ms w e (inr d) = absurd d

-- ---- one more way

module _ (t : Table) (ns : List Node) (before : List StartWay) (w : numbered.LeafWay) (inside : All (IsWayInside ns) before) where
  abbrev g : Reading
  g = reading_of t

  abbrev those : List tree.Way
  those = map (way_of (trees t ns)) before

  abbrev one : tree.Way
  one = way_by (tree_of t ns) w

  -- a way that opens nothing
  pub nothing_more : is_not_allowed one.leaf || is_not_allowed one.rest ≡ true → OpensLike t ns (with_way t ns before w) before
  nothing_more none = record {
    inside = inside;
    opens = λ xs kids ms. (
      λ h. opens_first g xs kids ms those (one ∷ []) h,
      λ h. ⊎_elim (λ a. a) (λ b. absurd (nothing_opened g xs kids ms one none b)) (opens_both g xs kids ms those (one ∷ []) h),
    );
    kept = λ q each. each_first _ _ those (one ∷ []) each;
  }

  -- a way with a new rest
  pub one_more : IsInside ns w → (after : List StartWay) → after ≡ before ++ record { body = w.leaf; rest = w.rest } ∷ []
      → OpensLike t ns (with_way t ns before w) after
  one_more there after added =
      let new : StartWay = record { body = w.leaf; rest = w.rest } in
      let is : map (way_of (trees t ns)) after ≡ with_way t ns before w =
      ap (map (way_of (trees t ns))) added ∙ map-append (way_of (trees t ns)) before (new ∷ []) in
      record {
        inside = subst (All (IsWayInside ns)) (sym added) (All-push (IsWayInside ns) before new inside there);
        opens = λ xs kids ms. subst (λ ws. Opens g xs kids ms ws ↔ Opens g xs kids ms (with_way t ns before w)) (sym is) (λ h. h, λ h. h);
        kept = λ q each. subst (EachWay (IsRestrictedBodyNamed g q) IsRestricted) (sym is) each;
      }

-- two ways with the same rest, and one with a choice of their bodies
module _ (g : Reading) (F B : List tree.Way) (b c d r : Simple ℕ) where
  joined_opens : Same g d (s_joined choice b c) → (xs : List Attribute) (kids ms : List Item)
      → Opens g xs kids ms ((F ++ B) ++ way d r ∷ []) ↔ Opens g xs kids ms ((F ++ way b r ∷ B) ++ way c r ∷ [])
  joined_opens s xs kids ms = (
    λ h. ⊎_elim (λ a. ⊎_elim (λ f. first (opens_first g xs kids ms F (way b r ∷ B) f)) (λ e. first (opens_second g xs kids ms F (way b r ∷ B) (inr e)))
        (opens_both g xs kids ms F B a))
        (λ e. parted (bodies_parted g b c d r [] xs kids ms s e)) (opens_both g xs kids ms (F ++ B) (way d r ∷ []) h),
    λ h. ⊎_elim (λ a. ⊎_elim (λ f. front (opens_first g xs kids ms F B f)) back (opens_both g xs kids ms F (way b r ∷ B) a))
        last (opens_both g xs kids ms (F ++ way b r ∷ B) (way c r ∷ []) h),
  ) where
    first : Opens g xs kids ms (F ++ way b r ∷ B) → Opens g xs kids ms ((F ++ way b r ∷ B) ++ way c r ∷ [])
    first h = opens_first g xs kids ms (F ++ way b r ∷ B) (way c r ∷ []) h

    parted : Opens g xs kids ms (way b r ∷ way c r ∷ []) → Opens g xs kids ms ((F ++ way b r ∷ B) ++ way c r ∷ [])
    parted (inl h) = first (opens_second g xs kids ms F (way b r ∷ B) (inl h))
    parted (inr h) = opens_second g xs kids ms (F ++ way b r ∷ B) (way c r ∷ []) h

    front : Opens g xs kids ms (F ++ B) → Opens g xs kids ms ((F ++ B) ++ way d r ∷ [])
    front h = opens_first g xs kids ms (F ++ B) (way d r ∷ []) h

    one_of : Opens g xs kids ms (way b r ∷ way c r ∷ []) → Opens g xs kids ms ((F ++ B) ++ way d r ∷ [])
    one_of h = opens_second g xs kids ms (F ++ B) (way d r ∷ []) (bodies_joined g b c d r [] xs kids ms s h)

    back : Opens g xs kids ms (way b r ∷ B) → Opens g xs kids ms ((F ++ B) ++ way d r ∷ [])
    back (inl h) = one_of (inl h)
    back (inr h) = front (opens_second g xs kids ms F B h)

    last : Opens g xs kids ms (way c r ∷ []) → Opens g xs kids ms ((F ++ B) ++ way d r ∷ [])
    last h = one_of (inr h)

  joined_kept : (P Q : Simple ℕ → Type 0) → (P b → P c → P d) → EachWay P Q ((F ++ way b r ∷ B) ++ way c r ∷ []) → EachWay P Q ((F ++ B) ++ way d r ∷ [])
  joined_kept P Q both each =
      let firsts = each_first P Q (F ++ way b r ∷ B) (way c r ∷ []) each in
      let last = each_second P Q (F ++ way b r ∷ B) (way c r ∷ []) each in
      let rest = each_second P Q F (way b r ∷ B) firsts in
      each_both P Q (F ++ B) (way d r ∷ []) (each_both P Q F B (each_first P Q F (way b r ∷ B) firsts) rest.1) ((both rest.0.0 last.0.0, last.0.1), tt)

ways_stay : (t : Table) (old new : List Node) → Longer old new → (ws : List StartWay) → All (IsWayInside old) ws
    → map (way_of (trees t new)) ws ≡ map (way_of (trees t old)) ws
ways_stay t old new longer [] all = refl
ways_stay t old new longer (w ∷ ws) all =
    let here = All-head (IsWayInside old) w ws all in
    ap₂ (λ v vs. v ∷ vs) (ap₂ way (tree_stays t old new w.body.0 longer here.0) (tree_stays t old new w.rest.0 longer here.1))
    (ways_stay t old new longer ws (All-tail (IsWayInside old) w ws all))

pub all_first : {A : Type 0} (P : A → Type 0) (xs ys : List A) → All P (xs ++ ys) → All P xs
all_first P [] ys all = All-nil P
all_first P (x ∷ xs) ys all = All-cons P x xs (All-head P x (xs ++ ys) all) (all_first P xs ys (All-tail P x (xs ++ ys) all))

pub all_second : {A : Type 0} (P : A → Type 0) (xs ys : List A) → All P (xs ++ ys) → All P ys
all_second P [] ys all = all
all_second P (x ∷ xs) ys all = all_second P xs ys (All-tail P x (xs ++ ys) all)

pub at_middle : (ns : List Node) (front back : List StartWay) (w : StartWay) → All (IsWayInside ns) (front ++ w ∷ back) → IsWayInside ns w
at_middle ns front back w all = All-head (IsWayInside ns) w back (all_second (IsWayInside ns) front (w ∷ back) all)

inside_longer : (old new : List Node) → Longer old new → (w : StartWay) → IsWayInside old w → IsWayInside new w
inside_longer old new longer w there =
    let long = Longer-length old new longer in
    let body = there.0 in
    let rest = there.1 in
    (omega (arith, body, long), omega (arith, rest, long))

pub all_of_two : (P : Simple ℕ → Type 0) (f : ℕ → Simple ℕ) (a b : PatternNumber) → P (f a.0) → P (f b.0)
    → All (λ (m : PatternNumber). P (f m.0)) (a ∷ b ∷ [])
all_of_two P f a b h k =
    All-cons (λ (m : PatternNumber). P (f m.0)) a (b ∷ []) h (All-cons (λ (m : PatternNumber). P (f m.0)) b [] k (All-nil (λ (m : PatternNumber). P (f m.0))))

named_both : (g : Reading) (q : Name) (b c d : Simple ℕ) → (IsRestricted b → IsRestricted c → IsRestricted d) → (IsTyped b → IsTyped c → IsTyped d)
    → IsRestrictedBodyNamed g q b → IsRestrictedBodyNamed g q c → IsRestrictedBodyNamed g q d
named_both g q b c d restricted typed h k = record {
  restricted = restricted h.restricted k.restricted;
  body = record { typed = typed h.body.typed k.body.typed; element = h.body.element; named = h.body.named };
}

module _ (old new : List Node) (longer : Longer old new) (front back : List StartWay) (other : StartWay) (w : numbered.LeafWay) (body : PatternNumber)
    (inside : All (IsWayInside old) (front ++ other ∷ back)) (there : IsInside old w) (rest : other.rest ≡ w.rest) (body_inside : body.0 < length new) where
  others_inside : All (IsWayInside old) (front ++ back)
  others_inside = All-append (IsWayInside old) front back (all_first (IsWayInside old) front (other ∷ back) inside)
      (All-tail (IsWayInside old) other back (all_second (IsWayInside old) front (other ∷ back) inside))

  module _ (t : Table) (same : Same (reading_of t) (tree_of t new body.0) (s_joined choice (tree_of t old other.body.0) (tree_of t old w.leaf.0)))
      (restricted : IsRestricted (tree_of t old other.body.0) → IsRestricted (tree_of t old w.leaf.0) → IsRestricted (tree_of t new body.0))
      (typed : IsTyped (tree_of t old other.body.0) → IsTyped (tree_of t old w.leaf.0) → IsTyped (tree_of t new body.0)) where
    abbrev of : List StartWay → List tree.Way
    of ws = map (way_of (trees t old)) ws

    abbrev r : Simple ℕ
    r = tree_of t old w.rest.0

    before_is : with_way t old (front ++ other ∷ back) w ≡ (of front ++ way (tree_of t old other.body.0) r ∷ of back) ++ way (tree_of t old w.leaf.0) r ∷ []
    before_is = ap (λ vs. vs ++ way (tree_of t old w.leaf.0) r ∷ []) (map-append (way_of (trees t old)) front (other ∷ back)
        ∙ ap (λ (k : PatternNumber). of front ++ way (tree_of t old other.body.0) (tree_of t old k.0) ∷ of back) rest)

    after_is : map (way_of (trees t new)) ((front ++ back) ++ record { body = body; rest = w.rest } ∷ [])
        ≡ (of front ++ of back) ++ way (tree_of t new body.0) r ∷ []
    after_is = map-append (way_of (trees t new)) (front ++ back) (record { body = body; rest = w.rest } ∷ [])
        ∙ ap₂ (λ vs u. vs ++ way (tree_of t new body.0) u ∷ [])
        (ways_stay t old new longer (front ++ back) others_inside ∙ map-append (way_of (trees t old)) front back)
        (tree_stays t old new w.rest.0 longer there.1)

    pub joined_more : OpensLike t new (with_way t old (front ++ other ∷ back) w) ((front ++ back) ++ record { body = body; rest = w.rest } ∷ [])
    joined_more =
        let g = reading_of t in
        let b = tree_of t old other.body.0 in
        let c = tree_of t old w.leaf.0 in
        let d = tree_of t new body.0 in
        let long = Longer-length old new longer in
        let rest_there = there.1 in
        record {
          inside = All-push (IsWayInside new) (front ++ back) (record { body = body; rest = w.rest })
              (All-weaker (IsWayInside old) (IsWayInside new) (inside_longer old new longer) (front ++ back) others_inside)
              (body_inside, omega (arith, rest_there, long));
          opens = λ xs kids ms.
              subst (λ vs. Opens g xs kids ms vs ↔ Opens g xs kids ms (with_way t old (front ++ other ∷ back) w)) (sym after_is)
              (subst (λ us. Opens g xs kids ms ((of front ++ of back) ++ way d r ∷ []) ↔ Opens g xs kids ms us) (sym before_is)
              (joined_opens g (of front) (of back) b c d r same xs kids ms));
          kept = λ q each.
              let P = IsRestrictedBodyNamed g q in
              subst (EachWay P IsRestricted) (sym after_is)
              (joined_kept g (of front) (of back) b c d r P IsRestricted (named_both g q b c d restricted typed)
              (subst (EachWay P IsRestricted) before_is each));
        }

-- ---- one way after the other

pub none_joined : (t : Table) (ns : List Node) (joined : List StartWay) → joined ≡ [] → OpensLike t ns [] joined
none_joined t ns joined e = subst (OpensLike t ns []) (sym e) (record {
  inside = All-nil (IsWayInside ns);
  opens = λ xs kids ms. (λ h. h, λ h. h);
  kept = λ q each. tt;
})

pub next_joined : (t : Table) (first before new : List Node) (ways : List numbered.LeafWay) (i : ℕ) (d : numbered.LeafWay) (joined more : List StartWay) → i < length ways
    → AreInside first ways → Longer first before → OpensLike t before (ways_by (tree_of t first) (take i ways)) joined
    → OpensLike t new (with_way t before joined (get_or ways i d)) more → OpensLike t new (ways_by (tree_of t first) (take (i + 1) ways)) more
next_joined t first before new ways i d joined more within inside longer was added =
    let g = reading_of t in
    let w = get_or ways i d in
    let front = ways_by (tree_of t first) (take i ways) in
    let one = way_by (tree_of t first) w in
    let there = inside i d within in
    let stays : way_by (tree_of t before) w ≡ one =
    ap₂ way (tree_stays t first before w.leaf.0 longer there.0) (tree_stays t first before w.rest.0 longer there.1) in
    let cut : ways_by (tree_of t first) (take (i + 1) ways) ≡ front ++ one ∷ [] =
    ap (ways_by (tree_of t first)) (take_more ways i d within) ∙ map-append (way_by (tree_of t first)) (take i ways) (w ∷ []) in
    let those = map (way_of (trees t before)) joined in
    record {
      inside = added.inside;
      opens = λ xs kids ms.
          let step = subst (λ v. Opens g xs kids ms (map (way_of (trees t new)) more) ↔ Opens g xs kids ms (those ++ v ∷ [])) stays (added.opens xs kids ms) in
          let both = append_opens g xs kids ms those front (one ∷ []) (one ∷ []) (was.opens xs kids ms) (λ h. h, λ h. h) in
          subst (λ ws. Opens g xs kids ms (map (way_of (trees t new)) more) ↔ Opens g xs kids ms ws) (sym cut)
          (λ h. both.0 (step.0 h), λ h. step.1 (both.1 h));
      kept = λ q each.
          let P = IsRestrictedBodyNamed g q in
          let parts = subst (EachWay P IsRestricted) cut each in
          added.kept q (subst (λ v. EachWay P IsRestricted (those ++ v ∷ [])) (sym stays)
          (each_both P IsRestricted those (one ∷ []) (was.kept q (each_first P IsRestricted front (one ∷ []) parts))
          (each_second P IsRestricted front (one ∷ []) parts)));
    }

-- ---- all of them

module _ (P Q P' Q' : Simple ℕ → Type 0) (f : (p : Simple ℕ) → P p → P' p) (h : (p : Simple ℕ) → Q p → Q' p) where
  each_weaker : (ws : List tree.Way) → EachWay P Q ws → EachWay P' Q' ws
  each_weaker [] e = tt
  each_weaker (w ∷ ws) e = ((f w.leaf e.0.0, h w.rest e.0.1), each_weaker ws e.1)

each_at : (P Q : Simple ℕ → Type 0) (of : StartWay → tree.Way) (ws : List StartWay) (i : ℕ) (d : StartWay) → EachWay P Q (map of ws) → i < length ws
    → P (of (get_or ws i d)).leaf × Q (of (get_or ws i d)).rest
each_at P Q of [] i d e l = absurd (omega (arith, l))
each_at P Q of (w ∷ ws) zero d e l = e.0
each_at P Q of (w ∷ ws) (suc i) d e l = each_at P Q of ws i d e.1 (omega (arith, l))

module _ (t : Table) (ns new : List Node) (places : List PatternNumber) (p : Simple ℕ) (q : Name) (starts : List numbered.LeafWay) (ways : List StartWay)
    (o : IsRestricted p) (s : AreStarts t ns places p q starts) (a : OpensLike t new (ways_by (tree_of t ns) starts) ways)
    (each : EachWay (IsRestrictedBodyNamed (reading_of t) q) IsRestricted (ways_by (tree_of t ns) starts)) where
  pub starts_inside : length (trees t new) ≡ length new → All (λ w. numbers.IsInside (trees t new) w.body × numbers.IsInside (trees t new) w.rest) ways
  starts_inside long i d h =
      let k = each_at (IsRestrictedBodyNamed (reading_of t) q) IsRestricted (way_of (trees t new)) ways i d (a.kept q each) h in
      let there = a.inside i d h in
      let body = there.0 in
      let rest = there.1 in (
        record { below = omega (arith, long, body); restricted = k.0.restricted },
        record { below = omega (arith, long, rest); restricted = k.1 },
      )

  pub starts_are : level.AreStarts (reading_of t) q p (map (way_of (trees t new)) ways)
  starts_are = record {
    to = λ xs kids ms all d. (a.opens xs (list_of kids) ms).1 (s.to o xs kids ms (no_blanks (cons tt all)) d);
    back = λ xs kids ms h. s.back xs kids ms ((a.opens xs (list_of kids) ms).0 h);
    each = each_weaker (IsRestrictedBodyNamed (reading_of t) q) IsRestricted (IsBodyNamed (reading_of t) q) (λ r. Unit {0})
        (λ b h. h.body) (λ r h. tt) (map (way_of (trees t new)) ways) (a.kept q each);
  }
