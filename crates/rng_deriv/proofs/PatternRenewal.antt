-- What holds of some patterns holds of them in another table too.
use Rattle.std.proofs.Common.{◌≡◌, ◌∙◌, ℕ, zero, suc, ◌<◌, List, [], ◌∷◌, ◌++◌, length, map, take, drop, All, get_or, slice_index_or}
use Rattle.std.proofs.Common.{refl, sym, ap₂, subst, arith}
use Rattle.std.specs.List.{AllZip}
use Rattle.std.proofs.lemmas.List.Elements.{All-cons, All-head, All-nil, All-tail}
use Rattle.std.proofs.lemmas.Slice.Zip.{AllZip-long}
use Rattle.rng_model.specs.simple.Table.{Table, tree_at}
use Rattle.rng_model.specs.declared.simple.PatternId.{PatternId}
use Rattle.rng_deriv_laws.specs.plain.Restricted.{IsRestricted, IsRestrictedBody}
use Rattle.rng_deriv_laws.specs.plain.Taking.{Same}
use Rattle.rng_deriv_table.specs.views.Node.{Node}
use Rattle.rng_deriv_table.specs.views.Taking.{tree_by}
use Rattle.rng_deriv_table.specs.views.Trees.{trees, tree_of}
use Rattle.rng_deriv_table.specs.declared.pattern.PatternNumber.{PatternNumber}
use Rattle.rng_deriv_table.proofs.Trees.{length-trees}
use Rattle.rng_deriv_ways.specs.plain.Kinds.{Obeys}
use Rattle.rng_deriv_ways.proofs.StartBodies.{body_inside}
use Rattle.rng_deriv_events.specs.views.Numbers as numbers
use Rattle.rng_deriv_events.specs.views.Numbers.{AreRenewed, IsInside}
use Rattle.rng_deriv_events.proofs.LevelRenewal.{zip_split}
use Rattle.rng_deriv.specs.views.PatternRenewal.{AreSameTrees, IsSameTree}
use Rattle.rng_deriv.specs.views.Serving.{IsServed}

-- both hold for each pair
pub zip_both : {A B : Type 0} (P : B → Type 0) (R : A → B → Type 0) (xs : List A) (ys : List B) → All P ys → AllZip R xs ys → AllZip (λ x y. P y × R x y) xs ys
zip_both P R [] [] all h = tt
zip_both P R [] (y ∷ ys) all h = absurd h
zip_both P R (x ∷ xs) [] all h = absurd h
zip_both P R (x ∷ xs) (y ∷ ys) all h = ((All-head P y ys all, h.0), zip_both P R xs ys (All-tail P y ys all) h.1)

zip_at : {A B : Type 0} (R : A → B → Type 0) (xs : List A) (ys : List B) (i : ℕ) (a : A) (b : B) → AllZip R xs ys → i < length ys
    → R (get_or xs i a) (get_or ys i b)
zip_at R [] [] i a b h within = absurd (omega (arith, within))
zip_at R [] (y ∷ ys) i a b h within = absurd h
zip_at R (x ∷ xs) [] i a b h within = absurd h
zip_at R (x ∷ xs) (y ∷ ys) zero a b h within = h.0
zip_at R (x ∷ xs) (y ∷ ys) (suc i) a b h within = zip_at R xs ys i a b h.1 (omega (arith, within))

module _ (t : Table) (old new : List Node) (ms ns : List PatternNumber) (same : AreSameTrees t old new ms ns) where
  abbrev none : PatternNumber
  none = record { 0 = 0 }

  at_id : (id : PatternId) → id.0 < length ns → IsSameTree t old new (slice_index_or ms id.0 none) (slice_index_or ns id.0 none)
  at_id id within = zip_at (IsSameTree t old new) ms ns id.0 none none same within

  tree_at_id : (id : PatternId) → id.0 < length ns → tree_by t new ns id ≡ tree_by t old ms id
  tree_at_id id within = (at_id id within).1

  pub served_renewed : IsServed t old ms → IsServed t new ns
  served_renewed served =
      let long = AllZip-long (IsSameTree t old new) ms ns same in
      let ready = served.ready in
      record {
        keeps = served.keeps;
        ready = record {
          grammar = ready.grammar;
          long = long ∙ ready.long;
          taken = record {
            inside = λ i within. (at_id (record { 0 = i }) within).0;
            same = λ i within has g. subst (λ p. Same g p (tree_at t.patterns (record { 0 = i }))) (sym (tree_at_id (record { 0 = i }) within))
                (ready.taken.same i (subst (λ n. i < n) long within) has g);
          };
          kept = λ place id within has o. subst (Obeys place) (sym (tree_at_id id within)) (ready.kept place id (subst (λ n. id.0 < n) long within) has o);
        };
        bodies = λ k e found.
            let there = body_inside t k e ready.grammar found in
            let held = long ∙ ready.long in
            let within : e.1.0 < length ns = omega (arith, there, held) in
            subst IsRestrictedBody (sym (tree_at_id e.1 within)) (served.bodies k e found);
      }

-- the patterns that were held are the same
all_held : (t : Table) (old new : List Node) (ms ns : List PatternNumber) → All (IsInside (trees t old)) ms → AreSameTrees t old new ms ns
    → AreRenewed (trees t old) (trees t new) ms ns
all_held t old new ms ns inside same = record { inside = within ms ns inside same; same = equal ms ns same }
  where
    within : (ms ns : List PatternNumber) → All (IsInside (trees t old)) ms → AreSameTrees t old new ms ns → All (IsInside (trees t new)) ns
    within [] [] inside same = All-nil (IsInside (trees t new))
    within [] (n ∷ ns) inside same = absurd same
    within (m ∷ ms) [] inside same = absurd same
    within (m ∷ ms) (n ∷ ns) inside same =
        let below = same.0.0 in
        let count = length-trees t new in
        All-cons (IsInside (trees t new)) n ns (record {
          below = omega (arith, below, count);
          restricted = subst IsRestricted (sym same.0.1) (All-head (IsInside (trees t old)) m ms inside).restricted;
        }) (within ms ns (All-tail (IsInside (trees t old)) m ms inside) same.1)

    equal : (ms ns : List PatternNumber) → AreSameTrees t old new ms ns
        → map (numbers.tree_of (trees t new)) ns ≡ map (numbers.tree_of (trees t old)) ms
    equal [] [] same = refl
    equal [] (n ∷ ns) same = absurd same
    equal (m ∷ ms) [] same = absurd same
    equal (m ∷ ms) (n ∷ ns) same = ap₂ (λ p ps. p ∷ ps) same.0.1 (equal ms ns same.1)

-- the same, as contracts see a table that is not lost
pub held_renewed : (t : Table) (old new : List Node) (seen : Table × List Node) → (t, old) ≡ seen → (ms ns : List PatternNumber)
    → All (IsInside (trees seen.0 seen.1)) ms → AreSameTrees t old new ms ns → AreRenewed (trees seen.0 seen.1) (trees t new) ms ns
held_renewed t old new seen view ms ns inside same =
    let P : Table × List Node → Type 0 = λ s. All (IsInside (trees s.0 s.1)) ms → AreRenewed (trees s.0 s.1) (trees t new) ms ns in
    subst P view (λ inside. all_held t old new ms ns inside same) inside

-- the numbers of a grammar, followed by those that are held
module _ (t : Table) (old new : List Node) (ms hs wanted given : List PatternNumber) (are : wanted ≡ ms ++ hs) (inside : All (λ n. n.0 < length new) given)
    (same : AllZip (λ m n. tree_of t new n.0 ≡ tree_of t old m.0) wanted given) where
  all_same : AreSameTrees t old new (ms ++ hs) given
  all_same =
      subst (λ (ws : List PatternNumber). AreSameTrees t old new ws given) are
      (zip_both (λ (n : PatternNumber). n.0 < length new) (λ (m n : PatternNumber). tree_of t new n.0 ≡ tree_of t old m.0) wanted given inside same)

  pub front_same : (front : List PatternNumber) → front ≡ take (length ms) given → AreSameTrees t old new ms front
  front_same front is = subst (AreSameTrees t old new ms) (sym is) (zip_split (IsSameTree t old new) ms hs given all_same).0

  pub back_same : (back : List PatternNumber) → back ≡ drop (length ms) given → AreSameTrees t old new hs back
  back_same back is = subst (AreSameTrees t old new hs) (sym is) (zip_split (IsSameTree t old new) ms hs given all_same).1
