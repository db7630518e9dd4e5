-- The rows of a table: what is known of them as one is added.
use Rattle.std.proofs.Common.{◌≡◌, ℕ, suc, if◌then◌else◌, ◌<◌, ◌≤◌, List, [], ◌∷◌, ◌++◌, length, map, slice_get, get_or, Bool, true, false}
use Rattle.std.proofs.Common.{Option, Some, None, refl, ⊎_elim, ap, ap₂, sym, ◌∙◌, arith}
use Rattle.std.proofs.Common.{length-append, subst, true≢false}
use Rattle.std.proofs.lemmas.List.{get_or_append_left, get_or-map, length-map, map-append}
use Rattle.std.proofs.lemmas.Option.{slice_get_within, get_or_from_slice_get, slice_get-get_or, slice_get-map}
use Rattle.std.proofs.lemmas.Bool.{cases_lt}
use Rattle.std.proofs.Math.Seq.{get_or-append_seam}
use Rattle.rng_model.specs.simple.Table.{Table}
use Rattle.rng_model.specs.simple.Tree.{Simple, s_not_allowed}
use Rattle.rng_deriv_table.specs.views.Node.{Node, node_of}
use Rattle.rng_deriv_table.specs.views.Trees.{tree_over, tree_of, trees}
use Rattle.rng_deriv_table.specs.views.PatternTable.{Adds, AreExact, ArePartsBelow, IsKnown, IsNew, IsPatternTable, Longer, facts_of, nodes_of}
use Rattle.rng_deriv_table.specs.plain.Reduced.{AreReduced}
use Rattle.rng_deriv_table.specs.declared.pattern.Pattern.{Pattern}
use Rattle.rng_deriv_table.specs.declared.pattern.Facts.{Facts}
use Rattle.rng_deriv_table.specs.declared.pattern.PatternNumber.{PatternNumber}
use Rattle.std.specs.Map.{keys_of}
use Rattle.std.specs.List.{position_or_len}
use Rattle.std.specs.Option.{option_map}
use Rattle.std.proofs.lemmas.List.Sums.{fails_before_first, passes_at_first}
use Rattle.rng_deriv_table.specs.contracts.pattern.PatternPartialEq.TheImpl as same
use Rattle.rng_deriv_table.proofs.EqualPatterns.{same_node, equal_pattern}
use Rattle.rng_deriv_table.proofs.Trees.{Longer-length, length-trees, reduced_reads, trees_pushed, tree_of-over_parts, tree_of_pushed, tree_stays}
use Rattle.indexmap.specs.IndexMap.{insert_entry}

-- ---- the first table

none_exact : AreExact []
unfolding trees
none_exact t = refl

pub nothing_kept : (rows : List (Pattern × Facts)) → rows ≡ [] → IsPatternTable (nodes_of rows) × AreExact rows
nothing_kept rows none =
    let Kept : List (Pattern × Facts) → Type 0 = λ rows. IsPatternTable (nodes_of rows) × AreExact rows in
    subst Kept (sym none) (record { falls = λ i n e. absurd (cc); reduced = λ t i n e. absurd (cc); apart = λ i j n e f. absurd (cc) }, none_exact)

-- a row that has a pattern has what equals it
pub is_there : {row : Option Node} {p q : Pattern} → row ≡ Some (node_of p) → p ≡ q → row ≡ Some (node_of q)
is_there found is = found ∙ ap (λ p. Some (node_of p)) is

-- ---- one more pattern

-- a pattern of the longer table is one of the old or the new one
module _ {A : Type 0} (ns : List A) (n : A) (i : ℕ) (m : A) (found : slice_get (ns ++ n ∷ []) i ≡ Some m) where
  pub found_old : i < length ns → slice_get ns i ≡ Some m
  found_old h = slice_get-get_or ns i n h ∙ ap Some (sym (get_or_append_left ns (n ∷ []) n i h) ∙ get_or_from_slice_get (ns ++ n ∷ []) i m n found)

  pub found_new : length ns ≤ i → (i ≡ length ns) × (n ≡ m)
  found_new h =
      let inside = slice_get_within (ns ++ n ∷ []) i m found in
      let long = length-append ns (n ∷ []) in
      let at : i ≡ length ns = omega arith in
      (at, sym (get_or-append_seam ns n [] n) ∙ rw (← at) (get_or_from_slice_get (ns ++ n ∷ []) i m n found))

falls_pushed : (ns : List Node) (n : Node) → IsPatternTable ns → ArePartsBelow (length ns) n → (i : ℕ) (m : Node) → slice_get (ns ++ n ∷ []) i ≡ Some m
    → ArePartsBelow i m
falls_pushed ns n kept below i m e = ⊎_elim
    (λ h. kept.falls i m (found_old ns n i m e h))
    (λ h. let new = found_new ns n i m e h in subst (ArePartsBelow i) new.1 (rw new.0 below))
    (cases_lt i (length ns))

reduced_pushed : (ns : List Node) (n : Node) → IsPatternTable ns → ArePartsBelow (length ns) n → ((t : Table) → AreReduced (tree_of t ns) n)
    → (t : Table) (i : ℕ) (m : Node) → slice_get (ns ++ n ∷ []) i ≡ Some m → AreReduced (tree_of t (ns ++ n ∷ [])) m
reduced_pushed ns n kept below own t i m e = ⊎_elim
    (λ h. let found = found_old ns n i m e h in
    reduced_reads m i _ _ (kept.falls i m found) (λ k l. stays k (omega (arith, l, h))) (kept.reduced t i m found))
    (λ h. let new = found_new ns n i m e h in subst (AreReduced (tree_of t (ns ++ n ∷ []))) new.1 (reduced_reads n (length ns) _ _ below stays (own t)))
    (cases_lt i (length ns))
  where
    stays : (k : ℕ) → k < length ns → tree_of t (ns ++ n ∷ []) k ≡ tree_of t ns k
    stays k l = tree_stays t ns (ns ++ n ∷ []) k (n ∷ [], refl) l

apart_pushed : (ns : List Node) (n : Node) → IsPatternTable ns → IsNew ns n → (i j : ℕ) (m : Node) → slice_get (ns ++ n ∷ []) i ≡ Some m
    → slice_get (ns ++ n ∷ []) j ≡ Some m → i ≡ j
apart_pushed ns n kept fresh i j m e f = ⊎_elim
    (λ h. ⊎_elim
    (λ l. kept.apart i j m (found_old ns n i m e h) (found_old ns n j m f l))
    (λ l. let new = found_new ns n j m f l in absurd (fresh i (found_old ns n i m e h ∙ ap Some (sym new.1))))
    (cases_lt j (length ns)))
    (λ h. ⊎_elim
    (λ l. let new = found_new ns n i m e h in absurd (fresh j (found_old ns n j m f l ∙ ap Some (sym new.1))))
    (λ l. (found_new ns n i m e h).0 ∙ sym (found_new ns n j m f l).0)
    (cases_lt j (length ns)))
    (cases_lt i (length ns))

-- a table with one more pattern, which is not in it and whose parts are
pub one_more : (rows : List (Pattern × Facts)) (p : Pattern) (f : Facts) → IsPatternTable (nodes_of rows) × AreExact rows
    → ArePartsBelow (length (nodes_of rows)) (node_of p)
    → ((t : Table) → AreReduced (tree_of t (nodes_of rows)) (node_of p)) → IsNew (nodes_of rows) (node_of p)
    → ((t : Table) → f ≡ facts_of (tree_over t (tree_of t (nodes_of rows)) (node_of p)))
    → IsPatternTable (nodes_of (rows ++ (p, f) ∷ [])) × AreExact (rows ++ (p, f) ∷ [])
one_more rows p f kept below reduced fresh exact =
    let ns = nodes_of rows in
    let n = node_of p in
    let longer : nodes_of (rows ++ (p, f) ∷ []) ≡ ns ++ n ∷ [] = map-append (λ r. node_of r.0) rows ((p, f) ∷ []) in (
      subst IsPatternTable (sym longer) (record {
        falls = falls_pushed ns n kept.0 below;
        reduced = reduced_pushed ns n kept.0 below reduced;
        apart = apart_pushed ns n kept.0 fresh;
      }),
      λ t. map-append (λ r. r.1) rows ((p, f) ∷ []) ∙ ap₂ (λ xs x. xs ++ x ∷ []) (kept.1 t) (exact t)
          ∙ sym (map-append facts_of (trees t ns) (tree_over t (tree_of t ns) n ∷ []))
          ∙ ap (map facts_of) (sym (trees_pushed t ns n) ∙ ap (trees t) (sym longer)),
    )

-- ---- a pattern is looked up

abbrev pub node_eq : Pattern → Pattern → Bool
node_eq = same.ghosts.eq

keys_are : (rows : List (Pattern × Facts)) → map node_of (keys_of rows) ≡ nodes_of rows
keys_are [] = refl
keys_are (r ∷ rows) = ap (λ xs. node_of r.0 ∷ xs) (keys_are rows)

-- if it is found, its node is there
pub found_there : (p : Pattern) (rows : List (Pattern × Facts)) → position_or_len (node_eq p) (keys_of rows) < length (keys_of rows)
    → slice_get (nodes_of rows) (position_or_len (node_eq p) (keys_of rows)) ≡ Some (node_of p)
found_there p rows inside =
    let ks = keys_of rows in
    let i = position_or_len (node_eq p) ks in
    sym (ap (λ ns. slice_get ns i) (keys_are rows)) ∙ slice_get-map node_of ks i ∙ ap (option_map node_of) (slice_get-get_or ks i p inside)
    ∙ ap Some (sym (same_node p (get_or ks i p) (passes_at_first (node_eq p) ks p inside)))

-- if it is not found, no pattern has its node
pub not_there : (p : Pattern) (rows : List (Pattern × Facts)) → length (keys_of rows) ≤ position_or_len (node_eq p) (keys_of rows)
    → IsNew (nodes_of rows) (node_of p)
not_there p rows all i found =
    at_key (slice_get ks i) refl (sym (slice_get-map node_of ks i) ∙ ap (λ ns. slice_get ns i) (keys_are rows) ∙ found)
  where
    ks : List Pattern
    ks = keys_of rows

    at_key : (o : Option Pattern) → slice_get ks i ≡ o → option_map node_of o ≡ Some (node_of p) → ⊥
    at_key None f k = absurd (cc)
    at_key (Some q) f k =
        let same : node_of p ≡ node_of q = cc in
        let inside = slice_get_within ks i q f in
        let fails : node_eq p (get_or ks i q) ≡ false = fails_before_first (node_eq p) ks i q (omega (arith, all, inside)) in
        let is : node_eq p q ≡ false = ap (node_eq p) (sym (get_or_from_slice_get ks i q q f)) ∙ fails in
        true≢false (sym (equal_pattern p q same) ∙ is)

-- ---- what is known of a pattern

pub facts_there : (rows : List (Pattern × Facts)) (i : ℕ) (p : Pattern) (f : Facts) → AreExact rows → slice_get rows i ≡ Some (p, f) → (t : Table)
    → f ≡ facts_of (tree_of t (nodes_of rows) i)
facts_there rows i p f exact found t =
    let inside : i < length rows = slice_get_within rows i (p, f) found in
    let long : i < length (trees t (nodes_of rows)) = omega (arith, length-trees t (nodes_of rows), length-map rows (λ r. node_of r.0)) in
    sym (ap (λ (r : Pattern × Facts). r.1) (get_or_from_slice_get rows i (p, f) (p, f) found)) ∙ sym (get_or-map (λ r. r.1) rows i (p, f) f inside)
    ∙ ap (λ fs. get_or fs i f) (exact t) ∙ get_or-map facts_of (trees t (nodes_of rows)) i s_not_allowed f long

-- ---- a pattern is added

next_found : (ns : List Node) (n m : Node) (i : ℕ) → slice_get ns i ≡ Some m → slice_get (n ∷ ns) (suc i) ≡ Some m
next_found ns n m i e =
    let inside = slice_get_within ns i m e in
    slice_get-get_or (n ∷ ns) (suc i) m (omega (arith, inside)) ∙ ap Some (get_or_from_slice_get ns i m m e)

-- a pattern that is not in the table goes last
pub goes_last : (rows : List (Pattern × Facts)) (p : Pattern) (f : Facts) → IsNew (nodes_of rows) (node_of p)
    → insert_entry node_eq rows p f ≡ rows ++ (p, f) ∷ []
goes_last [] p f fresh = refl
goes_last (r ∷ rows) p f fresh =
    by (node_eq p r.0) refl (goes_last rows p f (λ i found. fresh (suc i) (next_found (nodes_of rows) (node_of r.0) (node_of p) i found)))
  where
    by : (b : Bool) → node_eq p r.0 ≡ b → insert_entry node_eq rows p f ≡ rows ++ (p, f) ∷ []
        → (if b then (r.0, f) ∷ rows else r ∷ insert_entry node_eq rows p f) ≡ r ∷ rows ++ (p, f) ∷ []
    by true e later = absurd (fresh 0 (ap Some (sym (same_node p r.0 e))))
    by false e later = ap (λ rs. r ∷ rs) later

-- a pattern that is found
pub found_adds : (ns : List Node) (i : ℕ) (n : Node) → IsPatternTable ns → slice_get ns i ≡ Some n → Adds ns ns i (λ t. tree_over t (tree_of t ns) n)
found_adds ns i n kept found =
    record { inside = slice_get_within ns i n found; is = λ t. tree_of-over_parts t ns i n (kept.falls i n found) found }

-- a pattern that is new
pub new_adds : (ns ms : List Node) (n : Node) (i : ℕ) → ms ≡ ns ++ n ∷ [] → i ≡ length ns → Adds ns ms i (λ t. tree_over t (tree_of t ns) n)
new_adds ns ms n i more at =
    let Added : List Node → ℕ → Type 0 = λ ms i. Adds ns ms i (λ t. tree_over t (tree_of t ns) n) in
    let last : Added (ns ++ n ∷ []) (length ns) = record { inside = omega (arith, length-append ns (n ∷ [])); is = λ t. tree_of_pushed t ns n } in
    subst (λ ms. Added ms i) (sym more) (subst (Added (ns ++ n ∷ [])) (sym at) last)

-- the nodes with one more
pub nodes_more : (rows : List (Pattern × Facts)) (p : Pattern) (f : Facts) {more : List (Pattern × Facts)} {ns : List Node} → more ≡ rows ++ (p, f) ∷ []
    → nodes_of rows ≡ ns → nodes_of more ≡ ns ++ node_of p ∷ []
nodes_more rows p f e is = ap nodes_of e ∙ map-append (λ r. node_of r.0) rows ((p, f) ∷ []) ∙ ap (λ ns. ns ++ node_of p ∷ []) is

-- a known number stays known
pub known_stays : (old new : List Node) (o : Option PatternNumber) (tree : Simple ℕ) → Longer old new → IsKnown old o tree → IsKnown new o tree
known_stays old new None tree longer known = tt
known_stays old new (Some n) tree longer known =
    let long = Longer-length old new longer in
    let inside = known.inside in record { inside = omega (arith, long, inside); is = λ t. tree_stays t old new n.0 longer inside ∙ known.is t }
