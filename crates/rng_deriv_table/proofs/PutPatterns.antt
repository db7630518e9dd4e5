-- A pattern that is put into a table is found where it is, or goes last.
use Rattle.std.proofs.Common.{◌≡◌, ℕ, zero, suc, ◌≤◌, List, [], ◌∷◌, ◌++◌, length, slice_get, Bool, true, false, if◌then◌else◌, Option, Some, refl, ap, sym, subst, ◌∙◌}
use Rattle.std.proofs.Common.{⊎_elim, arith, append-nil, not, true≢false}
use Rattle.std.proofs.lemmas.List.{length-map, map-append}
use Rattle.std.proofs.lemmas.Option.{slice_get_within, get_or_from_slice_get, slice_get-get_or, slice_get-map}
use Rattle.std.proofs.lemmas.Bool.{cases_lt}
use Rattle.std.proofs.lemmas.List.Sums.{prefix_len-le-length}
use Rattle.std.specs.List.{position_or_len}
use Rattle.std.specs.Map.{keys_of}
use Rattle.std.specs.Option.{option_map}
use Rattle.indexmap.specs.IndexMap.{insert_entry}
use Rattle.rng_model.specs.simple.Table.{Table}
use Rattle.rng_model.specs.declared.type_set.TypeSet.TheVariants.{Profile}
use Rattle.rng_model.specs.simple.Tree.{s_not_allowed, s_empty}
use Rattle.rng_deriv_table.specs.plain.Copies.{AreUnits, IsKeptLast, IsUnit}
use Rattle.rng_deriv_table.specs.views.Node.{node_of}
use Rattle.rng_deriv_table.specs.views.PatternTable.{Adds, AreExact, ArePartsBelow, IsKnown, IsNew, IsPatternTable, Longer, facts_of, nodes_of}
use Rattle.rng_deriv_table.specs.plain.Reduced.{AreReduced}
use Rattle.rng_deriv_table.specs.views.Trees.{tree_of, tree_over}
use Rattle.rng_deriv_table.specs.declared.pattern.Facts.{Facts}
use Rattle.rng_deriv_table.specs.declared.pattern.Pattern.{Pattern}
use Rattle.rng_deriv_table.specs.declared.pattern.PatternNumber.{PatternNumber}
use Rattle.rng_deriv_table.proofs.EqualPatterns.{equal_pattern, same_node}
use Rattle.rng_deriv_table.proofs.TableRows.{facts_there, found_adds, found_there, goes_last, known_stays, new_adds, node_eq, not_there, one_more}
use Rattle.rng_deriv_table.proofs.Trees.{tree_of-over_parts}
use Rattle.rng_deriv_table.proofs.Units.{units_kept}

module _ {X : Type 0} (x : X) (xs : List X) where
  later : (i : ℕ) (y : X) → slice_get xs i ≡ Some y → slice_get (x ∷ xs) (suc i) ≡ Some y
  later i y e =
      let inside = slice_get_within xs i y e in
      slice_get-get_or (x ∷ xs) (suc i) y (omega (arith, inside)) ∙ ap Some (get_or_from_slice_get xs i y y e)

  earlier : (i : ℕ) (y : X) → slice_get (x ∷ xs) (suc i) ≡ Some y → slice_get xs i ≡ Some y
  earlier i y e =
      let inside = slice_get_within (x ∷ xs) (suc i) y e in
      slice_get-get_or xs i y (omega (arith, inside)) ∙ ap Some (get_or_from_slice_get (x ∷ xs) (suc i) y y e)

-- what is known of its row holds for each pattern with its node
abbrev IsKnownThere : List (Pattern × Facts) → Pattern → Facts → Type 0
IsKnownThere rows p f = (i : ℕ) (r : Pattern × Facts) → slice_get rows i ≡ Some r → node_of r.0 ≡ node_of p → r.1 ≡ f

stays : (rows : List (Pattern × Facts)) (p : Pattern) (f : Facts) → IsKnownThere rows p f → (i : ℕ) → slice_get (nodes_of rows) i ≡ Some (node_of p)
    → insert_entry node_eq rows p f ≡ rows
stays [] p f known i found = absurd (cc)
stays (r ∷ rows) p f known i found = by (node_eq p r.0) refl i found
    (λ j found. stays rows p f (λ k s there. known (suc k) s (later r rows k s there)) j found)
  where
    by : (b : Bool) → node_eq p r.0 ≡ b → (i : ℕ) → slice_get (nodes_of (r ∷ rows)) i ≡ Some (node_of p)
        → ((j : ℕ) → slice_get (nodes_of rows) j ≡ Some (node_of p) → insert_entry node_eq rows p f ≡ rows)
        → (if b then (r.0, f) ∷ rows else r ∷ insert_entry node_eq rows p f) ≡ r ∷ rows
    by true e i found rest = ap (λ (x : Facts). (r.0, x) ∷ rows) (sym (known 0 r refl (sym (same_node p r.0 e))))
    by false e zero found rest = absurd (true≢false (sym (equal_pattern p r.0 (cc)) ∙ e))
    by false e (suc j) found rest = ap (λ rs. r ∷ rs) (rest j (earlier (node_of r.0) (nodes_of rows) j (node_of p) found))

pub record IsPut (old new : List (Pattern × Facts)) (p : Pattern) (number : ℕ) : Type 0 where
  pub table : IsPatternTable (nodes_of new)
  pub exact : AreExact new
  pub longer : Longer (nodes_of old) (nodes_of new)
  pub adds : Adds (nodes_of old) (nodes_of new) number (λ t. tree_over t (tree_of t (nodes_of old)) (node_of p))

module _ (rows : List (Pattern × Facts)) (p : Pattern) (f : Facts) (table : IsPatternTable (nodes_of rows)) (exact : AreExact rows)
    (below : ArePartsBelow (length (nodes_of rows)) (node_of p)) (reduced : (t : Table) → AreReduced (tree_of t (nodes_of rows)) (node_of p))
    (known : (t : Table) → f ≡ facts_of (tree_over t (tree_of t (nodes_of rows)) (node_of p))) where
  any_table : Table
  any_table = record { patterns = []; elements = []; start = record { 0 = 0 }; types = Profile }

  known_there : IsKnownThere rows p f
  known_there i r found same =
      let ns = nodes_of rows in
      let t = any_table in
      let node : slice_get ns i ≡ Some (node_of r.0) = slice_get-map (λ (r : Pattern × Facts). node_of r.0) rows i
      ∙ ap (option_map (λ (r : Pattern × Facts). node_of r.0)) found in
      facts_there rows i r.0 r.1 exact found t ∙ ap facts_of (tree_of-over_parts t ns i (node_of r.0) (table.falls i (node_of r.0) node) node)
      ∙ ap (λ n. facts_of (tree_over t (tree_of t ns) n)) same ∙ sym (known t)

  stays_put : (i : ℕ) → slice_get (nodes_of rows) i ≡ Some (node_of p) → IsPut rows (insert_entry node_eq rows p f) p i
  stays_put i found = subst (λ new. IsPut rows new p i) (sym (stays rows p f known_there i found)) (record {
    table = table;
    exact = exact;
    longer = ([], sym (append-nil (nodes_of rows)));
    adds = found_adds (nodes_of rows) i (node_of p) table found;
  })

  pub goes_put : IsNew (nodes_of rows) (node_of p) → IsPut rows (insert_entry node_eq rows p f) p (length rows)
  goes_put fresh =
      let kept = one_more rows p f (table, exact) below reduced fresh known in
      let more = map-append (λ (r : Pattern × Facts). node_of r.0) rows ((p, f) ∷ []) in
      subst (λ new. IsPut rows new p (length rows)) (sym (goes_last rows p f fresh)) (record {
        table = kept.0;
        exact = kept.1;
        longer = (node_of p ∷ [], more);
        adds = new_adds (nodes_of rows) (nodes_of (rows ++ (p, f) ∷ [])) (node_of p) (length rows) more
            (sym (length-map rows (λ (r : Pattern × Facts). node_of r.0)));
      })

  pub put_is : (new : List (Pattern × Facts)) (number : ℕ) → new ≡ insert_entry node_eq rows p f
      → number ≡ position_or_len (node_eq p) (keys_of rows) → IsPut rows new p number
  put_is new number e at =
      let ks = keys_of rows in
      let i = position_or_len (node_eq p) ks in
      subst (λ new. IsPut rows new p number) (sym e) (subst (IsPut rows (insert_entry node_eq rows p f) p) (sym at) (⊎_elim
      (λ inside. stays_put i (found_there p rows inside))
      (λ all. let low : i ≤ length ks = prefix_len-le-length (λ x. not (node_eq p x)) ks in
      let long = length-map rows (λ (r : Pattern × Facts). r.0) in
      let last : length rows ≡ i = omega (arith, low, all, long) in
      subst (IsPut rows (insert_entry node_eq rows p f) p) last (goes_put (not_there p rows all)))
      (cases_lt i (length ks))))

-- the invariant of a table holds with the pattern and its unit
pub table_kept : (old new : List (Pattern × Facts)) (p : Pattern) (number : ℕ) (none empty : Option PatternNumber) (before after : List ℕ) (unit : ℕ)
    → IsPut old new p number → IsKnown (nodes_of old) none s_not_allowed → IsKnown (nodes_of old) empty s_empty → AreUnits (nodes_of old) before
    → IsUnit (nodes_of old) (λ t. tree_over t (tree_of t (nodes_of old)) (node_of p)) unit → IsKeptLast before after number unit
    → IsPatternTable (nodes_of new) × AreExact new × IsKnown (nodes_of new) none s_not_allowed × IsKnown (nodes_of new) empty s_empty
    × AreUnits (nodes_of new) after
table_kept old new p number none empty before after unit put not_allowed_is empty_is units own last = (
  put.table,
  put.exact,
  known_stays _ _ none s_not_allowed put.longer not_allowed_is,
  known_stays _ _ empty s_empty put.longer empty_is,
  units_kept (nodes_of old) (nodes_of new) put.longer before after number unit _ units put.adds own last,
)
