-- The rows inside those between whose sides names must not meet are marked.
use Rattle.std.proofs.Common.{◌≡◌, inl, inr, refl, ap, sym, ◌∙◌, subst, ℕ, ◌+◌, ◌<◌, List, [], ◌∷◌, ◌++◌, length, Some, None, Option, All, Contains, arith}
use Rattle.std.proofs.lemmas.Bool.{cases_eq}
use Rattle.std.proofs.lemmas.List.Elements.{All-append, All-same, Contains-append_left, Contains-append_right}
use Rattle.rng_model.proofs.Members.{not_in_none, one_only, all_from_members}
use Rattle.rng_model.specs.simple.Table.{Table}
use Rattle.rng_model.specs.simple.TableRules.{IsTable}
use Rattle.rng_model.specs.declared.simple.Simple.{Simple}
use Rattle.rng_model.specs.declared.simple.Simple.TheVariants as simple
use Rattle.rng_rules.specs.declared.names_meet_sides.Rows as declared
use Rattle.rng_labels.specs.plain.Queues.{IsReachedBy, at_start, onward}
use Rattle.rng_rules.specs.plain.NamesMeetReach.{lists}
use Rattle.rng_rules.specs.views.NamesMeetRows.{IsAbove, children, children_at, passed}
use Rattle.rng_rules.specs.views.NamesMeetSides.{AreRows, Climbs, IsJoin, join_list, row_sides}
use Rattle.rng_rules.proofs.NamesMeetBetween.{join_sides}
use Rattle.rng_rules.proofs.RowPaths.{children_of}

-- a pattern passes only to its children
passed_child : (p : Simple) {c : ℕ} → Contains (passed p) c → Contains (children p) c
passed_child (simple.OneOrMore a) h = h
passed_child (simple.Group a b) h = h
passed_child (simple.Interleave a b) h = h
passed_child (simple.Choice a b) h = h
passed_child (simple.Attribute d a) {c} h = absurd (not_in_none h)
passed_child (simple.List a) {c} h = absurd (not_in_none h)
passed_child (simple.DataExcept d a) {c} h = absurd (not_in_none h)
passed_child simple.NotAllowed {c} h = absurd (not_in_none h)
passed_child simple.Empty {c} h = absurd (not_in_none h)
passed_child simple.Text {c} h = absurd (not_in_none h)
passed_child (simple.Element e) {c} h = absurd (not_in_none h)
passed_child (simple.Data d) {c} h = absurd (not_in_none h)
passed_child (simple.Value value) {c} h = absurd (not_in_none h)

module _ (t : Table) (valid : IsTable t) (above : List (List ℕ)) (is : IsAbove t.patterns above) (start : List ℕ) where
  -- a row that climbs to a row that is reached is reached too
  pub goes_under : {k y : ℕ} → Climbs above (k ∷ []) y → IsReachedBy (children_at t.patterns) start y → IsReachedBy (children_at t.patterns) start k
  goes_under {k} (at_start {x} c) h = subst (IsReachedBy (children_at t.patterns) start) (sym (one_only k x c)) h
  goes_under (onward {x} {y} r c) h =
      let i = (is.exact x y).0 c in
      goes_under r (onward h (subst (λ cs. Contains cs x) (sym (children_of t valid y i.0 i.1)) (passed_child i.0 i.2)))

-- ---- joins, row by row

pub record AreJoinsOfFirst (rows : declared.Rows) (n : ℕ) (joins : List ℕ) : Type 0 where
  pub below : All (λ k. k < length rows.standing.items) joins
  pub all : (row left right : ℕ) → row < n → IsJoin rows.of rows.grammar.now row left right → Contains joins row

join_below : (n i : ℕ) (o : Option (ℕ × ℕ)) → i < n → (k : ℕ) → Contains (join_list i o) k → k < n
join_below n i None h k c = absurd (not_in_none c)
join_below n i (Some s) h k c = subst (λ j. j < n) (one_only i k c) h

join_there : (i : ℕ) (o : Option (ℕ × ℕ)) {s : ℕ × ℕ} → o ≡ Some s → Contains (join_list i o) i
join_there i o e = subst (λ p. Contains (join_list i p) i) (sym e) (0, omega arith, refl)

pub joins_more : (rows : declared.Rows) (are : AreRows rows) (i : ℕ) (old new : List ℕ) → i < length rows.standing.items
    → new ≡ old ++ join_list i (row_sides rows i) → AreJoinsOfFirst rows i old → AreJoinsOfFirst rows (i + 1) new
joins_more rows are i old new inside more so_far =
    let n = length rows.standing.items in
    let one = join_list i (row_sides rows i) in record {
      below = All-same (λ k. k < n) new (old ++ one) more
          (All-append (λ k. k < n) old one so_far.below (all_from_members (λ k. k < n) one (join_below n i (row_sides rows i) inside)));
      all = λ row left right h j. subst (λ xs. Contains xs row) (sym more) (elim (cases_eq row i) [
        | inl e ↦ Contains-append_right old one row
            (subst (Contains one) (sym e) (join_there i (row_sides rows i) (ap (row_sides rows) (sym e)
            ∙ join_sides rows.of rows.grammar.now (lists rows.above.items) rows.standing.items are j)))
        | inr m ↦ Contains-append_left old one row (so_far.all row left right (omega (arith, h, m)) j)
      ]);
    }
