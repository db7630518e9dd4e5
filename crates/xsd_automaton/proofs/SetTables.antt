-- What a text leads to by a table of sets.
use Rattle.std.proofs.Common.{◌≡◌, ◌↔◌, ◌∙◌, ◌⊎◌, ◌<◌, ℕ, zero, suc, List, [], ◌∷◌, ◌++◌, length, Bool, Some, true, refl, sym, ap}
use Rattle.std.proofs.Common.{subst, inl, inr, arith, Option, None, IfSome}
use Rattle.std.specs.List.{slice_get}
use Rattle.std.proofs.lemmas.Option.{slice_get_within}
use Rattle.rng_model.specs.regexes.Expressions.{Regex, Denotes}
use Rattle.xsd_regex.specs.plain.Positions.{Position, ArePositionsOf}
use Rattle.xsd_automaton.specs.declared.sets.SetRow.{SetRow}
use Rattle.xsd_automaton.specs.plain.Closures.{has_number}
use Rattle.xsd_automaton.specs.plain.Sets.{no_set, members_at, HasTarget, no_target, to_set, IsLonger, IsRow, AreTargets, AreEnds}
use Rattle.xsd_automaton.specs.plain.BegunChars.{AreBegun, of_ascii, of_past, of_further}
use Rattle.xsd_automaton.proofs.BegunChars.{nothing_begun}
use Rattle.std.proofs.lemmas.List.{append-nil}
use Rattle.std.proofs.Common.{get_or}
use Rattle.xsd_automaton.specs.views.Sets.{IsSetTable, AreTables, LeadsToSet, AreRows}
use Rattle.xsd_automaton.proofs.ReadTexts.{leads_on, judged}
use Rattle.xsd_automaton.proofs.GrownSets.{longer_target, longer_targets}

module _ (ps : List Position) (first : ℕ) (rows : List SetRow) (table : IsSetTable ps first rows) where
  to_target : (set c t : ℕ) (read : List ℕ) → set < length rows → HasTarget ps table.sets (members_at table.sets set) c t
      → LeadsToSet ps first rows table set read → LeadsToSet ps first rows table t (read ++ c ∷ [])
  to_target set c t read within (no_target none) is =
      let many = table.many in let few = table.are.few in record { row = λ lt. absurd (omega (arith, lt, many, few, none)) }
  to_target set c t read within (to_set lt steps) is =
      record { row = λ _. leads_on ps first c read (members_at table.sets set) (members_at table.sets t) (is.row within) steps }

  pub behind_byte : (set b t : ℕ) (row : SetRow) (read cs : List ℕ) → slice_get rows set ≡ Some row → t ≡ get_or row.targets b no_set
      → AreBegun (b ∷ []) cs → LeadsToSet ps first rows table set read → LeadsToSet ps first rows table t (read ++ cs)
  behind_byte set b t row read _ at e (of_ascii {cs} lt rest) is =
      subst (λ l. LeadsToSet ps first rows table t (read ++ b ∷ l)) (sym (nothing_begun cs rest))
      (to_target set b t read (slice_get_within rows set row at)
      (subst (HasTarget ps table.sets (members_at table.sets set) b) (sym e) ((table.each set row at).ascii b lt)) is)
  behind_byte set b t row read _ at e (of_past {c} {cs} from past rest) is =
      subst (λ l. LeadsToSet ps first rows table t (read ++ c ∷ l)) (sym (nothing_begun cs rest))
      (to_target set c t read (slice_get_within rows set row at)
      (subst (HasTarget ps table.sets (members_at table.sets set) c) (sym e) ((table.each set row at).past b c from past)) is)
  behind_byte set b t row read cs at e (of_further from below rest) is =
      let same : set ≡ t = sym (e ∙ (table.each set row at).further b from below) in
      let none : read ++ cs ≡ read = ap (λ l. read ++ l) (nothing_begun cs rest) ∙ append-nil read in
      subst (λ l. LeadsToSet ps first rows table t l) (sym none) (subst (λ n. LeadsToSet ps first rows table n read) same is)

  pub starts : LeadsToSet ps first rows table 0 []
  starts = record { row = λ _. table.start }

-- whether the end is in the set that the text leads to
judged_in : (ps : List Position) (first : ℕ) (rows : List SetRow) (ends : List Bool) (tables : AreTables ps first rows ends) (r : Regex) (set : ℕ)
    (is_end : Bool) (read : List ℕ) → ArePositionsOf r first ps → slice_get ends set ≡ Some is_end
    → LeadsToSet ps first rows tables.table set read → (is_end ≡ true) ↔ Denotes r read
judged_in ps first rows ends tables r set is_end read of at is =
    let within = slice_get_within ends set is_end at in
    let as_many = tables.as_many in
    let many = tables.table.many in
    let end = tables.each_end set is_end at in
    let j =
    judged ps r first read (members_at tables.table.sets set) of (tables.table.are.closed set (omega (arith, within, many, as_many)))
    (is.row (omega (arith, within, as_many)))
    in
    (λ e. j.0 (sym end ∙ e), λ m. end ∙ j.1 m)

pub judged_end : (ps : List Position) (first : ℕ) (rows : List SetRow) (ends : List Bool) (tables : AreTables ps first rows ends) (r : Regex) (set : ℕ)
    (read : List ℕ) → ArePositionsOf r first ps → LeadsToSet ps first rows tables.table set read → (found : Option Bool) → found ≡ slice_get ends set
    → IfSome found (λ b. (b ≡ true) ↔ Denotes r read)
judged_end ps first rows ends tables r set read of leads None e = tt
judged_end ps first rows ends tables r set read of leads (Some b) e = judged_in ps first rows ends tables r set b read of (sym e) leads

-- ---- one more row

pushed_get : {A : Type 0} (xs : List A) (x : A) (i : ℕ) (y : A) → slice_get (xs ++ x ∷ []) i ≡ Some y
    → (slice_get xs i ≡ Some y) ⊎ ((i ≡ length xs) × (x ≡ y))
pushed_get [] x zero y e = inr (refl, cc)
pushed_get [] x (suc i) y e = absurd (cc)
pushed_get (z ∷ xs) x zero y e = inl e
pushed_get (z ∷ xs) x (suc i) y e = elim (pushed_get xs x i y e) [ inl a ↦ inl a | inr b ↦ inr (ap suc b.0, b.1) ]

-- what holds of each, and of the one that is added
each_more : {A : Type 0} (P : ℕ → A → Type 0) (xs : List A) (x : A) (all : List A) → all ≡ xs ++ x ∷ []
    → ((i : ℕ) (y : A) → slice_get xs i ≡ Some y → P i y) → P (length xs) x → (i : ℕ) (y : A) → slice_get all i ≡ Some y → P i y
each_more P xs x all e each last i y at =
    elim (pushed_get xs x i y (subst (λ l. slice_get l i ≡ Some y) e at)) [
      | inl before ↦ each i y before
      | inr here ↦ subst (P i) here.1 (subst (λ n. P n x) (sym here.0) last)
    ]

module _ (ps : List Position) (sets more : List (List ℕ)) (longer : IsLonger sets more) where
  longer_row : (own : ℕ) (targets : List ℕ) → own < length sets → IsRow ps sets own targets → IsRow ps more own targets
  longer_row own targets lt is =
      let same : members_at sets own ≡ members_at more own = sym (longer.same own lt) in
      record {
        ascii =
            subst (λ l. AreTargets ps more l 128 targets) same (longer_targets ps (members_at sets own) targets 128 0 sets more longer is.ascii);
        past = λ b c from past.
            subst (λ l. HasTarget ps more l c (get_or targets b no_set)) same
            (longer_target ps sets more longer (members_at sets own) c (get_or targets b no_set) (is.past b c from past));
        further = is.further;
      }

  pub rows_pushed : (rows : List SetRow) (row : SetRow) (all : List SetRow) → length rows < length sets → AreRows ps sets rows → all ≡ rows ++ row ∷ []
      → IsRow ps more (length rows) row.targets → AreRows ps more all
  rows_pushed rows row all few are e last =
      each_more (λ i r. IsRow ps more i r.targets) rows row all e
      (λ i r at. let lt = slice_get_within rows i r at in longer_row i r.targets (omega (arith, lt, few)) (are i r at)) last

  pub ends_pushed : (ends : List Bool) (end : Bool) (all : List Bool) → length ends < length sets → AreEnds ps sets ends → all ≡ ends ++ end ∷ []
      → end ≡ has_number (members_at sets (length ends)) (length ps) → AreEnds ps more all
  ends_pushed ends end all few are e last =
      each_more (λ i b. b ≡ has_number (members_at more i) (length ps)) ends end all e
      (λ i b at.
      let lt = slice_get_within ends i b at in are i b at ∙ ap (λ is. has_number is (length ps)) (sym (longer.same i (omega (arith, lt, few)))))
      (last ∙ ap (λ is. has_number is (length ps)) (sym (longer.same (length ends) few)))
