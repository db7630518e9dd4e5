-- Which rows of a list are its first pattern, and which are its last one.
use Rattle.std.proofs.Common.{◌≡◌, refl, ap, ap₂, sym, ◌∙◌, ℕ, ◌+◌, ◌-◌, ◌<◌, ◌≤◌, List, [], ◌∷◌, ◌++◌, length, take, drop, get_or, arith}
use Rattle.std.proofs.Common.{length-append}
use Rattle.std.specs.List.{fold}
use Rattle.std.proofs.Math.Seq.{take-nil}
use Rattle.std.proofs.lemmas.List.{take_all, take-append-le, take-append-drop, drop-append-le, drop-drop, drop-take, length-take-le}
use Rattle.std.proofs.lemmas.List.{length-drop, same_from_push, drop_more, drop_all, take-take}
use Rattle.std.proofs.lemmas.List.Sums.{fold-append}
use Rattle.rng_model.specs.simple.Tree.{Tree}
use Rattle.rng_model.specs.declared.schema_pattern.SchemaRow.{SchemaRow}
use Rattle.rng_model.specs.schema.Patterns.{Pattern}
use Rattle.rng_model.specs.views.ReplacedLists.{replaced}
use Rattle.rng_model.specs.views.SchemaView.{patterns_in, row_arity, row_pattern}
use Rattle.rng_model.proofs.SchemaRows as schema
use Rattle.rng_simple.specs.plain.Graph.{Spot}
use Rattle.rng_simple.specs.declared.graph.parts.GraphRow.{GraphRow}
use Rattle.rng_simple.specs.views.GraphView.{arity, forest, row_tree, with_row}
use Rattle.rng_simple.proofs.Forests.{no_rows}

-- ---- lists with replaced members

pub length_replaced : {A : Type 0} (n : ℕ) (make : List A → A) (xs : List A) → length (replaced n make xs) ≡ length xs - n + 1
length_replaced n make xs =
    omega (arith, length-append (take (length xs - n) xs) (make (drop (length xs - n) xs) ∷ []), length-take-le (length xs - n) xs (omega arith))

-- the first member stays if it is not replaced
first_stays : {A : Type 0} (n : ℕ) (xs ys : List A) → 1 ≤ n → n ≤ length xs → take 1 (take n xs ++ ys) ≡ take 1 xs
first_stays n xs ys some within =
    take-append-le 1 (take n xs) ys (omega (arith, some, length-take-le n xs within)) ∙ take-take 1 n xs some

-- members replaced twice
replaced_twice : {A : Type 0} (n a m : ℕ) (f g : List A → A) (ts : List A) → 0 < n → length ts - m ≡ length ts - (n - 1 + a)
    → replaced n f (replaced a g ts) ≡ replaced m (λ us. f (replaced a g us)) ts
replaced_twice n a m f g ts some same =
    let k = length ts - a in
    let j = length ts - m in
    let ys = take k ts ++ g (drop k ts) ∷ [] in
    let us = drop j ts in
    let at : length ys - n ≡ j = omega (arith, length_replaced a g ts) in
    let before : j ≤ length (take k ts) = omega (arith, length-take-le k ts (omega arith)) in
    let front : take (length ys - n) ys ≡ take j ts =
    ap (λ i. take i ys) at ∙ take-append-le j (take k ts) (g (drop k ts) ∷ []) before ∙ take-take j k ts (omega (arith)) in
    let inside : length us - a ≡ k - j = omega (arith, length-drop j ts) in
    let cut : j + (k - j) ≡ k = omega arith in
    let left : take (length us - a) us ≡ drop j (take k ts) =
    ap (λ i. take i us) inside ∙ sym (drop-take j (k - j) ts) ∙ ap (λ i. drop j (take i ts)) cut in
    let right : drop (length us - a) us ≡ drop k ts =
    ap (λ i. drop i us) inside ∙ drop-drop (k - j) j ts ∙ ap (λ i. drop i ts) cut in
    let rest : drop (length ys - n) ys ≡ replaced a g us =
    ap (λ i. drop i ys) at ∙ drop-append-le j (take k ts) (g (drop k ts) ∷ []) before
    ∙ sym (ap₂ (λ xs zs. xs ++ g zs ∷ []) left right) in
    ap₂ (λ xs zs. xs ++ f zs ∷ []) front rest

-- ---- the first pattern

-- the state of the loop that looks for the end of the first pattern
pub record IsFirst (rows : List SchemaRow) (i count end : ℕ) : Type 0 where
  pub counted : count ≡ length (patterns_in (take i rows))
  pub small : count ≤ i
  pub within : end ≤ i
  pub first : patterns_in (take end rows) ≡ take 1 (patterns_in (take i rows))

pub at_start : (rows : List SchemaRow) → IsFirst rows 0 0 0
at_start rows =
    let none : patterns_in (take 0 rows) ≡ [] = schema.no_rows in
    record {
      counted = sym (ap length none);
      small = omega arith;
      within = omega arith;
      first = none ∙ sym (ap (take 1) none);
    }

module _ (rows : List SchemaRow) (i : ℕ) (r : SchemaRow) (count end later : ℕ) (h : i < length rows) (e : r ≡ get_or rows i r) (is : IsFirst rows i count end)
    (next : later ≡ count - row_arity r + 1) where
  abbrev ps : List Pattern
  ps = patterns_in (take i rows)

  same : later ≡ length ps - row_arity r + 1
  same = next ∙ ap (λ n. n - row_arity r + 1) is.counted

  long : length (patterns_in (take (i + 1) rows)) ≡ later
  long = ap length (schema.next_row rows i r h e) ∙ length_replaced (row_arity r) (row_pattern r) ps ∙ sym same

  pub ends : later ≡ 1 → IsFirst rows (i + 1) later (i + 1)
  ends one = record {
    counted = sym long;
    small = omega (arith, one);
    within = omega arith;
    first = sym (take_all 1 (patterns_in (take (i + 1) rows)) (omega (arith, long, one)));
  }

  pub goes_on : ¬ (later ≡ 1) → IsFirst rows (i + 1) later end
  goes_on more =
      let some : 1 ≤ length ps - row_arity r = omega (arith, same, more) in
      record {
        counted = sym long;
        small = omega (arith, next, is.small);
        within = omega (arith, is.within);
        first = is.first ∙ sym (ap (take 1) (schema.next_row rows i r h e)
            ∙ first_stays (length ps - row_arity r) ps (row_pattern r (drop (length ps - row_arity r) ps) ∷ []) some (omega arith));
      }

pub first_found : (rows : List SchemaRow) (i count end : ℕ) → length rows ≤ i → IsFirst rows i count end
    → patterns_in (take end rows) ≡ take 1 (patterns_in rows)
first_found rows i count end all is = is.first ∙ ap (λ rs. take 1 (patterns_in rs)) (take_all i rows all)

-- ---- the last pattern

-- the trees after these rows, behind others
abbrev pub after : List (Tree Spot) → List GraphRow → List (Tree Spot)
after ts rows = fold with_row ts rows

forest_after : (rows more : List GraphRow) → forest (rows ++ more) ≡ after (forest rows) more
unfolding forest
forest_after rows more = fold-append with_row [] rows more

few_after : (ts : List (Tree Spot)) (rows : List GraphRow) → length (after ts rows) ≤ length ts + length rows
few_after ts [] = omega arith
few_after ts (r ∷ rows) =
    let rest = few_after (with_row ts r) rows in omega (arith, rest, length_replaced (arity r) (row_tree r) ts)

few : (rows : List GraphRow) → length (forest rows) ≤ length rows
unfolding forest
few rows = let h : length (after [] rows) ≤ 0 + length rows = few_after [] rows in omega (arith, h)

-- the rows from here on make one tree of the last trees before them, of so many at most
pub record Takes (rows : List GraphRow) (begin missing : ℕ) : Type 0 where
  pub make : List (Tree Spot) → Tree Spot
  pub is : (ts : List (Tree Spot)) → length ts ≤ begin → after ts (drop begin rows) ≡ replaced missing make ts

pub last_row : (rows : List GraphRow) (i : ℕ) (r : GraphRow) → i + 1 ≡ length rows → r ≡ get_or rows i r → Takes rows i (arity r)
last_row rows i r last e =
    let only : drop i rows ≡ r ∷ [] =
    drop_more rows i r (omega (arith, last)) ∙ ap₂ (λ x xs. x ∷ xs) (sym e) (drop_all (i + 1) rows (omega (arith, last))) in
    record { make = row_tree r; is = λ ts h. ap (after ts) only }

pub row_before : (rows : List GraphRow) (begin : ℕ) (r : GraphRow) (missing more : ℕ) → begin < length rows → r ≡ get_or rows begin r → 0 < missing
    → ((n : ℕ) → n ≤ begin → n - more ≡ n - (missing - 1 + arity r)) → Takes rows (begin + 1) missing → Takes rows begin more
row_before rows begin r missing more h e some same rest =
    let first : drop begin rows ≡ r ∷ drop (begin + 1) rows = drop_more rows begin r h ∙ ap (λ x. x ∷ drop (begin + 1) rows) (sym e) in
    record {
      make = λ us. rest.make (replaced (arity r) (row_tree r) us);
      is = λ ts small. ap (after ts) first
          ∙ rest.is (with_row ts r) (omega (arith, small, length_replaced (arity r) (row_tree r) ts))
          ∙ replaced_twice missing (arity r) more rest.make (row_tree r) ts some (same (length ts) small);
    }

-- all rows are found, or all children
module _ (rows : List GraphRow) (begin : ℕ) (u : Tree Spot) (alone : forest (drop begin rows) ≡ u ∷ [])
    (joined : forest rows ≡ forest (take begin rows) ++ u ∷ []) where
  parts_are : (ts : List (Tree Spot)) (t : Tree Spot) → forest rows ≡ ts ++ t ∷ [] → (forest (take begin rows) ≡ ts) × (forest (drop begin rows) ≡ t ∷ [])
  parts_are ts t e =
      let same = same_from_push (forest (take begin rows)) ts u t (sym joined ∙ e) in
      (same.0, alone ∙ ap (λ t. t ∷ []) same.1)

whole_after : (rows : List GraphRow) (begin : ℕ) → forest rows ≡ after (forest (take begin rows)) (drop begin rows)
whole_after rows begin = ap forest (sym (take-append-drop begin rows)) ∙ forest_after (take begin rows) (drop begin rows)

alone_after : (rows : List GraphRow) → forest rows ≡ after [] rows
unfolding forest
alone_after rows = refl

few_before : (rows : List GraphRow) (begin : ℕ) → begin ≤ length rows → length (forest (take begin rows)) ≤ begin
few_before rows begin within = omega (arith, few (take begin rows), length-take-le begin rows within)

pub none_last : (rows : List GraphRow) → rows ≡ [] → (ts : List (Tree Spot)) (t : Tree Spot) → forest rows ≡ ts ++ t ∷ [] → ⊥
none_last rows e ts t is =
    let long : 0 ≡ length (ts ++ t ∷ []) = ap length (sym no_rows ∙ ap forest (sym e) ∙ is) in omega (arith, long, length-append ts (t ∷ []))

pub last_found : (rows : List GraphRow) (begin : ℕ) → begin ≤ length rows → Takes rows begin 0 → (ts : List (Tree Spot)) (t : Tree Spot)
    → forest rows ≡ ts ++ t ∷ [] → (forest (take begin rows) ≡ ts) × (forest (drop begin rows) ≡ t ∷ [])
last_found rows begin within takes =
    let front = forest (take begin rows) in
    let all : take (length front - 0) front ≡ front = take_all (length front - 0) front (omega arith) in
    let none : drop (length front - 0) front ≡ [] = drop_all (length front - 0) front (omega arith) in
    parts_are rows begin (takes.make [])
    (alone_after (drop begin rows) ∙ takes.is [] (omega arith))
    (whole_after rows begin ∙ takes.is front (few_before rows begin within) ∙ ap₂ (λ xs us. xs ++ takes.make us ∷ []) all none)

pub all_last : (rows : List GraphRow) (begin missing : ℕ) → begin ≡ 0 → Takes rows begin missing → (ts : List (Tree Spot)) (t : Tree Spot)
    → forest rows ≡ ts ++ t ∷ [] → (forest (take begin rows) ≡ ts) × (forest (drop begin rows) ≡ t ∷ [])
all_last rows begin missing start takes =
    let u = takes.make (drop (0 - missing) []) in
    let none : forest (take begin rows) ≡ [] = ap (λ n. forest (take n rows)) start ∙ no_rows in
    let one : after [] (drop begin rows) ≡ u ∷ [] = takes.is [] (omega arith) ∙ ap (λ xs. xs ++ u ∷ []) (take-nil (0 - missing)) in
    parts_are rows begin u (alone_after (drop begin rows) ∙ one)
    (whole_after rows begin ∙ ap (λ ts. after ts (drop begin rows)) none ∙ one ∙ ap (λ xs. xs ++ u ∷ []) (sym none))
