-- What the lines of a grammar mention has a line, and each line occurs once.
use Rattle.std.proofs.Common.{◌≡◌, sym, subst, inl, inr, zero, suc, true, List, [], ◌∷◌, ◌++◌, flat_map, arith}
use Rattle.std.specs.Prelude.{Contains}
use Rattle.std.proofs.lemmas.Bool.{or_cases, or_right, or_left}
use Rattle.rng_model.proofs.Members.{all_among}
use Rattle.rng_model.specs.names.Lists.{Among, here, there}
use Rattle.rng_model.specs.simple.Grammar.{Grammar}
use Rattle.rncv_model.specs.printed.Items.{has, IsReached, at_start, in_line, PrintedItem, same_item, named_item, mentions, IsItemsOf}
use Rattle.rnc_print.proofs.FailedTests.{false_true}
use Rattle.rnc_print.proofs.SameTests.{item_exact, item_itself}
use Rattle.rnc_print.proofs.Numberings.{AreNew, numbering_new, and_has_right}
use Rattle.rng_load.proofs.NameLists.{in_right}

-- ---- what is among a list

pub among_left : {A : Type 0} {x : A} {xs : List A} (ys : List A) → Among x xs → Among x (xs ++ ys)
among_left ys here = here
among_left ys (there i) = there (among_left ys i)

pub among_has : {x : PrintedItem} {xs : List PrintedItem} → Among x xs → has same_item xs x ≡ true
among_has {x} (here {xs}) = or_left (same_item x x) (has same_item xs x) (item_itself x)
among_has {x} (there {y} {xs} i) = or_right (same_item x y) (has same_item xs x) (among_has i)

pub has_among : (xs : List PrintedItem) (x : PrintedItem) → has same_item xs x ≡ true → Among x xs
has_among [] x h = absurd (false_true h)
has_among (y ∷ xs) x h = elim (or_cases (same_item x y) (has same_item xs x) h) [
  | inl e ↦ subst (λ (z : PrintedItem). Among x (z ∷ xs)) (item_exact x y e) here
  | inr d ↦ there (has_among xs x d)
]

pub contains_among : {A : Type 0} (xs : List A) (x : A) → Contains xs x → Among x xs
contains_among [] x (k, lt, e) = absurd (omega (arith, lt))
contains_among (y ∷ xs) x (zero, lt, e) = subst (λ z. Among z (y ∷ xs)) e here
contains_among (y ∷ xs) x (suc k, lt, e) = there (contains_among xs x (k, omega (arith, lt), e))

flat_among : {A B : Type 0} (f : A → List B) {x : A} {xs : List A} {y : B} → Among x xs → Among y (f x) → Among y (flat_map f xs)
flat_among f (here {xs}) j = among_left (flat_map f xs) j
flat_among f (there {y = z} i) j = in_right (f z) (flat_among f i j)

-- ---- the items of a grammar

-- these are all among the items
abbrev pub AreAmong : List PrintedItem → List PrintedItem → Type 0
AreAmong items xs = (i : PrintedItem) → Among i xs → Among i items

module _ (g : Grammar) (items : List PrintedItem) (n : IsItemsOf g items) where
  written_among : (i : PrintedItem) → Among i (named_item g.start ++ flat_map (mentions g) items) → Among i items
  written_among i a =
      let h = and_has_right same_item item_exact item_itself [] (named_item g.start ++ flat_map (mentions g) items) i (among_has a) in
      subst (Among i) (sym n.in_order) (has_among _ i h)

  pub start_among : AreAmong items (named_item g.start)
  start_among i a = written_among i (among_left (flat_map (mentions g) items) a)

  pub line_among : (j : PrintedItem) → Among j items → AreAmong items (mentions g j)
  line_among j b i a = written_among i (in_right (named_item g.start) (flat_among (mentions g) b a))

  pub each_once : AreNew same_item item_exact item_itself [] items
  each_once = numbering_new same_item item_exact item_itself (named_item g.start) (mentions g) items n

  -- what holds for everything the start mentions, and passes from a line's item to everything the line mentions, holds
  -- for each item
  pub each_item : (P : PrintedItem → Type 0) → ((i : PrintedItem) → Among i (named_item g.start) → P i) → ((j : PrintedItem) → P j → (i : PrintedItem) → Among i (mentions g j) → P i)
      → (i : PrintedItem) → Among i items → P i
  each_item P starts lines i a = reached i (all_among (IsReached same_item (named_item g.start) (mentions g)) n.reached a)
    where
      reached : (i : PrintedItem) → IsReached same_item (named_item g.start) (mentions g) i → P i
      reached i (at_start {a = x} c) = starts x (contains_among (named_item g.start) x c)
      reached i (in_line {a = y} {x} r c) = lines x (reached x r) y (contains_among (mentions g x) y c)
