-- Rows copied one after another, with new numbers.
use Rattle.std.proofs.Common.{◌≡◌, inl, inr, refl, ap, ap₂, sym, ◌∙◌, subst, ℕ, ◌+◌, ◌<◌, ◌≤◌, List, [], ◌∷◌, ◌++◌, length, slice_get, slice_index_or}
use Rattle.std.proofs.Common.{Some, Bool, true, All, Contains, arith}
use Rattle.std.proofs.Common.{length-append}
use Rattle.std.proofs.lemmas.Bool.{cases_lt}
use Rattle.std.proofs.lemmas.List.{get_or_append_left, get_or_push, append-nil}
use Rattle.std.proofs.lemmas.List.Elements.{All-append, All-weaker, Contains-append_left, Contains-append_right, Contains-append_cases}
use Rattle.std.proofs.lemmas.Option.{slice_get_within, slice_get-get_or, get_or_from_slice_get}
use Rattle.rng_model.specs.simple.Tree as tree
use Rattle.rng_model.specs.simple.Tree.{as_tree, choice, group, interleave, s_not_allowed, s_leaf, s_attribute, s_list, s_data_except, s_one_or_more, s_joined}
use Rattle.rng_model.specs.simple.Leaves.{LeafIn, AreLeavesBelow}
use Rattle.rng_model.specs.simple.Leaves as at
use Rattle.rng_model.specs.simple.Table.{tree_over}
use Rattle.rng_model.specs.simple.TableRules.{IsLeafListed, IsClassPaired}
use Rattle.rng_model.specs.simple.Table as tables
use Rattle.rng_model.specs.declared.simple.Simple.{Simple}
use Rattle.rng_model.specs.declared.simple.Simple.TheVariants as simple
use Rattle.rng_model.proofs.NumberedTrees as numbered
use Rattle.rng_model.proofs.Options.{one_value}
use Rattle.rng_simple.specs.plain.Copying.{tree_numbered, place_of, listed_at, AllChildren, own_elements, numbered_row, IsRowCopy, IsCopied, IsRowTree, AreCopied}
use Rattle.rng_simple.specs.plain.Renamed.{simple_renamed}
use Rattle.std.specs.HashMap.{HashMap}
use Rattle.rng_model.proofs.Members.{not_in_none, one_only}
use Rattle.rng_model.proofs.Places.{before_or_at_end, none_at}
use Rattle.rng_simple.specs.views.RowIndex.{IsIndex}
use Rattle.rng_simple.specs.plain.RowReach.{nexts}
use Rattle.rng_simple.specs.views.Rows.{Labels, row_tree, class_at, datatype_at, tree_at, AreChildrenBelow, Falls, AreDistinctRows}
use Rattle.rng_simple.specs.plain.Worklist.{AreDistinctNumbers}
use Rattle.rng_simple.specs.declared.rows.Row.{Row}
use Rattle.rng_simple.specs.declared.rows.Row.TheVariants as row
use Rattle.rng_model.proofs.Table.{falls_after_push}
use Rattle.rng_simple.proofs.Leaves.Renamed.{renamed_corresponds}
use Rattle.rng_simple.proofs.Tables.RowTrees.{tree_at-over_children}

-- ---- the trees of a table of patterns by number

module _ (ps qs : List Simple) (p : Simple) (more : qs ≡ ps ++ p ∷ []) where
  pub numbered_pushed : (i : ℕ) → i ≡ length ps → tree_numbered qs i ≡ tree_over (λ id. tree_numbered ps id.0) p
  unfolding tables.trees
  numbered_pushed i at = numbered.tree_of_pushed s_not_allowed (λ of. tree_over (λ id. of id.0)) ps qs p i more at

  pub numbered_stays : (i : ℕ) → i < length ps → tree_numbered qs i ≡ tree_numbered ps i
  unfolding tables.trees
  numbered_stays i h = numbered.tree_stays s_not_allowed (λ of. tree_over (λ id. of id.0)) ps qs (p ∷ []) i more h

-- ---- children

pub children_map : (P Q : ℕ → Type 0) (r : Row) → ((a : ℕ) → P a → Q a) → AllChildren P r → AllChildren Q r
children_map P Q (row.Attribute c a) f h = f a h
children_map P Q (row.List a) f h = f a h
children_map P Q (row.DataExcept d a) f h = f a h
children_map P Q (row.OneOrMore a) f h = f a h
children_map P Q (row.Choice a b) f h = (f a h.0, f b h.1)
children_map P Q (row.Group a b) f h = (f a h.0, f b h.1)
children_map P Q (row.Interleave a b) f h = (f a h.0, f b h.1)
children_map P Q row.NotAllowed f h = tt
children_map P Q row.Empty f h = tt
children_map P Q row.Text f h = tt
children_map P Q (row.Element k) f h = tt
children_map P Q (row.Data d) f h = tt
children_map P Q (row.Value v) f h = tt

pub children_all : (content : ℕ → ℕ) (R : ℕ → Type 0) (i : ℕ) (r : Row) → AreChildrenBelow i r → ((y : ℕ) → Contains (nexts content r) y → R y)
    → AllChildren (λ a. (a < i) × R a) r
children_all content R i (row.Attribute c a) b f = (b, f a (0, omega arith, refl))
children_all content R i (row.List a) b f = (b, f a (0, omega arith, refl))
children_all content R i (row.DataExcept d a) b f = (b, f a (0, omega arith, refl))
children_all content R i (row.OneOrMore a) b f = (b, f a (0, omega arith, refl))
children_all content R i (row.Choice a e) b f = ((b.0, f a (0, omega arith, refl)), (b.1, f e (1, omega arith, refl)))
children_all content R i (row.Group a e) b f = ((b.0, f a (0, omega arith, refl)), (b.1, f e (1, omega arith, refl)))
children_all content R i (row.Interleave a e) b f = ((b.0, f a (0, omega arith, refl)), (b.1, f e (1, omega arith, refl)))
children_all content R i row.NotAllowed b f = tt
children_all content R i row.Empty b f = tt
children_all content R i row.Text b f = tt
children_all content R i (row.Element k) b f = tt
children_all content R i (row.Data d) b f = tt
children_all content R i (row.Value v) b f = tt

-- ---- one row

module _ (l : Labels) (name : ℕ → ℕ) (n : ℕ) (of trees : ℕ → tree.Simple ℕ) where
  renamed_row : (r : Row) → AllChildren (λ a. simple_renamed name (of a) ≡ trees a) r → ((k : ℕ) → r ≡ row.Element k → name n ≡ k)
      → simple_renamed name (row_tree l of (numbered_row n r)) ≡ row_tree l trees r
  renamed_row (row.Element k) h e = ap s_leaf (e k refl)
  renamed_row (row.Attribute c a) h e = ap (s_attribute (class_at l c)) h
  renamed_row (row.List a) h e = ap s_list h
  renamed_row (row.DataExcept d a) h e = ap (s_data_except (datatype_at l d)) h
  renamed_row (row.OneOrMore a) h e = ap s_one_or_more h
  renamed_row (row.Choice a b) h e = ap₂ (s_joined choice) h.0 h.1
  renamed_row (row.Group a b) h e = ap₂ (s_joined group) h.0 h.1
  renamed_row (row.Interleave a b) h e = ap₂ (s_joined interleave) h.0 h.1
  renamed_row row.NotAllowed h e = refl
  renamed_row row.Empty h e = refl
  renamed_row row.Text h e = refl
  renamed_row (row.Data d) h e = refl
  renamed_row (row.Value v) h e = refl

module _ (l : Labels) (m n : ℕ) (of : ℕ → tree.Simple ℕ) where
  leaves_row : (r : Row) → AllChildren (λ a. AreLeavesBelow m (as_tree (of a))) r → ((k : ℕ) → r ≡ row.Element k → n < m)
      → (j : ℕ) → LeafIn j (as_tree (row_tree l of (numbered_row n r))) → j < m
  leaves_row (row.Element k) h e j at.here = e k refl
  leaves_row (row.Attribute c a) h e j (at.of_attribute i) = h j i
  leaves_row (row.List a) h e j (at.of_list i) = h j i
  leaves_row (row.DataExcept d a) h e j (at.of_except i) = h j i
  leaves_row (row.OneOrMore a) h e j (at.of_one_or_more i) = h j i
  leaves_row (row.Choice a b) h e j (at.of_first i) = h.0 j i
  leaves_row (row.Choice a b) h e j (at.of_second i) = h.1 j i
  leaves_row (row.Choice a b) h e j (at.of_others i) = elim i [ ]
  leaves_row (row.Group a b) h e j (at.of_first i) = h.0 j i
  leaves_row (row.Group a b) h e j (at.of_second i) = h.1 j i
  leaves_row (row.Group a b) h e j (at.of_others i) = elim i [ ]
  leaves_row (row.Interleave a b) h e j (at.of_first i) = h.0 j i
  leaves_row (row.Interleave a b) h e j (at.of_second i) = h.1 j i
  leaves_row (row.Interleave a b) h e j (at.of_others i) = elim i [ ]
  leaves_row row.NotAllowed h e j i = elim i [ ]
  leaves_row row.Empty h e j i = elim i [ ]
  leaves_row row.Text h e j i = elim i [ ]
  leaves_row (row.Data d) h e j i = elim i [ ]
  leaves_row (row.Value v) h e j i = elim i [ ]

-- ---- the element of a row

own_is : (r : Row) (k : ℕ) → Contains (own_elements r) k → r ≡ row.Element k
own_is (row.Element j) k c = ap row.Element (one_only j k c)
own_is row.NotAllowed k c = absurd (not_in_none c)
own_is row.Empty k c = absurd (not_in_none c)
own_is row.Text k c = absurd (not_in_none c)
own_is (row.Attribute d a) k c = absurd (not_in_none c)
own_is (row.List a) k c = absurd (not_in_none c)
own_is (row.Data d) k c = absurd (not_in_none c)
own_is (row.DataExcept d a) k c = absurd (not_in_none c)
own_is (row.Value v) k c = absurd (not_in_none c)
own_is (row.OneOrMore a) k c = absurd (not_in_none c)
own_is (row.Choice a b) k c = absurd (not_in_none c)
own_is (row.Group a b) k c = absurd (not_in_none c)
own_is (row.Interleave a b) k c = absurd (not_in_none c)

own_has : (r : Row) (k : ℕ) → r ≡ row.Element k → Contains (own_elements r) k
own_has r k e = subst (λ q. Contains (own_elements q) k) (sym e) (0, omega arith, refl)

distinct_push : (xs : List ℕ) (k : ℕ) → AreDistinctNumbers xs → (Contains xs k → ⊥) → AreDistinctNumbers (xs ++ k ∷ [])
distinct_push xs k d n i j m e f = elim (before_or_at_end xs k m i e) [
  | inl a ↦ elim (before_or_at_end xs k m j f) [
    | inl b ↦ d i j m a b
    | inr b ↦ absurd (n (i, slice_get_within xs i m a, get_or_from_slice_get xs i m k a ∙ b.1))
  ]
  | inr a ↦ elim (before_or_at_end xs k m j f) [
    | inl b ↦ absurd (n (j, slice_get_within xs j m b, get_or_from_slice_get xs j m k b ∙ a.1))
    | inr b ↦ a.0 ∙ sym b.0
  ]
]

distinct_own : (xs : List ℕ) (r : Row) → AreDistinctNumbers xs → ((k : ℕ) → r ≡ row.Element k → Contains xs k → ⊥) → AreDistinctNumbers (xs ++ own_elements r)
distinct_own xs (row.Element k) d n = distinct_push xs k d (n k refl)
distinct_own xs row.NotAllowed d n = subst AreDistinctNumbers (sym (append-nil xs)) d
distinct_own xs row.Empty d n = subst AreDistinctNumbers (sym (append-nil xs)) d
distinct_own xs row.Text d n = subst AreDistinctNumbers (sym (append-nil xs)) d
distinct_own xs (row.Attribute c a) d n = subst AreDistinctNumbers (sym (append-nil xs)) d
distinct_own xs (row.List a) d n = subst AreDistinctNumbers (sym (append-nil xs)) d
distinct_own xs (row.Data o) d n = subst AreDistinctNumbers (sym (append-nil xs)) d
distinct_own xs (row.DataExcept o a) d n = subst AreDistinctNumbers (sym (append-nil xs)) d
distinct_own xs (row.Value v) d n = subst AreDistinctNumbers (sym (append-nil xs)) d
distinct_own xs (row.OneOrMore a) d n = subst AreDistinctNumbers (sym (append-nil xs)) d
distinct_own xs (row.Choice a b) d n = subst AreDistinctNumbers (sym (append-nil xs)) d
distinct_own xs (row.Group a b) d n = subst AreDistinctNumbers (sym (append-nil xs)) d
distinct_own xs (row.Interleave a b) d n = subst AreDistinctNumbers (sym (append-nil xs)) d

-- its new number represents it
own_name : (xs : List ℕ) (r : Row) (k : ℕ) → r ≡ row.Element k → listed_at (xs ++ own_elements r) (length xs) ≡ k
own_name xs r k e = ap (λ q. listed_at (xs ++ own_elements q) (length xs)) e ∙ get_or_push xs k 0 (length xs) refl

own_number : (xs : List ℕ) (r : Row) (k : ℕ) → r ≡ row.Element k → length xs < length (xs ++ own_elements r)
own_number xs r k e = omega (arith, ap (λ q. length (xs ++ own_elements q)) e, length-append xs (k ∷ []))

-- ---- copies are kept

listed_more : (m n : ℕ) (p : Simple) → m ≤ n → IsLeafListed m p → IsLeafListed n p
listed_more m n (simple.Element e) h l = omega (arith, h, l)
listed_more m n simple.NotAllowed h l = tt
listed_more m n simple.Empty h l = tt
listed_more m n simple.Text h l = tt
listed_more m n (simple.Attribute c a) h l = tt
listed_more m n (simple.List a) h l = tt
listed_more m n (simple.Data d) h l = tt
listed_more m n (simple.DataExcept d a) h l = tt
listed_more m n (simple.Value value) h l = tt
listed_more m n (simple.OneOrMore a) h l = tt
listed_more m n (simple.Group a b) h l = tt
listed_more m n (simple.Interleave a b) h l = tt
listed_more m n (simple.Choice a b) h l = tt

module _ (ps qs : List Simple) (p : Simple) (more : qs ≡ ps ++ p ∷ []) (listed extra : List ℕ) where
  pub copied_stays : (place : ℕ) (t : tree.Simple ℕ) → IsCopied ps listed place t → IsCopied qs (listed ++ extra) place t
  copied_stays place t c =
      let same : tree_numbered qs place ≡ tree_numbered ps place = numbered_stays ps qs p more place c.there in record {
        there = omega (arith, c.there, ap length more, length-append ps (p ∷ []));
        below = λ k i. omega (arith, c.below k (subst (λ u. LeafIn k (as_tree u)) same i), length-append listed extra);
        is = ap (simple_renamed (listed_at (listed ++ extra))) same
            ∙ renamed_corresponds (listed_at (listed ++ extra)) (listed_at listed) (tree_numbered ps place)
            (λ k i. get_or_append_left listed extra 0 k (c.below k i)) ∙ c.is;
      }

All-one : {A : Type 0} (P : A → Type 0) (x : A) → P x → All P (x ∷ [])
All-one P x h k d i = let first : 0 ≡ k = omega arith in subst (λ n. P (slice_index_or (x ∷ []) n d)) first h

-- ---- the tree of a row

module _ (l : Labels) (f g : ℕ → tree.Simple ℕ) (n : ℕ) where
  same_row_tree : (r : Row) → AllChildren (λ a. f a ≡ g a) r → row_tree l f (numbered_row n r) ≡ row_tree l g (numbered_row n r)
  same_row_tree (row.Element k) h = refl
  same_row_tree (row.Attribute c a) h = ap (s_attribute (class_at l c)) h
  same_row_tree (row.List a) h = ap s_list h
  same_row_tree (row.DataExcept d a) h = ap (s_data_except (datatype_at l d)) h
  same_row_tree (row.OneOrMore a) h = ap s_one_or_more h
  same_row_tree (row.Choice a b) h = ap₂ (s_joined choice) h.0 h.1
  same_row_tree (row.Group a b) h = ap₂ (s_joined group) h.0 h.1
  same_row_tree (row.Interleave a b) h = ap₂ (s_joined interleave) h.0 h.1
  same_row_tree row.NotAllowed h = refl
  same_row_tree row.Empty h = refl
  same_row_tree row.Text h = refl
  same_row_tree (row.Data d) h = refl
  same_row_tree (row.Value v) h = refl

-- the tree of a row is kept when patterns, places and elements are appended
module _ (l : Labels) (ps qs : List Simple) (places more listed new : List ℕ) (i : ℕ) (longer : length ps ≤ length qs)
    (stays : (m : ℕ) → m < length ps → tree_numbered qs m ≡ tree_numbered ps m) (keeps : (a : ℕ) → a < i → place_of more a ≡ place_of places a)
    (names : (n k : ℕ) → slice_get listed n ≡ Some k → slice_get new n ≡ Some k) where
  row_tree_stays : (r : Row) (place : ℕ) → place < length ps → IsRowTree l ps places listed i r place → IsRowTree l qs more new (i + 1) r place
  row_tree_stays r place h t = record {
    number = t.number;
    tree = stays place h ∙ t.tree ∙ sym (same_row_tree l (λ a. tree_numbered qs (place_of more a)) (λ a. tree_numbered ps (place_of places a)) t.number r
        (children_map (λ a. (a < i) × (place_of places a < length ps)) (λ a. tree_numbered qs (place_of more a) ≡ tree_numbered ps (place_of places a)) r
        (λ a b. ap (tree_numbered qs) (keeps a b.0) ∙ stays (place_of places a) b.1) t.children));
    element = λ k e. names t.number k (t.element k e);
    children = children_map (λ a. (a < i) × (place_of places a < length ps)) (λ a. (a < i + 1) × (place_of more a < length qs)) r
        (λ a b. (omega (arith, b.0), subst (λ m. m < length qs) (sym (keeps a b.0)) (omega (arith, b.1, longer)))) t.children;
  }

listed_stays : (listed extra : List ℕ) (n k : ℕ) → slice_get listed n ≡ Some k → slice_get (listed ++ extra) n ≡ Some k
listed_stays listed extra n k e =
    let within = slice_get_within listed n k e in
    slice_get-get_or (listed ++ extra) n k (omega (arith, within, length-append listed extra))
    ∙ ap Some (get_or_append_left listed extra k n within ∙ get_or_from_slice_get listed n k k e)

own_listed : (xs : List ℕ) (r : Row) (k : ℕ) → r ≡ row.Element k → slice_get (xs ++ own_elements r) (length xs) ≡ Some k
own_listed xs r k e = slice_get-get_or (xs ++ own_elements r) (length xs) 0 (own_number xs r k e) ∙ ap Some (own_name xs r k e)

-- ---- one more row

-- at the start nothing is copied
pub none_copied : (l : Labels) (rs : List Row) (reached : List Bool) → AreCopied l rs reached 0 [] [] []
none_copied l rs reached = record {
  long = refl;
  falls = λ i p e. absurd (none_at i p e);
  leaves = λ k d i. absurd (omega arith);
  paired = λ k d i. absurd (omega arith);
  copied = λ j h e. absurd (omega arith);
  distinct = λ i j k e f. absurd (none_at i k e);
  from = λ k c. absurd (not_in_none c);
  all = λ j k h e f. absurd (omega arith);
  short = omega arith;
  used = λ m h. absurd (omega arith);
  made = λ j r h e f. absurd (omega arith);
}

module _ (l : Labels) (rs : List Row) (reached : List Bool) (i : ℕ) (places listed : List ℕ) (ps : List Simple)
    (are : AreCopied l rs reached i places ps listed) where
  before : (j x : ℕ) → j < i → place_of (places ++ x ∷ []) j ≡ place_of places j
  before j x h = get_or_append_left places (x ∷ []) 0 j (omega (arith, are.long))

  here : (j x : ℕ) → j ≡ i → place_of (places ++ x ∷ []) j ≡ x
  here j x e = get_or_push places x 0 j (omega (arith, are.long, e))

  -- a row that is not reached
  pub skipped : (slice_get reached i ≡ Some true → ⊥) → AreCopied l rs reached (i + 1) (places ++ 0 ∷ []) ps listed
  skipped n = record {
    long = omega (arith, are.long, length-append places (0 ∷ []));
    falls = are.falls;
    leaves = are.leaves;
    paired = are.paired;
    copied = λ j h e. elim (cases_lt j i) [
      | inl a ↦ subst (λ x. IsCopied ps listed x (tree_at l rs j)) (sym (before j 0 a)) (are.copied j a e)
      | inr a ↦ let last : j ≡ i = omega arith in absurd (n (ap (slice_get reached) (sym last) ∙ e))
    ];
    distinct = are.distinct;
    from = λ k c. let f = are.from k c in (f.0, omega (arith, f.1), f.2, f.3);
    all = λ j k h e f. elim (cases_lt j i) [
      | inl a ↦ are.all j k a e f
      | inr a ↦ let last : j ≡ i = omega arith in absurd (n (ap (slice_get reached) (sym last) ∙ e))
    ];
    short = omega (arith, are.short);
    used = λ m h. let u = are.used m h in (u.0, omega (arith, u.1), u.2, before u.0 0 u.1 ∙ u.3);
    made = λ j r h e f. elim (cases_lt j i) [
      | inl a ↦ subst (IsRowTree l ps (places ++ 0 ∷ []) listed (i + 1) r) (sym (before j 0 a))
          (row_tree_stays l ps ps places (places ++ 0 ∷ []) listed listed i (omega arith) (λ m b. refl) (λ b c. before b 0 c) (λ m k d. d) r (place_of places j)
          (are.copied j a e).there (are.made j r a e f))
      | inr a ↦ let last : j ≡ i = omega arith in absurd (n (ap (slice_get reached) (sym last) ∙ e))
    ];
  }

  -- a row that is reached
  module _ (r : Row) (p : Simple) (falls : Falls rs) (apart : AreDistinctRows rs) (found : slice_get rs i ≡ Some r) (is : slice_get reached i ≡ Some true)
      (children : AllChildren (λ a. (a < i) × (slice_get reached a ≡ Some true)) r) (copy : IsRowCopy l places listed r p) where
    abbrev qs : List Simple
    qs = ps ++ p ∷ []

    abbrev new : List ℕ
    new = listed ++ own_elements r

    children_copied : AllChildren (λ a. IsCopied qs new (place_of places a) (tree_at l rs a)) r
    children_copied = children_map (λ a. (a < i) × (slice_get reached a ≡ Some true)) (λ a. IsCopied qs new (place_of places a) (tree_at l rs a)) r
        (λ a h. copied_stays ps qs p refl listed (own_elements r) (place_of places a) (tree_at l rs a) (are.copied a h.0 h.1)) children

    old_children : AllChildren (λ a. IsCopied ps listed (place_of places a) (tree_at l rs a)) r
    old_children = children_map (λ a. (a < i) × (slice_get reached a ≡ Some true)) (λ a. IsCopied ps listed (place_of places a) (tree_at l rs a)) r
        (λ a h. are.copied a h.0 h.1) children

    abbrev of : ℕ → tree.Simple ℕ
    of a = tree_numbered ps (place_of places a)

    same_child : (a : ℕ) → IsCopied ps listed (place_of places a) (tree_at l rs a) → tree_numbered qs (place_of places a) ≡ of a
    same_child a c = numbered_stays ps qs p refl (place_of places a) c.there

    whole : tree_numbered qs (length ps) ≡ row_tree l of (numbered_row (length listed) r)
    whole = numbered_pushed ps qs p refl (length ps) refl ∙ copy.tree (tree_numbered ps)

    row_copied : IsCopied qs new (length ps) (tree_at l rs i)
    row_copied = record {
      there = omega (arith, length-append ps (p ∷ []));
      below = λ k j. leaves_row l (length new) (length listed) of r
          (children_map (λ a. IsCopied ps listed (place_of places a) (tree_at l rs a)) (λ a. AreLeavesBelow (length new) (as_tree (of a))) r
          (λ a c m e. omega (arith, c.below m e, length-append listed (own_elements r))) old_children)
          (own_number listed r) k (subst (λ u. LeafIn k (as_tree u)) whole j);
      is = ap (simple_renamed (listed_at new)) whole
          ∙ renamed_row l (listed_at new) (length listed) of (tree_at l rs) r
          (children_map (λ a. IsCopied ps listed (place_of places a) (tree_at l rs a)) (λ a. simple_renamed (listed_at new) (of a) ≡ tree_at l rs a) r
          (λ a c. renamed_corresponds (listed_at new) (listed_at listed) (of a) (λ k j. get_or_append_left listed (own_elements r) 0 k (c.below k j))
          ∙ c.is) old_children)
          (own_name listed r)
          ∙ sym (tree_at-over_children l rs i r falls found);
    }

    -- its element is not listed yet
    not_listed : (k : ℕ) → r ≡ row.Element k → Contains listed k → ⊥
    not_listed k e c =
        let f = are.from k c in
        let same : f.0 ≡ i = apart f.0 i (row.Element k) f.3 (found ∙ ap Some e) in
        let h = f.1 in omega (arith, h, same)

    older : (q : Row) (place : ℕ) → place < length ps → IsRowTree l ps places listed i q place
        → IsRowTree l qs (places ++ length ps ∷ []) new (i + 1) q place
    older q place h t = row_tree_stays l ps qs places (places ++ length ps ∷ []) listed new i (omega (arith, length-append ps (p ∷ [])))
        (λ m b. numbered_stays ps qs p refl m b) (λ b c. before b (length ps) c) (λ m k d. listed_stays listed (own_elements r) m k d) q place h t

    newest : IsRowTree l qs (places ++ length ps ∷ []) new (i + 1) r (length ps)
    newest = record {
      number = length listed;
      tree = whole ∙ sym (same_row_tree l (λ a. tree_numbered qs (place_of (places ++ length ps ∷ []) a)) of (length listed) r
          (children_map (λ a. (a < i) × (slice_get reached a ≡ Some true)) (λ a. tree_numbered qs (place_of (places ++ length ps ∷ []) a) ≡ of a) r
          (λ a b. ap (tree_numbered qs) (before a (length ps) b.0) ∙ same_child a (are.copied a b.0 b.1)) children));
      element = λ k e. own_listed listed r k e;
      children = children_map (λ a. (a < i) × (slice_get reached a ≡ Some true))
          (λ a. (a < i + 1) × (place_of (places ++ length ps ∷ []) a < length qs)) r
          (λ a b. (
            omega (arith, b.0),
            subst (λ m. m < length qs) (sym (before a (length ps) b.0))
                (omega (arith, (are.copied a b.0 b.1).there, length-append ps (p ∷ []))),
          )) children;
    }

    pub copied_next : AreCopied l rs reached (i + 1) (places ++ length ps ∷ []) qs new
    copied_next = record {
      long = omega (arith, are.long, length-append places (length ps ∷ []));
      falls = falls_after_push ps qs p are.falls refl (copy.below (length ps)
          (children_map (λ a. IsCopied ps listed (place_of places a) (tree_at l rs a)) (λ a. place_of places a < length ps) r (λ a c. c.there) old_children));
      leaves = All-append (IsLeafListed (length new)) ps (p ∷ [])
          (All-weaker (IsLeafListed (length listed)) (IsLeafListed (length new))
          (λ q h. listed_more (length listed) (length new) q (omega (arith, length-append listed (own_elements r))) h) ps are.leaves)
          (All-one (IsLeafListed (length new)) p copy.leaf);
      paired = All-append IsClassPaired ps (p ∷ []) are.paired (All-one IsClassPaired p copy.paired);
      copied = λ j h e. elim (cases_lt j i) [
        | inl a ↦ subst (λ x. IsCopied qs new x (tree_at l rs j)) (sym (before j (length ps) a))
            (copied_stays ps qs p refl listed (own_elements r) (place_of places j) (tree_at l rs j) (are.copied j a e))
        | inr a ↦
            let last : j ≡ i = omega arith in
            subst (λ x. IsCopied qs new x (tree_at l rs j)) (sym (here j (length ps) last))
            (subst (λ n. IsCopied qs new (length ps) (tree_at l rs n)) (sym last) row_copied)
      ];
      distinct = distinct_own listed r are.distinct not_listed;
      from = λ k c. elim (Contains-append_cases listed (own_elements r) k c) [
        | inl a ↦ let f = are.from k a in (f.0, omega (arith, f.1), f.2, f.3)
        | inr a ↦ (i, omega arith, is, found ∙ ap Some (own_is r k a))
      ];
      all = λ j k h e f. elim (cases_lt j i) [
        | inl a ↦ Contains-append_left listed (own_elements r) k (are.all j k a e f)
        | inr a ↦
            let last : j ≡ i = omega arith in
            let same : r ≡ row.Element k = one_value found (ap (slice_get rs) (sym last) ∙ f) in
            Contains-append_right listed (own_elements r) k (own_has r k same)
      ];
      short = omega (arith, are.short, length-append ps (p ∷ []));
      used = λ m h. elim (cases_lt m (length ps)) [
        | inl a ↦ let u = are.used m a in (u.0, omega (arith, u.1), u.2, before u.0 (length ps) u.1 ∙ u.3)
        | inr a ↦ (i, omega arith, is, here i (length ps) refl ∙ omega (arith, h, length-append ps (p ∷ []), a))
      ];
      made = λ j q h e f. elim (cases_lt j i) [
        | inl a ↦ subst (IsRowTree l qs (places ++ length ps ∷ []) new (i + 1) q) (sym (before j (length ps) a))
            (older q (place_of places j) (are.copied j a e).there (are.made j q a e f))
        | inr a ↦
            let last : j ≡ i = omega arith in
            let same : r ≡ q = one_value found (ap (slice_get rs) (sym last) ∙ f) in
            subst (IsRowTree l qs (places ++ length ps ∷ []) new (i + 1) q) (sym (here j (length ps) last))
            (subst (λ x. IsRowTree l qs (places ++ length ps ∷ []) new (i + 1) x (length ps)) same newest)
      ];
    }

-- the same lists under equal names
pub copied_as : (l : Labels) (rs : List Row) (reached : List Bool) (i : ℕ) (places more_places listed more_listed : List ℕ) (ps qs : List Simple)
    → more_places ≡ places → qs ≡ ps → more_listed ≡ listed → AreCopied l rs reached i places ps listed → AreCopied l rs reached i more_places qs more_listed
copied_as l rs reached i places more_places listed more_listed ps qs e f g are =
    subst (λ xs. AreCopied l rs reached i more_places qs xs) (sym g)
    (subst (λ xs. AreCopied l rs reached i more_places xs listed) (sym f) (subst (λ xs. AreCopied l rs reached i xs ps listed) (sym e) are))

pub both_children : (P : ℕ → Type 0) (i : ℕ) (r : Row) → AreChildrenBelow i r → AllChildren P r → AllChildren (λ a. (a < i) × P a) r
both_children P i (row.Attribute c a) b h = (b, h)
both_children P i (row.List a) b h = (b, h)
both_children P i (row.DataExcept d a) b h = (b, h)
both_children P i (row.OneOrMore a) b h = (b, h)
both_children P i (row.Choice a e) b h = ((b.0, h.0), (b.1, h.1))
both_children P i (row.Group a e) b h = ((b.0, h.0), (b.1, h.1))
both_children P i (row.Interleave a e) b h = ((b.0, h.0), (b.1, h.1))
both_children P i row.NotAllowed b h = tt
both_children P i row.Empty b h = tt
both_children P i row.Text b h = tt
both_children P i (row.Element k) b h = tt
both_children P i (row.Data d) b h = tt
both_children P i (row.Value v) b h = tt

-- rows with an index are distinct
pub index_apart : {S : Type 0} (rs : List Row) (numbers : HashMap Row ℕ S) → IsIndex rs numbers → AreDistinctRows rs
index_apart rs numbers is i j r e f = one_value ((is r i).1 e) ((is r j).1 f)
