-- Attributes with names that no attribute of the grammar distinguishes are taken in the same way. All attributes are
-- renamed at once, by exchanging the two names, so that no two get the same name.
use Rattle.std.proofs.Common.{◌≡◌, ◌≢◌, ◌∙◌, ◌≤◌, ℕ, zero, suc, arith, All, Bool, List, [], ◌∷◌, map, length, get_or, fold, inl, inr, ⊎_elim}
use Rattle.std.proofs.Common.{true, false, true≢false, cond}
use Rattle.std.proofs.Common.{Option, Some, None, refl, sym, ap, ap₂, subst, slice_get}
use Rattle.std.specs.Borrow.{Bor}
use Rattle.std.proofs.lemmas.Bool.{cases_lt}
use Rattle.std.proofs.lemmas.List.Elements.{All-append, All-cons, All-nil}
use Rattle.rng_model.proofs.Truths.{same_truth}
use Rattle.rng_names.specs.plain.Keys.{Keys, KeysServe, key_of, name_at}
use Rattle.rng_names.specs.plain.Keys as keyed
use Rattle.rng_model.specs.matching.Document.{Attribute, Item, Interleaves, SharesName, Distinct, HasNoName}
use Rattle.rng_model.specs.matching.Document as document
use Rattle.rng_model.specs.names.Names.{In, Name, NameClass}
use Rattle.rng_model.specs.simple.Table.{Table}
use Rattle.rng_model.specs.simple.Tree.{Simple, s_not_allowed, s_empty, s_text, s_leaf, s_attribute, s_list, s_data, s_data_except, s_value, s_one_or_more}
use Rattle.rng_model.specs.simple.Tree.{s_joined}
use Rattle.rng_model.specs.names.NameViews.{class_of, name_of}
use Rattle.rng_model.specs.declared.name.Name as declared
use Rattle.rng_model.specs.declared.simple.Simple as row
use Rattle.rng_model.specs.declared.simple.Simple.TheVariants as simple
use Rattle.rng_names.specs.plain.Holding.{holds, same_name}
use Rattle.rng_names.proofs.Holding.{holds-Decides, same_name-Decides}
use Rattle.rng_model.specs.matching.GrammarMatching.{Reading, reading_of}
use Rattle.rng_deriv_laws.specs.plain.Taking.{Takes}
use Rattle.rng_deriv_laws.specs.plain.Taking as t
use Rattle.rng_deriv_laws.specs.plain.Ways.{AreAttributeWays, TakesAttribute}
use Rattle.rng_deriv_laws.specs.plain.Derivatives.{Way}
use Rattle.rng_deriv_table.specs.views.Node.{Node}
use Rattle.rng_deriv_table.specs.views.Node as node
use Rattle.rng_deriv_table.specs.views.Trees.{attribute_found, choice_from, tree_in, tree_of, tree_over, trees, with_tree}
use Rattle.rng_deriv_ways.specs.plain.Kinds.{IsNamed}
use Rattle.rng_deriv_ways.specs.plain.Ways.{AreWaysOf, ways_by}
use Rattle.rng_deriv_ways.specs.declared.way.Kind.TheVariants as kinds
use Rattle.rng_deriv_ways.specs.declared.way.LeafWay as numbered
use Rattle.rng_deriv_ways.proofs.PatternNodes.{IsStringLeaf, a_datatype, a_list, a_value, an_except, found_string}

-- ---- all attributes renamed, by a renaming that is its own inverse

module _ (rename : Name → Name) (back : (n : Name) → rename (rename n) ≡ n) where
  renamed : Attribute → Attribute
  renamed a = record { name = rename a.name; content = a.content }

  -- no class of an attribute in the tree distinguishes a name and its new name
  abbrev Keeps : Simple ℕ → Type 0
  Keeps s_not_allowed = Unit {0}
  Keeps s_empty = Unit {0}
  Keeps s_text = Unit {0}
  Keeps (s_leaf k) = Unit {0}
  Keeps (s_attribute c p) = (n : Name) → holds c (rename n) ≡ holds c n
  Keeps (s_list p) = Unit {0}
  Keeps (s_data d) = Unit {0}
  Keeps (s_data_except d p) = Unit {0}
  Keeps (s_value d v) = Unit {0}
  Keeps (s_one_or_more p) = Keeps p
  Keeps (s_joined k p q) = Keeps p × Keeps q

  dealt : {xs ys zs : List Attribute} → Interleaves xs ys zs → Interleaves (map renamed xs) (map renamed ys) (map renamed zs)
  dealt document.done = document.done
  dealt (document.left i) = document.left (dealt i)
  dealt (document.right i) = document.right (dealt i)

  apart_names : (a b : Name) → rename a ≡ rename b → a ≡ b
  apart_names a b e = sym (back a) ∙ ap rename e ∙ back b

  first_is : {a b : Attribute} {xs ys : List Attribute} → a ∷ xs ≡ b ∷ ys → a ≡ b
  first_is e = cc

  others_are : {a b : Attribute} {xs ys : List Attribute} → a ∷ xs ≡ b ∷ ys → xs ≡ ys
  others_are e = cc

  shares_back : {us vs : List Attribute} → SharesName us vs → (xs ys : List Attribute) → us ≡ map renamed xs → vs ≡ map renamed ys → SharesName xs ys
  unfolding renamed
  shares_back (document.same n) [] ys e f = absurd (cc)
  shares_back (document.same n) (a ∷ xs) [] e f = absurd (cc)
  shares_back (document.same n) (a ∷ xs) (b ∷ ys) e f = document.same (apart_names a.name b.name
      (sym (ap (λ (x : Attribute). x.name) (first_is e)) ∙ n ∙ ap (λ (x : Attribute). x.name) (first_is f)))
  shares_back (document.later_left h) [] ys e f = absurd (cc)
  shares_back (document.later_left h) (a ∷ xs) ys e f = document.later_left (shares_back h xs ys (others_are e) f)
  shares_back (document.later_right h) xs [] e f = absurd (cc)
  shares_back (document.later_right h) xs (b ∷ ys) e f = document.later_right (shares_back h xs ys e (others_are f))

  twice : (xs : List Attribute) → map renamed (map renamed xs) ≡ xs
  unfolding renamed
  twice [] = refl
  twice (a ∷ xs) = ap₂ (λ n rest. record { name = n; content = a.content } ∷ rest) (back a.name) (twice xs)

  no_name : (q : Name) (xs : List Attribute) → HasNoName q xs → HasNoName (rename q) (map renamed xs)
  unfolding renamed
  no_name q [] document.nothing_named = document.nothing_named
  no_name q (a ∷ xs) (document.another_name apart h) = document.another_name (λ e. apart (apart_names a.name q e)) (no_name q xs h)

  distinct : (xs : List Attribute) → Distinct xs → Distinct (map renamed xs)
  unfolding renamed
  distinct [] document.none = document.none
  distinct (a ∷ xs) (document.one_more h d) = document.one_more (no_name a.name xs h) (distinct xs d)

  module _ (g : Reading) where
    takes_renamed : {p : Simple ℕ} {xs : List Attribute} {ns : List Item} → Takes g p xs ns → Keeps p → Takes g p (map renamed xs) ns
    unfolding renamed
    takes_renamed t.empty_is k = t.empty_is
    takes_renamed (t.text_is all) k = t.text_is all
    takes_renamed (t.first d) k = t.first (takes_renamed d k.0)
    takes_renamed (t.second d) k = t.second (takes_renamed d k.1)
    takes_renamed (t.grouped d e i parts) k = t.grouped (takes_renamed d k.0) (takes_renamed e k.1) (dealt i) parts
    takes_renamed (t.interleaved d e i parts) k = t.interleaved (takes_renamed d k.0) (takes_renamed e k.1) (dealt i) parts
    takes_renamed (t.once d) k = t.once (takes_renamed d k)
    takes_renamed (t.again {xs = xs} {ys = ys} d e apart i parts) k =
        t.again (takes_renamed d k) (takes_renamed e k) (λ h. apart (shares_back h xs ys refl refl)) (dealt i) parts
    takes_renamed (t.attribute_is {v = v} named value) k = t.attribute_is (k v.name ∙ named) value
    takes_renamed (t.element_is named kept padded) k = t.element_is named kept padded
    takes_renamed (t.data_is a) k = t.data_is a
    takes_renamed (t.data_but a b) k = t.data_but a b
    takes_renamed (t.value_is a) k = t.value_is a
    takes_renamed (t.list_is pieces d) k = t.list_is pieces d

    takes_back : (p : Simple ℕ) (xs : List Attribute) (ns : List Item) → Keeps p → Takes g p (map renamed xs) ns → Takes g p xs ns
    takes_back p xs ns k d = subst (λ xs. Takes g p xs ns) (twice xs) (takes_renamed d k)

    -- ---- ways

    EachKeeps : List Way → Type 0
    EachKeeps [] = Unit {0}
    EachKeeps (w ∷ ws) = (Keeps w.leaf × Keeps w.rest) × EachKeeps ws

    some_renamed : (ws : List Way) (a : Attribute) (xs : List Attribute) (ns : List Item) → EachKeeps ws → TakesAttribute g ws (renamed a) (map renamed xs) ns
        → TakesAttribute g ws a xs ns
    unfolding EachKeeps
    some_renamed [] a xs ns k h = h
    some_renamed (w ∷ ws) a xs ns k (inl h) = inl (takes_back w.leaf (a ∷ []) [] k.0.0 h.0, takes_back w.rest xs ns k.0.1 h.1)
    some_renamed (w ∷ ws) a xs ns k (inr h) = inr (some_renamed ws a xs ns k.1 h)

    some_renamed_on : (ws : List Way) (a : Attribute) (xs : List Attribute) (ns : List Item) → EachKeeps ws → TakesAttribute g ws a xs ns
        → TakesAttribute g ws (renamed a) (map renamed xs) ns
    unfolding EachKeeps
    some_renamed_on [] a xs ns k h = h
    some_renamed_on (w ∷ ws) a xs ns k (inl h) = inl (takes_renamed h.0 k.0.0, takes_renamed h.1 k.0.1)
    some_renamed_on (w ∷ ws) a xs ns k (inr h) = inr (some_renamed_on ws a xs ns k.1 h)

    ways_renamed : (q : Name) (p : Simple ℕ) (ws : List Way) → Keeps p → EachKeeps ws → AreAttributeWays g (IsNamed q) p ws
        → AreAttributeWays g (IsNamed (rename q)) p ws
    unfolding renamed
    ways_renamed q p ws k each law = record {
      to = λ a xs ns named d. some_renamed ws a xs ns each
          (law.to (renamed a) (map renamed xs) ns (ap rename named ∙ back q) (takes_renamed d k));
      back = λ a xs ns apart h. takes_back p (a ∷ xs) ns k
          (law.back (renamed a) (map renamed xs) ns (distinct (a ∷ xs) apart) (some_renamed_on ws a xs ns each h));
    }

  -- ---- trees of a table

  module _ (tb : Table) (rows_keep : (k : ℕ) → Keeps (attribute_found tb (slice_get tb.patterns k))) where
    string_keeps : {p : Simple ℕ} → IsStringLeaf p → Keeps p
    string_keeps a_list = tt
    string_keeps a_datatype = tt
    string_keeps an_except = tt
    string_keeps a_value = tt

    choice_keeps : (f : ℕ → Simple ℕ) → ((k : ℕ) → Keeps (f k)) → (m : ℕ) (ms : List ℕ) → Keeps (choice_from f m ms)
    choice_keeps f all m [] = all m
    choice_keeps f all m (n ∷ ms) = (all m, choice_keeps f all n ms)

    over_keeps : (f : ℕ → Simple ℕ) → ((k : ℕ) → Keeps (f k)) → (n : Node) → Keeps (tree_over tb f n)
    over_keeps f all node.not_allowed = tt
    over_keeps f all node.empty = tt
    over_keeps f all node.text = tt
    over_keeps f all (node.choice []) = tt
    over_keeps f all (node.choice (m ∷ ms)) = choice_keeps f all m ms
    over_keeps f all (node.group a b) = (all a, all b)
    over_keeps f all (node.interleave a b) = (all a, all b)
    over_keeps f all (node.one_or_more a) = all a
    over_keeps f all (node.element e) = tt
    over_keeps f all (node.attribute k) = rows_keep k
    over_keeps f all (node.data_at d) = string_keeps (found_string tb (slice_get tb.patterns d))

    in_keeps : (ts : List (Simple ℕ)) → All Keeps ts → (k : ℕ) → Keeps (tree_in ts k)
    in_keeps ts all k = ⊎_elim (λ inside. all k s_not_allowed inside)
        (λ out. subst Keeps (sym (get_or-past ts k s_not_allowed out)) tt) (cases_lt k (length ts))
      where
        get_or-past : (ts : List (Simple ℕ)) (k : ℕ) (d : Simple ℕ) → length ts ≤ k → get_or ts k d ≡ d
        get_or-past [] k d h = refl
        get_or-past (p ∷ ts) zero d h = absurd (omega (arith, h))
        get_or-past (p ∷ ts) (suc k) d h = get_or-past ts k d (omega (arith, h))

    fold_keeps : (ts : List (Simple ℕ)) (ns : List Node) → All Keeps ts → All Keeps (fold (with_tree tb) ts ns)
    fold_keeps ts [] all = all
    fold_keeps ts (n ∷ ns) all = fold_keeps (with_tree tb ts n) ns
        (All-append Keeps ts (tree_over tb (tree_in ts) n ∷ []) all
        (All-cons Keeps (tree_over tb (tree_in ts) n) [] (over_keeps (tree_in ts) (in_keeps ts all) n) (All-nil Keeps)))

    tree_keeps : (ns : List Node) (k : ℕ) → Keeps (tree_of tb ns k)
    unfolding trees
    tree_keeps ns k = in_keeps (fold (with_tree tb) [] ns) (fold_keeps [] ns (All-nil Keeps)) k

    each_keeps : (g : Reading) (ns : List Node) (ws : List numbered.LeafWay) → EachKeeps g (ways_by (tree_of tb ns) ws)
    unfolding EachKeeps
    each_keeps g ns [] = tt
    each_keeps g ns (w ∷ ws) = ((tree_keeps ns w.leaf.0, tree_keeps ns w.rest.0), each_keeps g ns ws)

-- ---- the exchange of two names

module _ (q r : Name) where
  swapped : Name → Name
  swapped n = cond (same_name q n) r (cond (same_name r n) q n)

  -- the new name of a name
  data Swaps (n m : Name) : Type 0 where
    first : n ≡ q → m ≡ r → Swaps n m
    second : n ≡ r → m ≡ q → Swaps n m
    neither : n ≢ q → n ≢ r → m ≡ n → Swaps n m

  swaps : (n : Name) → Swaps n (swapped n)
  unfolding swapped
  swaps n = by (same_name q n) refl (same_name r n) refl
    where
      by : (a : Bool) → same_name q n ≡ a → (b : Bool) → same_name r n ≡ b → Swaps n (cond a r (cond b q n))
      by true e b f = first ((same_name-Decides q n).0 e) refl
      by false e true f = second ((same_name-Decides r n).0 f) refl
      by false e false f = neither (λ is. true≢false (sym ((same_name-Decides q n).1 is) ∙ e)) (λ is. true≢false (sym ((same_name-Decides r n).1 is) ∙ f)) refl

  back_again : (n m o : Name) → Swaps n m → Swaps m o → o ≡ n
  back_again n m o (first a b) (first c d) = d ∙ sym b ∙ c ∙ sym a
  back_again n m o (first a b) (second c d) = d ∙ sym a
  back_again n m o (first a b) (neither c d e) = absurd (d b)
  back_again n m o (second a b) (first c d) = d ∙ sym a
  back_again n m o (second a b) (second c d) = d ∙ sym b ∙ c ∙ sym a
  back_again n m o (second a b) (neither c d e) = absurd (c b)
  back_again n m o (neither a b c) (first d e) = absurd (a (sym c ∙ d))
  back_again n m o (neither a b c) (second d e) = absurd (b (sym c ∙ d))
  back_again n m o (neither a b c) (neither d e f) = f ∙ c

  swapped_twice : (n : Name) → swapped (swapped n) ≡ n
  swapped_twice n = back_again n (swapped n) (swapped (swapped n)) (swaps n) (swaps (swapped n))

  swapped_first : swapped q ≡ r
  swapped_first = by (swaps q)
    where
      by : Swaps q (swapped q) → swapped q ≡ r
      by (first a b) = b
      by (second a b) = b ∙ a
      by (neither a b c) = absurd (a refl)

  -- a class that does not distinguish the two names distinguishes no name from its new name
  told_alike : (c : NameClass) → holds c q ≡ holds c r → (n : Name) → holds c (swapped n) ≡ holds c n
  told_alike c e n = by (swaps n)
    where
      by : Swaps n (swapped n) → holds c (swapped n) ≡ holds c n
      by (first a b) = ap (holds c) b ∙ sym e ∙ ap (holds c) (sym a)
      by (second a b) = ap (holds c) b ∙ e ∙ ap (holds c) (sym a)
      by (neither a b f) = ap (holds c) f

-- ---- names with the same key

module _ (tb : Table) (keys : Keys) (serve : KeysServe tb keys) (q r : Name) (alike : key_of keys q ≡ key_of keys r) where
  class_alike : (c : NameClass) → keyed.IsClassOf tb c → holds c q ≡ holds c r
  class_alike c of =
      let a = serve c of q in
      let b = serve c of r in
      same_truth (holds c q) (holds c r)
      (λ h. (holds-Decides c r).1 (b.1 (subst (λ k. In c (name_at keys k)) alike (a.0 ((holds-Decides c q).0 h)))))
      (λ h. (holds-Decides c q).1 (a.1 (subst (λ k. In c (name_at keys k)) (sym alike) (b.0 ((holds-Decides c r).0 h)))))

  row_keeps : (o : Option row.Simple) (k : ℕ) → slice_get tb.patterns k ≡ o → Keeps (swapped q r) (swapped_twice q r) (attribute_found tb o)
  row_keeps None k e = λ n. refl
  row_keeps (Some simple.NotAllowed) k e = λ n. refl
  row_keeps (Some simple.Empty) k e = λ n. refl
  row_keeps (Some simple.Text) k e = λ n. refl
  row_keeps (Some (simple.Element i)) k e = λ n. refl
  row_keeps (Some (simple.Attribute class body)) k e = told_alike q r (class_of class.value) (class_alike (class_of class.value) (keyed.of_attribute k class body e refl))
  row_keeps (Some (simple.List body)) k e = λ n. refl
  row_keeps (Some (simple.Data datatype)) k e = λ n. refl
  row_keeps (Some (simple.DataExcept datatype except)) k e = λ n. refl
  row_keeps (Some (simple.Value value)) k e = λ n. refl
  row_keeps (Some (simple.OneOrMore body)) k e = λ n. refl
  row_keeps (Some (simple.Group a b)) k e = λ n. refl
  row_keeps (Some (simple.Interleave a b)) k e = λ n. refl
  row_keeps (Some (simple.Choice a b)) k e = λ n. refl

  rows_keep : (k : ℕ) → Keeps (swapped q r) (swapped_twice q r) (attribute_found tb (slice_get tb.patterns k))
  rows_keep k = row_keeps (slice_get tb.patterns k) k refl

  pub ways_alike : (ns : List Node) (n : ℕ) (ws : List numbered.LeafWay) (a b : Bor declared.Name) → name_of a.now ≡ q → name_of b.now ≡ r
      → AreWaysOf tb ns (kinds.Attribute a) (tree_of tb ns n) ws → AreWaysOf tb ns (kinds.Attribute b) (tree_of tb ns n) ws
  ways_alike ns n ws a b is_q is_r h = record {
    inside = h.inside;
    law = λ well. subst (λ (m : Name). AreAttributeWays (reading_of tb) (IsNamed m) (tree_of tb ns n) (ways_by (tree_of tb ns) ws))
        (swapped_first q r ∙ sym is_r)
        (ways_renamed (swapped q r) (swapped_twice q r) (reading_of tb) q (tree_of tb ns n) (ways_by (tree_of tb ns) ws)
        (tree_keeps (swapped q r) (swapped_twice q r) tb rows_keep ns n) (each_keeps (swapped q r) (swapped_twice q r) tb rows_keep (reading_of tb) ns ws)
        (subst (λ (m : Name). AreAttributeWays (reading_of tb) (IsNamed m) (tree_of tb ns n) (ways_by (tree_of tb ns) ws)) is_q (h.law well)));
    kept = h.kept;
  }
