-- A pattern takes exactly what it matches by the one definition of matching.
use Rattle.std.proofs.Common.{◌≡◌, ℕ, List, [], refl, sym, ap, ◌∙◌, subst, true, Option, Some, None, slice_get}
use Rattle.std.proofs.lemmas.List.{append-nil}
use Rattle.rng_model.specs.names.Names.{Name, NameClass, In}
use Rattle.rng_model.specs.simple.Tree.{Simple, Tree, choice, group, interleave, as_tree, no_trees, tree_and, one_or_more, s_not_allowed, s_empty, s_text}
use Rattle.rng_model.specs.simple.Tree.{s_leaf}
use Rattle.rng_model.specs.simple.Tree.{s_attribute, s_list, s_data, s_data_except, s_value, s_one_or_more, s_joined}
use Rattle.rng_model.specs.matching.Document.{Attribute, Item, list_of, Shares}
use Rattle.rng_model.specs.matching.Document as document
use Rattle.rng_model.specs.matching.Matching as m
use Rattle.rng_model.specs.matching.GrammarMatching.{is_listed, Reading}
use Rattle.rng_model.specs.datatypes.Texts.{texts_of}
use Rattle.rng_model.proofs.OneSidedInterleavings.{left_alone, left_is_all}
use Rattle.rng_names.proofs.Holding.{holds-Decides}
use Rattle.rng_deriv_laws.specs.plain.Reading.{body_of, body_in, named_in, leaves_of}
use Rattle.rng_deriv_laws.specs.plain.Taking.{Matches, WeaklyMatches, Takes, WeaklyTakes}
use Rattle.rng_deriv_laws.specs.plain.Taking as t

module _ (g : Reading) where
  -- the second of two members takes what the first leaves
  last_in : (x : Unit {0}) (k : _) (b : Tree ℕ) (ys : List Attribute) (ns : List Item) →
      m.MatchesAll (leaves_of g) In (texts_of g.tests) x k (tree_and b no_trees) ys ns →
      m.Matches (leaves_of g) In (texts_of g.tests) x b ys ns
  last_in x k b ys ns (m.and {xs = xs} {ms = ms} d m.none i (document.in_order e)) =
      subst (λ l. m.Matches (leaves_of g) In (texts_of g.tests) x b l ns) (left_is_all i)
      (subst (λ l. m.Matches (leaves_of g) In (texts_of g.tests) x b xs l) (sym (append-nil ms) ∙ e) d)
  last_in x k b ys ns (m.and {xs = xs} {ms = ms} d m.none i (document.in_any_order c)) =
      subst (λ l. m.Matches (leaves_of g) In (texts_of g.tests) x b l ns) (left_is_all i)
      (subst (λ l. m.Matches (leaves_of g) In (texts_of g.tests) x b xs l) (left_is_all c) d)

  no_member : (x : Unit {0}) (xs : List Attribute) (ns : List Item) →
      m.MatchesOne (leaves_of g) In (texts_of g.tests) x no_trees xs ns → ⊥
  no_member x xs ns d = elim d [ ]

  no_choice : (ms ns os : List Item) → Shares choice ms ns os → ⊥
  no_choice ms ns os d = elim d [ ]

  -- the element of this number, as it is listed
  listed_name : (k : ℕ) (q : Name) (o : Option (NameClass × Simple ℕ)) (c : NameClass) (s : Simple ℕ) → o ≡ Some (c, s) → In c q → named_in o q ≡ true
  listed_name k q o c s e i = rw e ((holds-Decides c q).1 i)

  leaf_in : (k : ℕ) (xs : List Attribute) (ns : List Item) → Matches g (s_leaf k) xs ns → Takes g (s_leaf k) xs ns
  leaf_in k xs ns (m.element_is {q = q} {xs = ys} {kids = kids} {ns = inner} (is_listed {c = c} {s = s} found e) i same w p) =
      let body : s ≡ body_of g k = sym (ap body_in found) in
      t.element_is (listed_name k q (slice_get g.grammar.elements k) c s found i)
      (subst (λ b. WeaklyMatches g b ys (list_of kids)) body
      (subst (λ l. WeaklyMatches g s ys l) same
      (subst (λ a. m.Weakly (leaves_of g) In (texts_of g.tests) tt a ys inner) e w)))
      p
  leaf_in k xs ns (m.stands_for s d) = elim s [ ]

  listed_out : (k : ℕ) (q : Name) (o : Option (NameClass × Simple ℕ)) → slice_get g.grammar.elements k ≡ o → named_in o q ≡ true →
      (c : NameClass) × (s : Simple ℕ) × (slice_get g.grammar.elements k ≡ Some (c, s)) × In c q
  listed_out k q None found e = absurd (cc)
  listed_out k q (Some (c, s)) found e = (c, s, found, (holds-Decides c q).0 e)

  leaf_out : (k : ℕ) (xs : List Attribute) (ns : List Item) → Takes g (s_leaf k) xs ns → Matches g (s_leaf k) xs ns
  leaf_out k xs ns (t.element_is {q = q} {xs = ys} {kids = kids} named w p) =
      let (c, s, found, i) = listed_out k q (slice_get g.grammar.elements k) refl named in
      let body : body_of g k ≡ s = ap body_in found in
      m.element_is (is_listed {y = tt} found refl) i refl (subst (λ b. WeaklyMatches g b ys (list_of kids)) body w) p

  plus_in : (p : Simple ℕ) (a : Tree ℕ) →
      ((xs : List Attribute) (ns : List Item) → m.Matches (leaves_of g) In (texts_of g.tests) tt a xs ns → Takes g p xs ns) →
      (xs : List Attribute) (ns : List Item) → m.Matches (leaves_of g) In (texts_of g.tests) tt (one_or_more a) xs ns → Takes g (s_one_or_more p) xs ns
  plus_in p a inside xs ns (m.once d) = t.once (inside xs ns d)
  plus_in p a inside xs ns (m.more d e f i c) = t.again (inside _ _ d) (plus_in p a inside _ _ e) f i c

  plus_out : (p : Simple ℕ) → ((xs : List Attribute) (ns : List Item) → Takes g p xs ns → Matches g p xs ns) →
      (xs : List Attribute) (ns : List Item) → Takes g (s_one_or_more p) xs ns → Matches g (s_one_or_more p) xs ns
  plus_out p inside xs ns (t.once d) = m.once (inside xs ns d)
  plus_out p inside xs ns (t.again d e f i c) = m.more (inside _ _ d) (plus_out p inside _ _ e) f i c

  weakly_in_by : (p : Simple ℕ) → ((xs : List Attribute) (ns : List Item) → Matches g p xs ns → Takes g p xs ns) →
      (xs : List Attribute) (ns : List Item) → WeaklyMatches g p xs ns → WeaklyTakes g p xs ns
  weakly_in_by p inside xs ns (m.as_is d) = t.as_is (inside xs ns d)
  weakly_in_by p inside xs ns (m.blank_text d b) = t.blank_text (inside xs [] d) b
  weakly_in_by p inside xs ns (m.nothing_there d) = t.nothing_there (inside xs _ d)

  weakly_out_by : (p : Simple ℕ) → ((xs : List Attribute) (ns : List Item) → Takes g p xs ns → Matches g p xs ns) →
      (xs : List Attribute) (ns : List Item) → WeaklyTakes g p xs ns → WeaklyMatches g p xs ns
  weakly_out_by p inside xs ns (t.as_is d) = m.as_is (inside xs ns d)
  weakly_out_by p inside xs ns (t.blank_text d b) = m.blank_text (inside xs [] d) b
  weakly_out_by p inside xs ns (t.nothing_there d) = m.nothing_there (inside xs _ d)

  pub takes_in : (p : Simple ℕ) (xs : List Attribute) (ns : List Item) → Matches g p xs ns → Takes g p xs ns
  takes_in s_not_allowed xs ns d = elim d [ ]
  takes_in s_empty xs ns m.empty_is = t.empty_is
  takes_in s_text xs ns (m.text_is all) = t.text_is all
  takes_in (s_leaf k) xs ns d = leaf_in k xs ns d
  takes_in (s_attribute c p) xs ns (m.attribute_is {v = v} i w) = t.attribute_is ((holds-Decides c v.name).1 i) (weakly_in_by p (takes_in p) [] _ w)
  takes_in (s_list p) xs ns (m.list_is e d) = t.list_is e (takes_in p [] _ d)
  takes_in (s_data d) xs ns (m.data_is e) = t.data_is e
  takes_in (s_data_except d p) xs ns (m.data_but e f) = t.data_but e f
  takes_in (s_value d v) xs ns (m.value_is e) = t.value_is e
  takes_in (s_one_or_more p) xs ns d = plus_in p (as_tree p) (takes_in p) xs ns d
  takes_in (s_joined choice p q) xs ns (m.first d) = t.first (takes_in p xs ns d)
  takes_in (s_joined choice p q) xs ns (m.second d) = t.second (takes_in q xs ns d)
  takes_in (s_joined choice p q) xs ns (m.another d) = absurd (no_member tt xs ns d)
  takes_in (s_joined choice p q) xs ns (m.all {ms = us} {ns = vs} d e i c) = absurd (no_choice us vs ns c)
  takes_in (s_joined group p q) xs ns (m.all d e i (document.in_order c)) =
      t.grouped (takes_in p _ _ d) (takes_in q _ _ (last_in tt group (as_tree q) _ _ e)) i c
  takes_in (s_joined interleave p q) xs ns (m.all d e i (document.in_any_order c)) =
      t.interleaved (takes_in p _ _ d) (takes_in q _ _ (last_in tt interleave (as_tree q) _ _ e)) i c

  pub weakly_in : (p : Simple ℕ) (xs : List Attribute) (ns : List Item) → WeaklyMatches g p xs ns → WeaklyTakes g p xs ns
  weakly_in p xs ns w = weakly_in_by p (takes_in p) xs ns w

  pub takes_out : (p : Simple ℕ) (xs : List Attribute) (ns : List Item) → Takes g p xs ns → Matches g p xs ns
  takes_out s_not_allowed xs ns d = elim d [ ]
  takes_out s_empty xs ns t.empty_is = m.empty_is
  takes_out s_text xs ns (t.text_is all) = m.text_is all
  takes_out (s_leaf k) xs ns d = leaf_out k xs ns d
  takes_out (s_attribute c p) xs ns (t.attribute_is {v = v} i w) = m.attribute_is ((holds-Decides c v.name).0 i) (weakly_out_by p (takes_out p) [] _ w)
  takes_out (s_list p) xs ns (t.list_is e d) = m.list_is e (takes_out p [] _ d)
  takes_out (s_data d) xs ns (t.data_is e) = m.data_is e
  takes_out (s_data_except d p) xs ns (t.data_but e f) = m.data_but e f
  takes_out (s_value d v) xs ns (t.value_is e) = m.value_is e
  takes_out (s_one_or_more p) xs ns d = plus_out p (takes_out p) xs ns d
  takes_out (s_joined choice p q) xs ns (t.first d) = m.first (takes_out p xs ns d)
  takes_out (s_joined choice p q) xs ns (t.second d) = m.second (takes_out q xs ns d)
  takes_out (s_joined group p q) xs ns (t.grouped d e i c) =
      m.all (takes_out p _ _ d) (m.and (takes_out q _ _ e) m.none (left_alone _) (document.in_order (append-nil _))) i (document.in_order c)
  takes_out (s_joined interleave p q) xs ns (t.interleaved d e i c) =
      m.all (takes_out p _ _ d) (m.and (takes_out q _ _ e) m.none (left_alone _) (document.in_any_order (left_alone _))) i (document.in_any_order c)

  pub weakly_out : (p : Simple ℕ) (xs : List Attribute) (ns : List Item) → WeaklyTakes g p xs ns → WeaklyMatches g p xs ns
  weakly_out p xs ns w = weakly_out_by p (takes_out p) xs ns w
