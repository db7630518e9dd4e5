-- What a tree matches by one reading of its leaves, each corresponding tree matches by another one.
use Rattle.std.proofs.Common.{List, ℕ}
use Rattle.rng_model.specs.names.Names.{Name, NameClass}
use Rattle.rng_model.specs.simple.Tree.{Connector, Tree, Trees}
use Rattle.rng_model.specs.matching.Document.{Attribute, Item}
use Rattle.rng_model.specs.datatypes.Texts.{Texts}
use Rattle.rng_model.specs.matching.Matching.{Leaves, Matches, MatchesOne, MatchesAll, Weakly}
use Rattle.rng_model.specs.matching.Matching as m
use Rattle.rng_simple.proofs.Matching.CorrespondingTrees.{Corresponds, AllCorrespond}
use Rattle.rng_simple.proofs.Matching.CorrespondingTrees as s

module _ {K L : Type 0} (R : K → L → Type 0) (A : Leaves (Unit {0}) K) (B : Leaves (Unit {0}) L) (In : NameClass → Name → Type 0) (texts : Texts) where
  -- a body for the other reading, with an element for each match of it
  pub record Body (x : Unit {0}) (l : L) (c : NameClass) (a : Tree K) : Type 0 where
    pub place : Unit {0}
    pub other : Tree L
    pub corresponds : Corresponds R a other
    pub read : (q : Name) → In c q → (xs : List Attribute) (ns : List Item) → Weakly B In texts place other xs ns →
        (z : Unit {0}) × (d : NameClass) × (b : Tree L) × B.IsElement x l d z b × In d q × Weakly B In texts z b xs ns

  module _ (excepts : (x : Unit {0}) (a : Tree K) (b : Tree L) → Corresponds R a b → (w : List ℕ) → B.Excepts x b w → A.Excepts x a w)
      (stands : (x : Unit {0}) (k : K) (y : Unit {0}) (a : Tree K) → A.StandsFor x k y a → ⊥)
      (is_element : (x : Unit {0}) (k : K) (l : L) (c : NameClass) (y : Unit {0}) (a : Tree K) → R k l → A.IsElement x k c y a → Body x l c a)
    where
      mutual
        pub reread : {x : Unit {0}} {a : Tree K} {xs : List Attribute} {ns : List Item} → Matches A In texts x a xs ns → (b : Tree L) → Corresponds R a b
            → Matches B In texts x b xs ns
        reread m.empty_is b s.empties = m.empty_is
        reread (m.text_is h) b s.both_text = m.text_is h
        reread (m.first d) b (s.both_joined e f fs) = m.first (reread d _ e)
        reread (m.second d) b (s.both_joined e f fs) = m.second (reread d _ f)
        reread (m.another d) b (s.both_joined e f fs) = m.another (reread_one d _ fs)
        reread (m.all d ds i h) b (s.both_joined e f fs) = m.all (reread d _ e) (reread_all ds _ (s.and_more f fs)) i h
        reread m.absent b (s.optionals e) = m.absent
        reread (m.present d) b (s.optionals e) = m.present (reread d _ e)
        reread (m.once d) b (s.some_times e) = m.once (reread d _ e)
        reread (m.more d ds n i h) b (s.some_times e) = m.more (reread d _ e) (reread ds _ (s.some_times e)) n i h
        reread m.no_times b (s.any_times e) = m.no_times
        reread (m.some_times d) b (s.any_times e) = m.some_times (reread d _ (s.some_times e))
        reread (m.mixed_with d h i) b (s.mixeds e) = m.mixed_with (reread d _ e) h i
        reread (m.attribute_is i w) b (s.attributes e) = m.attribute_is i (reread_weakly w _ e)
        reread (m.element_is e i k w h) b (s.leaves r) =
            let t = is_element _ _ _ _ _ _ r e in
            let u = t.read _ i _ _ (reread_weakly w t.other t.corresponds) in
            m.element_is u.3 u.4 k u.5 h
        reread (m.data_is h) b s.datas = m.data_is h
        reread (m.data_but h n) b (s.excepts e) = m.data_but h (λ z. n (excepts _ _ _ e _ z))
        reread (m.value_is h) b s.values = m.value_is h
        reread (m.list_is h d) b (s.lists e) = m.list_is h (reread d _ e)
        reread (m.stands_for g d) b e = absurd (stands _ _ _ _ g)

        reread_one : {x : Unit {0}} {ts : Trees K} {xs : List Attribute} {ns : List Item} → MatchesOne A In texts x ts xs ns → (us : Trees L)
            → AllCorrespond R ts us → MatchesOne B In texts x us xs ns
        reread_one (m.this d) us (s.and_more e es) = m.this (reread d _ e)
        reread_one (m.later d) us (s.and_more e es) = m.later (reread_one d _ es)

        reread_all : {x : Unit {0}} {k : Connector} {ts : Trees K} {xs : List Attribute} {ns : List Item} → MatchesAll A In texts x k ts xs ns → (us : Trees L)
            → AllCorrespond R ts us → MatchesAll B In texts x k us xs ns
        reread_all m.none us s.no_more = m.none
        reread_all (m.and d ds i h) us (s.and_more e es) = m.and (reread d _ e) (reread_all ds _ es) i h

        reread_weakly : {x : Unit {0}} {a : Tree K} {xs : List Attribute} {ns : List Item} → Weakly A In texts x a xs ns → (b : Tree L) → Corresponds R a b
            → Weakly B In texts x b xs ns
        reread_weakly (m.as_is d) b e = m.as_is (reread d b e)
        reread_weakly (m.blank_text d h) b e = m.blank_text (reread d b e) h
        reread_weakly (m.nothing_there d) b e = m.nothing_there (reread d b e)
