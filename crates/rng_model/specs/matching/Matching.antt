-- Which attributes with which items a tree matches (RELAX NG Specification, section 6.2), and which documents are valid
-- (section 6.3). The reader of the tree says what a leaf is: at a place it may represent another tree, or be an element
-- with a name class and a body. So the same rules read patterns as written and simple grammars.
use Rattle.std.specs.Prelude.{⊤, ◌≡◌, ◌⊎◌, ℕ, List, [], ◌∷◌, ◌++◌, map, true}
use Rattle.rng_model.specs.simple.Tree.{Connector, choice, group, interleave, Tree, not_allowed, empty, text, leaf, attribute, list, data_of, data_except}
use Rattle.rng_model.specs.simple.Tree.{value, mixed, optional, zero_or_more, one_or_more, joined, Trees, no_trees, tree_and, Datatype}
use Rattle.rng_model.specs.matching.Document.{Interleaves, Shares, Attribute, Item, a_text, an_element, Items, list_of, AllTexts, SharesName, Padded}
use Rattle.rng_model.specs.datatypes.Texts.{Texts}
use Rattle.rng_model.specs.names.Names.{Name, NameClass}

-- ---- which lists of texts a tree has, when it is the except of a datatype (section 6.2.8); an except as it is
-- written may be of any kind

-- one or more lists, one after another
pub data Repeats {A : Type 0} (P : List A → Type 0) : List A → Type 0 where
  one_list : {ws : List A} → P ws → Repeats P ws
  more_lists : {us vs ws : List A} → P us → Repeats P vs → us ++ vs ≡ ws → Repeats P ws

-- a list that two members share out
abbrev pub Shared : {A : Type 0} → Connector → (List A → Type 0) → (List A → Type 0) → List A → Type 0
Shared {A} k P Q ws = (us : List A) × (vs : List A) × P us × Q vs × Shares k us vs ws

module _ {L : Type 0} (texts : Texts) where
  abbrev mutual
    pub Lex : Tree L → List (List ℕ) → Type 0
    Lex not_allowed ws = ⊥
    Lex empty ws = ws ≡ []
    Lex text ws = ⊤
    Lex (leaf l) ws = ⊥
    Lex (attribute c a) ws = ⊥
    Lex (list a) ws = (w : List ℕ) × (ws ≡ w ∷ []) × Lex a (texts.pieces w)
    Lex (data_of d) ws = (w : List ℕ) × (ws ≡ w ∷ []) × texts.Allows d w
    Lex (data_except d a) ws = (w : List ℕ) × (ws ≡ w ∷ []) × texts.Allows d w × ¬ (Lex a (w ∷ []))
    Lex (value d v) ws = (w : List ℕ) × (ws ≡ w ∷ []) × texts.Equals d v w
    Lex (mixed a) ws = (us : List (List ℕ)) × (vs : List (List ℕ)) × Lex a us × Interleaves us vs ws
    Lex (optional a) ws = (ws ≡ []) ⊎ Lex a ws
    Lex (zero_or_more a) ws = (ws ≡ []) ⊎ Repeats (λ us. Lex a us) ws
    Lex (one_or_more a) ws = Repeats (λ us. Lex a us) ws
    Lex (joined choice a b ts) ws = Lex a ws ⊎ (Lex b ws ⊎ LexOne ts ws)
    Lex (joined group a b ts) ws = Shared group (λ us. Lex a us) (λ vs. Shared group (λ us. Lex b us) (λ ws. LexAll group ts ws) vs) ws
    Lex (joined interleave a b ts) ws = Shared interleave (λ us. Lex a us) (λ vs. Shared interleave (λ us. Lex b us) (λ ws. LexAll interleave ts ws) vs) ws

    -- some member has the list
    pub LexOne : Trees L → List (List ℕ) → Type 0
    LexOne no_trees ws = ⊥
    LexOne (tree_and a ts) ws = Lex a ws ⊎ LexOne ts ws

    -- the members share out the list
    pub LexAll : Connector → Trees L → List (List ℕ) → Type 0
    LexAll k no_trees ws = ws ≡ []
    LexAll k (tree_and a ts) ws = Shared k (λ us. Lex a us) (λ vs. LexAll k ts vs) ws

  -- the except of a data has this text
  abbrev pub HasText : Tree L → List ℕ → Type 0
  HasText a w = Lex a (w ∷ [])

-- ---- matching

-- how the leaves of a tree are read, at a place
pub record Leaves (X L : Type 0) : Type 1 where
  -- the leaf represents this tree, at this place
  pub StandsFor : X → L → X → Tree L → Type 0
  -- the leaf is an element with this name class, and this body at this place
  pub IsElement : X → L → NameClass → X → Tree L → Type 0
  -- the except of a data has this text
  pub Excepts : X → Tree L → List ℕ → Type 0

module _ {X L : Type 0} (leaves : Leaves X L) (In : NameClass → Name → Type 0) (texts : Texts) where
  mutual
    pub data Matches : X → Tree L → List Attribute → List Item → Type 0 where
      -- 6.2.3
      empty_is : {x : X} → Matches x empty [] []
      -- 6.2.4
      text_is : {x : X} {ns : List Item} → AllTexts ns → Matches x text [] ns
      -- 6.2.1
      first : {x : X} {a b : Tree L} {ts : Trees L} {xs : List Attribute} {ns : List Item} → Matches x a xs ns → Matches x (joined choice a b ts) xs ns
      second : {x : X} {a b : Tree L} {ts : Trees L} {xs : List Attribute} {ns : List Item} → Matches x b xs ns → Matches x (joined choice a b ts) xs ns
      another : {x : X} {a b : Tree L} {ts : Trees L} {xs : List Attribute} {ns : List Item} → MatchesOne x ts xs ns → Matches x (joined choice a b ts) xs ns
      -- 6.2.2 and 6.2.6, for any number of members
      all : {x : X} {k : Connector} {a b : Tree L} {ts : Trees L} {xs ys zs : List Attribute} {ms ns os : List Item} →
          Matches x a xs ms → MatchesAll x k (tree_and b ts) ys ns → Interleaves xs ys zs → Shares k ms ns os → Matches x (joined k a b ts) zs os
      -- 4.14: a choice of the pattern and empty
      absent : {x : X} {a : Tree L} → Matches x (optional a) [] []
      present : {x : X} {a : Tree L} {xs : List Attribute} {ns : List Item} → Matches x a xs ns → Matches x (optional a) xs ns
      -- 6.2.5
      once : {x : X} {a : Tree L} {xs : List Attribute} {ns : List Item} → Matches x a xs ns → Matches x (one_or_more a) xs ns
      more : {x : X} {a : Tree L} {xs ys zs : List Attribute} {ms ns os : List Item} →
          Matches x a xs ms → Matches x (one_or_more a) ys ns → ¬ (SharesName xs ys) → Interleaves xs ys zs → ms ++ ns ≡ os → Matches x (one_or_more a) zs os
      -- 4.15: a choice of oneOrMore and empty
      no_times : {x : X} {a : Tree L} → Matches x (zero_or_more a) [] []
      some_times : {x : X} {a : Tree L} {xs : List Attribute} {ns : List Item} → Matches x (one_or_more a) xs ns → Matches x (zero_or_more a) xs ns
      -- 4.13: an interleave of the pattern and text
      mixed_with : {x : X} {a : Tree L} {xs : List Attribute} {ms ns os : List Item} → Matches x a xs ms → AllTexts ns → Interleaves ms ns os
          → Matches x (mixed a) xs os
      -- 6.2.7
      attribute_is : {x : X} {c : NameClass} {a : Tree L} {v : Attribute} → In c v.name → Weakly x a [] (a_text v.content ∷ [])
          → Matches x (attribute c a) (v ∷ []) []
      element_is : {x y : X} {l : L} {c : NameClass} {a : Tree L} {q : Name} {xs : List Attribute} {kids : Items} {ns os : List Item} →
          leaves.IsElement x l c y a → In c q → ns ≡ list_of kids → Weakly y a xs ns → Padded texts.blank (an_element q xs kids) os → Matches x (leaf l) [] os
      -- 6.2.8
      data_is : {x : X} {d : Datatype} {w : List ℕ} → texts.Allows d w → Matches x (data_of d) [] (a_text w ∷ [])
      data_but : {x : X} {d : Datatype} {a : Tree L} {w : List ℕ} → texts.Allows d w → ¬ (leaves.Excepts x a w)
          → Matches x (data_except d a) [] (a_text w ∷ [])
      value_is : {x : X} {d : Datatype} {v w : List ℕ} → texts.Equals d v w → Matches x (value d v) [] (a_text w ∷ [])
      -- 6.2.10
      list_is : {x : X} {a : Tree L} {w : List ℕ} {ns : List Item} → ns ≡ map a_text (texts.pieces w) → Matches x a [] ns
          → Matches x (list a) [] (a_text w ∷ [])
      -- 4.18 and 4.19: a ref matches what it refers to
      stands_for : {x y : X} {l : L} {a : Tree L} {xs : List Attribute} {ns : List Item} → leaves.StandsFor x l y a → Matches y a xs ns
          → Matches x (leaf l) xs ns

    -- some member matches
    pub data MatchesOne : X → Trees L → List Attribute → List Item → Type 0 where
      this : {x : X} {a : Tree L} {ts : Trees L} {xs : List Attribute} {ns : List Item} → Matches x a xs ns → MatchesOne x (tree_and a ts) xs ns
      later : {x : X} {a : Tree L} {ts : Trees L} {xs : List Attribute} {ns : List Item} → MatchesOne x ts xs ns → MatchesOne x (tree_and a ts) xs ns

    -- the members share out attributes and items
    pub data MatchesAll : X → Connector → Trees L → List Attribute → List Item → Type 0 where
      none : {x : X} {k : Connector} → MatchesAll x k no_trees [] []
      and : {x : X} {k : Connector} {a : Tree L} {ts : Trees L} {xs ys zs : List Attribute} {ms ns os : List Item} →
          Matches x a xs ms → MatchesAll x k ts ys ns → Interleaves xs ys zs → Shares k ms ns os → MatchesAll x k (tree_and a ts) zs os

    -- 6.2.7, weak matching: of an attribute's value, and of an element's attributes and children
    pub data Weakly : X → Tree L → List Attribute → List Item → Type 0 where
      as_is : {x : X} {a : Tree L} {xs : List Attribute} {ns : List Item} → Matches x a xs ns → Weakly x a xs ns
      blank_text : {x : X} {a : Tree L} {xs : List Attribute} {s : List ℕ} → Matches x a xs [] → texts.blank s ≡ true → Weakly x a xs (a_text s ∷ [])
      nothing_there : {x : X} {a : Tree L} {xs : List Attribute} → Matches x a xs (a_text [] ∷ []) → Weakly x a xs []

  -- 6.3: the start matches the root alone
  abbrev pub IsValid : X → Tree L → Item → Type 0
  IsValid x start root = Matches x start [] (root ∷ [])
