-- Open elements as levels. A matcher keeps alternatives for what remains of the innermost open element. For each open
-- element it keeps the ways out: which alternative inside may end, which alternative around it then continues, and what
-- is left of that one.
use Rattle.std.specs.Prelude.{◌≡◌, ◌↔◌, ℕ, List, [], ◌∷◌, Some, Bool, true, slice_get, Contains, All}
use Rattle.std.specs.List.{AllZip}
use Rattle.rng_model.specs.names.Names.{Name}
use Rattle.rng_model.specs.simple.Tree.{Simple}
use Rattle.rng_model.specs.matching.Document.{Attribute, Item, a_text, an_element, Items, list_of, Distinct}
use Rattle.rng_model.specs.matching.GrammarMatching.{Reading}
use Rattle.rng_deriv_laws.specs.plain.Reading.{has_name}
use Rattle.rng_deriv_laws.specs.plain.Taking.{Takes, WeaklyTakes}
use Rattle.rng_deriv_laws.specs.plain.Restricted.{IsTyped}
use Rattle.rng_deriv_laws.specs.plain.Blanks.{Every, IsBare, IsNotBlank, has_element}
use Rattle.rng_deriv_laws.specs.plain.Derivatives.{Way}
use Rattle.rng_deriv_laws.specs.plain.Ways.{Opens, EachWay}
use Rattle.rng_deriv_laws.specs.plain.States as states
use Rattle.rng_deriv_laws.specs.plain.Meanings.{Meaning}

-- a way out of an element
pub record Link : Type 0 where
  -- the place of an alternative inside the element
  pub inner : ℕ
  -- the place of an alternative around it
  pub outer : ℕ
  -- what is left of the alternative around, after the element
  pub rest : Simple ℕ

pub record LevelState : Type 0 where
  -- the alternatives for what remains of the innermost open element, or of the document if no element is open
  pub now : List (Simple ℕ)
  -- the ways out of each open element, the innermost first
  pub levels : List (List Link)

module _ (g : Reading) where
  -- ---- the meaning of level states

  -- a way out leads from the alternative at this place, and its rest takes what remains around the element, at each
  -- level
  abbrev pub HoldsAround : List (List Link) → ℕ → List (List Item) → Type 0
  HoldsAround [] j [] = Unit {0}
  HoldsAround [] j (ns ∷ ls) = ⊥
  HoldsAround (links ∷ levels) j [] = ⊥
  HoldsAround (links ∷ levels) j (ns ∷ ls) = (l : Link) × Contains links l × (l.inner ≡ j) × Takes g l.rest [] ns × HoldsAround levels l.outer ls

  -- some alternative satisfies P, and from it ways out lead to what takes the rest around it, at each level
  abbrev pub SomeHolds : (Simple ℕ → Type 0) → LevelState → List (List Item) → Type 0
  SomeHolds P m ls = (j : ℕ) × (p : Simple ℕ) × (slice_get m.now j ≡ Some p) × P p × HoldsAround m.levels j ls

  abbrev pub HoldsInLevels : LevelState → List (List Item) → Type 0
  HoldsInLevels m [] = ⊥
  HoldsInLevels m (ns ∷ ls) = SomeHolds (λ p. Takes g p [] ns) m ls

  abbrev pub level_meaning : LevelState → Meaning
  level_meaning m = record { holds = HoldsInLevels m; begins = λ kids ls. SomeHolds (λ p. states.Contains g (has_element kids) p kids) m ls }

  -- ---- what each event must do to patterns

  -- q takes exactly the items that may follow the string in what p takes
  abbrev pub IsAfterText : List ℕ → Simple ℕ → Simple ℕ → Type 0
  IsAfterText s p q = (ns : List Item) → IsBare (a_text s ∷ ns) → Takes g q [] ns ↔ Takes g p [] (a_text s ∷ ns)

  -- q takes, without attributes, exactly what p takes with the attributes of the tag
  abbrev pub IsAfterTag : List Attribute → Simple ℕ → Simple ℕ → Type 0
  IsAfterTag xs p q = Distinct xs → (ns : List Item) → Takes g q [] ns ↔ Takes g p xs ns

  -- a way out for the alternative at this place: its body weakly takes the attributes and children, and its rest takes
  -- what follows
  abbrev pub OpensAt : List (Simple ℕ) → List Link → ℕ → List Attribute → List Item → List Item → Type 0
  OpensAt bodies links i xs kids ns =
      (l : Link) × (b : Simple ℕ) × Contains links l × (l.outer ≡ i) × (slice_get bodies l.inner ≡ Some b) × WeaklyTakes g b xs kids × Takes g l.rest [] ns

  -- the body has a content type (section 7.2), and some element has a class with this name
  pub record IsBodyNamed (q : Name) (b : Simple ℕ) : Type 0 where
    pub typed : IsTyped b
    pub element : ℕ
    pub named : has_name g element q ≡ true

  -- the ways open an element of this name exactly as the pattern takes one
  pub record AreStarts (q : Name) (p : Simple ℕ) (ws : List Way) : Type 0 where
    pub to : (xs : List Attribute) (kids : Items) (ns : List Item) → Every IsNotBlank ns → Takes g p [] (an_element q xs kids ∷ ns)
        → Opens g xs (list_of kids) ns ws
    pub back : (xs : List Attribute) (kids : Items) (ns : List Item) → Opens g xs (list_of kids) ns ws → Takes g p [] (an_element q xs kids ∷ ns)
    pub each : EachWay (IsBodyNamed q) (λ r. Unit {0}) ws

  -- The bodies and their ways out are those of a start of this name: an alternative takes an element and what follows
  -- exactly if one of its ways does.
  pub record AreOpened (q : Name) (outside bodies : List (Simple ℕ)) (links : List Link) : Type 0 where
    pub to : (i : ℕ) (p : Simple ℕ) (xs : List Attribute) (kids : Items) (ns : List Item) → slice_get outside i ≡ Some p → Every IsNotBlank ns
        → Takes g p [] (an_element q xs kids ∷ ns) → OpensAt bodies links i xs (list_of kids) ns
    pub back : (i : ℕ) (xs : List Attribute) (kids : Items) (ns : List Item) → OpensAt bodies links i xs (list_of kids) ns
        → (p : Simple ℕ) × (slice_get outside i ≡ Some p) × Takes g p [] (an_element q xs kids ∷ ns)
    pub each : All (IsBodyNamed q) bodies

  -- the pattern may end in an element that has a child element
  abbrev pub EndsNow : Simple ℕ → Type 0
  EndsNow p = Takes g p [] []

  -- the pattern may end in an element with only this string, or with nothing if the string is empty (section 6.2.7)
  abbrev pub EndsWith : List ℕ → Simple ℕ → Type 0
  EndsWith s p = WeaklyTakes g p [] (a_text s ∷ [])

  -- What the ways out of an element leave, when the good alternatives inside end: an alternative around takes exactly
  -- what its ways out from good alternatives leave.
  pub record AreEnded (good : List Bool) (links : List Link) (outside : List (Simple ℕ)) : Type 0 where
    pub to : (l : Link) (ns : List Item) → Contains links l → slice_get good l.inner ≡ Some true → Takes g l.rest [] ns
        → (r : Simple ℕ) × (slice_get outside l.outer ≡ Some r) × Takes g r [] ns
    pub back : (i : ℕ) (r : Simple ℕ) (ns : List Item) → slice_get outside i ≡ Some r → Takes g r [] ns
        → (l : Link) × Contains links l × (l.outer ≡ i) × (slice_get good l.inner ≡ Some true) × Takes g l.rest [] ns

  -- ---- what each event must do to level states

  -- a start tag: one more level, and inside it the bodies after the attributes
  pub record StartsLevel (q : Name) (xs : List Attribute) (m n : LevelState) : Type 0 where
    pub bodies : List (Simple ℕ)
    pub links : List Link
    pub opened : AreOpened q m.now bodies links
    pub entered : AllZip (IsAfterTag xs) bodies n.now
    pub levels : n.levels ≡ links ∷ m.levels

  -- a string that has an element beside it
  pub record TakesString (s : List ℕ) (m n : LevelState) : Type 0 where
    pub now : AllZip (IsAfterText s) m.now n.now
    pub levels : n.levels ≡ m.levels

  -- the end of an element: the ways out of the alternatives that may end
  pub record EndsLevel (MayEnd : Simple ℕ → Type 0) (m n : LevelState) : Type 0 where
    pub links : List Link
    pub good : List Bool
    pub levels : m.levels ≡ links ∷ n.levels
    pub which : AllZip (λ p b. (b ≡ true) ↔ MayEnd p) m.now good
    pub ended : AreEnded good links n.now
