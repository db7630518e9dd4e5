-- Each event over levels: a state allows what remains before the event exactly if the state after it allows what
-- remains after.
pub mod States
pub mod Events
pub mod Steps
use Rattle.std.proofs.Common.{◌≡◌, ℕ, List, [], ◌∷◌, refl, sym, subst, Bool, true, false, inl, inr}
use Rattle.std.proofs.lemmas.Bool.{and_from, or_left, or_right, and_parts, or_cases}
use Rattle.rng_model.specs.names.Names.{Name}
use Rattle.rng_model.specs.simple.Tree.{Simple}
use Rattle.rng_model.specs.matching.Document.{Attribute, Item, a_text, an_element, Items, list_of, Distinct}
use Rattle.rng_model.specs.plain.WellFormed.{Separate}
use Rattle.rng_model.specs.plain.WellFormed as w
use Rattle.rng_model.specs.matching.GrammarMatching.{Reading}
use Rattle.rng_deriv_laws.specs.plain.Taking.{Takes, WeaklyTakes}
use Rattle.rng_deriv_laws.specs.plain.Taking as t
use Rattle.rng_deriv_laws.specs.plain.Restricted.{IsRestricted, IsRestrictedBody, IsTyped}
use Rattle.rng_deriv_laws.specs.plain.Blanks.{Every, cons, IsNotBlank, no_blanks, has_element, without_blanks, string_of}
use Rattle.rng_deriv_laws.specs.plain.Derivatives.{Way, is_nullable, closed, after_text, has_text, after_attributes, after_start, item_ways}
use Rattle.rng_deriv_laws.specs.plain.Ways.{Opens, EachWay, IsItemLeaf}
use Rattle.rng_deriv_laws.specs.plain.States.{State, never, finished, after, either, after_of, end_tag, is_ended, accepts, enter, start_tag, string, end_text}
use Rattle.rng_deriv_laws.specs.plain.States.{Holds, Contains, Begins, HasRestrictedBodies, IsRestrictedState}
use Rattle.rng_deriv_laws.proofs.Nullable.{null_in, null_out}
use Rattle.rng_deriv_laws.proofs.KeptRestrictions.{IsRestricted-hereditary, closed-restricted, item_ways-keep, rests_of-keeps}
use Rattle.rng_deriv_laws.proofs.Texts.{text_in, text_out, alone_in, alone_out}
use Rattle.rng_deriv_laws.proofs.Attributes.{attributes_in, attributes_out, attributes_keep, closed_in, closed_out}
use Rattle.rng_deriv_laws.proofs.Starts.{start_in, start_out, start_keeps}
use Rattle.rng_deriv_laws.proofs.DropBlanks.{drop_blanks}
use Rattle.rng_deriv_laws.proofs.PutBlanks.{put_blanks}
use Rattle.rng_deriv_laws.proofs.States.{holds_left, holds_right, holds_out, holds_after, holds_after_out, so_in, so_out, begins_left, begins_right}
use Rattle.rng_deriv_laws.proofs.States.{begins_either}
use Rattle.rng_deriv_laws.proofs.States.{begins_after, begins_after_out, either_of-restricted, after_of-restricted, if_so-restricted}

module _ (g : Reading) where
  -- ---- the body of an element, after the attributes of its tag

  plainly : (p : Simple ℕ) (xs : List Attribute) (ns : List Item) → has_element ns ≡ true → WeaklyTakes g p xs ns → Takes g p xs ns
  plainly p xs ns h (t.as_is d) = d
  plainly p xs ns h (t.blank_text d b) = absurd (cc)
  plainly p xs ns h (t.nothing_there d) = absurd (cc)

  -- the weak rules respect what is taken
  pub weakly_as : (p q : Simple ℕ) (xs ys : List Attribute) (ns : List Item) → ((ns : List Item) → Takes g p xs ns → Takes g q ys ns) → WeaklyTakes g p xs ns
      → WeaklyTakes g q ys ns
  weakly_as p q xs ys ns f (t.as_is d) = t.as_is (f ns d)
  weakly_as p q xs ys ns f (t.blank_text d b) = t.blank_text (f [] d) b
  weakly_as p q xs ys ns f (t.nothing_there d) = t.nothing_there (f _ d)

  -- q takes, without attributes, what the body p takes with them: it contains the children that p weakly takes with
  -- them
  pub contains_in : (p q : Simple ℕ) → IsTyped p → (xs : List Attribute) → ((ns : List Item) → Takes g p xs ns → Takes g q [] ns) →
      (kids : List Item) (b : Bool)
      → has_element kids ≡ b → WeaklyTakes g p xs kids → Contains g b q kids
  contains_in p q typed xs f kids true h d = f (without_blanks kids) (drop_blanks g p typed xs kids h (plainly p xs kids h d))
  contains_in p q typed xs f kids false h d = weakly_as p q xs [] kids f d

  pub contains_out : (p q : Simple ℕ) (xs : List Attribute) → ((ns : List Item) → Takes g q [] ns → Takes g p xs ns) → (kids : List Item) → Separate kids →
      (b : Bool) → has_element kids ≡ b → Contains g b q kids → WeaklyTakes g p xs kids
  contains_out p q xs f kids s true h d = t.as_is (put_blanks g p xs kids s h (f (without_blanks kids) d))
  contains_out p q xs f kids s false h d = weakly_as q p [] xs kids f d

  body_in : (p : Simple ℕ) → IsRestrictedBody p → (xs : List Attribute) (kids : List Item) → WeaklyTakes g p xs kids
      → Contains g (has_element kids) (closed (after_attributes g p xs)) kids
  body_in p o xs kids d =
      contains_in p (closed (after_attributes g p xs)) o.typed xs (λ ns d. closed_in g (after_attributes g p xs) ns (attributes_in g p o.restricted xs ns d))
      kids (has_element kids) refl d

  body_out : (p : Simple ℕ) → IsRestrictedBody p → (xs : List Attribute) (kids : List Item) → Distinct xs → Separate kids
      → Contains g (has_element kids) (closed (after_attributes g p xs)) kids → WeaklyTakes g p xs kids
  body_out p o xs kids u s d =
      contains_out p (closed (after_attributes g p xs)) xs
      (λ ns d. attributes_out g p o.restricted xs ns u (closed_out g (after_attributes g p xs) ns d)) kids s (has_element kids) refl d

  -- ---- a start tag

  pub enter_in : (ws : List Way) → EachWay IsRestrictedBody IsRestricted ws → (r : State) (xs : List Attribute) (kids ns : List Item) (ls : List (List Item)) →
      Opens g xs kids ns ws → Holds g r ls → Begins g (enter g xs ws r) kids (ns ∷ ls)
  enter_in [] o r xs kids ns ls h k = absurd h
  enter_in (w ∷ ws) o r xs kids ns ls (inl h) k =
      begins_left g _ (enter g xs ws r) kids (ns ∷ ls)
      (begins_after g (closed (after_attributes g w.leaf xs)) (after_of w.rest r) kids (ns ∷ ls) (body_in w.leaf o.0.0 xs kids h.0)
      (holds_after g w.rest r ns ls h.1 k))
  enter_in (w ∷ ws) o r xs kids ns ls (inr h) k = begins_right g _ (enter g xs ws r) kids (ns ∷ ls) (enter_in ws o.1 r xs kids ns ls h k)

  pub enter_out : (ws : List Way) → EachWay IsRestrictedBody IsRestricted ws → (r : State) (xs : List Attribute) (kids ns : List Item) (ls : List (List Item)) →
      Distinct xs → Separate kids → Begins g (enter g xs ws r) kids (ns ∷ ls) → Opens g xs kids ns ws × Holds g r ls
  enter_out [] o r xs kids ns ls u s h = absurd h
  enter_out (w ∷ ws) o r xs kids ns ls u s h =
      elim (begins_either g (after_of (closed (after_attributes g w.leaf xs)) (after_of w.rest r)) (enter g xs ws r) kids (ns ∷ ls) h) [
        | inl a ↦ let b = begins_after_out g (closed (after_attributes g w.leaf xs)) (after_of w.rest r) kids (ns ∷ ls) a in
            let c = holds_after_out g w.rest r ns ls b.1 in
            (inl (body_out w.leaf o.0.0 xs kids u s b.0, c.0), c.1)
        | inr b ↦ let k = enter_out ws o.1 r xs kids ns ls u s b in (inr k.0, k.1)
      ]

  enter_restricted : (ws : List Way) → EachWay IsRestrictedBody IsRestricted ws → (r : State) → IsRestrictedState r → (xs : List Attribute)
      → IsRestrictedState (enter g xs ws r)
  enter_restricted [] o r h xs = tt
  enter_restricted (w ∷ ws) o r h xs =
      either_of-restricted (after_of (closed (after_attributes g w.leaf xs)) (after_of w.rest r)) (enter g xs ws r)
      (after_of-restricted (closed (after_attributes g w.leaf xs)) (after_of w.rest r)
      (closed-restricted (after_attributes g w.leaf xs) (attributes_keep g w.leaf xs o.0.0.restricted)) (after_of-restricted w.rest r o.0.1 h))
      (enter_restricted ws o.1 r h xs)

  pub start_tag_in : HasRestrictedBodies g → (r : State) → IsRestrictedState r → (q : Name) (xs : List Attribute) (kids : Items) (ns : List Item)
      (ls : List (List Item)) → Every IsNotBlank ns → Holds g r ((an_element q xs kids ∷ ns) ∷ ls) → Begins g (start_tag g r q xs) (list_of kids) (ns ∷ ls)
  start_tag_in bodies never o q xs kids ns ls all h = absurd h
  start_tag_in bodies finished o q xs kids ns ls all h = absurd h
  start_tag_in bodies (after p r) o q xs kids ns ls all h =
      enter_in (after_start g p q) (start_keeps g q bodies p o.0) r xs (list_of kids) ns ls
      (start_in g q xs kids p o.0 ns (no_blanks (cons tt all)) h.0) h.1
  start_tag_in bodies (either r s) o q xs kids ns ls all (inl h) =
      begins_left g (start_tag g r q xs) (start_tag g s q xs) (list_of kids) (ns ∷ ls) (start_tag_in bodies r o.0 q xs kids ns ls all h)
  start_tag_in bodies (either r s) o q xs kids ns ls all (inr h) =
      begins_right g (start_tag g r q xs) (start_tag g s q xs) (list_of kids) (ns ∷ ls) (start_tag_in bodies s o.1 q xs kids ns ls all h)

  pub start_tag_out : HasRestrictedBodies g → (r : State) → IsRestrictedState r → (q : Name) (xs : List Attribute) (kids : Items) (ns : List Item)
      (ls : List (List Item)) → Distinct xs → Separate (list_of kids) → Begins g (start_tag g r q xs) (list_of kids) (ns ∷ ls)
      → Holds g r ((an_element q xs kids ∷ ns) ∷ ls)
  start_tag_out bodies never o q xs kids ns ls u s h = absurd h
  start_tag_out bodies finished o q xs kids ns ls u s h = absurd h
  start_tag_out bodies (after p r) o q xs kids ns ls u s h =
      let k = enter_out (after_start g p q) (start_keeps g q bodies p o.0) r xs (list_of kids) ns ls u s h in (start_out g q xs kids p ns k.0, k.1)
  start_tag_out bodies (either r v) o q xs kids ns ls u s h =
      elim (begins_either g (start_tag g r q xs) (start_tag g v q xs) (list_of kids) (ns ∷ ls) h) [
        | inl a ↦ inl (start_tag_out bodies r o.0 q xs kids ns ls u s a)
        | inr b ↦ inr (start_tag_out bodies v o.1 q xs kids ns ls u s b)
      ]

  pub start_tag_restricted : HasRestrictedBodies g → (r : State) → IsRestrictedState r → (q : Name) (xs : List Attribute)
      → IsRestrictedState (start_tag g r q xs)
  start_tag_restricted bodies never o q xs = tt
  start_tag_restricted bodies finished o q xs = tt
  start_tag_restricted bodies (after p r) o q xs = enter_restricted (after_start g p q) (start_keeps g q bodies p o.0) r o.1 xs
  start_tag_restricted bodies (either r s) o q xs =
      either_of-restricted (start_tag g r q xs) (start_tag g s q xs) (start_tag_restricted bodies r o.0 q xs) (start_tag_restricted bodies s o.1 q xs)

  -- ---- the content of an element that just started, with an element in it

  pub begins_in : (r : State) (kids : List Item) (ls : List (List Item)) → has_element kids ≡ true → Begins g r kids ls → Holds g r (without_blanks kids ∷ ls)
  begins_in never kids ls e h = absurd h
  begins_in finished kids ls e h = absurd h
  begins_in (after p r) kids ls e h = (subst (λ b. Contains g b p kids) e h.0, h.1)
  begins_in (either r s) kids ls e (inl h) = inl (begins_in r kids ls e h)
  begins_in (either r s) kids ls e (inr h) = inr (begins_in s kids ls e h)

  pub begins_out : (r : State) (kids : List Item) (ls : List (List Item)) → has_element kids ≡ true → Holds g r (without_blanks kids ∷ ls) → Begins g r kids ls
  begins_out never kids ls e h = absurd h
  begins_out finished kids ls e h = absurd h
  begins_out (after p r) kids ls e h = (subst (λ b. Contains g b p kids) (sym e) h.0, h.1)
  begins_out (either r s) kids ls e (inl h) = inl (begins_out r kids ls e h)
  begins_out (either r s) kids ls e (inr h) = inr (begins_out s kids ls e h)

  -- ---- a string that has an element beside it

  pub string_in : (r : State) → IsRestrictedState r → (s : List ℕ) (ns : List Item) (ls : List (List Item)) → Every IsNotBlank (a_text s ∷ ns)
      → Holds g r ((a_text s ∷ ns) ∷ ls) → Holds g (string g r s) (ns ∷ ls)
  string_in never o s ns ls all h = absurd h
  string_in finished o s ns ls all h = absurd h
  string_in (after p r) o s ns ls all h = holds_after g (after_text g p s) r ns ls (text_in g p o.0.texts s ns (no_blanks all) h.0) h.1
  string_in (either r u) o s ns ls all (inl h) = holds_left g (string g r s) (string g u s) (ns ∷ ls) (string_in r o.0 s ns ls all h)
  string_in (either r u) o s ns ls all (inr h) = holds_right g (string g r s) (string g u s) (ns ∷ ls) (string_in u o.1 s ns ls all h)

  pub string_out : (r : State) → IsRestrictedState r → (s : List ℕ) (ns : List Item) (ls : List (List Item)) → Holds g (string g r s) (ns ∷ ls)
      → Holds g r ((a_text s ∷ ns) ∷ ls)
  string_out never o s ns ls h = absurd h
  string_out finished o s ns ls h = absurd h
  string_out (after p r) o s ns ls h = let k = holds_after_out g (after_text g p s) r ns ls h in (text_out g p o.0.texts s ns k.0, k.1)
  string_out (either r u) o s ns ls h =
      elim (holds_out g (string g r s) (string g u s) (ns ∷ ls) h) [ inl a ↦ inl (string_out r o.0 s ns ls a) | inr b ↦ inr (string_out u o.1 s ns ls b) ]

  text_restricted : (p : Simple ℕ) (s : List ℕ) → IsRestricted p → IsRestricted (after_text g p s)
  text_restricted p s o =
      rests_of-keeps IsRestricted IsRestricted-hereditary (λ l. IsItemLeaf l × IsRestricted l) _ (item_ways p)
      (item_ways-keep IsRestricted IsRestricted-hereditary p o)

  pub string_restricted : (r : State) → IsRestrictedState r → (s : List ℕ) → IsRestrictedState (string g r s)
  string_restricted never o s = tt
  string_restricted finished o s = tt
  string_restricted (after p r) o s = after_of-restricted (after_text g p s) r (text_restricted p s o.0) o.1
  string_restricted (either r u) o s = either_of-restricted (string g r s) (string g u s) (string_restricted r o.0 s) (string_restricted u o.1 s)

  -- ---- the end of an element that has a child element

  pub end_in : (r : State) (ls : List (List Item)) → Holds g r ([] ∷ ls) → Holds g (end_tag r) ls
  end_in never ls h = absurd h
  end_in finished ls h = absurd h
  end_in (after p r) ls h = so_in g (is_nullable p) r ls (null_in g p h.0) h.1
  end_in (either r s) ls (inl h) = holds_left g (end_tag r) (end_tag s) ls (end_in r ls h)
  end_in (either r s) ls (inr h) = holds_right g (end_tag r) (end_tag s) ls (end_in s ls h)

  pub end_out : (r : State) (ls : List (List Item)) → Holds g (end_tag r) ls → Holds g r ([] ∷ ls)
  end_out never ls h = absurd h
  end_out finished ls h = absurd h
  end_out (after p r) ls h = let a = so_out g (is_nullable p) r ls h in (null_out g p a.0, a.1)
  end_out (either r s) ls h = elim (holds_out g (end_tag r) (end_tag s) ls h) [ inl a ↦ inl (end_out r ls a) | inr b ↦ inr (end_out s ls b) ]

  pub end_restricted : (r : State) → IsRestrictedState r → IsRestrictedState (end_tag r)
  end_restricted never o = tt
  end_restricted finished o = tt
  end_restricted (after p r) o = if_so-restricted (is_nullable p) r o.1
  end_restricted (either r s) o = either_of-restricted (end_tag r) (end_tag s) (end_restricted r o.0) (end_restricted s o.1)

  -- ---- the end of an element without a child element

  -- by the weak rules, no string counts as the empty string
  pub lone_in : (p : Simple ℕ) (kids : List Item) → Separate kids → has_element kids ≡ false → WeaklyTakes g p [] kids
      → WeaklyTakes g p [] (a_text (string_of kids) ∷ [])
  lone_in p kids w.nothing h (t.as_is d) = t.blank_text d refl
  lone_in p kids w.nothing h (t.nothing_there d) = t.as_is d
  lone_in p kids w.string h d = d
  lone_in p kids (w.element u) h d = absurd (cc)
  lone_in p kids (w.string_element u) h d = absurd (cc)

  no_string : (p : Simple ℕ) → WeaklyTakes g p [] (a_text [] ∷ []) → WeaklyTakes g p [] []
  no_string p (t.as_is d) = t.nothing_there d
  no_string p (t.blank_text d b) = t.as_is d

  pub lone_out : (p : Simple ℕ) (kids : List Item) → Separate kids → has_element kids ≡ false → WeaklyTakes g p [] (a_text (string_of kids) ∷ [])
      → WeaklyTakes g p [] kids
  lone_out p kids w.nothing h d = no_string p d
  lone_out p kids w.string h d = d
  lone_out p kids (w.element u) h d = absurd (cc)
  lone_out p kids (w.string_element u) h d = absurd (cc)

  content_in : (p : Simple ℕ) → IsRestricted p → (kids : List Item) → Separate kids → has_element kids ≡ false → WeaklyTakes g p [] kids
      → has_text g p (string_of kids) ≡ true
  content_in p o kids u h d = alone_in g p o.texts (string_of kids) (lone_in p kids u h d)

  content_out : (p : Simple ℕ) → IsRestricted p → (kids : List Item) → Separate kids → has_element kids ≡ false → has_text g p (string_of kids) ≡ true
      → WeaklyTakes g p [] kids
  content_out p o kids u h e = lone_out p kids u h (alone_out g p o.texts (string_of kids) e)

  pub end_text_in : (r : State) → IsRestrictedState r → (kids : List Item) → Separate kids → has_element kids ≡ false → (ls : List (List Item))
      → Begins g r kids ls → Holds g (end_text g r (string_of kids)) ls
  end_text_in never o kids u e ls h = absurd h
  end_text_in finished o kids u e ls h = absurd h
  end_text_in (after p r) o kids u e ls h =
      so_in g (has_text g p (string_of kids)) r ls (content_in p o.0 kids u e (subst (λ b. Contains g b p kids) e h.0)) h.1
  end_text_in (either r s) o kids u e ls (inl h) =
      holds_left g (end_text g r (string_of kids)) (end_text g s (string_of kids)) ls (end_text_in r o.0 kids u e ls h)
  end_text_in (either r s) o kids u e ls (inr h) =
      holds_right g (end_text g r (string_of kids)) (end_text g s (string_of kids)) ls (end_text_in s o.1 kids u e ls h)

  pub end_text_out : (r : State) → IsRestrictedState r → (kids : List Item) → Separate kids → has_element kids ≡ false → (ls : List (List Item))
      → Holds g (end_text g r (string_of kids)) ls → Begins g r kids ls
  end_text_out never o kids u e ls h = absurd h
  end_text_out finished o kids u e ls h = absurd h
  end_text_out (after p r) o kids u e ls h =
      let a = so_out g (has_text g p (string_of kids)) r ls h in (subst (λ b. Contains g b p kids) (sym e) (content_out p o.0 kids u e a.0), a.1)
  end_text_out (either r s) o kids u e ls h = elim (holds_out g (end_text g r (string_of kids)) (end_text g s (string_of kids)) ls h) [
    | inl a ↦ inl (end_text_out r o.0 kids u e ls a)
    | inr b ↦ inr (end_text_out s o.1 kids u e ls b)
  ]

  pub end_text_restricted : (r : State) → IsRestrictedState r → (s : List ℕ) → IsRestrictedState (end_text g r s)
  end_text_restricted never o s = tt
  end_text_restricted finished o s = tt
  end_text_restricted (after p r) o s = if_so-restricted (has_text g p s) r o.1
  end_text_restricted (either r u) o s = either_of-restricted (end_text g r s) (end_text g u s) (end_text_restricted r o.0 s) (end_text_restricted u o.1 s)

  -- ---- the end of the document

  ended_in : (r : State) → Holds g r [] → is_ended r ≡ true
  ended_in never h = absurd h
  ended_in finished h = refl
  ended_in (after p r) h = absurd h
  ended_in (either r s) (inl h) = or_left _ _ (ended_in r h)
  ended_in (either r s) (inr h) = or_right _ _ (ended_in s h)

  ended_out : (r : State) → is_ended r ≡ true → Holds g r []
  ended_out never e = absurd (cc)
  ended_out finished e = tt
  ended_out (after p r) e = absurd (cc)
  ended_out (either r s) e = elim (or_cases (is_ended r) (is_ended s) e) [ inl a ↦ inl (ended_out r a) | inr b ↦ inr (ended_out s b) ]

  pub accepts_in : (r : State) → Holds g r ([] ∷ []) → accepts r ≡ true
  accepts_in never h = absurd h
  accepts_in finished h = absurd h
  accepts_in (after p r) h = and_from _ _ (null_in g p h.0) (ended_in r h.1)
  accepts_in (either r s) (inl h) = or_left _ _ (accepts_in r h)
  accepts_in (either r s) (inr h) = or_right _ _ (accepts_in s h)

  pub accepts_out : (r : State) → accepts r ≡ true → Holds g r ([] ∷ [])
  accepts_out never e = absurd (cc)
  accepts_out finished e = absurd (cc)
  accepts_out (after p r) e = let a = and_parts (is_nullable p) (is_ended r) e in (null_out g p a.0, ended_out r a.1)
  accepts_out (either r s) e = elim (or_cases (accepts r) (accepts s) e) [ inl a ↦ inl (accepts_out r a) | inr b ↦ inr (accepts_out s b) ]
