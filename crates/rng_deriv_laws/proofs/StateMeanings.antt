-- The meanings of states: each event changes them as it must. Also states in other forms: alternatives as a set,
-- alternatives with the same pattern inside joined into one, a start tag entered through other ways that open the same.
use Rattle.std.proofs.Common.{◌≡◌, ◌↔◌, inl, inr, ℕ, List, [], ◌∷◌, sym, subst, Bool, true, false, cond, refl}
use Rattle.rng_model.specs.names.Lists.{Among, here, there}
use Rattle.rng_model.specs.names.Names.{Name}
use Rattle.rng_model.specs.simple.Tree.{Simple}
use Rattle.rng_model.specs.matching.Document.{Attribute, Item, an_element, list_of}
use Rattle.rng_model.specs.matching.GrammarMatching.{Reading}
use Rattle.rng_deriv_laws.specs.plain.Taking.{Same}
use Rattle.rng_deriv_laws.specs.plain.Restricted.{IsRestricted, IsRestrictedBody}
use Rattle.rng_deriv_laws.specs.plain.Blanks.{cons, no_blanks, without_blanks, has_element}
use Rattle.rng_deriv_laws.specs.plain.Derivatives.{Way, after_start}
use Rattle.rng_deriv_laws.specs.plain.Ways.{Opens, EachWay}
use Rattle.rng_deriv_laws.specs.plain.States.{Contains, State, never, finished, after, either, after_of, either_of, end_tag, enter, start_tag, string, end_text}
use Rattle.rng_deriv_laws.specs.plain.States.{accepts, Holds}
use Rattle.rng_deriv_laws.specs.plain.States.{Begins, HasRestrictedBodies, IsRestrictedState}
use Rattle.rng_model.specs.datatypes.Texts.{is_blank}
use Rattle.rng_model.specs.documents.PyxTrees.{EventKind, a_start, a_string, an_end}
use Rattle.rng_deriv_laws.specs.plain.Events.{Matcher, run}
use Rattle.rng_deriv_laws.specs.plain.Meanings.{Meaning, IsEmpty, IsStart, IsAfterStart, IsAfterString, IsAfterEnd, IsAfterEndOfText, Settles, as_blank}
use Rattle.rng_deriv_laws.specs.plain.Meanings.{as_text, Runs}
use Rattle.rng_deriv_laws.specs.plain.Meanings.{stays, at_start, at_string, at_end, at_end_of_text}
use Rattle.rng_deriv_laws.proofs.Meanings.{through}
use Rattle.rng_deriv_laws.proofs.Starts.{start_in, start_out}
use Rattle.rng_deriv_laws.proofs.SamePatterns.{same_back}
use Rattle.rng_deriv_laws.proofs.States.{begins_after, begins_after_out}
use Rattle.rng_deriv_laws.proofs.States.{holds_after_none, holds_after, holds_after_out, holds_left, holds_right, holds_out, begins_left, begins_right}
use Rattle.rng_deriv_laws.proofs.States.{begins_either}
use Rattle.rng_deriv_laws.proofs.Levels.{enter_in, enter_out, start_tag_in, start_tag_out, begins_in, begins_out, string_in, string_out, end_in, end_out}
use Rattle.rng_deriv_laws.proofs.Levels.{end_text_in, weakly_as}
use Rattle.rng_deriv_laws.proofs.Levels.{end_text_out, accepts_in, accepts_out, string_restricted, start_tag_restricted, end_restricted, end_text_restricted}

-- two meanings that allow the same
pub record MeanSame (m n : Meaning) : Type 0 where
  pub holds : (ls : List (List Item)) → m.holds ls ↔ n.holds ls
  pub begins : (kids : List Item) (ls : List (List Item)) → m.begins kids ls ↔ n.begins kids ls

module _ (g : Reading) where
  abbrev pub meaning_of : State → Meaning
  meaning_of r = record { holds = Holds g r; begins = Begins g r }

  -- ---- each event

  pub start_is : IsStart g (meaning_of (after_of g.grammar.start finished))
  start_is ns = (λ h. (holds_after_out g g.grammar.start finished ns [] h).0, λ d. holds_after g g.grammar.start finished ns [] d tt)

  pub start_tag_is_after : HasRestrictedBodies g → (r : State) → IsRestrictedState r → (q : Name) (xs : List Attribute)
      → IsAfterStart (meaning_of r) (meaning_of (start_tag g r q xs)) q xs
  start_tag_is_after bodies r o q xs = record {
    begins = λ kids ns ls u s all. (start_tag_out g bodies r o q xs kids ns ls u s, start_tag_in g bodies r o q xs kids ns ls all);
    content = λ kids ls e. (begins_in g (start_tag g r q xs) kids ls e, begins_out g (start_tag g r q xs) kids ls e);
  }

  pub string_is_after : (r : State) → IsRestrictedState r → (s : List ℕ) → IsAfterString (meaning_of r) (meaning_of (string g r s)) s
  string_is_after r o s ns ls all = (string_out g r o s ns ls, string_in g r o s ns ls all)

  pub end_tag_is_after : (r : State) → IsAfterEnd (meaning_of r) (meaning_of (end_tag r))
  end_tag_is_after r ls = (end_out g r ls, end_in g r ls)

  pub end_text_is_after : (r : State) → IsRestrictedState r → (s : List ℕ) → IsAfterEndOfText (meaning_of r) (meaning_of (end_text g r s)) s
  end_text_is_after r o s kids ls apart e f = (
    λ h. end_text_out g r o kids apart e ls (subst (λ s. Holds g (end_text g r s) ls) (sym f) h),
    λ h. subst (λ s. Holds g (end_text g r s) ls) f (end_text_in g r o kids apart e ls h),
  )

  -- the matcher of `Events`, whose events change what it matches as they must
  settles : (r : State) → IsRestrictedState r → (s : List ℕ) (b : Bool) → is_blank s ≡ b → Settles meaning_of s r (cond b r (string g r s))
  settles r o s true e = as_blank e
  settles r o s false e = as_text e (string_is_after r o s)

  settled_restricted : (r : State) → IsRestrictedState r → (s : List ℕ) (b : Bool) → IsRestrictedState (cond b r (string g r s))
  settled_restricted r o s true = o
  settled_restricted r o s false = string_restricted g r o s

  abbrev matcher : State → Bool → List ℕ → Matcher
  matcher r b s = record { state = r; has_begun = b; held = s }

  pub states_run : HasRestrictedBodies g → (es : List EventKind) (r : State) → IsRestrictedState r → (b : Bool) (s : List ℕ) →
      Runs meaning_of r b s es (run g (matcher r b s) es).state (run g (matcher r b s) es).has_begun (run g (matcher r b s) es).held
  states_run bodies [] r o b s = stays
  states_run bodies (a_start q xs ∷ es) r o b s =
      let k = settled_restricted r o s (is_blank s) in
      at_start (settles r o s (is_blank s) refl) (start_tag_is_after bodies (cond (is_blank s) r (string g r s)) k q xs)
      (states_run bodies es (start_tag g (cond (is_blank s) r (string g r s)) q xs)
      (start_tag_restricted g bodies (cond (is_blank s) r (string g r s)) k q xs) false [])
  states_run bodies (a_string t ∷ es) r o b s = at_string (states_run bodies es r o b t)
  states_run bodies (an_end ∷ es) r o true s =
      let k = settled_restricted r o s (is_blank s) in
      at_end (settles r o s (is_blank s) refl) (end_tag_is_after (cond (is_blank s) r (string g r s)))
      (states_run bodies es (end_tag (cond (is_blank s) r (string g r s))) (end_restricted g (cond (is_blank s) r (string g r s)) k) true [])
  states_run bodies (an_end ∷ es) r o false s =
      at_end_of_text (end_text_is_after r o s) (states_run bodies es (end_text g r s) (end_text_restricted g r o s) true [])

  -- the state accepts exactly if nothing need remain
  pub accepts_is : (r : State) → (accepts r ≡ true) ↔ Holds g r ([] ∷ [])
  accepts_is r = (accepts_out g r, accepts_in g r)

  pub never_is_empty : IsEmpty (meaning_of never)
  never_is_empty = record { holds = λ ls h. h; begins = λ kids ls h. h }

  -- ---- a start tag entered through other ways

  pub entered_is_after : (p : Simple ℕ) (r : State) → IsRestricted p → (q : Name) (xs : List Attribute) (ws : List Way)
      → EachWay IsRestrictedBody IsRestricted ws →
      ((kids ns : List Item) → Opens g xs kids ns ws → Opens g xs kids ns (after_start g p q)) →
      ((kids ns : List Item) → Opens g xs kids ns (after_start g p q) → Opens g xs kids ns ws) →
      IsAfterStart (meaning_of (after p r)) (meaning_of (enter g xs ws r)) q xs
  entered_is_after p r o q xs ws each f h = record {
    begins = λ kids ns ls u s all. (
      λ k. let e = enter_out g ws each r xs (list_of kids) ns ls u s k in (start_out g q xs kids p ns (f (list_of kids) ns e.0), e.1),
      λ k. enter_in g ws each r xs (list_of kids) ns ls (h (list_of kids) ns (start_in g q xs kids p o ns (no_blanks (cons tt all)) k.0)) k.1,
    );
    content = λ kids ls e. (begins_in g (enter g xs ws r) kids ls e, begins_out g (enter g xs ws r) kids ls e);
  }

  -- ---- alternatives as a set

  -- the choice of states; of none, `never`
  abbrev pub either_all : List State → State
  either_all [] = never
  either_all (r ∷ rs) = either r (either_all rs)

  pub either_all-holds : (rs : List State) (r : State) (ls : List (List Item)) → Among r rs → Holds g r ls → Holds g (either_all rs) ls
  either_all-holds [] r ls a h = elim a [ ]
  either_all-holds (r ∷ rs) s ls here h = inl h
  either_all-holds (r ∷ rs) s ls (there a) h = inr (either_all-holds rs s ls a h)

  pub either_all-held : (rs : List State) (ls : List (List Item)) → Holds g (either_all rs) ls → (r : State) × Among r rs × Holds g r ls
  either_all-held [] ls h = absurd h
  either_all-held (r ∷ rs) ls (inl h) = (r, here, h)
  either_all-held (r ∷ rs) ls (inr h) = let k = either_all-held rs ls h in (k.0, there k.1, k.2)

  pub either_all-begins : (rs : List State) (r : State) (kids : List Item) (ls : List (List Item)) → Among r rs → Begins g r kids ls
      → Begins g (either_all rs) kids ls
  either_all-begins [] r kids ls a h = elim a [ ]
  either_all-begins (r ∷ rs) s kids ls here h = inl h
  either_all-begins (r ∷ rs) s kids ls (there a) h = inr (either_all-begins rs s kids ls a h)

  pub either_all-begun : (rs : List State) (kids : List Item) (ls : List (List Item)) → Begins g (either_all rs) kids ls
      → (r : State) × Among r rs × Begins g r kids ls
  either_all-begun [] kids ls h = absurd h
  either_all-begun (r ∷ rs) kids ls (inl h) = (r, here, h)
  either_all-begun (r ∷ rs) kids ls (inr h) = let k = either_all-begun rs kids ls h in (k.0, there k.1, k.2)

  -- ---- alternatives with the same pattern inside

  one_inside_to : (p : Simple ℕ) (r s : State) (ls : List (List Item)) → Holds g (either (after p r) (after p s)) ls → Holds g (after p (either r s)) ls
  one_inside_to p r s [] (inl h) = absurd h
  one_inside_to p r s [] (inr h) = absurd h
  one_inside_to p r s (ns ∷ ls) (inl h) = (h.0, inl h.1)
  one_inside_to p r s (ns ∷ ls) (inr h) = (h.0, inr h.1)

  one_inside_back : (p : Simple ℕ) (r s : State) (ls : List (List Item)) → Holds g (after p (either r s)) ls → Holds g (either (after p r) (after p s)) ls
  one_inside_back p r s [] h = absurd h
  one_inside_back p r s (ns ∷ ls) (d, inl h) = inl (d, h)
  one_inside_back p r s (ns ∷ ls) (d, inr h) = inr (d, h)

  one_begun_to : (p : Simple ℕ) (r s : State) (kids : List Item) (ls : List (List Item)) → Begins g (either (after p r) (after p s)) kids ls
      → Begins g (after p (either r s)) kids ls
  one_begun_to p r s kids ls (inl h) = (h.0, inl h.1)
  one_begun_to p r s kids ls (inr h) = (h.0, inr h.1)

  one_begun_back : (p : Simple ℕ) (r s : State) (kids : List Item) (ls : List (List Item)) → Begins g (after p (either r s)) kids ls
      → Begins g (either (after p r) (after p s)) kids ls
  one_begun_back p r s kids ls (d, inl h) = inl (d, h)
  one_begun_back p r s kids ls (d, inr h) = inr (d, h)

  pub one_inside : (p : Simple ℕ) (r s : State) → MeanSame (meaning_of (either (after p r) (after p s))) (meaning_of (after p (either r s)))
  one_inside p r s = record {
    holds = λ ls. (one_inside_to p r s ls, one_inside_back p r s ls);
    begins = λ kids ls. (one_begun_to p r s kids ls, one_begun_back p r s kids ls);
  }

  -- ---- parts that take or mean the same

  same_contained : (b : Bool) (p q : Simple ℕ) → Same g p q → (kids : List Item) → Contains g b p kids → Contains g b q kids
  same_contained true p q s kids d = s.to [] (without_blanks kids) d
  same_contained false p q s kids d = weakly_as g p q [] [] kids (s.to []) d

  same_inside_to : (p q : Simple ℕ) (r s : State) → Same g p q → ((ls : List (List Item)) → Holds g r ls → Holds g s ls) → (ls : List (List Item))
      → Holds g (after p r) ls → Holds g (after q s) ls
  same_inside_to p q r s a f [] h = absurd h
  same_inside_to p q r s a f (ns ∷ ls) h = (a.to [] ns h.0, f ls h.1)

  pub after_same : (p q : Simple ℕ) (r s : State) → Same g p q → MeanSame (meaning_of r) (meaning_of s)
      → MeanSame (meaning_of (after p r)) (meaning_of (after q s))
  after_same p q r s a b = record {
    holds = λ ls. (same_inside_to p q r s a (λ ls. (b.holds ls).0) ls, same_inside_to q p s r (same_back g a) (λ ls. (b.holds ls).1) ls);
    begins = λ kids ls. (
      λ h. (same_contained (has_element kids) p q a kids h.0, (b.holds ls).0 h.1),
      λ h. (same_contained (has_element kids) q p (same_back g a) kids h.0, (b.holds ls).1 h.1),
    );
  }

  pub either_same : (r s u v : State) → MeanSame (meaning_of r) (meaning_of u) → MeanSame (meaning_of s) (meaning_of v)
      → MeanSame (meaning_of (either r s)) (meaning_of (either u v))
  either_same r s u v a b = record {
    holds = λ ls. (
      λ h. elim h [ inl k ↦ inl ((a.holds ls).0 k) | inr k ↦ inr ((b.holds ls).0 k) ],
      λ h. elim h [ inl k ↦ inl ((a.holds ls).1 k) | inr k ↦ inr ((b.holds ls).1 k) ],
    );
    begins = λ kids ls. (
      λ h. elim h [ inl k ↦ inl ((a.begins kids ls).0 k) | inr k ↦ inr ((b.begins kids ls).0 k) ],
      λ h. elim h [ inl k ↦ inl ((a.begins kids ls).1 k) | inr k ↦ inr ((b.begins kids ls).1 k) ],
    );
  }

  -- a pair of the pattern inside and what follows means the same when it is built without `never`
  pub after_of-means : (p : Simple ℕ) (r : State) → MeanSame (meaning_of (after_of p r)) (meaning_of (after p r))
  after_of-means p r = record {
    holds = λ ls. (after_of_out p r ls, after_of_in p r ls);
    begins = λ kids ls. (begins_after_out g p r kids ls, λ h. begins_after g p r kids ls h.0 h.1);
  } where
    after_of_out : (p : Simple ℕ) (r : State) (ls : List (List Item)) → Holds g (after_of p r) ls → Holds g (after p r) ls
    after_of_out p r [] h = holds_after_none g p r h
    after_of_out p r (ns ∷ ls) h = holds_after_out g p r ns ls h

    after_of_in : (p : Simple ℕ) (r : State) (ls : List (List Item)) → Holds g (after p r) ls → Holds g (after_of p r) ls
    after_of_in p r [] h = absurd h
    after_of_in p r (ns ∷ ls) h = holds_after g p r ns ls h.0 h.1

  -- a choice of states means the same when it is built without `never`
  pub either_of-means : (r s : State) → MeanSame (meaning_of (either_of r s)) (meaning_of (either r s))
  either_of-means r s = record {
    holds = λ ls. (holds_out g r s ls, λ h. elim h [ inl a ↦ holds_left g r s ls a | inr b ↦ holds_right g r s ls b ]);
    begins = λ kids ls. (begins_either g r s kids ls, λ h. elim h [ inl a ↦ begins_left g r s kids ls a | inr b ↦ begins_right g r s kids ls b ]);
  }

-- ---- events respect meanings that allow the same

back : {A B : Type 0} → A ↔ B → B ↔ A
back f = (f.1, f.0)

module _ (m n k o : Meaning) (before : MeanSame m k) (behind : MeanSame n o) where
  pub same_after_start : (q : Name) (xs : List Attribute) → IsAfterStart m n q xs → IsAfterStart k o q xs
  same_after_start q xs a = record {
    begins = λ kids ns ls u s all.
        through (back (behind.begins (list_of kids) (ns ∷ ls))) (through (a.begins kids ns ls u s all) (before.holds ((an_element q xs kids ∷ ns) ∷ ls)));
    content = λ kids ls e. through (back (behind.begins kids ls)) (through (a.content kids ls e) (behind.holds _));
  }

  pub same_after_string : (s : List ℕ) → IsAfterString m n s → IsAfterString k o s
  same_after_string s a ns ls all = through (back (behind.holds (ns ∷ ls))) (through (a ns ls all) (before.holds _))

  pub same_after_end : IsAfterEnd m n → IsAfterEnd k o
  same_after_end a ls = through (back (behind.holds ls)) (through (a ls) (before.holds ([] ∷ ls)))

  pub same_after_end_of_text : (s : List ℕ) → IsAfterEndOfText m n s → IsAfterEndOfText k o s
  same_after_end_of_text s a kids ls apart e f = through (back (behind.holds ls)) (through (a kids ls apart e f) (before.begins kids ls))
