-- The meanings that events lead to: after the events of a document nothing need remain exactly if the document is
-- valid.
use Rattle.std.proofs.Common.{◌≡◌, ◌↔◌, ℕ, List, [], ◌∷◌, ◌++◌, refl, sym, ap, ◌∙◌, subst, Bool, true, false, cond, append_assoc}
use Rattle.rng_model.specs.names.Names.{Name}
use Rattle.rng_model.specs.matching.Document.{Attribute, Item, a_text, an_element, Items, no_items, item_and, list_of}
use Rattle.rng_model.specs.plain.WellFormed.{Separate, IsWellFormed, AreWellFormed}
use Rattle.rng_model.specs.plain.WellFormed as w
use Rattle.rng_model.specs.datatypes.Texts.{is_blank, TextTests, texts_of}
use Rattle.rng_model.specs.matching.GrammarMatching.{IsValidBy}
use Rattle.rng_model.specs.simple.Grammar.{Grammar}
use Rattle.rng_model.specs.documents.ElementTrees.{IsElementTree}
use Rattle.rng_model.specs.documents.PyxTrees.{Event, EventKind, a_start, a_string, an_end, Placed, PlacedItems, element_at, item_of, items_of, events_of}
use Rattle.rng_deriv_laws.specs.plain.Blanks.{Every, nil, cons, IsNotBlank, has_element, without_blanks}
use Rattle.rng_deriv_laws.specs.plain.Events.{kinds, events_of_items}
use Rattle.rng_deriv_laws.specs.plain.Laws.{reading}
use Rattle.rng_deriv_laws.specs.plain.Meanings.{Meaning, IsEmpty, IsStart, IsAfterStart, IsAfterString, IsAfterEnd, IsAfterEndOfText, Settles, Runs, as_blank}
use Rattle.rng_deriv_laws.specs.plain.Meanings.{as_text}
use Rattle.rng_deriv_laws.specs.plain.Meanings.{stays, at_start, at_string, at_end, at_end_of_text, RunsAnswer, EmptyIsInvalid}
use Rattle.rng_deriv_laws.proofs.TakesAndMatches.{takes_in, takes_out}
use Rattle.rng_deriv_laws.proofs.PutBlanks.{without_is_clean}
use Rattle.rng_deriv_laws.proofs.Events.{kinds_of_document, kinds_append}

-- from the first to the third
pub through : {A B C : Type 0} → A ↔ B → B ↔ C → A ↔ C
through f h = (λ a. h.0 (f.0 a), λ c. f.1 (h.1 c))

same : {A : Type 0} → A ↔ A
same = (λ a. a, λ a. a)

-- what a meaning says of content: the whole content of an element if it has no element and none came before it,
-- otherwise what remains
abbrev Content : Meaning → Bool → Bool → List Item → List (List Item) → Type 0
Content m true c ns ls = m.holds (without_blanks ns ∷ ls)
Content m false true ns ls = m.holds (without_blanks ns ∷ ls)
Content m false false ns ls = m.begins ns ls

-- if content has an element, it does not matter where the content begins
with_element : (m : Meaning) (b : Bool) (ns : List Item) (ls : List (List Item)) → Content m b true ns ls ↔ m.holds (without_blanks ns ∷ ls)
with_element m true ns ls = same
with_element m false ns ls = same

-- the content of an element that just started
opened : (m n : Meaning) (q : Name) (xs : List Attribute) → IsAfterStart m n q xs → (kids : List Item) (ls : List (List Item)) (b : Bool) → has_element kids ≡ b
    → Content n false b kids ls ↔ n.begins kids ls
opened m n q xs a kids ls true e = let f = a.content kids ls e in (f.1, f.0)
opened m n q xs a kids ls false e = same

module _ {S : Type 0} (means : S → Meaning) where
  -- ---- runs

  pub run_on : {m n o : S} {b c d : Bool} {s t u : List ℕ} {es fs : List EventKind} → Runs means m b s es n c t → Runs means n c t fs o d u
      → Runs means m b s (es ++ fs) o d u
  run_on stays more = more
  run_on (at_start f h r) more = at_start f h (run_on r more)
  run_on (at_string r) more = at_string (run_on r more)
  run_on (at_end f h r) more = at_end f h (run_on r more)
  run_on (at_end_of_text h r) more = at_end_of_text h (run_on r more)

  -- if no string is held, nothing changes
  empty_settles : (m k : S) → Settles means [] m k → (P : S → Type 0) → P k → P m
  empty_settles m k (as_blank e) P h = h
  empty_settles m k (as_text e a) P h = absurd (cc)

  -- the state after the held string, for a string before items without blank strings
  settled : (s : List ℕ) (m k : S) → Settles means s m k → (ns : List Item) (ls : List (List Item)) → Every IsNotBlank ns
      → (means k).holds (ns ∷ ls) ↔ (means m).holds (cond (is_blank s) ns (a_text s ∷ ns) ∷ ls)
  settled s m k (as_blank e) ns ls all = rw e same
  settled s m k (as_text e a) ns ls all = rw e (a ns ls (cons e all))

  -- events run through the children and the end of their element
  record Closes (m : S) (b : Bool) (ns : List Item) (es : List EventKind) (o : S) (c : Bool) (u : List ℕ) : Type 0 where
    behind : S
    runs : Runs means behind true [] es o c u
    is : (ls : List (List Item)) → (means behind).holds ls ↔ Content (means m) b (has_element ns) ns ls

  -- a run without events stays where it is
  run_over : {m o : S} {b c : Bool} {s u : List ℕ} → Runs means m b s [] o c u → (P : S → Type 0) → P m → P o
  run_over stays P h = h

  module _ (o : S) (c : Bool) (u : List ℕ) where
    -- an element, its content, and what follows it
    element_closes : (m k n : S) (s : List ℕ) (b : Bool) (q : Name) (xs : List Attribute) (kids ns : Items) (es : List EventKind) →
        ((es : List EventKind) → Runs means n false [] (events_of_items kids ++ an_end ∷ es) o c u → Closes n false (list_of kids) es o c u) →
        ((n : S) → Runs means n true [] (events_of_items ns ++ an_end ∷ es) o c u → Closes n true (list_of ns) es o c u) →
        Settles means s m k → IsAfterStart (means k) (means n) q xs → IsWellFormed (an_element q xs kids) →
        Runs means n false [] ((events_of_items kids ++ an_end ∷ events_of_items ns) ++ an_end ∷ es) o c u →
        (all : List Item) → has_element all ≡ true →
        without_blanks all ≡ cond (is_blank s) (an_element q xs kids ∷ without_blanks (list_of ns))
        (a_text s ∷ an_element q xs kids ∷ without_blanks (list_of ns))
        → Closes m b all es o c u
    element_closes m k n s b q xs kids ns es inside beside settles start formed r all e is =
        let inner = inside (events_of_items ns ++ an_end ∷ es)
        (subst (λ l. Runs means n false [] l o c u) (append_assoc (events_of_items kids) (an_end ∷ events_of_items ns) (an_end ∷ es)) r) in
        let outer = beside inner.behind inner.runs in
        record {
          behind = outer.behind;
          runs = outer.runs;
          is = λ ls.
              through (outer.is ls)
              (through (inner.is (without_blanks (list_of ns) ∷ ls))
              (through (opened (means k) (means n) q xs start (list_of kids) (without_blanks (list_of ns) ∷ ls) (has_element (list_of kids)) refl)
              (through (start.begins kids (without_blanks (list_of ns)) ls formed.0 formed.1 (without_is_clean (list_of ns)))
              (through (settled s m k settles (an_element q xs kids ∷ without_blanks (list_of ns)) ls (cons tt (without_is_clean (list_of ns))))
              (subst (λ l. (means m).holds (l ∷ ls) ↔ Content (means m) b (has_element all) all ls) is
              (subst (λ x. (means m).holds (without_blanks all ∷ ls) ↔ Content (means m) b x all ls) (sym e)
              (let f = with_element (means m) b all ls in (f.1, f.0))))))));
        }

    closes : (ns : Items) → AreWellFormed ns → Separate (list_of ns) → (m : S) (b : Bool) (es : List EventKind) →
        Runs means m b [] (events_of_items ns ++ an_end ∷ es) o c u → Closes m b (list_of ns) es o c u
    closes no_items f apart m true es (at_end {n = n} settles a r) =
        record { behind = n; runs = r; is = λ ls. empty_settles m _ settles (λ k. (means n).holds ls ↔ (means k).holds ([] ∷ ls)) (a ls) }
    closes no_items f apart m false es (at_end_of_text {n = n} a r) = record { behind = n; runs = r; is = λ ls. a [] ls w.nothing refl refl }
    closes (item_and (a_text s) no_items) f apart m true es (at_string (at_end {k = k} {n = n} settles a r)) =
        record { behind = n; runs = r; is = λ ls. through (a ls) (settled s m k settles [] ls nil) }
    closes (item_and (a_text s) no_items) f apart m false es (at_string (at_end_of_text {n = n} a r)) =
        record { behind = n; runs = r; is = λ ls. a (a_text s ∷ []) ls w.string refl refl }
    closes (item_and (a_text s) (item_and (a_text t) ns)) f apart m b es r = elim apart [ ]
    closes (item_and (a_text s) (item_and (an_element q xs kids) ns)) f (w.string_element apart) m b es (at_string (at_start {k = k} {n = n} settles a r)) =
        element_closes m k n s b q xs kids ns es (closes kids f.1.0.2 f.1.0.1 n false) (λ n r. closes ns f.1.1 apart n true es r) settles a f.1.0 r
        (a_text s ∷ an_element q xs kids ∷ list_of ns) refl refl
    closes (item_and (an_element q xs kids) ns) f (w.element apart) m b es (at_start {k = k} {n = n} settles a r) =
        element_closes m k n [] b q xs kids ns es (closes kids f.0.2 f.0.1 n false) (λ n r. closes ns f.1 apart n true es r) settles a f.0 r
        (an_element q xs kids ∷ list_of ns) refl refl

    -- the events of a document: nothing need remain exactly if the meaning before them allows only the root
    root_closes : (m : S) (q : Name) (xs : List Attribute) (kids : Items) → IsWellFormed (an_element q xs kids) →
        Runs means m false [] (events_of_items (item_and (an_element q xs kids) no_items)) o c u
        → (means o).holds ([] ∷ []) ↔ (means m).holds ((an_element q xs kids ∷ []) ∷ [])
    root_closes m q xs kids f (at_start {k = k} {n = n} settles a r) =
        let inner = closes kids f.2 f.1 n false [] r in
        through (run_over inner.runs (λ o. (means o).holds ([] ∷ []) ↔ Content (means n) false (has_element (list_of kids)) (list_of kids) ([] ∷ []))
        (inner.is ([] ∷ [])))
        (through (opened (means k) (means n) q xs a (list_of kids) ([] ∷ []) (has_element (list_of kids)) refl)
        (through (a.begins kids [] [] f.0 f.1 nil)
        (empty_settles m k settles (λ x. (means k).holds ((an_element q xs kids ∷ []) ∷ []) ↔ (means x).holds ((an_element q xs kids ∷ []) ∷ [])) same)))

  -- ---- documents

  module _ (g : Grammar) (tests : TextTests) where
    element_valid : (m o : S) (c : Bool) (u : List ℕ) (line : ℕ) (q : Name) (xs : List Attribute) (kids : PlacedItems) (last : ℕ) →
        IsWellFormed (an_element q xs (items_of kids)) → IsStart (reading g tests) (means m) →
        Runs means m false [] (kinds (events_of (element_at line q xs kids last))) o c u
        → (means o).holds ([] ∷ []) ↔ IsValidBy g (texts_of tests) (an_element q xs (items_of kids))
    element_valid m o c u line q xs kids last f start r =
        through (root_closes o c u m q xs (items_of kids) f
        (subst (λ es. Runs means m false [] es o c u) (kinds_of_document (element_at line q xs kids last)) r))
        (through (start (an_element q xs (items_of kids) ∷ [])) (
          takes_out (reading g tests) g.start [] (an_element q xs (items_of kids) ∷ []),
          takes_in (reading g tests) g.start []
              (an_element q xs (items_of kids) ∷ []),
        ))

    -- from the start, the events of a document lead to a meaning that allows the end exactly if the document is valid
    run_of_document : (m o : S) (c : Bool) (u : List ℕ) (d : Placed) → IsElementTree d → IsStart (reading g tests) (means m) →
        Runs means m false [] (kinds (events_of d)) o c u → (means o).holds ([] ∷ []) ↔ IsValidBy g (texts_of tests) (item_of d)
    run_of_document m o c u d t start r =
        subst (λ x. Runs means m false [] (kinds (events_of x)) o c u → (means o).holds ([] ∷ []) ↔ IsValidBy g (texts_of tests) (item_of x)) (sym t.is)
        (element_valid m o c u t.line t.name t.attributes t.kids t.last t.formed start) r

    -- ---- once the meaning is empty

    empty_start : (m : S) → IsEmpty (means m) → (q : Name) (xs : List Attribute) → IsAfterStart (means m) (means m) q xs
    empty_start m none q xs = record {
      begins = λ kids ns ls u s all. (λ h. absurd (none.begins (list_of kids) (ns ∷ ls) h), λ h. absurd (none.holds ((an_element q xs kids ∷ ns) ∷ ls) h));
      content = λ kids ls e. (λ h. absurd (none.begins kids ls h), λ h. absurd (none.holds (without_blanks kids ∷ ls) h));
    }

    empty_string : (m : S) → IsEmpty (means m) → (s : List ℕ) → IsAfterString (means m) (means m) s
    empty_string m none s ns ls all = (λ h. absurd (none.holds (ns ∷ ls) h), λ h. absurd (none.holds ((a_text s ∷ ns) ∷ ls) h))

    empty_settled : (m : S) → IsEmpty (means m) → (s : List ℕ) (b : Bool) → is_blank s ≡ b → Settles means s m m
    empty_settled m none s true e = as_blank e
    empty_settled m none s false e = as_text e (empty_string m none s)

    empty_end : (m : S) → IsEmpty (means m) → IsAfterEnd (means m) (means m)
    empty_end m none ls = (λ h. absurd (none.holds ls h), λ h. absurd (none.holds ([] ∷ ls) h))

    empty_end_of_text : (m : S) → IsEmpty (means m) → (s : List ℕ) → IsAfterEndOfText (means m) (means m) s
    empty_end_of_text m none s kids ls apart e f = (λ h. absurd (none.holds ls h), λ h. absurd (none.begins kids ls h))

    -- how a run continues and ends
    record Onward (m : S) (b : Bool) (s : List ℕ) (es : List EventKind) : Type 0 where
      begun : Bool
      held : List ℕ
      runs : Runs means m b s es m begun held

    empty_runs : (m : S) → IsEmpty (means m) → (b : Bool) (s : List ℕ) (es : List EventKind) → Onward m b s es
    empty_runs m none b s [] = record { begun = b; held = s; runs = stays }
    empty_runs m none b s (a_start q xs ∷ es) =
        let r = empty_runs m none false [] es in
        record { begun = r.begun; held = r.held; runs = at_start (empty_settled m none s (is_blank s) refl) (empty_start m none q xs) r.runs }
    empty_runs m none b s (a_string t ∷ es) =
        let r = empty_runs m none b t es in record { begun = r.begun; held = r.held; runs = at_string r.runs }
    empty_runs m none true s (an_end ∷ es) =
        let r = empty_runs m none true [] es in
        record { begun = r.begun; held = r.held; runs = at_end (empty_settled m none s (is_blank s) refl) (empty_end m none) r.runs }
    empty_runs m none false s (an_end ∷ es) =
        let r = empty_runs m none true [] es in record { begun = r.begun; held = r.held; runs = at_end_of_text (empty_end_of_text m none s) r.runs }

    -- no document that begins with events that lead to an empty meaning is valid
    empty_is_invalid : (m n : S) (c : Bool) (t : List ℕ) (es more : List Event) → IsStart (reading g tests) (means m) → Runs means m false [] (kinds es) n c t →
        IsEmpty (means n) → (d : Placed) → IsElementTree d → events_of d ≡ es ++ more → IsValidBy g (texts_of tests) (item_of d) → ⊥
    empty_is_invalid m n c t es more start r none d is parts v =
        let rest = empty_runs n none c t (kinds more) in
        let all : kinds (events_of d) ≡ kinds es ++ kinds more = ap kinds parts ∙ kinds_append es more in
        none.holds ([] ∷ [])
        ((run_of_document m n rest.begun rest.held d is start
        (subst (λ l. Runs means m false [] l n rest.begun rest.held) (sym all) (run_on r rest.runs))).1 v)

  -- ---- the laws

  pub runs_answer : RunsAnswer means
  runs_answer g tests m n b held d is start r = run_of_document g tests m n b held d is start r

  pub empty_stays_invalid : EmptyIsInvalid means
  empty_stays_invalid g tests m n b held es more start r none d is parts v = empty_is_invalid g tests m n b held es more start r none d is parts v
