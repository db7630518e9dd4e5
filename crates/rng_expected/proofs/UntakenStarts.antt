-- A start that no alternative takes leaves nothing.
use Rattle.std.proofs.Common.{◌≡◌, ◌∙◌, ◌⊎◌, inl, inr, ℕ, List, [], ◌∷◌, ◌++◌, append_assoc, Bool, false, true, refl, sym, ap, subst, ⊎_elim}
use Rattle.std.proofs.lemmas.List.Elements.{All-nil}
use Rattle.rng_model.specs.names.Names.{Name}
use Rattle.rng_model.specs.simple.Tree.{Simple, s_leaf}
use Rattle.rng_model.specs.matching.Document.{Attribute, Item, an_element, Items, list_of, AllTexts, Interleaves, Padded}
use Rattle.rng_model.specs.matching.Document as document
use Rattle.rng_model.specs.matching.GrammarMatching.{Reading}
use Rattle.rng_model.specs.datatypes.Texts.{is_blank}
use Rattle.rng_model.specs.documents.PyxTrees.{Event, a_start}
use Rattle.rng_model.proofs.Places.{contains_at}
use Rattle.rng_deriv_laws.specs.plain.Blanks.{without_blanks}
use Rattle.rng_deriv_laws.specs.plain.Derivatives.{is_not_allowed}
use Rattle.rng_deriv_laws.specs.plain.Events.{kinds}
use Rattle.rng_deriv_laws.specs.plain.LevelEvents.{LevelMatcher, SettlesLevels, StandsFor, as_blank, as_text}
use Rattle.rng_deriv_laws.specs.plain.LevelStates.{LevelState, level_meaning}
use Rattle.rng_deriv_laws.specs.plain.Meanings.{IsAfterStart, IsEmpty, Runs, stays}
use Rattle.rng_deriv_laws.specs.plain.Meanings as meanings
use Rattle.rng_model.specs.matching.Outcomes.{NoneIsValidAfter}
use Rattle.rng_deriv_laws.specs.plain.Reading.{body_of, has_name}
use Rattle.rng_deriv_laws.specs.plain.Taking.{Takes, WeaklyMatches, WeaklyTakes}
use Rattle.rng_deriv_laws.specs.plain.Taking as t
use Rattle.rng_deriv_laws.proofs.Events.{kinds_append}
use Rattle.rng_deriv_laws.proofs.Levels.States.{none_allowed, string_is_after}
use Rattle.rng_deriv_laws.proofs.Meanings.{empty_stays_invalid, run_on}
use Rattle.rng_deriv_laws.proofs.Nullable.{null_in}
use Rattle.rng_deriv_laws.proofs.OpenElements.{ends_open}
use Rattle.rng_deriv_laws.proofs.TakesAndMatches.{weakly_in}
use Rattle.rng_expected.specs.Expectations.{BeginsWith}
use Rattle.rng_expected.specs.Tags.{MayBegin}

-- ---- lists of none

nil_interleaved : {A : Type 0} {xs ys zs : List A} → Interleaves xs ys zs → zs ≡ [] → (xs ≡ []) × (ys ≡ [])
nil_interleaved document.done e = (refl, refl)
nil_interleaved (document.left i) e = absurd cc
nil_interleaved (document.right i) e = absurd cc

-- ---- an element in front

no_texts_in_front : (q : Name) (xs : List Attribute) (kids : Items) (ns : List Item) → AllTexts (an_element q xs kids ∷ ns) → ⊥
no_texts_in_front q xs kids ns all = elim all [ ]

module _ {A : Type 0} (x : A) (rest : List A) where
  first_in_order : (ms ns : List A) → ms ++ ns ≡ x ∷ rest → ((more : List A) × (ms ≡ x ∷ more)) ⊎ ((ms ≡ []) × (ns ≡ x ∷ rest))
  first_in_order [] ns e = inr (refl, e)
  first_in_order (m ∷ ms) ns e = let same : m ≡ x = cc in inl (ms, ap (λ z. z ∷ ms) same)

  first_interleaved : {xs ys zs : List A} → Interleaves xs ys zs → zs ≡ x ∷ rest → ((more : List A) × (xs ≡ x ∷ more)) ⊎ ((more : List A) × (ys ≡ x ∷ more))
  first_interleaved document.done e = absurd cc
  first_interleaved (document.left {x = z} {xs = xs} i) e = let same : z ≡ x = cc in inl (xs, ap (λ z. z ∷ xs) same)
  first_interleaved (document.right {y = z} {ys = ys} i) e = let same : z ≡ x = cc in inr (ys, ap (λ z. z ∷ ys) same)

module _ (q : Name) (xs : List Attribute) (kids : Items) where
  padded_is : {n : Item} {os : List Item} (ns : List Item) → Padded is_blank n os → os ≡ an_element q xs kids ∷ ns → n ≡ an_element q xs kids
  padded_is ns document.alone e = cc
  padded_is ns (document.before b) e = absurd cc
  padded_is ns (document.after b) e = cc
  padded_is ns (document.both_sides b c) e = absurd cc

  module _ (g : Reading) where
    -- an element with this name begins the pattern, and its body weakly matches the attributes and the children
    abbrev BeginsTaken : Simple ℕ → Type 0
    BeginsTaken p = (k : ℕ) × BeginsWith p (s_leaf k) × (has_name g k q ≡ true) × WeaklyMatches g (body_of g k) xs (list_of kids)

    this_element : (k : ℕ) (r : Name) (ys : List Attribute) (inner : Items) → an_element r ys inner ≡ an_element q xs kids → has_name g k r ≡ true
        → WeaklyMatches g (body_of g k) ys (list_of inner) → BeginsTaken (s_leaf k)
    this_element k r ys inner is h w =
        let name : r ≡ q = cc in
        let attributes : ys ≡ xs = cc in
        let content : inner ≡ kids = cc in (
          k,
          refl,
          subst (λ q. has_name g k q ≡ true) name h,
          subst (λ xs. WeaklyMatches g (body_of g k) xs (list_of kids)) attributes
              (subst (λ kids. WeaklyMatches g (body_of g k) ys (list_of kids)) content w),
        )

    begins_taken : {p : Simple ℕ} {ys : List Attribute} {os : List Item} (ns : List Item) → Takes g p ys os → ys ≡ [] → os ≡ an_element q xs kids ∷ ns
        → BeginsTaken p
    begins_taken ns t.empty_is a e = absurd cc
    begins_taken ns (t.text_is all) a e = absurd (no_texts_in_front q xs kids ns (subst AllTexts e all))
    begins_taken ns (t.first d) a e = let h = begins_taken ns d a e in (h.0, inl h.1, h.2, h.3)
    begins_taken ns (t.second d) a e = let h = begins_taken ns d a e in (h.0, inr h.1, h.2, h.3)
    begins_taken ns (t.grouped {p = p} {ms = ms} {ns = os} d f i c) a e = let n = nil_interleaved i a in ⊎_elim
        (λ o. let h = begins_taken o.0 d n.0 o.1 in (h.0, inl h.1, h.2, h.3))
        (λ o. let h = begins_taken ns f n.1 o.1 in
        (h.0, inr (null_in g p (subst (λ ns. Takes g p [] ns) o.0 (subst (λ xs. Takes g p xs ms) n.0 d)), h.1), h.2, h.3))
        (first_in_order (an_element q xs kids) ns ms os (c ∙ e))
    begins_taken ns (t.interleaved d f i j) a e = let n = nil_interleaved i a in ⊎_elim
        (λ o. let h = begins_taken o.0 d n.0 o.1 in (h.0, inl h.1, h.2, h.3))
        (λ o. let h = begins_taken o.0 f n.1 o.1 in (h.0, inr h.1, h.2, h.3))
        (first_interleaved (an_element q xs kids) ns j e)
    begins_taken ns (t.once d) a e = begins_taken ns d a e
    begins_taken ns (t.again {ms = ms} {ns = os} d f r i c) a e = let n = nil_interleaved i a in ⊎_elim
        (λ o. begins_taken o.0 d n.0 o.1)
        (λ o. begins_taken ns f n.1 o.1)
        (first_in_order (an_element q xs kids) ns ms os (c ∙ e))
    begins_taken ns (t.attribute_is h w) a e = absurd cc
    begins_taken ns (t.element_is {k = k} {q = r} {xs = ys} {kids = inner} h w pad) a e = this_element k r ys inner (padded_is ns pad e) h w
    begins_taken ns (t.data_is h) a e = absurd cc
    begins_taken ns (t.data_but h but) a e = absurd cc
    begins_taken ns (t.value_is h) a e = absurd cc
    begins_taken ns (t.list_is is d) a e = absurd cc

-- ---- a start that no alternative takes

-- no element that may begin takes these attributes, with any children
abbrev pub NoneTakes : Reading → List (Simple ℕ) → Name → List Attribute → Type 0
NoneTakes g now q xs = (k : ℕ) (kids : List Item) → MayBegin g now q k → WeaklyTakes g (body_of g k) xs kids → ⊥

module _ (g : Reading) (q : Name) (xs : List Attribute) (k : LevelState) (none : NoneTakes g k.now q xs) where
  -- the state after the start
  abbrev inside : LevelState
  inside = record { now = []; levels = [] ∷ k.levels }

  allows_none : IsEmpty (level_meaning g inside)
  allows_none = none_allowed g inside (All-nil (λ p. is_not_allowed p ≡ true))

  none_before : (kids : Items) (ns : List Item) (ls : List (List Item)) → (level_meaning g k).holds ((an_element q xs kids ∷ ns) ∷ ls) → ⊥
  none_before kids ns ls h =
      let b = begins_taken q xs kids g ns h.3 refl refl in
      none b.0 (list_of kids) ((h.1, s_leaf b.0, contains_at k.now h.0 h.1 h.2, b.1, refl), b.2) (weakly_in g (body_of g b.0) xs (list_of kids) b.3)

  leads_inside : IsAfterStart (level_meaning g k) (level_meaning g inside) q xs
  leads_inside = record {
    begins = λ kids ns ls u s all. (λ h. absurd (allows_none.begins (list_of kids) (ns ∷ ls) h), λ h. absurd (none_before kids ns ls h));
    content = λ kids ls b. (λ h. absurd (allows_none.begins kids ls h), λ h. absurd (allows_none.holds (without_blanks kids ∷ ls) h));
  }

-- a start behind a string
runs_start : (g : Reading) (q : Name) (xs : List Attribute) (s : List ℕ) (m k n : LevelState) (b : Bool) → SettlesLevels g s m k
    → IsAfterStart (level_meaning g k) (level_meaning g n) q xs → Runs (level_meaning g) m b s (a_start q xs ∷ []) n false []
runs_start g q xs s m k n b (as_blank e) a = meanings.at_start (meanings.as_blank e) a stays
runs_start g q xs s m k n b (as_text e f) a = meanings.at_start (meanings.as_text e (string_is_after g s m k f)) a stays

module _ (g : Reading) (m : LevelMatcher) (k : LevelState) (es : List Event) (line : ℕ) (q : Name) (xs : List Attribute) where
  abbrev start : Event
  start = record { line = line; kind = a_start q xs }

  pub untaken_start : StandsFor g m (kinds es) → SettlesLevels g m.held m.state k → NoneTakes g k.now q xs → NoneIsValidAfter g (es ++ start ∷ [])
  untaken_start stands settles none = λ more d is parts.
      let o = ends_open d is (kinds es) (kinds (start ∷ more)) (ap kinds (parts ∙ append_assoc es (start ∷ []) more) ∙ kinds_append es (start ∷ more)) in
      let r = run_on (level_meaning g) (stands.runs o.0 o.1).1
      (runs_start g q xs m.held m.state k (inside g q xs k none) m.has_begun settles (leads_inside g q xs k none)) in
      empty_stays_invalid (level_meaning g) g.grammar g.tests stands.first (inside g q xs k none) false [] (es ++ start ∷ []) more stands.start
      (subst (λ l. Runs (level_meaning g) stands.first false [] l (inside g q xs k none) false []) (sym (kinds_append es (start ∷ []))) r)
      (allows_none g q xs k none) d is parts
