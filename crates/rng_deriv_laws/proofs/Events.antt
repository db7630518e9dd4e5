-- Event by event, the matcher reaches the state after the whole document. A state that is `never` stays so.
use Rattle.std.proofs.Common.{◌≡◌, ℕ, List, [], ◌∷◌, ◌++◌, refl, sym, ap, ◌∙◌, subst, Bool, true, false, cond, append_assoc}
use Rattle.std.proofs.lemmas.List.{append-nil}
use Rattle.rng_model.specs.names.Names.{Name}
use Rattle.rng_model.specs.simple.Tree.{Simple}
use Rattle.rng_model.specs.matching.Document.{Attribute, a_text, an_element, Items, no_items, item_and, list_of}
use Rattle.rng_model.specs.plain.WellFormed.{Separate, IsWellFormed, AreWellFormed}
use Rattle.rng_model.specs.plain.WellFormed as w
use Rattle.rng_model.specs.datatypes.Texts.{is_blank}
use Rattle.rng_model.specs.documents.PyxTrees.{Event, EventKind, a_start, a_string, an_end, Placed, PlacedItems, text_at, element_at, none_placed, placed_and}
use Rattle.rng_model.specs.documents.PyxTrees.{item_of, items_of, events_of, events_in}
use Rattle.rng_model.specs.matching.GrammarMatching.{Reading}
use Rattle.rng_deriv_laws.specs.plain.Blanks.{has_element, string_of}
use Rattle.rng_deriv_laws.specs.plain.States.{State, never, finished, after, either, is_never, after_of, end_tag, accepts, start_tag, string, end_text}
use Rattle.rng_deriv_laws.specs.plain.States.{after_items}
use Rattle.rng_deriv_laws.specs.plain.States.{after_item}
use Rattle.rng_deriv_laws.specs.plain.Events.{kinds, events_of_items, Matcher, new, step, run, is_valid}

-- ---- events without their lines

pub kinds_append : (es fs : List Event) → kinds (es ++ fs) ≡ kinds es ++ kinds fs
kinds_append [] fs = refl
kinds_append (e ∷ es) fs = ap (λ l. e.kind ∷ l) (kinds_append es fs)

pub kinds_in : (xs : PlacedItems) → kinds (events_in xs) ≡ events_of_items (items_of xs)
kinds_in none_placed = refl
kinds_in (placed_and (text_at n s) xs) = ap (λ l. a_string s ∷ l) (kinds_in xs)
kinds_in (placed_and (element_at n q attrs kids m) xs) =
    let inner : kinds (events_in kids ++ record { line = m; kind = an_end } ∷ []) ≡ events_of_items (items_of kids) ++ an_end ∷ [] =
    kinds_append (events_in kids) (record { line = m; kind = an_end } ∷ []) ∙ ap (λ l. l ++ an_end ∷ []) (kinds_in kids) in
    ap (λ l. a_start q attrs ∷ l)
    (kinds_append (events_in kids ++ record { line = m; kind = an_end } ∷ []) (events_in xs)
    ∙ ap (λ l. l ++ kinds (events_in xs)) inner
    ∙ ap (λ l. (events_of_items (items_of kids) ++ an_end ∷ []) ++ l) (kinds_in xs)
    ∙ append_assoc (events_of_items (items_of kids)) (an_end ∷ []) (events_of_items (items_of xs)))

pub kinds_of_document : (d : Placed) → kinds (events_of d) ≡ events_of_items (item_and (item_of d) no_items)
kinds_of_document d = ap kinds (sym (append-nil (events_of d))) ∙ kinds_in (placed_and d none_placed)

-- ---- the fold reaches the state after the root

cond_same : (b : Bool) (r : State) → cond b r r ≡ r
cond_same true r = refl
cond_same false r = refl

module _ (g : Reading) where
  at : State → Bool → Matcher
  at r b = record { state = r; has_begun = b; held = [] }

  -- the state after children and the end tag; b says whether an element came before them
  closed_state : Bool → Items → State → State
  closed_state b ns r =
      cond b (end_tag (after_items g ns r)) (cond (has_element (list_of ns)) (end_tag (after_items g ns r)) (end_text g r (string_of (list_of ns))))

  Closes : Bool → Items → Type 0
  Closes b ns = (r : State) (es : List EventKind) → run g (at r b) (events_of_items ns ++ an_end ∷ es) ≡ run g (at (closed_state b ns r) true) es

  element_closes : (q : Name) (xs : List Attribute) (kids ns : Items) → Closes false kids → Closes true ns → (r : State) (es : List EventKind) →
      run g (at (start_tag g r q xs) false) ((events_of_items kids ++ an_end ∷ events_of_items ns) ++ an_end ∷ es)
      ≡ run g (at (end_tag (after_items g (item_and (an_element q xs kids) ns) r)) true) es
  unfolding at closed_state Closes
  element_closes q xs kids ns inside beside r es =
      ap (λ l. run g (at (start_tag g r q xs) false) l) (append_assoc (events_of_items kids) (an_end ∷ events_of_items ns) (an_end ∷ es))
      ∙ inside (start_tag g r q xs) (events_of_items ns ++ an_end ∷ es)
      ∙ beside (after_item g (an_element q xs kids) r) es

  closes : (ns : Items) → AreWellFormed ns → Separate (list_of ns) → (b : Bool) → Closes b ns
  unfolding at closed_state Closes
  closes no_items f apart true r es = refl
  closes no_items f apart false r es = refl
  closes (item_and (a_text s) no_items) f apart true r es = refl
  closes (item_and (a_text s) no_items) f apart false r es = refl
  closes (item_and (a_text s) (item_and (a_text u) ns)) f apart b r es = elim apart [ ]
  closes (item_and (a_text s) (item_and (an_element q xs kids) ns)) f (w.string_element apart) b r es =
      element_closes q xs kids ns (closes kids f.1.0.2 f.1.0.1 false) (closes ns f.1.1 apart true) (cond (is_blank s) r (string g r s)) es
      ∙ ap (λ r. run g (at r true) es) (sym (cond_same b _))
  closes (item_and (an_element q xs kids) ns) f (w.element apart) b r es =
      element_closes q xs kids ns (closes kids f.0.2 f.0.1 false) (closes ns f.1 apart true) r es
      ∙ ap (λ r. run g (at r true) es) (sym (cond_same b _))

  pub run_root : (q : Name) (xs : List Attribute) (kids : Items) → IsWellFormed (an_element q xs kids) → (p : Simple ℕ) →
      (run g (new p) (events_of_items (item_and (an_element q xs kids) no_items))).state ≡ after_item g (an_element q xs kids) (after_of p finished)
  unfolding at closed_state Closes
  run_root q xs kids f p = ap (λ m. m.state) (closes kids f.2 f.1 false (start_tag g (after_of p finished) q xs) [])

  -- ---- once a state is `never`

  never_is : (r : State) → is_never r ≡ true → r ≡ never
  never_is never e = refl
  never_is finished e = absurd (cc)
  never_is (after p r) e = absurd (cc)
  never_is (either r s) e = absurd (cc)

  step_never : (b : Bool) (s : List ℕ) (e : EventKind) → (step g (record { state = never; has_begun = b; held = s }) e).state ≡ never
  step_never b s (a_start q xs) = ap (λ r. start_tag g r q xs) (cond_same (is_blank s) never)
  step_never b s (a_string u) = refl
  step_never b s an_end = ap (λ r. cond b (end_tag r) never) (cond_same (is_blank s) never) ∙ cond_same b never

  run_never : (m : Matcher) (es : List EventKind) → m.state ≡ never → (run g m es).state ≡ never
  run_never m [] h = h
  run_never m (e ∷ es) h =
      run_never (step g m e) es
      (subst (λ r. (step g (record { state = r; has_begun = m.has_begun; held = m.held }) e).state ≡ never) (sym h) (step_never m.has_begun m.held e))

  run_append : (m : Matcher) (es fs : List EventKind) → run g m (es ++ fs) ≡ run g (run g m es) fs
  run_append m [] fs = refl
  run_append m (e ∷ es) fs = run_append (step g m e) es fs

  pub never_accepts : (es fs : List EventKind) → is_never (run g (new g.grammar.start) es).state ≡ true → is_valid g (es ++ fs) ≡ true → ⊥
  never_accepts es fs h v =
      let m = run g (new g.grammar.start) es in
      let e : (run g m fs).state ≡ never = run_never m fs (never_is m.state h) in
      let a : accepts never ≡ true = subst (λ r. accepts r ≡ true) e (subst (λ m. accepts m.state ≡ true) (run_append (new g.grammar.start) es fs) v) in
      cc
