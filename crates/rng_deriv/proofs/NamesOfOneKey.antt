-- Elements with names of one key are taken alike.
use Rattle.std.proofs.Common.{◌≡◌, ◌∙◌, ℕ, List, [], ◌∷◌, ◌++◌, true, true≢false, Option, Some, None, refl, sym, ap, subst, slice_get}
use Rattle.rng_model.specs.matching.Document.{Attribute, Item, a_text, an_element, Items, list_of, Interleaves, AllTexts, Padded}
use Rattle.rng_model.specs.matching.Document as document
use Rattle.rng_model.specs.names.Names.{Name, NameClass, In}
use Rattle.rng_model.specs.simple.Table.{Table}
use Rattle.rng_model.specs.datatypes.Texts.{is_blank}
use Rattle.rng_model.specs.simple.Tree.{Simple, s_leaf}
use Rattle.rng_model.specs.names.NameViews.{class_of}
use Rattle.rng_model.specs.declared.name.NameClass as declared
use Rattle.rng_model.specs.declared.simple.PatternId.{PatternId}
use Rattle.rng_names.specs.plain.Holding.{holds}
use Rattle.rng_names.proofs.Holding.{holds-Decides}
use Rattle.rng_names.specs.plain.Keys.{Keys, KeysServe, key_of, name_at}
use Rattle.rng_names.specs.plain.Keys as keyed
use Rattle.rng_deriv_laws.specs.plain.Derivatives as tree
use Rattle.rng_deriv_laws.specs.plain.LevelStates as level
use Rattle.rng_deriv_laws.specs.plain.LevelStates.{IsBodyNamed}
use Rattle.rng_model.specs.matching.GrammarMatching.{Reading, reading_of}
use Rattle.rng_deriv_laws.specs.plain.Reading.{body_of, has_name}
use Rattle.rng_deriv_laws.specs.plain.Taking.{Takes, WeaklyMatches}
use Rattle.rng_deriv_laws.specs.plain.Taking as t
use Rattle.rng_deriv_laws.specs.plain.Ways.{EachWay}
use Rattle.rng_deriv_ways.proofs.GrammarRows.{class_there, no_class_there}

module _ (g : Reading) where
  -- each element that may have the first name may have the second
  abbrev pub IsNoLess : Name → Name → Type 0
  IsNoLess q r = (k : ℕ) → has_name g k q ≡ true → has_name g k r ≡ true

  -- the same items, except for such names of elements
  pub data AreAlike : List Item → List Item → Type 0 where
    none : AreAlike [] []
    text : {s : List ℕ} {ns ms : List Item} → AreAlike ns ms → AreAlike (a_text s ∷ ns) (a_text s ∷ ms)
    element : {q r : Name} {xs : List Attribute} {kids : Items} {ns ms : List Item} → IsNoLess q r → AreAlike ns ms
        → AreAlike (an_element q xs kids ∷ ns) (an_element r xs kids ∷ ms)

  pub AreAlike-refl : (ns : List Item) → AreAlike ns ns
  AreAlike-refl [] = none
  AreAlike-refl (a_text s ∷ ns) = text (AreAlike-refl ns)
  AreAlike-refl (an_element q xs kids ∷ ns) = element (λ k e. e) (AreAlike-refl ns)

  -- ---- parts

  record InTwo (us vs ms : List Item) : Type 0 where
    front : List Item
    back : List Item
    first : AreAlike us front
    second : AreAlike vs back
    parts : front ++ back ≡ ms

  in_two : (us vs ms : List Item) → AreAlike (us ++ vs) ms → InTwo us vs ms
  in_two [] vs ms h = record { front = []; back = ms; first = none; second = h; parts = refl }
  in_two (a_text s ∷ us) vs _ (text {ms} h) =
      let r = in_two us vs ms h in
      record { front = a_text s ∷ r.front; back = r.back; first = text r.first; second = r.second; parts = ap (λ l. a_text s ∷ l) r.parts }
  in_two (an_element q xs kids ∷ us) vs _ (element {r} {ms} f h) =
      let i = in_two us vs ms h in
      record {
        front = an_element r xs kids ∷ i.front;
        back = i.back;
        first = element f i.first;
        second = i.second;
        parts = ap (λ l. an_element r xs kids ∷ l) i.parts;
      }

  record Dealt (us vs ms : List Item) : Type 0 where
    front : List Item
    back : List Item
    first : AreAlike us front
    second : AreAlike vs back
    parts : Interleaves front back ms

  dealt : (us vs ns ms : List Item) → Interleaves us vs ns → AreAlike ns ms → Dealt us vs ms
  dealt _ _ _ _ document.done none = record { front = []; back = []; first = none; second = none; parts = document.done }
  dealt _ vs _ _ (document.left {xs = us} {zs = ns} i) (text {s} {ms} h) =
      let r = dealt us vs ns ms i h in
      record { front = a_text s ∷ r.front; back = r.back; first = text r.first; second = r.second; parts = document.left r.parts }
  dealt _ vs _ _ (document.left {xs = us} {zs = ns} i) (element {r} {xs} {kids} {ms} f h) =
      let d = dealt us vs ns ms i h in
      record { front = an_element r xs kids ∷ d.front; back = d.back; first = element f d.first; second = d.second; parts = document.left d.parts }
  dealt us _ _ _ (document.right {ys = vs} {zs = ns} i) (text {s} {ms} h) =
      let r = dealt us vs ns ms i h in
      record { front = r.front; back = a_text s ∷ r.back; first = r.first; second = text r.second; parts = document.right r.parts }
  dealt us _ _ _ (document.right {ys = vs} {zs = ns} i) (element {r} {xs} {kids} {ms} f h) =
      let d = dealt us vs ns ms i h in
      record { front = d.front; back = an_element r xs kids ∷ d.back; first = d.first; second = element f d.second; parts = document.right d.parts }

  -- ---- what is taken

  texts_alike : (ns ms : List Item) → AllTexts ns → AreAlike ns ms → AllTexts ms
  texts_alike _ _ document.no_texts none = document.no_texts
  texts_alike _ _ (document.text_and {ns} all) (text {ms} h) = document.text_and (texts_alike ns ms all h)

  element_alike : (k : ℕ) (q : Name) (xs : List Attribute) (kids : Items) (ns ms : List Item) → has_name g k q ≡ true
      → WeaklyMatches g (body_of g k) xs (list_of kids) → Padded is_blank (an_element q xs kids) ns → AreAlike ns ms → Takes g (s_leaf k) [] ms
  element_alike k q xs kids _ _ e w document.alone (element f none) = t.element_is (f k e) w document.alone
  element_alike k q xs kids _ _ e w (document.before b) (text (element f none)) = t.element_is (f k e) w (document.before b)
  element_alike k q xs kids _ _ e w (document.after b) (element f (text none)) = t.element_is (f k e) w (document.after b)
  element_alike k q xs kids _ _ e w (document.both_sides b c) (text (element f (text none))) = t.element_is (f k e) w (document.both_sides b c)

  pub takes_alike : (p : Simple ℕ) (xs : List Attribute) (ns ms : List Item) → Takes g p xs ns → AreAlike ns ms → Takes g p xs ms
  takes_alike _ _ _ _ t.empty_is none = t.empty_is
  takes_alike _ _ _ ms (t.text_is {ns} all) h = t.text_is (texts_alike ns ms all h)
  takes_alike _ xs ns ms (t.first {p} {q} d) h = t.first (takes_alike p xs ns ms d h)
  takes_alike _ xs ns ms (t.second {p} {q} d) h = t.second (takes_alike q xs ns ms d h)
  takes_alike _ _ _ ms (t.grouped {p} {q} {xs} {ys} {ms = us} {ns = vs} d e i parts) h =
      let s = in_two us vs ms (subst (λ l. AreAlike l ms) (sym parts) h) in
      t.grouped (takes_alike p xs us s.front d s.first) (takes_alike q ys vs s.back e s.second) i s.parts
  takes_alike _ _ _ ms (t.interleaved {p} {q} {xs} {ys} {ms = us} {ns = vs} {os} d e i parts) h =
      let s = dealt us vs os ms parts h in
      t.interleaved (takes_alike p xs us s.front d s.first) (takes_alike q ys vs s.back e s.second) i s.parts
  takes_alike _ xs ns ms (t.once {p} d) h = t.once (takes_alike p xs ns ms d h)
  takes_alike _ _ _ ms (t.again {p} {xs} {ys} {ms = us} {ns = vs} d e apart i parts) h =
      let s = in_two us vs ms (subst (λ l. AreAlike l ms) (sym parts) h) in
      t.again (takes_alike p xs us s.front d s.first) (takes_alike _ ys vs s.back e s.second) apart i s.parts
  takes_alike _ _ _ _ (t.attribute_is named value) none = t.attribute_is named value
  takes_alike _ _ _ ms (t.element_is {k} {q} {xs} {kids} {os} named kept padded) h = element_alike k q xs kids os ms named kept padded h
  takes_alike _ _ _ _ (t.data_is a) (text none) = t.data_is a
  takes_alike _ _ _ _ (t.data_but a b) (text none) = t.data_but a b
  takes_alike _ _ _ _ (t.value_is a) (text none) = t.value_is a
  takes_alike _ _ _ _ (t.list_is pieces d) (text none) = t.list_is pieces d

  -- ---- starts

  body_named : (q r : Name) → IsNoLess q r → (b : Simple ℕ) → IsBodyNamed g q b → IsBodyNamed g r b
  body_named q r f b h = record { typed = h.typed; element = h.element; named = f h.element h.named }

  bodies_named : (q r : Name) → IsNoLess q r → (ws : List tree.Way) → EachWay (IsBodyNamed g q) (λ p. Unit {0}) ws
      → EachWay (IsBodyNamed g r) (λ p. Unit {0}) ws
  bodies_named q r f [] h = tt
  bodies_named q r f (w ∷ ws) h = ((body_named q r f w.leaf h.0.0, tt), bodies_named q r f ws h.1)

  pub starts_alike : (q r : Name) → IsNoLess q r → IsNoLess r q → (p : Simple ℕ) (ws : List tree.Way) → level.AreStarts g q p ws → level.AreStarts g r p ws
  starts_alike q r f h p ws starts = record {
    to = λ xs kids ns all d. starts.to xs kids ns all
        (takes_alike p [] (an_element r xs kids ∷ ns) (an_element q xs kids ∷ ns) d (element h (AreAlike-refl ns)));
    back = λ xs kids ns d. takes_alike p [] (an_element q xs kids ∷ ns) (an_element r xs kids ∷ ns) (starts.back xs kids ns d) (element f (AreAlike-refl ns));
    each = bodies_named q r f ws starts.each;
  }

-- ---- names of one key

less : (tbl : Table) (q r : Name) → ((x : declared.NameClass × PatternId) (k : ℕ) → slice_get tbl.elements k ≡ Some x
    → holds (class_of x.0) q ≡ true → holds (class_of x.0) r ≡ true) → IsNoLess (reading_of tbl) q r
less tbl q r held k e = by (slice_get tbl.elements k) refl
  where
    by : (o : Option (declared.NameClass × PatternId)) → slice_get tbl.elements k ≡ o → has_name (reading_of tbl) k r ≡ true
    by None missing = absurd (true≢false (sym e ∙ no_class_there tbl k q missing))
    by (Some x) found = class_there tbl k x r found ∙ held x k found (sym (class_there tbl k x q found) ∙ e)

-- the first name represents the key of the second
module _ (tbl : Table) (keys : Keys) (serve : KeysServe tbl keys) (q r : Name) (same : name_at keys (key_of keys r) ≡ q) where
  held_by_each : (c : NameClass) → keyed.Serves keys c → holds c q ≡ true → holds c r ≡ true
  held_by_each c s e = (holds-Decides c r).1 ((s r).1 (subst (In c) (sym same) ((holds-Decides c q).0 e)))

  held_for_each : (c : NameClass) → keyed.Serves keys c → holds c r ≡ true → holds c q ≡ true
  held_for_each c s e = (holds-Decides c q).1 (subst (In c) same ((s r).0 ((holds-Decides c r).0 e)))

  pub no_less : IsNoLess (reading_of tbl) q r
  no_less = less tbl q r (λ x k found. held_by_each (class_of x.0) (serve (class_of x.0) (keyed.of_element k x found refl)))

  pub no_more : IsNoLess (reading_of tbl) r q
  no_more = less tbl r q (λ x k found. held_for_each (class_of x.0) (serve (class_of x.0) (keyed.of_element k x found refl)))
