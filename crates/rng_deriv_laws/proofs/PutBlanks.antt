-- If the items have an element and no two strings are adjacent, a pattern that takes the items without their blank
-- strings takes all of them: each blank string becomes the padding of an element (RELAX NG Specification, section
-- 6.2.7). This needs no restriction on the pattern.
use Rattle.std.proofs.Common.{◌≡◌, ℕ, List, [], ◌∷◌, ◌++◌, refl, sym, ap, ◌∙◌, subst, Bool, true, false, cond, append_assoc}
use Rattle.std.proofs.lemmas.List.{append-nil}
use Rattle.rng_model.proofs.Truths.{not_both}
use Rattle.rng_model.specs.names.Names.{Name}
use Rattle.rng_model.specs.simple.Tree.{Simple}
use Rattle.rng_model.specs.matching.Document.{Attribute, Item, a_text, an_element, Items, Interleaves, AllTexts, no_texts, text_and, Padded}
use Rattle.rng_model.specs.matching.Document as document
use Rattle.rng_model.specs.plain.WellFormed.{Separate}
use Rattle.rng_model.specs.plain.WellFormed as w
use Rattle.rng_model.specs.datatypes.Texts.{is_blank}
use Rattle.rng_model.specs.matching.GrammarMatching.{Reading}
use Rattle.rng_deriv_laws.specs.plain.Taking.{Takes}
use Rattle.rng_deriv_laws.specs.plain.Taking as t
use Rattle.rng_deriv_laws.specs.plain.Blanks.{Every, nil, cons, IsNotBlank, has_element, without_blanks}
use Rattle.rng_deriv_laws.proofs.ListFacts.{every_parts, every_left, every_right}

-- the second list is the first with elements padded
data Spread : List Item → List Item → Type 0 where
  nothing : Spread [] []
  string : {s : List ℕ} {ms ns : List Item} → Spread ms ns → Spread (a_text s ∷ ms) (a_text s ∷ ns)
  element : {q : Name} {xs : List Attribute} {kids : Items} {os ms ns zs : List Item} →
      Padded is_blank (an_element q xs kids) os → Spread ms ns → os ++ ns ≡ zs → Spread (an_element q xs kids ∷ ms) zs

-- ms is ns without its blank strings
data Drops : List Item → List Item → Type 0 where
  none : Drops [] []
  blank : {s : List ℕ} {ms ns : List Item} → is_blank s ≡ true → Drops ns ms → Drops (a_text s ∷ ns) ms
  keep_text : {s : List ℕ} {ms ns : List Item} → is_blank s ≡ false → Drops ns ms → Drops (a_text s ∷ ns) (a_text s ∷ ms)
  keep_element : {q : Name} {xs : List Attribute} {kids : Items} {ms ns : List Item} → Drops ns ms
      → Drops (an_element q xs kids ∷ ns) (an_element q xs kids ∷ ms)

drops_text : (b : Bool) (s : List ℕ) (ns ms : List Item) → is_blank s ≡ b → Drops ns ms → Drops (a_text s ∷ ns) (cond b ms (a_text s ∷ ms))
drops_text true s ns ms e d = blank e d
drops_text false s ns ms e d = keep_text e d

drops : (ns : List Item) → Drops ns (without_blanks ns)
drops [] = none
drops (a_text s ∷ ns) = drops_text (is_blank s) s ns _ refl (drops ns)
drops (an_element q xs kids ∷ ns) = keep_element (drops ns)

clean : {ns ms : List Item} → Drops ns ms → Every IsNotBlank ms
clean none = nil
clean (blank b d) = clean d
clean (keep_text b d) = cons b (clean d)
clean (keep_element d) = cons tt (clean d)

pub without_is_clean : (ns : List Item) → Every IsNotBlank (without_blanks ns)
without_is_clean ns = clean (drops ns)

spread_element : (q : Name) (xs : List Attribute) (kids : Items) {ns ms : List Item} → Separate ns → Drops ns ms
    → Spread (an_element q xs kids ∷ ms) (an_element q xs kids ∷ ns)
spread_element q xs kids w.nothing none = element document.alone nothing refl
spread_element q xs kids w.string (blank p none) = element (document.after p) nothing refl
spread_element q xs kids (w.string_element s) (blank p (keep_element d)) = element (document.after p) (spread_element _ _ _ s d) refl
spread_element q xs kids w.string (keep_text p none) = element document.alone (string nothing) refl
spread_element q xs kids (w.string_element s) (keep_text p (keep_element d)) = element document.alone (string (spread_element _ _ _ s d)) refl
spread_element q xs kids (w.element s) (keep_element d) = element document.alone (spread_element _ _ _ s d) refl

before_first : (t : List ℕ) (q : Name) (xs : List Attribute) (kids : Items) (ms ns : List Item) → is_blank t ≡ true → Separate ns → Drops ns ms
    → Spread (an_element q xs kids ∷ ms) (a_text t ∷ an_element q xs kids ∷ ns)
before_first t q xs kids ms ns p w.nothing none = element (document.before p) nothing refl
before_first t q xs kids ms ns p w.string (blank r none) = element (document.both_sides p r) nothing refl
before_first t q xs kids ms ns p (w.string_element s) (blank r (keep_element d)) = element (document.both_sides p r) (spread_element _ _ _ s d) refl
before_first t q xs kids ms ns p w.string (keep_text r none) = element (document.before p) (string nothing) refl
before_first t q xs kids ms ns p (w.string_element s) (keep_text r (keep_element d)) = element (document.before p) (string (spread_element _ _ _ s d)) refl
before_first t q xs kids ms ns p (w.element s) (keep_element d) = element (document.before p) (spread_element _ _ _ s d) refl

spread : {ns ms : List Item} → Separate ns → Drops ns ms → has_element ns ≡ true → Spread ms ns
spread w.nothing none h = absurd (cc)
spread w.string (blank p none) h = absurd (cc)
spread (w.string_element s) (blank p (keep_element d)) h = before_first _ _ _ _ _ _ p s d
spread w.string (keep_text p none) h = absurd (cc)
spread (w.string_element s) (keep_text p (keep_element d)) h = string (spread_element _ _ _ s d)
spread (w.element s) (keep_element d) h = spread_element _ _ _ s d

-- a list and its spread list, both cut in two
record Cut (ms os ns : List Item) : Type 0 where
  front : List Item
  rest : List Item
  front_is : Spread ms front
  rest_is : Spread os rest
  joined : front ++ rest ≡ ns

cut : (ms os ns : List Item) → Spread (ms ++ os) ns → Cut ms os ns
cut [] os ns s = record { front = []; rest = ns; front_is = nothing; rest_is = s; joined = refl }
cut (a_text t ∷ ms) os zs (string {ns = ns} s) =
    let r = cut ms os ns s in
    record {
      front = a_text t ∷ r.front;
      rest = r.rest;
      front_is = string r.front_is;
      rest_is = r.rest_is;
      joined = ap (λ l. a_text t ∷ l) r.joined;
    }
cut (an_element q xs kids ∷ ms) os zs (element {os = us} {ns = ns} p s e) =
    let r = cut ms os ns s in
    record {
      front = us ++ r.front;
      rest = r.rest;
      front_is = element p r.front_is refl;
      rest_is = r.rest_is;
      joined = append_assoc us r.front r.rest ∙ ap (λ l. us ++ l) r.joined ∙ e;
    }

record Split (ms os ns : List Item) : Type 0 where
  front : List Item
  rest : List Item
  front_is : Spread ms front
  rest_is : Spread os rest
  joined : Interleaves front rest ns

all_left : (us : List Item) {ms os ns : List Item} → Interleaves ms os ns → Interleaves (us ++ ms) os (us ++ ns)
all_left [] i = i
all_left (u ∷ us) i = document.left (all_left us i)

all_right : (us : List Item) {ms os ns : List Item} → Interleaves ms os ns → Interleaves ms (us ++ os) (us ++ ns)
all_right [] i = i
all_right (u ∷ us) i = document.right (all_right us i)

split : {ms os zs ns : List Item} → Interleaves ms os zs → Spread zs ns → Split ms os ns
split document.done nothing = record { front = []; rest = []; front_is = nothing; rest_is = nothing; joined = document.done }
split (document.left i) (string {s = t} s) =
    let r = split i s in
    record { front = a_text t ∷ r.front; rest = r.rest; front_is = string r.front_is; rest_is = r.rest_is; joined = document.left r.joined }
split (document.right i) (string {s = t} s) =
    let r = split i s in
    record { front = r.front; rest = a_text t ∷ r.rest; front_is = r.front_is; rest_is = string r.rest_is; joined = document.right r.joined }
split (document.left i) (element {os = us} p s e) =
    let r = split i s in
    record {
      front = us ++ r.front;
      rest = r.rest;
      front_is = element p r.front_is refl;
      rest_is = r.rest_is;
      joined = subst (λ l. Interleaves (us ++ r.front) r.rest l) e (all_left us r.joined);
    }
split (document.right i) (element {os = us} p s e) =
    let r = split i s in
    record {
      front = r.front;
      rest = us ++ r.rest;
      front_is = r.front_is;
      rest_is = element p r.rest_is refl;
      joined = subst (λ l. Interleaves r.front (us ++ r.rest) l) e (all_right us r.joined);
    }

spread_texts : {ms ns : List Item} → Spread ms ns → AllTexts ms → AllTexts ns
spread_texts nothing all = no_texts
spread_texts (string s) (text_and all) = text_and (spread_texts s all)
spread_texts (element p s e) all = elim all [ ]

-- an element alone among items without blank strings, spread, is padded
repadded : (q : Name) (xs : List Attribute) (kids : Items) (ms ns : List Item) → Padded is_blank (an_element q xs kids) ms → Every IsNotBlank ms
    → Spread ms ns → Padded is_blank (an_element q xs kids) ns
repadded q xs kids ms ns document.alone all (element {os = us} p nothing e) = subst (λ l. Padded is_blank (an_element q xs kids) l) (sym (append-nil us) ∙ e) p
repadded q xs kids ms ns (document.before {s = u} p) (cons c all) s = absurd (not_both p c)
repadded q xs kids ms ns (document.after {s = u} p) (cons t (cons c all)) s = absurd (not_both p c)
repadded q xs kids ms ns (document.both_sides {s = u} p r) (cons c all) s = absurd (not_both p c)

module _ (g : Reading) where
  put : {p : Simple ℕ} {xs : List Attribute} {ms : List Item} (ns : List Item) → Takes g p xs ms → Every IsNotBlank ms → Spread ms ns → Takes g p xs ns
  put ns t.empty_is all nothing = t.empty_is
  put ns (t.text_is ts) all s = t.text_is (spread_texts s ts)
  put ns (t.first d) all s = t.first (put ns d all s)
  put ns (t.second d) all s = t.second (put ns d all s)
  put ns (t.grouped {ms = ms} {ns = os} d e i c) all s =
      let r = cut ms os ns (subst (λ l. Spread l ns) (sym c) s) in
      let a = every_parts ms os (subst (λ l. Every IsNotBlank l) (sym c) all) in
      t.grouped (put r.front d a.0 r.front_is) (put r.rest e a.1 r.rest_is) i r.joined
  put ns (t.interleaved d e i c) all s =
      let r = split c s in
      t.interleaved (put r.front d (every_left _ c all) r.front_is) (put r.rest e (every_right _ c all) r.rest_is) i r.joined
  put ns (t.once d) all s = t.once (put ns d all s)
  put ns (t.again {ms = ms} {ns = os} d e ap i c) all s =
      let r = cut ms os ns (subst (λ l. Spread l ns) (sym c) s) in
      let a = every_parts ms os (subst (λ l. Every IsNotBlank l) (sym c) all) in
      t.again (put r.front d a.0 r.front_is) (put r.rest e a.1 r.rest_is) ap i r.joined
  put ns (t.list_is e d) all (string nothing) = t.list_is e d
  put ns (t.attribute_is h w) all nothing = t.attribute_is h w
  put ns (t.data_is e) all (string nothing) = t.data_is e
  put ns (t.data_but e n) all (string nothing) = t.data_but e n
  put ns (t.value_is e) all (string nothing) = t.value_is e
  put ns (t.element_is i w pad) all s = t.element_is i w (repadded _ _ _ _ ns pad all s)

  -- this needs no restriction on the pattern
  pub put_blanks : (p : Simple ℕ) (xs : List Attribute) (ns : List Item) → Separate ns → has_element ns ≡ true → Takes g p xs (without_blanks ns)
      → Takes g p xs ns
  put_blanks p xs ns s h d = put ns d (without_is_clean ns) (spread s (drops ns) h)
