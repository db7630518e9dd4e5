-- The first item: a law for each kind of pattern, from the ways of its sides to its own. `item_ways` returns the ways
-- of a pattern. Strings and elements have the same laws, since no blank string is beside an element.
use Rattle.std.proofs.Common.{◌≡◌, ℕ, List, [], ◌∷◌, ◌++◌, refl, sym, ap, ◌∙◌, subst, Bool, true, false, cond, inl, inr, ◌⊎◌}
use Rattle.std.proofs.lemmas.List.{append-nil}
use Rattle.rng_model.proofs.Truths.{not_both}
use Rattle.rng_model.specs.names.Names.{Name}
use Rattle.rng_model.specs.simple.Tree.{Simple, choice, group, interleave, s_not_allowed, s_empty, s_text, s_leaf, s_attribute, s_list, s_data, s_data_except}
use Rattle.rng_model.specs.simple.Tree.{s_value, s_one_or_more, s_joined}
use Rattle.rng_model.specs.matching.Document.{Attribute, Item, an_element, Items, Interleaves, no_texts, text_and, Padded}
use Rattle.rng_model.specs.matching.Document as document
use Rattle.rng_model.specs.datatypes.Texts.{is_blank}
use Rattle.rng_model.specs.matching.GrammarMatching.{Reading}
use Rattle.rng_deriv_laws.specs.plain.Taking.{Takes, Same}
use Rattle.rng_deriv_laws.specs.plain.Taking as t
use Rattle.rng_deriv_laws.specs.plain.Blanks.{IsBare, cons, strings_alone, no_blanks}
use Rattle.rng_deriv_laws.specs.plain.Derivatives.{Way, is_nullable, more_of, alone, behind, interleave_of, group_before, interleave_before, item_ways}
use Rattle.rng_deriv_laws.specs.plain.Ways.{TakesItem, AreItemWays}
use Rattle.rng_deriv_laws.proofs.ListFacts.{bare_cut, bare_left, bare_right, nothing_apart}
use Rattle.rng_deriv_laws.proofs.Nullable.{null_in, null_out}
use Rattle.rng_deriv_laws.proofs.SamePatterns.{group_of-same, interleave_of-same}

module _ (g : Reading) where
  -- ---- lists of ways

  pub item_in_first : (ws vs : List Way) (n : Item) (ns : List Item) → TakesItem g ws n ns → TakesItem g (ws ++ vs) n ns
  item_in_first [] vs n ns h = absurd h
  item_in_first (w ∷ ws) vs n ns (inl h) = inl h
  item_in_first (w ∷ ws) vs n ns (inr h) = inr (item_in_first ws vs n ns h)

  pub item_in_second : (ws vs : List Way) (n : Item) (ns : List Item) → TakesItem g vs n ns → TakesItem g (ws ++ vs) n ns
  item_in_second [] vs n ns h = h
  item_in_second (w ∷ ws) vs n ns h = inr (item_in_second ws vs n ns h)

  pub item_of_both : (ws vs : List Way) (n : Item) (ns : List Item) → TakesItem g (ws ++ vs) n ns → TakesItem g ws n ns ⊎ TakesItem g vs n ns
  item_of_both [] vs n ns h = inr h
  item_of_both (w ∷ ws) vs n ns (inl h) = inl (inl h)
  item_of_both (w ∷ ws) vs n ns (inr h) = elim (item_of_both ws vs n ns h) [ inl a ↦ inl (inr a) | inr b ↦ inr b ]

  behind_in : (f : Simple ℕ → Simple ℕ) (n : Item) (ms ns : List Item) → ((r : Simple ℕ) → Takes g r [] ms → Takes g (f r) [] ns) → (ws : List Way)
      → TakesItem g ws n ms → TakesItem g (behind f ws) n ns
  behind_in f n ms ns on [] h = h
  behind_in f n ms ns on (w ∷ ws) (inl h) = inl (h.0, on w.rest h.1)
  behind_in f n ms ns on (w ∷ ws) (inr h) = inr (behind_in f n ms ns on ws h)

  behind_out : (f : Simple ℕ → Simple ℕ) (n : Item) (Q : List Item → Type 0) (ns : List Item) →
      ((r : Simple ℕ) → Takes g (f r) [] ns → (ms : List Item) × Takes g r [] ms × Q ms) →
      (ws : List Way) → TakesItem g (behind f ws) n ns → (ms : List Item) × TakesItem g ws n ms × Q ms
  behind_out f n Q ns back [] h = absurd h
  behind_out f n Q ns back (w ∷ ws) (inl h) = let r = back w.rest h.1 in (r.0, inl (h.0, r.1), r.2)
  behind_out f n Q ns back (w ∷ ws) (inr h) = let r = behind_out f n Q ns back ws h in (r.0, inr r.1, r.2)

  under_in : (b : Bool) (ws : List Way) (n : Item) (ns : List Item) → b ≡ true → TakesItem g ws n ns → TakesItem g (cond b ws []) n ns
  under_in b ws n ns e h = rw e h

  under_out : (b : Bool) (ws : List Way) (n : Item) (ns : List Item) → TakesItem g (cond b ws []) n ns → (b ≡ true) × TakesItem g ws n ns
  under_out true ws n ns h = (refl, h)
  under_out false ws n ns h = absurd h

  -- ---- choices, and patterns that take the same

  pub choice_ways : (Kind : Item → Type 0) (p q : Simple ℕ) (ws vs : List Way) → AreItemWays g Kind p ws → AreItemWays g Kind q vs
      → AreItemWays g Kind (s_joined choice p q) (ws ++ vs)
  choice_ways Kind p q ws vs a b = record { to = to; back = back } where
    to : (n : Item) (ns : List Item) → Kind n → IsBare (n ∷ ns) → Takes g (s_joined choice p q) [] (n ∷ ns) → TakesItem g (ws ++ vs) n ns
    to n ns kind bare (t.first d) = item_in_first ws vs n ns (a.to n ns kind bare d)
    to n ns kind bare (t.second d) = item_in_second ws vs n ns (b.to n ns kind bare d)

    back : (n : Item) (ns : List Item) → TakesItem g (ws ++ vs) n ns → Takes g (s_joined choice p q) [] (n ∷ ns)
    back n ns h = elim (item_of_both ws vs n ns h) [ inl k ↦ t.first (a.back n ns k) | inr k ↦ t.second (b.back n ns k) ]

  pub same_has_ways : (Kind : Item → Type 0) (p q : Simple ℕ) (ws : List Way) → Same g p q → AreItemWays g Kind p ws → AreItemWays g Kind q ws
  same_has_ways Kind p q ws s a =
      record { to = λ n ns kind bare d. a.to n ns kind bare (s.back [] (n ∷ ns) d); back = λ n ns h. s.to [] (n ∷ ns) (a.back n ns h) }

  -- other ways that take the same are ways of the pattern too
  pub ways_that_take_the_same : (Kind : Item → Type 0) (p : Simple ℕ) (ws vs : List Way)
      → ((n : Item) (ns : List Item) → TakesItem g ws n ns → TakesItem g vs n ns)
      → ((n : Item) (ns : List Item) → TakesItem g vs n ns → TakesItem g ws n ns) → AreItemWays g Kind p ws → AreItemWays g Kind p vs
  ways_that_take_the_same Kind p ws vs f h a = record { to = λ n ns kind bare d. f n ns (a.to n ns kind bare d); back = λ n ns k. a.back n ns (h n ns k) }

  -- ---- groups

  group_to : (Kind : Item → Type 0) (p q : Simple ℕ) (f : Simple ℕ → Simple ℕ) (ws vs : List Way) → ((r : Simple ℕ) → Same g (f r) (s_joined group r q)) →
      AreItemWays g Kind p ws → AreItemWays g Kind q vs → (n : Item) (ns ms os : List Item) → Kind n → IsBare (n ∷ ns) → Takes g p [] ms → Takes g q [] os
      → ms ++ os ≡ n ∷ ns
      → TakesItem g (behind f ws ++ cond (is_nullable p) vs []) n ns
  group_to Kind p q f ws vs on a b n ns [] os kind bare d e c =
      item_in_second (behind f ws) _ n ns (under_in (is_nullable p) vs n ns (null_in g p d) (b.to n ns kind bare (subst (λ l. Takes g q [] l) c e)))
  group_to Kind p q f ws vs on a b n ns (o ∷ ms) os kind bare d e c =
      let same : o ≡ n = cc in
      let rest : ms ++ os ≡ ns = cc in
      let part = bare_cut (n ∷ ms) os (subst (λ l. IsBare (n ∷ l)) (sym rest) bare) in
      item_in_first (behind f ws) _ n ns
      (behind_in f n ms ns (λ r h. (on r).back [] ns (t.grouped h e document.done rest)) ws (a.to n ms kind part.0 (subst (λ o. Takes g p [] (o ∷ ms)) same d)))

  group_parts : (q r : Simple ℕ) (ns : List Item) → Takes g (s_joined group r q) [] ns
      → (ms : List Item) × Takes g r [] ms × ((os : List Item) × Takes g q [] os × (ms ++ os ≡ ns))
  group_parts q r ns (t.grouped {ms = ms} {ns = os} d e document.done c) = (ms, d, (os, e, c))

  -- f makes a group of what is left and the second side, in any form
  pub group_ways : (Kind : Item → Type 0) (p q : Simple ℕ) (f : Simple ℕ → Simple ℕ) (ws vs : List Way) → ((r : Simple ℕ) → Same g (f r) (s_joined group r q)) →
      AreItemWays g Kind p ws → AreItemWays g Kind q vs → AreItemWays g Kind (s_joined group p q) (behind f ws ++ cond (is_nullable p) vs [])
  group_ways Kind p q f ws vs on a b = record { to = to; back = back } where
    to : (n : Item) (ns : List Item) → Kind n → IsBare (n ∷ ns) → Takes g (s_joined group p q) [] (n ∷ ns)
        → TakesItem g (behind f ws ++ cond (is_nullable p) vs []) n ns
    to n ns kind bare (t.grouped {ms = ms} {ns = os} d e document.done c) = group_to Kind p q f ws vs on a b n ns ms os kind bare d e c

    by_first : (n : Item) (ns : List Item) → TakesItem g (behind f ws) n ns → Takes g (s_joined group p q) [] (n ∷ ns)
    by_first n ns h =
        let r = behind_out f n (λ ms. (os : List Item) × Takes g q [] os × (ms ++ os ≡ ns)) ns (λ r k. group_parts q r ns ((on r).to [] ns k)) ws h in
        t.grouped (a.back n r.0 r.1) r.2.1 document.done (ap (λ l. n ∷ l) r.2.2)

    by_second : (n : Item) (ns : List Item) → TakesItem g (cond (is_nullable p) vs []) n ns → Takes g (s_joined group p q) [] (n ∷ ns)
    by_second n ns h = let r = under_out (is_nullable p) vs n ns h in t.grouped (null_out g p r.0) (b.back n ns r.1) document.done refl

    back : (n : Item) (ns : List Item) → TakesItem g (behind f ws ++ cond (is_nullable p) vs []) n ns → Takes g (s_joined group p q) [] (n ∷ ns)
    back n ns h = elim (item_of_both (behind f ws) (cond (is_nullable p) vs []) n ns h) [ inl k ↦ by_first n ns k | inr k ↦ by_second n ns k ]

  -- ---- interleaves

  left_parts : (q r : Simple ℕ) (ns : List Item) → Takes g (s_joined interleave r q) [] ns
      → (ms : List Item) × Takes g r [] ms × ((os : List Item) × Takes g q [] os × Interleaves ms os ns)
  left_parts q r ns (t.interleaved {ms = ms} {ns = os} d e document.done i) = (ms, d, (os, e, i))

  right_parts : (p r : Simple ℕ) (ns : List Item) → Takes g (s_joined interleave p r) [] ns
      → (ms : List Item) × Takes g r [] ms × ((os : List Item) × Takes g p [] os × Interleaves os ms ns)
  right_parts p r ns (t.interleaved {ms = os} {ns = ms} d e document.done i) = (ms, e, (os, d, i))

  -- f and h make interleaves of what is left and the other side
  pub interleave_ways : (Kind : Item → Type 0) (p q : Simple ℕ) (f h : Simple ℕ → Simple ℕ) (ws vs : List Way) →
      ((r : Simple ℕ) → Same g (f r) (s_joined interleave r q)) → ((r : Simple ℕ) → Same g (h r) (s_joined interleave p r)) →
      AreItemWays g Kind p ws → AreItemWays g Kind q vs → AreItemWays g Kind (s_joined interleave p q) (behind f ws ++ behind h vs)
  interleave_ways Kind p q f h ws vs on around a b = record { to = to; back = back } where
    to : (n : Item) (ns : List Item) → Kind n → IsBare (n ∷ ns) → Takes g (s_joined interleave p q) [] (n ∷ ns) → TakesItem g (behind f ws ++ behind h vs) n ns
    to n ns kind bare (t.interleaved d e document.done (document.left {xs = ms} i)) =
        item_in_first (behind f ws) _ n ns
        (behind_in f n ms ns (λ r k. (on r).back [] ns (t.interleaved k e document.done i)) ws (a.to n ms kind (bare_left (document.left i) bare) d))
    to n ns kind bare (t.interleaved d e document.done (document.right {ys = os} i)) =
        item_in_second (behind f ws) _ n ns
        (behind_in h n os ns (λ r k. (around r).back [] ns (t.interleaved d k document.done i)) vs (b.to n os kind (bare_right (document.right i) bare) e))

    by_first : (n : Item) (ns : List Item) → TakesItem g (behind f ws) n ns → Takes g (s_joined interleave p q) [] (n ∷ ns)
    by_first n ns k =
        let r = behind_out f n (λ ms. (os : List Item) × Takes g q [] os × Interleaves ms os ns) ns (λ r k. left_parts q r ns ((on r).to [] ns k)) ws k in
        t.interleaved (a.back n r.0 r.1) r.2.1 document.done (document.left r.2.2)

    by_second : (n : Item) (ns : List Item) → TakesItem g (behind h vs) n ns → Takes g (s_joined interleave p q) [] (n ∷ ns)
    by_second n ns k =
        let r = behind_out h n (λ ms. (os : List Item) × Takes g p [] os × Interleaves os ms ns) ns (λ r k. right_parts p r ns ((around r).to [] ns k)) vs k in
        t.interleaved r.2.1 (b.back n r.0 r.1) document.done (document.right r.2.2)

    back : (n : Item) (ns : List Item) → TakesItem g (behind f ws ++ behind h vs) n ns → Takes g (s_joined interleave p q) [] (n ∷ ns)
    back n ns k = elim (item_of_both (behind f ws) (behind h vs) n ns k) [ inl d ↦ by_first n ns d | inr d ↦ by_second n ns d ]

  -- ---- repetitions

  more_to : (Kind : Item → Type 0) (p : Simple ℕ) (f : Simple ℕ → Simple ℕ) (ws : List Way) → ((r : Simple ℕ) → Same g (f r) (s_joined group r (more_of p))) →
      AreItemWays g Kind p ws → (n : Item) (ns ms os : List Item) → Kind n → IsBare (n ∷ ns) → Takes g p [] ms → Takes g (s_one_or_more p) [] os
      → ms ++ os ≡ n ∷ ns →
      (os ≡ n ∷ ns → TakesItem g (behind f ws) n ns) → TakesItem g (behind f ws) n ns
  more_to Kind p f ws on a n ns [] os kind bare d e c later = later c
  more_to Kind p f ws on a n ns (o ∷ ms) os kind bare d e c later =
      let same : o ≡ n = cc in
      let rest : ms ++ os ≡ ns = cc in
      let part = bare_cut (n ∷ ms) os (subst (λ l. IsBare (n ∷ l)) (sym rest) bare) in
      behind_in f n ms ns (λ r h. (on r).back [] ns (t.grouped h (t.first e) document.done rest)) ws
      (a.to n ms kind part.0 (subst (λ o. Takes g p [] (o ∷ ms)) same d))

  repeat_to : (Kind : Item → Type 0) (p : Simple ℕ) (f : Simple ℕ → Simple ℕ) (ws : List Way) → ((r : Simple ℕ) → Same g (f r) (s_joined group r (more_of p))) →
      AreItemWays g Kind p ws → (n : Item) (ns : List Item) → Kind n → IsBare (n ∷ ns) → (os : List Item) → Takes g (s_one_or_more p) [] os → os ≡ n ∷ ns
      → TakesItem g (behind f ws) n ns
  repeat_to Kind p f ws on a n ns kind bare os (t.once d) e =
      behind_in f n ns ns (λ r h. (on r).back [] ns (t.grouped h (t.second t.empty_is) document.done (append-nil ns))) ws
      (a.to n ns kind bare (subst (λ l. Takes g p [] l) e d))
  repeat_to Kind p f ws on a n ns kind bare os (t.again {ms = ms} {ns = rest} d copies apart document.done c) e =
      more_to Kind p f ws on a n ns ms rest kind bare d copies (c ∙ e) (repeat_to Kind p f ws on a n ns kind bare rest copies)

  join_more : (p : Simple ℕ) (n : Item) (ms os ns : List Item) → Takes g p [] (n ∷ ms) → Takes g (more_of p) [] os → ms ++ os ≡ ns
      → Takes g (s_one_or_more p) [] (n ∷ ns)
  join_more p n ms os ns d (t.first e) c = t.again d e nothing_apart document.done (ap (λ l. n ∷ l) c)
  join_more p n ms os ns d (t.second t.empty_is) c = t.once (subst (λ l. Takes g p [] (n ∷ l)) (sym (append-nil ms) ∙ c) d)

  -- f appends the further copies to what is left of the first
  pub repeat_ways : (Kind : Item → Type 0) (p : Simple ℕ) (f : Simple ℕ → Simple ℕ) (ws : List Way)
      → ((r : Simple ℕ) → Same g (f r) (s_joined group r (more_of p))) →
      AreItemWays g Kind p ws → AreItemWays g Kind (s_one_or_more p) (behind f ws)
  repeat_ways Kind p f ws on a = record { to = λ n ns kind bare d. repeat_to Kind p f ws on a n ns kind bare _ d refl; back = back } where
    back : (n : Item) (ns : List Item) → TakesItem g (behind f ws) n ns → Takes g (s_one_or_more p) [] (n ∷ ns)
    back n ns h =
        let r = behind_out f n (λ ms. (os : List Item) × Takes g (more_of p) [] os × (ms ++ os ≡ ns)) ns
        (λ r k. group_parts (more_of p) r ns ((on r).to [] ns k)) ws h in
        join_more p n r.0 r.2.0 ns (a.back n r.0 r.1) r.2.1 r.2.2

  -- ---- leaves

  -- a pattern that takes one item at a time
  alone_to : (Kind : Item → Type 0) (p : Simple ℕ) → ((n : Item) (ns : List Item) → IsBare (n ∷ ns) → Takes g p [] (n ∷ ns) → ns ≡ [])
      → AreItemWays g Kind p (alone p)
  alone_to Kind p one = record { to = to; back = back } where
    to : (n : Item) (ns : List Item) → Kind n → IsBare (n ∷ ns) → Takes g p [] (n ∷ ns) → TakesItem g (alone p) n ns
    to n ns kind bare d = let e = one n ns bare d in inl (subst (λ l. Takes g p [] (n ∷ l)) e d, subst (λ l. Takes g s_empty [] l) (sym e) t.empty_is)

    back : (n : Item) (ns : List Item) → TakesItem g (alone p) n ns → Takes g p [] (n ∷ ns)
    back n ns (inl (d, t.empty_is)) = d
    back n ns (inr h) = absurd h

  no_ways : (Kind : Item → Type 0) (p : Simple ℕ) → ((n : Item) (ns : List Item) → Takes g p [] (n ∷ ns) → ⊥) → AreItemWays g Kind p []
  no_ways Kind p none = record { to = λ n ns kind bare d. absurd (none n ns d); back = λ n ns h. absurd h }

-- in bare items an element is not padded
no_padding : (q : Name) (xs : List Attribute) (kids : Items) (n : Item) (ns : List Item) → IsBare (n ∷ ns) → Padded is_blank (an_element q xs kids) (n ∷ ns)
    → ns ≡ []
no_padding q xs kids n ns bare document.alone = refl
no_padding q xs kids n ns (strings_alone (text_and all)) (document.before b) = elim all [ ]
no_padding q xs kids n ns (no_blanks (cons p all)) (document.before {s = s} b) = absurd (not_both b p)
no_padding q xs kids n ns (strings_alone all) (document.after b) = elim all [ ]
no_padding q xs kids n ns (no_blanks (cons p (cons r all))) (document.after {s = s} b) = absurd (not_both b r)
no_padding q xs kids n ns (strings_alone (text_and all)) (document.both_sides b c) = elim all [ ]
no_padding q xs kids n ns (no_blanks (cons p all)) (document.both_sides {s = s} b c) = absurd (not_both b p)

module _ (g : Reading) where
  text_to : (n : Item) (ns : List Item) → Takes g s_text [] (n ∷ ns) → TakesItem g (item_ways s_text) n ns
  text_to n ns (t.text_is (text_and all)) = inl (t.text_is (text_and no_texts), t.text_is all)

  text_back : (n : Item) (ns : List Item) → TakesItem g (item_ways s_text) n ns → Takes g s_text [] (n ∷ ns)
  text_back n ns (inl (t.text_is (text_and no_texts), t.text_is all)) = t.text_is (text_and all)
  text_back n ns (inr h) = absurd h

  one_element : (k : ℕ) (n : Item) (ns : List Item) → IsBare (n ∷ ns) → Takes g (s_leaf k) [] (n ∷ ns) → ns ≡ []
  one_element k n ns bare (t.element_is i w p) = no_padding _ _ _ n ns bare p

  one_list : (p : Simple ℕ) (n : Item) (ns : List Item) → Takes g (s_list p) [] (n ∷ ns) → ns ≡ []
  one_list p n ns (t.list_is e d) = refl

  one_data : (d : _) (n : Item) (ns : List Item) → Takes g (s_data d) [] (n ∷ ns) → ns ≡ []
  one_data d n ns (t.data_is e) = refl

  one_except : (d : _) (p : Simple ℕ) (n : Item) (ns : List Item) → Takes g (s_data_except d p) [] (n ∷ ns) → ns ≡ []
  one_except d p n ns (t.data_but e f) = refl

  one_value : (d : _) (v : List ℕ) (n : Item) (ns : List Item) → Takes g (s_value d v) [] (n ∷ ns) → ns ≡ []
  one_value d v n ns (t.value_is e) = refl

  pub item_ways-are : (Kind : Item → Type 0) (p : Simple ℕ) → AreItemWays g Kind p (item_ways p)
  item_ways-are Kind s_not_allowed = no_ways g Kind s_not_allowed (λ n ns d. elim d [ ])
  item_ways-are Kind s_empty = no_ways g Kind s_empty (λ n ns d. elim d [ ])
  item_ways-are Kind s_text = record { to = λ n ns kind bare d. text_to n ns d; back = text_back }
  item_ways-are Kind (s_leaf k) = alone_to g Kind (s_leaf k) (one_element k)
  item_ways-are Kind (s_attribute c p) = no_ways g Kind (s_attribute c p) (λ n ns d. elim d [ ])
  item_ways-are Kind (s_list p) = alone_to g Kind (s_list p) (λ n ns bare d. one_list p n ns d)
  item_ways-are Kind (s_data d) = alone_to g Kind (s_data d) (λ n ns bare e. one_data d n ns e)
  item_ways-are Kind (s_data_except d p) = alone_to g Kind (s_data_except d p) (λ n ns bare e. one_except d p n ns e)
  item_ways-are Kind (s_value d v) = alone_to g Kind (s_value d v) (λ n ns bare e. one_value d v n ns e)
  item_ways-are Kind (s_one_or_more p) =
      repeat_ways g Kind p (group_before (more_of p)) (item_ways p) (λ r. group_of-same g r (more_of p)) (item_ways-are Kind p)
  item_ways-are Kind (s_joined choice p q) = choice_ways g Kind p q (item_ways p) (item_ways q) (item_ways-are Kind p) (item_ways-are Kind q)
  item_ways-are Kind (s_joined group p q) =
      group_ways g Kind p q (group_before q) (item_ways p) (item_ways q) (λ r. group_of-same g r q) (item_ways-are Kind p) (item_ways-are Kind q)
  item_ways-are Kind (s_joined interleave p q) =
      interleave_ways g Kind p q (interleave_before q) (interleave_of p) (item_ways p) (item_ways q)
      (λ r. interleave_of-same g r q) (λ r. interleave_of-same g p r) (item_ways-are Kind p) (item_ways-are Kind q)
