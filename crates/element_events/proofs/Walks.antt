-- Walks of trees: how many elements are open, and no two trees have the same walk.
use Rattle.std.proofs.Common.{◌≡◌, ℕ, ◌∙◌, List, [], ◌∷◌, ◌++◌, Option, Some, None, refl, sym, ap, append_assoc}
use Rattle.std.specs.Prelude.{zero, suc}
use Rattle.rng_model.specs.names.Names.{Name}
use Rattle.rng_model.specs.matching.Document.{Attribute}
use Rattle.rng_model.specs.documents.PyxTrees.{Placed, text_at, element_at, PlacedItems, none_placed, placed_and, Event, EventKind, a_start, a_string}
use Rattle.rng_model.specs.documents.PyxTrees.{an_end, events_of, events_in}

abbrev pub at_line : ℕ → EventKind → Event
at_line n kind = record { line = n; kind = kind }

-- ---- open elements

-- inside so many open elements and one more
abbrev pub inner : EventKind → ℕ → ℕ
inner (a_start q xs) d = suc (suc d)
inner (a_string s) d = suc d
inner an_end d = d

-- how many elements are open after the events; nothing comes where none is open
unfoldable pub ends_at : ℕ → List Event → Option ℕ
ends_at d [] = Some d
ends_at zero (e ∷ es) = None
ends_at (suc d) (e ∷ es) = ends_at (inner e.kind d) es

mutual
  unfolding ends_at

  pub item_ends : (t : Placed) (d : ℕ) (es : List Event) → ends_at (suc d) (events_of t ++ es) ≡ ends_at (suc d) es
  item_ends (text_at n s) d es = refl
  item_ends (element_at n q xs kids m) d es =
      ap (ends_at (suc (suc d))) (append_assoc (events_in kids) (at_line m an_end ∷ []) es) ∙ items_end kids (suc d) (at_line m an_end ∷ es)

  pub items_end : (kids : PlacedItems) (d : ℕ) (es : List Event) → ends_at (suc d) (events_in kids ++ es) ≡ ends_at (suc d) es
  items_end none_placed d es = refl
  items_end (placed_and t ts) d es = ap (ends_at (suc d)) (append_assoc (events_of t) (events_in ts) es) ∙ item_ends t d
      (events_in ts ++ es) ∙ items_end ts d es

-- the content of an element leads to its end
pub content_ends : (kids : PlacedItems) (m : ℕ) → ends_at 1 (events_in kids ++ at_line m an_end ∷ []) ≡ Some 0
unfolding ends_at
content_ends kids m = items_end kids 0 (at_line m an_end ∷ [])

-- ---- one tree alone has a walk

head_same : (a b : Event) (xs ys : List Event) → a ∷ xs ≡ b ∷ ys → (a.kind ≡ b.kind) × (a.line ≡ b.line) × (xs ≡ ys)
head_same a b xs ys e = (ap (λ (x : Event). x.kind) (heads e), ap (λ (x : Event). x.line) (heads e), tails e) where
  heads : a ∷ xs ≡ b ∷ ys → a ≡ b
  heads e = cc

  tails : a ∷ xs ≡ b ∷ ys → xs ≡ ys
  tails e = cc

starts_same : (q p : Name) (xs ys : List Attribute) → a_start q xs ≡ a_start p ys → (q ≡ p) × (xs ≡ ys)
starts_same q p xs ys e = (cc, cc)

strings_same : (s t : List ℕ) → a_string s ≡ a_string t → s ≡ t
strings_same s t e = cc

-- the walk of an item does not begin with an end
not_an_end : (t : Placed) (n : ℕ) (xs ys : List Event) → events_of t ++ xs ≡ at_line n an_end ∷ ys → ⊥
not_an_end (text_at m s) n xs ys e = not_string ((head_same _ _ _ _ e).0) where
  not_string : a_string s ≡ an_end → ⊥
  not_string e = cc
not_an_end (element_at m q ps kids l) n xs ys e = not_start ((head_same _ _ _ _ e).0) where
  not_start : a_start q ps ≡ an_end → ⊥
  not_start e = cc

mutual
  pub same_item : (t u : Placed) (xs ys : List Event) → events_of t ++ xs ≡ events_of u ++ ys → (t ≡ u) × (xs ≡ ys)
  same_item (text_at n s) (text_at m t) xs ys e =
      let h = head_same _ _ _ _ e in
      (join h.1 (strings_same s t h.0), h.2) where
        join : n ≡ m → s ≡ t → text_at n s ≡ text_at m t
        join e f = rw (e, f) refl
  same_item (text_at n s) (element_at m q ps kids l) xs ys e = absurd (apart ((head_same _ _ _ _ e).0)) where
    apart : a_string s ≡ a_start q ps → ⊥
    apart e = cc
  same_item (element_at m q ps kids l) (text_at n s) xs ys e = absurd (apart ((head_same _ _ _ _ e).0)) where
    apart : a_start q ps ≡ a_string s → ⊥
    apart e = cc
  same_item (element_at n q ps kids l) (element_at m p bs others k) xs ys e =
      let h = head_same _ _ _ _ e in
      let s = starts_same q p ps bs h.0 in
      let r = same_items kids others l k xs ys (sym (append_assoc (events_in kids) (at_line l an_end ∷ []) xs) ∙ h.2
      ∙ append_assoc (events_in others) (at_line k an_end ∷ []) ys) in
      (join h.1 s.0 s.1 r.0 r.1, r.2) where
        join : n ≡ m → q ≡ p → ps ≡ bs → kids ≡ others → l ≡ k → element_at n q ps kids l ≡ element_at m p bs others k
        join a b c d e = rw (a, b, c, d, e) refl

  same_items : (kids others : PlacedItems) (l k : ℕ)
      (xs ys : List Event) → events_in kids ++ at_line l an_end ∷ xs ≡ events_in others ++ at_line k an_end ∷ ys →
      (kids ≡ others) × (l ≡ k) × (xs ≡ ys)
  same_items none_placed none_placed l k xs ys e = let h = head_same _ _ _ _ e in (refl, h.1, h.2)
  same_items none_placed (placed_and t ts) l k xs ys e =
      absurd (not_an_end t l (events_in ts ++ at_line k an_end ∷ ys) xs (sym (append_assoc (events_of t) (events_in ts) (at_line k an_end ∷ ys)) ∙ sym e))
  same_items (placed_and t ts) none_placed l k xs ys e =
      absurd (not_an_end t k (events_in ts ++ at_line l an_end ∷ xs) ys (sym (append_assoc (events_of t) (events_in ts) (at_line l an_end ∷ xs)) ∙ e))
  same_items (placed_and t ts) (placed_and u us) l k xs ys e =
      let h = same_item t u (events_in ts ++ at_line l an_end ∷ xs) (events_in us ++ at_line k an_end ∷ ys)
      (sym (append_assoc (events_of t) (events_in ts) (at_line l an_end ∷ xs)) ∙ e ∙ append_assoc (events_of u) (events_in us) (at_line k an_end ∷ ys)) in
      let r = same_items ts us l k xs ys h.1 in
      (join h.0 r.0, r.1, r.2) where
        join : t ≡ u → ts ≡ us → placed_and t ts ≡ placed_and u us
        join e f = rw (e, f) refl
