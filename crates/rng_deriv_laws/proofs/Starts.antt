-- After a start tag: an element comes first exactly if the body of some leaf weakly takes its attributes and children.
use Rattle.std.proofs.Common.{◌≡◌, ℕ, List, [], ◌∷◌, refl, Bool, true, false, cond, inl, inr, ◌⊎◌}
use Rattle.rng_model.specs.names.Names.{Name}
use Rattle.rng_model.specs.simple.Tree.{Simple, s_not_allowed, s_empty, s_text, s_leaf, s_attribute, s_list, s_data, s_data_except, s_value, s_one_or_more}
use Rattle.rng_model.specs.simple.Tree.{s_joined}
use Rattle.rng_model.specs.matching.Document.{Attribute, Item, an_element, Items, list_of}
use Rattle.rng_model.specs.matching.Document as document
use Rattle.rng_model.specs.matching.GrammarMatching.{Reading}
use Rattle.rng_deriv_laws.specs.plain.Reading.{body_of, has_name}
use Rattle.rng_deriv_laws.specs.plain.Taking.{Takes, WeaklyTakes}
use Rattle.rng_deriv_laws.specs.plain.Taking as t
use Rattle.rng_deriv_laws.specs.plain.Restricted.{IsRestricted, IsRestrictedBody}
use Rattle.rng_deriv_laws.specs.plain.Blanks.{IsBare}
use Rattle.rng_deriv_laws.specs.plain.Derivatives.{Way, item_ways, started, bodies_of, after_start}
use Rattle.rng_deriv_laws.specs.plain.Ways.{TakesItem, Opens, EachWay, IsItemLeaf}
use Rattle.rng_deriv_laws.proofs.TakesAndMatches.{weakly_in, weakly_out}
use Rattle.rng_deriv_laws.proofs.ItemWays.{item_ways-are}
use Rattle.rng_deriv_laws.proofs.KeptRestrictions.{IsRestricted-hereditary, item_ways-keep}

module _ (g : Reading) (q : Name) where
  -- ---- what bodies and rests keep

  named_keeps : (B Q : Simple ℕ → Type 0) (b : Bool) (w : Way) (ws : List Way) → (b ≡ true → B w.leaf) → Q w.rest → EachWay B Q ws
      → EachWay B Q (cond b (w ∷ ws) ws)
  named_keeps B Q true w ws f h k = ((f refl, h), k)
  named_keeps B Q false w ws f h k = k

  module _ (B Q : Simple ℕ → Type 0) (bodies : (k : ℕ) → has_name g k q ≡ true → B (body_of g k)) where
    started_keeps : (l r : Simple ℕ) → Q r → (ws : List Way) → EachWay B Q ws → EachWay B Q (started g l r q ws)
    started_keeps s_not_allowed r o ws h = h
    started_keeps s_empty r o ws h = h
    started_keeps s_text r o ws h = h
    started_keeps (s_leaf k) r o ws h = named_keeps B Q (has_name g k q) (record { leaf = body_of g k; rest = r }) ws (bodies k) o h
    started_keeps (s_attribute c p) r o ws h = h
    started_keeps (s_list p) r o ws h = h
    started_keeps (s_data d) r o ws h = h
    started_keeps (s_data_except d p) r o ws h = h
    started_keeps (s_value d v) r o ws h = h
    started_keeps (s_one_or_more p) r o ws h = h
    started_keeps (s_joined k p p') r o ws h = h

    pub bodies_keep : (P : Simple ℕ → Type 0) (ws : List Way) → EachWay P Q ws → EachWay B Q (bodies_of g q ws)
    bodies_keep P [] h = tt
    bodies_keep P (w ∷ ws) h = started_keeps w.leaf w.rest h.0.1 (bodies_of g q ws) (bodies_keep P ws h.1)

  pub start_keeps : ((k : ℕ) → IsRestrictedBody (body_of g k)) → (p : Simple ℕ) → IsRestricted p → EachWay IsRestrictedBody IsRestricted (after_start g p q)
  start_keeps bodies p o =
      bodies_keep IsRestrictedBody IsRestricted (λ k e. bodies k) (λ l. IsItemLeaf l × IsRestricted l) (item_ways p)
      (item_ways-keep IsRestricted IsRestricted-hereditary p o)

  -- ---- a leaf that takes an element

  module _ (xs : List Attribute) (kids : Items) where
    named_in : (b : Bool) (w : Way) (ws : List Way) (ns : List Item) → b ≡ true → WeaklyTakes g w.leaf xs (list_of kids) → Takes g w.rest [] ns
        → Opens g xs (list_of kids) ns (cond b (w ∷ ws) ws)
    named_in b w ws ns e h d = rw e (inl (h, d))

    named_later : (b : Bool) (w : Way) (ws : List Way) (ns : List Item) → Opens g xs (list_of kids) ns ws → Opens g xs (list_of kids) ns (cond b (w ∷ ws) ws)
    named_later true w ws ns h = inr h
    named_later false w ws ns h = h

    named_out : (b : Bool) (w : Way) (ws : List Way) (ns : List Item) → Opens g xs (list_of kids) ns (cond b (w ∷ ws) ws) →
        ((b ≡ true) × WeaklyTakes g w.leaf xs (list_of kids) × Takes g w.rest [] ns) ⊎ Opens g xs (list_of kids) ns ws
    named_out true w ws ns (inl h) = inl (refl, h.0, h.1)
    named_out true w ws ns (inr h) = inr h
    named_out false w ws ns h = inr h

    started_in : (l r : Simple ℕ) (ws : List Way) (ns : List Item) → IsItemLeaf l → Takes g l [] (an_element q xs kids ∷ []) → Takes g r [] ns
        → Opens g xs (list_of kids) ns (started g l r q ws)
    started_in s_not_allowed r ws ns o d e = absurd o
    started_in s_empty r ws ns o d e = absurd o
    started_in s_text r ws ns o (t.text_is all) e = elim all [ ]
    started_in (s_leaf k) r ws ns o (t.element_is i w document.alone) e =
        named_in (has_name g k q) (record { leaf = body_of g k; rest = r }) ws ns i (weakly_in g (body_of g k) xs (list_of kids) w) e
    started_in (s_attribute c p) r ws ns o d e = absurd o
    started_in (s_list p) r ws ns o d e = elim d [ ]
    started_in (s_data d) r ws ns o e f = elim e [ ]
    started_in (s_data_except d p) r ws ns o e f = elim e [ ]
    started_in (s_value d v) r ws ns o e f = elim e [ ]
    started_in (s_one_or_more p) r ws ns o d e = absurd o
    started_in (s_joined k p p') r ws ns o d e = absurd o

    started_later : (l r : Simple ℕ) (ws : List Way) (ns : List Item) → Opens g xs (list_of kids) ns ws → Opens g xs (list_of kids) ns (started g l r q ws)
    started_later s_not_allowed r ws ns h = h
    started_later s_empty r ws ns h = h
    started_later s_text r ws ns h = h
    started_later (s_leaf k) r ws ns h = named_later (has_name g k q) (record { leaf = body_of g k; rest = r }) ws ns h
    started_later (s_attribute c p) r ws ns h = h
    started_later (s_list p) r ws ns h = h
    started_later (s_data d) r ws ns h = h
    started_later (s_data_except d p) r ws ns h = h
    started_later (s_value d v) r ws ns h = h
    started_later (s_one_or_more p) r ws ns h = h
    started_later (s_joined k p p') r ws ns h = h

    started_out : (l r : Simple ℕ) (ws : List Way) (ns : List Item) → Opens g xs (list_of kids) ns (started g l r q ws) →
        (Takes g l [] (an_element q xs kids ∷ []) × Takes g r [] ns) ⊎ Opens g xs (list_of kids) ns ws
    started_out s_not_allowed r ws ns h = inr h
    started_out s_empty r ws ns h = inr h
    started_out s_text r ws ns h = inr h
    started_out (s_leaf k) r ws ns h = elim (named_out (has_name g k q) (record { leaf = body_of g k; rest = r }) ws ns h) [
      | inl a ↦ inl (t.element_is a.0 (weakly_out g (body_of g k) xs (list_of kids) a.1) document.alone, a.2)
      | inr b ↦ inr b
    ]
    started_out (s_attribute c p) r ws ns h = inr h
    started_out (s_list p) r ws ns h = inr h
    started_out (s_data d) r ws ns h = inr h
    started_out (s_data_except d p) r ws ns h = inr h
    started_out (s_value d v) r ws ns h = inr h
    started_out (s_one_or_more p) r ws ns h = inr h
    started_out (s_joined k p p') r ws ns h = inr h

    -- ---- lists of ways

    pub bodies_in : (Q : Simple ℕ → Type 0) (R : Simple ℕ → Type 0) (ws : List Way) → EachWay (λ l. IsItemLeaf l × Q l) R ws → (ns : List Item) →
        TakesItem g ws (an_element q xs kids) ns → Opens g xs (list_of kids) ns (bodies_of g q ws)
    bodies_in Q R [] each ns h = h
    bodies_in Q R (w ∷ ws) each ns (inl h) = started_in w.leaf w.rest (bodies_of g q ws) ns each.0.0.0 h.0 h.1
    bodies_in Q R (w ∷ ws) each ns (inr h) = started_later w.leaf w.rest (bodies_of g q ws) ns (bodies_in Q R ws each.1 ns h)

    pub bodies_out : (ws : List Way) (ns : List Item) → Opens g xs (list_of kids) ns (bodies_of g q ws) → TakesItem g ws (an_element q xs kids) ns
    bodies_out [] ns h = h
    bodies_out (w ∷ ws) ns h = elim (started_out w.leaf w.rest (bodies_of g q ws) ns h) [ inl a ↦ inl a | inr b ↦ inr (bodies_out ws ns b) ]

    -- ---- the first item is an element

    pub start_in : (p : Simple ℕ) → IsRestricted p → (ns : List Item) → IsBare (an_element q xs kids ∷ ns) → Takes g p [] (an_element q xs kids ∷ ns)
        → Opens g xs (list_of kids) ns (after_start g p q)
    start_in p o ns bare d =
        bodies_in IsRestricted IsRestricted (item_ways p) (item_ways-keep IsRestricted IsRestricted-hereditary p o) ns
        ((item_ways-are g (λ n. Unit {0}) p).to (an_element q xs kids) ns tt bare d)

    pub start_out : (p : Simple ℕ) (ns : List Item) → Opens g xs (list_of kids) ns (after_start g p q) → Takes g p [] (an_element q xs kids ∷ ns)
    start_out p ns h = (item_ways-are g (λ n. Unit {0}) p).back (an_element q xs kids) ns (bodies_out (item_ways p) ns h)
