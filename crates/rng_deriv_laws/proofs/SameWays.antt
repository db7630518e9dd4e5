-- Patterns and lists of ways in other forms: choices as sets of alternatives, ways in another order, ways with equal
-- leaves or equal rests joined into one, ways that lead nowhere left out.
use Rattle.std.proofs.Common.{◌≡◌, ◌⊎◌, inl, inr, ℕ, List, [], ◌∷◌, ◌++◌, refl, ap, ◌∙◌, Bool, true, false, cond, Some}
use Rattle.rng_model.specs.names.Lists.{Among, here, there}
use Rattle.rng_model.specs.simple.Tree.{Simple, choice, group, interleave, s_not_allowed, s_empty, s_joined}
use Rattle.rng_model.specs.matching.Document.{Attribute, Item, a_text}
use Rattle.rng_model.specs.matching.GrammarMatching.{Reading}
use Rattle.rng_deriv_laws.specs.plain.Taking.{Takes, WeaklyTakes, Same}
use Rattle.rng_deriv_laws.specs.plain.Taking as t
use Rattle.rng_deriv_laws.specs.plain.Restricted.{content_type, type_of_choice, IsTyped, IsRestricted, IsRestrictedBody}
use Rattle.rng_deriv_laws.specs.plain.Derivatives.{Way, is_not_allowed, choice_of}
use Rattle.rng_deriv_laws.specs.plain.Ways.{TakesItem, TakesAttribute, Opens, AreItemWays, AreAttributeWays}
use Rattle.rng_deriv_laws.proofs.SamePatterns.{same, same_back, same_through, same_choice, same_group, same_interleave, choice_associative, group_associative}
use Rattle.rng_deriv_laws.proofs.SamePatterns.{interleave_associative, not_allowed_or, empty_then, empty_beside}
use Rattle.rng_deriv_laws.proofs.ItemWays.{same_has_ways}
use Rattle.rng_deriv_laws.proofs.KeptRestrictions.{IsRestricted-hereditary, choice_of-keeps}

-- the choice of a list of patterns; the choice of none is notAllowed
abbrev pub choice_all : List (Simple ℕ) → Simple ℕ
choice_all [] = s_not_allowed
choice_all (p ∷ ps) = s_joined choice p (choice_all ps)

abbrev pub way : Simple ℕ → Simple ℕ → Way
way l r = record { leaf = l; rest = r }

-- the group or interleave of a list of members; that of none is empty
abbrev pub group_all : List (Simple ℕ) → Simple ℕ
group_all [] = s_empty
group_all (p ∷ ps) = s_joined group p (group_all ps)

abbrev pub interleave_all : List (Simple ℕ) → Simple ℕ
interleave_all [] = s_empty
interleave_all (p ∷ ps) = s_joined interleave p (interleave_all ps)

module _ (g : Reading) where
  -- ---- members in any nesting: a list cut in two is its two parts joined

  pub choice_all-append : (ps qs : List (Simple ℕ)) → Same g (choice_all (ps ++ qs)) (s_joined choice (choice_all ps) (choice_all qs))
  choice_all-append [] qs = not_allowed_or g (choice_all qs)
  choice_all-append (p ∷ ps) qs =
      same_through g (same_choice g (same g p) (choice_all-append ps qs)) (same_back g (choice_associative g p (choice_all ps) (choice_all qs)))

  pub group_all-append : (ps qs : List (Simple ℕ)) → Same g (group_all (ps ++ qs)) (s_joined group (group_all ps) (group_all qs))
  group_all-append [] qs = empty_then g (group_all qs)
  group_all-append (p ∷ ps) qs =
      same_through g (same_group g (same g p) (group_all-append ps qs)) (same_back g (group_associative g p (group_all ps) (group_all qs)))

  pub interleave_all-append : (ps qs : List (Simple ℕ)) → Same g (interleave_all (ps ++ qs)) (s_joined interleave (interleave_all ps) (interleave_all qs))
  interleave_all-append [] qs = empty_beside g (interleave_all qs)
  interleave_all-append (p ∷ ps) qs =
      same_through g (same_interleave g (same g p) (interleave_all-append ps qs))
      (same_back g (interleave_associative g p (interleave_all ps) (interleave_all qs)))

  -- ---- a list nested to the left, opened to the right

  pub opened_to_the_right : (Kind : Item → Type 0) (p q r : Simple ℕ) (ws : List Way) → AreItemWays g Kind (s_joined group p (s_joined group q r)) ws
      → AreItemWays g Kind (s_joined group (s_joined group p q) r) ws
  opened_to_the_right Kind p q r ws a =
      same_has_ways g Kind (s_joined group p (s_joined group q r)) (s_joined group (s_joined group p q) r) ws (same_back g (group_associative g p q r)) a

  -- ---- choices as sets

  pub choice_all-takes : (ps : List (Simple ℕ)) (p : Simple ℕ) (xs : List Attribute) (ns : List Item) → Among p ps → Takes g p xs ns
      → Takes g (choice_all ps) xs ns
  choice_all-takes [] p' xs ns a d = elim a [ ]
  choice_all-takes (p ∷ ps) p' xs ns here d = t.first d
  choice_all-takes (p ∷ ps) p' xs ns (there a) d = t.second (choice_all-takes ps p' xs ns a d)

  pub choice_all-taken : (ps : List (Simple ℕ)) (xs : List Attribute) (ns : List Item) → Takes g (choice_all ps) xs ns
      → (p : Simple ℕ) × Among p ps × Takes g p xs ns
  choice_all-taken [] xs ns d = elim d [ ]
  choice_all-taken (p ∷ ps) xs ns (t.first d) = (p, here, d)
  choice_all-taken (p ∷ ps) xs ns (t.second d) = let r = choice_all-taken ps xs ns d in (r.0, there r.1, r.2)

  some_in : (ps qs : List (Simple ℕ)) → ((p : Simple ℕ) → Among p ps → Among p qs) → (xs : List Attribute) (ns : List Item) → Takes g (choice_all ps) xs ns
      → Takes g (choice_all qs) xs ns
  some_in ps qs f xs ns d = let r = choice_all-taken ps xs ns d in choice_all-takes qs r.0 xs ns (f r.0 r.1) r.2

  -- choices with the same alternatives take the same
  pub same_alternatives : (ps qs : List (Simple ℕ)) → ((p : Simple ℕ) → Among p ps → Among p qs) → ((p : Simple ℕ) → Among p qs → Among p ps)
      → Same g (choice_all ps) (choice_all qs)
  same_alternatives ps qs f h = record { to = some_in ps qs f; back = some_in qs ps h }

  -- ---- ways as sets

  pub item_among : (ws : List Way) (w : Way) (n : Item) (ns : List Item) → Among w ws → Takes g w.leaf [] (n ∷ []) → Takes g w.rest [] ns → TakesItem g ws n ns
  item_among [] v n ns a d e = elim a [ ]
  item_among (w ∷ ws) v n ns here d e = inl (d, e)
  item_among (w ∷ ws) v n ns (there a) d e = inr (item_among ws v n ns a d e)

  pub item_way : (ws : List Way) (n : Item) (ns : List Item) → TakesItem g ws n ns
      → (w : Way) × Among w ws × Takes g w.leaf [] (n ∷ []) × Takes g w.rest [] ns
  item_way [] n ns h = absurd h
  item_way (w ∷ ws) n ns (inl h) = (w, here, h.0, h.1)
  item_way (w ∷ ws) n ns (inr h) = let r = item_way ws n ns h in (r.0, there r.1, r.2, r.3)

  pub attribute_among : (ws : List Way) (w : Way) (a : Attribute) (xs : List Attribute) (ns : List Item) → Among w ws → Takes g w.leaf (a ∷ []) []
      → Takes g w.rest xs ns → TakesAttribute g ws a xs ns
  attribute_among [] v a xs ns m d e = elim m [ ]
  attribute_among (w ∷ ws) v a xs ns here d e = inl (d, e)
  attribute_among (w ∷ ws) v a xs ns (there m) d e = inr (attribute_among ws v a xs ns m d e)

  pub attribute_way : (ws : List Way) (a : Attribute) (xs : List Attribute) (ns : List Item) → TakesAttribute g ws a xs ns
      → (w : Way) × Among w ws × Takes g w.leaf (a ∷ []) [] × Takes g w.rest xs ns
  attribute_way [] a xs ns h = absurd h
  attribute_way (w ∷ ws) a xs ns (inl h) = (w, here, h.0, h.1)
  attribute_way (w ∷ ws) a xs ns (inr h) = let r = attribute_way ws a xs ns h in (r.0, there r.1, r.2, r.3)

  pub opens_among : (ws : List Way) (w : Way) (xs : List Attribute) (kids ns : List Item) → Among w ws → WeaklyTakes g w.leaf xs kids → Takes g w.rest [] ns
      → Opens g xs kids ns ws
  opens_among [] v xs kids ns m d e = elim m [ ]
  opens_among (w ∷ ws) v xs kids ns here d e = inl (d, e)
  opens_among (w ∷ ws) v xs kids ns (there m) d e = inr (opens_among ws v xs kids ns m d e)

  pub opening : (ws : List Way) (xs : List Attribute) (kids ns : List Item) → Opens g xs kids ns ws
      → (w : Way) × Among w ws × WeaklyTakes g w.leaf xs kids × Takes g w.rest [] ns
  opening [] xs kids ns h = absurd h
  opening (w ∷ ws) xs kids ns (inl h) = (w, here, h.0, h.1)
  opening (w ∷ ws) xs kids ns (inr h) = let r = opening ws xs kids ns h in (r.0, there r.1, r.2, r.3)

  -- ---- leaves that take nothing of the kind

  left_out : (Kind : Item → Type 0) (l r : Simple ℕ) (ws : List Way) → ((n : Item) → Kind n → Takes g l [] (n ∷ []) → ⊥) → (n : Item) (ns : List Item) → Kind n
      → TakesItem g (way l r ∷ ws) n ns → TakesItem g ws n ns
  left_out Kind l r ws none n ns kind (inl h) = absurd (none n kind h.0)
  left_out Kind l r ws none n ns kind (inr h) = h

  pub leaf_left_out : (Kind : Item → Type 0) (p l r : Simple ℕ) (ws : List Way) → ((n : Item) → Kind n → Takes g l [] (n ∷ []) → ⊥)
      → AreItemWays g Kind p (way l r ∷ ws) → AreItemWays g Kind p ws
  leaf_left_out Kind p l r ws none a = record {
    to = λ n ns kind bare d. left_out Kind l r ws none n ns kind (a.to n ns kind bare d);
    back = λ n ns h. a.back n ns (inr h);
  }

  attribute_left_out : (Kind : Attribute → Type 0) (l r : Simple ℕ) (ws : List Way) → ((a : Attribute) → Kind a → Takes g l (a ∷ []) [] → ⊥)
      → (a : Attribute) (xs : List Attribute) (ns : List Item) → Kind a → TakesAttribute g (way l r ∷ ws) a xs ns → TakesAttribute g ws a xs ns
  attribute_left_out Kind l r ws none a xs ns kind (inl h) = absurd (none a kind h.0)
  attribute_left_out Kind l r ws none a xs ns kind (inr h) = h

  pub attribute_leaf_left_out : (Kind : Attribute → Type 0) (p l r : Simple ℕ) (ws : List Way) → ((a : Attribute) → Kind a → Takes g l (a ∷ []) [] → ⊥)
      → AreAttributeWays g Kind p (way l r ∷ ws) → AreAttributeWays g Kind p ws
  attribute_leaf_left_out Kind p l r ws none b = record {
    to = λ a xs ns kind d. attribute_left_out Kind l r ws none a xs ns kind (b.to a xs ns kind d);
    back = λ a xs ns u h. b.back a xs ns u (inr h);
  }

  -- ---- ways joined into one

  of_choice : (p q r : Simple ℕ) → Same g r (s_joined choice p q) → (xs : List Attribute) (ns : List Item) → Takes g r xs ns → Takes g p xs ns ⊎ Takes g q xs ns
  of_choice p q r s xs ns d = parted (s.to xs ns d) where
    parted : Takes g (s_joined choice p q) xs ns → Takes g p xs ns ⊎ Takes g q xs ns
    parted (t.first e) = inl e
    parted (t.second e) = inr e

  -- equal leaves: the choice of their rests, in any form
  pub leaves_joined : (l p q r : Simple ℕ) (ws : List Way) (n : Item) (ns : List Item) → Same g r (s_joined choice p q)
      → TakesItem g (way l p ∷ way l q ∷ ws) n ns → TakesItem g (way l r ∷ ws) n ns
  leaves_joined l p q r ws n ns s (inl h) = inl (h.0, s.back [] ns (t.first h.1))
  leaves_joined l p q r ws n ns s (inr (inl h)) = inl (h.0, s.back [] ns (t.second h.1))
  leaves_joined l p q r ws n ns s (inr (inr h)) = inr h

  pub leaves_parted : (l p q r : Simple ℕ) (ws : List Way) (n : Item) (ns : List Item) → Same g r (s_joined choice p q)
      → TakesItem g (way l r ∷ ws) n ns → TakesItem g (way l p ∷ way l q ∷ ws) n ns
  leaves_parted l p q r ws n ns s (inl h) = elim (of_choice p q r s [] ns h.1) [ inl d ↦ inl (h.0, d) | inr d ↦ inr (inl (h.0, d)) ]
  leaves_parted l p q r ws n ns s (inr h) = inr (inr h)

  pub attribute_leaves_joined : (l p q r : Simple ℕ) (ws : List Way) (a : Attribute) (xs : List Attribute) (ns : List Item) → Same g r (s_joined choice p q)
      → TakesAttribute g (way l p ∷ way l q ∷ ws) a xs ns → TakesAttribute g (way l r ∷ ws) a xs ns
  attribute_leaves_joined l p q r ws a xs ns s (inl h) = inl (h.0, s.back xs ns (t.first h.1))
  attribute_leaves_joined l p q r ws a xs ns s (inr (inl h)) = inl (h.0, s.back xs ns (t.second h.1))
  attribute_leaves_joined l p q r ws a xs ns s (inr (inr h)) = inr h

  pub attribute_leaves_parted : (l p q r : Simple ℕ) (ws : List Way) (a : Attribute) (xs : List Attribute) (ns : List Item) → Same g r (s_joined choice p q)
      → TakesAttribute g (way l r ∷ ws) a xs ns → TakesAttribute g (way l p ∷ way l q ∷ ws) a xs ns
  attribute_leaves_parted l p q r ws a xs ns s (inl h) = elim (of_choice p q r s xs ns h.1) [ inl d ↦ inl (h.0, d) | inr d ↦ inr (inl (h.0, d)) ]
  attribute_leaves_parted l p q r ws a xs ns s (inr h) = inr (inr h)

  -- a rest that is notAllowed
  pub way_dropped : (l : Simple ℕ) (ws : List Way) (n : Item) (ns : List Item) → TakesItem g (way l s_not_allowed ∷ ws) n ns → TakesItem g ws n ns
  way_dropped l ws n ns (inl h) = elim h.1 [ ]
  way_dropped l ws n ns (inr h) = h

  pub attribute_way_dropped : (l : Simple ℕ) (ws : List Way) (a : Attribute) (xs : List Attribute) (ns : List Item)
      → TakesAttribute g (way l s_not_allowed ∷ ws) a xs ns → TakesAttribute g ws a xs ns
  attribute_way_dropped l ws a xs ns (inl h) = elim h.1 [ ]
  attribute_way_dropped l ws a xs ns (inr h) = h

  -- ---- bodies joined into one

  -- the weak rules respect choices
  pub weakly_first : (p q r : Simple ℕ) → Same g r (s_joined choice p q) → (xs : List Attribute) (ns : List Item) → WeaklyTakes g p xs ns
      → WeaklyTakes g r xs ns
  weakly_first p q r s xs ns (t.as_is d) = t.as_is (s.back xs ns (t.first d))
  weakly_first p q r s xs ns (t.blank_text d b) = t.blank_text (s.back xs [] (t.first d)) b
  weakly_first p q r s xs ns (t.nothing_there d) = t.nothing_there (s.back xs _ (t.first d))

  pub weakly_second : (p q r : Simple ℕ) → Same g r (s_joined choice p q) → (xs : List Attribute) (ns : List Item) → WeaklyTakes g q xs ns
      → WeaklyTakes g r xs ns
  weakly_second p q r s xs ns (t.as_is d) = t.as_is (s.back xs ns (t.second d))
  weakly_second p q r s xs ns (t.blank_text d b) = t.blank_text (s.back xs [] (t.second d)) b
  weakly_second p q r s xs ns (t.nothing_there d) = t.nothing_there (s.back xs _ (t.second d))

  pub weakly_of_choice : (p q r : Simple ℕ) → Same g r (s_joined choice p q) → (xs : List Attribute) (ns : List Item) → WeaklyTakes g r xs ns
      → WeaklyTakes g p xs ns ⊎ WeaklyTakes g q xs ns
  weakly_of_choice p q r s xs ns (t.as_is d) = elim (of_choice p q r s xs ns d) [ inl e ↦ inl (t.as_is e) | inr e ↦ inr (t.as_is e) ]
  weakly_of_choice p q r s xs ns (t.blank_text d b) =
      elim (of_choice p q r s xs [] d) [ inl e ↦ inl (t.blank_text e b) | inr e ↦ inr (t.blank_text e b) ]
  weakly_of_choice p q r s xs ns (t.nothing_there d) =
      elim (of_choice p q r s xs (a_text [] ∷ []) d) [ inl e ↦ inl (t.nothing_there e) | inr e ↦ inr (t.nothing_there e) ]

  -- equal rests: the choice of the bodies
  pub bodies_joined : (b c d r : Simple ℕ) (ws : List Way) (xs : List Attribute) (kids ns : List Item) → Same g d (s_joined choice b c)
      → Opens g xs kids ns (way b r ∷ way c r ∷ ws) → Opens g xs kids ns (way d r ∷ ws)
  bodies_joined b c d r ws xs kids ns s (inl h) = inl (weakly_first b c d s xs kids h.0, h.1)
  bodies_joined b c d r ws xs kids ns s (inr (inl h)) = inl (weakly_second b c d s xs kids h.0, h.1)
  bodies_joined b c d r ws xs kids ns s (inr (inr h)) = inr h

  pub bodies_parted : (b c d r : Simple ℕ) (ws : List Way) (xs : List Attribute) (kids ns : List Item) → Same g d (s_joined choice b c)
      → Opens g xs kids ns (way d r ∷ ws) → Opens g xs kids ns (way b r ∷ way c r ∷ ws)
  bodies_parted b c d r ws xs kids ns s (inl h) =
      elim (weakly_of_choice b c d s xs kids h.0) [ inl e ↦ inl (e, h.1) | inr e ↦ inr (inl (e, h.1)) ]
  bodies_parted b c d r ws xs kids ns s (inr h) = inr (inr h)

  -- equal bodies: the choice of what is left after the element
  pub rests_joined : (b p q r : Simple ℕ) (ws : List Way) (xs : List Attribute) (kids ns : List Item) → Same g r (s_joined choice p q)
      → Opens g xs kids ns (way b p ∷ way b q ∷ ws) → Opens g xs kids ns (way b r ∷ ws)
  rests_joined b p q r ws xs kids ns s (inl h) = inl (h.0, s.back [] ns (t.first h.1))
  rests_joined b p q r ws xs kids ns s (inr (inl h)) = inl (h.0, s.back [] ns (t.second h.1))
  rests_joined b p q r ws xs kids ns s (inr (inr h)) = inr h

  pub rests_parted : (b p q r : Simple ℕ) (ws : List Way) (xs : List Attribute) (kids ns : List Item) → Same g r (s_joined choice p q)
      → Opens g xs kids ns (way b r ∷ ws) → Opens g xs kids ns (way b p ∷ way b q ∷ ws)
  rests_parted b p q r ws xs kids ns s (inl h) = elim (of_choice p q r s [] ns h.1) [ inl d ↦ inl (h.0, d) | inr d ↦ inr (inl (h.0, d)) ]
  rests_parted b p q r ws xs kids ns s (inr h) = inr (inr h)

-- a choice of two bodies keeps what bodies keep
choice_typed : (p q : Simple ℕ) → ((u : _) × (content_type p ≡ Some u)) → ((u : _) × (content_type q ≡ Some u)) → IsTyped (s_joined choice p q)
choice_typed p q a b =
    inl (_, ap (λ o. type_of_choice o (content_type q)) a.1 ∙ ap (λ o. type_of_choice (Some a.0) o) b.1)

one_typed : (b : Bool) (p q : Simple ℕ) → (b ≡ true → IsTyped p) → (b ≡ false → IsTyped q) → IsTyped (cond b p q)
one_typed true p q f h = f refl
one_typed false p q f h = h refl

not_none : (p : Simple ℕ) → is_not_allowed p ≡ false → p ≡ s_not_allowed → ⊥
not_none p e f = let a : is_not_allowed p ≡ true = ap is_not_allowed f in cc

choice_of-typed : (p q : Simple ℕ) → IsTyped p → IsTyped q → IsTyped (choice_of p q)
choice_of-typed p q a b =
    one_typed (is_not_allowed p) q _ (λ e. b)
    (λ e. one_typed (is_not_allowed q) p (s_joined choice p q) (λ f. a) (λ f. both_typed a b (not_none p e) (not_none q f))) where
      both_typed : IsTyped p → IsTyped q → (p ≡ s_not_allowed → ⊥) → (q ≡ s_not_allowed → ⊥) → IsTyped (s_joined choice p q)
      both_typed (inr e) b f h = absurd (f e)
      both_typed (inl u) (inr e) f h = absurd (h e)
      both_typed (inl u) (inl v) f h = choice_typed p q u v

pub bodies_restricted : (p q : Simple ℕ) → IsRestrictedBody p → IsRestrictedBody q → IsRestrictedBody (choice_of p q)
bodies_restricted p q a b = record {
  restricted = choice_of-keeps IsRestricted IsRestricted-hereditary p q a.restricted b.restricted;
  typed = choice_of-typed p q a.typed b.typed;
}
