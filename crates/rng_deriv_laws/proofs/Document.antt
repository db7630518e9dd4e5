-- A whole document: the start takes only the root exactly if the state after the root accepts.
use Rattle.std.proofs.Common.{◌≡◌, ℕ, List, [], ◌∷◌, refl, Bool, true, false, cond}
use Rattle.rng_model.specs.names.Names.{Name}
use Rattle.rng_model.specs.simple.Tree.{Simple}
use Rattle.rng_model.specs.matching.Document.{Attribute, Item, a_text, an_element, Items, no_items, item_and, list_of}
use Rattle.rng_model.specs.plain.WellFormed.{Separate, IsWellFormed, AreWellFormed}
use Rattle.rng_model.specs.datatypes.Texts.{is_blank}
use Rattle.rng_model.specs.matching.GrammarMatching.{Reading}
use Rattle.rng_deriv_laws.specs.plain.Taking.{Takes}
use Rattle.rng_deriv_laws.specs.plain.Restricted.{IsRestricted}
use Rattle.rng_deriv_laws.specs.plain.Blanks.{Every, cons, IsNotBlank, has_element, without_blanks, string_of}
use Rattle.rng_deriv_laws.specs.plain.States.{State, finished, after_of, end_tag, accepts, start_tag, string, end_text, after_items, after_item, Holds, Begins}
use Rattle.rng_deriv_laws.specs.plain.States.{HasRestrictedBodies, IsRestrictedState}
use Rattle.rng_deriv_laws.proofs.KeptRestrictions.{either_one}
use Rattle.rng_deriv_laws.proofs.PutBlanks.{without_is_clean}
use Rattle.rng_deriv_laws.proofs.States.{holds_after, holds_after_out, after_of-restricted}
use Rattle.rng_deriv_laws.proofs.Levels.{start_tag_in, start_tag_out, start_tag_restricted, begins_in, begins_out, string_in, string_out, string_restricted}
use Rattle.rng_deriv_laws.proofs.Levels.{end_in, end_out}
use Rattle.rng_deriv_laws.proofs.Levels.{end_restricted, end_text_in, end_text_out, end_text_restricted, accepts_in, accepts_out}

module _ (g : Reading) (bodies : HasRestrictedBodies g) where
  text_restricted : (s : List ℕ) (r : State) → IsRestrictedState r → IsRestrictedState (cond (is_blank s) r (string g r s))
  text_restricted s r o = either_one IsRestrictedState (is_blank s) r (string g r s) o (string_restricted g r o s)

  items_restricted : (ns : Items) (r : State) → IsRestrictedState r → IsRestrictedState (after_items g ns r)
  items_restricted no_items r o = o
  items_restricted (item_and (a_text s) ns) r o = items_restricted ns _ (text_restricted s r o)
  items_restricted (item_and (an_element q xs kids) ns) r o =
      let k = start_tag_restricted g bodies r o q xs in
      items_restricted ns _
      (either_one IsRestrictedState (has_element (list_of kids)) _ _ (end_restricted g _ (items_restricted kids (start_tag g r q xs) k))
      (end_text_restricted g (start_tag g r q xs) k (string_of (list_of kids))))

  -- a string among children, blank or not
  among_in : (s : List ℕ) (b : Bool) → is_blank s ≡ b → (r : State) → IsRestrictedState r → (ns : List Item) (ls : List (List Item)) → Every IsNotBlank ns →
      Holds g r (cond b ns (a_text s ∷ ns) ∷ ls) → Holds g (cond b r (string g r s)) (ns ∷ ls)
  among_in s true e r o ns ls all h = h
  among_in s false e r o ns ls all h = string_in g r o s ns ls (cons e all) h

  among_out : (s : List ℕ) (b : Bool) → is_blank s ≡ b → (r : State) → IsRestrictedState r → (ns : List Item) (ls : List (List Item)) →
      Holds g (cond b r (string g r s)) (ns ∷ ls) → Holds g r (cond b ns (a_text s ∷ ns) ∷ ls)
  among_out s true e r o ns ls h = h
  among_out s false e r o ns ls h = string_out g r o s ns ls h

  -- the content and the end of an element that just started
  close_in : (kids : Items) → Separate (list_of kids) → (r : State) → IsRestrictedState r → (ls : List (List Item)) →
      (Holds g r (without_blanks (list_of kids) ∷ ls) → Holds g (after_items g kids r) ([] ∷ ls)) → (b : Bool) → has_element (list_of kids) ≡ b →
      Begins g r (list_of kids) ls → Holds g (cond b (end_tag (after_items g kids r)) (end_text g r (string_of (list_of kids)))) ls
  close_in kids apart r o ls inside true e h = end_in g _ ls (inside (begins_in g r (list_of kids) ls e h))
  close_in kids apart r o ls inside false e h = end_text_in g r o (list_of kids) apart e ls h

  close_out : (kids : Items) → Separate (list_of kids) → (r : State) → IsRestrictedState r → (ls : List (List Item)) →
      (Holds g (after_items g kids r) ([] ∷ ls) → Holds g r (without_blanks (list_of kids) ∷ ls)) → (b : Bool) → has_element (list_of kids) ≡ b →
      Holds g (cond b (end_tag (after_items g kids r)) (end_text g r (string_of (list_of kids)))) ls → Begins g r (list_of kids) ls
  close_out kids apart r o ls inside true e h = begins_out g r (list_of kids) ls e (inside (end_out g _ ls h))
  close_out kids apart r o ls inside false e h = end_text_out g r o (list_of kids) apart e ls h

  items_in : (ns : Items) → AreWellFormed ns → (r : State) → IsRestrictedState r → (ls : List (List Item)) → Holds g r (without_blanks (list_of ns) ∷ ls)
      → Holds g (after_items g ns r) ([] ∷ ls)
  items_in no_items f r o ls h = h
  items_in (item_and (a_text s) ns) f r o ls h =
      items_in ns f.1 _ (text_restricted s r o) ls (among_in s (is_blank s) refl r o _ ls (without_is_clean (list_of ns)) h)
  items_in (item_and (an_element q xs kids) ns) f r o ls h =
      let k = start_tag_restricted g bodies r o q xs in
      items_in ns f.1 _
      (either_one IsRestrictedState (has_element (list_of kids)) _ _ (end_restricted g _ (items_restricted kids (start_tag g r q xs) k))
      (end_text_restricted g (start_tag g r q xs) k (string_of (list_of kids)))) ls
      (close_in kids f.0.1 (start_tag g r q xs) k (without_blanks (list_of ns) ∷ ls)
      (items_in kids f.0.2 (start_tag g r q xs) k (without_blanks (list_of ns) ∷ ls)) (has_element (list_of kids)) refl
      (start_tag_in g bodies r o q xs kids (without_blanks (list_of ns)) ls (without_is_clean (list_of ns)) h))

  items_out : (ns : Items) → AreWellFormed ns → (r : State) → IsRestrictedState r → (ls : List (List Item)) → Holds g (after_items g ns r) ([] ∷ ls)
      → Holds g r (without_blanks (list_of ns) ∷ ls)
  items_out no_items f r o ls h = h
  items_out (item_and (a_text s) ns) f r o ls h =
      among_out s (is_blank s) refl r o _ ls (items_out ns f.1 _ (text_restricted s r o) ls h)
  items_out (item_and (an_element q xs kids) ns) f r o ls h =
      let k = start_tag_restricted g bodies r o q xs in
      start_tag_out g bodies r o q xs kids (without_blanks (list_of ns)) ls f.0.0 f.0.1
      (close_out kids f.0.1 (start_tag g r q xs) k (without_blanks (list_of ns) ∷ ls)
      (items_out kids f.0.2 (start_tag g r q xs) k (without_blanks (list_of ns) ∷ ls)) (has_element (list_of kids)) refl
      (items_out ns f.1 _
      (either_one IsRestrictedState (has_element (list_of kids)) _ _ (end_restricted g _ (items_restricted kids (start_tag g r q xs) k))
      (end_text_restricted g (start_tag g r q xs) k (string_of (list_of kids)))) ls h))

  module _ (p : Simple ℕ) (o : IsRestricted p) (q : Name) (xs : List Attribute) (kids : Items) (formed : IsWellFormed (an_element q xs kids)) where
    begun : IsRestrictedState (after_of p finished)
    begun = after_of-restricted p finished o tt

    pub root_in : Takes g p [] (an_element q xs kids ∷ []) → accepts (after_item g (an_element q xs kids) (after_of p finished)) ≡ true
    root_in d =
        accepts_in g _ (items_in (item_and (an_element q xs kids) no_items) (formed, tt) (after_of p finished) begun []
        (holds_after g p finished (an_element q xs kids ∷ []) [] d tt))

    pub root_out : accepts (after_item g (an_element q xs kids) (after_of p finished)) ≡ true → Takes g p [] (an_element q xs kids ∷ [])
    root_out e =
        (holds_after_out g p finished (an_element q xs kids ∷ []) []
        (items_out (item_and (an_element q xs kids) no_items) (formed, tt) (after_of p finished) begun [] (accepts_out g _ e))).0
