-- The ways of a group that begins with copies of a pattern that may be left out: those of a copy, and those of what is
-- after all copies.
use Rattle.std.proofs.Common.{◌≡◌, ◌∙◌, ◌⊎◌, ◌≤◌, inl, inr, ⊎_elim, ℕ, List, [], ◌∷◌, ◌++◌, append-nil, append_assoc, refl, sym, ap, subst, arith}
use Rattle.rng_model.specs.names.Lists.{Among, here, there}
use Rattle.rng_model.specs.simple.Tree.{Simple, group, s_joined}
use Rattle.rng_model.specs.matching.Document.{Item}
use Rattle.rng_model.specs.matching.Document as document
use Rattle.rng_deriv_laws.specs.plain.Blanks.{IsBare}
use Rattle.rng_deriv_laws.specs.plain.Derivatives as tree
use Rattle.rng_deriv_laws.specs.plain.Derivatives.{behind, item_ways}
use Rattle.rng_model.specs.matching.GrammarMatching.{Reading}
use Rattle.rng_deriv_laws.specs.plain.Taking.{Same, Takes}
use Rattle.rng_deriv_laws.specs.plain.Taking as t
use Rattle.rng_deriv_laws.specs.plain.Ways.{AreItemWays, TakesItem}
use Rattle.rng_deriv_laws.proofs.SameWays.{item_among, item_way}
use Rattle.rng_deriv_laws.proofs.KeptRestrictions.{IsHereditary}
use Rattle.rng_deriv_laws.proofs.ItemWays.{group_ways, item_in_first, item_of_both, item_ways-are}
use Rattle.rng_deriv_laws.proofs.SamePatterns.{same, same_through}
use Rattle.rng_deriv_laws.proofs.ListFacts.{bare_cut}
use Rattle.rng_deriv_table.specs.plain.Copies.{AreCopies, IsBehindCopies, IsOfCopies, IsOpened, as_it_is, both, copies_before, nothing_before, once_more, one}
use Rattle.rng_deriv_ways.specs.plain.Kinds.{weight}
use Rattle.rng_deriv_ways.proofs.WaysOfSides.{HandsOn, opened_hands_on, opened_same}
use Rattle.rng_deriv_ways.proofs.SideWeights.{opened_less, right_less}

module _ (g : Reading) (copy : Simple ℕ) (ends : Takes g copy [] []) where
  -- ---- copies

  copies_end : (p : Simple ℕ) → AreCopies copy p → Takes g p [] []
  copies_end p (one e) = subst (λ p. Takes g p [] []) (sym e) ends
  copies_end (s_joined group p q) (both a b) = t.grouped (copies_end p a) (copies_end q b) document.done refl

  -- the pattern takes the items as a copy and then itself
  pub record HasCopyFirst (p : Simple ℕ) (n : Item) (ns : List Item) : Type 0 where
    pub own : List Item
    pub others : List Item
    pub parts : own ++ others ≡ ns
    pub first : Takes g copy [] (n ∷ own)
    pub later : Takes g p [] others

  first_of_both : (p q : Simple ℕ) → ((n : Item) (ns : List Item) → Takes g p [] (n ∷ ns) → HasCopyFirst p n ns)
      → ((n : Item) (ns : List Item) → Takes g q [] (n ∷ ns) → HasCopyFirst q n ns) → Takes g p [] []
      → (n : Item) (ns ms os : List Item) → Takes g p [] ms → Takes g q [] os → ms ++ os ≡ n ∷ ns → HasCopyFirst (s_joined group p q) n ns
  first_of_both p q a b end n ns [] os d e c =
      let h = b n ns (subst (λ os. Takes g q [] os) c e) in record {
        own = h.own;
        others = h.others;
        parts = h.parts;
        first = h.first;
        later = t.grouped end h.later document.done refl;
      }
  first_of_both p q a b end n ns (m ∷ ms) os d e c =
      let same : m ≡ n = cc in
      let rest : ms ++ os ≡ ns = cc in
      let h = a n ms (subst (λ m. Takes g p [] (m ∷ ms)) same d) in record {
        own = h.own;
        others = h.others ++ os;
        parts = sym (append_assoc h.own h.others os) ∙ ap (λ l. l ++ os) h.parts ∙ rest;
        first = h.first;
        later = t.grouped h.later e document.done refl;
      }

  first_copy : (p : Simple ℕ) → AreCopies copy p → (n : Item) (ns : List Item) → Takes g p [] (n ∷ ns) → HasCopyFirst p n ns
  first_copy p (one e) n ns d = record {
    own = ns;
    others = [];
    parts = append-nil ns;
    first = subst (λ p. Takes g p [] (n ∷ ns)) e d;
    later = subst (λ p. Takes g p [] []) (sym e) ends;
  }
  first_copy (s_joined group p q) (both a b) n ns (t.grouped {ms = ms} {ns = os} d e document.done c) =
      first_of_both p q (first_copy p a) (first_copy q b) (copies_end p a) n ns ms os d e c

  -- ---- what is after them

  pub behind_taken : (whole rest : Simple ℕ) → IsBehindCopies copy whole rest → (ns : List Item) → Takes g rest [] ns → Takes g whole [] ns
  behind_taken whole rest (nothing_before e) ns d = subst (λ p. Takes g p [] ns) e d
  behind_taken whole rest (copies_before {front} a k) ns d =
      behind_taken whole (s_joined group front rest) k ns (t.grouped (copies_end front a) d document.done refl)

  in_front : (whole front rest : Simple ℕ) → AreCopies copy front → IsBehindCopies copy whole (s_joined group front rest)
      → (n : Item) (ns ms os : List Item) → Takes g front [] ms → Takes g rest [] os → ms ++ os ≡ n ∷ ns
      → HasCopyFirst whole n ns ⊎ Takes g rest [] (n ∷ ns)
  in_front whole front rest a k n ns [] os d e c = inr (subst (λ os. Takes g rest [] os) c e)
  in_front whole front rest a k n ns (m ∷ ms) os d e c =
      let same : m ≡ n = cc in
      let parts : ms ++ os ≡ ns = cc in
      let h = first_copy front a n ms (subst (λ m. Takes g front [] (m ∷ ms)) same d) in
      inl (record {
        own = h.own;
        others = h.others ++ os;
        parts = sym (append_assoc h.own h.others os) ∙ ap (λ l. l ++ os) h.parts ∙ parts;
        first = h.first;
        later = behind_taken whole (s_joined group front rest) k (h.others ++ os) (t.grouped h.later e document.done refl);
      })

  front_or : (whole front rest : Simple ℕ) → AreCopies copy front → IsBehindCopies copy whole (s_joined group front rest)
      → (n : Item) (ns : List Item) → Takes g (s_joined group front rest) [] (n ∷ ns) → HasCopyFirst whole n ns ⊎ Takes g rest [] (n ∷ ns)
  front_or whole front rest a k n ns (t.grouped {ms = ms} {ns = os} d e document.done c) = in_front whole front rest a k n ns ms os d e c

  -- a copy takes an item with the whole after it, or what is after the copies takes it
  pub begins : (whole rest : Simple ℕ) → IsBehindCopies copy whole rest → (n : Item) (ns : List Item) → Takes g whole [] (n ∷ ns)
      → HasCopyFirst whole n ns ⊎ Takes g rest [] (n ∷ ns)
  begins whole rest (nothing_before e) n ns d = inr (subst (λ p. Takes g p [] (n ∷ ns)) (sym e) d)
  begins whole rest (copies_before {front} a k) n ns d =
      ⊎_elim (λ h. inl h) (λ d. front_or whole front rest a k n ns d) (begins whole (s_joined group front rest) k n ns d)

  pub begins_alone : (whole : Simple ℕ) → IsOfCopies copy whole → (n : Item) (ns : List Item) → Takes g whole [] (n ∷ ns) → HasCopyFirst whole n ns
  begins_alone whole (rest, k, a) n ns d = ⊎_elim (λ h. h)
      (λ d. let h = first_copy rest a n ns d in record {
        own = h.own;
        others = h.others;
        parts = h.parts;
        first = h.first;
        later = behind_taken whole rest k h.others h.later;
      }) (begins whole rest k n ns d)

  -- ---- the law

  module _ (Kind : Item → Type 0) (q : Simple ℕ) (f : Simple ℕ → Simple ℕ) (ws : List tree.Way) (on : (r : Simple ℕ) → Same g (f r) (s_joined group r q))
      (a : AreItemWays g Kind copy ws) where
    behind_among : (vs : List tree.Way) (v : tree.Way) → Among v vs → Among (record { leaf = v.leaf; rest = f v.rest }) (behind f vs)
    behind_among [] v a = elim a [ ]
    behind_among (w ∷ vs) v here = here
    behind_among (w ∷ vs) v (there a) = there (behind_among vs v a)

    -- a way of the copy, and then q
    pub by_way : (n : Item) (ms os ns : List Item) (w : tree.Way) → Among w ws → Takes g w.leaf [] (n ∷ []) → Takes g w.rest [] ms → Takes g q [] os
        → ms ++ os ≡ ns → TakesItem g (behind f ws) n ns
    by_way n ms os ns w among leaf rest later parts =
        item_among g (behind f ws) _ n ns (behind_among ws w among) leaf ((on w.rest).back [] ns (t.grouped rest later document.done parts))

    by_copy : (n : Item) (ns : List Item) → Kind n → IsBare (n ∷ ns) → HasCopyFirst q n ns → TakesItem g (behind f ws) n ns
    by_copy n ns kind bare h =
        let part = bare_cut (n ∷ h.own) h.others (subst (λ l. IsBare (n ∷ l)) (sym h.parts) bare) in
        let w = item_way g ws n h.own (a.to n h.own kind part.0 h.first) in
        by_way n h.own h.others ns w.0 w.1 w.2 w.3 h.later h.parts

    -- what q takes first is taken by a copy or by other ways
    module _ (left : List tree.Way)
        (to_q : (n : Item) (ns : List Item) → Kind n → IsBare (n ∷ ns) → Takes g q [] (n ∷ ns) → HasCopyFirst q n ns ⊎ TakesItem g (behind f ws ++ left) n ns)
        (of_q : (n : Item) (ns : List Item) → TakesItem g left n ns → Takes g q [] (n ∷ ns)) where
      to_parts : (n : Item) (ns ms os : List Item) → Kind n → IsBare (n ∷ ns) → Takes g copy [] ms → Takes g q [] os → ms ++ os ≡ n ∷ ns
          → TakesItem g (behind f ws ++ left) n ns
      to_parts n ns [] os kind bare d e c = ⊎_elim (λ h. item_in_first g (behind f ws) left n ns (by_copy n ns kind bare h)) (λ k. k)
          (to_q n ns kind bare (subst (λ os. Takes g q [] os) c e))
      to_parts n ns (m ∷ ms) os kind bare d e c =
          let same : m ≡ n = cc in
          let parts : ms ++ os ≡ ns = cc in
          item_in_first g (behind f ws) left n ns (by_copy n ns kind bare (record {
            own = ms;
            others = os;
            parts = parts;
            first = subst (λ m. Takes g copy [] (m ∷ ms)) same d;
            later = e;
          }))

      to : (n : Item) (ns : List Item) → Kind n → IsBare (n ∷ ns) → Takes g (s_joined group copy q) [] (n ∷ ns) → TakesItem g (behind f ws ++ left) n ns
      to n ns kind bare (t.grouped {ms = ms} {ns = os} d e document.done c) = to_parts n ns ms os kind bare d e c

      back : (n : Item) (ns : List Item) → TakesItem g (behind f ws ++ left) n ns → Takes g (s_joined group copy q) [] (n ∷ ns)
      back n ns h = ⊎_elim
          (λ k. (group_ways g Kind copy q f ws (item_ways q) on a (item_ways-are g Kind q)).back n ns (item_in_first g (behind f ws) _ n ns k))
          (λ k. t.grouped ends (of_q n ns k) document.done refl) (item_of_both g (behind f ws) left n ns h)

      pub with_copies : AreItemWays g Kind (s_joined group copy q) (behind f ws ++ left)
      with_copies = record { to = to; back = back }

-- ---- patterns whose first side is reassociated

pub opened_takes : (g : Reading) (p q front rest : Simple ℕ) → IsOpened p q front rest → Same g (s_joined group front rest) (s_joined group p q)
opened_takes g p q front rest (as_it_is e f) =
    subst (λ p. Same g (s_joined group front rest) (s_joined group p q)) e
    (subst (λ q. Same g (s_joined group front rest) (s_joined group front q)) f (same g (s_joined group front rest)))
opened_takes g p q outer rest (once_more {inner = inner} {behind = later} h e) =
    subst (λ rest. Same g (s_joined group outer rest) (s_joined group p q)) (sym e)
    (same_through g (opened_same g outer inner later) (opened_takes g p q (s_joined group outer inner) later h))

pub opened_gives : (p q front rest : Simple ℕ) → IsOpened p q front rest → HandsOn (s_joined group p q) (s_joined group front rest)
opened_gives p q front rest (as_it_is e f) = λ Q hereditary h.
    subst (λ front. Q (s_joined group front rest)) (sym e) (subst (λ rest. Q (s_joined group p rest)) (sym f) h)
opened_gives p q outer rest (once_more {inner = inner} {behind = later} h e) = λ Q hereditary k.
    subst (λ rest. Q (s_joined group outer rest)) (sym e)
    (opened_hands_on outer inner later Q hereditary (opened_gives p q (s_joined group outer inner) later h Q hereditary k))

pub opened_weight : (p q front rest : Simple ℕ) → IsOpened p q front rest → weight (s_joined group front rest) ≤ weight (s_joined group p q)
opened_weight p q front rest (as_it_is e f) = let a = ap weight e in let b = ap weight f in omega (arith, a, b)
opened_weight p q outer rest (once_more {inner = inner} {behind = later} h e) =
    let a = opened_less outer inner later in
    let b = opened_weight p q (s_joined group outer inner) later h in
    let c = ap (λ rest. weight (s_joined group outer rest)) e in
    omega (arith, a, b, c)

pub behind_weight : (copy whole rest : Simple ℕ) → IsBehindCopies copy whole rest → weight rest ≤ weight whole
behind_weight copy whole rest (nothing_before e) = let a = ap weight e in omega (arith, a)
behind_weight copy whole rest (copies_before {front} a k) =
    let b = behind_weight copy whole (s_joined group front rest) k in
    let c = right_less group front rest in
    omega (arith, b, c)

pub behind_has : (Q : Simple ℕ → Type 0) → IsHereditary Q → (copy whole rest : Simple ℕ) → IsBehindCopies copy whole rest → Q whole → Q rest
behind_has Q hereditary copy whole rest (nothing_before e) h = subst Q (sym e) h
behind_has Q hereditary copy whole rest (copies_before {front} a k) h =
    (hereditary.sides group front rest (behind_has Q hereditary copy whole (s_joined group front rest) k h)).1
