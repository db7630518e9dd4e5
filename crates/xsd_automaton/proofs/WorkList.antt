-- The work list: the positions so far, of which the first ones have been followed.
use Rattle.std.proofs.Common.{◌≡◌, ◌∙◌, ◌⊎◌, ◌<◌, ◌≤◌, ◌+◌, ℕ, zero, suc, List, [], ◌∷◌, ◌++◌, length, Some, None, refl, sym, ap}
use Rattle.std.proofs.Common.{subst, get_or, inl, inr, arith}
use Rattle.std.specs.List.{slice_get}
use Rattle.std.proofs.lemmas.Bool.{cases_lt}
use Rattle.std.proofs.lemmas.Option.{slice_get_within, slice_get-get_or}
use Rattle.std.proofs.lemmas.List.{length-append}
use Rattle.xsd_regex.specs.plain.StateTable.{Has}
use Rattle.xsd_regex.specs.plain.Positions.{Position}
use Rattle.xsd_automaton.specs.plain.Closures.{edges, with_all, AreWithin, IsClosed, IsNoMore}
use Rattle.xsd_automaton.proofs.Edges.{edges_sound}
use Rattle.xsd_automaton.proofs.Added.{all_keep, all_have, all_only, all_extend}

-- ---- places of a list

pub has_at : (is : List ℕ) (k i : ℕ) → slice_get is k ≡ Some i → Has is i
has_at [] k i e = absurd (cc)
has_at (x ∷ is) zero i e = inl (cc)
has_at (x ∷ is) (suc k) i e = inr (has_at is k i e)

pub place_of : (is : List ℕ) (i : ℕ) → Has is i → (k : ℕ) × (slice_get is k ≡ Some i)
place_of [] i h = absurd h
place_of (x ∷ is) i (inl e) = (0, ap Some (sym e))
place_of (x ∷ is) i (inr h) = let p = place_of is i h in (suc p.0, p.1)

first_stays : (is js : List ℕ) (k : ℕ) → k < length is → slice_get (is ++ js) k ≡ slice_get is k
first_stays [] js k h = absurd (omega (arith, h))
first_stays (x ∷ is) js zero h = refl
first_stays (x ∷ is) js (suc k) h = first_stays is js k (omega (arith, h))

past_none : (is : List ℕ) (k : ℕ) → k < length is → slice_get is k ≡ None → ⊥
past_none is k lt e = let f : Some (get_or is k 0) ≡ None = sym (slice_get-get_or is k 0 lt) ∙ e in cc

some_is : (a b : ℕ) → Some a ≡ Some b → a ≡ b
some_is a b e = cc

module _ (ps : List Position) (old : List ℕ) where
  pub record IsClosing (now : List ℕ) (place : ℕ) : Type 0 where
    pub within : (i : ℕ) → Has now i → i ≤ length ps
    pub more : (i : ℕ) → Has old i → Has now i
    pub no_more : IsNoMore ps old now
    pub reach : place ≤ length now
    pub followed : (k i j : ℕ) → k < place → slice_get now k ≡ Some i → Has (edges ps i) j → Has now j

  pub starts : ((i : ℕ) → Has old i → i ≤ length ps) → IsClosing old 0
  starts known = record {
    within = known;
    more = λ i h. h;
    no_more = λ states are s h. h;
    reach = omega arith;
    followed = λ k i j lt e h. absurd (omega (arith, lt));
  }

  module _ (known : AreWithin ps) (now next : List ℕ) (place n : ℕ) (is : IsClosing now place) (at : slice_get now place ≡ Some n)
      (e : next ≡ with_all now (edges ps n)) where
    keeps : (i : ℕ) → Has now i → Has next i
    keeps i h = subst (λ l. Has l i) (sym e) (all_keep now (edges ps n) i h)

    has_edges : (i : ℕ) → Has (edges ps n) i → Has next i
    has_edges i h = subst (λ l. Has l i) (sym e) (all_have now (edges ps n) i h)

    only : (i : ℕ) → Has next i → Has now i ⊎ Has (edges ps n) i
    only i h = all_only now (edges ps n) i (subst (λ l. Has l i) e h)

    followed : (k i j : ℕ) → k < place + 1 → slice_get next k ≡ Some i → Has (edges ps i) j → Has next j
    followed k i j lt at' h =
        let ext = all_extend now (edges ps n) in
        let place_within = slice_get_within now place n at in
        let same : slice_get next k ≡ slice_get now k =
        ap (λ l. slice_get l k) (e ∙ ext.1) ∙ first_stays now ext.0 k (omega (arith, lt, place_within)) in
        elim (cases_lt k place) [
          | inl before ↦ keeps j (is.followed k i j before (sym same ∙ at') h)
          | inr here ↦
              let k_is : k ≡ place = omega (arith, here, lt) in
              let i_is : Some n ≡ Some i = sym at ∙ ap (slice_get now) (sym k_is) ∙ sym same ∙ at' in
              has_edges j (subst (λ l. Has (edges ps l) j) (sym (some_is n i i_is)) h)
        ]

    pub goes_on : IsClosing next (place + 1)
    goes_on = record {
      within = λ i h. elim (only i h) [ inl a ↦ is.within i a | inr b ↦ known.edge n i b ];
      more = λ i h. keeps i (is.more i h);
      no_more = λ states are s h. is.no_more states are s (edges_sound states ps are now next n (has_at now place n at) only s h);
      reach =
          let ext = all_extend now (edges ps n) in
          let place_within = slice_get_within now place n at in
          let both = length-append now ext.0 in
          let len = ap (λ l. length l) (e ∙ ext.1) in omega (arith, place_within, both, len);
      followed = followed;
    }

  pub is_done : (now : List ℕ) (place : ℕ) → IsClosing now place → slice_get now place ≡ None → IsClosed ps now
  is_done now place is none = record { within = is.within; closed = closed } where
    closed : (i j : ℕ) → Has now i → Has (edges ps i) j → Has now j
    closed i j h edge =
        let p = place_of now i h in
        let lt = slice_get_within now p.0 i p.1 in
        elim (cases_lt p.0 place) [
          | inl before ↦ is.followed p.0 i j before p.1 edge
          | inr past ↦ absurd (past_none now place (omega (arith, lt, past)) none)
        ]
