-- The positions behind a text that is read so far.
use Rattle.std.proofs.Common.{◌≡◌, ◌↔◌, ◌∙◌, ◌<◌, ◌≤◌, ◌+◌, ℕ, List, [], ◌∷◌, ◌++◌, length, take, get_or, true, refl, sym, ap}
use Rattle.std.proofs.Common.{subst, inl, inr}
use Rattle.std.proofs.lemmas.List.{append_assoc, append-nil, take_more}
use Rattle.std.proofs.lemmas.List.Sums.{fold-append}
use Rattle.rng_model.specs.regexes.Expressions.{Regex, Denotes}
use Rattle.rng_model.specs.regexes.plain.LinearForms.{AcceptsState}
use Rattle.xsd_regex.specs.plain.StateTable.{state_at, Has}
use Rattle.xsd_regex.specs.plain.Positions.{Position, ArePositionsOf}
use Rattle.xsd_regex.proofs.OneOf.{one_among}
use Rattle.xsd_automaton.specs.plain.Closures.{AreWithin, IsClosed, next_at, nexts, has_number, with_new, with_all, AcceptsFrom}
use Rattle.xsd_automaton.specs.plain.Closures.{IsNoMore, AcceptTheSame, StepsTo, LeadsTo}
use Rattle.xsd_automaton.proofs.Edges.{behind_char, at_end, from_nexts}
use Rattle.xsd_automaton.proofs.Added.{has_if, has_then, all_have, all_only}

-- ---- loops

pub nexts-append : (ps : List Position) (c : ℕ) (is js : List ℕ) → nexts ps c (is ++ js) ≡ nexts ps c is ++ nexts ps c js
nexts-append ps c [] js = refl
nexts-append ps c (i ∷ is) js =
    ap (λ l. next_at ps c i ++ l) (nexts-append ps c is js) ∙ sym (append_assoc (next_at ps c i) (nexts ps c is) (nexts ps c js))

pub nexts_more : (ps : List Position) (c : ℕ) (is : List ℕ) (k : ℕ) → k < length is
    → nexts ps c (take (k + 1) is) ≡ nexts ps c (take k is) ++ next_at ps c (get_or is k 0)
nexts_more ps c is k lt =
    ap (nexts ps c) (take_more is k 0 lt) ∙ nexts-append ps c (take k is) (get_or is k 0 ∷ [])
    ∙ ap (λ l. nexts ps c (take k is) ++ l) (append-nil (next_at ps c (get_or is k 0)))

pub all_more : (is js : List ℕ) (k : ℕ) → k < length js → with_all is (take (k + 1) js) ≡ with_new (with_all is (take k js)) (get_or js k 0)
all_more is js k lt = ap (with_all is) (take_more js k 0 lt) ∙ fold-append with_new is (take k js) (get_or js k 0 ∷ [])

-- ---- steps

module _ (ps : List Position) where
  pub start_leads : (first : ℕ) (mid new : List ℕ) → mid ≡ first ∷ [] → ((i : ℕ) → Has mid i → Has new i) → IsNoMore ps mid new
      → LeadsTo ps first [] new
  start_leads first mid new e more no_more states are s = (
    λ a. one_among (λ i. AcceptsState (state_at states i) s) mid new more (subst (λ l. AcceptsFrom states l s) (sym e) (inl a)),
    λ h. only (subst (λ l. AcceptsFrom states l s) e (no_more states are s h)),
  )
    where
      only : AcceptsFrom states (first ∷ []) s → AcceptsState (state_at states first) s
      only (inl a) = a
      only (inr h) = absurd h

  -- the numbers are added, and what they lead to
  pub entered : (ns mid new : List ℕ) → mid ≡ with_all [] ns → ((i : ℕ) → Has mid i → Has new i) → IsNoMore ps mid new → AcceptTheSame ps ns new
  entered ns mid new all more no_more states are s = (to, back) where
    to : AcceptsFrom states ns s → AcceptsFrom states new s
    to h =
        one_among (λ i. AcceptsState (state_at states i) s) ns new (λ i a. more i (subst (λ l. Has l i) (sym all) (all_have [] ns i a))) h

    listed : (i : ℕ) → Has mid i → Has ns i
    listed i h = elim (all_only [] ns i (subst (λ l. Has l i) all h)) [ inl a ↦ absurd a | inr b ↦ b ]

    back : AcceptsFrom states new s → AcceptsFrom states ns s
    back h = one_among (λ i. AcceptsState (state_at states i) s) mid ns listed (no_more states are s h)

  pub step_is : (c : ℕ) (old ns new : List ℕ) → IsClosed ps old → ns ≡ nexts ps c old → AcceptTheSame ps ns new → StepsTo ps c old new
  step_is c old ns new closed found same states are s =
      let behind = behind_char ps c old closed states are s in
      let entered = same states are s in (
        λ h. entered.0 (subst (λ l. AcceptsFrom states l s) (sym found) (behind.0 h)),
        λ h. behind.1 (subst (λ l. AcceptsFrom states l s) found (entered.1 h)),
      )

  -- what is behind the positions is not past the end
  pub nexts_within : (c : ℕ) (is ns : List ℕ) → AreWithin ps → ns ≡ nexts ps c is → (i : ℕ) → Has ns i → i ≤ length ps
  nexts_within c is ns within e i h = let f = from_nexts ps c is i (subst (λ l. Has l i) e h) in within.next c f.0 i f.2

  pub leads_on : (first c : ℕ) (read is js : List ℕ) → LeadsTo ps first read is → StepsTo ps c is js → LeadsTo ps first (read ++ c ∷ []) js
  leads_on first c read is js leads steps states are s =
      let e = append_assoc read (c ∷ []) s in (
        λ a. (steps states are s).0 ((leads states are (c ∷ s)).0 (subst (AcceptsState (state_at states first)) e a)),
        λ h. subst (AcceptsState (state_at states first)) (sym e) ((leads states are (c ∷ s)).1 ((steps states are s).1 h)),
      )

  -- at the end of the text
  pub judged : (r : Regex) (first : ℕ) (s : List ℕ) (is : List ℕ) → ArePositionsOf r first ps → IsClosed ps is → LeadsTo ps first s is
      → (has_number is (length ps) ≡ true) ↔ Denotes r s
  judged r first s is of closed leads = (
    λ e. of.back s (subst (AcceptsState (state_at of.states first)) (append-nil s)
        ((leads of.states of.are []).1 ((at_end ps is closed of.states of.are).1 (has_then is (length ps) e)))),
    λ m. has_if is (length ps) ((at_end ps is closed of.states of.are).0 ((leads of.states of.are []).0
        (subst (AcceptsState (state_at of.states first)) (sym (append-nil s)) (of.to s m)))),
  )
