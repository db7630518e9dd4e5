-- The end of an element, one way out after another, in a table that grows.
use Rattle.std.proofs.Common.{◌≡◌, ◌↔◌, ◌⊎◌, inl, inr, ℕ, ◌<◌, ◌+◌, zero, suc, List, [], ◌∷◌, ◌++◌, drop, length, map, take, refl, ⊎_elim}
use Rattle.std.proofs.Common.{sym, ap, ◌∙◌, subst, Bool, true, ◌||◌, ◌&&◌, All}
use Rattle.std.proofs.Common.{slice_get, slice_set, slice_index_or, replicate, Contains, Some, arith}
use Rattle.std.specs.List.{AllZip}
use Rattle.std.specs.Option.{option_map}
use Rattle.std.proofs.lemmas.Option.{same_Some, slice_get-map, slice_get-get_or, slice_get_within}
use Rattle.std.proofs.lemmas.List.{length-set, length-replicate, drop_more, take_more, get_or-set_same}
use Rattle.std.proofs.lemmas.List.Elements.{All-weaker, All-cons, All-head, All-nil, All-drop, All-map, All-contains, All-set, All-replicate}
use Rattle.std.proofs.lemmas.List.Elements.{Contains-append_left, Contains-append_right, Contains-push, Contains-push_cases}
use Rattle.rng_model.proofs.Members.{one_only}
use Rattle.rng_model.proofs.Places.{contains_at}
use Rattle.rng_model.specs.simple.Tree.{Simple}
use Rattle.rng_model.specs.matching.Document.{Item}
use Rattle.rng_model.specs.datatypes.Texts.{is_blank}
use Rattle.rng_model.specs.matching.GrammarMatching.{Reading}
use Rattle.rng_deriv_laws.specs.plain.Taking.{Takes}
use Rattle.rng_deriv_laws.specs.plain.Derivatives.{is_not_allowed, is_nullable}
use Rattle.rng_deriv_laws.specs.plain.LevelStates as level
use Rattle.rng_deriv_laws.specs.plain.LevelStates.{AreEnded, EndsNow, EndsWith, IsAfterText}
use Rattle.rng_deriv_laws.proofs.Levels.States.{beside_first, nullable_may_end, may_end_with}
use Rattle.rng_deriv_laws.proofs.States.{none_taken}
use Rattle.rng_deriv_laws.proofs.Levels.Steps.{none_ended, ended_no_more, ended_more}
use Rattle.rng_deriv_table.specs.declared.pattern.PatternNumber.{PatternNumber}
use Rattle.rng_deriv_events.specs.views.Numbers.{IsInside, tree_of, Adds, IsChoiceOf}
use Rattle.rng_deriv_events.specs.views.Levels.{link_of, IsOnlyRest, IsRestWithin, AreEndsWith, LeavesBy, AddsEnded}
use Rattle.rng_deriv_events.specs.declared.level_table.link.Link.{Link}
use Rattle.rng_deriv_events.proofs.Numbers.{longer_same, longer_through, inside_stays, all_inside_stay, trees_stay, map_push}
use Rattle.rng_deriv_events.proofs.AddedLinks.{zip_push}
use Rattle.rng_deriv_events.proofs.StartedElements.{links_stay}

set_other : {A : Type 0} (xs : List A) (i j : ℕ) (y : A) → (j ≡ i → ⊥) → slice_get (slice_set xs i y) j ≡ slice_get xs j
set_other [] i j y f = refl
set_other (x ∷ xs) zero zero y f = absurd (f refl)
set_other (x ∷ xs) zero (suc j) y f = refl
set_other (x ∷ xs) (suc i) zero y f = refl
set_other (x ∷ xs) (suc i) (suc j) y f = set_other xs i j y (λ e. f (ap suc e))

one_of_two : (p q m : PatternNumber) → Contains (p ∷ q ∷ []) m → (m ≡ p) ⊎ (m ≡ q)
one_of_two p q m (zero, lt, e) = inl (sym e)
one_of_two p q m (suc zero, lt, e) = inr (sym e)
one_of_two p q m (suc (suc k), lt, e) = absurd (omega (arith, lt))

-- a pattern alone is a choice of it and a pattern that is notAllowed
pub beside_none : (g : Reading) (trees : List (Simple ℕ)) (p q : PatternNumber) → IsInside trees q → is_not_allowed (tree_of trees p) ≡ true →
    Adds (IsChoiceOf g trees (p ∷ q ∷ [])) trees trees q
beside_none g trees p q inside none = record {
  longer = longer_same trees;
  inside = inside;
  is = λ ns. (λ t. (q, contains_at (p ∷ q ∷ []) 1 q refl, t), by ns);
} where
  by : (ns : List Item) → ((m : PatternNumber) × Contains (p ∷ q ∷ []) m × Takes g (tree_of trees m) [] ns) → Takes g (tree_of trees q) [] ns
  by ns (m, in_both, t) = elim (one_of_two p q m in_both) [
    | inl e ↦ absurd (none_taken g (tree_of trees p) ns none (subst (λ m. Takes g (tree_of trees m) [] ns) e t))
    | inr e ↦ subst (λ m. Takes g (tree_of trees m) [] ns) e t
  ]

-- a way out of an alternative that is not good changes nothing
pub leaves_nothing : (g : Reading) (good : List Bool) (trees : List (Simple ℕ)) (l : Link) (before : List PatternNumber) → All (IsInside trees) before →
    (slice_get good l.inner ≡ Some true → ⊥) → LeavesBy g good trees trees l before before
leaves_nothing g good trees l before inside bad = record {
  longer = longer_same trees;
  inside = inside;
  count = refl;
  ended = λ links e. ended_no_more g good links (map (tree_of trees) before) e (link_of trees l) bad;
}

module _ (g : Reading) (good : List Bool) (old new : List (Simple ℕ)) (l : Link) (before : List PatternNumber) (place joined : PatternNumber)
    (is_good : slice_get good l.inner ≡ Some true) (inside : All (IsInside old) before) (at : slice_get before l.outer ≡ Some place)
    (a : Adds (IsChoiceOf g old (place ∷ l.rest ∷ [])) old new joined) where
  was : slice_get (map (tree_of old) before) l.outer ≡ Some (tree_of old place)
  was = slice_get-map (tree_of old) before l.outer ∙ ap (option_map (tree_of old)) at

  now : slice_get (map (tree_of new) (slice_set before l.outer joined)) l.outer ≡ Some (tree_of new joined)
  now =
      let lt = slice_get_within before l.outer place at in
      let long = length-set before l.outer joined in
      let got : slice_get (slice_set before l.outer joined) l.outer ≡ Some joined =
      slice_get-get_or (slice_set before l.outer joined) l.outer joined (omega (arith, lt, long)) ∙ ap Some (get_or-set_same before l.outer joined joined lt) in
      slice_get-map (tree_of new) (slice_set before l.outer joined) l.outer ∙ ap (option_map (tree_of new)) got

  others : (i : ℕ) → (i ≡ l.outer → ⊥) → slice_get (map (tree_of new) (slice_set before l.outer joined)) i ≡ slice_get (map (tree_of old) before) i
  others i f =
      slice_get-map (tree_of new) (slice_set before l.outer joined) i ∙ ap (option_map (tree_of new)) (set_other before l.outer i joined f)
      ∙ sym (slice_get-map (tree_of new) before i) ∙ ap (λ ts. slice_get ts i) (trees_stay old new a.longer before inside)

  same : (i : ℕ) (r : Simple ℕ) → (i ≡ l.outer → ⊥)
      → slice_get (map (tree_of new) (slice_set before l.outer joined)) i ≡ Some r ↔ slice_get (map (tree_of old) before) i ≡ Some r
  same i r f = (λ e. sym (others i f) ∙ e, λ e. others i f ∙ e)

  joins : (ns : List Item) → Takes g (tree_of new joined) [] ns ↔ (Takes g (tree_of old place) [] ns ⊎ Takes g (tree_of old l.rest) [] ns)
  joins ns = (to, back) where
    to : Takes g (tree_of new joined) [] ns → Takes g (tree_of old place) [] ns ⊎ Takes g (tree_of old l.rest) [] ns
    to t = let m = (a.is ns).0 t in elim (one_of_two place l.rest m.0 m.1) [
      | inl e ↦ inl (subst (λ m. Takes g (tree_of old m) [] ns) e m.2)
      | inr e ↦ inr (subst (λ m. Takes g (tree_of old m) [] ns) e m.2)
    ]

    back : Takes g (tree_of old place) [] ns ⊎ Takes g (tree_of old l.rest) [] ns → Takes g (tree_of new joined) [] ns
    back (inl t) = (a.is ns).1 (place, contains_at (place ∷ l.rest ∷ []) 0 place refl, t)
    back (inr t) = (a.is ns).1 (l.rest, contains_at (place ∷ l.rest ∷ []) 1 l.rest refl, t)

  pub leaves_rest : LeavesBy g good old new l before (slice_set before l.outer joined)
  leaves_rest = record {
    longer = a.longer;
    inside = All-set (IsInside new) before l.outer joined a.inside (all_inside_stay old new a.longer before inside);
    count = length-set before l.outer joined;
    ended = λ links e. ended_more g good links (map (tree_of old) before) e (link_of old l) (map (tree_of new) (slice_set before l.outer joined))
        (tree_of old place) (tree_of new joined) is_good was now same joins;
  }

-- without ways out, each alternative around takes nothing
pub no_ends : (g : Reading) (good : List Bool) (around : ℕ) (old new : List (Simple ℕ)) (none : PatternNumber) (outside : List PatternNumber) →
    Adds (IsChoiceOf g old []) old new none → outside ≡ replicate around none → AddsEnded g good around old new [] outside
no_ends g good around old new none outside a e = record {
  longer = a.longer;
  inside = subst (All (IsInside new)) (sym e) (All-replicate (IsInside new) around none a.inside);
  count = ap length e ∙ length-replicate around none;
  ended = none_ended g good (map (tree_of new) outside) (λ i r ns f t.
      All-contains TakesNothing (map (tree_of new) outside) r
      (subst (λ os. All TakesNothing (map (tree_of new) os)) (sym e)
      (All-map TakesNothing (tree_of new) (replicate around none) (All-replicate (λ p. TakesNothing (tree_of new p)) around none nothing)))
      (contains_at (map (tree_of new) outside) i r f) ns t);
} where
  TakesNothing : Simple ℕ → Type 0
  TakesNothing p = (ns : List Item) → Takes g p [] ns → ⊥

  nothing : TakesNothing (tree_of new none)
  nothing ns t = let m = (a.is ns).0 t in let lt = m.1.1 in omega (arith, lt)

-- the only way out, from a good alternative into the only one around

at_only : {A : Type 0} (x r : A) (i : ℕ) → slice_get (x ∷ []) i ≡ Some r → (i ≡ 0) × (x ≡ r)
at_only x r zero e = (refl, same_Some _ _ e)
at_only x r (suc i) e = absurd (cc)

module _ (g : Reading) (good : List Bool) (trees : List (Simple ℕ)) (l : Link) (is_good : slice_get good l.inner ≡ Some true)
    (within : IsRestWithin trees 1 l) where
  abbrev left : Simple ℕ
  left = tree_of trees l.rest

  first : l.outer ≡ 0
  first = let lt = within.0 in omega (arith, lt)

  only_to : (k : level.Link) (ns : List Item) → Contains (link_of trees l ∷ []) k → slice_get good k.inner ≡ Some true → Takes g k.rest [] ns
      → (r : Simple ℕ) × (slice_get (left ∷ []) k.outer ≡ Some r) × Takes g r [] ns
  only_to k ns c is d =
      let e = one_only (link_of trees l) k c in
      (left, ap (λ k. slice_get (left ∷ []) k.outer) (sym e) ∙ ap (slice_get (left ∷ [])) first, subst (λ k. Takes g k.rest [] ns) (sym e) d)

  only_back : (i : ℕ) (r : Simple ℕ) (ns : List Item) → slice_get (left ∷ []) i ≡ Some r → Takes g r [] ns
      → (k : level.Link) × Contains (link_of trees l ∷ []) k × (k.outer ≡ i) × (slice_get good k.inner ≡ Some true) × Takes g k.rest [] ns
  only_back i r ns at d =
      let h = at_only left r i at in
      (link_of trees l, contains_at (link_of trees l ∷ []) 0 (link_of trees l) refl, first ∙ sym h.0, is_good, subst (λ r. Takes g r [] ns) (sym h.1) d)

  only_ends : AddsEnded g good 1 trees trees (l ∷ []) (l.rest ∷ [])
  only_ends = record {
    longer = longer_same trees;
    inside = All-cons (IsInside trees) l.rest [] within.1 (All-nil (IsInside trees));
    count = refl;
    ended = record { to = only_to; back = only_back };
  }

pub only_ended : (g : Reading) (good : List Bool) (around : ℕ) (trees : List (Simple ℕ)) (links : List Link) (rest : PatternNumber)
    (outside : List PatternNumber) → IsOnlyRest good links around rest → All (IsRestWithin trees around) links → outside ≡ rest ∷ []
    → AddsEnded g good around trees trees links outside
only_ended g good around trees links rest outside o within is =
    let all = subst (λ ls. All (IsRestWithin trees 1) ls) o.only (subst (λ n. All (IsRestWithin trees n) links) o.one within) in
    let ends = only_ends g good trees o.link o.may_end (All-head (IsRestWithin trees 1) o.link [] all) in
    let left : o.link.rest ∷ [] ≡ outside = ap (λ n. n ∷ []) (sym o.leaves) ∙ sym is in
    subst (AddsEnded g good around trees trees links) left
    (subst (λ ls. AddsEnded g good around trees trees ls (o.link.rest ∷ [])) (sym o.only)
    (subst (λ n. AddsEnded g good n trees trees (o.link ∷ []) (o.link.rest ∷ [])) (sym o.one) ends))

-- for a loop over the ways out, from the last one
ended_turned : (g : Reading) (good : List Bool) (links : List level.Link) (l : level.Link) (outside : List (Simple ℕ))
    → AreEnded g good (links ++ l ∷ []) outside → AreEnded g good (l ∷ links) outside
ended_turned g good links l outside e = record {
  to = λ k ns c is d. e.to k ns (⊎_elim (λ h. subst (Contains (links ++ l ∷ [])) h (Contains-push links l)) (λ h. Contains-append_left links (l ∷ []) k h)
      (either_link k c)) is d;
  back = λ i r ns f d. let k = e.back i r ns f d in (
    k.0,
    ⊎_elim (λ h. Contains-append_right (l ∷ []) links k.0 h) (λ h. subst (Contains (l ∷ links)) h (contains_at (l ∷ links) 0 l refl))
        (Contains-push_cases links l k.0 k.1),
    k.2,
    k.3,
    k.4,
  );
} where
  either_link : (k : level.Link) → Contains (l ∷ links) k → (l ≡ k) ⊎ Contains links k
  either_link k (zero, lt, e) = inl e
  either_link k (suc i, lt, e) = inr (i, omega (arith, lt), e)

pub ends_at : (g h : Reading) (good : List Bool) (around : ℕ) (old base new : List (Simple ℕ)) (links : List Link) (i : ℕ) (d : Link)
    (before after : List PatternNumber) → g ≡ h → AddsEnded h good around old base (drop (i + 1) links) before → All (IsRestWithin old around) links →
    i < length links →
    LeavesBy g good base new (slice_index_or links i d) before after → AddsEnded h good around old new (drop i links) after
ends_at g h good around old base new links i d before after same first within lt s =
    let more = subst (λ g. LeavesBy g good base new (slice_index_or links i d) before after) same s in
    let rests = All-weaker (IsRestWithin old around) (λ l. IsInside base l.rest) (λ l w. inside_stays old base first.longer l.rest w.1) links within in
    let cut : drop i links ≡ slice_index_or links i d ∷ drop (i + 1) links = drop_more links i d lt in
    let stay = links_stay base new more.longer (drop i links) (All-drop (λ l. IsInside base l.rest) i links rests) in
    let all : map (link_of new) (drop i links) ≡ link_of base (slice_index_or links i d) ∷ map (link_of base) (drop (i + 1) links) =
    stay ∙ ap (map (link_of base)) cut in
    record {
      longer = longer_through old base new first.longer more.longer;
      inside = more.inside;
      count = more.count ∙ first.count;
      ended = subst (λ ls. AreEnded h good ls (map (tree_of new) after)) (sym all)
          (ended_turned h good (map (link_of base) (drop (i + 1) links)) (link_of base (slice_index_or links i d)) (map (tree_of new) after)
          (more.ended (map (link_of base) (drop (i + 1) links)) first.ended));
    }

-- for a loop that tests each pattern
pub tests_at : (R : Simple ℕ → Bool → Type 0) (trees : List (Simple ℕ)) (ps : List PatternNumber) (i : ℕ) (d : PatternNumber)
    (bs items : List Bool) (b : Bool) →
    AllZip R (map (tree_of trees) (take i ps)) bs → i < length ps → R (tree_of trees (slice_index_or ps i d)) b → items ≡ bs ++ b ∷ [] →
    AllZip R (map (tree_of trees) (take (i + 1) ps)) items
tests_at R trees ps i d bs items b first lt r e =
    subst (λ os. AllZip R (map (tree_of trees) os) items) (sym (take_more ps i d lt))
    (subst (λ os. AllZip R os items) (sym (map_push (tree_of trees) (take i ps) (slice_index_or ps i d)))
    (subst (λ items. AllZip R (map (tree_of trees) (take i ps) ++ tree_of trees (slice_index_or ps i d) ∷ []) items) (sym e)
    (zip_push R (map (tree_of trees) (take i ps)) bs (tree_of trees (slice_index_or ps i d)) b first r)))

pub nullable_at : (g : Reading) (trees : List (Simple ℕ)) (ps : List PatternNumber) (i : ℕ) (d : PatternNumber) (bs items : List Bool) (b : Bool) →
    AllZip (λ p b. (b ≡ true) ↔ EndsNow g p) (map (tree_of trees) (take i ps)) bs → i < length ps → b ≡ is_nullable (tree_of trees (slice_index_or ps i d)) →
    items ≡ bs ++ b ∷ [] → AllZip (λ p b. (b ≡ true) ↔ EndsNow g p) (map (tree_of trees) (take (i + 1) ps)) items
nullable_at g trees ps i d bs items b first lt is e =
    tests_at (λ p b. (b ≡ true) ↔ EndsNow g p) trees ps i d bs items b first lt
    (subst (λ b. (b ≡ true) ↔ EndsNow g (tree_of trees (slice_index_or ps i d))) (sym is) (nullable_may_end g (tree_of trees (slice_index_or ps i d)))) e

pub ends_with_at : (g : Reading) (trees : List (Simple ℕ)) (now after : List PatternNumber) (blank : Bool) (i : ℕ) (d r : PatternNumber) (bs items : List Bool)
    (b : Bool) → AreEndsWith g trees now after blank (take i now) bs → i < length now → slice_get after i ≡ Some r →
    b ≡ (is_nullable (tree_of trees r) || (is_nullable (tree_of trees (slice_index_or now i d)) && blank)) → items ≡ bs ++ b ∷ [] →
    AreEndsWith g trees now after blank (take (i + 1) now) items
ends_with_at g trees now after blank i d r bs items b first lt at is e s same all =
    let got = slice_get-map (tree_of trees) now i ∙ ap (option_map (tree_of trees)) (slice_get-get_or now i d lt) in
    let left = slice_get-map (tree_of trees) after i ∙ ap (option_map (tree_of trees)) at in
    let q = beside_first (IsAfterText g s) (map (tree_of trees) now) (map (tree_of trees) after) i (tree_of trees (slice_index_or now i d)) all got in
    let is_left : q.0 ≡ tree_of trees r = same_Some _ _ (sym q.1 ∙ left) in
    let law = may_end_with g s (tree_of trees (slice_index_or now i d)) (tree_of trees r)
    (subst (λ r. IsAfterText g s (tree_of trees (slice_index_or now i d)) r) is_left q.2) in
    let tests : b ≡ (is_nullable (tree_of trees r) || (is_nullable (tree_of trees (slice_index_or now i d)) && is_blank s)) =
    is ∙ ap (λ k. is_nullable (tree_of trees r) || (is_nullable (tree_of trees (slice_index_or now i d)) && k)) (sym same) in
    tests_at (λ p b. (b ≡ true) ↔ EndsWith g s p) trees now i d bs items b (first s same all) lt
    (subst (λ b. (b ≡ true) ↔ EndsWith g s (tree_of trees (slice_index_or now i d))) (sym tests) law) e
