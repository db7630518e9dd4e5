-- Skips over members of choices stay right as they are widened and as a table grows.
use Rattle.std.proofs.Common.{◌≡◌, ◌∙◌, ◌⊎◌, inl, inr, ⊎_elim, ◌<◌, ◌+◌, ℕ, zero, suc, All, Bool, Bor, IfSome, true, false, List, [], ◌∷◌, ◌++◌, length}
use Rattle.std.proofs.Common.{Option, Some, None, Vec, cond, get_or, slice_get, slice_set, refl, sym, ap, subst, arith}
use Rattle.std.proofs.lemmas.Bool.{cases_lt}
use Rattle.std.proofs.lemmas.Bool.Decides.{Decides-eqb}
use Rattle.std.proofs.lemmas.List.{get_or_append_left}
use Rattle.std.proofs.lemmas.Option.{get_or_from_slice_get, slice_get-get_or, slice_get_within, none-some, same_Some}
use Rattle.std.specs.HashMap.{HashMap, IsEmpty, get}
use Rattle.std.specs.Map.{lookup}
use Rattle.rng_model.specs.simple.Table.{Table}
use Rattle.rng_deriv_table.specs.plain.Facts.{HasElement, IsWithin, joined_spans}
use Rattle.rng_deriv_table.specs.views.Node.{Node}
use Rattle.rng_deriv_table.specs.views.Node as node
use Rattle.rng_deriv_table.specs.views.PatternTable.{Longer}
use Rattle.rng_deriv_table.specs.views.Skips.{AreSkips, AreSkipsAt, AreSkipsIn, AreSkipsOf, HasSkips, IsSkip, members_at, members_found}
use Rattle.rng_deriv_table.specs.views.Trees.{tree_of}
use Rattle.rng_deriv_table.specs.declared.pattern.PatternNumber.{PatternNumber}
use Rattle.rng_deriv_table.specs.declared.skips.Skip.{Skip}
use Rattle.rng_deriv_table.specs.declared.skips.Skips.{Skips}
use Rattle.rng_deriv_table.specs.contracts.pattern.PatternNumberPartialEq.TheImpl as same
use Rattle.rng_deriv_table.proofs.KnownFacts.{joined_first, joined_second}
use Rattle.rng_deriv_table.proofs.TableRows.{found_new, found_old}
use Rattle.rng_deriv_table.proofs.Trees.{Longer-length, tree_stays}

-- an element of a list after one is set
set_cases : {A : Type 0} (xs : List A) (k : ℕ) (y : A) (i : ℕ) (x : A) → slice_get (slice_set xs k y) i ≡ Some x
    → (slice_get xs i ≡ Some x) ⊎ ((i ≡ k) × (x ≡ y))
set_cases [] k y i x e = inl e
set_cases (z ∷ xs) zero y zero x e = inr (refl, sym (same_Some _ _ e))
set_cases (z ∷ xs) zero y (suc i) x e = inl e
set_cases (z ∷ xs) (suc k) y zero x e = inl e
set_cases (z ∷ xs) (suc k) y (suc i) x e = ⊎_elim (λ a. inl a) (λ b. inr (ap suc b.0, b.1)) (set_cases xs k y i x e)

module _ (ns : List Node) (ms : List ℕ) where
  -- a skip and the one from where it ends
  pub joined_made : (i : ℕ) (first second : Skip) → IsSkip ns ms i first → IsSkip ns ms first.behind second
      → IsSkip ns ms i (record { elements = joined_spans first.elements second.elements; behind = second.behind })
  joined_made i first second a b = record {
    further = let near = a.further in let far = b.further in omega (arith, near, far);
    within = λ j m low high at t e has. ⊎_elim
        (λ near. joined_first first.elements second.elements e (a.within j m low near at t e has))
        (λ far. joined_second first.elements second.elements e (b.within j m far high at t e has))
        (cases_lt j first.behind);
  }

  pub skip_set : (skips : List Skip) (i : ℕ) (s : Skip) → IsSkip ns ms i s → AreSkipsOf ns ms skips → AreSkipsOf ns ms (slice_set skips i s)
  skip_set skips i s own all = λ k x at. ⊎_elim (λ a. all k x a)
      (λ b. subst (IsSkip ns ms k) (sym b.1) (subst (λ k. IsSkip ns ms k s) (sym b.0) own)) (set_cases skips i s k x at)

  -- a skip over the next member alone
  pub single_pushed : (skips : List Skip) (i m : ℕ) (s : Skip) → length skips ≡ i → slice_get ms i ≡ Some m → s.behind ≡ i + 1
      → ((t : Table) (e : ℕ) → HasElement e (tree_of t ns m) → IsWithin s.elements e) → AreSkipsOf ns ms skips → AreSkipsOf ns ms (skips ++ s ∷ [])
  single_pushed skips i m s long found one elements all = λ k x at. ⊎_elim
      (λ before. all k x (found_old skips s k x at before))
      (λ past. let new = found_new skips s k x at past in
      subst (IsSkip ns ms k) new.1 (subst (λ k. IsSkip ns ms k s) (sym (new.0 ∙ long)) own))
      (cases_lt k (length skips))
    where
      own : IsSkip ns ms i s
      own = record {
        further = omega (arith, one);
        within = λ j n low high at t e has.
            let same_place : j ≡ i = omega (arith, low, high, one) in
            let same_member = same_Some _ _ (sym at ∙ ap (slice_get ms) same_place ∙ found) in
            elements t e (subst (λ n. HasElement e (tree_of t ns n)) same_member has);
      }

pub same_number : (a b : PatternNumber) → same.ghosts.eq a b ≡ true → a ≡ b
same_number a b e = ap (λ k. record { 0 = k }) ((Decides-eqb a.0 b.0).0 e)

-- skips are those that were there, or those that were put at the number
pub one_kept : {Y Z : Type 0} (old more : HashMap PatternNumber (Vec Skip Y) Z) (n : PatternNumber) (v : Vec Skip Y) (m : PatternNumber) (s : List Skip)
    → get same.ghosts.eq more m ≡ cond (same.ghosts.eq n m) (Some v) (get same.ghosts.eq old m) → HasSkips more m s
    → HasSkips old m s ⊎ ((m ≡ n) × (s ≡ v.items))
one_kept {Y} {Z} old more n v m s e h = by (same.ghosts.eq n m) refl (sym e ∙ h.1)
  where
    by : (t : Bool) → same.ghosts.eq n m ≡ t → cond t (Some v) (get same.ghosts.eq old m) ≡ Some h.0 → HasSkips old m s ⊎ ((m ≡ n) × (s ≡ v.items))
    by true f g = inr (sym (same_number n m f), sym h.2 ∙ ap (λ (w : Vec Skip Y). w.items) (sym (same_Some _ _ g)))
    by false f g = inl (h.0, g, h.2)

pub skips_found : (skips : Skips) (n : PatternNumber) (o : Option (Bor (List Skip))) → IfSome o (λ s. HasSkips skips.by_choice n s.now)
    → IfSome o (λ s. (ns : List Node) → AreSkips ns skips → AreSkipsAt ns n s.now)
skips_found skips n None h = tt
skips_found skips n (Some s) h = λ ns all. all n s.now h

-- the skips of one more choice
pub choice_put : {Y Z : Type 0} (ns : List Node) (old more : HashMap PatternNumber (Vec Skip Y) Z) (n : PatternNumber) (ms : List ℕ) (skips : List Skip)
    → n.0 < length ns → members_at ns n.0 ≡ ms → All (λ m. m < length ns) ms → AreSkipsOf ns ms skips
    → ((m : PatternNumber) (s : List Skip) → HasSkips more m s → HasSkips old m s ⊎ ((m ≡ n) × (s ≡ skips))) → AreSkipsIn ns old → AreSkipsIn ns more
choice_put ns old more n ms skips inside is below right within all = λ m s h. ⊎_elim (λ a. all m s a)
    (λ b. subst (λ m. AreSkipsAt ns m s) (sym b.0) (subst (AreSkipsAt ns n) (sym b.1) own)) (within m s h)
  where
    own : AreSkipsAt ns n skips
    own = record {
      inside = inside;
      members = subst (All (λ m. m < length ns)) (sym is) below;
      right = subst (λ ms. AreSkipsOf ns ms skips) (sym is) right;
    }

-- no choice has skips
pub no_skips : {Y Z : Type 0} (ns : List Node) (kept : HashMap PatternNumber (Vec Skip Y) Z) → IsEmpty kept → AreSkipsIn ns kept
no_skips {Y} {Z} ns kept empty n skips h = absurd (none-some _ (subst (λ es. lookup (same.ghosts.eq n) es ≡ Some h.0) empty h.1))

-- ---- longer tables

module _ (old new : List Node) (longer : Longer old new) where
  node_stays : (n : ℕ) → n < length old → slice_get new n ≡ slice_get old n
  node_stays n inside =
      let none : Node = node.empty in
      let is : new ≡ old ++ longer.0 = longer.1 in
      slice_get-get_or new n none (omega (arith, inside, Longer-length old new longer))
      ∙ ap Some (ap (λ ns. get_or ns n none) is ∙ get_or_append_left old longer.0 none n inside) ∙ sym (slice_get-get_or old n none inside)

  pub members_stay : (n : ℕ) → n < length old → members_at new n ≡ members_at old n
  members_stay n inside = ap members_found (node_stays n inside)

  pub skips_longer : (skips : Skips) → AreSkips old skips → AreSkips new skips
  skips_longer skips all = λ n s h.
      let a = all n s h in
      let is = members_stay n.0 a.inside in
      let long = Longer-length old new longer in
      let ms = members_at old n.0 in
      let there = a.inside in
      record {
        inside = omega (arith, there, long);
        members = subst (All (λ m. m < length new)) (sym is) (λ k d i. let one = a.members k d i in omega (arith, one, long));
        right = subst (λ ms. AreSkipsOf new ms s) (sym is) (λ i x at. let own = a.right i x at in record {
          further = own.further;
          within = λ j m low high found t e has.
              let below = subst (λ m. m < length old) (get_or_from_slice_get ms j m m found) (a.members j m (slice_get_within ms j m found)) in
              own.within j m low high found t e (subst (HasElement e) (tree_stays t old new m longer below) has);
        });
      }
