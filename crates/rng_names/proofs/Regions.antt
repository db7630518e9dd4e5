-- Names sorted by regions, class by class.
use Rattle.std.proofs.Common.{◌≡◌, refl, sym, ap, ap₂, ◌∙◌, subst, ℕ, zero, suc, ◌<◌, ◌≤◌, ◌+◌, Bool, true, not, ◌&&◌, ◌||◌, ◌⊎◌, inl, inr, ⊎_elim}
use Rattle.std.proofs.Common.{List, [], ◌∷◌, Option, Some, None, option_map, map, length, length-append, get_or, slice_get, slice_set, bytes_eq, arith}
use Rattle.std.specs.List.{list_any}
use Rattle.std.proofs.lemmas.Bool.{cases_eq, cases_lt, false_from_ne_true}
use Rattle.std.proofs.lemmas.List.{length-set}
use Rattle.std.proofs.lemmas.Option.{none-some, same_Some, slice_get-get_or, slice_get-map, slice_get_within}
use Rattle.std.proofs.Math.Bool.{or-true}
use Rattle.rng_model.specs.names.Names.{Name, NameClass, any_except, ns_except, name_is, some_of}
use Rattle.rng_names.specs.plain.Holding.{holds, pair}
use Rattle.rng_names.specs.plain.Written.{writes_name}
use Rattle.rng_names.specs.plain.Regions.{AddsPart, AreSorted, Begins, Extends, HasBegun, HoldsAlike, IsIn, IsNew, NotesRegion, Puts, Sorted}
use Rattle.rng_names.specs.plain.WrittenNames.{Grows, Knows, Written}
use Rattle.rng_names.proofs.ClassChoices.{holds-members}
use Rattle.rng_names.proofs.CollectedNames.{HoldsBefore, IsKnown, holds_of_all, holds_on, name_put}
use Rattle.rng_names.proofs.FreshTexts.{like_unwritten}
use Rattle.rng_names.proofs.Holding.{same_name-Decides}
use Rattle.rng_names.proofs.KeyLookups.{at_end}

-- ---- what is added later

pub same_extends : (r : ℕ) (w : Sorted) → HasBegun w r → Extends r w w
same_extends r w begun = record { begun = begun; last = omega arith; stays = λ k q e. e; names = λ s q counts is. inl is }

pub extends_on : (r : ℕ) (a b c : Sorted) → Extends r a b → Extends r b c → Extends r a c
extends_on r a b c first second = record {
  begun = second.begun;
  last = let one = first.last in let two = second.last in omega (arith, one, two);
  stays = λ k q e. second.stays k q (first.stays k q e);
  names = λ s q counts is. ⊎_elim (first.names s q counts) (λ n. inr (λ k e. n.0 k (first.stays k q e), later s n.1)) (second.names s q counts is);
}
  where
    later : (s : ℕ) → (s ≡ r) ⊎ (b.last < s) → (s ≡ r) ⊎ (a.last < s)
    later s (inl e) = inl e
    later s (inr after) = let one = first.last in inr (omega (arith, after, one))

-- a class of which all names are there still holds names alike
module _ (r : ℕ) (c : NameClass) (old new : Sorted) (begun : HasBegun old r) (extends : Extends r old new)
    (known : (q : Name) → writes_name c q ≡ true → IsNew old q → ⊥) (alike : HoldsAlike old r c) where
  not_both : (s : ℕ) (p : Name) → (s ≡ r → ⊥) → IsIn old s p → (s ≡ r) ⊎ (old.last < s) → ⊥
  not_both s p other is (inl same) = other same
  not_both s p other is (inr after) = let within = begun.within s p is in omega (arith, after, within)

  pub still_alike : HoldsAlike new r c
  still_alike s u l m counts other in_l in_m = by (extends.names s (pair u l) counts in_l) (extends.names s (pair u m) counts in_m)
    where
      by : IsIn old s (pair u l) ⊎ (IsNew old (pair u l) × ((s ≡ r) ⊎ (old.last < s)))
          → IsIn old s (pair u m) ⊎ (IsNew old (pair u m) × ((s ≡ r) ⊎ (old.last < s))) → holds c (pair u l) ≡ holds c (pair u m)
      by (inl a) (inl b) = alike s u l m counts other a b
      by (inl a) (inr b) = absurd (not_both s (pair u l) other a b.1)
      by (inr a) (inl b) = absurd (not_both s (pair u m) other b a.1)
      by (inr a) (inr b) = like_unwritten c u l m (false_from_ne_true _ (λ is. known (pair u l) is a.0)) (false_from_ne_true _ (λ is. known (pair u m) is b.0))

pub still_alike_known : (r : ℕ) (c : NameClass) (old new : Sorted) (w : Written) → w.names ≡ old.names → HasBegun old r → Extends r old new → Knows w c
    → HoldsAlike old r c → HoldsAlike new r c
still_alike_known r c old new w same begun extends known =
    still_alike r c old new begun extends (λ q is none. let has = known.names q is in none has.place (ap (λ ns. slice_get ns has.place) (sym same) ∙ has.at))

-- ---- a class of a region of its own

-- the names of the class are added, and it holds names alike whatever their region
pub record IsApart (c : NameClass) (old : Sorted) (new : Sorted) : Type 0 where
  pub extends : Extends 0 old new
  pub alike : HoldsAlike new 0 c

module _ (c : NameClass) (old mid new : Sorted) (region : ℕ) (begun : HasBegun old 0) (begins : Begins old mid region)
    (adds : HasBegun mid region → AddsPart region c mid new) where
  there : (k : ℕ) (q : Name) → slice_get old.names k ≡ Some q → slice_get mid.names k ≡ Some q
  there k q e = ap (λ ns. slice_get ns k) begins.names ∙ e

  same_in : (s : ℕ) (q : Name) → IsIn mid s q → IsIn old s q
  same_in s q is = record {
    place = is.place;
    name = ap (λ ns. slice_get ns is.place) (sym begins.names) ∙ is.name;
    region = ap (λ rs. slice_get rs is.place) (sym begins.regions) ∙ is.region;
  }

  within : (s : ℕ) (q : Name) → IsIn mid s q → s ≤ old.last
  within s q is = begun.within s q (same_in s q is)

  part : AddsPart region c mid new
  part = adds (record {
    count = ap length begins.regions ∙ begun.count ∙ ap length (sym begins.names);
    within = λ s q is. let before = within s q is in let last = begins.last in omega (arith, before, last);
    begun = begins.begun;
  })

  later : (s : ℕ) → 0 < s → (s ≡ region) ⊎ (mid.last < s) → old.last < s
  later s counts (inl e) = let fresh = begins.fresh (omega (arith, counts, e)) in omega (arith, fresh, e)
  later s counts (inr after) = let last = begins.last in omega (arith, after, last)

  all_held : (q : Name) → 0 < region → IsIn new region q → holds c q ≡ true
  all_held q counts is =
      ⊎_elim (λ a. let before = within region q a in let fresh = begins.fresh counts in absurd (omega (arith, before, fresh))) (λ e. e) (part.held q counts is)

  pub apart : IsApart c old new
  apart = record {
    extends = record {
      begun = record { count = part.extends.begun.count; within = part.extends.begun.within; begun = omega arith };
      last = let one = begins.last in let two = part.extends.last in omega (arith, one, two);
      stays = λ k q e. part.extends.stays k q (there k q e);
      names = λ s q counts is. ⊎_elim (λ a. inl (same_in s q a)) (λ n. inr (λ k e. n.0 k (there k q e), inr (later s counts n.1)))
          (part.extends.names s q counts is);
    };
    alike = λ s u l m counts other a b. by s u l m counts a b (cases_eq s region);
  }
    where
      by : (s : ℕ) (u l m : List ℕ) → 0 < s → IsIn new s (pair u l) → IsIn new s (pair u m) → (s ≡ region) ⊎ (s ≡ region → ⊥)
          → holds c (pair u l) ≡ holds c (pair u m)
      by s u l m counts a b (inl e) =
          all_held (pair u l) (omega (arith, counts, e)) (subst (λ x. IsIn new x (pair u l)) e a)
          ∙ sym (all_held (pair u m) (omega (arith, counts, e)) (subst (λ x. IsIn new x (pair u m)) e b))
      by s u l m counts a b (inr other) = part.alike s u l m counts other a b

-- what holds names as such a class does is a part of a region before it
module _ (r : ℕ) (c d : NameClass) (old new : Sorted) (begun : HasBegun old r) (own : IsApart c old new)
    (like : (u l m : List ℕ) → holds c (pair u l) ≡ holds c (pair u m) → holds d (pair u l) ≡ holds d (pair u m)) where
  begins_after : (s : ℕ) → 0 < s → (s ≡ 0) ⊎ (old.last < s) → old.last < s
  begins_after s counts (inl e) = absurd (omega (arith, counts, e))
  begins_after s counts (inr after) = after

  not_here : 0 < r → (r ≡ 0) ⊎ (old.last < r) → ⊥
  not_here counts is = let after = begins_after r counts is in let before = begun.begun in omega (arith, after, before)

  pub as_part : AddsPart r d old new
  as_part = record {
    extends = record {
      begun = record {
        count = own.extends.begun.count;
        within = own.extends.begun.within;
        begun = let before = begun.begun in let last = own.extends.last in omega (arith, before, last);
      };
      last = own.extends.last;
      stays = own.extends.stays;
      names = λ s q counts is. ⊎_elim inl (λ n. inr (n.0, inr (begins_after s counts n.1))) (own.extends.names s q counts is);
    };
    alike = λ s u l m counts other a b. like u l m (own.alike s u l m counts (λ e. omega (arith, counts, e)) a b);
    held = λ q counts is. ⊎_elim inl (λ n. absurd (not_here counts n.1)) (own.extends.names r q counts is);
  }

-- a region begins: what is collected stays
pub begins_grows : (old new : Written) (a b : Sorted) (r : ℕ) → Begins a b r → old.names ≡ a.names → new.names ≡ b.names → new.longest ≡ old.longest → Grows old new
begins_grows old new a b r begins one other same =
    name_put old new same (λ k q e. ap (λ ns. slice_get ns k) (other ∙ begins.names ∙ sym one) ∙ e)

-- ---- the parts of a class, kind by kind

zero_begun : (r : ℕ) (w : Sorted) → HasBegun w r → HasBegun w 0
zero_begun r w begun = record { count = begun.count; within = begun.within; begun = omega arith }

module _ (r : ℕ) (c : NameClass) (old mid new : Sorted) (region : ℕ) (begins : Begins old mid region)
    (adds : HasBegun mid region → AddsPart region c mid new) (begun : HasBegun old r) where
  own : IsApart c old new
  own = apart c old mid new region (zero_begun r old begun) begins adds

  pub any_except_added : AddsPart r (any_except c) old new
  any_except_added = as_part r c (any_except c) old new begun own (λ u l m. ap not)

  pub ns_except_added : (v : List ℕ) → AddsPart r (ns_except v c) old new
  ns_except_added v = as_part r c (ns_except v c) old new begun own (λ u l m. ap (λ b. bytes_eq v u && not b))

  pub class_added : AddsPart r c old new
  class_added = as_part r c c old new begun own (λ u l m e. e)

-- ---- a name

-- a name with a region is one of those to which the others were added
pub was_in : (w : Sorted) (names : List Name) → length w.regions ≡ length w.names → ((k : ℕ) (p : Name) → slice_get w.names k ≡ Some p → slice_get names k ≡ Some p)
    → (s j : ℕ) (q : Name) → slice_get names j ≡ Some q → slice_get w.regions j ≡ Some s → IsIn w s q
was_in w names count stays s j q e f =
    let inside = slice_get_within w.regions j s f in
    let before = slice_get-get_or w.names j q (omega (arith, inside, count)) in
    record { place = j; name = before ∙ sym (stays j (get_or w.names j q) before) ∙ e; region = f }

set_at : {A : Type 0} (xs : List A) (i k : ℕ) (y s : A) → slice_get (slice_set xs i y) k ≡ Some s → (slice_get xs k ≡ Some s) ⊎ (y ≡ s)
set_at [] i k y s e = inl e
set_at (x ∷ xs) zero zero y s e = inr (same_Some y s e)
set_at (x ∷ xs) zero (suc k) y s e = inl e
set_at (x ∷ xs) (suc i) zero y s e = inl e
set_at (x ∷ xs) (suc i) (suc k) y s e = set_at xs i k y s e

set_there : {A : Type 0} (xs : List A) (i : ℕ) (y s : A) → i < length xs → slice_get (slice_set xs i y) i ≡ Some s → y ≡ s
set_there [] i y s inside e = absurd (omega (arith, inside))
set_there (x ∷ xs) zero y s inside e = same_Some y s e
set_there (x ∷ xs) (suc i) y s inside e = set_there xs i y s (omega (arith, inside)) e

module _ (r : ℕ) (n : Name) (old new : Sorted) (place : ℕ) (puts : Puts old.names new.names n place)
    (notes : NotesRegion old.regions new.regions place r) (same : new.last ≡ old.last) (begun : HasBegun old r) where
  old_in : (s j : ℕ) (q : Name) → slice_get new.names j ≡ Some q → slice_get old.regions j ≡ Some s → IsIn old s q
  old_in s j q e f = was_in old new.names begun.count puts.stays s j q e f

  still_new : length old.names ≤ place → IsNew old n
  still_new past k e =
      let inside = slice_get_within old.names k n e in
      let here = puts.only k (puts.stays k n e) in
      omega (arith, past, inside, here)

  at_place : length old.names ≤ place → place ≡ length old.names
  at_place past = ⊎_elim (λ a. let less = a.0 in absurd (omega (arith, past, less))) (λ b. b.0) puts.count

  abbrev NowIn : ℕ → Name → Type 0
  NowIn s q = IsIn old s q ⊎ ((q ≡ n) × IsNew old n × (s ≡ r))

  now_in : (s : ℕ) (q : Name) → 0 < s → IsIn new s q → NowIn s q
  now_in s q counts is = by (cases_lt place (length old.regions))
    where
      by : (place < length old.regions) ⊎ (length old.regions ≤ place) → NowIn s q
      by (inl less) = ⊎_elim (λ f. inl (old_in s is.place q is.name f)) (λ e. absurd (omega (arith, counts, e)))
          (set_at old.regions place is.place 0 s (ap (λ rs. slice_get rs is.place) (sym (notes.again less)) ∙ is.region))
      by (inr past) =
          let count = begun.count in
          let above : length old.names ≤ place = omega (arith, past, count) in
          ⊎_elim (λ f. inl (old_in s is.place q is.name f)) (λ e.
          let at = at_place above in
          let next = e.0 in
          let here : is.place ≡ place = omega (arith, at, next, count) in
          inr (same_Some q n (sym is.name ∙ ap (slice_get new.names) here ∙ puts.there), still_new above, sym e.1))
          (at_end old.regions r is.place s (ap (λ rs. slice_get rs is.place) (sym (notes.once past)) ∙ is.region))

  counted : (place < length old.regions) ⊎ (length old.regions ≤ place) → length new.regions ≡ length new.names
  counted (inl less) =
      let count = begun.count in
      ap length (notes.again less) ∙ length-set old.regions place 0 ∙ count
      ∙ ⊎_elim (λ a. sym a.1) (λ b. let at = b.0 in absurd (omega (arith, at, less, count))) puts.count
  counted (inr past) =
      let count = begun.count in
      ap length (notes.once past) ∙ length-append old.regions (r ∷ []) ∙ ap (λ k. k + 1) count
      ∙ ⊎_elim (λ a. let inside = a.0 in absurd (omega (arith, inside, past, count))) (λ b. sym b.1) puts.count

  within' : (s : ℕ) (q : Name) → IsIn new s q → (0 < s) ⊎ (s ≤ 0) → s ≤ new.last
  within' s q is (inl counts) =
      ⊎_elim (λ a. let before = begun.within s q a in omega (arith, before, same)) (λ b. let this = b.2 in let before = begun.begun in omega (arith, this, before, same))
      (now_in s q counts is)
  within' s q is (inr none) = omega (arith, none)

  not_this : (s : ℕ) (q : Name) → 0 < s → (s ≡ r → ⊥) → IsIn new s q → q ≡ n → ⊥
  not_this s q counts other is e = ⊎_elim again (λ b. other b.2) (now_in s q counts is)
    where
      again : IsIn old s q → ⊥
      again a =
          let known = puts.only a.place (puts.stays a.place n (a.name ∙ ap Some e)) in
          let here = puts.only is.place (is.name ∙ ap Some e) in
          let inside = slice_get_within old.regions a.place s a.region in
          let less : place < length old.regions = omega (arith, known, inside) in
          let zero_is = set_there old.regions place 0 s less (ap (λ rs. slice_get rs place) (sym (notes.again less)) ∙ ap (slice_get new.regions) (sym here) ∙ is.region) in
          omega (arith, counts, zero_is)

  pub name_added : AddsPart r (name_is n) old new
  name_added = record {
    extends = record {
      begun = record {
        count = counted (cases_lt place (length old.regions));
        within = λ s q is. within' s q is (cases_lt 0 s);
        begun = let before = begun.begun in omega (arith, before, same);
      };
      last = omega (arith, same);
      stays = puts.stays;
      names = λ s q counts is. ⊎_elim inl (λ b. inr (subst (IsNew old) (sym b.0) b.1, inl b.2)) (now_in s q counts is);
    };
    alike = λ s u l m counts other a b.
        false_from_ne_true _ (λ e. not_this s (pair u l) counts other a ((same_name-Decides n (pair u l)).0 e))
        ∙ sym (false_from_ne_true _ (λ e. not_this s (pair u m) counts other b ((same_name-Decides n (pair u m)).0 e)));
    held = λ q counts is. ⊎_elim inl (λ b. inr ((same_name-Decides n q).1 b.0)) (now_in r q counts is);
  }

-- ---- the first n of these classes are parts of the region

pub record AreParts (r : ℕ) (old : Sorted) (new : Sorted) (classes : List (Option NameClass)) (n : ℕ) : Type 0 where
  pub extends : Extends r old new
  pub alike : HoldsBefore (λ o. (c : NameClass) → o ≡ Some c → HoldsAlike new r c) classes n
  pub held : (q : Name) → 0 < r → IsIn new r q
      → IsIn old r q ⊎ ((k : ℕ) × (c : NameClass) × (slice_get classes k ≡ Some (Some c)) × (holds c q ≡ true))

pub one_passed : (r : ℕ) (old new : Sorted) (classes : List (Option NameClass)) (n : ℕ) → slice_get classes n ≡ Some None
    → AreParts r old new classes n → AreParts r old new classes (n + 1)
one_passed r old new classes n at parts = record {
  extends = parts.extends;
  alike = holds_on (λ o. (c : NameClass) → o ≡ Some c → HoldsAlike new r c) classes n None at (λ c e. absurd (none-some c e)) parts.alike;
  held = parts.held;
}

pub one_part : (r : ℕ) (old mid new : Sorted) (classes : List (Option NameClass)) (n : ℕ) (c : NameClass) (w : Written) → w.names ≡ mid.names
    → slice_get classes n ≡ Some (Some c) → HoldsBefore (IsKnown w) classes n → AreParts r old mid classes n → (HasBegun mid r → AddsPart r c mid new)
    → AreParts r old new classes (n + 1)
one_part r old mid new classes n c w names at known parts adds =
    let begun = parts.extends.begun in
    let part = adds begun in
    record {
      extends = extends_on r old mid new parts.extends part.extends;
      alike = holds_on (λ o. (d : NameClass) → o ≡ Some d → HoldsAlike new r d) classes n (Some c) at
          (λ d e. subst (HoldsAlike new r) (same_Some c d e) part.alike)
          (λ k x less e d same. still_alike_known r d mid new w names begun part.extends (known k x less e d same) (parts.alike k x less e d same));
      held = λ q counts is. ⊎_elim (parts.held q counts) (λ e. inr (n, c, at, e)) (part.held q counts is);
    }

pub all_sorted : (old new : Sorted) (classes : List (Option NameClass)) (n : ℕ) → length classes ≤ n → AreParts 0 old new classes n → AreSorted old new classes
all_sorted old new classes n past parts = record {
  extends = parts.extends;
  alike = λ k c e. holds_of_all (λ o. (c : NameClass) → o ≡ Some c → HoldsAlike new 0 c) classes n past parts.alike k (Some c) e c refl;
}

-- ---- a choice of such parts

same_tests : {A : Type 0} (t t' : A → Bool) (xs : List A) → ((k : ℕ) (x : A) → slice_get xs k ≡ Some x → t x ≡ t' x) → list_any t xs ≡ list_any t' xs
same_tests t t' [] same = refl
same_tests t t' (x ∷ xs) same = ap₂ (λ a b. a || b) (same 0 x refl) (same_tests t t' xs (λ k. same (suc k)))

one_holds : {A : Type 0} (f : A → NameClass) (xs : List A) (q : Name) (k : ℕ) (c : NameClass) → slice_get (map (λ x. Some (f x)) xs) k ≡ Some (Some c)
    → holds c q ≡ true → list_any (λ x. holds (f x) q) xs ≡ true
one_holds f [] q k c at e = absurd (none-some (Some c) at)
one_holds f (x ∷ xs) q zero c at e =
    ap (λ b. b || list_any (λ x. holds (f x) q) xs) (ap (λ d. holds d q) (same_Some (f x) c (same_Some (Some (f x)) (Some c) at)) ∙ e)
one_holds f (x ∷ xs) q (suc k) c at e = ap (λ b. holds (f x) q || b) (one_holds f xs q k c at e) ∙ or-true (holds (f x) q)

pub choice_added : {A : Type 0} (r : ℕ) (old new : Sorted) (f : A → NameClass) (xs : List A) (n : ℕ) → length (map (λ x. Some (f x)) xs) ≤ n
    → AreParts r old new (map (λ x. Some (f x)) xs) n → AddsPart r (some_of (map f xs)) old new
choice_added r old new f xs n past parts = record {
  extends = parts.extends;
  alike = λ s u l m counts other a b.
      holds-members f xs (pair u l)
      ∙ same_tests (λ x. holds (f x) (pair u l)) (λ x. holds (f x) (pair u m)) xs (λ k x e.
      holds_of_all (λ o. (c : NameClass) → o ≡ Some c → HoldsAlike new r c) (map (λ x. Some (f x)) xs) n past parts.alike k (Some (f x))
      (slice_get-map (λ x. Some (f x)) xs k ∙ ap (λ o. option_map (λ x. Some (f x)) o) e) (f x) refl s u l m counts other a b)
      ∙ sym (holds-members f xs (pair u m));
  held = λ q counts is. ⊎_elim inl (λ one. inr (holds-members f xs q ∙ one_holds f xs q one.0 one.1 one.2 one.3)) (parts.held q counts is);
}
