-- The marks of a count in progress.
use Rattle.std.proofs.Common.{◌≡◌, refl, sym, subst, ap, ◌∙◌, ℕ, suc, ◌+◌, ◌<◌, ◌≤◌, Bool, true, false, cond, arith, ◌⊎◌, inl, inr, Option, Some, None}
use Rattle.std.proofs.Common.{List, [], ◌∷◌, ◌++◌, length, map, take, drop, get_or}
use Rattle.std.specs.Map.{update}
use Rattle.std.specs.Prelude.{MatchOption}
use Rattle.std.specs.Str.{bytes_eq}
use Rattle.std.proofs.lemmas.Slice.Eq.{bytes_eq-Decides}
use Rattle.std.proofs.lemmas.List.{map_more, take-append-drop, map-append, take_all}
use Rattle.rng_load.specs.declared.paths.Mark.{Mark}
use Rattle.rng_load.specs.declared.paths.Mark.TheVariants.{Open, Counted}
use Rattle.rng_model.specs.names.Lists.{Among, here}
use Rattle.rnc_model.specs.loading.Mentions.{directly, through, path_limit}
use Rattle.rnc_model.specs.loading.SchemaFile.{FileName}
use Rattle.rng_load.specs.plain.Counting.{Marks, HasFewPaths, HasPaths, has, HavePaths, have_none, long_more, StopsAt, AreCounted, IsMarked, AreMore}
use Rattle.rng_load.proofs.NameLists.{in_left, in_right}
use Rattle.rng_load.proofs.Mentions.CountedPaths.{have_next, breaks_up, sum_breaks}

open_counted : {n : ℕ} → ◌≡◌ {A = Option Mark} (Some Open) (Some (Counted n)) → ⊥
open_counted e = cc

-- what is found after one name is marked
split : (f q : FileName) (v : Mark) (o x : Option Mark) (b : Bool) → bytes_eq f q ≡ b → x ≡ cond b (Some v) o → ((q ≡ f) × (x ≡ Some v)) ⊎ (x ≡ o)
split f q v o x true e h = inl (sym ((bytes_eq-Decides f q).0 e), h)
split f q v o x false e h = inr h

-- the marks with one more
abbrev pub IsPut : Marks → FileName → Mark → Marks → Type 0
IsPut old f v new = (q : FileName) → new q ≡ update bytes_eq old f (Some v) q

found : (old new : Marks) (f : FileName) (v : Mark) → IsPut old f v new → (q : FileName) → ((q ≡ f) × (new q ≡ Some v)) ⊎ (new q ≡ old q)
found old new f v put q = split f q v (old q) (new q) (bytes_eq f q) refl (put q)

pub at_some : {A : Type 0} (P : Type 0) (Q : A → Type 0) (o : Option A) (x : A) → o ≡ Some x → MatchOption o P Q → Q x
at_some P Q o x e h = subst (λ p. MatchOption p P Q) e h

pub at_none : {A : Type 0} (P : Type 0) (Q : A → Type 0) (o : Option A) → o ≡ None → MatchOption o P Q → P
at_none P Q o e h = subst (λ p. MatchOption p P Q) e h

module _ (mentions : FileName → List FileName) (f : FileName) where
  -- only the file itself is open in addition to those before
  pub record IsOpen (old now : Marks) : Type 0 where
    pub opened : (q : FileName) → now q ≡ Some Open → (q ≡ f) ⊎ (old q ≡ Some Open)
    pub counted : AreCounted mentions now

  -- the mentions so far are counted
  pub record IsCounting (old now : Marks) (done : List FileName) (total : ℕ) : Type 0 where
    pub number : ℕ
    pub some : HavePaths mentions done number
    pub whole : total ≡ suc number
    pub few : total ≤ path_limit
    pub marks : IsOpen old now

  opens : (old new : Marks) → IsMarked mentions f old → IsPut old f Open new → IsOpen old new
  opens old new m put = record {
    opened = λ q h. elim (found old new f Open put q) [ inl p ↦ inl p.0 | inr e ↦ inr (sym e ∙ h) ];
    counted = λ q n h. elim (found old new f Open put q) [ inl p ↦ absurd (open_counted (sym p.1 ∙ h)) | inr e ↦ m.counted q n (sym e ∙ h) ];
  }

  pub starts : (old new : Marks) (bs : FileName) → IsMarked mentions f old → bs ≡ f → IsPut old bs Open new → IsCounting old new [] 1
  starts old new bs m e put =
      let p = subst (λ g. IsPut old g Open new) e put in
      record { number = 0; some = have_none refl; whole = refl; few = omega arith; marks = opens old new m p }

  -- a mention may be counted
  pub may_count : (old now : Marks) (g : FileName) → IsMarked mentions f old → IsOpen old now → Among g (mentions f) → IsMarked mentions g now
  may_count old now g m o p = record {
    opened = λ q h. elim (o.opened q h) [ inl e ↦ directly (subst (λ x. Among g (mentions x)) (sym e) p) | inr k ↦ through (m.opened q k) p ];
    counted = o.counted;
  }

  stays : (old now new : Marks) → IsOpen old now → AreMore mentions now new → IsOpen old new
  stays old now new o more = record { opened = λ q h. o.opened q (more.opened q h); counted = more.counted }

  pub one_more : (old now new : Marks) (done : List FileName) (total : ℕ) (g : FileName) (m : ℕ) → IsCounting old now done total → HasPaths mentions g m
      → AreMore mentions now new → total + m ≤ path_limit → IsCounting old new (done ++ g ∷ []) (total + m)
  one_more old now new done total g m c h more l = let w = c.whole in record {
    number = c.number + m;
    some = have_next mentions c.some h refl;
    whole = omega (arith, w);
    few = l;
    marks = stays old now new c.marks more;
  }

  -- the count of the file is complete
  pub closes : (old now new : Marks) (total : ℕ) (bs : FileName) → IsCounting old now (mentions f) total → bs ≡ f → IsPut now bs (Counted total) new
      → (HasFewPaths mentions f total) × AreMore mentions old new
  closes old now new total bs c e put =
      let p = subst (λ g. IsPut now g (Counted total) new) e put in
      let h : HasPaths mentions f total = has c.some c.whole in (
        (h, c.few),
        record {
          opened = λ q i. elim (found now new f (Counted total) p q) [
            | inl s ↦ absurd (open_counted (sym i ∙ s.1))
            | inr s ↦ elim (c.marks.opened q (sym s ∙ i)) [ inl same ↦ absurd (shut p q same i) | inr o ↦ o ]
          ];
          counted = λ q n i. elim (found now new f (Counted total) p q) [
            | inl s ↦ subst (λ x. HasFewPaths mentions x n) (sym s.0) (subst (HasFewPaths mentions f) (sym (same_number (sym i ∙ s.1))) (h, c.few))
            | inr s ↦ c.marks.counted q n (sym s ∙ i)
          ];
        },
      ) where
        same_number : {n m : ℕ} → ◌≡◌ {A = Option Mark} (Some (Counted n)) (Some (Counted m)) → n ≡ m
        same_number i = cc

        true_here : {A : Type 0} (x y : A) (b : Bool) → b ≡ true → cond b x y ≡ x
        true_here x y true i = refl
        true_here x y false i = absurd cc

        shut : IsPut now f (Counted total) new → (q : FileName) → q ≡ f → new q ≡ Some Open → ⊥
        shut p q same i = open_counted (sym i ∙ p q ∙ true_here (Some (Counted total)) (now q) (bytes_eq f q) ((bytes_eq-Decides f q).1 (sym same)))

  -- a mention at which the count stops
  pub stops : (levels rest : ℕ) (g : FileName) → levels ≡ suc rest → Among g (mentions f) → StopsAt mentions rest g → StopsAt mentions levels f
  stops levels rest g e p (inl b) = inl (breaks_up mentions p b)
  stops levels rest g e p (inr q) = inr (long_more p q e)

  pub goes_round : (old : Marks) (levels : ℕ) → IsMarked mentions f old → old f ≡ Some Open → StopsAt mentions levels f
  goes_round old levels m h = inl (inl (f, inl refl, m.opened f h))

  -- too many so far
  pub too_many : (levels : ℕ) (old now : Marks) (done more : List FileName) (total : ℕ) (g : FileName) (m : ℕ) → IsCounting old now done total
      → HasPaths mentions g m → mentions f ≡ (done ++ g ∷ []) ++ more → path_limit < total + m → StopsAt mentions levels f
  too_many levels old now done more total g m c h e l =
      let w = c.whole in
      let k = c.number + m in
      inl (sum_breaks mentions f (done ++ g ∷ []) more k e (have_next mentions c.some h refl) (omega (arith, w, l)))

-- a name at an index of the list, and the list around it
module _ {A : Type 0} (name_of : A → FileName) where
  around : (items : List A) (i : ℕ) (d : A) → i < length items
      → map name_of items ≡ (map name_of (take i items) ++ name_of (get_or items i d) ∷ []) ++ map name_of (drop (i + 1) items)
  around items i d l =
      ap (map name_of) (sym (take-append-drop (i + 1) items)) ∙ map-append name_of (take (i + 1) items) (drop (i + 1) items)
      ∙ ap (λ ns. ns ++ map name_of (drop (i + 1) items)) (map_more name_of items i d l)

  stands : (items : List A) (i : ℕ) (d : A) → i < length items → Among (name_of (get_or items i d)) (map name_of items)
  stands items i d l =
      subst (Among (name_of (get_or items i d))) (sym (around items i d l))
      (in_left (in_right (map name_of (take i items)) here) (map name_of (drop (i + 1) items)))

-- one round of the loop over the names that a file mentions
module _ {A : Type 0} (name_of : A → FileName) (mentions : FileName → List FileName) (f : FileName) (items : List A) (said : map name_of items ≡ mentions f) where
  -- the names so far
  abbrev pub done_names : ℕ → List FileName
  done_names i = map name_of (take i items)

  module _ (i : ℕ) (d : A) (l : i < length items) (g : FileName) (is : name_of (get_or items i d) ≡ g) where
    pub stands_in : Among g (mentions f)
    stands_in = subst (Among g) said (subst (λ n. Among n (map name_of items)) is (stands name_of items i d l))

    done : done_names (i + 1) ≡ done_names i ++ g ∷ []
    done = map_more name_of items i d l ∙ ap (λ n. done_names i ++ n ∷ []) is

    cut : mentions f ≡ (done_names i ++ g ∷ []) ++ map name_of (drop (i + 1) items)
    cut = sym said ∙ around name_of items i d l ∙ ap (λ n. (done_names i ++ n ∷ []) ++ map name_of (drop (i + 1) items)) is

    pub turn : (old now new : Marks) (total m : ℕ) → IsCounting mentions f old now (done_names i) total → HasPaths mentions g m → AreMore mentions now new
        → total + m ≤ path_limit → IsCounting mentions f old new (done_names (i + 1)) (total + m)
    turn old now new total m c h more few =
        subst (λ ns. IsCounting mentions f old new ns (total + m)) (sym done) (one_more mentions f old now new (done_names i) total g m c h more few)

    pub excess : (levels : ℕ) (old now : Marks) (total m : ℕ) → IsCounting mentions f old now (done_names i) total → HasPaths mentions g m
        → path_limit < total + m → StopsAt mentions levels f
    excess levels old now total m c h over = too_many mentions f levels old now (done_names i) (map name_of (drop (i + 1) items)) total g m c h cut over

  pub ended : (i : ℕ) → length items ≤ i → (old now : Marks) (total : ℕ) → IsCounting mentions f old now (done_names i) total
      → IsCounting mentions f old now (mentions f) total
  ended i l old now total c = subst (λ ns. IsCounting mentions f old now ns total) (ap (map name_of) (take_all i items l) ∙ said) c
