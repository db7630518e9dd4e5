-- There is at most one numbering, and the steps find it.
use Rattle.std.proofs.Common.{◌≡◌, ◌∙◌, inl, inr, ℕ, zero, suc, ◌+◌, ◌≤◌, ◌<◌, Bool, true, false, cond, List, [], ◌∷◌, ◌++◌, length, flat_map, refl, sym}
use Rattle.std.proofs.Common.{ap, subst, Some, None, append_assoc, arith}
use Rattle.std.specs.Prelude.{Contains, slice_get}
use Rattle.std.specs.List.{AllByRecursion}
use Rattle.std.proofs.lemmas.Bool.{or_cases, or_right, or_left}
use Rattle.std.proofs.lemmas.List.{append-nil}
use Rattle.rng_model.proofs.Members.{not_in_none, first_or_later}
use Rattle.rncv_model.specs.printed.Items.{has, with_new, and_new, first_times, IsReached, at_start, in_line, IsNumbering}
use Rattle.rncv_model.specs.printed.NumberingSteps.{numbered_from, numbered}
use Rattle.rnc_print.proofs.FailedTests.{false_true}

-- ---- lists

pub same_rest : {A : Type 0} (xs ys zs : List A) → xs ++ ys ≡ xs ++ zs → ys ≡ zs
same_rest [] ys zs e = e
same_rest (x ∷ xs) ys zs e = same_rest xs ys zs (cc)

contains_here : {A : Type 0} (x : A) (xs : List A) (a : A) → x ≡ a → Contains (x ∷ xs) a
contains_here x xs a e = (zero, omega arith, e)

contains_later : {A : Type 0} (x : A) (xs : List A) (a : A) → Contains xs a → Contains (x ∷ xs) a
contains_later x xs a (k, lt, e) = (suc k, omega (arith, lt), e)

pub all_append : {A : Type 0} (P : A → Type 0) (xs ys : List A) → AllByRecursion P xs → AllByRecursion P ys → AllByRecursion P (xs ++ ys)
all_append P [] ys h i = i
all_append P (x ∷ xs) ys h i = (h.0, all_append P xs ys h.1 i)

pub all_parts : {A : Type 0} (P : A → Type 0) (xs ys : List A) → AllByRecursion P (xs ++ ys) → AllByRecursion P xs × AllByRecursion P ys
all_parts P [] ys h = (tt, h)
all_parts P (x ∷ xs) ys h = let r = all_parts P xs ys h.1 in ((h.0, r.0), r.1)

pub all_contained : {A : Type 0} (P : A → Type 0) (xs : List A) → AllByRecursion P xs → (a : A) → Contains xs a → P a
all_contained P [] h a c = absurd (not_in_none c)
all_contained P (x ∷ xs) h a c = elim (first_or_later x xs a c) [ inl e ↦ subst P e h.0 | inr d ↦ all_contained P xs h.1 a d ]

pub all_each : {A : Type 0} (P : A → Type 0) (xs : List A) → ((a : A) → Contains xs a → P a) → AllByRecursion P xs
all_each P [] h = tt
all_each P (x ∷ xs) h = (h x (contains_here x xs x refl), all_each P xs (λ a c. h a (contains_later x xs a c)))

module _ {A : Type 0} (same : A → A → Bool) (exact : (a b : A) → same a b ≡ true → a ≡ b) (itself : (a : A) → same a a ≡ true) where
  -- ---- membership in a list

  pub has_contained : (xs : List A) (a : A) → Contains xs a → has same xs a ≡ true
  has_contained [] a c = absurd (not_in_none c)
  has_contained (x ∷ xs) a c = elim (first_or_later x xs a c) [
    | inl e ↦ or_left (same a x) (has same xs a) (subst (λ (y : A). same a y ≡ true) (sym e) (itself a))
    | inr d ↦ or_right (same a x) (has same xs a) (has_contained xs a d)
  ]

  pub contained_has : (xs : List A) (a : A) → has same xs a ≡ true → Contains xs a
  contained_has [] a h = absurd (false_true h)
  contained_has (x ∷ xs) a h = elim (or_cases (same a x) (has same xs a) h) [
    | inl e ↦ contains_here x xs a (sym (exact a x e))
    | inr d ↦ contains_later x xs a (contained_has xs a d)
  ]

  pub has_left : (xs ys : List A) (a : A) → has same xs a ≡ true → has same (xs ++ ys) a ≡ true
  has_left [] ys a h = absurd (false_true h)
  has_left (x ∷ xs) ys a h = elim (or_cases (same a x) (has same xs a) h) [
    | inl e ↦ or_left (same a x) _ e
    | inr d ↦ or_right (same a x) _ (has_left xs ys a d)
  ]

  pub has_right : (xs ys : List A) (a : A) → has same ys a ≡ true → has same (xs ++ ys) a ≡ true
  has_right [] ys a h = h
  has_right (x ∷ xs) ys a h = or_right (same a x) _ (has_right xs ys a h)

  pub has_last : (xs : List A) (a : A) → has same (xs ++ a ∷ []) a ≡ true
  has_last xs a = has_right xs (a ∷ []) a (or_left (same a a) false (itself a))

  -- ---- the new ones

  -- those that are new, in order
  abbrev pub fresh : List A → List A → List A
  fresh w [] = []
  fresh w (z ∷ zs) = cond (has same w z) (fresh w zs) (z ∷ fresh (w ++ z ∷ []) zs)

  pub and_fresh : (w zs : List A) → and_new same w zs ≡ w ++ fresh w zs
  and_fresh w [] = sym (append-nil w)
  and_fresh w (z ∷ zs) = at_test (has same w z) (and_fresh w zs) (and_fresh (w ++ z ∷ []) zs)
    where
      at_test : (b : Bool) → and_new same w zs ≡ w ++ fresh w zs → and_new same (w ++ z ∷ []) zs ≡ (w ++ z ∷ []) ++ fresh (w ++ z ∷ []) zs
          → and_new same (cond b w (w ++ z ∷ [])) zs ≡ w ++ cond b (fresh w zs) (z ∷ fresh (w ++ z ∷ []) zs)
      at_test true e f = e
      at_test false e f = f ∙ append_assoc w (z ∷ []) (fresh (w ++ z ∷ []) zs)

  -- each is new after those before it
  abbrev pub AreNew : List A → List A → Type 0
  AreNew w [] = Unit {0}
  AreNew w (a ∷ r) = (has same w a ≡ false) × AreNew (w ++ a ∷ []) r

  pub fresh_new : (w zs : List A) → AreNew w (fresh w zs)
  fresh_new w [] = tt
  fresh_new w (z ∷ zs) = at_test (has same w z) refl (fresh_new w zs) (fresh_new (w ++ z ∷ []) zs)
    where
      at_test : (b : Bool) → has same w z ≡ b → AreNew w (fresh w zs) → AreNew (w ++ z ∷ []) (fresh (w ++ z ∷ []) zs)
          → AreNew w (cond b (fresh w zs) (z ∷ fresh (w ++ z ∷ []) zs))
      at_test true e h i = h
      at_test false e h i = (e, i)

  -- what is in either is in the result
  and_has_left : (w zs : List A) (a : A) → has same w a ≡ true → has same (and_new same w zs) a ≡ true
  and_has_left w zs a h = subst (λ (x : List A). has same x a ≡ true) (sym (and_fresh w zs)) (has_left w (fresh w zs) a h)

  with_has : (w : List A) (z : A) → has same (with_new same w z) z ≡ true
  with_has w z = at_test (has same w z) refl
    where
      at_test : (b : Bool) → has same w z ≡ b → has same (cond b w (w ++ z ∷ [])) z ≡ true
      at_test true e = e
      at_test false e = has_last w z

  pub and_has_right : (w zs : List A) (a : A) → has same zs a ≡ true → has same (and_new same w zs) a ≡ true
  and_has_right w [] a h = absurd (false_true h)
  and_has_right w (z ∷ zs) a h = elim (or_cases (same a z) (has same zs a) h) [
    | inl e ↦ and_has_left (with_new same w z) zs a (subst (λ (x : A). has same (with_new same w z) x ≡ true) (sym (exact a z e)) (with_has w z))
    | inr d ↦ and_has_right (with_new same w z) zs a d
  ]

  pub and_append : (w xs ys : List A) → and_new same w (xs ++ ys) ≡ and_new same (and_new same w xs) ys
  and_append w [] ys = refl
  and_append w (x ∷ xs) ys = and_append (with_new same w x) xs ys

  pub flat_append : (line : A → List A) (xs ys : List A) → flat_map line (xs ++ ys) ≡ flat_map line xs ++ flat_map line ys
  flat_append line [] ys = refl
  flat_append line (x ∷ xs) ys = ap (λ (y : List A). line x ++ y) (flat_append line xs ys) ∙ sym (append_assoc (line x) (flat_map line xs) (flat_map line ys))

  flat_has : (line : A → List A) (xs : List A) (x a : A) → has same xs x ≡ true → has same (line x) a ≡ true → has same (flat_map line xs) a ≡ true
  flat_has line [] x a h i = absurd (false_true h)
  flat_has line (y ∷ ys) x a h i = elim (or_cases (same x y) (has same ys x) h) [
    | inl e ↦ has_left (line y) (flat_map line ys) a (subst (λ (z : A). has same (line z) a ≡ true) (exact x y e) i)
    | inr d ↦ has_right (line y) (flat_map line ys) a (flat_has line ys x a d i)
  ]

  -- ---- what is written after this many lines

  module _ (start : List A) (line : A → List A) where
    abbrev pub written : List A → List A
    written done = first_times same (start ++ flat_map line done)

    pub written_more : (done rest : List A) → written (done ++ rest) ≡ and_new same (written done) (flat_map line rest)
    written_more done rest =
        ap (λ (x : List A). first_times same (start ++ x)) (flat_append line done rest)
        ∙ ap (first_times same) (sym (append_assoc start (flat_map line done) (flat_map line rest)))
        ∙ and_append [] (start ++ flat_map line done) (flat_map line rest)

    -- if everything written has its line, everything reached is written
    closed : (done : List A) → written done ≡ done → (a : A) → IsReached same start line a → has same done a ≡ true
    closed done e a (at_start {a = x} c) =
        subst (λ (y : List A). has same y a ≡ true) e
        (and_has_right [] (start ++ flat_map line done) a (has_left start (flat_map line done) a (has_contained start a c)))
    closed done e a (in_line {a = y} {x} r c) =
        subst (λ (y : List A). has same y a ≡ true) e
        (and_has_right [] (start ++ flat_map line done) a
        (has_right start (flat_map line done) a (flat_has line done x a (closed done e x r) (has_contained (line x) a c))))

    -- ---- the steps, as a relation: these have lines, and these are written without lines

    data Follows : List A → List A → List A → Type 0 where
      ends : {done all : List A} → all ≡ done → Follows done [] all
      next : {done waiting all : List A} {a : A} {after : List A} → written (done ++ a ∷ []) ≡ (done ++ a ∷ []) ++ after → Follows (done ++ a ∷ []) after all
          → Follows done (a ∷ waiting) all

    one_end : {done waiting xs : List A} → Follows done waiting xs → (ys : List A) → Follows done waiting ys → xs ≡ ys
    one_end (ends e) ys (ends f) = e ∙ sym f
    one_end (next {done} {a = a} {after} e f) ys (next {after = after'} g h) =
        one_end f ys (subst (λ (x : List A). Follows (done ++ a ∷ []) x ys) (same_rest (done ++ a ∷ []) after' after (sym g ∙ e)) h)

    record Parts (rest done waiting : List A) : Type 0 where
      more : List A
      is : rest ≡ waiting ++ more
      new : AreNew (done ++ waiting) more

    parts : (rest done waiting xs : List A) → xs ≡ done ++ rest → xs ≡ written xs → written done ≡ done ++ waiting → Parts rest done waiting
    parts rest done waiting xs e s w =
        let all : done ++ rest ≡ (done ++ waiting) ++ fresh (done ++ waiting) (flat_map line rest) = sym e ∙ s ∙ ap written e ∙ written_more done rest
        ∙ ap (λ (x : List A). and_new same x (flat_map line rest)) w ∙ and_fresh (done ++ waiting) (flat_map line rest) in
        record {
          more = fresh (done ++ waiting) (flat_map line rest);
          is = same_rest done rest (waiting ++ fresh (done ++ waiting) (flat_map line rest))
              (all ∙ append_assoc done waiting (fresh (done ++ waiting) (flat_map line rest)));
          new = fresh_new (done ++ waiting) (flat_map line rest);
        }

    no_items : (a : A) (xs : List A) → [] ≡ a ∷ xs → ⊥
    no_items a xs e = let n : 0 ≡ suc (length xs) = ap length e in omega (arith, n)

    -- what is written after one more line
    after_line : (done waiting : List A) (a : A) → written done ≡ done ++ a ∷ waiting
        → written (done ++ a ∷ []) ≡ (done ++ a ∷ []) ++ (waiting ++ fresh (done ++ a ∷ waiting) (line a ++ []))
    after_line done waiting a w =
        written_more done (a ∷ [])
        ∙ ap (λ (x : List A). and_new same x (line a ++ [])) w
        ∙ and_fresh (done ++ a ∷ waiting) (line a ++ [])
        ∙ append_assoc done (a ∷ waiting) (fresh (done ++ a ∷ waiting) (line a ++ []))
        ∙ sym (append_assoc done (a ∷ []) (waiting ++ fresh (done ++ a ∷ waiting) (line a ++ [])))

    -- a numbering follows the steps
    follows : (rest done waiting xs : List A) → xs ≡ done ++ rest → xs ≡ written xs → AllByRecursion (IsReached same start line) xs
        → written done ≡ done ++ waiting → Follows done waiting xs
    follows [] done [] xs e s r w = ends (e ∙ append-nil done)
    follows [] done (a ∷ waiting) xs e s r w = let p = parts [] done (a ∷ waiting) xs e s w in absurd (no_items a (waiting ++ p.more) p.is)
    follows (b ∷ rest) done [] xs e s r w =
        let p = parts (b ∷ rest) done [] xs e s w in
        let n : AreNew (done ++ []) (b ∷ rest) = subst (AreNew (done ++ [])) (sym p.is) p.new in
        let there : has same xs b ≡ true =
        subst (λ (x : List A). has same x b ≡ true) (sym e) (has_right done (b ∷ rest) b (or_left (same b b) _ (itself b))) in
        let reached = all_contained (IsReached same start line) xs r b (contained_has xs b there) in
        absurd (false_true (sym n.0 ∙ ap (λ (x : List A). has same x b) (append-nil done) ∙ closed done (w ∙ append-nil done) b reached))
    follows (b ∷ rest) done (a ∷ waiting) xs e s r w =
        let p = parts (b ∷ rest) done (a ∷ waiting) xs e s w in
        let first : b ≡ a = let q = p.is in cc in
        next (after_line done waiting a w)
        (follows rest (done ++ a ∷ []) (waiting ++ fresh (done ++ a ∷ waiting) (line a ++ [])) xs
        (e ∙ ap (λ (x : A). done ++ x ∷ rest) first ∙ sym (append_assoc done (a ∷ []) rest)) s r (after_line done waiting a w))

    start_follows : (xs : List A) → IsNumbering same start line xs → Follows [] (written []) xs
    start_follows xs n = follows xs [] (written []) xs refl n.in_order n.reached refl

    -- there is at most one numbering
    pub one_numbering : (xs ys : List A) → IsNumbering same start line xs → IsNumbering same start line ys → xs ≡ ys
    one_numbering xs ys n m = one_end (start_follows xs n) ys (start_follows ys m)

    -- ---- what is reached

    pub and_all : (P : A → Type 0) (w zs : List A) → AllByRecursion P w → AllByRecursion P zs → AllByRecursion P (and_new same w zs)
    and_all P w [] h i = h
    and_all P w (z ∷ zs) h i = and_all P (with_new same w z) zs (at_test (has same w z)) i.1
      where
        at_test : (b : Bool) → AllByRecursion P (cond b w (w ++ z ∷ []))
        at_test true = h
        at_test false = all_append P w (z ∷ []) h (i.0, tt)

    lines_reached : (done : List A) → AllByRecursion (IsReached same start line) done → AllByRecursion (IsReached same start line) (flat_map line done)
    lines_reached [] h = tt
    lines_reached (x ∷ done) h =
        all_append (IsReached same start line) (line x) (flat_map line done) (all_each (IsReached same start line) (line x) (λ a c. in_line h.0 c))
        (lines_reached done h.1)

    written_reached : (done : List A) → AllByRecursion (IsReached same start line) done → AllByRecursion (IsReached same start line) (written done)
    written_reached done h =
        and_all (IsReached same start line) [] (start ++ flat_map line done) tt
        (all_append (IsReached same start line) start (flat_map line done) (all_each (IsReached same start line) start (λ a c. at_start c))
        (lines_reached done h))

    line_reached : (done waiting : List A) (a : A) → written done ≡ done ++ a ∷ waiting → AllByRecursion (IsReached same start line) done
        → AllByRecursion (IsReached same start line) (done ++ a ∷ [])
    line_reached done waiting a w h =
        let all = all_parts (IsReached same start line) done (a ∷ waiting) (subst (AllByRecursion (IsReached same start line)) w (written_reached done h)) in
        all_append (IsReached same start line) done (a ∷ []) h (all.1.0, tt)

    -- what the steps find is a numbering
    follows_numbering : {done waiting xs : List A} → Follows done waiting xs → written done ≡ done ++ waiting → AllByRecursion (IsReached same start line) done
        → IsNumbering same start line xs
    follows_numbering (ends {done} {all = xs} e) w h =
        record { in_order = e ∙ sym (append-nil done) ∙ sym w ∙ ap written (sym e); reached = subst (AllByRecursion (IsReached same start line)) (sym e) h }
    follows_numbering (next {done} {waiting} {a = a} e f) w h = follows_numbering f e (line_reached done waiting a w h)

    -- ---- the steps as they are computed

    get_here : (done waiting : List A) (a : A) → slice_get (done ++ a ∷ waiting) (length done) ≡ Some a
    get_here [] waiting a = refl
    get_here (x ∷ done) waiting a = get_here done waiting a

    get_none : (done : List A) → slice_get (done ++ []) (length done) ≡ None
    get_none [] = refl
    get_none (x ∷ done) = get_none done

    one_longer : (done : List A) (a : A) → length (done ++ a ∷ []) ≡ 1 + length done
    one_longer [] a = refl
    one_longer (x ∷ done) a = let e = one_longer done a in omega (arith, e)

    follows_long : {done waiting xs : List A} → Follows done waiting xs → length done ≤ length xs
    follows_long (ends {done} {all = xs} e) = let n = ap length e in omega (arith, n)
    follows_long (next {done} {a = a} e f) = let n = follows_long f in let m = one_longer done a in omega (arith, n, m)

    next_written : (done waiting after : List A) (a : A) → written done ≡ done ++ a ∷ waiting → written (done ++ a ∷ []) ≡ (done ++ a ∷ []) ++ after
        → and_new same (done ++ a ∷ waiting) (line a) ≡ (done ++ a ∷ []) ++ after
    next_written done waiting after a w e = ap (λ (x : List A). and_new same x (line a)) (sym w) ∙ ap (and_new same (written done)) (sym (append-nil (line a)))
        ∙ sym (written_more done (a ∷ [])) ∙ e

    steps_end : (steps : ℕ) (done : List A) → numbered_from same line steps (length done) (done ++ []) ≡ done
    unfolding numbered_from
    steps_end zero done = append-nil done
    steps_end (suc steps) done = rw (get_none done) (append-nil done)

    steps_next : (steps : ℕ) (done waiting after : List A) (a : A) → and_new same (done ++ a ∷ waiting) (line a) ≡ (done ++ a ∷ []) ++ after
        → numbered_from same line (suc steps) (length done) (done ++ a ∷ waiting)
        ≡ numbered_from same line steps (length (done ++ a ∷ [])) ((done ++ a ∷ []) ++ after)
    unfolding numbered_from
    steps_next steps done waiting after a e = rw (get_here done waiting a, e, one_longer done a) refl

    steps_find : {done waiting xs : List A} → Follows done waiting xs → (steps : ℕ) → length xs ≤ steps + length done → written done ≡ done ++ waiting
        → numbered_from same line steps (length done) (done ++ waiting) ≡ xs
    steps_find (ends {done} {all = xs} e) steps le w = steps_end steps done ∙ sym e
    steps_find (next {done} {waiting} {all = xs} {a} {after} e f) zero le w =
        let n = follows_long f in
        let m = one_longer done a in
        absurd (omega (arith, n, m, le))
    steps_find (next {done} {waiting} {all = xs} {a} {after} e f) (suc steps) le w =
        let m = one_longer done a in
        steps_next steps done waiting after a (next_written done waiting after a w e) ∙ steps_find f steps (omega (arith, m, le)) e

    -- the numbering is what the steps find, if there are enough
    pub numbering_found : (xs : List A) → IsNumbering same start line xs → (steps : ℕ) → length xs ≤ steps → numbered same steps start line ≡ xs
    unfolding numbered
    numbering_found xs n steps le = ap (λ (x : List A). numbered_from same line steps 0 (first_times same x)) (sym (append-nil start))
        ∙ steps_find (start_follows xs n) steps (omega (arith, le)) refl

    -- ---- there is a numbering if only finitely many are reached

    abbrev missing : List A → List A → ℕ
    missing done [] = 0
    missing done (c ∷ cs) = cond (has same done c) (missing done cs) (suc (missing done cs))

    at_most : (b d : Bool) (m n : ℕ) → (b ≡ true → d ≡ true) → m ≤ n → cond d m (suc m) ≤ cond b n (suc n)
    at_most true true m n h le = le
    at_most true false m n h le = absurd (false_true (h refl))
    at_most false true m n h le = omega (arith, le)
    at_most false false m n h le = omega (arith, le)

    fewer_or_same : (done cs : List A) (a : A) → missing (done ++ a ∷ []) cs ≤ missing done cs
    fewer_or_same done [] a = omega arith
    fewer_or_same done (c ∷ cs) a = at_most (has same done c) (has same (done ++ a ∷ []) c) _ _ (λ h. has_left done (a ∷ []) c h) (fewer_or_same done cs a)

    less : (b d : Bool) (m n : ℕ) → (b ≡ true → d ≡ true) → m < n → cond d m (suc m) < cond b n (suc n)
    less true true m n h lt = lt
    less true false m n h lt = absurd (false_true (h refl))
    less false true m n h lt = omega (arith, lt)
    less false false m n h lt = omega (arith, lt)

    less_here : (b d : Bool) (m n : ℕ) → b ≡ false → d ≡ true → m ≤ n → cond d m (suc m) < cond b n (suc n)
    less_here b d m n e f le = rw (e, f) (omega (arith, le))

    fewer : (done cs : List A) (a : A) → has same done a ≡ false → has same cs a ≡ true → missing (done ++ a ∷ []) cs < missing done cs
    fewer done [] a n h = absurd (false_true h)
    fewer done (c ∷ cs) a n h = elim (or_cases (same a c) (has same cs a) h) [
      | inl e ↦ less_here (has same done c) (has same (done ++ a ∷ []) c) _ _ (sym (ap (has same done) (exact a c e)) ∙ n)
          (subst (λ (x : A). has same (done ++ a ∷ []) x ≡ true) (exact a c e) (has_last done a)) (fewer_or_same done cs a)
      | inr d ↦ less (has same done c) (has same (done ++ a ∷ []) c) _ _ (λ k. has_left done (a ∷ []) c k) (fewer done cs a n d)
    ]

    -- what is written is new after what is before it
    new_there : (w done waiting : List A) (a : A) → AreNew w (done ++ a ∷ waiting) → has same (w ++ done) a ≡ false
    new_there w [] waiting a n = ap (λ (x : List A). has same x a) (append-nil w) ∙ n.0
    new_there w (x ∷ done) waiting a n = ap (λ (y : List A). has same y a) (sym (append_assoc w (x ∷ []) done)) ∙ new_there (w ++ x ∷ []) done waiting a n.1

    written_new : (done waiting : List A) (a : A) → written done ≡ done ++ a ∷ waiting → has same done a ≡ false
    written_new done waiting a w =
        new_there [] done waiting a (subst (AreNew []) (sym (and_fresh [] (start ++ flat_map line done)) ∙ w) (fresh_new [] (start ++ flat_map line done)))

    step_on : (cs : List A) → ((a : A) → IsReached same start line a → has same cs a ≡ true) → (n : ℕ) (done waiting : List A) → written done ≡ done ++ waiting
        → AllByRecursion (IsReached same start line) done → missing done cs ≤ n → (xs : List A) × Follows done waiting xs
    step_on cs among n done [] w h le = (done, ends refl)
    step_on cs among zero done (a ∷ waiting) w h le =
        let r = line_reached done waiting a w h in
        let less = fewer done cs a (written_new done waiting a w) (among a ((all_parts (IsReached same start line) done (a ∷ []) r).1.0)) in
        absurd (omega (arith, less, le))
    step_on cs among (suc n) done (a ∷ waiting) w h le =
        let r = line_reached done waiting a w h in
        let less = fewer done cs a (written_new done waiting a w) (among a ((all_parts (IsReached same start line) done (a ∷ []) r).1.0)) in
        let e = after_line done waiting a w in
        let more = step_on cs among n (done ++ a ∷ []) (waiting ++ fresh (done ++ a ∷ waiting) (line a ++ [])) e r (omega (arith, less, le)) in
        (more.0, next e more.1)

    -- only finitely many are reached, so there is a numbering
    pub numbering_there : (cs : List A) → ((a : A) → IsReached same start line a → has same cs a ≡ true) → (xs : List A) × IsNumbering same start line xs
    numbering_there cs among =
        let found = step_on cs among (missing [] cs) [] (written []) refl tt (omega arith) in
        (found.0, follows_numbering found.1 refl tt)

    -- ---- places

    -- each occurs once
    pub numbering_new : (xs : List A) → IsNumbering same start line xs → AreNew [] xs
    numbering_new xs n = subst (AreNew []) (sym (and_fresh [] (start ++ flat_map line xs)) ∙ sym n.in_order) (fresh_new [] (start ++ flat_map line xs))
