-- Which patterns take the same. Each constructor respects this relation. A choice is a set of alternatives. Groups and
-- interleaves may be nested in another way. The rules that are applied while patterns are built (RELAX NG
-- Specification, sections 4.20 and 4.21) change nothing.
use Rattle.std.proofs.Common.{◌≡◌, ℕ, List, ◌∷◌, ◌++◌, refl, sym, ap, ◌∙◌, subst, Bool, true, false, cond, append_assoc}
use Rattle.std.proofs.lemmas.List.{append-nil}
use Rattle.rng_model.specs.simple.Tree.{Simple, choice, group, interleave, s_not_allowed, s_empty, s_one_or_more, s_joined}
use Rattle.rng_model.specs.matching.Document.{Attribute, Item, Interleaves, done, left, right}
use Rattle.rng_model.proofs.OneSidedInterleavings.{left_alone, right_alone, left_is_all, right_is_all}
use Rattle.rng_model.specs.matching.GrammarMatching.{Reading}
use Rattle.rng_deriv_laws.specs.plain.Taking.{Takes, Same}
use Rattle.rng_deriv_laws.specs.plain.Taking as t
use Rattle.rng_deriv_laws.specs.plain.Derivatives.{is_nullable, is_not_allowed, is_empty, choice_of, group_of, interleave_of, repeat_of}
use Rattle.rng_deriv_laws.proofs.Nullable.{null_out}

-- ---- interleavings in another order

pub turned : {A : Type 0} {xs ys zs : List A} → Interleaves xs ys zs → Interleaves ys xs zs
turned done = done
turned (left i) = right (turned i)
turned (right i) = left (turned i)

pub record Between {A : Type 0} (xs ys zs us : List A) : Type 0 where
  pub both : List A
  pub inner : Interleaves ys zs both
  pub outer : Interleaves xs both us

-- (xs and ys) and zs are xs and (ys and zs)
pub regrouped : {A : Type 0} {xs ys zs vs us : List A} → Interleaves xs ys vs → Interleaves vs zs us → Between xs ys zs us
regrouped done i = record { both = _; inner = i; outer = right_alone _ }
regrouped (left i) (left {x = x} j) = let r = regrouped i j in record { both = r.both; inner = r.inner; outer = left r.outer }
regrouped (right i) (left {x = x} j) = let r = regrouped i j in record { both = x ∷ r.both; inner = left r.inner; outer = right r.outer }
regrouped i (right {y = y} j) = let r = regrouped i j in record { both = y ∷ r.both; inner = right r.inner; outer = right r.outer }

pub none_is : (p : Simple ℕ) → is_not_allowed p ≡ true → p ≡ s_not_allowed
none_is s_not_allowed e = refl
none_is _ e = absurd (cc)

pub empty_is : (p : Simple ℕ) → is_empty p ≡ true → p ≡ s_empty
empty_is s_empty e = refl
empty_is _ e = absurd (cc)

module _ (g : Reading) where
  -- ---- an equivalence

  pub same : (p : Simple ℕ) → Same g p p
  same p = record { to = λ xs ns d. d; back = λ xs ns d. d }

  pub same_back : {p q : Simple ℕ} → Same g p q → Same g q p
  same_back s = record { to = s.back; back = s.to }

  pub same_through : {p q r : Simple ℕ} → Same g p q → Same g q r → Same g p r
  same_through s u = record { to = λ xs ns d. u.to xs ns (s.to xs ns d); back = λ xs ns d. s.back xs ns (u.back xs ns d) }

  -- ---- each constructor respects it

  abbrev pub Implies : Simple ℕ → Simple ℕ → Type 0
  Implies p q = (xs : List Attribute) (ns : List Item) → Takes g p xs ns → Takes g q xs ns

  on_choice : {p q r u : Simple ℕ} → Implies p r → Implies q u → Implies (s_joined choice p q) (s_joined choice r u)
  on_choice f h xs ns (t.first d) = t.first (f xs ns d)
  on_choice f h xs ns (t.second d) = t.second (h xs ns d)

  pub on_group : {p q r u : Simple ℕ} → Implies p r → Implies q u → Implies (s_joined group p q) (s_joined group r u)
  on_group f h xs ns (t.grouped d e i c) = t.grouped (f _ _ d) (h _ _ e) i c

  pub on_interleave : {p q r u : Simple ℕ} → Implies p r → Implies q u → Implies (s_joined interleave p q) (s_joined interleave r u)
  on_interleave f h xs ns (t.interleaved d e i c) = t.interleaved (f _ _ d) (h _ _ e) i c

  on_repeat : {p q : Simple ℕ} → Implies p q → Implies (s_one_or_more p) (s_one_or_more q)
  on_repeat f xs ns (t.once d) = t.once (f xs ns d)
  on_repeat f xs ns (t.again d e a i c) = t.again (f _ _ d) (on_repeat f _ _ e) a i c

  pub same_choice : {p q r u : Simple ℕ} → Same g p r → Same g q u → Same g (s_joined choice p q) (s_joined choice r u)
  same_choice a b = record { to = on_choice a.to b.to; back = on_choice a.back b.back }

  pub same_group : {p q r u : Simple ℕ} → Same g p r → Same g q u → Same g (s_joined group p q) (s_joined group r u)
  same_group a b = record { to = on_group a.to b.to; back = on_group a.back b.back }

  pub same_interleave : {p q r u : Simple ℕ} → Same g p r → Same g q u → Same g (s_joined interleave p q) (s_joined interleave r u)
  same_interleave a b = record { to = on_interleave a.to b.to; back = on_interleave a.back b.back }

  pub same_repeat : {p q : Simple ℕ} → Same g p q → Same g (s_one_or_more p) (s_one_or_more q)
  same_repeat a = record { to = on_repeat a.to; back = on_repeat a.back }

  -- ---- a choice is a set of alternatives

  choice_forth : (p q r : Simple ℕ) → Implies (s_joined choice (s_joined choice p q) r) (s_joined choice p (s_joined choice q r))
  choice_forth p q r xs ns (t.first (t.first d)) = t.first d
  choice_forth p q r xs ns (t.first (t.second d)) = t.second (t.first d)
  choice_forth p q r xs ns (t.second d) = t.second (t.second d)

  choice_back : (p q r : Simple ℕ) → Implies (s_joined choice p (s_joined choice q r)) (s_joined choice (s_joined choice p q) r)
  choice_back p q r xs ns (t.first d) = t.first (t.first d)
  choice_back p q r xs ns (t.second (t.first d)) = t.first (t.second d)
  choice_back p q r xs ns (t.second (t.second d)) = t.second d

  pub choice_associative : (p q r : Simple ℕ) → Same g (s_joined choice (s_joined choice p q) r) (s_joined choice p (s_joined choice q r))
  choice_associative p q r = record { to = choice_forth p q r; back = choice_back p q r }

  choice_turned : (p q : Simple ℕ) → Implies (s_joined choice p q) (s_joined choice q p)
  choice_turned p q xs ns (t.first d) = t.second d
  choice_turned p q xs ns (t.second d) = t.first d

  pub choice_commutative : (p q : Simple ℕ) → Same g (s_joined choice p q) (s_joined choice q p)
  choice_commutative p q = record { to = choice_turned p q; back = choice_turned q p }

  -- an alternative that takes no more than another may be left out
  absorb : (p q : Simple ℕ) → Implies p q → Implies (s_joined choice p q) q
  absorb p q f xs ns (t.first d) = f xs ns d
  absorb p q f xs ns (t.second d) = d

  pub choice_absorbs : (p q : Simple ℕ) → ((xs : List Attribute) (ns : List Item) → Takes g p xs ns → Takes g q xs ns) → Same g (s_joined choice p q) q
  choice_absorbs p q f = record { to = absorb p q f; back = λ xs ns d. t.second d }

  pub choice_idempotent : (p : Simple ℕ) → Same g (s_joined choice p p) p
  choice_idempotent p = choice_absorbs p p (λ xs ns d. d)

  -- q in a choice with a group of a nullable pattern and q
  pub choice_absorbs_second : (p q : Simple ℕ) → is_nullable p ≡ true → Same g (s_joined choice q (s_joined group p q)) (s_joined group p q)
  choice_absorbs_second p q e = choice_absorbs q (s_joined group p q) (λ xs ns d. t.grouped (null_out g p e) d (right_alone xs) refl)

  -- ---- groups and interleaves

  group_forth : (p q r : Simple ℕ) → Implies (s_joined group (s_joined group p q) r) (s_joined group p (s_joined group q r))
  group_forth p q r xs ns (t.grouped {ns = rest} (t.grouped {ms = us} {ns = vs} d e i c) f j h) =
      let b = regrouped i j in
      t.grouped d (t.grouped e f b.inner refl) b.outer (sym (append_assoc us vs rest) ∙ ap (λ l. l ++ rest) c ∙ h)

  group_back : (p q r : Simple ℕ) → Implies (s_joined group p (s_joined group q r)) (s_joined group (s_joined group p q) r)
  group_back p q r xs ns (t.grouped {ms = front} d (t.grouped {ms = us} {ns = vs} e f i c) j h) =
      let b = regrouped (turned i) (turned j) in
      t.grouped (t.grouped d e (turned b.inner) refl) f (turned b.outer) (append_assoc front us vs ∙ ap (λ l. front ++ l) c ∙ h)

  pub group_associative : (p q r : Simple ℕ) → Same g (s_joined group (s_joined group p q) r) (s_joined group p (s_joined group q r))
  group_associative p q r = record { to = group_forth p q r; back = group_back p q r }

  interleave_turned : (p q : Simple ℕ) → Implies (s_joined interleave p q) (s_joined interleave q p)
  interleave_turned p q xs ns (t.interleaved d e i c) = t.interleaved e d (turned i) (turned c)

  pub interleave_commutative : (p q : Simple ℕ) → Same g (s_joined interleave p q) (s_joined interleave q p)
  interleave_commutative p q = record { to = interleave_turned p q; back = interleave_turned q p }

  interleave_forth : (p q r : Simple ℕ) → Implies (s_joined interleave (s_joined interleave p q) r) (s_joined interleave p (s_joined interleave q r))
  interleave_forth p q r xs ns (t.interleaved (t.interleaved d e i c) f j h) =
      let a = regrouped i j in let b = regrouped c h in t.interleaved d (t.interleaved e f a.inner b.inner) a.outer b.outer

  interleave_back : (p q r : Simple ℕ) → Implies (s_joined interleave p (s_joined interleave q r)) (s_joined interleave (s_joined interleave p q) r)
  interleave_back p q r xs ns (t.interleaved d (t.interleaved e f i c) j h) =
      let a = regrouped (turned i) (turned j) in
      let b = regrouped (turned c) (turned h) in
      t.interleaved (t.interleaved d e (turned a.inner) (turned b.inner)) f (turned a.outer) (turned b.outer)

  pub interleave_associative : (p q r : Simple ℕ)
      → Same g (s_joined interleave (s_joined interleave p q) r) (s_joined interleave p (s_joined interleave q r))
  interleave_associative p q r = record { to = interleave_forth p q r; back = interleave_back p q r }

  -- ---- notAllowed and empty on a side

  choice_left : (q : Simple ℕ) → Implies (s_joined choice s_not_allowed q) q
  choice_left q xs ns (t.first d) = elim d [ ]
  choice_left q xs ns (t.second d) = d

  choice_right : (p : Simple ℕ) → Implies (s_joined choice p s_not_allowed) p
  choice_right p xs ns (t.first d) = d
  choice_right p xs ns (t.second d) = elim d [ ]

  group_none_left : (q : Simple ℕ) → Implies (s_joined group s_not_allowed q) s_not_allowed
  group_none_left q xs ns (t.grouped d e i c) = elim d [ ]

  group_none_right : (p : Simple ℕ) → Implies (s_joined group p s_not_allowed) s_not_allowed
  group_none_right p xs ns (t.grouped d e i c) = elim e [ ]

  group_empty_left : (q : Simple ℕ) → Implies (s_joined group s_empty q) q
  group_empty_left q xs ns (t.grouped {ys = ys} t.empty_is e i c) = subst (λ l. Takes g q l ns) (right_is_all i) (subst (λ l. Takes g q ys l) c e)

  group_empty_right : (p : Simple ℕ) → Implies (s_joined group p s_empty) p
  group_empty_right p xs ns (t.grouped {xs = ys} {ms = ms} d t.empty_is i c) =
      subst (λ l. Takes g p l ns) (left_is_all i) (subst (λ l. Takes g p ys l) (sym (append-nil ms) ∙ c) d)

  between_none_left : (q : Simple ℕ) → Implies (s_joined interleave s_not_allowed q) s_not_allowed
  between_none_left q xs ns (t.interleaved d e i c) = elim d [ ]

  between_none_right : (p : Simple ℕ) → Implies (s_joined interleave p s_not_allowed) s_not_allowed
  between_none_right p xs ns (t.interleaved d e i c) = elim e [ ]

  between_empty_left : (q : Simple ℕ) → Implies (s_joined interleave s_empty q) q
  between_empty_left q xs ns (t.interleaved {ys = ys} t.empty_is e i c) =
      subst (λ l. Takes g q l ns) (right_is_all i) (subst (λ l. Takes g q ys l) (right_is_all c) e)

  between_empty_right : (p : Simple ℕ) → Implies (s_joined interleave p s_empty) p
  between_empty_right p xs ns (t.interleaved {xs = ys} d t.empty_is i c) =
      subst (λ l. Takes g p l ns) (left_is_all i) (subst (λ l. Takes g p ys l) (left_is_all c) d)

  repeat_none : Implies (s_one_or_more s_not_allowed) s_not_allowed
  repeat_none xs ns (t.once d) = d
  repeat_none xs ns (t.again d e a i c) = elim d [ ]

  repeat_empty : Implies (s_one_or_more s_empty) s_empty
  repeat_empty xs ns (t.once d) = d
  repeat_empty xs ns (t.again {ys = ys} t.empty_is e a i c) =
      subst (λ l. Takes g s_empty l ns) (right_is_all i) (subst (λ l. Takes g s_empty ys l) c (repeat_empty _ _ e))

  nowhere : (q : Simple ℕ) → Implies s_not_allowed q
  nowhere q xs ns d = elim d [ ]

  -- the rules, one by one (sections 4.20 and 4.21)
  pub not_allowed_or : (q : Simple ℕ) → Same g q (s_joined choice s_not_allowed q)
  not_allowed_or q = record { to = λ xs ns d. t.second d; back = choice_left q }

  pub or_not_allowed : (p : Simple ℕ) → Same g p (s_joined choice p s_not_allowed)
  or_not_allowed p = record { to = λ xs ns d. t.first d; back = choice_right p }

  pub empty_then : (q : Simple ℕ) → Same g q (s_joined group s_empty q)
  empty_then q = record { to = λ xs ns d. t.grouped t.empty_is d (right_alone xs) refl; back = group_empty_left q }

  pub then_empty : (p : Simple ℕ) → Same g p (s_joined group p s_empty)
  then_empty p = record { to = λ xs ns d. t.grouped d t.empty_is (left_alone xs) (append-nil ns); back = group_empty_right p }

  pub empty_beside : (q : Simple ℕ) → Same g q (s_joined interleave s_empty q)
  empty_beside q = record { to = λ xs ns d. t.interleaved t.empty_is d (right_alone xs) (right_alone ns); back = between_empty_left q }

  pub beside_empty : (p : Simple ℕ) → Same g p (s_joined interleave p s_empty)
  beside_empty p = record { to = λ xs ns d. t.interleaved d t.empty_is (left_alone xs) (left_alone ns); back = between_empty_right p }

  -- ---- patterns as they are built

  by_test : (b : Bool) (p q r : Simple ℕ) → (b ≡ true → Same g p r) → (b ≡ false → Same g q r) → Same g (cond b p q) r
  by_test true p q r f h = f refl
  by_test false p q r f h = h refl

  pub choice_of-same : (p q : Simple ℕ) → Same g (choice_of p q) (s_joined choice p q)
  choice_of-same p q =
      by_test (is_not_allowed p) q _ _
      (λ e. subst (λ p. Same g q (s_joined choice p q)) (sym (none_is p e)) (not_allowed_or q))
      (λ _. by_test (is_not_allowed q) p _ _
      (λ e. subst (λ q. Same g p (s_joined choice p q)) (sym (none_is q e)) (or_not_allowed p))
      (λ _. same _))

  pub group_of-same : (p q : Simple ℕ) → Same g (group_of p q) (s_joined group p q)
  group_of-same p q =
      by_test (is_not_allowed p) s_not_allowed _ _
      (λ e. subst (λ p. Same g s_not_allowed (s_joined group p q)) (sym (none_is p e)) (record { to = nowhere _; back = group_none_left q }))
      (λ _. by_test (is_not_allowed q) s_not_allowed _ _
      (λ e. subst (λ q. Same g s_not_allowed (s_joined group p q)) (sym (none_is q e)) (record { to = nowhere _; back = group_none_right p }))
      (λ _. by_test (is_empty p) q _ _
      (λ e. subst (λ p. Same g q (s_joined group p q)) (sym (empty_is p e))
      (empty_then q))
      (λ _. by_test (is_empty q) p _ _
      (λ e. subst (λ q. Same g p (s_joined group p q)) (sym (empty_is q e))
      (then_empty p))
      (λ _. same _))))

  pub interleave_of-same : (p q : Simple ℕ) → Same g (interleave_of p q) (s_joined interleave p q)
  interleave_of-same p q =
      by_test (is_not_allowed p) s_not_allowed _ _
      (λ e. subst (λ p. Same g s_not_allowed (s_joined interleave p q)) (sym (none_is p e)) (record { to = nowhere _; back = between_none_left q }))
      (λ _. by_test (is_not_allowed q) s_not_allowed _ _
      (λ e. subst (λ q. Same g s_not_allowed (s_joined interleave p q)) (sym (none_is q e)) (record { to = nowhere _; back = between_none_right p }))
      (λ _. by_test (is_empty p) q _ _
      (λ e. subst (λ p. Same g q (s_joined interleave p q)) (sym (empty_is p e))
      (empty_beside q))
      (λ _. by_test (is_empty q) p _ _
      (λ e. subst (λ q. Same g p (s_joined interleave p q)) (sym (empty_is q e))
      (beside_empty p))
      (λ _. same _))))

  pub empty_repeated : (p : Simple ℕ) → is_empty p ≡ true → Same g p (s_one_or_more p)
  empty_repeated p e = subst (λ p. Same g p (s_one_or_more p)) (sym (empty_is p e)) (record { to = λ xs ns d. t.once d; back = repeat_empty })

  pub repeat_of-same : (p : Simple ℕ) → Same g (repeat_of p) (s_one_or_more p)
  repeat_of-same p =
      by_test (is_not_allowed p) s_not_allowed _ _
      (λ e. subst (λ p. Same g s_not_allowed (s_one_or_more p)) (sym (none_is p e)) (record { to = nowhere _; back = repeat_none }))
      (λ _. by_test (is_empty p) s_empty _ _
      (λ e. subst (λ q. Same g q (s_one_or_more p)) (empty_is p e) (empty_repeated p e))
      (λ _. same _))
