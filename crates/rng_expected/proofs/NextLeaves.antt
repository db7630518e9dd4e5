-- What may come next, given the leaves that the pattern may begin with.
use Rattle.std.proofs.Common.{◌≡◌, ◌∙◌, ◌↔◌, ◌⊎◌, inl, inr, ℕ, List, [], ◌∷◌, ◌++◌, map, fold, true, refl, sym, ap, ap₂, subst, ⊎_elim}
use Rattle.std.proofs.Common.{Contains, Option, Some, None, slice_get, arith}
use Rattle.std.proofs.lemmas.Option.{same_Some}
use Rattle.std.proofs.lemmas.List.Elements.{Contains-append_left, Contains-append_right, Contains-get_or, Contains-push, Contains-push_cases}
use Rattle.rng_model.proofs.Members.{contains_mapped, first_or_later, not_in_none}
use Rattle.rng_model.specs.names.Names.{NameClass}
use Rattle.rng_model.specs.simple.Grammar.{Grammar}
use Rattle.rng_model.specs.simple.Table.{Table}
use Rattle.rng_model.specs.simple.Tree.{Datatype, Simple, choice, group, interleave, s_not_allowed, s_empty, s_text, s_leaf, s_attribute, s_list, s_data}
use Rattle.rng_model.specs.simple.Tree.{s_data_except, s_value, s_one_or_more, s_joined}
use Rattle.rng_deriv_table.specs.views.Node.{Node}
use Rattle.rng_deriv_table.specs.views.Trees.{tree_of}
use Rattle.rng_deriv_table.specs.declared.pattern.PatternNumber.{PatternNumber}
use Rattle.rng_expected.specs.Expectations.{BeginsWith, IsDataOf, IsElementOf, IsOfStrings, IsExpected, IsValueOf, Next, SomeBegins, nothing}
use Rattle.rng_expected.specs.plain.Leaves.{AreLeaves, Stands}
use Rattle.rng_expected.specs.plain.Nexts.{with_class, with_leaf, with_leaves}
use Rattle.rng_expected.specs.declared.leaves.Standing.TheVariants as standings
use Rattle.rng_expected.proofs.FoundLeaves.{member_before}

-- ---- first leaves

pub begins_first : (p l : Simple ℕ) → BeginsWith p l ↔ Stands standings.First p l
begins_first s_not_allowed l = (λ h. h, λ h. h)
begins_first s_empty l = (λ h. h, λ h. h)
begins_first s_text l = (λ h. (refl, h), λ h. h.1)
begins_first (s_leaf k) l = (λ h. (refl, h), λ h. h.1)
begins_first (s_attribute c p) l = (λ h. absurd h, λ h. let no = h.0 in absurd cc)
begins_first (s_list p) l = (λ h. (refl, h), λ h. h.1)
begins_first (s_data d) l = (λ h. (refl, h), λ h. h.1)
begins_first (s_data_except d p) l = (λ h. (refl, h), λ h. h.1)
begins_first (s_value d v) l = (λ h. (refl, h), λ h. h.1)
begins_first (s_one_or_more p) l = begins_first p l
begins_first (s_joined choice p q) l = (
  λ h. ⊎_elim (λ f. inl ((begins_first p l).0 f)) (λ f. inr ((begins_first q l).0 f)) h,
  λ h. ⊎_elim (λ f. inl ((begins_first p l).1 f)) (λ f. inr ((begins_first q l).1 f)) h,
)
begins_first (s_joined group p q) l = (
  λ h. ⊎_elim (λ f. inl (refl, (begins_first p l).0 f)) (λ f. inr (f.0, (begins_first q l).0 f.1)) h,
  λ h. ⊎_elim (λ f. inl ((begins_first p l).1 f.1)) (λ f. inr (f.0, (begins_first q l).1 f.1)) h,
)
begins_first (s_joined interleave p q) l = (
  λ h. ⊎_elim (λ f. inl (refl, (begins_first p l).0 f)) (λ f. inr (refl, (begins_first q l).0 f)) h,
  λ h. ⊎_elim (λ f. inl ((begins_first p l).1 f.1)) (λ f. inr ((begins_first q l).1 f.1)) h,
)

-- ---- one leaf more

unchanged : {A B : Type 0} → (B → ⊥) → A ↔ (A ⊎ B)
unchanged never = (λ h. inl h, λ d. ⊎_elim (λ h. h) (λ b. absurd (never b)) d)

pushed : {A B : Type 0} (xs : List A) (y x : A) → B ↔ (y ≡ x) → Contains (xs ++ y ∷ []) x ↔ (Contains xs x ⊎ B)
pushed xs y x same = (
  λ c. ⊎_elim (λ h. inl h) (λ e. inr (same.1 e)) (Contains-push_cases xs y x c),
  λ d. ⊎_elim (λ c. Contains-append_left xs (y ∷ []) x c) (λ b. subst (Contains (xs ++ y ∷ [])) (same.0 b) (Contains-push xs y)) d,
)

module _ (g : Grammar) (c : NameClass) (next : Next) where
  class_found : (k : ℕ) (o : Option (NameClass × Simple ℕ)) → slice_get g.elements k ≡ o
      → Contains (with_class o next).elements c ↔ (Contains next.elements c ⊎ IsElementOf g c (s_leaf k))
  class_found k None none = unchanged (λ h. let same : k ≡ h.0 = cc in absurd (let e : None ≡ Some (c, h.1) = sym none ∙ ap (slice_get g.elements) same ∙ h.3 in cc))
  class_found k (Some e) some = pushed next.elements e.0 c (
    λ h. let same : k ≡ h.0 = cc in ap (λ (d : NameClass × Simple ℕ). d.0) (same_Some e (c, h.1) (sym some ∙ ap (slice_get g.elements) same ∙ h.3)),
    λ is. (k, e.1, refl, some ∙ ap (λ d. Some (d, e.1)) is),
  )

  pub class_step : (l : Simple ℕ) → Contains (with_leaf g next l).elements c ↔ (Contains next.elements c ⊎ IsElementOf g c l)
  class_step s_not_allowed = unchanged (λ h. let e = h.2 in cc)
  class_step s_empty = unchanged (λ h. let e = h.2 in cc)
  class_step s_text = unchanged (λ h. let e = h.2 in cc)
  class_step (s_leaf k) = class_found k (slice_get g.elements k) refl
  class_step (s_attribute d p) = unchanged (λ h. let e = h.2 in cc)
  class_step (s_list p) = unchanged (λ h. let e = h.2 in cc)
  class_step (s_data d) = unchanged (λ h. let e = h.2 in cc)
  class_step (s_data_except d p) = unchanged (λ h. let e = h.2 in cc)
  class_step (s_value d v) = unchanged (λ h. let e = h.2 in cc)
  class_step (s_one_or_more p) = unchanged (λ h. let e = h.2 in cc)
  class_step (s_joined k p q) = unchanged (λ h. let e = h.2 in cc)

module _ (g : Grammar) (next : Next) where
  told : {A : Type 0} → A → (true ≡ true) ↔ ((next.text ≡ true) ⊎ A)
  told a = (λ h. inr a, λ d. refl)

  class_keeps_text : (o : Option (NameClass × Simple ℕ)) → (with_class o next).text ≡ next.text
  class_keeps_text None = refl
  class_keeps_text (Some e) = refl

  pub text_step : (l : Simple ℕ) → ((with_leaf g next l).text ≡ true) ↔ ((next.text ≡ true) ⊎ IsOfStrings l)
  text_step s_not_allowed = unchanged (λ h. h)
  text_step s_empty = unchanged (λ h. h)
  text_step s_text = told tt
  text_step (s_leaf k) = subst (λ b. (b ≡ true) ↔ ((next.text ≡ true) ⊎ ⊥)) (sym (class_keeps_text (slice_get g.elements k))) (unchanged (λ h. h))
  text_step (s_attribute d p) = unchanged (λ h. h)
  text_step (s_list p) = told tt
  text_step (s_data d) = told tt
  text_step (s_data_except d p) = told tt
  text_step (s_value d v) = told tt
  text_step (s_one_or_more p) = unchanged (λ h. h)
  text_step (s_joined k p q) = unchanged (λ h. h)

  class_keeps_values : (o : Option (NameClass × Simple ℕ)) → (with_class o next).values ≡ next.values
  class_keeps_values None = refl
  class_keeps_values (Some e) = refl

  pub value_step : (v : Datatype × List ℕ) (l : Simple ℕ) → Contains (with_leaf g next l).values v ↔ (Contains next.values v ⊎ IsValueOf v l)
  value_step v s_not_allowed = unchanged (λ h. cc)
  value_step v s_empty = unchanged (λ h. cc)
  value_step v s_text = unchanged (λ h. cc)
  value_step v (s_leaf k) = subst (λ vs. Contains vs v ↔ (Contains next.values v ⊎ IsValueOf v (s_leaf k)))
      (sym (class_keeps_values (slice_get g.elements k))) (unchanged (λ h. cc))
  value_step v (s_attribute d p) = unchanged (λ h. cc)
  value_step v (s_list p) = unchanged (λ h. cc)
  value_step v (s_data d) = unchanged (λ h. cc)
  value_step v (s_data_except d p) = unchanged (λ h. cc)
  value_step v (s_value d w) = pushed next.values (d, w) v (
    λ h. let same : d ≡ v.0 = cc in let text : w ≡ v.1 = cc in ap₂ (λ d w. (d, w)) same text,
    λ e. ap (λ (v : Datatype × List ℕ). s_value v.0 v.1) e,
  )
  value_step v (s_one_or_more p) = unchanged (λ h. cc)
  value_step v (s_joined k p q) = unchanged (λ h. cc)

  class_keeps_datatypes : (o : Option (NameClass × Simple ℕ)) → (with_class o next).datatypes ≡ next.datatypes
  class_keeps_datatypes None = refl
  class_keeps_datatypes (Some e) = refl

  no_data : (d : Datatype) (l : Simple ℕ) → (l ≡ s_data d → ⊥) → ((e : Simple ℕ) → l ≡ s_data_except d e → ⊥) → IsDataOf d l → ⊥
  no_data d l never none h = ⊎_elim never (λ e. none e.0 e.1) h

  pub datatype_step : (d : Datatype) (l : Simple ℕ) → Contains (with_leaf g next l).datatypes d ↔ (Contains next.datatypes d ⊎ IsDataOf d l)
  datatype_step d s_not_allowed = unchanged (no_data d s_not_allowed (λ h. cc) (λ e h. cc))
  datatype_step d s_empty = unchanged (no_data d s_empty (λ h. cc) (λ e h. cc))
  datatype_step d s_text = unchanged (no_data d s_text (λ h. cc) (λ e h. cc))
  datatype_step d (s_leaf k) = subst (λ ds. Contains ds d ↔ (Contains next.datatypes d ⊎ IsDataOf d (s_leaf k)))
      (sym (class_keeps_datatypes (slice_get g.elements k))) (unchanged (no_data d (s_leaf k) (λ h. cc) (λ e h. cc)))
  datatype_step d (s_attribute c p) = unchanged (no_data d (s_attribute c p) (λ h. cc) (λ e h. cc))
  datatype_step d (s_list p) = unchanged (no_data d (s_list p) (λ h. cc) (λ e h. cc))
  datatype_step d (s_data f) = pushed next.datatypes f d (
    λ h. ⊎_elim (λ e. let same : f ≡ d = cc in same) (λ e. let is = e.1 in absurd cc) h,
    λ e. inl (ap s_data e),
  )
  datatype_step d (s_data_except f p) = pushed next.datatypes f d (
    λ h. ⊎_elim (λ e. absurd cc) (λ e. let is = e.1 in let same : f ≡ d = cc in same) h,
    λ e. inr (p, ap (λ d. s_data_except d p) e),
  )
  datatype_step d (s_value f w) = unchanged (no_data d (s_value f w) (λ h. cc) (λ e h. cc))
  datatype_step d (s_one_or_more p) = unchanged (no_data d (s_one_or_more p) (λ h. cc) (λ e h. cc))
  datatype_step d (s_joined k p q) = unchanged (no_data d (s_joined k p q) (λ h. cc) (λ e h. cc))

-- ---- all leaves

module _ (g : Grammar) (Has : Next → Type 0) (Is : Simple ℕ → Type 0) (step : (next : Next) (l : Simple ℕ) → Has (with_leaf g next l) ↔ (Has next ⊎ Is l)) where
  abbrev SomeLeaf : List (Simple ℕ) → Type 0
  SomeLeaf ls = (l : Simple ℕ) × Contains ls l × Is l

  all_leaves : (ls : List (Simple ℕ)) (next : Next) → Has (fold (with_leaf g) next ls) ↔ (Has next ⊎ SomeLeaf ls)
  all_leaves [] next = (λ h. inl h, λ d. ⊎_elim (λ h. h) (λ s. absurd (not_in_none s.1)) d)
  all_leaves (l ∷ ls) next = let later = all_leaves ls (with_leaf g next l) in (
    λ h. ⊎_elim
        (λ now. ⊎_elim (λ b. inl b) (λ is. inr (l, Contains-get_or (l ∷ ls) 0 l (omega arith), is)) ((step next l).0 now))
        (λ s. inr (s.0, Contains-append_right (l ∷ []) ls s.0 s.1, s.2))
        (later.0 h),
    λ d. later.1 (⊎_elim
        (λ b. inl ((step next l).1 (inl b)))
        (λ s. ⊎_elim (λ e. inl ((step next l).1 (inr (subst Is (sym e) s.2)))) (λ c. inr (s.0, c, s.2)) (first_or_later l ls s.0 s.1))
        d),
  )

  -- the leaves that the patterns begin with
  pub some_begins : (Has nothing → ⊥) → (t : Table) (ns : List Node) (ps found : List PatternNumber) → AreLeaves standings.First t ns ps found
      → Has (with_leaves g (map (λ (n : PatternNumber). tree_of t ns n.0) found)) ↔ SomeBegins (map (λ (n : PatternNumber). tree_of t ns n.0) ps) Is
  some_begins none t ns ps found are = let all = all_leaves (map of found) nothing in (
    λ h. ⊎_elim
        (λ b. absurd (none b))
        (λ s. let m = member_before of s.0 found s.1 in
        let p = (are.law s.0).1 (m.0, m.1, sym m.2) in
        (of p.0, s.0, contains_mapped of ps p.0 p.1, (begins_first (of p.0) s.0).1 p.2, s.2))
        (all.0 h),
    λ d. let m = member_before of d.0 ps d.2 in
        let o = (are.law d.1).0 (m.0, m.1, (begins_first (of m.0) d.1).0 (subst (λ p. BeginsWith p d.1) (sym m.2) d.3)) in
        all.1 (inr (of o.0, contains_mapped of found o.0 o.1, subst Is o.2 d.4)),
  )
    where
      of : PatternNumber → Simple ℕ
      of n = tree_of t ns n.0

-- ---- all that may come

module _ (g : Grammar) (t : Table) (ns : List Node) (ps found : List PatternNumber) (are : AreLeaves standings.First t ns ps found) where
  pub all_expected : (next : Next) → next ≡ with_leaves g (map (λ (n : PatternNumber). tree_of t ns n.0) found)
      → IsExpected g (map (λ (n : PatternNumber). tree_of t ns n.0) ps) next
  all_expected next is = subst (IsExpected g (map (λ (n : PatternNumber). tree_of t ns n.0) ps)) (sym is) (record {
    elements = λ c. some_begins g (λ next. Contains next.elements c) (IsElementOf g c) (λ next l. class_step g c next l) (λ h. not_in_none h) t ns ps found are;
    text = some_begins g (λ next. next.text ≡ true) IsOfStrings (λ next l. text_step g next l) (λ h. absurd cc) t ns ps found are;
    values = λ v. some_begins g (λ next. Contains next.values v) (IsValueOf v) (λ next l. value_step g next v l) (λ h. not_in_none h) t ns ps found are;
    datatypes = λ d. some_begins g (λ next. Contains next.datatypes d) (IsDataOf d) (λ next l. datatype_step g next d l) (λ h. not_in_none h) t ns ps found are;
  })
