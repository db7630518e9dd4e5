-- The tests of how components of one name are combined decide the definitions.
use Rattle.std.proofs.Common.{◌≡◌, ◌⊎◌, inl, inr, refl, sym, ap, ◌∙◌, List, [], ◌∷◌, ◌++◌, Bool, true, false, cond, ◌||◌, ◌&&◌}
use Rattle.std.specs.List.{list_any}
use Rattle.std.proofs.Math.Bool.{or-false}
use Rattle.std.proofs.lemmas.Bool.{and_parts, or_cases, or_left, or_right}
use Rattle.std.proofs.lemmas.List.Folds.{list_any-append}
use Rattle.std.specs.Cmp.Derive.{both_true}
use Rattle.rng_model.proofs.Truths.{no_truth}
use Rattle.rng_model.specs.names.Lists.{Among, here, there, HasTwo, first_and, both_later}
use Rattle.rng_model.specs.schema.Schema.{Component, same_component_name, is_interleaved}
use Rattle.rng_model.specs.declared.method.Method.{Method}
use Rattle.rng_model.specs.declared.method.Method.TheVariants as methods
use Rattle.rng_schema_checks.specs.plain.GrammarTests.{Name, has, is_plain, is_choice, is_interleaved_as, two_plain, both_methods}
use Rattle.rng_schema_checks.proofs.ListTests.{any_found, any_met, same_name-found, same_name-met}

-- ---- methods

plain_is : (m : Method) → is_plain m ≡ true → m ≡ methods.Plain
plain_is methods.Plain e = refl
plain_is methods.Choice e = no_truth e
plain_is methods.Interleave e = no_truth e

choice_is : (m : Method) → is_choice m ≡ true → m ≡ methods.Choice
choice_is methods.Plain e = no_truth e
choice_is methods.Choice e = refl
choice_is methods.Interleave e = no_truth e

interleaved_is : (m : Method) → is_interleaved m ≡ true → m ≡ methods.Interleave
interleaved_is methods.Plain e = no_truth e
interleaved_is methods.Choice e = no_truth e
interleaved_is methods.Interleave e = refl

-- ---- two with `=`

-- both have the name, and `=`
abbrev pub AreBothPlain : Component → Component → Type 0
AreBothPlain c d = (c.name ≡ d.name) × (c.method ≡ methods.Plain) × (d.method ≡ methods.Plain)

-- one has `=`, and its name is among these
abbrev IsPlainAs : List Name → List Component → Type 0
IsPlainAs names cs = (c : Component) × Among c cs × (c.method ≡ methods.Plain) × (has names c.name ≡ true)

has_more : (names : List Name) (n y : Name) → has (names ++ n ∷ []) y ≡ (has names y || same_component_name y n)
has_more names n y = list_any-append (same_component_name y) names (n ∷ []) ∙ ap (λ b. has names y || b) (or-false (same_component_name y n))

later_plain : (names : List Name) {c : Component} {cs : List Component} → IsPlainAs names cs ⊎ HasTwo AreBothPlain cs
    → IsPlainAs names (c ∷ cs) ⊎ HasTwo AreBothPlain (c ∷ cs)
later_plain names (inl p) = inl (p.0, there p.1, p.2, p.3)
later_plain names (inr h) = inr (both_later h)

-- what is found once the name of the first component is among the names
plain_after : (names : List Name) (c : Component) (cs : List Component) → c.method ≡ methods.Plain
    → IsPlainAs (names ++ c.name ∷ []) cs ⊎ HasTwo AreBothPlain cs → IsPlainAs names (c ∷ cs) ⊎ HasTwo AreBothPlain (c ∷ cs)
plain_after names c cs plain (inl p) = elim (or_cases (has names p.0.name) (same_component_name p.0.name c.name) (sym (has_more names c.name p.0.name) ∙ p.3)) [
  | inl h ↦ inl (p.0, there p.1, p.2, h)
  | inr e ↦ inr (first_and p.1 (sym (same_name-found p.0.name c.name e), plain, p.2))
]
plain_after names c cs plain (inr h) = inr (both_later h)

-- what is found for the first component and those after it
module _ (names : List Name) (c : Component) (cs : List Component) where
  plain_step : (b : Bool) → is_plain c.method ≡ b
      → (two_plain (names ++ c.name ∷ []) cs ≡ true → IsPlainAs (names ++ c.name ∷ []) cs ⊎ HasTwo AreBothPlain cs)
      → (two_plain names cs ≡ true → IsPlainAs names cs ⊎ HasTwo AreBothPlain cs)
      → cond b (has names c.name || two_plain (names ++ c.name ∷ []) cs) (two_plain names cs) ≡ true
      → IsPlainAs names (c ∷ cs) ⊎ HasTwo AreBothPlain (c ∷ cs)
  plain_step true is more same e = elim (or_cases (has names c.name) (two_plain (names ++ c.name ∷ []) cs) e) [
    | inl h ↦ inl (c, here, plain_is c.method is, h)
    | inr later ↦ plain_after names c cs (plain_is c.method is) (more later)
  ]
  plain_step false is more same e = later_plain names (same e)

pub plain_found : (names : List Name) (cs : List Component) → two_plain names cs ≡ true → IsPlainAs names cs ⊎ HasTwo AreBothPlain cs
plain_found names [] e = no_truth e
plain_found names (c ∷ cs) e = plain_step names c cs (is_plain c.method) refl (plain_found (names ++ c.name ∷ []) cs) (plain_found names cs) e

-- the first component, with `=` and without
step_plain : (names : List Name) (c : Component) (cs : List Component) → c.method ≡ methods.Plain
    → two_plain names (c ∷ cs) ≡ (has names c.name || two_plain (names ++ c.name ∷ []) cs)
step_plain names c cs plain = ap (λ m. cond (is_plain m) (has names c.name || two_plain (names ++ c.name ∷ []) cs) (two_plain names cs)) plain

step_met : (names : List Name) (c : Component) (cs : List Component) → two_plain (names ++ c.name ∷ []) cs ≡ true → two_plain names cs ≡ true
    → two_plain names (c ∷ cs) ≡ true
step_met names c cs more same = by_method (is_plain c.method) where
  by_method : (b : Bool) → cond b (has names c.name || two_plain (names ++ c.name ∷ []) cs) (two_plain names cs) ≡ true
  by_method true = or_right (has names c.name) (two_plain (names ++ c.name ∷ []) cs) more
  by_method false = same

one_met : {d : Component} (names : List Name) {cs : List Component} → Among d cs → d.method ≡ methods.Plain → has names d.name ≡ true
    → two_plain names cs ≡ true
one_met {d} names (here {xs}) plain h = step_plain names d xs plain ∙ or_left (has names d.name) (two_plain (names ++ d.name ∷ []) xs) h
one_met {d} names (there {y} {xs} a) plain h =
    step_met names y xs (one_met (names ++ y.name ∷ []) a plain (has_more names y.name d.name ∙ or_left (has names d.name) (same_component_name d.name y.name) h))
    (one_met names a plain h)

pub plain_met : (names : List Name) {cs : List Component} → HasTwo AreBothPlain cs → two_plain names cs ≡ true
plain_met names (first_and {x} {y} {xs} a p) =
    let there = has_more names x.name y.name ∙ or_right (has names y.name) (same_component_name y.name x.name) (same_name-met y.name x.name (sym p.0)) in
    step_plain names x xs p.1 ∙ or_right (has names x.name) (two_plain (names ++ x.name ∷ []) xs) (one_met (names ++ x.name ∷ []) a p.2 there)
plain_met names (both_later {x} {xs} h) = step_met names x xs (plain_met (names ++ x.name ∷ []) h) (plain_met names h)

no_names_before : {cs : List Component} → IsPlainAs [] cs → ⊥
no_names_before p = no_truth p.3

pub two_plain_found : (cs : List Component) → two_plain [] cs ≡ true → HasTwo AreBothPlain cs
two_plain_found cs e = elim (plain_found [] cs e) [ inl p ↦ absurd (no_names_before p) | inr h ↦ h ]

-- ---- one with `|=`, one with `&=`

-- two of one name, with these methods
abbrev pub HasBothMethods : List Component → Type 0
HasBothMethods cs = (c d : Component) × Among c cs × Among d cs × (c.name ≡ d.name) × (c.method ≡ methods.Choice) × (d.method ≡ methods.Interleave)

pub both_found : (cs : List Component) → both_methods cs ≡ true → HasBothMethods cs
both_found cs e =
    let c = any_found (λ c. is_choice c.method && list_any (is_interleaved_as c.name) cs) cs e in
    let parts = and_parts (is_choice c.0.method) (list_any (is_interleaved_as c.0.name) cs) c.2 in
    let d = any_found (is_interleaved_as c.0.name) cs parts.1 in
    let halves = and_parts (is_interleaved d.0.method) (same_component_name c.0.name d.0.name) d.2 in
    (c.0, d.0, c.1, d.1, same_name-found c.0.name d.0.name halves.1, choice_is c.0.method parts.0, interleaved_is d.0.method halves.0)

pub both_met : {c d : Component} {cs : List Component} → Among c cs → Among d cs → c.name ≡ d.name → c.method ≡ methods.Choice
    → d.method ≡ methods.Interleave → both_methods cs ≡ true
both_met {c} {d} {cs} a b same choice interleave =
    any_met (λ c. is_choice c.method && list_any (is_interleaved_as c.name) cs) a (both_true (ap is_choice choice)
    (any_met (is_interleaved_as c.name) b (both_true (ap is_interleaved interleave) (same_name-met c.name d.name same))))
