-- Each position of a grammar that is asked for is marked.
use Rattle.std.proofs.Common.{◌≡◌, ◌∙◌, ℕ, ◌+◌, ◌<◌, ◌≤◌, List, [], ◌∷◌, ◌++◌, length, set, slice_get, slice_set, Some, ap, sym, subst, ⊎_elim, inl, inr, arith}
use Rattle.std.proofs.lemmas.Bool.{cases_eq, cases_lt}
use Rattle.std.proofs.lemmas.List.{get_or-set_other, get_or-set_same, length-set}
use Rattle.std.proofs.lemmas.Option.{get_or_from_slice_get, slice_get-get_or, slice_get_within}
use Rattle.rng_model.proofs.Places.{in_front}
use Rattle.rng_model.specs.simple.Table.{Table}
use Rattle.rng_model.specs.declared.name.NameClass.{NameClass}
use Rattle.rng_model.specs.declared.simple.PatternId.{PatternId}
use Rattle.rng_model.specs.declared.simple.Simple.{Simple}
use Rattle.rng_deriv_table.specs.declared.uses.Use.{Use}
use Rattle.rng_deriv_table.specs.declared.uses.Use.TheVariants as uses
use Rattle.rng_deriv_table.specs.plain.AskedFor.{HasPart, IsAskedFor, IsOwn, as_body, as_part, as_start}

-- the parts of the first patterns of a grammar are marked
abbrev pub ArePartsOwn : Table → List Use → ℕ → Type 0
ArePartsOwn t us n = (i k : ℕ) (p : Simple) → i < n → slice_get t.patterns i ≡ Some p → HasPart p k → IsOwn us k

-- the bodies of the first elements of a grammar are marked
abbrev pub AreBodiesOwn : Table → List Use → ℕ → Type 0
AreBodiesOwn t us n = (i : ℕ) (e : NameClass × PatternId) → i < n → slice_get t.elements i ≡ Some e → IsOwn us e.1.0

pub all_asked : (t : Table) (us : List Use) → IsOwn us t.start.0 → ((i : ℕ) (e : NameClass × PatternId) → slice_get t.elements i ≡ Some e → IsOwn us e.1.0)
    → ((i k : ℕ) (p : Simple) → slice_get t.patterns i ≡ Some p → HasPart p k → IsOwn us k) → (k : ℕ) → IsAskedFor t k → IsOwn us k
all_asked t us start bodies parts k (as_start e) = subst (IsOwn us) e start
all_asked t us start bodies parts k (as_body i e found is) = subst (IsOwn us) is (bodies i e found)
all_asked t us start bodies parts k (as_part i p found part) = parts i k p found part

own_pushed : (us : List Use) (v : Use) (k : ℕ) → IsOwn us k → IsOwn (us ++ v ∷ []) k
own_pushed us v k own = in_front us (v ∷ []) k _ own

-- one more pattern, whose parts are marked
pub parts_more : (t : Table) (us middle more : List Use) (v : Use) (n : ℕ) (row : Simple) → slice_get t.patterns n ≡ Some row
    → ((k : ℕ) → IsOwn us k → IsOwn middle k) → ((k : ℕ) → HasPart row k → IsOwn middle k) → more ≡ middle ++ v ∷ []
    → ArePartsOwn t us n → ArePartsOwn t more (n + 1)
parts_more t us middle more v n row found stays own longer was i k p inside at part =
    subst (λ vs. IsOwn vs k) (sym longer) (own_pushed middle v k (⊎_elim
    (λ l. stays k (was i k p l at part))
    (λ l. let same : i ≡ n = omega (arith, inside, l) in
    let row_is : row ≡ p = some_is (sym found ∙ subst (λ j. slice_get t.patterns j ≡ Some p) same at) in
    own k (subst (λ r. HasPart r k) (sym row_is) part))
    (cases_lt i n)))
  where
    some_is : {x y : Simple} → Some x ≡ Some y → x ≡ y
    some_is e = cc

pub parts_all : (t : Table) (us : List Use) (n : ℕ) → length t.patterns ≤ n → ArePartsOwn t us n
    → (i k : ℕ) (p : Simple) → slice_get t.patterns i ≡ Some p → HasPart p k → IsOwn us k
parts_all t us n long are i k p at part = let inside = slice_get_within t.patterns i p at in are i k p (omega (arith, inside, long)) at part

pub no_parts : (t : Table) (us : List Use) → ArePartsOwn t us 0
no_parts t us i k p inside at part = absurd (omega (arith, inside))

-- one more element, whose body is marked
pub bodies_more : (t : Table) (us more : List Use) (n : ℕ) (e : NameClass × PatternId) → slice_get t.elements n ≡ Some e
    → ((k : ℕ) → IsOwn us k → IsOwn more k) → IsOwn more e.1.0 → AreBodiesOwn t us n → AreBodiesOwn t more (n + 1)
bodies_more t us more n e found stays own was i d inside at = ⊎_elim
    (λ l. stays d.1.0 (was i d l at))
    (λ l. let same : i ≡ n = omega (arith, inside, l) in
    let e_is : e ≡ d = some_is (sym found ∙ subst (λ j. slice_get t.elements j ≡ Some d) same at) in
    subst (λ (x : NameClass × PatternId). IsOwn more x.1.0) e_is own)
    (cases_lt i n)
  where
    some_is : {x y : NameClass × PatternId} → Some x ≡ Some y → x ≡ y
    some_is e = cc

pub bodies_all : (t : Table) (us : List Use) (n : ℕ) → length t.elements ≤ n → AreBodiesOwn t us n
    → (i : ℕ) (e : NameClass × PatternId) → slice_get t.elements i ≡ Some e → IsOwn us e.1.0
bodies_all t us n long are i e at = let inside = slice_get_within t.elements i e at in are i e (omega (arith, inside, long)) at

pub no_bodies_asked : (t : Table) (us : List Use) → AreBodiesOwn t us 0
no_bodies_asked t us i e inside at = absurd (omega (arith, inside))

-- ---- a mark

pub own_set : (us : List Use) (k : ℕ) → k < length us → IsOwn (slice_set us k uses.Own) k
own_set us k inside = slice_get-get_or (set us k uses.Own) k uses.Own (omega (arith, inside, length-set us k uses.Own))
    ∙ ap Some (get_or-set_same us k uses.Own uses.Own inside)

pub stays_set : (us : List Use) (k j : ℕ) → IsOwn us j → IsOwn (slice_set us k uses.Own) j
stays_set us k j own =
    let inside = slice_get_within us j uses.Own own in
    elim (cases_eq j k) [
      | inl e ↦ subst (IsOwn (slice_set us k uses.Own)) (sym e) (own_set us k (subst (λ n. n < length us) e inside))
      | inr n ↦ slice_get-get_or (set us k uses.Own) j uses.Own (omega (arith, inside, length-set us k uses.Own))
          ∙ ap Some (get_or-set_other us k j uses.Own uses.Own n ∙ get_or_from_slice_get us j uses.Own uses.Own own)
    ]
