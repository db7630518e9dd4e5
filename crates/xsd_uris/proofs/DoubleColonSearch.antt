-- The search for the first `::`.
use Rattle.std.proofs.Common.{◌≡◌, ℕ, ◌-◌, List, [], ◌∷◌, ◌++◌, Bool, true, false, ◌&&◌, Some, None, take, length, refl, ap, sym, ◌∙◌, rules, arith}
use Rattle.std.proofs.Common.{length-append}
use Rattle.std.proofs.lemmas.List.{append_assoc, append-nil}
use Rattle.std.proofs.Math.Seq.{take-append_seam}
use Rattle.xsd_uris.specs.plain.UriShapes.{is, begins_with, before_double, behind_double}
use Rattle.xsd_uris.specs.plain.DoubleColons.{after_double}
use Rattle.xsd_uris.specs.views.PassedColons.{PassedTo}

pub passed_start : (s : List ℕ) → PassedTo s s
passed_start s = record { front = []; parts = refl; within = omega arith; before = refl; behind = refl }

none_test : (c : ℕ) (t : List ℕ) (b : Bool) → (is 0x3A c && begins_with 0x3A t) ≡ b → after_double (c ∷ t) ≡ None → b ≡ false
none_test c t false is e = refl
none_test c t true is e = search rules

on : (s front t : List ℕ) (c : ℕ) (w : PassedTo s (c ∷ t)) → (is 0x3A c && begins_with 0x3A t) ≡ false → PassedTo s t
on s front t c w test = record {
  front = w.front ++ c ∷ [];
  parts = w.parts ∙ sym (append_assoc w.front (c ∷ []) t);
  within = omega (arith, w.within);
  before = w.before ∙ ap (λ x. w.front ++ x) (rw test refl) ∙ sym (append_assoc w.front (c ∷ []) (before_double t));
  behind = w.behind ∙ rw test refl;
}

-- one byte further
pub passed_on : (s r t : List ℕ) (c : ℕ) → r ≡ c ∷ t → None ≡ after_double r → PassedTo s r → PassedTo s t
passed_on s r t c e none w =
    on s w.front t c (rw e at w) (none_test c t (is 0x3A c && begins_with 0x3A t) refl (sym (none ∙ ap after_double e)))

some_test : (c : ℕ) (t back : List ℕ) (b : Bool) → (is 0x3A c && begins_with 0x3A t) ≡ b → Some back ≡ after_double (c ∷ t)
    → (before_double (c ∷ t) ≡ []) × (behind_double (c ∷ t) ≡ Some back)
some_test c t back false is e = search rules
some_test c t back true is e = search rules

found_at : (r back : List ℕ) → Some back ≡ after_double r → (before_double r ≡ []) × (behind_double r ≡ Some back)
found_at [] back e = search rules
found_at (c ∷ t) back e = some_test c t back (is 0x3A c && begins_with 0x3A t) refl e

seam : (front r : List ℕ) → take (length (front ++ r) - length r) (front ++ r) ≡ front
seam front r =
    let n : length (front ++ r) - length r ≡ length front = omega (arith, length-append front r) in
    ap (λ k. take k (front ++ r)) n ∙ take-append_seam front r

-- it is found
pub passed_found : (s r back : List ℕ) → Some back ≡ after_double r → PassedTo s r
    → (before_double s ≡ take (length s - length r) s) × (behind_double s ≡ Some back)
passed_found s r back e w =
    let found = found_at r back e in
    let front : before_double s ≡ w.front = w.before ∙ ap (λ x. w.front ++ x) found.0 ∙ append-nil w.front in
    (front ∙ sym (ap (λ x. take (length x - length r) x) w.parts ∙ seam w.front r), w.behind ∙ found.1)

-- there is none
pub passed_all : (s r : List ℕ) → length r ≡ 0 → PassedTo s r → (before_double s ≡ s) × (behind_double s ≡ None)
passed_all s [] e w = (w.before ∙ sym w.parts, w.behind)
passed_all s (c ∷ r) e w = search rules
