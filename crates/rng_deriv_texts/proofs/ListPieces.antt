-- Strings that are matched as a whole: the pieces of a list, one after the other, and the value of an attribute.
use Rattle.std.proofs.Common.{◌≡◌, ◌∙◌, ℕ, ◌<◌, ◌↔◌, inl, inr, List, [], ◌∷◌, length, map, slice_index_or, refl, sym, subst}
use Rattle.std.proofs.Common.{Bool, true, false, ◌&&◌, ◌||◌, Bor}
use Rattle.std.proofs.lemmas.Bool.{and_from, or_left, or_right, and_parts, or_cases}
use Rattle.rng_model.specs.simple.Tree.{Simple}
use Rattle.rng_model.specs.matching.Document.{a_text, no_texts, text_and}
use Rattle.rng_model.specs.simple.Table.{Table, tree_at}
use Rattle.rng_model.specs.datatypes.Texts.{is_blank}
use Rattle.rng_model.specs.declared.simple.PatternId.{PatternId}
use Rattle.rng_model.specs.matching.GrammarMatching.{Reading, reading_of}
use Rattle.rng_deriv_laws.specs.plain.Taking.{Takes, WeaklyTakes, Same}
use Rattle.rng_deriv_laws.specs.plain.Taking as t
use Rattle.rng_deriv_laws.specs.plain.Restricted.{IsRestricted, MayBeListed}
use Rattle.rng_deriv_laws.specs.plain.Blanks.{strings_alone}
use Rattle.rng_deriv_laws.proofs.Texts.{all_texts, no_lists}
use Rattle.rng_deriv_table.specs.plain.AskedFor.{IsAskedFor}
use Rattle.rng_deriv_table.specs.views.Node.{Node}
use Rattle.rng_deriv_table.specs.views.Taking.{tree_by}
use Rattle.rng_deriv_table.specs.views.Trees.{tree_of}
use Rattle.rng_deriv_table.specs.declared.pattern.PatternNumber.{PatternNumber}
use Rattle.rng_deriv_texts.specs.plain.After.{IsLeft}
use Rattle.rng_deriv_ways.specs.plain.Kinds.{Obeys}
use Rattle.rng_deriv_ways.specs.plain.Starting.{IsReady}
use Rattle.rng_deriv_texts.specs.declared.first.First.TheVariants as firsts
use Rattle.rng_deriv_ways.specs.declared.way.Place.TheVariants as places

-- ---- the pieces of a list

pub one_piece_more : (t : Table) (old new : List Node) (rest next : PatternNumber) (whole : Simple ℕ) (all before behind : List (List ℕ)) (piece : Bor (List ℕ))
    → before ≡ piece.now ∷ behind → IsLeft t old new (firsts.Text places.List piece) rest next → Obeys places.List (tree_of t old rest.0)
    → (Takes (reading_of t) (tree_of t old rest.0) [] (map a_text before) ↔ Takes (reading_of t) whole [] (map a_text all))
    → Takes (reading_of t) (tree_of t new next.0) [] (map a_text behind) ↔ Takes (reading_of t) whole [] (map a_text all)
one_piece_more t old new rest next whole all before behind piece cut left o was =
    let law = left.law o (map a_text behind) (strings_alone (all_texts (piece.now ∷ behind))) in
    let At : List (List ℕ) → Type 0 = λ l. Takes (reading_of t) (tree_of t old rest.0) [] (map a_text l) in
    (λ h. was.0 (subst At (sym cut) (law.0 h)), λ d. law.1 (subst At cut (was.1 d)))

pub list_told : (t : Table) (old new : List Node) (numbers : List PatternNumber) (body : PatternId) (rest : PatternNumber) (all left : List (List ℕ))
    (b : Bool) → IsReady t old numbers → body.0 < length numbers → IsAskedFor t body.0 → left ≡ []
    → (Obeys places.List (tree_by t old numbers body)
    → Takes (reading_of t) (tree_of t new rest.0) [] (map a_text left) ↔ Takes (reading_of t) (tree_by t old numbers body) [] (map a_text all))
    → ((b ≡ true) ↔ Takes (reading_of t) (tree_of t new rest.0) [] []) → MayBeListed (tree_at t.patterns body)
    → (b ≡ true) ↔ Takes (reading_of t) (tree_at t.patterns body) [] (map a_text all)
list_told t old new numbers body rest all left b ready inside asked none takes nullable o =
    let law = takes (ready.kept places.List body inside asked (no_lists (tree_at t.patterns body) o)) in
    let same = ready.taken.same body.0 inside asked (reading_of t) in
    let Rest : List (List ℕ) → Type 0 = λ l. Takes (reading_of t) (tree_of t new rest.0) [] (map a_text l) in (
      λ h. same.to [] (map a_text all) (law.0 (subst Rest (sym none) (nullable.0 h))),
      λ d. nullable.1 (subst Rest none (law.1 (same.back [] (map a_text all) d))),
    )

-- ---- the value of an attribute

pub either_true : (a x : Bool) → a ≡ true → a ≡ a || x
either_true true x e = refl
either_true false x e = absurd (cc)

pub either_blank : (a b x : Bool) → a ≡ false → b ≡ true → x ≡ a || (b && x)
either_blank true b x e d = absurd (cc)
either_blank false true x e d = refl
either_blank false false x e d = absurd (cc)

pub either_other : (a b : Bool) → a ≡ false → b ≡ a || b
either_other true b e = absurd (cc)
either_other false b e = refl

pub either_none : (a b x : Bool) → a ≡ false → b ≡ false → b ≡ a || (b && x)
either_none true b x e d = absurd (cc)
either_none false true x e d = absurd (cc)
either_none false false x e d = refl

module _ (g : Reading) (p q : Simple ℕ) (s : List ℕ) (same : Same g q p)
    (ends empty blank : Bool) (ends_is : (ends ≡ true) ↔ Takes g q [] (a_text s ∷ [])) (empty_is : (empty ≡ true) ↔ Takes g q [] []) (blank_is : blank ≡ is_blank s)
  where
    weakly_in : WeaklyTakes g p [] (a_text s ∷ []) → ends || (empty && blank) ≡ true
    weakly_in (t.as_is d) = or_left ends (empty && blank) (ends_is.1 (same.back [] _ d))
    weakly_in (t.blank_text d e) = or_right ends (empty && blank) (and_from empty blank (empty_is.1 (same.back [] [] d)) (blank_is ∙ e))

    weakly_out : ends || (empty && blank) ≡ true → WeaklyTakes g p [] (a_text s ∷ [])
    weakly_out e = elim (or_cases ends (empty && blank) e) [
      | inl h ↦ t.as_is (same.to [] _ (ends_is.0 h))
      | inr h ↦ let b = and_parts empty blank h in t.blank_text (same.to [] [] (empty_is.0 b.0)) (sym blank_is ∙ b.1)
    ]

    pub weakly_told : (b : Bool) → b ≡ ends || (empty && blank) → (b ≡ true) ↔ WeaklyTakes g p [] (a_text s ∷ [])
    weakly_told b e = (λ h. weakly_out (sym e ∙ h), λ w. e ∙ weakly_in w)

-- where it is known whether the pattern takes the value alone
pub value_known : (t : Table) (ns : List Node) (numbers : List PatternNumber) (body : PatternId) (number : PatternNumber) (s : Bor (List ℕ))
    (ends empty blank b : Bool) → IsReady t ns numbers → body.0 < length numbers → IsAskedFor t body.0 → number ≡ slice_index_or numbers body.0 (record { 0 = 0 })
    → (IsRestricted (tree_of t ns number.0) → (ends ≡ true) ↔ Takes (reading_of t) (tree_of t ns number.0) [] (a_text s.now ∷ []))
    → ((empty ≡ true) ↔ Takes (reading_of t) (tree_of t ns number.0) [] []) → blank ≡ is_blank s.now → b ≡ ends || (empty && blank)
    → IsRestricted (tree_at t.patterns body) → (b ≡ true) ↔ WeaklyTakes (reading_of t) (tree_at t.patterns body) [] (a_text s.now ∷ [])
value_known t ns numbers body number s ends empty blank b ready inside asked is ends_is empty_is blank_is b_is o =
    let g = reading_of t in
    let Alike : PatternNumber → Type 0 = λ n. Same g (tree_of t ns n.0) (tree_at t.patterns body) in
    let Kept : PatternNumber → Type 0 = λ n. IsRestricted (tree_of t ns n.0) in
    let same = subst Alike (sym is) (ready.taken.same body.0 inside asked g) in
    let kept = subst Kept (sym is) (ready.kept places.Content body inside asked o) in
    weakly_told g (tree_at t.patterns body) (tree_of t ns number.0) s.now same ends empty blank (ends_is kept) empty_is blank_is b b_is

pub value_told : (t : Table) (old new : List Node) (numbers : List PatternNumber) (body : PatternId) (number rest : PatternNumber) (s : Bor (List ℕ))
    (ends empty blank b : Bool) → IsReady t old numbers → body.0 < length numbers → IsAskedFor t body.0 → number ≡ slice_index_or numbers body.0 (record { 0 = 0 })
    → IsLeft t old new (firsts.Text places.Content s) number rest → ((ends ≡ true) ↔ Takes (reading_of t) (tree_of t new rest.0) [] [])
    → ((empty ≡ true) ↔ Takes (reading_of t) (tree_of t old number.0) [] []) → blank ≡ is_blank s.now → b ≡ ends || (empty && blank)
    → IsRestricted (tree_at t.patterns body) → (b ≡ true) ↔ WeaklyTakes (reading_of t) (tree_at t.patterns body) [] (a_text s.now ∷ [])
value_told t old new numbers body number rest s ends empty blank b ready inside asked is left ends_is empty_is blank_is b_is o =
    value_known t old numbers body number s ends empty blank b ready inside asked is
    (λ kept. let law = left.law kept [] (strings_alone (text_and no_texts)) in (λ e. law.0 (ends_is.0 e), λ d. ends_is.1 (law.1 d)))
    empty_is blank_is b_is o
