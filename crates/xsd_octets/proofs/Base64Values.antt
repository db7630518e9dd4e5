-- What a text writes as base64Binary, read character by character.
use Rattle.std.proofs.Common.{◌≡◌, ◌+◌, ℕ, List, [], ◌∷◌, Bool, true, false, cond, Option, Some, None, is_some, refl, sym, ap, ap₂, ◌∙◌, true≢false, arith}
use Rattle.std.specs.Option.{option_map}
use Rattle.std.specs.Str.{bytes_eq}
use Rattle.std.proofs.lemmas.Slice.Eq.{bytes_eq-Decides}
use Rattle.rng_model.specs.datatypes.Texts.{collapse, text, are_equal}
use Rattle.rng_model.specs.xsd.primitives.Octets.{are_base64_groups, without_blanks, base64_binary_of}
use Rattle.xsd_octets.specs.declared.base64_binary.Place.{Place}
use Rattle.xsd_octets.specs.declared.base64_binary.Place.TheVariants.{First}
use Rattle.xsd_octets.specs.plain.Base64Characters.{character_count}
use Rattle.xsd_octets.specs.views.Places.{after, is_end, passes_at, are_groups_from}
use Rattle.xsd_octets.proofs.NoBlanks.{collapsed_without}
use Rattle.xsd_octets.proofs.Base64Groups.{groups_are}

value_if : (s : List ℕ) (b : Bool) → are_base64_groups (without_blanks s) ≡ b → base64_binary_of (collapse s) ≡ cond b (Some (without_blanks s)) None
unfolding base64_binary_of
value_if s b e =
    ap (λ cs. cond (are_base64_groups cs) (Some cs) None) (collapsed_without s) ∙ ap (λ x. cond x (Some (without_blanks s)) None) e

-- ---- one text

module _ (s rest : List ℕ) (place : Place) (groups : are_groups_from place (without_blanks rest) ≡ are_groups_from First (without_blanks s)) where
  judged : (b : Bool) → are_groups_from place (without_blanks rest) ≡ b → are_base64_groups (without_blanks s) ≡ b
  judged b e = sym (groups_are (without_blanks s)) ∙ sym groups ∙ e

  -- the next character may not stand here
  pub is_stuck : (behind : List ℕ) (c : ℕ) → without_blanks rest ≡ c ∷ without_blanks behind → after place c ≡ None
      → None ≡ option_map character_count (base64_binary_of (collapse s))
  is_stuck behind c next none =
      let fails : are_groups_from place (without_blanks rest) ≡ false =
      ap (are_groups_from place) next ∙ ap (passes_at (λ p. are_groups_from p (without_blanks behind))) none in
      ap (option_map character_count) (sym (value_if s false (judged false fails)))

  -- no character is left
  pub is_ended : (count : ℕ) → without_blanks rest ≡ [] → is_end place ≡ true → count + character_count (without_blanks rest) ≡ character_count (without_blanks s)
      → Some count ≡ option_map character_count (base64_binary_of (collapse s))
  is_ended count none end counted =
      let all : count ≡ character_count (without_blanks s) = omega (arith, ap character_count none) in
      ap Some all ∙ ap (option_map character_count) (sym (value_if s true (judged true (ap (are_groups_from place) none ∙ end))))

  pub is_cut_off : without_blanks rest ≡ [] → is_end place ≡ false → None ≡ option_map character_count (base64_binary_of (collapse s))
  is_cut_off none end = ap (option_map character_count) (sym (value_if s false (judged false (ap (are_groups_from place) none ∙ end))))

-- ---- two texts

abbrev both : Option (List ℕ) → Option (List ℕ) → Bool
both a b = are_equal (option_map text a) (option_map text b)

same_by : (s t : List ℕ) (x y z : Bool) → are_base64_groups (without_blanks s) ≡ x → are_base64_groups (without_blanks t) ≡ y
    → bytes_eq (without_blanks s) (without_blanks t) ≡ z → is_some (base64_binary_of (collapse s)) ≡ true
    → bytes_eq (without_blanks s) (without_blanks t) ≡ both (base64_binary_of (collapse s)) (base64_binary_of (collapse t))
same_by s t false y z p q r some = absurd (true≢false (sym some ∙ ap is_some (value_if s false p)))
same_by s t true true z p q r some = ap₂ both (sym (value_if s true p)) (sym (value_if t true q))
same_by s t true false false p q r some = r ∙ ap₂ both (sym (value_if s true p)) (sym (value_if t false q))
same_by s t true false true p q r some =
    absurd (true≢false (sym p ∙ ap are_base64_groups ((bytes_eq-Decides (without_blanks s) (without_blanks t)).0 r) ∙ q))

some_of_map : {A B : Type 0} (f : A → B) (o : Option A) → is_some (option_map f o) ≡ is_some o
some_of_map f None = refl
some_of_map f (Some a) = refl

-- if the first text writes octets, the second one writes the same ones exactly if it is the same but for blanks
pub same_characters : (s t : List ℕ) → is_some (option_map character_count (base64_binary_of (collapse s))) ≡ true
    → bytes_eq (without_blanks s) (without_blanks t) ≡ are_equal (option_map text (base64_binary_of (collapse s))) (option_map text (base64_binary_of (collapse t)))
same_characters s t some =
    same_by s t (are_base64_groups (without_blanks s)) (are_base64_groups (without_blanks t)) (bytes_eq (without_blanks s) (without_blanks t)) refl refl refl
    (sym (some_of_map character_count (base64_binary_of (collapse s))) ∙ some)
