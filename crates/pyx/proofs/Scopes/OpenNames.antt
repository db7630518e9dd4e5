-- The name of an element that is open is a name.
use Rattle.std.proofs.Common.{◌≡◌, ◌<◌, ◌≤◌, ◌-◌, ◌∙◌, ◌&&◌, ◌==◌, ℕ, Bool, true, false, List, [], ◌∷◌, ◌++◌, length, ap, arith, drop, refl, reverse, subst}
use Rattle.std.proofs.Common.{sym, take}
use Rattle.std.specs.Prelude.{slice_range}
use Rattle.std.specs.Str.{IsCharBoundary, IsUtf8}
use Rattle.std.proofs.lemmas.List.{drop_at, length-drop, length-take, reverse-append, take-take, take_at}
use Rattle.std.proofs.lemmas.Str.{IsCharBoundary-at_seam, IsCharBoundary-end, IsCharBoundary-from_take, IsUtf8-take}
use Rattle.std.proofs.lemmas.Str.{chars-nil}
use Rattle.std.proofs.Math.Bool.{and-false}
use Rattle.rng_model.proofs.Texts.{bytes_same}
use Rattle.rng_model.specs.names.Names.{is_ncname}
use Rattle.pyx.specs.declared.elements.OpenElement.{OpenElement}
use Rattle.rng_model.specs.documents.PyxNamespaces.{WrittenAttribute}
use Rattle.pyx.specs.plain.Cuts.{at_byte}
use Rattle.pyx.specs.plain.DocumentReader.{Open}
use Rattle.pyx.specs.plain.LineReader.{is_name}
use Rattle.pyx.specs.plain.WrittenNames.{written_of}
use Rattle.pyx.specs.plain.Declarations.{same_written}
use Rattle.pyx.specs.views.ElementView.{AreNamed, IsJudged, is_innermost, stack_of}
use Rattle.pyx.proofs.Scopes.OpenStack.{stack_push}
use Rattle.pyx.proofs.Lines.WrittenNames.{written_alike}

-- the innermost element and those around it
pub named_parts : (opened outer : List OpenElement) (e : OpenElement) (names : List ℕ) → opened ≡ outer ++ e ∷ [] → AreNamed (reverse opened) names
    → IsCharBoundary names e.start × (IsJudged (drop e.start names) × AreNamed (reverse outer) (take e.start names))
named_parts opened outer e names parts all =
    subst (λ (r : List OpenElement). AreNamed r names) (ap reverse parts ∙ reverse-append outer (e ∷ [])) all

pub named_push : (opened : List OpenElement) (e : OpenElement) (names : List ℕ) → IsCharBoundary names e.start → IsJudged (drop e.start names)
    → AreNamed (reverse opened) (take e.start names) → AreNamed (reverse (opened ++ e ∷ [])) names
named_push opened e names cut judged all =
    subst (λ (r : List OpenElement). AreNamed r names) (sym (reverse-append opened (e ∷ []))) (cut, (judged, all))

-- ---- the name behind those of the open elements

-- another one, or none
module _ (old : List ℕ) (begun : ℕ) (within : begun ≤ length old) where
  fits : length (take begun old) ≡ begun
  fits = omega (arith, length-take begun old)

  pub front_stays : (name : List ℕ) → take begun (take begun old ++ name) ≡ take begun old
  front_stays name = take_at (take begun old) name begun fits

  pub name_behind : (name : List ℕ) → drop begun (take begun old ++ name) ≡ name
  name_behind name = drop_at (take begun old) name begun fits

  pub cut_stays : (name : List ℕ) → IsUtf8 name → IsCharBoundary (take begun old ++ name) begun
  cut_stays name u = subst (IsCharBoundary (take begun old ++ name)) fits
      (IsCharBoundary-at_seam (take begun old ++ name) (take begun old) name refl u)

-- none
pub none_behind : (begun : ℕ) (names : List ℕ) → begun ≡ length names → IsJudged (drop begun names)
none_behind begun names e = λ h. absurd (omega (arith, h, length-drop begun names, e))

pub cut_at_end : (begun : ℕ) (names : List ℕ) → begun ≡ length names → IsCharBoundary names begun
cut_at_end begun names e = subst (IsCharBoundary names) (sym e) (IsCharBoundary-end names)

-- a cut within the names in front of a cut
module _ (names : List ℕ) (begun start : ℕ) (u : IsUtf8 names) (cut : IsCharBoundary names begun) (inner : IsCharBoundary (take begun names) start) where
  before : start ≤ begun
  before = omega (arith, inner.0, length-take begun names)

  same_front : take start (take begun names) ≡ take start names
  same_front = take-take start begun names before

  pub cut_within : IsCharBoundary names start
  cut_within = IsCharBoundary-from_take names start u (omega (arith, before, cut.0))
      (subst IsUtf8 same_front (IsUtf8-take (take begun names) start (IsUtf8-take names begun u cut) inner))

  pub front_left : take start (take start names) ≡ take start (take begun names)
  front_left = take-take start start names (omega arith) ∙ sym same_front

  pub front_ends : start ≡ length (take start names)
  front_ends = omega (arith, before, cut.0, length-take start names)

-- the names in front of a place, as the code takes them
pub front_of : (text names front : List ℕ) (begun : ℕ) → text ≡ names → front ≡ slice_range text 0 begun → front ≡ take begun names
front_of text names front begun e is = is ∙ ap (λ (t : List ℕ). slice_range t 0 begun) e ∙ ap (λ n. take n names) (zero begun) where
  zero : (n : ℕ) → n - 0 ≡ n
  zero n = omega arith

pub same_as_innermost : (opened outer : List OpenElement) (e : OpenElement) (names : List ℕ) (ds : List WrittenAttribute) (name : List ℕ) (b : Bool)
    → opened ≡ outer ++ e ∷ [] → IsJudged (drop e.start names) → 0 < length name
    → b ≡ same_written (written_of (drop e.start names)) (written_of name)
    → b ≡ (is_name name && is_innermost (written_of name) (stack_of opened names ds))
same_as_innermost opened outer e names ds name b parts named some is =
    go b is ∙ sym (ap (λ (stack : List Open). is_name name && is_innermost (written_of name) stack)
    (ap (λ (x : List OpenElement). stack_of x names ds) parts ∙ stack_push outer e names ds)) where
      go : (b : Bool) → b ≡ same_written (written_of (drop e.start names)) (written_of name)
          → b ≡ (is_name name && same_written (written_of (drop e.start names)) (written_of name))
      go true is =
          let same : drop e.start names ≡ name = bytes_same (drop e.start names) name (sym (written_alike (drop e.start names) name) ∙ sym is) in
          let good : is_name name ≡ true = subst (λ (n : List ℕ). 0 < length n → is_name n ≡ true) same named some in
          is ∙ sym (ap (λ b. b && same_written (written_of (drop e.start names)) (written_of name)) good)
      go false is = sym (ap (λ b. is_name name && b) (sym is) ∙ and-false (is_name name))

nothing_named : is_name [] ≡ false
unfolding is_name at_byte
nothing_named = ap is_ncname chars-nil

pub not_innermost : (name : List ℕ) (stack : List Open) → length name ≡ 0 → false ≡ (is_name name && is_innermost (written_of name) stack)
not_innermost [] stack e = sym (ap (λ b. b && is_innermost (written_of []) stack) nothing_named)
not_innermost (c ∷ cs) stack e = absurd (omega (arith, e))

pub none_innermost : (name : List ℕ) (stack : List Open) → stack ≡ [] → false ≡ (is_name name && is_innermost (written_of name) stack)
none_innermost name stack e = rw e (sym (and-false (is_name name)))

pub some : (xs : List ℕ) → (length xs == 0) ≡ false → 0 < length xs
some [] e = absurd cc
some (x ∷ xs) e = omega arith
