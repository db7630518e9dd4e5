-- Lines, one after the other.
use Rattle.std.proofs.Common.{◌≡◌, ◌∙◌, ℕ, ◌+◌, ◌≤◌, ◌<◌, List, [], ◌∷◌, ◌++◌, length, map, take, flat_map, get_or, sym, ap, append_assoc, codes}
use Rattle.rncv_model.specs.printed.PrintedText.{definition_line}
use Rattle.std.proofs.lemmas.List.{flat_map_more, map-append, take_all, take_more}

module _ {A B : Type 0} (f : B → List ℕ) (v : A → B) (old : List ℕ) where
  -- one line more
  pub line_added : (was new : List ℕ) (xs : List A) (i : ℕ) (d : A) → i < length xs
      → was ≡ old ++ flat_map f (map v (take i xs)) → new ≡ was ++ f (v (get_or xs i d)) → new ≡ old ++ flat_map f (map v (take (i + 1) xs))
  line_added was new xs i d l w n =
      let more : map v (take (i + 1) xs) ≡ map v (take i xs) ++ v (get_or xs i d) ∷ [] =
      ap (map v) (take_more xs i d l) ∙ map-append v (take i xs) (get_or xs i d ∷ []) in
      n ∙ ap (λ x. x ++ f (v (get_or xs i d))) w ∙ flat_map_more f old (map v (take i xs)) (v (get_or xs i d)) ∙ ap (λ ys. old ++ flat_map f ys) (sym more)

  -- all lines
  pub all_written : (new : List ℕ) (xs ys : List A) (i : ℕ) → length xs ≤ i → xs ≡ ys → new ≡ old ++ flat_map f (map v (take i xs))
      → new ≡ old ++ flat_map f (map v ys)
  all_written new xs ys i l e h = h ∙ ap (λ zs. old ++ flat_map f (map v zs)) (take_all i xs l ∙ e)

-- a line, part by part
pub line_written : (old name w given named tied texted new : List ℕ) → named ≡ old ++ given → given ≡ name → tied ≡ named ++ codes " = " → texted ≡ tied ++ w
    → new ≡ texted ++ 0xA ∷ []
    → new ≡ old ++ definition_line name w
line_written old name w given named tied texted new a b c d e =
    e ∙ ap (λ x. x ++ 0xA ∷ []) (d ∙ ap (λ x. x ++ w) (c ∙ ap (λ x. x ++ codes " = ") (a ∙ ap (λ x. old ++ x) b)))
    ∙ append_assoc ((old ++ name) ++ codes " = ") w (0xA ∷ []) ∙ append_assoc (old ++ name) (codes " = ") (w ++ 0xA ∷ [])
    ∙ append_assoc old name (codes " = " ++ (w ++ 0xA ∷ []))

-- a text, part by part
pub behind : (old a b first new : List ℕ) → first ≡ old ++ a → new ≡ first ++ b → new ≡ old ++ (a ++ b)
behind old a b first new e f = f ∙ ap (λ x. x ++ b) e ∙ append_assoc old a b

pub text_written : (a b c none first second third : List ℕ) → none ≡ [] → first ≡ none ++ a → second ≡ first ++ b → third ≡ second ++ c → third ≡ a ++ (b ++ c)
text_written a b c none first second third n e f g = behind a b c second third (f ∙ ap (λ x. x ++ b) (e ∙ ap (λ x. x ++ a) n)) g
