-- The text of a choice of two name classes.
use Rattle.std.proofs.Common.{◌≡◌, ◌∙◌, ℕ, ◌≤◌, ◌<◌, Bool, List, [], ◌∷◌, ◌++◌, length, map, get_or, sym, ap, append_assoc, codes}
use Rattle.std.proofs.Common.{arith, Vec, Global}
use Rattle.std.specs.Prelude.{◌||◌}
use Rattle.std.proofs.lemmas.List.{append-nil}
use Rattle.rng_model.proofs.ChoiceViews.{choice_is}
use Rattle.rng_model.specs.names.Names.{no_classes, one_of, some_of}
use Rattle.rng_model.specs.names.NameViews.{class_of}
use Rattle.rng_model.specs.declared.name.NameClass.{NameClass, Choice}
use Rattle.rncv_model.specs.printed.Words.{class_text, in_parentheses_if, is_choice, is_except}

two_items : {A : Type 0} (xs : List A) (l r : A) → 2 ≤ length xs → length xs < 3 → l ≡ get_or xs 0 l → r ≡ get_or xs 1 r → xs ≡ l ∷ r ∷ []
two_items [] l r a b e f = absurd (omega (arith, a))
two_items (x ∷ []) l r a b e f = absurd (omega (arith, a))
two_items (x ∷ (y ∷ [])) l r a b e f = cc
two_items (x ∷ (y ∷ (z ∷ xs))) l r a b e f = absurd (omega (arith, b))

-- a choice of two members
pub choice_written : (class : NameClass) (members : Vec NameClass Global) (xs : List NameClass) (ns : List (List ℕ)) (l r : NameClass) (first second : Bool)
    (old : List ℕ)
    → class ≡ Choice members → xs ≡ members.items → 2 ≤ length xs → length xs < 3 → l ≡ get_or xs 0 l → r ≡ get_or xs 1 r
    → first ≡ is_except (class_of l) → second ≡ (is_choice (class_of r) || is_except (class_of r))
    → ((old ++ in_parentheses_if first (class_text ns (class_of l))) ++ codes " | ") ++ in_parentheses_if second (class_text ns (class_of r))
    ≡ old ++ class_text ns (class_of class)
choice_written class members xs ns l r first second old is items a b e f p q =
    let two : class_of class ≡ one_of (class_of l) (class_of r) no_classes =
    choice_is class members xs is items ∙ ap (λ ys. some_of (map class_of ys)) (two_items xs l r a b e f) in
    ap (λ x. ((old ++ in_parentheses_if x (class_text ns (class_of l))) ++ codes " | ") ++ in_parentheses_if second (class_text ns (class_of r))) p
    ∙ ap (λ x. ((old ++ in_parentheses_if (is_except (class_of l)) (class_text ns (class_of l))) ++ codes " | ")
    ++ in_parentheses_if x (class_text ns (class_of r))) q
    ∙ append_assoc (old ++ in_parentheses_if (is_except (class_of l)) (class_text ns (class_of l))) (codes " | ") _
    ∙ append_assoc old (in_parentheses_if (is_except (class_of l)) (class_text ns (class_of l))) _
    ∙ ap (λ x. old ++ (in_parentheses_if (is_except (class_of l)) (class_text ns (class_of l)) ++ (codes " | " ++ x)))
    (sym (append-nil (in_parentheses_if (is_choice (class_of r) || is_except (class_of r)) (class_text ns (class_of r)))))
    ∙ ap (λ x. old ++ class_text ns x) (sym two)
