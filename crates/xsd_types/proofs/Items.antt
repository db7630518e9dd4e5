-- Lists of items.
use Rattle.std.proofs.Common.{◌≡◌, ℕ, suc, ◌+◌, ◌≤◌, List, [], ◌∷◌, length, Bool, true, false, ◌&&◌, nat_lt, Some, None, is_some, if◌then◌else◌, refl, sym}
use Rattle.std.proofs.Common.{ap, ◌∙◌, rules, arith}
use Rattle.std.specs.List.{list_all}
use Rattle.std.proofs.lemmas.Option.{none-some, same_Some}
use Rattle.rng_model.specs.datatypes.Texts.{pieces, collapse, text_if}
use Rattle.rng_model.specs.datatypes.Facets.{Lengths, is_within}
use Rattle.rng_model.proofs.BlankRuns.{pieces-collapse, pieces_fit, spaced_length}
use Rattle.rng_types.proofs.TextValues.{is_some-text_if}
use Rattle.rng_model.specs.xsd.Types.{are_items, xsd_list}

-- items, in an allowed number
abbrev pub is_good : (List ℕ → Bool) → Lengths → List (List ℕ) → Bool
is_good is_item l ps = are_items is_item ps && is_within l (length ps)

pub some_items : (is_item : List ℕ → Bool) (l : Lengths) (ps : List (List ℕ)) → list_all is_item ps ≡ true
    → (nat_lt 0 (length ps) && is_within l (length ps)) ≡ is_good is_item l ps
some_items is_item l [] e = refl
some_items is_item l (p ∷ ps) e = ap (λ b. b && is_within l (length (p ∷ ps))) (some (length ps) ∙ sym e)
  where
    some : (n : ℕ) → nat_lt 0 (suc n) ≡ true
    some n = search (rules, arith)

pub no_items : (is_item : List ℕ → Bool) (l : Lengths) (ps : List (List ℕ)) → list_all is_item ps ≡ false → false ≡ is_good is_item l ps
no_items is_item l [] e = refl
no_items is_item l (p ∷ ps) e = ap (λ b. b && is_within l (length (p ∷ ps))) (sym e)

pub allowed_items : (is_item : List ℕ → Bool) (l : Lengths) (s : List ℕ) (count : ℕ) (r : Bool)
    → Some count ≡ (if list_all is_item (pieces s) then Some (length (pieces s)) else None) → nat_lt 0 count ≡ true → r ≡ is_within l count
    → r ≡ is_some (xsd_list is_item l s)
allowed_items is_item l s count r found some within = by_items (list_all is_item (pieces s)) refl
  where
    by_items : (b : Bool) → list_all is_item (pieces s) ≡ b → r ≡ is_some (xsd_list is_item l s)
    by_items true e =
        let there : Some count ≡ Some (length (pieces s)) = found ∙ rw e refl in
        let same : count ≡ length (pieces s) = same_Some count (length (pieces s)) there in
        within ∙ ap (λ b. b && is_within l count) (sym some) ∙ ap (λ n. nat_lt 0 n && is_within l n) same ∙ some_items is_item l (pieces s) e
        ∙ sym (is_some-text_if (is_good is_item l (pieces s)) (collapse s))
    by_items false e = let none : Some count ≡ None = found ∙ rw e refl in absurd (none-some count (sym none))

-- the value of a text by its collapsed form
pub list_collapsed : (is_item : List ℕ → Bool) (l : Lengths) (s : List ℕ)
    → text_if (is_good is_item l (pieces (collapse s))) (collapse s) ≡ xsd_list is_item l s
list_collapsed is_item l s = ap (λ ps. text_if (is_good is_item l ps) (collapse s)) (pieces-collapse s)

-- there are no more pieces than bytes, but for one
pub few_pieces : (s : List ℕ) → length (pieces s) ≤ length s + 1
few_pieces s = by_pieces (pieces s) refl
  where
    few : (ws : List (List ℕ)) → length ws ≤ spaced_length ws
    few [] = omega arith
    few (w ∷ ws) = omega (arith, few ws)

    by_pieces : (ps : List (List ℕ)) → pieces s ≡ ps → length ps ≤ length s + 1
    by_pieces [] e = omega arith
    by_pieces (p ∷ ps) e = omega (arith, pieces_fit s p ps e, few ps)
