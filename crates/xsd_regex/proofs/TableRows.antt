-- The states and rows of a table that grows.
use Rattle.std.proofs.Common.{◌≡◌, ◌∙◌, ◌<◌, ◌+◌, ℕ, suc, List, [], ◌∷◌, ◌++◌, length, Bool, true, false, cond, ◌&&◌, refl, sym, ap, subst, inl, inr, arith}
use Rattle.std.specs.List.{fold, AllByRecursion}
use Rattle.std.proofs.lemmas.List.{get_or_append_left, get_or_push, map-append, length-append}
use Rattle.std.proofs.lemmas.List.Sums.{fold-append}
use Rattle.rng_model.specs.regexes.Expressions.{Class, Regex}
use Rattle.rng_model.specs.regexes.plain.LinearForms.{RegexState, OneOf, Takes, forms, forms_of, is_nullable}
use Rattle.xsd_regex.specs.plain.StateTable.{StateRow, state_at, forms_at, IsRowOf, Link, with_link, linked}
use Rattle.xsd_regex.proofs.OneOf.{in_first, in_second, of_both, each_to, each_from, one_among}

-- ---- linked states

pub linked_push : (ls : List Link) (l : Link) → linked (ls ++ l ∷ []) ≡ with_link (linked ls) l
unfolding linked
linked_push ls l = fold-append with_link ([] ∷ []) ls (l ∷ [])

folded_length : (ls : List Link) (states : List RegexState) → length (fold with_link states ls) ≡ length states + length ls
folded_length [] states = omega arith
folded_length (l ∷ ls) states =
    let rest = folded_length ls (with_link states l) in
    let one = length-append states ((l.0 ∷ state_at states l.1) ∷ []) in omega (arith, rest, one)

pub linked_length : (ls : List Link) → length (linked ls) ≡ suc (length ls)
unfolding linked
linked_length ls = let whole = folded_length ls ([] ∷ []) in omega (arith, whole)

pub state_stays : (states more : List RegexState) (i : ℕ) → i < length states → state_at (states ++ more) i ≡ state_at states i
state_stays states more i h = get_or_append_left states more [] i h

pub state_pushed : (states : List RegexState) (q : RegexState) → state_at (states ++ q ∷ []) (length states) ≡ q
state_pushed states q = get_or_push states q [] (length states) refl

-- ---- rows while states are added

module _ (states more : List RegexState) where
  pub forms_stay : (arcs : List (Class × ℕ)) → AllByRecursion (λ a. a.1 < length states) arcs → forms_at (states ++ more) arcs ≡ forms_at states arcs
  forms_stay [] h = refl
  forms_stay (a ∷ arcs) h =
      ap (λ q. (a.0, q) ∷ forms_at (states ++ more) arcs) (state_stays states more a.1 h.0)
      ∙ ap (λ l. (a.0, state_at states a.1) ∷ l) (forms_stay arcs h.1)

  pub row_stays : (q : RegexState) (row : StateRow) → AllByRecursion (λ a. a.1 < length states) row.arcs → IsRowOf states q row
      → IsRowOf (states ++ more) q row
  row_stays q row within is =
      record {
        to = λ c s h. subst (OneOf (Takes c s)) (sym (forms_stay row.arcs within)) (is.to c s h);
        back = λ c s h. is.back c s (subst (OneOf (Takes c s)) (forms_stay row.arcs within) h);
        end = is.end;
      }

-- ---- the row of a state from that of the state behind its first expression

module _ (states : List RegexState) (r : Regex) (k : RegexState) (low : StateRow) (is : IsRowOf states k low) (arcs : List (Class × ℕ))
    (own : forms_at states arcs ≡ forms_of r k) where
  abbrev pub row_before : StateRow
  row_before = record { arcs = arcs ++ cond (is_nullable r) low.arcs []; is_end = is_nullable r && low.is_end }

  below_to : (b : Bool) (c : ℕ) (s : List ℕ) → OneOf (Takes c s) (cond b (forms k) []) → OneOf (Takes c s) (forms_at states (cond b low.arcs []))
  below_to true c s h = is.to c s h
  below_to false c s h = h

  below_back : (b : Bool) (c : ℕ) (s : List ℕ) → OneOf (Takes c s) (forms_at states (cond b low.arcs [])) → OneOf (Takes c s) (cond b (forms k) [])
  below_back true c s h = is.back c s h
  below_back false c s h = h

  all_arcs : forms_at states row_before.arcs ≡ forms_of r k ++ forms_at states (cond (is_nullable r) low.arcs [])
  all_arcs =
      map-append (λ a. (a.0, state_at states a.1)) arcs (cond (is_nullable r) low.arcs [])
      ∙ ap (λ l. l ++ forms_at states (cond (is_nullable r) low.arcs [])) own

  row_to : (c : ℕ) (s : List ℕ) → OneOf (Takes c s) (forms (r ∷ k)) → OneOf (Takes c s) (forms_at states row_before.arcs)
  unfolding forms
  row_to c s h =
      subst (OneOf (Takes c s)) (sym all_arcs)
      (elim (of_both (Takes c s) (forms_of r k) (cond (is_nullable r) (forms k) []) h) [
        | inl a ↦ in_first (Takes c s) (forms_of r k) (forms_at states (cond (is_nullable r) low.arcs [])) a
        | inr b ↦ in_second (Takes c s) (forms_of r k) (forms_at states (cond (is_nullable r) low.arcs [])) (below_to (is_nullable r) c s b)
      ])

  row_back : (c : ℕ) (s : List ℕ) → OneOf (Takes c s) (forms_at states row_before.arcs) → OneOf (Takes c s) (forms (r ∷ k))
  unfolding forms
  row_back c s h =
      elim (of_both (Takes c s) (forms_of r k) (forms_at states (cond (is_nullable r) low.arcs [])) (subst (OneOf (Takes c s)) all_arcs h)) [
        | inl a ↦ in_first (Takes c s) (forms_of r k) (cond (is_nullable r) (forms k) []) a
        | inr b ↦ in_second (Takes c s) (forms_of r k) (cond (is_nullable r) (forms k) []) (below_back (is_nullable r) c s b)
      ]

  pub row_before_is : IsRowOf states (r ∷ k) row_before
  row_before_is = record { to = row_to; back = row_back; end = ap (λ b. is_nullable r && b) is.end }

-- ---- arcs in another order, and equal ones joined

abbrev pub HasArc : List (Class × ℕ) → (Class × ℕ) → Type 0
HasArc arcs a = OneOf (λ b. a ≡ b) arcs

module _ (states : List RegexState) where
  arcs_among : (xs ys : List (Class × ℕ)) → ((a : Class × ℕ) → HasArc xs a → HasArc ys a) → (c : ℕ) (s : List ℕ)
      → OneOf (Takes c s) (forms_at states xs) → OneOf (Takes c s) (forms_at states ys)
  arcs_among xs ys f c s h =
      each_to (λ a. Takes c s (a.0, state_at states a.1)) (Takes c s) (λ a. (a.0, state_at states a.1)) ys (λ x t. t)
      (one_among (λ a. Takes c s (a.0, state_at states a.1)) xs ys f
      (each_from (λ a. Takes c s (a.0, state_at states a.1)) (Takes c s) (λ a. (a.0, state_at states a.1)) xs (λ x t. t) h))

  pub row_joined : (q : RegexState) (row : StateRow) (arcs : List (Class × ℕ)) → ((a : Class × ℕ) → HasArc row.arcs a → HasArc arcs a)
      → ((a : Class × ℕ) → HasArc arcs a → HasArc row.arcs a) → IsRowOf states q row → IsRowOf states q (record { arcs = arcs; is_end = row.is_end })
  row_joined q row arcs f g is =
      record { to = λ c s h. arcs_among row.arcs arcs f c s (is.to c s h); back = λ c s h. is.back c s (arcs_among arcs row.arcs g c s h); end = is.end }
