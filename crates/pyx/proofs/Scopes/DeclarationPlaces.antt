-- The place of the innermost declaration of each prefix, as declarations come and go.
use Rattle.std.proofs.Common.{◌≡◌, ◌∙◌, ◌<◌, ℕ, Bool, true, false, cond, List, [], ◌∷◌, ◌++◌, Option, Some, None, IsSome, Result, Ok, Err, IfOk, OnOk, string_bytes}
use Rattle.std.proofs.Common.{ap, arith, get_or, length, map, refl, reverse, subst, sym}
use Rattle.std.specs.BTreeMap.{get_by_text}
use Rattle.std.specs.Str.{bytes_eq}
use Rattle.std.proofs.lemmas.List.{get_or_append_left, get_or_push, length-reverse, reverse-append, reverse-reverse}
use Rattle.std.proofs.lemmas.Option.{same_Some, none-some}
use Rattle.pyx.specs.declared.namespaces.places.Declaration.{Declaration}
use Rattle.pyx.specs.declared.namespaces.places.Places.{Places}
use Rattle.pyx.specs.plain.WrittenNames.{written_of}
use Rattle.pyx.specs.plain.Declarations.{declared_by, declares, found_in, same_prefix}
use Rattle.pyx.specs.views.DeclarationView.{AreFound, declaration_of, innermost_place, is_of, place_in}
use Rattle.pyx.proofs.Lines.WrittenNames.{prefix_itself, prefix_same}

false_true : false ≡ true → ⊥
false_true e = cc

-- ---- no declaration

pub nowhere : (places : Places) → places.unprefixed ≡ None → places.prefixes.entries ≡ [] → (p : Option (List ℕ)) → place_in places p ≡ None
nowhere places e f None = e
nowhere places e f (Some p) = rw f refl

pub none_found : (places : Places) → ((p : Option (List ℕ)) → place_in places p ≡ None) → (list : List Declaration) → list ≡ [] → AreFound places list
none_found places none list e = rw e (record { found = none; hidden = tt })

-- ---- a place is set

pub set_of_prefix : (old new : Places) (p : List ℕ) (w : Option ℕ) → new.unprefixed ≡ old.unprefixed
    → ((q : List ℕ) → get_by_text new.prefixes q ≡ cond (bytes_eq p q) w (get_by_text old.prefixes q))
    → (q : Option (List ℕ)) → place_in new q ≡ cond (same_prefix (Some p) q) w (place_in old q)
set_of_prefix old new p w e f None = e
set_of_prefix old new p w e f (Some q) = f q

pub set_of_default : (old new : Places) (w : Option ℕ) → new.unprefixed ≡ w
    → ((q : List ℕ) → get_by_text new.prefixes q ≡ get_by_text old.prefixes q)
    → (q : Option (List ℕ)) → place_in new q ≡ cond (same_prefix None q) w (place_in old q)
set_of_default old new w e f None = e
set_of_default old new w e f (Some q) = f q

-- ---- a declaration is added

module _ (old new : Places) (own : Declaration) (outer : List Declaration) where
  pub covered : (p : Option (List ℕ)) → declared_by (declaration_of own).name ≡ Some p → own.hidden ≡ place_in old p
      → ((q : Option (List ℕ)) → place_in new q ≡ cond (same_prefix p q) (Some (length outer)) (place_in old q))
      → AreFound old outer → AreFound new (own ∷ outer)
  covered p is hides sets all = record { found = found; hidden = (hidden, all.hidden) } where
    found : (q : Option (List ℕ)) → place_in new q ≡ innermost_place q (own ∷ outer)
    found q = sets q ∙ ap (λ (o : Option ℕ). cond (same_prefix p q) (Some (length outer)) o) (all.found q)
        ∙ sym (ap (λ (o : Option (Option (List ℕ))). cond (declares o q) (Some (length outer)) (innermost_place q outer)) is)

    hidden : (q : Option (List ℕ)) → is_of q own ≡ true → own.hidden ≡ innermost_place q outer
    hidden q e =
        let same : p ≡ q = prefix_same p q (sym (ap (λ (o : Option (Option (List ℕ))). declares o q) is) ∙ e) in
        hides ∙ all.found p ∙ ap (λ (x : Option (List ℕ)). innermost_place x outer) same

  -- it declares nothing
  pub passed : declared_by (declaration_of own).name ≡ None → AreFound old outer → AreFound old (own ∷ outer)
  passed is all = record { found = found; hidden = (hidden, all.hidden) } where
    found : (q : Option (List ℕ)) → place_in old q ≡ innermost_place q (own ∷ outer)
    found q = all.found q
        ∙ sym (ap (λ (o : Option (Option (List ℕ))). cond (declares o q) (Some (length outer)) (innermost_place q outer)) is)

    hidden : (q : Option (List ℕ)) → is_of q own ≡ true → own.hidden ≡ innermost_place q outer
    hidden q e = absurd (false_true (sym (ap (λ (o : Option (Option (List ℕ))). declares o q) is) ∙ e))

  -- ---- a declaration is removed

  -- its prefix has a place
  pub placed : (p : Option (List ℕ)) → declared_by (declaration_of own).name ≡ Some p → AreFound old (own ∷ outer) → IsSome (place_in old p)
  placed p is all = subst (λ (o : Option ℕ). IsSome o) (sym (all.found p
      ∙ ap (λ (o : Option (Option (List ℕ))). cond (declares o p) (Some (length outer)) (innermost_place p outer)) is
      ∙ ap (λ (b : Bool). cond b (Some (length outer)) (innermost_place p outer)) (prefix_itself p))) refl

  pub uncovered : (p : Option (List ℕ)) → declared_by (declaration_of own).name ≡ Some p
      → ((q : Option (List ℕ)) → place_in new q ≡ cond (same_prefix p q) own.hidden (place_in old q))
      → AreFound old (own ∷ outer) → AreFound new outer
  uncovered p is sets all = record { found = found; hidden = all.hidden.1 } where
    by : (q : Option (List ℕ)) (b : Bool) → same_prefix p q ≡ b → cond b own.hidden (place_in old q) ≡ innermost_place q outer
    by q true e = all.hidden.0 q (ap (λ (o : Option (Option (List ℕ))). declares o q) is ∙ e)
    by q false e = all.found q
        ∙ ap (λ (b : Bool). cond b (Some (length outer)) (innermost_place q outer)) (ap (λ (o : Option (Option (List ℕ))). declares o q) is ∙ e)

    found : (q : Option (List ℕ)) → place_in new q ≡ innermost_place q outer
    found q = sets q ∙ by q (same_prefix p q) refl

  pub unpassed : declared_by (declaration_of own).name ≡ None → AreFound old (own ∷ outer) → AreFound old outer
  unpassed is all = record { found = found; hidden = all.hidden.1 } where
    found : (q : Option (List ℕ)) → place_in old q ≡ innermost_place q outer
    found q = all.found q ∙ ap (λ (o : Option (Option (List ℕ))). cond (declares o q) (Some (length outer)) (innermost_place q outer)) is

-- what a call that may run out of memory returns: a declaration of this name is added
pub covers : {E : Type 0} (r : Result (Option ℕ) E) (old new : Places) (name : List ℕ) (place : ℕ) (p : Option (List ℕ))
    → declared_by (written_of name) ≡ Some p → IfOk r (λ hidden. hidden ≡ place_in old p)
    → OnOk r ((q : Option (List ℕ)) → place_in new q ≡ cond (same_prefix p q) (Some place) (place_in old q))
    → IfOk r (λ hidden. (outer : List Declaration) (own : Declaration) → string_bytes own.name ≡ name → own.hidden ≡ hidden → length outer ≡ place
    → AreFound old outer → AreFound new (own ∷ outer))
covers (Err e) old new name place p is before sets = tt
covers (Ok hidden) old new name place p is before sets = λ outer own n h l all.
    covered old new own outer p (ap (λ (x : List ℕ). declared_by (written_of x)) n ∙ is) (h ∙ before)
    (λ q. sets q ∙ ap (λ (x : ℕ). cond (same_prefix p q) (Some x) (place_in old q)) (sym l)) all

-- ---- a declaration is looked up

place_inside : (p : Option (List ℕ)) (list : List Declaration) (at : ℕ) → innermost_place p list ≡ Some at → at < length list
place_inside p [] at e = absurd (none-some _ e)
place_inside p (own ∷ outer) at e = go (is_of p own) e (place_inside p outer at) where
  go : (b : Bool) → cond b (Some (length outer)) (innermost_place p outer) ≡ Some at → (innermost_place p outer ≡ Some at → at < length outer)
      → at < length (own ∷ outer)
  go true k more =
      let same : length outer ≡ at = same_Some _ _ k in
      omega (arith, same)
  go false k more = omega (arith, more k)

-- in a list of which the innermost is last, there is the first that declares the prefix
place_tells : (p : Option (List ℕ)) (list : List Declaration) (at : ℕ) (d : Declaration) → innermost_place p list ≡ Some at
    → found_in p (map declaration_of list) ≡ Some (declaration_of (get_or (reverse list) at d)).content
unfolding found_in
place_tells p [] at d e = absurd (none-some _ e)
place_tells p (own ∷ outer) at d e = go (is_of p own) e (place_inside p outer at) (place_tells p outer at d) where
  last : get_or (reverse (own ∷ outer)) at d ≡ get_or (reverse outer ++ own ∷ []) at d
  last = ap (λ (x : List Declaration). get_or x at d) (reverse-append (own ∷ []) outer)

  go : (b : Bool) → cond b (Some (length outer)) (innermost_place p outer) ≡ Some at
      → (innermost_place p outer ≡ Some at → at < length outer)
      → (innermost_place p outer ≡ Some at → found_in p (map declaration_of outer) ≡ Some (declaration_of (get_or (reverse outer) at d)).content)
      → cond b (Some (declaration_of own).content) (found_in p (map declaration_of outer))
      ≡ Some (declaration_of (get_or (reverse (own ∷ outer)) at d)).content
  go true k inside more =
      let same : length outer ≡ at = same_Some _ _ k in
      let this : get_or (reverse (own ∷ outer)) at d ≡ own = last ∙ get_or_push (reverse outer) own d at (length-reverse outer ∙ same) in
      ap (λ (x : Declaration). Some (declaration_of x).content) (sym this)
  go false k inside more =
      let that : get_or (reverse (own ∷ outer)) at d ≡ get_or (reverse outer) at d =
      last ∙ get_or_append_left (reverse outer) (own ∷ []) d at (omega (arith, inside k, length-reverse outer)) in
      more k ∙ ap (λ (x : Declaration). Some (declaration_of x).content) (sym that)

no_place_tells : (p : Option (List ℕ)) (list : List Declaration) → innermost_place p list ≡ None → found_in p (map declaration_of list) ≡ None
unfolding found_in
no_place_tells p [] e = refl
no_place_tells p (own ∷ outer) e = go (is_of p own) e (no_place_tells p outer) where
  go : (b : Bool) → cond b (Some (length outer)) (innermost_place p outer) ≡ None
      → (innermost_place p outer ≡ None → found_in p (map declaration_of outer) ≡ None)
      → cond b (Some (declaration_of own).content) (found_in p (map declaration_of outer)) ≡ None
  go true k more = absurd (none-some _ (sym k))
  go false k more = more k

-- ---- in the form of the code: of the list, the innermost is last

pub inside_list : (p : Option (List ℕ)) (all : List Declaration) (at : ℕ) → innermost_place p (reverse all) ≡ Some at → at < length all
inside_list p all at e = omega (arith, place_inside p (reverse all) at e, length-reverse all)

pub found_at : (p : Option (List ℕ)) (all : List Declaration) (at : ℕ) (d : Declaration) → innermost_place p (reverse all) ≡ Some at → d ≡ get_or all at d
    → found_in p (map declaration_of (reverse all)) ≡ Some (declaration_of d).content
found_at p all at d e is = place_tells p (reverse all) at d e
    ∙ ap (λ (x : List Declaration). Some (declaration_of (get_or x at d)).content) (reverse-reverse all)
    ∙ ap (λ (x : Declaration). Some (declaration_of x).content) (sym is)

pub not_found : (p : Option (List ℕ)) (all : List Declaration) → innermost_place p (reverse all) ≡ None
    → found_in p (map declaration_of (reverse all)) ≡ None
not_found p all e = no_place_tells p (reverse all) e
