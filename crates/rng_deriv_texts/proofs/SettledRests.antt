-- What is left of a pattern where no more than two rests are left.
use Rattle.std.proofs.Common.{Bor, ◌≡◌, inl, inr, ℕ, ◌<◌, ◌↔◌, get_or, List, [], ◌∷◌, ◌++◌, length, refl, sym, subst, arith}
use Rattle.std.proofs.Common.{Bool, true, false, Option, Some, None, Contains}
use Rattle.std.specs.Prelude.{IfSome}
use Rattle.std.proofs.lemmas.List.Elements.{Contains-append_left, Contains-append_right, Contains-get_or, All-contains, All-head}
use Rattle.rng_model.proofs.Members.{not_in_none}
use Rattle.rng_model.specs.simple.Tree.{Simple, s_not_allowed}
use Rattle.rng_model.specs.declared.document.Attr.{Attr}
use Rattle.rng_model.specs.declared.name.Name.{Name}
use Rattle.rng_model.specs.matching.Document.{Attribute, Item}
use Rattle.rng_model.specs.matching.GrammarMatching.{reading_of}
use Rattle.rng_model.specs.simple.Table.{Table}
use Rattle.rng_deriv_laws.specs.plain.Taking.{Takes}
use Rattle.rng_deriv_table.specs.plain.Reduced.{HasAlternative}
use Rattle.rng_deriv_table.specs.views.Choices.{IsAlternativeOf, SomeTakes}
use Rattle.rng_deriv_table.specs.views.Node.{Node}
use Rattle.rng_deriv_table.specs.views.Trees.{tree_of}
use Rattle.rng_deriv_table.specs.declared.pattern.PatternNumber.{PatternNumber}
use Rattle.rng_deriv_table.proofs.Choices.{only_one}
use Rattle.rng_deriv_table.proofs.Trees.{Longer-refl}
use Rattle.rng_deriv_ways.specs.plain.Kinds.{Obeys}
use Rattle.rng_deriv_ways.specs.plain.Ways.{AreWaysOf, IsInside}
use Rattle.rng_deriv_ways.specs.declared.way.Kind.TheVariants as kinds
use Rattle.rng_deriv_ways.specs.declared.way.LeafWay.{LeafWay}
use Rattle.rng_deriv_ways.proofs.KeptRestrictions.{Obeys-hereditary}
use Rattle.rng_deriv_texts.specs.plain.After.{AreWaysFor, IsLeft, TellsTaken, place_of}
use Rattle.rng_deriv_texts.specs.plain.Settling.{AreLeft, IsCovered, IsRestInside, IsSettled, with_told}
use Rattle.rng_deriv_texts.specs.declared.first.First.{First}
use Rattle.rng_deriv_texts.specs.declared.first.First.TheVariants as firsts
use Rattle.rng_deriv_texts.specs.declared.settled.Rest.{Rest}
use Rattle.rng_deriv_texts.specs.declared.settled.Rest.TheVariants as rest_kinds
use Rattle.rng_deriv_texts.proofs.RestsOfWays.{leaf_covered, leaf_leaves, leaf_leaves_none, left_behind, no_rests, takes_nothing, those_same, ways_for_attribute}

pub if_some : {X : Type 0} (o : Option X) (P Q : X → Type 0) → ((x : X) → P x → Q x) → IfSome o P → IfSome o Q
if_some (Some x) P Q f h = f x h
if_some None P Q f h = tt

has_one : (m : PatternNumber) → Contains (m ∷ []) m
has_one m = Contains-get_or (m ∷ []) 0 m (omega arith)

has_first : (m n : PatternNumber) → Contains (m ∷ n ∷ []) m
has_first m n = Contains-append_left (m ∷ []) (n ∷ []) m (has_one m)

has_second : (m n : PatternNumber) → Contains (m ∷ n ∷ []) n
has_second m n = Contains-append_right (m ∷ []) (n ∷ []) n (has_one n)

-- ---- one more way

module _ (t : Table) (ns : List Node) (first : First) (ws : List LeafWay) (w : LeafWay) (inside : IsInside ns w) where
  pub covered_more : (r : Rest) → IsCovered r w → AreLeft t ns first ws r → AreLeft t ns first (ws ++ w ∷ []) r
  covered_more rest_kinds.Unknown c was = tt
  covered_more rest_kinds.Nothing c was = absurd c
  covered_more (rest_kinds.Only r) c was =
      leaf_covered t ns ns ns first ws w (r ∷ []) (Longer-refl ns) (Longer-refl ns) inside was r (has_one r) c
  covered_more (rest_kinds.Two r q) (inl c) was =
      leaf_covered t ns ns ns first ws w (r ∷ q ∷ []) (Longer-refl ns) (Longer-refl ns) inside was r (has_first r q) c
  covered_more (rest_kinds.Two r q) (inr c) was =
      leaf_covered t ns ns ns first ws w (r ∷ q ∷ []) (Longer-refl ns) (Longer-refl ns) inside was q (has_second r q) c

  pub told_more : (told : Option Bool) (r : Rest) → IfSome told (TellsTaken (reading_of t) first (tree_of t ns w.leaf.0))
      → AreLeft t ns first ws r → AreLeft t ns first (ws ++ w ∷ []) (with_told told r w)
  told_more None r tells was = tt
  told_more (Some false) rest_kinds.Unknown tells was = tt
  told_more (Some false) rest_kinds.Nothing tells was =
      leaf_leaves_none t ns ns ns first ws w [] (Longer-refl ns) (Longer-refl ns) inside was false refl tells
  told_more (Some false) (rest_kinds.Only r) tells was =
      leaf_leaves_none t ns ns ns first ws w (r ∷ []) (Longer-refl ns) (Longer-refl ns) inside was false refl tells
  told_more (Some false) (rest_kinds.Two r q) tells was =
      leaf_leaves_none t ns ns ns first ws w (r ∷ q ∷ []) (Longer-refl ns) (Longer-refl ns) inside was false refl tells
  told_more (Some true) rest_kinds.Unknown tells was = tt
  told_more (Some true) rest_kinds.Nothing tells was =
      leaf_leaves t ns ns ns first ws w [] (Longer-refl ns) (Longer-refl ns) inside was true (w.rest ∷ []) refl refl tells
  told_more (Some true) (rest_kinds.Only r) tells was =
      leaf_leaves t ns ns ns first ws w (r ∷ []) (Longer-refl ns) (Longer-refl ns) inside was true (r ∷ w.rest ∷ []) refl refl tells
  told_more (Some true) (rest_kinds.Two r q) tells was = tt

-- ---- all ways

pub settled_by : (t : Table) (ns : List Node) (first : First) (p : Simple ℕ) (ws : List LeafWay) (r : Rest) → AreWaysFor t ns first p ws
    → AreLeft t ns first ws r → IsSettled t ns first p r
settled_by t ns first p ws rest_kinds.Unknown all left = tt
settled_by t ns first p ws rest_kinds.Nothing all left = (ws, all, left)
settled_by t ns first p ws (rest_kinds.Only r) all left = (ws, all, left)
settled_by t ns first p ws (rest_kinds.Two r q) all left = (ws, all, left)

pub rest_inside : (t : Table) (ns : List Node) (first : First) (p : Simple ℕ) (r : Rest) → IsSettled t ns first p r → IsRestInside ns r
rest_inside t ns first p rest_kinds.Unknown settled = tt
rest_inside t ns first p rest_kinds.Nothing settled = tt
rest_inside t ns first p (rest_kinds.Only r) (ws, all, some) = All-contains (λ m. m.0 < length ns) (r ∷ []) r some.inside (has_one r)
rest_inside t ns first p (rest_kinds.Two r q) (ws, all, some) = some.inside

-- what the rest of some ways tells
pub told : (t : Table) (old new : List Node) (first : First) (number : PatternNumber) (r : Rest) (o : Option PatternNumber) (left : PatternNumber) → o ≡ Some left
    → IfSome o (λ left. (f : First) (n : PatternNumber) → IsSettled t old f (tree_of t old n.0) r → IsLeft t old new f n left)
    → IsSettled t old first (tree_of t old number.0) r → IsLeft t old new first number left
told t old new first number r o left is all settled =
    subst (λ o. IfSome o (λ left. (f : First) (n : PatternNumber) → IsSettled t old f (tree_of t old n.0) r → IsLeft t old new f n left)) is all first number settled

module _ (t : Table) (ns : List Node) (first : First) (number : PatternNumber) where
  pub only_left : (rest : PatternNumber) → IsSettled t ns first (tree_of t ns number.0) (rest_kinds.Only rest) → IsLeft t ns ns first number rest
  only_left rest (ws, all, some) =
      let g = reading_of t in
      let In : PatternNumber → Type 0 = λ m. m.0 < length ns in
      let Kept : PatternNumber → Type 0 = λ m. Obeys (place_of first) (tree_of t ns m.0) in record {
        inside = All-contains In (rest ∷ []) rest some.inside (has_one rest);
        law = λ o. those_same g first (tree_of t ns number.0) _ _ (λ xs ks.
            let Own : PatternNumber → Type 0 = λ m. Takes g (tree_of t ns m.0) xs ks in
            let f = some.takes (all.kept o) xs ks in (
              λ h. f.0 (rest, has_one rest, h),
              λ h. let d = f.1 h in subst Own (sym (only_one rest d.0 d.1)) d.2,
            )) (all.law o);
        kept = λ o. All-contains Kept (rest ∷ []) rest (some.kept (all.kept o)) (has_one rest);
      }

  -- a choice of the two
  pub two_left : (new : List Node) (rest other n : PatternNumber) → IsSettled t ns first (tree_of t ns number.0) (rest_kinds.Two rest other)
      → n.0 < length new → ((s : Simple ℕ) → HasAlternative (tree_of t new n.0) s → IsAlternativeOf (tree_of t ns) (rest ∷ other ∷ []) s)
      → ((xs : List Attribute) (ks : List Item) → Takes (reading_of t) (tree_of t new n.0) xs ks ↔ SomeTakes (reading_of t) (tree_of t ns) (rest ∷ other ∷ []) xs ks)
      → IsLeft t ns new first number n
  two_left new rest other n (ws, all, some) inside alternatives matches =
      left_behind t ns ns ns new first number n ws (rest ∷ other ∷ []) all some inside alternatives matches

  pub nothing_left : (new : List Node) (rest : PatternNumber) → IsSettled t ns first (tree_of t ns number.0) rest_kinds.Nothing → rest.0 < length new
      → tree_of t new rest.0 ≡ s_not_allowed → IsLeft t ns new first number rest
  nothing_left new rest (ws, all, some) inside is = record {
    inside = inside;
    law = λ o. those_same (reading_of t) first (tree_of t ns number.0) _ _ (λ xs ks.
        let f = some.takes (all.kept o) xs ks in (
          λ h. absurd (takes_nothing (subst (λ p. Takes (reading_of t) p xs ks) is h)),
          λ h. let d = f.1 h in absurd (not_in_none d.1),
        )) (all.law o);
    kept = λ o. subst (Obeys (place_of first)) (sym is) (Obeys-hereditary (place_of first)).of_not_allowed;
  }

-- an attribute that the leaf of the only way takes
pub left_by_one : (t : Table) (ns : List Node) (a : Bor Attr) (q : Bor Name) (number : PatternNumber) (ws : List LeafWay) (d : LeafWay) (b : Bool)
    → length ws ≡ 1 → q.now ≡ a.now.name → AreWaysOf t ns (kinds.Attribute q) (tree_of t ns number.0) ws → b ≡ true
    → TellsTaken (reading_of t) (firsts.Attribute a) (tree_of t ns (get_or ws 0 d).leaf.0) b
    → IsLeft t ns ns (firsts.Attribute a) number (get_or ws 0 d).rest
left_by_one t ns a q number [] d b one same h taken tells = absurd (omega (arith, one))
left_by_one t ns a q number (w ∷ []) d b one same h taken tells =
    let first = firsts.Attribute a in
    let p = tree_of t ns number.0 in
    let told = subst (TellsTaken (reading_of t) first (tree_of t ns w.leaf.0)) taken tells in
    let left : AreLeft t ns first (w ∷ []) (rest_kinds.Only w.rest) =
    told_more t ns first [] w (All-head (IsInside ns) w [] h.inside) (Some true) rest_kinds.Nothing told (no_rests t ns first [] refl) in
    only_left t ns first number w.rest (w ∷ [], ways_for_attribute t ns a q p (w ∷ []) same h, left)
left_by_one t ns a q number (w ∷ v ∷ ws) d b one same h taken tells = absurd (omega (arith, one))
