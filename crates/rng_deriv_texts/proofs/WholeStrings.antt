-- Patterns that take a string and nothing else, by their ways.
use Rattle.std.proofs.Common.{◌≡◌, ◌↔◌, ⊎_elim, ℕ, zero, suc, List, [], ◌∷◌, ◌++◌, refl, sym, subst, Bor, Bool, true, false, Contains, arith}
use Rattle.std.proofs.lemmas.List.Elements.{Contains-append_cases}
use Rattle.rng_model.proofs.Members.{not_in_none}
use Rattle.rng_model.specs.simple.Tree.{Simple}
use Rattle.rng_model.specs.matching.Document.{a_text, no_texts, text_and}
use Rattle.rng_model.specs.matching.GrammarMatching.{reading_of}
use Rattle.rng_model.specs.simple.Table.{Table}
use Rattle.rng_deriv_laws.specs.plain.Blanks.{strings_alone}
use Rattle.rng_deriv_laws.specs.plain.Derivatives.{Way}
use Rattle.rng_deriv_laws.specs.plain.Restricted.{IsRestricted}
use Rattle.rng_deriv_laws.specs.plain.Taking.{Takes}
use Rattle.rng_deriv_laws.specs.plain.Ways.{EachWay, IsItemLeaf}
use Rattle.rng_deriv_table.specs.views.Node.{Node}
use Rattle.rng_deriv_table.specs.views.Trees.{tree_of}
use Rattle.rng_deriv_ways.specs.plain.Ways.{way_by, ways_by}
use Rattle.rng_deriv_ways.specs.declared.way.LeafWay.{LeafWay}
use Rattle.rng_deriv_ways.specs.declared.way.Place.TheVariants as places
use Rattle.rng_deriv_ways.proofs.JoinedWays.{among_ways, each_way, ways_among}
use Rattle.rng_deriv_texts.specs.plain.After.{AreWaysFor, TellsTaken}
use Rattle.rng_deriv_texts.specs.plain.Settling.{TellsWhole}
use Rattle.rng_deriv_texts.specs.declared.first.First.TheVariants as firsts

module _ (t : Table) (ns : List Node) (s : List ℕ) (ws : List LeafWay) where
  -- the ways are those of a string outside lists
  abbrev pub AreTextWays : Type 0
  AreTextWays = EachWay (λ l. IsItemLeaf l × IsRestricted l) IsRestricted (ways_by (tree_of t ns) ws)

  -- by this way a leaf takes the string, and its rest takes nothing
  abbrev pub IsWhole : LeafWay → Type 0
  IsWhole w = Takes (reading_of t) (tree_of t ns w.leaf.0) [] (a_text s ∷ []) × Takes (reading_of t) (tree_of t ns w.rest.0) [] []

  -- none of these ways is one of the kind
  abbrev pub NoneWhole : List LeafWay → Type 0
  NoneWhole vs = AreTextWays → (v : LeafWay) → Contains vs v → IsWhole v → ⊥

  pub none_first : NoneWhole []
  none_first each v c h = absurd (not_in_none c)

  only_this : (w v : LeafWay) → Contains (w ∷ []) v → v ≡ w
  only_this w v (zero, h, e) = sym e
  only_this w v (suc k, h, e) = absurd (omega (arith, h))

  pub none_more : (vs more : List LeafWay) (w : LeafWay) → more ≡ vs ++ w ∷ [] → NoneWhole vs → (AreTextWays → IsWhole w → ⊥) → NoneWhole more
  none_more vs more w e was own = subst NoneWhole (sym e) (λ each v c h. ⊎_elim (λ a. was each v a h)
      (λ b. own each (subst IsWhole (only_this w v b) h)) (Contains-append_cases vs (w ∷ []) v c))

  pub rest_not_nullable : (w : LeafWay) (b : Bool) → b ≡ false → ((b ≡ true) ↔ Takes (reading_of t) (tree_of t ns w.rest.0) [] [])
      → AreTextWays → IsWhole w → ⊥
  rest_not_nullable w b e nullable each h = let yes = nullable.1 h.1 in absurd (cc)

module _ (t : Table) (ns : List Node) (s : Bor (List ℕ)) (ws : List LeafWay) where
  own_leaf : (w : LeafWay) (b : Bool) → Contains ws w → TellsTaken (reading_of t) (firsts.Text places.Content s) (tree_of t ns w.leaf.0) b
      → AreTextWays t ns s.now ws → (b ≡ true) ↔ Takes (reading_of t) (tree_of t ns w.leaf.0) [] (a_text s.now ∷ [])
  own_leaf w b c tells each =
      let own = each_way (λ l. IsItemLeaf l × IsRestricted l) IsRestricted (tree_of t ns) ws each w c in
      tells own.0.0 own.0.1

  pub leaf_not_whole : (w : LeafWay) (b : Bool) → b ≡ false → Contains ws w
      → TellsTaken (reading_of t) (firsts.Text places.Content s) (tree_of t ns w.leaf.0) b → AreTextWays t ns s.now ws → IsWhole t ns s.now ws w → ⊥
  leaf_not_whole w b e c tells each h = let yes = (own_leaf w b c tells each).1 h.0 in absurd (cc)

  pub one_whole : (w : LeafWay) (a b : Bool) → a ≡ true → b ≡ true → Contains ws w → ((a ≡ true) ↔ Takes (reading_of t) (tree_of t ns w.rest.0) [] [])
      → TellsTaken (reading_of t) (firsts.Text places.Content s) (tree_of t ns w.leaf.0) b → TellsWhole t ns (firsts.Text places.Content s) ws true
  one_whole w a b d e c nullable tells each =
      (λ yes. (way_by (tree_of t ns) w, ways_among (tree_of t ns) ws w c, (own_leaf w b c tells each).0 e, nullable.0 d), λ o. refl)

  pub none_whole : (vs : List LeafWay) → vs ≡ ws → NoneWhole t ns s.now ws vs → TellsWhole t ns (firsts.Text places.Content s) ws false
  none_whole vs all none each = (
    λ e. absurd (cc),
    λ o. let v = among_ways (tree_of t ns) ws o.0 o.1 in
        let At : Way → Type 0 = λ w. Takes (reading_of t) w.leaf [] (a_text s.now ∷ []) × Takes (reading_of t) w.rest [] [] in
        absurd (none each v.0 (subst (λ l. Contains l v.0) (sym all) v.1) (subst At (sym v.2) (o.2, o.3))),
  )

-- a string alone
pub whole_string : (t : Table) (ns : List Node) (s : Bor (List ℕ)) (p : Simple ℕ) (ws : List LeafWay) (b : Bool)
    → AreWaysFor t ns (firsts.Text places.Content s) p ws → TellsWhole t ns (firsts.Text places.Content s) ws b
    → IsRestricted p → (b ≡ true) ↔ Takes (reading_of t) p [] (a_text s.now ∷ [])
whole_string t ns s p ws b all tells o =
    let law = all.law o [] (strings_alone (text_and no_texts)) in
    let test = tells (all.kept o) in
    (λ e. law.0 (test.0 e), λ d. test.1 (law.1 d))
