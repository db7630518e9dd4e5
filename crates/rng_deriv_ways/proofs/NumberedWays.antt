-- Numbered ways that represent others, in longer tables, and with one more way.
use Rattle.std.proofs.Common.{◌≡◌, ◌∙◌, ◌↔◌, List, [], ◌∷◌, ◌++◌, refl, sym, ap, subst}
use Rattle.std.proofs.lemmas.List.{map-append}
use Rattle.std.proofs.lemmas.List.Elements.{All-append}
use Rattle.rng_model.specs.simple.Table.{Table}
use Rattle.rng_deriv_laws.specs.plain.Derivatives.{Way, behind}
use Rattle.rng_deriv_table.specs.views.Node.{Node}
use Rattle.rng_deriv_table.specs.views.PatternTable.{Longer}
use Rattle.rng_deriv_table.specs.views.Trees.{tree_of}
use Rattle.rng_deriv_ways.specs.plain.Ways.{AreInside, AreKept, IsInside, Offers, StandFor, way_by, ways_by}
use Rattle.rng_deriv_ways.specs.declared.way.LeafWay as numbered
use Rattle.rng_deriv_ways.proofs.KeptRestrictions.{each_both, each_first, each_second}
use Rattle.rng_deriv_ways.proofs.WayLists.{append_offers, inside_longer, ways_stay}

pub stands_itself : (ns : List Node) (ws : List numbered.LeafWay) → AreInside ns ws → StandFor ns ws (λ t. ways_by (tree_of t ns) ws)
stands_itself ns ws inside = record { inside = inside; offers = λ t g xs ks ys ms. (λ h. h, λ h. h); kept = λ t kind place h. h }

-- the same for equal ways
pub stands_as : (ns : List Node) (numbers : List numbered.LeafWay) (ws vs : Table → List Way) → ((t : Table) → ws t ≡ vs t) → StandFor ns numbers ws
    → StandFor ns numbers vs
stands_as ns numbers ws vs e h = record {
  inside = h.inside;
  offers = λ t g xs ks ys ms. subst (λ us. Offers g (ways_by (tree_of t ns) numbers) xs ks ys ms ↔ Offers g us xs ks ys ms) (e t) (h.offers t g xs ks ys ms);
  kept = λ t kind place k. h.kept t kind place (subst (AreKept kind place) (sym (e t)) k);
}

pub stands_longer : (old new : List Node) (numbers : List numbered.LeafWay) (ws : Table → List Way) → Longer old new → StandFor old numbers ws
    → StandFor new numbers ws
stands_longer old new numbers ws longer h = record {
  inside = inside_longer old new numbers longer h.inside;
  offers = λ t g xs ks ys ms. subst (λ us. Offers g us xs ks ys ms ↔ Offers g (ws t) xs ks ys ms) (sym (ways_stay t old new numbers longer h.inside))
      (h.offers t g xs ks ys ms);
  kept = λ t kind place k. subst (AreKept kind place) (sym (ways_stay t old new numbers longer h.inside)) (h.kept t kind place k);
}

-- ways that represent others, with one more
pub stands_then : (base new : List Node) (all more : List numbered.LeafWay) (way : numbered.LeafWay) (ws : Table → List Way) → StandFor base all ws
    → StandFor new more (λ t. ways_by (tree_of t base) (all ++ way ∷ [])) → StandFor new more (λ t. ws t ++ way_by (tree_of t base) way ∷ [])
stands_then base new all more way ws h k = record {
  inside = k.inside;
  offers = λ t g xs ks ys ms.
      let cut = map-append (way_by (tree_of t base)) all (way ∷ []) in
      let one : List Way = way_by (tree_of t base) way ∷ [] in
      let e = subst (λ us. Offers g (ways_by (tree_of t new) more) xs ks ys ms ↔ Offers g us xs ks ys ms) cut (k.offers t g xs ks ys ms) in
      let f = append_offers g xs ks ys ms (ways_by (tree_of t base) all) (ws t) one one (h.offers t g xs ks ys ms) (λ a. a, λ a. a) in
      (λ a. f.0 (e.0 a), λ a. e.1 (f.1 a));
  kept = λ t kind place a.
      let one : List Way = way_by (tree_of t base) way ∷ [] in
      k.kept t kind place (subst (AreKept kind place) (sym (map-append (way_by (tree_of t base)) all (way ∷ [])))
      (each_both _ _ (ways_by (tree_of t base) all) one (h.kept t kind place (each_first _ _ (ws t) one a)) (each_second _ _ (ws t) one a)));
}

-- ways that represent others, with more
pub stands_more : (base new : List Node) (all more : List numbered.LeafWay) (ws vs : Table → List Way) → StandFor base all ws
    → StandFor new more (λ t. ways_by (tree_of t base) all ++ vs t) → StandFor new more (λ t. ws t ++ vs t)
stands_more base new all more ws vs h k = record {
  inside = k.inside;
  offers = λ t g xs ks ys ms.
      let e = k.offers t g xs ks ys ms in
      let f = append_offers g xs ks ys ms (ways_by (tree_of t base) all) (ws t) (vs t) (vs t) (h.offers t g xs ks ys ms) (λ a. a, λ a. a) in
      (λ a. f.0 (e.0 a), λ a. e.1 (f.1 a));
  kept = λ t kind place a.
      k.kept t kind place (each_both _ _ (ways_by (tree_of t base) all) (vs t) (h.kept t kind place (each_first _ _ (ws t) (vs t) a))
      (each_second _ _ (ws t) (vs t) a));
}

-- ways that represent ways that represent others
pub stands_on : (base new : List Node) (all more : List numbered.LeafWay) (ws : Table → List Way) → StandFor base all ws
    → StandFor new more (λ t. ways_by (tree_of t base) all) → StandFor new more ws
stands_on base new all more ws h k = record {
  inside = k.inside;
  offers = λ t g xs ks ys ms.
      let e = k.offers t g xs ks ys ms in
      let f = h.offers t g xs ks ys ms in
      (λ a. f.0 (e.0 a), λ a. e.1 (f.1 a));
  kept = λ t kind place a. k.kept t kind place (h.kept t kind place a);
}

-- ---- in a hole

pub behind-whole : (ws : List Way) → behind (λ r. r) ws ≡ ws
behind-whole [] = refl
behind-whole (w ∷ ws) = ap (λ us. w ∷ us) (behind-whole ws)

-- two lists, one after the other
pub appended_stand : (ns : List Node) (all ways both : List numbered.LeafWay) → AreInside ns all → AreInside ns ways → both ≡ all ++ ways
    → StandFor ns both (λ t. ways_by (tree_of t ns) all ++ behind (λ r. r) (ways_by (tree_of t ns) ways))
appended_stand ns all ways both h k e = stands_as ns both (λ t. ways_by (tree_of t ns) both) _
    (λ t. ap (ways_by (tree_of t ns)) e ∙ map-append (way_by (tree_of t ns)) all ways
    ∙ ap (λ us. ways_by (tree_of t ns) all ++ us) (sym (behind-whole (ways_by (tree_of t ns) ways))))
    (stands_itself ns both (subst (AreInside ns) (sym e) (All-append (IsInside ns) all ways h k)))
