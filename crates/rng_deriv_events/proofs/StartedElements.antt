-- What a start opens, one alternative after another, in a table that grows.
use Rattle.std.proofs.Common.{◌≡◌, ℕ, ◌<◌, ◌+◌, List, [], ◌∷◌, ◌++◌, length, map, take, refl, sym, ap, ◌∙◌, subst, All, Some, arith}
use Rattle.std.proofs.Common.{slice_get, slice_index_or}
use Rattle.std.specs.Option.{option_map}
use Rattle.std.proofs.lemmas.Option.{slice_get-map, slice_get_within}
use Rattle.std.proofs.lemmas.List.{length-append, length-map, length-take, map-append, take_more}
use Rattle.std.proofs.lemmas.List.Elements.{All-weaker, All-append, All-head, All-tail, All-take, All-map, All-contains, All-nil, All-cons}
use Rattle.rng_model.specs.names.Names.{Name}
use Rattle.rng_model.specs.simple.Tree.{Simple}
use Rattle.rng_model.specs.matching.GrammarMatching.{Reading}
use Rattle.rng_deriv_laws.specs.plain.Ways.{EachWay}
use Rattle.rng_deriv_laws.specs.plain.LevelStates.{IsBodyNamed, AreStarts, AreOpened}
use Rattle.rng_deriv_laws.proofs.Levels.Steps.{IsLinked, none_opened, opened_more}
use Rattle.rng_deriv_table.specs.declared.pattern.PatternNumber.{PatternNumber}
use Rattle.rng_deriv_events.specs.views.Numbers.{Longer, IsInside, tree_of, way_of, AddsStarts}
use Rattle.rng_deriv_events.specs.views.Levels.{link_of, IsBodyOf, IsLinkOf, IsLinkWithin, AddsLinks, AddsOpened}
use Rattle.rng_deriv_events.specs.declared.derivatives.StartWay.{StartWay}
use Rattle.rng_deriv_events.specs.declared.level_table.link.Link.{Link}
use Rattle.rng_deriv_events.proofs.Numbers.{longer_same, longer_through, inside_stays, tree_stays, all_inside_stay, trees_stay}
use Rattle.rng_deriv_events.proofs.AddedLinks.{zip_weaker, zip_all}

pub links_stay : (old new : List (Simple ℕ)) → Longer old new → (ls : List Link) → All (λ l. IsInside old l.rest) ls →
    map (link_of new) ls ≡ map (link_of old) ls
links_stay old new longer [] all = refl
links_stay old new longer (l ∷ ls) all =
    let first = tree_stays old new longer l.rest (All-head (λ l. IsInside old l.rest) l ls all) in
    let more = links_stay old new longer ls (All-tail (λ l. IsInside old l.rest) l ls all) in
    rw (first, more) refl

each_way : (P : Simple ℕ → Type 0) (Q : Simple ℕ → Type 0) (trees : List (Simple ℕ)) (ways : List StartWay) → EachWay P Q (map (way_of trees) ways)
    → All (λ w. P (tree_of trees w.body)) ways
each_way P Q trees [] h = All-nil _
each_way P Q trees (w ∷ ways) h = All-cons (λ w. P (tree_of trees w.body)) w ways h.0.0 (each_way P Q trees ways h.1)

module _ (g : Reading) (q : Name) (old base new : List (Simple ℕ)) (ps : List PatternNumber) (p : PatternNumber) (ways : List StartWay)
    (bodies bodies' : List PatternNumber) (links links' : List Link) (h : AddsOpened g q old base ps bodies links) (inside : All (IsInside old) ps)
    (here : IsInside old p) (s : AddsStarts g q base new (tree_of base p) ways) (a : AddsLinks (length ps) ways bodies bodies' links links') where
  body_inside : (b : PatternNumber) → IsBodyOf ways b → IsInside new b
  body_inside b o = subst (IsInside new) o.2 (All-contains (λ w. IsInside new w.body × IsInside new w.rest) ways o.0 s.inside o.1).0

  all_inside : All (IsInside new) bodies'
  all_inside =
      subst (All (IsInside new)) (sym a.bodies_are)
      (All-append (IsInside new) bodies a.bodies (all_inside_stay base new s.longer bodies h.inside)
      (All-weaker (IsBodyOf ways) (IsInside new) body_inside a.bodies a.of_ways))

  old_within : (l : Link) → IsLinkWithin base (length bodies) (length ps) l → IsLinkWithin new (length bodies') (length (ps ++ p ∷ [])) l
  old_within l w =
      let m = ap length a.bodies_are in
      let n = length-append bodies a.bodies in
      let k = length-append ps (p ∷ []) in
      (omega (arith, w.0, m, n), omega (arith, w.1, k), inside_stays base new s.longer l.rest w.2)

  new_within : (w : StartWay) (l : Link) → IsLinkOf bodies' (length ps) w l → IsInside new w.body × IsInside new w.rest
      → IsLinkWithin new (length bodies') (length (ps ++ p ∷ [])) l
  new_within w l is i =
      let k = length-append ps (p ∷ []) in
      let e = is.0 in
      (slice_get_within bodies' l.inner w.body is.1, omega (arith, e, k), subst (IsInside new) (sym is.2) i.1)

  all_within : All (IsLinkWithin new (length bodies') (length (ps ++ p ∷ []))) links'
  all_within =
      let Within : Link → Type 0 = IsLinkWithin new (length bodies') (length (ps ++ p ∷ [])) in
      subst (All Within) (sym a.links_are)
      (All-append Within links a.links (All-weaker (IsLinkWithin base (length bodies) (length ps)) Within old_within links h.within)
      (zip_all (IsLinkOf bodies' (length ps)) (λ w. IsInside new w.body × IsInside new w.rest) Within new_within ways a.links a.linked s.inside))

  -- what was opened before, in the table as it is after the step
  before : AreOpened g q (map (tree_of new) ps) (map (tree_of new) bodies) (map (link_of new) links)
  before =
      let rests = All-weaker (IsLinkWithin base (length bodies) (length ps)) (λ l. IsInside base l.rest) (λ l w. w.2) links h.within in
      subst (λ ls. AreOpened g q (map (tree_of new) ps) (map (tree_of new) bodies) ls) (sym (links_stay base new s.longer links rests))
      (subst (λ bs. AreOpened g q (map (tree_of new) ps) bs (map (link_of base) links)) (sym (trees_stay base new s.longer bodies h.inside))
      (subst (λ os. AreOpened g q os (map (tree_of base) bodies) (map (link_of base) links))
      (sym (trees_stay base new s.longer ps (all_inside_stay old base h.longer ps inside))) h.opened))

  linked : (w : StartWay) (l : Link) → IsLinkOf bodies' (length ps) w l
      → IsLinked (map (tree_of new) bodies ++ map (tree_of new) a.bodies) (length (map (tree_of new) ps)) (way_of new w) (link_of new l)
  linked w l is =
      let count = length-map ps (tree_of new) in
      let all = ap (map (tree_of new)) a.bodies_are ∙ map-append (tree_of new) bodies a.bodies in
      let found : slice_get (map (tree_of new) bodies') l.inner ≡ Some (tree_of new w.body) =
      slice_get-map (tree_of new) bodies' l.inner ∙ ap (option_map (tree_of new)) is.1 in
      (is.0 ∙ sym count, subst (λ bs. slice_get bs l.inner ≡ Some (tree_of new w.body)) all found, ap (tree_of new) is.2)

  named : All (IsBodyNamed g q) (map (tree_of new) a.bodies)
  named =
      let each = each_way (IsBodyNamed g q) (λ r. Unit {0}) new ways s.starts.each in
      All-map (IsBodyNamed g q) (tree_of new) a.bodies
      (All-weaker (IsBodyOf ways) (λ b. IsBodyNamed g q (tree_of new b))
      (λ b o. subst (λ b. IsBodyNamed g q (tree_of new b)) o.2 (All-contains (λ w. IsBodyNamed g q (tree_of new w.body)) ways o.0 each o.1)) a.bodies a.of_ways)

  within_trees : All (λ l. l.inner < length (map (tree_of new) bodies)) (map (link_of new) links)
  within_trees =
      let count = length-map bodies (tree_of new) in
      All-map (λ l. l.inner < length (map (tree_of new) bodies)) (link_of new) links
      (All-weaker (IsLinkWithin base (length bodies) (length ps)) (λ l. l.inner < length (map (tree_of new) bodies))
      (λ l w. let k = w.0 in omega (arith, k, count)) links h.within)

  pub opens_more : AddsOpened g q old new (ps ++ p ∷ []) bodies' links'
  opens_more =
      let stays = tree_stays base new s.longer p (inside_stays old base h.longer p here) in
      let starts = subst (λ t. AreStarts g q t (map (way_of new) ways)) (sym stays) s.starts in
      let z = zip_weaker (IsLinkOf bodies' (length ps)) (IsLinked (map (tree_of new) bodies ++ map (tree_of new) a.bodies) (length (map (tree_of new) ps)))
      (way_of new) (link_of new) linked ways a.links a.linked in
      let more = opened_more g q (map (tree_of new) ps) (map (tree_of new) bodies) (map (tree_of new) a.bodies) (map (link_of new) links)
      (map (link_of new) a.links) (tree_of new p) (map (way_of new) ways) before within_trees starts z named in
      record {
        longer = longer_through old base new h.longer s.longer;
        inside = all_inside;
        within = all_within;
        opened =
            subst (λ os. AreOpened g q os (map (tree_of new) bodies') (map (link_of new) links')) (sym (map-append (tree_of new) ps (p ∷ [])))
            (subst (λ bs. AreOpened g q (map (tree_of new) ps ++ tree_of new p ∷ []) bs (map (link_of new) links'))
            (sym (ap (map (tree_of new)) a.bodies_are ∙ map-append (tree_of new) bodies a.bodies))
            (subst (λ ls. AreOpened g q (map (tree_of new) ps ++ tree_of new p ∷ []) (map (tree_of new) bodies ++ map (tree_of new) a.bodies) ls)
            (sym (ap (map (link_of new)) a.links_are ∙ map-append (link_of new) links a.links)) more));
      }

-- no alternative around
pub none_opens : (g : Reading) (q : Name) (trees : List (Simple ℕ)) (bodies : List PatternNumber) (links : List Link) → bodies ≡ [] → links ≡ []
    → AddsOpened g q trees trees [] bodies links
none_opens g q trees bodies links no_bodies no_links =
    subst (λ bs. AddsOpened g q trees trees [] bs links) (sym no_bodies)
    (subst (λ ls. AddsOpened g q trees trees [] [] ls) (sym no_links) (record {
      longer = longer_same trees;
      inside = All-nil (IsInside trees);
      within = All-nil (IsLinkWithin trees 0 0);
      opened = none_opened g q;
    }))

-- for a loop over the alternatives
pub opens_at : (g h : Reading) (q : Name) (old base new : List (Simple ℕ)) (ps : List PatternNumber) (i : ℕ) (d : PatternNumber) (ways : List StartWay)
    (bodies bodies' : List PatternNumber) (links links' : List Link) → g ≡ h → AddsOpened h q old base (take i ps) bodies links → All (IsInside old) ps →
    i < length ps → AddsStarts g q base new (tree_of base (slice_index_or ps i d)) ways → AddsLinks i ways bodies bodies' links links' →
    AddsOpened h q old new (take (i + 1) ps) bodies' links'
opens_at g h q old base new ps i d ways bodies bodies' links links' same first inside lt s a =
    let count : i ≡ length (take i ps) = let e = length-take i ps in omega (arith, e, lt) in
    subst (λ ps. AddsOpened h q old new ps bodies' links') (sym (take_more ps i d lt))
    (opens_more h q old base new (take i ps) (slice_index_or ps i d) ways bodies bodies' links links' first (All-take (IsInside old) i ps inside)
    (inside i d lt) (subst (λ g. AddsStarts g q base new (tree_of base (slice_index_or ps i d)) ways) same s)
    (subst (λ k. AddsLinks k ways bodies bodies' links links') count a))
