-- Properties of a table that serves a grammar.
use Rattle.std.proofs.Common.{◌≡◌, ◌∙◌, ◌↔◌, ℕ, ◌<◌, List, [], ◌∷◌, ◌++◌, All, length, fold, refl, sym, ap, subst, arith, Bool, true, false}
use Rattle.std.proofs.Common.{slice_index_or}
use Rattle.rng_names.specs.plain.Keys.{Keys}
use Rattle.std.proofs.lemmas.List.{append-nil, append_assoc, get_or_default}
use Rattle.std.proofs.lemmas.List.Elements.{All-weaker}
use Rattle.std.proofs.lemmas.List.Sums.{fold-append}
use Rattle.rng_model.specs.matching.Document.{Attribute, Item}
use Rattle.rng_model.specs.names.Names.{Name}
use Rattle.rng_model.specs.simple.Table.{Table, grammar_of, tree_at}
use Rattle.rng_model.specs.simple.TableRules.{IsTable}
use Rattle.rng_model.specs.simple.Tree.{Simple}
use Rattle.rng_model.specs.declared.simple.PatternId.{PatternId}
use Rattle.rng_model.specs.restrictions.RestrictionFaults.{BreaksNone}
use Rattle.rng_deriv_laws.specs.plain.LevelStates.{IsAfterTag, IsAfterText}
use Rattle.rng_deriv_laws.specs.plain.Restricted.{IsRestricted, IsRestrictedBody}
use Rattle.rng_deriv_laws.specs.plain.Taking.{Same, Takes}
use Rattle.rng_deriv_laws.proofs.Restricted.{bodies_restricted, start_restricted}
use Rattle.rng_deriv_table.specs.views.Choices.{SomeTakes}
use Rattle.rng_deriv_table.specs.plain.AskedFor.{IsAskedFor, as_body, as_start}
use Rattle.rng_deriv_table.specs.plain.Kept.{AreRestrictedAlike}
use Rattle.rng_deriv_table.specs.views.Node.{Node}
use Rattle.rng_deriv_table.specs.views.PatternTable.{Longer}
use Rattle.rng_deriv_table.specs.views.Taking.{AreTaken}
use Rattle.rng_deriv_table.specs.views.Trees.{trees, tree_of, tree_over, tree_in, with_tree}
use Rattle.rng_deriv_table.specs.declared.pattern.PatternNumber.{PatternNumber}
use Rattle.rng_deriv_table.proofs.Trees.{length-trees, Longer-trans}
use Rattle.rng_deriv_texts.specs.plain.After.{IsLeftOfTag}
use Rattle.rng_deriv_ways.specs.plain.Kinds.{Obeys}
use Rattle.rng_model.specs.matching.GrammarMatching.{reading_of}
use Rattle.rng_deriv_ways.specs.plain.Starting as starting
use Rattle.rng_deriv_ways.specs.plain.Ways.{ways_by}
use Rattle.rng_deriv_ways.specs.declared.known.Known.{Known}
use Rattle.rng_deriv_ways.specs.declared.way.Place.{Place}
use Rattle.rng_deriv_ways.specs.declared.way.Place.TheVariants as places
use Rattle.rng_deriv_ways.specs.declared.way.LeafWay as numbered
use Rattle.rng_deriv_ways.proofs.GrammarRows.{body_there}
use Rattle.rng_deriv_ways.proofs.StartBodies.{bodies_longer, body_inside, ready_longer}
use Rattle.rng_deriv_events.specs.views.Numbers as numbers
use Rattle.rng_deriv_events.specs.views.Numbers.{Adds, AddsStarts, IsChoiceOf, IsInside}
use Rattle.rng_deriv_events.specs.declared.derivatives.StartWay.{StartWay}
use Rattle.rng_deriv.specs.views.Serving.{IsServed, IsServedBy, nodes_unless}
use Rattle.rng_deriv.specs.views.Starts.{OpensLike}
use Rattle.rng_deriv.proofs.JoinedStarts.{starts_are, starts_inside}

-- ---- a table that grows

grown : (t : Table) (before : List (Simple ℕ)) (more : List Node) → (rest : List (Simple ℕ)) × (fold (with_tree t) before more ≡ before ++ rest)
grown t before [] = ([], sym (append-nil before))
grown t before (n ∷ more) =
    let one = tree_over t (tree_in before) n in
    let h = grown t (before ++ one ∷ []) more in
    (one ∷ h.0, h.1 ∙ append_assoc before (one ∷ []) h.0)

pub trees_longer : (t : Table) (old new : List Node) → Longer old new → numbers.Longer (trees t old) (trees t new)
unfolding trees
trees_longer t old new longer =
    let h = grown t (trees t old) longer.0 in
    (h.0, ap (trees t) longer.1 ∙ fold-append (with_tree t) [] old longer.0 ∙ h.1)

pub served_longer : (t : Table) (old new : List Node) (ns : List PatternNumber) → Longer old new → IsServed t old ns → IsServed t new ns
served_longer t old new ns longer served = record {
  keeps = served.keeps;
  ready = ready_longer t old new ns longer served.ready;
  bodies = bodies_longer t old new ns longer served.ready served.bodies;
}

-- ---- the table of a grammar

kept_at : (t : Table) (ns : List Node) (numbers : List PatternNumber) → AreRestrictedAlike t ns numbers → (place : Place) (id : PatternId)
    → id.0 < length numbers → IsAskedFor t id.0 → Obeys place (tree_at t.patterns id) → Obeys place (tree_of t ns (slice_index_or numbers id.0 (record { 0 = 0 })).0)
kept_at t ns numbers alike places.Content id h has o = alike.restricted id h has o
kept_at t ns numbers alike places.List id h has o = alike.unlisted id h has o

module _ (t : Table) (ns : List Node) (numbers : List PatternNumber) (keeps : BreaksNone (grammar_of t)) (valid : IsTable t)
    (long : length numbers ≡ length t.patterns) (taken : AreTaken t ns numbers) (alike : AreRestrictedAlike t ns numbers) where
  pub served_first : IsServed t ns numbers
  served_first = record {
    keeps = keeps;
    ready = record { grammar = valid; long = long; taken = taken; kept = kept_at t ns numbers alike };
    bodies = λ k e found.
        let there = body_inside t k e valid found in
        let body = subst IsRestrictedBody (body_there t k e found) (bodies_restricted (grammar_of t) keeps k) in
        let inside : e.1.0 < length numbers = omega (arith, there, long) in
        let asked = as_body k e found refl in
        record { restricted = alike.restricted e.1 inside asked body.restricted; typed = alike.typed e.1 inside asked body.typed };
  }

-- ---- the number of its start

module _ (t : Table) (ns : List Node) (numbers : List PatternNumber) (served : IsServed t ns numbers) where
  start_there : t.start.0 < length numbers
  start_there = let there = served.ready.grammar.start in let long = served.ready.long in omega (arith, there, long)

  module _ (n : PatternNumber) (read : n ≡ slice_index_or numbers t.start.0 n) where
    start_is : slice_index_or numbers t.start.0 (record { 0 = 0 }) ≡ n
    start_is = get_or_default numbers t.start.0 (record { 0 = 0 }) n start_there ∙ sym read

    pub start_inside : IsInside (trees t ns) n
    start_inside = subst (IsInside (trees t ns)) start_is (record {
      below = let at = served.ready.taken.inside t.start.0 start_there in let same = length-trees t ns in omega (arith, at, same);
      restricted = served.ready.kept places.Content t.start start_there (as_start refl) (start_restricted (grammar_of t) served.keeps);
    })

    pub start_same : Same (reading_of t) (tree_of t ns n.0) (tree_at t.patterns t.start)
    start_same = subst (λ (n : PatternNumber). Same (reading_of t) (tree_of t ns n.0) (tree_at t.patterns t.start)) start_is
        (served.ready.taken.same t.start.0 start_there (as_start refl) (reading_of t))

-- ---- what contracts see of a table, unless a call ran out of memory

module _ (t : Table) (lost : Bool) (ns : List Node) (seen : Table × List Node) (there : lost ≡ false) (view : (t, nodes_unless lost ns) ≡ seen) where
  pub seen_there : (t, ns) ≡ seen
  seen_there = subst (λ b. (t, nodes_unless b ns) ≡ seen) there view

  pub below_there : (n : PatternNumber) → IsInside (trees seen.0 seen.1) n → n.0 < length ns
  below_there n inside =
      let at = subst (λ (s : Table × List Node). n.0 < length (trees s.0 s.1)) (sym seen_there) inside.below in
      let same = length-trees t ns in
      omega (arith, at, same)

  pub all_below_there : (ms : List PatternNumber) → All (IsInside (trees seen.0 seen.1)) ms → All (λ m. m.0 < length ns) ms
  all_below_there ms all = All-weaker (IsInside (trees seen.0 seen.1)) (λ m. m.0 < length ns) below_there ms all

pub none_there : (t : Table) (lost : Bool) (ns : List Node) (seen : Table × List Node) (n : PatternNumber) → lost ≡ true → (t, nodes_unless lost ns) ≡ seen
    → IsInside (trees seen.0 seen.1) n → ⊥
none_there t lost ns seen n gone view inside =
    let nothing : (t, []) ≡ seen = subst (λ b. (t, nodes_unless b ns) ≡ seen) gone view in
    let at = subst (λ (s : Table × List Node). n.0 < length (trees s.0 s.1)) (sym nothing) inside.below in
    let same = length-trees t [] in
    absurd (omega (arith, at, same))

pub there_served : (t : Table) (keys : Keys) (lost : Bool) (ns : List Node) (numbers : List PatternNumber) (known : Known) → lost ≡ false
    → IsServedBy t keys lost ns numbers known → IsServedBy t keys false ns numbers known
there_served t keys lost ns numbers known there served = subst (λ b. IsServedBy t keys b ns numbers known) there served

-- ---- what is added

module _ (t : Table) (old new : List Node) (seen : Table × List Node) (view : (t, old) ≡ seen) (longer : Longer old new) where
  inside_new : (n : PatternNumber) → n.0 < length new → IsRestricted (tree_of t new n.0) → IsInside (trees t new) n
  inside_new n below restricted = record { below = let same = length-trees t new in omega (arith, below, same); restricted = restricted }

  pub choice_added : (ms : List PatternNumber) (n : PatternNumber) → n.0 < length new
      → ((xs : List Attribute) (ks : List Item) → Takes (reading_of t) (tree_of t new n.0) xs ks ↔ SomeTakes (reading_of t) (tree_of t old) ms xs ks)
      → (All (λ (m : PatternNumber). IsRestricted (tree_of t old m.0)) ms → IsRestricted (tree_of t new n.0)) → All (IsInside (trees seen.0 seen.1)) ms
      → Adds (IsChoiceOf (reading_of seen.0) (trees seen.0 seen.1) ms) (trees seen.0 seen.1) (trees t new) n
  choice_added ms n below matches restricted all =
      let P : Table × List Node → Type 0 = λ s. All (IsInside (trees s.0 s.1)) ms
      → Adds (IsChoiceOf (reading_of s.0) (trees s.0 s.1) ms) (trees s.0 s.1) (trees t new) n in
      subst P view (λ inside. record {
        longer = trees_longer t old new longer;
        inside = inside_new n below
            (restricted (All-weaker (IsInside (trees t old)) (λ (m : PatternNumber). IsRestricted (tree_of t old m.0)) (λ m i. i.restricted) ms inside));
        is = λ ks. matches [] ks;
      }) all

  pub text_added : (s : List ℕ) (p n : PatternNumber) → n.0 < length new
      → (IsRestricted (tree_of t old p.0) → IsAfterText (reading_of t) s (tree_of t old p.0) (tree_of t new n.0))
      → (IsRestricted (tree_of t old p.0) → IsRestricted (tree_of t new n.0)) → IsInside (trees seen.0 seen.1) p
      → Adds (IsAfterText (reading_of seen.0) s (numbers.tree_of (trees seen.0 seen.1) p)) (trees seen.0 seen.1) (trees t new) n
  text_added s p n below law kept is =
      let P : Table × List Node → Type 0 = λ v. IsInside (trees v.0 v.1) p
      → Adds (IsAfterText (reading_of v.0) s (numbers.tree_of (trees v.0 v.1) p)) (trees v.0 v.1) (trees t new) n in
      subst P view (λ inside. record {
        longer = trees_longer t old new longer;
        inside = inside_new n below (kept inside.restricted);
        is = law inside.restricted;
      }) is

  pub tag_added : (xs : List Attribute) (p n : PatternNumber) → IsLeftOfTag t old new xs p n → IsInside (trees seen.0 seen.1) p
      → Adds (IsAfterTag (reading_of seen.0) xs (numbers.tree_of (trees seen.0 seen.1) p)) (trees seen.0 seen.1) (trees t new) n
  tag_added xs p n left is =
      let P : Table × List Node → Type 0 = λ v. IsInside (trees v.0 v.1) p
      → Adds (IsAfterTag (reading_of v.0) xs (numbers.tree_of (trees v.0 v.1) p)) (trees v.0 v.1) (trees t new) n in
      subst P view (λ inside. record {
        longer = trees_longer t old new longer;
        inside = inside_new n left.inside (left.kept inside.restricted);
        is = left.law inside.restricted;
      }) is

pub starts_added : (t : Table) (old middle new : List Node) (seen : Table × List Node) (view : (t, old) ≡ seen) (ns : List PatternNumber) (q : Name)
    (p : PatternNumber) (ways : List numbered.LeafWay) (starts : List StartWay) → Longer old middle → Longer middle new → IsServed t old ns
    → starting.AreStarts t middle ns (tree_of t old p.0) q ways → OpensLike t new (ways_by (tree_of t middle) ways) starts
    → IsInside (trees seen.0 seen.1) p
    → AddsStarts (reading_of seen.0) q (trees seen.0 seen.1) (trees t new) (numbers.tree_of (trees seen.0 seen.1) p) starts
starts_added t old middle new seen view ns q p ways starts longer more served law joined is =
    let P : Table × List Node → Type 0 = λ v. IsInside (trees v.0 v.1) p
    → AddsStarts (reading_of v.0) q (trees v.0 v.1) (trees t new) (numbers.tree_of (trees v.0 v.1) p) starts in
    subst P view (λ inside.
    let o = inside.restricted in
    let each = law.kept o (served_longer t old middle ns longer served).bodies in
    record {
      longer = trees_longer t old new (Longer-trans old middle new longer more);
      inside = starts_inside t middle new ns (tree_of t old p.0) q ways starts o law joined each (length-trees t new);
      starts = starts_are t middle new ns (tree_of t old p.0) q ways starts o law joined each;
    }) is
