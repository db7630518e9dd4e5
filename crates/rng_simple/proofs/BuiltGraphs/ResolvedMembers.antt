-- The members of a pattern resolved one by one.
use Rattle.std.proofs.Common.{◌≡◌, ◌∙◌, refl, sym, ap, ℕ, ◌+◌, ◌<◌, ◌≤◌, List, [], ◌∷◌, ◌++◌, map, length, drop, get_or, Option, append_assoc, Bool, ◌||◌}
use Rattle.std.proofs.Common.{arith}
use Rattle.std.specs.List.{list_any}
use Rattle.std.proofs.lemmas.List.{append-nil, drop_all, drop_more}
use Rattle.rng_model.specs.simple.Tree.{Tree, Connector, choice, group, interleave, joined, tree_and}
use Rattle.rng_model.specs.schema.Patterns.{Place, Pattern, pattern_list}
use Rattle.rng_model.specs.schema.Patterns as pattern
use Rattle.rng_simple.specs.plain.Graph.{Spot}
use Rattle.rng_simple.specs.views.GraphView.{members, trees_of}
use Rattle.rng_simple.specs.plain.Resolving.{Numbering, resolve, resolve_all, resolve_each}

module _ (x : Place) (outer : Option Place) where
  all_as_each : (ps : List Pattern) (v : Numbering)
      → resolve_all x outer (pattern_list ps) v ≡ (trees_of (resolve_each x outer ps v).0, (resolve_each x outer ps v).1)
  unfolding resolve resolve_each
  all_as_each [] v = refl
  all_as_each (p ∷ ps) v = ap (λ r. (tree_and (resolve x outer p v).0 r.0, r.1)) (all_as_each ps (resolve x outer p v).1)

  joined_as_each : (k : Connector) (p q : Pattern) (ps : List Pattern) (v : Numbering) → resolve x outer (pattern.joined k p q (pattern_list ps)) v
      ≡ (members k (resolve_each x outer (p ∷ (q ∷ ps)) v).0, (resolve_each x outer (p ∷ (q ∷ ps)) v).1)
  unfolding resolve resolve_each
  joined_as_each choice p q ps v = ap (λ r. (joined choice (resolve x outer p v).0 (resolve x outer q (resolve x outer p v).1).0 r.0, r.1))
      (all_as_each ps (resolve x outer q (resolve x outer p v).1).1)
  joined_as_each group p q ps v = ap (λ r. (joined group (resolve x outer p v).0 (resolve x outer q (resolve x outer p v).1).0 r.0, r.1))
      (all_as_each ps (resolve x outer q (resolve x outer p v).1).1)
  joined_as_each interleave p q ps v = ap (λ r. (joined interleave (resolve x outer p v).0 (resolve x outer q (resolve x outer p v).1).0 r.0, r.1))
      (all_as_each ps (resolve x outer q (resolve x outer p v).1).1)

  pub members_resolved : (k : Connector) (ps : List Pattern) (v : Numbering) → resolve x outer (pattern.joined_members k ps) v
      ≡ (members k (resolve_each x outer ps v).0, (resolve_each x outer ps v).1)
  unfolding resolve resolve_each
  members_resolved choice [] v = refl
  members_resolved group [] v = refl
  members_resolved interleave [] v = refl
  members_resolved choice (p ∷ []) v = refl
  members_resolved group (p ∷ []) v = refl
  members_resolved interleave (p ∷ []) v = refl
  members_resolved choice (p ∷ (q ∷ ps)) v = joined_as_each choice p q ps v
  members_resolved group (p ∷ (q ∷ ps)) v = joined_as_each group p q ps v
  members_resolved interleave (p ∷ (q ∷ ps)) v = joined_as_each interleave p q ps v

-- the invariant of the loop that puts the trees of these patterns behind others: resolving the rest after this numbering
-- gives what all of them give
pub record AreResolved (x : Place) (outer : Option Place) (front : List (Tree Spot)) (all : List Pattern) (before : Numbering) (rest : List Pattern)
    (so_far : List (Tree Spot)) (now : Numbering) : Type 0 where
  pub patterns : front ++ (resolve_each x outer all before).0 ≡ so_far ++ (resolve_each x outer rest now).0
  pub numbering : (resolve_each x outer all before).1 ≡ (resolve_each x outer rest now).1

module _ {x : Place} {outer : Option Place} {front : List (Tree Spot)} {all : List Pattern} {before : Numbering} where
  pub none_resolved : AreResolved x outer front all before all front before
  none_resolved = record { patterns = refl; numbering = refl }

  one_more : (p : Pattern) (rest : List Pattern) (so_far : List (Tree Spot)) (now : Numbering) → AreResolved x outer front all before (p ∷ rest) so_far now
      → AreResolved x outer front all before rest (so_far ++ (resolve x outer p now).0 ∷ []) (resolve x outer p now).1
  unfolding resolve_each
  one_more p rest so_far now r = record {
    patterns = r.patterns ∙ sym (append_assoc so_far ((resolve x outer p now).0 ∷ []) (resolve_each x outer rest (resolve x outer p now).1).0);
    numbering = r.numbering;
  }

  pub goes_on : {E : Type 0} (view : E → Pattern) (es : List E) (i : ℕ) (e : E) (so_far more : List (Tree Spot)) (now later : Numbering)
      → i < length es → e ≡ get_or es i e → AreResolved x outer front all before (map view (drop i es)) so_far now
      → more ≡ so_far ++ (resolve x outer (view e) now).0 ∷ [] → later ≡ (resolve x outer (view e) now).1
      → AreResolved x outer front all before (map view (drop (i + 1) es)) more later
  goes_on view es i e so_far more now later inside is r grown put =
      let next : drop i es ≡ e ∷ drop (i + 1) es = drop_more es i e inside ∙ ap (λ y. y ∷ drop (i + 1) es) (sym is) in
      rw (grown, put) (one_more (view e) (map view (drop (i + 1) es)) so_far now (rw next at r))

  pub all_patterns : {E : Type 0} (view : E → Pattern) (es : List E) (i : ℕ) (so_far : List (Tree Spot)) (now : Numbering) → length es ≤ i
      → AreResolved x outer front all before (map view (drop i es)) so_far now → so_far ≡ front ++ (resolve_each x outer all before).0
  unfolding resolve_each
  all_patterns view es i so_far now end r =
      sym (r.patterns ∙ ap (λ es. so_far ++ (resolve_each x outer (map view es) now).0) (drop_all i es end) ∙ append-nil so_far)

  pub all_numbered : {E : Type 0} (view : E → Pattern) (es : List E) (i : ℕ) (so_far : List (Tree Spot)) (now : Numbering) → length es ≤ i
      → AreResolved x outer front all before (map view (drop i es)) so_far now → now ≡ (resolve_each x outer all before).1
  unfolding resolve_each
  all_numbered view es i so_far now end r = sym (r.numbering ∙ ap (λ es. (resolve_each x outer (map view es) now).1) (drop_all i es end))

-- each pattern gives one tree
pub each_once : (x : Place) (outer : Option Place) (ps : List Pattern) (v : Numbering) → length (resolve_each x outer ps v).0 ≡ length ps
unfolding resolve_each
each_once x outer [] v = refl
each_once x outer (p ∷ ps) v = let rest = each_once x outer ps (resolve x outer p v).1 in omega (arith, rest)

-- whether some member of a list has a property: the first one, or one of the others
pub next_any : {A E : Type 0} (test : A → Bool) (view : E → A) (es : List E) (i : ℕ) (e : E) → i < length es → e ≡ get_or es i e
    → list_any test (map view (drop i es)) ≡ test (view e) || list_any test (map view (drop (i + 1) es))
next_any test view es i e inside is =
    ap (λ es. list_any test (map view es)) (drop_more es i e inside ∙ ap (λ y. y ∷ drop (i + 1) es) (sym is))
