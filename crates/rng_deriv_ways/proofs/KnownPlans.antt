-- Plans of patterns stay right as a table grows.
use Rattle.std.proofs.Common.{◌≡◌, ◌⊎◌, ◌<◌, ℕ, Bool, List, [], ◌∷◌, All, string_bytes, Box, Contains, Option, Some, None, length, true, false, cond, IfSome}
use Rattle.std.proofs.Common.{inl, inr, ⊎_elim, refl, sym, subst, arith, rules}
use Rattle.std.specs.HashMap.{HashMap, IsEmpty, get}
use Rattle.std.specs.Map.{lookup}
use Rattle.std.proofs.lemmas.Option.{same_Some, none-some}
use Rattle.std.proofs.lemmas.List.Elements.{All-contains}
use Rattle.rng_names.specs.plain.Keys.{Keys}
use Rattle.rng_model.specs.matching.Document.{a_text}
use Rattle.rng_model.specs.matching.GrammarMatching.{reading_of}
use Rattle.rng_model.specs.simple.Table.{Table}
use Rattle.rng_deriv_laws.specs.plain.Taking.{Takes}
use Rattle.rng_deriv_table.specs.plain.Reduced.{HasAlternative}
use Rattle.rng_deriv_table.specs.views.Node.{Node}
use Rattle.rng_deriv_table.specs.views.PatternTable.{Longer}
use Rattle.rng_deriv_table.specs.views.Trees.{tree_of}
use Rattle.rng_deriv_table.specs.declared.pattern.PatternNumber.{PatternNumber}
use Rattle.rng_deriv_table.proofs.Trees.{Longer-length, tree_stays}
use Rattle.rng_deriv_ways.specs.contracts.plans.AskedPartialEq.TheImpl as same
use Rattle.rng_deriv_ways.specs.plain.Ways.{AreWaysOf}
use Rattle.rng_deriv_ways.specs.views.Plans.{ArePlans, HasPlan, IsChoiceOf, IsIndex, IsOutcome, IsPlan, IsPlanFor, TakesOnly, number_of}
use Rattle.rng_deriv_ways.specs.declared.plans.Asked.{Asked}
use Rattle.rng_deriv_ways.specs.declared.plans.Plan.{Plan}
use Rattle.rng_deriv_ways.specs.declared.plans.ValueIndex.{ValueIndex}
use Rattle.rng_deriv_ways.specs.declared.way.LeafWay.{LeafWay}
use Rattle.rng_deriv_ways.proofs.WaysOfSides.{side_law}

-- a choice of patterns of shorter tables
module _ (t : Table) (before after later last : List Node) (longer : Longer before later) (more : Longer after last) where
  pub choice_longer : (members : List PatternNumber) (n : PatternNumber) → All (λ (m : PatternNumber). m.0 < length before) members
      → IsChoiceOf t before after members n → IsChoiceOf t later last members n
  choice_longer members n there h =
      let long = Longer-length after last more in
      let inside = h.inside in
      let is = tree_stays t after last n.0 more h.inside in
      record {
        inside = omega (arith, inside, long);
        alternatives = λ s a. let d = h.alternatives s (subst (λ p. HasAlternative p s) is a) in
            (d.0, d.1, subst (λ p. HasAlternative p s) (sym (stays d.0 d.1)) d.2);
        takes = λ g xs ns. let law = h.takes g xs ns in (
          λ a. let d = law.0 (subst (λ p. Takes g p xs ns) is a) in (d.0, d.1, subst (λ p. Takes g p xs ns) (sym (stays d.0 d.1)) d.2),
          λ d. subst (λ p. Takes g p xs ns) (sym is) (law.1 (d.0, d.1, subst (λ p. Takes g p xs ns) (stays d.0 d.1) d.2)),
        );
      }
    where
      stays : (m : PatternNumber) → Contains members m → tree_of t later m.0 ≡ tree_of t before m.0
      stays m c = tree_stays t before later m.0 longer (All-contains (λ m. m.0 < length before) members m there c)

module _ (t : Table) (old new : List Node) (longer : Longer old new) where
  pub all_inside : (ms : List PatternNumber) → All (λ (m : PatternNumber). m.0 < length old) ms → All (λ (m : PatternNumber). m.0 < length new) ms
  all_inside ms there i d h = let at = there i d h in let long = Longer-length old new longer in omega (arith, at, long)

  pub outcome_longer : (ws : List LeafWay) (leaves : List PatternNumber) (taken : List Bool) (rest : PatternNumber) → IsOutcome t old ws leaves taken rest
      → IsOutcome t new ws leaves taken rest
  outcome_longer ws leaves taken rest h = record {
    rests = h.rests;
    are = h.are;
    inside = all_inside h.rests h.inside;
    choice = choice_longer t old old new new longer longer h.rests rest h.inside h.choice;
  }

  only_longer : (text : List ℕ) (leaf : PatternNumber) → TakesOnly t old text leaf → TakesOnly t new text leaf
  only_longer text leaf h =
      let long = Longer-length old new longer in
      let inside = h.inside in record {
        inside = omega (arith, inside, long);
        only = λ s d. h.only s (subst (λ p. Takes (reading_of t) p [] (a_text s ∷ [])) (tree_stays t old new leaf.0 longer inside) d);
      }

  pub index_longer : (ws : List LeafWay) (index : ValueIndex) → IsIndex t old ws index → IsIndex t new ws index
  index_longer ws index h = record {
    others = h.others;
    kept = h.kept;
    all = λ w c. ⊎_elim (λ other. inl other) (λ own. inr (own.0, own.1, only_longer (string_bytes own.0) w.leaf own.2)) (h.all w c);
  }

  pub values_longer : {Z : Type 0} (ws : List LeafWay) (o : Option (Box ValueIndex Z)) → IfSome o (λ index. IsIndex t old ws index.value)
      → IfSome o (λ index. IsIndex t new ws index.value)
  values_longer ws None h = h
  values_longer ws (Some index) h = index_longer ws index.value h

  pub plan_longer : (plan : Plan) → IsPlan t old plan → IsPlan t new plan
  plan_longer plan h = record {
    leaves = all_inside plan.leaves.items h.leaves;
    values = values_longer plan.ways.items plan.values h.values;
    outcomes = λ o c. outcome_longer plan.ways.items plan.leaves.items o.taken.items o.rest (h.outcomes o c);
  }

  pub plan_for_longer : (keys : Keys) (a : Asked) (plan : Plan) → IsPlanFor t keys old a plan → IsPlanFor t keys new a plan
  plan_for_longer keys a plan h =
      let long = Longer-length old new longer in
      let inside = h.inside in
      record {
        inside = omega (arith, inside, long);
        ways = λ kind is. subst (λ p. AreWaysOf t new kind p plan.ways.items) (sym (tree_stays t old new (number_of a) longer h.inside))
            (side_law t old new kind (tree_of t old (number_of a)) plan.ways.items longer (h.ways kind is));
        right = plan_longer plan h.right;
      }

  pub plans_longer : {Z : Type 0} (keys : Keys) (plans : HashMap Asked Plan Z) → ArePlans t keys old plans → ArePlans t keys new plans
  plans_longer keys plans all a plan h = plan_for_longer keys a plan (all a plan h)

module _ {Z : Type 0} (t : Table) (keys : Keys) (ns : List Node) (plans more : HashMap Asked Plan Z) where
  -- a plan is taken out
  pub plans_left : ((a : Asked) (plan : Plan) → HasPlan more a plan → HasPlan plans a plan) → ArePlans t keys ns plans → ArePlans t keys ns more
  plans_left within all a plan h = all a plan (within a plan h)

  -- a plan becomes known
  pub plans_more : (a : Asked) (plan : Plan) → ArePlans t keys ns plans → IsPlanFor t keys ns a plan
      → ((b : Asked) (p : Plan) → HasPlan more b p → HasPlan plans b p ⊎ ((b ≡ a) × (p ≡ plan))) → ArePlans t keys ns more
  plans_more a plan all own within b p h = ⊎_elim (λ was. all b p was)
      (λ is. subst (λ b. IsPlanFor t keys ns b p) (sym is.0) (subst (IsPlanFor t keys ns a) (sym is.1) own)) (within b p h)

pub no_plans : {Z : Type 0} (t : Table) (keys : Keys) (ns : List Node) (plans : HashMap Asked Plan Z) → IsEmpty plans → ArePlans t keys ns plans
no_plans t keys ns plans empty a plan h = absurd (none-some _ (subst (λ es. lookup (same.ghosts.eq a) es ≡ Some plan) empty h))

-- ---- the map of plans

-- a value is found beside the key that was taken out
pub others_stay : {A : Type 0} (b : Bool) (o : Option A) (x : A) → cond b None o ≡ Some x → o ≡ Some x
others_stay true o x e = absurd (none-some _ e)
others_stay false o x e = e

same_asked : (a b : Asked) → same.ghosts.eq a b ≡ true → a ≡ b
same_asked a b e = search rules

-- a value is one that was there, or the one that was put at the key
pub one_put : (a b : Asked) (plan p : Plan) (o : Option Plan) → cond (same.ghosts.eq a b) (Some plan) o ≡ Some p → (o ≡ Some p) ⊎ ((b ≡ a) × (p ≡ plan))
one_put a b plan p o e = by (same.ghosts.eq a b) refl e
  where
    by : (t : Bool) → same.ghosts.eq a b ≡ t → cond t (Some plan) o ≡ Some p → (o ≡ Some p) ⊎ ((b ≡ a) × (p ≡ plan))
    by true f g = inr (sym (same_asked a b f), sym (same_Some _ _ g))
    by false f g = inl g

pub plan_found : {Z : Type 0} (t : Table) (keys : Keys) (ns : List Node) (plans : HashMap Asked Plan Z) (a : Asked) (o : Option Plan)
    → o ≡ get same.ghosts.eq plans a → ArePlans t keys ns plans → IfSome o (IsPlanFor t keys ns a)
plan_found t keys ns plans a None e all = tt
plan_found t keys ns plans a (Some plan) e all = all a plan (sym e)
