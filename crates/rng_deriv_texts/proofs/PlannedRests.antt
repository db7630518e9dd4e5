-- What is left of a pattern by its plan.
use Rattle.std.proofs.Common.{◌≡◌, ◌∙◌, ◌⊎◌, inl, inr, ⊎_elim, ℕ, zero, suc, ◌<◌, List, [], ◌∷◌, ◌++◌, length, All, Bool, true, false, Contains, Bor, Some}
use Rattle.std.proofs.Common.{slice_get, refl, sym, ap, subst, arith}
use Rattle.std.specs.Prelude.{IfSome}
use Rattle.std.proofs.lemmas.List.Elements.{All-append}
use Rattle.std.proofs.lemmas.Option.{get_or_from_slice_get, slice_get_within, none-some, same_Some}
use Rattle.smallvec.specs.SmallVec.{SmallVec}
use Rattle.rng_names.specs.plain.Keys.{Keys, KeysServe, key_of}
use Rattle.rng_names.specs.declared.name_keys.NameKey.{NameKey}
use Rattle.rng_model.specs.matching.GrammarMatching.{reading_of}
use Rattle.rng_model.specs.names.NameViews.{name_of}
use Rattle.rng_model.specs.simple.Table.{Table}
use Rattle.rng_model.specs.simple.Tree.{Simple}
use Rattle.rng_model.specs.declared.document.Attr.{Attr}
use Rattle.rng_model.specs.declared.name.Name.{Name}
use Rattle.rng_deriv_laws.specs.plain.Taking.{Takes}
use Rattle.rng_deriv_table.specs.views.Node.{Node}
use Rattle.rng_deriv_table.specs.views.PatternTable.{Longer}
use Rattle.rng_deriv_table.specs.views.Trees.{tree_of}
use Rattle.rng_deriv_table.specs.declared.pattern.PatternNumber.{PatternNumber}
use Rattle.rng_deriv_table.proofs.Trees.{Longer-length, Longer-refl, tree_stays}
use Rattle.rng_deriv_ways.specs.plain.Kinds.{Obeys}
use Rattle.rng_deriv_ways.specs.plain.Ways.{AreInside, AreWaysOf, Offers}
use Rattle.rng_deriv_ways.specs.views.Plans.{AreRestsBy, IsChoiceOf, IsIndex, IsKindAsked, IsOutcome, IsPlan, IsPlanFor, no_ways, number_of, one_left_out}
use Rattle.rng_deriv_ways.specs.views.Plans.{one_taken}
use Rattle.rng_deriv_ways.specs.declared.plans.Asked.{Asked}
use Rattle.rng_deriv_ways.specs.declared.plans.Asked.TheVariants as asked
use Rattle.rng_deriv_ways.specs.declared.plans.Outcome.{Outcome}
use Rattle.rng_deriv_ways.specs.declared.plans.Plan.{Plan}
use Rattle.rng_deriv_ways.specs.declared.way.Kind.{Kind}
use Rattle.rng_deriv_ways.specs.declared.way.Kind.TheVariants as kinds
use Rattle.rng_deriv_ways.specs.declared.way.LeafWay.{LeafWay}
use Rattle.rng_deriv_ways.proofs.AddedWays.{back_inside, front_inside}
use Rattle.rng_deriv_ways.proofs.KnownPlans.{all_inside, choice_longer, plan_for_longer, plan_longer}
use Rattle.rng_deriv_ways.proofs.LikeAttributes.{ways_alike}
use Rattle.rng_deriv_ways.proofs.WayLists.{inside_longer, ways_stay}
use Rattle.rng_deriv_texts.specs.plain.After.{AreFor, AreRests, AreThoseBehind, AreWaysFor, IsLeft, TellsTaken, attributes_of, items_of, place_of}
use Rattle.rng_deriv_texts.specs.plain.Asking.{AreTests, IsAskedBy}
use Rattle.rng_deriv_texts.specs.plain.Settling.{AreLeft, IsSettled}
use Rattle.rng_deriv_texts.specs.declared.settled.Rest.{Rest}
use Rattle.rng_deriv_texts.specs.declared.first.First.{First}
use Rattle.rng_deriv_texts.specs.declared.first.First.TheVariants as firsts
use Rattle.rng_deriv_texts.proofs.SettledRests.{settled_by}
use Rattle.rng_deriv_texts.proofs.RestsOfWays.{leaf_leaves, leaf_leaves_none, left_behind, no_rests, ways_for_attribute, ways_for_text}

-- ---- rests by tests

-- the rests are numbers of the table, if the ways are
pub rests_inside : (ns : List Node) (leaves : List PatternNumber) (taken : List Bool) (ws : List LeafWay) (rests : List PatternNumber)
    → AreRestsBy leaves taken ws rests → AreInside ns ws → All (λ (m : PatternNumber). m.0 < length ns) rests
rests_inside ns _ _ _ _ (no_ways {leaves} {taken} {ws} {rests} none e) inside =
    subst (All (λ (m : PatternNumber). m.0 < length ns)) (sym e) (λ i d h. absurd (omega (arith, h)))
rests_inside ns _ _ _ _ (one_taken {leaves} {taken} {ws} {rests} {vs} {more} w by told cut e) inside =
    let all = subst (AreInside ns) cut inside in
    subst (All (λ (m : PatternNumber). m.0 < length ns)) (sym e) (All-append (λ (m : PatternNumber). m.0 < length ns) rests (w.rest ∷ [])
    (rests_inside ns leaves taken ws rests by (front_inside ns ws (w ∷ []) all))
    (only w.rest (back_inside ns ws (w ∷ []) all 0 w (omega arith)).1))
  where
    only : (m : PatternNumber) → m.0 < length ns → All (λ (m : PatternNumber). m.0 < length ns) (m ∷ [])
    only m h (zero) d l = h
    only m h (suc k) d l = absurd (omega (arith, l))
rests_inside ns _ _ _ _ (one_left_out {leaves} {taken} {ws} {rests} {vs} w by told cut) inside =
    rests_inside ns leaves taken ws rests by (front_inside ns ws (w ∷ []) (subst (AreInside ns) cut inside))

pub rests_told : (t : Table) (ns : List Node) (first : First) (leaves : List PatternNumber) (taken : List Bool) (ws : List LeafWay)
    (rests : List PatternNumber) → AreTests t ns first leaves taken → AreRestsBy leaves taken ws rests → AreInside ns ws → AreRests t ns ns first ws rests
rests_told t ns first _ _ _ _ tests (no_ways {leaves} {taken} {ws} {rests} none e) inside =
    subst (λ (vs : List LeafWay). AreRests t ns ns first vs rests) (sym none) (no_rests t ns first rests e)
rests_told t ns first _ _ _ _ tests (one_taken {leaves} {taken} {ws} {rests} {vs} {more} w by told cut e) inside =
    let all = subst (AreInside ns) cut inside in
    subst (λ (vs : List LeafWay). AreRests t ns ns first vs more) (sym cut)
    (leaf_leaves t ns ns ns first ws w rests (Longer-refl ns) (Longer-refl ns) (back_inside ns ws (w ∷ []) all 0 w (omega arith))
    (rests_told t ns first leaves taken ws rests tests by (front_inside ns ws (w ∷ []) all)) true more refl e (tests w.leaf true told))
rests_told t ns first _ _ _ _ tests (one_left_out {leaves} {taken} {ws} {rests} {vs} w by told cut) inside =
    let all = subst (AreInside ns) cut inside in
    subst (λ (vs : List LeafWay). AreRests t ns ns first vs rests) (sym cut)
    (leaf_leaves_none t ns ns ns first ws w rests (Longer-refl ns) (Longer-refl ns) (back_inside ns ws (w ∷ []) all 0 w (omega arith))
    (rests_told t ns first leaves taken ws rests tests by (front_inside ns ws (w ∷ []) all)) false refl (tests w.leaf false told))

-- what is left where the tests have this outcome
pub outcome_left : (t : Table) (old ns : List Node) (first : First) (leaves : List PatternNumber) (taken : List Bool) (number rest : PatternNumber)
    (ws : List LeafWay) → AreTests t ns first leaves taken → AreWaysFor t ns first (tree_of t old number.0) ws
    → IsOutcome t ns ws leaves taken rest → IsLeft t old ns first number rest
outcome_left t old ns first leaves taken number rest ws tests all h =
    left_behind t old ns ns ns first number rest ws h.rests all (rests_told t ns first leaves taken ws h.rests tests h.are all.inside)
    h.choice.inside h.choice.alternatives (λ xs ks. h.choice.takes (reading_of t) xs ks)

-- the rests of the ways whose leaves took what came first, and a choice of them
pub new_outcome : (t : Table) (old new : List Node) → Longer old new → (ws : List LeafWay) (leaves : List PatternNumber) (taken : List Bool)
    (rests : List PatternNumber) (n : PatternNumber) → AreRestsBy leaves taken ws rests → AreInside old ws → IsChoiceOf t old new rests n
    → IsOutcome t new ws leaves taken n
new_outcome t old new longer ws leaves taken rests n by inside choice =
    let there = rests_inside old leaves taken ws rests by inside in record {
      rests = rests;
      are = by;
      inside = all_inside t old new longer rests there;
      choice = choice_longer t old new new new longer (Longer-refl new) rests n there choice;
    }

-- a plan with one more outcome
pub outcome_kept : (t : Table) (old new : List Node) → Longer old new → (before after : Plan) (taken : List Bool) (rest : PatternNumber)
    → after.ways ≡ before.ways → after.leaves ≡ before.leaves → after.values ≡ before.values
    → ((o : Outcome) → Contains after.outcomes.items o → Contains before.outcomes.items o ⊎ ((o.taken.items ≡ taken) × (o.rest ≡ rest)))
    → IsOutcome t new before.ways.items before.leaves.items taken rest → IsPlan t old before → IsPlan t new after
outcome_kept t old new longer before after taken rest ways leaves values within own right =
    let then = plan_longer t old new longer before right in
    let ws = ap (λ (v : SmallVec LeafWay). v.items) ways in
    let ls = ap (λ (v : SmallVec PatternNumber). v.items) leaves in record {
      leaves = subst (All (λ (m : PatternNumber). m.0 < length new)) (sym ls) then.leaves;
      values = subst (λ o. IfSome o (λ index. IsIndex t new after.ways.items index.value)) (sym values)
          (subst (λ ws. IfSome before.values (λ index. IsIndex t new ws index.value)) (sym ws) then.values);
      outcomes = λ o c. subst (λ ws. IsOutcome t new ws after.leaves.items o.taken.items o.rest) (sym ws)
          (subst (λ ls. IsOutcome t new before.ways.items ls o.taken.items o.rest) (sym ls) (⊎_elim
          (λ was. then.outcomes o was)
          (λ is. subst (λ bs. IsOutcome t new before.ways.items before.leaves.items bs o.rest) (sym is.0)
          (subst (IsOutcome t new before.ways.items before.leaves.items taken) (sym is.1) own)) (within o c)));
    }

-- ---- tests

slice_get_front : {A : Type 0} (xs : List A) (y x : A) (i : ℕ) → slice_get (xs ++ y ∷ []) i ≡ Some x
    → (slice_get xs i ≡ Some x) ⊎ ((i ≡ length xs) × (y ≡ x))
slice_get_front [] y x (zero) e = inr (refl, same_Some _ _ e)
slice_get_front [] y x (suc i) e = absurd (cc)
slice_get_front (z ∷ xs) y x (zero) e = inl e
slice_get_front (z ∷ xs) y x (suc i) e = ⊎_elim (λ a. inl a) (λ b. inr (ap suc b.0, b.1)) (slice_get_front xs y x i e)

module _ (t : Table) (old new : List Node) (first : First) (leaves : List PatternNumber) (longer : Longer old new)
    (inside : All (λ (m : PatternNumber). m.0 < length old) leaves)
  where
    there : (leaf : PatternNumber) (i : ℕ) → slice_get leaves i ≡ Some leaf → leaf.0 < length old
    there leaf i at =
        let P : PatternNumber → Type 0 = λ m. m.0 < length old in
        subst P (get_or_from_slice_get leaves i leaf leaf at) (inside i leaf (slice_get_within leaves i leaf at))

    -- the tests tell the same of a table that has grown
    pub tests_later : (taken : List Bool) → AreTests t old first leaves taken → AreTests t new first leaves taken
    tests_later taken tests = λ leaf b told.
        subst (λ l. TellsTaken (reading_of t) first l b) (sym (tree_stays t old new leaf.0 longer (there leaf told.0 told.1))) (tests leaf b told)

    -- one more leaf is tested
    pub one_more_test : (taken : List Bool) (leaf : PatternNumber) (i : ℕ) (b : Bool) → length taken ≡ i → slice_get leaves i ≡ Some leaf
        → AreTests t old first leaves taken → TellsTaken (reading_of t) first (tree_of t new leaf.0) b → AreTests t old first leaves (taken ++ b ∷ [])
    one_more_test taken leaf i b count at tests tells = λ other c told. ⊎_elim
        (λ was. tests other c (told.0, told.1, was))
        (λ is.
        let same : leaf ≡ other = same_Some _ _ (sym at ∙ subst (λ k. slice_get leaves k ≡ Some other) (is.0 ∙ count) told.1) in
        let P : PatternNumber → Type 0 = λ m. TellsTaken (reading_of t) first (tree_of t old m.0) c in
        subst P same (subst (λ c. TellsTaken (reading_of t) first (tree_of t old leaf.0) c) is.1
        (subst (λ l. TellsTaken (reading_of t) first l b) (tree_stays t old new leaf.0 longer (there leaf i at)) tells)))
        (slice_get_front taken b c told.0 told.2)

-- before any test
pub no_tests : (t : Table) (ns : List Node) (first : First) (leaves : List PatternNumber) (taken : List Bool) → taken ≡ [] → AreTests t ns first leaves taken
no_tests t ns first leaves taken e = λ leaf b told. absurd (none-some _ (sym (ap (λ bs. slice_get bs told.0) e) ∙ told.2))

-- ---- what a pattern is asked

module _ (t : Table) (keys : Keys) (ns : List Node) (number : PatternNumber) where
  -- the plan is made of the ways by which the pattern takes what comes first
  pub planned_ways : (first : First) (a : Asked) (plan : Plan) → IsAskedBy keys first number a → IsPlanFor t keys ns a plan
      → AreWaysFor t ns first (tree_of t ns number.0) plan.ways.items
  planned_ways (firsts.Text place s) a plan is own =
      let text = subst (λ a. IsPlanFor t keys ns a plan) is own in
      ways_for_text t ns place s (tree_of t ns number.0) plan.ways.items (text.ways kinds.Text tt)
  planned_ways (firsts.Attribute attr) a plan is own =
      let q : Bor Name = record { ref_ptr = (0, 0); now = attr.now.name } in
      let of_key = subst (λ a. IsPlanFor t keys ns a plan) is.1 own in
      ways_for_attribute t ns attr q (tree_of t ns number.0) plan.ways.items refl (of_key.ways (kinds.Attribute q) is.2)

  pub number_asked : (first : First) (a : Asked) → IsAskedBy keys first number a → number_of a ≡ number.0
  number_asked (firsts.Text place s) a is = ap number_of is
  number_asked (firsts.Attribute attr) a is = ap number_of is.1

-- the ways to take a string are those that are asked for
pub text_ways_asked : (t : Table) (keys : Keys) (ns : List Node) (number : PatternNumber) (p : Simple ℕ) (ws : List LeafWay) (a : Asked) → a ≡ asked.Text number
    → AreWaysOf t ns kinds.Text p ws → (kind : Kind) → IsKindAsked keys a kind → AreWaysOf t ns kind p ws
text_ways_asked t keys ns number p ws a is h (kinds.Element q) k = absurd (subst (λ a. IsKindAsked keys a (kinds.Element q)) is k)
text_ways_asked t keys ns number p ws a is h (kinds.Attribute q) k = absurd (subst (λ a. IsKindAsked keys a (kinds.Attribute q)) is k)
text_ways_asked t keys ns number p ws a is h kinds.Text k = h

-- the ways to take an attribute are those to take any attribute whose name has the same key
module _ (t : Table) (keys : Keys) (serve : KeysServe t keys) (old ns : List Node) (longer : Longer old ns) (number : PatternNumber)
    (there : number.0 < length old) (key : NameKey) (q : Bor Name) (attr : Attr) (ws : List LeafWay) (same : q.now ≡ attr.name)
    (is_key : key_of keys (name_of attr.name) ≡ key.0) (h : AreWaysOf t ns (kinds.Attribute q) (tree_of t old number.0) ws)
  where
    pub attribute_ways_asked : (a : Asked) → a ≡ asked.Attribute number key → (kind : Kind) → IsKindAsked keys a kind
        → AreWaysOf t ns kind (tree_of t old number.0) ws
    attribute_ways_asked a is (kinds.Element r) k = absurd (subst (λ a. IsKindAsked keys a (kinds.Element r)) is k)
    attribute_ways_asked a is kinds.Text k = absurd (subst (λ a. IsKindAsked keys a kinds.Text) is k)
    attribute_ways_asked a is (kinds.Attribute r) k =
        let own : key_of keys (name_of r.now) ≡ key.0 = subst (λ a. IsKindAsked keys a (kinds.Attribute r)) is k in
        let of_q : key_of keys (name_of q.now) ≡ key.0 = ap (λ n. key_of keys (name_of n)) same ∙ is_key in
        let stays = tree_stays t old ns number.0 longer there in
        subst (λ p. AreWaysOf t ns (kinds.Attribute r) p ws) stays
        (ways_alike t keys serve (name_of q.now) (name_of r.now) (of_q ∙ sym own) ns number.0 ws q r refl refl
        (subst (λ p. AreWaysOf t ns (kinds.Attribute q) p ws) (sym stays) h))

-- a question is asked in one way
pub one_question : (keys : Keys) (first : First) (number : PatternNumber) (a b : Asked) → IsAskedBy keys first number a → IsAskedBy keys first number b → b ≡ a
one_question keys (firsts.Text place s) number a b p q = q ∙ sym p
one_question keys (firsts.Attribute attr) number a b p q =
    let same : q.0 ≡ p.0 = ap (λ k. record { 0 = k }) (sym q.2 ∙ p.2) in
    q.1 ∙ ap (λ k. asked.Attribute number k) same ∙ sym p.1

pub some_question : (keys : Keys) (first : First) (number : PatternNumber) → (a : Asked) × IsAskedBy keys first number a
some_question keys (firsts.Text place s) number = (asked.Text number, refl)
some_question keys (firsts.Attribute attr) number =
    let k : NameKey = record { 0 = key_of keys (name_of attr.now.name) } in (asked.Attribute number k, (k, refl, refl))

-- ---- a table that has grown

pub ways_for_later : (t : Table) (old new : List Node) (first : First) (p : Simple ℕ) (ws : List LeafWay) → Longer old new → AreWaysFor t old first p ws
    → AreWaysFor t new first p ws
ways_for_later t old new first p ws longer h =
    let e = sym (ways_stay t old new ws longer h.inside) in record {
      inside = inside_longer old new ws longer h.inside;
      law = λ o. subst (λ vs. AreThoseBehind (reading_of t) first p (Offers (reading_of t) vs (attributes_of first) (items_of first))) e (h.law o);
      kept = λ o. subst (AreFor first) e (h.kept o);
    }

pub left_later : (t : Table) (old new : List Node) (first : First) (number rest : PatternNumber) → Longer old new → number.0 < length old
    → IsLeft t old new first number rest → IsLeft t new new first number rest
left_later t old new first number rest longer inside h =
    let is = tree_stays t old new number.0 longer inside in record {
      inside = h.inside;
      law = subst (λ p. Obeys (place_of first) p → AreThoseBehind (reading_of t) first p (Takes (reading_of t) (tree_of t new rest.0))) (sym is) h.law;
      kept = subst (λ p. Obeys (place_of first) p → Obeys (place_of first) (tree_of t new rest.0)) (sym is) h.kept;
    }

pub left_earlier : (t : Table) (old ns new : List Node) (first : First) (number rest : PatternNumber) → Longer old ns → number.0 < length old
    → IsLeft t ns new first number rest → IsLeft t old new first number rest
left_earlier t old ns new first number rest longer inside h =
    let is = tree_stays t old ns number.0 longer inside in record {
      inside = h.inside;
      law = subst (λ p. Obeys (place_of first) p → AreThoseBehind (reading_of t) first p (Takes (reading_of t) (tree_of t new rest.0))) is h.law;
      kept = subst (λ p. Obeys (place_of first) p → Obeys (place_of first) (tree_of t new rest.0)) is h.kept;
    }

-- ---- plans

-- a plan without outcomes
module _ (t : Table) (keys : Keys) (old ns : List Node) (longer : Longer old ns) (first : First) (number : PatternNumber) (there : number.0 < length old)
    (ws : List LeafWay)
    (all : (a : Asked) → IsAskedBy keys first number a → (kind : Kind) → IsKindAsked keys a kind → AreWaysOf t ns kind (tree_of t old number.0) ws)
  where
    pub asked_inside : AreInside ns ws
    asked_inside = by first all where
      by : (first : First)
          → ((a : Asked) → IsAskedBy keys first number a → (kind : Kind) → IsKindAsked keys a kind → AreWaysOf t ns kind (tree_of t old number.0) ws)
          → AreInside ns ws
      by (firsts.Text place s) all = (all (asked.Text number) refl kinds.Text tt).inside
      by (firsts.Attribute attr) all =
          let k : NameKey = record { 0 = key_of keys (name_of attr.now.name) } in
          (all (asked.Attribute number k) (k, refl, refl) (kinds.Attribute (record { ref_ptr = (0, 0); now = attr.now.name })) refl).inside

    asked_ways : AreWaysFor t ns first (tree_of t ns number.0) ws
    asked_ways = subst (λ p. AreWaysFor t ns first p ws) (sym (tree_stays t old ns number.0 longer there)) (by first all) where
      p : Simple ℕ
      p = tree_of t old number.0

      by : (first : First)
          → ((a : Asked) → IsAskedBy keys first number a → (kind : Kind) → IsKindAsked keys a kind → AreWaysOf t ns kind (tree_of t old number.0) ws)
          → AreWaysFor t ns first p ws
      by (firsts.Text place s) all = ways_for_text t ns place s p ws (all (asked.Text number) refl kinds.Text tt)
      by (firsts.Attribute attr) all =
          let k : NameKey = record { 0 = key_of keys (name_of attr.now.name) } in
          let q : Bor Name = record { ref_ptr = (0, 0); now = attr.now.name } in
          ways_for_attribute t ns attr q p ws refl (all (asked.Attribute number k) (k, refl, refl) (kinds.Attribute q) refl)

    pub new_settled : (r : Rest) → AreLeft t ns first ws r → IsSettled t ns first (tree_of t ns number.0) r
    new_settled r left = settled_by t ns first (tree_of t ns number.0) ws r asked_ways left

    pub new_plan_right : (plan : Plan) → plan.ways.items ≡ ws → IsPlan t ns plan → (a : Asked) → IsAskedBy keys first number a
        → IsPlanFor t keys ns a plan
    new_plan_right plan are right a asks =
        let is = number_asked t keys ns number first a asks in
        let long = Longer-length old ns longer in
        let stays : tree_of t ns (number_of a) ≡ tree_of t old number.0 = ap (tree_of t ns) is ∙ tree_stays t old ns number.0 longer there in
        record {
          inside = omega (arith, is, there, long);
          ways = λ kind k. subst (λ p. AreWaysOf t ns kind p plan.ways.items) (sym stays)
              (subst (AreWaysOf t ns kind (tree_of t old number.0)) (sym are) (all a asks kind k));
          right = right;
        }

-- a plan after its leaves were tested
pub plan_again : (t : Table) (keys : Keys) (n1 n2 : List Node) → Longer n1 n2 → (a : Asked) (before after : Plan) → IsPlanFor t keys n1 a before
    → after.ways ≡ before.ways → IsPlan t n2 after → IsPlanFor t keys n2 a after
plan_again t keys n1 n2 longer a before after own ways right =
    let then = plan_for_longer t n1 n2 longer keys a before own in
    record {
      inside = then.inside;
      ways = λ kind k. subst (AreWaysOf t n2 kind (tree_of t n2 (number_of a))) (sym (ap (λ (v : SmallVec LeafWay). v.items) ways)) (then.ways kind k);
      right = right;
    }
