-- The parts of a grammar, one body at a time.
use Rattle.std.proofs.Common.{◌≡◌, ℕ, ◌+◌, ◌<◌, ◌≤◌, List, [], ◌∷◌, ◌++◌, length, map, take, get_or, slice_get, Some, None, false, All, refl, ap, ap₂, sym, ◌∙◌, arith, length-append, subst}
use Rattle.std.proofs.lemmas.List.{take_more, map_push}
use Rattle.std.proofs.lemmas.List.Elements.{All-map}
use Rattle.std.proofs.lemmas.List.Sums.{fold_push}
use Rattle.std.proofs.lemmas.Option.{slice_get_within, get_or_from_slice_get}
use Rattle.rng_model.specs.simple.Table.{Table, grammar_of, tree_at}
use Rattle.rng_model.specs.simple.TableRules.{IsTable}
use Rattle.rng_model.specs.simple.Tree.{Simple}
use Rattle.rng_model.specs.names.NameViews.{class_of}
use Rattle.rng_model.specs.declared.simple.PatternId.{PatternId}
use Rattle.rng_rules.specs.plain.Broken.{body_broken, either_broken, start_broken, parts_broken, grammar_broken}
use Rattle.rng_rules.specs.plain.Facts.{HasFacts, facts_of, nothing_held}
use Rattle.rng_rules.specs.declared.broken.Broken.{Broken}
use Rattle.rng_rules.specs.declared.facts.Facts.{Facts}
use Rattle.rng_rules.proofs.FactsOver.{fact_at}

module _ {C B : Type 0} where
  abbrev bodies_in : List (C × B) → List B
  bodies_in es = map (λ e. e.1) es

  -- the bodies of the first elements, and of one more
  pub record AreFirst (es : List (C × B)) (bodies : List B) : Type 0 where
    pub within : length bodies ≤ length es
    pub so_far : bodies ≡ bodies_in (take (length bodies) es)

  pub bodies_more : (es : List (C × B)) (bodies more : List B) (e : C × B) → slice_get es (length bodies) ≡ Some e → more ≡ bodies ++ e.1 ∷ []
      → bodies ≡ bodies_in (take (length bodies) es) → AreFirst es more
  bodies_more es bodies more e found longer so_far =
      let n = length bodies in
      let inside : n < length es = slice_get_within es n e found in
      let long : length more ≡ n + 1 = rw longer (length-append bodies (e.1 ∷ [])) in
      let next : take (n + 1) es ≡ take n es ++ e ∷ [] = take_more es n e inside ∙ ap (λ x. take n es ++ x ∷ []) (get_or_from_slice_get es n e e found) in
      let same : bodies_in (take (n + 1) es) ≡ bodies_in (take n es) ++ e.1 ∷ [] = ap bodies_in next ∙ map_push (λ e. e.1) (take n es) e in
      record {
        within = omega (arith, long, inside);
        so_far = longer ∙ ap (λ xs. xs ++ e.1 ∷ []) so_far ∙ sym same ∙ ap (λ k. bodies_in (take k es)) (sym long);
      }

-- what an index gives past the end
abbrev pub no_facts : Facts
no_facts = record { held = nothing_held; not_allowed = false; content = None; unrepeated_wildcard = false; text_occurs = false; breaks_text = false }

-- the clauses of the first bodies, and of one more
pub parts_more : (of : PatternId → Simple ℕ) (facts : List Facts) (start : Facts) (bodies : List PatternId) (i : ℕ) (e : PatternId) (so_far more : Broken)
    → HasFacts of facts → i < length bodies → (get_or bodies i e).0 < length facts → so_far ≡ parts_broken start (map (λ b. facts_of (of b)) (take i bodies))
    → more ≡ either_broken so_far (body_broken (get_or facts (get_or bodies i e).0 no_facts)) → more ≡ parts_broken start (map (λ b. facts_of (of b)) (take (i + 1) bodies))
parts_more of facts start bodies i e so_far more has inside body_inside before after =
    let F : PatternId → Facts = λ b. facts_of (of b) in
    let step : Broken → Facts → Broken = λ b f. either_broken b (body_broken f) in
    let body = get_or bodies i e in
    let mapped : map F (take (i + 1) bodies) ≡ map F (take i bodies) ++ F body ∷ [] = ap (map F) (take_more bodies i e inside) ∙ map_push F (take i bodies) body in
    let folded : parts_broken start (map F (take (i + 1) bodies)) ≡ step (parts_broken start (map F (take i bodies))) (F body) =
    ap (parts_broken start) mapped ∙ fold_push step (start_broken start) (map F (take i bodies)) (F body) in
    after ∙ ap₂ step before (fact_at of facts body no_facts has body_inside) ∙ sym folded

map_twice : {A B C : Type 0} (f : A → B) (g : B → C) (xs : List A) → map g (map f xs) ≡ map (λ x. g (f x)) xs
map_twice f g [] = refl
map_twice f g (x ∷ xs) = ap (λ ys. g (f x) ∷ ys) (map_twice f g xs)

-- of all bodies
pub all_parts : (t : Table) (bodies : List PatternId) → bodies ≡ map (λ e. e.1) t.elements
    → parts_broken (facts_of (tree_at t.patterns t.start)) (map (λ b. facts_of (tree_at t.patterns b)) bodies) ≡ grammar_broken (grammar_of t)
all_parts t bodies are =
    let F : PatternId → Facts = λ b. facts_of (tree_at t.patterns b) in
    ap (parts_broken (F t.start))
    (ap (map F) are ∙ map_twice (λ e. e.1) F t.elements ∙ sym (map_twice (λ e. (class_of e.0, tree_at t.patterns e.1)) (λ e. facts_of e.1) t.elements))

-- each body is in the table
pub bodies_within : (t : Table) (bodies : List PatternId) (n : ℕ) → IsTable t → bodies ≡ map (λ e. e.1) t.elements → n ≡ length t.patterns → All (λ b. b.0 < n) bodies
bodies_within t bodies n valid are long =
    subst (All (λ b. b.0 < n)) (sym are) (All-map (λ b. b.0 < n) (λ e. e.1) t.elements (subst (λ k. All (λ e. e.1.0 < k) t.elements) (sym long) valid.bodies))
