-- Ways that can be left out because of others, way by way.
use Rattle.std.proofs.Common.{inl, inr, ⊎_elim, List, [], ◌∷◌, ◌++◌, refl, sym, ap, subst}
use Rattle.std.specs.List.{Contains}
use Rattle.std.proofs.lemmas.List.Elements.{Contains-append_left, Contains-push, Contains-push_cases}
use Rattle.rng_model.proofs.Members.{not_in_none}
use Rattle.rng_model.specs.simple.Table.{Table}
use Rattle.rng_model.specs.matching.GrammarMatching.{Reading}
use Rattle.rng_deriv_laws.specs.plain.Taking.{Takes}
use Rattle.rng_deriv_table.specs.views.Node.{Node}
use Rattle.rng_deriv_table.specs.views.Trees.{tree_of}
use Rattle.rng_deriv_table.specs.declared.pattern.PatternNumber.{PatternNumber}
use Rattle.rng_deriv_ways.specs.plain.FewerWays.{AreRepeated, AreUncovered, HasOptionalRest, IsCovered, IsOptional}
use Rattle.rng_deriv_ways.specs.declared.way.LeafWay.{LeafWay}
use Rattle.rng_deriv_ways.proofs.JoinedWays.{way_to}

module _ (ns : List Node) where
  -- ---- one more way

  pub optional_more : (ways : List LeafWay) (way : LeafWay) (leaf : PatternNumber) → HasOptionalRest ns ways leaf → HasOptionalRest ns (ways ++ way ∷ []) leaf
  optional_more ways way leaf h =
      record { way = h.way; contained = Contains-append_left ways (way ∷ []) h.way h.contained; same = h.same; optional = h.optional }

  own_optional : (ways : List LeafWay) (way : LeafWay) → IsOptional ns way.rest → HasOptionalRest ns (ways ++ way ∷ []) way.leaf
  own_optional ways way o = record { way = way; contained = Contains-push ways way; same = refl; optional = o }

  -- ---- copies

  pub none_repeated : (more : PatternNumber) → AreRepeated ns [] more []
  none_repeated more = record { within = λ w c. absurd (not_in_none c); each = λ w c. absurd (not_in_none c) }

  pub one_repeated : (copies : List LeafWay) (copy : LeafWay) (more : PatternNumber) (all : List LeafWay) → IsOptional ns copy.rest
      → AreRepeated ns copies more all → AreRepeated ns (copies ++ copy ∷ []) more (all ++ way_to copy.leaf more ∷ [])
  one_repeated copies copy more all o h = record {
    within = λ w c. ⊎_elim (λ k. let i = h.within w k in (i.0, optional_more copies copy w.leaf i.1))
        (λ e. (sym (ap (λ (w : LeafWay). w.rest) e), subst (λ (w : LeafWay). HasOptionalRest ns (copies ++ copy ∷ []) w.leaf) e (own_optional copies copy o)))
        (Contains-push_cases all (way_to copy.leaf more) w c);
    each = λ w c. ⊎_elim
        (λ k. ⊎_elim (λ i. inl (Contains-append_left all (way_to copy.leaf more ∷ []) (way_to w.leaf more) i)) (λ i. inr i) (h.each w k))
        (λ e. inl (subst (λ (w : LeafWay). Contains (all ++ way_to copy.leaf more ∷ []) (way_to w.leaf more)) e (Contains-push all (way_to copy.leaf more))))
        (Contains-push_cases copies copy w c);
  }

  pub one_dropped : (copies : List LeafWay) (copy : LeafWay) (more : PatternNumber) (all : List LeafWay)
      → ((t : Table) (g : Reading) → Takes g (tree_of t ns copy.rest.0) [] [] → ⊥)
      → AreRepeated ns copies more all → AreRepeated ns (copies ++ copy ∷ []) more all
  one_dropped copies copy more all never h = record {
    within = λ w c. let i = h.within w c in (i.0, optional_more copies copy w.leaf i.1);
    each = λ w c. ⊎_elim (λ k. h.each w k)
        (λ e. inr (subst (λ (w : LeafWay). (t : Table) (g : Reading) → Takes g (tree_of t ns w.rest.0) [] [] → ⊥) e never))
        (Contains-push_cases copies copy w c);
  }

  -- ---- a second side

  pub all_left : (second : PatternNumber) (firsts seconds : List LeafWay) → AreUncovered ns second firsts seconds seconds
  all_left second firsts seconds = record { within = λ w c. c; each = λ w c. inl c }

  pub none_left : (second : PatternNumber) (firsts : List LeafWay) → AreUncovered ns second firsts [] []
  none_left second firsts = all_left second firsts []

  pub one_left : (second : PatternNumber) (firsts seconds : List LeafWay) (way : LeafWay) (left : List LeafWay) → AreUncovered ns second firsts seconds left
      → AreUncovered ns second firsts (seconds ++ way ∷ []) (left ++ way ∷ [])
  one_left second firsts seconds way left h = record {
    within = λ w c. ⊎_elim (λ k. Contains-append_left seconds (way ∷ []) w (h.within w k)) (λ e. subst (Contains (seconds ++ way ∷ [])) e (Contains-push seconds way))
        (Contains-push_cases left way w c);
    each = λ w c. ⊎_elim (λ k. ⊎_elim (λ i. inl (Contains-append_left left (way ∷ []) w i)) (λ i. inr i) (h.each w k))
        (λ e. inl (subst (Contains (left ++ way ∷ [])) e (Contains-push left way))) (Contains-push_cases seconds way w c);
  }

  pub one_covered : (second : PatternNumber) (firsts seconds : List LeafWay) (way : LeafWay) (left : List LeafWay) → IsCovered ns second firsts way
      → AreUncovered ns second firsts seconds left → AreUncovered ns second firsts (seconds ++ way ∷ []) left
  one_covered second firsts seconds way left covered h = record {
    within = λ w c. Contains-append_left seconds (way ∷ []) w (h.within w c);
    each = λ w c. ⊎_elim (λ k. h.each w k) (λ e. inr (subst (IsCovered ns second firsts) e covered)) (Contains-push_cases seconds way w c);
  }
