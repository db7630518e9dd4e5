-- Known rests of patterns stay right as a table grows.
use Rattle.std.proofs.Common.{◌≡◌, ◌⊎◌, ◌<◌, List, Some, length, ⊎_elim, sym, subst, arith}
use Rattle.std.specs.HashMap.{HashMap, IsEmpty}
use Rattle.std.specs.Map.{lookup}
use Rattle.std.proofs.lemmas.Option.{none-some}
use Rattle.rng_model.specs.simple.Table.{Table}
use Rattle.rng_deriv_laws.specs.plain.Derivatives.{closed}
use Rattle.rng_deriv_laws.specs.plain.Restricted.{HasTexts, MayBeListed}
use Rattle.rng_deriv_laws.specs.plain.Taking.{Same}
use Rattle.rng_deriv_table.specs.views.Node.{Node}
use Rattle.rng_deriv_table.specs.views.PatternTable.{Longer}
use Rattle.rng_deriv_table.specs.views.Trees.{tree_of}
use Rattle.rng_deriv_table.specs.declared.pattern.PatternNumber.{PatternNumber}
use Rattle.rng_deriv_table.specs.contracts.pattern.PatternNumberPartialEq.TheImpl as same
use Rattle.rng_deriv_table.proofs.Trees.{Longer-length, tree_stays}
use Rattle.rng_deriv_ways.specs.plain.Closing.{IsBareOfAttributes, IsClosed}
use Rattle.rng_deriv_ways.specs.views.KnownRests.{AreRestsOf, HasRest, IsRestOf}

module _ (old new : List Node) (longer : Longer old new) where
  -- what is left of a pattern of the shorter table
  pub rest_made : (n rest : PatternNumber) → n.0 < length old → IsClosed old new n rest → IsRestOf new n rest
  rest_made n rest inside h =
      let long = Longer-length old new longer in
      record {
        inside = omega (arith, inside, long);
        closed = record {
          inside = h.inside;
          same = λ t g. subst (λ p. Same g (tree_of t new rest.0) (closed p)) (sym (tree_stays t old new n.0 longer inside)) (h.same t g);
          bare = λ t. subst (λ p. HasTexts MayBeListed p → IsBareOfAttributes (tree_of t new rest.0)) (sym (tree_stays t old new n.0 longer inside))
              (h.bare t);
        };
      }

  rest_stays : (n rest : PatternNumber) → IsRestOf old n rest → IsRestOf new n rest
  rest_stays n rest h =
      let long = Longer-length old new longer in
      let there = h.closed.inside in
      rest_made n rest h.inside (record {
        inside = omega (arith, there, long);
        same = λ t g. subst (λ p. Same g p (closed (tree_of t old n.0))) (sym (tree_stays t old new rest.0 longer there)) (h.closed.same t g);
        bare = λ t o. subst IsBareOfAttributes (sym (tree_stays t old new rest.0 longer there)) (h.closed.bare t o);
      })

  pub rests_longer : {Z : Type 0} (known : HashMap PatternNumber PatternNumber Z) → AreRestsOf old known → AreRestsOf new known
  rests_longer known all n rest h = rest_stays n rest (all n rest h)

  -- what is left of one more pattern becomes known
  pub rests_more : {Z : Type 0} (known more : HashMap PatternNumber PatternNumber Z) (n rest : PatternNumber) → n.0 < length old
      → AreRestsOf new known → IsClosed old new n rest
      → ((m r : PatternNumber) → HasRest more m r → HasRest known m r ⊎ ((m ≡ n) × (r ≡ rest))) → AreRestsOf new more
  rests_more known more n rest inside all made within = λ m r h. ⊎_elim (λ a. all m r a)
      (λ b. subst (λ m. IsRestOf new m r) (sym b.0) (subst (IsRestOf new n) (sym b.1) (rest_made n rest inside made))) (within m r h)

-- what is left of a pattern of a shorter table
pub closed_before : (old mid new : List Node) (n rest : PatternNumber) → Longer old mid → n.0 < length old → IsClosed mid new n rest → IsClosed old new n rest
closed_before old mid new n rest longer inside h =
    let same : (t : Table) → tree_of t mid n.0 ≡ tree_of t old n.0 = λ t. tree_stays t old mid n.0 longer inside in
    record {
      inside = h.inside;
      same = λ t g. subst (λ p. Same g (tree_of t new rest.0) (closed p)) (same t) (h.same t g);
      bare = λ t. subst (λ p. HasTexts MayBeListed p → IsBareOfAttributes (tree_of t new rest.0)) (same t) (h.bare t);
    }

pub no_rests : {Z : Type 0} (ns : List Node) (known : HashMap PatternNumber PatternNumber Z) → IsEmpty known → AreRestsOf ns known
no_rests ns known empty n rest h = absurd (none-some _ (subst (λ es. lookup (same.ghosts.eq n) es ≡ Some rest) empty h))
