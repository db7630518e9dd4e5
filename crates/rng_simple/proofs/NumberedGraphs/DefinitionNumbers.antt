-- Definitions are distinguished by place and name.
use Rattle.std.proofs.Common.{◌≡◌, refl, sym, ap₂, arith, ℕ, ◌+◌, Bool, true, false, true≢false, ◌&&◌, not, if◌then◌else◌, cond, List, [], ◌∷◌, ◌++◌, map}
use Rattle.std.proofs.Common.{Option, Some, None, option_map, Bor}
use Rattle.std.proofs.lemmas.List.{map-append}
use Rattle.std.specs.List.{list_any, position_or_len}
use Rattle.std.specs.Option.{option_eq}
use Rattle.std.specs.Str.{bytes_eq}
use Rattle.indexmap.specs.IndexSet.{insert_key}
use Rattle.rng_model.specs.schema.Schema.{same_component_name}
use Rattle.rng_model.proofs.SamePlaces.{compares_numbers}
use Rattle.rng_simple.specs.views.Definitions.{definition_of}
use Rattle.rng_simple.specs.plain.Graph.{same_definition, number_of}
use Rattle.rng_simple.specs.plain.Resolving.{with_definition}
use Rattle.rng_simple.specs.declared.graph.definitions.Definition.{Definition}
use Rattle.rng_simple.specs.contracts.graph.definitions.DefinitionPartialEq.TheImpl as same

same_names : (a b : Option (Bor (List ℕ))) → option_eq (λ x y. bytes_eq x.now y.now) a b ≡ same_component_name (option_map (λ y. y.now) a) (option_map (λ y. y.now) b)
same_names None None = refl
same_names None (Some b) = refl
same_names (Some a) None = refl
same_names (Some a) (Some b) = refl

compares : (d e : Definition) → same.ghosts.eq d e ≡ same_definition (definition_of d) (definition_of e)
compares d e = ap₂ ◌&&◌ (compares_numbers d.place.now e.place.now) (same_names d.name e.name)

any_seen : (d : Definition) (ds : List Definition) → list_any (same.ghosts.eq d) ds ≡ list_any (same_definition (definition_of d)) (map definition_of ds)
any_seen d [] = refl
any_seen d (e ∷ es) = let a = compares d e in let b = any_seen d es in cc

-- the definitions after one is looked up
pub with_seen : (d : Definition) (ds : List Definition)
    → map definition_of (insert_key same.ghosts.eq ds d) ≡ with_definition (map definition_of ds) (definition_of d)
with_seen d ds = after (list_any (same.ghosts.eq d) ds) _ (any_seen d ds)
  where
    after : (b c : Bool) → b ≡ c → map definition_of (if b then ds else ds ++ d ∷ [])
        ≡ (if c then map definition_of ds else map definition_of ds ++ definition_of d ∷ [])
    after true true e = refl
    after true false e = absurd (true≢false e)
    after false true e = absurd (true≢false (sym e))
    after false false e = map-append definition_of ds (d ∷ [])

-- its number
pub number_seen : (d : Definition) (ds : List Definition) → position_or_len (same.ghosts.eq d) ds ≡ number_of (map definition_of ds) (definition_of d)
number_seen d [] = refl
number_seen d (e ∷ es) = one_more (same.ghosts.eq d e) _ (compares d e) _ _ (number_seen d es)
  where
    one_more : (b c : Bool) → b ≡ c → (m n : ℕ) → m ≡ n → cond (not b) (1 + m) 0 ≡ (if c then 0 else n + 1)
    one_more true true e m n f = refl
    one_more true false e m n f = absurd (true≢false e)
    one_more false true e m n f = absurd (true≢false (sym e))
    one_more false false e m n f = omega (arith, f)
