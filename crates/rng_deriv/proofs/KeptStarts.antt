-- What serves a table stays so when patterns are added, and starts serve each name of a key.
use Rattle.std.proofs.Common.{◌≡◌, ℕ, List, map, false, sym, ap, subst}
use Rattle.rng_model.specs.names.Names.{Name}
use Rattle.rng_model.specs.simple.Table.{Table}
use Rattle.rng_names.specs.plain.Keys.{Keys, KeysServe, key_of, name_at}
use Rattle.rng_deriv_table.specs.views.Node.{Node}
use Rattle.rng_deriv_table.specs.views.PatternTable as nodes
use Rattle.rng_deriv_table.specs.views.Trees.{trees}
use Rattle.rng_deriv_table.specs.declared.pattern.PatternNumber.{PatternNumber}
use Rattle.rng_model.specs.matching.GrammarMatching.{reading_of}
use Rattle.rng_deriv_ways.specs.views.KnownWays.{AreAllKnown}
use Rattle.rng_deriv_ways.specs.declared.known.Known.{Known}
use Rattle.rng_deriv_events.specs.views.Numbers.{AddsStarts, tree_of, way_of}
use Rattle.rng_deriv_events.specs.declared.derivatives.StartWay.{StartWay}
use Rattle.rng_deriv.proofs.NamesOfOneKey.{no_less, no_more, starts_alike}
use Rattle.rng_deriv.specs.views.Serving.{IsServedBy}
use Rattle.rng_deriv.proofs.ServedTables.{served_longer}

pub serves_longer : (t : Table) (old new : List Node) (keys : Keys) → nodes.Longer old new → (numbers : List PatternNumber) (known : Known)
    → IsServedBy t keys false old numbers known → (more : Known) → AreAllKnown t keys new more → IsServedBy t keys false new numbers more
serves_longer t old new keys longer numbers known served more all = (served_longer t old new numbers longer served.0, served.1, all)

-- the starts for the name that represents a key are starts for each name of the key
module _ (t : Table) (keys : Keys) (serve : KeysServe t keys) (old new : List Node) (seen : Table × List Node) (view : (t, old) ≡ seen) (q : Name) (k : ℕ)
    (named : k ≡ key_of keys q) (p : PatternNumber) (ws : List StartWay) where
  pub for_each_name : AddsStarts (reading_of seen.0) (name_at keys k) (trees seen.0 seen.1) (trees t new) (tree_of (trees seen.0 seen.1) p) ws
      → AddsStarts (reading_of seen.0) q (trees seen.0 seen.1) (trees t new) (tree_of (trees seen.0 seen.1) p) ws
  for_each_name =
      let same : name_at keys (key_of keys q) ≡ name_at keys k = ap (name_at keys) (sym named) in
      let P : Table × List Node → Type 0 = λ s. AddsStarts (reading_of s.0) (name_at keys k) (trees s.0 s.1) (trees t new) (tree_of (trees s.0 s.1) p) ws
      → AddsStarts (reading_of s.0) q (trees s.0 s.1) (trees t new) (tree_of (trees s.0 s.1) p) ws in
      subst P view (λ adds. record {
        longer = adds.longer;
        inside = adds.inside;
        starts = starts_alike (reading_of t) (name_at keys k) q (no_less t keys serve (name_at keys k) q same) (no_more t keys serve (name_at keys k) q same)
            (tree_of (trees t old) p) (map (way_of (trees t new)) ws) adds.starts;
      })
