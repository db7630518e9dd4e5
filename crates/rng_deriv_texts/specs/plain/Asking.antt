-- What a pattern is asked, and what the tests of leaves tell.
use Rattle.std.specs.Prelude.{◌≡◌, List, Bool}
use Rattle.rng_names.specs.plain.Keys.{Keys, key_of}
use Rattle.rng_names.specs.declared.name_keys.NameKey.{NameKey}
use Rattle.rng_model.specs.matching.GrammarMatching.{reading_of}
use Rattle.rng_model.specs.names.NameViews.{name_of}
use Rattle.rng_model.specs.simple.Table.{Table}
use Rattle.rng_deriv_table.specs.views.Node.{Node}
use Rattle.rng_deriv_table.specs.views.Trees.{tree_of}
use Rattle.rng_deriv_table.specs.declared.pattern.PatternNumber.{PatternNumber}
use Rattle.rng_deriv_ways.specs.views.Plans.{IsTold}
use Rattle.rng_deriv_ways.specs.declared.plans.Asked.{Asked}
use Rattle.rng_deriv_ways.specs.declared.plans.Asked.TheVariants as asked
use Rattle.rng_deriv_texts.specs.plain.After.{TellsTaken}
use Rattle.rng_deriv_texts.specs.declared.first.First.{First}
use Rattle.rng_deriv_texts.specs.declared.first.First.TheVariants as firsts

-- the pattern of this number is asked for what comes first
abbrev pub IsAskedBy : Keys → First → PatternNumber → Asked → Type 0
IsAskedBy keys (firsts.Text place s) n a = a ≡ asked.Text n
IsAskedBy keys (firsts.Attribute attr) n a = (k : NameKey) × (a ≡ asked.Attribute n k) × (key_of keys (name_of attr.now.name) ≡ k.0)

-- what the tests of these leaves say of a leaf is whether it takes what comes first
abbrev pub AreTests : Table → List Node → First → List PatternNumber → List Bool → Type 0
AreTests t ns first leaves taken = (leaf : PatternNumber) (b : Bool) → IsTold leaves taken leaf b
    → TellsTaken (reading_of t) first (tree_of t ns leaf.0) b
