-- What is left, by the numbers of a table.
use Rattle.std.specs.Prelude.{◌<◌, List, map, length, All, Bool, true, false, Option, Some, None}
use Rattle.rng_model.specs.simple.Table.{Table}
use Rattle.rng_deriv_table.specs.views.Node.{Node}
use Rattle.rng_deriv_table.specs.views.Trees.{tree_of}
use Rattle.rng_deriv_table.specs.declared.pattern.PatternNumber.{PatternNumber}
use Rattle.rng_reasons.specs.Reasons.{Alternatives}
use Rattle.rng_reasons.specs.declared.reasons.LeftHere.{LeftHere}
use Rattle.rng_reasons.specs.declared.reasons.Reason.{Reason}
use Rattle.rng_reasons.specs.declared.reasons.Reason.TheVariants as reasons
use Rattle.rng_reasons.specs.declared.tag_faults.TagFault.{TagFault}

-- the reason of a start with this fault, given whether the text before it is at fault
abbrev pub reason_of : Option TagFault → Bool → Option Reason
reason_of None wrong = None
reason_of (Some f) true = Some reasons.Text
reason_of (Some f) false = Some (reasons.Tag f)

abbrev pub alternatives_in : Table → List Node → LeftHere → Alternatives
alternatives_in t ps left = record {
  behind = map (λ (n : PatternNumber). tree_of t ps n.0) left.behind.now;
  in_place = map (λ (n : PatternNumber). tree_of t ps n.0) left.in_place.now;
  has_text = left.has_text;
}

-- the numbers are those of the table
pub record AreThere (ps : List Node) (left : LeftHere) : Type 0 where
  pub behind : All (λ (n : PatternNumber). n.0 < length ps) left.behind.now
  pub in_place : All (λ (n : PatternNumber). n.0 < length ps) left.in_place.now
