-- The clauses of the table of paths.
use Rattle.std.proofs.Common.{ℕ, ◌≤◌, List, arith}
use Rattle.rng_model.specs.simple.Grammar.{Kind}
use Rattle.rng_model.specs.restrictions.Contents as paths
use Rattle.rng_model.specs.restrictions.Contents.{IsProhibited}

pub prohibits : {clause : ℕ} {path : List Kind} → IsProhibited clause path → (18 ≤ clause) × (clause ≤ 21)
prohibits paths.attribute_ref = (omega arith, omega arith)
prohibits paths.attribute_attribute = (omega arith, omega arith)
prohibits paths.repeated_group_attribute = (omega arith, omega arith)
prohibits paths.repeated_interleave_attribute = (omega arith, omega arith)
prohibits paths.list_list = (omega arith, omega arith)
prohibits paths.list_ref = (omega arith, omega arith)
prohibits paths.list_attribute = (omega arith, omega arith)
prohibits paths.list_text = (omega arith, omega arith)
prohibits paths.list_interleave = (omega arith, omega arith)
prohibits paths.data_attribute = (omega arith, omega arith)
prohibits paths.data_ref = (omega arith, omega arith)
prohibits paths.data_text = (omega arith, omega arith)
prohibits paths.data_list = (omega arith, omega arith)
prohibits paths.data_group = (omega arith, omega arith)
prohibits paths.data_interleave = (omega arith, omega arith)
prohibits paths.data_one_or_more = (omega arith, omega arith)
prohibits paths.data_empty = (omega arith, omega arith)
