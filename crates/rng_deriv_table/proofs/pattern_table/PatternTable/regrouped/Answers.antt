use Rattle.std.proofs.Common.{◌≡◌, ◌∙◌, true, List, Some, ap, arith, map, rules, slice_get, sym}
use Rattle.std.proofs.lemmas.Result.{IfOk-weaker}
use Rattle.rng_deriv_table.specs.views.Node as node
use Rattle.rng_deriv_table.specs.views.Node.{node_of}
use Rattle.rng_deriv_table.specs.declared.pattern.PatternNumber.{PatternNumber}
use Rattle.rng_deriv_table.proofs.Regrouped.{option_there, options_longer}
use Rattle.rng_deriv_table.proofs.Units.{group_there}
use Rattle.rng_deriv_table.proofs.pattern_table.PatternTable.regrouped.Goals as goal

pub is_empty-requires : goal.is_empty-requires
is_empty-requires c =
    let ms = c.as_slice.result.now in
    let found : slice_get c.args.self.now c.args.number.0 ≡ Some (node.choice (map (λ (m : PatternNumber). m.0) ms)) =
    c.pattern.ensures.found ∙ ap (λ p. Some (node_of p)) c.in-Choice.is
    ∙ ap (λ (ms : List PatternNumber). Some (node.choice (map (λ (m : PatternNumber). m.0) ms))) (sym c.as_slice.ensures.value) in
    let below = (option_there c.args.self.now c.args.number.0 ms (record { 0 = 0 }) (record { 0 = 0 }) c.pattern.ensures.table found
    c.in-len2.len_at_least c.in-len2.len_below).0 in
    let inside = c.requires.number in
    omega (arith, below, inside)

pub regrouped_option-requires-clause-body : goal.regrouped_option-requires-clause-body
regrouped_option-requires-clause-body c =
    let ms = c.as_slice.result.now in
    let found : slice_get c.args.self.now c.args.number.0 ≡ Some (node.choice (map (λ (m : PatternNumber). m.0) ms)) =
    c.pattern.ensures.found ∙ ap (λ p. Some (node_of p)) c.in-Choice.is
    ∙ ap (λ (ms : List PatternNumber). Some (node.choice (map (λ (m : PatternNumber). m.0) ms))) (sym c.as_slice.ensures.value) in
    let below = (option_there c.args.self.now c.args.number.0 ms (record { 0 = 0 }) (record { 0 = 0 }) c.pattern.ensures.table found
    c.in-len2.len_at_least c.in-len2.len_below).1 in
    let inside = c.requires.number in
    omega (arith, below, inside)

pub regrouped_option-requires-clause-is : goal.regrouped_option-requires-clause-is
regrouped_option-requires-clause-is c = λ t.
    let ms = c.as_slice.result.now in
    let found : slice_get c.args.self.now c.args.number.0 ≡ Some (node.choice (map (λ (m : PatternNumber). m.0) ms)) =
    c.pattern.ensures.found ∙ ap (λ p. Some (node_of p)) c.in-Choice.is
    ∙ ap (λ (ms : List PatternNumber). Some (node.choice (map (λ (m : PatternNumber). m.0) ms))) (sym c.as_slice.ensures.value) in
    let empty : c.is_empty.result ≡ true = search rules in
    (option_there c.args.self.now c.args.number.0 ms (record { 0 = 0 }) (record { 0 = 0 }) c.pattern.ensures.table found
    c.in-len2.len_at_least c.in-len2.len_below).2 t (sym (c.is_empty.ensures t) ∙ empty)

pub regrouped_group-requires-clause-first : goal.regrouped_group-requires-clause-first
regrouped_group-requires-clause-first c =
    let below = (group_there c.args.self.now c.args.number.0 c.pattern.result.now c.in-Group.first c.in-Group.second c.pattern.ensures.table
    c.pattern.ensures.found c.in-Group.is).0 in
    let inside = c.requires.number in
    omega (arith, below, inside)

pub regrouped_group-requires-clause-second : goal.regrouped_group-requires-clause-second
regrouped_group-requires-clause-second c =
    let below = (group_there c.args.self.now c.args.number.0 c.pattern.result.now c.in-Group.first c.in-Group.second c.pattern.ensures.table
    c.pattern.ensures.found c.in-Group.is).1 in
    let inside = c.requires.number in
    omega (arith, below, inside)

pub regrouped_group-requires-clause-is : goal.regrouped_group-requires-clause-is
regrouped_group-requires-clause-is c =
    (group_there c.args.self.now c.args.number.0 c.pattern.result.now c.in-Group.first c.in-Group.second c.pattern.ensures.table
    c.pattern.ensures.found c.in-Group.is).2

pub returns-in-Group-clause-options : goal.returns-in-Group-clause-options
returns-in-Group-clause-options c =
    IfOk-weaker c.regrouped_group.result _ _ (λ n longer. options_longer c.args.self.now c.regrouped_group.new.self c.args.options.now longer c.requires.options)
    c.regrouped_group.ensures.longer
