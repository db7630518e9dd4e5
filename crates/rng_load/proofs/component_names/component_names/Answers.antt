use Rattle.std.proofs.Common.{rules, ◌≡◌, ◌<◌, ◌≤◌, sym, ap, ◌∙◌, refl, length, map, arith, subst, ◌+◌}
use Rattle.rnc_model.specs.grammar.Syntax.{components_of}
use Rattle.rnc_grammar.specs.views.View.{component_of}
use Rattle.rng_load.specs.plain.ComponentNames.{gather, names_in}
use Rattle.rng_load.specs.views.FilesView.{taken_files_of}
use Rattle.rng_load.proofs.Overriding.GatheredNames.{IsGathering, at_index, beyond_end, length_keys, begins, few_looked, turned, all_found}
use Rattle.rng_load.proofs.component_names.component_names.Goals as goal

pub included-init : goal.included-init
included-init c =
    begins _ _ _ (c.in_ok-add_all.ensures ∙ ap (λ ns. gather ns (components_of (map component_of c.args.components.now))) c.new-names.ensures)

pub included-smaller : goal.included-smaller
included-smaller c =
    let size : c.len.result ≡ length c.included.names.included.keys = search rules in
    let test : c.included.looked < c.len.result = search rules in
    let f = at_index (names_in c.included.names).included c.included.looked (omega (arith, size, test, length_keys c.included.names.included.keys)) in
    let few = few_looked (taken_files_of c.args.trees.now) (components_of (map component_of c.args.components.now)) c.included.looked
    (names_in c.included.names) c.included.invariant f.0 f.1 in
    omega (arith, few)

pub included-preserved : goal.included-preserved
included-preserved c =
    let size : c.len.result ≡ length c.included.names.included.keys = search rules in
    let test : c.included.looked < c.len.result = search rules in
    let f = at_index (names_in c.included.names).included c.included.looked (omega (arith, size, test, length_keys c.included.names.included.keys)) in
    subst (IsGathering (taken_files_of c.args.trees.now) (components_of (map component_of c.args.components.now)) (c.included.looked + 1)) (sym
    (c.in_ok-add_file.ensures f.0 f.1))
    (turned (taken_files_of c.args.trees.now) (components_of (map component_of c.args.components.now)) c.included.looked
    (names_in c.included.names) c.included.invariant f.0 f.1 _ refl _ refl)

pub returns : goal.returns
returns c =
    let size : c.len.result ≡ length c.included.names.included.keys = search rules in
    let test : c.len.result ≤ c.included.looked = search rules in
    all_found (taken_files_of c.args.trees.now) (components_of (map component_of c.args.components.now)) c.included.looked
    (names_in c.included.names) c.included.invariant
    (beyond_end (names_in c.included.names).included c.included.looked (omega (arith, size, test, length_keys c.included.names.included.keys)))
