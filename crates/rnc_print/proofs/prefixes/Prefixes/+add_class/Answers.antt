use Rattle.std.proofs.Common.{◌≡◌, ◌∙◌, map, ap, sym, flat_map, arith}
use Rattle.std.specs.Str.{bytes_eq}
use Rattle.std.proofs.lemmas.List.{take_all}
use Rattle.rng_model.proofs.ChoiceViews.{choice_is}
use Rattle.rng_model.specs.names.Names.{some_of}
use Rattle.rng_model.specs.names.NameViews.{class_of}
use Rattle.rncv_model.specs.printed.Items.{and_new}
use Rattle.rncv_model.specs.printed.PrintedText.{namespaces_in}
use Rattle.rnc_print.specs.views.Prefixes.{namespaces_seen}
use Rattle.rnc_print.proofs.Namespaces.{member_added, namespaces_of_members}
use Rattle.rnc_print.proofs.prefixes.Prefixes.+add_class.Goals as goal

pub returns-after-members : goal.returns-after-members
returns-after-members t c =
    let xs = c.deref-member-items.result.now in
    let whole : class_of c.args.class.now ≡ some_of (map class_of xs) = choice_is _ _ xs c.in-Choice.is c.deref-member-items.ensures.value in
    let all = take_all c.members.member-index xs (omega (arith, c.members-test.false)) in
    c.members.invariant
    ∙ ap (λ ys. and_new bytes_eq (namespaces_seen c.args.self.now) (flat_map (λ c. namespaces_in (class_of c)) ys)) all
    ∙ ap (and_new bytes_eq (namespaces_seen c.args.self.now)) (sym (ap namespaces_in whole ∙ namespaces_of_members class_of xs))

pub members-preserved : goal.members-preserved
members-preserved t c =
    member_added (λ c. namespaces_in (class_of c)) _ _ _ c.deref-member-items.result.now c.members.member-index c.member-item.result c.members-test.true
    c.members.invariant c.member-item.is c.in_ok-add_class-in-Choice.ensures
