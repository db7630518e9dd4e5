use Rattle.std.proofs.Common.{refl, ap, subst, ◌∙◌, [], ◌++◌, map, Some}
use Rattle.std.proofs.lemmas.List.{map_push}
use Rattle.rng_model.specs.names.Names.{any_name}
use Rattle.rng_model.specs.names.NameViews.{class_of}
use Rattle.rng_simple.specs.plain.InTwos.{nested}
use Rattle.rng_labels.specs.plain.LabelCodes.{IsPlaced, class_code, codes_of, part_of}
use Rattle.rng_simple.proofs.Tables.NestedCodes.{same_classes}
use Rattle.rng_simple.proofs.Tables.RowLabels.{codes_more, label_found}
use Rattle.rng_simple.proofs.Tables.RowTable.{relabelled, same_labels, class_more}
use Rattle.rng_simple.proofs.row_table.RowTable.class_label.Goals as goal

pub returns-in-Some-clause-table : goal.returns-in-Some-clause-table
returns-in-Some-clause-table c =
    let is = c.requires.table in
    let d = is.coded in
    let p = subst (IsPlaced (codes_of c.args.self.now.class_codes) (codes_of c.place_of_code.new.codes) _) c.in-Some.is c.in_ok-label.ensures.placed in
    relabelled _ _ is (same_labels _ _ refl refl refl) refl is.index (record {
      classes = record { same = p.0 ∙ d.classes.same; apart = c.in_ok-label.ensures.apart };
      datatypes = d.datatypes;
      values = d.values;
    })

pub returns-in-Some-clause-is : goal.returns-in-Some-clause-is
returns-in-Some-clause-is c =
    let d = c.requires.table.coded in
    let p = subst (IsPlaced (codes_of c.args.self.now.class_codes) (codes_of c.place_of_code.new.codes) _) c.in-Some.is c.in_ok-label.ensures.placed in
    let code = c.in_ok-put_class.ensures ∙ ap (λ ps. map part_of ps ++ class_code (class_of c.args.class.now) []) c.new-code.ensures.items in
    (label_found (λ k. class_code (class_of k.now) []) (λ k. nested (class_of k.now)) any_name c.args.self.now.classes.items _
    (nested (class_of c.args.class.now)) (codes_of c.args.self.now.class_codes) c.in-Some.label d.classes.same
    (p.1 ∙ ap Some code) (λ y e. same_classes (class_of y.now) (class_of c.args.class.now) e)).1

pub returns-clause-table : goal.returns-clause-table
returns-clause-table c =
    let is = c.requires.table in
    let d = is.coded in
    let p = subst (IsPlaced (codes_of c.args.self.now.class_codes) (codes_of c.place_of_code.new.codes) _) c.in_default.is c.in_ok-label.ensures.placed in
    let code = c.in_ok-put_class.ensures ∙ ap (λ ps. map part_of ps ++ class_code (class_of c.args.class.now) []) c.new-code.ensures.items in
    relabelled _ _ is (class_more _ _ (nested (class_of c.args.class.now))
    (ap (map (λ k. nested (class_of k.now))) c.in_ok-push.ensures.items ∙ map_push (λ k. nested (class_of k.now)) c.args.self.now.classes.items
    c.args.class) refl refl) refl is.index
    (record {
      classes = record {
        same = codes_more (λ k. class_code (class_of k.now) []) (λ k. nested (class_of k.now)) c.args.self.now.classes.items c.push.new.self.items
            c.args.class _ _ _ d.classes.same p code c.in_ok-push.ensures.items;
        apart = c.in_ok-label.ensures.apart;
      };
      datatypes = d.datatypes;
      values = d.values;
    })
