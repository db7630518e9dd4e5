use Rattle.std.proofs.Common.{refl, ap, subst, ◌∙◌, ◌++◌, map, Some}
use Rattle.std.proofs.lemmas.List.{map_push}
use Rattle.rng_model.specs.datatypes.DatatypeViews.{datatype_of}
use Rattle.rng_labels.specs.plain.LabelCodes.{IsPlaced, codes_of, datatype_code, part_of}
use Rattle.rng_simple.specs.views.Rows.{no_datatype}
use Rattle.rng_labels.proofs.LabelCodes.{same_datatypes}
use Rattle.rng_simple.proofs.Tables.RowLabels.{codes_more, label_found}
use Rattle.rng_simple.proofs.Tables.RowTable.{relabelled, same_labels, datatype_more}
use Rattle.rng_simple.proofs.row_table.RowTable.datatype_label.Goals as goal

pub returns-in-Some-clause-table : goal.returns-in-Some-clause-table
returns-in-Some-clause-table c =
    let is = c.requires.table in
    let d = is.coded in
    let p = subst (IsPlaced (codes_of c.args.self.now.datatype_codes) (codes_of c.place_of_code.new.codes) _) c.in-Some.is c.in_ok-label.ensures.placed in
    relabelled _ _ is (same_labels _ _ refl refl refl) refl is.index (record {
      datatypes = record { same = p.0 ∙ d.datatypes.same; apart = c.in_ok-label.ensures.apart };
      classes = d.classes;
      values = d.values;
    })

pub returns-in-Some-clause-is : goal.returns-in-Some-clause-is
returns-in-Some-clause-is c =
    let d = c.requires.table.coded in
    let p = subst (IsPlaced (codes_of c.args.self.now.datatype_codes) (codes_of c.place_of_code.new.codes) _) c.in-Some.is c.in_ok-label.ensures.placed in
    let code = c.in_ok-put_datatype.ensures ∙ ap (λ ps. map part_of ps ++ datatype_code (datatype_of c.args.datatype.now)) c.new-code.ensures.items in
    (label_found (λ k. datatype_code (datatype_of k.now)) (λ k. datatype_of k.now) no_datatype c.args.self.now.datatypes.items _
    (datatype_of c.args.datatype.now) (codes_of c.args.self.now.datatype_codes) c.in-Some.label d.datatypes.same
    (p.1 ∙ ap Some code) (λ y e. same_datatypes (datatype_of y.now) (datatype_of c.args.datatype.now) e)).1

pub returns-clause-table : goal.returns-clause-table
returns-clause-table c =
    let is = c.requires.table in
    let d = is.coded in
    let p = subst (IsPlaced (codes_of c.args.self.now.datatype_codes) (codes_of c.place_of_code.new.codes) _) c.in_default.is c.in_ok-label.ensures.placed in
    let code = c.in_ok-put_datatype.ensures ∙ ap (λ ps. map part_of ps ++ datatype_code (datatype_of c.args.datatype.now)) c.new-code.ensures.items in
    relabelled _ _ is (datatype_more _ _ (datatype_of c.args.datatype.now) refl
    (ap (map (λ k. datatype_of k.now)) c.in_ok-push.ensures.items ∙ map_push (λ k. datatype_of k.now) c.args.self.now.datatypes.items
    c.args.datatype) refl) refl is.index
    (record {
      datatypes = record {
        same = codes_more (λ k. datatype_code (datatype_of k.now)) (λ k. datatype_of k.now) c.args.self.now.datatypes.items c.push.new.self.items
            c.args.datatype _ _ _ d.datatypes.same p code c.in_ok-push.ensures.items;
        apart = c.in_ok-label.ensures.apart;
      };
      classes = d.classes;
      values = d.values;
    })
