use Rattle.std.proofs.Common.{refl, ap, subst, ◌∙◌, [], ◌++◌, map, string_bytes, Some}
use Rattle.std.proofs.lemmas.List.{map_push}
use Rattle.rng_model.specs.schema.Patterns.{without_parameters}
use Rattle.rng_labels.specs.plain.LabelCodes.{IsPlaced, codes_of, part_of, value_code}
use Rattle.rng_simple.specs.views.RowTable.{value_of}
use Rattle.rng_simple.specs.views.Rows.{no_datatype}
use Rattle.rng_labels.proofs.LabelCodes.{same_value}
use Rattle.rng_simple.proofs.Tables.RowLabels.{codes_more, label_found}
use Rattle.rng_simple.proofs.Tables.RowTable.{relabelled, same_labels, value_more}
use Rattle.rng_simple.proofs.row_table.RowTable.value_label.Goals as goal

pub returns-in-Some-clause-table : goal.returns-in-Some-clause-table
returns-in-Some-clause-table c =
    let is = c.requires.table in
    let d = is.coded in
    let p = subst (IsPlaced (codes_of c.args.self.now.value_codes) (codes_of c.place_of_code.new.codes) _) c.in-Some.is c.in_ok-label.ensures.placed in
    relabelled _ _ is (same_labels _ _ refl refl refl) refl is.index (record {
      values = record { same = p.0 ∙ d.values.same; apart = c.in_ok-label.ensures.apart };
      classes = d.classes;
      datatypes = d.datatypes;
    })

pub returns-in-Some-clause-is : goal.returns-in-Some-clause-is
returns-in-Some-clause-is c =
    let d = c.requires.table.coded in
    let p = subst (IsPlaced (codes_of c.args.self.now.value_codes) (codes_of c.place_of_code.new.codes) _) c.in-Some.is c.in_ok-label.ensures.placed in
    let code = c.in_ok-put_value.ensures ∙ ap (λ ps. map part_of ps ++ value_code (value_of c.args.value)) c.new-code.ensures.items in
    (label_found (λ v. value_code (value_of v)) value_of (no_datatype, []) c.args.self.now.values.items _
    (without_parameters (string_bytes c.args.value.now.library) (string_bytes c.args.value.now.name), string_bytes c.args.value.now.text) (codes_of c.args.self.now.value_codes) c.in-Some.label d.values.same
    (p.1 ∙ ap Some code) (λ y e. same_value (value_of y) (string_bytes c.args.value.now.library) (string_bytes c.args.value.now.name) (string_bytes c.args.value.now.text) refl e)).1

pub returns-clause-table : goal.returns-clause-table
returns-clause-table c =
    let is = c.requires.table in
    let d = is.coded in
    let p = subst (IsPlaced (codes_of c.args.self.now.value_codes) (codes_of c.place_of_code.new.codes) _) c.in_default.is c.in_ok-label.ensures.placed in
    let code = c.in_ok-put_value.ensures ∙ ap (λ ps. map part_of ps ++ value_code (value_of c.args.value)) c.new-code.ensures.items in
    relabelled _ _ is (value_more _ _ _ refl refl
    (ap (map value_of) c.in_ok-push.ensures.items ∙ map_push value_of c.args.self.now.values.items _)) refl is.index
    (record {
      values = record {
        same = codes_more (λ v. value_code (value_of v)) value_of c.args.self.now.values.items c.push.new.self.items _ _ _ _ d.values.same p code
            c.in_ok-push.ensures.items;
        apart = c.in_ok-label.ensures.apart;
      };
      classes = d.classes;
      datatypes = d.datatypes;
    })
