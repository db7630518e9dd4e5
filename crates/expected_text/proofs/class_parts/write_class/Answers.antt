use Rattle.std.proofs.Common.{◌∙◌, ◌++◌, ap, append_assoc, codes, string_bytes}
use Rattle.std.proofs.lemmas.Result.{on_ok_weaker}
use Rattle.rng_model.specs.names.Names as names
use Rattle.rng_model.specs.names.NameViews.{class_of, name_of, namespace_bytes}
use Rattle.expected_text.specs.ExpectationText.{in_braces}
use Rattle.expected_text.specs.plain.Parts.{left_text, text_at}
use Rattle.expected_text.proofs.ClassParts.{any_except_is, begun, name_is, ns_except_is, ns_is, whole}
use Rattle.expected_text.proofs.class_parts.write_class.Goals as goal

pub returns-in_ok-write_every-in-AnyExcept-clause-text : goal.returns-in_ok-write_every-in-AnyExcept-clause-text
returns-in_ok-write_every-in-AnyExcept-clause-text c =
    let old = string_bytes c.args.text.now in
    let left = left_text c.args.left.now.items in
    on_ok_weaker c.put_except.result
    (λ e. begun c.args.place old (string_bytes c.write_every-in-AnyExcept.new.text) (string_bytes c.put_except.new.text) (codes "*") left
    (left_text c.put_except.new.left.items) (class_of c.deref.result.now) c.in_ok-write_every-in-AnyExcept.ensures e
    ∙ ap (λ k. old ++ (text_at c.args.place k ++ left)) (any_except_is c.args.class.now c.deref.result.now _ c.in-AnyExcept.is c.deref.ensures))
    c.put_except.ensures.text

pub returns-in_ok-push_str-in-Ns-clause-text : goal.returns-in_ok-push_str-in-Ns-clause-text
returns-in_ok-push_str-in-Ns-clause-text c =
    let old = string_bytes c.args.text.now in
    let left = left_text c.args.left.now.items in
    let mid = string_bytes c.write_namespace.new.text in
    whole c.args.place old mid _ (in_braces (namespace_bytes c.in-Ns.ns) ++ codes "*") left c.in_ok-write_namespace-in-Ns.ensures
    (c.in_ok-push_str-in-Ns.ensures.bytes ∙ ap (λ b. mid ++ b) c.back-in-Ns.ensures)
    ∙ ap (λ k. old ++ (text_at c.args.place k ++ left)) (ns_is c.args.class.now c.in-Ns.ns c.in-Ns.is)

pub returns-in_ok-write_namespace-in-NsExcept-clause-text : goal.returns-in_ok-write_namespace-in-NsExcept-clause-text
returns-in_ok-write_namespace-in-NsExcept-clause-text c =
    let old = string_bytes c.args.text.now in
    let left = left_text c.args.left.now.items in
    let ns = c.in-NsExcept.ns in
    on_ok_weaker c.put_except-in-NsExcept.result
    (λ e. begun c.args.place old (string_bytes c.write_namespace-in-NsExcept.new.text) (string_bytes c.put_except-in-NsExcept.new.text)
    (in_braces (namespace_bytes ns) ++ codes "*") left (left_text c.put_except-in-NsExcept.new.left.items) (class_of c.deref-in-NsExcept.result.now)
    c.in_ok-write_namespace-in-NsExcept.ensures e
    ∙ ap (λ k. old ++ (text_at c.args.place k ++ left))
    (ns_except_is c.args.class.now c.deref-in-NsExcept.result.now ns _ c.in-NsExcept.is c.deref-in-NsExcept.ensures))
    c.put_except-in-NsExcept.ensures.text

pub returns-in-Name-clause-text : goal.returns-in-Name-clause-text
returns-in-Name-clause-text c =
    let old = string_bytes c.args.text.now in
    let left = left_text c.args.left.now.items in
    on_ok_weaker c.write_name.result
    (λ e. ap (λ w. w ++ left) e ∙ append_assoc old (text_at c.args.place (names.name_is (name_of c.in-Name.name))) left
    ∙ ap (λ k. old ++ (text_at c.args.place k ++ left)) (name_is c.args.class.now c.in-Name.name c.in-Name.is))
    c.write_name.ensures
