use Rattle.std.proofs.Common.{rules, ap, sym, subst, ◌∙◌, ◌<◌, length, inr, string_bytes, take, ◌+◌}
use Rattle.std.proofs.lemmas.Slice.Eq.{bytes_eq-Decides}
use Rattle.rng_load.proofs.LoadOrder.HandedIn.{IsFound, passed_by, taken_up, met_again, all_seen, is_not}
use Rattle.rnc_model.specs.loading.SchemaFile.{named_files}
use Rattle.rng_load.proofs.reading.bytes_of.Goals.{then-eq+else-is_some, else-eq}
use Rattle.rng_load.proofs.reading.bytes_of.Goals as goal

pub returns-then-is_some : goal.returns-then-is_some
returns-then-is_some c =
    let within : c.loop-other.other-index < length c.args.files.now = search rules in
    let name = ap (λ x. string_bytes x.0) (sym c.loop-other-item.is) ∙ sym c.as_str.ensures.value in
    inr (met_again c.args.files.now c.loop-other.other-index within c.loop-other-item.result c.args.name.now c.loop-other.found (sym c.is_some.ensures
    ∙ c.if-is_some.true)
    (name ∙ (bytes_eq-Decides c.as_str.result.now c.args.name.now).0 (sym c.eq.ensures ∙ c.if-eq.true)) c.loop-other.invariant)

pub loop-other-preserved : goal.loop-other-preserved
loop-other-preserved c =
    let within : c.loop-other.other-index < length c.args.files.now = search rules in
    let name = ap (λ x. string_bytes x.0) (sym c.loop-other-item.is) ∙ sym c.as_str.ensures.value in
    elim c.if-eq.branch [
      | then-eq+else-is_some w ↦
          subst (IsFound (named_files (take (c.loop-other.other-index + 1) c.args.files.now)) c.args.name.now) (sym w.found-is)
          (taken_up c.args.files.now c.loop-other.other-index within c.loop-other-item.result c.args.name.now c.loop-other.found (sym w.is_some.ensures
          ∙ w.if-is_some.false)
          (name ∙ (bytes_eq-Decides c.as_str.result.now c.args.name.now).0 (sym c.eq.ensures ∙ w.if-eq.true)) c.loop-other.invariant w.as_slice.result.now
          (w.as_slice.ensures.value ∙ ap (λ x. x.1.items) c.loop-other-item.is))
      | else-eq w ↦
          subst (IsFound (named_files (take (c.loop-other.other-index + 1) c.args.files.now)) c.args.name.now) (sym w.found-is)
          (passed_by c.args.files.now c.loop-other.other-index within c.loop-other-item.result c.args.name.now c.loop-other.found
          (λ is. is_not (sym c.eq.ensures ∙ w.if-eq.false) ((bytes_eq-Decides c.as_str.result.now c.args.name.now).1 (sym name ∙ is))) c.loop-other.invariant)
    ]

pub returns : goal.returns
returns c = all_seen c.args.files.now c.loop-other.other-index (search rules) c.args.name.now c.loop-other.found c.loop-other.invariant
