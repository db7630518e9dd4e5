use Rattle.std.proofs.Common.{sym, ◌∙◌, length, inl, inr, arith}
use Rattle.std.proofs.lemmas.Bool.{lt-ltb, ltb-true}
use Rattle.std.proofs.lemmas.Slice.Eq.{bytes_eq-Decides}
use Rattle.rng_load.proofs.LoadOrder.HandedIn.{is_not, length_named}
use Rattle.rng_load.proofs.reading.is_too_large.Goals.{then-eq, else-eq}
use Rattle.rng_load.proofs.reading.is_too_large.Goals as goal

pub returns-then-has_too_many_files : goal.returns-then-has_too_many_files
returns-then-has_too_many_files c =
    let size = length_named c.args.files.now in (
      λ t. elim c.if-eq.branch [
        | then-eq w ↦
            let many = ltb-true 64 (length c.args.files.now) (sym w.has_too_many_files-is ∙ c.if-has_too_many_files.true) in
            inl ((bytes_eq-Decides c.args.name.now c.args.main.now).0 (sym c.eq.ensures ∙ w.if-eq.true), omega (arith, size, many))
        | else-eq w ↦ absurd (is_not (w.has_too_many_files-is ∙ w.if-eq.false) c.if-has_too_many_files.true)
      ],
      λ l. c.if-has_too_many_files.true,
    )

pub returns-else-has_too_many_files : goal.returns-else-has_too_many_files
returns-else-has_too_many_files c =
    let size = length_named c.args.files.now in (
      λ t. inr (ltb-true 1048576 (length c.args.bytes.now) t),
      λ l. elim l [
        | inl m ↦ absurd (elim c.if-eq.branch [
          | then-eq w ↦ let many = m.1 in is_not (sym w.has_too_many_files-is ∙ c.if-has_too_many_files.false) (lt-ltb 64 (length c.args.files.now)
              (omega (arith, size, many)))
          | else-eq w ↦ is_not (sym c.eq.ensures ∙ w.if-eq.false) ((bytes_eq-Decides c.args.name.now c.args.main.now).1 m.0)
        ])
        | inr b ↦ lt-ltb 1048576 (length c.args.bytes.now) b
      ],
    )
