use Rattle.std.proofs.Common.{◌≡◌, ◌≤◌, ◌==◌, ◌%◌, length, true, false, ap, sym, ◌∙◌, subst, rules}
use Rattle.std.proofs.lemmas.List.Sums.{prefix_len-le-length}
use Rattle.rng_types.specs.plain.Runs.{past_blanks}
use Rattle.rng_model.specs.xsd.primitives.Octets.{is_hex_digit}
use Rattle.xsd_octets.proofs.HexPairs.{found_digits, not_blank_behind, odd_digits}
use Rattle.xsd_octets.proofs.hex_binary.hex_digits.Goals as goal
use Rattle.xsd_octets.proofs.hex_binary.hex_digits.Goals.{else-digits-eq0-via-then-digits-eq0+else-is_blank, else-digits-eq0-via-else-digits-eq0}

pub split_at-requires : goal.split_at-requires
split_at-requires c =
    let bytes = c.past_blanks-bytes.result.now in
    subst (λ n. n ≤ length bytes) (sym c.hex_digits_len.ensures) (prefix_len-le-length is_hex_digit bytes)

pub returns-then-is_blank : goal.returns-then-is_blank
returns-then-is_blank c =
    let even : (length c.split_at.result.0.now % 2 == 0) ≡ true = search rules in
    found_digits c.args.text.now c.past_blanks-bytes.result.now c.split_at.result.0.now c.split_at.result.1.now c.hex_digits_len.result
    (c.past_blanks-bytes.ensures.past ∙ ap past_blanks c.as_bytes.ensures.value) c.hex_digits_len.ensures c.split_at.ensures.front c.split_at.ensures.back
    even (sym c.is_blank.ensures ∙ c.if-is_blank.true)

pub returns-else-digits-eq0 : goal.returns-else-digits-eq0
returns-else-digits-eq0 c =
    let past = c.past_blanks-bytes.ensures.past ∙ ap past_blanks c.as_bytes.ensures.value in
    elim c.else-digits-eq0.branch [
      | else-digits-eq0-via-then-digits-eq0+else-is_blank w ↦
          not_blank_behind c.args.text.now c.past_blanks-bytes.result.now c.split_at.result.1.now c.hex_digits_len.result past c.hex_digits_len.ensures
          c.split_at.ensures.back (sym w.is_blank.ensures ∙ w.if-is_blank.false)
      | else-digits-eq0-via-else-digits-eq0 w ↦
          let odd : (length c.split_at.result.0.now % 2 == 0) ≡ false = search rules in
          odd_digits c.args.text.now c.past_blanks-bytes.result.now c.split_at.result.0.now c.split_at.result.1.now c.hex_digits_len.result past
          c.hex_digits_len.ensures c.split_at.ensures.front c.split_at.ensures.back odd
    ]
