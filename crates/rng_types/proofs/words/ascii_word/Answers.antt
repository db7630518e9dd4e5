use Rattle.std.proofs.Common.{◌≡◌, ◌≤◌, ◌==◌, true, false, true≢false, length, take, drop, ap, sym, ◌∙◌, subst, rules}
use Rattle.std.specs.List.{list_all, prefix_len}
use Rattle.std.proofs.lemmas.List.Sums.{prefix_len-le-length}
use Rattle.rng_model.proofs.TestedRuns.{run_passes}
use Rattle.rng_model.specs.datatypes.Texts.{is_blank}
use Rattle.rng_types.specs.plain.Runs.{past_blanks, from_run}
use Rattle.rng_types.specs.plain.Words.{is_word_byte}
use Rattle.rng_types.proofs.CollapsedBytes.{collapse-past}
use Rattle.rng_types.proofs.WordsOfTexts.{run_front, no_blank, word_front}
use Rattle.rng_types.proofs.words.ascii_word.Goals as goal
use Rattle.rng_types.proofs.words.ascii_word.Goals.{then-is_empty-via-then-is_empty, then-is_empty-via-else-is_empty+then-not-is_blank}

pub split_at-requires : goal.split_at-requires
split_at-requires c =
    subst (λ n. n ≤ length c.past_blanks-bytes.result.now) (sym c.word_len.ensures) (prefix_len-le-length is_word_byte c.past_blanks-bytes.result.now)

pub returns : goal.returns
returns c =
    let bytes = c.past_blanks-bytes.result.now in
    let past : bytes ≡ past_blanks c.args.text.now = c.past_blanks-bytes.ensures.past ∙ ap past_blanks c.as_bytes.ensures.value in
    let front : c.split_at.result.0.now ≡ take (prefix_len is_word_byte bytes) bytes = c.split_at.ensures.front ∙ ap (λ n. take n bytes) c.word_len.ensures in
    let back : c.split_at.result.1.now ≡ drop (prefix_len is_word_byte bytes) bytes = c.split_at.ensures.back ∙ ap (λ n. drop n bytes) c.word_len.ensures in
    let blank : is_blank c.split_at.result.1.now ≡ true = sym c.is_blank.ensures ∙ c.if-not-is_blank.false in
    let some : (length c.split_at.result.0.now == 0) ≡ false = search rules in
    record {
      is = collapse-past c.args.text.now ∙ ap from_run (sym past) ∙ run_front is_word_byte no_blank bytes (ap is_blank (sym back) ∙ blank) ∙ sym front;
      bytes = ap (list_all is_word_byte) front ∙ run_passes is_word_byte bytes;
      some = some;
    }

pub returns-then-is_empty : goal.returns-then-is_empty
returns-then-is_empty c =
    let bytes = c.past_blanks-bytes.result.now in
    let past : bytes ≡ past_blanks c.args.text.now = c.past_blanks-bytes.ensures.past ∙ ap past_blanks c.as_bytes.ensures.value in
    let front : c.split_at.result.0.now ≡ take (prefix_len is_word_byte bytes) bytes = c.split_at.ensures.front ∙ ap (λ n. take n bytes) c.word_len.ensures in
    let back : c.split_at.result.1.now ≡ drop (prefix_len is_word_byte bytes) bytes = c.split_at.ensures.back ∙ ap (λ n. drop n bytes) c.word_len.ensures in
    λ w word.
    let parts = word_front c.args.text.now bytes w past word in
    elim c.then-is_empty.branch [
      | then-is_empty-via-then-is_empty v ↦
          true≢false (sym (sym c.is_empty.ensures ∙ v.if-is_empty.true) ∙ ap (λ t. length t == 0) front ∙ parts.0)
      | then-is_empty-via-else-is_empty+then-not-is_blank v ↦
          true≢false (sym parts.1 ∙ ap is_blank (sym back) ∙ sym v.is_blank.ensures ∙ v.if-not-is_blank.true)
    ]
