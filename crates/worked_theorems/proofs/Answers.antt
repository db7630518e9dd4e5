-- The answer of `run` about a schema that is refused (docs/use/LANGUAGE.md, "Answers").
use Rattle.std.proofs.Common.{◌≡◌, ℕ, zero, suc, ◌<◌, List, [], ◌∷◌, ◌++◌, length, take, codes, refl, sym, ap, subst, inl, inr, arith, true≢false}
use Rattle.std.specs.Prelude.{Option, Some, None, slice_get}
use Rattle.std.specs.Str.{IsUtf8, IsValidUpTo, is_utf8, chars}
use Rattle.std.proofs.Math.Seq.{take-nil}
use Rattle.std.proofs.lemmas.Fmt.{decimal_digit}
use Rattle.std.proofs.lemmas.Str.{is_utf8-from_IsUtf8, IsUtf8-nil}
use Rattle.rng_model.specs.names.Lists.{Among, here, there, first_and, both_later}
use Rattle.rnc_model.specs.characters.Decoding.{IsDecoded, IsSpelling}
use Rattle.rnc_model.specs.tokens.Cut.{Token}
use Rattle.rnc_model.specs.declared.character.Character.{Character}
use Rattle.rnc_model.specs.declarations.FileTree.{FileTree}
use Rattle.rnc_model.specs.loading.SchemaFile.{FileName, NamedFile, AreTokensOf, IsHandedInTwice, BreaksLimit, BreaksOwn, BreaksFileClause, HasTree}
use Rattle.rnc_model.specs.loading.SchemaFile as file
use Rattle.rnc_model.specs.loading.Loading.{TakenFiles, IsTaken, none_yet, one_more, AreTaken, IsFirstBroken, FilesVerdict}
use Rattle.rnc_model.specs.loading.Loading.{file_breaks, together_break, are_taken, FilesHaveVerdict, FilesHaveOnlyVerdict}
use Rattle.rncv_model.specs.answers.Answer.{refused_file, output_of, status_of}
use Rattle.rncv_model.specs.answers.Run.{IsAnswer, file_refused}
use Rattle.rncv_model.specs.declared.command.Command.{Command}
use Rattle.rncv_model.specs.declared.status.Status.TheVariants as statuses

-- one file with the name `s`: a byte that is not UTF-8
abbrev main : FileName
main = codes "s"

abbrev bytes : List ℕ
bytes = 255 ∷ []

abbrev files : List NamedFile
files = record { name = main; bytes = bytes } ∷ []

is_not_utf8 : ¬ (IsUtf8 bytes)
unfolding chars is_utf8
is_not_utf8 u = true≢false (sym (is_utf8-from_IsUtf8 bytes u))

-- so it has no characters, and no tokens
no_spelling : (numbers : List ℕ) → ¬ (IsSpelling bytes numbers)
no_spelling numbers s = is_not_utf8 (numbers, (s.scalars, s.spelled))

-- the longest front that is UTF-8 is the empty one
valid_up_to_0 : IsValidUpTo bytes 0
valid_up_to_0 = record { short = omega arith; front = IsUtf8-nil; longest = no_longer } where
  no_longer : (m : ℕ) → 0 < m → ¬ (IsUtf8 (take m bytes))
  no_longer zero more u = omega (arith, more)
  no_longer (suc m) more u = is_not_utf8 (subst IsUtf8 (whole m) u) where
    whole : (m : ℕ) → take (suc m) bytes ≡ bytes
    whole m = ap (λ l. 255 ∷ l) (take-nil m)

-- ---- what the file is by itself

is_once : {f : FileName} → ¬ (IsHandedInTwice files f)
is_once (first_and i e) = elim i [ ]
is_once (both_later h) = elim h [ ]

is_small : {f : FileName} {content : List ℕ} → content ≡ bytes → ¬ (BreaksLimit files main f content)
is_small e (inl (same, many)) = omega (arith, many)
is_small e (inr many) =
    let n = ap length e in
    omega (arith, n, many)

content_is : {f : FileName} {content : List ℕ} → Among (record { name = f; bytes = content }) files → content ≡ bytes
content_is here = refl
content_is (there i) = elim i [ ]

-- it breaks S3
breaks_s3 : BreaksOwn files main main 3
breaks_s3 = file.bad_content (record { there = here; once = is_once }) (is_small refl) (file.not_utf8 0 (is_not_utf8, valid_up_to_0) refl)

not_decoded : {content : List ℕ} {cs : List Character} → content ≡ bytes → ¬ (IsDecoded content cs)
not_decoded e d = no_spelling d.numbers (subst (λ c. IsSpelling c d.numbers) e d.spelling)

no_tokens : {content : List ℕ} {ts : List Token} → content ≡ bytes → ¬ (AreTokensOf content ts)
no_tokens e a = not_decoded e a.decoded

only_s3_in : {content : List ℕ} {k : ℕ} → content ≡ bytes → BreaksFileClause content k → k ≡ 3
only_s3_in e (file.not_utf8 o b same) = same
only_s3_in e (file.bad_characters o b same) = absurd (no_spelling b.numbers (subst (λ c. IsSpelling c b.numbers) e b.spelling))
only_s3_in e (file.bad_tokens cs o d b same) = absurd (not_decoded e d)
only_s3_in e (file.no_sentence ts n a b same) = absurd (no_tokens e a)
only_s3_in e (file.too_deep ts a b same) = absurd (no_tokens e a)
only_s3_in e (file.bad_declarations ts a b same) = absurd (no_tokens e a)

only_s3 : {f : FileName} {k : ℕ} → f ≡ main → BreaksOwn files main f k → k ≡ 3
only_s3 e (file.missing m same) = absurd (m (record { name = main; bytes = bytes }) here (sym e))
only_s3 e (file.handed_in_twice h same) = absurd (is_once h)
only_s3 e (file.too_large h l same) = absurd (is_small (content_is h.there) l)
only_s3 e (file.bad_content h l b) = only_s3_in (content_is h.there) b

has_no_tree : {f : FileName} {t : FileTree} → ¬ (HasTree files main f t)
has_no_tree h = no_tokens (content_is h.handed_in.there) h.is.are

-- ---- the verdict on the files

nothing_is_taken : {read : TakenFiles} {names : List FileName} → IsTaken files main read names → (read ≡ []) × (names ≡ main ∷ [])
nothing_is_taken (none_yet r n) = (r, n)
nothing_is_taken (one_more before next h a m) = absurd (has_no_tree h)

not_all_taken : {read : TakenFiles} → ¬ (AreTaken files main read)
not_all_taken a =
    let none = nothing_is_taken a.taken in
    let n = ap length none.0 in
    let m = ap length none.1 in
    let all = a.all in
    omega (arith, n, m, all)

abbrev name_if : Option FileName → FileName
name_if None = []
name_if (Some n) = n

is_the_first : {f : FileName} {k : ℕ} (b : IsFirstBroken files main f k) → f ≡ main
is_the_first {f = f} b =
    let none = nothing_is_taken b.taken in
    let at_start : slice_get b.names 0 ≡ Some f = subst (λ read. slice_get b.names (length read) ≡ Some f) none.0 b.next in
    let of_main : slice_get (main ∷ []) 0 ≡ Some f = subst (λ names. slice_get names 0 ≡ Some f) none.1 at_start in
    sym (ap name_if of_main)

the_verdict : FilesHaveOnlyVerdict files main (file_breaks main 3)
the_verdict = record {
  is = record { before = []; names = main ∷ []; taken = none_yet refl refl; next = refl; broken = breaks_s3 };
  only = only_one;
} where
  only_one : (other : FilesVerdict) → FilesHaveVerdict files main other → file_breaks main 3 ≡ other
  only_one (file_breaks f k) b =
      let first = is_the_first b in
      let clause = only_s3 first b.broken in
      cc
  only_one (together_break k) (read, taken, b) = absurd (not_all_taken taken)
  only_one (are_taken read) (taken, b) = absurd (not_all_taken taken)

-- Each command answers about the file `s` that it breaks S3, whatever the input is (docs/use/LANGUAGE.md, S3).
refused_s3 : (command : Command) (old new : Option (List ℕ)) → IsAnswer command files main old new (refused_file 3 main)
refused_s3 command old new = file_refused the_verdict

-- the line is `refused S3 file s`, and the status is that of a schema that is refused
its_line : output_of (refused_file 3 main) ≡ codes "refused S3 file s" ++ 10 ∷ []
its_line = rw (decimal_digit 3 (omega arith)) refl

its_status : status_of (refused_file 3 main) ≡ statuses.Refused
its_status = refl
