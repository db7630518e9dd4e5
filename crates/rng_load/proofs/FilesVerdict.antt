-- The verdict on all files, from what is known once each is read.
use Rattle.std.proofs.Common.{◌≡◌, refl, sym, subst, ap, ℕ, List}
use Rattle.rnc_model.specs.loading.Mentions.{BreaksMentions}
use Rattle.rnc_model.specs.loading.Loading.{TakenFiles, hrefs_in, BreaksIncludes, BreaksTogether, mentions_break, includes_break, FilesVerdict, file_breaks}
use Rattle.rnc_model.specs.loading.Loading.{together_break, are_taken, FilesHaveVerdict, FilesHaveOnlyVerdict}
use Rattle.rng_load.specs.views.LoadingFaults.{IsTheReading}
use Rattle.rnc_model.specs.loading.SchemaFile.{FileName, NamedFile}

pub same_files : {r s : TakenFiles} → are_taken r ≡ are_taken s → r ≡ s
same_files e = cc

pub file_or_all : {f : FileName} {k : ℕ} {r : TakenFiles} → file_breaks f k ≡ are_taken r → ⊥
file_or_all e = cc

all_or_file : {f : FileName} {k : ℕ} {r : TakenFiles} → are_taken r ≡ file_breaks f k → ⊥
all_or_file e = cc

module _ (files : List NamedFile) (main : FileName) where
  pub file_first : (f : FileName) (k : ℕ) → IsTheReading files main (file_breaks f k) → FilesHaveOnlyVerdict files main (file_breaks f k)
  file_first f k r = record { is = r.is; only = only } where
    only : (other : FilesVerdict) → FilesHaveVerdict files main other → file_breaks f k ≡ other
    only (file_breaks g j) h = r.only (file_breaks g j) h
    only (together_break j) h = absurd (file_or_all (r.only (are_taken h.0) h.1))
    only (are_taken read) h = absurd (file_or_all (r.only (are_taken read) h.0))

  module _ (read : TakenFiles) (r : IsTheReading files main (are_taken read)) where
    pub mentions_first : BreaksMentions (hrefs_in read) main → FilesHaveOnlyVerdict files main (together_break 9)
    mentions_first b = record { is = (read, r.is, mentions_break b refl); only = only } where
      clause : (j : ℕ) → BreaksTogether read main j → together_break 9 ≡ together_break j
      clause j (mentions_break c e) = ap together_break (sym e)
      clause j (includes_break n i e) = absurd (n b)

      only : (other : FilesVerdict) → FilesHaveVerdict files main other → together_break 9 ≡ other
      only (file_breaks g j) h = absurd (all_or_file (r.only (file_breaks g j) h))
      only (together_break j) h = clause j (subst (λ x. BreaksTogether x main j) (sym (same_files (r.only (are_taken h.0) h.1))) h.2)
      only (are_taken other) h = absurd (h.1 9 (subst (λ x. BreaksTogether x main 9) (same_files (r.only (are_taken other) h.0)) (mentions_break b refl)))

    module _ (n : ¬ (BreaksMentions (hrefs_in read) main)) where
      pub includes_next : BreaksIncludes read → FilesHaveOnlyVerdict files main (together_break 10)
      includes_next b = record { is = (read, r.is, includes_break n b refl); only = only } where
        clause : (j : ℕ) → BreaksTogether read main j → together_break 10 ≡ together_break j
        clause j (mentions_break c e) = absurd (n c)
        clause j (includes_break m i e) = ap together_break (sym e)

        only : (other : FilesVerdict) → FilesHaveVerdict files main other → together_break 10 ≡ other
        only (file_breaks g j) h = absurd (all_or_file (r.only (file_breaks g j) h))
        only (together_break j) h = clause j (subst (λ x. BreaksTogether x main j) (sym (same_files (r.only (are_taken h.0) h.1))) h.2)
        only (are_taken other) h = absurd (h.1 10 (subst (λ x. BreaksTogether x main 10) (same_files (r.only (are_taken other) h.0)) (includes_break n b refl)))

      pub none_broken : ¬ (BreaksIncludes read) → FilesHaveOnlyVerdict files main (are_taken read)
      none_broken m = record { is = (r.is, none read refl); only = only } where
        none : (x : TakenFiles) → read ≡ x → (k : ℕ) → ¬ (BreaksTogether x main k)
        none x e k (mentions_break b i) = n (subst (λ y. BreaksMentions (hrefs_in y) main) (sym e) b)
        none x e k (includes_break l b i) = m (subst BreaksIncludes (sym e) b)

        only : (other : FilesVerdict) → FilesHaveVerdict files main other → are_taken read ≡ other
        only (file_breaks g j) h = absurd (all_or_file (r.only (file_breaks g j) h))
        only (together_break j) h = absurd (none h.0 (same_files (r.only (are_taken h.0) h.1)) j h.2)
        only (are_taken other) h = r.only (are_taken other) h.0
