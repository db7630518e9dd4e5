-- Which files are given: once, twice or not at all.
use Rattle.std.proofs.Common.{◌≡◌, ◌≢◌, refl, sym, subst, ap, ◌∙◌, ℕ, ◌+◌, ◌<◌, ◌≤◌, List, [], ◌∷◌, ◌++◌, ◌⊎◌, inl, inr, Option, Some, None, String, Vec}
use Rattle.std.proofs.Common.{Bor, Bool, true, false, Result, Ok, Err, IfSome}
use Rattle.std.proofs.Common.{length, take, drop, get_or, append_assoc, string_bytes}
use Rattle.std.specs.Global.{Global}
use Rattle.std.specs.Option.{is_some}
use Rattle.std.specs.Prelude.{MatchOption}
use Rattle.std.proofs.lemmas.List.{map_more, take-append-drop, map-append, take_all, length-map}
use Rattle.rnc_model.specs.loading.SchemaFile.{named_files, FileName, NamedFile, IsMissing, IsHandedInTwice, IsHandedIn, BreaksLimit, BreaksOwn, missing}
use Rattle.rnc_model.specs.loading.SchemaFile.{handed_in_twice, too_large, bad_content, BreaksFileClause}
use Rattle.rnc_grammar.specs.declared.file_tree.FileTree as declared
use Rattle.rng_load.specs.declared.fault.FileFault.{FileFault}
use Rattle.rng_load.specs.declared.fault.FileFault.TheVariants as faults
use Rattle.rng_load.specs.views.FileFaults.{verdict_of}
use Rattle.rng_model.specs.names.Lists.{Among, here, there, HasTwo, first_and, both_later}
use Rattle.rnc_model.specs.loading.FileVerdicts.{FileVerdict, breaks, has_tree}
use Rattle.rng_load.specs.views.FileVerdicts.{FileHasVerdict, FileHasOnlyVerdict}
use Rattle.rnc_model.specs.loading.FileVerdicts.{ContentHasVerdict, ContentHasOnlyVerdict}
use Rattle.rng_load.proofs.NameLists.{in_none, in_cons, in_left, in_right, in_more}

module _ {A : Type 0} (P : A → A → Type 0) where
  two_or_later : {x : A} {xs : List A} → HasTwo P (x ∷ xs) → ((y : A) × Among y xs × P x y) ⊎ HasTwo P xs
  two_or_later (first_and {x} {y} {xs} a p) = inl (y, a, p)
  two_or_later (both_later h) = inr h

  none_two : HasTwo P [] → ⊥
  none_two h = elim h [ ]

  two_with_last : (xs : List A) (y : A) → HasTwo P (xs ++ y ∷ []) → HasTwo P xs ⊎ ((x : A) × Among x xs × P x y)
  two_with_last [] y h = elim (two_or_later h) [ inl t ↦ absurd (in_none t.1) | inr l ↦ absurd (none_two l) ]
  two_with_last (x ∷ xs) y h = elim (two_or_later h) [
    | inl t ↦ elim (in_more xs t.1) [ inl a ↦ inl (first_and a t.2) | inr e ↦ inr (x, here, subst (P x) e t.2) ]
    | inr l ↦ elim (two_with_last xs y l) [ inl m ↦ inl (both_later m) | inr t ↦ inr (t.0, there t.1, t.2) ]
  ]

  two_of : {x : A} {xs : List A} → Among x xs → (y : A) (ys : List A) → P x y → HasTwo P (xs ++ y ∷ ys)
  two_of (here {xs}) y ys p = first_and (in_right xs here) p
  two_of (there a) y ys p = both_later (two_of a y ys p)

  one_or_two : {x y : A} {xs : List A} → Among x xs → Among y xs → P x y → P y x → (x ≡ y) ⊎ HasTwo P xs
  one_or_two {x} {y} (here {xs}) b p q = elim (in_cons b) [ inl e ↦ inl (sym e) | inr c ↦ inr (first_and c p) ]
  one_or_two {x} {y} (there a) b p q = elim (in_cons b) [
    | inl e ↦ inr (first_and a (subst (λ w. P w x) e q))
    | inr c ↦ elim (one_or_two a c p q) [ inl e ↦ inl e | inr h ↦ inr (both_later h) ]
  ]

-- ---- one file more

abbrev IsOf : FileName → NamedFile → NamedFile → Type 0
IsOf f a b = (a.name ≡ f) × (b.name ≡ f)

module _ (files : List NamedFile) (f : FileName) (x : NamedFile) where
  pub still_missing : IsMissing files f → x.name ≢ f → IsMissing (files ++ x ∷ []) f
  still_missing m other file a = elim (in_more files a) [ inl b ↦ m file b | inr e ↦ λ is. other (ap (λ y. y.name) (sym e) ∙ is) ]

  pub found_last : IsMissing files f → x.name ≡ f → IsHandedIn (files ++ x ∷ []) f x.bytes
  found_last m is = record {
    there = subst (λ n. Among (record { name = n; bytes = x.bytes }) (files ++ x ∷ [])) is (in_right files here);
    once = λ two. elim (two_with_last (IsOf f) files x two) [ inl h ↦ no_two h | inr t ↦ m t.0 t.1 t.2.0 ];
  } where
    no_two : HasTwo (IsOf f) files → ⊥
    no_two h = let t = first_of h in m t.0 t.1 t.2 where
      first_of : {fs : List NamedFile} → HasTwo (IsOf f) fs → (y : NamedFile) × Among y fs × (y.name ≡ f)
      first_of (first_and {x} {y} {xs} a p) = (x, here, p.0)
      first_of (both_later h) = let t = first_of h in (t.0, there t.1, t.2)

  pub still_found : {bytes : List ℕ} → IsHandedIn files f bytes → x.name ≢ f → IsHandedIn (files ++ x ∷ []) f bytes
  still_found h other = record {
    there = in_left h.there (x ∷ []);
    once = λ two. elim (two_with_last (IsOf f) files x two) [ inl t ↦ h.once t | inr t ↦ other t.2.1 ];
  }

  pub found_again : {bytes : List ℕ} → IsHandedIn files f bytes → x.name ≡ f → (rest : List NamedFile) → IsHandedInTwice (files ++ x ∷ rest) f
  found_again h is rest = two_of (IsOf f) h.there x rest (refl, is)

pub none_missing : (f : FileName) → IsMissing [] f
none_missing f file a = absurd (in_none a)

-- ---- what a file is, uniquely

module _ (files : List NamedFile) (main f : FileName) where
  pub one_file : {bytes other : List ℕ} → IsHandedIn files f bytes → IsHandedIn files f other → bytes ≡ other
  one_file h i = elim (one_or_two (IsOf f) h.there i.there (refl, refl) (refl, refl)) [ inl e ↦ ap (λ x. x.bytes) e | inr two ↦ absurd (h.once two) ]

  not_there : {bytes : List ℕ} → IsMissing files f ⊎ IsHandedInTwice files f → IsHandedIn files f bytes → ⊥
  not_there (inl m) h = m _ h.there refl
  not_there (inr two) h = h.once two

  pub not_one : IsMissing files f ⊎ IsHandedInTwice files f → FileHasOnlyVerdict files main f (breaks 1)
  not_one n = record { is = is n; only = only } where
    is : IsMissing files f ⊎ IsHandedInTwice files f → BreaksOwn files main f 1
    is (inl m) = missing m refl
    is (inr two) = handed_in_twice two refl

    clause : (k : ℕ) → BreaksOwn files main f k → 1 ≡ k
    clause k (missing m e) = sym e
    clause k (handed_in_twice t e) = sym e
    clause k (too_large h l e) = absurd (not_there n h)
    clause k (bad_content h s b) = absurd (not_there n h)

    only : (other : FileVerdict) → FileHasVerdict files main f other → breaks 1 ≡ other
    only (breaks k) b = ap breaks (clause k b)
    only (has_tree t) b = absurd (not_there n b.handed_in)

  module _ (bytes : List ℕ) (h : IsHandedIn files f bytes) where
    pub is_too_large : BreaksLimit files main f bytes → FileHasOnlyVerdict files main f (breaks 2)
    is_too_large l = record { is = too_large h l refl; only = only } where
      large : {other : List ℕ} → IsHandedIn files f other → BreaksLimit files main f other
      large i = subst (BreaksLimit files main f) (one_file h i) l

      clause : (k : ℕ) → BreaksOwn files main f k → 2 ≡ k
      clause k (missing m e) = absurd (not_there (inl m) h)
      clause k (handed_in_twice t e) = absurd (not_there (inr t) h)
      clause k (too_large i l e) = sym e
      clause k (bad_content i s b) = absurd (s (large i))

      only : (other : FileVerdict) → FileHasVerdict files main f other → breaks 2 ≡ other
      only (breaks k) b = ap breaks (clause k b)
      only (has_tree t) b = absurd (b.small (large b.handed_in))

    pub is_content : ¬ (BreaksLimit files main f bytes) → (v : FileVerdict) → ContentHasOnlyVerdict bytes v → FileHasOnlyVerdict files main f v
    is_content small v c = record { is = is v c.is; only = only } where
      is : (v : FileVerdict) → ContentHasVerdict bytes v → FileHasVerdict files main f v
      is (breaks k) b = bad_content h small b
      is (has_tree t) b = record { bytes = bytes; handed_in = h; small = small; is = b }

      clause : (k : ℕ) → BreaksOwn files main f k → v ≡ breaks k
      clause k (missing m e) = absurd (not_there (inl m) h)
      clause k (handed_in_twice t e) = absurd (not_there (inr t) h)
      clause k (too_large i l e) = absurd (small (subst (BreaksLimit files main f) (one_file i h) l))
      clause k (bad_content i s b) = c.only (breaks k) (subst (λ bs. BreaksFileClause bs k) (one_file i h) b)

      only : (other : FileVerdict) → FileHasVerdict files main f other → v ≡ other
      only (breaks k) b = clause k b
      only (has_tree t) b = c.only (has_tree t) (subst (λ bs. ContentHasVerdict bs (has_tree t)) (one_file b.handed_in h) b.is)

-- ---- one round of the loop that looks for a file

abbrev NamedBytes : Type 0
NamedBytes = String Global × Vec ℕ Global

abbrev pub IsFound : List NamedFile → FileName → Option (Bor (List ℕ)) → Type 0
IsFound files f found = MatchOption found (IsMissing files f) (λ bytes. IsHandedIn files f bytes.now)

module _ (files : List NamedBytes) (i : ℕ) (l : i < length files) (d : NamedBytes) (f : FileName) where
  abbrev next : NamedFile
  next = record { name = string_bytes (get_or files i d).0; bytes = (get_or files i d).1.items }

  front : named_files (take (i + 1) files) ≡ named_files (take i files) ++ next ∷ []
  front = map_more (λ x. record { name = string_bytes x.0; bytes = x.1.items }) files i d l

  whole : named_files files ≡ named_files (take i files) ++ next ∷ named_files (drop (i + 1) files)
  whole = ap named_files (sym (take-append-drop (i + 1) files)) ∙ map-append (λ x. record { name = string_bytes x.0; bytes = x.1.items }) (take
      (i + 1) files) (drop (i + 1) files)
      ∙ ap (λ x. x ++ named_files (drop (i + 1) files)) front ∙ append_assoc (named_files (take i files)) (next ∷ []) (named_files (drop (i + 1) files))

  pub passed_by : (found : Option (Bor (List ℕ))) → next.name ≢ f → IsFound (named_files (take i files)) f found → IsFound (named_files (take
      (i + 1) files)) f found
  passed_by None other m = subst (λ fs. IsMissing fs f) (sym front) (still_missing (named_files (take i files)) f next m other)
  passed_by (Some bytes) other h = subst (λ fs. IsHandedIn fs f bytes.now) (sym front) (still_found (named_files (take i files)) f next h other)

  pub taken_up : (found : Option (Bor (List ℕ))) → is_some found ≡ false → next.name ≡ f → IsFound (named_files (take i files)) f found
      → (bytes : List ℕ) → bytes ≡ next.bytes → IsHandedIn (named_files (take (i + 1) files)) f bytes
  taken_up None none is m bytes e = subst (λ bs. IsHandedIn (named_files (take (i + 1) files)) f bs) (sym e)
      (subst (λ fs. IsHandedIn fs f next.bytes) (sym front) (found_last (named_files (take i files)) f next m is))
  taken_up (Some b) none is m bytes e = absurd cc

  pub met_again : (found : Option (Bor (List ℕ))) → is_some found ≡ true → next.name ≡ f → IsFound (named_files (take i files)) f found
      → IsHandedInTwice (named_files files) f
  met_again None some is m = absurd cc
  met_again (Some b) some is h = subst (λ fs. IsHandedInTwice fs f) (sym whole) (found_again (named_files (take i files)) f next h is (named_files (drop
      (i + 1) files)))

-- after the last round
pub all_seen : (files : List NamedBytes) (i : ℕ) → length files ≤ i → (f : FileName) (found : Option (Bor (List ℕ))) → IsFound (named_files
    (take i files)) f found →
    MatchOption found (IsMissing (named_files files) f ⊎ IsHandedInTwice (named_files files) f) (λ bytes. IsHandedIn (named_files files) f bytes.now)
all_seen files i l f None m = inl (subst (λ fs. IsMissing fs f) (ap named_files (take_all i files l)) m)
all_seen files i l f (Some b) h = subst (λ fs. IsHandedIn fs f b.now) (ap named_files (take_all i files l)) h

pub is_not : {b : Bool} → b ≡ false → b ≡ true → ⊥
is_not f t = cc

-- ---- the verdict on a file that is given

pub all_small : (files : List NamedFile) (main f bytes : List ℕ) → IsHandedIn files f bytes → ¬ (BreaksLimit files main f bytes) →
    (r : Result declared.FileTree FileFault) → IfSome (verdict_of r) (ContentHasOnlyVerdict bytes) → IfSome (verdict_of r) (FileHasOnlyVerdict files main f)
all_small files main f bytes h s (Ok t) c = is_content files main f bytes h s _ c
all_small files main f bytes h s (Err (faults.Clause k)) c = is_content files main f bytes h s _ c
all_small files main f bytes h s (Err faults.Memory) c = tt

pub length_named : (files : List NamedBytes) → length (named_files files) ≡ length files
length_named files = length-map files (λ x. record { name = string_bytes x.0; bytes = x.1.items })
