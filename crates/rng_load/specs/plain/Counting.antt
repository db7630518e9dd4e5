-- The number of paths of mentions from a file, by its mentions; and what the marks of a count in progress mean.
use Rattle.std.specs.Prelude.{◌≡◌, ℕ, ◌+◌, ◌<◌, ◌≤◌, List, [], ◌∷◌, ◌++◌, map, length, zero, suc, Option, Some, ◌⊎◌}
use Rattle.std.specs.Borrow.{Bor}
use Rattle.std.specs.HashMap.{HashMap, get_by}
use Rattle.std.specs.Str.{bytes_eq}
use Rattle.rng_model.specs.names.Lists.{Among}
use Rattle.rng_load.specs.declared.paths.Mark.{Mark}
use Rattle.rng_load.specs.declared.paths.Mark.TheVariants.{Open, Counted}
use Rattle.rnc_model.specs.loading.Mentions.{Path, Mentions, IsCyclic, path_limit}
use Rattle.rnc_model.specs.loading.SchemaFile.{FileName}

-- the marks by name
abbrev pub Marks : Type 0
Marks = FileName → Option Mark

module _ {S : Type 0} where
  abbrev pub marks_of : HashMap (Bor (List ℕ)) Mark S → Marks
  marks_of marks f = get_by (λ k. bytes_eq f k.now) marks

-- the paths whose first step is mention `at` or a later one; `from` returns the paths that continue from a file
unfoldable pub paths_along : (FileName → List Path) → ℕ → List FileName → List Path
paths_along from at [] = []
paths_along from at (g ∷ gs) = map (λ p. at ∷ p) (from g) ++ paths_along from (at + 1) gs

module _ (mentions : FileName → List FileName) where
  -- the paths of mentions from a file with at most n steps, the empty one first
  unfoldable pub paths : ℕ → FileName → List Path
  paths zero f = [] ∷ []
  paths (suc n) f = [] ∷ paths_along (paths n) 0 (mentions f)

  -- there is a cycle of mentions, or there are too many paths
  abbrev pub Breaks : FileName → Type 0
  Breaks f = IsCyclic mentions f ⊎ ((n : ℕ) × path_limit < length (paths n f))

  -- a file has the empty path, and for each mention the paths of the mentioned file
  mutual
    pub data HasPaths : FileName → ℕ → Type 0 where
      has : {f : FileName} {n k : ℕ} → HavePaths (mentions f) k → n ≡ suc k → HasPaths f n

    pub data HavePaths : List FileName → ℕ → Type 0 where
      have_none : {n : ℕ} → n ≡ 0 → HavePaths [] n
      have_more : {g : FileName} {gs : List FileName} {m k n : ℕ} → HasPaths g m → HavePaths gs k → n ≡ m + k → HavePaths (g ∷ gs) n

  -- some path from the file has n steps
  pub data IsLong : ℕ → FileName → Type 0 where
    long_end : {n : ℕ} {f : FileName} → n ≡ 0 → IsLong n f
    long_more : {n m : ℕ} {f g : FileName} → Among g (mentions f) → IsLong n g → m ≡ suc n → IsLong m f

  -- the count may stop at a file: it breaks the rule, or some path from it is too long to continue
  abbrev pub StopsAt : ℕ → FileName → Type 0
  StopsAt levels f = Breaks f ⊎ IsLong levels f

  -- a file has n paths, and they are not too many
  abbrev pub HasFewPaths : FileName → ℕ → Type 0
  HasFewPaths f n = HasPaths f n × (n ≤ path_limit)

  -- the noted numbers are those of the files
  abbrev pub AreCounted : Marks → Type 0
  AreCounted marks = (f : FileName) (n : ℕ) → marks f ≡ Some (Counted n) → HasFewPaths f n

  -- in addition, the open files mention this one
  pub record IsMarked (f : FileName) (marks : Marks) : Type 0 where
    pub opened : (g : FileName) → marks g ≡ Some Open → Mentions mentions g f
    pub counted : AreCounted marks

  -- no other file is open than before
  pub record AreMore (old new : Marks) : Type 0 where
    pub opened : (f : FileName) → new f ≡ Some Open → old f ≡ Some Open
    pub counted : AreCounted new
