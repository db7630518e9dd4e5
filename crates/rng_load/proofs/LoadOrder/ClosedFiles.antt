-- The taken files mention no other files.
use Rattle.std.proofs.Common.{◌≡◌, refl, sym, subst, ap, ◌∙◌, ◌≤◌, Bool, true, false, cond, List, [], ◌∷◌, ◌++◌, length, map, arith, inl, inr}
use Rattle.std.proofs.Common.{append-nil, Some, None, Option, fold}
use Rattle.std.specs.Str.{bytes_eq}
use Rattle.std.proofs.lemmas.List.{length-append, length-map}
use Rattle.std.proofs.lemmas.Slice.Eq.{bytes_eq-Decides}
use Rattle.rng_model.specs.names.Lists.{Among, here, there}
use Rattle.rnc_model.specs.declarations.FileTree.{FileTree}
use Rattle.rnc_model.specs.loading.Loading.{TakenFiles, with_name, hrefs_of, hrefs_if, tree_in, IsTaken, none_yet, one_more, AreTaken}
use Rattle.rng_load.proofs.Patterns.PlainReading.{AreClosed, found_among}
use Rattle.rnc_model.specs.loading.SchemaFile.{FileName, NamedFile}
use Rattle.rng_load.proofs.NameLists.{false_true, in_cons, in_none, in_more}
use Rattle.rng_load.proofs.LoadOrder.TakenFiles.{is_order, first_of, kept_name, added_name}

kept_all : {x : FileName} (ns ms : List FileName) → Among x ns → Among x (fold with_name ns ms)
kept_all ns [] a = a
kept_all ns (m ∷ ms) a = kept_all (with_name ns m) ms (kept_name ns m a)

added_all : {x : FileName} (ns : List FileName) {ms : List FileName} → Among x ms → Among x (fold with_name ns ms)
added_all {x} ns (here {xs = ms}) = kept_all (with_name ns x) ms (added_name ns x)
added_all ns (there {y = m} {xs = ms} a) = added_all (with_name ns m) a

module _ (files : List NamedFile) (main : FileName) where
  -- what a taken file mentions is among the names
  mentioned_named : {read : TakenFiles} {names : List FileName} → IsTaken files main read names → (e : FileName × FileTree) → Among e read → (g : FileName) →
      Among g (hrefs_of e.1) → Among g names
  mentioned_named (none_yet r n) e a g h = absurd (in_none (subst (Among e) r a))
  mentioned_named (one_more {read} {all} {names} {more} {f} {t} taken next tree a m) e b g h = elim (in_more read (subst (Among e) a b)) [
    | inl c ↦ subst (Among g) (sym m) (kept_all names (hrefs_of t) (mentioned_named taken e c g h))
    | inr s ↦ subst (Among g) (sym m) (added_all names (subst (λ d. Among g (hrefs_of d.1)) s h))
  ]

  main_named : {read : TakenFiles} {names : List FileName} → IsTaken files main read names → Among main names
  main_named (none_yet r n) = subst (Among main) (sym n) here
  main_named (one_more {read} {all} {names} {more} {f} {t} taken next tree a m) = subst (Among main) (sym m) (kept_all names (hrefs_of t) (main_named taken))

  no_rest : {A : Type 0} (xs rest : List A) → length (xs ++ rest) ≤ length xs → rest ≡ []
  no_rest xs [] l = refl
  no_rest xs (y ∷ rest) l = let k = length-append xs (y ∷ rest) in absurd (omega (arith, l, k))

  -- once all files are taken, each name is that of a file
  all_taken : {read : TakenFiles} {names : List FileName} → IsTaken files main read names → length names ≤ length read → names ≡ map first_of read
  all_taken {read} {names} taken all =
      let o = is_order files main taken in
      let size = ap length o.parts in
      let keys = length-map read first_of in
      let none = no_rest (map first_of read) o.rest (omega (arith, size, keys, all)) in
      o.parts ∙ ap (λ ns. map first_of read ++ ns) none ∙ append-nil (map first_of read)

-- ---- files by their names

found_first : (e : FileName × FileTree) (o : Option FileTree) (b : Bool) → ((t : FileTree) × (o ≡ Some t)) → (t : FileTree) × (cond b (Some e.1) o ≡ Some t)
found_first e o true f = (e.1, refl)
found_first e o false f = f

found_here : (g : FileName) (e : FileName × FileTree) (o : Option FileTree) (b : Bool) → bytes_eq g e.0 ≡ b → g ≡ e.0 → (t : FileTree) × (cond b (Some e.1) o ≡ Some t)
found_here g e o true i s = (e.1, refl)
found_here g e o false i s = absurd (false_true (sym i ∙ (bytes_eq-Decides g e.0).1 s))

-- there is a file of this name
of_name : (g : FileName) (read : TakenFiles) → Among g (map first_of read) → (t : FileTree) × (tree_in read g ≡ Some t)
of_name g [] a = absurd (in_none a)
of_name g (e ∷ read) a = elim (in_cons a) [
  | inl s ↦ found_here g e (tree_in read g) (bytes_eq g e.0) refl s
  | inr b ↦ found_first e (tree_in read g) (bytes_eq g e.0) (of_name g read b)
]

none_in : (f g : FileName) (read : TakenFiles) (o : Option FileTree) → tree_in read f ≡ o → Among g (hrefs_if o) → (t : FileTree) ×
    (tree_in read f ≡ Some t) × Among g (hrefs_of t)
none_in f g read None e a = absurd (in_none a)
none_in f g read (Some t) e a = (t, e, a)

-- every file that one of them mentions is one of them
pub are_closed : (files : List NamedFile) (main : FileName) (read : TakenFiles) → AreTaken files main read → AreClosed read
are_closed files main read all f g a =
    let t = none_in f g read (tree_in read f) refl a in
    let e = found_among read f t.0 t.1 in
    let named = mentioned_named files main all.taken e.0 e.1 g (subst (λ u. Among g (hrefs_of u)) (sym e.2) t.2) in
    of_name g read (subst (Among g) (all_taken files main all.taken all.all) named)

-- and the main file is one of them
pub main_there : (files : List NamedFile) (main : FileName) (read : TakenFiles) → AreTaken files main read → (t : FileTree) × (tree_in read main ≡ Some t)
main_there files main read all = of_name main read (subst (Among main) (all_taken files main all.taken all.all) (main_named files main all.taken))
