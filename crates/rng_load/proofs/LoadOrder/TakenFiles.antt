-- Files taken in load order: their names are distinct, the taken files come first, and the order is unique.
use Rattle.std.proofs.Common.{◌≡◌, refl, sym, subst, ap, ◌∙◌, ℕ, zero, suc, ◌<◌, ◌≤◌, Bool, true, false, cond, List, [], ◌∷◌, ◌++◌, length, map, arith, ◌⊎◌}
use Rattle.std.proofs.Common.{inl, inr}
use Rattle.std.proofs.Common.{append-nil, append_assoc, Some, Option, slice_get}
use Rattle.std.specs.List.{list_any, fold}
use Rattle.std.specs.Str.{bytes_eq}
use Rattle.std.proofs.lemmas.List.{length-append, length-map, map-append}
use Rattle.rng_model.proofs.Members.{among_mapped}
use Rattle.rng_model.specs.names.Lists.{Among, here, there, HasTwice}
use Rattle.rnc_model.specs.declarations.FileTree.{FileTree}
use Rattle.rnc_model.specs.loading.Loading.{TakenFiles, with_name, hrefs_of, IsTaken, none_yet, one_more, AreTaken, IsFirstBroken, FilesVerdict, file_breaks}
use Rattle.rnc_model.specs.loading.Loading.{together_break, are_taken}
use Rattle.rnc_model.specs.loading.SchemaFile.{FileName, NamedFile, HasTree, BreaksOwn}
use Rattle.rnc_model.specs.loading.FileVerdicts.{breaks, has_tree}
use Rattle.rng_load.specs.views.FileVerdicts.{FileHasOnlyVerdict}
use Rattle.rng_load.specs.views.LoadingFaults.{IsReading, IsTheReading}
use Rattle.rng_load.proofs.FileContent.{tree_or_clause}
use Rattle.rng_load.proofs.NameLists.{false_true, in_none, in_cons, in_left, in_right, in_either, none_twice, twice_or, differ_more, differ_front}
use Rattle.rng_load.proofs.NameLists.{differ_parts, no_more, from_map, any_in, in_any}

-- ---- names to which others are added

by_grows : (n : FileName) (ns : List FileName) (b : Bool) → (rest : List FileName) × (cond b ns (ns ++ n ∷ []) ≡ ns ++ rest)
by_grows n ns true = ([], sym (append-nil ns))
by_grows n ns false = (n ∷ [], refl)

pub grows : (ns ms : List FileName) → (rest : List FileName) × (fold with_name ns ms ≡ ns ++ rest)
grows ns [] = ([], sym (append-nil ns))
grows ns (m ∷ ms) =
    let a = by_grows m ns (list_any (λ k. bytes_eq m k) ns) in
    let b = grows (with_name ns m) ms in
    (a.0 ++ b.0, b.1 ∙ ap (λ ks. ks ++ b.0) a.1 ∙ append_assoc ns a.0 b.0)

by_kept : {x : FileName} (n : FileName) (ns : List FileName) (b : Bool) → Among x ns → Among x (cond b ns (ns ++ n ∷ []))
by_kept n ns true p = p
by_kept n ns false p = in_left p (n ∷ [])

by_added : (n : FileName) (ns : List FileName) (b : Bool) → list_any (λ m. bytes_eq n m) ns ≡ b → Among n (cond b ns (ns ++ n ∷ []))
by_added n ns true h = any_in n ns h
by_added n ns false h = in_right ns here

by_origin : {x : FileName} (n : FileName) (ns : List FileName) (b : Bool) → Among x (cond b ns (ns ++ n ∷ [])) → Among x ns ⊎ (x ≡ n)
by_origin n ns true p = inl p
by_origin n ns false p = elim (in_either ns p) [ inl a ↦ inl a | inr b ↦ elim (in_cons b) [ inl e ↦ inr e | inr c ↦ absurd (in_none c) ] ]

pub kept_name : {x : FileName} (ns : List FileName) (n : FileName) → Among x ns → Among x (with_name ns n)
kept_name ns n p = by_kept n ns (list_any (λ m. bytes_eq n m) ns) p

pub added_name : (ns : List FileName) (n : FileName) → Among n (with_name ns n)
added_name ns n = by_added n ns (list_any (λ m. bytes_eq n m) ns) refl

pub name_origin : {x : FileName} (ns : List FileName) (n : FileName) → Among x (with_name ns n) → Among x ns ⊎ (x ≡ n)
name_origin ns n p = by_origin n ns (list_any (λ m. bytes_eq n m) ns) p

pub name_grows : (ns : List FileName) (n : FileName) → (rest : List FileName) × (with_name ns n ≡ ns ++ rest)
name_grows ns n = by_grows n ns (list_any (λ m. bytes_eq n m) ns)

by_differ : (n : FileName) (ns : List FileName) (b : Bool) → list_any (λ m. bytes_eq n m) ns ≡ b → ¬ (HasTwice ns) → ¬ (HasTwice (cond b ns (ns ++ n ∷ [])))
by_differ n ns true h d = d
by_differ n ns false h d = differ_more ns n d (λ p. false_true (sym h ∙ in_any p))

pub name_differs : (ns : List FileName) (n : FileName) → ¬ (HasTwice ns) → ¬ (HasTwice (with_name ns n))
name_differs ns n d = by_differ n ns (list_any (λ m. bytes_eq n m) ns) refl d

differ_all : (ns ms : List FileName) → ¬ (HasTwice ns) → ¬ (HasTwice (fold with_name ns ms))
differ_all ns [] d = d
differ_all ns (m ∷ ms) d = differ_all (with_name ns m) ms (by_differ m ns (list_any (λ k. bytes_eq m k) ns) refl d)

-- ---- an index after the front of a list, and at its end

at_next : {A : Type 0} (xs rest : List A) {x : A} → slice_get (xs ++ rest) (length xs) ≡ Some x → (more : List A) × (rest ≡ x ∷ more)
at_next [] [] e = absurd cc
at_next [] (y ∷ ys) {x} e = (ys, let same : y ≡ x = cc in ap (λ z. z ∷ ys) same)
at_next (y ∷ xs) rest e = at_next xs rest e

pub none_beyond : {A : Type 0} (xs : List A) (i : ℕ) {x : A} → slice_get xs i ≡ Some x → length xs ≤ i → ⊥
none_beyond [] i e l = cc
none_beyond (y ∷ xs) zero e l = omega (arith, l)
none_beyond (y ∷ xs) (suc i) e l = none_beyond xs i e (omega (arith, l))

less_or_same : (m n : ℕ) → m ≤ n → (m < n) ⊎ (m ≡ n)
less_or_same zero zero l = inr refl
less_or_same zero (suc n) l = inl (omega arith)
less_or_same (suc m) zero l = absurd (omega (arith, l))
less_or_same (suc m) (suc n) l = elim (less_or_same m n (omega (arith, l))) [ inl a ↦ inl (omega (arith, a)) | inr e ↦ inr (ap suc e) ]

abbrev pub first_of : (FileName × FileTree) → FileName
first_of e = e.0

module _ (files : List NamedFile) (main : FileName) where
  -- ---- the names

  -- those of the taken files come first, and there are no duplicates
  pub record IsOrder (read : TakenFiles) (names : List FileName) : Type 0 where
    pub rest : List FileName
    pub parts : names ≡ map first_of read ++ rest
    pub differ : ¬ (HasTwice names)

  pub is_order : {read : TakenFiles} {names : List FileName} → IsTaken files main read names → IsOrder read names
  is_order (none_yet {read} {names} r n) = record {
    rest = main ∷ [];
    parts = n ∙ ap (λ es. map first_of es ++ main ∷ []) (sym r);
    differ = subst (λ ns. ¬ (HasTwice ns)) (sym n) (λ t. elim (twice_or t) [ inl a ↦ in_none a | inr l ↦ none_twice l ]);
  }
  is_order (one_more {read} {all} {names} {more} {f} {t} taken next tree a m) =
      let o = is_order taken in
      let where_at : slice_get (map first_of read ++ o.rest) (length (map first_of read)) ≡ Some f =
      ap (slice_get (map first_of read ++ o.rest)) (length-map read first_of) ∙ ap (λ ns. slice_get ns (length read)) (sym o.parts) ∙ next in
      let n = at_next (map first_of read) o.rest where_at in
      let g = grows names (hrefs_of t) in
      record {
        rest = n.0 ++ g.0;
        parts = m ∙ g.1 ∙ ap (λ ns. ns ++ g.0) (o.parts ∙ ap (λ ns. map first_of read ++ ns) n.1) ∙ append_assoc (map first_of read) (f ∷ n.0) g.0
            ∙ sym (append_assoc (map first_of read) (f ∷ []) (n.0 ++ g.0)) ∙ ap (λ ns. ns ++ (n.0 ++ g.0)) (sym (map-append first_of read
            ((f, t) ∷ []))) ∙ ap (λ es. map first_of es ++ (n.0 ++ g.0)) (sym a);
        differ = subst (λ ns. ¬ (HasTwice ns)) (sym m) (differ_all names (hrefs_of t) o.differ);
      }

  -- the file that is taken next is not taken yet
  pub fresh : {read : TakenFiles} {names : List FileName} {f : FileName} → IsTaken files main read names → slice_get names (length read) ≡ Some f → ¬ (Among f
      (map first_of read))
  fresh {read} {names} {f} taken next a =
      let o = is_order taken in
      let where_at : slice_get (map first_of read ++ o.rest) (length (map first_of read)) ≡ Some f =
      ap (slice_get (map first_of read ++ o.rest)) (length-map read first_of) ∙ ap (λ ns. slice_get ns (length read)) (sym o.parts) ∙ next in
      let n = at_next (map first_of read) o.rest where_at in
      differ_parts (map first_of read) (subst (λ ns. ¬ (HasTwice ns)) (o.parts ∙ ap (λ ns. map first_of read ++ ns) n.1) o.differ) a here

  -- every taken file is given, so there are at most as many
  all_handed_in : {read : TakenFiles} {names : List FileName} → IsTaken files main read names → (e : FileName × FileTree) → Among e read → Among e.0 (map
      (λ x. x.name) files)
  all_handed_in (none_yet r n) e a = absurd (in_none (subst (Among e) r a))
  all_handed_in (one_more {read} {all} {names} {more} {f} {t} taken next tree a m) e b =
      elim (in_either_last read (subst (Among e) a b)) [
        | inl c ↦ all_handed_in taken e c
        | inr s ↦ subst (λ g. Among g (map (λ x. x.name) files)) (ap first_of (sym s)) (among_mapped (λ x. x.name) tree.handed_in.there)
      ] where
        in_either_last : {e d : FileName × FileTree} (es : TakenFiles) → Among e (es ++ d ∷ []) → Among e es ⊎ (e ≡ d)
        in_either_last [] a = elim (in_cons a) [ inl s ↦ inr s | inr n ↦ absurd (in_none n) ]
        in_either_last {e} {d} (x ∷ es) a = elim (in_cons a) [
          | inl s ↦ inl (subst (λ y. Among e (y ∷ es)) s here)
          | inr b ↦ elim (in_either_last es b) [ inl c ↦ inl (there c) | inr s ↦ inr s ]
        ]

  pub few_taken : {read : TakenFiles} {names : List FileName} → IsTaken files main read names → length read ≤ length files
  few_taken {read} {names} taken =
      let o = is_order taken in
      let few = no_more (map first_of read) (map (λ x. x.name) files) (differ_front (map first_of read) o.rest (subst (λ ns. ¬ (HasTwice ns)) o.parts o.differ))
      (λ y p. let r = from_map first_of read p in subst (λ g. Among g (map (λ x. x.name) files)) (sym r.2) (all_handed_in taken r.0 r.1)) in
      omega (arith, few, length-map read first_of, length-map files (λ x. x.name))

  -- ---- the order is unique

  -- the same, and each file has its tree as its only verdict
  pub data IsFirm : TakenFiles → List FileName → Type 0 where
    none_firm : {read : TakenFiles} {names : List FileName} → read ≡ [] → names ≡ main ∷ [] → IsFirm read names
    more_firm : {read all : TakenFiles} {names more : List FileName} {f : FileName} {t : FileTree} → IsFirm read names → slice_get names (length read) ≡ Some f →
        FileHasOnlyVerdict files main f (has_tree t) → all ≡ read ++ (f, t) ∷ [] → more ≡ fold with_name names (hrefs_of t) → IsFirm all more

  pub firm_taken : {read : TakenFiles} {names : List FileName} → IsFirm read names → IsTaken files main read names
  firm_taken (none_firm r n) = none_yet r n
  firm_taken (more_firm firm next v a m) = one_more (firm_taken firm) next v.is a m

  length_last : (read : TakenFiles) (e : FileName × FileTree) (all : TakenFiles) → all ≡ read ++ e ∷ [] → length all ≡ suc (length read)
  length_last read e all a = let l = length-append read (e ∷ []) in let k = ap length a in omega (arith, l, k)

  same_name : {f g : FileName} → ◌≡◌ {A = Option FileName} (Some f) (Some g) → f ≡ g
  same_name e = cc

  same_tree : {t u : FileTree} → has_tree t ≡ has_tree u → t ≡ u
  same_tree e = cc

  abbrev Same : TakenFiles → TakenFiles → List FileName → List FileName → Type 0
  Same read other names more = (read ≡ other) × (names ≡ more)

  pub same_length : {read other : TakenFiles} {names more : List FileName} → IsFirm read names → IsTaken files main other more → length read ≡ length other
      → Same read other names more
  same_length (none_firm r n) (none_yet s m) l = (r ∙ sym s, n ∙ sym m)
  same_length (none_firm {read} {names} r n) (one_more {read = other} {all} {names = ns} {more} {f} {t} taken next tree a m) l =
      let k = length_last other (f, t) all a in let z = ap length r in absurd (omega (arith, l, k, z))
  same_length (more_firm {read} {all} {names} {more} {f} {t} firm next v a m) (none_yet {read = other} {names = ns} s n) l =
      let k = length_last read (f, t) all a in let z = ap length s in absurd (omega (arith, l, k, z))
  same_length (more_firm {read} {all} {names} {more} {f} {t} firm next v a m)
      (one_more {read = r2} {all = a2} {names = n2} {more = m2} {f = g} {t = u} taken x tree b e) l =
      let j = length_last read (f, t) all a in
      let k = length_last r2 (g, u) a2 b in
      let i = same_length firm taken (omega (arith, l, j, k)) in
      let ff : f ≡ g = same_name (sym next ∙ ap (λ ns. slice_get ns (length read)) i.1 ∙ ap (slice_get n2) (ap length i.0) ∙ x) in
      let tt : t ≡ u = same_tree (v.only (has_tree u) (subst (λ h. HasTree files main h u) (sym ff) tree)) in (
        a ∙ ap (λ es. es ++ (f, t) ∷ []) i.0 ∙ ap (λ h. r2 ++ (h, t) ∷ []) ff ∙ ap (λ w. r2 ++ (g, w) ∷ []) tt ∙ sym b,
        m ∙ ap (λ ns. fold with_name ns (hrefs_of t)) i.1 ∙ ap (λ w. fold with_name n2 (hrefs_of w)) tt ∙ sym e,
      )

  -- the first k files
  pub record FirmBeginning (k : ℕ) : Type 0 where
    pub read : TakenFiles
    pub names : List FileName
    pub firm : IsFirm read names
    pub long : length read ≡ k
    pub file : FileName
    pub tree : FileTree
    pub next : slice_get names (length read) ≡ Some file
    pub is : FileHasOnlyVerdict files main file (has_tree tree)

  pub firm_beginning : {read : TakenFiles} {names : List FileName} → IsFirm read names → (k : ℕ) → k < length read → FirmBeginning k
  firm_beginning (none_firm r n) k l = let z = ap length r in absurd (omega (arith, l, z))
  firm_beginning (more_firm {read} {all} {names} {more} {f} {t} firm next v a m) k l = elim (less_or_same k (length read) (let j = length_last read
      (f, t) all a in omega (arith, l, j))) [
        | inl less ↦ firm_beginning firm k less
        | inr same ↦ record { read = read; names = names; firm = firm; long = sym same; file = f; tree = t; next = next; is = v }
      ]

  pub record TakenBeginning (k : ℕ) : Type 0 where
    pub read : TakenFiles
    pub names : List FileName
    pub taken : IsTaken files main read names
    pub long : length read ≡ k
    pub file : FileName
    pub tree : FileTree
    pub next : slice_get names (length read) ≡ Some file
    pub is : HasTree files main file tree

  pub taken_beginning : {read : TakenFiles} {names : List FileName} → IsTaken files main read names → (k : ℕ) → k < length read → TakenBeginning k
  taken_beginning (none_yet r n) k l = let z = ap length r in absurd (omega (arith, l, z))
  taken_beginning (one_more {read} {all} {names} {more} {f} {t} taken next h a m) k l = elim (less_or_same k (length read) (let j = length_last read
      (f, t) all a in omega (arith, l, j))) [
        | inl less ↦ taken_beginning taken k less
        | inr same ↦ record { read = read; names = names; taken = taken; long = sym same; file = f; tree = t; next = next; is = h }
      ]

  -- ---- one verdict on the files by themselves

  -- the result once the files are read: all of them, or up to the first that breaks a clause as its only verdict
  pub record IsFirmlyBroken (f : FileName) (k : ℕ) : Type 0 where
    pub before : TakenFiles
    pub names : List FileName
    pub firm : IsFirm before names
    pub next : slice_get names (length before) ≡ Some f
    pub broken : FileHasOnlyVerdict files main f (breaks k)

  pub record AreFirm (read : TakenFiles) : Type 0 where
    pub names : List FileName
    pub firm : IsFirm read names
    pub all : length names ≤ length read

  less_equal_more : (m n : ℕ) → (m < n) ⊎ ((m ≡ n) ⊎ (n < m))
  less_equal_more zero zero = inr (inl refl)
  less_equal_more zero (suc n) = inl (omega arith)
  less_equal_more (suc m) zero = inr (inr (omega arith))
  less_equal_more (suc m) (suc n) = elim (less_equal_more m n) [
    | inl l ↦ inl (omega (arith, l))
    | inr o ↦ elim o [ inl e ↦ inr (inl (ap suc e)) | inr g ↦ inr (inr (omega (arith, g))) ]
  ]

  same_clause : {j k : ℕ} → breaks j ≡ breaks k → j ≡ k
  same_clause e = cc

  -- the beginning of a firm order, compared to another order that continues with a file that breaks a clause, or has no
  -- name left
  no_break_before : {read other : TakenFiles} {names more : List FileName} {g : FileName} {j : ℕ} → IsFirm read names → IsTaken files main other more →
      slice_get more (length other) ≡ Some g → BreaksOwn files main g j → length other < length read → ⊥
  no_break_before {read} {other} {names} {more} {g} {j} firm taken next b l =
      let o = firm_beginning firm (length other) l in
      let s = same_length o.firm taken o.long in
      let ff : o.file ≡ g = same_name (sym o.next ∙ ap (λ ns. slice_get ns (length o.read)) s.1 ∙ ap (slice_get more) o.long ∙ next) in
      tree_or_clause (o.is.only (breaks j) (subst (λ h. BreaksOwn files main h j) (sym ff) b))

  no_end_before : {read other : TakenFiles} {names more : List FileName} → IsFirm read names → IsTaken files main other more → length more ≤ length other
      → length other < length read → ⊥
  no_end_before {read} {other} {names} {more} firm taken end l =
      let o = firm_beginning firm (length other) l in
      let s = same_length o.firm taken o.long in
      none_beyond more (length other) (sym (ap (λ ns. slice_get ns (length o.read)) s.1 ∙ ap (slice_get more) o.long) ∙ o.next) end

  -- an order that continues after a firm one
  goes_on_alike : {read other : TakenFiles} {names more : List FileName} → IsFirm read names → IsTaken files main other more → length read < length other →
      (f : FileName) × (t : FileTree) × (slice_get names (length read) ≡ Some f) × HasTree files main f t
  goes_on_alike {read} {other} {names} {more} firm taken l =
      let o = taken_beginning taken (length read) l in
      let s = same_length firm o.taken (sym o.long) in
      (o.file, o.tree, ap (λ ns. slice_get ns (length read)) s.1 ∙ ap (slice_get o.names) (sym o.long) ∙ o.next, o.is)

  -- if all files have their trees, none breaks a clause by itself
  pub all_firm : {read : TakenFiles} {g : FileName} {j : ℕ} → AreFirm read → IsFirstBroken files main g j → ⊥
  all_firm {read} a b = elim (less_equal_more (length b.before) (length read)) [
    | inl l ↦ no_break_before a.firm b.taken b.next b.broken l
    | inr o ↦ elim o [
      | inl e ↦
          let s = same_length a.firm b.taken (sym e) in
          none_beyond a.names (length read) (ap (λ ns. slice_get ns (length read)) s.1 ∙ ap (slice_get b.names) (sym e) ∙ b.next) a.all
      | inr g ↦ let n = goes_on_alike a.firm b.taken g in none_beyond a.names (length read) n.2 a.all
    ]
  ]

  pub one_order : {read other : TakenFiles} → AreFirm read → AreTaken files main other → read ≡ other
  one_order {read} {other} a b = elim (less_equal_more (length other) (length read)) [
    | inl l ↦ absurd (no_end_before a.firm b.taken b.all l)
    | inr o ↦ elim o [
      | inl e ↦ (same_length a.firm b.taken (sym e)).0
      | inr g ↦ absurd (let n = goes_on_alike a.firm b.taken g in none_beyond a.names (length read) n.2 a.all)
    ]
  ]

  broken_not_read : {read other : TakenFiles} {names more : List FileName} {f : FileName} {k : ℕ} → IsFirm read names → slice_get names (length read) ≡ Some f →
      FileHasOnlyVerdict files main f (breaks k) → IsTaken files main other more → length read < length other → ⊥
  broken_not_read firm next v taken l =
      let n = goes_on_alike firm taken l in
      let ff = same_name (sym next ∙ n.2) in
      tree_or_clause (sym (v.only (has_tree n.1) (subst (λ h. HasTree files main h n.1) (sym ff) n.3)))

  pub one_broken : {f g : FileName} {k j : ℕ} → IsFirmlyBroken f k → IsFirstBroken files main g j → (f ≡ g) × (k ≡ j)
  one_broken {f} {g} {k} {j} a b = elim (less_equal_more (length b.before) (length a.before)) [
    | inl l ↦ absurd (no_break_before a.firm b.taken b.next b.broken l)
    | inr o ↦ elim o [
      | inl e ↦
          let s = same_length a.firm b.taken (sym e) in
          let ff : f ≡ g = same_name (sym a.next ∙ ap (λ ns. slice_get ns (length a.before)) s.1 ∙ ap (slice_get b.names) (sym e) ∙ b.next) in
          (ff, same_clause (a.broken.only (breaks j) (subst (λ h. BreaksOwn files main h j) (sym ff) b.broken)))
      | inr l ↦ absurd (broken_not_read a.firm a.next a.broken b.taken l)
    ]
  ]

  pub broken_none_taken : {f : FileName} {k : ℕ} {other : TakenFiles} → IsFirmlyBroken f k → AreTaken files main other → ⊥
  broken_none_taken {f} {k} {other} a b = elim (less_equal_more (length other) (length a.before)) [
    | inl l ↦ no_end_before a.firm b.taken b.all l
    | inr o ↦ elim o [
      | inl e ↦
          let s = same_length a.firm b.taken (sym e) in
          none_beyond b.names (length other) (sym (ap (λ ns. slice_get ns (length a.before)) s.1 ∙ ap (slice_get b.names) (sym e)) ∙ a.next) b.all
      | inr l ↦
          let n = goes_on_alike a.firm b.taken l in
          let ff = same_name (sym a.next ∙ n.2) in
          tree_or_clause (sym (a.broken.only (has_tree n.1) (subst (λ h. HasTree files main h n.1) (sym ff) n.3)))
    ]
  ]

  -- ---- what the walk returns

  pub all_read : (read : TakenFiles) → AreFirm read → IsTheReading files main (are_taken read)
  all_read read a = record { is = record { names = a.names; taken = firm_taken a.firm; all = a.all }; only = only } where
    only : (other : FilesVerdict) → IsReading files main other → are_taken read ≡ other
    only (file_breaks f k) h = absurd (all_firm a h)
    only (together_break k) h = absurd h
    only (are_taken other) h = ap are_taken (one_order a h)

  pub first_broken : (f : FileName) (k : ℕ) → IsFirmlyBroken f k → IsTheReading files main (file_breaks f k)
  first_broken f k a = record {
    is = record { before = a.before; names = a.names; taken = firm_taken a.firm; next = a.next; broken = a.broken.is };
    only = only;
  } where
    only : (other : FilesVerdict) → IsReading files main other → file_breaks f k ≡ other
    only (file_breaks g j) h = let s = one_broken a h in ap (λ x. file_breaks x k) s.0 ∙ ap (file_breaks g) s.1
    only (together_break j) h = absurd h
    only (are_taken other) h = absurd (broken_none_taken a h)
