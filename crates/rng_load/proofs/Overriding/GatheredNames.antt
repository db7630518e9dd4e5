-- The names that are gathered file by file are those of the grammar.
use Rattle.std.proofs.Common.{◌≡◌, refl, sym, subst, ap, ◌∙◌, ℕ, ◌+◌, ◌<◌, ◌≤◌, List, [], ◌∷◌, ◌++◌, length, map, take, arith, ◌⊎◌, inl, inr, Option, Some}
use Rattle.std.proofs.Common.{None, option_map, String, Bool, true, false}
use Rattle.std.proofs.Common.{slice_get, string_bytes, zero, suc, cond, append-nil, append_assoc, ◌↔◌, Bor}
use Rattle.std.specs.Global.{Global}
use Rattle.std.specs.List.{flat_map, list_any}
use Rattle.std.specs.Bool.{IsTrue}
use Rattle.std.specs.Map.{lookup}
use Rattle.std.specs.Str.{bytes_eq}
use Rattle.rng_model.specs.names.Lists.{Among, here, there, HasTwice}
use Rattle.rnc_grammar.specs.declared.file_tree.FileTree as declared
use Rattle.rnc_model.specs.grammar.Syntax as tree
use Rattle.rnc_model.specs.grammar.Syntax.{applied}
use Rattle.rnc_model.specs.declarations.FileTree.{FileTree, grammar_components}
use Rattle.rnc_grammar.specs.views.View.{file_of}
use Rattle.rnc_model.specs.loading.Mentions.{MentionedFile, mention_of, mentions_of_component, mentions_of_components, HasName, NamesIt, of_first, of_later}
use Rattle.rnc_model.specs.loading.Mentions.{of_start, of_define, of_div, of_braces, of_file}
use Rattle.std.proofs.lemmas.List.{map-append, take_all, take-append-le, length-map}
use Rattle.std.proofs.lemmas.Option.{same_Some}
use Rattle.rng_model.proofs.Places.{ends_before, at_among}
use Rattle.rng_load.specs.plain.ComponentNames.{Names, gather, gather_component, gather_if, HasIt, no_names}
use Rattle.rnc_model.specs.loading.Loading.{TakenFiles, with_name, tree_in, hrefs_of}
use Rattle.rnc_model.specs.loading.FileGrammars.{grammar_if, grammar_in}
use Rattle.rnc_model.specs.loading.SchemaFile.{FileName}
use Rattle.rng_load.proofs.Overriding.MentionedNames.{tree_found}
use Rattle.rng_load.proofs.NameLists.{any_in, in_any, from_map, false_true, in_cons, in_none, in_first, in_left, in_right, none_twice, no_more}
use Rattle.rng_load.proofs.LoadOrder.TakenFiles.{kept_name, added_name, name_origin, name_grows, name_differs}
use Rattle.rng_load.proofs.LoadOrder.NameSets.{any_seen}
use Rattle.rng_load.proofs.Patterns.PlainReading.{grammar_mentions}

abbrev href : MentionedFile → FileName
href m = (mention_of m).href

-- ---- lists

next_taken : {x f : FileName} (xs : List FileName) (i : ℕ) → slice_get xs i ≡ Some f → Among x (take (suc i) xs) → Among x (take i xs) ⊎ (x ≡ f)
next_taken [] i e a = absurd cc
next_taken {x} {f} (y ∷ xs) zero e a = let s : y ≡ f = cc in elim (in_cons a) [ inl h ↦ inr (h ∙ s) | inr n ↦ absurd (in_none n) ]
next_taken (y ∷ xs) (suc i) e a = elim (in_cons a) [
  | inl h ↦ inl (in_first (take i xs) h)
  | inr b ↦ elim (next_taken xs i e b) [ inl c ↦ inl (there c) | inr s ↦ inr s ]
]

one_more_taken : {x f : FileName} (xs : List FileName) (i : ℕ) → slice_get xs i ≡ Some f → Among x (take (i + 1) xs) → Among x (take i xs) ⊎ (x ≡ f)
one_more_taken {x} xs i e a = let j : i + 1 ≡ suc i = omega arith in next_taken xs i e (subst (λ n. Among x (take n xs)) j a)

index_within : {f : FileName} (xs : List FileName) (i : ℕ) → slice_get xs i ≡ Some f → i + 1 ≤ length xs
index_within [] i e = absurd cc
index_within (y ∷ xs) zero e = omega arith
index_within (y ∷ xs) (suc i) e = let l = index_within xs i e in omega (arith, l)

by_first : (h f : FileName) (x : FileName × FileTree) (read : TakenFiles) (t : FileTree) (b : Bool) → cond b (Some x.1) (tree_in read f) ≡ Some t → Among h (hrefs_of t)
    → (tree_in read f ≡ Some t → Among h (flat_map (λ e. hrefs_of e.1) read)) → Among h (hrefs_of x.1 ++ flat_map (λ e. hrefs_of e.1) read)
by_first h f x read t true e a i = let s : x.1 ≡ t = cc in in_left (subst (λ u. Among h (hrefs_of u)) (sym s) a) (flat_map (λ e. hrefs_of e.1) read)
by_first h f x read t false e a i = in_right (hrefs_of x.1) (i e)

mentioned_by : (read : TakenFiles) (h f : FileName) (t : FileTree) → tree_in read f ≡ Some t → Among h (hrefs_of t) → Among h (flat_map (λ e. hrefs_of e.1) read)
mentioned_by [] h f t e a = absurd cc
mentioned_by (x ∷ read) h f t e a = by_first h f x read t (bytes_eq f x.0) e a (λ i. mentioned_by read h f t i a)

-- ---- more names

pub record Extends (more less : Names) : Type 0 where
  pub names : (y : Option FileName) → HasIt less y → HasIt more y
  pub files : (f : FileName) → Among f less.included → Among f more.included

same : (ns : Names) → Extends ns ns
same ns = record { names = λ y h. h; files = λ f a. a }

pub beyond : {a b c : Names} → Extends a b → Extends b c → Extends a c
beyond e g = record { names = λ y h. e.names y (g.names y h); files = λ f a. e.files f (g.files f a) }

one_define : (ns : Names) (n : FileName) → Extends (record { defines = with_name ns.defines n; has_start = ns.has_start; included = ns.included }) ns
one_define ns n = record { names = names; files = λ f a. a } where
  names : (y : Option FileName) → HasIt ns y → HasIt (record { defines = with_name ns.defines n; has_start = ns.has_start; included = ns.included }) y
  names None h = h
  names (Some m) h = kept_name ns.defines n h

one_start : (ns : Names) → Extends (record { defines = ns.defines; has_start = true; included = ns.included }) ns
one_start ns = record { names = names; files = λ f a. a } where
  names : (y : Option FileName) → HasIt ns y → HasIt (record { defines = ns.defines; has_start = true; included = ns.included }) y
  names None h = refl
  names (Some m) h = h

one_file : (ns : Names) (f : FileName) → Extends (record { defines = ns.defines; has_start = ns.has_start; included = with_name ns.included f }) ns
one_file ns f = record { names = names; files = λ g a. kept_name ns.included f a } where
  names : (y : Option FileName) → HasIt ns y → HasIt (record { defines = ns.defines; has_start = ns.has_start; included = with_name ns.included f }) y
  names None h = h
  names (Some m) h = h

mutual
  pub gather_extends : (cs : tree.ComponentsAt applied) (ns : Names) → Extends (gather ns cs) ns
  gather_extends tree.no_components ns = same ns
  gather_extends (tree.component_and c cs) ns = beyond (gather_extends cs (gather_component ns c)) (component_extends c ns)

  component_extends : (c : tree.ComponentAt applied) (ns : Names) → Extends (gather_component ns c) ns
  component_extends (tree.start m p) ns = one_start ns
  component_extends (tree.define n m p) ns = one_define ns n
  component_extends (tree.div cs) ns = gather_extends cs ns
  component_extends (tree.include m over) ns = beyond (gather_extends over _) (one_file ns m.href)

-- ---- what is gathered is a name of the components, or a file whose names they have

module _ (read : TakenFiles) where
  -- the names of the grammar of that file are names of the components
  abbrev GivesAll : tree.ComponentsAt applied → FileName → Type 0
  GivesAll cs f = (gcs : tree.ComponentsAt applied) → grammar_in read f ≡ Some gcs → (y : Option FileName) → HasName (tree_in read) y gcs
      → HasName (tree_in read) y cs

  abbrev GivesAllOf : tree.ComponentAt applied → FileName → Type 0
  GivesAllOf c f = (gcs : tree.ComponentsAt applied) → grammar_in read f ≡ Some gcs → (y : Option FileName) → HasName (tree_in read) y gcs
      → NamesIt (tree_in read) y c

  found_tree : (f : FileName) (gcs : tree.ComponentsAt applied) (o : Option FileTree) → tree_in read f ≡ o → grammar_if o ≡ Some gcs → (t : FileTree) ×
      (tree_in read f ≡ Some t) × (grammar_components t ≡ Some gcs)
  found_tree f gcs None e g = absurd cc
  found_tree f gcs (Some t) e g = (t, e, g)

  in_file : (m : tree.Mention applied) (over : tree.ComponentsAt applied) → GivesAllOf (tree.include m over) m.href
  in_file m over gcs g y h = let t = found_tree m.href gcs (tree_in read m.href) refl g in of_file t.1 t.2 h

  mutual
    names_sound : (cs : tree.ComponentsAt applied) (ns : Names) (y : Option FileName) → HasIt (gather ns cs) y → HasIt ns y ⊎ HasName (tree_in read) y cs
    names_sound tree.no_components ns y h = inl h
    names_sound (tree.component_and c cs) ns y h = elim (names_sound cs (gather_component ns c) y h) [
      | inl a ↦ elim (component_sound c ns y a) [ inl b ↦ inl b | inr n ↦ inr (of_first n) ]
      | inr n ↦ inr (of_later n)
    ]

    component_sound : (c : tree.ComponentAt applied) (ns : Names) (y : Option FileName) → HasIt (gather_component ns c) y → HasIt ns y ⊎ NamesIt (tree_in read) y c
    component_sound (tree.start m p) ns None h = inr (of_start refl)
    component_sound (tree.start m p) ns (Some n) h = inl h
    component_sound (tree.define k m p) ns None h = inl h
    component_sound (tree.define k m p) ns (Some n) h = elim (name_origin ns.defines k h) [ inl a ↦ inl a | inr e ↦ inr (of_define (ap Some e)) ]
    component_sound (tree.div cs) ns y h = elim (names_sound cs ns y h) [ inl a ↦ inl a | inr n ↦ inr (of_div n) ]
    component_sound (tree.include m over) ns None h = elim (names_sound over _ None h) [ inl a ↦ inl a | inr n ↦ inr (of_braces n) ]
    component_sound (tree.include m over) ns (Some k) h = elim (names_sound over _ (Some k) h) [ inl a ↦ inl a | inr n ↦ inr (of_braces n) ]

  mutual
    files_sound : (cs : tree.ComponentsAt applied) (ns : Names) (f : FileName) → Among f (gather ns cs).included → Among f ns.included ⊎ GivesAll cs f
    files_sound tree.no_components ns f a = inl a
    files_sound (tree.component_and c cs) ns f a = elim (files_sound cs (gather_component ns c) f a) [
      | inl b ↦ elim (file_sound c ns f b) [ inl d ↦ inl d | inr g ↦ inr (λ gcs e y h. of_first (g gcs e y h)) ]
      | inr g ↦ inr (λ gcs e y h. of_later (g gcs e y h))
    ]

    file_sound : (c : tree.ComponentAt applied) (ns : Names) (f : FileName) → Among f (gather_component ns c).included → Among f ns.included ⊎ GivesAllOf c f
    file_sound (tree.start m p) ns f a = inl a
    file_sound (tree.define k m p) ns f a = inl a
    file_sound (tree.div cs) ns f a = elim (files_sound cs ns f a) [ inl b ↦ inl b | inr g ↦ inr (λ gcs e y h. of_div (g gcs e y h)) ]
    file_sound (tree.include m over) ns f a = elim (files_sound over _ f a) [
      | inl b ↦ elim (name_origin ns.included m.href b) [ inl d ↦ inl d | inr e ↦ inr (subst (GivesAllOf (tree.include m over)) (sym e) (in_file m over)) ]
      | inr g ↦ inr (λ gcs e y h. of_braces (g gcs e y h))
    ]

  -- ---- the names of the components are gathered, if no file is left to read

  pub record Covers (all : Names) (cs : tree.ComponentsAt applied) : Type 0 where
    pub before : Names
    pub extends : Extends all (gather before cs)

  pub record CoversOne (all : Names) (c : tree.ComponentAt applied) : Type 0 where
    pub before : Names
    pub extends : Extends all (gather_component before c)

  first_covered : {all : Names} {c : tree.ComponentAt applied} {cs : tree.ComponentsAt applied} → Covers all (tree.component_and c cs) → CoversOne all c
  first_covered {all} {c} {cs} v = record { before = v.before; extends = beyond v.extends (gather_extends cs (gather_component v.before c)) }

  later_covered : {all : Names} {c : tree.ComponentAt applied} {cs : tree.ComponentsAt applied} → Covers all (tree.component_and c cs) → Covers all cs
  later_covered {all} {c} {cs} v = record { before = gather_component v.before c; extends = v.extends }

  still_covered : {all more : Names} {cs : tree.ComponentsAt applied} → Extends more all → Covers all cs → Covers more cs
  still_covered e v = record { before = v.before; extends = beyond e v.extends }

  abbrev IsClosed : Names → Type 0
  IsClosed all = (f : FileName) (gcs : tree.ComponentsAt applied) → Among f all.included → grammar_in read f ≡ Some gcs → Covers all gcs

  mutual
    all_gathered : {all : Names} → IsClosed all → {y : Option FileName} {cs : tree.ComponentsAt applied} → HasName (tree_in read) y cs → Covers all cs → HasIt all y
    all_gathered closed (of_first n) v = one_gathered closed n (first_covered v)
    all_gathered closed (of_later h) v = all_gathered closed h (later_covered v)

    one_gathered : {all : Names} → IsClosed all → {y : Option FileName} {c : tree.ComponentAt applied} → NamesIt (tree_in read) y c → CoversOne all c → HasIt all y
    one_gathered {all} closed (of_start e) v = subst (HasIt all) (sym e) (v.extends.names None refl)
    one_gathered {all} closed (of_define {n} {p} {m} e) v = subst (HasIt all) (sym e) (v.extends.names (Some n) (added_name v.before.defines n))
    one_gathered closed (of_div h) v = all_gathered closed h (record { before = v.before; extends = v.extends })
    one_gathered {all} closed (of_braces {m} {over} h) v = all_gathered closed h (record {
      before = record { defines = v.before.defines; has_start = v.before.has_start; included = with_name v.before.included m.href };
      extends = v.extends;
    })
    one_gathered {all} closed (of_file {m} {over} {cs} {f} e g h) v =
        all_gathered closed h (closed m.href cs (v.extends.files m.href ((gather_extends over _).files m.href (added_name v.before.included m.href)))
        (ap grammar_if e ∙ g))

  -- ---- file by file

  -- the names of all files that may be read: those that the components mention, and those that a file mentions
  abbrev pub all_included : tree.ComponentsAt applied → List FileName
  all_included cs = map href (mentions_of_components cs) ++ flat_map (λ e. hrefs_of e.1) read

  mutual
    files_known : (cs : tree.ComponentsAt applied) (ns : Names) (f : FileName) → Among f (gather ns cs).included → Among f ns.included ⊎ Among f (map href
        (mentions_of_components cs))
    files_known tree.no_components ns f a = inl a
    files_known (tree.component_and c cs) ns f a =
        let parts = map-append href (mentions_of_component c) (mentions_of_components cs) in
        elim (files_known cs (gather_component ns c) f a) [
          | inl b ↦ elim (file_known c ns f b) [ inl d ↦ inl d | inr k ↦ inr (subst (Among f) (sym parts) (in_left k (map href (mentions_of_components cs)))) ]
          | inr k ↦ inr (subst (Among f) (sym parts) (in_right (map href (mentions_of_component c)) k))
        ]

    file_known : (c : tree.ComponentAt applied) (ns : Names) (f : FileName) → Among f (gather_component ns c).included → Among f ns.included ⊎ Among f (map href
        (mentions_of_component c))
    file_known (tree.start m p) ns f a = inl a
    file_known (tree.define k m p) ns f a = inl a
    file_known (tree.div cs) ns f a = files_known cs ns f a
    file_known (tree.include m over) ns f a = elim (files_known over _ f a) [
      | inl b ↦ elim (name_origin ns.included m.href b) [
        | inl d ↦ inl d
        | inr e ↦ inr (subst (λ g. Among g (m.href ∷ map href
            (mentions_of_components over))) (sym e) here)
      ]
      | inr k ↦ inr (there k)
    ]

  mutual
    files_grow : (cs : tree.ComponentsAt applied) (ns : Names) → (rest : List FileName) × ((gather ns cs).included ≡ ns.included ++ rest)
    files_grow tree.no_components ns = ([], sym (append-nil ns.included))
    files_grow (tree.component_and c cs) ns =
        let a = file_grows c ns in
        let b = files_grow cs (gather_component ns c) in
        (a.0 ++ b.0, b.1 ∙ ap (λ fs. fs ++ b.0) a.1 ∙ append_assoc ns.included a.0 b.0)

    file_grows : (c : tree.ComponentAt applied) (ns : Names) → (rest : List FileName) × ((gather_component ns c).included ≡ ns.included ++ rest)
    file_grows (tree.start m p) ns = ([], sym (append-nil ns.included))
    file_grows (tree.define k m p) ns = ([], sym (append-nil ns.included))
    file_grows (tree.div cs) ns = files_grow cs ns
    file_grows (tree.include m over) ns =
        let a = name_grows ns.included m.href in
        let b = files_grow over (record { defines = ns.defines; has_start = ns.has_start; included = with_name ns.included m.href }) in
        (a.0 ++ b.0, b.1 ∙ ap (λ fs. fs ++ b.0) a.1 ∙ append_assoc ns.included a.0 b.0)

  mutual
    files_differ : (cs : tree.ComponentsAt applied) (ns : Names) → ¬ (HasTwice ns.included) → ¬ (HasTwice (gather ns cs).included)
    files_differ tree.no_components ns d = d
    files_differ (tree.component_and c cs) ns d = files_differ cs (gather_component ns c) (file_differs c ns d)

    file_differs : (c : tree.ComponentAt applied) (ns : Names) → ¬ (HasTwice ns.included) → ¬ (HasTwice (gather_component ns c).included)
    file_differs (tree.start m p) ns d = d
    file_differs (tree.define k m p) ns d = d
    file_differs (tree.div cs) ns d = files_differ cs ns d
    file_differs (tree.include m over) ns d = files_differ over _ (name_differs ns.included m.href d)

  -- these are names of the components, gathered from them and from the first files that they include
  pub record IsGathering (cs : tree.ComponentsAt applied) (looked : ℕ) (all : Names) : Type 0 where
    pub covered : Covers all cs
    pub closed : (f : FileName) (gcs : tree.ComponentsAt applied) → Among f (take looked all.included) → grammar_in read f ≡ Some gcs → Covers all gcs
    pub names : (y : Option FileName) → HasIt all y → HasName (tree_in read) y cs
    pub files : (f : FileName) → Among f all.included → GivesAll cs f
    pub differ : ¬ (HasTwice all.included)
    pub known : (f : FileName) → Among f all.included → Among f (all_included cs)

  none_has : (y : Option FileName) → HasIt no_names y → ⊥
  none_has None h = false_true h
  none_has (Some n) h = in_none h

  pub begins : (cs : tree.ComponentsAt applied) (all : Names) → all ≡ gather no_names cs → IsGathering cs 0 all
  begins cs all e = subst (IsGathering cs 0) (sym e) (record {
    covered = record { before = no_names; extends = same (gather no_names cs) };
    closed = λ f gcs a g. absurd (in_none a);
    names = λ y h. elim (names_sound cs no_names y h) [ inl n ↦ absurd (none_has y n) | inr n ↦ n ];
    files = λ f a. elim (files_sound cs no_names f a) [ inl n ↦ absurd (in_none n) | inr g ↦ g ];
    differ = files_differ cs no_names (λ t. none_twice t);
    known = λ f a. elim (files_known cs no_names f a) [ inl n ↦ absurd (in_none n) | inr k ↦ in_left k (flat_map (λ e. hrefs_of e.1) read) ];
  })

  module _ (cs : tree.ComponentsAt applied) (looked : ℕ) (all : Names) (g : IsGathering cs looked all) (f : FileName)
      (at : slice_get all.included looked ≡ Some f) where
    -- the file is no grammar
    pub passes : grammar_in read f ≡ None → (j : ℕ) → j ≡ looked + 1 → IsGathering cs j all
    passes none j e = subst (λ k. IsGathering cs k all) (sym e) (record {
      covered = g.covered;
      closed = λ h gcs a i. elim (one_more_taken all.included looked at a) [
        | inl b ↦ g.closed h gcs b i
        | inr s ↦ absurd (some_none (sym i ∙ ap
            (grammar_in read) s ∙ none))
      ];
      names = g.names;
      files = g.files;
      differ = g.differ;
      known = g.known;
    }) where
      some_none : {x : tree.ComponentsAt applied} → Some x ≡ None → ⊥
      some_none e = cc

    -- or its names are added
    pub adds : (gcs : tree.ComponentsAt applied) → grammar_in read f ≡ Some gcs → (j : ℕ) → j ≡ looked + 1 → IsGathering cs j (gather all gcs)
    adds gcs is j e = subst (λ k. IsGathering cs k (gather all gcs)) (sym e) (record {
      covered = still_covered (gather_extends gcs all) g.covered;
      closed = λ h hcs a i. elim (one_more_taken all.included looked at (front_taken h a)) [
        | inl b ↦ still_covered (gather_extends gcs all) (g.closed h hcs b i)
        | inr s ↦ subst (Covers (gather all gcs)) (same_Some _ _ (sym is ∙ ap (grammar_in read) (sym s) ∙ i)) (record {
          before = all;
          extends = same
              (gather all gcs);
        })
      ];
      names = λ y h. elim (names_sound gcs all y h) [ inl n ↦ g.names y n | inr n ↦ g.files f (at_among all.included looked _ at) gcs is y n ];
      files = λ h a. elim (files_sound gcs all h a) [
        | inl n ↦ g.files h n
        | inr v ↦ λ hcs i y n. g.files f (at_among all.included looked _ at) gcs is y
            (v hcs i y n)
      ];
      differ = files_differ gcs all g.differ;
      known = λ h a. elim (files_known gcs all h a) [ inl n ↦ g.known h n | inr k ↦ in_right (map href (mentions_of_components cs)) (in_a_file h k) ];
    }) where
      front_taken : (h : FileName) → Among h (take (looked + 1) (gather all gcs).included) → Among h (take (looked + 1) all.included)
      front_taken h a =
          let r = files_grow gcs all in
          subst (Among h) (ap (take (looked + 1)) r.1 ∙ take-append-le (looked + 1) all.included r.0 (index_within all.included looked at)) a

      in_a_file : (h : FileName) → Among h (map href (mentions_of_components gcs)) → Among h (flat_map (λ e. hrefs_of e.1) read)
      in_a_file h k =
          let t = found_tree f gcs (tree_in read f) refl is in
          mentioned_by read h f t.0 t.1 (subst (Among h) (ap (map href) (grammar_mentions t.0 gcs t.2)) k)

    pub few_looked : looked < length (all_included cs)
    few_looked =
        let few = no_more all.included (all_included cs) g.differ g.known in
        let within = index_within all.included looked at in
        omega (arith, few, within)

    pub turned : (o : Option (tree.ComponentsAt applied)) → grammar_in read f ≡ o → (j : ℕ) → j ≡ looked + 1 → IsGathering cs j (gather_if all o)
    turned None i j e = passes i j e
    turned (Some gcs) i j e = adds gcs i j e

  pub all_found : (cs : tree.ComponentsAt applied) (looked : ℕ) (all : Names) → IsGathering cs looked all → slice_get all.included looked ≡ None →
      (y : Option FileName) → HasIt all y ↔ HasName (tree_in read) y cs
  all_found cs looked all g none y = (g.names y, λ h. all_gathered closed h g.covered) where
    closed : IsClosed all
    closed f gcs a i = g.closed f gcs (subst (Among f) (sym (take_all looked all.included (ends_before all.included looked none))) a) i

-- the grammar of a file of the code
pub grammar_found : (es : List (String Global × declared.FileTree)) (f : FileName) (o : Option declared.FileTree) → o ≡ lookup (λ k. bytes_eq f (string_bytes k)) es
    → grammar_if (option_map file_of o) ≡ grammar_in (map (λ e. (string_bytes e.0, file_of e.1)) es) f
grammar_found es f o e = ap (λ p. grammar_if (option_map file_of p)) e ∙ sym (ap grammar_if (tree_found es f))

-- ---- comparing names

abbrev Keys : Type 0
Keys = List (Bor FileName)

key_of : {n : FileName} (keys : Keys) → Among n (map (λ k. k.now) keys) → (q : Bor FileName) × Among q keys × (n ≡ q.now)
key_of keys a = from_map (λ k. k.now) keys a

test_of : (keys : Keys) (q : Bor FileName) → list_any (λ m. bytes_eq q.now m) (map (λ k. k.now) keys) ≡ list_any (λ k. bytes_eq q.now k.now) keys
test_of keys q = any_seen (λ (k : Bor FileName). k.now) (λ a b. bytes_eq a.now b.now) (λ k m. refl) q keys

-- a set of names that is a subset of another
pub part_of : (some all : Keys) → ((q : Bor FileName) → IsTrue (list_any (λ k. bytes_eq q.now k.now) some) → IsTrue (list_any (λ k. bytes_eq q.now k.now) all)) →
    (n : FileName) → Among n (map (λ k. k.now) some) → Among n (map (λ k. k.now) all)
part_of some all sub n a =
    let q = key_of some a in
    let there = sub q.0 (sym (test_of some q.0) ∙ in_any (subst (λ m. Among m (map (λ k. k.now) some)) q.2 a)) in
    subst (λ m. Among m (map (λ k. k.now) all)) (sym q.2) (any_in q.0.now (map (λ k. k.now) all) (test_of all q.0 ∙ there))

lacks_this : (all : List FileName) (n : FileName) (ns : List FileName) (b : Bool) → list_any (λ m. bytes_eq n m) all ≡ b →
    ((m : FileName) → Among m ns → Among m all) ⊎ ((m : FileName) × Among m ns × ¬ (Among m all)) →
    ((m : FileName) → Among m (n ∷ ns) → Among m all) ⊎ ((m : FileName) × Among m (n ∷ ns) × ¬ (Among m all))
lacks_this all n ns true e (inl h) = inl (λ m a. elim (in_cons a) [ inl s ↦ subst (λ x. Among x all) (sym s) (any_in n all e) | inr b ↦ h m b ])
lacks_this all n ns false e (inl h) = inr (n, here, λ a. false_true (sym e ∙ in_any a))
lacks_this all n ns b e (inr t) = inr (t.0, there t.1, t.2)

all_or_one_lacks : (all ns : List FileName) → ((m : FileName) → Among m ns → Among m all) ⊎ ((m : FileName) × Among m ns × ¬ (Among m all))
all_or_one_lacks all [] = inl (λ m a. absurd (in_none a))
all_or_one_lacks all (n ∷ ns) = lacks_this all n ns (list_any (λ m. bytes_eq n m) all) refl (all_or_one_lacks all ns)

-- one that is no subset has a name that the other lacks
pub lacking : (some all : Keys) → ¬ ((q : Bor FileName) → IsTrue (list_any (λ k. bytes_eq q.now k.now) some) → IsTrue (list_any (λ k. bytes_eq q.now k.now) all)) →
    (n : FileName) × Among n (map (λ k. k.now) some) × ¬ (Among n (map (λ k. k.now) all))
lacking some all sub = elim (all_or_one_lacks (map (λ k. k.now) all) (map (λ k. k.now) some)) [
  | inl h ↦ absurd (sub (λ q t. sym (test_of all q) ∙ in_any (h q.now (any_in q.now (map (λ k. k.now) some) (test_of some q ∙ t)))))
  | inr t ↦ t
]

pub all_there : (some all : Names) → (some.has_start ≡ true → all.has_start ≡ true) → ((n : FileName) → Among n some.defines → Among n all.defines) →
    (y : Option FileName) → HasIt some y → HasIt all y
all_there some all s d None h = s h
all_there some all s d (Some n) h = d n h

pub at_index : (xs : List FileName) (i : ℕ) → i < length xs → (f : FileName) × (slice_get xs i ≡ Some f)
at_index [] i l = absurd (omega (arith, l))
at_index (x ∷ xs) zero l = (x, refl)
at_index (x ∷ xs) (suc i) l = at_index xs i (omega (arith, l))

pub beyond_end : (xs : List FileName) (i : ℕ) → length xs ≤ i → slice_get xs i ≡ None
beyond_end [] i l = refl
beyond_end (x ∷ xs) zero l = absurd (omega (arith, l))
beyond_end (x ∷ xs) (suc i) l = beyond_end xs i (omega (arith, l))

pub length_keys : (keys : Keys) → length (map (λ k. k.now) keys) ≡ length keys
length_keys keys = length-map keys (λ k. k.now)
