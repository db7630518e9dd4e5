-- Grammars are found one after another, until all nested ones are found. Then they are the grammars of the schema.
use Rattle.std.proofs.Common.{◌≡◌, refl, sym, subst, ap, ap₂, ◌∙◌, ℕ, List, [], ◌∷◌, Option, Some, None, Bool, true, false, cond, map, inl}
use Rattle.std.proofs.Common.{inr, ◌⊎◌}
use Rattle.std.proofs.Common.{option_map, ◌++◌}
use Rattle.std.proofs.lemmas.List.{map-append}
use Rattle.std.specs.Map.{lookup}
use Rattle.std.specs.Str.{bytes_eq}
use Rattle.std.proofs.lemmas.Slice.Eq.{bytes_eq-Decides}
use Rattle.indexmap.specs.IndexMap.{insert_entry}
use Rattle.rng_model.specs.names.Lists.{Among, here, there}
use Rattle.rng_model.specs.schema.Patterns.{Place}
use Rattle.rng_model.specs.schema.Schema as schema
use Rattle.rng_model.specs.views.SchemaView.{place_eq, place_of}
use Rattle.rng_model.specs.declared.place.Place as declared
use Rattle.rng_model.proofs.SamePlaces.{same_place}
use Rattle.rnc_model.specs.grammar.Syntax as tree
use Rattle.rnc_model.specs.grammar.Syntax.{applied}
use Rattle.rnc_model.specs.declarations.FileTree.{FileTree}
use Rattle.rng_load.specs.plain.FoundGrammars.{AreFound, AreLeft, CanBeRead, HasGathered, IsFound, IsGrammarAt, IsKnown, IsPut, gathered_at, grammar_with}
use Rattle.rng_load.specs.plain.FoundGrammars.{left_by, nested_in, pending_in, places_left}
use Rattle.rnc_model.specs.loading.Mentions.{path_limit}
use Rattle.rng_load.specs.views.PendingGrammars.{Pending}
use Rattle.rng_load.specs.views.PlacedGrammars.{PlacedGrammar, PlacedGrammars, grammar_of, grammar_at, outer_if, schema_with}
use Rattle.rnc_model.specs.loading.Places.{Gathered, Nested}
use Rattle.rnc_model.specs.loading.LoadedSchema.{Gathers, HasGrammar, main_is, nested_is, IsSchemaOf}
use Rattle.rng_load.specs.declared.schema.Grammar.{Grammar}
use Rattle.rng_load.proofs.NameLists.{false_true, in_cons, in_either, in_first, in_left, in_more, in_none, in_right}
use Rattle.rng_load.proofs.Places.OneGrammar.{one_grammar}
use Rattle.rng_load.proofs.Places.OneSchema.{one_gathering}
use Rattle.rng_load.proofs.Places.PlacesApart.{in_nested}
use Rattle.rng_load.proofs.Patterns.PlainReading.{gather_sound, grammars_readable}

-- ---- entries by their places

module _ {V : Type 0} where
  by_test_found : (e : Place × V) (o : Option V) (b : Bool) → ((v : V) × (o ≡ Some v)) → (v : V) × (cond b (Some e.1) o ≡ Some v)
  by_test_found e o true f = (e.1, refl)
  by_test_found e o false f = f

  by_test_here : (x : Place) (e : Place × V) (o : Option V) (b : Bool) → bytes_eq x e.0 ≡ b → x ≡ e.0 → (v : V) × (cond b (Some e.1) o ≡ Some v)
  by_test_here x e o true i s = (e.1, refl)
  by_test_here x e o false i s = absurd (false_true (sym i ∙ (bytes_eq-Decides x e.0).1 s))

  -- a place that is listed has a value
  pub found_at : (x : Place) (es : List (Place × V)) → Among x (map (λ e. e.0) es) → (v : V) × (lookup (bytes_eq x) es ≡ Some v)
  found_at x [] i = absurd (in_none i)
  found_at x (e ∷ es) i = elim (in_cons i) [
    | inl s ↦ by_test_here x e (lookup (bytes_eq x) es) (bytes_eq x e.0) refl s
    | inr j ↦ by_test_found e (lookup (bytes_eq x) es) (bytes_eq x e.0) (found_at x es j)
  ]

  by_test_among : (x : Place) (e : Place × V) (es : List (Place × V)) (v : V) (b : Bool) → bytes_eq x e.0 ≡ b
      → cond b (Some e.1) (lookup (bytes_eq x) es) ≡ Some v → (lookup (bytes_eq x) es ≡ Some v → Among (x, v) es) → Among (x, v) (e ∷ es)
  by_test_among x e es v true i f h =
      let value : e.1 ≡ v = cc in
      let key : x ≡ e.0 = (bytes_eq-Decides x e.0).0 i in
      subst (λ d. Among d (e ∷ es)) (ap₂ (λ k w. (k, w)) (sym key) value) here
  by_test_among x e es v false i f h = there (h f)

  -- and it is the value of an entry there
  pub among_at : (x : Place) (es : List (Place × V)) (v : V) → lookup (bytes_eq x) es ≡ Some v → Among (x, v) es
  among_at x [] v f = absurd cc
  among_at x (e ∷ es) v f = by_test_among x e es v (bytes_eq x e.0) refl f (among_at x es v)

-- ---- one more entry

abbrev pub Entries : Type 0
Entries = List (declared.Place × Grammar)

abbrev pub view : Entries → PlacedGrammars
view es = map (λ e. (place_of e.0, grammar_of e.1)) es

module _ (k : declared.Place) (g : Grammar) where
  first_put : IsPut [] (view ((k, g) ∷ [])) (place_of k) (grammar_of g)
  first_put = record {
    kept = λ y i. absurd (in_none i);
    there = here;
    either = λ e i. elim (in_cons i) [ inl s ↦ inr s | inr j ↦ absurd (in_none j) ];
  }

  replaced : (e : declared.Place × Grammar) (es : Entries) → place_of k ≡ place_of e.0
      → IsPut (view (e ∷ es)) (view ((e.0, g) ∷ es)) (place_of k) (grammar_of g)
  replaced e es s = record {
    kept = λ y i. i;
    there = subst (λ x. Among x (map (λ e. e.0) (view ((e.0, g) ∷ es)))) (sym s) here;
    either = λ d i. elim (in_cons i) [ inl t ↦ inr (t ∙ ap (λ x. (x, grammar_of g)) (sym s)) | inr j ↦ inl (there j) ];
  }

  put_later : (e : declared.Place × Grammar) (es new : Entries) → IsPut (view es) (view new) (place_of k) (grammar_of g)
      → IsPut (view (e ∷ es)) (view (e ∷ new)) (place_of k) (grammar_of g)
  put_later e es new p = record {
    kept = λ y i. elim (in_cons i) [ inl s ↦ subst (λ x. Among x (map (λ e. e.0) (view (e ∷ new)))) (sym s) here | inr j ↦ there (p.kept y j) ];
    there = there p.there;
    either = λ d i. elim (in_cons i) [
      | inl s ↦ inl (subst (λ x. Among x (view (e ∷ es))) (sym s) here)
      | inr j ↦ elim (p.either d j) [ inl l ↦ inl (there l) | inr r ↦ inr r ]
    ];
  }

  by_test_put : (e : declared.Place × Grammar) (es : Entries) (b : Bool) → place_eq k e.0 ≡ b
      → IsPut (view es) (view (insert_entry place_eq es k g)) (place_of k) (grammar_of g)
      → IsPut (view (e ∷ es)) (view (cond b ((e.0, g) ∷ es) (e ∷ insert_entry place_eq es k g))) (place_of k) (grammar_of g)
  by_test_put e es true i p = replaced e es ((same_place k e.0).0 i)
  by_test_put e es false i p = put_later e es (insert_entry place_eq es k g) p

  pub is_put : (es : Entries) → IsPut (view es) (view (insert_entry place_eq es k g)) (place_of k) (grammar_of g)
  is_put [] = first_put
  is_put (e ∷ es) = by_test_put e es (place_eq k e.0) refl (is_put es)

in_keys : {e : Place × PlacedGrammar} {gs : PlacedGrammars} → Among e gs → IsFound e.0 gs
in_keys here = here
in_keys (there i) = there (in_keys i)

has_entry : (x : Place) (gs : PlacedGrammars) → IsFound x gs → (g : PlacedGrammar) × Among (x, g) gs
has_entry x gs i = let f = found_at x gs i in (f.0, among_at x gs f.0 f.1)

found_either : {old new : PlacedGrammars} {x : Place} {g : PlacedGrammar} → IsPut old new x g → (y : Place) → IsFound y new → IsFound y old ⊎ (y ≡ x)
found_either {new = new} p y i =
    let e = has_entry y new i in
    elim (p.either (y, e.0) e.1) [ inl j ↦ inl (in_keys j) | inr s ↦ inr (ap (λ e. e.0) s) ]

-- ---- those that are left

-- the place of each grammar that is nested is one of them
among_left : {n : Nested} (x : Place) (ns : List Nested) → Among n ns → Among n.place (places_left (left_by x ns))
among_left x [] i = absurd (in_none i)
among_left {n} x (m ∷ ns) i = subst (Among n.place) (sym (map-append (λ p. p.nested.place) (left_by x ns) (pending_in x m ∷ [])))
    (elim (in_cons i) [ inl e ↦ in_right (places_left (left_by x ns)) (in_first [] (ap (λ n. n.place) e)) | inr j ↦ in_left (among_left x ns j) _ ])

-- and each of them is nested
one_left : {p : Pending} (x : Place) (ns : List Nested) → Among p (left_by x ns) → (n : Nested) × Among n ns × (p ≡ pending_in x n)
one_left x [] i = absurd (in_none i)
one_left x (n ∷ ns) i = elim (in_more (left_by x ns) i) [ inl j ↦ let r = one_left x ns j in (r.0, there r.1, r.2) | inr e ↦ (n, here, e) ]

-- the last one of those that are nested comes first
pub left_last : (x : Place) (ns : List Nested) (n : Nested) → left_by x (ns ++ n ∷ []) ≡ pending_in x n ∷ left_by x ns
left_last x [] n = refl
left_last x (m ∷ ns) n = ap (λ ps. ps ++ pending_in x m ∷ []) (left_last x ns n)

-- what is nested in components is nested in one of them
one_nested : {n : Nested} (gs : List Gathered) → Among n (nested_in gs) → (g : Gathered) × Among g gs × Among n g.nested
one_nested [] i = absurd (in_none i)
one_nested (g ∷ gs) i = elim (in_either g.nested i) [ inl j ↦ (g, here, j) | inr j ↦ let r = one_nested gs j in (r.0, there r.1, r.2) ]

module _ (files : List ℕ → Option FileTree) (main : FileTree) where
  -- the components at a place are gathered in only one way
  gathered_once : {x : Place} {o p : Option Place} {u v : List ℕ} {cs ds : tree.ComponentsAt applied} → HasGrammar files main x o u cs
      → HasGrammar files main x p v ds → gathered_at files u x cs ≡ gathered_at files v x ds
  gathered_once {x} h k = let one = one_grammar files main h k in ap₂ (λ u cs. gathered_at files u x cs) one.1 one.2

  -- at first the main grammar is left
  pub main_left : AreFound files main [] ([] ∷ [])
  main_left = record {
    main_known = inr here;
    nested_known = λ x i. absurd (in_none i);
    right = λ e i. absurd (in_none i);
  }

  -- the last one that is left is put at its place, and those that are nested in it are left
  module _ {gs next : PlacedGrammars} {x : Place} {o : Option Place} {all : List Gathered} (left : List Place) (a : AreFound files main gs (left ++ x ∷ []))
      (has : HasGathered files main x o all) (put : IsPut gs next x (grammar_with o all)) where
    abbrev now : List Place
    now = left ++ places_left (left_by x (nested_in all))

    still_known : (y : Place) → IsKnown gs (left ++ x ∷ []) y → IsKnown next now y
    still_known y k = elim k [
      | inl f ↦ inl (put.kept y f)
      | inr i ↦ elim (in_more left i) [ inl j ↦ inr (in_left j _) | inr e ↦ inl (subst (λ y. IsFound y next) (sym e) put.there) ]
    ]

    known_inside : (n : Nested) → Among n (nested_in all) → IsKnown next now n.place
    known_inside n i = inr (in_right left (among_left x (nested_in all) i))

    here_known : {p : Option Place} {v : List ℕ} {ds : tree.ComponentsAt applied} → HasGrammar files main x p v ds → (n : Nested)
        → Among n (nested_in (gathered_at files v x ds)) → IsKnown next now n.place
    here_known h n i = known_inside n (subst (λ gs. Among n (nested_in gs)) (gathered_once h has.there ∙ sym has.are) i)

    is_right : IsGrammarAt files main x (grammar_with o all)
    is_right = record { uri = has.uri; components = has.components; there = has.there; are = ap (map (λ c. c.component)) has.are }

    pub goes_on : AreFound files main next now
    goes_on = record {
      main_known = still_known [] a.main_known;
      nested_known = λ y f p v ds h n i. elim (found_either put y f) [
        | inl j ↦ still_known n.place (a.nested_known y j p v ds h n i)
        | inr e ↦ here_known (subst (λ y. HasGrammar files main y p v ds) e h) n (subst (λ y. Among n (nested_in (gathered_at files v y ds))) e i)
      ];
      right = λ e i. elim (put.either e i) [ inl j ↦ a.right e j | inr s ↦ subst (λ d. IsGrammarAt files main d.0 d.1) (sym s) is_right ];
    }

  -- ---- all of them

  module _ (readable : CanBeRead files main) where
    -- what is gathered plainly is what the place has
    pub gathers_at : {x : Place} {o : Option Place} {u : List ℕ} {cs : tree.ComponentsAt applied} → HasGrammar files main x o u cs
        → Gathers files u x 0 cs (gathered_at files u x cs)
    gathers_at {x} {o} {u} {cs} h = gather_sound files path_limit u x 0 cs (grammars_readable files h path_limit readable)

    -- a nested grammar is one of the schema
    pub nested_there : {x : Place} {o : Option Place} {all : List Gathered} {n : Nested} → HasGathered files main x o all → Among n (nested_in all)
        → HasGrammar files main n.place (Some x) n.uri n.components
    nested_there {all = all} has i =
        let one = one_nested all i in
        nested_is has.there (gathers_at has.there) (subst (Among one.0) has.are one.1) one.2

    -- all that are left then are grammars of the files
    pub left_there : {x : Place} {o : Option Place} {all : List Gathered} (left : List Pending) → AreLeft files main left → HasGathered files main x o all
        → AreLeft files main (left ++ left_by x (nested_in all))
    left_there {x} {all = all} left l has p i = elim (in_either left i) [
      | inl j ↦ l p j
      | inr j ↦
          let n = one_left x (nested_in all) j in
          subst (λ p. HasGrammar files main p.nested.place (Some p.outer) p.nested.uri p.nested.components) (sym n.2) (nested_there has n.1)
    ]

    module _ (gs : PlacedGrammars) (found : AreFound files main gs []) where
      none_left : {x : Place} → IsKnown gs [] x → IsFound x gs
      none_left k = elim k [ inl f ↦ f | inr i ↦ absurd (in_none i) ]

      pub all_found : {x : Place} {o : Option Place} {u : List ℕ} {cs : tree.ComponentsAt applied} → HasGrammar files main x o u cs → IsFound x gs
      all_found (main_is e) = none_left found.main_known
      all_found (nested_is {x} {o} {u} {cs} {g = g} {n} h d i j) =
          let same = one_gathering files d (gathers_at h) in
          none_left (found.nested_known x (all_found h) o u cs h n (in_nested (subst (Among g) same i) j))

      right_at : (x : Place) (g : PlacedGrammar) → grammar_at gs x ≡ Some g → IsGrammarAt files main x g
      right_at x g f = found.right (x, g) (among_at x gs g f)

      there_is : (x : Place) (o : Option Place) (u : List ℕ) (cs : tree.ComponentsAt applied) → HasGrammar files main x o u cs → (gathered : List Gathered)
          × Gathers files u x 0 cs gathered × ((schema_with [] gs).components x ≡ Some (map (λ g. g.component) gathered))
          × ((schema_with [] gs).outer x ≡ o)
      there_is x o u cs h =
          let f = found_at x gs (all_found h) in
          let r = right_at x f.0 f.1 in
          let one = one_grammar files main h r.there in
          let are = r.are ∙ ap (map (λ c. c.component)) (gathered_once r.there h) in
          (gathered_at files u x cs, gathers_at h, ap (option_map (λ g. g.components)) f.1 ∙ ap (λ cs. Some cs) are, ap outer_if f.1 ∙ sym one.0)

      only : (x : Place) (all : List schema.Component) (o : Option PlacedGrammar) → grammar_at gs x ≡ o → option_map (λ g. g.components) o ≡ Some all
          → (o : Option Place) × (u : List ℕ) × (cs : tree.ComponentsAt applied) × HasGrammar files main x o u cs
      only x all None f e = absurd cc
      only x all (Some g) f e = let r = right_at x g f in (g.outer, r.uri, r.components, r.there)

      none : (o : Option PlacedGrammar) → option_map (λ g. g.components) o ≡ None → outer_if o ≡ None
      none None e = refl
      none (Some g) e = absurd cc

      pub is_schema : IsSchemaOf files main (schema_with [] gs)
      is_schema = record {
        main_place = refl;
        there = there_is;
        only_there = λ x all e. only x all (grammar_at gs x) refl e;
        none_around = λ x e. none (grammar_at gs x) e;
      }
