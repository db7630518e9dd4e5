-- The components of a schema are put into a table, one after another.
use Rattle.std.proofs.Common.{◌≡◌, ◌≢◌, refl, sym, ap, ap₂, ◌∙◌, subst, arith, ℕ, zero, suc, ◌+◌, ◌<◌, ◌≤◌}
use Rattle.std.proofs.Common.{Bool, true, false, true≢false, ◌&&◌, ◌||◌, cond, if◌then◌else◌}
use Rattle.std.proofs.Common.{List, [], ◌∷◌, ◌++◌, map, filter, length, length-append, slice_get, slice_index_or, slice_set, append_assoc}
use Rattle.std.proofs.Common.{Option, Some, None, Contains, drop, get_or, nat_lt, Vec, Bor, Global}
use Rattle.std.specs.List.{list_any, position, position_or_len}
use Rattle.std.specs.Str.{bytes_eq}
use Rattle.std.proofs.lemmas.Bool.{ltb-false, or_parts}
use Rattle.std.proofs.lemmas.List.{append-nil, drop_all, drop_more, length-map}
use Rattle.std.proofs.lemmas.List.{get_or-map, get_or-set_same, get_or-set_other, length-set}
use Rattle.std.proofs.lemmas.List.Elements.{filter-append, Contains-append_right}
use Rattle.std.proofs.lemmas.Option.{slice_get_within}
use Rattle.std.proofs.lemmas.Slice.Eq.{bytes_eq-Decides}
use Rattle.rng_model.specs.names.Lists.{Among, here, there, HasTwice, at_first, later}
use Rattle.rng_model.specs.schema.Patterns.{Place}
use Rattle.rng_model.specs.schema.Schema.{Schema, Component, Definition, same_component_name}
use Rattle.rng_model.specs.views.SchemaView.{schema_component_of}
use Rattle.rng_model.specs.declared.component.Component as code
use Rattle.rng_model.proofs.Options.{one_value}
use Rattle.rng_load.specs.plain.SchemaPlaces.{AreItsPlaces}
use Rattle.rng_simple.specs.views.ComponentTable.{Table, components_of, IsTable, is_of, those_at, given, components_at, those_among, schema_components}
use Rattle.rng_simple.specs.plain.Graph.{same_definition, number_of}
use Rattle.rng_simple.specs.plain.Resolving.{with_definition}
use Rattle.rng_simple.proofs.NumberedGraphs.GraphTables.{definition_same}
use Rattle.rng_simple.proofs.NumberedGraphs.Graphs.{found_contained}
use Rattle.rng_simple.proofs.BuiltGraphs.ResolvedPatterns.{IsAsked, is_there, is_new, asked, definition_is, asked_for}

-- a component of the code as it is viewed, and those of a definition
abbrev pub seen : Bor code.Component → Component
seen c = schema_component_of c.now

abbrev pub all_seen : Vec (Bor code.Component) Global → List Component
all_seen cs = map seen cs.items

-- ---- the number of a definition when another one is looked up

-- a definition that is not there is numbered by the length
number_of_absent : (d : Definition) (ds : List Definition) → list_any (same_definition d) ds ≡ false → number_of ds d ≡ length ds
number_of_absent d [] n = refl
number_of_absent d (f ∷ fs) n =
    let both = or_parts (same_definition d f) (list_any (same_definition d) fs) n in
    let first = ap (λ b. if b then 0 else number_of fs d + 1) both.0 in
    let rest = number_of_absent d fs both.1 in
    omega (arith, first, rest)

none_with_another : (d e : Definition) (ds : List Definition) → same_definition d e ≡ false → list_any (same_definition d) ds ≡ false
    → list_any (same_definition d) (ds ++ e ∷ []) ≡ false
none_with_another d e [] h n = ap (λ b. b || false) h
none_with_another d e (f ∷ fs) h n =
    let both = or_parts (same_definition d f) (list_any (same_definition d) fs) n in
    ap₂ ◌||◌ both.0 (none_with_another d e fs h both.1)

-- a definition that is there keeps its number
same_or_later : (b c : Bool) → b || c ≡ true → (i j : ℕ) → (c ≡ true → i ≡ j) → (if b then 0 else i + 1) ≡ (if b then 0 else j + 1)
same_or_later true c h i j r = refl
same_or_later false c h i j r = ap (λ k. k + 1) (r h)

number_stays : (d e : Definition) (ds : List Definition) → list_any (same_definition d) ds ≡ true → number_of (ds ++ e ∷ []) d ≡ number_of ds d
number_stays d e [] h = absurd (true≢false (sym h))
number_stays d e (f ∷ fs) h =
    same_or_later (same_definition d f) (list_any (same_definition d) fs) h (number_of (fs ++ e ∷ []) d) (number_of fs d) (number_stays d e fs)

below_number : (d : Definition) (ds : List Definition) → list_any (same_definition d) ds ≡ true → number_of ds d < length ds
below_number d ds h = elim (asked d ds) [
  | is_there a b ↦ slice_get_within ds (number_of ds d) d b
  | is_new a b n ↦ absurd (true≢false (sym h ∙ a))
]

-- a new definition is the last
new_number : (e : Definition) (ds : List Definition) → list_any (same_definition e) ds ≡ false → number_of (ds ++ e ∷ []) e ≡ length ds
new_number e [] h = ap (λ b. if b then 0 else 1) (definition_same e)
new_number e (f ∷ fs) h =
    let both = or_parts (same_definition e f) (list_any (same_definition e) fs) h in
    let first = ap (λ b. if b then 0 else number_of (fs ++ e ∷ []) e + 1) both.0 in
    let rest = new_number e fs both.1 in
    omega (arith, first, rest)

-- ---- one more component

-- an empty list at the end changes no look-up
empty_at_end : (css : List (List Component)) (k : ℕ) → slice_index_or (css ++ [] ∷ []) k [] ≡ slice_index_or css k []
empty_at_end [] zero = refl
empty_at_end [] (suc k) = refl
empty_at_end (cs ∷ css) zero = refl
empty_at_end (cs ∷ css) (suc k) = empty_at_end css k

pub out_of_range : (css : List (List Component)) (k : ℕ) → length css ≤ k → slice_index_or css k [] ≡ []
out_of_range [] zero h = refl
out_of_range [] (suc k) h = refl
out_of_range (cs ∷ css) zero h = absurd (omega (arith, h))
out_of_range (cs ∷ css) (suc k) h = out_of_range css k (omega (arith, h))

-- the lists after an empty one is appended for a new definition
module _ (ds : List Definition) (e : Definition) (c : Component) (old css : List (List Component)) (as_long : length old ≡ length ds)
    (same : (k : ℕ) → slice_index_or css k [] ≡ slice_index_or old k []) (long : length css ≡ length (with_definition ds e)) where
  abbrev pub new : List (List Component)
  new = slice_set css (number_of ds e) (slice_index_or css (number_of ds e) [] ++ c ∷ [])

  within : number_of ds e < length css
  within = let there = asked_for e ds in omega (arith, slice_get_within (with_definition ds e) (number_of ds e) e there.there, long)

  -- other indices are unchanged
  elsewhere : (k : ℕ) → k ≢ number_of ds e → slice_index_or new k [] ≡ slice_index_or old k []
  elsewhere k h = get_or-set_other css (number_of ds e) k (slice_index_or css (number_of ds e) [] ++ c ∷ []) [] h ∙ same k

  -- the definition has the new component after its earlier ones
  for_itself : IsAsked e ds → slice_index_or new (number_of (with_definition ds e) e) [] ≡ slice_index_or old (number_of ds e) [] ++ c ∷ []
  for_itself a =
      ap (λ k. slice_index_or new k []) (own_number a)
      ∙ get_or-set_same css (number_of ds e) (slice_index_or css (number_of ds e) [] ++ c ∷ []) [] within
      ∙ ap (λ cs. cs ++ c ∷ []) (same (number_of ds e))
    where
      own_number : IsAsked e ds → number_of (with_definition ds e) e ≡ number_of ds e
      own_number (is_there h g) = ap (λ b. number_of (if b then ds else ds ++ e ∷ []) e) h
      own_number (is_new h g n) = ap (λ b. number_of (if b then ds else ds ++ e ∷ []) e) h ∙ new_number e ds h ∙ sym g

  -- another definition has the same components as before
  for_another : (d : Definition) → same_definition d e ≡ false → IsAsked e ds → IsAsked d ds
      → slice_index_or new (number_of (with_definition ds e) d) [] ≡ slice_index_or old (number_of ds d) []
  for_another d h (is_there a b) (is_there x y) =
      ap (λ z. slice_index_or new (number_of (if z then ds else ds ++ e ∷ []) d) []) a
      ∙ elsewhere (number_of ds d) (λ q. true≢false (sym (definition_same d) ∙ ap (same_definition d) (one_value y (ap (slice_get ds) q ∙ b)) ∙ h))
  for_another d h (is_there a b) (is_new x y n) =
      ap (λ z. slice_index_or new (number_of (if z then ds else ds ++ e ∷ []) d) []) a
      ∙ elsewhere (number_of ds d) (λ q. let i = slice_get_within ds (number_of ds e) e b in omega (arith, q, y, i))
  for_another d h (is_new a b m) (is_there x y) =
      ap (λ z. slice_index_or new (number_of (if z then ds else ds ++ e ∷ []) d) []) a
      ∙ ap (λ k. slice_index_or new k []) (number_stays d e ds x)
      ∙ elsewhere (number_of ds d) (λ q. let i = slice_get_within ds (number_of ds d) d y in omega (arith, q, b, i))
  for_another d h (is_new a b m) (is_new x y n) =
      let after : number_of (with_definition ds e) d ≡ length (with_definition ds e) =
      ap (λ z. number_of (if z then ds else ds ++ e ∷ []) d) a ∙ number_of_absent d (ds ++ e ∷ []) (none_with_another d e ds h x)
      ∙ ap (λ z. length (if z then ds else ds ++ e ∷ [])) (sym a) in
      out_of_range new (number_of (with_definition ds e) d)
      (omega (arith, after, long, length-set css (number_of ds e) (slice_index_or css (number_of ds e) [] ++ c ∷ [])))
      ∙ sym (out_of_range old (number_of ds d) (omega (arith, y, as_long)))

  pub one_more_of : (d : Definition) → slice_index_or new (number_of (with_definition ds e) d) []
      ≡ slice_index_or old (number_of ds d) [] ++ (if same_definition d e then c ∷ [] else [])
  one_more_of d = either_way (same_definition d e) refl
    where
      either_way : (b : Bool) → same_definition d e ≡ b → slice_index_or new (number_of (with_definition ds e) d) []
          ≡ slice_index_or old (number_of ds d) [] ++ (if b then c ∷ [] else [])
      either_way true h =
          let is = definition_is d e h in
          ap (λ z. slice_index_or new (number_of (with_definition ds e) z) []) is ∙ for_itself (asked e ds)
          ∙ ap (λ z. slice_index_or old (number_of ds z) [] ++ c ∷ []) (sym is)
      either_way false h = for_another d h (asked e ds) (asked d ds) ∙ sym (append-nil (slice_index_or old (number_of ds d) []))

  -- the same for equal lists
  pub one_component_more : {n : ℕ} {after : List Definition} {own : List Component} {all : List (List Component)} → n ≡ number_of ds e
      → after ≡ with_definition ds e → own ≡ slice_index_or css n [] ++ c ∷ [] → all ≡ slice_set css n own → (d : Definition)
      → slice_index_or all (number_of after d) [] ≡ slice_index_or old (number_of ds d) [] ++ (if same_definition d e then c ∷ [] else [])
  one_component_more {n} {after} {own} {all} number numbered one set d =
      let all_is : all ≡ new = set ∙ ap (slice_set css n) one ∙ ap (λ k. slice_set css k (slice_index_or css k [] ++ c ∷ [])) number in
      ap (λ z. slice_index_or z (number_of after d) []) all_is ∙ ap (λ z. slice_index_or new (number_of z d) []) numbered ∙ one_more_of d

-- ---- the number of definitions

number_when : {d : Definition} {ds : List Definition} → IsAsked d ds → number_of ds d ≡ length ds → length (with_definition ds d) ≡ length ds + 1
number_when {d} {ds} (is_there a b) e = absurd (omega (arith, e, slice_get_within ds (number_of ds d) d b))
number_when {d} {ds} (is_new a b n) e = ap (λ z. length (if z then ds else ds ++ d ∷ [])) a ∙ length-append ds (d ∷ [])

-- a definition that is numbered by the length is one more
pub one_definition_more : (d : Definition) (ds : List Definition) → number_of ds d ≡ length ds → length (with_definition ds d) ≡ length ds + 1
one_definition_more d ds e = number_when (asked d ds) e

number_unless : {d : Definition} {ds : List Definition} → IsAsked d ds → (number_of ds d ≡ length ds → ⊥) → length (with_definition ds d) ≡ length ds
number_unless {d} {ds} (is_there a b) e = ap (λ z. length (if z then ds else ds ++ d ∷ [])) a
number_unless {d} {ds} (is_new a b n) e = absurd (e b)

pub no_definition_more : (d : Definition) (ds : List Definition) → (number_of ds d ≡ length ds → ⊥) → length (with_definition ds d) ≡ length ds
no_definition_more d ds e = number_unless (asked d ds) e

number_within : (d : Definition) (ds : List Definition) → number_of ds d < length (with_definition ds d)
number_within d ds = slice_get_within (with_definition ds d) (number_of ds d) d (asked_for d ds).there

-- a definition that has a number has a list
pub list_within : {A : Type 0} (view : A → List Component) (items : List A) (d : Definition) (ds : List Definition) {n : ℕ} {after : List Definition}
    → n ≡ number_of ds d → after ≡ with_definition ds d → length (map view items) ≡ length after → n < length items
list_within view items d ds number numbered table =
    omega (arith, number, number_within d ds, ap length numbered, table, length-map items view)

-- ---- what is looked up

pub position_is : {A : Type 0} (test : A → Bool) (xs : List A) (n : ℕ) → Some n ≡ position test xs → n ≡ position_or_len test xs
position_is test xs n e = either_way (nat_lt (position_or_len test xs) (length xs)) (position_or_len test xs) e
  where
    either_way : (b : Bool) (k : ℕ) → Some n ≡ cond b (Some k) None → n ≡ k
    either_way true k e = one_value refl e
    either_way false k e = absurd cc

pub no_position : {A : Type 0} (test : A → Bool) (xs : List A) → None ≡ position test xs → length xs ≤ position_or_len test xs
no_position test xs e = ltb-false (position_or_len test xs) (length xs) (either_way (nat_lt (position_or_len test xs) (length xs)) (position_or_len test xs) e)
  where
    either_way : (b : Bool) (k : ℕ) → None ≡ cond b (Some k) None → b ≡ false
    either_way true k e = absurd cc
    either_way false k e = refl

pub list_at : {A : Type 0} (view : A → List Component) (xs : List A) (n : ℕ) (x : A) → n < length xs → x ≡ slice_index_or xs n x
    → view x ≡ slice_index_or (map view xs) n []
list_at view xs n x h e = ap view e ∙ sym (get_or-map view xs n x [] h)

pub no_list_at : (css : List (List Component)) (n : ℕ) → length css ≤ n → [] ≡ slice_index_or css n []
no_list_at css n h = sym (out_of_range css n h)

-- ---- the components of a grammar one by one

pub one_less : {A : Type 0} (view : A → Component) (d : Definition) (x : Place) (cs : List A) (i : ℕ) (c : A) (before now all : List Component) → i < length cs
    → c ≡ get_or cs i c → now ≡ before ++ those_at d x (view c ∷ []) → before ++ those_at d x (map view (drop i cs)) ≡ all
    → now ++ those_at d x (map view (drop (i + 1) cs)) ≡ all
one_less view d x cs i c before now all inside is one so_far =
    let next : drop i cs ≡ c ∷ drop (i + 1) cs = drop_more cs i c inside ∙ ap (λ y. y ∷ drop (i + 1) cs) (sym is) in
    let rest = map view (drop (i + 1) cs) in
    ap (λ z. z ++ those_at d x rest) one ∙ append_assoc before (those_at d x (view c ∷ [])) (those_at d x rest)
    ∙ ap (λ z. before ++ z) (sym (filter-append (is_of d x) (view c ∷ []) rest)) ∙ ap (λ z. before ++ those_at d x (map view z)) (sym next) ∙ so_far

-- ---- the grammars of a schema one by one

-- the components of the table, together with those at these places, are those of the schema
abbrev pub Gathers : Schema → List Place → Table → Type 0
Gathers s places t = IsTable t × ((d : Definition) → components_of t d ++ those_among s d places ≡ schema_components s d)

module _ (s : Schema) (d : Definition) where
  pub one_place_less : {A : Type 0} (view : A → Place) (places : List A) (i : ℕ) (x : A) (before now all : List Component) → i < length places
      → x ≡ get_or places i x → now ≡ before ++ those_at d (view x) (components_at s (view x)) → before ++ those_among s d (map view (drop i places)) ≡ all
      → now ++ those_among s d (map view (drop (i + 1) places)) ≡ all
  one_place_less view places i x before now all inside is one so_far =
      let next : drop i places ≡ x ∷ drop (i + 1) places = drop_more places i x inside ∙ ap (λ y. y ∷ drop (i + 1) places) (sym is) in
      let rest = those_among s d (map view (drop (i + 1) places)) in
      ap (λ z. z ++ rest) one ∙ append_assoc before (those_at d (view x) (components_at s (view x))) rest
      ∙ ap (λ z. before ++ those_among s d (map view z)) (sym next) ∙ so_far

  -- no components at a place, or these, after the earlier ones
  pub none_at : (x : Place) (before : List Component) → None ≡ s.components x → before ≡ before ++ those_at d x (components_at s x)
  none_at x before e = sym (append-nil before) ∙ ap (λ o. before ++ those_at d x (given o)) e

  pub these_at : (x : Place) (cs before now : List Component) → Some cs ≡ s.components x → now ≡ before ++ those_at d x cs
      → now ≡ before ++ those_at d x (components_at s x)
  these_at x cs before now e h = h ∙ ap (λ o. before ++ those_at d x (given o)) e

  none_kept : (cs : List Component) → filter (λ c. false) cs ≡ []
  none_kept [] = refl
  none_kept (c ∷ cs) = none_kept cs

  elsewhere_none : (x : Place) (cs : List Component) → bytes_eq d.place x ≡ false → those_at d x cs ≡ []
  elsewhere_none x cs h = ap (λ b. filter (λ c. b && same_component_name d.name c.name) cs) h ∙ none_kept cs

  at_its_place : (cs : List Component) → those_at d d.place cs ≡ filter (λ c. same_component_name d.name c.name) cs
  at_its_place cs = ap (λ b. filter (λ c. b && same_component_name d.name c.name) cs) ((bytes_eq-Decides d.place d.place).1 refl)

  is_elsewhere : (x : Place) → (d.place ≡ x → ⊥) → (b : Bool) → bytes_eq d.place x ≡ b → bytes_eq d.place x ≡ false
  is_elsewhere x n true e = absurd (n ((bytes_eq-Decides d.place x).0 e))
  is_elsewhere x n false e = e

  none_elsewhere : (x : Place) → (d.place ≡ x → ⊥) → those_at d x (components_at s x) ≡ []
  none_elsewhere x n = elsewhere_none x (components_at s x) (is_elsewhere x n (bytes_eq d.place x) refl)

  absent : (places : List Place) → (Among d.place places → ⊥) → those_among s d places ≡ []
  absent [] n = refl
  absent (x ∷ xs) n =
      ap₂ ◌++◌ (none_elsewhere x (λ e. n (subst (λ y. Among d.place (y ∷ xs)) e here))) (absent xs (λ i. n (there i)))

  present : {places : List Place} → Among d.place places → ¬ (HasTwice places) → those_among s d places ≡ schema_components s d
  present (here {xs = xs}) once =
      ap₂ ◌++◌ (at_its_place (components_at s d.place)) (absent xs (λ i. once (at_first i))) ∙ append-nil (schema_components s d)
  present (there {y = x} {xs = xs} i) once =
      ap₂ ◌++◌ (none_elsewhere x (λ e. once (at_first (subst (λ y. Among y xs) e i)))) (present i (λ h. once (later h)))

  among_found : (xs : List Place) (i : ℕ) (x : Place) → slice_get xs i ≡ Some x → Among x xs
  among_found [] i x e = absurd (let h = slice_get_within [] i x e in omega arith)
  among_found (y ∷ ys) zero x e = subst (λ z. Among x (z ∷ ys)) (one_value e refl) here
  among_found (y ∷ ys) (suc i) x e = there (among_found ys i x e)

  found_among : {x : Place} {xs : List Place} → Among x xs → Contains xs x
  found_among here = (0, omega arith, refl)
  found_among {x = x} (there {y = y} {xs = xs} i) = Contains-append_right (y ∷ []) xs x (found_among i)

  not_both : {o : Option (List Component)} {cs : List Component} → o ≡ Some cs → o ≡ None → ⊥
  not_both e f = cc

  -- the components at all places are those of the grammar at its place
  pub all_places : (places : List Place) → AreItsPlaces s places → those_among s d places ≡ schema_components s d
  all_places places are = either_way (s.components d.place) refl
    where
      either_way : (o : Option (List Component)) → s.components d.place ≡ o → those_among s d places ≡ schema_components s d
      either_way (Some cs) e =
          let at = found_contained places d.place (are.all d.place cs e) in
          present (among_found places at.0 d.place at.1) are.once
      either_way None e =
          absent places (λ i. let there = are.there d.place (found_among i) in not_both there.1 e)
          ∙ ap (λ o. filter (λ c. same_component_name d.name c.name) (given o)) (sym e)

-- one grammar more in the table, one place less to do
pub one_grammar_more : {A : Type 0} (s : Schema) (view : A → Place) (places : List A) (i : ℕ) (x : A) (t u : Table) → i < length places → x ≡ get_or places i x
    → IsTable u → ((d : Definition) → components_of u d ≡ components_of t d ++ those_at d (view x) (components_at s (view x)))
    → Gathers s (map view (drop i places)) t → Gathers s (map view (drop (i + 1) places)) u
one_grammar_more s view places i x t u inside is table one so_far =
    (table, λ d. one_place_less s d view places i x (components_of t d) (components_of u d) (schema_components s d) inside is (one d) (so_far.1 d))

-- an empty table
pub no_grammar : (s : Schema) (places : List Place) (t : Table) → AreItsPlaces s places → t.definitions ≡ [] → t.components ≡ [] → Gathers s places t
no_grammar s places t are none nothing = (
  ap length nothing ∙ sym (ap length none),
  λ d.
      ap (λ css. slice_index_or css (number_of t.definitions d) [] ++ those_among s d places) nothing
      ∙ ap (λ cs. cs ++ those_among s d places) (out_of_range [] (number_of t.definitions d) (omega arith)) ∙ all_places s d places are,
)

pub all_gathered : {A : Type 0} (s : Schema) (view : A → Place) (places : List A) (i : ℕ) (t : Table) → length places ≤ i
    → Gathers s (map view (drop i places)) t → (d : Definition) → components_of t d ≡ schema_components s d
all_gathered s view places i t h g d =
    sym (append-nil (components_of t d)) ∙ ap (λ xs. components_of t d ++ those_among s d (map view xs)) (sym (drop_all i places h)) ∙ g.1 d
