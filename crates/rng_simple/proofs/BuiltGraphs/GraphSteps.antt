-- Building the graph of a schema, one definition after another.
use Rattle.std.proofs.Common.{◌≡◌, inl, inr, refl, sym, ap, ap₂, ◌∙◌, subst, arith, ℕ, suc, ◌+◌, ◌<◌, ◌≤◌, Bool, true, false, cond, if◌then◌else◌, filter}
use Rattle.std.proofs.Common.{List, [], ◌∷◌, ◌++◌}
use Rattle.std.proofs.Common.{map, take, length, length-append, slice_get, Option, Some, None, Contains}
use Rattle.std.proofs.lemmas.List.{take_all, take_more, take-append-le, length-map}
use Rattle.std.proofs.lemmas.List.Elements.{Contains-push_cases}
use Rattle.std.proofs.lemmas.List.Sums.{fold_push}
use Rattle.std.proofs.lemmas.Option.{slice_get_within, get_or_from_slice_get, none-some}
use Rattle.rng_model.proofs.Members.{not_in_none, one_or_none}
use Rattle.rng_model.proofs.Places.{before_or_at_end, front_stays, contains_at, among_at, in_front, at_among}
use Rattle.rng_model.specs.names.Lists.{HasTwice, at_first, later}
use Rattle.rng_model.specs.simple.Tree.{Tree}
use Rattle.rng_model.specs.schema.Patterns.{Point, pattern_tree}
use Rattle.rng_model.specs.schema.Schema.{Schema, Component, Definition, main_start, body, body_among, combining_connector, nested, same_component_name}
use Rattle.rng_model.specs.schema.Schema.{trees_named}
use Rattle.rng_model.specs.schema.Unfolding.{Leaf, content_of, to_definition}
use Rattle.rng_model.proofs.Options.{one_value}
use Rattle.rng_simple.specs.views.ComponentTable.{given, IsTable, Table, components_of, schema_components}
use Rattle.rng_simple.specs.plain.Graph.{Spot, IsResolved, IsGraphOf, ArePairwiseApart, same_definition, same_leaf, number_of}
use Rattle.rng_simple.specs.plain.Met.{met_start}
use Rattle.rng_simple.specs.plain.ReadySchema.{IsReady}
use Rattle.rng_simple.specs.plain.ResolvedElements.{elements_of, with_elements_of}
use Rattle.rng_simple.specs.plain.ResolvedBody.{resolved_body}
use Rattle.rng_simple.specs.plain.Resolving.{Numbering}
use Rattle.rng_load.proofs.NameLists.{no_more}
use Rattle.rng_simple.proofs.NumberedGraphs.GraphTables.{definition_same}
use Rattle.rng_simple.proofs.NumberedGraphs.Graphs.{found}
use Rattle.rng_simple.proofs.ListParts.{map_at}
use Rattle.rng_simple.proofs.BuiltGraphs.ResolvedPatterns.{IsNumbering, asked, is_there, is_new, stays}
use Rattle.rng_simple.proofs.BuiltGraphs.ResolvedBodies.{body_resolves}
use Rattle.rng_simple.proofs.BuiltGraphs.ComponentTables.{out_of_range}

-- the elements of the first n definitions
abbrev pub elements_so_far : Schema → ℕ → Numbering → List Leaf
elements_so_far s n v = elements_of s (take n v.definitions)

-- the invariant while bodies are resolved in the order of their numbers
pub record IsGraphSoFar (s : Schema) (v : Numbering) (bodies : List (Tree Spot)) : Type 0 where
  pub first : slice_get v.definitions 0 ≡ Some (main_start s)
  pub some : length bodies ≤ length v.definitions
  pub numbering : IsNumbering s (elements_so_far s (length bodies) v) v
  pub each : (j : ℕ) (d : Definition) (r : Tree Spot) → slice_get v.definitions j ≡ Some d → slice_get bodies j ≡ Some r
      → (a : Tree Point) × (body s d ≡ Some a) × IsResolved s v.definitions (elements_so_far s (length bodies) v) d.place a r

one_more_taken : {A : Type 0} (xs ys : List A) (n : ℕ) (x : A) → slice_get xs n ≡ Some x → take (n + 1) (xs ++ ys) ≡ take n xs ++ x ∷ []
one_more_taken xs ys n x e =
    let h = slice_get_within xs n x e in
    take-append-le (n + 1) xs ys (omega (arith, h)) ∙ take_more xs n x h ∙ ap (λ y. take n xs ++ y ∷ []) (get_or_from_slice_get xs n x x e)

module _ (s : Schema) (ready : IsReady s) where
  pub started : (v : Numbering) → v.definitions ≡ main_start s ∷ [] → v.elements ≡ [] → IsGraphSoFar s v []
  started v ds es = record {
    first = ap (λ ds. slice_get ds 0) ds;
    some = omega arith;
    numbering = record {
      count = ap length es;
      each = λ k m e f g. absurd (let h = slice_get_within [] k m f in omega arith);
      met_definitions = λ d c. met_start (ap to_definition (only_one d (subst (λ ds. Contains ds d) ds c)));
      met_elements = λ m c. absurd (not_in_none c);
      apart = subst (ArePairwiseApart same_definition) (sym ds) one_apart;
    };
    each = λ j d r e f. absurd (let h = slice_get_within [] j r f in omega arith);
  }
    where
      only_one : (d : Definition) → Contains (main_start s ∷ []) d → d ≡ main_start s
      only_one d c = elim (Contains-push_cases [] (main_start s) d c) [ inl z ↦ absurd (not_in_none z) | inr z ↦ sym z ]

      one_apart : ArePairwiseApart same_definition (main_start s ∷ [])
      one_apart i j x y e f q = let a = slice_get_within (main_start s ∷ []) i x e in let b = slice_get_within (main_start s ∷ []) j y f in omega arith

  pub goes_on : (v : Numbering) (bodies : List (Tree Spot)) (d : Definition) → IsGraphSoFar s v bodies → slice_get v.definitions (length bodies) ≡ Some d
      → IsGraphSoFar s (resolved_body s d v).1 (bodies ++ (resolved_body s d v).0 ∷ [])
  goes_on v bodies d is e =
      let r = resolved_body s d v in
      let met = is.numbering.met_definitions d (contains_at v.definitions (length bodies) d e) in
      let a = ready.bodies d met in
      let ls = elements_so_far s (length bodies) v in
      let after = body_resolves s ready.found d a.0 ls v is.numbering met a.1 in
      let more = after.more in
      let longer = length-append bodies (r.0 ∷ []) in
      let elements : with_elements_of s ls d ≡ elements_so_far s (length (bodies ++ r.0 ∷ [])) r.1 =
      sym (ap₂ (λ n ds. elements_of s (take n ds)) longer more.definitions
      ∙ ap (elements_of s) (one_more_taken v.definitions more.more (length bodies) d e)
      ∙ fold_push (with_elements_of s) [] (take (length bodies) v.definitions) d) in
      let here = slice_get_within v.definitions (length bodies) d e in
      let before : (j : ℕ) (c : Definition) → j < length v.definitions → slice_get r.1.definitions j ≡ Some c → slice_get v.definitions j ≡ Some c =
      λ j c h f. sym (front_stays v.definitions more.more j h) ∙ ap (λ ds. slice_get ds j) (sym more.definitions) ∙ f in record {
        first = ap (λ ds. slice_get ds 0) more.definitions ∙ in_front v.definitions more.more 0 (main_start s) is.first;
        some = omega (arith, longer, here, ap length more.definitions, length-append v.definitions more.more);
        numbering = subst (λ ls. IsNumbering s ls r.1) elements after.numbering;
        each = λ j c q f g. elim (before_or_at_end bodies r.0 q j g) [
          | inl h ↦
              let inside = slice_get_within bodies j q h in
              let b = is.each j c q (before j c (omega (arith, inside, is.some)) f) h in
              (b.0, b.1, subst (λ ls. IsResolved s r.1.definitions ls c.place b.0 q) elements (stays more b.2))
          | inr h ↦
              let same : d ≡ c = one_value e (ap (slice_get v.definitions) (sym h.0) ∙ before j c (omega (arith, h.0, here)) f) in
              subst (λ q. (a : Tree Point) × (body s c ≡ Some a)
              × IsResolved s r.1.definitions (elements_so_far s (length (bodies ++ r.0 ∷ [])) r.1) c.place a q)
              (sym h.1) (subst (λ c. (a : Tree Point) × (body s c ≡ Some a)
              × IsResolved s r.1.definitions (elements_so_far s (length (bodies ++ r.0 ∷ [])) r.1) c.place a r.0)
              same (a.0, a.1, subst (λ ls. IsResolved s r.1.definitions ls d.place a.0 r.0) elements after.resolved))
        ];
      }

  -- the graph once all definitions have a body
  pub whole : (v : Numbering) (bodies : List (Tree Spot)) → IsGraphSoFar s v bodies → length v.definitions ≤ length bodies
      → ArePairwiseApart same_leaf (elements_of s v.definitions)
      → IsGraphOf s v.definitions (elements_of s v.definitions) (record { bodies = bodies; contents = map (λ e. e.1) v.elements })
  whole v bodies is all apart =
      let elements : elements_so_far s (length bodies) v ≡ elements_of s v.definitions = ap (elements_of s) (take_all (length bodies) v.definitions all) in
      let numbering = subst (λ ls. IsNumbering s ls v) elements is.numbering in record {
        start = is.first;
        all_bodies = omega (arith, is.some, all);
        all_contents = length-map v.elements (λ e. e.1) ∙ numbering.count;
        bodies = λ j d r e f.
            let b = is.each j d r e f in
            (b.0, b.1, subst (λ ls. IsResolved s v.definitions ls d.place b.0 r) elements b.2);
        contents = λ k m r e f.
            let g = found v.elements k (omega (arith, slice_get_within (map (λ e. e.1) v.elements) k r f, length-map v.elements (λ e. e.1))) in
            subst (IsResolved s v.definitions (elements_of s v.definitions) m.place (content_of m))
            (one_value (map_at (λ e. e.1) v.elements k g.0 g.1) f) (numbering.each k m g.0 e g.1).1;
        met_definitions = numbering.met_definitions;
        met_elements = numbering.met_elements;
        definitions_apart = numbering.apart;
        elements_apart = apart;
      }

-- the classes of the elements are those that are numbered with them
pub same_classes : (s : Schema) (ls : List Leaf) (v : Numbering) → IsNumbering s ls v → map (λ m. m.class) ls ≡ map (λ e. e.0) v.elements
same_classes s ls v is = same_lists (map (λ m. m.class) ls) (map (λ e. e.0) v.elements)
    (length-map ls (λ m. m.class) ∙ sym is.count ∙ sym (length-map v.elements (λ e. e.0)))
    (λ k c d e f.
    let m = found ls k (omega (arith, slice_get_within (map (λ m. m.class) ls) k c e, length-map ls (λ m. m.class))) in
    let g = found v.elements k (omega (arith, slice_get_within (map (λ e. e.0) v.elements) k d f, length-map v.elements (λ e. e.0))) in
    sym (one_value (sym e ∙ map_at (λ m. m.class) ls k m.0 m.1 ∙ ap Some (sym (is.each k m.0 g.0 m.1 g.1).0) ∙ sym (map_at (λ e. e.0) v.elements k g.0 g.1)
    ∙ f) refl))
  where
    same_lists : {A : Type 0} (xs ys : List A) → length xs ≡ length ys
        → ((k : ℕ) (x y : A) → slice_get xs k ≡ Some x → slice_get ys k ≡ Some y → x ≡ y) → xs ≡ ys
    same_lists [] [] n e = refl
    same_lists [] (y ∷ ys) n e = absurd (omega (arith, n))
    same_lists (x ∷ xs) [] n e = absurd (omega (arith, n))
    same_lists (x ∷ xs) (y ∷ ys) n e = ap₂ ◌∷◌ (e 0 x y refl refl) (same_lists xs ys (omega (arith, n)) (λ k a b f g. e (suc k) a b f g))

-- ---- distinct definitions with components are at most as many as the table has

none_twice : (ds : List Definition) → ArePairwiseApart same_definition ds → ¬ (HasTwice ds)
none_twice [] apart t = elim t [ ]
none_twice (d ∷ ds) apart (at_first a) = let k = among_at a in let e = apart 0 (suc k.0) d d refl k.1 (definition_same d) in omega (arith, e)
none_twice (d ∷ ds) apart (later t) =
    none_twice ds (λ i j x y e f q. let h = apart (suc i) (suc j) x y e f q in omega (arith, h)) t

none_named : (y : Option (List ℕ)) (n : ℕ) (cs : List Component) → filter (λ c. same_component_name y c.name) cs ≡ [] → trees_named y n cs ≡ []
none_named y n [] e = refl
none_named y n (c ∷ cs) e = by_name (same_component_name y c.name) e (none_named y (n + 1) cs)
  where
    by_name : (b : Bool) → cond b (c ∷ filter (λ c. same_component_name y c.name) cs) (filter (λ c. same_component_name y c.name) cs) ≡ []
        → (filter (λ c. same_component_name y c.name) cs ≡ [] → trees_named y (n + 1) cs ≡ [])
        → (if b then pattern_tree (n ∷ []) c.pattern ∷ trees_named y (n + 1) cs else trees_named y (n + 1) cs) ≡ []
    by_name true e rest = absurd (one_or_none e)
    by_name false e rest = rest e

has_components : (s : Schema) (d : Definition) (a : Tree Point) → body s d ≡ Some a → schema_components s d ≡ [] → ⊥
unfolding body
has_components s d a e n = among (s.components d.place) e n
  where
    among : (o : Option (List Component)) → body_among d.name o ≡ Some a → filter (λ c. same_component_name d.name c.name) (given o) ≡ [] → ⊥
    among None e n = none-some _ e
    among (Some cs) e n = none-some _ (ap (nested (combining_connector d.name cs)) (sym (none_named d.name 0 cs n)) ∙ e)

pub fewer : (s : Schema) → IsReady s → (t : Table) → IsTable t → ((d : Definition) → components_of t d ≡ schema_components s d)
    → (v : Numbering) (bodies : List (Tree Spot))
    → IsGraphSoFar s v bodies → length v.definitions ≤ length t.definitions
fewer s ready t table same v bodies is =
    no_more v.definitions t.definitions (none_twice v.definitions is.numbering.apart) (λ d i.
    let k = among_at i in
    let a = ready.bodies d (is.numbering.met_definitions d (contains_at v.definitions k.0 d k.1)) in
    elim (asked d t.definitions) [
      | is_there h e ↦ at_among t.definitions (number_of t.definitions d) _ e
      | is_new h e n ↦ absurd (has_components s d a.0 a.1 (sym (same d) ∙ out_of_range t.components (number_of t.definitions d) (omega (arith, e, table))))
    ])
