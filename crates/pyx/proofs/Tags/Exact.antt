-- The result of reading a tag is exact: a clause that it breaks is returned, and otherwise its element, which is
-- unique.
use Rattle.std.proofs.Common.{◌≡◌, ℕ, ◌≤◌, Bool, true, false, ◌||◌, List, [], ◌∷◌, length, map, Option, Some, None, Result, Ok, Err, refl, sym, ap}
use Rattle.std.proofs.Common.{subst, ◌∙◌, ◌⊎◌, inl, inr}
use Rattle.std.specs.Prelude.{is_some}
use Rattle.std.specs.List.{AllByRecursion}
use Rattle.std.proofs.lemmas.List.Elements.{All-from_recursion, recursion_from_All}
use Rattle.std.proofs.lemmas.Option.{same_Some, none-some}
use Rattle.std.proofs.Math.Bool.{or-true}
use Rattle.rng_model.proofs.Members.{same_first, same_rest}
use Rattle.rng_model.specs.matching.Document.{Attribute, Distinct}
use Rattle.rng_model.specs.names.Lists.{Among, here, there, HasTwice, at_first, later}
use Rattle.rng_model.specs.names.Names.{Name}
use Rattle.rng_model.specs.documents.Lines.{attribute_limit}
use Rattle.rng_model.specs.documents.PyxLines.{Said, QName}
use Rattle.rng_model.specs.documents.PyxNamespaces.{WrittenAttribute, AreWritten, NamespaceDeclaration, Declares, default_namespace, prefix_declared, AreParted}
use Rattle.rng_model.specs.documents.PyxNamespaces.{nothing}
use Rattle.rng_model.specs.documents.PyxNamespaces.{declaration}
use Rattle.rng_model.specs.documents.PyxNamespaces.{other, NamespaceScope, IsForbidden, HasNamespace, NamesElement, element_name, NamesAttribute}
use Rattle.rng_model.specs.documents.PyxNamespaces.{without_prefix, with_prefix}
use Rattle.rng_model.specs.documents.PyxNamespaces.{AreExpanded, none_left, expanded_and}
use Rattle.rng_model.specs.documents.PyxClauses.{BreaksTagNamespaces, forbidden, element_prefix, attribute_prefix, RepeatsName, written_twice, expanded_twice}
use Rattle.rng_model.specs.documents.PyxTrees.{IsTag}
use Rattle.pyx.specs.plain.Declarations.{Declared, declared_by, is_written_in, is_written_twice}
use Rattle.pyx.specs.plain.TagReader.{Element, attribute_name, expanded, and_more, is_named_in}
use Rattle.pyx.specs.plain.TagReader.{is_named_twice}
use Rattle.pyx.specs.plain.TagReader.{tag_read, same_name}
use Rattle.pyx.specs.plain.Declarations.{same_written}
use Rattle.pyx.proofs.Lines.WrittenNames.{written_itself}
use Rattle.pyx.proofs.Tags.Declarations.{declaration_of}
use Rattle.pyx.proofs.Tags.Namespaces.{scope_in, AllDeclared}
use Rattle.pyx.proofs.Tags.Parts.{IsSplit, no_lines, declares, declares_none, split_parted}
use Rattle.pyx.proofs.Tags.Repeats.{names_of, distinct_all, name_itself}
use Rattle.pyx.proofs.Tags.Answers.{HasNames, IsRead, TagTells, tag_tells}
use Rattle.pyx.proofs.Tags.Unique.{prefixes_of, IsScopeOnce, parted_same, element_same, expanded_same}

true_false : true ≡ false → ⊥
true_false e = cc

-- ---- names that occur twice are found

nowhere : {A : Type 0} {x : A} {xs : List A} → Among x xs → xs ≡ [] → ⊥
nowhere here e = cc
nowhere (there m) e = cc

among_declared : {all ds os : List WrittenAttribute} {name : QName} {names : List QName} → IsSplit all ds os → Among name names
    → names ≡ names_of all → is_some (declared_by name) ≡ true → Among name (names_of ds)
among_declared no_lines m e s = absurd (nowhere m e)
among_declared {name = name} (declares {a} {p} {all} {ds} d r) here e s = subst (λ (x : QName). Among x (names_of (a ∷ ds))) (sym (same_first e)) here
among_declared (declares d r) (there m) e s = there (among_declared r m (same_rest e) s)
among_declared {name = name} (declares_none {a} d r) here e s =
    absurd (true_false (sym s ∙ ap (λ (x : QName). is_some (declared_by x)) (same_first e) ∙ ap is_some d))
among_declared (declares_none d r) (there m) e s = among_declared r m (same_rest e) s

among_others : {all ds os : List WrittenAttribute} {name : QName} {names : List QName} → IsSplit all ds os → Among name names
    → names ≡ names_of all → declared_by name ≡ None → Among name (names_of os)
among_others no_lines m e s = absurd (nowhere m e)
among_others (declares {a} {p} d r) here e s = absurd (none-some p (sym s ∙ ap declared_by (same_first e) ∙ d))
among_others (declares d r) (there m) e s = among_others r m (same_rest e) s
among_others (declares_none {a} {all} {ds} {os} d r) here e s = subst (λ (x : QName). Among x (names_of (a ∷ os))) (sym (same_first e)) here
among_others (declares_none d r) (there m) e s = there (among_others r m (same_rest e) s)

twice_split : {all ds os : List WrittenAttribute} {names : List QName} → IsSplit all ds os → HasTwice names → names ≡ names_of all
    → HasTwice (names_of ds) ⊎ HasTwice (names_of os)
twice_split no_lines (at_first m) e = absurd cc
twice_split no_lines (later t) e = absurd cc
twice_split (declares {a} {p} {all} {ds} d r) (at_first {x} {xs} m) e =
    inl (at_first (among_declared r (subst (λ (y : QName). Among y xs) (same_first e) m) (same_rest e) (ap is_some d)))
twice_split (declares_none {a} d r) (at_first {x} {xs} m) e =
    inr (at_first (among_others r (subst (λ (y : QName). Among y xs) (same_first e) m) (same_rest e) d))
twice_split (declares {a} {p} {all} {ds} {os} d r) (later t) e = go (twice_split r t (same_rest e)) where
  go : HasTwice (names_of ds) ⊎ HasTwice (names_of os) → HasTwice (names_of (a ∷ ds)) ⊎ HasTwice (names_of os)
  go (inl u) = inl (later u)
  go (inr u) = inr u
twice_split (declares_none {a} {all} {ds} {os} d r) (later t) e = go (twice_split r t (same_rest e)) where
  go : HasTwice (names_of ds) ⊎ HasTwice (names_of os) → HasTwice (names_of ds) ⊎ HasTwice (names_of (a ∷ os))
  go (inl u) = inl u
  go (inr u) = inr (later u)

-- ---- among the declarations

written_in : {name : QName} {names : List QName} (all : List WrittenAttribute) → Among name names → names ≡ names_of all
    → is_written_in name all ≡ true
unfolding is_written_in
written_in [] m e = absurd (nowhere m e)
written_in {name} (a ∷ more) here e = ap (λ (x : QName). same_written x name || is_written_in name more) (sym (same_first e))
    ∙ rw (written_itself name) refl
written_in {name} (a ∷ more) (there m) e = rw (written_in more m (same_rest e)) (or-true (same_written a.name name))

found_twice : {names : List QName} (all : List WrittenAttribute) → HasTwice names → names ≡ names_of all → is_written_twice all ≡ true
unfolding is_written_twice
found_twice [] (at_first m) e = absurd cc
found_twice [] (later t) e = absurd cc
found_twice (a ∷ more) (at_first {x} {xs} m) e =
    rw (written_in more (subst (λ (y : QName). Among y xs) (same_first e) m) (same_rest e)) refl
found_twice (a ∷ more) (later t) e = rw (found_twice more t (same_rest e)) (or-true (is_written_in a.name more))

-- ---- among the others: two that are written in the same way have one expanded name

record Parts (scope : Declared) (a : WrittenAttribute) (more : List WrittenAttribute) (attrs : List Attribute) : Type 0 where
  name : Name
  rest : List Attribute
  named : attribute_name scope a.name ≡ Some name
  others : expanded scope more ≡ Some rest
  is : attrs ≡ record { name = name; content = a.content } ∷ rest

parts_by : (scope : Declared) (a : WrittenAttribute) (more : List WrittenAttribute) (attrs : List Attribute) (o : Option Name) (r : Option (List Attribute))
    → attribute_name scope a.name ≡ o → expanded scope more ≡ r → and_more o a.content r ≡ Some attrs → Parts scope a more attrs
parts_by scope a more attrs None r e f g = absurd (none-some attrs g)
parts_by scope a more attrs (Some q) None e f g = absurd (none-some attrs g)
parts_by scope a more attrs (Some q) (Some rest) e f g = record { name = q; rest = rest; named = e; others = f; is = sym (same_Some _ _ g) }

parts_of : (scope : Declared) (a : WrittenAttribute) (more : List WrittenAttribute) (attrs : List Attribute) → expanded scope (a ∷ more) ≡ Some attrs
    → Parts scope a more attrs
unfolding expanded
parts_of scope a more attrs e = parts_by scope a more attrs (attribute_name scope a.name) (expanded scope more) refl refl e

named_in : (scope : Declared) (name : QName) (names : List QName) (all : List WrittenAttribute) (attrs : List Attribute) (q : Name)
    → Among name names → names ≡ names_of all → expanded scope all ≡ Some attrs → attribute_name scope name ≡ Some q → is_named_in q attrs ≡ true
unfolding is_named_in
named_in scope name names [] attrs q m e x n = absurd (nowhere m e)
named_in scope name names (a ∷ more) attrs q here e x n =
    let p = parts_of scope a more attrs x in
    let same : p.name ≡ q = same_Some p.name q (sym p.named ∙ ap (attribute_name scope) (sym (same_first e)) ∙ n) in
    rw (p.is) (ap (λ (y : Name). same_name y q || is_named_in q p.rest) same ∙ rw (name_itself q) refl)
named_in scope name names (a ∷ more) attrs q (there {xs} m) e x n =
    let p = parts_of scope a more attrs x in
    rw (p.is) (ap (λ (b : Bool). same_name p.name q || b) (named_in scope name xs more p.rest q m (same_rest e) p.others n) ∙ or-true (same_name p.name q))

named_twice : (scope : Declared) (names : List QName) (all : List WrittenAttribute) (attrs : List Attribute) → HasTwice names → names ≡ names_of all
    → expanded scope all ≡ Some attrs → is_named_twice attrs ≡ true
unfolding is_named_twice
named_twice scope names [] attrs (at_first m) e x = absurd cc
named_twice scope names [] attrs (later t) e x = absurd cc
named_twice scope names (a ∷ more) attrs (at_first {x = y} {xs} m) e x =
    let p = parts_of scope a more attrs x in
    rw (p.is) (ap (λ (b : Bool). b || is_named_twice p.rest)
    (named_in scope y xs more p.rest p.name m (same_rest e) p.others (ap (attribute_name scope) (same_first e) ∙ p.named)))
named_twice scope names (a ∷ more) attrs (later {xs} t) e x =
    let p = parts_of scope a more attrs x in
    rw (p.is) (ap (λ (b : Bool). is_named_in p.name p.rest || b) (named_twice scope xs more p.rest t (same_rest e) p.others)
    ∙ or-true (is_named_in p.name p.rest))

-- ---- the clauses that a tag with names breaks

not_among : {d : NamespaceDeclaration} {ds : List NamespaceDeclaration} → Among d ds → AllByRecursion (λ d. IsForbidden d → ⊥) ds → IsForbidden d → ⊥
not_among here all f = all.0 f
not_among (there m) all f = not_among m all.1 f

with_namespace : {scope : NamespaceScope} {name : QName} {q : Name} → NamesElement scope name q → (uri : List ℕ) × HasNamespace scope name.prefix uri
with_namespace (element_name {name} {uri} h) = (uri, h)

with_prefix_of : {scope : NamespaceScope} {name : QName} {q : Name} → NamesAttribute scope name q → (p : List ℕ) → name.prefix ≡ Some p
    → (uri : List ℕ) × HasNamespace scope (Some p) uri
with_prefix_of without_prefix p e = absurd (none-some p e)
with_prefix_of {scope} (with_prefix {p = r} {uri} h) p e = (uri, subst (λ (x : List ℕ). HasNamespace scope (Some x) uri) (same_Some r p e) h)

with_name_of : {scope : NamespaceScope} {all : List WrittenAttribute} {attrs : List Attribute} {a : WrittenAttribute} → AreExpanded scope all attrs → Among a all
    → (q : Name) × NamesAttribute scope a.name q
with_name_of none_left m = absurd (nowhere m refl)
with_name_of (expanded_and {name} n more) here = (name, n)
with_name_of (expanded_and n more) (there m) = with_name_of more m

-- a tag with these names breaks no rule about namespaces
no_breach : {outer : NamespaceScope} {name : QName} {written os : List WrittenAttribute} {ds : List NamespaceDeclaration} {q : Name} {attrs : List Attribute}
    → AreParted written ds os → AllByRecursion (λ d. IsForbidden d → ⊥) ds → NamesElement (ds ∷ outer) name q → AreExpanded (ds ∷ outer) os attrs
    → BreaksTagNamespaces outer name written → ⊥
no_breach parted allowed named are (forbidden {d = d} p m f) = not_among (subst (Among d) (parted_same p parted).0 m) allowed f
no_breach {outer} {name} parted allowed named are (element_prefix {ds} {p = x} p e u) =
    let h = with_namespace named in
    u h.0 (subst (λ (y : Option (List ℕ)). HasNamespace (ds ∷ outer) y h.0) e
    (subst (λ (y : List NamespaceDeclaration). HasNamespace (y ∷ outer) name.prefix h.0) (sym (parted_same p parted).0) h.1))
no_breach {outer} parted allowed named are (attribute_prefix {a = a} {p = x} p m e u) =
    let k = parted_same p parted in
    let r = with_name_of are (subst (Among a) k.1 m) in
    let h = with_prefix_of r.1 x e in
    u h.0 (subst (λ (y : List NamespaceDeclaration). HasNamespace (y ∷ outer) (Some x) h.0) (sym k.0) h.1)

-- ---- a prefix that is declared twice is written twice

declares_one : {a b : QName} {p q : Option (List ℕ)} → Declares a p → Declares b q → p ≡ q → a ≡ b
declares_one default_namespace default_namespace e = refl
declares_one default_namespace (prefix_declared {p}) e = absurd (none-some p e)
declares_one (prefix_declared {p}) default_namespace e = absurd (none-some p (sym e))
declares_one (prefix_declared {p}) (prefix_declared {p = r}) e = rw (same_Some p r e) refl

among_prefixes : {all os : List WrittenAttribute} {ds : List NamespaceDeclaration} {p : Option (List ℕ)} {ps : List (Option (List ℕ))} {name : QName}
    → AreParted all ds os → Among p ps → ps ≡ prefixes_of ds → Declares name p → Among name (names_of all)
among_prefixes nothing m e d = absurd (nowhere m e)
among_prefixes (declaration {a} {all} c r) here e d =
    subst (λ (x : QName). Among x (names_of (a ∷ all))) (sym (declares_one d c (same_first e))) here
among_prefixes (declaration c r) (there m) e d = there (among_prefixes r m (same_rest e) d)
among_prefixes (other n r) m e d = there (among_prefixes r m e d)

pub once_declared : {all os : List WrittenAttribute} {ds : List NamespaceDeclaration} {ps : List (Option (List ℕ))} → AreParted all ds os → HasTwice ps
    → ps ≡ prefixes_of ds → HasTwice (names_of all)
once_declared nothing (at_first m) e = absurd cc
once_declared nothing (later t) e = absurd cc
once_declared (declaration {a} {p} c r) (at_first {x} {xs} m) e =
    at_first (among_prefixes r (subst (λ (y : Option (List ℕ)). Among y xs) (same_first e) m) (same_rest e) c)
once_declared (declaration c r) (later t) e = later (once_declared r t (same_rest e))
once_declared (other n r) t e = later (once_declared r t e)

-- ---- the results

module _ (outer : Declared) (name : QName) (written declared others : List WrittenAttribute) (split : IsSplit written declared others) where
  parts : {ds : List NamespaceDeclaration} {os : List WrittenAttribute} → AreParted written ds os → (ds ≡ map declaration_of declared) × (os ≡ others)
  parts p = parted_same p (split_parted split)

  breaks_none : (q : Name) (attrs : List Attribute) → HasNames outer name declared others q attrs → BreaksTagNamespaces (scope_in outer) name written → ⊥
  breaks_none q attrs n b = no_breach (split_parted split) n.allowed n.is_named n.are_expanded b

  -- a broken P11 is returned
  pub tag_namespaces : AllDeclared outer → BreaksTagNamespaces (scope_in outer) name written → tag_read outer name declared others ≡ Err 11
  tag_namespaces all b = go (tag_read outer name declared others) (tag_tells outer name written declared others split all) where
    go : (r : Result Element ℕ) → TagTells outer name written declared others r → r ≡ Err 11
    go (Ok e) t = absurd (breaks_none e.name e.attrs t.names b)
    go (Err k) (inl t) = ap Err t.0
    go (Err k) (inr t) = absurd (breaks_none t.1.q t.1.attrs t.1.names b)

  once_here : (e : Element) → IsRead outer name declared others e → HasTwice (names_of written) → ⊥
  once_here e r t = go (twice_split split t refl) where
    go : HasTwice (names_of declared) ⊎ HasTwice (names_of others) → ⊥
    go (inl u) = true_false (sym (found_twice declared u refl) ∙ r.once)
    go (inr u) = true_false (sym (named_twice (declared ∷ outer) (names_of others) others e.attrs u refl r.names.is_expanded) ∙ distinct_all r.distinct)

  pub read_once : (e : Element) → IsRead outer name declared others e → HasTwice (prefixes_of (map declaration_of declared)) → ⊥
  read_once e r t = once_here e r (once_declared (split_parted split) t refl)

  repeats_none : (e : Element) → IsScopeOnce (scope_in outer) → IsRead outer name declared others e → RepeatsName (scope_in outer) written → ⊥
  repeats_none e once r (written_twice t) = once_here e r t
  repeats_none e once r (expanded_twice {ds} {others = os} {attrs} p x n) =
      let k = parts p in
      let y : AreExpanded (scope_in (declared ∷ outer)) others attrs = subst (λ (z : List WrittenAttribute). AreExpanded (scope_in
      (declared ∷ outer)) z attrs) k.1
      (subst (λ (z : List NamespaceDeclaration). AreExpanded (z ∷ scope_in outer) os attrs) k.0 x) in
      n (subst Distinct (expanded_same (read_once e r, once) r.names.are_expanded y) r.distinct)

  -- if P12 is broken, it or P11 is returned
  pub tag_repeats : AllDeclared outer → IsScopeOnce (scope_in outer) → RepeatsName (scope_in outer) written
      → (tag_read outer name declared others ≡ Err 11) ⊎ (tag_read outer name declared others ≡ Err 12)
  tag_repeats all once b = go (tag_read outer name declared others) (tag_tells outer name written declared others split all) where
    go : (r : Result Element ℕ) → TagTells outer name written declared others r → (r ≡ Err 11) ⊎ (r ≡ Err 12)
    go (Ok e) t = absurd (repeats_none e once t b)
    go (Err k) (inl t) = inl (ap Err t.0)
    go (Err k) (inr t) = inr (ap Err t.0)

  -- an element that is read is that of the tag
  pub is_tag : AllDeclared outer → (said : List Said) (e : Element) → AreWritten said written → length written ≤ attribute_limit
      → tag_read outer name declared others ≡ Ok e → IsTag (scope_in outer) name said e.name e.attrs (scope_in (declared ∷ outer))
  is_tag all said e w h q = go (subst (TagTells outer name written declared others) q (tag_tells outer name written declared others split all)) where
    go : IsRead outer name declared others e → IsTag (scope_in outer) name said e.name e.attrs (scope_in (declared ∷ outer))
    go r = record {
      written = written;
      are_written = w;
      within = h;
      once = once_here e r;
      declarations = map declaration_of declared;
      others = others;
      are_parted = split_parted split;
      allowed = All-from_recursion (λ d. IsForbidden d → ⊥) (map declaration_of declared) r.names.allowed;
      scope_is = refl;
      is_named = r.names.is_named;
      are_expanded = r.names.are_expanded;
      distinct = r.distinct;
    }

  tag_once : {q : Name} {attrs : List Attribute} {scope : NamespaceScope} {said : List Said} (t : IsTag (scope_in outer) name said q attrs scope)
      → t.written ≡ written → HasTwice (prefixes_of t.declarations) → ⊥
  tag_once t e u = t.once (once_declared t.are_parted u refl)

  tag_repeats_none : {q : Name} {attrs : List Attribute} {scope : NamespaceScope} {said : List Said} (t : IsTag (scope_in outer) name said q attrs scope)
      → t.written ≡ written → IsScopeOnce (scope_in outer) → RepeatsName (scope_in outer) written → ⊥
  tag_repeats_none t e once (written_twice u) = t.once (subst (λ (x : List WrittenAttribute). HasTwice (names_of x)) (sym e) u)
  tag_repeats_none {attrs = attrs} t e once (expanded_twice {ds} {others = os} {attrs = found} p x n) =
      let k = parted_same p (subst (λ (w : List WrittenAttribute). AreParted w t.declarations t.others) e t.are_parted) in
      let z : AreExpanded (t.declarations ∷ scope_in outer) os found = subst (λ (y : List NamespaceDeclaration). AreExpanded (y ∷ scope_in outer) os found) k.0 x in
      let y : AreExpanded (t.declarations ∷ scope_in outer) t.others found =
      subst (λ (w : List WrittenAttribute). AreExpanded (t.declarations ∷ scope_in outer) w found) k.1 z in
      let r : AreExpanded (t.declarations ∷ scope_in outer) t.others attrs = subst (λ (w : NamespaceScope). AreExpanded w t.others attrs) t.scope_is t.are_expanded in
      n (subst Distinct (expanded_same (tag_once t e, once) r y) t.distinct)

  tag_found : {q : Name} {attrs : List Attribute} {scope : NamespaceScope} {said : List Said} (t : IsTag (scope_in outer) name said q attrs scope)
      → t.written ≡ written → IsScopeOnce (scope_in outer) → (e : Element) → IsRead outer name declared others e
      → ◌≡◌ {A = Element} e (record { name = q; attrs = attrs })
  tag_found {q} {attrs} t w once e r =
      let k = parted_same (subst (λ (w : List WrittenAttribute). AreParted w t.declarations t.others) w t.are_parted) (split_parted split) in
      let same : (t.declarations ∷ scope_in outer) ≡ scope_in (declared ∷ outer) = ap (λ (x : List NamespaceDeclaration). x ∷ scope_in outer) k.0 in
      let o : IsScopeOnce (scope_in (declared ∷ outer)) = (read_once e r, once) in
      let n : NamesElement (scope_in (declared ∷ outer)) name q = subst (λ (x : NamespaceScope). NamesElement x name q) (t.scope_is ∙ same) t.is_named in
      let x : AreExpanded (scope_in (declared ∷ outer)) others attrs =
      subst (λ (y : List WrittenAttribute). AreExpanded (scope_in (declared ∷ outer)) y attrs) k.1
      (subst (λ (y : NamespaceScope). AreExpanded y t.others attrs) (t.scope_is ∙ same) t.are_expanded) in
      join e.name q e.attrs attrs (element_same o r.names.is_named n) (expanded_same o r.names.are_expanded x) where
        join : (a b : Name) (xs ys : List Attribute) → a ≡ b → xs ≡ ys → ◌≡◌ {A = Element} (record { name = a; attrs = xs }) (record { name = b; attrs = ys })
        join a b xs ys e f = rw (e, f) refl

  -- a tag is read as its element
  pub tag_is : {q : Name} {attrs : List Attribute} {scope : NamespaceScope} {said : List Said} (t : IsTag (scope_in outer) name said q attrs scope)
      → t.written ≡ written → AllDeclared outer → IsScopeOnce (scope_in outer)
      → tag_read outer name declared others ≡ Ok (record { name = q; attrs = attrs })
  tag_is {q} {attrs} {scope} t w all once = go (tag_read outer name declared others) (tag_tells outer name written declared others split all) where
    go : (r : Result Element ℕ) → TagTells outer name written declared others r → r ≡ Ok (record { name = q; attrs = attrs })
    go (Ok e) r = ap Ok (tag_found t w once e r)
    go (Err k) (inl b) = absurd (no_breach t.are_parted (recursion_from_All (λ d. IsForbidden d → ⊥) t.declarations t.allowed)
        (subst (λ (x : NamespaceScope). NamesElement x name q) t.scope_is t.is_named) (subst (λ (x : NamespaceScope). AreExpanded x t.others attrs) t.scope_is t.are_expanded)
        (subst (BreaksTagNamespaces (scope_in outer) name) (sym w) b.1))
    go (Err k) (inr b) = absurd (tag_repeats_none t w once b.1.twice)
