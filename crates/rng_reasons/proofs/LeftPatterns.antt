-- What is left of the bodies of elements, attribute by attribute.
use Rattle.std.proofs.Common.{◌≡◌, ◌∙◌, ◌↔◌, ℕ, ◌+◌, ◌<◌, ◌≤◌, List, [], ◌∷◌, ◌++◌, Bool, false, length, map, take, get_or, slice_get, Some, sym, subst, ap}
use Rattle.std.proofs.Common.{Bor, arith}
use Rattle.std.proofs.lemmas.List.{append_assoc, append-nil, map_more, take-map, take_all}
use Rattle.std.proofs.lemmas.Option.{slice_get-get_or, slice_get-map}
use Rattle.std.specs.Option.{option_map}
use Rattle.rng_model.specs.names.Names.{Name}
use Rattle.rng_model.specs.names.NameViews.{name_of}
use Rattle.rng_model.specs.simple.Table.{Table}
use Rattle.rng_model.specs.simple.Tree.{Simple, s_not_allowed}
use Rattle.rng_model.specs.matching.Document.{Attribute, Item, Distinct, one_more}
use Rattle.rng_model.specs.matching.GrammarMatching.{Reading, reading_of}
use Rattle.rng_model.specs.documents.EventViews.{attribute_of}
use Rattle.rng_model.specs.declared.document.Attr.{Attr}
use Rattle.rng_deriv_laws.specs.plain.Taking.{Takes}
use Rattle.rng_deriv_laws.specs.plain.Restricted.{IsRestricted}
use Rattle.rng_deriv_laws.proofs.Attributes.{closed_in, closed_out}
use Rattle.rng_deriv_table.specs.views.Node.{Node}
use Rattle.rng_deriv_table.specs.views.PatternTable.{Longer}
use Rattle.rng_deriv_table.specs.views.Trees.{tree_of, trees}
use Rattle.rng_deriv_table.specs.declared.pattern.PatternNumber.{PatternNumber}
use Rattle.rng_deriv_table.proofs.Trees.{Longer-length, length-trees, tree_stays}
use Rattle.rng_deriv_ways.specs.plain.Closing.{IsClosed}
use Rattle.rng_deriv_texts.specs.plain.After.{IsLeft}
use Rattle.rng_deriv_texts.specs.declared.first.First.TheVariants as firsts
use Rattle.rng_reasons.specs.AllowedPatterns.{HasNoNotAllowed}
use Rattle.rng_reasons.specs.NamedAttributes.{has_named}
use Rattle.rng_reasons.specs.TagFaults.{AreOthersMissing, IsFirstAtFault, IsLeftAfter, IsLeftAfterTag, NoneTakesThese}
use Rattle.rng_reasons.proofs.NamesInPatterns.{not_taken}

distinct_behind : (xs ys : List Attribute) → Distinct (xs ++ ys) → Distinct ys
distinct_behind [] ys u = u
distinct_behind (x ∷ xs) ys (one_more f u) = distinct_behind xs ys u

pub nothing_takes : (g : Reading) (p : Simple ℕ) (xs : List Attribute) (ns : List Item) → p ≡ s_not_allowed → Takes g p xs ns → ⊥
nothing_takes g p xs ns none d = let none_there : Takes g s_not_allowed xs ns = subst (λ q. Takes g q xs ns) none d in elim none_there [ ]

inside_trees : (t : Table) (ps : List Node) (n : PatternNumber) → n.0 < length ps → n.0 < length (trees t ps)
inside_trees t ps n inside = subst (λ l. n.0 < l) (sym (length-trees t ps)) inside

-- ---- the attributes of a tag

pub attribute_there : (attrs : List Attr) (i : ℕ) (a : Attr) → i < length attrs → a ≡ get_or attrs i a
    → slice_get (map attribute_of attrs) i ≡ Some (attribute_of a)
attribute_there attrs i a within is =
    slice_get-map attribute_of attrs i ∙ ap (option_map attribute_of) (slice_get-get_or attrs i a within ∙ ap Some (sym is))

pub one_more_taken : (attrs : List Attr) (i : ℕ) (a : Attr) → i < length attrs → a ≡ get_or attrs i a
    → take (i + 1) (map attribute_of attrs) ≡ take i (map attribute_of attrs) ++ attribute_of a ∷ []
one_more_taken attrs i a within is =
    take-map attribute_of (i + 1) attrs ∙ map_more attribute_of attrs i a within ∙ ap (λ b. map attribute_of (take i attrs) ++ attribute_of b ∷ []) (sym is)
    ∙ ap (λ l. l ++ attribute_of a ∷ []) (sym (take-map attribute_of i attrs))

pub all_taken : (attrs : List Attr) (i : ℕ) → length attrs ≤ i → take i (map attribute_of attrs) ≡ map attribute_of attrs
all_taken attrs i long = take-map attribute_of i attrs ∙ ap (map attribute_of) (take_all i attrs long)

-- given what the bodies take
module _ (Taken : List Attribute → List Item → Type 0) (t : Table) where
  -- what is left after these attributes, or notAllowed
  pub record IsBehind (ps : List Node) (xs : List Attribute) (n : PatternNumber) : Type 0 where
    pub inside : n.0 < length ps
    pub restricted : IsRestricted (tree_of t ps n.0)
    pub takes : (zs : List Attribute) (ns : List Item) → Distinct (xs ++ zs) → Takes (reading_of t) (tree_of t ps n.0) zs ns ↔ Taken (xs ++ zs) ns

  -- ---- as attributes are taken

  pub behind_none : (ps : List Node) (n : PatternNumber) → n.0 < length ps → IsRestricted (tree_of t ps n.0)
      → ((xs : List Attribute) (ns : List Item) → Takes (reading_of t) (tree_of t ps n.0) xs ns ↔ Taken xs ns) → IsBehind ps [] n
  behind_none ps n inside restricted same = record { inside = inside; restricted = restricted; takes = λ zs ns u. same zs ns }

  pub behind_more : (before new : List Node) (xs ys : List Attribute) (a : Bor Attr) (n rest : PatternNumber) → IsBehind before xs n
      → IsLeft t before new (firsts.Attribute a) n rest → ys ≡ xs ++ attribute_of a.now ∷ [] → IsBehind new ys rest
  behind_more before new xs ys a n rest was left are = subst (λ l. IsBehind new l rest) (sym are) (record {
    inside = left.inside;
    restricted = left.kept was.restricted;
    takes = λ zs ns u.
        let cut = append_assoc xs (attribute_of a.now ∷ []) zs in
        let apart : Distinct (xs ++ (attribute_of a.now ∷ zs)) = subst Distinct cut u in
        let now = left.law was.restricted zs ns (distinct_behind xs (attribute_of a.now ∷ zs) apart) in
        let then = was.takes (attribute_of a.now ∷ zs) ns apart in (
          λ h. subst (λ l. Taken l ns) (sym cut) (then.0 (now.0 h)),
          λ d. now.1 (then.1 (subst (λ l. Taken l ns) cut d)),
        );
  })

  pub behind_longer : (before new : List Node) → Longer before new → (xs : List Attribute) (n : PatternNumber) → IsBehind before xs n → IsBehind new xs n
  behind_longer before new longer xs n was =
      let stays = sym (tree_stays t before new n.0 longer was.inside) in
      let Takes_so : Simple ℕ → Type 0 = λ p. (zs : List Attribute) (ns : List Item) → Distinct (xs ++ zs) → Takes (reading_of t) p zs ns ↔ Taken (xs ++ zs) ns in
      let more = Longer-length before new longer in
      record {
        inside = omega (arith, was.inside, more);
        restricted = subst IsRestricted stays was.restricted;
        takes = subst Takes_so stays was.takes;
      }

  -- ---- what is told

  module _ (ps : List Node) (xs : List Attribute) (n : PatternNumber) (is : IsBehind ps xs n) where
    pub nothing_behind : tree_of t ps n.0 ≡ s_not_allowed → NoneTakesThese Taken xs
    nothing_behind none zs ns u d = nothing_takes (reading_of t) (tree_of t ps n.0) zs ns none ((is.takes zs ns u).1 d)

    pub left_behind : HasNoNotAllowed (tree_of t ps n.0) → IsLeftAfter Taken (reading_of t) (trees t ps) xs n
    left_behind allowed = record { inside = inside_trees t ps n is.inside; allowed = allowed; takes = is.takes }

    pub no_value : (q : Name) → has_named q (tree_of t ps n.0) ≡ false → (value : List ℕ) → NoneTakesThese Taken (xs ++ record { name = q; content = value } ∷ [])
    no_value q none value zs ns u d =
        let a : Attribute = record { name = q; content = value } in
        let cut = append_assoc xs (a ∷ []) zs in
        not_taken (reading_of t) (tree_of t ps n.0) a zs ns none ((is.takes (a ∷ zs) ns (subst Distinct cut u)).1 (subst (λ l. Taken l ns) cut d))

  -- the attribute at a place, after which nothing is left
  module _ (before new : List Node) (longer : Longer before new) (xs : List Attribute) (i : ℕ) (a : Attr) (there : slice_get xs i ≡ Some (attribute_of a))
      (left rest : PatternNumber) (was : IsBehind before (take i xs) left) (allowed : HasNoNotAllowed (tree_of t before left.0))
      (next : IsBehind new (take (i + 1) xs) rest) where
    pub first_at_fault : (b : Bool) → tree_of t new rest.0 ≡ s_not_allowed → b ≡ has_named (name_of a.name) (tree_of t new left.0)
        → IsFirstAtFault Taken (reading_of t) (trees t new) xs i b
    first_at_fault b none named =
        let now = behind_longer before new longer (take i xs) left was in
        let stays = tree_stays t before new left.0 longer was.inside in
        record {
          fault = attribute_of a;
          there = there;
          left = left;
          before = left_behind new (take i xs) left now (subst HasNoNotAllowed (sym stays) allowed);
          none = nothing_behind new (take (i + 1) xs) rest next none;
          named = named;
          unnamed = λ e. no_value new (take i xs) left now (name_of a.name) (sym named ∙ e);
        }

  -- ---- once the tag is closed

  module _ (before new : List Node) (xs : List Attribute) (left rest : PatternNumber) (was : IsBehind before xs left) (closed : IsClosed before new left rest) where
    takes_closed : Distinct xs → (ns : List Item) → Takes (reading_of t) (tree_of t new rest.0) [] ns ↔ Taken xs ns
    takes_closed u ns =
        let g = reading_of t in
        let p = tree_of t before left.0 in
        let same = closed.same t g in
        let now = was.takes [] ns (subst Distinct (sym (append-nil xs)) u) in (
          λ h. subst (λ l. Taken l ns) (append-nil xs) (now.0 (closed_out g p ns (same.to [] ns h))),
          λ d. same.back [] ns (closed_in g p ns (now.1 (subst (λ l. Taken l ns) (sym (append-nil xs)) d))),
        )

    pub left_after_tag : HasNoNotAllowed (tree_of t new rest.0) → IsLeftAfterTag Taken (reading_of t) (trees t new) xs rest
    left_after_tag allowed = record {
      inside = inside_trees t new rest closed.inside;
      allowed = allowed;
      bare = (closed.bare t was.restricted.texts).none;
      takes = takes_closed;
    }

    pub others_missing : Longer before new → HasNoNotAllowed (tree_of t before left.0) → tree_of t new rest.0 ≡ s_not_allowed
        → AreOthersMissing Taken (reading_of t) (trees t new) xs
    others_missing longer allowed none = record {
      left = left;
      after = left_behind new xs left (behind_longer before new longer xs left was) (subst HasNoNotAllowed (sym (tree_stays t before new left.0 longer was.inside)) allowed);
      none = λ u ns d. nothing_takes (reading_of t) (tree_of t new rest.0) [] ns none ((takes_closed u ns).1 d);
    }
