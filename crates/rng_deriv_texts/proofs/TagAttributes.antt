-- The attributes of a tag, one after the other.
use Rattle.std.proofs.Common.{◌≡◌, ℕ, ◌<◌, ◌≤◌, ◌+◌, ◌↔◌, List, [], ◌∷◌, drop, get_or, length, map, sym, subst, Bor}
use Rattle.std.proofs.lemmas.List.{drop_all, drop_more}
use Rattle.rng_model.specs.simple.Tree.{Simple, s_not_allowed, s_empty, s_text, s_leaf, s_attribute, s_list, s_data, s_data_except}
use Rattle.rng_model.specs.simple.Tree.{s_value, s_one_or_more, s_joined}
use Rattle.rng_model.specs.matching.Document.{Attribute, Item, Distinct, one_more}
use Rattle.rng_model.specs.simple.Table.{Table}
use Rattle.rng_model.specs.documents.EventViews.{attribute_of}
use Rattle.rng_model.specs.declared.document.Attr.{Attr}
use Rattle.rng_deriv_laws.specs.plain.Taking.{Takes}
use Rattle.rng_deriv_laws.specs.plain.Restricted.{HasNoAttribute, IsRestricted, RepeatsWell}
use Rattle.rng_deriv_laws.proofs.Attributes.{closed_in, closed_out}
use Rattle.rng_deriv_laws.proofs.KeptRestrictions.{none_is_ungrouped}
use Rattle.rng_deriv_table.specs.views.Node.{Node}
use Rattle.rng_deriv_table.specs.views.PatternTable.{Longer}
use Rattle.rng_deriv_table.specs.views.Trees.{tree_of}
use Rattle.rng_deriv_table.specs.declared.pattern.PatternNumber.{PatternNumber}
use Rattle.rng_deriv_table.proofs.Trees.{Longer-refl, Longer-trans}
use Rattle.rng_deriv_texts.specs.plain.After.{IsLeft, IsLeftOfTag}
use Rattle.rng_deriv_ways.specs.plain.Closing.{IsBareOfAttributes, IsClosed}
use Rattle.rng_model.specs.matching.GrammarMatching.{reading_of}
use Rattle.rng_deriv_texts.specs.declared.first.First.TheVariants as firsts

-- a pattern without attributes repeats none
bare_repeats : (p : Simple ℕ) → HasNoAttribute p → RepeatsWell p
bare_repeats s_not_allowed o = tt
bare_repeats s_empty o = tt
bare_repeats s_text o = tt
bare_repeats (s_leaf k) o = tt
bare_repeats (s_attribute c p) o = absurd o
bare_repeats (s_list p) o = bare_repeats p o
bare_repeats (s_data d) o = tt
bare_repeats (s_data_except d p) o = bare_repeats p o
bare_repeats (s_value d v) o = tt
bare_repeats (s_one_or_more p) o = (none_is_ungrouped p o, bare_repeats p o)
bare_repeats (s_joined k p q) o = (bare_repeats p o.0, bare_repeats q o.1)

bare_restricted : (p : Simple ℕ) → IsBareOfAttributes p → IsRestricted p
bare_restricted p bare = record { repeats = bare_repeats p bare.none; texts = bare.texts }

abbrev pub seen : List Attr → List Attribute
seen all = map attribute_of all

-- some of the attributes are taken, and these are left
pub record IsBehindSome (t : Table) (old new : List Node) (all more : List Attr) (number rest : PatternNumber) : Type 0 where
  pub longer : Longer old new
  pub inside : rest.0 < length new
  pub distinct : Distinct (seen all) → Distinct (seen more)
  pub kept : IsRestricted (tree_of t old number.0) → IsRestricted (tree_of t new rest.0)
  pub takes : IsRestricted (tree_of t old number.0) → Distinct (seen all) → (ns : List Item)
      → Takes (reading_of t) (tree_of t new rest.0) (seen more) ns ↔ Takes (reading_of t) (tree_of t old number.0) (seen all) ns

pub none_behind : (t : Table) (ns : List Node) (all : List Attr) (number : PatternNumber) → number.0 < length ns → IsBehindSome t ns ns all all number number
none_behind t ns all number inside = record {
  longer = Longer-refl ns;
  inside = inside;
  distinct = λ u. u;
  kept = λ o. o;
  takes = λ o u ms. (λ h. h, λ h. h);
}

others_distinct : (x : Attribute) (xs : List Attribute) → Distinct (x ∷ xs) → Distinct xs
others_distinct x xs (one_more f u) = u

pub one_behind_more : (t : Table) (old before new : List Node) (all : List Attr) (i : ℕ) (d : Attr) (a : Bor Attr) (number rest next : PatternNumber)
    → i < length all → IsBehindSome t old before all (drop i all) number rest → Longer before new
    → a.now ≡ get_or all i d → IsLeft t before new (firsts.Attribute a) rest next → IsBehindSome t old new all (drop (i + 1) all) number next
one_behind_more t old before new all i d a number rest next within was longer is left =
    let g = reading_of t in
    let cut = drop_more all i d within in
    let Apart : List Attr → Type 0 = λ l. Distinct (seen l) in
    let First : Attr → Type 0 = λ b. Distinct (attribute_of b ∷ seen (drop (i + 1) all)) in
    record {
      longer = Longer-trans old before new was.longer longer;
      inside = left.inside;
      distinct = λ u. others_distinct _ _ (subst Apart cut (was.distinct u));
      kept = λ o. left.kept (was.kept o);
      takes = λ o u ns.
          let Front : List Attr → Type 0 = λ l. Takes g (tree_of t before rest.0) (seen l) ns in
          let Own : Attr → Type 0 = λ b. Takes g (tree_of t before rest.0) (attribute_of b ∷ seen (drop (i + 1) all)) ns in
          let law = left.law (was.kept o) (seen (drop (i + 1) all)) ns (subst First (sym is) (subst Apart cut (was.distinct u))) in
          let now = was.takes o u ns in
          (λ h. now.0 (subst Front (sym cut) (subst Own is (law.0 h))), λ d. law.1 (subst Own (sym is) (subst Front cut (now.1 d))));
    }

pub tag_behind : (t : Table) (old before new : List Node) (all : List Attr) (i : ℕ) (number rest next : PatternNumber) → length all ≤ i
    → IsBehindSome t old before all (drop i all) number rest → IsClosed before new rest next → IsLeftOfTag t old new (seen all) number next
tag_behind t old before new all i number rest next past was closed = record {
  inside = closed.inside;
  law = λ o u ns.
      let g = reading_of t in
      let same = closed.same t g in
      let Rest : List Attr → Type 0 = λ l. Takes g (tree_of t before rest.0) (seen l) ns in
      let none = drop_all i all past in
      let now = was.takes o u ns in (
        λ h. now.0 (subst Rest (sym none) (closed_out g (tree_of t before rest.0) ns (same.to [] ns h))),
        λ d. same.back [] ns (closed_in g (tree_of t before rest.0) ns (subst Rest none (now.1 d))),
      );
  kept = λ o. bare_restricted _ (closed.bare t (was.kept o).texts);
}
