-- Known ways of patterns stay right as a table grows.
use Rattle.std.proofs.Common.{◌≡◌, ◌∙◌, ◌⊎◌, ◌<◌, ℕ, Bool, Box, List, [], length, Option, Some, slice_get}
use Rattle.std.proofs.Common.{true, ⊎_elim, sym, ap, subst, arith}
use Rattle.std.proofs.lemmas.Bool.{cases_Bool}
use Rattle.std.proofs.lemmas.Bool.Decides.{Decides-eqb}
use Rattle.std.specs.HashMap.{HashMap, IsEmpty, get}
use Rattle.std.specs.Map.{lookup}
use Rattle.std.proofs.lemmas.Option.{none-some, same_Some}
use Rattle.smallvec.specs.SmallVec.{SmallVec}
use Rattle.rng_names.specs.plain.Keys.{Keys, name_at}
use Rattle.rng_names.specs.declared.name_keys.NameKey.{NameKey}
use Rattle.rng_names.specs.contracts.name_keys.NameKeyPartialEq.TheImpl as same_key
use Rattle.rng_model.specs.names.Names.{Name}
use Rattle.rng_model.specs.simple.Table.{Table}
use Rattle.rng_model.specs.simple.Tree.{Simple}
use Rattle.rng_deriv_laws.specs.plain.Ways.{AreAttributeWays, AreItemWays, EachWay, IsItemLeaf}
use Rattle.rng_deriv_table.specs.views.Node.{Node}
use Rattle.rng_deriv_table.specs.views.PatternTable.{Longer}
use Rattle.rng_deriv_table.specs.views.Trees.{tree_of}
use Rattle.rng_deriv_table.specs.declared.pattern.PatternNumber.{PatternNumber}
use Rattle.rng_deriv_table.specs.contracts.pattern.PatternNumberPartialEq.TheImpl as same
use Rattle.rng_deriv_table.proofs.MemberSkips.{skips_longer}
use Rattle.rng_deriv_table.proofs.Trees.{Longer-length, tree_stays}
use Rattle.rng_deriv_ways.specs.plain.Kinds.{IsElementNamed, IsNamed, Obeys}
use Rattle.rng_model.specs.matching.GrammarMatching.{reading_of}
use Rattle.rng_deriv_ways.specs.views.KnownWays.{AreAllKnown, AreKnown, AreKnownByKey, AreKnownFor, AreLast, AreThoseOf, HasForKey, HasKnown, HasLast}
use Rattle.rng_deriv_ways.specs.views.KnownWays.{IsAttributeKind, IsElementKind}
use Rattle.rng_deriv_ways.specs.views.KnownWays.{KeepsOtherKeys}
use Rattle.rng_deriv_ways.specs.plain.Ways.{AreWaysOf, ways_by}
use Rattle.rng_deriv_ways.specs.declared.known.Known.{Known}
use Rattle.rng_deriv_ways.specs.declared.known.LastWays.{LastWays}
use Rattle.rng_deriv_ways.specs.declared.way.Kind.{Kind}
use Rattle.rng_deriv_ways.specs.declared.way.Kind.TheVariants as kinds
use Rattle.rng_deriv_ways.specs.declared.way.Place.{Place}
use Rattle.rng_deriv_ways.specs.declared.way.LeafWay.{LeafWay}
use Rattle.rng_deriv_ways.proofs.AttributeTakers.{spans_longer}
use Rattle.rng_deriv_ways.proofs.WaysOfSides.{side_law}
use Rattle.rng_deriv_ways.proofs.KnownRests.{rests_longer}
use Rattle.rng_deriv_ways.proofs.KnownPlans.{plans_longer}

module _ (t : Table) (old new : List Node) (kind : Kind) (longer : Longer old new) where
  those_stay : (n : PatternNumber) (ways : List LeafWay) → AreThoseOf t old kind n ways → AreThoseOf t new kind n ways
  those_stay n ways h =
      let long = Longer-length old new longer in
      let inside = h.inside in
      record {
        inside = omega (arith, inside, long);
        ways = subst (λ p. AreWaysOf t new kind p ways) (sym (tree_stays t old new n.0 longer h.inside))
            (side_law t old new kind (tree_of t old n.0) ways longer h.ways);
      }

  -- the ways of a pattern of the shorter table
  pub those_known : (n : PatternNumber) (ways : List LeafWay) → n.0 < length old → AreWaysOf t new kind (tree_of t old n.0) ways → AreThoseOf t new kind n ways
  those_known n ways inside h =
      let long = Longer-length old new longer in
      record {
        inside = omega (arith, inside, long);
        ways = subst (λ p. AreWaysOf t new kind p ways) (sym (tree_stays t old new n.0 longer inside)) h;
      }

  module _ {Z : Type 0} (known : HashMap PatternNumber (SmallVec LeafWay) Z) (all : AreKnown t old kind known) where
    pub known_longer : AreKnown t new kind known
    known_longer n ways h = those_stay n ways (all n ways h)

-- the ways of a pattern become known
pub known_more : {Z : Type 0} (t : Table) (ns : List Node) (kind : Kind) (known more : HashMap PatternNumber (SmallVec LeafWay) Z) (n : PatternNumber)
    (ways : List LeafWay) → AreKnown t ns kind known → AreThoseOf t ns kind n ways
    → ((m : PatternNumber) (ws : List LeafWay) → HasKnown more m ws → HasKnown known m ws ⊎ ((m ≡ n) × (ws ≡ ways))) → AreKnown t ns kind more
known_more t ns kind known more n ways all those within = λ m ws h. ⊎_elim (λ a. all m ws a)
    (λ b. subst (λ m. AreThoseOf t ns kind m ws) (sym b.0) (subst (AreThoseOf t ns kind n) (sym b.1) those)) (within m ws h)

none_found : {K X Z : Type 0} (eq : K → K → Bool) (m : HashMap K X Z) → IsEmpty m → (k : K) (x : X) → get eq m k ≡ Some x → ⊥
none_found eq m empty k x e = none-some _ (subst (λ es. lookup (eq k) es ≡ Some x) empty e)

-- nothing is known
pub none_known : {Z : Type 0} (t : Table) (ns : List Node) (kind : Kind) (known : HashMap PatternNumber (SmallVec LeafWay) Z) → IsEmpty known
    → AreKnown t ns kind known
none_known t ns kind known empty n ways h = absurd (none_found same.ghosts.eq known empty n h.0 h.1)

-- ---- by key

same_number : (a b : NameKey) → same_key.ghosts.eq a b ≡ true → a ≡ b
same_number a b e = ap (λ k. record { 0 = k }) ((Decides-eqb a.0 b.0).0 e)

-- these are known for the key
pub known_for : {Y Z : Type 0} (t : Table) (ns : List Node) (kind : Kind) (key : NameKey)
    (known : HashMap NameKey (HashMap PatternNumber (SmallVec LeafWay) Z) Y) (own : HashMap PatternNumber (SmallVec LeafWay) Z) → HasForKey known key own
    → AreKnown t ns kind own → AreKnownFor t ns kind key known
known_for t ns kind key known own at h = λ m there. subst (AreKnown t ns kind) (same_Some _ _ (sym at ∙ there)) h

pub none_by_key : {Y Z : Type 0} (Are : Name → Kind → Type 0) (t : Table) (keys : Keys) (ns : List Node)
    (known : HashMap NameKey (HashMap PatternNumber (SmallVec LeafWay) Z) Y) → IsEmpty known → AreKnownByKey Are t keys ns known
none_by_key Are t keys ns known empty = λ k kind named m at. absurd (none_found same_key.ghosts.eq known empty k m at)

-- the ways depend only on the name
abbrev pub AreTold : (Name → Kind → Type 0) → Type 0
AreTold Are = (t : Table) (ns : List Node) (q r : Kind) (name : Name) → Are name q → Are name r
    → (n : PatternNumber) (ws : List LeafWay) → AreThoseOf t ns q n ws → AreThoseOf t ns r n ws

pub same_elements : AreTold IsElementKind
same_elements t ns (kinds.Attribute q) r name a b n ws h = elim a [ ]
same_elements t ns kinds.Text r name a b n ws h = elim a [ ]
same_elements t ns (kinds.Element q) (kinds.Attribute r) name a b n ws h = elim b [ ]
same_elements t ns (kinds.Element q) kinds.Text name a b n ws h = elim b [ ]
same_elements t ns (kinds.Element q) (kinds.Element r) name a b n ws h = record {
  inside = h.inside;
  ways = record {
    inside = h.ways.inside;
    law = subst (λ (m : Name). AreItemWays (reading_of t) (IsElementNamed m) (tree_of t ns n.0) (ways_by (tree_of t ns) ws)) (a ∙ sym b) h.ways.law;
    kept = h.ways.kept;
  };
}

pub same_attributes : AreTold IsAttributeKind
same_attributes t ns (kinds.Element q) r name a b n ws h = elim a [ ]
same_attributes t ns kinds.Text r name a b n ws h = elim a [ ]
same_attributes t ns (kinds.Attribute q) (kinds.Element r) name a b n ws h = elim b [ ]
same_attributes t ns (kinds.Attribute q) kinds.Text name a b n ws h = elim b [ ]
same_attributes t ns (kinds.Attribute q) (kinds.Attribute r) name a b n ws h = record {
  inside = h.inside;
  ways = record {
    inside = h.ways.inside;
    law = λ o. subst (λ (m : Name). AreAttributeWays (reading_of t) (IsNamed m) (tree_of t ns n.0) (ways_by (tree_of t ns) ws)) (a ∙ sym b) (h.ways.law o);
    kept = h.ways.kept;
  };
}

module _ {Y Z : Type 0} (Are : Name → Kind → Type 0) (t : Table) (keys : Keys) (old new : List Node) (longer : Longer old new)
    (known : HashMap NameKey (HashMap PatternNumber (SmallVec LeafWay) Z) Y) (all : AreKnownByKey Are t keys old known) where
  pub by_key_longer : AreKnownByKey Are t keys new known
  by_key_longer = λ k kind named m at. known_longer t old new kind longer m (all k kind named m at)

  -- the known ways for one key have changed
  pub by_key_changed : AreTold Are → (key : NameKey) (kind : Kind) (more : HashMap NameKey (HashMap PatternNumber (SmallVec LeafWay) Z) Y)
      → Are (name_at keys key.0) kind → AreKnownFor t new kind key more → KeepsOtherKeys key known more → AreKnownByKey Are t keys new more
  by_key_changed same key kind more named h others = λ k other told m at. ⊎_elim
      (λ own.
      let is = same_number key k own in
      λ n ws found. same t new kind other (name_at keys key.0) named (subst (λ (j : NameKey). Are (name_at keys j.0) other) (sym is) told) n ws
      (h m (subst (λ j. HasForKey more j m) (sym is) at) n ws found))
      (λ apart. known_longer t old new other longer m (all k other told m (sym (others k apart) ∙ at))) (cases_Bool (same_key.ghosts.eq key k))

-- ---- the last ways

pub last_longer : {Z : Type 0} (t : Table) (keys : Keys) (old new : List Node) → Longer old new → (last : List (Option (Box LastWays Z)))
    → AreLast t keys old last → AreLast t keys new last
last_longer t keys old new longer last all = λ n ws h kind named. those_stay t old new kind longer n ws.ways.items (all n ws h kind named)

pub no_last : {Z : Type 0} (t : Table) (keys : Keys) (ns : List Node) (last : List (Option (Box LastWays Z))) → last ≡ [] → AreLast t keys ns last
no_last t keys ns last none = λ n ws h kind named. absurd (none-some _ (sym (ap (λ l. slice_get l n.0) none) ∙ h.1))

-- the ways of one pattern become the last ones
pub last_more : {Z : Type 0} (t : Table) (keys : Keys) (ns : List Node) (last more : List (Option (Box LastWays Z))) (number : PatternNumber) (key : NameKey)
    (ways : List LeafWay) → AreLast t keys ns last
    → ((kind : Kind) → IsAttributeKind (name_at keys key.0) kind → AreThoseOf t ns kind number ways)
    → ((n : PatternNumber) (ws : LastWays) → HasLast more n ws → HasLast last n ws ⊎ ((n ≡ number) × (ws.key ≡ key) × (ws.ways.items ≡ ways)))
    → AreLast t keys ns more
last_more t keys ns last more number key ways all those within = λ n ws h kind named. ⊎_elim (λ a. all n ws a kind named)
    (λ b. subst (λ n. AreThoseOf t ns kind n ws.ways.items) (sym b.0) (subst (AreThoseOf t ns kind number) (sym b.2)
    (those kind (subst (λ (k : NameKey). IsAttributeKind (name_at keys k.0) kind) b.1 named)))) (within n ws h)

pub all_longer : (t : Table) (keys : Keys) (old new : List Node) → Longer old new → (known : Known) → AreAllKnown t keys old known
    → AreAllKnown t keys new known
all_longer t keys old new longer known all = record {
  serve = all.serve;
  texts = known_longer t old new kinds.Text longer known.texts all.texts;
  elements = by_key_longer IsElementKind t keys old new longer known.elements all.elements;
  attributes = by_key_longer IsAttributeKind t keys old new longer known.attributes all.attributes;
  rests = rests_longer old new longer known.rests all.rests;
  takers = all.takers;
  alike = all.alike;
  attribute_takers = all.attribute_takers;
  spans = spans_longer t old new longer known.spans.items all.spans;
  skips = skips_longer old new longer known.skips all.skips;
  datatypes = all.datatypes;
  last = last_longer t keys old new longer known.last.items all.last;
  plans = plans_longer t old new longer keys known.plans all.plans;
}

-- ---- elements

module _ (t : Table) (ns : List Node) (name : Name) (p : Simple ℕ) (ws : List LeafWay) where
  pub element_law : (kind : Kind) → IsElementKind name kind → AreWaysOf t ns kind p ws
      → AreItemWays (reading_of t) (IsElementNamed name) p (ways_by (tree_of t ns) ws)
  element_law (kinds.Attribute q) named h = elim named [ ]
  element_law kinds.Text named h = elim named [ ]
  element_law (kinds.Element q) named h = subst (λ (m : Name). AreItemWays (reading_of t) (IsElementNamed m) p (ways_by (tree_of t ns) ws)) named h.law

  pub element_kept : (kind : Kind) → IsElementKind name kind → AreWaysOf t ns kind p ws → (place : Place) → Obeys place p
      → EachWay (λ l. IsItemLeaf l × Obeys place l) (Obeys place) (ways_by (tree_of t ns) ws)
  element_kept (kinds.Attribute q) named h place o = elim named [ ]
  element_kept kinds.Text named h place o = elim named [ ]
  element_kept (kinds.Element q) named h place o = h.kept place o
