-- Keys that know everything that is written in a class serve it.
use Rattle.std.proofs.Common.{◌≡◌, ◌↔◌, refl, sym, ap, ◌∙◌, subst, ℕ, ◌<◌, ◌≤◌, Bool, true, false, cond, nat_lt}
use Rattle.std.proofs.Common.{List, [], Option, Some, None, option_map, map, ◌⊎◌, ⊎_elim, inl, inr, length, position, slice_get, bytes_eq, true≢false, arith, rules}
use Rattle.std.specs.List.{position_or_len}
use Rattle.std.specs.Map.{lookup}
use Rattle.std.specs.Option.{unwrap_or}
use Rattle.std.proofs.lemmas.Bool.Decides.{same_from_decides}
use Rattle.std.proofs.lemmas.List.Quantifiers.{position-Some}
use Rattle.std.proofs.lemmas.List.Sums.{fails_before_first}
use Rattle.std.proofs.lemmas.Option.{slice_get_within, slice_get-get_or, slice_get-map, get_or_from_slice_get, none-some, same_Some}
use Rattle.std.proofs.lemmas.Bool.{false_from_ne_true}
use Rattle.rng_model.specs.names.Names.{Name, NameClass, In}
use Rattle.rng_names.specs.plain.Holding.{holds, pair, same_name}
use Rattle.rng_names.specs.plain.Written.{longest, writes_name, writes_ns}
use Rattle.rng_names.proofs.FreshTexts.{like_local, like_ns, like_unwritten}
use Rattle.rng_names.proofs.Holding.{holds-Decides, same_name-Decides}
use Rattle.rng_model.specs.restrictions.Restrictions.{ClassIn}
use Rattle.rng_model.specs.simple.Table.{Table, grammar_of, tree_at}
use Rattle.rng_model.specs.names.NameViews.{class_of}
use Rattle.rng_model.specs.declared.name.NameClass as declared
use Rattle.rng_model.specs.declared.simple.PatternId.{PatternId}
use Rattle.rng_names.specs.views.GrammarClasses.{attribute_class, element_class}
use Rattle.rng_names.specs.plain.Keys.{IsClassOf, Keys, KeysServe, Places, Serves, key_of, name_at, name_there, of_attribute, of_element, place_of}
use Rattle.rng_names.specs.views.KeyTables.{ArePlaces, IsTold, KeepsNames, ServesAll}
use Rattle.rng_names.specs.plain.Regions.{HoldsAlike, Sorted}
use Rattle.rng_names.specs.plain.SharedKeys.{AreLed, AreShared, SameRegion}
use Rattle.rng_names.specs.declared.shared_keys.SharedKeys.{SharedKeys}
use Rattle.rng_names.proofs.Regions.{was_in}
use Rattle.rng_names.specs.plain.WrittenNames.{Knows, Written}

none_there : {A : Type 0} (o : Option A) → o ≡ None → (x : A) → o ≡ Some x → ⊥
none_there o e x f = absurd (cc)

-- a name that is there has a position
has_position : (q : Name) (ns : List Name) (k : ℕ) → slice_get ns k ≡ Some q → position (same_name q) ns ≡ None → ⊥
has_position q ns k at none = by (nat_lt (position_or_len (same_name q) ns) (length ns)) refl
  where
    by : (b : Bool) → nat_lt (position_or_len (same_name q) ns) (length ns) ≡ b → ⊥
    by true e = none_there _ none _ (ap (λ b. cond b (Some (position_or_len (same_name q) ns)) None) e)
    by false e =
        let above : length ns ≤ position_or_len (same_name q) ns = search rules in
        let inside = slice_get_within ns k q at in
        let fails = fails_before_first (same_name q) ns k q (omega (arith, above, inside)) in
        let passes = (same_name-Decides q q).1 refl in
        true≢false (sym passes ∙ ap (same_name q) (sym (get_or_from_slice_get ns k q q at)) ∙ fails)

module _ (w : Written) (places : Places) (told : IsTold w places) (fresh : List ℕ) (first : slice_get places.names 0 ≡ Some (pair fresh fresh))
    (c : NameClass) (less : longest c < length fresh) (known : Knows w c) (q : Name) where
  abbrev SameAt : ℕ → Type 0
  SameAt k = holds c q ≡ holds c (name_there places k)

  stands : (k : ℕ) (n : Name) → slice_get places.names k ≡ Some n → name_there places k ≡ n
  stands k n at = get_or_from_slice_get places.names k n (pair [] []) at

  by_namespace : (o : Option ℕ) → lookup (bytes_eq q.ns) places.others ≡ o → writes_name c q ≡ false → SameAt (unwrap_or o 0)
  by_namespace (Some k) e none =
      let beyond = told.others q.ns k e in
      let other : writes_name c (pair q.ns beyond.local) ≡ false = false_from_ne_true _ (λ is. let has = known.names (pair q.ns beyond.local) is in
      let longer = beyond.longer (length beyond.local) has.measured in let none : ⊥ = omega (arith, longer) in none) in
      like_unwritten c q.ns q.local beyond.local none other ∙ ap (holds c) (sym (stands k (pair q.ns beyond.local) beyond.at))
  by_namespace None e none =
      let unwritten : writes_ns c q.ns ≡ false = false_from_ne_true _ (λ is. let has = told.all q.ns 0 (known.namespaces q.ns is) in none_there _ e has.0 has.1) in
      like_local c q fresh none less ∙ like_ns c q.ns fresh fresh unwritten less ∙ ap (holds c) (sym (stands 0 (pair fresh fresh) first))

  by_name : (o : Option ℕ) → position (same_name q) places.names ≡ o → SameAt (unwrap_or o (unwrap_or (lookup (bytes_eq q.ns) places.others) 0))
  by_name (Some k) e =
      let found = position-Some (same_name q) places.names k (pair [] []) e in
      ap (holds c) (sym ((same_name-Decides q (name_there places k)).0 found.1))
  by_name None e =
      by_namespace (lookup (bytes_eq q.ns) places.others) refl
      (false_from_ne_true _ (λ is. let has = known.names q is in has_position q places.names has.place (told.names has.place q has.at) e))

  -- a class whose texts are all shorter than the fresh one holds a name exactly if it holds the name at its
  -- place
  pub held_there : holds c q ≡ holds c (name_there places (place_of places q))
  held_there = by_name (position (same_name q) places.names) refl

-- the test agrees with the definition
pub serves : (keys : Keys) (c : NameClass) → ((q : Name) → holds c q ≡ holds c (name_at keys (key_of keys q))) → Serves keys c
serves keys c same q =
    let one = holds-Decides c q in
    let other = holds-Decides c (name_at keys (key_of keys q)) in
    (λ i. other.0 (sym (same q) ∙ one.1 i), λ i. one.0 (same q ∙ other.1 i))

-- each place that is looked up is there
pub are_places : (w : Written) (places : Places) (q : Name) → IsTold w places → slice_get places.names 0 ≡ Some q → ArePlaces places
are_places w places q told first = record {
  first = slice_get_within places.names 0 q first;
  others = λ u k e. let beyond = told.others u k e in slice_get_within places.names k (pair u beyond.local) beyond.at;
}

pub place_within : (places : Places) → ArePlaces places → (q : Name) → place_of places q < length places.names
place_within places are q = by_name (position (same_name q) places.names) refl
  where
    by_namespace : (o : Option ℕ) → lookup (bytes_eq q.ns) places.others ≡ o → unwrap_or o 0 < length places.names
    by_namespace (Some k) e = are.others q.ns k e
    by_namespace None e = are.first

    by_name : (o : Option ℕ) → position (same_name q) places.names ≡ o
        → unwrap_or o (unwrap_or (lookup (bytes_eq q.ns) places.others) 0) < length places.names
    by_name (Some k) e = (position-Some (same_name q) places.names k (pair [] []) e).0
    by_name None e = by_namespace (lookup (bytes_eq q.ns) places.others) refl

-- ---- keys of places

-- the keys of these places
abbrev pub shared_by : Places → SharedKeys → Keys
shared_by places all = record { names = map (name_there places) all.leaders.items; places = places; keys = all.keys.items }

module _ (places : Places) (are : ArePlaces places) (all : SharedKeys) (shared : AreShared places.names all) where
  pub key_there : (q : Name) → slice_get all.keys.items (place_of places q) ≡ Some (key_of (shared_by places all) q)
  key_there q =
      let within = place_within places are q in
      let count = shared.count in
      slice_get-get_or all.keys.items (place_of places q) 0 (omega (arith, within, count))

  pub name_led : (key p : ℕ) → slice_get all.leaders.items key ≡ Some p → name_at (shared_by places all) key ≡ name_there places p
  name_led key p e =
      get_or_from_slice_get (map (name_there places) all.leaders.items) key (name_there places p) (pair [] [])
      (slice_get-map (name_there places) all.leaders.items key ∙ ap (option_map (name_there places)) e)

  module _ (w : Sorted) (count : length w.regions ≡ length w.names) (keeps : KeepsNames w.names places.names) (led : AreLed places.names w.regions all)
      (c : NameClass) (alike : HoldsAlike w 0 c) where
    together : (p k : ℕ) → (p ≡ k) ⊎ SameRegion places.names w.regions p k → holds c (name_there places k) ≡ holds c (name_there places p)
    together p k (inl e) = ap (λ j. holds c (name_there places j)) (sym e)
    together p k (inr same) =
        let one = get_or_from_slice_get places.names k (pair same.ns same.local') (pair [] []) same.at' in
        let other = get_or_from_slice_get places.names p (pair same.ns same.local) (pair [] []) same.at in
        let counts = same.counts in
        ap (holds c) one
        ∙ alike same.region same.ns same.local' same.local counts (λ e. omega (arith, counts, e))
        (was_in w places.names count keeps same.region k (pair same.ns same.local') same.at' same.in_region')
        (was_in w places.names count keeps same.region p (pair same.ns same.local) same.at same.in_region)
        ∙ sym (ap (holds c) other)

    pub held_by_key : ((q : Name) → holds c q ≡ holds c (name_there places (place_of places q))) → (q : Name)
        → holds c q ≡ holds c (name_at (shared_by places all) (key_of (shared_by places all) q))
    held_by_key there q =
        let leads = led (place_of places q) (key_of (shared_by places all) q) (key_there q) in
        there q ∙ together leads.0 (place_of places q) leads.2 ∙ ap (holds c) (sym (name_led (key_of (shared_by places all) q) leads.0 leads.1))

pub serves_all : (w : Written) (places : Places) → IsTold w places → (fresh : List ℕ) → slice_get places.names 0 ≡ Some (pair fresh fresh)
    → (all : SharedKeys) → AreShared places.names all → (s : Sorted) → length s.regions ≡ length s.names → s.names ≡ w.names
    → AreLed places.names s.regions all
    → (classes : List (Option NameClass)) → ((k : ℕ) (c : NameClass) → slice_get classes k ≡ Some (Some c) → longest c < length fresh)
    → ((k : ℕ) (c : NameClass) → slice_get classes k ≡ Some (Some c) → Knows w c)
    → ((k : ℕ) (c : NameClass) → slice_get classes k ≡ Some (Some c) → HoldsAlike s 0 c) → ServesAll (shared_by places all) classes
serves_all w places told fresh first all shared s count same led classes less known alike k c e =
    serves (shared_by places all) c
    (held_by_key places (are_places w places (pair fresh fresh) told first) all shared s count
    (λ j q at. told.names j q (ap (λ ns. slice_get ns j) (sym same) ∙ at)) led c (alike k c e)
    (held_there w places told fresh first c (less k c e) (known k c e)))

-- ---- the classes of a grammar, row by row

row_of_class : (t : Table) (c : NameClass) → IsClassOf t c → ((k : ℕ) × (slice_get (map element_class t.elements) k ≡ Some (Some c)))
    ⊎ ((k : ℕ) × (slice_get (map attribute_class t.patterns) k ≡ Some (Some c)))
row_of_class t c (of_element k e at is) =
    inl (k, slice_get-map element_class t.elements k ∙ ap (option_map element_class) at ∙ ap (λ d. Some (Some d)) (sym is))
row_of_class t c (of_attribute k class body at is) =
    inr (k, slice_get-map attribute_class t.patterns k ∙ ap (option_map attribute_class) at ∙ ap (λ d. Some (Some d)) (sym is))

pub all_served : (t : Table) (keys : Keys) → ServesAll keys (map element_class t.elements) → ServesAll keys (map attribute_class t.patterns) → KeysServe t keys
all_served t keys elements attributes c is =
    ⊎_elim (λ row. elements row.0 c row.1) (λ row. attributes row.0 c row.1) (row_of_class t c is)

-- ---- consequences for the classes of a grammar

-- the class of an element is a class of the grammar
pub class_of_element : (t : Table) (k : ℕ) (c : NameClass) → ClassIn (grammar_of t) k c → IsClassOf t c
class_of_element t k c (body, listed) = by (slice_get t.elements k) refl
  where
    row_seen : {o : Option (declared.NameClass × PatternId)} → slice_get t.elements k ≡ o
        → slice_get (grammar_of t).elements k ≡ option_map (λ e. (class_of e.0, tree_at t.patterns e.1)) o
    row_seen e = slice_get-map (λ e. (class_of e.0, tree_at t.patterns e.1)) t.elements k ∙ ap (option_map (λ e. (class_of e.0, tree_at t.patterns e.1))) e

    by : (o : Option (declared.NameClass × PatternId)) → slice_get t.elements k ≡ o → IsClassOf t c
    by None e = absurd (none-some (c, body) (sym (row_seen e) ∙ listed))
    by (Some row) e = of_element k row e (ap (λ x. x.0) (same_Some _ _ (sym listed ∙ row_seen e)))

module _ (t : Table) (keys : Keys) (serve : KeysServe t keys) (c : NameClass) (is : IsClassOf t c) where
  -- the test of a class gives the same result for a name as for the representative of its key
  pub holds_by_key : (q : Name) → holds c q ≡ holds c (name_at keys (key_of keys q))
  holds_by_key q =
      let one = holds-Decides c q in
      let same = serve c is q in
      same_from_decides (holds c q) (holds c (name_at keys (key_of keys q)))
      (λ e. same.0 (one.0 e), λ i. one.1 (same.1 i)) (holds-Decides c (name_at keys (key_of keys q)))

  -- names with the same key are in the same classes
  pub same_key_alike : (q r : Name) → key_of keys q ≡ key_of keys r → In c q ↔ In c r
  same_key_alike q r same =
      let one = serve c is q in
      let other = serve c is r in
      let Held : ℕ → Type 0 = λ k. In c (name_at keys k) in
      (λ i. other.1 (subst Held same (one.0 i)), λ i. one.1 (subst Held (sym same) (other.0 i)))
