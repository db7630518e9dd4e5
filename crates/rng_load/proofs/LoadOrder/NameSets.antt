-- The names of a set after one more is inserted, and the entries of a map after one with a new key.
use Rattle.std.proofs.Common.{◌≡◌, refl, sym, ap, ◌∙◌, ℕ, ◌+◌, ◌<◌, List, [], ◌∷◌, ◌++◌, map, Bool, true, false, cond, ◌||◌, String, Bor, length, take, get_or}
use Rattle.std.specs.Global.{Global}
use Rattle.std.specs.String.{string_eq, string_bytes}
use Rattle.std.specs.Str.{bytes_eq}
use Rattle.std.specs.List.{list_any, fold}
use Rattle.std.proofs.lemmas.List.{map_more, map-append}
use Rattle.std.proofs.lemmas.List.Sums.{fold-append}
use Rattle.std.proofs.lemmas.Slice.Eq.{bytes_eq-Decides}
use Rattle.indexmap.specs.IndexMap.{insert_entry}
use Rattle.indexmap.specs.IndexSet.{insert_key}
use Rattle.rng_model.specs.names.Lists.{Among, there}
use Rattle.rnc_model.specs.loading.Loading.{with_name}
use Rattle.rnc_model.specs.loading.SchemaFile.{FileName}
use Rattle.rng_load.proofs.NameLists.{in_first}

-- keys viewed as names; they are equal if their names are
module _ {K : Type 0} (view : K → FileName) (eq : K → K → Bool) (same : (k m : K) → eq k m ≡ bytes_eq (view k) (view m)) where
  pub any_seen : (k : K) (ks : List K) → list_any (λ m. bytes_eq (view k) m) (map view ks) ≡ list_any (eq k) ks
  any_seen k [] = refl
  any_seen k (m ∷ ks) = ap (λ b. bytes_eq (view k) (view m) || b) (any_seen k ks) ∙ ap (λ b. b || list_any (eq k) ks) (sym (same k m))

  by_test : (ks : List K) (k : K) (b c : Bool) → b ≡ c → map view (cond b ks (ks ++ k ∷ [])) ≡ cond c (map view ks) (map view ks ++ view k ∷ [])
  by_test ks k true c e = ap (λ c. cond c (map view ks) (map view ks ++ view k ∷ [])) e
  by_test ks k false c e = map-append view ks (k ∷ []) ∙ ap (λ c. cond c (map view ks) (map view ks ++ view k ∷ [])) e

  -- a new name goes last, and a name that is there keeps its index
  seen_after_insert : (ks : List K) (k : K) → map view (insert_key eq ks k) ≡ with_name (map view ks) (view k)
  seen_after_insert ks k = by_test ks k (list_any (eq k) ks) _ (sym (any_seen k ks))

pub names_after_insert : (ks : List (String Global)) (k : String Global) → map string_bytes (insert_key string_eq ks k) ≡ with_name
    (map string_bytes ks) (string_bytes k)
names_after_insert ks k = seen_after_insert string_bytes string_eq (λ k m. refl) ks k

pub borrowed_after_insert : (ks : List (Bor FileName)) (k : Bor FileName) → map (λ n. n.now) (insert_key (λ a b. bytes_eq a.now b.now) ks k) ≡ with_name (map
    (λ n. n.now) ks) k.now
borrowed_after_insert ks k = seen_after_insert (λ n. n.now) (λ a b. bytes_eq a.now b.now) (λ k m. refl) ks k

any_same : (k : FileName) (ks : List (String Global)) → list_any (λ m. bytes_eq k m) (map string_bytes ks) ≡ list_any (λ m. bytes_eq k (string_bytes m)) ks
any_same k [] = refl
any_same k (m ∷ ks) = ap (λ b. bytes_eq k (string_bytes m) || b) (any_same k ks)

-- inserting a name that is there changes nothing
pub name_is_there : (ks : List (String Global)) (k : FileName) → list_any (λ m. bytes_eq k (string_bytes m)) ks ≡ true → map string_bytes ks ≡ with_name
    (map string_bytes ks) k
name_is_there ks k h = rw (any_same k ks ∙ h) refl

-- one more of the names that are noted
pub note_more : (ns : List FileName) (names : List (Bor FileName)) (i : ℕ) (d : Bor FileName) → i < length names →
    fold with_name ns (map (λ n. n.now) (take (i + 1) names)) ≡ with_name (fold with_name ns (map (λ n. n.now) (take i names))) (get_or names i d).now
note_more ns names i d l =
    ap (fold with_name ns) (map_more (λ n. n.now) names i d l) ∙ fold-append with_name ns (map (λ n. n.now) (take i names)) ((get_or names i d).now ∷ [])

-- ---- a map

module _ {V : Type 0} where
  abbrev key_bytes : (String Global × V) → FileName
  key_bytes e = string_bytes e.0

  by_key : (e : String Global × V) (es : List (String Global × V)) (k : String Global) (v : V) (b : Bool) → string_eq k e.0 ≡ b → ¬ (Among
      (string_bytes k) (map key_bytes (e ∷ es)))
      → insert_entry string_eq es k v ≡ es ++ (k, v) ∷ [] → insert_entry string_eq (e ∷ es) k v ≡ (e ∷ es) ++ (k, v) ∷ []
  by_key e es k v true h n i = absurd (n (in_first (map key_bytes es) ((bytes_eq-Decides (string_bytes k) (string_bytes e.0)).0 h)))
  by_key e es k v false h n i = rw h (ap (λ ds. e ∷ ds) i)

  -- an entry of a new name goes last
  pub entry_goes_last : (es : List (String Global × V)) (k : String Global) (v : V) → ¬ (Among (string_bytes k) (map key_bytes es)) →
      insert_entry string_eq es k v ≡ es ++ (k, v) ∷ []
  entry_goes_last [] k v n = refl
  entry_goes_last (e ∷ es) k v n = by_key e es k v (string_eq k e.0) refl n (entry_goes_last es k v (λ a. n (there a)))
