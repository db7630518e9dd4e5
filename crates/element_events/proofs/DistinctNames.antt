-- Attributes that come one after another, and names that occur twice.
use Rattle.std.proofs.Common.{Bor, ◌≡◌, ◌≢◌, ◌↔◌, ℕ, ◌+◌, ◌<◌, ◌∙◌, Bool, true, false, cond, not, ◌&&◌, ◌||◌, List, [], ◌∷◌, ◌++◌, map, take, drop}
use Rattle.std.proofs.Common.{get_or, length, refl, sym, ap, subst}
use Rattle.std.specs.Str.{bytes_eq}
use Rattle.std.specs.List.{list_any}
use Rattle.std.proofs.lemmas.Bool.{and_parts}
use Rattle.std.proofs.lemmas.List.{take_more, map-append, take-append-drop}
use Rattle.rng_model.proofs.Truths.{no_truth, not_both}
use Rattle.rng_model.proofs.Texts.{bytes_same, bytes_itself}
use Rattle.rng_model.specs.names.Names.{Name}
use Rattle.rng_model.specs.matching.Document.{Attribute, HasNoName, nothing_named, another_name, Distinct, none, one_more}
use Rattle.element_events.specs.declared.names.ExpandedName.{ExpandedName}
use Rattle.element_events.specs.declared.names.Attribute as told
use Rattle.element_events.specs.views.Told.{attribute_told, name_told}

-- ---- one more attribute at the end

no_name_more : (n : Name) (xs : List Attribute) (a : Attribute) → HasNoName n xs → a.name ≢ n → HasNoName n (xs ++ a ∷ [])
no_name_more n [] a h d = another_name d nothing_named
no_name_more n (x ∷ xs) a (another_name e h) d = another_name e (no_name_more n xs a h d)

no_name_front : (n : Name) (xs ys : List Attribute) → HasNoName n (xs ++ ys) → HasNoName n xs
no_name_front n [] ys h = nothing_named
no_name_front n (x ∷ xs) ys (another_name e h) = another_name e (no_name_front n xs ys h)

no_name_last : (n : Name) (xs : List Attribute) (a : Attribute) → HasNoName n (xs ++ a ∷ []) → a.name ≢ n
no_name_last n [] a (another_name e h) = e
no_name_last n (x ∷ xs) a (another_name e h) = no_name_last n xs a h

distinct_more : (xs : List Attribute) (a : Attribute) → Distinct xs → HasNoName a.name xs → Distinct (xs ++ a ∷ [])
distinct_more [] a d h = one_more nothing_named none
distinct_more (x ∷ xs) a (one_more i d) (another_name e h) = one_more (no_name_more x.name xs a i (λ p. e (sym p))) (distinct_more xs a d h)

distinct_front : (xs ys : List Attribute) → Distinct (xs ++ ys) → Distinct xs
distinct_front [] ys d = none
distinct_front (x ∷ xs) ys (one_more h d) = one_more (no_name_front x.name xs ys h) (distinct_front xs ys d)

distinct_last : (xs : List Attribute) (a : Attribute) → Distinct (xs ++ a ∷ []) → HasNoName a.name xs
distinct_last [] a d = nothing_named
distinct_last (x ∷ xs) a (one_more h d) = another_name (λ p. no_name_last x.name xs a h (sym p)) (distinct_last xs a d)

-- ---- attributes of the code, up to an index

module _ {A : Type 0} (view : A → Attribute) (xs : List A) (i : ℕ) (d : A) (l : i < length xs) where
  pub view_more : map view (take (i + 1) xs) ≡ map view (take i xs) ++ view (get_or xs i d) ∷ []
  view_more = ap (map view) (take_more xs i d l) ∙ map-append view (take i xs) (get_or xs i d ∷ [])

  view_whole : map view xs ≡ (map view (take i xs) ++ view (get_or xs i d) ∷ []) ++ map view (drop (i + 1) xs)
  view_whole = ap (map view) (sym (take-append-drop (i + 1) xs)) ∙ map-append view (take (i + 1) xs) (drop (i + 1) xs)
      ∙ ap (λ (x : List Attribute). x ++ map view (drop (i + 1) xs)) view_more

  pub still_unnamed : (n : Name) → HasNoName n (map view (take i xs)) → (view (get_or xs i d)).name ≢ n → HasNoName n (map view (take (i + 1) xs))
  still_unnamed n h e = subst (HasNoName n) (sym view_more) (no_name_more n (map view (take i xs)) (view (get_or xs i d)) h e)

  pub is_named : (n : Name) → (view (get_or xs i d)).name ≡ n → HasNoName n (map view xs) → ⊥
  is_named n e h =
      no_name_last n (map view (take i xs)) (view (get_or xs i d))
      (no_name_front n (map view (take i xs) ++ view (get_or xs i d) ∷ []) (map view (drop (i + 1) xs)) (subst (HasNoName n) view_whole h)) e

  pub still_distinct : Distinct (map view (take i xs)) → HasNoName (view (get_or xs i d)).name (map view (take i xs)) → Distinct (map view (take (i + 1) xs))
  still_distinct e h = subst Distinct (sym view_more) (distinct_more (map view (take i xs)) (view (get_or xs i d)) e h)

  pub is_repeated : (HasNoName (view (get_or xs i d)).name (map view (take i xs)) → ⊥) → Distinct (map view xs) → ⊥
  is_repeated n e =
      n (distinct_last (map view (take i xs)) (view (get_or xs i d))
      (distinct_front (map view (take i xs) ++ view (get_or xs i d) ∷ []) (map view (drop (i + 1) xs)) (subst Distinct view_whole e)))

-- the answer that a fact does not hold
pub says_not : {P : Type 0} → (P → ⊥) → (false ≡ true) ↔ P
says_not n = (λ e. no_truth e, λ p. absurd (n p))

-- ---- names in a set

abbrev pub same_told : ExpandedName → ExpandedName → Bool
same_told a b = bytes_eq a.namespace.now b.namespace.now && bytes_eq a.local.now b.local.now

told_itself : (a b : ExpandedName) → name_told a ≡ name_told b → same_told a b ≡ true
told_itself a b e = both (ap (λ (n : Name). n.ns) e) (ap (λ (n : Name). n.local) e) where
  both : a.namespace.now ≡ b.namespace.now → a.local.now ≡ b.local.now → same_told a b ≡ true
  both p q = rw (p, q, bytes_itself b.namespace.now, bytes_itself b.local.now) refl

told_same : (a b : ExpandedName) → same_told a b ≡ true → name_told a ≡ name_told b
told_same a b e = let p = and_parts (bytes_eq a.namespace.now b.namespace.now) (bytes_eq a.local.now b.local.now) e in
    join (bytes_same a.namespace.now b.namespace.now p.0) (bytes_same a.local.now b.local.now p.1) where
      join : a.namespace.now ≡ b.namespace.now → a.local.now ≡ b.local.now → name_told a ≡ name_told b
      join p q = rw (p, q) refl

-- an attribute of empty texts
abbrev pub no_attribute : told.Attribute
no_attribute =
    let nothing : Bor (List ℕ) = record { ref_ptr = (0, 0); now = [] } in
    record { name = record { namespace = nothing; local = nothing }; value = nothing }

abbrev pub names_in : List Attribute → List Name
names_in xs = map (λ (a : Attribute). a.name) xs

heads : {A : Type 0} (x y : A) (xs ys : List A) → x ∷ xs ≡ y ∷ ys → (x ≡ y) × (xs ≡ ys)
heads x y xs ys e = (cc, cc)

pub not_among : (ks : List ExpandedName) (xs : List Attribute) (n : ExpandedName) → map name_told ks ≡ names_in xs → list_any (same_told n) ks ≡ false →
    HasNoName (name_told n) xs
not_among [] [] n e f = nothing_named
not_among [] (x ∷ xs) n e f = absurd (cc)
not_among (k ∷ ks) [] n e f = absurd (cc)
not_among (k ∷ ks) (x ∷ xs) n e f = go (same_told n k) refl f (not_among ks xs n ((heads _ _ _ _ e).1)) where
  apart : true ≡ false → ⊥
  apart e = cc

  go : (b : Bool) → same_told n k ≡ b → (b || list_any (same_told n) ks) ≡ false → (list_any (same_told n) ks ≡ false → HasNoName (name_told n) xs) →
      HasNoName (name_told n) (x ∷ xs)
  go true s f h = no_truth (sym f)
  go false s f h = another_name (λ p. not_both (told_itself n k (sym p ∙ sym ((heads _ _ _ _ e).0))) s) (h f)

pub among : (ks : List ExpandedName) (xs : List Attribute) (n : ExpandedName) → map name_told ks ≡ names_in xs → list_any (same_told n) ks ≡ true →
    HasNoName (name_told n) xs → ⊥
among [] xs n e f h = no_truth f
among (k ∷ ks) [] n e f h = cc
among (k ∷ ks) (x ∷ xs) n e f (another_name d h) = go (same_told n k) refl f (λ g. among ks xs n ((heads _ _ _ _ e).1) g h) where
  go : (b : Bool) → same_told n k ≡ b → (b || list_any (same_told n) ks) ≡ true → (list_any (same_told n) ks ≡ true → ⊥) → ⊥
  go true s f m = d (sym ((heads _ _ _ _ e).0) ∙ sym (told_same n k s))
  go false s f m = m f

pub not_false : (b : Bool) → not b ≡ false → b ≡ true
not_false true e = refl
not_false false e = no_truth (sym e)

pub not_true : (b : Bool) → not b ≡ true → b ≡ false
not_true true e = no_truth e
not_true false e = refl

-- a new name goes last
pub names_more : (b : Bool) (ks new : List ExpandedName) (xs : List told.Attribute) (i : ℕ) (d : told.Attribute) → i < length xs → b ≡ false →
    new ≡ cond b ks (ks ++ (get_or xs i d).name ∷ []) → map name_told ks ≡ names_in (map attribute_told (take i xs)) →
    map name_told new ≡ names_in (map attribute_told (take (i + 1) xs))
names_more b ks new xs i d l f e h =
    let all : new ≡ ks ++ (get_or xs i d).name ∷ [] = subst (λ (x : Bool). new ≡ cond x ks (ks ++ (get_or xs i d).name ∷ [])) f e in
    ap (map name_told) all ∙ map-append name_told ks ((get_or xs i d).name ∷ []) ∙ ap (λ (x : List Name). x ++ name_told (get_or xs i d).name ∷ []) h
    ∙ sym (ap names_in (view_more attribute_told xs i d l) ∙ map-append (λ (a : Attribute). a.name) (map attribute_told (take i xs))
    (attribute_told (get_or xs i d) ∷ []))
