-- Names that are collected, class by class.
use Rattle.std.proofs.Common.{◌≡◌, refl, sym, ap, ◌∙◌, subst, ℕ, suc, ◌<◌, ◌≤◌, ◌+◌, Bool, true, false, ◌||◌, ◌⊎◌, inl, inr, ⊎_elim, true≢false, arith}
use Rattle.std.proofs.Common.{List, [], ◌∷◌, Option, Some, None, Result, Ok, Err, OnOk, option_map, map, length, get_or, slice_get, bytes_eq}
use Rattle.std.specs.Map.{lookup}
use Rattle.std.proofs.lemmas.Bool.{cases_lt, or_cases}
use Rattle.std.proofs.lemmas.List.{length-map}
use Rattle.std.proofs.lemmas.Option.{none-some, same_Some, slice_get-map, slice_get_read, slice_get_within}
use Rattle.std.proofs.lemmas.Slice.Eq.{bytes_eq-Decides}
use Rattle.rng_model.specs.names.Names.{Name, NameClass, NameClasses, any_name, any_except, ns_except, name_is, class_list, some_of}
use Rattle.rng_names.specs.plain.Written.{some_write_name, some_write_ns, writes_name, writes_ns}
use Rattle.rng_names.proofs.Holding.{same_name-Decides}
use Rattle.rng_names.specs.plain.WrittenNames.{Grows, HasName, IsMeasured, Knows, Written}

pub both_ok : {A E P Q R : Type 0} (r : Result A E) → (P → Q → R) → OnOk r P → OnOk r Q → OnOk r R
both_ok (Ok x) f p q = f p q
both_ok (Err x) f p q = p

-- ---- growing step by step

pub same_grows : (w : Written) → Grows w w
same_grows w = record { names = λ k q at. at; longest = λ u bytes is. is }

pub grows_on : (a b c : Written) → Grows a b → Grows b c → Grows a c
grows_on a b c first then_ = record {
  names = λ k q at. then_.names k q (first.names k q at);
  longest = λ u bytes is. then_.longest u bytes (first.longest u bytes is);
}

still_has : (old new : Written) (q : Name) → Grows old new → HasName old q → HasName new q
still_has old new q grows has = record {
  place = has.place;
  at = grows.names has.place q has.at;
  measured = grows.longest q.ns (length q.local) has.measured;
}

pub still_known : (old new : Written) (c : NameClass) → Grows old new → Knows old c → Knows new c
still_known old new c grows known = record {
  names = λ q is. still_has old new q grows (known.names q is);
  namespaces = λ u is. grows.longest u 0 (known.namespaces u is);
}

-- ---- what is written in a class, in terms of its parts

from_either : {P : Type 0} (x y : Bool) → (x ≡ true → P) → (y ≡ true → P) → (x || y) ≡ true → P
from_either x y f g e = ⊎_elim f g (or_cases x y e)

module _ (w : Written) where
  pub knows_any : Knows w any_name
  knows_any = record { names = λ q e. absurd (true≢false (sym e)); namespaces = λ u e. absurd (true≢false (sym e)) }

  pub knows_except : (c : NameClass) → Knows w c → Knows w (any_except c)
  knows_except c known = record { names = known.names; namespaces = known.namespaces }

  has_like : (u v : List ℕ) → IsMeasured w u 0 → bytes_eq u v ≡ true → IsMeasured w v 0
  has_like u v has e = subst (λ x. IsMeasured w x 0) ((bytes_eq-Decides u v).0 e) has

  pub knows_ns_except : (u : List ℕ) (c : NameClass) → IsMeasured w u 0 → Knows w c → Knows w (ns_except u c)
  knows_ns_except u c has known = record {
    names = known.names;
    namespaces = λ v e. from_either (bytes_eq u v) (writes_ns c v) (has_like u v has) (known.namespaces v) e;
  }

  pub knows_name : (n : Name) → IsMeasured w n.ns 0 → HasName w n → Knows w (name_is n)
  knows_name n has own = record {
    names = λ q e. subst (HasName w) (sym ((same_name-Decides n q).0 e)) own;
    namespaces = λ v e. has_like n.ns v has e;
  }

  -- each of these classes is known
  abbrev pub AreKnown : List NameClass → Type 0
  AreKnown cs = (k : ℕ) (c : NameClass) → slice_get cs k ≡ Some c → Knows w c

  record KnowSome (cs : NameClasses) : Type 0 where
    names : (q : Name) → some_write_name cs q ≡ true → HasName w q
    namespaces : (u : List ℕ) → some_write_ns cs u ≡ true → IsMeasured w u 0

  know_some : (cs : List NameClass) → AreKnown cs → KnowSome (class_list cs)
  know_some [] known = record { names = λ q e. absurd (true≢false (sym e)); namespaces = λ u e. absurd (true≢false (sym e)) }
  know_some (c ∷ cs) known =
      let first = known 0 c refl in
      let rest = know_some cs (λ k. known (suc k)) in
      record {
        names = λ q. from_either (writes_name c q) (some_write_name (class_list cs) q) (first.names q) (rest.names q);
        namespaces = λ u. from_either (writes_ns c u) (some_write_ns (class_list cs) u) (first.namespaces u) (rest.namespaces u);
      }

  pub knows_members : (cs : List NameClass) → AreKnown cs → Knows w (some_of cs)
  knows_members [] known = knows_except any_name knows_any
  knows_members (c ∷ []) known = known 0 c refl
  knows_members (c ∷ (d ∷ cs)) known =
      let first = known 0 c refl in
      let rest = know_some (d ∷ cs) (λ k. known (suc k)) in
      record {
        names = λ q. from_either (writes_name c q) (some_write_name (class_list (d ∷ cs)) q) (first.names q) (rest.names q);
        namespaces = λ u. from_either (writes_ns c u) (some_write_ns (class_list (d ∷ cs)) u) (first.namespaces u) (rest.namespaces u);
      }

-- ---- a fact for each element in turn

module _ {A : Type 0} (P : A → Type 0) (xs : List A) where
  abbrev pub HoldsBefore : ℕ → Type 0
  HoldsBefore n = (k : ℕ) (x : A) → k < n → slice_get xs k ≡ Some x → P x

  pub holds_on : (n : ℕ) (y : A) → slice_get xs n ≡ Some y → P y → HoldsBefore n → HoldsBefore (n + 1)
  holds_on n y at holds before k x less e = by (cases_lt k n)
    where
      by : (k < n) ⊎ (n ≤ k) → P x
      by (inl less') = before k x less' e
      by (inr above) = let same : n ≡ k = omega (arith, less, above) in subst P (same_Some y x (sym at ∙ ap (slice_get xs) same ∙ e)) holds

  pub holds_of_all : (n : ℕ) → length xs ≤ n → HoldsBefore n → (k : ℕ) (x : A) → slice_get xs k ≡ Some x → P x
  holds_of_all n past before k x e = let inside = slice_get_within xs k x e in before k x (omega (arith, inside, past)) e

-- the view of what is at a place of a list
pub seen_at : {A B : Type 0} (f : A → B) (xs : List A) (k : ℕ) (x y : A) → k < length xs → x ≡ get_or xs k x → x ≡ y → slice_get (map f xs) k ≡ Some (f y)
seen_at f xs k x y inside at is =
    slice_get-map f xs k ∙ ap (option_map f) (slice_get_read xs (length xs) k x refl inside at) ∙ ap (λ z. Some (f z)) is

-- ---- one more name, one more namespace

pub name_put : (old new : Written) → new.longest ≡ old.longest → ((k : ℕ) (q : Name) → slice_get old.names k ≡ Some q → slice_get new.names k ≡ Some q)
    → Grows old new
name_put old new same stays = record {
  names = stays;
  longest = λ u bytes is. (is.0, ap (lookup (bytes_eq u)) same ∙ is.1, is.2);
}

pub less_measured : (w : Written) (u : List ℕ) (bytes : ℕ) → IsMeasured w u bytes → IsMeasured w u 0
less_measured w u bytes is = (is.0, is.1, omega arith)

-- ---- the first n of these classes are added, where there is a class

abbrev pub IsKnown : Written → Option NameClass → Type 0
IsKnown w class = (c : NameClass) → class ≡ Some c → Knows w c

pub record AreAdded (old new : Written) (classes : List (Option NameClass)) (n : ℕ) : Type 0 where
  pub grows : Grows old new
  pub known : HoldsBefore (IsKnown new) classes n

pub one_passed_over : (old new : Written) (classes : List (Option NameClass)) (n : ℕ) → slice_get classes n ≡ Some None
    → AreAdded old new classes n → AreAdded old new classes (n + 1)
one_passed_over old new classes n at before = record {
  grows = before.grows;
  known = holds_on (IsKnown new) classes n None at (λ c e. absurd (none-some c e)) before.known;
}

pub one_added : (old mid new : Written) (classes : List (Option NameClass)) (n : ℕ) (c : NameClass) → slice_get classes n ≡ Some (Some c)
    → AreAdded old mid classes n → Grows mid new → Knows new c → AreAdded old new classes (n + 1)
one_added old mid new classes n c at before grows known = record {
  grows = grows_on old mid new before.grows grows;
  known = holds_on (IsKnown new) classes n (Some c) at (λ d e. subst (Knows new) (same_Some c d e) known)
      (λ k x less e d same. still_known mid new d grows (before.known k x less e d same));
}

pub all_added : (old new : Written) (classes : List (Option NameClass)) (n : ℕ) → length classes ≤ n → AreAdded old new classes n
    → (k : ℕ) (c : NameClass) → slice_get classes k ≡ Some (Some c) → Knows new c
all_added old new classes n past added k c e = holds_of_all (IsKnown new) classes n past added.known k (Some c) e c refl

-- each class of a list is added
pub all_members : {A : Type 0} (old new : Written) (f : A → NameClass) (xs : List A) (n : ℕ) → length xs ≤ n
    → AreAdded old new (map (λ x. Some (f x)) xs) n → AreKnown new (map f xs)
all_members {A = A} old new f xs n past added k c e =
    all_added old new (map (λ x. Some (f x)) xs) n (omega (arith, past, length-map xs (λ x. Some (f x)))) added k c
    (slice_get-map (λ x. Some (f x)) xs k ∙ again (slice_get xs k) (sym (slice_get-map f xs k) ∙ e))
  where
    again : (o : Option A) → option_map f o ≡ Some c → option_map (λ x. Some (f x)) o ≡ Some (Some c)
    again None e' = absurd (none-some c e')
    again (Some x) e' = ap Some e'
