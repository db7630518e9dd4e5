-- A text that is longer than all that are written represents every text that is not written.
use Rattle.std.proofs.Common.{◌≡◌, ℕ, ◌<◌, max, bytes_eq, List, length, Bool, true, false, not, ◌&&◌, ◌||◌, refl, ap, ap₂, sym, ◌∙◌, subst, rules, arith}
use Rattle.std.proofs.lemmas.Slice.Eq.{bytes_eq-Decides}
use Rattle.std.proofs.lemmas.Bool.{or_from, and_left, or_parts, or_right, or_left}
use Rattle.rng_model.specs.names.Names.{Name, NameClass, NameClasses, any_name, any_except, ns_name, ns_except, name_is, one_of, no_classes, class_and}
use Rattle.rng_model.specs.plain.ClassesApart.{AreApart}
use Rattle.rng_names.specs.plain.Holding.{holds, some_hold, pair}
use Rattle.rng_names.specs.plain.Written.{both_hold, is_met, is_some_met, longest, longest_of, some_write_name, some_write_ns, writes_name, writes_ns}
use Rattle.rng_names.proofs.Holding.{same_name-Decides, holds-Decides}

-- ---- tests

or_both : (x y z w : Bool) → (x ≡ true → z ≡ true) → (y ≡ true → w ≡ true) → (x || y) ≡ true → (z || w) ≡ true
or_both true y z w f g e = or_left z w (f refl)
or_both false y z w f g e = or_right z w (g e)

never : (x : Bool) → false ≡ true → x ≡ true
never x e = search rules

max-below : (a b m : ℕ) → max a b < m → (a < m) × (b < m)
max-below a b m h = (omega (arith, h), omega (arith, h))

-- a longer text is different
pub shorter : (u v : List ℕ) → length u < length v → bytes_eq u v ≡ false
shorter u v less = off (bytes_eq u v) refl where
  off : (b : Bool) → bytes_eq u v ≡ b → bytes_eq u v ≡ false
  off false e = e
  off true e = let long : length u ≡ length v = ap length ((bytes_eq-Decides u v).0 e) in let absurd : ⊥ = omega (arith, less, long) in elim absurd [ ]

-- ---- the test passes for what is written

mutual
  met_by_name : (test : Name → Bool) (fresh : List ℕ) (c : NameClass) (q : Name) → test q ≡ true → writes_name c q ≡ true → is_met test fresh c ≡ true
  met_by_name test fresh any_name q passes e = e
  met_by_name test fresh (any_except c) q passes e = met_by_name test fresh c q passes e
  met_by_name test fresh (ns_name u) q passes e = never _ e
  met_by_name test fresh (ns_except u c) q passes e = or_right (test (pair u fresh)) _ (met_by_name test fresh c q passes e)
  met_by_name test fresh (name_is n) q passes e = or_left (test n) _ (subst (λ r. test r ≡ true) ((same_name-Decides n q).0 e) passes)
  met_by_name test fresh (one_of c d cs) q passes e =
      or_both _ _ _ _ (met_by_name test fresh c q passes) (or_both _ _ _ _ (met_by_name test fresh d q passes) (some_met_by_name test fresh cs q passes)) e

  some_met_by_name : (test : Name → Bool) (fresh : List ℕ) (cs : NameClasses) (q : Name) → test q ≡ true → some_write_name cs q ≡ true
      → is_some_met test fresh cs ≡ true
  some_met_by_name test fresh no_classes q passes e = e
  some_met_by_name test fresh (class_and c cs) q passes e = or_both _ _ _ _ (met_by_name test fresh c q passes) (some_met_by_name test fresh cs q passes) e

met_at : (test : Name → Bool) (fresh u v : List ℕ) → test (pair v fresh) ≡ true → bytes_eq u v ≡ true → test (pair u fresh) ≡ true
met_at test fresh u v passes e = subst (λ w. test (pair w fresh) ≡ true) (sym ((bytes_eq-Decides u v).0 e)) passes

mutual
  met_by_ns : (test : Name → Bool) (fresh : List ℕ) (c : NameClass) (v : List ℕ) → test (pair v fresh) ≡ true → writes_ns c v ≡ true
      → is_met test fresh c ≡ true
  met_by_ns test fresh any_name v passes e = e
  met_by_ns test fresh (any_except c) v passes e = met_by_ns test fresh c v passes e
  met_by_ns test fresh (ns_name u) v passes e = met_at test fresh u v passes e
  met_by_ns test fresh (ns_except u c) v passes e = or_both _ _ _ _ (met_at test fresh u v passes) (met_by_ns test fresh c v passes) e
  met_by_ns test fresh (name_is n) v passes e = or_right (test n) _ (met_at test fresh n.ns v passes e)
  met_by_ns test fresh (one_of c d cs) v passes e =
      or_both _ _ _ _ (met_by_ns test fresh c v passes) (or_both _ _ _ _ (met_by_ns test fresh d v passes) (some_met_by_ns test fresh cs v passes)) e

  some_met_by_ns : (test : Name → Bool) (fresh : List ℕ) (cs : NameClasses) (v : List ℕ) → test (pair v fresh) ≡ true → some_write_ns cs v ≡ true
      → is_some_met test fresh cs ≡ true
  some_met_by_ns test fresh no_classes v passes e = e
  some_met_by_ns test fresh (class_and c cs) v passes e = or_both _ _ _ _ (met_by_ns test fresh c v passes) (some_met_by_ns test fresh cs v passes) e

-- ---- a name that is not written is like any other of its namespace that is not, and so like the one with the fresh
-- local name

mutual
  pub like_unwritten : (c : NameClass) (u v w : List ℕ) → writes_name c (pair u v) ≡ false → writes_name c (pair u w) ≡ false
      → holds c (pair u v) ≡ holds c (pair u w)
  like_unwritten any_name u v w e f = refl
  like_unwritten (any_except c) u v w e f = ap not (like_unwritten c u v w e f)
  like_unwritten (ns_name x) u v w e f = refl
  like_unwritten (ns_except x c) u v w e f = ap (λ b. bytes_eq x u && not b) (like_unwritten c u v w e f)
  like_unwritten (name_is n) u v w e f = e ∙ sym f
  like_unwritten (one_of c d cs) u v w e f =
      let first = or_parts _ _ e in
      let rest = or_parts _ _ first.1 in
      let first' = or_parts _ _ f in
      let rest' = or_parts _ _ first'.1 in
      ap₂ (λ x y. x || y) (like_unwritten c u v w first.0 first'.0)
      (ap₂ (λ x y. x || y) (like_unwritten d u v w rest.0 rest'.0) (some_like_unwritten cs u v w rest.1 rest'.1))

  some_like_unwritten : (cs : NameClasses) (u v w : List ℕ) → some_write_name cs (pair u v) ≡ false → some_write_name cs (pair u w) ≡ false
      → some_hold cs (pair u v) ≡ some_hold cs (pair u w)
  some_like_unwritten no_classes u v w e f = refl
  some_like_unwritten (class_and c cs) u v w e f =
      let apart = or_parts _ _ e in
      let apart' = or_parts _ _ f in
      ap₂ (λ x y. x || y) (like_unwritten c u v w apart.0 apart'.0) (some_like_unwritten cs u v w apart.1 apart'.1)

mutual
  unwritten : (c : NameClass) (u fresh : List ℕ) → longest c < length fresh → writes_name c (pair u fresh) ≡ false
  unwritten any_name u fresh less = refl
  unwritten (any_except c) u fresh less = unwritten c u fresh less
  unwritten (ns_name x) u fresh less = refl
  unwritten (ns_except x c) u fresh less = unwritten c u fresh (max-below (length x) (longest c) _ less).1
  unwritten (name_is n) u fresh less = and_left (bytes_eq n.local fresh) (bytes_eq n.ns u) (shorter n.local fresh (max-below _ _ _ less).1)
  unwritten (one_of c d cs) u fresh less =
      let below = max-below (longest c) (max (longest d) (longest_of cs)) _ less in
      let after = max-below (longest d) (longest_of cs) _ below.1 in
      or_from _ _ (unwritten c u fresh below.0) (or_from _ _ (unwritten d u fresh after.0) (none_written cs u fresh after.1))

  none_written : (cs : NameClasses) (u fresh : List ℕ) → longest_of cs < length fresh → some_write_name cs (pair u fresh) ≡ false
  none_written no_classes u fresh less = refl
  none_written (class_and c cs) u fresh less =
      let below = max-below (longest c) (longest_of cs) _ less in
      or_from _ _ (unwritten c u fresh below.0) (none_written cs u fresh below.1)

pub like_local : (c : NameClass) (q : Name) (fresh : List ℕ) → writes_name c q ≡ false → longest c < length fresh → holds c q ≡ holds c (pair q.ns fresh)
like_local c q fresh e less = like_unwritten c q.ns q.local fresh e (unwritten c q.ns fresh less)

-- ---- a namespace that is not written is like the fresh one

other_ns : (u v fresh : List ℕ) → bytes_eq u v ≡ false → length u < length fresh → bytes_eq u v ≡ bytes_eq u fresh
other_ns u v fresh e less = e ∙ sym (shorter u fresh less)

mutual
  pub like_ns : (c : NameClass) (v w fresh : List ℕ) → writes_ns c v ≡ false → longest c < length fresh → holds c (pair v w) ≡ holds c (pair fresh w)
  like_ns any_name v w fresh e less = refl
  like_ns (any_except c) v w fresh e less = ap not (like_ns c v w fresh e less)
  like_ns (ns_name u) v w fresh e less = other_ns u v fresh e less
  like_ns (ns_except u c) v w fresh e less =
      let apart = or_parts _ _ e in
      let below = max-below (length u) (longest c) _ less in
      ap₂ (λ x y. x && not y) (other_ns u v fresh apart.0 below.0) (like_ns c v w fresh apart.1 below.1)
  like_ns (name_is n) v w fresh e less = ap (λ b. bytes_eq n.local w && b) (other_ns n.ns v fresh e (max-below (length n.ns) (length n.local) _ less).0)
  like_ns (one_of c d cs) v w fresh e less =
      let first = or_parts _ _ e in
      let rest = or_parts _ _ first.1 in
      let below = max-below (longest c) (max (longest d) (longest_of cs)) _ less in
      let after = max-below (longest d) (longest_of cs) _ below.1 in
      ap₂ (λ x y. x || y) (like_ns c v w fresh first.0 below.0)
      (ap₂ (λ x y. x || y) (like_ns d v w fresh rest.0 after.0) (some_like_ns cs v w fresh rest.1 after.1))

  some_like_ns : (cs : NameClasses) (v w fresh : List ℕ) → some_write_ns cs v ≡ false → longest_of cs < length fresh
      → some_hold cs (pair v w) ≡ some_hold cs (pair fresh w)
  some_like_ns no_classes v w fresh e less = refl
  some_like_ns (class_and c cs) v w fresh e less =
      let apart = or_parts _ _ e in
      let below = max-below (longest c) (longest_of cs) _ less in
      ap₂ (λ x y. x || y) (like_ns c v w fresh apart.0 below.0) (some_like_ns cs v w fresh apart.1 below.1)

-- ---- if some name passes, one of those that are tried does

module _ (test : Name → Bool) (fresh : List ℕ) (c d : NameClass) where
  abbrev pub Found : Type 0
  Found = (test (pair fresh fresh) || (is_met test fresh c || is_met test fresh d)) ≡ true

  in_first : is_met test fresh c ≡ true → Found
  in_first e = or_right (test (pair fresh fresh)) _ (or_left _ _ e)

  in_second : is_met test fresh d ≡ true → Found
  in_second e = or_right (test (pair fresh fresh)) _ (or_right (is_met test fresh c) _ e)

  by_ns : (v : List ℕ) (x y : Bool) → writes_ns c v ≡ x → writes_ns d v ≡ y → test (pair v fresh) ≡ true
      → (writes_ns c v ≡ false → writes_ns d v ≡ false → test (pair v fresh) ≡ test (pair fresh fresh)) → Found
  by_ns v true y ex ey passes same = in_first (met_by_ns test fresh c v passes ex)
  by_ns v false true ex ey passes same = in_second (met_by_ns test fresh d v passes ey)
  by_ns v false false ex ey passes same = or_left _ _ (sym (same ex ey) ∙ passes)

  by_name : (q : Name) (x y : Bool) → writes_name c q ≡ x → writes_name d q ≡ y → test q ≡ true
      → (writes_name c q ≡ false → writes_name d q ≡ false → test q ≡ test (pair q.ns fresh)) → (test (pair q.ns fresh) ≡ true → Found) → Found
  by_name q true y ex ey passes same else_by = in_first (met_by_name test fresh c q passes ex)
  by_name q false true ex ey passes same else_by = in_second (met_by_name test fresh d q passes ey)
  by_name q false false ex ey passes same else_by = else_by (sym (same ex ey) ∙ passes)

-- if both classes hold a name, both hold one of those that are tried
pub one_is_found : (fresh : List ℕ) (c d : NameClass) (q : Name) → longest c < length fresh → longest d < length fresh → both_hold c d q ≡ true
    → Found (both_hold c d) fresh c d
one_is_found fresh c d q less less' passes =
    let test : Name → Bool = both_hold c d in
    let locals : writes_name c q ≡ false → writes_name d q ≡ false → test q ≡ test (pair q.ns fresh) =
    λ x y. ap₂ (λ x y. x && y) (like_local c q fresh x less) (like_local d q fresh y less') in
    let spaces : writes_ns c q.ns ≡ false → writes_ns d q.ns ≡ false → test (pair q.ns fresh) ≡ test (pair fresh fresh) =
    λ x y. ap₂ (λ x y. x && y) (like_ns c q.ns fresh fresh x less) (like_ns d q.ns fresh fresh y less') in
    by_name test fresh c d q (writes_name c q) (writes_name d q) refl refl passes locals
    (λ passes'. by_ns test fresh c d q.ns (writes_ns c q.ns) (writes_ns d q.ns) refl refl passes' spaces)

found-neither : (x y z : Bool) → x ≡ false → y ≡ false → z ≡ false → (x || (y || z)) ≡ true → ⊥
found-neither x y z ex ey ez found = search rules

-- if the test passes for none of those that are tried, no name is in both classes
pub none_is_found : (fresh : List ℕ) (c d : NameClass) → longest c < length fresh → longest d < length fresh → both_hold c d (pair fresh fresh) ≡ false
    → is_met (both_hold c d) fresh c ≡ false → is_met (both_hold c d) fresh d ≡ false → AreApart c d
none_is_found fresh c d less less' outside first second q in_c in_d =
    let passes : both_hold c d q ≡ true = ap₂ (λ x y. x && y) ((holds-Decides c q).1 in_c) ((holds-Decides d q).1 in_d) in
    found-neither _ _ _ outside first second (one_is_found fresh c d q less less' passes)
