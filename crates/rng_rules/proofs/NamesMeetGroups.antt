-- Rows with name classes, one after the other, and groups of those whose class is the same name.
use Rattle.std.proofs.Common.{◌≡◌, ◌⊎◌, ◌↔◌, inl, inr, refl, ap, ap₂, sym, ◌∙◌, subst, ℕ, zero, suc, ◌+◌, ◌<◌, ◌≤◌, ◌&&◌, Bool, true, false, true≢false}
use Rattle.std.proofs.Common.{List, [], ◌∷◌, ◌++◌, length, map, take, slice_get, slice_index_or, Some, None, Option, option_map, Contains, length-append, if◌then◌else◌, ◌==◌, arith}
use Rattle.std.specs.List.{list_any}
use Rattle.std.specs.Str.{bytes_eq}
use Rattle.std.proofs.lemmas.Bool.{cases_eq, cases_lt, or_parts}
use Rattle.std.proofs.lemmas.List.{take_all, length-map, map-append}
use Rattle.std.proofs.lemmas.List.Elements.{Contains-push, Contains-push_cases, Contains-append_left, Contains-append_right, Contains-append_cases}
use Rattle.std.proofs.lemmas.Option.{slice_get_cases, slice_get_within, slice_get-map}
use Rattle.std.proofs.lemmas.Slice.Eq.{bytes_eq-Decides}
use Rattle.rng_model.proofs.Options.{one_value, none_is_some}
use Rattle.rng_model.proofs.Members.{not_in_none, one_only}
use Rattle.rng_model.proofs.Places.{before_or_at_end, in_front}
use Rattle.indexmap.specs.IndexSet.{insert_key}
use Rattle.rng_model.specs.names.Names as names
use Rattle.rng_model.specs.names.Names.{Overlap}
use Rattle.rng_model.specs.simple.Table.{Table}
use Rattle.rng_model.specs.names.NameViews.{class_of, name_of}
use Rattle.rng_model.specs.declared.name.Name.{Name}
use Rattle.rng_model.specs.declared.name.NameClass.{NameClass}
use Rattle.rng_model.specs.declared.name.NameClass.TheVariants as class
use Rattle.rng_rules.specs.declared.names_meet.NamesOf.{NamesOf}
use Rattle.rng_rules.specs.declared.names_meet_groups.PlainName.{PlainName}
use Rattle.rng_rules.specs.contracts.names_meet_groups.PlainNamePartialEq.TheImpl as same
use Rattle.rng_rules.specs.views.NamesMeetLabels.{AreLabels, judged_class, label_list, plain_name_of, HasName, AreNamesApart, AreGroups}
use Rattle.rng_rules.specs.views.NamesMeetRows.{class_in}
use Rattle.rng_rules.specs.views.NamesMeetSides.{IsUnder}
use Rattle.rng_rules.proofs.NamesMeetBetween.{at_marked}

abbrev Label : Type 0
Label = ℕ × NameClass

-- ---- labels

same_row : {a b : ℕ} {c d : NameClass} → ◌≡◌ {A = Label} (a, c) (b, d) → a ≡ b
same_row e = ap (λ (l : Label). l.0) e

same_class : {a b : ℕ} {c d : NameClass} → ◌≡◌ {A = Label} (a, c) (b, d) → c ≡ d
same_class e = ap (λ (l : Label). l.1) e

in_label_list : (i row : ℕ) (o : Option NameClass) (c : NameClass) → Contains (label_list i o) (row, c) → (row ≡ i) × (o ≡ Some c)
in_label_list i row None c h = absurd (not_in_none h)
in_label_list i row (Some d) c h =
    let e : ◌≡◌ {A = Label} (i, d) (row, c) = one_only (i, d) (row, c) h in
    (sym (same_row e), ap Some (same_class e))

label_there : (row : ℕ) (o : Option NameClass) (c : NameClass) → o ≡ Some c → Contains (label_list row o) (row, c)
label_there row o c e = subst (λ p. Contains (label_list row p) (row, c)) (sym e) (0, omega arith, refl)

pub labels_more : (class : ℕ → Option NameClass) (i : ℕ) (ls new : List Label) → new ≡ ls ++ label_list i (class i)
    → ((row : ℕ) (c : NameClass) → Contains ls (row, c) ↔ ((row < i) × (class row ≡ Some c)))
    → (row : ℕ) (c : NameClass) → Contains new (row, c) ↔ ((row < i + 1) × (class row ≡ Some c))
labels_more class i ls new more so_far row c = (
  λ h. elim (Contains-append_cases ls (label_list i (class i)) (row, c) (subst (λ xs. Contains xs (row, c)) more h)) [
    | inl l ↦ let s = (so_far row c).0 l in (omega (arith, s.0), s.1)
    | inr r ↦
        let s = in_label_list i row (class i) c r in
        (omega (arith, s.0), ap class s.0 ∙ s.1)
  ],
  λ h. subst (λ xs. Contains xs (row, c)) (sym more) (elim (cases_eq row i) [
    | inl e ↦
        let is : class i ≡ Some c = ap class (sym e) ∙ h.1 in
        Contains-append_right ls (label_list i (class i)) (row, c) (subst (λ k. Contains (label_list i (class i)) (k, c)) (sym e) (label_there i (class i) c is))
    | inr n ↦ Contains-append_left ls (label_list i (class i)) (row, c) ((so_far row c).1 (omega (arith, h.0, n), h.1))
  ]),
)

judged_is : (b : Bool) (o : Option NameClass) {c : NameClass} → (if b then o else None) ≡ Some c → o ≡ Some c
judged_is true o e = e
judged_is false o e = none_is_some e

pub labels_all : (of : NamesOf) (t : Table) (above : List (List ℕ)) (under : List ℕ) (i : ℕ) (ls : List Label) → length t.patterns ≤ i
    → ((k : ℕ) → IsUnder of t above k → slice_get under k ≡ Some 1)
    → ((row : ℕ) (c : NameClass) → Contains ls (row, c) ↔ ((row < i) × (judged_class of t under row ≡ Some c))) → AreLabels of t above ls
labels_all of t above under i ls past marked so_far = record {
  sound = λ row c h. judged_is (slice_index_or under row 0 == 1) (class_in of t.elements (slice_get t.patterns row)) ((so_far row c).0 h).1;
  complete = λ row c h u. (so_far row c).1 (
    elim (slice_get_cases t.patterns row).1 [
      | inl f ↦ let l = slice_get_within t.patterns row f.0 f.2 in omega arith
      | inr f ↦ none_is_some (sym (ap (class_in of t.elements) f.1) ∙ h)
    ],
    ap (λ b. if b then class_in of t.elements (slice_get t.patterns row) else None) (at_marked under row 1 (marked row u)) ∙ h,
  );
}

-- ---- one more of a list

pub overlapping_more : (class : names.NameClass) (ls new : List Label) (i : ℕ) (d : NameClass) (old rows : List ℕ) → new ≡ ls ++ (i, d) ∷ []
    → ((row : ℕ) → Contains rows row ↔ (Contains old row ⊎ ((row ≡ i) × Overlap class (class_of d))))
    → ((row : ℕ) → Contains old row ↔ ((c : NameClass) × Contains ls (row, c) × Overlap class (class_of c)))
    → (row : ℕ) → Contains rows row ↔ ((c : NameClass) × Contains new (row, c) × Overlap class (class_of c))
overlapping_more class ls new i d old rows more one so_far row = (
  λ h. elim ((one row).0 h) [
    | inl o ↦ let s = (so_far row).0 o in (s.0, subst (λ xs. Contains xs (row, s.0)) (sym more) (Contains-append_left ls ((i, d) ∷ []) (row, s.0) s.1), s.2)
    | inr e ↦ (d, subst (λ xs. Contains xs (row, d)) (sym more) (subst (λ k. Contains (ls ++ (i, d) ∷ []) (k, d)) (sym e.0) (Contains-push ls (i, d))), e.1)
  ],
  λ h. (one row).1 (elim (Contains-push_cases ls (i, d) (row, h.0) (subst (λ xs. Contains xs (row, h.0)) more h.1)) [
    | inl l ↦ inl ((so_far row).1 (h.0, l, h.2))
    | inr e ↦ inr (sym (same_row e), subst (λ z. Overlap class (class_of z)) (sym (same_class e)) h.2)
  ]),
)

pub overlapping_all : (class : names.NameClass) (ls : List Label) (n : ℕ) (rows : List ℕ) → length ls ≤ n
    → ((row : ℕ) → Contains rows row ↔ ((c : NameClass) × Contains (take n ls) (row, c) × Overlap class (class_of c)))
    → (row : ℕ) → Contains rows row ↔ ((c : NameClass) × Contains ls (row, c) × Overlap class (class_of c))
overlapping_all class ls n rows h so_far =
    subst (λ xs. (row : ℕ) → Contains rows row ↔ ((c : NameClass) × Contains xs (row, c) × Overlap class (class_of c))) (take_all n ls h) so_far

-- ---- names by number

exact : (x y : PlainName) → same.ghosts.eq x y ≡ true → plain_name_of x ≡ plain_name_of y
exact x y e = both (bytes_eq x.ns.now y.ns.now) (bytes_eq x.local.now y.local.now) refl refl e
  where
    both : (a b : Bool) → bytes_eq x.ns.now y.ns.now ≡ a → bytes_eq x.local.now y.local.now ≡ b → a && b ≡ true → plain_name_of x ≡ plain_name_of y
    both true true f g e =
        let s = (bytes_eq-Decides x.ns.now y.ns.now).0 f in
        let l = (bytes_eq-Decides x.local.now y.local.now).0 g in
        cc
    both true false f g e = absurd (true≢false (sym e))
    both false b f g e = absurd (true≢false (sym e))

equal : (x y : PlainName) → plain_name_of x ≡ plain_name_of y → same.ghosts.eq x y ≡ true
equal x y e = ap₂ ◌&&◌ ((bytes_eq-Decides x.ns.now y.ns.now).1 (ap (λ (q : names.Name). q.ns) e))
    ((bytes_eq-Decides x.local.now y.local.now).1 (ap (λ (q : names.Name). q.local) e))

none_same : (n : PlainName) (ks : List PlainName) → list_any (same.ghosts.eq n) ks ≡ false → (i : ℕ) → slice_get (map plain_name_of ks) i ≡ Some (plain_name_of n) → ⊥
none_same n [] e i at = let h = slice_get_within [] i (plain_name_of n) at in omega arith
none_same n (k ∷ ks) e zero at =
    let no = or_parts (same.ghosts.eq n k) (list_any (same.ghosts.eq n) ks) e in
    true≢false (sym (equal n k (one_value at refl)) ∙ no.0)
none_same n (k ∷ ks) e (suc i) at = none_same n ks (or_parts (same.ghosts.eq n k) (list_any (same.ghosts.eq n) ks) e).1 i at

-- a name is among the keys and has this number
pub record IsNumbered (n : PlainName) (ks new : List PlainName) (i : ℕ) : Type 0 where
  pub apart : AreNamesApart (map plain_name_of ks) → AreNamesApart (map plain_name_of new)
  pub there : slice_get (map plain_name_of new) i ≡ Some (plain_name_of n)
  pub kept : (k : ℕ) (q : names.Name) → slice_get (map plain_name_of ks) k ≡ Some q → slice_get (map plain_name_of new) k ≡ Some q
  pub old : i < length ks → length new ≡ length ks
  pub one : i ≡ length ks → length new ≡ length ks + 1

pub numbered : (n k : PlainName) (ks new : List PlainName) (i : ℕ) → new ≡ insert_key same.ghosts.eq ks n → slice_get new i ≡ Some k → same.ghosts.eq n k ≡ true
    → IsNumbered n ks new i
numbered n k ks new i is stored eq = either_way (list_any (same.ghosts.eq n) ks) refl is
  where
    found : slice_get (map plain_name_of new) i ≡ Some (plain_name_of n)
    found = slice_get-map plain_name_of new i ∙ ap (option_map plain_name_of) stored ∙ ap Some (sym (exact n k eq))

    either_way : (b : Bool) → list_any (same.ghosts.eq n) ks ≡ b → new ≡ (if b then ks else ks ++ n ∷ []) → IsNumbered n ks new i
    either_way true any e = record {
      apart = subst (λ xs. AreNamesApart (map plain_name_of ks) → AreNamesApart (map plain_name_of xs)) (sym e) (λ a. a);
      there = found;
      kept = subst (λ xs. (k : ℕ) (q : names.Name) → slice_get (map plain_name_of ks) k ≡ Some q → slice_get (map plain_name_of xs) k ≡ Some q) (sym e) (λ k q h. h);
      old = λ h. ap length e;
      one = λ h. absurd (let l = slice_get_within new i k stored in let m = ap length e in omega arith);
    }
    either_way false any e =
        let qs = map plain_name_of ks in
        let q = plain_name_of n in
        let more : map plain_name_of new ≡ qs ++ q ∷ [] = ap (map plain_name_of) e ∙ map-append plain_name_of ks (n ∷ []) in record {
          apart = λ a. subst AreNamesApart (sym more) (λ x y z f g. elim (before_or_at_end qs q z x f) [
            | inl h ↦ elim (before_or_at_end qs q z y g) [
              | inl l ↦ a x y z h l
              | inr l ↦ absurd (none_same n ks any x (h ∙ ap Some l.1))
            ]
            | inr h ↦ elim (before_or_at_end qs q z y g) [
              | inl l ↦ absurd (none_same n ks any y (l ∙ ap Some h.1))
              | inr l ↦ h.0 ∙ sym l.0
            ]
          ]);
          there = found;
          kept = λ k z h. subst (λ xs. slice_get xs k ≡ Some z) (sym more) (in_front qs (q ∷ []) k z h);
          old = λ h. absurd (elim (before_or_at_end qs q q i (subst (λ xs. slice_get xs i ≡ Some q) more found)) [
            | inl l ↦ none_same n ks any i l
            | inr l ↦ let m = length-map ks plain_name_of in let o = l.0 in omega arith
          ]);
          one = λ h. ap length e ∙ length-append ks (n ∷ []);
        }

-- ---- groups

more_name : (ls : List Label) (l : Label) (row : ℕ) (q : names.Name) → HasName ls row q → HasName (ls ++ l ∷ []) row q
more_name ls l row q h = (h.0, Contains-append_left ls (l ∷ []) (row, class.Name h.0) h.1, h.2)

pub no_groups : (qs : List names.Name) (groups : List (List ℕ)) → qs ≡ [] → groups ≡ [] → AreGroups [] qs groups
no_groups qs groups e f = record {
  long = ap length f ∙ sym (ap length e);
  apart = λ i j q g h. absurd (let l = slice_get_within [] i q (subst (λ xs. slice_get xs i ≡ Some q) e g) in omega arith);
  sound = λ k row h. absurd (nothing_at k row (subst (λ xs. Contains (slice_index_or xs k []) row) f h));
  complete = λ row q h. absurd (not_in_none h.1);
}
  where
    nothing_at : (k row : ℕ) → Contains (slice_index_or {A = List ℕ} [] k []) row → ⊥
    nothing_at k row h = not_in_none h

abbrev named : NameClass → Option names.Name
named (class.Name n) = Some (name_of n)
named c = None

same_named : (n m : Name) → class.Name n ≡ class.Name m → name_of n ≡ name_of m
same_named n m e = sym (one_value (ap named e) refl)

module _ (ls : List Label) (qs new_qs : List names.Name) (groups new : List (List ℕ)) (row n : ℕ) (name : Name) (is : AreGroups ls qs groups)
    (apart : AreNamesApart new_qs) (there : slice_get new_qs n ≡ Some (name_of name))
    (kept : (k : ℕ) (q : names.Name) → slice_get qs k ≡ Some q → slice_get new_qs k ≡ Some q) (long : length new ≡ length new_qs)
    (added : (c p : ℕ) → Contains (slice_index_or new c []) p ↔ (Contains (slice_index_or groups c []) p ⊎ ((p ≡ row) × (c ≡ n)))) where
  pub name_added : AreGroups (ls ++ (row, class.Name name) ∷ []) new_qs new
  name_added = record {
    long = long;
    apart = apart;
    sound = λ k p h. elim ((added k p).0 h) [
      | inl o ↦ let s = is.sound k p o in (s.0, kept k s.0 s.1, more_name ls (row, class.Name name) p s.0 s.2)
      | inr e ↦ (
        name_of name,
        ap (slice_get new_qs) e.1 ∙ there,
        (name, subst (λ r. Contains (ls ++ (row, class.Name name) ∷ []) (r, class.Name name)) (sym e.0) (Contains-push ls (row, class.Name name)), refl),
      )
    ];
    complete = λ p q h. elim (Contains-push_cases ls (row, class.Name name) (p, class.Name h.0) h.1) [
      | inl l ↦ let s = is.complete p q (h.0, l, h.2) in (s.0, kept s.0 q s.1, (added s.0 p).1 (inl s.2))
      | inr e ↦ (n, there ∙ ap Some (same_named name h.0 (same_class e) ∙ h.2), (added n p).1 (inr (sym (same_row e), refl)))
    ];
  }

pub not_added : (ls : List Label) (qs : List names.Name) (groups : List (List ℕ)) (row : ℕ) (c : NameClass) → ((n : Name) → c ≡ class.Name n → ⊥)
    → AreGroups ls qs groups → AreGroups (ls ++ (row, c) ∷ []) qs groups
not_added ls qs groups row c other is = record {
  long = is.long;
  apart = is.apart;
  sound = λ k p h. let s = is.sound k p h in (s.0, s.1, more_name ls (row, c) p s.0 s.2);
  complete = λ p q h. elim (Contains-push_cases ls (row, c) (p, class.Name h.0) h.1) [
    | inl l ↦ is.complete p q (h.0, l, h.2)
    | inr e ↦ absurd (other h.0 (same_class e))
  ];
}

-- there is a list for each name
pub room_made : (rows keys new_rows new_keys n : ℕ) {all qs : ℕ} → rows ≡ keys → n ≤ keys → (n < keys → new_keys ≡ keys) → (n ≡ keys → new_keys ≡ keys + 1)
    → (n < rows → new_rows ≡ rows) → (n ≡ rows → new_rows ≡ rows + 1) → all ≡ new_rows → qs ≡ new_keys → all ≡ qs
room_made rows keys new_rows new_keys n same within k l r s e f = elim (cases_lt n keys) [
  | inl h ↦ let a = k h in let b = r (omega (arith, h, same)) in omega (arith, a, b, same, e, f)
  | inr h ↦
      let last : n ≡ keys = omega (arith, h, within) in
      let a = l last in let b = s (omega (arith, last, same)) in omega (arith, a, b, same, e, f)
]
