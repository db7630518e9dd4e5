-- Labels with the same code are equal.
use Rattle.std.proofs.Common.{◌≡◌, refl, ap, ap₂, sym, ◌∙◌, ℕ, zero, suc, Bool, true, false, true≢false, not, if◌then◌else◌}
use Rattle.std.proofs.Common.{List, [], ◌∷◌, ◌++◌, map, append_assoc, slice_get, length, ◌<◌, arith, Some, Vec, Box, Global, rules}
use Rattle.std.proofs.lemmas.Bool.{and_parts, and_from}
use Rattle.std.proofs.lemmas.Bool.Decides.{Decides-eqb}
use Rattle.std.proofs.lemmas.List.{append-nil, map-append}
use Rattle.std.proofs.lemmas.Slice.Eq.{bytes_eq-Decides}
use Rattle.std.specs.Cmp.Lexicographic.{pointwise}
use Rattle.std.specs.List.{AllByRecursion, IsDistinct, list_any}
use Rattle.std.specs.Str.{bytes_eq}
use Rattle.std.proofs.lemmas.Option.{same_Some}
use Rattle.indexmap.specs.IndexSet.{insert_key}
use Rattle.rng_model.specs.names.Names.{NameClass, any_name, any_except, ns_name, ns_except, name_is, one_of, NameClasses, no_classes, class_and, class_list}
use Rattle.rng_model.specs.names.Names.{some_of}
use Rattle.rng_model.specs.schema.Patterns.{without_parameters}
use Rattle.rng_model.specs.simple.Tree.{Datatype}
use Rattle.rng_model.specs.names.NameViews.{class_of, namespace_bytes}
use Rattle.rng_model.specs.declared.namespace.Namespace.{Namespace}
use Rattle.rng_model.specs.declared.name.NameClass as declared
use Rattle.rng_model.specs.declared.name.NameClass.{the_lemmas}
use Rattle.rng_model.specs.declared.name.NameClass.TheVariants as classes
use Rattle.rng_labels.specs.plain.LabelCodes.{Part, number, text, any, any_but, ns, ns_but, name, either, part_of, class_code, more_code}
use Rattle.rng_labels.specs.plain.LabelCodes.{IsInTwos, AreCodesApart, parameters_code, datatype_code, value_code}
use Rattle.rng_labels.specs.declared.label_codes.LabelPart.{LabelPart}
use Rattle.rng_labels.specs.declared.label_codes.LabelPart.TheVariants as parts
use Rattle.rng_labels.specs.contracts.label_codes.LabelPartPartialEq.TheImpl as same

-- ---- equal parts and equal codes

same_part : (p q : LabelPart) → same.ghosts.eq p q ≡ true → part_of p ≡ part_of q
same_part (parts.Number m) (parts.Number n) e = ap number ((Decides-eqb m n).0 e)
same_part (parts.Text s) (parts.Text t) e = ap text ((bytes_eq-Decides s.now t.now).0 e)
same_part parts.Any parts.Any e = refl
same_part parts.AnyBut parts.AnyBut e = refl
same_part (parts.Ns s) (parts.Ns t) e = ap ns ((bytes_eq-Decides (namespace_bytes s.now) (namespace_bytes t.now)).0 e)
same_part (parts.NsBut s) (parts.NsBut t) e = ap ns_but ((bytes_eq-Decides (namespace_bytes s.now) (namespace_bytes t.now)).0 e)
same_part (parts.Name u s) (parts.Name v t) e =
    let both = and_parts (bytes_eq (namespace_bytes u.now) (namespace_bytes v.now)) (bytes_eq s.now t.now) e in
    ap₂ name ((bytes_eq-Decides (namespace_bytes u.now) (namespace_bytes v.now)).0 both.0) ((bytes_eq-Decides s.now t.now).0 both.1)
same_part parts.Either parts.Either e = refl
same_part _ _ e = absurd (true≢false (sym e))

equal_parts : (p q : LabelPart) → part_of p ≡ part_of q → same.ghosts.eq p q ≡ true
equal_parts (parts.Number m) (parts.Number n) e = let h : m ≡ n = cc in (Decides-eqb m n).1 h
equal_parts (parts.Text s) (parts.Text t) e = let h : s.now ≡ t.now = cc in (bytes_eq-Decides s.now t.now).1 h
equal_parts parts.Any parts.Any e = refl
equal_parts parts.AnyBut parts.AnyBut e = refl
equal_parts (parts.Ns s) (parts.Ns t) e =
    let h : namespace_bytes s.now ≡ namespace_bytes t.now = cc in
    (bytes_eq-Decides (namespace_bytes s.now) (namespace_bytes t.now)).1 h
equal_parts (parts.NsBut s) (parts.NsBut t) e =
    let h : namespace_bytes s.now ≡ namespace_bytes t.now = cc in
    (bytes_eq-Decides (namespace_bytes s.now) (namespace_bytes t.now)).1 h
equal_parts (parts.Name u s) (parts.Name v t) e =
    let g : namespace_bytes u.now ≡ namespace_bytes v.now = cc in
    let h : s.now ≡ t.now = cc in
    and_from (bytes_eq (namespace_bytes u.now) (namespace_bytes v.now)) (bytes_eq s.now t.now)
    ((bytes_eq-Decides (namespace_bytes u.now) (namespace_bytes v.now)).1 g) ((bytes_eq-Decides s.now t.now).1 h)
equal_parts parts.Either parts.Either e = refl
equal_parts p q e = cc

abbrev Code : Type 0
Code = Vec LabelPart Global

abbrev code_of : Code → List Part
code_of c = map part_of c.items

abbrev code_eq : Code → Code → Bool
code_eq c d = pointwise same.ghosts.eq c.items d.items

same_lists : (ps qs : List LabelPart) → pointwise same.ghosts.eq ps qs ≡ true → map part_of ps ≡ map part_of qs
same_lists [] [] e = refl
same_lists [] (q ∷ qs) e = absurd (true≢false (sym e))
same_lists (p ∷ ps) [] e = absurd (true≢false (sym e))
same_lists (p ∷ ps) (q ∷ qs) e =
    let both = and_parts (same.ghosts.eq p q) (pointwise same.ghosts.eq ps qs) e in
    ap₂ (λ x xs. x ∷ xs) (same_part p q both.0) (same_lists ps qs both.1)

equal_lists : (ps qs : List LabelPart) → map part_of ps ≡ map part_of qs → pointwise same.ghosts.eq ps qs ≡ true
equal_lists [] [] e = refl
equal_lists [] (q ∷ qs) e = cc
equal_lists (p ∷ ps) [] e = cc
equal_lists (p ∷ ps) (q ∷ qs) e =
    let g : part_of p ≡ part_of q = cc in
    let h : map part_of ps ≡ map part_of qs = cc in
    and_from (same.ghosts.eq p q) (pointwise same.ghosts.eq ps qs) (equal_parts p q g) (equal_lists ps qs h)

-- ---- codes in a set

nothing_there : (c : Code) (ks : List Code) → AllByRecursion (λ k. code_eq c k ≡ false) ks → (i : ℕ) → slice_get (map code_of ks) i ≡ Some (code_of c) → ⊥
nothing_there c [] h i e = cc
nothing_there c (k ∷ ks) h zero e = true≢false (sym (equal_lists c.items k.items (sym (same_Some _ _ e))) ∙ h.0)
nothing_there c (k ∷ ks) h (suc i) e = nothing_there c ks h.1 i e

pub codes_apart : (ks : List Code) → IsDistinct code_eq ks → AreCodesApart (map code_of ks)
unfolding IsDistinct
codes_apart [] d i j c e f = cc
codes_apart (k ∷ ks) d zero zero c e f = refl
codes_apart (k ∷ ks) d zero (suc j) c e f = absurd (nothing_there k ks d.0 j (f ∙ sym e))
codes_apart (k ∷ ks) d (suc i) zero c e f = absurd (nothing_there k ks d.0 i (e ∙ sym f))
codes_apart (k ∷ ks) d (suc i) (suc j) c e f = ap suc (codes_apart ks d.1 i j c e f)

pub put_last : (ks : List Code) (c : Code) → true ≡ not (list_any (code_eq c) ks) → map code_of (insert_key code_eq ks c) ≡ map code_of ks ++ code_of c ∷ []
put_last ks c e = by_test (list_any (code_eq c) ks) e
  where
    by_test : (b : Bool) → true ≡ not b → map code_of (if b then ks else ks ++ c ∷ []) ≡ map code_of ks ++ code_of c ∷ []
    by_test true e = absurd (true≢false e)
    by_test false e = map-append code_of ks (c ∷ [])

pub not_put : (ks : List Code) (c : Code) → false ≡ not (list_any (code_eq c) ks) → insert_key code_eq ks c ≡ ks
not_put ks c e = by_test (list_any (code_eq c) ks) e
  where
    by_test : (b : Bool) → false ≡ not b → (if b then ks else ks ++ c ∷ []) ≡ ks
    by_test true e = refl
    by_test false e = absurd (true≢false (sym e))

pub code_at : (ks : List Code) (c k : Code) (n : ℕ) → slice_get ks n ≡ Some k → code_eq c k ≡ true → slice_get (map code_of ks) n ≡ Some (code_of c)
code_at [] c k n e f = cc
code_at (x ∷ ks) c k zero e f = ap Some (ap code_of (same_Some _ _ e) ∙ sym (same_lists c.items k.items f))
code_at (x ∷ ks) c k (suc n) e f = code_at ks c k n e f

-- ---- codes of name classes

-- the classes in twos with these parts, before those that are read already, the last first
read : List Part → List NameClass → List NameClass
read [] st = st
read (any ∷ ps) st = read ps (any_name ∷ st)
read (any_but ∷ ps) (c ∷ st) = read ps (any_except c ∷ st)
read (ns u ∷ ps) st = read ps (ns_name u ∷ st)
read (ns_but u ∷ ps) (c ∷ st) = read ps (ns_except u c ∷ st)
read (name u s ∷ ps) st = read ps (name_is (record { ns = u; local = s }) ∷ st)
read (either ∷ ps) (d ∷ (c ∷ st)) = read ps (one_of c d no_classes ∷ st)
read (number n ∷ ps) st = []
read (text s ∷ ps) st = []
read (any_but ∷ ps) [] = []
read (ns_but u ∷ ps) [] = []
read (either ∷ ps) [] = []
read (either ∷ ps) (d ∷ []) = []

code_read : (c : NameClass) (rest : List Part) (st : List NameClass) → IsInTwos c → read (class_code c rest) st ≡ read rest (c ∷ st)
unfolding class_code more_code read
code_read any_name rest st h = refl
code_read (any_except c) rest st h = code_read c (any_but ∷ rest) st h
code_read (ns_name u) rest st h = refl
code_read (ns_except u c) rest st h = code_read c (ns_but u ∷ rest) st h
code_read (name_is n) rest st h = refl
code_read (one_of c d no_classes) rest st h = code_read c (class_code d (either ∷ rest)) st h.0 ∙ code_read d (either ∷ rest) (c ∷ st) h.1
code_read (one_of c d (class_and e cs)) rest st h = absurd h

-- two classes in twos with the same code are equal
pub same_classes : (c d : NameClass) → IsInTwos c → IsInTwos d → class_code c [] ≡ class_code d [] → c ≡ d
unfolding read
same_classes c d h i e = let f : c ∷ [] ≡ d ∷ [] = sym (code_read c [] [] h) ∙ ap (λ ps. read ps []) e ∙ code_read d [] [] i in cc

mutual
  unfolding class_code more_code

  code_then : (c : NameClass) (rest more : List Part) → class_code c rest ++ more ≡ class_code c (rest ++ more)
  code_then any_name rest more = refl
  code_then (any_except c) rest more = code_then c (any_but ∷ rest) more
  code_then (ns_name u) rest more = refl
  code_then (ns_except u c) rest more = code_then c (ns_but u ∷ rest) more
  code_then (name_is n) rest more = refl
  code_then (one_of c d cs) rest more =
      code_then c (class_code d (either ∷ more_code cs rest)) more
      ∙ ap (class_code c) (code_then d (either ∷ more_code cs rest) more ∙ ap (λ r. class_code d (either ∷ r)) (more_then cs rest more))

  more_then : (cs : NameClasses) (rest more : List Part) → more_code cs rest ++ more ≡ more_code cs (rest ++ more)
  more_then no_classes rest more = refl
  more_then (class_and c cs) rest more =
      code_then c (either ∷ more_code cs rest) more ∙ ap (λ r. class_code c (either ∷ r)) (more_then cs rest more)

-- the parts of a class, followed by one more
pub put_after : (old mid new : List Part) (c : NameClass) (p : Part) → mid ≡ old ++ class_code c [] → new ≡ mid ++ p ∷ [] → new ≡ old ++ class_code c (p ∷ [])
put_after old mid new c p e f =
    f ∙ ap (λ ps. ps ++ p ∷ []) e ∙ append_assoc old (class_code c []) (p ∷ []) ∙ ap (λ ps. old ++ ps) (code_then c [] (p ∷ []))

-- ---- parts put one after another

pub put_part : (ps qs : List LabelPart) (p : LabelPart) → qs ≡ ps ++ p ∷ [] → map part_of qs ≡ map part_of ps ++ part_of p ∷ []
put_part ps qs p e = ap (map part_of) e ∙ map-append part_of ps (p ∷ [])

pub put_two : (old mid new : List Part) (p q : Part) → mid ≡ old ++ p ∷ [] → new ≡ mid ++ q ∷ [] → new ≡ old ++ p ∷ (q ∷ [])
put_two old mid new p q e f = f ∙ ap (λ ps. ps ++ q ∷ []) e ∙ append_assoc old (p ∷ []) (q ∷ [])

pub of_none : (old new : List Part) (cs : List declared.NameClass) → length cs < 1 → new ≡ old ++ any ∷ (any_but ∷ [])
    → new ≡ old ++ class_code (some_of (map class_of cs)) []
unfolding class_code
of_none old new [] n e = e
of_none old new (c ∷ cs) n e = absurd (omega arith)

any_except_of : (b : Box declared.NameClass Global) → class_of (classes.AnyExcept b) ≡ any_except (class_of b.value)
any_except_of b = search (rules, the_lemmas)

ns_except_of : (u : Namespace) (b : Box declared.NameClass Global) → class_of (classes.NsExcept u b) ≡ ns_except (namespace_bytes u) (class_of b.value)
ns_except_of u b = search (rules, the_lemmas)

pub any_except_code : (b : Box declared.NameClass Global) → class_code (class_of b.value) (any_but ∷ []) ≡ class_code (class_of (classes.AnyExcept b)) []
unfolding class_code
any_except_code b = ap (λ c. class_code c []) (sym (any_except_of b))

pub ns_except_code : (u : Namespace) (b : Box declared.NameClass Global)
    → class_code (class_of b.value) (ns_but (namespace_bytes u) ∷ []) ≡ class_code (class_of (classes.NsExcept u b)) []
unfolding class_code
ns_except_code u b = ap (λ c. class_code c []) (sym (ns_except_of u b))

-- a choice: its first member, followed by the others
first_code : (c : NameClass) (cs : List NameClass) → class_code (some_of (c ∷ cs)) [] ≡ class_code c (more_code (class_list cs) [])
unfolding class_code more_code
first_code c [] = refl
first_code c (d ∷ cs) = refl

pub starts : (old new : List Part) (c : NameClass) (cs : List NameClass) → new ≡ old ++ class_code c []
    → new ++ more_code (class_list cs) [] ≡ old ++ class_code (some_of (c ∷ cs)) []
starts old new c cs e =
    ap (λ ps. ps ++ more_code (class_list cs) []) e ∙ append_assoc old (class_code c []) (more_code (class_list cs) [])
    ∙ ap (λ ps. old ++ ps) (code_then c [] (more_code (class_list cs) []) ∙ sym (first_code c cs))

pub goes_on : (code mid new : List Part) (c : NameClass) (cs : List NameClass) → mid ≡ code ++ class_code c [] → new ≡ mid ++ either ∷ []
    → new ++ more_code (class_list cs) [] ≡ code ++ more_code (class_list (c ∷ cs)) []
unfolding more_code
goes_on code mid new c cs e f =
    let more = more_code (class_list cs) [] in
    ap (λ ps. ps ++ more) (put_after code mid new c either e f) ∙ append_assoc code (class_code c (either ∷ [])) more
    ∙ ap (λ ps. code ++ ps) (code_then c (either ∷ []) more)

pub ends : (new : List Part) → new ++ more_code (class_list []) [] ≡ new
unfolding more_code
ends new = append-nil new

-- ---- parameters

pub parameter_goes_on : (code mid new : List Part) (p : List ℕ × List ℕ) (ps : List (List ℕ × List ℕ)) → mid ≡ code ++ text p.0 ∷ []
    → new ≡ mid ++ text p.1 ∷ [] → new ++ parameters_code ps ≡ code ++ parameters_code (p ∷ ps)
unfolding parameters_code
parameter_goes_on code mid new p ps e f =
    ap (λ xs. xs ++ parameters_code ps) (f ∙ ap (λ xs. xs ++ text p.1 ∷ []) e) ∙ append_assoc (code ++ text p.0 ∷ []) (text p.1 ∷ []) (parameters_code ps)
    ∙ append_assoc code (text p.0 ∷ []) (text p.1 ∷ parameters_code ps)

pub parameters_end : (new : List Part) → new ++ parameters_code [] ≡ new
unfolding parameters_code
parameters_end new = append-nil new

-- datatypes have the same code exactly if they are equal
same_parameters : (ps qs : List (List ℕ × List ℕ)) → parameters_code ps ≡ parameters_code qs → ps ≡ qs
unfolding parameters_code
same_parameters [] [] e = refl
same_parameters [] (q ∷ qs) e = cc
same_parameters (p ∷ ps) [] e = cc
same_parameters (p ∷ ps) (q ∷ qs) e =
    let f : p.0 ≡ q.0 = cc in
    let g : p.1 ≡ q.1 = cc in
    let h : parameters_code ps ≡ parameters_code qs = cc in
    ap₂ (λ x xs. x ∷ xs) (ap₂ (λ a b. (a, b)) f g) (same_parameters ps qs h)

pub same_datatypes : (d e : Datatype) → datatype_code d ≡ datatype_code e → d ≡ e
same_datatypes d e f =
    let g : d.library ≡ e.library = cc in
    let h : d.name ≡ e.name = cc in
    let i : parameters_code d.parameters ≡ parameters_code e.parameters = cc in
    let j = same_parameters d.parameters e.parameters i in
    rw (g, h, j) refl

pub same_values : (v w : Datatype × List ℕ) → value_code v ≡ value_code w → (v.0.library ≡ w.0.library) × (v.0.name ≡ w.0.name) × (v.1 ≡ w.1)
same_values v w e =
    let f : v.0.library ≡ w.0.library = cc in
    let g : v.0.name ≡ w.0.name = cc in
    let h : v.1 ≡ w.1 = cc in
    (f, g, h)

-- a value of a datatype without parameters
pub same_value : (v : Datatype × List ℕ) (library label w : List ℕ) → v.0.parameters ≡ [] → value_code v ≡ value_code (without_parameters library label, w)
    → v ≡ (without_parameters library label, w)
same_value v library label w n e =
    let s = same_values v (without_parameters library label, w) e in
    let d : v.0 ≡ without_parameters library label = rw (s.0, s.1, n) refl in
    ap₂ (λ a b. (a, b)) d s.2
