-- What is written of a name class, and what is still to be written.
use Rattle.std.proofs.Common.{◌≡◌, ◌∙◌, ℕ, ◌+◌, rules, false, true, true≢false, List, [], ◌∷◌, ◌++◌, flat_map, length, map, refl, sym, ap, append_assoc, codes, Vec, Box, Global}
use Rattle.std.proofs.lemmas.Bool.{eqb-true}
use Rattle.std.proofs.lemmas.Grind.{flat_map-append}
use Rattle.std.proofs.lemmas.List.{append-nil, nil_from_length}
use Rattle.std.proofs.lemmas.List.Folds.{flat_map-map}
use Rattle.std.proofs.lemmas.List.Sums.{fold-append, sum_by-cons}
use Rattle.std.specs.Prelude.{◌==◌}
use Rattle.rng_model.specs.names.Names as names
use Rattle.rng_model.specs.names.Names.{class_list, some_of}
use Rattle.rng_model.specs.names.NameViews.{class_of, name_of, namespace_bytes}
use Rattle.rng_model.specs.declared.name.Name.{Name}
use Rattle.rng_model.specs.declared.name.NameClass.{NameClass, Choice, the_lemmas}
use Rattle.rng_model.specs.declared.name.NameClass.TheVariants as classes
use Rattle.rng_model.specs.declared.namespace.Namespace.{Namespace}
use Rattle.expected_text.specs.ExpectationText.{class_texts, except_text, member_texts}
use Rattle.expected_text.specs.plain.Parts.{back, class_weight, front, left_text, left_weight, members_weight, part_text, part_weight, placed, text_at}
use Rattle.expected_text.specs.declared.parts.Part.{Part}
use Rattle.expected_text.specs.declared.parts.Place.{Place}
use Rattle.expected_text.specs.declared.parts.Place.TheVariants as places

-- ---- what is still to be written

text_put : (ps : List Part) (p : Part) → left_text (ps ++ p ∷ []) ≡ part_text p ++ left_text ps
unfolding left_text
text_put ps p = fold-append (λ w q. part_text q ++ w) [] ps (p ∷ [])

pub weight_put : (ps qs : List Part) (p : Part) → qs ≡ ps ++ p ∷ [] → left_weight qs ≡ left_weight ps + part_weight p
unfolding left_weight
weight_put ps qs p e = ap left_weight e ∙ fold-append (λ n q. n + part_weight q) 0 ps (p ∷ [])

-- one part more, two, and three
pub one_put : (ps qs : List Part) (p : Part) → qs ≡ ps ++ p ∷ [] → left_text qs ≡ part_text p ++ left_text ps
one_put ps qs p e = ap left_text e ∙ text_put ps p

pub two_put : (ps qs rs : List Part) (p q : Part) → qs ≡ ps ++ p ∷ [] → rs ≡ qs ++ q ∷ [] → left_text rs ≡ part_text q ++ (part_text p ++ left_text ps)
two_put ps qs rs p q e f = one_put qs rs q f ∙ ap (λ w. part_text q ++ w) (one_put ps qs p e)

pub three_put : (ps qs rs ss : List Part) (p q r : Part) → qs ≡ ps ++ p ∷ [] → rs ≡ qs ++ q ∷ [] → ss ≡ rs ++ r ∷ []
    → left_text ss ≡ part_text r ++ (part_text q ++ (part_text p ++ left_text ps))
three_put ps qs rs ss p q r e f g = one_put rs ss r g ∙ ap (λ w. part_text r ++ w) (two_put ps qs rs p q e f)

pub first_put : (none ps : List Part) (p : Part) → none ≡ [] → ps ≡ none ++ p ∷ [] → left_text ps ≡ part_text p
unfolding left_text
first_put none ps p e f = one_put none ps p f ∙ ap (λ qs. part_text p ++ left_text qs) e ∙ append-nil (part_text p)

-- a part is written, or what it has is put in its place
pub one_written : (text new total : List ℕ) (left popped later : List Part) (p : Part) → left ≡ popped ++ p ∷ []
    → new ++ left_text later ≡ text ++ (part_text p ++ left_text popped) → text ++ left_text left ≡ total → new ++ left_text later ≡ total
one_written text new total left popped later p e written all = written ∙ ap (λ w. text ++ w) (sym (one_put popped left p e)) ∙ all

pub all_written : (text total : List ℕ) (left : List Part) → length left ≡ 0 → text ++ left_text left ≡ total → text ≡ total
unfolding left_text
all_written text total left none all = sym (append-nil text) ∙ ap (λ ps. text ++ left_text ps) (sym (nil_from_length left none)) ∙ all

-- ---- classes

-- a class that is written whole
pub whole : (p : Place) (old mid new w left : List ℕ) → mid ≡ old ++ (front p ++ w) → new ≡ mid ++ back p
    → new ++ left ≡ old ++ (flat_map (placed p) (w ∷ []) ++ left)
whole p old mid new w left e f = rw (f, e) (simp (append_assoc, append-nil) refl)

-- a class with an except, of which all is left that is in parentheses
pub begun : (p : Place) (old mid new w left after : List ℕ) (c : names.NameClass) → mid ≡ old ++ (front p ++ w)
    → new ++ after ≡ mid ++ (codes " except ( " ++ (text_at places.Except c ++ (codes ")" ++ (back p ++ left))))
    → new ++ after ≡ old ++ (flat_map (placed p) (except_text w (class_texts c) ∷ []) ++ left)
begun p old mid new w left after c e f = f ∙ rw e (simp (append_assoc, append-nil) refl)

-- ---- views of classes

pub ns_is : (class : NameClass) (ns : Namespace) → class ≡ classes.Ns ns → names.ns_name (namespace_bytes ns) ≡ class_of class
ns_is class ns e = let is : class_of (classes.Ns ns) ≡ names.ns_name (namespace_bytes ns) = search (rules, the_lemmas) in sym is ∙ ap class_of (sym e)

pub name_is : (class : NameClass) (name : Name) → class ≡ classes.Name name → names.name_is (name_of name) ≡ class_of class
name_is class name e = let is : class_of (classes.Name name) ≡ names.name_is (name_of name) = search (rules, the_lemmas) in sym is ∙ ap class_of (sym e)

pub any_except_is : (class except : NameClass) (b : Box NameClass Global) → class ≡ classes.AnyExcept b → except ≡ b.value
    → names.any_except (class_of except) ≡ class_of class
any_except_is class except b e f =
    let is : class_of (classes.AnyExcept b) ≡ names.any_except (class_of b.value) = search (rules, the_lemmas) in
    ap (λ c. names.any_except (class_of c)) f ∙ sym is ∙ ap class_of (sym e)

pub ns_except_is : (class except : NameClass) (ns : Namespace) (b : Box NameClass Global) → class ≡ classes.NsExcept ns b → except ≡ b.value
    → names.ns_except (namespace_bytes ns) (class_of except) ≡ class_of class
ns_except_is class except ns b e f =
    let is : class_of (classes.NsExcept ns b) ≡ names.ns_except (namespace_bytes ns) (class_of b.value) = search (rules, the_lemmas) in
    ap (λ c. names.ns_except (namespace_bytes ns) (class_of c)) f ∙ sym is ∙ ap class_of (sym e)

-- ---- choices

members_are : (p : Place) (cs : List names.NameClass) → flat_map (placed p) (member_texts (class_list cs)) ≡ flat_map (text_at p) cs
members_are p [] = refl
members_are p (c ∷ cs) =
    flat_map-append (placed p) (class_texts c) (member_texts (class_list cs)) ∙ ap (λ w. text_at p c ++ w) (members_are p cs)

some_are : (p : Place) (c : names.NameClass) (cs : List names.NameClass) → flat_map (text_at p) (c ∷ cs) ≡ text_at p (some_of (c ∷ cs))
some_are p c [] = append-nil (text_at p c)
some_are p c (d ∷ cs) =
    ap (λ w. text_at p c ++ (text_at p d ++ w)) (sym (members_are p cs))
    ∙ ap (λ w. text_at p c ++ w) (sym (flat_map-append (placed p) (class_texts d) (member_texts (class_list cs))))
    ∙ sym (flat_map-append (placed p) (class_texts c) (class_texts d ++ member_texts (class_list cs)))

-- the members of a choice, one by one
pub choice_texts : (p : Place) (cs : List NameClass) → (length cs == 0) ≡ false
    → flat_map (λ c. text_at p (class_of c)) cs ≡ text_at p (some_of (map class_of cs))
choice_texts p [] e = absurd (true≢false e)
choice_texts p (c ∷ cs) e = sym (flat_map-map (text_at p) class_of (c ∷ cs)) ∙ some_are p (class_of c) (map class_of cs)

-- a choice of none
pub none_written : (p : Place) (old begun mid new left : List ℕ) (cs : List NameClass) → (length cs == 0) ≡ true
    → begun ≡ old ++ (front p ++ codes "*") → mid ≡ begun ++ codes " except ( * )" → new ≡ mid ++ back p
    → new ++ left ≡ old ++ (text_at p (some_of (map class_of cs)) ++ left)
none_written p old begun mid new left cs none e f g =
    let more : mid ≡ old ++ (front p ++ codes "* except ( * )") = f ∙ ap (λ w. w ++ codes " except ( * )") e
    ∙ append_assoc old (front p ++ codes "*") (codes " except ( * )") ∙ ap (λ w. old ++ w) (append_assoc (front p) (codes "*") (codes " except ( * )")) in
    whole p old mid new (codes "* except ( * )") left more g
    ∙ ap (λ cs. old ++ (text_at p (some_of (map class_of cs)) ++ left)) (sym (nil_from_length cs (eqb-true _ 0 none)))

pub choice_weight : (class : NameClass) (members : Vec NameClass Global) (xs : List NameClass) → class ≡ Choice members → xs ≡ members.items
    → class_weight class ≡ members_weight (map class_weight xs) + 2
choice_weight class members xs e items = ap class_weight e ∙ search (rules, the_lemmas, items)

pub first_weight : (c : NameClass) (cs : List NameClass)
    → members_weight (map class_weight (c ∷ cs)) ≡ class_weight c + 1 + members_weight (map class_weight cs)
first_weight c cs = sum_by-cons (λ n. n + 1) (class_weight c) (map class_weight cs)
