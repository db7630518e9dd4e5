-- The tests of `Same` are exact.
use Rattle.std.proofs.Common.{◌≡◌, ◌∙◌, ℕ, true, false, List, [], ◌∷◌, refl, sym, ap, subst}
use Rattle.std.specs.Prelude.{◌&&◌, ◌==◌}
use Rattle.std.specs.Str.{bytes_eq}
use Rattle.std.proofs.lemmas.Bool.{and_parts, eqb-true, eq-eqb, and_from}
use Rattle.rng_model.proofs.Texts.{bytes_same, bytes_itself, bytes_differ}
use Rattle.rng_model.specs.names.Names.{Name, NameClass, any_name, any_except, ns_name, ns_except, name_is, one_of, NameClasses, no_classes, class_and}
use Rattle.rng_model.specs.simple.Tree.{Datatype, Connector, choice, group, interleave, Simple, s_not_allowed, s_empty, s_text, s_leaf, s_attribute, s_list}
use Rattle.rng_model.specs.simple.Tree.{s_data}
use Rattle.rng_model.specs.simple.Tree.{s_data_except, s_value, s_one_or_more, s_joined}
use Rattle.rncv_model.specs.printed.Items.{same_expanded_name, same_class, same_classes, same_parameters, same_datatype, same_connector, same_tree, PrintedItem}
use Rattle.rncv_model.specs.printed.Items.{element, pattern, same_item}
use Rattle.rnc_print.proofs.FailedTests.{false_true}

pub number_itself : (n : ℕ) → (n == n) ≡ true
number_itself n = eq-eqb n n refl

pub bytes_other_way : (v w : List ℕ) → bytes_eq v w ≡ false → bytes_eq w v ≡ false
bytes_other_way v w e = bytes_differ w v (λ h. false_true (sym e ∙ subst (λ (x : List ℕ). bytes_eq v x ≡ true) (sym h) (bytes_itself v)))

name_itself : (n : Name) → same_expanded_name n n ≡ true
name_itself n = and_from (bytes_eq n.ns n.ns) _ (bytes_itself n.ns) (bytes_itself n.local)

name_exact : (n m : Name) → same_expanded_name n m ≡ true → n ≡ m
name_exact n m e =
    let p = and_parts (bytes_eq n.ns m.ns) (bytes_eq n.local m.local) e in
    let a = bytes_same n.ns m.ns p.0 in
    let b = bytes_same n.local m.local p.1 in
    ap (λ (x : List ℕ). record { ns = x; local = n.local }) a ∙ ap (λ (x : List ℕ). record { ns = m.ns; local = x }) b

mutual
  class_itself : (c : NameClass) → same_class c c ≡ true
  class_itself any_name = refl
  class_itself (any_except c) = class_itself c
  class_itself (ns_name u) = bytes_itself u
  class_itself (ns_except u c) = and_from (bytes_eq u u) (same_class c c) (bytes_itself u) (class_itself c)
  class_itself (name_is n) = name_itself n
  class_itself (one_of c d cs) =
      and_from (same_class c c) _ (class_itself c) (and_from (same_class d d) (same_classes cs cs) (class_itself d) (classes_itself cs))

  classes_itself : (cs : NameClasses) → same_classes cs cs ≡ true
  classes_itself no_classes = refl
  classes_itself (class_and c cs) = and_from (same_class c c) (same_classes cs cs) (class_itself c) (classes_itself cs)

mutual
  class_exact : (c d : NameClass) → same_class c d ≡ true → c ≡ d
  class_exact any_name any_name e = refl
  class_exact (any_except c) (any_except d) e = ap any_except (class_exact c d e)
  class_exact (ns_name u) (ns_name v) e = ap ns_name (bytes_same u v e)
  class_exact (ns_except u c) (ns_except v d) e =
      let p = and_parts (bytes_eq u v) (same_class c d) e in
      let a = bytes_same u v p.0 in
      let b = class_exact c d p.1 in
      cc
  class_exact (name_is n) (name_is m) e = ap name_is (name_exact n m e)
  class_exact (one_of a b cs) (one_of c d ds) e =
      let p = and_parts (same_class a c) (same_class b d && same_classes cs ds) e in
      let q = and_parts (same_class b d) (same_classes cs ds) p.1 in
      let x = class_exact a c p.0 in
      let y = class_exact b d q.0 in
      let z = classes_exact cs ds q.1 in
      cc
  class_exact _ _ e = absurd (false_true e)

  classes_exact : (cs ds : NameClasses) → same_classes cs ds ≡ true → cs ≡ ds
  classes_exact no_classes no_classes e = refl
  classes_exact (class_and c cs) (class_and d ds) e =
      let p = and_parts (same_class c d) (same_classes cs ds) e in
      let a = class_exact c d p.0 in
      let b = classes_exact cs ds p.1 in
      cc
  classes_exact _ _ e = absurd (false_true e)

parameters_itself : (ps : List (List ℕ × List ℕ)) → same_parameters ps ps ≡ true
parameters_itself [] = refl
parameters_itself (p ∷ ps) =
    and_from (bytes_eq p.0 p.0 && bytes_eq p.1 p.1) _ (and_from (bytes_eq p.0 p.0) _ (bytes_itself p.0) (bytes_itself p.1)) (parameters_itself ps)

parameters_exact : (ps qs : List (List ℕ × List ℕ)) → same_parameters ps qs ≡ true → ps ≡ qs
parameters_exact [] [] e = refl
parameters_exact [] (q ∷ qs) e = absurd (false_true e)
parameters_exact (p ∷ ps) [] e = absurd (false_true e)
parameters_exact (p ∷ ps) (q ∷ qs) e =
    let r = and_parts (bytes_eq p.0 q.0 && bytes_eq p.1 q.1) (same_parameters ps qs) e in
    let s = and_parts (bytes_eq p.0 q.0) (bytes_eq p.1 q.1) r.0 in
    let a = bytes_same p.0 q.0 s.0 in
    let b = bytes_same p.1 q.1 s.1 in
    let c = parameters_exact ps qs r.1 in
    ap (λ (x : List ℕ). (x, p.1) ∷ ps) a ∙ ap (λ (x : List ℕ). (q.0, x) ∷ ps) b ∙ ap (λ (x : List (List ℕ × List ℕ)). q ∷ x) c

datatype_itself : (d : Datatype) → same_datatype d d ≡ true
datatype_itself d =
    and_from (bytes_eq d.library d.library) _ (bytes_itself d.library)
    (and_from (bytes_eq d.name d.name) _ (bytes_itself d.name) (parameters_itself d.parameters))

datatype_exact : (d e : Datatype) → same_datatype d e ≡ true → d ≡ e
datatype_exact d e h =
    let p = and_parts (bytes_eq d.library e.library) (bytes_eq d.name e.name && same_parameters d.parameters e.parameters) h in
    let q = and_parts (bytes_eq d.name e.name) (same_parameters d.parameters e.parameters) p.1 in
    let a = bytes_same d.library e.library p.0 in
    let b = bytes_same d.name e.name q.0 in
    let c = parameters_exact d.parameters e.parameters q.1 in
    ap (λ (x : List ℕ). record { library = x; name = d.name; parameters = d.parameters }) a
    ∙ ap (λ (x : List ℕ). record { library = e.library; name = x; parameters = d.parameters }) b
    ∙ ap (λ (x : List (List ℕ × List ℕ)). record { library = e.library; name = e.name; parameters = x }) c

connector_itself : (k : Connector) → same_connector k k ≡ true
connector_itself choice = refl
connector_itself group = refl
connector_itself interleave = refl

connector_exact : (k l : Connector) → same_connector k l ≡ true → k ≡ l
connector_exact choice choice e = refl
connector_exact group group e = refl
connector_exact interleave interleave e = refl
connector_exact _ _ e = absurd (false_true e)

pub tree_itself : (s : Simple ℕ) → same_tree s s ≡ true
tree_itself s_not_allowed = refl
tree_itself s_empty = refl
tree_itself s_text = refl
tree_itself (s_leaf k) = number_itself k
tree_itself (s_attribute c a) = and_from (same_class c c) (same_tree a a) (class_itself c) (tree_itself a)
tree_itself (s_list a) = tree_itself a
tree_itself (s_data d) = datatype_itself d
tree_itself (s_data_except d a) = and_from (same_datatype d d) (same_tree a a) (datatype_itself d) (tree_itself a)
tree_itself (s_value d v) = and_from (same_datatype d d) (bytes_eq v v) (datatype_itself d) (bytes_itself v)
tree_itself (s_one_or_more a) = tree_itself a
tree_itself (s_joined k a b) = and_from (same_connector k k) _ (connector_itself k) (and_from (same_tree a a) (same_tree b b) (tree_itself a) (tree_itself b))

pub tree_exact : (s u : Simple ℕ) → same_tree s u ≡ true → s ≡ u
tree_exact s_not_allowed s_not_allowed e = refl
tree_exact s_empty s_empty e = refl
tree_exact s_text s_text e = refl
tree_exact (s_leaf k) (s_leaf l) e = ap (λ (x : ℕ). s_leaf x) (eqb-true k l e)
tree_exact (s_attribute c a) (s_attribute d b) e =
    let p = and_parts (same_class c d) (same_tree a b) e in
    let x = class_exact c d p.0 in
    let y = tree_exact a b p.1 in
    cc
tree_exact (s_list a) (s_list b) e = ap (λ (x : Simple ℕ). s_list x) (tree_exact a b e)
tree_exact (s_data d) (s_data f) e = ap (λ (x : Datatype). s_data x) (datatype_exact d f e)
tree_exact (s_data_except d a) (s_data_except f b) e =
    let p = and_parts (same_datatype d f) (same_tree a b) e in
    let x = datatype_exact d f p.0 in
    let y = tree_exact a b p.1 in
    cc
tree_exact (s_value d v) (s_value f w) e =
    let p = and_parts (same_datatype d f) (bytes_eq v w) e in
    let x = datatype_exact d f p.0 in
    let y = bytes_same v w p.1 in
    cc
tree_exact (s_one_or_more a) (s_one_or_more b) e = ap (λ (x : Simple ℕ). s_one_or_more x) (tree_exact a b e)
tree_exact (s_joined k a b) (s_joined l c d) e =
    let p = and_parts (same_connector k l) (same_tree a c && same_tree b d) e in
    let q = and_parts (same_tree a c) (same_tree b d) p.1 in
    let x = connector_exact k l p.0 in
    let y = tree_exact a c q.0 in
    let z = tree_exact b d q.1 in
    cc
tree_exact _ _ e = absurd (false_true e)

pub item_itself : (i : PrintedItem) → same_item i i ≡ true
item_itself (element k) = number_itself k
item_itself (pattern s) = tree_itself s

pub item_exact : (i j : PrintedItem) → same_item i j ≡ true → i ≡ j
item_exact (element k) (element l) e = ap element (eqb-true k l e)
item_exact (pattern s) (pattern u) e = ap pattern (tree_exact s u e)
item_exact (element k) (pattern s) e = absurd (false_true e)
item_exact (pattern s) (element k) e = absurd (false_true e)
