-- Codes distinguish patterns, if numbers distinguish their parts.
use Rattle.std.proofs.Common.{◌≡◌, ◌↔◌, refl, ap, ap₂, ℕ, ◌<◌, List, [], string_bytes, arith}
use Rattle.rng_labels.specs.plain.LabelCodes.{class_code, datatype_code, value_code}
use Rattle.rng_labels.proofs.LabelCodes.{same_classes, same_datatypes, same_values}
use Rattle.rng_labels.proofs.PairedClasses.{paired_is}
use Rattle.rng_model.specs.names.NameViews.{class_of}
use Rattle.rng_model.specs.datatypes.DatatypeViews.{datatype_of}
use Rattle.rng_model.specs.schema.Patterns.{without_parameters}
use Rattle.rng_model.specs.simple.Tree as tree
use Rattle.rng_model.specs.simple.Tree.{choice, group, interleave}
use Rattle.rng_model.specs.simple.Table.{tree_over}
use Rattle.rng_model.specs.simple.TableRules.{AreChildrenBelow, IsClassPaired}
use Rattle.rng_model.specs.declared.simple.PatternId.{PatternId}
use Rattle.rng_model.specs.declared.simple.Simple.{Simple}
use Rattle.rng_model.specs.declared.simple.Simple.TheVariants as simple
use Rattle.rnc_print.specs.plain.PatternCodes.{coded, numbers_of, pattern_code}

-- the code of a pattern reads only the numbers of its parts
pub code_below : (f g : PatternId → ℕ) (n : ℕ) (p : Simple) → AreChildrenBelow n p → ((id : PatternId) → id.0 < n → f id ≡ g id)
    → pattern_code f p ≡ pattern_code g p
code_below f g n simple.NotAllowed h same = refl
code_below f g n simple.Empty h same = refl
code_below f g n simple.Text h same = refl
code_below f g n (simple.Element e) h same = refl
code_below f g n (simple.Attribute c a) h same = ap (λ k. coded (4, k, 0) (class_code (class_of c.value) [])) (same a h)
code_below f g n (simple.List a) h same = ap (λ k. coded (5, k, 0) []) (same a h)
code_below f g n (simple.Data d) h same = refl
code_below f g n (simple.DataExcept d a) h same = ap (λ k. coded (7, k, 0) (datatype_code (datatype_of d.value))) (same a h)
code_below f g n (simple.Value v) h same = refl
code_below f g n (simple.OneOrMore a) h same = ap (λ k. coded (9, k, 0) []) (same a h)
code_below f g n (simple.Group a b) h same = ap₂ (λ k l. coded (10, k, l) []) (same a h.0) (same b h.1)
code_below f g n (simple.Interleave a b) h same = ap₂ (λ k l. coded (11, k, l) []) (same a h.0) (same b h.1)
code_below f g n (simple.Choice a b) h same = ap₂ (λ k l. coded (12, k, l) []) (same a h.0) (same b h.1)

module _ (of : PatternId → tree.Simple ℕ) (f : PatternId → ℕ) where
  -- among those below these two bounds, numbers are the same exactly if trees are
  abbrev pub AreAlike : ℕ → ℕ → Type 0
  AreAlike m n = (a b : PatternId) → a.0 < m → b.0 < n → (f a ≡ f b) ↔ (of a ≡ of b)

  pub same_trees : (m n : ℕ) (p q : Simple) → AreChildrenBelow m p → AreChildrenBelow n q → IsClassPaired p → IsClassPaired q → AreAlike m n
      → pattern_code f p ≡ pattern_code f q → tree_over of p ≡ tree_over of q
  same_trees m n simple.NotAllowed simple.NotAllowed x y u v t e = refl
  same_trees m n simple.Empty simple.Empty x y u v t e = refl
  same_trees m n simple.Text simple.Text x y u v t e = refl
  same_trees m n (simple.Element k) (simple.Element l) x y u v t e = let h : k.0 ≡ l.0 = cc in ap (λ (i : ℕ). tree.s_leaf i) h
  same_trees m n (simple.Attribute c a) (simple.Attribute d b) x y u v t e =
      let h : f a ≡ f b = cc in
      let i : class_code (class_of c.value) [] ≡ class_code (class_of d.value) [] = cc in
      ap₂ tree.s_attribute (same_classes (class_of c.value) (class_of d.value) (paired_is c.value u) (paired_is d.value v) i) ((t a b x y).0 h)
  same_trees m n (simple.List a) (simple.List b) x y u v t e = let h : f a ≡ f b = cc in ap tree.s_list ((t a b x y).0 h)
  same_trees m n (simple.Data c) (simple.Data d) x y u v t e =
      let i : datatype_code (datatype_of c.value) ≡ datatype_code (datatype_of d.value) = cc in
      ap tree.s_data (same_datatypes (datatype_of c.value) (datatype_of d.value) i)
  same_trees m n (simple.DataExcept c a) (simple.DataExcept d b) x y u v t e =
      let h : f a ≡ f b = cc in
      let i : datatype_code (datatype_of c.value) ≡ datatype_code (datatype_of d.value) = cc in
      ap₂ tree.s_data_except (same_datatypes (datatype_of c.value) (datatype_of d.value) i) ((t a b x y).0 h)
  same_trees m n (simple.Value v) (simple.Value w) x y u z t e =
      let old : tree.Datatype × List ℕ = (without_parameters (string_bytes v.value.library) (string_bytes v.value.name), string_bytes v.value.text) in
      let new : tree.Datatype × List ℕ = (without_parameters (string_bytes w.value.library) (string_bytes w.value.name), string_bytes w.value.text) in
      let i : value_code old ≡ value_code new = cc in
      let s = same_values old new i in
      ap₂ tree.s_value (ap₂ without_parameters s.0 s.1) s.2
  same_trees m n (simple.OneOrMore a) (simple.OneOrMore b) x y u v t e = let h : f a ≡ f b = cc in ap tree.s_one_or_more ((t a b x y).0 h)
  same_trees m n (simple.Group a c) (simple.Group b d) x y u v t e =
      let h : f a ≡ f b = cc in
      let i : f c ≡ f d = cc in
      ap₂ (tree.s_joined group) ((t a b x.0 y.0).0 h) ((t c d x.1 y.1).0 i)
  same_trees m n (simple.Interleave a c) (simple.Interleave b d) x y u v t e =
      let h : f a ≡ f b = cc in
      let i : f c ≡ f d = cc in
      ap₂ (tree.s_joined interleave) ((t a b x.0 y.0).0 h) ((t c d x.1 y.1).0 i)
  same_trees m n (simple.Choice a c) (simple.Choice b d) x y u v t e =
      let h : f a ≡ f b = cc in
      let i : f c ≡ f d = cc in
      ap₂ (tree.s_joined choice) ((t a b x.0 y.0).0 h) ((t c d x.1 y.1).0 i)
  same_trees m n p q x y u v t e = let k : (numbers_of f p).0 ≡ (numbers_of f q).0 = cc in absurd (omega (arith, k))

  pub same_codes : (m n : ℕ) (p q : Simple) → AreChildrenBelow m p → AreChildrenBelow n q → AreAlike m n → tree_over of p ≡ tree_over of q
      → pattern_code f p ≡ pattern_code f q
  same_codes m n simple.NotAllowed simple.NotAllowed x y t e = refl
  same_codes m n simple.Empty simple.Empty x y t e = refl
  same_codes m n simple.Text simple.Text x y t e = refl
  same_codes m n (simple.Element k) (simple.Element l) x y t e = let h : k.0 ≡ l.0 = cc in ap (λ i. coded (3, i, 0) []) h
  same_codes m n (simple.Attribute c a) (simple.Attribute d b) x y t e =
      let h : of a ≡ of b = cc in
      let i : class_of c.value ≡ class_of d.value = cc in
      ap₂ (λ k s. coded (4, k, 0) (class_code s [])) ((t a b x y).1 h) i
  same_codes m n (simple.List a) (simple.List b) x y t e = let h : of a ≡ of b = cc in ap (λ k. coded (5, k, 0) []) ((t a b x y).1 h)
  same_codes m n (simple.Data c) (simple.Data d) x y t e =
      let i : datatype_of c.value ≡ datatype_of d.value = cc in ap (λ s. coded (6, 0, 0) (datatype_code s)) i
  same_codes m n (simple.DataExcept c a) (simple.DataExcept d b) x y t e =
      let h : of a ≡ of b = cc in
      let i : datatype_of c.value ≡ datatype_of d.value = cc in
      ap₂ (λ k s. coded (7, k, 0) (datatype_code s)) ((t a b x y).1 h) i
  same_codes m n (simple.Value v) (simple.Value w) x y t e =
      let i : without_parameters (string_bytes v.value.library) (string_bytes v.value.name)
      ≡ without_parameters (string_bytes w.value.library) (string_bytes w.value.name) = cc in
      let j : string_bytes v.value.text ≡ string_bytes w.value.text = cc in
      ap₂ (λ d s. coded (8, 0, 0) (value_code (d, s))) i j
  same_codes m n (simple.OneOrMore a) (simple.OneOrMore b) x y t e = let h : of a ≡ of b = cc in ap (λ k. coded (9, k, 0) []) ((t a b x y).1 h)
  same_codes m n (simple.Group a c) (simple.Group b d) x y t e =
      let h : of a ≡ of b = cc in
      let i : of c ≡ of d = cc in
      ap₂ (λ k l. coded (10, k, l) []) ((t a b x.0 y.0).1 h) ((t c d x.1 y.1).1 i)
  same_codes m n (simple.Interleave a c) (simple.Interleave b d) x y t e =
      let h : of a ≡ of b = cc in
      let i : of c ≡ of d = cc in
      ap₂ (λ k l. coded (11, k, l) []) ((t a b x.0 y.0).1 h) ((t c d x.1 y.1).1 i)
  same_codes m n (simple.Choice a c) (simple.Choice b d) x y t e =
      let h : of a ≡ of b = cc in
      let i : of c ≡ of d = cc in
      ap₂ (λ k l. coded (12, k, l) []) ((t a b x.0 y.0).1 h) ((t c d x.1 y.1).1 i)
  same_codes m n p q x y t e = cc
