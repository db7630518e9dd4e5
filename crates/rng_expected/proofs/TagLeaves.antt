-- What the tag of an element may have, as it is found leaf by leaf.
use Rattle.std.proofs.Common.{◌≡◌, ◌∙◌, ◌⊎◌, inl, inr, ℕ, ◌+◌, ◌<◌, List, [], ◌∷◌, ◌++◌, length, All, take, get_or, true, refl, sym, ap, subst}
use Rattle.std.proofs.Common.{Contains, Some, None, slice_get, arith, ⊎_elim}
use Rattle.std.proofs.lemmas.List.{take_more}
use Rattle.std.proofs.lemmas.List.Elements.{All-append, All-cons, All-nil, Contains-append_cases, Contains-append_left, Contains-append_right, Contains-get_or}
use Rattle.std.proofs.lemmas.Option.{get_or_from_slice_get}
use Rattle.rng_model.proofs.Members.{one_only}
use Rattle.rng_model.specs.names.Names.{Name, NameClass, any_except, any_name}
use Rattle.rng_model.specs.simple.Table.{Table}
use Rattle.rng_model.specs.simple.Tree.{Simple, s_leaf, s_attribute}
use Rattle.rng_model.specs.declared.simple.ElementId.{ElementId}
use Rattle.rng_model.specs.declared.simple.PatternId.{PatternId}
use Rattle.rng_model.specs.declared.simple.Simple as row
use Rattle.rng_model.specs.declared.simple.Simple.TheVariants as simple
use Rattle.rng_deriv_table.specs.views.Node.{Node, node_of}
use Rattle.rng_deriv_table.specs.views.Node as node
use Rattle.rng_deriv_table.specs.views.PatternTable.{IsPatternTable}
use Rattle.rng_deriv_table.specs.views.Trees.{attribute_found, no_attribute, tree_of, tree_over}
use Rattle.rng_deriv_table.specs.declared.pattern.Pattern.{Pattern}
use Rattle.rng_deriv_table.specs.declared.pattern.Pattern.TheVariants as pattern
use Rattle.rng_deriv_table.specs.declared.pattern.PatternNumber.{PatternNumber}
use Rattle.rng_deriv_ways.proofs.PatternNodes.{IsStringLeaf, a_list, a_datatype, an_except, a_value, found_string, is_over}
use Rattle.rng_expected.specs.Tags.{HoldsNone}
use Rattle.rng_expected.specs.plain.Leaves.{IsLeafAt, is_leaf}
use Rattle.rng_expected.specs.plain.TagLeaves.{AreClassesOf, AreTold, HasContent, IsClass, IsClassOf, IsContentAt, IsNamed, IsOfClass, IsTold}
use Rattle.rng_expected.specs.declared.leaves.Standing.TheVariants as standings

-- ---- one leaf of the table

string_is_no_element : {p : Simple ℕ} (k : ℕ) → IsStringLeaf p → p ≡ s_leaf k → ⊥
string_is_no_element k a_list e = absurd cc
string_is_no_element k a_datatype e = absurd cc
string_is_no_element k an_except e = absurd cc
string_is_no_element k a_value e = absurd cc

module _ (t : Table) (ns : List Node) (n : PatternNumber) (p : Pattern) (table : IsPatternTable ns) (found : slice_get ns n.0 ≡ Some (node_of p)) where
  -- an element has its number
  pub element_number : (e : ElementId) → p ≡ pattern.Element e → (k : ℕ) → tree_of t ns n.0 ≡ s_leaf k → e.0 ≡ k
  element_number e is k there = let same : s_leaf e.0 ≡ s_leaf k = sym (is_over t ns n.0 p (pattern.Element e) table found is) ∙ there in cc

  pub element_tree : (e : ElementId) → p ≡ pattern.Element e → tree_of t ns n.0 ≡ s_leaf e.0
  element_tree e is = is_over t ns n.0 p (pattern.Element e) table found is

  -- a first leaf of another kind is no element
  pub no_element : IsLeafAt standings.First ns n → ((e : ElementId) → p ≡ pattern.Element e → ⊥) → (k : ℕ) → tree_of t ns n.0 ≡ s_leaf k → ⊥
  no_element leaf other k there =
      none p (sym (ap (is_leaf standings.First) (get_or_from_slice_get ns n.0 (node_of p) node.not_allowed found)) ∙ leaf.leaf) other
      (sym (is_over t ns n.0 p p table found refl) ∙ there)
    where
      none : (p : Pattern) → is_leaf standings.First (node_of p) ≡ true → ((e : ElementId) → p ≡ pattern.Element e → ⊥)
          → tree_over t (tree_of t ns) (node_of p) ≡ s_leaf k → ⊥
      none pattern.NotAllowed is other e = absurd cc
      none pattern.Empty is other e = absurd cc
      none pattern.Text is other e = absurd cc
      none (pattern.Choice ms) is other e = absurd cc
      none (pattern.Group a b) is other e = absurd cc
      none (pattern.Interleave a b) is other e = absurd cc
      none (pattern.OneOrMore a) is other e = absurd cc
      none (pattern.Element x) is other e = absurd (other x refl)
      none (pattern.Attribute a) is other e = absurd cc
      none (pattern.Data x) is other e = string_is_no_element k (found_string t (slice_get t.patterns x.0)) e

  -- an attribute is what the grammar has there
  pub attribute_tree : (a : PatternId) → p ≡ pattern.Attribute a → tree_of t ns n.0 ≡ attribute_found t (slice_get t.patterns a.0)
  attribute_tree a is = is_over t ns n.0 p (pattern.Attribute a) table found is

  -- a leaf in a tag is an attribute
  pub is_attribute : IsLeafAt standings.InTag ns n → ((a : PatternId) → p ≡ pattern.Attribute a → ⊥) → ⊥
  is_attribute leaf other =
      none p (sym (ap (is_leaf standings.InTag) (get_or_from_slice_get ns n.0 (node_of p) node.not_allowed found)) ∙ leaf.leaf) other
    where
      none : (p : Pattern) → is_leaf standings.InTag (node_of p) ≡ true → ((a : PatternId) → p ≡ pattern.Attribute a → ⊥) → ⊥
      none pattern.NotAllowed is other = absurd cc
      none pattern.Empty is other = absurd cc
      none pattern.Text is other = absurd cc
      none (pattern.Choice ms) is other = absurd cc
      none (pattern.Group a b) is other = absurd cc
      none (pattern.Interleave a b) is other = absurd cc
      none (pattern.OneOrMore a) is other = absurd cc
      none (pattern.Element x) is other = absurd cc
      none (pattern.Attribute a) is other = other a refl
      none (pattern.Data x) is other = absurd cc

-- no name is in the class of an attribute that the grammar does not have
pub no_name : (c : NameClass) (content : Simple ℕ) → no_attribute ≡ s_attribute c content → HoldsNone c
no_name c content e q = let same : any_except any_name ≡ c = cc in subst (λ (c : NameClass). ¬ (Rattle.rng_model.specs.names.Names.In c q)) same (λ h. h tt)

pub no_class_there : (t : Table) → IsClassOf (attribute_found t None) None
no_class_there t c has = no_name c has.0 has.1

-- a pattern that is no attribute gives an attribute without names
pub no_class_in : (t : Table) (p : row.Simple) → ((class : _) (body : _) → p ≡ simple.Attribute class body → ⊥) → IsClassOf (attribute_found t (Some p)) None
no_class_in t p other c has = no_name c has.0 (sym (none p other) ∙ has.1)
  where
    none : (p : row.Simple) → ((class : _) (body : _) → p ≡ simple.Attribute class body → ⊥) → attribute_found t (Some p) ≡ no_attribute
    none simple.NotAllowed other = refl
    none simple.Empty other = refl
    none simple.Text other = refl
    none (simple.Element e) other = refl
    none (simple.Attribute class body) other = absurd (other class body refl)
    none (simple.List body) other = refl
    none (simple.Data datatype) other = refl
    none (simple.DataExcept datatype except) other = refl
    none (simple.Value value) other = refl
    none (simple.OneOrMore body) other = refl
    none (simple.Group a b) other = refl
    none (simple.Interleave a b) other = refl
    none (simple.Choice a b) other = refl

-- ---- what a leaf is

module _ (t : Table) (ns : List Node) (q : Name) where
  -- it is at most one element
  pub one_element : (n : PatternNumber) (k l : ℕ) → IsNamed t ns q n k → IsNamed t ns q n l → k ≡ l
  one_element n k l a b = let same : s_leaf k ≡ s_leaf l = sym a.0 ∙ b.0 in cc

  -- it has at most one content
  pub one_content : (n : PatternNumber) (p r : Simple ℕ) → HasContent t ns q n p → HasContent t ns q n r → p ≡ r
  one_content n p r a b = let same : s_attribute a.0 p ≡ s_attribute b.0 r = sym a.1 ∙ b.1 in cc

  -- one whose class need not be told has no content for the name
  pub no_content : (n : PatternNumber) (p : Simple ℕ) → tree_of t ns n.0 ≡ p → IsClassOf p None → IsContentAt t ns q n None
  no_content n p is none = λ content has. none has.0 (content, sym is ∙ has.1) q has.2

-- ---- one more leaf

-- an item of a list with one more item at its end
module _ {A : Type 0} (xs : List A) (i : ℕ) (d : A) (within : i < length xs) where
  earlier : (x : A) → Contains (take i xs) x → Contains (take (i + 1) xs) x
  earlier x c = subst (λ ys. Contains ys x) (sym (take_more xs i d within)) (Contains-append_left (take i xs) (get_or xs i d ∷ []) x c)

  this : Contains (take (i + 1) xs) (get_or xs i d)
  this = subst (λ ys. Contains ys (get_or xs i d)) (sym (take_more xs i d within))
      (Contains-append_right (take i xs) (get_or xs i d ∷ []) (get_or xs i d) (Contains-get_or (get_or xs i d ∷ []) 0 (get_or xs i d) (omega arith)))

  earlier_or_this : (x : A) → Contains (take (i + 1) xs) x → Contains (take i xs) x ⊎ (get_or xs i d ≡ x)
  earlier_or_this x c = ⊎_elim (λ h. inl h) (λ h. inr (one_only (get_or xs i d) x h))
      (Contains-append_cases (take i xs) (get_or xs i d ∷ []) x (subst (λ ys. Contains ys x) (take_more xs i d within) c))

-- what is pushed
module _ {A : Type 0} (ys more : List A) (y : A) (added : more ≡ ys ++ y ∷ []) where
  pub kept : (x : A) → Contains ys x → Contains more x
  kept x c = subst (λ zs. Contains zs x) (sym added) (Contains-append_left ys (y ∷ []) x c)

  pub pushed : Contains more y
  pushed = subst (λ zs. Contains zs y) (sym added) (Contains-append_right ys (y ∷ []) y (Contains-get_or (y ∷ []) 0 y (omega arith)))

  pub kept_or_pushed : (x : A) → Contains more x → Contains ys x ⊎ (y ≡ x)
  kept_or_pushed x c = ⊎_elim (λ h. inl h) (λ h. inr (one_only y x h)) (Contains-append_cases ys (y ∷ []) x (subst (λ zs. Contains zs x) added c))

module _ (t : Table) (ns : List Node) (found : List PatternNumber) (i : ℕ) (d : PatternNumber) (within : i < length found) where
  abbrev leaf : PatternNumber
  leaf = get_or found i d

  -- ---- what is told for leaves

  module _ {A : Type 0} (Is : PatternNumber → A → Type 0) (Tells : A → PatternNumber → Type 0) (told : List PatternNumber)
      (was : AreTold ns Is Tells (take i found) told) where
    pub none_told : IsTold ns Is Tells leaf None → AreTold ns Is Tells (take (i + 1) found) told
    none_told none = record {
      inside = was.inside;
      each = λ b c. let h = was.each b c in (h.0, h.1, earlier found i d within h.0 h.2, h.3, h.4);
      all = λ n k c is. ⊎_elim
          (λ before. was.all n k before is)
          (λ e. absurd (none k (subst (λ n. Is n k) (sym e) is)))
          (earlier_or_this found i d within n c);
    }

    -- given that a leaf is at most one
    pub one_told : ((n : PatternNumber) (k l : A) → Is n k → Is n l → k ≡ l) → (b : PatternNumber) (more : List PatternNumber)
        → IsTold ns Is Tells leaf (Some b) → more ≡ told ++ b ∷ [] → AreTold ns Is Tells (take (i + 1) found) more
    one_told once b more one added = record {
      inside = subst (All (λ (b : PatternNumber). b.0 < length ns)) (sym added)
          (All-append (λ (b : PatternNumber). b.0 < length ns) told (b ∷ []) was.inside
          (All-cons (λ (b : PatternNumber). b.0 < length ns) b [] one.0 (All-nil (λ (b : PatternNumber). b.0 < length ns))));
      each = λ x c. ⊎_elim
          (λ before. let h = was.each x before in (h.0, h.1, earlier found i d within h.0 h.2, h.3, h.4))
          (λ e. (leaf, one.1.0, this found i d within, one.1.1, subst (Tells one.1.0) e one.1.2))
          (kept_or_pushed told more b added x c);
      all = λ n k c is. ⊎_elim
          (λ before. let h = was.all n k before is in (h.0, kept told more b added h.0 h.1, h.2))
          (λ e. (b, pushed told more b added, subst (λ k. Tells k b) (once n one.1.0 k (subst (λ n. Is n one.1.0) e one.1.1) is) one.1.2))
          (earlier_or_this found i d within n c);
    }

  -- ---- name classes

  module _ (classes : List NameClass) (was : AreClassesOf t ns (take i found) classes) where
    pub no_class : IsClass t ns leaf None → AreClassesOf t ns (take (i + 1) found) classes
    no_class none = record {
      each = λ c h. let b = was.each c h in (b.0, earlier found i d within b.0 b.1, b.2);
      all = λ n c h of. ⊎_elim
          (λ before. was.all n c before of)
          (λ e. inr (none c (subst (IsOfClass t ns c) (sym e) of)))
          (earlier_or_this found i d within n h);
    }

    pub one_class : (class : NameClass) (more : List NameClass) → IsClass t ns leaf (Some class) → more ≡ classes ++ class ∷ []
        → AreClassesOf t ns (take (i + 1) found) more
    one_class class more is added = record {
      each = λ c h. ⊎_elim
          (λ before. let b = was.each c before in (b.0, earlier found i d within b.0 b.1, b.2))
          (λ e. (leaf, this found i d within, subst (λ c. IsOfClass t ns c leaf) e is))
          (kept_or_pushed classes more class added c h);
      all = λ n c h of. ⊎_elim
          (λ before. ⊎_elim (λ m. inl (kept classes more class added c m)) (λ m. inr m) (was.all n c before of))
          (λ e. inl (subst (Contains more) (same_class n c of e) (pushed classes more class added)))
          (earlier_or_this found i d within n h);
    }
      where
        same_class : (n : PatternNumber) (c : NameClass) → IsOfClass t ns c n → leaf ≡ n → class ≡ c
        same_class n c of e =
            let same : s_attribute class is.0 ≡ s_attribute c of.0 = sym is.1 ∙ ap (λ (n : PatternNumber). tree_of t ns n.0) e ∙ of.1 in cc
