-- Whether leaves take a string or an attribute, sort by sort.
use Rattle.std.proofs.Common.{Bor, ◌≡◌, ◌∙◌, ℕ, ◌↔◌, List, [], ◌∷◌, map, refl, sym, ap, subst, Bool, true, false, not, ◌&&◌, Some}
use Rattle.rng_model.specs.simple.Tree.{Simple, Datatype, s_not_allowed, s_empty, s_text, s_leaf, s_attribute, s_list, s_data, s_data_except, s_value}
use Rattle.rng_model.specs.simple.Tree.{s_one_or_more}
use Rattle.rng_model.specs.simple.Tree.{s_joined}
use Rattle.rng_model.specs.names.Names.{NameClass, some_of}
use Rattle.rng_model.specs.matching.Document.{Item, a_text, no_texts, text_and}
use Rattle.rng_model.specs.simple.Table.{Table, tree_at}
use Rattle.rng_model.specs.documents.EventViews.{attribute_of}
use Rattle.rng_model.specs.declared.document.Attr.{Attr}
use Rattle.rng_model.specs.declared.simple.Simple as row
use Rattle.rng_model.specs.declared.simple.Simple.TheVariants as simple
use Rattle.rng_names.specs.plain.Holding.{holds}
use Rattle.rng_model.specs.matching.GrammarMatching.{Reading}
use Rattle.rng_deriv_laws.specs.plain.Taking.{Takes, WeaklyTakes}
use Rattle.rng_deriv_laws.specs.plain.Taking as t
use Rattle.rng_deriv_laws.specs.plain.Restricted.{IsRestricted, MayBeExcepted, MayBeListed}
use Rattle.rng_deriv_laws.specs.plain.Derivatives.{is_excepted}
use Rattle.rng_deriv_laws.specs.plain.Ways.{IsItemLeaf, IsAttributeLeaf}
use Rattle.rng_deriv_laws.proofs.Excepts.{excepted_in, excepted_out}
use Rattle.rng_deriv_table.specs.views.Node.{node_of}
use Rattle.rng_deriv_table.specs.views.PatternTable.{ArePartsBelow}
use Rattle.rng_deriv_table.specs.views.Trees.{attribute_found, data_found, no_attribute, no_data, tree_over}
use Rattle.rng_deriv_table.specs.declared.pattern.Pattern.{Pattern}
use Rattle.rng_deriv_table.specs.declared.pattern.Pattern.TheVariants as pattern
use Rattle.rng_deriv_texts.specs.plain.After.{IsNoListIn, TellsTaken}
use Rattle.rng_deriv_ways.specs.plain.Kinds.{Obeys}
use Rattle.rng_deriv_texts.specs.declared.first.First.TheVariants as firsts
use Rattle.rng_deriv_ways.specs.declared.way.Place.{Place}
use Rattle.rng_deriv_ways.specs.declared.way.Place.TheVariants as places
use Rattle.rng_deriv_ways.proofs.PatternNodes.{IsAttribute, IsNoLeaf, IsStringLeaf, a_datatype, a_list, a_value, an_attribute, an_except, compound_over}
use Rattle.rng_deriv_ways.proofs.PatternNodes.{found_attribute}
use Rattle.rng_deriv_ways.proofs.PatternNodes.{found_string}

-- ---- strings

module _ (g : Reading) (place : Place) (s : Bor (List ℕ)) where
  as_data : (d : Datatype) → Takes g (s_data d) [] (a_text s.now ∷ []) → g.tests.allows d s.now ≡ true
  as_data d (t.data_is e) = e

  as_value : (d : Datatype) (v : List ℕ) → Takes g (s_value d v) [] (a_text s.now ∷ []) → g.tests.equals d v s.now ≡ true
  as_value d v (t.value_is e) = e

  as_list : (p : Simple ℕ) → Takes g (s_list p) [] (a_text s.now ∷ []) → Takes g p [] (map a_text (g.tests.pieces s.now))
  as_list p (t.list_is e d) = subst (λ l. Takes g p [] l) e d

  as_except : (d : Datatype) (p : Simple ℕ) → MayBeExcepted p → Takes g (s_data_except d p) [] (a_text s.now ∷ [])
      → g.tests.allows d s.now && not (is_excepted g p s.now) ≡ true
  as_except d p o (t.data_but e f) = excepted_in g d p s.now o e f

  except_obeys : (at : Place) (d : Datatype) (p : Simple ℕ) → Obeys at (s_data_except d p) → MayBeExcepted p
  except_obeys places.Content d p o = o.texts
  except_obeys places.List d p o = o

  pub tells_of_text : (l : Simple ℕ) → l ≡ s_text → TellsTaken g (firsts.Text place s) l true
  tells_of_text l is leaf o = (λ h. subst (λ p. Takes g p [] (a_text s.now ∷ [])) (sym is) (t.text_is (text_and no_texts)), λ d. refl)

  pub tells_of_data : (l : Simple ℕ) (d : Datatype) (b : Bool) → l ≡ s_data d → b ≡ g.tests.allows d s.now → TellsTaken g (firsts.Text place s) l b
  tells_of_data l d b is e = subst (λ p. TellsTaken g (firsts.Text place s) p b) (sym is)
      (λ leaf o. (λ h. t.data_is (sym e ∙ h), λ w. e ∙ as_data d w))

  pub tells_of_value : (l : Simple ℕ) (d : Datatype) (v : List ℕ) (b : Bool) → l ≡ s_value d v → b ≡ g.tests.equals d v s.now
      → TellsTaken g (firsts.Text place s) l b
  tells_of_value l d v b is e = subst (λ p. TellsTaken g (firsts.Text place s) p b) (sym is)
      (λ leaf o. (λ h. t.value_is (sym e ∙ h), λ w. e ∙ as_value d v w))

  pub tells_of_except : (l : Simple ℕ) (d : Datatype) (p : Simple ℕ) (b : Bool) → l ≡ s_data_except d p
      → b ≡ g.tests.allows d s.now && not (is_excepted g p s.now) → TellsTaken g (firsts.Text place s) l b
  tells_of_except l d p b is e = subst (λ p. TellsTaken g (firsts.Text place s) p b) (sym is)
      (λ leaf o. let m = except_obeys place d p o in
      (λ h. let r = excepted_out g d p s.now m (sym e ∙ h) in t.data_but r.0 r.1, λ w. e ∙ as_except d p m w))

  pub tells_of_none : (l : Simple ℕ) → l ≡ no_data → TellsTaken g (firsts.Text place s) l false
  tells_of_none l is = subst (λ p. TellsTaken g (firsts.Text place s) p false) (sym is)
      (λ leaf o. (λ h. absurd (cc), λ w. nothing (as_list s_not_allowed w))) where
        nothing : {A : Type 0} {ns : List Item} → Takes g s_not_allowed [] ns → A
        nothing d = elim d [ ]

pub tells_of_list : (g : Reading) (place : Place) (s : Bor (List ℕ)) (l p : Simple ℕ) (b : Bool) → place ≡ places.Content → l ≡ s_list p
    → (MayBeListed p → (b ≡ true) ↔ Takes g p [] (map a_text (g.tests.pieces s.now))) → TellsTaken g (firsts.Text place s) l b
tells_of_list g place s l p b at is e =
    subst (λ k. TellsTaken g (firsts.Text k s) l b) (sym at) (subst (λ k. TellsTaken g (firsts.Text places.Content s) k b) (sym is)
    (λ leaf o. let both = e o.texts in (λ h. t.list_is refl (both.0 h), λ w. both.1 (as_list g places.Content s p w))))

-- a look-up found something that matches no string
pub no_data_found : (t : Table) (r : row.Simple) → ((b : _) → r ≡ simple.List b → ⊥) → ((d : _) → r ≡ simple.Data d → ⊥)
    → ((d e : _) → r ≡ simple.DataExcept d e → ⊥) → ((v : _) → r ≡ simple.Value v → ⊥) → data_found t (Some r) ≡ no_data
no_data_found t simple.NotAllowed h i j k = refl
no_data_found t simple.Empty h i j k = refl
no_data_found t simple.Text h i j k = refl
no_data_found t (simple.Element e) h i j k = refl
no_data_found t (simple.Attribute class body) h i j k = refl
no_data_found t (simple.List body) h i j k = absurd (h body refl)
no_data_found t (simple.Data datatype) h i j k = absurd (i datatype refl)
no_data_found t (simple.DataExcept datatype except) h i j k = absurd (j datatype except refl)
no_data_found t (simple.Value value) h i j k = absurd (k value refl)
no_data_found t (simple.OneOrMore body) h i j k = refl
no_data_found t (simple.Group a b) h i j k = refl
no_data_found t (simple.Interleave a b) h i j k = refl
no_data_found t (simple.Choice a b) h i j k = refl

-- a look-up found neither a data nor a value
a_list_found : (t : Table) (r : row.Simple) → ((d : _) → r ≡ simple.Data d → ⊥) → ((d e : _) → r ≡ simple.DataExcept d e → ⊥)
    → ((v : _) → r ≡ simple.Value v → ⊥) → (p : Simple ℕ) × (data_found t (Some r) ≡ s_list p)
a_list_found t simple.NotAllowed i j k = (s_not_allowed, refl)
a_list_found t simple.Empty i j k = (s_not_allowed, refl)
a_list_found t simple.Text i j k = (s_not_allowed, refl)
a_list_found t (simple.Element e) i j k = (s_not_allowed, refl)
a_list_found t (simple.Attribute class body) i j k = (s_not_allowed, refl)
a_list_found t (simple.List body) i j k = (tree_at t.patterns body, refl)
a_list_found t (simple.Data datatype) i j k = absurd (i datatype refl)
a_list_found t (simple.DataExcept datatype except) i j k = absurd (j datatype except refl)
a_list_found t (simple.Value value) i j k = absurd (k value refl)
a_list_found t (simple.OneOrMore body) i j k = (s_not_allowed, refl)
a_list_found t (simple.Group a b) i j k = (s_not_allowed, refl)
a_list_found t (simple.Interleave a b) i j k = (s_not_allowed, refl)
a_list_found t (simple.Choice a b) i j k = (s_not_allowed, refl)

-- a look-up found neither a data nor a value, and a list only in a list
pub tells_of_other : (g : Reading) (place : Place) (s : Bor (List ℕ)) (t : Table) (r : row.Simple) (l : Simple ℕ) → l ≡ data_found t (Some r)
    → ((d : _) → r ≡ simple.Data d → ⊥) → ((d e : _) → r ≡ simple.DataExcept d e → ⊥) → ((v : _) → r ≡ simple.Value v → ⊥)
    → IsNoListIn place (Some r) → TellsTaken g (firsts.Text place s) l false
tells_of_other g places.Content s t r l is i j k h = tells_of_none g places.Content s l (is ∙ no_data_found t r (λ b e. h b refl (ap Some e)) i j k)
tells_of_other g places.List s t r l is i j k h =
    let found = a_list_found t r i j k in
    subst (λ p. TellsTaken g (firsts.Text places.List s) p false) (sym (is ∙ found.1)) (λ leaf o. absurd o)

-- ---- attributes

module _ (g : Reading) (a : Bor Attr) where
  as_attribute : (c : NameClass) (p : Simple ℕ) → Takes g (s_attribute c p) (attribute_of a.now ∷ []) []
      → (holds c (attribute_of a.now).name ≡ true) × WeaklyTakes g p [] (a_text (attribute_of a.now).content ∷ [])
  as_attribute c p (t.attribute_is i w) = (i, w)

  pub tells_of_attribute : (l : Simple ℕ) (c : NameClass) (p : Simple ℕ) (b : Bool) → l ≡ s_attribute c p → holds c (attribute_of a.now).name ≡ true
      → (IsRestricted p → (b ≡ true) ↔ WeaklyTakes g p [] (a_text (attribute_of a.now).content ∷ [])) → TellsTaken g (firsts.Attribute a) l b
  tells_of_attribute l c p b is named e = subst (λ p. TellsTaken g (firsts.Attribute a) p b) (sym is)
      (λ leaf o. let both = e (record { repeats = o.repeats; texts = o.texts }) in
      (λ h. t.attribute_is named (both.0 h), λ w. both.1 (as_attribute c p w).1))

  pub tells_of_other_name : (l : Simple ℕ) (c : NameClass) (p : Simple ℕ) → l ≡ s_attribute c p → holds c (attribute_of a.now).name ≡ false
      → TellsTaken g (firsts.Attribute a) l false
  tells_of_other_name l c p is other = subst (λ p. TellsTaken g (firsts.Attribute a) p false) (sym is)
      (λ leaf o. (λ h. absurd (cc), λ w. let named = (as_attribute c p w).0 in absurd (cc)))

  no_value : {A : Type 0} {s : List ℕ} → WeaklyTakes g s_not_allowed [] (a_text s ∷ []) → A
  no_value (t.as_is d) = elim d [ ]
  no_value (t.blank_text d b) = elim d [ ]

  pub tells_of_no_attribute : (l : Simple ℕ) → l ≡ no_attribute → TellsTaken g (firsts.Attribute a) l false
  tells_of_no_attribute l is = subst (λ p. TellsTaken g (firsts.Attribute a) p false) (sym is)
      (λ leaf o. (λ h. absurd (cc), λ w. no_value (as_attribute (some_of []) s_not_allowed w).1))

pub no_attribute_found : (t : Table) (r : row.Simple) → ((c b : _) → r ≡ simple.Attribute c b → ⊥) → attribute_found t (Some r) ≡ no_attribute
no_attribute_found t simple.NotAllowed h = refl
no_attribute_found t simple.Empty h = refl
no_attribute_found t simple.Text h = refl
no_attribute_found t (simple.Element e) h = refl
no_attribute_found t (simple.Attribute class body) h = absurd (h class body refl)
no_attribute_found t (simple.List body) h = refl
no_attribute_found t (simple.Data datatype) h = refl
no_attribute_found t (simple.DataExcept datatype except) h = refl
no_attribute_found t (simple.Value value) h = refl
no_attribute_found t (simple.OneOrMore body) h = refl
no_attribute_found t (simple.Group a b) h = refl
no_attribute_found t (simple.Interleave a b) h = refl
no_attribute_found t (simple.Choice a b) h = refl

-- ---- patterns of another sort

no_item_leaf : (p : Simple ℕ) → IsNoLeaf p → IsItemLeaf p → ⊥
no_item_leaf s_not_allowed h l = l
no_item_leaf s_empty h l = l
no_item_leaf s_text h l = h
no_item_leaf (s_leaf k) h l = h
no_item_leaf (s_attribute c p) h l = h
no_item_leaf (s_list p) h l = h
no_item_leaf (s_data d) h l = h
no_item_leaf (s_data_except d p) h l = h
no_item_leaf (s_value d v) h l = h
no_item_leaf (s_one_or_more p) h l = l
no_item_leaf (s_joined k p q) h l = l

no_attribute_leaf : (p : Simple ℕ) → IsNoLeaf p → IsAttributeLeaf p → ⊥
no_attribute_leaf s_not_allowed h l = l
no_attribute_leaf s_empty h l = l
no_attribute_leaf s_text h l = h
no_attribute_leaf (s_leaf k) h l = h
no_attribute_leaf (s_attribute c p) h l = h
no_attribute_leaf (s_list p) h l = h
no_attribute_leaf (s_data d) h l = h
no_attribute_leaf (s_data_except d p) h l = h
no_attribute_leaf (s_value d v) h l = h
no_attribute_leaf (s_one_or_more p) h l = l
no_attribute_leaf (s_joined k p q) h l = l

attribute_no_item : {p : Simple ℕ} → IsAttribute p → IsItemLeaf p → ⊥
attribute_no_item an_attribute l = l

string_no_attribute : {p : Simple ℕ} → IsStringLeaf p → IsAttributeLeaf p → ⊥
string_no_attribute a_list l = l
string_no_attribute a_datatype l = l
string_no_attribute an_except l = l
string_no_attribute a_value l = l

pub attribute_sort : {p : Simple ℕ} → IsAttribute p → IsAttributeLeaf p
attribute_sort an_attribute = tt

pub string_sort : {p : Simple ℕ} → IsStringLeaf p → IsItemLeaf p
string_sort a_list = tt
string_sort a_datatype = tt
string_sort an_except = tt
string_sort a_value = tt

module _ (g : Reading) (table : Table) (f : ℕ → Simple ℕ) (i : ℕ) where
  element_no_text : (k : ℕ) (s : List ℕ) → Takes g (s_leaf k) [] (a_text s ∷ []) → ⊥
  element_no_text k s (t.element_is e w pad) = elim pad [ ]

  pub no_string_leaf : (p : Pattern) (s : List ℕ) → ArePartsBelow i (node_of p) → (p ≡ pattern.Text → ⊥) → ((d : _) → p ≡ pattern.Data d → ⊥)
      → IsItemLeaf (tree_over table f (node_of p)) → Takes g (tree_over table f (node_of p)) [] (a_text s ∷ []) → ⊥
  no_string_leaf pattern.NotAllowed s b h j l w = l
  no_string_leaf pattern.Empty s b h j l w = l
  no_string_leaf pattern.Text s b h j l w = h refl
  no_string_leaf (pattern.Choice ms) s b h j l w = no_item_leaf _ (compound_over table f (pattern.Choice ms) i b tt) l
  no_string_leaf (pattern.Group x y) s b h j l w = l
  no_string_leaf (pattern.Interleave x y) s b h j l w = l
  no_string_leaf (pattern.OneOrMore x) s b h j l w = l
  no_string_leaf (pattern.Element e) s b h j l w = element_no_text e.0 s w
  no_string_leaf (pattern.Attribute x) s b h j l w = attribute_no_item (found_attribute table _) l
  no_string_leaf (pattern.Data d) s b h j l w = j d refl

  pub no_attribute_there : (p : Pattern) → ArePartsBelow i (node_of p) → ((x : _) → p ≡ pattern.Attribute x → ⊥)
      → IsAttributeLeaf (tree_over table f (node_of p)) → ⊥
  no_attribute_there pattern.NotAllowed b h l = l
  no_attribute_there pattern.Empty b h l = l
  no_attribute_there pattern.Text b h l = l
  no_attribute_there (pattern.Choice ms) b h l = no_attribute_leaf _ (compound_over table f (pattern.Choice ms) i b tt) l
  no_attribute_there (pattern.Group x y) b h l = l
  no_attribute_there (pattern.Interleave x y) b h l = l
  no_attribute_there (pattern.OneOrMore x) b h l = l
  no_attribute_there (pattern.Element e) b h l = l
  no_attribute_there (pattern.Attribute x) b h l = h x refl
  no_attribute_there (pattern.Data d) b h l = string_no_attribute (found_string table _) l

  pub tells_of_no_string : (place : Place) (s : Bor (List ℕ)) (l : Simple ℕ) (p : Pattern) → l ≡ tree_over table f (node_of p) → ArePartsBelow i (node_of p)
      → (p ≡ pattern.Text → ⊥) → ((d : _) → p ≡ pattern.Data d → ⊥) → TellsTaken g (firsts.Text place s) l false
  tells_of_no_string place s l p is below h j = subst (λ l. TellsTaken g (firsts.Text place s) l false) (sym is)
      (λ leaf o. (λ e. absurd (cc), λ w. absurd (no_string_leaf p s.now below h j leaf w)))

  pub tells_of_no_leaf : (a : Bor Attr) (l : Simple ℕ) (p : Pattern) → l ≡ tree_over table f (node_of p) → ArePartsBelow i (node_of p)
      → ((x : _) → p ≡ pattern.Attribute x → ⊥) → TellsTaken g (firsts.Attribute a) l false
  tells_of_no_leaf a l p is below h = subst (λ l. TellsTaken g (firsts.Attribute a) l false) (sym is)
      (λ leaf o. absurd (no_attribute_there p below h leaf))
