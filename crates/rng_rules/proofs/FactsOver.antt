-- The facts of a pattern are computed from those of its children.
use Rattle.std.proofs.Common.{◌≡◌, ℕ, ◌+◌, ◌<◌, List, [], ◌∷◌, ◌++◌, length, get_or, refl, ap, ap₂, sym, ◌∙◌, arith, ⊎_elim, length-append}
use Rattle.std.proofs.Common.{◌⊎◌, inl, inr, subst, Box, Global}
use Rattle.std.proofs.lemmas.List.{get_or_append_left}
use Rattle.std.proofs.lemmas.Option.{slice_get_within, get_or_from_slice_get, slice_get-get_or}
use Rattle.std.proofs.Math.Seq.{get_or-append_seam}
use Rattle.std.proofs.lemmas.Bool.{cases_lt}
use Rattle.rng_model.specs.declared.simple.PatternId.{PatternId}
use Rattle.rng_rules.specs.declared.facts.Facts.{Facts}
use Rattle.rng_model.specs.names.Names as names
use Rattle.rng_model.specs.simple.Table.{tree_over}
use Rattle.rng_model.specs.simple.TableRules.{AreChildrenBelow}
use Rattle.rng_model.specs.datatypes.DatatypeViews.{datatype_of}
use Rattle.rng_model.specs.names.NameViews.{class_of}
use Rattle.rng_model.specs.declared.datatype.Datatype.{Datatype}
use Rattle.rng_model.specs.declared.datatype.DatatypeValue.{DatatypeValue}
use Rattle.rng_model.specs.declared.name.NameClass.{NameClass}
use Rattle.rng_model.specs.declared.simple.ElementId.{ElementId}
use Rattle.rng_model.specs.declared.simple.Simple as simple
use Rattle.rng_model.specs.declared.simple.Simple.TheVariants as variants
use Rattle.rng_model.specs.simple.Grammar.{kind_between, list_kind, data_kind}
use Rattle.rng_model.specs.simple.Grammar as model
use Rattle.rng_model.specs.simple.Tree as tree
use Rattle.rng_model.specs.simple.Tree.{Connector, Simple, s_not_allowed, s_empty, s_text, s_leaf, s_attribute, s_list, s_data, s_data_except, s_value}
use Rattle.rng_model.specs.simple.Tree.{s_one_or_more, s_joined}
use Rattle.rng_rules.specs.plain.Facts.{facts_of, HasFacts}
use Rattle.rng_rules.specs.plain.FactsOver as over

module _ {L : Type 0} where
  pub attribute_facts : (c : names.NameClass) (p : Simple L) → facts_of (s_attribute c p) ≡ over.facts_of_attribute c (facts_of p)
  unfolding facts_of
  attribute_facts c p = refl

  pub list_facts : (p : Simple L) → facts_of (s_list p) ≡ over.facts_of_simple list_kind (facts_of p)
  unfolding facts_of
  list_facts p = refl

  pub except_facts : (d : tree.Datatype) (p : Simple L) → facts_of (s_data_except d p) ≡ over.facts_of_simple data_kind (facts_of p)
  unfolding facts_of
  except_facts d p = refl

  pub repeated_facts : (p : Simple L) → facts_of (s_one_or_more p) ≡ over.facts_of_repeated (facts_of p)
  unfolding facts_of
  repeated_facts p = refl

  pub joined_facts : (k : Connector) (p q : Simple L) → facts_of (s_joined k p q) ≡ over.facts_of_joined (kind_between k) (facts_of p) (facts_of q)
  unfolding facts_of
  joined_facts tree.choice p q = refl
  joined_facts tree.group p q = refl
  joined_facts tree.interleave p q = refl

  -- a pattern without children
  pub data IsLeaf : Simple L → Type 0 where
    is_not_allowed : IsLeaf s_not_allowed
    is_empty : IsLeaf s_empty
    is_text : IsLeaf s_text
    is_ref : {l : L} → IsLeaf (s_leaf l)
    is_data : {d : tree.Datatype} → IsLeaf (s_data d)
    is_value : {d : tree.Datatype} {v : List ℕ} → IsLeaf (s_value d v)

  pub leaf_facts : (p : Simple L) → IsLeaf p → facts_of p ≡ over.facts_of_leaf (model.kind_of p)
  unfolding facts_of
  leaf_facts p is_not_allowed = refl
  leaf_facts p is_empty = refl
  leaf_facts p is_text = refl
  leaf_facts p is_ref = refl
  leaf_facts p is_data = refl
  leaf_facts p is_value = refl

-- the facts at a position that the table covers
pub fact_at : (of : PatternId → Simple ℕ) (below : List Facts) (id : PatternId) (d : Facts) → HasFacts of below → id.0 < length below → get_or below id.0 d ≡ facts_of (of id)
fact_at of below id d has inside = has id _ (slice_get-get_or below id.0 d inside)

pub joined_at : (of : PatternId → Simple ℕ) (below : List Facts) (k : Connector) (first second : PatternId) (d e : Facts) → HasFacts of below → first.0 < length below
    → second.0 < length below → over.facts_of_joined (kind_between k) (get_or below first.0 d) (get_or below second.0 e) ≡ facts_of (s_joined k (of first) (of second))
joined_at of below k first second d e has a b =
    ap₂ (over.facts_of_joined (kind_between k)) (fact_at of below first d has a) (fact_at of below second e has b) ∙ sym (joined_facts k (of first) (of second))

-- one more pattern
pub has_more : (of : PatternId → Simple ℕ) (below more : List Facts) (f : Facts) (id : PatternId) → more ≡ below ++ f ∷ [] → id.0 ≡ length below → f ≡ facts_of (of id)
    → HasFacts of below → HasFacts of more
has_more of below more f id longer at is has = λ other g found.
    let inside = slice_get_within more other.0 g found in
    let long : length more ≡ length below + 1 = rw longer (length-append below (f ∷ [])) in
    let here : get_or more other.0 f ≡ g = get_or_from_slice_get more other.0 g f found in
    ⊎_elim
    (λ less. sym here ∙ ap (λ xs. get_or xs other.0 f) longer ∙ get_or_append_left below (f ∷ []) f other.0 less ∙ fact_at of below other f has less)
    (λ past.
    let same : other.0 ≡ id.0 = omega arith in
    let seam : get_or (below ++ f ∷ []) other.0 f ≡ f = ap (λ i. get_or (below ++ f ∷ []) i f) (same ∙ at) ∙ get_or-append_seam below f [] f in
    sym here ∙ ap (λ xs. get_or xs other.0 f) longer ∙ seam ∙ is ∙ ap (λ i. facts_of (of (record { 0 = i }))) (sym same))
    (cases_lt other.0 (length below))

-- ---- a pattern of the table

-- it is one of the kinds without children
abbrev IsChildless : simple.Simple → Type 0
IsChildless p = (p ≡ variants.NotAllowed) ⊎ ((p ≡ variants.Empty) ⊎ ((p ≡ variants.Text) ⊎ (((e : ElementId) × (p ≡ variants.Element e)) ⊎ (((d : Box Datatype Global) × (p ≡ variants.Data d))
    ⊎ ((v : Box DatatypeValue Global) × (p ≡ variants.Value v))))))

module _ (of : PatternId → Simple ℕ) where
  leaf_is : (p : simple.Simple) → IsChildless p → IsLeaf (tree_over of p)
  leaf_is p (inl e) = subst (λ p. IsLeaf (tree_over of p)) (sym e) is_not_allowed
  leaf_is p (inr (inl e)) = subst (λ p. IsLeaf (tree_over of p)) (sym e) is_empty
  leaf_is p (inr (inr (inl e))) = subst (λ p. IsLeaf (tree_over of p)) (sym e) is_text
  leaf_is p (inr (inr (inr (inl e)))) = subst (λ p. IsLeaf (tree_over of p)) (sym e.1) is_ref
  leaf_is p (inr (inr (inr (inr (inl e))))) = subst (λ p. IsLeaf (tree_over of p)) (sym e.1) is_data
  leaf_is p (inr (inr (inr (inr (inr e))))) = subst (λ p. IsLeaf (tree_over of p)) (sym e.1) is_value

  pub leaf_over : (p : simple.Simple) (kind : model.Kind) → IsChildless p → kind ≡ model.kind_of (tree_over of p) → over.facts_of_leaf kind ≡ facts_of (tree_over of p)
  leaf_over p kind leaf is = ap over.facts_of_leaf is ∙ sym (leaf_facts (tree_over of p) (leaf_is p leaf))

  module _ (below : List Facts) (has : HasFacts of below) where
    pub attribute_over : (p : simple.Simple) (class : Box NameClass Global) (seen : NameClass) (body : PatternId) (d : Facts) → seen ≡ class.value
        → p ≡ variants.Attribute class body → AreChildrenBelow (length below) p
        → over.facts_of_attribute (class_of seen) (get_or below body.0 d) ≡ facts_of (tree_over of p)
    attribute_over p class seen body d same is =
        subst (λ p. AreChildrenBelow (length below) p → over.facts_of_attribute (class_of seen) (get_or below body.0 d) ≡ facts_of (tree_over of p)) (sym is)
        (λ inside. ap (λ c. over.facts_of_attribute (class_of c) (get_or below body.0 d)) same
        ∙ ap (over.facts_of_attribute (class_of class.value)) (fact_at of below body d has inside) ∙ sym (attribute_facts (class_of class.value) (of body)))

    pub repeated_over : (p : simple.Simple) (body : PatternId) (d : Facts) → p ≡ variants.OneOrMore body → AreChildrenBelow (length below) p
        → over.facts_of_repeated (get_or below body.0 d) ≡ facts_of (tree_over of p)
    repeated_over p body d is = subst (λ p. AreChildrenBelow (length below) p → over.facts_of_repeated (get_or below body.0 d) ≡ facts_of (tree_over of p))
        (sym is) (λ inside. ap over.facts_of_repeated (fact_at of below body d has inside) ∙ sym (repeated_facts (of body)))

    abbrev SimpleOver : PatternId → Facts → simple.Simple → Type 0
    SimpleOver body d p = AreChildrenBelow (length below) p → over.facts_of_simple (model.kind_of (tree_over of p)) (get_or below body.0 d) ≡ facts_of (tree_over of p)

    simple_is : (p : simple.Simple) (body : PatternId) (d : Facts) → (p ≡ variants.List body) ⊎ ((t : Box Datatype Global) × (p ≡ variants.DataExcept t body)) → SimpleOver body d p
    simple_is p body d (inl is) = subst (SimpleOver body d) (sym is)
        (λ inside. ap (over.facts_of_simple list_kind) (fact_at of below body d has inside) ∙ sym (list_facts (of body)))
    simple_is p body d (inr (t, is)) = subst (SimpleOver body d) (sym is)
        (λ inside. ap (over.facts_of_simple data_kind) (fact_at of below body d has inside) ∙ sym (except_facts (datatype_of t.value) (of body)))

    pub simple_over : (p : simple.Simple) (kind : model.Kind) (body : PatternId) (d : Facts) → (p ≡ variants.List body) ⊎ ((t : Box Datatype Global) × (p ≡ variants.DataExcept t body))
        → AreChildrenBelow (length below) p → kind ≡ model.kind_of (tree_over of p) → over.facts_of_simple kind (get_or below body.0 d) ≡ facts_of (tree_over of p)
    simple_over p kind body d is inside same = ap (λ k. over.facts_of_simple k (get_or below body.0 d)) same ∙ simple_is p body d is inside

    abbrev JoinedOver : PatternId → PatternId → Facts → Facts → simple.Simple → Type 0
    JoinedOver a b d e p = AreChildrenBelow (length below) p
        → over.facts_of_joined (model.kind_of (tree_over of p)) (get_or below a.0 d) (get_or below b.0 e) ≡ facts_of (tree_over of p)

    abbrev IsJoined : PatternId → PatternId → simple.Simple → Type 0
    IsJoined a b p = (p ≡ variants.Group a b) ⊎ ((p ≡ variants.Interleave a b) ⊎ (p ≡ variants.Choice a b))

    joined_is : (p : simple.Simple) (a b : PatternId) (d e : Facts) → IsJoined a b p → JoinedOver a b d e p
    joined_is p a b d e (inl is) = subst (JoinedOver a b d e) (sym is) (λ inside. joined_at of below tree.group a b d e has inside.0 inside.1)
    joined_is p a b d e (inr (inl is)) = subst (JoinedOver a b d e) (sym is) (λ inside. joined_at of below tree.interleave a b d e has inside.0 inside.1)
    joined_is p a b d e (inr (inr is)) = subst (JoinedOver a b d e) (sym is) (λ inside. joined_at of below tree.choice a b d e has inside.0 inside.1)

    pub joined_over : (p : simple.Simple) (kind : model.Kind) (a b : PatternId) (d e : Facts) → IsJoined a b p → AreChildrenBelow (length below) p
        → kind ≡ model.kind_of (tree_over of p) → over.facts_of_joined kind (get_or below a.0 d) (get_or below b.0 e) ≡ facts_of (tree_over of p)
    joined_over p kind a b d e is inside same = ap (λ k. over.facts_of_joined k (get_or below a.0 d) (get_or below b.0 e)) same ∙ joined_is p a b d e is inside
