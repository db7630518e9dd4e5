-- If a grammar is the simple form of a schema, up to numbering, it has the same documents as the schema as it is
-- written.
use Rattle.std.proofs.Common.{◌≡◌, ◌↔◌, ◌∙◌, refl, sym, ap, subst, List, ℕ, ◌<◌, length, slice_get, get_or, Some, ◌∷◌, []}
use Rattle.std.proofs.lemmas.List.Elements.{All-contains}
use Rattle.std.proofs.lemmas.Option.{slice_get-get_or}
use Rattle.rng_model.specs.names.Names.{NameClass, In}
use Rattle.rng_model.specs.simple.Tree.{Tree, Simple, s_empty, as_tree}
use Rattle.rng_model.specs.matching.Document.{Item}
use Rattle.rng_model.specs.datatypes.Texts.{Texts, texts_of}
use Rattle.rng_model.specs.matching.Matching.{HasText}
use Rattle.rng_model.specs.matching.GrammarMatching.{Nothing, IsListed, is_listed, grammar_leaves, IsValidBy}
use Rattle.rng_model.specs.simple.Grammar.{Grammar}
use Rattle.rng_model.specs.simple.Leaves.{renamed}
use Rattle.rng_model.specs.schema.Patterns.{Point}
use Rattle.rng_model.specs.schema.Schema.{Schema, main_start, body}
use Rattle.rng_model.specs.schema.Unfolding.{Leaf, Unfolds, IsBodyOf, IsReachedBySimpleForms, from_simple_start, from_simple_body}
use Rattle.rng_model.specs.simple.SchemaForm.{SimpleForm, IsElementOf, IsSimpleFormOfSchema, IsSameUpToNumbering, IsSimpleGrammarOf}
use Rattle.rng_model.specs.matching.SchemaMatching.{IsValidOver}
use Rattle.rng_model.specs.xsd.TypeSets.{tests_in}
use Rattle.rng_model.specs.xsd.SchemasWith.{AreSameDocumentsWith}
use Rattle.rng_model.specs.declared.type_set.TypeSet.{TypeSet}
use Rattle.rng_model.proofs.Unfolding.{one_tree}
use Rattle.rng_model.proofs.Options.{one_value}
use Rattle.rng_simple.specs.plain.InTwos.{nested}
use Rattle.rng_simple.proofs.Trees.SimpleClass.{is_only_simple_class}
use Rattle.rng_simple.specs.plain.SimpleOf.{simple_of}
use Rattle.rng_simple.proofs.Trees.SimpleForms.{has_simple_form, is_only_simple_form}
use Rattle.rng_simple.proofs.Matching.StepMatches.{weakly}
use Rattle.rng_simple.proofs.Matching.NestedNames.{nested_out}
use Rattle.rng_simple.proofs.Matching.CorrespondingTrees.{Corresponds, corresponds_itself, corresponds_renamed, turned, lex_back}
use Rattle.rng_simple.proofs.Matching.Rereading.{reread, Body}
use Rattle.rng_simple.proofs.Leaves.KeptLeaves.{FormHas}
use Rattle.rng_simple.proofs.Matching.WrittenMatches.{HasSimpleForm, has_form, has_tree, tree_leaves, form_leaves, to_tree, simplified, unsimplified, to_written}

nothing_stands : {L : Type 0} {x y : Unit {0}} {l : L} {a : Tree L} → Nothing (Unit {0}) L x l y a → ⊥
nothing_stands h = elim h [ ]

module _ (s : Schema) (texts : Texts) where
  excepts_correspond : {K L : Type 0} (R : K → L → Type 0) (x : Unit {0}) (a : Tree K) (b : Tree L) → Corresponds R a b → (w : List ℕ) → HasText texts b w
      → HasText texts a w
  excepts_correspond R x a b e w h = lex_back R texts e (w ∷ []) h

  -- ---- from the simple forms of bodies to their trees
  abbrev IsItself : Leaf → Leaf → Type 0
  IsItself l k = l ≡ k

  tree_body : (x : Unit {0}) (l k : Leaf) (c : NameClass) (y : Unit {0}) (a : Tree Leaf) → l ≡ k → HasSimpleForm s x l c y a
      → Body IsItself (form_leaves s texts) (tree_leaves s texts) In texts x k c a
  tree_body x l k c y a r (has_form {t = t} g v f) = record {
    place = tt;
    other = a;
    corresponds = corresponds_itself IsItself (λ m. refl) a;
    read = λ q i xs ns w. (
      tt,
      k.class,
      t,
      has_tree refl (subst (λ m. IsBodyOf s m t) r v),
      nested_out _ q (subst (λ d. In d q) (is_only_simple_class _ _ g ∙ ap (λ m. nested m.class) r) i),
      weakly (tree_leaves s texts) In texts (unsimplified s texts f) w,
    );
  }

  -- ---- between the simple form and a grammar that is the same up to numbering
  module _ (g : Grammar) (form : SimpleForm) (is : IsSimpleFormOfSchema s form) (same : IsSameUpToNumbering g form) where
    abbrev IsNumber : Leaf → ℕ → Type 0
    IsNumber l k = (k < length g.elements) × (l ≡ same.element k)

    abbrev HasNumber : ℕ → Leaf → Type 0
    HasNumber k l = l ≡ same.element k

    -- what the grammar lists is in the form
    of_form : (k : ℕ) (c : NameClass) (p : Simple ℕ) → slice_get g.elements k ≡ Some (c, p)
        → IsElementOf s (record { name = same.element k; class = c; body = renamed same.element (as_tree p) })
    of_form k c p e = All-contains (IsElementOf s) form.elements _ is.elements (same.bodies k c p e).0

    numbered_body : (x : Unit {0}) (l : Leaf) (k : ℕ) (c : NameClass) (y : Unit {0}) (a : Tree Leaf) → IsNumber l k → HasSimpleForm s x l c y a
        → Body IsNumber (form_leaves s texts) (grammar_leaves g texts) In texts x k c a
    numbered_body x l k c y a r (has_form {t = t} h v f) =
        let e = slice_get-get_or g.elements k (c, s_empty) r.0 in
        let d = get_or g.elements k (c, s_empty) in
        let m = of_form k d.0 d.1 e in
        let trees : m.tree ≡ t = one_tree s m.is_tree (subst (λ j. IsBodyOf s j t) r.1 v) in
        let bodies : renamed same.element (as_tree d.1) ≡ a =
        is_only_simple_form _ _ m.body ∙ ap (λ z. as_tree (simple_of z)) trees ∙ sym (is_only_simple_form _ _ f) in
        let classes : c ≡ d.0 = is_only_simple_class _ _ h ∙ ap (λ j. nested j.class) r.1 ∙ sym (is_only_simple_class _ _ m.class) in
        let below = (same.bodies k d.0 d.1 e).1 in record {
          place = tt;
          other = as_tree d.1;
          corresponds =
              subst (λ b. Corresponds IsNumber b (as_tree d.1)) bodies
              (turned (λ j n. IsNumber n j) (corresponds_renamed (λ j n. IsNumber n j) same.element (as_tree d.1) (λ j i. (below j i, refl))));
          read = λ q i xs ns w. (tt, d.0, as_tree d.1, is_listed e refl, subst (λ z. In z q) classes i, w);
        }

    listed_body : (x : Unit {0}) (k : ℕ) (l : Leaf) (c : NameClass) (y : Unit {0}) (a : Tree ℕ) → HasNumber k l → IsListed g x k c y a
        → Body HasNumber (grammar_leaves g texts) (form_leaves s texts) In texts x l c a
    listed_body x k l c y a r (is_listed {s = p} e f) =
        let m = of_form k c p e in record {
          place = tt;
          other = renamed same.element (as_tree p);
          corresponds =
              subst (λ b. Corresponds HasNumber b (renamed same.element (as_tree p))) (sym f)
              (corresponds_renamed HasNumber same.element (as_tree p) (λ j i. refl));
          read = λ q i xs ns w. (
            tt,
            c,
            renamed same.element (as_tree p),
            subst (λ j. HasSimpleForm s x j c tt (renamed same.element (as_tree p))) (sym r) (has_form m.class m.is_tree m.body),
            i,
            w,
          );
        }

    -- ---- elements that are reached, and the start

    tree_at : (l : Leaf) → IsReachedBySimpleForms s l → (t : Tree Leaf) × IsBodyOf s l t × ((k : Leaf) → FormHas k t → IsReachedBySimpleForms s k)
    tree_at l r =
        let e = is.reached l r in
        let m = All-contains (IsElementOf s) form.elements e.0 is.elements e.1 in
        let v = subst (λ j. IsBodyOf s j m.tree) e.2 m.is_tree in
        (m.tree, v, λ k i. from_simple_body r v (has_simple_form m.tree) i.there)

    start_tree : (a : Tree Point) → body s (main_start s) ≡ Some a → Unfolds s s.main a is.tree
    start_tree a e = subst (λ b. Unfolds s s.main b is.tree) (one_value is.is_tree.1 e) is.is_tree.2

    written_to_grammar : (root : Item) → IsValidOver s texts root → IsValidBy g texts root
    written_to_grammar root v =
        let tree = to_tree s texts (IsReachedBySimpleForms s) tree_at v.2 is.tree (start_tree v.0 v.1)
        (λ l i. from_simple_start is.is_tree (has_simple_form is.tree) i.there) in
        reread IsNumber (form_leaves s texts) (grammar_leaves g texts) In texts (excepts_correspond IsNumber) (λ x k y a. nothing_stands) numbered_body
        (simplified s texts is.start _ _ tree) (as_tree g.start)
        (subst (λ b. Corresponds IsNumber b (as_tree g.start)) (sym same.start)
        (turned (λ j n. IsNumber n j) (corresponds_renamed (λ j n. IsNumber n j) same.element (as_tree g.start) (λ j i. (same.start_below j i, refl)))))

    grammar_to_written : (root : Item) → IsValidBy g texts root → IsValidOver s texts root
    grammar_to_written root d =
        let simple =
        reread HasNumber (grammar_leaves g texts) (form_leaves s texts) In texts (excepts_correspond HasNumber) (λ x k y a. nothing_stands) listed_body d
        form.start
        (subst (λ b. Corresponds HasNumber (as_tree g.start) b) (sym same.start)
        (corresponds_renamed HasNumber same.element (as_tree g.start) (λ j i. refl))) in
        let down =
        reread IsItself (form_leaves s texts) (tree_leaves s texts) In texts (excepts_correspond IsItself) (λ x k y a. nothing_stands) tree_body simple
        form.start
        (corresponds_itself IsItself (λ m. refl) form.start) in
        (is.is_tree.0, is.is_tree.1, to_written s texts (unsimplified s texts is.start _ _ down) is.is_tree.2)

-- for any knowledge of texts
pub same_documents_over : (s : Schema) (g : Grammar) → IsSimpleGrammarOf s g → (texts : Texts) (root : Item) → IsValidBy g texts root ↔ IsValidOver s texts root
same_documents_over s g e texts root = (grammar_to_written s texts g e.0 e.1 e.2 root, written_to_grammar s texts g e.0 e.1 e.2 root)

pub same_documents : (types : TypeSet) (s : Schema) (g : Grammar) → IsSimpleGrammarOf s g → AreSameDocumentsWith types s g
same_documents types s g e root = same_documents_over s g e (texts_of (tests_in types)) root
