-- Includes that break clause 10, and those that do not.
use Rattle.std.proofs.Common.{◌≡◌, refl, sym, subst, ap, ◌∙◌, ℕ, ◌+◌, ◌<◌, ◌≤◌, List, [], ◌∷◌, ◌++◌, length, map, take, drop, get_or, Bool, true, false}
use Rattle.std.proofs.Common.{Option, Some, None, option_map, String, string_bytes, ◌↔◌}
use Rattle.std.proofs.Common.{inl, inr, Bor}
use Rattle.std.specs.Bool.{IsTrue, IsFalse}
use Rattle.std.specs.Option.{option_copied}
use Rattle.std.specs.Global.{Global}
use Rattle.std.specs.Map.{lookup, values_of}
use Rattle.std.specs.Prelude.{not}
use Rattle.std.specs.Str.{bytes_eq}
use Rattle.std.proofs.lemmas.List.{map_more, take-append-drop, map-append, take_all}
use Rattle.std.proofs.lemmas.Option.{same_Some, none-some}
use Rattle.rng_model.proofs.Members.{among_mapped}
use Rattle.rng_model.specs.names.Lists.{Among, here}
use Rattle.rnc_grammar.specs.declared.file_tree.FileTree as declared
use Rattle.rnc_model.specs.grammar.Syntax as tree
use Rattle.rnc_model.specs.grammar.Syntax.{applied, Mention}
use Rattle.rnc_model.specs.declarations.FileTree.{FileTree, grammar_components}
use Rattle.rnc_grammar.specs.views.View.{file_of}
use Rattle.rnc_model.specs.loading.Loading.{TakenFiles, tree_in, BreaksInclude, no_grammar, nothing_to_override}
use Rattle.rnc_model.specs.loading.Mentions.{HasName}
use Rattle.rnc_model.specs.loading.SchemaFile.{FileName}
use Rattle.rng_load.proofs.Overriding.MentionedNames.{tree_found}
use Rattle.rng_load.proofs.NameLists.{in_none, in_left, in_right, in_more, from_map}
use Rattle.rng_load.proofs.LoadOrder.ReadInOrder.{entries_of}

no_truth : IsTrue false → ⊥
no_truth t = cc

-- ---- one include

module _ (read : TakenFiles) (m : Mention applied) (over : tree.ComponentsAt applied) where
  pub unread : tree_in read m.href ≡ None → IsTrue false ↔ BreaksInclude read m over
  unread none = (λ t. absurd (no_truth t), λ b. absurd (breaks b)) where
    breaks : BreaksInclude read m over → ⊥
    breaks (no_grammar is e) = none-some _ (sym none ∙ is)
    breaks (nothing_to_override is e h n) = none-some _ (sym none ∙ is)

  module _ (t : FileTree) (is : tree_in read m.href ≡ Some t) where
    pub is_no_grammar : grammar_components t ≡ None → IsTrue true ↔ BreaksInclude read m over
    is_no_grammar e = (λ w. no_grammar is e, λ b. refl)

    module _ (cs : tree.ComponentsAt applied) (grammar : grammar_components t ≡ Some cs) where
      its_components : {u : FileTree} {ds : tree.ComponentsAt applied} → tree_in read m.href ≡ Some u → grammar_components u ≡ Some ds → ds ≡ cs
      its_components j e = same_Some _ _ (sym e ∙ ap grammar_components (same_Some _ _ (sym j ∙ is)) ∙ grammar)

      a_grammar : {u : FileTree} → tree_in read m.href ≡ Some u → grammar_components u ≡ None → ⊥
      a_grammar j e = none-some _ (sym e ∙ ap grammar_components (same_Some _ _ (sym j ∙ is)) ∙ grammar)

      pub nothing_in_braces : over ≡ tree.no_components → IsTrue false ↔ BreaksInclude read m over
      nothing_in_braces empty = (λ w. absurd (no_truth w), λ b. absurd (breaks b)) where
        no_name : {y : Option FileName} → HasName (tree_in read) y tree.no_components → ⊥
        no_name h = elim h [ ]

        breaks : BreaksInclude read m over → ⊥
        breaks (no_grammar j e) = a_grammar j e
        breaks (nothing_to_override {t} {cs} {y} j e h n) = no_name (subst (HasName (tree_in read) y) empty h)

      pub judged : (b : Bool) → (IsTrue b → (y : Option FileName) → HasName (tree_in read) y over → HasName (tree_in read) y cs)
          → (IsFalse b → (y : Option FileName) × HasName (tree_in read) y over × ¬ (HasName (tree_in read) y cs)) → IsTrue (not b) ↔ BreaksInclude read m over
      judged true all lack = (λ w. absurd (no_truth w), λ b. absurd (breaks b)) where
        breaks : BreaksInclude read m over → ⊥
        breaks (no_grammar j e) = a_grammar j e
        breaks (nothing_to_override {t} {cs = ds} {y} j e h n) = n (subst (HasName (tree_in read) y) (sym (its_components j e)) (all refl y h))
      judged false all lack = (λ w. let l = lack refl in nothing_to_override is grammar l.1 l.2, λ b. refl)

-- the tree that is found for a file
pub found_at : (es : List (String Global × declared.FileTree)) (f h : FileName) (o : Option declared.FileTree) → o ≡ lookup (λ k. bytes_eq f
    (string_bytes k)) es → f ≡ h
    → tree_in (map (λ e. (string_bytes e.0, file_of e.1)) es) h ≡ option_map file_of o
found_at es f h o e same = ap (tree_in (map (λ e. (string_bytes e.0, file_of e.1)) es)) (sym same) ∙ tree_found es f ∙ ap (option_map file_of) (sym e)

-- ---- one of many

module _ {A : Type 0} (P : A → Type 0) where
  abbrev pub OneOf : List A → Type 0
  OneOf xs = (x : A) × Among x xs × P x

  pub none_of_none : OneOf [] → ⊥
  none_of_none o = in_none o.1

  pub one_more_not : (xs : List A) (x : A) → ¬ (OneOf xs) → ¬ (P x) → ¬ (OneOf (xs ++ x ∷ []))
  one_more_not xs x n m o = elim (in_more xs o.1) [ inl a ↦ n (o.0, a, o.2) | inr e ↦ m (subst P e o.2) ]

-- one round of a loop over the items
module _ {A B : Type 0} (P : B → Type 0) (view : A → B) (items : List A) (i : ℕ) (l : i < length items) (d x : A) (is : x ≡ get_or items i d) where
  front : map view (take (i + 1) items) ≡ map view (take i items) ++ view x ∷ []
  front = map_more view items i d l ∙ ap (λ y. map view (take i items) ++ view y ∷ []) (sym is)

  pub met : P (view x) → OneOf P (map view items)
  met p = (view x, subst (Among (view x)) (sym whole) (in_left (in_right (map view (take i items)) here) (map view (drop (i + 1) items))), p) where
    whole : map view items ≡ (map view (take i items) ++ view x ∷ []) ++ map view (drop (i + 1) items)
    whole = ap (map view) (sym (take-append-drop (i + 1) items)) ∙ map-append view (take (i + 1) items) (drop (i + 1) items) ∙ ap (λ xs. xs ++ map view
        (drop (i + 1) items)) front

  pub passed : ¬ (OneOf P (map view (take i items))) → ¬ (P (view x)) → ¬ (OneOf P (map view (take (i + 1) items)))
  passed n m o = one_more_not P (map view (take i items)) (view x) n m (subst (OneOf P) front o)

pub all_passed : {A B : Type 0} (P : B → Type 0) (view : A → B) (items : List A) (i : ℕ) → length items ≤ i → ¬ (OneOf P (map view (take i items))) → ¬
    (OneOf P (map view items))
all_passed P view items i l n o = n (subst (λ xs. OneOf P (map view xs)) (sym (take_all i items l)) o)

-- the trees of the files
abbrev second_of : (FileName × FileTree) → FileTree
second_of e = e.1

module _ (es : List (String Global × declared.FileTree)) where
  trees_are : map second_of (entries_of es) ≡ map file_of (values_of es)
  trees_are = same es where
    same : (es : List (String Global × declared.FileTree)) → map second_of (entries_of es) ≡ map file_of (values_of es)
    same [] = refl
    same (e ∷ es) = ap (λ ts. file_of e.1 ∷ ts) (same es)

  module _ (P : FileTree → Type 0) where
    pub of_a_tree : OneOf P (map file_of (values_of es)) → (file : FileName × FileTree) × Among file (entries_of es) × P file.1
    of_a_tree o = let f = from_map second_of (entries_of es) (subst (Among o.0) (sym trees_are) o.1) in (f.0, f.1, subst P f.2 o.2)

    pub of_a_file : (file : FileName × FileTree) × Among file (entries_of es) × P file.1 → OneOf P (map file_of (values_of es))
    of_a_file f = (f.0.1, subst (Among f.0.1) trees_are (among_mapped second_of f.1), f.2)

-- the tree that a map returns for the name of a file
pub tree_of_name : (es : List (String Global × declared.FileTree)) (f : FileName) (o : Option (Bor declared.FileTree)) → option_copied o ≡ lookup
    (λ k. bytes_eq f (string_bytes k)) es
    → option_map (λ t. file_of t.now) o ≡ tree_in (entries_of es) f
tree_of_name es f None e = ap (option_map file_of) e ∙ sym (tree_found es f)
tree_of_name es f (Some t) e = ap (option_map file_of) e ∙ sym (tree_found es f)
