-- The tree of a schema file is well spelled if it comes from a well spelled syntax tree with its declarations applied.
use Rattle.std.proofs.Common.{◌≡◌, refl, subst, ℕ, suc, ◌≤◌, max, arith, Bool, true, false, ◌||◌, if◌then◌else◌}
use Rattle.std.proofs.Common.{List, [], ◌∷◌, Option, Some, None}
use Rattle.std.specs.Prelude.{is_none, codes}
use Rattle.std.specs.List.{AllByRecursion}
use Rattle.std.specs.Char.{encode_utf8}
use Rattle.std.specs.Str.{bytes_eq, is_utf8, chars}
use Rattle.std.proofs.lemmas.Str.{IsUtf8-from_is_utf8}
use Rattle.std.proofs.lemmas.Option.{same_Some, none-some}
use Rattle.rng_model.specs.names.Names as names
use Rattle.rng_model.specs.names.Names.{class_list, some_of, xml_uri}
use Rattle.rng_model.specs.datatypes.Datatypes.{xsd_uri}
use Rattle.rncv_model.specs.printed.Words.{is_choice, is_except}
use Rattle.rnc_model.specs.grammar.Syntax as syntax
use Rattle.rnc_model.specs.grammar.Syntax.{applied, written, Namespace, inherited, given}
use Rattle.rnc_model.specs.declarations.FileTree.{FileTree}
use Rattle.rnc_model.specs.declarations.Declarations.{◌>>=◌, option_none_else, option_or, Scope, nothing_declared, uri_of, may_stand_for, may_stand_for_types}
use Rattle.rnc_model.specs.declarations.Declarations.{with_one}
use Rattle.rnc_model.specs.declarations.Declarations.{with_prefix, with_default, with_datatypes, declare, declare_all, default_of, namespace_in, library_in}
use Rattle.rnc_model.specs.declarations.Declarations.{name_in}
use Rattle.rnc_model.specs.declarations.Declarations.{class_in, classes_in, type_in, handed_on, mention_in, pattern_in, patterns_in, component_in}
use Rattle.rnc_model.specs.declarations.Declarations.{components_in, body_in}
use Rattle.rnc_model.specs.declarations.Declarations.{file_tree}
use Rattle.rnc_model.specs.tokens.Cut.{lexemes}
use Rattle.rnc_model.specs.loading.Places as places
use Rattle.rnc_model.specs.loading.Places.{uri_in}
use Rattle.rnc_model.specs.loading.SchemaFile.{IsSchemaFile}
use Rattle.rnc_model.specs.grammar.Sentence.{nesting_limit}
use Rattle.rnc_grammar.proofs.AppliedTrees.{made_where_applied}
use Rattle.rnc_print_laws.specs.plain.Printable.{IsText, IsName, HasNames, HaveNames, one_more_if, parentheses, parentheses_among}
use Rattle.rnc_print_laws.specs.plain.WellSpelledFiles.{IsTextNamespace, IsWellSpelledType, IsWellSpelledMention, IsWellSpelledClass, IsWellSpelledPattern}
use Rattle.rnc_print_laws.specs.plain.WellSpelledFiles.{AreWellSpelledPatterns, IsWellSpelledComponent, AreWellSpelledComponents, IsWellSpelledFile}
use Rattle.rnc_print_laws.proofs.WellSpelled.RoomForBrackets.{IsWellSpelledName, fits}
use Rattle.rnc_print_laws.proofs.WellSpelled.SyntaxTrees.{IsSpelledName, IsSpelledClass, AreSpelledClasses, around, around_all, inside, IsSpelledPattern}
use Rattle.rnc_print_laws.proofs.WellSpelled.SyntaxTrees.{AreSpelledPatterns}
use Rattle.rnc_print_laws.proofs.WellSpelled.SyntaxTrees.{IsSpelledComponent, AreSpelledComponents, IsSpelledUri, IsSpelledDeclaration, IsSpelledBody}
use Rattle.rnc_print_laws.proofs.WellSpelled.SyntaxTrees.{IsSpelledFile, file}
use Rattle.rnc_print_laws.proofs.WellSpelled.Tokens.{tokens_spelled}

bind_some : {A B : Type 0} (o : Option A) (f : A → Option B) {b : B} → (o >>= f) ≡ Some b → (a : A) × (o ≡ Some a) × (f a ≡ Some b)
bind_some None f e = absurd (none-some _ e)
bind_some (Some a) f e = (a, refl, e)

-- ---- what is declared

pub uri_text : (u : List ℕ) (v : Namespace) → IsText u → IsTextNamespace v → IsText (uri_in u v)
uri_text u inherited h i = h
uri_text u (given v) h i = i

literal_text : (u : syntax.Uri) → IsSpelledUri u → IsTextNamespace (uri_of u)
literal_text syntax.inherit h = tt
literal_text (syntax.literal u) h = h

-- what is declared is made of Chars
record IsTextScope (s : Scope) : Type 0 where
  default : (v : Namespace) → s.default ≡ Some v → IsTextNamespace v
  namespaces : (p : List ℕ) (v : Namespace) → s.namespaces p ≡ Some v → IsTextNamespace v
  datatypes : (p l : List ℕ) → s.datatypes p ≡ Some l → IsText l

module _ {A : Type 0} (P : A → Type 0) where
  abbrev AreAll : (List ℕ → Option A) → Type 0
  AreAll declared = (p : List ℕ) (a : A) → declared p ≡ Some a → P a

  one_more : (p : List ℕ) (a : A) (declared all : List ℕ → Option A) → P a → AreAll declared → with_one p a declared ≡ Some all → AreAll all
  one_more p a declared all h i e = by_test (is_none (declared p)) e
    where
      found : (q : List ℕ) (v : A) (b : Bool) → (if b then Some a else declared q) ≡ Some v → P v
      found q v true e = subst P (same_Some _ _ e) h
      found q v false e = i q v e

      by_test : (b : Bool) → (if b then Some (λ (q : List ℕ). if bytes_eq p q then Some a else declared q) else None) ≡ Some all → AreAll all
      by_test true e = subst AreAll (same_Some _ _ e) (λ q v f. found q v (bytes_eq p q) f)
      by_test false e = absurd (none-some _ e)

prefix_text : (p : List ℕ) (u : Namespace) (s r : Scope) → IsTextNamespace u → IsTextScope s → with_prefix p u s ≡ Some r → IsTextScope r
prefix_text p u s r h i e = by_test (may_stand_for p u) e
  where
    by_test : (b : Bool) → (if b then (with_one p u s.namespaces >>= λ all. Some (record s { namespaces = all })) else None) ≡ Some r → IsTextScope r
    by_test true e =
        let a = bind_some (with_one p u s.namespaces) _ e in
        subst IsTextScope (same_Some _ _ a.2) (record {
          default = i.default;
          namespaces = one_more IsTextNamespace p u s.namespaces a.0 h i.namespaces a.1;
          datatypes = i.datatypes;
        })
    by_test false e = absurd (none-some _ e)

default_text : (u : Namespace) (s r : Scope) → IsTextNamespace u → IsTextScope s → with_default u s ≡ Some r → IsTextScope r
default_text u s r h i e = by_default s.default e
  where
    by_default : (o : Option Namespace) → option_none_else o (Some (record s { default = Some u })) ≡ Some r → IsTextScope r
    by_default None e =
        subst IsTextScope (same_Some _ _ e)
        (record { default = λ v f. subst IsTextNamespace (same_Some _ _ f) h; namespaces = i.namespaces; datatypes = i.datatypes })
    by_default (Some v) e = absurd (none-some _ e)

types_text : (p l : List ℕ) (s r : Scope) → IsText l → IsTextScope s → with_datatypes p l s ≡ Some r → IsTextScope r
types_text p l s r h i e = by_test (may_stand_for_types p l) e
  where
    by_test : (b : Bool) → (if b then (with_one p l s.datatypes >>= λ all. Some (record s { datatypes = all })) else None) ≡ Some r → IsTextScope r
    by_test true e =
        let a = bind_some (with_one p l s.datatypes) _ e in
        subst IsTextScope (same_Some _ _ a.2) (record {
          default = i.default;
          namespaces = i.namespaces;
          datatypes = one_more IsText p l s.datatypes a.0 h i.datatypes a.1;
        })
    by_test false e = absurd (none-some _ e)

declare_text : (s r : Scope) (d : syntax.Declaration) → IsTextScope s → IsSpelledDeclaration d → declare s d ≡ Some r → IsTextScope r
declare_text s r (syntax.namespace p u) i h e = prefix_text p (uri_of u) s r (literal_text u h) i e
declare_text s r (syntax.default_namespace None u) i h e = default_text (uri_of u) s r (literal_text u h) i e
declare_text s r (syntax.default_namespace (Some p) u) i h e =
    let a = bind_some (with_default (uri_of u) s) _ e in
    prefix_text p (uri_of u) a.0 r (literal_text u h) (default_text (uri_of u) s a.0 (literal_text u h) i a.1) a.2
declare_text s r (syntax.datatypes p l) i h e = types_text p l s r h i e

declare_all_text : (s r : Scope) (ds : List syntax.Declaration) → IsTextScope s → AllByRecursion IsSpelledDeclaration ds → declare_all s ds ≡ Some r
    → IsTextScope r
declare_all_text s r [] i h e = subst IsTextScope (same_Some _ _ e) i
declare_all_text s r (d ∷ ds) i h e =
    let a = bind_some (declare s d) _ e in
    declare_all_text a.0 r ds (declare_text s a.0 d i h.0 a.1) h.1 a.2

nothing_text : IsTextScope nothing_declared
nothing_text = record {
  default = λ v e. absurd (none-some _ e);
  namespaces = λ p v e. absurd (none-some _ e);
  datatypes = λ p l e. absurd (none-some _ e);
}

-- ---- texts and names that are predefined

xml_text : IsText xml_uri
unfolding chars is_utf8 encode_utf8
xml_text = (IsUtf8-from_is_utf8 xml_uri refl, refl)

xsd_text : IsText xsd_uri
unfolding chars is_utf8 encode_utf8
xsd_text = (IsUtf8-from_is_utf8 xsd_uri refl, refl)

pub empty_text : IsText []
unfolding chars is_utf8 encode_utf8
empty_text = (IsUtf8-from_is_utf8 [] refl, refl)

string_name : IsName (codes "string")
unfolding chars is_utf8 encode_utf8
string_name = (IsUtf8-from_is_utf8 (codes "string") refl, refl)

token_name : IsName (codes "token")
unfolding chars is_utf8 encode_utf8
token_name = (IsUtf8-from_is_utf8 (codes "token") refl, refl)

-- ---- name classes

-- how deep parentheses nest if the class is a member or an except
abbrev enclosed : names.NameClass → ℕ
enclosed c = one_more_if (is_choice c || is_except c) (parentheses c)

one_more_most : (b : Bool) (n : ℕ) → one_more_if b n ≤ suc n
one_more_most true n = omega arith
one_more_most false n = omega arith

one_more_least : (b : Bool) (n : ℕ) → n ≤ one_more_if b n
one_more_least true n = omega arith
one_more_least false n = omega arith

first_least : (a b : Bool) (n : ℕ) → one_more_if b n ≤ one_more_if (a || b) n
first_least true b n = one_more_most b n
first_least false b n = omega arith

abbrev FitsIn : ℕ → names.NameClass → Type 0
FitsIn n c = HasNames c × (enclosed c ≤ n)

members_names : (n : ℕ) (cs : List names.NameClass) → AllByRecursion (FitsIn n) cs → HaveNames (class_list cs)
members_names n [] h = tt
members_names n (c ∷ cs) h = (h.0.0, members_names n cs h.1)

most : (a b n : ℕ) → a ≤ n → b ≤ n → max a b ≤ n
most a b n h i = omega (arith, h, i)

below : (a b n : ℕ) → a ≤ b → b ≤ n → a ≤ n
below a b n h i = omega (arith, h, i)

members_fit : (n : ℕ) (cs : List names.NameClass) → AllByRecursion (FitsIn n) cs → parentheses_among (class_list cs) ≤ n
members_fit n [] h = omega arith
members_fit n (c ∷ cs) h = most (enclosed c) (parentheses_among (class_list cs)) n h.0.1 (members_fit n cs h.1)

-- a choice of such classes
some_fit : (n : ℕ) (cs : List names.NameClass) → AllByRecursion (FitsIn n) cs
    → HasNames (some_of cs) × (parentheses (some_of cs) ≤ n) × (enclosed (some_of cs) ≤ suc n)
some_fit n [] h = (tt, omega arith, omega arith)
some_fit n (c ∷ []) h =
    let l = h.0.1 in
    let i = one_more_least (is_choice c || is_except c) (parentheses c) in
    (h.0.0, below (parentheses c) (enclosed c) n i l, omega (arith, l))
some_fit n (c ∷ (d ∷ cs)) h =
    let a = below (one_more_if (is_except c) (parentheses c)) (enclosed c) n (first_least (is_choice c) (is_except c) (parentheses c)) h.0.1 in
    let b = most (enclosed d) (parentheses_among (class_list cs)) n h.1.0.1 (members_fit n cs h.1.1) in
    let all = most (one_more_if (is_except c) (parentheses c)) (max (enclosed d) (parentheses_among (class_list cs))) n a b in
    ((h.0.0, h.1.0.0, members_names n cs h.1.1), all, in_one_more (parentheses (some_of (c ∷ (d ∷ cs)))) all)
  where
    in_one_more : (m : ℕ) → m ≤ n → suc m ≤ suc n
    in_one_more m l = omega (arith, l)

-- the class of the file tree fits the one of the syntax tree
abbrev Fits : List ℕ → syntax.NameClassAt written → syntax.NameClassAt applied → Type 0
Fits u c t = HasNames (places.class_in u t) × (parentheses (places.class_in u t) ≤ inside c) × (enclosed (places.class_in u t) ≤ around c)

namespace_text : (s : Scope) → IsTextScope s → (p : List ℕ) (v : Namespace) → namespace_in s p ≡ Some v → IsTextNamespace v
namespace_text s i p v e = by_test (bytes_eq p (codes "xml")) e
  where
    by_test : (b : Bool) → (if b then Some (given xml_uri) else s.namespaces p) ≡ Some v → IsTextNamespace v
    by_test true e = subst IsTextNamespace (same_Some _ _ e) xml_text
    by_test false e = i.namespaces p v e

default_of_text : (s : Scope) → IsTextScope s → IsTextNamespace (default_of s)
default_of_text s i = by_default s.default refl
  where
    by_default : (o : Option Namespace) → s.default ≡ o → IsTextNamespace (option_or inherited o)
    by_default None e = tt
    by_default (Some v) e = i.default v e

module _ (s : Scope) (i : IsTextScope s) where
  module _ (ns : Namespace) (ns-is : IsTextNamespace ns) (u : List ℕ) (u-is : IsText u) where
    name_spelled : (n : syntax.NameAt written) (m : syntax.NameAt applied) → name_in s ns n ≡ Some m → IsSpelledName n
        → IsText (uri_in u m.namespace) × IsName m.local
    name_spelled (syntax.unprefixed l) m e h =
        subst (λ (m : syntax.NameAt applied). IsText (uri_in u m.namespace) × IsName m.local) (same_Some _ _ e) (uri_text u ns u-is ns-is, h)
    name_spelled (syntax.prefixed p l) m e h =
        let a = bind_some (namespace_in s p) _ e in
        subst (λ (m : syntax.NameAt applied). IsText (uri_in u m.namespace) × IsName m.local) (same_Some _ _ a.2)
        (uri_text u a.0 u-is (namespace_text s i p a.0 a.1), h)

    mutual
      class_spelled : (c : syntax.NameClassAt written) (t : syntax.NameClassAt applied) → class_in s ns c ≡ Some t → IsSpelledClass c → Fits u c t
      class_spelled syntax.any_name t e h = subst (Fits u syntax.any_name) (same_Some _ _ e) (tt, omega arith, omega arith)
      class_spelled (syntax.any_except c) t e h =
          let a = bind_some (class_in s ns c) _ e in
          let f = class_spelled c a.0 a.1 h in
          let l = f.2 in
          subst (Fits u (syntax.any_except c)) (same_Some _ _ a.2) (f.0, l, omega (arith, l))
      class_spelled (syntax.ns_name p) t e h =
          let a = bind_some (namespace_in s p) _ e in
          subst (Fits u (syntax.ns_name p)) (same_Some _ _ a.2) (uri_text u a.0 u-is (namespace_text s i p a.0 a.1), omega arith, omega arith)
      class_spelled (syntax.ns_except p c) t e h =
          let a = bind_some (namespace_in s p) _ e in
          let b = bind_some (class_in s ns c) _ a.2 in
          let f = class_spelled c b.0 b.1 h in
          let l = f.2 in
          subst (Fits u (syntax.ns_except p c)) (same_Some _ _ b.2) ((uri_text u a.0 u-is (namespace_text s i p a.0 a.1), f.0), l, omega (arith, l))
      class_spelled (syntax.name_is n) t e h =
          let a = bind_some (name_in s ns n) _ e in
          subst (Fits u (syntax.name_is n)) (same_Some _ _ a.2) (name_spelled n a.0 a.1 h, omega arith, omega arith)
      class_spelled (syntax.one_of cs) t e h =
          let a = bind_some (classes_in s ns cs) _ e in
          subst (Fits u (syntax.one_of cs)) (same_Some _ _ a.2)
          (some_fit (around_all cs) (places.classes_in u a.0) (classes_spelled cs a.0 a.1 h (around_all cs) (omega arith)))

      classes_spelled : (cs : syntax.NameClassesAt written) (ts : syntax.NameClassesAt applied) → classes_in s ns cs ≡ Some ts → AreSpelledClasses cs → (n : ℕ)
          → around_all cs ≤ n → AllByRecursion (FitsIn n) (places.classes_in u ts)
      classes_spelled syntax.no_classes ts e h n l =
          subst (λ (ts : syntax.NameClassesAt applied). AllByRecursion (FitsIn n) (places.classes_in u ts)) (same_Some _ _ e) tt
      classes_spelled (syntax.class_and c cs) ts e h n l =
          let a = bind_some (class_in s ns c) _ e in
          let b = bind_some (classes_in s ns cs) _ a.2 in
          let f = class_spelled c a.0 a.1 h.0 in
          let k : around c ≤ n = omega (arith, l) in
          let m : around_all cs ≤ n = omega (arith, l) in
          subst (λ (ts : syntax.NameClassesAt applied). AllByRecursion (FitsIn n) (places.classes_in u ts)) (same_Some _ _ b.2)
          ((f.0, below (enclosed (places.class_in u a.0)) (around c) n f.2 k), classes_spelled cs b.0 b.1 h.1 n m)

  nested_spelled : (ns : Namespace) → IsTextNamespace ns → (c : syntax.NameClassAt written) (t : syntax.NameClassAt applied) → class_in s ns c ≡ Some t
      → IsSpelledClass c × (inside c ≤ nesting_limit) → IsWellSpelledClass t
  nested_spelled ns ns-is c t e h = λ u u-is.
      let f = class_spelled ns ns-is u u-is c t e h.0 in
      (f.0, below (parentheses (places.class_in u t)) (inside c) nesting_limit f.1 h.1)

  -- ---- patterns and components

  library_text : (p l : List ℕ) → library_in s p ≡ Some l → IsText l
  library_text p l e = by_test (bytes_eq p (codes "xsd")) e
    where
      by_test : (b : Bool) → (if b then Some xsd_uri else s.datatypes p) ≡ Some l → IsText l
      by_test true e = subst IsText (same_Some _ _ e) xsd_text
      by_test false e = i.datatypes p l e

  type_spelled : (d : syntax.DatatypeName written) (e : syntax.DatatypeName applied) → type_in s d ≡ Some e → IsWellSpelledName d → IsWellSpelledType e
  type_spelled syntax.string_type e f h = subst IsWellSpelledType (same_Some _ _ f) (empty_text, string_name)
  type_spelled syntax.token_type e f h = subst IsWellSpelledType (same_Some _ _ f) (empty_text, token_name)
  type_spelled (syntax.prefixed_type p l) e f h =
      let a = bind_some (library_in s p) _ f in
      subst IsWellSpelledType (same_Some _ _ a.2) (library_text p a.0 a.1, h)

  mention_text : (m : syntax.Mention written) (t : syntax.Mention applied) → mention_in s m ≡ Some t → IsText m.href → IsWellSpelledMention t
  mention_text m t e h =
      let a = bind_some (handed_on s m.inherit) _ e in
      subst IsWellSpelledMention (same_Some _ _ a.2) (h, handed m.inherit a.0 a.1)
    where
      handed : (o : Option (List ℕ)) (v : Namespace) → handed_on s o ≡ Some v → IsTextNamespace v
      handed None v e = subst IsTextNamespace (same_Some _ _ e) (default_of_text s i)
      handed (Some p) v e = namespace_text s i p v e

  mutual
    pattern_spelled : (p : syntax.PatternAt written) (t : syntax.PatternAt applied) → pattern_in s p ≡ Some t → IsSpelledPattern p → IsWellSpelledPattern t
    pattern_spelled (syntax.element c p) t e h =
        let a = bind_some (class_in s (default_of s) c) _ e in
        let b = bind_some (pattern_in s p) _ a.2 in
        subst IsWellSpelledPattern (same_Some _ _ b.2)
        (nested_spelled (default_of s) (default_of_text s i) c a.0 a.1 h.0, pattern_spelled p b.0 b.1 h.1)
    pattern_spelled (syntax.attribute c p) t e h =
        let a = bind_some (class_in s (given []) c) _ e in
        let b = bind_some (pattern_in s p) _ a.2 in
        subst IsWellSpelledPattern (same_Some _ _ b.2) (nested_spelled (given []) empty_text c a.0 a.1 h.0, pattern_spelled p b.0 b.1 h.1)
    pattern_spelled (syntax.list p) t e h =
        let a = bind_some (pattern_in s p) _ e in subst IsWellSpelledPattern (same_Some _ _ a.2) (pattern_spelled p a.0 a.1 h)
    pattern_spelled (syntax.mixed p) t e h =
        let a = bind_some (pattern_in s p) _ e in subst IsWellSpelledPattern (same_Some _ _ a.2) (pattern_spelled p a.0 a.1 h)
    pattern_spelled (syntax.optional p) t e h =
        let a = bind_some (pattern_in s p) _ e in subst IsWellSpelledPattern (same_Some _ _ a.2) (pattern_spelled p a.0 a.1 h)
    pattern_spelled (syntax.zero_or_more p) t e h =
        let a = bind_some (pattern_in s p) _ e in subst IsWellSpelledPattern (same_Some _ _ a.2) (pattern_spelled p a.0 a.1 h)
    pattern_spelled (syntax.one_or_more p) t e h =
        let a = bind_some (pattern_in s p) _ e in subst IsWellSpelledPattern (same_Some _ _ a.2) (pattern_spelled p a.0 a.1 h)
    pattern_spelled (syntax.ref n) t e h = subst IsWellSpelledPattern (same_Some _ _ e) h
    pattern_spelled (syntax.parent_ref n) t e h = subst IsWellSpelledPattern (same_Some _ _ e) h
    pattern_spelled syntax.empty t e h = subst IsWellSpelledPattern (same_Some _ _ e) tt
    pattern_spelled syntax.text t e h = subst IsWellSpelledPattern (same_Some _ _ e) tt
    pattern_spelled syntax.not_allowed t e h = subst IsWellSpelledPattern (same_Some _ _ e) tt
    pattern_spelled (syntax.value d v) t e h =
        let a = bind_some (type_in s d) _ e in subst IsWellSpelledPattern (same_Some _ _ a.2) (type_spelled d a.0 a.1 h.0, h.1)
    pattern_spelled (syntax.data_of d ps) t e h =
        let a = bind_some (type_in s d) _ e in subst IsWellSpelledPattern (same_Some _ _ a.2) (type_spelled d a.0 a.1 h.0, h.1)
    pattern_spelled (syntax.data_except d ps p) t e h =
        let a = bind_some (type_in s d) _ e in
        let b = bind_some (pattern_in s p) _ a.2 in
        subst IsWellSpelledPattern (same_Some _ _ b.2) ((type_spelled d a.0 a.1 h.0.0, h.0.1), pattern_spelled p b.0 b.1 h.1)
    pattern_spelled (syntax.external m) t e h =
        let a = bind_some (mention_in s m) _ e in subst IsWellSpelledPattern (same_Some _ _ a.2) (mention_text m a.0 a.1 h)
    pattern_spelled (syntax.grammar cs) t e h =
        let a = bind_some (components_in s cs) _ e in subst IsWellSpelledPattern (same_Some _ _ a.2) (components_spelled cs a.0 a.1 h)
    pattern_spelled (syntax.joined k ps) t e h =
        let a = bind_some (patterns_in s ps) _ e in subst IsWellSpelledPattern (same_Some _ _ a.2) (patterns_spelled ps a.0 a.1 h)

    patterns_spelled : (ps : syntax.PatternsAt written) (ts : syntax.PatternsAt applied) → patterns_in s ps ≡ Some ts → AreSpelledPatterns ps
        → AreWellSpelledPatterns ts
    patterns_spelled syntax.no_patterns ts e h = subst AreWellSpelledPatterns (same_Some _ _ e) tt
    patterns_spelled (syntax.pattern_and p ps) ts e h =
        let a = bind_some (pattern_in s p) _ e in
        let b = bind_some (patterns_in s ps) _ a.2 in
        subst AreWellSpelledPatterns (same_Some _ _ b.2) (pattern_spelled p a.0 a.1 h.0, patterns_spelled ps b.0 b.1 h.1)

    component_spelled : (c : syntax.ComponentAt written) (t : syntax.ComponentAt applied) → component_in s c ≡ Some t → IsSpelledComponent c
        → IsWellSpelledComponent t
    component_spelled (syntax.start m p) t e h =
        let a = bind_some (pattern_in s p) _ e in subst IsWellSpelledComponent (same_Some _ _ a.2) (pattern_spelled p a.0 a.1 h)
    component_spelled (syntax.define n m p) t e h =
        let a = bind_some (pattern_in s p) _ e in subst IsWellSpelledComponent (same_Some _ _ a.2) (h.0, pattern_spelled p a.0 a.1 h.1)
    component_spelled (syntax.div cs) t e h =
        let a = bind_some (components_in s cs) _ e in subst IsWellSpelledComponent (same_Some _ _ a.2) (components_spelled cs a.0 a.1 h)
    component_spelled (syntax.include m cs) t e h =
        let a = bind_some (mention_in s m) _ e in
        let b = bind_some (components_in s cs) _ a.2 in
        subst IsWellSpelledComponent (same_Some _ _ b.2) (mention_text m a.0 a.1 h.0, components_spelled cs b.0 b.1 h.1)

    components_spelled : (cs : syntax.ComponentsAt written) (ts : syntax.ComponentsAt applied) → components_in s cs ≡ Some ts → AreSpelledComponents cs
        → AreWellSpelledComponents ts
    components_spelled syntax.no_components ts e h = subst AreWellSpelledComponents (same_Some _ _ e) tt
    components_spelled (syntax.component_and c cs) ts e h =
        let a = bind_some (component_in s c) _ e in
        let b = bind_some (components_in s cs) _ a.2 in
        subst AreWellSpelledComponents (same_Some _ _ b.2) (component_spelled c a.0 a.1 h.0, components_spelled cs b.0 b.1 h.1)

  body_spelled : (b : syntax.Body) (t : FileTree) → body_in s b ≡ Some t → IsSpelledBody b → IsWellSpelledFile t
  body_spelled (syntax.pattern_body p) t e h =
      let a = bind_some (pattern_in s p) _ e in subst IsWellSpelledFile (same_Some _ _ a.2) (pattern_spelled p a.0 a.1 h)
  body_spelled (syntax.grammar_body cs) t e h =
      let a = bind_some (components_in s cs) _ e in subst IsWellSpelledFile (same_Some _ _ a.2) (components_spelled cs a.0 a.1 h)

-- ---- files

file_spelled : (f : syntax.File) (t : FileTree) → file_tree f ≡ Some t → IsSpelledFile f → IsWellSpelledFile t
unfolding file_tree
file_spelled f t e h =
    let a = bind_some (declare_all nothing_declared f.declarations) _ e in
    body_spelled a.0 (declare_all_text nothing_declared a.0 f.declarations nothing_text h.declarations a.1) f.body t a.2 h.body

-- the tree of a file that breaks no clause by itself
pub schema_file_spelled : (bytes : List ℕ) (t : FileTree) → IsSchemaFile bytes t → IsWellSpelledFile t
schema_file_spelled bytes t is =
    let all = fits (lexemes is.tokens) nesting_limit (tokens_spelled is.are.decoded is.are.are) is.tree.nesting in
    let f = (file is.tree.sentence nesting_limit (omega arith)).keeps all.0 all.1 in
    file_spelled is.tree.file t (made_where_applied is.tree.file t is.tree.kept is.tree.tree) f.1
