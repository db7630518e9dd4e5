-- A file has no tree exactly if it breaks a rule about declarations.
use Rattle.std.proofs.Common.{◌≡◌, ◌≢◌, ◌∙◌, ◌⊎◌, ap, sym, subst, refl, ℕ, List, [], ◌∷◌, Bool, true, false, not, ◌||◌, Option, Some, None, is_some, codes}
use Rattle.std.proofs.Common.{inl, inr, if◌then◌else◌}
use Rattle.std.proofs.lemmas.Bool.{false_from_ne_true, or_cases, or_left, or_right, true≢false}
use Rattle.std.proofs.lemmas.Option.{none-some}
use Rattle.std.proofs.lemmas.Slice.Eq.{bytes_eq-Decides}
use Rattle.std.specs.Str.{bytes_eq}
use Rattle.rng_model.proofs.Texts.{bytes_differ}
use Rattle.rng_model.specs.datatypes.Datatypes.{xsd_uri}
use Rattle.rng_model.specs.names.Lists.{Among, here, there}
use Rattle.rng_model.specs.names.Names.{xml_uri}
use Rattle.rnc_model.specs.grammar.Syntax as syntax
use Rattle.rnc_model.specs.grammar.Syntax.{Namespace, given}
use Rattle.rnc_model.specs.declarations.FileTree as tree
use Rattle.rnc_model.specs.declarations.FileTree.{FileTree}
use Rattle.rnc_model.specs.declarations.Declarations.{◌>>=◌, Scope, nothing_declared, uri_of, is_xml_uri, may_stand_for, may_stand_for_types, with_one}
use Rattle.rnc_model.specs.declarations.Declarations.{with_prefix}
use Rattle.rnc_model.specs.declarations.Declarations.{with_default, with_datatypes, option_none_else, declare_all, body_in, file_tree}
use Rattle.rnc_model.specs.declarations.DeclarationRules.{Declarable, namespace_prefix, datatype_prefix, default_namespace, declared_in, IsUndeclared}
use Rattle.rnc_model.specs.declarations.DeclarationRules.{IsTwiceIn}
use Rattle.rnc_model.specs.declarations.DeclarationRules.{at_first, later, IsPrefixIn, BreaksDeclarationRule, namespace_prefix_twice, datatype_prefix_twice}
use Rattle.rnc_model.specs.declarations.DeclarationRules.{default_namespace_twice, xml_as_another, xsd_as_another, xmlns_declared, namespace_prefix_undeclared}
use Rattle.rnc_model.specs.declarations.DeclarationRules.{datatype_prefix_undeclared}
use Rattle.rnc_model.specs.declarations.FaultyTokens as faulty
use Rattle.rnc_model.specs.declarations.FaultyTokens.{BreakDeclarationRule, IsUndeclaredPrefix}
use Rattle.rnc_grammar.proofs.UsedPrefixes.{is_known, no_body, stands_unknown}

-- ---- one table for everything that can be declared

abbrev is_declared : Scope → Declarable → Bool
is_declared s (namespace_prefix p) = is_some (s.namespaces p)
is_declared s (datatype_prefix p) = is_some (s.datatypes p)
is_declared s default_namespace = is_some s.default

-- a datatype prefix is declared only as a literal
abbrev text_of : syntax.Uri → List ℕ
text_of syntax.inherit = []
text_of (syntax.literal u) = u

abbrev may_be : Declarable → syntax.Uri → Bool
may_be (namespace_prefix p) u = may_stand_for p (uri_of u)
may_be (datatype_prefix p) u = may_stand_for_types p (text_of u)
may_be default_namespace u = true

-- the scope with this declared in addition, as this uri
abbrev with_another : Scope → Declarable → syntax.Uri → Option Scope
with_another s (namespace_prefix p) u = with_prefix p (uri_of u) s
with_another s (datatype_prefix p) u = with_datatypes p (text_of u) s
with_another s default_namespace u = with_default (uri_of u) s

abbrev with_all : Scope → List (Declarable × syntax.Uri) → Option Scope
with_all s [] = Some s
with_all s (e ∷ es) = with_another s e.0 e.1 >>= λ s. with_all s es

same_after : {A B : Type 0} (o : Option A) (f g : A → Option B) → ((x : A) → f x ≡ g x) → (o >>= f) ≡ (o >>= g)
same_after None f g e = refl
same_after (Some x) f g e = e x

same_after_two : {A B C : Type 0} (o : Option A) (h : A → Option B) (f g : B → Option C) → ((x : B) → f x ≡ g x)
    → ((o >>= h) >>= f) ≡ (o >>= λ x. h x >>= g)
same_after_two None h f g e = refl
same_after_two (Some x) h f g e = same_after (h x) f g e

-- a list of declarations declares what each declares, in order
all_declared : (ds : List syntax.Declaration) (s : Scope) → declare_all s ds ≡ with_all s (declared_in ds)
all_declared [] s = refl
all_declared (syntax.namespace p u ∷ ds) s = same_after (with_prefix p (uri_of u) s) _ _ (λ s. all_declared ds s)
all_declared (syntax.default_namespace None u ∷ ds) s = same_after (with_default (uri_of u) s) _ _ (λ s. all_declared ds s)
all_declared (syntax.default_namespace (Some p) u ∷ ds) s =
    same_after_two (with_default (uri_of u) s) (λ s. with_prefix p (uri_of u) s) _ _ (λ s. all_declared ds s)
all_declared (syntax.datatypes p u ∷ ds) s = same_after (with_datatypes p u s) _ _ (λ s. all_declared ds s)

-- ---- one declaration more

abbrev same : Declarable → Declarable → Bool
same (namespace_prefix p) (namespace_prefix q) = bytes_eq p q
same (namespace_prefix p) (datatype_prefix q) = false
same (namespace_prefix p) default_namespace = false
same (datatype_prefix p) (namespace_prefix q) = false
same (datatype_prefix p) (datatype_prefix q) = bytes_eq p q
same (datatype_prefix p) default_namespace = false
same default_namespace (namespace_prefix q) = false
same default_namespace (datatype_prefix q) = false
same default_namespace default_namespace = true

same_itself : (x : Declarable) → same x x ≡ true
same_itself (namespace_prefix p) = (bytes_eq-Decides p p).1 refl
same_itself (datatype_prefix p) = (bytes_eq-Decides p p).1 refl
same_itself default_namespace = refl

same_is : (x y : Declarable) → same x y ≡ true → x ≡ y
same_is (namespace_prefix p) (namespace_prefix q) e = ap namespace_prefix ((bytes_eq-Decides p q).0 e)
same_is (namespace_prefix p) (datatype_prefix q) e = absurd (true≢false (sym e))
same_is (namespace_prefix p) default_namespace e = absurd (true≢false (sym e))
same_is (datatype_prefix p) (namespace_prefix q) e = absurd (true≢false (sym e))
same_is (datatype_prefix p) (datatype_prefix q) e = ap datatype_prefix ((bytes_eq-Decides p q).0 e)
same_is (datatype_prefix p) default_namespace e = absurd (true≢false (sym e))
same_is default_namespace (namespace_prefix q) e = absurd (true≢false (sym e))
same_is default_namespace (datatype_prefix q) e = absurd (true≢false (sym e))
same_is default_namespace default_namespace e = refl

-- the result of one declaration more: it is not allowed, it is declared already, or it is declared then
data AfterOne (s : Scope) (x : Declarable) (u : syntax.Uri) : Option Scope → Type 0 where
  may_not : may_be x u ≡ false → AfterOne s x u None
  was_there : is_declared s x ≡ true → AfterOne s x u None
  is_there : {t : Scope} → may_be x u ≡ true → is_declared s x ≡ false → ((y : Declarable) → is_declared t y ≡ (same x y || is_declared s y))
      → AfterOne s x u (Some t)

some_either : {A : Type 0} (b : Bool) (a : A) (o : Option A) → is_some (if b then Some a else o) ≡ (b || is_some o)
some_either true a o = refl
some_either false a o = refl

-- the same for one table
data InTable {A : Type 0} (p : List ℕ) (a : A) (table : List ℕ → Option A) : Option (List ℕ → Option A) → Type 0 where
  was_in : is_some (table p) ≡ true → InTable p a table None
  is_in : is_some (table p) ≡ false → InTable p a table (Some (λ q. if bytes_eq p q then Some a else table q))

in_table : {A : Type 0} (p : List ℕ) (a : A) (table : List ℕ → Option A) → InTable p a table (with_one p a table)
in_table p a table = by (is_some (table p)) refl where
  by : (b : Bool) → is_some (table p) ≡ b → InTable p a table (if not b then Some (λ q. if bytes_eq p q then Some a else table q) else None)
  by true e = was_in e
  by false e = is_in e

prefix_after : (s : Scope) (p : List ℕ) (u : syntax.Uri) → AfterOne s (namespace_prefix p) u (with_prefix p (uri_of u) s)
prefix_after s p u = by (may_stand_for p (uri_of u)) refl (with_one p (uri_of u) s.namespaces) (in_table p (uri_of u) s.namespaces) where
  more : (y : Declarable) → is_declared (record s { namespaces = λ q. if bytes_eq p q then Some (uri_of u) else s.namespaces q }) y
      ≡ (same (namespace_prefix p) y || is_declared s y)
  more (namespace_prefix q) = some_either (bytes_eq p q) (uri_of u) (s.namespaces q)
  more (datatype_prefix q) = refl
  more default_namespace = refl

  by : (b : Bool) → may_stand_for p (uri_of u) ≡ b → (o : Option (List ℕ → Option Namespace)) → InTable p (uri_of u) s.namespaces o
      → AfterOne s (namespace_prefix p) u (if b then (o >>= λ all. Some (record s { namespaces = all })) else None)
  by false e o i = may_not e
  by true e None (was_in h) = was_there h
  by true e (Some t) (is_in h) = is_there e h more

datatypes_after : (s : Scope) (p : List ℕ) (u : syntax.Uri) → AfterOne s (datatype_prefix p) u (with_datatypes p (text_of u) s)
datatypes_after s p u = by (may_stand_for_types p (text_of u)) refl (with_one p (text_of u) s.datatypes) (in_table p (text_of u) s.datatypes) where
  more : (y : Declarable) → is_declared (record s { datatypes = λ q. if bytes_eq p q then Some (text_of u) else s.datatypes q }) y
      ≡ (same (datatype_prefix p) y || is_declared s y)
  more (namespace_prefix q) = refl
  more (datatype_prefix q) = some_either (bytes_eq p q) (text_of u) (s.datatypes q)
  more default_namespace = refl

  by : (b : Bool) → may_stand_for_types p (text_of u) ≡ b → (o : Option (List ℕ → Option (List ℕ))) → InTable p (text_of u) s.datatypes o
      → AfterOne s (datatype_prefix p) u (if b then (o >>= λ all. Some (record s { datatypes = all })) else None)
  by false e o i = may_not e
  by true e None (was_in h) = was_there h
  by true e (Some t) (is_in h) = is_there e h more

default_after : (s : Scope) (u : syntax.Uri) → AfterOne s default_namespace u (with_default (uri_of u) s)
default_after s u = by s.default refl where
  more : (y : Declarable) → is_declared (record s { default = Some (uri_of u) }) y ≡ (same default_namespace y || is_declared s y)
  more (namespace_prefix q) = refl
  more (datatype_prefix q) = refl
  more default_namespace = refl

  by : (o : Option Namespace) → s.default ≡ o → AfterOne s default_namespace u (option_none_else o (Some (record s { default = Some (uri_of u) })))
  by None e = is_there refl (ap is_some e) more
  by (Some n) e = was_there (ap is_some e)

after_one : (s : Scope) (x : Declarable) (u : syntax.Uri) → AfterOne s x u (with_another s x u)
after_one s (namespace_prefix p) u = prefix_after s p u
after_one s (datatype_prefix p) u = datatypes_after s p u
after_one s default_namespace u = default_after s u

-- ---- many declarations more

-- all of these are allowed, none is declared before, all are distinct, and then exactly they are declared in addition
record AreThere (s t : Scope) (es : List (Declarable × syntax.Uri)) : Type 0 where
  may : (x : Declarable) (u : syntax.Uri) → Among (x, u) es → may_be x u ≡ true
  new : (x : Declarable) (u : syntax.Uri) → Among (x, u) es → is_declared s x ≡ false
  once : (x : Declarable) → ¬ (IsTwiceIn x es)
  now : (x : Declarable) (u : syntax.Uri) → Among (x, u) es → is_declared t x ≡ true
  still : (x : Declarable) → is_declared s x ≡ true → is_declared t x ≡ true
  only : (x : Declarable) → is_declared t x ≡ true → ((u : syntax.Uri) × Among (x, u) es) ⊎ (is_declared s x ≡ true)

data AfterAll (s : Scope) (es : List (Declarable × syntax.Uri)) : Option Scope → Type 0 where
  one_may_not : {x : Declarable} {u : syntax.Uri} → Among (x, u) es → may_be x u ≡ false → AfterAll s es None
  one_was_there : {x : Declarable} {u : syntax.Uri} → Among (x, u) es → is_declared s x ≡ true → AfterAll s es None
  two_are_one : {x : Declarable} → IsTwiceIn x es → AfterAll s es None
  are_there : {t : Scope} → AreThere s t es → AfterAll s es (Some t)

module _ (s t : Scope) (x : Declarable) (u : syntax.Uri) (may : may_be x u ≡ true) (new : is_declared s x ≡ false)
    (more : (y : Declarable) → is_declared t y ≡ (same x y || is_declared s y)) (es : List (Declarable × syntax.Uri)) where
  still_there : (y : Declarable) → is_declared s y ≡ true → is_declared t y ≡ true
  still_there y e = more y ∙ or_right (same x y) (is_declared s y) e

  there_now : is_declared t x ≡ true
  there_now = more x ∙ or_left (same x x) (is_declared s x) (same_itself x)

  was_new : (y : Declarable) → is_declared t y ≡ false → is_declared s y ≡ false
  was_new y e = false_from_ne_true (is_declared s y) (λ d. true≢false (sym (still_there y d) ∙ e))

  was_or_is : (y : Declarable) → is_declared t y ≡ true → (x ≡ y) ⊎ (is_declared s y ≡ true)
  was_or_is y e = elim (or_cases (same x y) (is_declared s y) (sym (more y) ∙ e)) [
    | inl e ↦ inl (same_is x y e)
    | inr e ↦ inr e
  ]

  module _ (v : Scope) (h : AreThere t v es) where
    may_too : (y : Declarable) (w : syntax.Uri) → Among (y, w) ((x, u) ∷ es) → may_be y w ≡ true
    may_too y w here = may
    may_too y w (there a) = h.may y w a

    new_too : (y : Declarable) (w : syntax.Uri) → Among (y, w) ((x, u) ∷ es) → is_declared s y ≡ false
    new_too y w here = new
    new_too y w (there a) = was_new y (h.new y w a)

    once_too : (y : Declarable) → ¬ (IsTwiceIn y ((x, u) ∷ es))
    once_too y (at_first a) = true≢false (sym there_now ∙ h.new x _ a)
    once_too y (later a) = h.once y a

    now_too : (y : Declarable) (w : syntax.Uri) → Among (y, w) ((x, u) ∷ es) → is_declared v y ≡ true
    now_too y w here = h.still x there_now
    now_too y w (there a) = h.now y w a

    only_too : (y : Declarable) → is_declared v y ≡ true → ((w : syntax.Uri) × Among (y, w) ((x, u) ∷ es)) ⊎ (is_declared s y ≡ true)
    only_too y e = elim (h.only y e) [
      | inl a ↦ inl (a.0, there a.1)
      | inr e ↦ elim (was_or_is y e) [
        | inl is ↦ inl (u, subst (λ y. Among (y, u) ((x, u) ∷ es)) is here)
        | inr e ↦ inr e
      ]
    ]

    there_too : AreThere s v ((x, u) ∷ es)
    there_too = record { may = may_too; new = new_too; once = once_too; now = now_too; still = λ y e. h.still y (still_there y e); only = only_too }

  one_before : (o : Option Scope) → AfterAll t es o → AfterAll s ((x, u) ∷ es) o
  one_before None (one_may_not a e) = one_may_not (there a) e
  one_before None (one_was_there {x = y} {u = w} a e) = elim (was_or_is y e) [
    | inl is ↦ two_are_one (at_first (subst (λ y. Among (y, w) es) (sym is) a))
    | inr e ↦ one_was_there (there a) e
  ]
  one_before None (two_are_one a) = two_are_one (later a)
  one_before (Some v) (are_there h) = are_there (there_too v h)

all_after_one : (s : Scope) (x : Declarable) (u : syntax.Uri) (es : List (Declarable × syntax.Uri)) → ((t : Scope) → AfterAll t es (with_all t es))
    → (o : Option Scope) → AfterOne s x u o → AfterAll s ((x, u) ∷ es) (o >>= λ s. with_all s es)
all_after_one s x u es rest None (may_not e) = one_may_not here e
all_after_one s x u es rest None (was_there e) = one_was_there here e
all_after_one s x u es rest (Some t) (is_there may new more) = one_before s t x u may new more es (with_all t es) (rest t)

after_all : (es : List (Declarable × syntax.Uri)) (s : Scope) → AfterAll s es (with_all s es)
after_all [] s = are_there (record {
  may = λ x u a. elim a [ ];
  new = λ x u a. elim a [ ];
  once = λ x a. elim a [ ];
  now = λ x u a. elim a [ ];
  still = λ x e. e;
  only = λ x e. inr e;
})
after_all ((x, u) ∷ es) s = all_after_one s x u es (λ t. after_all es t) (with_another s x u) (after_one s x u)

-- ---- what may be declared, and what is declared

xml_is : (u : syntax.Uri) → may_be (namespace_prefix (codes "xml")) u ≡ true → u ≡ syntax.literal xml_uri
xml_is syntax.inherit e = absurd (true≢false (sym e))
xml_is (syntax.literal u) e = ap syntax.literal ((bytes_eq-Decides u xml_uri).0 e)

xsd_is : (u : syntax.Uri) → may_be (datatype_prefix (codes "xsd")) u ≡ true → u ≡ syntax.literal xsd_uri
xsd_is syntax.inherit e = absurd (true≢false (sym e))
xsd_is (syntax.literal u) e = ap syntax.literal ((bytes_eq-Decides u xsd_uri).0 e)

unknown_namespace : (s : Scope) (p : List ℕ) → p ≢ codes "xml" → is_known s (namespace_prefix p) ≡ is_declared s (namespace_prefix p)
unknown_namespace s p n = ap (λ b. is_some (if b then Some (given xml_uri) else s.namespaces p)) (bytes_differ p (codes "xml") n)

unknown_datatypes : (s : Scope) (p : List ℕ) → p ≢ codes "xsd" → is_known s (datatype_prefix p) ≡ is_declared s (datatype_prefix p)
unknown_datatypes s p n = ap (λ b. is_some (if b then Some xsd_uri else s.datatypes p)) (bytes_differ p (codes "xsd") n)

none_at_first : (x : Declarable) → is_declared nothing_declared x ≡ false
none_at_first (namespace_prefix p) = refl
none_at_first (datatype_prefix p) = refl
none_at_first default_namespace = refl

-- ---- a file that breaks a rule has no tree

module _ (f : syntax.File) (s : Scope) (h : AreThere nothing_declared s (declared_in f.declarations)) where
  not_declared : (x : Declarable) → IsUndeclared x f.declarations → is_declared s x ≡ false
  not_declared x none = false_from_ne_true (is_declared s x) (λ e. elim (h.only x e) [
    | inl a ↦ none a.0 a.1
    | inr e ↦ true≢false (sym e ∙ none_at_first x)
  ])

  no_tree : BreaksDeclarationRule f → body_in s f.body ≡ None
  no_tree (namespace_prefix_twice {p} a) = absurd (h.once (namespace_prefix p) a)
  no_tree (datatype_prefix_twice {p} a) = absurd (h.once (datatype_prefix p) a)
  no_tree (default_namespace_twice a) = absurd (h.once default_namespace a)
  no_tree (xml_as_another {u} a n) = absurd (n (xml_is u (h.may _ u a)))
  no_tree (xsd_as_another {u} a n) = absurd (n (xsd_is u (h.may _ u a)))
  no_tree (xmlns_declared {u} a) = absurd (true≢false (sym (h.may _ u a)))
  no_tree (namespace_prefix_undeclared {p} a n none) =
      no_body s f.body (namespace_prefix p) a (unknown_namespace s p n ∙ not_declared (namespace_prefix p) none)
  no_tree (datatype_prefix_undeclared {p} a n none) =
      no_body s f.body (datatype_prefix p) a (unknown_datatypes s p n ∙ not_declared (datatype_prefix p) none)

none_after : (f : syntax.File) (o : Option Scope) → AfterAll nothing_declared (declared_in f.declarations) o → BreaksDeclarationRule f
    → (o >>= λ s. body_in s f.body) ≡ None
none_after f None h b = refl
none_after f (Some s) (are_there h) b = no_tree f s h b

file_tree_is : (f : syntax.File) → file_tree f ≡ (with_all nothing_declared (declared_in f.declarations) >>= λ s. body_in s f.body)
unfolding file_tree
file_tree_is f = ap (λ o. o >>= λ s. body_in s f.body) (all_declared f.declarations nothing_declared)

pub none_where_broken : (f : syntax.File) → BreaksDeclarationRule f → file_tree f ≡ None
none_where_broken f b =
    file_tree_is f ∙ none_after f (with_all nothing_declared (declared_in f.declarations)) (after_all (declared_in f.declarations) nothing_declared) b

-- a file that has a tree breaks no rule
pub kept_where_tree : (f : syntax.File) (t : FileTree) → file_tree f ≡ Some t → ¬ (BreaksDeclarationRule f)
kept_where_tree f t e b = none-some t (sym (none_where_broken f b) ∙ e)

-- ---- a file that has no tree breaks a rule

module _ (f : syntax.File) where
  twice_broken : (x : Declarable) → IsTwiceIn x (declared_in f.declarations) → BreaksDeclarationRule f
  twice_broken (namespace_prefix p) a = namespace_prefix_twice a
  twice_broken (datatype_prefix p) a = datatype_prefix_twice a
  twice_broken default_namespace a = default_namespace_twice a

  may_not_broken : (x : Declarable) (u : syntax.Uri) → Among (x, u) (declared_in f.declarations) → may_be x u ≡ false → BreaksDeclarationRule f
  may_not_broken (namespace_prefix p) u a e = by (bytes_eq p (codes "xml")) refl (bytes_eq p (codes "xmlns")) refl e where
    by : (b : Bool) → bytes_eq p (codes "xml") ≡ b → (c : Bool) → bytes_eq p (codes "xmlns") ≡ c
        → (if b then is_xml_uri (uri_of u) else (if c then false else true)) ≡ false → BreaksDeclarationRule f
    by true is c d e =
        xml_as_another (subst (λ p. Among (namespace_prefix p, u) (declared_in f.declarations)) ((bytes_eq-Decides p (codes "xml")).0 is) a)
        (λ own. true≢false (subst (λ u. is_xml_uri (uri_of u) ≡ false) own e))
    by false d true is e =
        xmlns_declared (subst (λ p. Among (namespace_prefix p, u) (declared_in f.declarations)) ((bytes_eq-Decides p (codes "xmlns")).0 is) a)
    by false d false c e = absurd (true≢false e)
  may_not_broken (datatype_prefix p) u a e = by (bytes_eq p (codes "xsd")) refl e where
    by : (b : Bool) → bytes_eq p (codes "xsd") ≡ b → (if b then bytes_eq (text_of u) xsd_uri else true) ≡ false → BreaksDeclarationRule f
    by true is e =
        xsd_as_another (subst (λ p. Among (datatype_prefix p, u) (declared_in f.declarations)) ((bytes_eq-Decides p (codes "xsd")).0 is) a)
        (λ own. true≢false (subst (λ u. bytes_eq (text_of u) xsd_uri ≡ false) own e))
    by false d e = absurd (true≢false e)
  may_not_broken default_namespace u a e = absurd (true≢false e)

  module _ (s : Scope) (h : AreThere nothing_declared s (declared_in f.declarations)) where
    undeclared : (x : Declarable) → is_declared s x ≡ false → IsUndeclared x f.declarations
    undeclared x e u a = true≢false (sym (h.now x u a) ∙ e)

    unknown_broken : (x : Declarable) → IsPrefixIn x f.body → is_known s x ≡ false → BreaksDeclarationRule f
    unknown_broken (namespace_prefix p) a e =
        let other : p ≢ codes "xml" = λ is. true≢false (subst (λ p. is_known s (namespace_prefix p) ≡ false) is e) in
        namespace_prefix_undeclared a other (undeclared (namespace_prefix p) (sym (unknown_namespace s p other) ∙ e))
    unknown_broken (datatype_prefix p) a e =
        let other : p ≢ codes "xsd" = λ is. true≢false (subst (λ p. is_known s (datatype_prefix p) ≡ false) is e) in
        datatype_prefix_undeclared a other (undeclared (datatype_prefix p) (sym (unknown_datatypes s p other) ∙ e))
    unknown_broken default_namespace a e = absurd (true≢false e)

  broken_after : (o : Option Scope) → AfterAll nothing_declared (declared_in f.declarations) o → (o >>= λ s. body_in s f.body) ≡ None
      → BreaksDeclarationRule f
  broken_after None (one_may_not {x} {u} a e) n = may_not_broken x u a e
  broken_after None (one_was_there {x} {u} a e) n = absurd (true≢false (sym e ∙ none_at_first x))
  broken_after None (two_are_one {x} a) n = twice_broken x a
  broken_after (Some s) (are_there h) n = let found = stands_unknown s f.body n in unknown_broken s h found.0 found.1 found.2

  pub broken_where_none : file_tree f ≡ None → BreaksDeclarationRule f
  broken_where_none e =
      broken_after (with_all nothing_declared (declared_in f.declarations)) (after_all (declared_in f.declarations) nothing_declared) (sym (file_tree_is f) ∙ e)

-- ---- declarations one by one, and the prefixes after them

abbrev alone : List syntax.Declaration → syntax.File
alone ds = record { declarations = ds; body = syntax.grammar_body syntax.no_components }

alone_tree : (ds : List syntax.Declaration) → file_tree (alone ds) ≡ (declare_all nothing_declared ds >>= λ s. body_in s (alone ds).body)
unfolding file_tree
alone_tree ds = refl

-- declarations that cannot be applied break a rule
pub broken_where_stuck : (ds : List syntax.Declaration) → declare_all nothing_declared ds ≡ None → BreakDeclarationRule ds
broken_where_stuck ds e = broken_where_none (alone ds) (alone_tree ds ∙ ap (λ o. o >>= λ s. body_in s (alone ds).body) e)

-- declarations that can be applied break none
pub kept_where_applied : (ds : List syntax.Declaration) (s : Scope) → declare_all nothing_declared ds ≡ Some s → ¬ (BreakDeclarationRule ds)
kept_where_applied ds s e =
    kept_where_tree (alone ds) (tree.grammar_file syntax.no_components) (alone_tree ds ∙ ap (λ o. o >>= λ s. body_in s (alone ds).body) e)

are_applied : (s : Scope) (es : List (Declarable × syntax.Uri)) (o : Option Scope) → o ≡ Some s → AfterAll nothing_declared es o → AreThere nothing_declared s es
are_applied s es None e after = absurd (none-some s e)
are_applied s es (Some t) e (are_there h) = let same : t ≡ s = cc in subst (λ t. AreThere nothing_declared t es) same h

module _ (ds : List syntax.Declaration) (s : Scope) (applied : declare_all nothing_declared ds ≡ Some s) where
  applied_there : AreThere nothing_declared s (declared_in ds)
  applied_there =
      are_applied s (declared_in ds) (with_all nothing_declared (declared_in ds)) (sym (all_declared ds nothing_declared) ∙ applied)
      (after_all (declared_in ds) nothing_declared)

  -- a prefix that has no uri is not declared
  pub undeclared_where_unknown : (x : Declarable) → is_known s x ≡ false → IsUndeclaredPrefix ds x
  undeclared_where_unknown (namespace_prefix p) e =
      let other : p ≢ codes "xml" = λ is. true≢false (subst (λ p. is_known s (namespace_prefix p) ≡ false) is e) in
      faulty.namespace other (undeclared (alone ds) s applied_there (namespace_prefix p) (sym (unknown_namespace s p other) ∙ e))
  undeclared_where_unknown (datatype_prefix p) e =
      let other : p ≢ codes "xsd" = λ is. true≢false (subst (λ p. is_known s (datatype_prefix p) ≡ false) is e) in
      faulty.datatypes other (undeclared (alone ds) s applied_there (datatype_prefix p) (sym (unknown_datatypes s p other) ∙ e))
  undeclared_where_unknown default_namespace e = absurd (true≢false e)

  -- a prefix that has one is declared
  pub declared_where_known : (x : Declarable) → is_known s x ≡ true → ¬ (IsUndeclaredPrefix ds x)
  declared_where_known (namespace_prefix p) e (faulty.namespace n none) =
      true≢false (sym e ∙ unknown_namespace s p n ∙ not_declared (alone ds) s applied_there (namespace_prefix p) none)
  declared_where_known (datatype_prefix p) e (faulty.datatypes n none) =
      true≢false (sym e ∙ unknown_datatypes s p n ∙ not_declared (alone ds) s applied_there (datatype_prefix p) none)
  declared_where_known default_namespace e u = elim u [ ]

  -- if another rule is broken, a prefix of the body has no uri
  pub unknown_where_broken : (f : syntax.File) → f.declarations ≡ ds → BreaksDeclarationRule f
      → (x : Declarable) × IsPrefixIn x f.body × (is_known s x ≡ false)
  unknown_where_broken f same b = stands_unknown s f.body (sym (unbody (declare_all nothing_declared f.declarations) (ap (declare_all nothing_declared) same ∙ applied))
      ∙ tree_of_file ∙ none_where_broken f b)
    where
      unbody : (o : Option Scope) → o ≡ Some s → (o >>= λ s. body_in s f.body) ≡ body_in s f.body
      unbody o e = ap (λ o. o >>= λ s. body_in s f.body) e

      tree_of_file : (declare_all nothing_declared f.declarations >>= λ s. body_in s f.body) ≡ file_tree f
      tree_of_file = ap (λ o. o >>= λ s. body_in s f.body) (all_declared f.declarations nothing_declared) ∙ sym (file_tree_is f)
