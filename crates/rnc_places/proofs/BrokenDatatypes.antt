-- The number that is found is the one of the name of the first datatype that breaks the clause.
use Rattle.std.proofs.Common.{◌≡◌, ◌≢◌, ◌∙◌, ap, ap₂, sym, subst, refl, ℕ, zero, suc, ◌+◌, ◌-◌, ◌<◌, List, [], ◌∷◌, ◌++◌, map, length, Bool, true, false, not, ◌&&◌}
use Rattle.std.proofs.Common.{Option, Some, None, Result, Ok, Err, IfOk, is_some, is_none, option_map, append_assoc, arith, if◌then◌else◌, codes}
use Rattle.std.proofs.lemmas.Bool.{true≢false}
use Rattle.std.proofs.lemmas.List.{append-nil, length-append}
use Rattle.std.proofs.lemmas.Option.{none-some}
use Rattle.std.proofs.lemmas.Slice.Eq.{bytes_eq-Decides}
use Rattle.std.specs.Bool.{IsTrue}
use Rattle.std.specs.List.{slice_get}
use Rattle.std.specs.Str.{bytes_eq}
use Rattle.rng_model.specs.datatypes.Datatypes.{Meaning, type_named, xsd_uri}
use Rattle.rng_model.specs.declared.type_set.TypeSet.{TypeSet}
use Rattle.rng_model.specs.declared.type_set.TypeSet.TheVariants as sets
use Rattle.rng_model.specs.names.Lists.{Among, here, there}
use Rattle.rng_model.specs.simple.Tree.{Datatype}
use Rattle.rng_model.specs.xsd.TypeSets.{IsKnownIn, IsValueIn, meaning_in, takes_values_in, tests_in}
use Rattle.rnc_grammar.proofs.AppliedTrees.{applied_where_made, made_where_applied}
use Rattle.rnc_grammar.proofs.DeclarationRules.{undeclared_where_unknown}
use Rattle.rnc_model.specs.declarations.AppliedDeclarations.{declared_library, library_by, tree_of_file, type_by}
use Rattle.rnc_model.specs.declarations.DeclarationRules.{BreaksDeclarationRule, datatype_prefix, declared_in, IsUndeclared}
use Rattle.rnc_model.specs.declarations.Declarations.{◌>>=◌, Scope, body_in, declare, declare_all, file_tree, library_in, nothing_declared, option_or}
use Rattle.rnc_model.specs.declarations.FaultyTokens as faulty
use Rattle.rnc_model.specs.declarations.FaultyTokens.{IsFirstAt, IsUndeclaredPrefix}
use Rattle.rnc_model.specs.declarations.FileTree as file
use Rattle.rnc_model.specs.declarations.FileTree.{FileTree}
use Rattle.rnc_model.specs.declarations.TokenUses.{Use, namespace_of, data_of, value_of, in_body}
use Rattle.rnc_model.specs.grammar.Grammar as grammar
use Rattle.rnc_model.specs.grammar.Grammar.{AreDeclarations, IsBody, IsFile}
use Rattle.rnc_model.specs.grammar.Syntax as syntax
use Rattle.rnc_model.specs.grammar.Syntax.{written, Declaration, File}
use Rattle.rnc_model.specs.declared.token.Sign.TheVariants.{Tilde}
use Rattle.rnc_model.specs.loading.DatatypePlaces as places
use Rattle.rnc_model.specs.loading.DatatypePlaces.{IsBrokenUse, IsBrokenDatatype, datatype_by}
use Rattle.rnc_model.specs.declared.token.Token as declared
use Rattle.rnc_model.specs.loading.SchemaFile.{IsFileTree}
use Rattle.rnc_model.specs.tokens.CutTokens.{tokens_of}
use Rattle.rnc_model.specs.tokens.Cut.{Lexeme, lexemes}
use Rattle.rng_model.specs.declared.fault.OutOfMemory.{OutOfMemory}
use Rattle.rnc_places.specs.declared.prefixes.Part.TheVariants.{Body}
use Rattle.rnc_places.specs.plain.BrokenDatatypes.{applied, broken_number, datatype_in, first_of_all, is_broken, library_of}
use Rattle.rnc_places.specs.plain.DatatypeNumbers.{may_break, name_number, names, uses_of_body}
use Rattle.rnc_places.specs.plain.FaultNumbers.{behind_declaration}
use Rattle.rnc_places.specs.views.Told.{IsBrokenNumber}
use Rattle.rnc_places.proofs.FirstFault.{declaration_behind}
use Rattle.rnc_places.proofs.PrefixMarks.{is_counted, kept, kept_in_body, names_of_body}
use Rattle.rnc_syntax.proofs.CompletenessFiles.{body_begins, declarations_no_tilde}
use Rattle.rnc_syntax.proofs.Lexemes.{all_lexemes}
use Rattle.rnc_syntax.specs.plain.Combinators.{follow}
use Rattle.rnc_syntax.specs.plain.Reading.{lexemes_in}

-- ---- the first one in a list of uses

record IsFirstPassing (test : Use → Bool) (us : List (Option Use)) (number : ℕ) : Type 0 where
  pub index : ℕ
  pub number_is : number ≡ suc index
  pub mark : Use
  pub mark_is : slice_get us index ≡ Some (Some mark)
  pub passes : test mark ≡ true
  pub first : (k : ℕ) (other : Use) → k < index → slice_get us k ≡ Some (Some other) → test other ≡ false

abbrev NonePasses : (Use → Bool) → List (Option Use) → Type 0
NonePasses test us = (k : ℕ) (u : Use) → slice_get us k ≡ Some (Some u) → test u ≡ false

module _ (test : Use → Bool) where
  later : (m : Option Use) (us : List (Option Use)) (number : ℕ) → ((u : Use) → m ≡ Some u → test u ≡ false) → IsFirstPassing test us number
      → IsFirstPassing test (m ∷ us) (suc number)
  later m us number fails f = record {
    index = suc f.index;
    number_is = ap suc f.number_is;
    mark = f.mark;
    mark_is = f.mark_is;
    passes = f.passes;
    first = first;
  }
    where
      first : (k : ℕ) (other : Use) → k < suc f.index → slice_get (m ∷ us) k ≡ Some (Some other) → test other ≡ false
      first zero other less e = let same : m ≡ Some other = cc in fails other same
      first (suc k) other less e = f.first k other (omega (arith, less)) e

  at_first : (u : Use) (us : List (Option Use)) → test u ≡ true → IsFirstPassing test (Some u ∷ us) 1
  at_first u us e = record {
    index = 0;
    number_is = refl;
    mark = u;
    mark_is = refl;
    passes = e;
    first = λ k other less is. absurd (omega (arith, less));
  }

  none_later : (m : Option Use) (us : List (Option Use)) → ((u : Use) → m ≡ Some u → test u ≡ false) → NonePasses test us → NonePasses test (m ∷ us)
  none_later m us fails none zero u e = let same : m ≡ Some u = cc in fails u same
  none_later m us fails none (suc k) u e = none k u e

  only_this : (u : Use) → test u ≡ false → (v : Use) → Some u ≡ Some v → test v ≡ false
  only_this u e v f = let same : u ≡ v = cc in subst (λ (u : Use). test u ≡ false) same e

  not_first : (k : ℕ) (bs : List Bool) → name_number k (false ∷ bs) ≡ suc (name_number k bs)
  not_first k bs = refl

  one_less : (k : ℕ) (bs : List Bool) → name_number (suc k) (true ∷ bs) ≡ suc (name_number k bs)
  one_less k bs = ap (λ (j : ℕ). suc (name_number j bs)) (let e : suc k - 1 ≡ k = omega arith in e)

  -- the uses that are not kept do not pass
  module _ (sure : (u : Use) → may_break u ≡ false → test u ≡ false) where
    first_behind : (u : Use) (us : List (Option Use)) → ((k : ℕ) → first_of_all test (kept us) ≡ Some k → IsFirstPassing test us (name_number k (map is_counted us)))
        → (k : ℕ) (o : Option ℕ) → first_of_all test (kept us) ≡ o → test u ≡ false → option_map suc o ≡ Some k
        → IsFirstPassing test (Some u ∷ us) (name_number k (true ∷ map is_counted us))
    first_behind u us more k None found c e = absurd (none-some _ e)
    first_behind u us more k (Some j) found c e =
        let same : suc j ≡ k = cc in
        subst (λ (k : ℕ). IsFirstPassing test (Some u ∷ us) (name_number k (true ∷ map is_counted us))) same
        (subst (IsFirstPassing test (Some u ∷ us)) (sym (one_less j (map is_counted us)))
        (later (Some u) us (name_number j (map is_counted us)) (only_this u c) (more j found)))

    first_tested : (u : Use) (us : List (Option Use)) → ((k : ℕ) → first_of_all test (kept us) ≡ Some k → IsFirstPassing test us (name_number k (map is_counted us)))
        → (k : ℕ) (c : Bool) → test u ≡ c → (if c then Some 0 else option_map suc (first_of_all test (kept us))) ≡ Some k
        → IsFirstPassing test (Some u ∷ us) (name_number k (true ∷ map is_counted us))
    first_tested u us more k true c e =
        let same : 0 ≡ k = cc in
        subst (λ (k : ℕ). IsFirstPassing test (Some u ∷ us) (name_number k (true ∷ map is_counted us))) same (at_first u us c)
    first_tested u us more k false c e = first_behind u us more k (first_of_all test (kept us)) refl c e

    first_kept : (u : Use) (us : List (Option Use)) → ((k : ℕ) → first_of_all test (kept us) ≡ Some k → IsFirstPassing test us (name_number k (map is_counted us)))
        → (k : ℕ) (b : Bool) → may_break u ≡ b → first_of_all test ((if b then u ∷ [] else []) ++ kept us) ≡ Some k
        → IsFirstPassing test (Some u ∷ us) (name_number k (b ∷ map is_counted us))
    first_kept u us more k false b e = later (Some u) us (name_number k (map is_counted us)) (only_this u (sure u b)) (more k e)
    first_kept u us more k true b e = first_tested u us more k (test u) refl e

    first_passing : (us : List (Option Use)) (k : ℕ) → first_of_all test (kept us) ≡ Some k → IsFirstPassing test us (name_number k (map is_counted us))
    first_passing [] k e = absurd (none-some _ e)
    first_passing (None ∷ us) k e = later None us (name_number k (map is_counted us)) (λ u f. absurd (none-some _ f)) (first_passing us k e)
    first_passing (Some u ∷ us) k e = first_kept u us (first_passing us) k (may_break u) refl e

    behind : (o : Option ℕ) → option_map suc o ≡ None → o ≡ None
    behind None e = refl
    behind (Some j) e = absurd (none-some _ (sym e))

    none_tested : (u : Use) (us : List (Option Use)) → (first_of_all test (kept us) ≡ None → NonePasses test us) → (c : Bool) → test u ≡ c
        → (if c then Some 0 else option_map suc (first_of_all test (kept us))) ≡ None → NonePasses test (Some u ∷ us)
    none_tested u us more true c e = absurd (none-some _ (sym e))
    none_tested u us more false c e = none_later (Some u) us (only_this u c) (more (behind (first_of_all test (kept us)) e))

    none_kept : (u : Use) (us : List (Option Use)) → (first_of_all test (kept us) ≡ None → NonePasses test us) → (b : Bool) → may_break u ≡ b
        → first_of_all test ((if b then u ∷ [] else []) ++ kept us) ≡ None → NonePasses test (Some u ∷ us)
    none_kept u us more false b e = none_later (Some u) us (only_this u (sure u b)) (more e)
    none_kept u us more true b e = none_tested u us more (test u) refl e

    none_passing : (us : List (Option Use)) → first_of_all test (kept us) ≡ None → NonePasses test us
    none_passing [] e = λ k u is. absurd (none-some _ is)
    none_passing (None ∷ us) e = none_later None us (λ u f. absurd (none-some _ f)) (none_passing us e)
    none_passing (Some u ∷ us) e = none_kept u us (none_passing us) (may_break u) refl e

-- ---- values of `string` and `token`, and these types without parameters, keep the clause

module _ (types : TypeSet) (s : Scope) where
  string_known : (t : TypeSet) → is_broken t s (data_of syntax.string_type []) ≡ false
  unfolding type_named
  string_known sets.Profile = refl
  string_known sets.XmlSchema = refl

  token_known : (t : TypeSet) → is_broken t s (data_of syntax.token_type []) ≡ false
  unfolding type_named
  token_known sets.Profile = refl
  token_known sets.XmlSchema = refl

  string_allows : (t : TypeSet) (v : List ℕ) → is_broken t s (value_of syntax.string_type v) ≡ false
  unfolding type_named
  string_allows sets.Profile v = refl
  string_allows sets.XmlSchema v = refl

  token_allows : (t : TypeSet) (v : List ℕ) → is_broken t s (value_of syntax.token_type v) ≡ false
  unfolding type_named
  token_allows sets.Profile v = refl
  token_allows sets.XmlSchema v = refl

  others_keep : (u : Use) → may_break u ≡ false → is_broken types s u ≡ false
  others_keep (namespace_of p) e = refl
  others_keep (data_of syntax.string_type []) e = string_known types
  others_keep (data_of syntax.token_type []) e = token_known types
  others_keep (data_of syntax.string_type (p ∷ ps)) e = absurd (true≢false e)
  others_keep (data_of syntax.token_type (p ∷ ps)) e = absurd (true≢false e)
  others_keep (data_of (syntax.prefixed_type p l) ps) e = absurd (true≢false e)
  others_keep (value_of syntax.string_type v) e = string_allows types v
  others_keep (value_of syntax.token_type v) e = token_allows types v
  others_keep (value_of (syntax.prefixed_type p l) v) e = absurd (true≢false e)

-- ---- the datatype of a name

abbrev is_file : (ds : List Declaration) (d : syntax.DatatypeName written) → File
is_file ds d = record { declarations = ds; body = syntax.pattern_body (syntax.data_of d []) }

abbrev library_in_tree : FileTree → List ℕ
library_in_tree (file.pattern_file (syntax.data_of d ps)) = d.library
library_in_tree _ = []

undeclared_library : (ds : List Declaration) (p : List ℕ) → IsUndeclared (datatype_prefix p) ds → declared_library ds p ≡ []
undeclared_library [] p none = refl
undeclared_library (syntax.namespace q u ∷ ds) p none = undeclared_library ds p (λ v among. none v (there among))
undeclared_library (syntax.default_namespace None u ∷ ds) p none = undeclared_library ds p (λ v among. none v (there among))
undeclared_library (syntax.default_namespace (Some q) u ∷ ds) p none = undeclared_library ds p (λ v among. none v (there (there among)))
undeclared_library (syntax.datatypes q u ∷ ds) p none = by (undeclared_library ds p (λ v among. none v (there among))) (bytes_eq q p) refl where
  by : declared_library ds p ≡ [] → (b : Bool) → bytes_eq q p ≡ b → (if b then u else declared_library ds p) ≡ []
  by later true e =
      let same : p ≡ q = sym ((bytes_eq-Decides q p).0 e) in
      absurd (none (syntax.literal u) (subst (λ (q : List ℕ). Among (datatype_prefix p, syntax.literal u) ((datatype_prefix q, syntax.literal u) ∷ declared_in ds))
      same here))
  by later false e = later

module _ (ds : List Declaration) (s : Scope) (is : declare_all nothing_declared ds ≡ Some s) where
  file_of_type : (d : syntax.DatatypeName written) → file_tree (is_file ds d) ≡ body_in s (is_file ds d).body
  unfolding file_tree
  file_of_type d = ap (λ (o : Option Scope). o >>= λ s. body_in s (is_file ds d).body) is

  library_found : (p l u : List ℕ) → library_in s p ≡ Some u → u ≡ library_by ds p
  library_found p l u e =
      let t : FileTree = file.pattern_file (syntax.data_of (record { library = u; name = l }) []) in
      let made : file_tree (is_file ds (syntax.prefixed_type p l)) ≡ Some t =
      file_of_type (syntax.prefixed_type p l)
      ∙ ap (λ (o : Option (List ℕ)). ((o >>= λ u. Some (record { library = u; name = l })) >>= λ d. Some (syntax.data_of d [])) >>= λ p. Some (file.pattern_file p)) e in
      sym (ap library_in_tree (applied_where_made (is_file ds (syntax.prefixed_type p l)) t made))

  library_none : (p : List ℕ) → library_in s p ≡ None → [] ≡ library_by ds p
  library_none p e = by (undeclared_where_unknown ds s is (datatype_prefix p) (ap is_some e)) where
    differ : (b : Bool) → bytes_eq p (codes "xsd") ≡ b → p ≢ codes "xsd" → bytes_eq p (codes "xsd") ≡ false
    differ true is other = absurd (other ((bytes_eq-Decides p (codes "xsd")).0 is))
    differ false is other = is

    by : IsUndeclaredPrefix ds (datatype_prefix p) → [] ≡ library_by ds p
    by (faulty.datatypes other none) =
        sym (ap (λ (b : Bool). if b then xsd_uri else declared_library ds p) (differ (bytes_eq p (codes "xsd")) refl other) ∙ undeclared_library ds p none)

  same_library : (d : syntax.DatatypeName written) → library_of s d ≡ (type_by ds d).library
  same_library syntax.string_type = refl
  same_library syntax.token_type = refl
  same_library (syntax.prefixed_type p l) = by (library_in s p) refl where
    by : (o : Option (List ℕ)) → library_in s p ≡ o → option_or [] o ≡ library_by ds p
    by None e = library_none p e
    by (Some u) e = library_found p l u e

  same_datatype : (d : syntax.DatatypeName written) (ps : List (List ℕ × List ℕ)) → datatype_in s d ps ≡ datatype_by ds d ps
  same_datatype syntax.string_type ps = refl
  same_datatype syntax.token_type ps = refl
  same_datatype (syntax.prefixed_type p l) ps =
      ap (λ (u : List ℕ). record { library = u; name = l; parameters = ps }) (same_library (syntax.prefixed_type p l))

  -- ---- the test is the clause

  module _ (types : TypeSet) where
    unknown_true : (d : Datatype) → is_none (meaning_in types d) ≡ true → ¬ (IsKnownIn types d)
    unknown_true d e = by (meaning_in types d) e where
      by : (o : Option Meaning) → is_none o ≡ true → ¬ (IsTrue (is_some o))
      by None e = λ known. true≢false (sym known)
      by (Some m) e = absurd (true≢false (sym e))

    unknown_false : (d : Datatype) → is_none (meaning_in types d) ≡ false → IsKnownIn types d
    unknown_false d e = by (meaning_in types d) e where
      by : (o : Option Meaning) → is_none o ≡ false → IsTrue (is_some o)
      by None e = absurd (true≢false e)
      by (Some m) e = refl

    refused_true : (b : Bool) → not b ≡ true → ¬ (IsTrue b)
    refused_true true e = absurd (true≢false (sym e))
    refused_true false e = λ is. true≢false (sym is)

    refused_false : (b : Bool) → not b ≡ false → IsTrue b
    refused_false true e = refl
    refused_false false e = absurd (true≢false e)

    broken_is : (u : Use) → is_broken types s u ≡ true → IsBrokenUse types ds u
    broken_is (namespace_of p) e = absurd (true≢false (sym e))
    broken_is (data_of d ps) e = places.of_data (subst (λ (t : Datatype). ¬ (IsKnownIn types t)) (same_datatype d ps) (unknown_true (datatype_in s d ps) e))
    broken_is (value_of d v) e = places.of_value (subst (λ (t : Datatype). ¬ (IsValueIn types t v)) (same_datatype d [])
        (refused_true (takes_values_in types (datatype_in s d []) && (tests_in types).allows (datatype_in s d []) v) e))

    kept_is : (u : Use) → is_broken types s u ≡ false → ¬ (IsBrokenUse types ds u)
    kept_is (namespace_of p) e b = elim b [ ]
    kept_is (data_of d ps) e (places.of_data unknown) = unknown (subst (IsKnownIn types) (same_datatype d ps) (unknown_false (datatype_in s d ps) e))
    kept_is (value_of d v) e (places.of_value refused) = refused (subst (λ (t : Datatype). IsValueIn types t v) (same_datatype d [])
        (refused_false (takes_values_in types (datatype_in s d []) && (tests_in types).allows (datatype_in s d []) v) e))

-- ---- a file

-- the declarations at the front of tokens
applied_front : {ts : List Lexeme} {ds : List Declaration} → (p : AreDeclarations ts ds) → (s : Scope) (rest : List Lexeme) → follow Tilde rest ≡ None
    → applied s ds (ts ++ rest) ≡ (declare_all s ds >>= λ t. Some (t, rest))
applied_front (grammar.no_declarations e) s rest f = rw e refl
applied_front {ts} (grammar.and_declaration {ds = ds} {a = a} {b = b} {d = d} p q e) s rest f =
    ap (λ (us : List Lexeme). declare s d >>= λ t. applied t ds (behind_declaration us)) (ap (λ (ts : List Lexeme). ts ++ rest) e ∙ append_assoc a b rest)
    ∙ ap (λ (us : List Lexeme). declare s d >>= λ t. applied t ds us) (declaration_behind p (b ++ rest) (declarations_no_tilde q rest f))
    ∙ by (λ t. applied_front q t rest f) (declare s d)
  where
    by : ((t : Scope) → applied t ds (b ++ rest) ≡ (declare_all t ds >>= λ t. Some (t, rest))) → (o : Option Scope)
        → (o >>= λ t. applied t ds (b ++ rest)) ≡ ((o >>= λ t. declare_all t ds) >>= λ t. Some (t, rest))
    by more None = refl
    by more (Some t) = more t

applied_where_kept : (f : File) → ¬ (BreaksDeclarationRule f) → (s : Scope) × (declare_all nothing_declared f.declarations ≡ Some s)
unfolding file_tree
applied_where_kept f kept = by (declare_all nothing_declared f.declarations) refl (made_where_applied f (tree_of_file f) kept refl) where
  by : (o : Option Scope) → declare_all nothing_declared f.declarations ≡ o → (o >>= λ s. body_in s f.body) ≡ Some (tree_of_file f)
      → (s : Scope) × (declare_all nothing_declared f.declarations ≡ Some s)
  by None e made = absurd (none-some _ made)
  by (Some s) e made = (s, e)

module _ (types : TypeSet) {a b : List Lexeme} (f : File) (ds : AreDeclarations a f.declarations) (body : IsBody b f.body) (s : Scope)
    (is : declare_all nothing_declared f.declarations ≡ Some s) where
  abbrev test : Use → Bool
  test = is_broken types s

  number_of : (ts : List Lexeme) → ts ≡ a ++ b → follow Tilde b ≡ None → broken_number types f ts
      ≡ (first_of_all test (kept (in_body body)) >>= λ k. Some ((length ts - length b) + name_number k (map is_counted (in_body body))))
  number_of ts e no_tilde =
      let front : applied nothing_declared f.declarations ts ≡ Some (s, b) =
      ap (applied nothing_declared f.declarations) e ∙ applied_front ds nothing_declared b no_tilde ∙ ap (λ (o : Option Scope). o >>= λ t. Some (t, b)) is in
      ap (λ (o : Option (Scope × List Lexeme)). o >>= λ x. first_of_all (is_broken types x.0) (uses_of_body f.body) >>= λ k.
      Some ((length ts - length x.1) + name_number k (names 0 Body x.1))) front
      ∙ ap₂ (λ (us : List Use) (bs : List Bool). first_of_all test us >>= λ k. Some ((length ts - length b) + name_number k bs))
      (sym (kept_in_body body)) (names_of_body body)

  first_at : (ts : List Lexeme) → length ts ≡ length a + length b → (k : ℕ) → first_of_all test (kept (in_body body)) ≡ Some k
      → IsFirstAt (IsBrokenUse types f.declarations) (length a) (in_body body)
      ((length ts - length b) + name_number k (map is_counted (in_body body)))
  first_at ts size k e =
      let first = first_passing test (others_keep types s) (in_body body) k e in
      record {
        index = first.index;
        number_is = omega (arith, size, first.number_is);
        mark = first.mark;
        mark_is = first.mark_is;
        holds = broken_is f.declarations s is types first.mark first.passes;
        first = λ j other less there. kept_is f.declarations s is types other (first.first j other less there);
      }

  none_at : first_of_all test (kept (in_body body)) ≡ None → (number : ℕ)
      → ¬ (IsFirstAt (IsBrokenUse types f.declarations) (length a) (in_body body) number)
  none_at e number at =
      kept_is f.declarations s is types at.mark (none_passing test (others_keep types s) (in_body body) e at.index at.mark at.mark_is) at.holds

abbrev IsNumberFor : TypeSet → {ts : List Lexeme} {f : File} → IsFile ts f → Option ℕ → Type 0
IsNumberFor types sentence None = (number : ℕ) → ¬ (IsBrokenDatatype types sentence number)
IsNumberFor types sentence (Some number) = IsBrokenDatatype types sentence number

number_for : (types : TypeSet) {ts : List Lexeme} {f : File} → (sentence : IsFile ts f) → ¬ (BreaksDeclarationRule f)
    → IsNumberFor types sentence (broken_number types f ts)
number_for types {ts} (grammar.file {f = f} {a = a} {b = b} ds body e) kept_all =
    let no_tilde : follow Tilde b ≡ None = subst (λ (us : List Lexeme). follow Tilde us ≡ None) (append-nil b) (body_begins body).no_tilde in
    let found = applied_where_kept f kept_all in
    let size : length ts ≡ length a + length b = ap length e ∙ length-append a b in
    subst (IsNumberFor types (grammar.file {f = f} {a = a} {b = b} ds body e)) (sym (number_of types f ds body found.0 found.1 ts e no_tilde))
    (by found.0 found.1 size (first_of_all (is_broken types found.0) (kept (in_body body))) refl)
  where
    by : (s : Scope) (is : declare_all nothing_declared f.declarations ≡ Some s) → length ts ≡ length a + length b → (o : Option ℕ)
        → first_of_all (is_broken types s) (kept (in_body body)) ≡ o
        → IsNumberFor types (grammar.file {f = f} {a = a} {b = b} ds body e)
        (o >>= λ k. Some ((length ts - length b) + name_number k (map is_counted (in_body body))))
    by s is size None none = none_at types f ds body s is none
    by s is size (Some k) some = first_at types f ds body s is ts size k some

pub told_broken : (types : TypeSet) (ts : List Lexeme) (f : File) → ((g h : File) → IsFile ts g → IsFile ts h → g ≡ h) → IsFile ts f
    → ¬ (BreaksDeclarationRule f) → IsBrokenNumber types ts (broken_number types f ts)
told_broken types ts f one sentence kept_all = by (broken_number types f ts) (λ g other. told g other) where
  told : (g : File) (other : IsFile ts g) → IsNumberFor types other (broken_number types f ts)
  told g other =
      let same : g ≡ f = one g f other sentence in
      subst (λ (f : File). IsNumberFor types other (broken_number types f ts)) same
      (number_for types other (subst (λ (f : File). ¬ (BreaksDeclarationRule f)) (sym same) kept_all))

  by : (o : Option ℕ) → ((g : File) (other : IsFile ts g) → IsNumberFor types other o) → IsBrokenNumber types ts o
  by None each = each
  by (Some number) each = each

pub told_result : (types : TypeSet) (tokens : List declared.Token) (f : File) (r : Result (Option ℕ) OutOfMemory)
    → IfOk r (λ n. n ≡ broken_number types f (lexemes_in (length tokens) tokens))
    → ((g h : File) → IsFile (lexemes (tokens_of tokens)) g → IsFile (lexemes (tokens_of tokens)) h → g ≡ h) → IsFile (lexemes (tokens_of tokens)) f
    → (t : FileTree) → IsFileTree (lexemes (tokens_of tokens)) t → IfOk r (IsBrokenNumber types (lexemes (tokens_of tokens)))
told_result types tokens f (Err e) is one sentence t tree = tt
told_result types tokens f (Ok n) is one sentence t tree =
    let kept_all : ¬ (BreaksDeclarationRule f) = subst (λ (f : File). ¬ (BreaksDeclarationRule f)) (one tree.file f tree.sentence sentence) tree.kept in
    subst (IsBrokenNumber types (lexemes (tokens_of tokens))) (ap (broken_number types f) (all_lexemes tokens) ∙ sym is)
    (told_broken types (lexemes (tokens_of tokens)) f one sentence kept_all)
