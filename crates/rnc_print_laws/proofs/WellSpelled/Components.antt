-- The components of a schema of well spelled files are well spelled.
use Rattle.std.proofs.Common.{◌≡◌, ◌∙◌, refl, sym, subst, ℕ, Bool, true, false, not, if◌then◌else◌, List, [], ◌∷◌, ◌++◌, map, Option, Some, None}
use Rattle.std.specs.Prelude.{filter}
use Rattle.std.specs.List.{AllByRecursion}
use Rattle.std.specs.Str.{bytes_eq}
use Rattle.std.proofs.lemmas.Option.{same_Some, none-some}
use Rattle.rng_model.proofs.Members.{all_among}
use Rattle.rng_model.specs.schema.Patterns.{Place, Pattern, joined_members, pattern_list}
use Rattle.rng_model.specs.schema.Schema.{Schema}
use Rattle.rng_model.specs.schema.SchemaClauses.{BreaksNoClause, in_schema, in_datatype}
use Rattle.rng_model.specs.simple.SchemaForm.{IsSimpleGrammarOf}
use Rattle.rng_model.specs.simple.Grammar.{Grammar}
use Rattle.rng_model.specs.simple.Tree.{Connector, choice, group, interleave}
use Rattle.rnc_model.specs.grammar.Syntax as tree
use Rattle.rnc_model.specs.grammar.Syntax.{applied}
use Rattle.rnc_model.specs.declarations.FileTree.{FileTree, grammar_file, pattern_file, grammar_components, whole_grammar}
use Rattle.rnc_model.specs.loading.LoadedSchema.{AreSchema, Gathers, HasGrammar, IsSchemaOf}
use Rattle.rnc_model.specs.loading.Loading.{TakenFiles, tree_in, IsTaken, are_taken, FilesHaveOnlyVerdict}
use Rattle.rnc_model.specs.loading.Loading as loading
use Rattle.rnc_model.specs.loading.LoadedSchema as loaded
use Rattle.rnc_model.specs.loading.Places as places
use Rattle.rnc_model.specs.loading.Places.{TreePath, Nested, Gathered, is_overridden, grammar_or_start, main_grammar, Reads, ReadAll}
use Rattle.rnc_model.specs.loading.SchemaFile.{FileName, NamedFile}
use Rattle.rnc_print_laws.specs.plain.Printable.{IsText, IsPrintable}
use Rattle.rnc_print_laws.specs.plain.WellSpelledFiles as spelled
use Rattle.rnc_print_laws.specs.plain.WellSpelledFiles.{AreWellSpelledComponents, AreWellSpelledPatterns, IsWellSpelledFile}
use Rattle.rnc_print_laws.specs.plain.WellSpelledSchemas.{IsWellSpelledPattern, AreWellSpelledPatterns as AreWellSpelled, IsWellSpelledComponent}
use Rattle.rnc_print_laws.specs.plain.WellSpelledSchemas.{IsWellSpelledSchema}
use Rattle.rnc_print_laws.proofs.WellSpelled.FileTrees.{uri_text, empty_text, schema_file_spelled}
use Rattle.rnc_print_laws.proofs.Printability.PrintableForms.{grammar_printable}
use Rattle.rnc_print.proofs.Numberings.{all_append}

-- ---- lists

all_kept : {A : Type 0} (P : A → Type 0) (p : A → Bool) (xs : List A) → AllByRecursion P xs → AllByRecursion P (filter p xs)
all_kept {A} P p [] h = tt
all_kept {A} P p (x ∷ xs) h = by_test (p x) (filter p xs) (all_kept P p xs h.1)
  where
    by_test : (b : Bool) (ys : List A) → AllByRecursion P ys → AllByRecursion P (if b then x ∷ ys else ys)
    by_test true ys i = (h.0, i)
    by_test false ys i = i

all_same : {A : Type 0} (P : A → Type 0) {xs ys : List A} → xs ≡ ys → AllByRecursion P ys → AllByRecursion P xs
all_same P e h = subst (AllByRecursion P) (sym e) h

-- ---- members

patterns_spelled : (ps : List Pattern) → AllByRecursion IsWellSpelledPattern ps → AreWellSpelled (pattern_list ps)
patterns_spelled [] h = tt
patterns_spelled (p ∷ ps) h = (h.0, patterns_spelled ps h.1)

members_spelled : (k : Connector) (ps : List Pattern) → AllByRecursion IsWellSpelledPattern ps → IsWellSpelledPattern (joined_members k ps)
members_spelled choice [] h = tt
members_spelled group [] h = tt
members_spelled interleave [] h = tt
members_spelled k (p ∷ []) h = h.0
members_spelled k (p ∷ (q ∷ ps)) h = (h.0, h.1.0, patterns_spelled ps h.1.1)

-- ---- grammars of files

whole_spelled : (p : tree.PatternAt applied) (cs : tree.ComponentsAt applied) → whole_grammar p ≡ Some cs → spelled.IsWellSpelledPattern p
    → AreWellSpelledComponents cs
whole_spelled (tree.grammar ds) cs e h = subst AreWellSpelledComponents (same_Some _ _ e) h
whole_spelled _ cs e h = absurd (none-some _ e)

grammar_spelled : (t : FileTree) (cs : tree.ComponentsAt applied) → grammar_components t ≡ Some cs → IsWellSpelledFile t → AreWellSpelledComponents cs
grammar_spelled (grammar_file ds) cs e h = subst AreWellSpelledComponents (same_Some _ _ e) h
grammar_spelled (pattern_file p) cs e h = whole_spelled p cs e h

main_spelled : (t : FileTree) → IsWellSpelledFile t → AreWellSpelledComponents (main_grammar t)
main_spelled (grammar_file cs) h = h
main_spelled (pattern_file p) h = by_grammar (whole_grammar p) refl
  where
    by_grammar : (o : Option (tree.ComponentsAt applied)) → whole_grammar p ≡ o → AreWellSpelledComponents (grammar_or_start p o)
    by_grammar None e = (h, tt)
    by_grammar (Some cs) e = whole_spelled p cs e h

-- ---- what is read

abbrev IsSpelledNested : Nested → Type 0
IsSpelledNested n = IsText n.uri × AreWellSpelledComponents n.components

abbrev IsSpelledGathered : Gathered → Type 0
IsSpelledGathered g = IsWellSpelledComponent g.component × AllByRecursion IsSpelledNested g.nested

module _ (files : List ℕ → Option FileTree) (good : (f : List ℕ) (t : FileTree) → files f ≡ Some t → IsWellSpelledFile t) where
  mutual
    reads : {u : List ℕ} {x : TreePath} {a : tree.PatternAt applied} {p : Pattern} {gs : List Nested} → Reads files u x a p gs → IsText u
        → spelled.IsWellSpelledPattern a → IsWellSpelledPattern p × AllByRecursion IsSpelledNested gs
    reads (places.element_is {u} d) i h = let r = reads d i h.1 in ((h.0 u i, r.0), r.1)
    reads (places.attribute_is {u} d) i h = let r = reads d i h.1 in ((h.0 u i, r.0), r.1)
    reads (places.list_is d) i h = reads d i h
    reads (places.mixed_is d) i h = reads d i h
    reads (places.optional_is d) i h = reads d i h
    reads (places.zero_or_more_is d) i h = reads d i h
    reads (places.one_or_more_is d) i h = reads d i h
    reads places.ref_is i h = (h, tt)
    reads places.parent_ref_is i h = (h, tt)
    reads places.empty_is i h = (tt, tt)
    reads places.text_is i h = (tt, tt)
    reads places.not_allowed_is i h = (tt, tt)
    reads places.value_is i h = (h, tt)
    reads places.data_is i h = (h, tt)
    reads (places.except_is d) i h = let r = reads d i h.1 in ((h.0, r.0), r.1)
    reads places.grammar_is i h = (tt, ((i, h), tt))
    reads (places.pattern_file_is {u} {x} {m} {a} f d) i h = reads d (uri_text u m.inherit i h.1) (good m.href (pattern_file a) f)
    reads (places.grammar_file_is {u} {x} {m} {cs} f) i h = (tt, ((uri_text u m.inherit i h.1, good m.href (grammar_file cs) f), tt))
    reads (places.joined_is {u} {x} {k} {all} {ps} ds) i h = let r = read_all ds i h in (members_spelled k ps r.0, r.1)

    read_all : {u : List ℕ} {x : TreePath} {n : ℕ} {all : tree.PatternsAt applied} {ps : List Pattern} {gs : List Nested} → ReadAll files u x n all ps gs
        → IsText u → AreWellSpelledPatterns all → AllByRecursion IsWellSpelledPattern ps × AllByRecursion IsSpelledNested gs
    read_all places.none_are i h = (tt, tt)
    read_all (places.more_are {u} {x} {n} {a} {all} {p} {ps} {gs} {hs} d ds e) i h =
        let r = reads d i h.0 in
        let rs = read_all ds i h.1 in
        ((r.0, rs.0), all_same IsSpelledNested e (all_append IsSpelledNested gs hs r.1 rs.1))

  gathers : {u : List ℕ} {x : TreePath} {n : ℕ} {cs : tree.ComponentsAt applied} {all : List Gathered} → Gathers files u x n cs all → IsText u
      → AreWellSpelledComponents cs → AllByRecursion IsSpelledGathered all
  gathers loaded.nothing i h = tt
  gathers (loaded.a_start d ds) i h = let r = reads d i h.0 in (((tt, r.0), r.1), gathers ds i h.1)
  gathers (loaded.a_define d ds) i h = let r = reads d i h.0.1 in (((h.0.0, r.0), r.1), gathers ds i h.1)
  gathers (loaded.a_div {u} {x} {n} {is} {cs} {inner} {rest} {all} ds es e) i h =
      all_same IsSpelledGathered e (all_append IsSpelledGathered inner rest (gathers ds i h.0) (gathers es i h.1))
  gathers (loaded.an_include {u} {x} {n} {m} {over} {cs} {is} {f} {included} {overriding} {rest} {all} found g ds os es e) i h =
      let own = gathers ds (uri_text u m.inherit i h.0.0.1) (grammar_spelled f is g (good m.href f found)) in
      let kept = all_kept IsSpelledGathered (λ g. not (is_overridden overriding g)) included own in
      all_same IsSpelledGathered e (all_append IsSpelledGathered (filter (λ g. not (is_overridden overriding g)) included ++ overriding) rest
      (all_append IsSpelledGathered (filter (λ g. not (is_overridden overriding g)) included) overriding kept (gathers os i h.0.1))
      (gathers es i h.1))

  module _ (main : FileTree) (main-is : IsWellSpelledFile main) where
    grammar_there : {x : Place} {o : Option Place} {u : List ℕ} {cs : tree.ComponentsAt applied} → HasGrammar files main x o u cs
        → IsText u × AreWellSpelledComponents cs
    grammar_there (loaded.main_is e) = (empty_text, subst AreWellSpelledComponents (sym e) (main_spelled main main-is))
    grammar_there (loaded.nested_is {x} {o} {u} {cs} {gathered} {g} {n} has ds m k) =
        let around = grammar_there has in
        let all = gathers ds around.0 around.1 in
        all_among IsSpelledNested (all_among IsSpelledGathered all m).1 k

    schema_spelled : (s : Schema) → IsSchemaOf files main s → IsWellSpelledSchema s
    schema_spelled s is x c has =
        let at = is.only_there x has.components has.there in
        let own = is.there x at.0 at.1 at.2 at.3 in
        let h = grammar_there at.3 in
        let all : AllByRecursion IsSpelledGathered own.0 = gathers own.1 h.0 h.1 in
        let same : has.components ≡ map (λ g. g.component) own.0 = same_Some _ _ (sym has.there ∙ own.2) in
        all_among IsWellSpelledComponent
        (all_same IsWellSpelledComponent same (mapped own.0 all)) has.among
      where
        mapped : (gs : List Gathered) → AllByRecursion IsSpelledGathered gs → AllByRecursion IsWellSpelledComponent (map (λ g. g.component) gs)
        mapped [] h = tt
        mapped (g ∷ gs) h = (h.0.0, mapped gs h.1)

-- ---- the files of a schema

taken_spelled : (files : List NamedFile) (main : FileName) {read : TakenFiles} {names : List FileName} → IsTaken files main read names
    → AllByRecursion (λ file. IsWellSpelledFile file.1) read
taken_spelled files main (loading.none_yet e f) = all_same (λ file. IsWellSpelledFile file.1) e tt
taken_spelled files main (loading.one_more {read} {all} {names} {more} {f} {t} taken n has e m) =
    all_same (λ file. IsWellSpelledFile file.1) e (all_append (λ file. IsWellSpelledFile file.1) read ((f, t) ∷ []) (taken_spelled files main taken)
    (schema_file_spelled has.bytes t has.is, tt))

found_spelled : (f : FileName) (read : TakenFiles) → AllByRecursion (λ file. IsWellSpelledFile file.1) read → (t : FileTree) → tree_in read f ≡ Some t
    → IsWellSpelledFile t
found_spelled f [] h t e = absurd (none-some _ e)
found_spelled f (file ∷ read) h t e = by_name (bytes_eq f file.0) (found_spelled f read h.1 t) e
  where
    by_name : (b : Bool) → (tree_in read f ≡ Some t → IsWellSpelledFile t) → (if b then Some file.1 else tree_in read f) ≡ Some t → IsWellSpelledFile t
    by_name true more e = subst IsWellSpelledFile (same_Some _ _ e) h.0
    by_name false more e = more e

-- the schema is well spelled
pub loaded_spelled : (files : List NamedFile) (main : FileName) (read : TakenFiles) (s : Schema) → FilesHaveOnlyVerdict files main (are_taken read)
    → AreSchema read main s → IsWellSpelledSchema s
loaded_spelled files main read s verdict is =
    let all = taken_spelled files main verdict.is.0.taken in
    schema_spelled (tree_in read) (λ f t e. found_spelled f read all t e) is.tree (found_spelled main read all is.tree is.main_file) s is.is

-- each of its simple grammars is printable, if it breaks no clause
pub files_printable : (files : List NamedFile) (main : FileName) (read : TakenFiles) (s : Schema) → FilesHaveOnlyVerdict files main (are_taken read)
    → AreSchema read main s → BreaksNoClause s → (g : Grammar) → IsSimpleGrammarOf s g → IsPrintable g
files_printable files main read s verdict is none = grammar_printable s (loaded_spelled files main read s verdict is)
    (λ b. none 12 (in_schema (in_datatype b)))
