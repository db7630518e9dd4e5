-- Single steps of the search for the first datatype that breaks the clause.
use Rattle.std.proofs.Common.{◌≡◌, ◌∙◌, ℕ, suc, ◌+◌, ◌-◌, ◌<◌, ◌≤◌, Bool, true, false, not, ◌&&◌, List, [], ◌∷◌, length, drop, get_or, map, Option, Some, None}
use Rattle.std.proofs.Common.{arith, ap, ap₂, refl, sym, option_map, is_none, is_some, if◌then◌else◌}
use Rattle.std.proofs.lemmas.Bool.{true≢false}
use Rattle.std.proofs.Math.Seq.{drop-cons}
use Rattle.std.proofs.lemmas.List.{drop_all}
use Rattle.rng_model.specs.datatypes.Datatypes.{Meaning, known_allows}
use Rattle.rng_model.specs.declared.type_set.TypeSet.{TypeSet}
use Rattle.rng_model.specs.simple.Tree.{Datatype}
use Rattle.rng_model.specs.xsd.TypeSets.{meaning_in, takes_values_in, tests_in}
use Rattle.rnc_model.specs.declared.token.Token.{Token}
use Rattle.rnc_model.specs.tokens.Cut.{Lexeme}
use Rattle.rnc_places.specs.declared.datatype_uses.DatatypeUse.{DatatypeUse}
use Rattle.rnc_places.specs.declared.prefixes.Part.{Part}
use Rattle.rnc_model.specs.declarations.Declarations.{◌>>=◌, Scope, nothing_declared}
use Rattle.rnc_model.specs.grammar.Syntax.{DatatypeName, File, written}
use Rattle.rnc_places.specs.declared.prefixes.Part.TheVariants.{Body}
use Rattle.rnc_places.specs.plain.BrokenDatatypes.{applied, broken_number, datatype_in, first_of_all, is_broken, is_refused, is_unknown, library_of, local_of}
use Rattle.rnc_places.specs.plain.DatatypeNumbers.{is_last, is_name_at, left_after, name_number, names, uses_of_body}
use Rattle.rnc_places.specs.plain.FaultNumbers.{depth_after, first_of, part_at}
use Rattle.rnc_places.specs.views.DatatypeUses.{use_of}
use Rattle.rnc_places.proofs.FaultSteps.{front_is}
use Rattle.rnc_model.specs.declarations.TokenUses.{Use}
use Rattle.rnc_syntax.proofs.Lexemes.{length_of_lexemes}
use Rattle.rnc_syntax.specs.declared.syntax_tree.Declaration as written_tree
use Rattle.rnc_syntax.specs.plain.Reading.{lexemes_in}
use Rattle.rnc_syntax.specs.views.SyntaxView.{declaration_of}
use Rattle.xsd_types.specs.declared.known.KnownDatatype.{KnownDatatype}
use Rattle.xsd_types.specs.views.View.{known_meaning}

-- ---- one datatype

module _ (types : TypeSet) (d : Datatype) where
  pub unknown_if_none : (o : Option KnownDatatype) (none : Bool) → is_some o ≡ not none → option_map known_meaning o ≡ meaning_in types d
      → none ≡ is_unknown types d
  unknown_if_none None true e found = ap (λ (m : Option Meaning). is_none m) found
  unknown_if_none None false e found = absurd (true≢false (sym e))
  unknown_if_none (Some t) true e found = absurd (true≢false e)
  unknown_if_none (Some t) false e found = ap (λ (m : Option Meaning). is_none m) found

  pub refused_without_values : (v : List ℕ) → takes_values_in types d ≡ false → true ≡ is_refused types d v
  refused_without_values v e = ap (λ (b : Bool). not (b && (tests_in types).allows d v)) (sym e)

  pub refused_by : (v : List ℕ) → takes_values_in types d ≡ true → (o : Option Meaning) → o ≡ meaning_in types d → not (known_allows o v) ≡ is_refused types d v
  refused_by v e o found =
      ap (λ (m : Option Meaning). not (known_allows m v)) found ∙ ap (λ (b : Bool). not (b && (tests_in types).allows d v)) (sym e)

pub same_datatype : (s : Scope) (d : DatatypeName written) (ps qs : List (List ℕ × List ℕ)) (library name : List ℕ) → library ≡ library_of s d
    → name ≡ local_of d → qs ≡ ps → (record { library = library; name = name; parameters = qs }) ≡ datatype_in s d ps
same_datatype s d ps qs library name l n same = rw (l, n, same) refl

-- ---- the first one of all

-- so many uses come before
abbrev pub behind : ℕ → Option ℕ → Option ℕ
behind i None = None
behind i (Some k) = Some (i + k)

behind_one : (i : ℕ) (o : Option ℕ) → behind i (option_map suc o) ≡ behind (suc i) o
behind_one i None = refl
behind_one i (Some k) = ap Some (let e : i + suc k ≡ suc i + k = omega arith in e)

pub behind_none : (o : Option ℕ) → behind 0 o ≡ o
behind_none None = refl
behind_none (Some k) = ap Some (let e : 0 + k ≡ k = omega arith in e)

module _ (test : Use → Bool) (us : List DatatypeUse) (i : ℕ) where
  pub passes_here : (u : DatatypeUse) → i < length us → u ≡ get_or us i u → test (use_of u) ≡ true
      → behind i (first_of_all test (map use_of (drop i us))) ≡ Some i
  passes_here u inside item e =
      ap (λ (us : List DatatypeUse). behind i (first_of_all test (map use_of us))) (drop-cons us i u inside ∙ ap (λ (x : DatatypeUse). x ∷ drop (suc i) us) (sym item))
      ∙ ap (λ (b : Bool). behind i (if b then Some 0 else option_map suc (first_of_all test (map use_of (drop (suc i) us))))) e
      ∙ ap Some (let e : i + 0 ≡ i = omega arith in e)

  pub passes_later : (u : DatatypeUse) → i < length us → u ≡ get_or us i u → test (use_of u) ≡ false
      → behind i (first_of_all test (map use_of (drop i us))) ≡ behind (suc i) (first_of_all test (map use_of (drop (suc i) us)))
  passes_later u inside item e =
      ap (λ (us : List DatatypeUse). behind i (first_of_all test (map use_of us))) (drop-cons us i u inside ∙ ap (λ (x : DatatypeUse). x ∷ drop (suc i) us) (sym item))
      ∙ ap (λ (b : Bool). behind i (if b then Some 0 else option_map suc (first_of_all test (map use_of (drop (suc i) us))))) e
      ∙ behind_one i (first_of_all test (map use_of (drop (suc i) us)))

  pub none_passes : length us ≤ i → behind i (first_of_all test (map use_of (drop i us))) ≡ None
  none_passes end = ap (λ (us : List DatatypeUse). behind i (first_of_all test (map use_of us))) (drop_all i us end)

-- ---- the number of a name

module _ (d : ℕ) (a : Part) (ts : List Lexeme) (x : Lexeme) (us : List Lexeme) (is : Some (x, us) ≡ first_of ts) (count left whole k : ℕ)
    (so_far : (count - left) + name_number k (names d a ts) ≡ whole) where
  number_is : (b : Bool) → is_last k (is_name_at d a x us) ≡ b → name_number k (names d a ts)
      ≡ (if b then 1 else suc (name_number (left_after k (is_name_at d a x us)) (names (depth_after d x) (part_at d a x) us)))
  number_is b e =
      ap (λ (ts : List Lexeme). name_number k (names d a ts)) (front_is ts x us is)
      ∙ ap (λ (b : Bool). if b then 1 else suc (name_number (left_after k (is_name_at d a x us)) (names (depth_after d x) (part_at d a x) us))) e

  pub name_here : is_last k (is_name_at d a x us) ≡ true → (count - left) + 1 ≡ whole
  name_here e = omega (arith, so_far, number_is true e)

  pub name_later : (less : ℕ) → less + 1 ≡ left → left ≤ count → (named : Bool) → named ≡ is_name_at d a x us → is_last k named ≡ false → (e : ℕ) (b : Part)
      (vs : List Lexeme) (j : ℕ) → e ≡ depth_after d x → b ≡ part_at d a x → vs ≡ us → j ≡ left_after k named
      → (count - less) + name_number j (names e b vs) ≡ whole
  name_later less one within named named-is last e b vs j e-is b-is vs-is j-is =
      let number = number_is false (ap (is_last k) (sym named-is) ∙ last) in
      let same : name_number j (names e b vs) ≡ name_number (left_after k (is_name_at d a x us)) (names (depth_after d x) (part_at d a x) us) =
      ap₂ (λ (j n : ℕ). name_number j (names n b vs)) (j-is ∙ ap (left_after k) named-is) e-is
      ∙ ap₂ (λ (b : Part) (vs : List Lexeme). name_number (left_after k (is_name_at d a x us)) (names (depth_after d x) b vs)) b-is vs-is in
      omega (arith, so_far, number, same, one, within)

-- no token is left
pub no_name_left : (d : ℕ) (a : Part) (total k : ℕ) (rest : List Token) (count whole : ℕ) → None ≡ first_of (lexemes_in total rest)
    → (count - length rest) + name_number k (names d a (lexemes_in total rest)) ≡ whole → count + 1 ≡ whole
no_name_left d a total k [] count whole e so_far = omega (arith, so_far)
no_name_left d a total k (t ∷ ts) count whole e so_far = absurd cc

-- ---- a file

module _ (types : TypeSet) (f : File) (ts : List Lexeme) where
  abbrev after : Option (Scope × List Lexeme) → Option ℕ
  after o = o >>= λ x. first_of_all (is_broken types x.0) (uses_of_body f.body) >>= λ k. Some ((length ts - length x.1) + name_number k (names 0 Body x.1))

  pub not_applied : applied nothing_declared f.declarations ts ≡ None → broken_number types f ts ≡ None
  not_applied e = ap after e

  pub broken_by : (s : Scope) (us : List Lexeme) (o : Option ℕ) → applied nothing_declared f.declarations ts ≡ Some (s, us)
      → first_of_all (is_broken types s) (uses_of_body f.body) ≡ o
      → broken_number types f ts ≡ (o >>= λ k. Some ((length ts - length us) + name_number k (names 0 Body us)))
  broken_by s us o e found = ap after e ∙ ap (λ (o : Option ℕ). o >>= λ k. Some ((length ts - length us) + name_number k (names 0 Body us))) found

-- all declarations are applied
pub all_applied : (s : Scope) (ds : List written_tree.Declaration) (i : ℕ) (ts : List Lexeme) → length ds ≤ i
    → applied s (map declaration_of (drop i ds)) ts ≡ Some (s, ts)
all_applied s ds i ts end = ap (λ (ds : List written_tree.Declaration). applied s (map declaration_of ds) ts) (drop_all i ds end)

pub told_number : (types : TypeSet) (f : File) (n : ℕ) (tokens rest : List Token) (s : Scope) (us : List Use) (k number : ℕ)
    → applied nothing_declared f.declarations (lexemes_in n tokens) ≡ Some (s, lexemes_in n rest) → us ≡ uses_of_body f.body
    → first_of_all (is_broken types s) us ≡ Some k → number ≡ name_number k (names 0 Body (lexemes_in n rest))
    → Some ((length tokens - length rest) + number) ≡ broken_number types f (lexemes_in n tokens)
told_number types f n tokens rest s us k number front same first is =
    let found = broken_by types f (lexemes_in n tokens) s (lexemes_in n rest) (Some k) front
    (ap (first_of_all (is_broken types s)) (sym same) ∙ first) in
    sym (found ∙ ap Some (ap₂ (λ (x y : ℕ). (x - y) + name_number k (names 0 Body (lexemes_in n rest))) (length_of_lexemes n tokens) (length_of_lexemes n rest)
    ∙ ap (λ (m : ℕ). (length tokens - length rest) + m) (sym is)))
