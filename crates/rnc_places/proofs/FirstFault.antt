-- The number that is found is the one of the first declaration or prefix at fault.
use Rattle.std.proofs.Common.{◌≡◌, ◌∙◌, ◌⊎◌, ap, ap₂, sym, subst, refl, ℕ, zero, suc, ◌+◌, ◌-◌, ◌<◌, List, [], ◌∷◌, ◌++◌, length, take, Bool, true, false, not}
use Rattle.std.proofs.Common.{Option, Some, None, Result, Ok, Err, IfOk, inl, inr, append_assoc, arith, if◌then◌else◌}
use Rattle.std.proofs.lemmas.Bool.{true≢false}
use Rattle.std.proofs.lemmas.List.{append-nil, length-append}
use Rattle.std.specs.List.{slice_get}
use Rattle.rng_model.specs.names.Lists.{Among, here, there}
use Rattle.rnc_grammar.proofs.DeclarationRules.{broken_where_stuck, declared_where_known, kept_where_applied, undeclared_where_unknown, unknown_where_broken}
use Rattle.rnc_grammar.proofs.UsedPrefixes.{is_known}
use Rattle.rnc_model.specs.declarations.DeclarationRules.{BreaksDeclarationRule, Declarable, datatype_prefix, default_namespace, namespace_prefix}
use Rattle.rnc_model.specs.declarations.Declarations.{◌>>=◌, Scope, declare, declare_all, nothing_declared}
use Rattle.rnc_model.specs.declarations.FaultyTokens.{BreakDeclarationRule, IsBrokenDeclaration, IsFirstAt, IsUndeclaredPrefix, declaration_numbers}
use Rattle.rnc_model.specs.declarations.FaultyTokens.{prefixes_in}
use Rattle.rnc_model.specs.declarations.TokenUses.{in_body}
use Rattle.rnc_model.specs.loading.FaultPlaces.{BreaksDeclarationsAt, IsFaultyToken}
use Rattle.rnc_model.specs.loading.SchemaFile.{BreaksDeclarations}
use Rattle.rnc_model.specs.declared.token.Keyword.TheVariants as keywords
use Rattle.rnc_model.specs.declared.token.Sign.TheVariants.{Equal, Tilde}
use Rattle.rnc_model.specs.grammar.Grammar as grammar
use Rattle.rnc_model.specs.grammar.NameClasses as name_classes
use Rattle.rnc_model.specs.grammar.Grammar.{AreDeclarations, IsBody, IsDeclaration, IsFile, IsUri}
use Rattle.rnc_model.specs.grammar.NameClasses.{IsLiteral, word_of}
use Rattle.rnc_model.specs.grammar.Syntax.{Declaration, File, Uri}
use Rattle.rnc_model.specs.declared.token.Token as declared
use Rattle.rnc_model.specs.tokens.CutTokens.{tokens_of}
use Rattle.rnc_model.specs.tokens.Cut.{Lexeme, cname, identifier, keyword, lexemes, ns_name, segment, sign}
use Rattle.rng_model.specs.declared.fault.OutOfMemory.{OutOfMemory}
use Rattle.rnc_syntax.proofs.Lexemes.{all_lexemes, count_of_lexemes}
use Rattle.rnc_syntax.specs.plain.Reading.{lexemes_in}
use Rattle.rnc_syntax.proofs.CompletenessFiles.{body_begins, declarations_no_tilde}
use Rattle.rnc_syntax.specs.plain.Combinators.{follow}
use Rattle.rnc_places.specs.declared.prefixes.Part.TheVariants.{Body}
use Rattle.rnc_places.specs.plain.FaultNumbers.{behind_declaration, behind_equal, behind_tildes, behind_value, fault_number, is_unknown, marks}
use Rattle.rnc_places.specs.plain.FaultNumbers.{tilde_front, unknown_number, unless_applied}
use Rattle.rnc_places.proofs.FaultSteps.{tilde_skipped, tildes_end}
use Rattle.rnc_places.proofs.PrefixMarks.{marks_of_body, present, present_in_body}

-- ---- the first prefix that has no uri

unknown_is : (s : Scope) (x : Declarable) → is_unknown s (Some x) ≡ not (is_known s x)
unknown_is s (namespace_prefix p) = refl
unknown_is s (datatype_prefix p) = refl
unknown_is s default_namespace = refl

record IsFirst (s : Scope) (ms : List (Option Declarable)) (number : ℕ) : Type 0 where
  pub index : ℕ
  pub number_is : number ≡ suc index
  pub prefix : Declarable
  pub prefix_is : slice_get ms index ≡ Some (Some prefix)
  pub unknown : is_known s prefix ≡ false
  pub first : (k : ℕ) (other : Declarable) → k < index → slice_get ms k ≡ Some (Some other) → is_known s other ≡ true

module _ (s : Scope) where
  later : (m : Option Declarable) (ms : List (Option Declarable)) (number : ℕ) → ((x : Declarable) → m ≡ Some x → is_known s x ≡ true) → IsFirst s ms number
      → IsFirst s (m ∷ ms) (suc number)
  later m ms number known f = record {
    index = suc f.index;
    number_is = ap suc f.number_is;
    prefix = f.prefix;
    prefix_is = f.prefix_is;
    unknown = f.unknown;
    first = first;
  }
    where
      first : (k : ℕ) (other : Declarable) → k < suc f.index → slice_get (m ∷ ms) k ≡ Some (Some other) → is_known s other ≡ true
      first zero other less e = let same : m ≡ Some other = cc in known other same
      first (suc k) other less e = f.first k other (omega (arith, less)) e

  at_first : (x : Declarable) (ms : List (Option Declarable)) → is_known s x ≡ false → IsFirst s (Some x ∷ ms) 1
  at_first x ms e = record {
    index = 0;
    number_is = refl;
    prefix = x;
    prefix_is = refl;
    unknown = e;
    first = λ k other less is. absurd (omega (arith, less));
  }

  only_known : (x : Declarable) → is_known s x ≡ true → (y : Declarable) → Some x ≡ Some y → is_known s y ≡ true
  only_known x e y f = let same : x ≡ y = cc in subst (λ (x : Declarable). is_known s x ≡ true) same e

  number_by : (y : Declarable) (ms : List (Option Declarable)) (b : Bool) → is_known s y ≡ b
      → unknown_number s (Some y ∷ ms) ≡ (if not b then 1 else suc (unknown_number s ms))
  number_by y ms b k = ap (λ (b : Bool). if b then 1 else suc (unknown_number s ms)) (unknown_is s y ∙ ap not k)

  behind : (x y : Declarable) (xs : List Declarable) → is_known s x ≡ false → is_known s y ≡ true → Among x (y ∷ xs) → Among x xs
  behind x y xs e k here = absurd (true≢false (sym k ∙ e))
  behind x y xs e k (there a) = a

  first_by : (x y : Declarable) (ms : List (Option Declarable)) → is_known s x ≡ false → (Among x (present ms) → IsFirst s ms (unknown_number s ms)) → (b : Bool)
      → is_known s y ≡ b → Among x (y ∷ present ms) → IsFirst s (Some y ∷ ms) (unknown_number s (Some y ∷ ms))
  first_by x y ms e more true k a = subst (IsFirst s (Some y ∷ ms)) (sym (number_by y ms true k))
      (later (Some y) ms (unknown_number s ms) (only_known y k) (more (behind x y (present ms) e k a)))
  first_by x y ms e more false k a = subst (IsFirst s (Some y ∷ ms)) (sym (number_by y ms false k)) (at_first y ms k)

  is_first : (ms : List (Option Declarable)) (x : Declarable) → Among x (present ms) → is_known s x ≡ false → IsFirst s ms (unknown_number s ms)
  is_first [] x a e = elim a [ ]
  is_first (None ∷ ms) x a e = later None ms (unknown_number s ms) (λ y f. absurd (cc)) (is_first ms x a e)
  is_first (Some y ∷ ms) x a e = first_by x y ms e (λ a. is_first ms x a e) (is_known s y) refl a

-- ---- the tokens after a declaration

front_none : (x : Lexeme) (ts : List Lexeme) → follow Tilde (x ∷ ts) ≡ None → tilde_front (x ∷ ts) ≡ None
front_none (sign Tilde) ts f = absurd cc
front_none (sign _) ts f = refl
front_none (keyword k s) ts f = refl
front_none (identifier w) ts f = refl
front_none (cname p l) ts f = refl
front_none (ns_name p) ts f = refl
front_none (segment w) ts f = refl

-- no `~` is first
no_tildes : (rest : List Lexeme) → follow Tilde rest ≡ None → behind_tildes rest ≡ rest
no_tildes [] f = refl
no_tildes (x ∷ ts) f = tildes_end (x ∷ ts) (front_none x ts f)

single : (x : Lexeme) (rest : List Lexeme) → follow Tilde rest ≡ None → behind_value (x ∷ rest) ≡ rest
single x rest f = no_tildes rest f

literal_behind : {ts : List Lexeme} {v : List ℕ} → IsLiteral ts v → (rest : List Lexeme) → follow Tilde rest ≡ None → behind_value (ts ++ rest) ≡ rest
literal_behind (name_classes.one_segment {w = w} e) rest f = rw e (single (segment w) rest f)
literal_behind (name_classes.more_segments {a = a} p e g) rest f = rw e (tilde_skipped (sign Tilde ∷ (a ++ rest)) (a ++ rest) refl ∙ literal_behind p rest f)

uri_behind : {ts : List Lexeme} {u : Uri} → IsUri ts u → (rest : List Lexeme) → follow Tilde rest ≡ None → behind_value (ts ++ rest) ≡ rest
uri_behind (grammar.inherit {s = s} e) rest f = rw e (single (keyword keywords.Inherit s) rest f)
uri_behind (grammar.literal p) rest f = literal_behind p rest f

word_behind : (x : Lexeme) (w : List ℕ) (ts : List Lexeme) → word_of x ≡ Some w → behind_equal (x ∷ sign Equal ∷ ts) ≡ ts
word_behind (identifier v) w ts e = refl
word_behind (keyword k s) w ts e = refl
word_behind _ w ts e = absurd cc

pub declaration_behind : {ts : List Lexeme} {d : Declaration} → IsDeclaration ts d → (rest : List Lexeme) → follow Tilde rest ≡ None
    → behind_declaration (ts ++ rest) ≡ rest
declaration_behind (grammar.namespace {a = a} {x = x} {p = w} word p e) rest f = rw e (ap behind_value (word_behind x w (a ++ rest) word) ∙ uri_behind p rest f)
declaration_behind (grammar.default_alone p e) rest f = rw e (uri_behind p rest f)
declaration_behind (grammar.default_with_prefix {a = a} {x = x} {p = w} word p e) rest f =
    rw e (ap behind_value (word_behind x w (a ++ rest) word) ∙ uri_behind p rest f)
declaration_behind (grammar.datatypes {a = a} {x = x} {p = w} word p e) rest f =
    rw e (ap behind_value (word_behind x w (a ++ rest) word) ∙ literal_behind p rest f)

-- ---- the first declaration that cannot be applied

record IsStuck (numbers : List ℕ) (s : Scope) (ds : List Declaration) (number : ℕ) : Type 0 where
  pub index : ℕ
  pub number_is : slice_get numbers index ≡ Some number
  pub last : Scope
  pub applied : declare_all s (take index ds) ≡ Some last
  pub stuck : declare_all s (take (suc index) ds) ≡ None

record AreApplied (total : ℕ) (s : Scope) (ds : List Declaration) (rest : List Lexeme) (number : ℕ) : Type 0 where
  pub last : Scope
  pub applied : declare_all s ds ≡ Some last
  pub number_is : number ≡ (total - length rest) + unknown_number last (marks 0 Body rest)

abbrev Walked : ℕ → List ℕ → Scope → List Declaration → List Lexeme → ℕ → Type 0
Walked total numbers s ds rest number = IsStuck numbers s ds number ⊎ AreApplied total s ds rest number

module _ (total : ℕ) (s t : Scope) (d : Declaration) (applies : declare s d ≡ Some t) where
  one_more : (ds : List Declaration) (o : Option Scope) → declare_all t ds ≡ o → declare_all s (d ∷ ds) ≡ o
  one_more ds o e = ap (λ (o : Option Scope). o >>= λ s. declare_all s ds) applies ∙ e

  walked_one : (n : ℕ) (numbers : List ℕ) (ds : List Declaration) (rest : List Lexeme) (number : ℕ) → Walked total numbers t ds rest number
      → Walked total (n ∷ numbers) s (d ∷ ds) rest number
  walked_one n numbers ds rest number (inl k) = inl (record {
    index = suc k.index;
    number_is = k.number_is;
    last = k.last;
    applied = one_more (take k.index ds) (Some k.last) k.applied;
    stuck = one_more (take (suc k.index) ds) None k.stuck;
  })
  walked_one n numbers ds rest number (inr k) = inr (record {
    last = k.last;
    applied = one_more ds (Some k.last) k.applied;
    number_is = k.number_is;
  })

stuck_here : (s : Scope) (d : Declaration) (ds : List Declaration) (n number : ℕ) (numbers : List ℕ) → declare s d ≡ None → n ≡ number
    → IsStuck (n ∷ numbers) s (d ∷ ds) number
stuck_here s d ds n number numbers none e = record {
  index = 0;
  number_is = ap Some e;
  last = s;
  applied = refl;
  stuck = ap (λ (o : Option Scope). o >>= λ s. declare_all s []) none;
}

module _ (total n : ℕ) (s : Scope) (d : Declaration) (ds : List Declaration) (numbers : List ℕ) (ts own behind : List Lexeme) (rest : List Lexeme)
    (positive : 0 < n) (long : n + length (ts ++ rest) ≡ total + 1) (parts : ts ++ rest ≡ own ++ behind) (taken : behind_declaration (own ++ behind) ≡ behind)
    (more : (t : Scope) → (n + length own) + length behind ≡ total + 1 → Walked total numbers t ds rest (fault_number total t ds behind)) where
  number_after : (o : Option Scope) → declare s d ≡ o → fault_number total s (d ∷ ds) (ts ++ rest)
      ≡ unless_applied o ((total - length (ts ++ rest)) + 1) (λ t. fault_number total t ds behind)
  number_after o e =
      ap (λ (o : Option Scope). unless_applied o ((total - length (ts ++ rest)) + 1) (λ t. fault_number total t ds (behind_declaration (ts ++ rest)))) e
      ∙ ap (λ (us : List Lexeme). unless_applied o ((total - length (ts ++ rest)) + 1) (λ t. fault_number total t ds us)) (ap behind_declaration parts ∙ taken)

  walked_by : (o : Option Scope) → declare s d ≡ o → Walked total (n ∷ numbers) s (d ∷ ds) rest (fault_number total s (d ∷ ds) (ts ++ rest))
  walked_by None none = inl (stuck_here s d ds n (fault_number total s (d ∷ ds) (ts ++ rest)) numbers none
      (let number : n ≡ (total - length (ts ++ rest)) + 1 = omega (arith, positive, long) in number ∙ sym (number_after None none)))
  walked_by (Some t) applies =
      let size : (n + length own) + length behind ≡ total + 1 = omega (arith, long, ap length parts, length-append own behind) in
      subst (Walked total (n ∷ numbers) s (d ∷ ds) rest) (sym (number_after (Some t) applies))
      (walked_one total s t d applies n numbers ds rest (fault_number total t ds behind) (more t size))

walk : {ts : List Lexeme} {ds : List Declaration} → (p : AreDeclarations ts ds) → (total n : ℕ) (s : Scope) (rest : List Lexeme) → follow Tilde rest ≡ None
    → 0 < n → n + length (ts ++ rest) ≡ total + 1 → Walked total (declaration_numbers n p) s ds rest (fault_number total s ds (ts ++ rest))
walk (grammar.no_declarations e) total n s rest f positive long = rw e (inr (record { last = s; applied = refl; number_is = refl }))
walk {ts} (grammar.and_declaration {ds = ds} {a = a} {b = b} {d = d} p q e) total n s rest f positive long =
    walked_by total n s d ds (declaration_numbers (n + length a) q) ts a (b ++ rest) rest positive long
    (ap (λ (ts : List Lexeme). ts ++ rest) e ∙ append_assoc a b rest) (declaration_behind p (b ++ rest) (declarations_no_tilde q rest f))
    (λ t size. walk q total (n + length a) t rest f (omega (arith, positive)) size) (declare s d) refl

-- ---- the first fault of a file

module _ {a b : List Lexeme} (f : File) (p : AreDeclarations a f.declarations) (q : IsBody b f.body) (broken : BreaksDeclarationRule f) (count number : ℕ) where
  stuck_at : IsStuck (declaration_numbers 1 p) nothing_declared f.declarations number → IsBrokenDeclaration (declaration_numbers 1 p) f.declarations number
  stuck_at k = record {
    index = k.index;
    number_is = k.number_is;
    broken = broken_where_stuck (take (suc k.index) f.declarations) k.stuck;
    kept = kept_where_applied (take k.index f.declarations) k.last k.applied;
  }

  unknown_at : count ≡ length a + length b → (s : Scope) → declare_all nothing_declared f.declarations ≡ Some s
      → number ≡ (count - length b) + unknown_number s (marks 0 Body b) → IsFirst s (prefixes_in (in_body q)) (unknown_number s (prefixes_in (in_body q)))
      → IsFirstAt (IsUndeclaredPrefix f.declarations) (length a) (prefixes_in (in_body q)) number
  unknown_at size s applied is first =
      let at : number ≡ (count - length b) + unknown_number s (prefixes_in (in_body q)) =
      is ∙ ap (λ (ms : List (Option Declarable)). (count - length b) + unknown_number s ms) (marks_of_body q) in
      record {
        index = first.index;
        number_is = omega (arith, at, first.number_is, size);
        mark = first.prefix;
        mark_is = first.prefix_is;
        holds = undeclared_where_unknown f.declarations s applied first.prefix first.unknown;
        first = λ j other less is. declared_where_known f.declarations s applied other (first.first j other less is);
      }

  first_unknown : (s : Scope) → declare_all nothing_declared f.declarations ≡ Some s → IsFirst s (prefixes_in (in_body q)) (unknown_number s (prefixes_in (in_body q)))
  first_unknown s applied =
      let found = unknown_where_broken f.declarations s applied f refl broken in
      is_first s (prefixes_in (in_body q)) found.0 (subst (Among found.0) (sym (present_in_body q)) found.1) found.2

  faulty_by : count ≡ length a + length b → Walked count (declaration_numbers 1 p) nothing_declared f.declarations b number
      → IsBrokenDeclaration (declaration_numbers 1 p) f.declarations number
      ⊎ ((¬ (BreakDeclarationRule f.declarations)) × IsFirstAt (IsUndeclaredPrefix f.declarations) (length a) (prefixes_in (in_body q)) number)
  faulty_by size (inl k) = inl (stuck_at k)
  faulty_by size (inr k) =
      inr (kept_where_applied f.declarations k.last k.applied, unknown_at size k.last k.applied k.number_is (first_unknown k.last k.applied))

faulty : {ts : List Lexeme} {f : File} → (sentence : IsFile ts f) → BreaksDeclarationRule f
    → IsFaultyToken sentence (fault_number (length ts) nothing_declared f.declarations ts)
faulty {ts} (grammar.file {f = f} {a = a} {b = b} p q e) broken =
    let no_tilde : follow Tilde b ≡ None = subst (λ (us : List Lexeme). follow Tilde us ≡ None) (append-nil b) (body_begins q).no_tilde in
    let size : length ts ≡ length a + length b = ap length e ∙ length-append a b in
    let walked = walk p (length ts) 1 nothing_declared b no_tilde (omega arith) (omega (arith, size, length-append a b)) in
    faulty_by f p q broken (length ts) (fault_number (length ts) nothing_declared f.declarations ts) size
    (subst (Walked (length ts) (declaration_numbers 1 p) nothing_declared f.declarations b) (ap (fault_number (length ts) nothing_declared f.declarations) (sym e))
    walked)

-- the number that is returned for tokens that have this tree
module _ (ts : List Lexeme) (f : File) (count number : ℕ) (long : length ts ≡ count) (one : (g : File) → IsFile ts g → g ≡ f)
    (is : number ≡ fault_number count nothing_declared f.declarations ts) where
  faulty_at : BreaksDeclarations ts → (g : File) (sentence : IsFile ts g) → IsFaultyToken sentence number
  faulty_at broken g sentence =
      let same : g ≡ f = one g sentence in
      let numbers : fault_number (length ts) nothing_declared g.declarations ts ≡ number =
      ap₂ (λ (n : ℕ) (f : File). fault_number n nothing_declared f.declarations ts) long same ∙ sym is in
      subst (λ (n : ℕ). IsFaultyToken sentence n) numbers
      (faulty sentence (subst BreaksDeclarationRule (one broken.file broken.sentence ∙ sym same) broken.broken))

  pub told_fault : BreaksDeclarations ts → BreaksDeclarationsAt ts number
  told_fault broken = record { broken = broken; at = faulty_at broken }

pub told_faults : (tokens : List declared.Token) (f : File) (ds : List Declaration) (r : Result ℕ OutOfMemory) → f.declarations ≡ ds
    → IfOk r (λ n. n ≡ fault_number (length tokens) nothing_declared ds (lexemes_in (length tokens) tokens))
    → ((g h : File) → IsFile (lexemes (tokens_of tokens)) g → IsFile (lexemes (tokens_of tokens)) h → g ≡ h) → IsFile (lexemes (tokens_of tokens)) f
    → BreaksDeclarations (lexemes (tokens_of tokens)) → IfOk r (BreaksDeclarationsAt (lexemes (tokens_of tokens)))
told_faults tokens f ds (Err e) same is one sentence broken = tt
told_faults tokens f ds (Ok n) same is one sentence broken =
    told_fault (lexemes (tokens_of tokens)) f (length tokens) n (count_of_lexemes tokens) (λ g h. one g f h sentence)
    (is ∙ ap₂ (λ (ds : List Declaration) (ts : List Lexeme). fault_number (length tokens) nothing_declared ds ts) (sym same) (sym (all_lexemes tokens))) broken
